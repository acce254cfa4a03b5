-- No act stands twice among those of the new list.
use Rattle.std.proofs.Common.{◌≡◌, refl, sym, ap, ◌∙◌, subst, ℕ, suc, ◌+◌, List, [], ◌∷◌, ◌++◌, length, map, inl, inr, arith}
use Rattle.std.proofs.lemmas.Bool.{cases_Bool}
use Rattle.ch_timed.specs.declared.element.Element.{Element}
use Rattle.ch_timed.specs.Members.{Each, In, Pairwise}
use Rattle.ch_timed.specs.Vectors.{places, shares}
use Rattle.ch_timed.proofs.Orders.{IsAscending, at_each, ascending_differ, in_map}
use Rattle.ch_copied.specs.Uses.{Transfer, Use, same_use, use_of, uses, with_places}
use Rattle.ch_copied.specs.Plans.{Plan}
use Rattle.ch_copied.proofs.Acts.{act_of, acts, acts_from, in_acts, in_from, is_other, is_works, out_acts}
use Rattle.ch_copied.proofs.Different.{Unlike, all_different}
use Rattle.ch_copied.proofs.Lists.{each_by, in_append}
use Rattle.ch_copied.proofs.Simulation.{Act, other, works, loads, stores}
use Rattle.ch_copied.proofs.Transfers.{use_self}

-- pairs of a list that is put together

each_append : {X : Type 0} (P : X → Type 0) (xs ys : List X) → Each P xs → Each P ys → Each P (xs ++ ys)
each_append P [] ys h g = g
each_append P (x ∷ xs) ys h g = (h.0, each_append P xs ys h.1 g)

pairs_append : {X : Type 0} (R : X → X → Type 0) (xs ys : List X) → Pairwise R xs → Pairwise R ys → ((x y : X) → In x xs → In y ys → R x y) → Pairwise R (xs ++ ys)
pairs_append R [] ys p q c = q
pairs_append R (x ∷ xs) ys p q c = (
  each_append (R x) xs ys p.0 (each_by (R x) ys (λ y j. c x y (inl refl) j)),
  pairs_append R xs ys p.1 q (λ z y i j. c z y (inr i) j),
)

each_map : {X Y : Type 0} (P : Y → Type 0) (f : X → Y) (xs : List X) → Each (λ x. P (f x)) xs → Each P (map f xs)
each_map P f [] h = tt
each_map P f (x ∷ xs) h = (h.0, each_map P f xs h.1)

pairs_map : {X Y : Type 0} (R : Y → Y → Type 0) (f : X → Y) (xs : List X) → Pairwise (λ x y. R (f x) (f y)) xs → Pairwise R (map f xs)
pairs_map R f [] p = tt
pairs_map R f (x ∷ xs) p = (each_map (R (f x)) f xs p.0, pairs_map R f xs p.1)

pub pairs_by : {X : Type 0} (R S : X → X → Type 0) (xs : List X) → ((x y : X) → In x xs → In y xs → R x y → S x y) → Pairwise R xs → Pairwise S xs
pairs_by R S [] f p = tt
pairs_by R S (x ∷ xs) f p = (
  each_by (S x) xs (λ y j. f x y (inl refl) (inr j) (at_each (R x) xs p.0 y j)),
  pairs_by R S xs (λ z y i j. f z y (inr i) (inr j)) p.1,
)

-- what an act is made of

abbrev kind : Act → ℕ
kind (other e) = 0
kind (works e) = 0
kind (loads l k u) = 1
kind (stores l k u) = 2

abbrev element_of : Element → Act → Element
element_of d (other e) = e
element_of d (works e) = e
element_of d (loads l k u) = d
element_of d (stores l k u) = d

abbrev place_of : Act → ℕ
place_of (other e) = 0
place_of (works e) = 0
place_of (loads l k u) = k
place_of (stores l k u) = k

abbrev used : Use → Act → Use
used d (other e) = d
used d (works e) = d
used d (loads l k u) = u
used d (stores l k u) = u

by_kind : (p : Plan) (e : Element) (P : Act → Type 0) → P (other e) → P (works e) → P (act_of p e)
by_kind p e P a b = elim (cases_Bool (shares (suc p.around) p.ours (places e.vector))) as (λ _. P (act_of p e)) [
  | inl h ↦ subst P (sym (is_works p e h)) b
  | inr h ↦ subst P (sym (is_other p e h)) a
]

its_element : (p : Plan) (d e : Element) → element_of d (act_of p e) ≡ e
its_element p d e = by_kind p e (λ a. element_of d a ≡ e) refl refl

its_kind : (p : Plan) (e : Element) → kind (act_of p e) ≡ 0
its_kind p e = by_kind p e (λ a. kind a ≡ 0) refl refl

-- the elements of the old list

olds_once : (p : Plan) (list : List Element) → IsAscending (λ (e : Element). e.vector) list → Pairwise Unlike (map (act_of p) list)
olds_once p list a =
    pairs_map Unlike (act_of p) list
    (pairs_by (λ e f. e.vector ≡ f.vector → ⊥) (λ e f. Unlike (act_of p e) (act_of p f)) list
    (λ e f i j d h. d (ap (λ (z : Element). z.vector) (sym (its_element p e e) ∙ ap (element_of e) h ∙ its_element p e f)))
    (ascending_differ (λ (e : Element). e.vector) list a))

-- the moves

module _ (make : ℕ → ℕ → Use → Act) (places_same : (l m k n : ℕ) (u v : Use) → make l k u ≡ make m n v → k ≡ n) (uses_same : (l k : ℕ) (u v : Use) → make l k u ≡ make l k v → u ≡ v) where
  moves_once : (p : Plan) (list : List Element) (label place : ℕ) (ts : List Transfer) → Pairwise Unlike (acts_from make p list label place ts)
  moves_once p list label place [] = tt
  moves_once p list label place (t ∷ ts) =
      pairs_append Unlike (map (make label place) (uses list p.around t)) (acts_from make p list (suc label) (suc place) ts)
      (pairs_map Unlike (make label place) (uses list p.around t)
      (pairs_by Unlike (λ u v. Unlike (make label place u) (make label place v)) (uses list p.around t) (λ u v i j d h. d (uses_same label place u v h))
      (all_different same_use use_self (map (use_of p.around t.access) (with_places t.places list)))))
      (moves_once p list (suc label) (suc place) ts)
      (λ a b i j h.
      let first = in_map (make label place) (uses list p.around t) a i in
      let later = in_from make p list (suc label) (suc place) ts b j in
      let is = later.1.1.1.1.1.1.1.0 in
      let past = later.1.1.1.1.1.1.1.1.1.0 in
      let met : place ≡ later.1.0 = places_same label later.0 place later.1.0 first.0 later.1.1.1.1.0 (first.1.1 ∙ h ∙ sym is) in
      absurd (omega arith))

loads_once : (p : Plan) (list : List Element) → Pairwise Unlike (in_acts p list)
loads_once p list = moves_once loads (λ l m k n u v h. ap place_of h) (λ l k u v h. ap (used u) h) p list p.label 0 p.ins

stores_once : (p : Plan) (list : List Element) → Pairwise Unlike (out_acts p list)
stores_once p list = moves_once stores (λ l m k n u v h. ap place_of h) (λ l k u v h. ap (used u) h) p list (p.label + length p.ins) (length p.ins + 1) p.outs

kind_from : (make : ℕ → ℕ → Use → Act) (n : ℕ) → ((l k : ℕ) (u : Use) → kind (make l k u) ≡ n) → (p : Plan) (list : List Element) (label place : ℕ) (ts : List Transfer) (a : Act)
    → In a (acts_from make p list label place ts) → kind a ≡ n
kind_from make n is p list label place ts a i =
    let q = in_from make p list label place ts a i in
    ap kind (sym q.1.1.1.1.1.1.1.0) ∙ is q.0 q.1.0 q.1.1.1.1.0

load_kind : (p : Plan) (list : List Element) (a : Act) → In a (in_acts p list) → kind a ≡ 1
load_kind p list a i = kind_from loads 1 (λ l k u. refl) p list p.label 0 p.ins a i

store_kind : (p : Plan) (list : List Element) (a : Act) → In a (out_acts p list) → kind a ≡ 2
store_kind p list a i = kind_from stores 2 (λ l k u. refl) p list (p.label + length p.ins) (length p.ins + 1) p.outs a i

move_kind : (p : Plan) (list : List Element) (a : Act) → In a (in_acts p list ++ out_acts p list) → kind a ≡ 0 → ⊥
move_kind p list a i z = elim (in_append (in_acts p list) (out_acts p list) a i) as (λ _. ⊥) [
  | inl j ↦ let o = load_kind p list a j in absurd (omega arith)
  | inr j ↦ let o = store_kind p list a j in absurd (omega arith)
]

pub acts_once : (p : Plan) (list : List Element) → IsAscending (λ (e : Element). e.vector) list → Pairwise Unlike (acts p list)
acts_once p list ascends =
    pairs_append Unlike (map (act_of p) list) (in_acts p list ++ out_acts p list) (olds_once p list ascends)
    (pairs_append Unlike (in_acts p list) (out_acts p list) (loads_once p list) (stores_once p list)
    (λ a b i j h. let m = load_kind p list a i in let n = store_kind p list b j in let s = ap kind h in absurd (omega arith)))
    (λ a b i j h. let q = in_map (act_of p) list a i in move_kind p list b j (ap kind (sym h ∙ sym q.1.1) ∙ its_kind p q.0))
