-- The elements of the new list, told by what they do.
use Rattle.std.proofs.Common.{◌≡◌, refl, sym, ap, ap₂, ◌∙◌, subst, ℕ, suc, ◌+◌, ◌<◌, ℤ, true, false, if◌then◌else◌, List, [], ◌∷◌, ◌++◌, length, map, inl, inr, arith}
use Rattle.std.proofs.lemmas.Bool.{cases_Bool}
use Rattle.std.specs.Ordering.{int_cmp}
use Rattle.std.specs.declared.cmp.Ordering.{Ordering}
use Rattle.std.specs.declared.cmp.Ordering.TheVariants.{Less, Equal, Greater}
use Rattle.std.specs.Cmp.Lexicographic.{slice_cmp}
use Rattle.ch_timed.specs.declared.element.Element.{Element}
use Rattle.ch_timed.specs.Members.{Each, In}
use Rattle.ch_timed.specs.Order.{do_all}
use Rattle.ch_timed.specs.Ordered.{put, put_by, ordered}
use Rattle.ch_timed.specs.Timed.{in_order, step}
use Rattle.ch_timed.specs.Vectors.{places, shares}
use Rattle.ch_timed.specs.Do.{Store, execute}
use Rattle.ch_timed.proofs.Orders.{IsAscending, in_map, map_in}
use Rattle.ch_copied.specs.Uses.{Transfer, Use, uses}
use Rattle.ch_copied.specs.Plans.{Plan}
use Rattle.ch_copied.specs.Bodies.{in_body, out_body}
use Rattle.ch_copied.specs.Copied.{copy_ins, copy_outs, kept, move, moves}
use Rattle.ch_copied.proofs.Lists.{append_left, append_right, in_append}
use Rattle.ch_copied.proofs.Simulation.{Act, other, works, loads, stores, new_do, old_do}

abbrev pub act_of : Plan → Element → Act
act_of p e = if shares (suc p.around) p.ours (places e.vector) then works e else other e

abbrev pub acts_from : (ℕ → ℕ → Use → Act) → Plan → List Element → ℕ → ℕ → List Transfer → List Act
acts_from make p list label place [] = []
acts_from make p list label place (t ∷ ts) = map (make label place) (uses list p.around t) ++ acts_from make p list (suc label) (suc place) ts

abbrev pub in_acts : Plan → List Element → List Act
in_acts p list = acts_from loads p list p.label 0 p.ins

abbrev pub out_acts : Plan → List Element → List Act
out_acts p list = acts_from stores p list (p.label + length p.ins) (length p.ins + 1) p.outs

abbrev pub acts : Plan → List Element → List Act
acts p list = map (act_of p) list ++ (in_acts p list ++ out_acts p list)

abbrev pub new_element : Plan → Act → Element
new_element p (other e) = kept p e
new_element p (works e) = kept p e
new_element p (loads l k u) = move p (in_body p) l k u
new_element p (stores l k u) = move p (out_body p) l k u

abbrev pub at : Plan → Act → List ℤ
at p a = (new_element p a).vector

-- lists

map_append : {X Y : Type 0} (f : X → Y) (xs ys : List X) → map f (xs ++ ys) ≡ map f xs ++ map f ys
map_append f [] ys = refl
map_append f (x ∷ xs) ys = ap (λ z. f x ∷ z) (map_append f xs ys)

map_by : {X Y Z : Type 0} (f : Y → Z) (g : X → Y) (h : X → Z) (xs : List X) → ((x : X) → f (g x) ≡ h x) → map f (map g xs) ≡ map h xs
map_by f g h [] e = refl
map_by f g h (x ∷ xs) e = ap₂ (λ y ys. y ∷ ys) (e x) (map_by f g h xs e)

elements_kept : (p : Plan) (e : Element) → new_element p (act_of p e) ≡ kept p e
elements_kept p e = elim (cases_Bool (shares (suc p.around) p.ours (places e.vector))) as (λ _. new_element p (act_of p e) ≡ kept p e) [
  | inl h ↦ ap (new_element p) (chosen_true h)
  | inr h ↦ ap (new_element p) (chosen_false h)
]
  where
    chosen_true : shares (suc p.around) p.ours (places e.vector) ≡ true → act_of p e ≡ works e
    chosen_true h = rw h refl

    chosen_false : shares (suc p.around) p.ours (places e.vector) ≡ false → act_of p e ≡ other e
    chosen_false h = rw h refl

pub is_works : (p : Plan) (e : Element) → shares (suc p.around) p.ours (places e.vector) ≡ true → act_of p e ≡ works e
is_works p e h = rw h refl

pub is_other : (p : Plan) (e : Element) → shares (suc p.around) p.ours (places e.vector) ≡ false → act_of p e ≡ other e
is_other p e h = rw h refl

elements_in : (p : Plan) (list : List Element) (label place : ℕ) (ts : List Transfer)
    → map (new_element p) (acts_from loads p list label place ts) ≡ moves p list (in_body p) label place ts
elements_in p list label place [] = refl
elements_in p list label place (t ∷ ts) =
    map_append (new_element p) (map (loads label place) (uses list p.around t)) (acts_from loads p list (suc label) (suc place) ts)
    ∙ ap₂ (λ xs ys. xs ++ ys) (map_by (new_element p) (loads label place) (move p (in_body p) label place) (uses list p.around t) (λ u. refl)) (elements_in p list (suc label) (suc place) ts)

elements_out : (p : Plan) (list : List Element) (label place : ℕ) (ts : List Transfer)
    → map (new_element p) (acts_from stores p list label place ts) ≡ moves p list (out_body p) label place ts
elements_out p list label place [] = refl
elements_out p list label place (t ∷ ts) =
    map_append (new_element p) (map (stores label place) (uses list p.around t)) (acts_from stores p list (suc label) (suc place) ts)
    ∙ ap₂ (λ xs ys. xs ++ ys) (map_by (new_element p) (stores label place) (move p (out_body p) label place) (uses list p.around t) (λ u. refl)) (elements_out p list (suc label) (suc place) ts)

pub elements_are : (p : Plan) (list : List Element)
    → map (new_element p) (acts p list) ≡ map (kept p) list ++ (copy_ins p list ++ copy_outs p list)
elements_are p list =
    map_append (new_element p) (map (act_of p) list) (in_acts p list ++ out_acts p list)
    ∙ ap₂ (λ xs ys. xs ++ ys) (map_by (new_element p) (act_of p) (kept p) list (elements_kept p))
    (map_append (new_element p) (in_acts p list) (out_acts p list)
    ∙ ap₂ (λ xs ys. xs ++ ys) (elements_in p list p.label 0 p.ins) (elements_out p list (p.label + length p.ins) (length p.ins + 1) p.outs))

-- order

put_map_by : {X Y : Type 0} (f : X → Y) (o : Ordering) (e x : X) (xs r : List X) (s : List Y) → s ≡ map f r
    → put_by o (f e) (f x) (map f xs) s ≡ map f (put_by o e x xs r)
put_map_by f Less e x xs r s h = refl
put_map_by f Equal e x xs r s h = refl
put_map_by f Greater e x xs r s h = ap (λ z. f x ∷ z) h

put_map : {X Y : Type 0} (key : Y → List ℤ) (f : X → Y) (e : X) (xs : List X) → put key (f e) (map f xs) ≡ map f (put (λ x. key (f x)) e xs)
put_map key f e [] = refl
put_map key f e (x ∷ xs) = put_map_by f (slice_cmp int_cmp (key (f e)) (key (f x))) e x xs (put (λ z. key (f z)) e xs) (put key (f e) (map f xs)) (put_map key f e xs)

ordered_map : {X Y : Type 0} (key : Y → List ℤ) (f : X → Y) (xs : List X) → ordered key (map f xs) ≡ map f (ordered (λ x. key (f x)) xs)
ordered_map key f [] = refl
ordered_map key f (x ∷ xs) = ap (put key (f x)) (ordered_map key f xs) ∙ put_map key f x (ordered (λ z. key (f z)) xs)

pub in_order_are : (p : Plan) (list : List Element)
    → in_order (map (kept p) list ++ (copy_ins p list ++ copy_outs p list)) ≡ map (new_element p) (ordered (at p) (acts p list))
in_order_are p list = ap in_order (sym (elements_are p list)) ∙ ordered_map (λ (e : Element). e.vector) (new_element p) (acts p list)

-- acts whose vectors ascend become elements whose vectors do

pub new_ascend : (p : Plan) (as_new : List Act) → IsAscending (at p) as_new → IsAscending (λ (e : Element). e.vector) (map (new_element p) as_new)
new_ascend p [] h = tt
new_ascend p (a ∷ more) h = (later more h.0, new_ascend p more h.1)
  where
    later : (bs : List Act) → Each (λ b. slice_cmp int_cmp (at p a) (at p b) ≡ Less) bs → Each (λ (e : Element). slice_cmp int_cmp (at p a) e.vector ≡ Less) (map (new_element p) bs)
    later [] g = tt
    later (b ∷ bs) g = (g.0, later bs g.1)

-- what they do

pub new_does : (p : Plan) (more : List Act) → ((a : Act) → In a more → (t : Store) → execute (step (new_element p a)) t ≡ new_do p a t)
    → (t : Store) → do_all execute (map step (map (new_element p) more)) t ≡ do_all (new_do p) more t
new_does p [] h t = refl
new_does p (a ∷ more) h t =
    ap (do_all execute (map step (map (new_element p) more))) (h a (inl refl) t) ∙ new_does p more (λ b i. h b (inr i)) (new_do p a t)

abbrev pub olds : List Act → List Element
olds [] = []
olds (other e ∷ more) = e ∷ olds more
olds (works e ∷ more) = e ∷ olds more
olds (loads l k u ∷ more) = olds more
olds (stores l k u ∷ more) = olds more

pub old_does : (more : List Act) (s : Store) → do_all old_do more s ≡ do_all execute (map step (olds more)) s
old_does [] s = refl
old_does (other e ∷ more) s = old_does more (execute (step e) s)
old_does (works e ∷ more) s = old_does more (execute (step e) s)
old_does (loads l k u ∷ more) s = old_does more s
old_does (stores l k u ∷ more) s = old_does more s

-- which they are

abbrev pub Comes : Plan → List Element → Act → Type 0
Comes p list (other e) = In e list × (shares (suc p.around) p.ours (places e.vector) ≡ false)
Comes p list (works e) = In e list × (shares (suc p.around) p.ours (places e.vector) ≡ true)
Comes p list (loads l k u) = (t : Transfer) × (In t p.ins × (In u (uses list p.around t) × ((l ≡ p.label + k) × (k < length p.ins))))
Comes p list (stores l k u) = (t : Transfer) × (In t p.outs × (In u (uses list p.around t) × ((suc l ≡ p.label + k) × ((length p.ins < k) × (k < (length p.ins + length p.outs) + 1)))))

abbrev From : (ℕ → ℕ → Use → Act) → Plan → List Element → ℕ → ℕ → List Transfer → Act → Type 0
From make p list label place ts a =
    (l : ℕ) × ((k : ℕ) × ((n : ℕ) × ((t : Transfer) × ((u : Use) × (In t ts × (In u (uses list p.around t) × ((make l k u ≡ a) × ((l ≡ label + n) × ((k ≡ place + n) × (n < length ts))))))))))

pub in_from : (make : ℕ → ℕ → Use → Act) (p : Plan) (list : List Element) (label place : ℕ) (ts : List Transfer) (a : Act)
    → In a (acts_from make p list label place ts) → From make p list label place ts a
in_from make p list label place [] a i = absurd i
in_from make p list label place (t ∷ ts) a i =
    elim (in_append (map (make label place) (uses list p.around t)) (acts_from make p list (suc label) (suc place) ts) a i) as (λ _. From make p list label place (t ∷ ts) a) [
      | inl j ↦ let q = in_map (make label place) (uses list p.around t) a j in
          (label, (place, (0, (t, (q.0, (inl refl, (q.1.0, (q.1.1, (omega arith, (omega arith, omega arith))))))))))
      | inr j ↦
          let q = in_from make p list (suc label) (suc place) ts a j in
          let r = q.1.1.1.1.1 in
          let el = r.1.1.1.0 in
          let ek = r.1.1.1.1.0 in
          let en = r.1.1.1.1.1 in
          (q.0, (q.1.0, (suc q.1.1.0, (q.1.1.1.0, (q.1.1.1.1.0, (inr r.0, (r.1.0, (r.1.1.0, (omega arith, (omega arith, omega arith))))))))))
    ]

pub from_in : (make : ℕ → ℕ → Use → Act) (p : Plan) (list : List Element) (label place : ℕ) (ts : List Transfer) (t : Transfer) (u : Use)
    → In t ts → In u (uses list p.around t) → (l : ℕ) × ((k : ℕ) × In (make l k u) (acts_from make p list label place ts))
from_in make p list label place [] t u i j = absurd i
from_in make p list label place (s ∷ ts) t u (inl e) j = (
  label,
  (
    place,
    append_left (map (make label place) (uses list p.around s)) (acts_from make p list (suc label) (suc place) ts) (make label place u)
        (map_in (make label place) (uses list p.around s) u (subst (λ z. In u (uses list p.around z)) (sym e) j)),
  ),
)
from_in make p list label place (s ∷ ts) t u (inr i) j =
    let r = from_in make p list (suc label) (suc place) ts t u i j in
    (r.0, (r.1.0, append_right (map (make label place) (uses list p.around s)) (acts_from make p list (suc label) (suc place) ts) (make r.0 r.1.0 u) r.1.1))

pub comes : (p : Plan) (list : List Element) (a : Act) → In a (acts p list) → Comes p list a
comes p list a i = elim (in_append (map (act_of p) list) (in_acts p list ++ out_acts p list) a i) as (λ _. Comes p list a) [
  | inl j ↦
      let q = in_map (act_of p) list a j in
      subst (Comes p list) q.1.1 (elim (cases_Bool (shares (suc p.around) p.ours (places q.0.vector))) as (λ _. Comes p list (act_of p q.0)) [
        | inl h ↦ subst (Comes p list) (sym (is_works p q.0 h)) (q.1.0, h)
        | inr h ↦ subst (Comes p list) (sym (is_other p q.0 h)) (q.1.0, h)
      ])
  | inr j ↦ elim (in_append (in_acts p list) (out_acts p list) a j) as (λ _. Comes p list a) [
    | inl m ↦
        let q = in_from loads p list p.label 0 p.ins a m in
        let r = q.1.1.1.1.1 in
        let el = r.1.1.1.0 in
        let ek = r.1.1.1.1.0 in
        let en = r.1.1.1.1.1 in
        let is : Comes p list (loads q.0 q.1.0 q.1.1.1.1.0) = (q.1.1.1.0, (r.0, (r.1.0, (omega arith, omega arith)))) in
        subst (Comes p list) r.1.1.0 is
    | inr m ↦
        let q = in_from stores p list (p.label + length p.ins) (length p.ins + 1) p.outs a m in
        let r = q.1.1.1.1.1 in
        let el = r.1.1.1.0 in
        let ek = r.1.1.1.1.0 in
        let en = r.1.1.1.1.1 in
        let is : Comes p list (stores q.0 q.1.0 q.1.1.1.1.0) = (q.1.1.1.0, (r.0, (r.1.0, (omega arith, (omega arith, omega arith))))) in
        subst (Comes p list) r.1.1.0 is
  ]
]

pub keeps_in : (p : Plan) (list : List Element) (e : Element) → In e list → In (act_of p e) (acts p list)
keeps_in p list e i = append_left (map (act_of p) list) (in_acts p list ++ out_acts p list) (act_of p e) (map_in (act_of p) list e i)

pub ins_in : (p : Plan) (list : List Element) (a : Act) → In a (in_acts p list) → In a (acts p list)
ins_in p list a i = append_right (map (act_of p) list) (in_acts p list ++ out_acts p list) a (append_left (in_acts p list) (out_acts p list) a i)

pub outs_in : (p : Plan) (list : List Element) (a : Act) → In a (out_acts p list) → In a (acts p list)
outs_in p list a i = append_right (map (act_of p) list) (in_acts p list ++ out_acts p list) a (append_right (in_acts p list) (out_acts p list) a i)
