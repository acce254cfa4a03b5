-- The lesser of two candidates is the best of both properties.
use Rattle.std.proofs.Common.{◌≡◌, refl, sym, ap, ◌∙◌, subst, ℕ, ◌+◌, ◌<◌, ◌≤◌, ℤ, Bool, true, false, Option, Some, None, List, [], ◌∷◌, ◌++◌, length, map, take, get_or, ◌⊎◌, inl, inr}
use Rattle.std.specs.Ordering.{int_cmp, is_lt, ordering_reverse, ordering_then}
use Rattle.std.specs.declared.cmp.Ordering.{Ordering}
use Rattle.std.specs.declared.cmp.Ordering.TheVariants.{Less, Equal, Greater}
use Rattle.std.specs.Cmp.{int_cmp_total, IsTotalOrder}
use Rattle.std.specs.Cmp.Lexicographic.{slice_cmp, lists_total}
use Rattle.std.specs.FinMap.{slice_cmp-IsAntisymmetric, int_cmp-IsAntisymmetric}
use Rattle.std.specs.List.{All}
use Rattle.std.proofs.lemmas.List.{get_or-map, length-map, take_all, take_more}
use Rattle.ch_depends.specs.declared.candidates.Candidate.{Candidate}
use Rattle.ch_depends.specs.Sought.{IsBest, IsUpTo, SomeOf, lesser, pair_order, second_if}
use Rattle.ch_space.specs.Following.{UpTo}
use Rattle.ch_space.proofs.Membership.{append_left, append_right, in_append}
use Rattle.ch_timed.specs.declared.element.Element.{Element}

order : IsTotalOrder (slice_cmp int_cmp)
order = lists_total int_cmp_total

same_by : (v w : List ℤ) → slice_cmp int_cmp v w ≡ Equal → v ≡ w
same_by v w h = slice_cmp-IsAntisymmetric int_cmp-IsAntisymmetric v w h

-- one vector, another and a third

pub up_to_both : (u v w : List ℤ) → UpTo u v → UpTo v w → UpTo u w
up_to_both u v w (inl e) h = subst (λ z. UpTo z w) (sym e) h
up_to_both u v w (inr l) (inl e) = inr (subst (λ z. slice_cmp int_cmp u z ≡ Less) e l)
up_to_both u v w (inr l) (inr m) = inr (order.trans u v w l m)

up_to_on : (a b : Candidate) (e f : Element) → IsUpTo a b.first b.second → IsUpTo b e f → IsUpTo a e f
up_to_on a b e f (inl l) (inl m) = inl (order.trans a.first.vector b.first.vector e.vector l m)
up_to_on a b e f (inl l) (inr m) = inl (subst (λ z. slice_cmp int_cmp a.first.vector z ≡ Less) m.0 l)
up_to_on a b e f (inr l) (inl m) = inl (subst (λ z. slice_cmp int_cmp z e.vector ≡ Less) (sym l.0) m)
up_to_on a b e f (inr l) (inr m) = inr (l.0 ∙ m.0, up_to_both a.second.vector b.second.vector f.vector l.1 m.1)

-- which of two candidates comes first

less_by : (a b : Candidate) (o p : Ordering) → slice_cmp int_cmp b.first.vector a.first.vector ≡ o → slice_cmp int_cmp b.second.vector a.second.vector ≡ p → is_lt (ordering_then o p) ≡ true
    → IsUpTo b a.first a.second
less_by a b Less p c d h = inl c
less_by a b Equal Less c d h = inr (same_by b.first.vector a.first.vector c, inr d)
less_by a b Equal Equal c d h = cc
less_by a b Equal Greater c d h = cc
less_by a b Greater p c d h = cc

turned : (v w : List ℤ) → slice_cmp int_cmp w v ≡ Greater → slice_cmp int_cmp v w ≡ Less
turned v w c = order.antisymm v w ∙ ap ordering_reverse c

not_less_by : (a b : Candidate) (o p : Ordering) → slice_cmp int_cmp b.first.vector a.first.vector ≡ o → slice_cmp int_cmp b.second.vector a.second.vector ≡ p → is_lt (ordering_then o p) ≡ false
    → IsUpTo a b.first b.second
not_less_by a b Less p c d h = cc
not_less_by a b Equal Less c d h = cc
not_less_by a b Equal Equal c d h = inr (sym (same_by b.first.vector a.first.vector c), inl (sym (same_by b.second.vector a.second.vector d)))
not_less_by a b Equal Greater c d h = inr (sym (same_by b.first.vector a.first.vector c), inr (turned a.second.vector b.second.vector d))
not_less_by a b Greater p c d h = inl (turned a.first.vector b.first.vector c)

-- the lesser of two

module _ (P Q R : Element → Element → Type 0) (f : (x y : Element) → P x y → R x y) (g : (x y : Element) → Q x y → R x y) (h : (x y : Element) → R x y → P x y ⊎ Q x y) where
  both_by : (t : Bool) (a b : Candidate) → is_lt (pair_order b a) ≡ t → IsBest P (Some a) → IsBest Q (Some b) → IsBest R (Some (second_if t a b))
  both_by true a b e m n = (
    g b.first b.second n.0,
    λ x y r. elim (h x y r) as (λ _. IsUpTo b x y) [
      | inl p ↦ up_to_on b a x y (less_by a b (slice_cmp int_cmp b.first.vector a.first.vector) (slice_cmp int_cmp b.second.vector a.second.vector) refl refl e) (m.1 x y p)
      | inr q ↦ n.1 x y q
    ],
  )
  both_by false a b e m n = (
    f a.first a.second m.0,
    λ x y r. elim (h x y r) as (λ _. IsUpTo a x y) [
      | inl p ↦ m.1 x y p
      | inr q ↦ up_to_on a b x y (not_less_by a b (slice_cmp int_cmp b.first.vector a.first.vector) (slice_cmp int_cmp b.second.vector a.second.vector) refl refl e) (n.1 x y q)
    ],
  )

  pub best_of : (a b : Option Candidate) → IsBest P a → IsBest Q b → IsBest R (lesser a b)
  best_of None None m n = λ x y r. elim (h x y r) as (λ _. ⊥) [ inl p ↦ m x y p | inr q ↦ n x y q ]
  best_of None (Some b) m n = (g b.first b.second n.0, λ x y r. elim (h x y r) as (λ _. IsUpTo b x y) [ inl p ↦ absurd (m x y p) | inr q ↦ n.1 x y q ])
  best_of (Some a) None m n = (f a.first a.second m.0, λ x y r. elim (h x y r) as (λ _. IsUpTo a x y) [ inl p ↦ m.1 x y p | inr q ↦ absurd (n x y q) ])
  best_of (Some a) (Some b) m n = both_by (is_lt (pair_order b a)) a b refl m n

-- the best for a property is that for another one that says the same
pub best_same : (P Q : Element → Element → Type 0) (c : Option Candidate) → ((x y : Element) → P x y → Q x y) → ((x y : Element) → Q x y → P x y) → IsBest P c → IsBest Q c
best_same P Q None f g h = λ x y q. h x y (g x y q)
best_same P Q (Some c) f g h = (f c.first c.second h.0, λ x y q. h.1 x y (g x y q))

-- one member more

pub best_none : {X : Type 0} (P : X → Element → Element → Type 0) (xs : List X) → IsBest (SomeOf (take 0 xs) P) None
best_none P xs = λ e f s. s.is_member

some_parts : {X : Type 0} (xs : List X) (x : X) (P : X → Element → Element → Type 0) (e f : Element) → SomeOf (xs ++ x ∷ []) P e f → SomeOf xs P e f ⊎ P x e f
some_parts xs x P e f s = elim (in_append xs (x ∷ []) s.member s.is_member) as (λ _. SomeOf xs P e f ⊎ P x e f) [
  | inl i ↦ inl (record { member = s.member; is_member = i; holds = s.holds })
  | inr i ↦ elim i as (λ _. SomeOf xs P e f ⊎ P x e f) [ inl k ↦ inr (subst (λ z. P z e f) (sym k) s.holds) | inr j ↦ absurd j ]
]

best_push : {X : Type 0} (P : X → Element → Element → Type 0) (xs : List X) (x : X) (a b : Option Candidate) → IsBest (SomeOf xs P) a → IsBest (P x) b → IsBest (SomeOf (xs ++ x ∷ []) P) (lesser a b)
best_push P xs x a b m n =
    best_of (SomeOf xs P) (P x) (SomeOf (xs ++ x ∷ []) P)
    (λ e f s. record { member = s.member; is_member = append_left xs (x ∷ []) s.member s.is_member; holds = s.holds })
    (λ e f p. record { member = x; is_member = append_right xs (x ∷ []) x (inl refl); holds = p })
    (some_parts xs x P) a b m n

pub best_more : {X : Type 0} (P : X → Element → Element → Type 0) (xs : List X) (k : ℕ) (x : X) (a b now : Option Candidate) → k < length xs → x ≡ get_or xs k x → now ≡ lesser a b
    → IsBest (SomeOf (take k xs) P) a → IsBest (P x) b → IsBest (SomeOf (take (k + 1) xs) P) now
best_more P xs k x a b now l is e m n =
    subst (IsBest (SomeOf (take (k + 1) xs) P)) (sym e)
    (subst (λ z. IsBest (SomeOf z P) (lesser a b)) (sym (take_more xs k x l ∙ ap (λ z. take k xs ++ z ∷ []) (sym is))) (best_push P (take k xs) x a b m n))

pub best_all : {X : Type 0} (P : X → Element → Element → Type 0) (xs : List X) (k : ℕ) (a : Option Candidate) → length xs ≤ k → IsBest (SomeOf (take k xs) P) a → IsBest (SomeOf xs P) a
best_all P xs k a l h = subst (λ z. IsBest (SomeOf z P) a) (take_all k xs l) h

-- items of a list of references

module _ {X Y : Type 0} (f : X → Y) (items xs : List X) (same : items ≡ xs) (k : ℕ) (x : X) where
  pub item_is : k < length items → x ≡ get_or items k x → f x ≡ get_or (map f xs) k (f x)
  item_is l e = ap f (e ∙ ap (λ z. get_or z k x) same) ∙ sym (get_or-map f xs k x (f x) (subst (λ z. k < length z) same l))

  pub item_below : k < length items → k < length (map f xs)
  item_below l = subst (λ n. k < n) (sym (length-map xs f)) (subst (λ z. k < length z) same l)

  pub item_all : (P : Y → Type 0) → All P (map f xs) → k < length items → x ≡ get_or items k x → P (f x)
  item_all P all l e = subst P (sym (item_is l e)) (all k (f x) (item_below l))

  pub item_more : (P : Y → Element → Element → Type 0) (a b now : Option Candidate) → k < length items → x ≡ get_or items k x → now ≡ lesser a b
      → IsBest (SomeOf (take k (map f xs)) P) a → IsBest (P (f x)) b → IsBest (SomeOf (take (k + 1) (map f xs)) P) now
  item_more P a b now l e n m h = best_more P (map f xs) k (f x) a b now (item_below l) (item_is l e) n m h

pub item_end : {X Y : Type 0} (f : X → Y) (items xs : List X) (same : items ≡ xs) (k : ℕ) (P : Y → Element → Element → Type 0) (a : Option Candidate) → length items ≤ k
    → IsBest (SomeOf (take k (map f xs)) P) a → IsBest (SomeOf (map f xs) P) a
item_end f items xs same k P a l h =
    best_all P (map f xs) k a (subst (λ n. n ≤ k) (sym (length-map xs f)) (subst (λ z. length z ≤ k) same l)) h
