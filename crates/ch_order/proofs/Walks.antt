-- What is left of a list in order, as it is walked from one element to the next.
use Rattle.std.proofs.Common.{◌≡◌, refl, sym, ap, ◌∙◌, subst, suc, ◌<◌, ℤ, Bool, true, false, Option, Some, None, MatchOption, Result, IfOk, List, [], ◌∷◌, length, inl, inr, arith}
use Rattle.std.proofs.lemmas.Result.{IfOk-weaker}
use Rattle.std.proofs.lemmas.Bool.{and_parts}
use Rattle.std.specs.Ordering.{int_cmp, is_lt, ordering_reverse}
use Rattle.std.specs.declared.cmp.Ordering.TheVariants.{Less, Equal}
use Rattle.std.specs.Cmp.{int_cmp_total, tied_itself, IsTotalOrder}
use Rattle.std.specs.Cmp.Lexicographic.{slice_cmp, lists_total}
use Rattle.ch_order.specs.Walk.{all_if, rest}
use Rattle.ch_timed.specs.declared.element.Element.{Element}
use Rattle.ch_timed.specs.Members.{Each, In}
use Rattle.ch_timed.specs.Next.{first_if, next_after}
use Rattle.ch_order.specs.Legal.{steps}
use Rattle.ch_timed.specs.Timed.{have_vectors, identities_differ, is_vector, is_well_formed, pieces_apart, step, vectors_ascend}
use Rattle.ch_timed.proofs.Sorted.{adjacent_ascends}
use Rattle.ch_timed.specs.Vectors.{comes_before}
use Rattle.ch_timed.proofs.Orders.{IsAscending, at_each, map_in}

abbrev pub Ascends : List Element → Type 0
Ascends = IsAscending (λ e. e.vector)

lists_order : IsTotalOrder (slice_cmp int_cmp)
lists_order = lists_total int_cmp_total

-- a vector has a place, so that it comes after the empty list
after_none : (v : List ℤ) → is_vector v ≡ true → comes_before [] v ≡ true
after_none [] h = cc
after_none (p ∷ more) h = refl

-- of a list that has vectors all is left at the start
all_left : (list : List Element) → have_vectors list ≡ true → rest [] list ≡ list
all_left [] h = refl
all_left (e ∷ es) h = ap (λ t. all_if t (e ∷ es) (rest [] es)) (after_none e.vector (and_parts _ _ h).0)

pub rest_start : (list : List Element) → is_well_formed list ≡ true → rest [] list ≡ list
rest_start list fine =
    let ascend = and_parts (identities_differ list) _ fine in
    let apart = and_parts (vectors_ascend list) _ ascend.1 in
    all_left list (and_parts (pieces_apart list) (have_vectors list) apart.1).1

rest_past : (v : List ℤ) (xs : List Element) → Each (λ y. slice_cmp int_cmp v y.vector ≡ Less) xs → rest v xs ≡ xs
rest_past v [] h = refl
rest_past v (y ∷ ys) h = ap (λ t. all_if t (y ∷ ys) (rest v ys)) (ap is_lt h.0)

none_by : (t : Bool) (e : Element) (es : List Element) (more : Option Element) (left : List Element) → first_if t e more ≡ None → (more ≡ None → left ≡ []) → all_if t (e ∷ es) left ≡ []
none_by true e es more left h g = cc
none_by false e es more left h g = g h

pub next_none : (v : List ℤ) (list : List Element) → next_after v list ≡ None → rest v list ≡ []
next_none v [] h = refl
next_none v (e ∷ es) h = none_by (comes_before v e.vector) e es (next_after v es) (rest v es) h (next_none v es)

in_by : (t : Bool) (x : Element) (xs left : List Element) (e : Element) → (In e left → In e xs) → In e (all_if t (x ∷ xs) left) → In e (x ∷ xs)
in_by true x xs left e f i = i
in_by false x xs left e f i = inr (f i)

pub rest_in : (v : List ℤ) (list : List Element) (e : Element) → In e (rest v list) → In e list
rest_in v [] e i = i
rest_in v (x ∷ xs) e i = in_by (comes_before v x.vector) x xs (rest v xs) e (rest_in v xs e) i

-- e is what comes next, and `more` what is left after it
pub record Steps (v : List ℤ) (list : List Element) (e : Element) : Type 0 where
  pub more : List Element
  pub here : rest v list ≡ e ∷ more
  pub on : rest e.vector list ≡ more

some_is : (x e : Element) → Some x ≡ Some e → x ≡ e
some_is x e h = cc

not_before : (x e : Element) → slice_cmp int_cmp x.vector e.vector ≡ Less → comes_before e.vector x.vector ≡ false
not_before x e h = ap is_lt (lists_order.antisymm e.vector x.vector ∙ ap ordering_reverse h)

steps_by : (t : Bool) (v : List ℤ) (x : Element) (xs : List Element) (e : Element) → comes_before v x.vector ≡ t → Ascends (x ∷ xs)
    → first_if t x (next_after v xs) ≡ Some e → (next_after v xs ≡ Some e → Steps v xs e) → Steps v (x ∷ xs) e
steps_by true v x xs e b a h again =
    let same : x ≡ e = some_is x e h in
    let itself : comes_before x.vector x.vector ≡ false = ap is_lt (irreflexive x.vector) in
    record {
      more = xs;
      here = ap (λ t. all_if t (x ∷ xs) (rest v xs)) b ∙ ap (λ y. y ∷ xs) same;
      on = subst (λ y. rest y.vector (x ∷ xs) ≡ xs) same (ap (λ t. all_if t (x ∷ xs) (rest x.vector xs)) itself ∙ rest_past x.vector xs a.0);
    }
  where
    irreflexive : (v : List ℤ) → slice_cmp int_cmp v v ≡ Equal
    irreflexive v = tied_itself lists_order v
steps_by false v x xs e b a h again =
    let s = again h in
    let i : In e xs = rest_in v xs e (subst (In e) (sym s.here) (inl refl)) in
    let past : comes_before e.vector x.vector ≡ false = not_before x e (at_each _ xs a.0 e i) in
    record {
      more = s.more;
      here = ap (λ t. all_if t (x ∷ xs) (rest v xs)) b ∙ s.here;
      on = ap (λ t. all_if t (x ∷ xs) (rest e.vector xs)) past ∙ s.on;
    }

pub next_some : (v : List ℤ) (list : List Element) (e : Element) → Ascends list → next_after v list ≡ Some e → Steps v list e
next_some v [] e a h = cc
next_some v (x ∷ xs) e a h = steps_by (comes_before v x.vector) v x xs e refl a h (next_some v xs e a.1)

told : (v : List ℤ) (list : List Element) (o : Option Element) → Ascends list → o ≡ next_after v list → MatchOption o (rest v list ≡ []) (λ e. rest v list ≡ e ∷ rest e.vector list)
told v list None a h = next_none v list (sym h)
told v list (Some e) a h = let s = next_some v list e a (sym h) in s.here ∙ ap (λ more. e ∷ more) (sym s.on)

pub next_told : {E : Type 0} (r : Result (Option Element) E) (v : List ℤ) (list : List Element) → is_well_formed list ≡ true → IfOk r (λ o. o ≡ next_after v list)
    → IfOk r (λ o. MatchOption o (rest v list ≡ []) (λ e. rest v list ≡ e ∷ rest e.vector list))
next_told r v list fine h =
    IfOk-weaker r (λ o. o ≡ next_after v list) (λ o. MatchOption o (rest v list ≡ []) (λ e. rest v list ≡ e ∷ rest e.vector list))
    (λ o e. told v list o (adjacent_ascends list (and_parts _ _ (and_parts _ _ fine).1).0) e) h

-- less is left after each step
pub less_left : (v : List ℤ) (list : List Element) (e : Element) → rest v list ≡ e ∷ rest e.vector list → length (rest e.vector list) < length (rest v list)
less_left v list e h = let a : length (rest v list) ≡ suc (length (rest e.vector list)) = ap length h in omega arith

-- what a call told of what is left

pub found_is : (o : Option Element) (v w : List ℤ) (list : List Element) (e : Element) → MatchOption o (rest v list ≡ []) (λ e. rest v list ≡ e ∷ rest e.vector list) → o ≡ Some e → v ≡ w
    → rest w list ≡ e ∷ rest e.vector list
found_is None v w list e h i s = cc
found_is (Some x) v w list e h i s = subst (λ z. rest w list ≡ z ∷ rest z.vector list) (some_is x e i) (ap (λ u. rest u list) (sym s) ∙ h)

pub ended : (o : Option Element) (v w : List ℤ) (list : List Element) → MatchOption o (rest v list ≡ []) (λ e. rest v list ≡ e ∷ rest e.vector list) → o ≡ None → v ≡ w → rest w list ≡ []
ended None v w list h i s = ap (λ u. rest u list) (sym s) ∙ h
ended (Some x) v w list h i s = cc

pub found_in : (v : List ℤ) (list : List Element) (e : Element) → rest v list ≡ e ∷ rest e.vector list → In (step e) (steps list)
found_in v list e h = map_in step list e (rest_in v list e (subst (In e) (sym h) (inl refl)))
