-- Closing up keeps the order of places.
use Rattle.std.proofs.Common.{◌≡◌, refl, sym, ap, ◌∙◌, subst, ℕ, ◌+◌, ◌<◌, ◌≤◌, ℤ, pos, ◌<ℤ◌, Bool, true, false, if◌then◌else◌, List, [], ◌∷◌, ◌++◌, length, take, slice_index_or, nat_lt, ◌&&◌, length-append, lt-ltb, inl, inr, arith, append_assoc, take_at}
use Rattle.std.proofs.lemmas.Int.{ints}
use Rattle.std.proofs.lemmas.List.{get_or_at}
use Rattle.std.proofs.lemmas.Bool.{and_from}
use Rattle.std.specs.Ordering.{int_cmp, int_eq, ordering_then, is_eq, MatchOrdering}
use Rattle.std.specs.declared.cmp.Ordering.{Ordering}
use Rattle.std.specs.declared.cmp.Ordering.TheVariants.{Less, Equal, Greater}
use Rattle.std.specs.Cmp.{tied_itself, int_cmp_total, int_ranked}
use Rattle.std.specs.Cmp.Lexicographic.{slice_cmp, lists_total}
use Rattle.ch_timed.specs.Members.{In}
use Rattle.ch_timed.specs.Vectors.{same_numbers}
use Rattle.ch_timed.specs.Closed.{below, follows, put_number, count_less, ranks}
use Rattle.ch_timed.proofs.Blocks.{int_less}

-- as many or more are below a greater number
less_step : (y p q : ℤ) (r o : Ordering) (m n : ℕ) → MatchOrdering r (y <ℤ p) (y ≡ p) (p <ℤ y) → MatchOrdering o (y <ℤ q) (y ≡ q) (q <ℤ y) → p <ℤ q → m ≤ n → count_less r m ≤ count_less o n
less_step y p q Less Less m n a b l h = omega arith
less_step y p q Less Equal m n a b l h = absurd (omega (arith, ints))
less_step y p q Less Greater m n a b l h = absurd (omega (arith, ints))
less_step y p q Equal Less m n a b l h = omega arith
less_step y p q Equal Equal m n a b l h = h
less_step y p q Equal Greater m n a b l h = h
less_step y p q Greater Less m n a b l h = omega arith
less_step y p q Greater Equal m n a b l h = h
less_step y p q Greater Greater m n a b l h = h

below_more : (p q : ℤ) (ys : List ℤ) → p <ℤ q → below p ys ≤ below q ys
below_more p q [] l = omega arith
below_more p q (y ∷ ys) l = less_step y p q (int_cmp y p) (int_cmp y q) (below p ys) (below q ys) (int_ranked y p (int_cmp y p) refl) (int_ranked y q (int_cmp y q) refl) l (below_more p q ys l)

strict_step : (y p q : ℤ) (r o : Ordering) (m n : ℕ) → MatchOrdering r (y <ℤ p) (y ≡ p) (p <ℤ y) → MatchOrdering o (y <ℤ q) (y ≡ q) (q <ℤ y) → p <ℤ q → m < n → count_less r m < count_less o n
strict_step y p q Less Less m n a b l h = omega arith
strict_step y p q Less Equal m n a b l h = absurd (omega (arith, ints))
strict_step y p q Less Greater m n a b l h = absurd (omega (arith, ints))
strict_step y p q Equal Less m n a b l h = omega arith
strict_step y p q Equal Equal m n a b l h = h
strict_step y p q Equal Greater m n a b l h = h
strict_step y p q Greater Less m n a b l h = omega arith
strict_step y p q Greater Equal m n a b l h = h
strict_step y p q Greater Greater m n a b l h = h

pub below_less : (p q : ℤ) (ys : List ℤ) → p <ℤ q → In p ys → below p ys < below q ys
below_less p q [] l i = absurd i
below_less p q (y ∷ ys) l (inl e) =
    let a : int_cmp y p ≡ Equal = ap (λ z. int_cmp z p) e ∙ tied_itself int_cmp_total p in
    let b : int_cmp y q ≡ Less = ap (λ z. int_cmp z q) e ∙ int_less p q l in
    let m = below_more p q ys l in
    let c : below p (y ∷ ys) ≡ below p ys = ap (λ r. count_less r (below p ys)) a in
    let d : below q (y ∷ ys) ≡ below q ys + 1 = ap (λ r. count_less r (below q ys)) b in
    omega arith
below_less p q (y ∷ ys) l (inr i) =
    strict_step y p q (int_cmp y p) (int_cmp y q) (below p ys) (below q ys) (int_ranked y p (int_cmp y p) refl) (int_ranked y q (int_cmp y q) refl) l (below_less p q ys l i)

put_has : (t : Bool) (x y : ℤ) (ys rest : List ℤ) → (t ≡ true → x ≡ y) → In x rest → In x (if t then y ∷ ys else y ∷ rest)
put_has true x y ys rest h i = inl (sym (h refl))
put_has false x y ys rest h i = inr i

int_same : (x y : ℤ) → int_eq x y ≡ true → x ≡ y
int_same x y h = by (int_cmp x y) (int_ranked x y (int_cmp x y) refl) h
  where
    by : (r : Ordering) → MatchOrdering r (x <ℤ y) (x ≡ y) (y <ℤ x) → is_eq r ≡ true → x ≡ y
    by Less m k = cc
    by Equal m k = m
    by Greater m k = cc

put_in : (x : ℤ) (ys : List ℤ) → In x (put_number x ys)
put_in x [] = inl refl
put_in x (y ∷ ys) = put_has (int_eq x y) x y ys (put_number x ys) (int_same x y) (put_in x ys)

put_keeps_by : (t : Bool) (z x y : ℤ) (ys rest : List ℤ) → (In z ys → In z rest) → In z (y ∷ ys) → In z (if t then y ∷ ys else y ∷ rest)
put_keeps_by true z x y ys rest h i = i
put_keeps_by false z x y ys rest h (inl e) = inl e
put_keeps_by false z x y ys rest h (inr i) = inr (h i)

put_keeps : (z x : ℤ) (ys : List ℤ) → In z ys → In z (put_number x ys)
put_keeps z x [] i = absurd i
put_keeps z x (y ∷ ys) i = put_keeps_by (int_eq x y) z x y ys (put_number x ys) (put_keeps z x ys) i

kept_by : (t : Bool) (z x : ℤ) (ys : List ℤ) → In z ys → In z (if t then put_number x ys else ys)
kept_by true z x ys i = put_keeps z x ys i
kept_by false z x ys i = i

begins_itself : (front : List ℤ) (p : ℤ) (ps : List ℤ) → (same_numbers front (take (length front) (front ++ p ∷ ps)) && nat_lt (length front) (length (front ++ p ∷ ps))) ≡ true
begins_itself front p ps =
    let long : length front < length (front ++ p ∷ ps) = simp length-append (omega arith) in
    and_from _ _ (ap (same_numbers front) (take_at front (p ∷ ps) (length front) refl) ∙ ap is_eq (tied_itself (lists_total int_cmp_total) front)) (lt-ltb _ _ long)

pub in_follows : (front : List ℤ) (p : ℤ) (ps : List ℤ) (all : List (List ℤ)) → In (front ++ p ∷ ps) all → In p (follows front all)
in_follows front p ps [] i = absurd i
in_follows front p ps (qs ∷ all) (inl e) = subst (λ z. In p (follows front (z ∷ all))) (sym e)
    (rw (begins_itself front p ps) (subst (λ x. In p (put_number x (follows front all))) (sym (get_or_at front p ps (pos 0) (length front) refl)) (put_in p (follows front all))))
in_follows front p ps (qs ∷ all) (inr i) =
    kept_by (same_numbers front (take (length front) qs) && nat_lt (length front) (length qs)) p (slice_index_or qs (length front) (pos 0)) (follows front all) (in_follows front p ps all i)

-- the ranks of places that come before come before
pub ranks_less : (all : List (List ℤ)) (front ps qs : List ℤ) → In (front ++ ps) all → In (front ++ qs) all → slice_cmp int_cmp ps qs ≡ Less
    → slice_cmp int_cmp (ranks all front ps) (ranks all front qs) ≡ Less
ranks_less all front [] [] i j h = h
ranks_less all front [] (q ∷ qs) i j h = refl
ranks_less all front (p ∷ ps) [] i j h = h
ranks_less all front (p ∷ ps) (q ∷ qs) i j h = by (int_cmp p q) (int_ranked p q (int_cmp p q) refl) h (λ i j h. ranks_less all (front ++ p ∷ []) ps qs i j h)
  where
    by : (r : Ordering) → MatchOrdering r (p <ℤ q) (p ≡ q) (q <ℤ p) → ordering_then r (slice_cmp int_cmp ps qs) ≡ Less
        → (In ((front ++ p ∷ []) ++ ps) all → In ((front ++ p ∷ []) ++ qs) all → slice_cmp int_cmp ps qs ≡ Less → slice_cmp int_cmp (ranks all (front ++ p ∷ []) ps) (ranks all (front ++ p ∷ []) qs) ≡ Less)
        → slice_cmp int_cmp (ranks all front (p ∷ ps)) (ranks all front (q ∷ qs)) ≡ Less
    by Less m k again =
        let n = below_less p q (follows front all) m (in_follows front p ps all i) in
        ap (λ o. ordering_then o (slice_cmp int_cmp (ranks all (front ++ p ∷ []) ps) (ranks all (front ++ q ∷ []) qs)))
        (int_less (pos (below p (follows front all))) (pos (below q (follows front all))) (omega (arith, ints)))
    by Equal m k again =
        let a : In ((front ++ p ∷ []) ++ ps) all = subst (λ v. In v all) (sym (append_assoc front (p ∷ []) ps)) i in
        let b : In ((front ++ p ∷ []) ++ qs) all = subst (λ v. In v all) (sym (append_assoc front (p ∷ []) qs)) (subst (λ z. In (front ++ z ∷ qs) all) (sym m) j) in
        let r = again a b k in
        subst (λ z. slice_cmp int_cmp (ranks all front (p ∷ ps)) (ranks all front (z ∷ qs)) ≡ Less) m
        (ap (λ o. ordering_then o (slice_cmp int_cmp (ranks all (front ++ p ∷ []) ps) (ranks all (front ++ p ∷ []) qs))) (tied_itself int_cmp_total (pos (below p (follows front all)))) ∙ r)
    by Greater m k again = cc
