-- Values that come after a vector, place by place and level by level.
use Rattle.std.proofs.Common.{◌≡◌, refl, sym, ap, ◌∙◌, subst, ℕ, ◌+◌, ◌≤◌, ℤ, ◌<ℤ◌, true, Option, Some, None, List, [], ◌∷◌, ◌++◌, length, ◌⊎◌, inl, inr, arith}
use Rattle.std.specs.Bool.{IsTrue}
use Rattle.std.proofs.lemmas.Int.{ints}
use Rattle.std.specs.Ordering.{int_cmp, is_lt, ordering_then, MatchOrdering}
use Rattle.std.specs.declared.cmp.Ordering.{Ordering}
use Rattle.std.specs.declared.cmp.Ordering.TheVariants.{Less, Equal, Greater}
use Rattle.std.specs.Cmp.{tied_itself, int_cmp_total, int_ranked}
use Rattle.std.specs.Cmp.Lexicographic.{slice_cmp}
use Rattle.ch_timed.specs.Members.{In}
use Rattle.ch_timed.specs.Vectors.{comes_before, woven}
use Rattle.ch_timed.proofs.Orders.{not_both}
use Rattle.ch_space.specs.Following.{BeginsWith, ComesAfter, IsAbove, IsLeast, UpTo}
use Rattle.ch_space.proofs.PieceElements.{Comes, cons_comes, less_comes}

abbrev itself : List ℤ → List ℤ
itself v = v

pub is_less : (o : Ordering) → is_lt o ≡ true → o ≡ Less
is_less Less h = refl
is_less Equal h = cc
is_less Greater h = cc

-- heads of vectors

same_head : (p : ℤ) (v w : List ℤ) → comes_before (p ∷ v) (p ∷ w) ≡ comes_before v w
same_head p v w = ap (λ o. is_lt (ordering_then o (slice_cmp int_cmp v w))) (tied_itself int_cmp_total p)

less_head : (now p : ℤ) (v w : List ℤ) → now <ℤ p → IsTrue (comes_before (now ∷ v) (p ∷ w))
less_head now p v w h = ap is_lt (less_comes now p v w h)

more_head : (now p : ℤ) (v w : List ℤ) → p <ℤ now → IsTrue (comes_before (now ∷ v) (p ∷ w)) → ⊥
more_head now p v w h t = not_both itself (now ∷ v) (p ∷ w) (is_less (slice_cmp int_cmp (now ∷ v) (p ∷ w)) t) (less_comes p now w v h)

none_before : (v : List ℤ) → IsTrue (comes_before v []) → ⊥
none_before [] h = cc
none_before (x ∷ v) h = cc

split_by : (y x : ℤ) (o t : Ordering) → MatchOrdering o (y <ℤ x) (y ≡ x) (x <ℤ y) → is_lt (ordering_then o t) ≡ true → (y <ℤ x) ⊎ ((x ≡ y) × (is_lt t ≡ true))
split_by y x Less t m h = inl m
split_by y x Equal t m h = inr (sym m, h)
split_by y x Greater t m h = cc

-- vectors of places and values

pub no_places : (vector rest : List ℤ) → ComesAfter [] vector rest → ⊥
no_places vector rest h = none_before vector h

pub after_nothing : (p : ℤ) (ps rest : List ℤ) → ComesAfter (p ∷ ps) [] rest
after_nothing p ps [] = refl
after_nothing p ps (x ∷ rest) = refl

pub after_less : (now p : ℤ) (later ps rest : List ℤ) → now <ℤ p → ComesAfter (p ∷ ps) (now ∷ later) rest
after_less now p later ps [] h = less_head now p later [] h
after_less now p later ps (x ∷ rest) h = less_head now p later (x ∷ woven ps rest) h

pub never_more : (now p : ℤ) (later ps rest : List ℤ) → p <ℤ now → ComesAfter (p ∷ ps) (now ∷ later) rest → ⊥
never_more now p later ps [] h t = more_head now p later [] h t
never_more now p later ps (x ∷ rest) h t = more_head now p later (x ∷ woven ps rest) h t

pub never_last : (p : ℤ) (later rest : List ℤ) → length rest ≡ 0 → ComesAfter (p ∷ []) (p ∷ later) rest → ⊥
never_last p later [] l t = none_before later (sym (same_head p later []) ∙ t)
never_last p later (x ∷ rest) l t = absurd (omega arith)

pub after_ended : (p : ℤ) (ps rest : List ℤ) → 1 ≤ length rest → ComesAfter (p ∷ ps) (p ∷ []) rest
after_ended p ps [] l = absurd (omega arith)
after_ended p ps (x ∷ rest) l = same_head p [] (x ∷ woven ps rest)

-- what is fixed before the values

pub begins_more : (P Q : List ℤ → Type 0) (m : ℕ) → ((rest : List ℤ) → length rest ≡ m → P rest → Q rest) → (fixed xs : List ℤ) → length xs ≡ length fixed + m → BeginsWith fixed P xs
    → BeginsWith fixed Q xs
begins_more P Q m h [] xs l b = h xs (omega arith) b
begins_more P Q m h (f ∷ fixed) [] l b = b
begins_more P Q m h (f ∷ fixed) (x ∷ xs) l b = (b.0, begins_more P Q m h fixed xs (omega arith) b.1)

pub begins_never : (P : List ℤ → Type 0) (m : ℕ) → ((rest : List ℤ) → length rest ≡ m → P rest → ⊥) → (fixed xs : List ℤ) → length xs ≡ length fixed + m → BeginsWith fixed P xs → ⊥
begins_never P m h [] xs l b = h xs (omega arith) b
begins_never P m h (f ∷ fixed) [] l b = b
begins_never P m h (f ∷ fixed) (x ∷ xs) l b = begins_never P m h fixed xs (omega arith) b.1

module _ (p y : ℤ) (inner behind : List ℤ) where
  abbrev Here : List ℤ → Type 0
  Here = ComesAfter (p ∷ inner) (p ∷ y ∷ behind)

  here_parts : (xs : List ℤ) → Here xs → BeginsWith (y ∷ []) (ComesAfter inner behind) xs ⊎ IsAbove y xs
  here_parts [] h = absurd (none_before (y ∷ behind) (sym (same_head p (y ∷ behind) []) ∙ h))
  here_parts (x ∷ xs) h =
      elim (split_by y x (int_cmp y x) (slice_cmp int_cmp behind (woven inner xs)) (int_ranked y x (int_cmp y x) refl) (sym (same_head p (y ∷ behind) (x ∷ woven inner xs)) ∙ h)) [
        | inl l ↦ inr l
        | inr e ↦ inl (e.0, e.1)
      ]

  here_same : (xs : List ℤ) → BeginsWith (y ∷ []) (ComesAfter inner behind) xs → Here xs
  here_same [] h = absurd h
  here_same (x ∷ xs) h =
      same_head p (y ∷ behind) (x ∷ woven inner xs)
      ∙ subst (λ z. comes_before (y ∷ behind) (z ∷ woven inner xs) ≡ true) (sym h.0) (same_head y behind (woven inner xs) ∙ h.1)

  here_above : (xs : List ℤ) → IsAbove y xs → Here xs
  here_above [] h = absurd h
  here_above (x ∷ xs) h = same_head p (y ∷ behind) (x ∷ woven inner xs) ∙ less_head y x behind (woven inner xs) h

  parts : (fixed xs : List ℤ) → BeginsWith fixed Here xs → BeginsWith (fixed ++ y ∷ []) (ComesAfter inner behind) xs ⊎ BeginsWith fixed (IsAbove y) xs
  parts [] xs b = here_parts xs b
  parts (f ∷ fixed) [] b = absurd b
  parts (f ∷ fixed) (x ∷ xs) b = elim (parts fixed xs b.1) [ inl h ↦ inl (b.0, h) | inr h ↦ inr (b.0, h) ]

  same_front : (fixed xs : List ℤ) → BeginsWith (fixed ++ y ∷ []) (ComesAfter inner behind) xs → BeginsWith fixed Here xs
  same_front [] xs b = here_same xs b
  same_front (f ∷ fixed) [] b = b
  same_front (f ∷ fixed) (x ∷ xs) b = (b.0, same_front fixed xs b.1)

  above_front : (fixed xs : List ℤ) → BeginsWith fixed (IsAbove y) xs → BeginsWith fixed Here xs
  above_front [] xs b = here_above xs b
  above_front (f ∷ fixed) [] b = b
  above_front (f ∷ fixed) (x ∷ xs) b = (b.0, above_front fixed xs b.1)

same_before : (P : List ℤ → Type 0) (y : ℤ) (fixed m xs : List ℤ) → BeginsWith (fixed ++ y ∷ []) P m → BeginsWith fixed (IsAbove y) xs → Comes m xs
same_before P y [] [] xs b a = absurd b
same_before P y [] (z ∷ m) [] b a = absurd a
same_before P y [] (z ∷ m) (x ∷ xs) b a = less_comes z x m xs (let e = b.0 in omega (arith, ints))
same_before P y (f ∷ fixed) [] xs b a = absurd b
same_before P y (f ∷ fixed) (z ∷ m) [] b a = absurd a
same_before P y (f ∷ fixed) (z ∷ m) (x ∷ xs) b a =
    subst (λ t. Comes (z ∷ m) (t ∷ xs)) (b.0 ∙ sym a.0) (cons_comes z m xs (same_before P y fixed m xs b.1 a.1))

-- the least of them

pub least_same : (P Q : List ℤ → Type 0) (xss : List (List ℤ)) (r : Option (List ℤ)) → ((xs : List ℤ) → In xs xss → P xs → Q xs) → ((xs : List ℤ) → In xs xss → Q xs → P xs)
    → IsLeast P xss r → IsLeast Q xss r
least_same P Q xss None f g h = λ xs i q. h xs i (g xs i q)
least_same P Q xss (Some m) f g h = (h.0, f m h.0 h.1, λ xs i q. h.2 xs i (g xs i q))

-- where some instance stays like the vector for one more value, the least such one comes first
pub least_stays : (p y : ℤ) (inner behind fixed m : List ℤ) (xss : List (List ℤ)) → IsLeast (BeginsWith (fixed ++ y ∷ []) (ComesAfter inner behind)) xss (Some m)
    → IsLeast (BeginsWith fixed (ComesAfter (p ∷ inner) (p ∷ y ∷ behind))) xss (Some m)
least_stays p y inner behind fixed m xss h = (
  h.0,
  same_front p y inner behind fixed m h.1,
  λ xs i b. elim (parts p y inner behind fixed xs b) as (λ _. UpTo m xs) [
    | inl s ↦ h.2 xs i s
    | inr a ↦ inr (same_before (ComesAfter inner behind) y fixed m xs h.1 a)
  ],
)

pub least_leaves : (p y : ℤ) (inner behind fixed : List ℤ) (xss : List (List ℤ)) (r : Option (List ℤ)) → IsLeast (BeginsWith (fixed ++ y ∷ []) (ComesAfter inner behind)) xss None
    → IsLeast (BeginsWith fixed (IsAbove y)) xss r → IsLeast (BeginsWith fixed (ComesAfter (p ∷ inner) (p ∷ y ∷ behind))) xss r
least_leaves p y inner behind fixed xss r none h =
    least_same (BeginsWith fixed (IsAbove y)) (BeginsWith fixed (ComesAfter (p ∷ inner) (p ∷ y ∷ behind))) xss r
    (λ xs i a. above_front p y inner behind fixed xs a)
    (λ xs i b. elim (parts p y inner behind fixed xs b) as (λ _. BeginsWith fixed (IsAbove y) xs) [ inl s ↦ absurd (none xs i s) | inr a ↦ a ])
    h
