-- Where the places of two pieces part, those after a cut part too.
use Rattle.std.proofs.Common.{◌≡◌, refl, sym, ap, ap₂, ◌∙◌, subst, ℕ, zero, suc, ◌-◌, ◌<◌, ◌≤◌, ◌⊎◌, inl, inr, ℤ, pos, ◌+ℤ◌, ◌*ℤ◌, ◌<ℤ◌, Bool, true, false, ◌&&◌, nat_le, if◌then◌else◌, List, [], ◌∷◌, ◌++◌, length, take, drop, get_or, set, arith, length-append}
use Rattle.std.proofs.lemmas.Bool.{and_parts, cases_lt, leb-true, le-leb}
use Rattle.std.proofs.lemmas.Int.{ints}
use Rattle.std.proofs.lemmas.List.{set-append_left}
use Rattle.std.proofs.Math.Seq.{set-append_seam}
use Rattle.ch_cut.specs.Cut.{behind}
use Rattle.ch_cut.specs.Parts.{cut_places, doubled}
use Rattle.ch_moved.specs.Arguments.{beside}
use Rattle.ch_moved.proofs.Parting.{Parts, parts_apart, parts_less}
use Rattle.ch_moved.proofs.Replaced.{same_apart, turned}
use Rattle.ch_space.proofs.PieceElements.{never}
use Rattle.ch_timed.specs.Vectors.{same_numbers}
use Rattle.ch_timed.proofs.Prefixes.{apart}

-- one number of a list exchanged

pub set_at : (n : ℕ) (ps : List ℤ) (v : ℤ) → n < length ps → set ps n v ≡ take n ps ++ v ∷ drop (suc n) ps
set_at n [] v h = absurd (omega arith)
set_at zero (p ∷ ps) v h = refl
set_at (suc n) (p ∷ ps) v h = ap (λ t. p ∷ t) (set_at n ps v (omega arith))

set_behind : (n : ℕ) (front : List ℤ) (x : ℤ) (rest : List ℤ) (v : ℤ) → length front < n → set (front ++ x ∷ rest) n v ≡ front ++ x ∷ set rest (n - length front - 1) v
set_behind zero front x rest v h = absurd (omega arith)
set_behind (suc n) [] x rest v h = let e : suc n - length {A = ℤ} [] - 1 ≡ n = omega arith in ap (λ m. x ∷ set rest m v) (sym e)
set_behind (suc n) (f ∷ front) x rest v h =
    let e : suc n - length (f ∷ front) - 1 ≡ n - length front - 1 = omega arith in
    ap (λ t. f ∷ t) (set_behind n front x rest v (omega arith)) ∙ ap (λ m. f ∷ (front ++ x ∷ set rest m v)) (sym e)

get_front : (n : ℕ) (front more : List ℤ) → n < length front → get_or (front ++ more) n (pos 0) ≡ get_or front n (pos 0)
get_front n [] more h = absurd (omega arith)
get_front zero (f ∷ front) more h = refl
get_front (suc n) (f ∷ front) more h = get_front n front more (omega arith)

get_seam : (front : List ℤ) (x : ℤ) (rest : List ℤ) → get_or (front ++ x ∷ rest) (length front) (pos 0) ≡ x
get_seam [] x rest = refl
get_seam (f ∷ front) x rest = get_seam front x rest

take_front : (n : ℕ) (front more : List ℤ) → n ≤ length front → take n (front ++ more) ≡ take n front
take_front zero front more h = refl
take_front (suc n) [] more h = absurd (omega arith)
take_front (suc n) (f ∷ front) more h = ap (λ t. f ∷ t) (take_front n front more (omega arith))

-- the first list parts from the second, or the other way round
abbrev pub Parted : List ℤ → List ℤ → Type 0
Parted a b = Parts a b ⊎ Parts b a

pub parted_apart : (a b : List ℤ) → Parted a b → apart a b ≡ true
parted_apart a b (inl p) = parts_apart a b p
parted_apart a b (inr p) = turned b a (parts_apart b a p)

pub parted_differ : (a b : List ℤ) → Parted a b → a ≡ b → ⊥
parted_differ a b (inl p) e = never a b (parts_less a b p) e
parted_differ a b (inr p) e = never b a (parts_less b a p) (sym e)

pub parted_turned : (a b : List ℤ) → Parted a b → Parted b a
parted_turned a b (inl p) = inr p
parted_turned a b (inr p) = inl p

-- the number that a doubled place becomes
abbrev twice : ℤ → Bool → ℤ
twice x s = x *ℤ pos 2 +ℤ behind s

twice_less : (x y : ℤ) (s t : Bool) → x <ℤ y → twice x s <ℤ twice y t
twice_less x y true true h = omega (arith, ints)
twice_less x y true false h = omega (arith, ints)
twice_less x y false true h = omega (arith, ints)
twice_less x y false false h = omega (arith, ints)

twice_next : (x : ℤ) → twice x true <ℤ twice x false
twice_next x = omega (arith, ints)

-- Both sides of one piece: they part where they are doubled.

pub doubled_is : (level : ℕ) (s : Bool) (ps : List ℤ) → 1 ≤ level → level ≤ length ps
    → doubled level (behind s) ps ≡ take (level - 1) ps ++ twice (get_or ps (level - 1) (pos 0)) s ∷ drop (suc (level - 1)) ps
doubled_is level s ps some l = set_at (level - 1) ps (twice (get_or ps (level - 1) (pos 0)) s) (omega arith)

sides_part : (level : ℕ) (ps : List ℤ) → 1 ≤ level → level ≤ length ps → Parts (doubled level (behind true) ps) (doubled level (behind false) ps)
sides_part level ps some l = record {
  front = take (level - 1) ps;
  x = twice (get_or ps (level - 1) (pos 0)) true;
  y = twice (get_or ps (level - 1) (pos 0)) false;
  rest = drop (suc (level - 1)) ps;
  others = drop (suc (level - 1)) ps;
  is_a = doubled_is level true ps some l;
  is_b = doubled_is level false ps some l;
  less = twice_next (get_or ps (level - 1) (pos 0));
}

same_or_parted : (level : ℕ) (s t : Bool) (ps : List ℤ) → 1 ≤ level → level ≤ length ps → (s ≡ t) ⊎ Parted (doubled level (behind s) ps) (doubled level (behind t) ps)
same_or_parted level true true ps some l = inl refl
same_or_parted level true false ps some l = inr (inl (sides_part level ps some l))
same_or_parted level false true ps some l = inr (inr (sides_part level ps some l))
same_or_parted level false false ps some l = inl refl

pub same_side : (level : ℕ) (s t : Bool) (ps : List ℤ) → 1 ≤ level → level ≤ length ps → doubled level (behind s) ps ≡ doubled level (behind t) ps → s ≡ t
same_side level s t ps some l e = elim (same_or_parted level s t ps some l) as (λ _. s ≡ t) [
  | inl h ↦ h
  | inr h ↦ absurd (parted_differ _ _ h e)
]

pub beside_deep : (level : ℕ) (ours ps : List ℤ) → beside level ours ps ≡ true → level ≤ length ps
beside_deep level ours ps h = leb-true level (length ps) (and_parts _ _ h).0

pub sides_apart : (level : ℕ) (ours ps : List ℤ) (s t : Bool) → 1 ≤ level → apart (cut_places level ours s ps) (cut_places level ours t ps) ≡ true
sides_apart level ours ps s t some = by (beside level ours ps) refl
  where
    by : (b : Bool) → beside level ours ps ≡ b → apart (if b then doubled level (behind s) ps else ps) (if b then doubled level (behind t) ps else ps) ≡ true
    by true e = elim (same_or_parted level s t ps some (beside_deep level ours ps e)) as (λ _. apart (doubled level (behind s) ps) (doubled level (behind t) ps) ≡ true) [
      | inl h ↦ subst (λ z. apart (doubled level (behind s) ps) (doubled level (behind z) ps) ≡ true) h (same_apart (doubled level (behind s) ps))
      | inr h ↦ parted_apart _ _ h
    ]
    by false e = same_apart ps

-- Places of two pieces.

module _ (level : ℕ) (ours : List ℤ) (some : 1 ≤ level) (front : List ℤ) (x y : ℤ) (rest others : List ℤ) (less : x <ℤ y) where
  -- where they part before the doubled place
  tail_of : (b s : Bool) (z : ℤ) (more : List ℤ) → length front < level - 1
      → (tail : List ℤ) × ((if b then doubled level (behind s) (front ++ z ∷ more) else front ++ z ∷ more) ≡ front ++ z ∷ tail)
  tail_of true s z more h =
      (set more (level - 1 - length front - 1) (twice (get_or (front ++ z ∷ more) (level - 1) (pos 0)) s), set_behind (level - 1) front z more (twice (get_or (front ++ z ∷ more) (level - 1) (pos 0)) s) h)
  tail_of false s z more h = (more, refl)

  early : (s t : Bool) → length front < level - 1 → Parted (cut_places level ours s (front ++ x ∷ rest)) (cut_places level ours t (front ++ y ∷ others))
  early s t h =
      let a = tail_of (beside level ours (front ++ x ∷ rest)) s x rest h in
      let b = tail_of (beside level ours (front ++ y ∷ others)) t y others h in
      inl (record { front = front; x = x; y = y; rest = a.0; others = b.0; is_a = a.1; is_b = b.1; less = less })

  long_enough : (z : ℤ) (more : List ℤ) → level - 1 ≤ length front → nat_le level (length (front ++ z ∷ more)) ≡ true
  long_enough z more h = let e = length-append front (z ∷ more) in le-leb level (length (front ++ z ∷ more)) (omega arith)

  beside_alike : level - 1 ≤ length front → beside level ours (front ++ x ∷ rest) ≡ beside level ours (front ++ y ∷ others)
  beside_alike h =
      ap₂ (λ b t. b && same_numbers (take (level - 1) ours) t) (long_enough x rest h ∙ sym (long_enough y others h))
      (take_front (level - 1) front (x ∷ rest) h ∙ sym (take_front (level - 1) front (y ∷ others) h))

  -- where they part there
  at_seam : (s : Bool) (z : ℤ) (more : List ℤ) → level - 1 ≡ length front → doubled level (behind s) (front ++ z ∷ more) ≡ front ++ twice z s ∷ more
  at_seam s z more h =
      ap (λ n. set (front ++ z ∷ more) n (twice (get_or (front ++ z ∷ more) n (pos 0)) s)) h
      ∙ ap (λ v. set (front ++ z ∷ more) (length front) (twice v s)) (get_seam front z more) ∙ set-append_seam front z more (twice z s)

  here : (b s t : Bool) → level - 1 ≡ length front
      → Parted (if b then doubled level (behind s) (front ++ x ∷ rest) else front ++ x ∷ rest) (if b then doubled level (behind t) (front ++ y ∷ others) else front ++ y ∷ others)
  here true s t h =
      inl (record { front = front; x = twice x s; y = twice y t; rest = rest; others = others; is_a = at_seam s x rest h; is_b = at_seam t y others h; less = twice_less x y s t less })
  here false s t h = inl (record { front = front; x = x; y = y; rest = rest; others = others; is_a = refl; is_b = refl; less = less })

  -- where they part behind it
  in_front : (s : Bool) (z : ℤ) (more : List ℤ) → level - 1 < length front → doubled level (behind s) (front ++ z ∷ more) ≡ doubled level (behind s) front ++ z ∷ more
  in_front s z more h =
      ap (λ v. set (front ++ z ∷ more) (level - 1) (twice v s)) (get_front (level - 1) front (z ∷ more) h)
      ∙ set-append_left front (z ∷ more) (level - 1) (twice (get_or front (level - 1) (pos 0)) s) h

  longer : (a c : List ℤ) (f g : List ℤ) → Parts a c → Parts (a ++ f) (c ++ g)
  longer a c f g p = record {
    front = p.front;
    x = p.x;
    y = p.y;
    rest = p.rest ++ f;
    others = p.others ++ g;
    is_a = ap (λ z. z ++ f) p.is_a ∙ append_more p.front p.x p.rest f;
    is_b = ap (λ z. z ++ g) p.is_b ∙ append_more p.front p.y p.others g;
    less = p.less;
  }
    where
      append_more : (front : List ℤ) (z : ℤ) (more f : List ℤ) → (front ++ z ∷ more) ++ f ≡ front ++ z ∷ (more ++ f)
      append_more [] z more f = refl
      append_more (h ∷ front) z more f = ap (λ t. h ∷ t) (append_more front z more f)

  late_sides : (s t : Bool) → level - 1 < length front → Parted (doubled level (behind s) front ++ x ∷ rest) (doubled level (behind t) front ++ y ∷ others)
  late_sides true true h = inl (record { front = doubled level (behind true) front; x = x; y = y; rest = rest; others = others; is_a = refl; is_b = refl; less = less })
  late_sides false false h = inl (record { front = doubled level (behind false) front; x = x; y = y; rest = rest; others = others; is_a = refl; is_b = refl; less = less })
  late_sides true false h = inl (longer _ _ (x ∷ rest) (y ∷ others) (sides_part level front some (omega arith)))
  late_sides false true h = inr (longer _ _ (y ∷ others) (x ∷ rest) (sides_part level front some (omega arith)))

  late : (b s t : Bool) → level - 1 < length front
      → Parted (if b then doubled level (behind s) (front ++ x ∷ rest) else front ++ x ∷ rest) (if b then doubled level (behind t) (front ++ y ∷ others) else front ++ y ∷ others)
  late true s t h =
      subst (λ z. Parted z (doubled level (behind t) (front ++ y ∷ others))) (sym (in_front s x rest h))
      (subst (λ z. Parted (doubled level (behind s) front ++ x ∷ rest) z) (sym (in_front t y others h)) (late_sides s t h))
  late false s t h = inl (record { front = front; x = x; y = y; rest = rest; others = others; is_a = refl; is_b = refl; less = less })

  alike : (b c s t : Bool) → b ≡ c
      → Parted (if b then doubled level (behind s) (front ++ x ∷ rest) else front ++ x ∷ rest) (if b then doubled level (behind t) (front ++ y ∷ others) else front ++ y ∷ others)
      → Parted (if b then doubled level (behind s) (front ++ x ∷ rest) else front ++ x ∷ rest) (if c then doubled level (behind t) (front ++ y ∷ others) else front ++ y ∷ others)
  alike b c s t e p = subst (λ d. Parted (if b then doubled level (behind s) (front ++ x ∷ rest) else front ++ x ∷ rest) (if d then doubled level (behind t) (front ++ y ∷ others) else front ++ y ∷ others)) e p

  cut_part : (s t : Bool) → Parted (cut_places level ours s (front ++ x ∷ rest)) (cut_places level ours t (front ++ y ∷ others))
  cut_part s t = elim (cases_lt (length front) (level - 1)) as (λ _. Parted (cut_places level ours s (front ++ x ∷ rest)) (cut_places level ours t (front ++ y ∷ others))) [
    | inl h ↦ early s t h
    | inr h ↦ elim (cases_lt (level - 1) (length front)) as (λ _. Parted (cut_places level ours s (front ++ x ∷ rest)) (cut_places level ours t (front ++ y ∷ others))) [
      | inl l ↦ alike _ _ s t (beside_alike h) (late (beside level ours (front ++ x ∷ rest)) s t l)
      | inr l ↦ alike _ _ s t (beside_alike h) (here (beside level ours (front ++ x ∷ rest)) s t (omega arith))
    ]
  ]

pub cut_parted : (level : ℕ) (ours : List ℤ) (s t : Bool) (a b : List ℤ) → 1 ≤ level → Parts a b → Parted (cut_places level ours s a) (cut_places level ours t b)
cut_parted level ours s t a b some p =
    subst (λ z. Parted (cut_places level ours s z) (cut_places level ours t b)) (sym p.is_a)
    (subst (λ z. Parted (cut_places level ours s (p.front ++ p.x ∷ p.rest)) (cut_places level ours t z)) (sym p.is_b)
    (cut_part level ours some p.front p.x p.y p.rest p.others p.less s t))
