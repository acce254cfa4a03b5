-- The instances of a statement's piece are the values that its loops take, and as many as its turns.
use Rattle.std.proofs.Common.{◌≡◌, refl, sym, ap, ap₂, ◌∙◌, subst, ℕ, zero, suc, ◌+◌, ℤ, pos, negsuc, ◌+ℤ◌, ◌-ℤ◌, ◌≤ℤ◌, ◌<ℤ◌, Bool, true, false, cond, if◌then◌else◌, List, [], ◌∷◌, ◌++◌, length, map, take, inl, inr, arith, length-append}
use Rattle.std.specs.Bool.{IsTrue}
use Rattle.std.specs.List.{filter, flat_map}
use Rattle.std.specs.Ordering.{int_eq}
use Rattle.std.proofs.lemmas.Bool.{and_parts}
use Rattle.std.proofs.lemmas.Int.{ints, by_lt_z}
use Rattle.std.proofs.lemmas.List.{length-map}
use Rattle.std.proofs.lemmas.List.Elements.{filter-append}
use Rattle.ch_affine.specs.Rows.{lies_in, all_hold}
use Rattle.ch_affine.specs.declared.system.Range.{Range}
use Rattle.ch_nest.specs.Run.{is_met, loop_values, low_of, high_of}
use Rattle.ch_nest.specs.Shape.{box_of}
use Rattle.ch_nest.proofs.Corners.{lies_first, lies_length, lies_push}
use Rattle.ch_poly.specs.Points.{upwards, natural, numbers, box_points, points, begins, begins_some}
use Rattle.ch_poly.proofs.Firsts.{filter_cons}
use Rattle.ch_space.specs.declared.level.Around.{Around}
use Rattle.ch_space.specs.declared.level.Around.TheVariants.{Inside, Where}
use Rattle.ch_space.specs.declared.level.Level.{Level}
use Rattle.ch_space.specs.Built.{rows_of, boxes_from, hidden_boxes, piece_of, system_of}
use Rattle.ch_space.specs.Pieces.{instances}
use Rattle.ch_space.specs.Statements.{Statement, loops, steps, sum_over, turns_below, instances_of}
use Rattle.ch_space.specs.Fitting.{LevelsFit}
use Rattle.ch_space.proofs.Membership.{in_flat, flat_in, in_filter, filter_in, any_from, any_in}
use Rattle.ch_space.proofs.PieceElements.{each_from_in}
use Rattle.ch_space.proofs.Rowed.{lies_more, lies_both, lies_parts, rows_hold, rows_held, lies_between, value_in_box}
use Rattle.ch_space.proofs.Shapes.{length_boxes}
use Rattle.ch_space.proofs.Turnings.{Between, length_between}
use Rattle.ch_timed.specs.Members.{Each, In}
use Rattle.ch_timed.proofs.Listings.{Rising, values_rise}
use Rattle.ch_timed.proofs.Orders.{in_map, map_in}

-- numbers of a range

in_upwards : (n : ℕ) (low x : ℤ) → In x (upwards n low) → (low ≤ℤ x) × (x <ℤ (low +ℤ pos n))
in_upwards zero low x i = absurd i
in_upwards (suc n) low x (inl k) = (omega (arith, ints), omega (arith, ints))
in_upwards (suc n) low x (inr i) = let r = in_upwards n (low +ℤ pos 1) x i in (omega (arith, ints), omega (arith, ints))

upwards_in : (n : ℕ) (low x : ℤ) → low ≤ℤ x → x <ℤ (low +ℤ pos n) → In x (upwards n low)
upwards_in zero low x l h = absurd (omega (arith, ints))
upwards_in (suc n) low x l h = by_lt_z low x (λ b. inr (upwards_in n (low +ℤ pos 1) x (omega (arith, ints)) (omega (arith, ints)))) (λ b. inl (omega (arith, ints)))

natural_is : (z : ℤ) → pos 0 ≤ℤ z → pos (natural z) ≡ z
natural_is (pos n) l = refl
natural_is (negsuc n) l = absurd (omega (arith, ints))

natural_none : (z : ℤ) → z ≤ℤ pos 0 → natural z ≡ 0
natural_none (pos n) l = omega (arith, ints)
natural_none (negsuc n) l = refl

in_numbers : (b : Range) (x : ℤ) → In x (numbers b) → (b.low ≤ℤ x) × (x ≤ℤ b.high)
in_numbers b x i =
    let w : ℤ = (b.high +ℤ pos 1) -ℤ b.low in
    let r = in_upwards (natural w) b.low x i in
    by_lt_z (pos 0) w (λ l. let e = natural_is w (omega (arith, ints)) in (r.0, omega (arith, ints))) (λ l. let e = natural_none w l in let n : natural w ≡ 0 = e in absurd (omega (arith, ints)))

numbers_in : (b : Range) (x : ℤ) → b.low ≤ℤ x → x ≤ℤ b.high → In x (numbers b)
numbers_in b x l h =
    let w : ℤ = (b.high +ℤ pos 1) -ℤ b.low in
    let e = natural_is w (omega (arith, ints)) in
    upwards_in (natural w) b.low x l (omega (arith, ints))

pub box_points_lie : (rs : List Range) (xs : List ℤ) → In xs (box_points rs) → IsTrue (lies_in rs xs)
box_points_lie [] [] i = refl
box_points_lie [] (x ∷ xs) (inl k) = cc
box_points_lie [] (x ∷ xs) (inr i) = absurd i
box_points_lie (r ∷ rs) xs i =
    let p = in_flat (λ x. map (λ p. x ∷ p) (box_points rs)) (numbers r) xs i in
    let q = in_map (λ ys. p.0 ∷ ys) (box_points rs) xs p.1.1 in
    let b = in_numbers r p.0 p.1.0 in
    subst (λ z. IsTrue (lies_in (r ∷ rs) z)) q.1.1 (lies_more r rs p.0 q.0 b.0 b.1 (box_points_lie rs q.0 q.1.0))

pub lying_in_box : (rs : List Range) (xs : List ℤ) → IsTrue (lies_in rs xs) → In xs (box_points rs)
lying_in_box [] [] b = inl refl
lying_in_box [] (x ∷ xs) b = absurd cc
lying_in_box (r ∷ rs) [] b = absurd cc
lying_in_box (r ∷ rs) (x ∷ xs) b =
    let f = lies_first r rs x xs b in
    flat_in (λ x. map (λ p. x ∷ p) (box_points rs)) (numbers r) x (x ∷ xs) (numbers_in r x f.low f.high)
    (map_in (λ ys. x ∷ ys) (box_points rs) xs (lying_in_box rs xs f.others))

-- the instances of a piece

begins_front : (xs hs : List ℤ) → begins xs (xs ++ hs) ≡ true
begins_front [] hs = refl
begins_front (x ∷ xs) hs = let e : int_eq x x ≡ true = grind (arith, ints) in rw (e, begins_front xs hs) refl

-- what a point begins with, and the rest of it
begins_parts : (xs p : List ℤ) → begins xs p ≡ true → (hs : List ℤ) × (p ≡ xs ++ hs)
begins_parts [] p h = (p, refl)
begins_parts (x ∷ xs) [] h = absurd cc
begins_parts (x ∷ xs) (y ∷ p) h =
    let q = and_parts (int_eq x y) (begins xs p) h in
    let same : int_eq x y ≡ true = q.0 in
    let first : y ≡ x = grind (arith, ints) in
    let r = begins_parts xs p q.1 in
    (r.0, ap₂ (λ z zs. z ∷ zs) first r.1)

take_front : {X : Type 0} (xs ys : List X) → take (length xs) (xs ++ ys) ≡ xs
take_front [] ys = refl
take_front (x ∷ xs) ys = ap (λ t. x ∷ t) (take_front xs ys)

abbrev variables : List Around → ℕ
variables ps = loops ps + steps ps

-- the boxes of the levels
pub level_boxes : (ps : List Around) → take (loops ps) (system_of ps).boxes ≡ boxes_from [] ps
level_boxes ps =
    ap (λ n. take n (boxes_from [] ps ++ hidden_boxes (boxes_from [] ps) ps)) (sym (length_boxes [] ps))
    ∙ take_front (boxes_from [] ps) (hidden_boxes (boxes_from [] ps) ps)

tested_from : (ps : List Around) (xs : List ℤ) → LevelsFit [] ps → length xs ≡ loops ps → begins_some (system_of ps) xs ≡ true → Between [] ps xs
tested_from ps xs fit e h =
    let r = any_from (begins xs) (points (system_of ps)) h in
    let q = in_filter (all_hold (system_of ps).rows) (box_points (system_of ps).boxes) r.0 r.1.0 in
    let cut = begins_parts xs r.0 r.1.1 in
    let hs : List ℤ = cut.0 in
    let lies : IsTrue (lies_in (system_of ps).boxes (xs ++ hs)) = subst (λ z. IsTrue (lies_in (system_of ps).boxes z)) cut.1 (box_points_lie (system_of ps).boxes r.0 q.0) in
    rows_held (variables ps) [] ps [] xs [] hs (loops ps) refl e (sym e ∙ omega arith) fit
    (lies_parts (boxes_from [] ps) (hidden_boxes (boxes_from [] ps) ps) xs hs (e ∙ sym (length_boxes [] ps)) lies)
    (subst (λ z. all_hold (system_of ps).rows z ≡ true) cut.1 q.1)

tested_to : (ps : List Around) (xs : List ℤ) → LevelsFit [] ps → Between [] ps xs → begins_some (system_of ps) xs ≡ true
tested_to ps xs fit b =
    let e = length_between [] ps xs b in
    let r = rows_hold (variables ps) [] ps [] xs [] (loops ps) refl (sym e ∙ omega arith) fit refl b in
    any_in (begins xs) (points (system_of ps)) (xs ++ r.0)
    (filter_in (all_hold (system_of ps).rows) (box_points (system_of ps).boxes) (xs ++ r.0)
    (lying_in_box (system_of ps).boxes (xs ++ r.0) (lies_both (boxes_from [] ps) (hidden_boxes (boxes_from [] ps) ps) xs r.0 (lies_between ps xs fit b) r.1.0)) r.1.1)
    (begins_front xs r.0)

pub in_instances : (s : Statement) (xs : List ℤ) → LevelsFit [] s.around → In xs (instances (piece_of s)) → Between [] s.around xs
in_instances s xs fit i =
    let bs = take (loops s.around) (system_of s.around).boxes in
    let p = in_filter (begins_some (system_of s.around)) (box_points bs) xs i in
    let l = lies_length bs xs (box_points_lie bs xs p.0) in
    tested_from s.around xs fit (l ∙ ap length (level_boxes s.around) ∙ length_boxes [] s.around) p.1

pub instances_in : (s : Statement) (xs : List ℤ) → LevelsFit [] s.around → Between [] s.around xs → In xs (instances (piece_of s))
instances_in s xs fit b =
    let bs = take (loops s.around) (system_of s.around).boxes in
    filter_in (begins_some (system_of s.around)) (box_points bs) xs
    (lying_in_box bs xs (subst (λ z. IsTrue (lies_in z xs)) (sym (level_boxes s.around)) (lies_between s.around xs fit b)))
    (tested_to s.around xs fit b)

-- the sum over some values is that over all numbers of a range, where the others give 0

over_none : (n : ℕ) (low : ℤ) (c : ℤ → ℕ) → ((x : ℤ) → low ≤ℤ x → c x ≡ 0) → sum_over (upwards n low) c ≡ 0
over_none zero low c h = refl
over_none (suc n) low c h =
    let a = h low (omega (arith, ints)) in
    let b = over_none n (low +ℤ pos 1) c (λ x l. h x (omega (arith, ints))) in
    omega arith

abbrev Within : ℕ → ℤ → List ℤ → Type 0
Within n low vs = Each (λ v. (low ≤ℤ v) × (v <ℤ (low +ℤ pos n))) vs

each_same : (P Q : ℤ → Type 0) (vs : List ℤ) → ((v : ℤ) → P v → Q v) → Each P vs → Each Q vs
each_same P Q [] f h = tt
each_same P Q (v ∷ vs) f h = (f v h.0, each_same P Q vs f h.1)

each_two : (P Q R : ℤ → Type 0) (vs : List ℤ) → ((v : ℤ) → P v → Q v → R v) → Each P vs → Each Q vs → Each R vs
each_two P Q R [] f h g = tt
each_two P Q R (v ∷ vs) f h g = (f v h.0 g.0, each_two P Q R vs f h.1 g.1)

picked : (n : ℕ) (low : ℤ) (vs : List ℤ) (c f : ℤ → ℕ) → Rising vs → Within n low vs → ((x : ℤ) → In x vs → c x ≡ f x) → ((x : ℤ) → low ≤ℤ x → (In x vs → ⊥) → c x ≡ 0)
    → sum_over (upwards n low) c ≡ sum_over vs f
picked n low [] c f r w same none = over_none n low c (λ x l. none x l (λ i. i))
picked zero low (v ∷ vs) c f r w same none = let a = w.0.0 in let b = w.0.1 in absurd (omega (arith, ints))
picked (suc n) low (v ∷ vs) c f r w same none = by_lt_z low v
    (λ l.
    let zero_here = none low (omega (arith, ints)) (before l) in
    let more = picked n (low +ℤ pos 1) (v ∷ vs) c f r (later l) same (λ x m. none x (omega (arith, ints))) in
    omega arith)
    (λ l.
    let a = w.0.0 in
    let is : low ≡ v = omega (arith, ints) in
    let here : c low ≡ f v = ap c is ∙ same v (inl refl) in
    let more = picked n (low +ℤ pos 1) vs c f r.1
    (each_two (λ y. v <ℤ y) (λ y. (low ≤ℤ y) × (y <ℤ (low +ℤ pos (suc n)))) (λ y. ((low +ℤ pos 1) ≤ℤ y) × (y <ℤ ((low +ℤ pos 1) +ℤ pos n))) vs
    (λ y g h. let p = h.0 in let q = h.1 in (omega (arith, ints), omega (arith, ints))) r.0 w.1)
    (λ x i. same x (inr i)) (λ x m out. none x (omega (arith, ints)) (λ i. other is x m out i)) in
    omega arith)
  where
    each_at : (P : ℤ → Type 0) (us : List ℤ) (x : ℤ) → Each P us → In x us → P x
    each_at P [] x h i = absurd i
    each_at P (u ∷ us) x h (inl e) = subst P e h.0
    each_at P (u ∷ us) x h (inr i) = each_at P us x h.1 i

    before : low <ℤ v → In low (v ∷ vs) → ⊥
    before l (inl e) = omega (arith, ints)
    before l (inr i) = let m : v <ℤ low = each_at (λ y. v <ℤ y) vs low r.0 i in omega (arith, ints)

    later : low <ℤ v → Within n (low +ℤ pos 1) (v ∷ vs)
    later l = let q = w.0.1 in (
      (omega (arith, ints), omega (arith, ints)),
      each_two (λ y. v <ℤ y) (λ y. (low ≤ℤ y) × (y <ℤ (low +ℤ pos (suc n)))) (λ y. ((low +ℤ pos 1) ≤ℤ y) × (y <ℤ ((low +ℤ pos 1) +ℤ pos n))) vs
          (λ y g h. let s = h.1 in (omega (arith, ints), omega (arith, ints))) r.0 w.1,
    )

    other : low ≡ v → (x : ℤ) → (low +ℤ pos 1) ≤ℤ x → (In x vs → ⊥) → In x (v ∷ vs) → ⊥
    other is x m out (inl e) = omega (arith, ints)
    other is x m out (inr i) = out i

-- filtered points of a box

none_by : {X : Type 0} (b : Bool) (x : X) (rest : List X) → (b ≡ true → ⊥) → rest ≡ [] → cond b (x ∷ rest) rest ≡ []
none_by true x rest h e = absurd (h refl)
none_by false x rest h e = e

filter_none : {X : Type 0} (t : X → Bool) (xs : List X) → ((x : X) → In x xs → t x ≡ true → ⊥) → filter t xs ≡ []
filter_none t [] h = refl
filter_none t (x ∷ xs) h = none_by (t x) x (filter t xs) (h x (inl refl)) (filter_none t xs (λ y i. h y (inr i)))

length_flat : (t : List ℤ → Bool) (bs : List Range) (n : ℕ) (low : ℤ)
    → length (filter t (flat_map (λ x. map (λ p. x ∷ p) (box_points bs)) (upwards n low))) ≡ sum_over (upwards n low) (λ x. length (filter (λ p. t (x ∷ p)) (box_points bs)))
length_flat t bs zero low = refl
length_flat t bs (suc n) low =
    let c : ℤ → ℕ = λ x. length (filter (λ p. t (x ∷ p)) (box_points bs)) in
    let front : List (List ℤ) = map (λ p. low ∷ p) (box_points bs) in
    let back : List (List ℤ) = flat_map (λ x. map (λ p. x ∷ p) (box_points bs)) (upwards n (low +ℤ pos 1)) in
    let a : length (filter t (front ++ back)) ≡ length (filter t front) + length (filter t back) = ap length (filter-append t front back) ∙ length-append (filter t front) (filter t back) in
    let b : length (filter t front) ≡ c low = ap length (filter_cons t low (box_points bs)) ∙ length-map (filter (λ p. t (low ∷ p)) (box_points bs)) (λ p. low ∷ p) in
    let d = length_flat t bs n (low +ℤ pos 1) in
    omega arith

count_met : (b : Bool) (k n : ℕ) → (b ≡ true → k ≡ n) → (b ≡ false → k ≡ 0) → k ≡ (if b then n else 0)
count_met true k n h g = h refl
count_met false k n h g = g refl

not_both : (b : Bool) → b ≡ false → b ≡ true → ⊥
not_both true e f = absurd cc
not_both false e f = absurd cc

count_points : (t : List ℤ → Bool) (boxes : List Range) (ps : List Around) (pre : List ℤ) → LevelsFit boxes ps → IsTrue (lies_in boxes pre)
    → ((p : List ℤ) → length p ≡ loops ps → t p ≡ true → Between pre ps p) → ((p : List ℤ) → Between pre ps p → t p ≡ true)
    → length (filter t (box_points (boxes_from boxes ps))) ≡ turns_below ps pre
count_points t boxes [] pre fit inside from to = let e : t [] ≡ true = to [] tt in rw e refl
count_points t boxes (Inside l ∷ ps) pre fit inside from to =
    let box : Range = box_of boxes l.lows l.highs in
    let vs : List ℤ = loop_values (low_of l.lows pre) (high_of l.highs pre) l.step in
    let inner : List Range = boxes_from (boxes ++ box ∷ []) ps in
    let n : ℕ = natural ((box.high +ℤ pos 1) -ℤ box.low) in
    let c : ℤ → ℕ = λ x. length (filter (λ p. t (x ∷ p)) (box_points inner)) in
    let f : ℤ → ℕ = λ x. turns_below ps (pre ++ x ∷ []) in
    let long : (p : List ℤ) → In p (box_points inner) → length p ≡ loops ps = λ p i. lies_length inner p (box_points_lie inner p i) ∙ length_boxes (boxes ++ box ∷ []) ps in
    length_flat t inner n box.low
    ∙ picked n box.low vs c f (values_rise (low_of l.lows pre) (high_of l.highs pre) l.step)
    (each_from_in (λ v. (box.low ≤ℤ v) × (v <ℤ (box.low +ℤ pos n))) vs (λ v i.
    let here = value_in_box boxes l pre v fit.0 inside i in
    let a = here.low in
    let b = here.high in
    let e = natural_is ((box.high +ℤ pos 1) -ℤ box.low) (omega (arith, ints)) in
    (a, omega (arith, ints, e))))
    (λ x i.
    let here = value_in_box boxes l pre x fit.0 inside i in
    count_points (λ p. t (x ∷ p)) (boxes ++ box ∷ []) ps (pre ++ x ∷ []) fit.2 (lies_push boxes box pre x inside here.low here.high)
    (λ p k e. (from (x ∷ p) (ap suc k) e).1) (λ p m. to (x ∷ p) (i, m)))
    (λ x o out. ap length (filter_none (λ p. t (x ∷ p)) (box_points inner) (λ p i e. out (from (x ∷ p) (ap suc (long p i)) e).0)))
count_points t boxes (Where row ∷ ps) pre fit inside from to =
    let points : List (List ℤ) = box_points (boxes_from boxes ps) in
    let long : (p : List ℤ) → In p points → length p ≡ loops ps = λ p i. lies_length (boxes_from boxes ps) p (box_points_lie (boxes_from boxes ps) p i) ∙ length_boxes boxes ps in
    count_met (is_met row pre) (length (filter t points)) (turns_below ps pre)
    (λ m. count_points t boxes ps pre fit.1 inside (λ p k e. (from p k e).1) (λ p b. to p (m, b)))
    (λ m. ap length (filter_none t points (λ p i e. not_both (is_met row pre) m (from p (long p i) e).0)))

pub instances_counted : (s : Statement) → LevelsFit [] s.around → length (instances (piece_of s)) ≡ instances_of s
instances_counted s fit =
    ap (λ bs. length (filter (begins_some (system_of s.around)) (box_points bs))) (level_boxes s.around)
    ∙ count_points (begins_some (system_of s.around)) [] s.around [] fit refl (λ p e h. tested_from s.around p fit e h) (λ p b. tested_to s.around p fit b)
