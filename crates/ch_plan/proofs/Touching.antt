-- Accesses one after another.
use Rattle.std.proofs.Common.{◌≡◌, ◌∙◌, ap, sym, refl, ℕ, ℤ, List, [], ◌∷◌, ◌++◌, length, map}
use Rattle.std.proofs.lemmas.List.{map-append}
use Rattle.ch_nest.specs.CostModel.{CostModel}
use Rattle.ch_plan.specs.declared.plan.Spot.{Spot}
use Rattle.ch_plan.specs.declared.plan.Right.{Right}
use Rattle.ch_plan.specs.declared.plan.Right.TheVariants.{Add, Sub, Mul, rolls-Add, rolls-Sub, rolls-Mul}
use Rattle.ch_plan.specs.declared.plan.Right.TheFolds.{fold-roll-Right}
use Rattle.ch_plan.specs.Planned.{Walked, all_touched, spot_place, spots, spots_step, touched}

all_both : (m : CostModel) (xs ys : List ℕ) (g : Walked) → all_touched m (xs ++ ys) g ≡ all_touched m ys (all_touched m xs g)
all_both m [] ys g = refl
all_both m (x ∷ xs) ys g = all_both m xs ys (touched m x g)

pub touched_both : (m : CostModel) (point : List ℤ) (xs ys : List Spot) (g : Walked)
    → all_touched m (map (spot_place point) (xs ++ ys)) g ≡ all_touched m (map (spot_place point) ys) (all_touched m (map (spot_place point) xs) g)
touched_both m point xs ys g = ap (λ zs. all_touched m zs g) (map-append (spot_place point) xs ys) ∙ all_both m (map (spot_place point) xs) (map (spot_place point) ys) g

pub after_both : (m : CostModel) (point : List ℤ) (right x y : Right) (first between last : Walked) → spots right ≡ spots x ++ spots y
    → between ≡ all_touched m (map (spot_place point) (spots x)) first → last ≡ all_touched m (map (spot_place point) (spots y)) between
    → last ≡ all_touched m (map (spot_place point) (spots right)) first
after_both m point right x y first between last is b l =
    l ∙ ap (all_touched m (map (spot_place point) (spots y))) b ∙ sym (touched_both m point (spots x) (spots y) first)
    ∙ ap (λ zs. all_touched m (map (spot_place point) zs) first) (sym is)

pub spots_add : (right x y : Right) → right ≡ Add x y → spots right ≡ spots x ++ spots y
spots_add right x y is = ap spots is ∙ ap spots (sym (rolls-Add x y)) ∙ fold-roll-Right (List Spot) spots_step _

pub spots_sub : (right x y : Right) → right ≡ Sub x y → spots right ≡ spots x ++ spots y
spots_sub right x y is = ap spots is ∙ ap spots (sym (rolls-Sub x y)) ∙ fold-roll-Right (List Spot) spots_step _

pub spots_mul : (right x y : Right) → right ≡ Mul x y → spots right ≡ spots x ++ spots y
spots_mul right x y is = ap spots is ∙ ap spots (sym (rolls-Mul x y)) ∙ fold-roll-Right (List Spot) spots_step _

-- the values of the loops at the last element stay the same

all_last : (m : CostModel) (xs : List ℕ) (w : Walked) → (all_touched m xs w).last ≡ w.last
all_last m [] w = refl
all_last m (x ∷ xs) w = all_last m xs (touched m x w)

pub leaf_depth : (m : CostModel) (place : ℕ) (xs : List ℕ) (begun read written : Walked) (point : List ℤ) → begun.last ≡ point → read ≡ all_touched m xs begun → written ≡ touched m place read
    → length written.last ≡ length point
leaf_depth m place xs begun read written point b r w = ap (λ z. length z.last) w ∙ ap (λ z. length z.last) r ∙ ap length (all_last m xs begun) ∙ ap length b
