-- What is asked of a product's items, with each fold over its loops and its right side unrolled.
use Rattle.std.proofs.Common.{◌≡◌, ◌∙◌, sym, ap, ap₂, refl, ℕ, ◌-◌, pos, Bool, true, ◌&&◌, nat_le, is_some, List, [], ◌∷◌, length}
use Rattle.ch_demo.specs.Product.{adds_products, cell, ends, product, turns}
use Rattle.ch_nest.specs.Arrays.{extents_of}
use Rattle.ch_nest.specs.Limits.{most_conditions, most_nesting, most_operands}
use Rattle.ch_nest.specs.Limits.{most_work}
use Rattle.ch_nest.specs.Shape.{Depth, Nested, Numbering, Test, access_fits, all_pass, arrays_fit, conditions_step, each_nested, each_numbered, is_nest, item_fits_step, nested_step, numbered_step, operands_step, parts_fit_step}
use Rattle.ch_nest.specs.Sound.{Check, Measure, access_inside, all_at, expr_inside_step, inside_step, is_sound, item_inside, sum_at, work_step}
use Rattle.ch_nest.specs.declared.exprs.Standing.TheVariants.{Term}
use Rattle.ch_nest.specs.declared.nest.ArrayDecl.{ArrayDecl}
use Rattle.ch_nest.specs.declared.nest.Expr.TheFolds.{fold-Expr}
use Rattle.ch_nest.specs.declared.nest.Expr.TheOpen.{Expr-F}
use Rattle.ch_nest.specs.declared.nest.Expr.TheVariants.{Read}
use Rattle.ch_nest.specs.declared.nest.Item.{Item}
use Rattle.ch_nest.specs.declared.nest.Item.TheFolds.{fold-Item}
use Rattle.ch_nest.specs.declared.nest.Item.TheOpen.{Item-F}
use Rattle.ch_nest.specs.declared.nest.Item.TheVariants.{Assign}
use Rattle.ch_nestparse.proofs.ItemsFit.{fold_assign, fold_loop}
use Rattle.ch_nestparse.proofs.Nesting.{fold_add, fold_mul, fold_read}

-- ---- loops

abbrev turn : {C : Type 0} → (Item-F C → C) → ℕ → ℕ → C → C
turn step around n x = step (Item-F.Loop (ends around (pos 0)) (ends around (pos (n - 1))) 1 (x ∷ []))

abbrev unrolled : {C : Type 0} → (Item-F C → C) → ℕ → C → C
unrolled step n x = turn step 0 n (turn step 1 n (turn step 2 n x))

abbrev outer : ℕ → Item
outer n = turns 0 n (turns 1 n (turns 2 n (Assign 0 adds_products)))

one_turn : {C : Type 0} (step : Item-F C → C) (around n : ℕ) (item : Item) (x : C) → fold-Item C step item ≡ x → fold-Item C step (turns around n item) ≡ turn step around n x
one_turn {C = C} step around n item x e =
    fold_loop step (ends around (pos 0)) (ends around (pos (n - 1))) 1 (item ∷ []) ∙ ap (λ (y : C). turn step around n y) e

all_turns : {C : Type 0} (step : Item-F C → C) (n : ℕ) → fold-Item C step (outer n) ≡ unrolled step n (step (Item-F.Assign 0 adds_products))
all_turns step n =
    one_turn step 0 n (turns 1 n (turns 2 n (Assign 0 adds_products))) (turn step 1 n (turn step 2 n (step (Item-F.Assign 0 adds_products))))
    (one_turn step 1 n (turns 2 n (Assign 0 adds_products)) (turn step 2 n (step (Item-F.Assign 0 adds_products)))
    (one_turn step 2 n (Assign 0 adds_products) (step (Item-F.Assign 0 adds_products)) (fold_assign step 0 adds_products)))

-- ---- the right side

abbrev right_of : (C : Type 0) → (Expr-F C → C) → C
right_of C step =
    step (Expr-F.Add (step (Expr-F.Read (cell 2 0 1))) (step (Expr-F.Mul (step (Expr-F.Read (cell 0 0 2))) (step (Expr-F.Read (cell 1 2 1))))))

all_parts : (C : Type 0) (step : Expr-F C → C) → fold-Expr C step adds_products.right ≡ right_of C step
all_parts C step =
    fold_add step _ _
    ∙ ap₂ (λ (a b : C). step (Expr-F.Add a b)) (fold_read step (cell 2 0 1))
    (fold_mul step _ _ ∙ ap₂ (λ (a b : C). step (Expr-F.Mul a b)) (fold_read step (cell 0 0 2)) (fold_read step (cell 1 2 1)))

-- ---- it can be run

abbrev assign_inside : List (List ℕ) → Check
assign_inside extents point = access_inside extents point (cell 2 0 1) && right_of Bool (expr_inside_step extents point)

abbrev pub sound_test : ℕ → Bool
sound_test n =
    all_at (unrolled (inside_step (extents_of (product n).arrays)) n (assign_inside (extents_of (product n).arrays)) ∷ []) []
    && nat_le (sum_at (unrolled work_step n (work_step (Item-F.Assign 0 adds_products)) ∷ []) []) most_work

inside_is : (extents : List (List ℕ)) (n : ℕ) → item_inside extents (outer n) ≡ unrolled (inside_step extents) n (assign_inside extents)
inside_is extents n =
    all_turns (inside_step extents) n
    ∙ ap (λ (f : Check). unrolled (inside_step extents) n f) (λ i point. access_inside extents point (cell 2 0 1) && all_parts Bool (expr_inside_step extents point) i)

pub sound_is : (n : ℕ) → is_sound (product n) ≡ sound_test n
sound_is n =
    ap₂ (λ (f : Check) (g : Measure). all_at (f ∷ []) [] && nat_le (sum_at (g ∷ []) []) most_work) (inside_is (extents_of (product n).arrays) n) (all_turns work_step n)

-- ---- it is well formed

abbrev assign_fits : List ArrayDecl → Test
assign_fits arrays boxes =
    access_fits arrays (length boxes) (cell 2 0 1)
    && (right_of Bool (parts_fit_step arrays (length boxes)) && (nat_le (right_of ℕ operands_step) most_operands && right_of Nested nested_step Term most_nesting))

abbrev pub nest_test : ℕ → Bool
nest_test n =
    (arrays_fit (product n).arrays && each_nested (unrolled conditions_step n (conditions_step (Item-F.Assign 0 adds_products)) ∷ []) most_conditions)
    && (is_some (each_numbered (unrolled numbered_step n (numbered_step (Item-F.Assign 0 adds_products)) ∷ []) 0)
    && all_pass (unrolled (item_fits_step (product n).arrays) n (assign_fits (product n).arrays) ∷ []) [])

fits_is : (arrays : List ArrayDecl) (n : ℕ) → fold-Item Test (item_fits_step arrays) (outer n) ≡ unrolled (item_fits_step arrays) n (assign_fits arrays)
fits_is arrays n =
    all_turns (item_fits_step arrays) n
    ∙ ap (λ (f : Test). unrolled (item_fits_step arrays) n f)
    (λ i boxes. access_fits arrays (length boxes) (cell 2 0 1) && (all_parts Bool (parts_fit_step arrays (length boxes)) i && (nat_le (all_parts ℕ operands_step i) most_operands && all_parts Nested nested_step i Term most_nesting)))

pub nest_is : (n : ℕ) → is_nest (product n) ≡ nest_test n
nest_is n =
    let depth = all_turns {C = Depth} conditions_step n in
    let numbers = all_turns {C = Numbering} numbered_step n in
    let fits = fits_is (product n).arrays n in
    λ i. (arrays_fit (product n).arrays && each_nested (depth i ∷ []) most_conditions) && (is_some (each_numbered (numbers i ∷ []) 0) && all_pass (fits i ∷ []) [])
