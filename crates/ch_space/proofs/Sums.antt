-- The statements of a nest have together at most as many instances as it takes turns and instances.
use Rattle.std.proofs.Common.{◌≡◌, refl, sym, ap, ap₂, ◌∙◌, subst, ℕ, ◌+◌, ◌≤◌, ℤ, Bool, true, false, if◌then◌else◌, List, [], ◌∷◌, ◌++◌, length, map, arith}
use Rattle.std.specs.List.{fold, sum}
use Rattle.ch_affine.specs.Form.{Form}
use Rattle.ch_nest.specs.declared.nest.Body.{Body}
use Rattle.ch_nest.specs.declared.nest.Item.{Item}
use Rattle.ch_nest.specs.declared.nest.Item.TheVariants.{Loop, If, Assign}
use Rattle.ch_nest.specs.Run.{is_met, values_at}
use Rattle.ch_nest.specs.Sound.{Measure, turns_work, item_work, items_work}
use Rattle.ch_space.specs.declared.level.Around.{Around}
use Rattle.ch_space.specs.declared.level.Around.TheVariants.{Inside, Where}
use Rattle.ch_space.specs.declared.level.Level.{Level}
use Rattle.ch_space.specs.Statements.{Statement, at_numbers, findings, findings_of, statements, sum_over, turns_below, instances_of}
use Rattle.ch_space.proofs.FindingCases.{findings_assign, findings_if, findings_loop, numbers_append, numbers_met}
use Rattle.ch_space.proofs.Judgings.{assign_work, if_work, loop_work}
use Rattle.ch_timed.specs.Members.{Each}
use Rattle.ch_timed.proofs.ItemCases.{each_item}

-- the sum of a measure over all values of these loops at which the conditions are met
abbrev sum_below : List Around → List ℤ → Measure → ℕ
sum_below [] point f = f point
sum_below (Inside l ∷ ps) point f = sum_over (values_at l.lows l.highs l.step point) (λ i. sum_below ps (point ++ i ∷ []) f)
sum_below (Where row ∷ ps) point f = if is_met row point then sum_below ps point f else 0

over_le : (xs : List ℤ) (f g : ℤ → ℕ) → ((i : ℤ) → f i ≤ g i) → sum_over xs f ≤ sum_over xs g
over_le [] f g h = omega arith
over_le (x ∷ xs) f g h = let a = over_le xs f g h in let b = h x in omega arith

over_same : (xs : List ℤ) (f g : ℤ → ℕ) → ((i : ℤ) → f i ≡ g i) → sum_over xs f ≡ sum_over xs g
over_same [] f g h = refl
over_same (x ∷ xs) f g h = ap₂ (λ a b. a + b) (h x) (over_same xs f g h)

over_plus : (xs : List ℤ) (f g : ℤ → ℕ) → sum_over xs (λ i. f i + g i) ≡ sum_over xs f + sum_over xs g
over_plus [] f g = refl
over_plus (x ∷ xs) f g = let a = over_plus xs f g in omega arith

over_worked : (xs : List ℤ) (f : ℤ → ℕ) → sum_over xs f ≤ turns_work xs f
over_worked [] f = omega arith
over_worked (x ∷ xs) f = let a = over_worked xs f in omega arith

if_le : (b : Bool) (m n : ℕ) → m ≤ n → (if b then m else 0) ≤ (if b then n else 0)
if_le true m n h = h
if_le false m n h = omega arith

if_plus : (b : Bool) (m n : ℕ) → (if b then m + n else 0) ≡ (if b then m else 0) + (if b then n else 0)
if_plus true m n = refl
if_plus false m n = refl

below_le : (ps : List Around) (point : List ℤ) (f g : Measure) → ((p : List ℤ) → f p ≤ g p) → sum_below ps point f ≤ sum_below ps point g
below_le [] point f g h = h point
below_le (Inside l ∷ ps) point f g h = over_le (values_at l.lows l.highs l.step point) _ _ (λ i. below_le ps (point ++ i ∷ []) f g h)
below_le (Where row ∷ ps) point f g h = if_le (is_met row point) (sum_below ps point f) (sum_below ps point g) (below_le ps point f g h)

below_plus : (ps : List Around) (point : List ℤ) (f g : Measure) → sum_below ps point (λ p. f p + g p) ≡ sum_below ps point f + sum_below ps point g
below_plus [] point f g = refl
below_plus (Inside l ∷ ps) point f g =
    over_same (values_at l.lows l.highs l.step point) _ _ (λ i. below_plus ps (point ++ i ∷ []) f g) ∙ over_plus (values_at l.lows l.highs l.step point) _ _
below_plus (Where row ∷ ps) point f g =
    ap (λ n. if is_met row point then n else 0) (below_plus ps point f g) ∙ if_plus (is_met row point) (sum_below ps point f) (sum_below ps point g)

below_inside : (ps : List Around) (l : Level) (point : List ℤ) (f : Measure)
    → sum_below (ps ++ Inside l ∷ []) point f ≡ sum_below ps point (λ p. sum_over (values_at l.lows l.highs l.step p) (λ i. f (p ++ i ∷ [])))
below_inside [] l point f = refl
below_inside (Inside k ∷ ps) l point f = over_same (values_at k.lows k.highs k.step point) _ _ (λ i. below_inside ps l (point ++ i ∷ []) f)
below_inside (Where row ∷ ps) l point f = ap (λ n. if is_met row point then n else 0) (below_inside ps l point f)

below_where : (ps : List Around) (row : Form) (point : List ℤ) (f : Measure) → sum_below (ps ++ Where row ∷ []) point f ≡ sum_below ps point (λ p. if is_met row p then f p else 0)
below_where [] row point f = refl
below_where (Inside k ∷ ps) row point f = over_same (values_at k.lows k.highs k.step point) _ _ (λ i. below_where ps row (point ++ i ∷ []) f)
below_where (Where r ∷ ps) row point f = ap (λ n. if is_met r point then n else 0) (below_where ps row point f)

turns_is : (ps : List Around) (point : List ℤ) → turns_below ps point ≡ sum_below ps point (λ p. 1)
turns_is [] point = refl
turns_is (Inside l ∷ ps) point = over_same (values_at l.lows l.highs l.step point) _ _ (λ i. turns_is ps (point ++ i ∷ []))
turns_is (Where row ∷ ps) point = ap (λ n. if is_met row point then n else 0) (turns_is ps point)

abbrev all_instances : List Statement → ℕ
all_instances ss = sum (map instances_of ss)

sum_from : (a : ℕ) (xs : List ℕ) → fold ◌+◌ a xs ≡ a + sum xs
sum_from a [] = omega arith
sum_from a (x ∷ xs) = omega (arith, sum_from (a + x) xs, sum_from (0 + x) xs)

pub sum_first : (x : ℕ) (xs : List ℕ) → sum (x ∷ xs) ≡ x + sum xs
sum_first x xs = omega (arith, sum_from (0 + x) xs)

all_both : (ss ts : List Statement) → all_instances (ss ++ ts) ≡ all_instances ss + all_instances ts
all_both [] ts = omega arith
all_both (s ∷ ss) ts =
    omega (arith, all_both ss ts, sum_first (instances_of s) (map instances_of (ss ++ ts)), sum_first (instances_of s) (map instances_of ss))

abbrev Costs : Item → Type 0
Costs item = (k : ℕ) (around : List Around) (places : List ℕ) → all_instances (at_numbers k (findings_of item) around places) ≤ sum_below around [] (item_work item)

items_cost : (items : List Item) → Each Costs items → (k : ℕ) (around : List Around) (places : List ℕ)
    → all_instances (at_numbers k (findings items) around places) ≤ sum_below around [] (items_work items)
items_cost [] h k around places = omega arith
items_cost (i ∷ is) h k around places =
    let here = at_numbers k (findings_of i) around places in
    let later = at_numbers (k + length (findings_of i)) (findings is) around places in
    let a = h.0 k around places in
    let b = items_cost is h.1 (k + length (findings_of i)) around places in
    let c = ap all_instances (numbers_append k (findings_of i) (findings is) around places) ∙ all_both here later in
    let d = below_plus around [] (item_work i) (items_work is) in
    omega arith

loop_costs : (lows highs : List Form) (step : ℕ) (items : List Item) → Each Costs items → Costs (Loop lows highs step items)
loop_costs lows highs step items h k around places =
    let l : Level = record { lows = lows; highs = highs; step = step } in
    let inner = at_numbers 0 (findings items) (around ++ Inside l ∷ []) (places ++ k ∷ []) in
    let e = ap (λ fs. all_instances (at_numbers k fs around places)) (findings_loop lows highs step items) ∙ all_both inner [] in
    let a = items_cost items h 0 (around ++ Inside l ∷ []) (places ++ k ∷ []) in
    let b = below_inside around l [] (items_work items) in
    let c = below_le around [] (λ p. sum_over (values_at lows highs step p) (λ i. items_work items (p ++ i ∷ []))) (item_work (Loop lows highs step items))
    (λ p. subst (λ n. sum_over (values_at lows highs step p) (λ i. items_work items (p ++ i ∷ [])) ≤ n) (sym (loop_work lows highs step items p))
    (over_worked (values_at lows highs step p) (λ i. items_work items (p ++ i ∷ [])))) in
    let z : all_instances [] ≡ 0 = refl in
    omega arith

if_costs : (row : Form) (items : List Item) → Each Costs items → Costs (If row items)
if_costs row items h k around places =
    let e = ap (λ fs. all_instances (at_numbers k fs around places)) (findings_if row items) ∙ ap all_instances (numbers_met row k (findings items) around places) in
    let a = items_cost items h k (around ++ Where row ∷ []) places in
    let b = below_where around row [] (items_work items) in
    let c = below_le around [] (λ p. if is_met row p then items_work items p else 0) (item_work (If row items))
    (λ p. subst (λ n. (if is_met row p then items_work items p else 0) ≤ n) (sym (if_work row items p)) (omega arith)) in
    omega arith

assign_costs : (label : ℕ) (body : Body) → Costs (Assign label body)
assign_costs label body k around places =
    let e = ap (λ fs. all_instances (at_numbers k fs around places)) (findings_assign label body) in
    let a = turns_is around [] in
    let s = sum_first (turns_below around []) [] in
    let c = below_le around [] (λ p. 1) (item_work (Assign label body)) (λ p. subst (λ n. 1 ≤ n) (sym (assign_work label body p)) (omega arith)) in
    let z : sum [] ≡ 0 = refl in
    omega arith

pub instances_few : (items : List Item) → sum (map instances_of (statements items)) ≤ items_work items []
instances_few items = items_cost items (each_item Costs loop_costs if_costs assign_costs items) 0 [] []
