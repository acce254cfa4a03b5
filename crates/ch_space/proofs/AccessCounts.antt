-- The statements of a nest have few accesses: at most 16 statements, each with a write and at most 256 reads.
use Rattle.std.proofs.Common.{◌≡◌, refl, sym, ap, ◌∙◌, subst, ℕ, ◌+◌, ◌*◌, ◌^◌, ◌<◌, ◌≤◌, Bool, true, false, ◌&&◌, nat_eq, nat_le, nat_lt, if◌then◌else◌, is_some, Option, Some, None, List, [], ◌∷◌, ◌++◌, length, map, take, arith}
use Rattle.std.specs.Bool.{IsTrue}
use Rattle.std.specs.List.{sum}
use Rattle.std.proofs.lemmas.Bool.{and_parts, leb-true, ltb-true}
use Rattle.std.proofs.lemmas.List.{length-append, map-append}
use Rattle.std.proofs.lemmas.List.Sums.{sum_by-append, sum_by-take-le}
use Rattle.ch_affine.specs.Form.{Form}
use Rattle.ch_affine.specs.declared.system.Range.{Range}
use Rattle.ch_nest.specs.declared.nest.Access.{Access}
use Rattle.ch_nest.specs.declared.nest.ArrayDecl.{ArrayDecl}
use Rattle.ch_nest.specs.declared.nest.Body.{Body}
use Rattle.ch_nest.specs.declared.nest.Expr.{Expr, map-Expr}
use Rattle.ch_nest.specs.declared.nest.Expr.TheOpen.{Expr-F}
use Rattle.ch_nest.specs.declared.nest.Expr.TheFolds.{fold-roll-Expr, ind-Expr}
use Rattle.ch_nest.specs.declared.nest.Item.{Item}
use Rattle.ch_nest.specs.declared.nest.Item.TheOpen.{Item-F}
use Rattle.ch_nest.specs.declared.nest.Item.TheVariants.{Loop, If, Assign, rolls-Loop, rolls-If, rolls-Assign}
use Rattle.ch_nest.specs.declared.nest.Item.TheFolds.{fold-roll-Item}
use Rattle.ch_nest.specs.Limits.{most_operands, most_statements, most_nesting}
use Rattle.ch_nest.specs.LoopNest.{LoopNest}
use Rattle.ch_nest.specs.Shape.{Numbering, access_fits, after, all_numbered, arrays_fit, body_fits, box_of, each_numbered, expr_fits, head_fits, is_nest, is_small, item_fits, items_fit, nested, numbered, numbered_step, operands, operands_step, parts_fit}
use Rattle.ch_nest.specs.declared.exprs.Standing.TheVariants.{Term}
use Rattle.ch_nest.proofs.Fits.{if_fit, loop_fits_is}
use Rattle.ch_nest.proofs.Turns.{assign_fits_is}
use Rattle.ch_space.proofs.Bodies.{nest_fits, nest_numbered}
use Rattle.ch_space.specs.Judged.{access_count, accesses_before, bodies, bodies_of}
use Rattle.ch_space.proofs.Subscripted.{assign_bodies, if_bodies, loop_bodies}
use Rattle.ch_timed.specs.Conflict.{reads, reads_step}
use Rattle.ch_timed.specs.declared.element.Label.TheVariants.{Stmt}
use Rattle.ch_timed.specs.Members.{Each}
use Rattle.ch_timed.proofs.ItemCases.{each_item}

sum_both : (xs ys : List ℕ) → sum (xs ++ ys) ≡ sum xs + sum ys
sum_both xs ys = sum_by-append (λ x. x) xs ys

pub sum_take : (n : ℕ) (xs : List ℕ) → sum (take n xs) ≤ sum xs
sum_take n xs = sum_by-take-le (λ x. x) xs n

-- a right side reads no more than it has operands

abbrev Few : Expr → Type 0
Few e = length (reads e) ≤ operands e

abbrev Known : Type 0
Known = (e : Expr) × Few e

abbrev bare : Known → Expr
bare k = k.0

both : (xs ys : List Access) (a b : ℕ) → length xs ≤ a → length ys ≤ b → length (xs ++ ys) ≤ a + b
both xs ys a b p q = let e = length-append xs ys in omega arith

layer : (y : Expr-F Known)
    → length (reads_step (map-Expr Expr (List Access) reads (map-Expr Known Expr bare y))) ≤ operands_step (map-Expr Expr ℕ operands (map-Expr Known Expr bare y))
layer (Expr-F.Number m) = omega arith
layer (Expr-F.Iter k) = omega arith
layer (Expr-F.Read a) = omega arith
layer (Expr-F.Neg x) = x.1
layer (Expr-F.Add x y) = both _ _ _ _ x.1 y.1
layer (Expr-F.Sub x y) = both _ _ _ _ x.1 y.1
layer (Expr-F.Mul x y) = both _ _ _ _ x.1 y.1

by_folds : (xs ys : List Access) (a b : ℕ) → xs ≡ ys → a ≡ b → length ys ≤ b → length xs ≤ a
by_folds xs ys a b p q h = rw (p, q) h

few_reads : (e : Expr) → Few e
few_reads = ind-Expr Few (λ x y is.
    by_folds _ _ _ _ (fold-roll-Expr (List Access) reads_step x) (fold-roll-Expr ℕ operands_step x)
    (subst (λ z. length (reads_step (map-Expr Expr (List Access) reads z)) ≤ operands_step (map-Expr Expr ℕ operands z)) is (layer y)))

pub body_few : (arrays : List ArrayDecl) (n : ℕ) (b : Body) → IsTrue (body_fits arrays n b) → access_count b ≤ 257
body_few arrays n b h =
    let right = (and_parts (access_fits arrays n b.write) (expr_fits arrays n b.right) h).1 in
    let size = (and_parts (parts_fit arrays n b.right) (nat_le (operands b.right) most_operands && nested b.right Term most_nesting) right).1 in
    let few : operands b.right ≤ 256 = leb-true (operands b.right) most_operands ((and_parts (nat_le (operands b.right) most_operands) (nested b.right Term most_nesting) size).0) in
    let below = few_reads b.right in
    omega arith

-- statements are numbered, so there are few

after_parts : (o : Option ℕ) (next : Numbering) (m : ℕ) → after o next ≡ Some m → (j : ℕ) × ((o ≡ Some j) × (next j ≡ Some m))
after_parts None next m h = absurd cc
after_parts (Some j) next m h = (j, (refl, h))

numbered_loop : (lows highs : List Form) (step : ℕ) (items : List Item) (k : ℕ) → numbered (Loop lows highs step items) k ≡ each_numbered (map numbered items) k
numbered_loop lows highs step items k = ap (λ f. f k) (ap numbered (sym (rolls-Loop lows highs step items)) ∙ fold-roll-Item Numbering numbered_step _)

numbered_if : (row : Form) (items : List Item) (k : ℕ) → numbered (If row items) k ≡ each_numbered (map numbered items) k
numbered_if row items k = ap (λ f. f k) (ap numbered (sym (rolls-If row items)) ∙ fold-roll-Item Numbering numbered_step _)

numbered_assign : (label : ℕ) (body : Body) (k : ℕ) → numbered (Assign label body) k ≡ numbered_step (Item-F.Assign label body) k
numbered_assign label body k = ap (λ f. f k) (ap numbered (sym (rolls-Assign label body)) ∙ fold-roll-Item Numbering numbered_step _)

leaf_number : (t : Bool) (k m : ℕ) → (if t then Some (k + 1) else None) ≡ Some m → (t ≡ true) × (m ≡ k + 1)
leaf_number true k m h = (refl, cc)
leaf_number false k m h = absurd cc

-- between two numbers of statements: at most 16, and at most 257 accesses each
record Between (k m accesses : ℕ) : Type 0 where
  last : k ≤ 16 → m ≤ 16
  few : accesses + k * 257 ≤ m * 257

module _ (arrays : List ArrayDecl) where
  abbrev Weighed : Item → Type 0
  Weighed item = (boxes : List Range) (k m : ℕ) → IsTrue (item_fits arrays item boxes) → numbered item k ≡ Some m → Between k m (sum (map access_count (bodies_of item)))

  each_weighed : (items : List Item) → Each Weighed items → (boxes : List Range) (k m : ℕ) → IsTrue (items_fit arrays items boxes) → all_numbered items k ≡ Some m
      → Between k m (sum (map access_count (bodies items)))
  each_weighed [] h boxes k m fit e = let same : k ≡ m = cc in record { last = λ l. omega arith; few = omega arith }
  each_weighed (i ∷ is) h boxes k m fit e =
      let fits = and_parts (item_fits arrays i boxes) (items_fit arrays is boxes) fit in
      let p = after_parts (numbered i k) (each_numbered (map numbered is)) m e in
      let a = h.0 boxes k p.0 fits.0 p.1.0 in
      let b = each_weighed is h.1 boxes p.0 m fits.1 p.1.1 in
      let both_sums : sum (map access_count (bodies (i ∷ is))) ≡ sum (map access_count (bodies_of i)) + sum (map access_count (bodies is)) =
      ap sum (map-append access_count (bodies_of i) (bodies is)) ∙ sum_both (map access_count (bodies_of i)) (map access_count (bodies is)) in
      let x = a.few in
      let y = b.few in
      record { last = λ l. b.last (a.last l); few = omega arith }

  weighed_loop : (lows highs : List Form) (step : ℕ) (items : List Item) → Each Weighed items → Weighed (Loop lows highs step items)
  weighed_loop lows highs step items h boxes k m fit e =
      let g = rw (loop_fits_is arrays lows highs step items boxes) at fit in
      let below = and_parts (is_small (box_of boxes lows highs)) (items_fit arrays items (boxes ++ box_of boxes lows highs ∷ []))
      ((and_parts (head_fits (length boxes) lows highs step && nat_lt 0 (length (map (item_fits arrays) items))) (is_small (box_of boxes lows highs) && items_fit arrays items (boxes ++ box_of boxes lows highs ∷ [])) g).1) in
      rw (loop_bodies lows highs step items) (each_weighed items h (boxes ++ box_of boxes lows highs ∷ []) k m below.1 (sym (numbered_loop lows highs step items k) ∙ e))

  weighed_if : (row : Form) (items : List Item) → Each Weighed items → Weighed (If row items)
  weighed_if row items h boxes k m fit e =
      rw (if_bodies row items) (each_weighed items h boxes k m (if_fit arrays (If row items) row items boxes refl fit).inner (sym (numbered_if row items k) ∙ e))

  weighed_assign : (label : ℕ) (body : Body) → Weighed (Assign label body)
  weighed_assign label body boxes k m fit e =
      let q = leaf_number (nat_eq label k && nat_lt k most_statements) k m (sym (numbered_assign label body k) ∙ e) in
      let small : k < 16 = ltb-true k most_statements ((and_parts (nat_eq label k) (nat_lt k most_statements) q.0).1) in
      let next = q.1 in
      let few = body_few arrays (length boxes) body (rw (assign_fits_is arrays label body boxes) at fit) in
      rw (assign_bodies label body) (record { last = λ l. omega arith; few = omega arith })

  weighed : (items : List Item) → Each Weighed items
  weighed = each_item Weighed weighed_loop weighed_if weighed_assign

some_of : (o : Option ℕ) → is_some o ≡ true → (m : ℕ) × (o ≡ Some m)
some_of None h = absurd cc
some_of (Some m) h = (m, refl)

pub nest_few : (nest : LoopNest) → IsTrue (is_nest nest) → sum (map access_count (bodies nest.items)) ≤ 4112
nest_few nest h =
    let number = some_of (all_numbered nest.items 0) (nest_numbered nest h) in
    let w = each_weighed nest.arrays nest.items (weighed nest.arrays nest.items) [] 0 number.0 (nest_fits nest h) number.1 in
    let most : number.0 ≤ 16 = w.last (omega arith) in
    let few = w.few in
    omega arith

pub items_few : (nest : LoopNest) (items : List Item) → items ≡ nest.items → IsTrue (is_nest nest) → sum (map access_count (bodies items)) < 2 ^ 32
items_few nest items e h = let few = nest_few nest h in rw e (omega arith)

pub instance_few : (nest : LoopNest) (items : List Item) (label before n : ℕ) (body : Body) → items ≡ nest.items → IsTrue (is_nest nest) → IsTrue (body_fits nest.arrays n body)
    → before ≡ accesses_before items (Stmt label) → before + access_count body < 2 ^ 32
instance_few nest items label before n body e h fits is =
    let all = items_few nest items e h in
    let same = nest_few nest h in
    let sum_here : sum (map access_count (bodies items)) ≤ 4112 = rw e same in
    let some = sum_take label (map access_count (bodies items)) in
    let own = body_few nest.arrays n body fits in
    omega arith
