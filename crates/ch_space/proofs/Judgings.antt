-- The walk that judges a nest, one step on, and what its refusal says of the nest.
use Rattle.std.proofs.Common.{◌≡◌, refl, sym, ap, ap₂, ◌∙◌, subst, ℕ, zero, suc, ◌+◌, ◌<◌, ◌≤◌, ℤ, pos, ◌+ℤ◌, ◌<ℤ◌, ◌≤ℤ◌, append-nil, Bool, true, false, ◌&&◌, nat_le, nat_lt, if◌then◌else◌, Option, Some, None, Result, Ok, Err, List, [], ◌∷◌, ◌++◌, length, map, drop, get_or, add-one, inl, inr, arith}
use Rattle.std.specs.List.{flat_map, list_all}
use Rattle.std.specs.Result.{IsErrAnd}
use Rattle.std.proofs.lemmas.Bool.{cases_lt}
use Rattle.std.proofs.lemmas.Bool.Decides.{nat_tests}
use Rattle.std.proofs.lemmas.List.{drop_all, drop_more}
use Rattle.ch_affine.specs.Form.{Form}
use Rattle.ch_nest.specs.declared.nest.Access.{Access}
use Rattle.ch_nest.specs.declared.nest.ArrayDecl.{ArrayDecl}
use Rattle.ch_nest.specs.declared.nest.Body.{Body}
use Rattle.ch_nest.specs.declared.nest.Expr.{Expr, map-Expr}
use Rattle.ch_nest.specs.declared.nest.Expr.TheOpen.{Expr-F}
use Rattle.ch_nest.specs.declared.nest.Expr.TheFolds.{fold-roll-Expr, ind-Expr}
use Rattle.ch_nest.specs.declared.nest.Item.{Item}
use Rattle.ch_nest.specs.declared.nest.Item.TheOpen.{Item-F}
use Rattle.ch_nest.specs.declared.nest.Item.TheVariants.{Loop, If, Assign, rolls-Loop, rolls-If, rolls-Assign}
use Rattle.ch_nest.specs.declared.nest.Item.TheFolds.{fold-roll-Item}
use Rattle.ch_nest.specs.Limits.{most_work}
use Rattle.ch_nest.specs.LoopNest.{LoopNest}
use Rattle.ch_nest.specs.Run.{is_met, loop_values, values_at, low_of, high_of}
use Rattle.ch_nest.specs.Sound.{Measure, access_inside, expr_inside, expr_inside_step, is_sound, item_inside, item_work, items_inside, items_work, turns_work, work_step}
use Rattle.ch_nest.proofs.Runs.{inside_assign_is, inside_if_is, inside_loop_is}
use Rattle.ch_nest.proofs.Values.{values_next, values_none}
use Rattle.ch_nest.specs.Arrays.{extents_of}
use Rattle.ch_space.specs.declared.accesses.Leaving.{Leaving}
use Rattle.ch_space.specs.declared.error.SpaceError.{SpaceError}
use Rattle.ch_space.specs.declared.error.SpaceError.TheVariants.{TooMany, OutOfRange, Memory}
use Rattle.ch_space.specs.declared.judge.Walk.{Walk}
use Rattle.ch_space.specs.Judged.{accesses_before, first_leaving, first_of, judgement, leaving, leaving_if, or_else, out_of_range, text_accesses}
use Rattle.ch_space.specs.Judged.{IsRefusal}
use Rattle.ch_space.specs.JudgingWalk.{Search, Ends, GoesOn, Walks, first_value, item_refusal, items_refusal, refusal_step}
use Rattle.ch_timed.specs.Conflict.{cell_of, reads, reads_step}
use Rattle.ch_timed.specs.declared.element.Cell.{Cell}
use Rattle.ch_timed.specs.declared.element.Element.{Element}
use Rattle.ch_timed.specs.declared.element.Identity.{Identity}
use Rattle.ch_timed.specs.declared.element.Label.TheVariants.{Stmt}
use Rattle.ch_timed.specs.Members.{Each}
use Rattle.ch_timed.specs.Start.{at_places, start, start_item, start_items}
use Rattle.ch_timed.proofs.ItemCases.{each_item}
use Rattle.ch_timed.proofs.Listings.{places_append, places_met}
use Rattle.ch_timed.proofs.Rolls.{start_assign, start_if, start_loop}

-- whether nothing was found

abbrev pub free : {X : Type 0} → Option X → Bool
free None = true
free (Some x) = false

pub free_none : {X : Type 0} (x : Option X) → free x ≡ true → x ≡ None
free_none None h = refl
free_none (Some x) h = absurd cc

free_or : (a b : Option SpaceError) → free (or_else a b) ≡ (free a && free b)
free_or None b = refl
free_or (Some x) b = refl

or_assoc : (a b c : Option SpaceError) → or_else (or_else a b) c ≡ or_else a (or_else b c)
or_assoc None b c = refl
or_assoc (Some x) b c = refl

or_none : (a : Option SpaceError) → or_else a None ≡ a
or_none None = refl
or_none (Some x) = refl

and_true : (a : Bool) → a ≡ (a && true)
and_true true = refl
and_true false = refl

and_assoc : (a b c : Bool) → (a && (b && c)) ≡ ((a && b) && c)
and_assoc true b c = refl
and_assoc false b c = refl

-- the accesses of one instance

module _ (extents : List (List ℕ)) (point : List ℤ) where
  abbrev pub all_inside : List Access → Bool
  all_inside = list_all (access_inside extents point)

  abbrev Same : Expr → Type 0
  Same e = expr_inside extents point e ≡ all_inside (reads e)

  abbrev Known : Type 0
  Known = (e : Expr) × Same e

  abbrev bare : Known → Expr
  bare k = k.0

  all_append : (xs ys : List Access) → all_inside (xs ++ ys) ≡ (all_inside xs && all_inside ys)
  all_append [] ys = refl
  all_append (x ∷ xs) ys = ap (λ b. access_inside extents point x && b) (all_append xs ys) ∙ and_assoc (access_inside extents point x) (all_inside xs) (all_inside ys)

  both : (a b : Bool) (xs ys : List Access) → a ≡ all_inside xs → b ≡ all_inside ys → (a && b) ≡ all_inside (xs ++ ys)
  both a b xs ys p q = ap₂ (λ x y. x && y) p q ∙ sym (all_append xs ys)

  layer : (y : Expr-F Known)
      → expr_inside_step extents point (map-Expr Expr Bool (expr_inside extents point) (map-Expr Known Expr bare y))
      ≡ all_inside (reads_step (map-Expr Expr (List Access) reads (map-Expr Known Expr bare y)))
  layer (Expr-F.Number m) = refl
  layer (Expr-F.Iter k) = refl
  layer (Expr-F.Read a) = and_true (access_inside extents point a)
  layer (Expr-F.Neg x) = x.1
  layer (Expr-F.Add x y) = both _ _ _ _ x.1 y.1
  layer (Expr-F.Sub x y) = both _ _ _ _ x.1 y.1
  layer (Expr-F.Mul x y) = both _ _ _ _ x.1 y.1

  reads_inside : (e : Expr) → Same e
  reads_inside = ind-Expr Same (λ x y is.
      fold-roll-Expr Bool (expr_inside_step extents point) x
      ∙ subst (λ z. expr_inside_step extents point (map-Expr Expr Bool (expr_inside extents point) z) ≡ all_inside (reads_step (map-Expr Expr (List Access) reads z))) is (layer y)
      ∙ ap all_inside (sym (fold-roll-Expr (List Access) reads_step x)))

  free_if : (b : Bool) (k : ℕ) (c : Cell) (more : Option Leaving) → free (leaving_if b k c more) ≡ (b && free more)
  free_if true k c more = refl
  free_if false k c more = refl

  free_leaving : (k : ℕ) (accesses : List Access) → free (first_leaving extents point k accesses) ≡ all_inside accesses
  free_leaving k [] = refl
  free_leaving k (a ∷ more) =
      free_if (access_inside extents point a) k (cell_of point a) (first_leaving extents point (suc k) more)
      ∙ ap (λ b. access_inside extents point a && b) (free_leaving (suc k) more)

free_range : (first : Identity) (l : Option Leaving) → free (out_of_range first l) ≡ free l
free_range first None = refl
free_range first (Some l) = refl

abbrev instance : ℕ → Body → List ℤ → Element
instance label body point = record { identity = record { label = Stmt label; iters = point }; vector = []; body = body }

free_instance : (nest : LoopNest) (label : ℕ) (body : Body) (point : List ℤ)
    → free (leaving nest (instance label body point)) ≡ (access_inside (extents_of nest.arrays) point body.write && expr_inside (extents_of nest.arrays) point body.right)
free_instance nest label body point =
    free_range (record { label = Stmt label; iters = point }) (first_leaving (extents_of nest.arrays) point (accesses_before nest.items (Stmt label)) (text_accesses body))
    ∙ free_leaving (extents_of nest.arrays) point (accesses_before nest.items (Stmt label)) (text_accesses body)
    ∙ ap (λ b. access_inside (extents_of nest.arrays) point body.write && b) (sym (reads_inside (extents_of nest.arrays) point body.right))

pub inside_is_free : (nest : LoopNest) (label : ℕ) (body : Body) (point : List ℤ) (inside : Bool)
    → inside ≡ (access_inside (extents_of nest.arrays) point body.write && expr_inside (extents_of nest.arrays) point body.right) → inside ≡ true
    → None ≡ leaving nest (instance label body point)
inside_is_free nest label body point inside e h = sym (free_none _ (free_instance nest label body point ∙ sym e ∙ h))

-- one layer of an item

loop_refusal : (nest : LoopNest) (lows highs : List Form) (step : ℕ) (items : List Item) (point : List ℤ)
    → item_refusal nest (Loop lows highs step items) point ≡ first_value (values_at lows highs step point) (λ i. items_refusal nest items (point ++ i ∷ []))
loop_refusal nest lows highs step items point = ap (λ f. f point) (ap (item_refusal nest) (sym (rolls-Loop lows highs step items)) ∙ fold-roll-Item Search (refusal_step nest) _)

if_refusal : (nest : LoopNest) (row : Form) (items : List Item) (point : List ℤ)
    → item_refusal nest (If row items) point ≡ (if is_met row point then items_refusal nest items point else None)
if_refusal nest row items point = ap (λ f. f point) (ap (item_refusal nest) (sym (rolls-If row items)) ∙ fold-roll-Item Search (refusal_step nest) _)

assign_refusal : (nest : LoopNest) (label : ℕ) (body : Body) (point : List ℤ) → item_refusal nest (Assign label body) point ≡ leaving nest (instance label body point)
assign_refusal nest label body point = ap (λ f. f point) (ap (item_refusal nest) (sym (rolls-Assign label body)) ∙ fold-roll-Item Search (refusal_step nest) _)

pub loop_work : (lows highs : List Form) (step : ℕ) (items : List Item) (point : List ℤ)
    → item_work (Loop lows highs step items) point ≡ turns_work (values_at lows highs step point) (λ i. items_work items (point ++ i ∷ []))
loop_work lows highs step items point = ap (λ f. f point) (ap item_work (sym (rolls-Loop lows highs step items)) ∙ fold-roll-Item Measure work_step _)

pub if_work : (row : Form) (items : List Item) (point : List ℤ) → item_work (If row items) point ≡ (if is_met row point then items_work items point else 0)
if_work row items point = ap (λ f. f point) (ap item_work (sym (rolls-If row items)) ∙ fold-roll-Item Measure work_step _)

pub assign_work : (label : ℕ) (body : Body) (point : List ℤ) → item_work (Assign label body) point ≡ 1
assign_work label body point = ap (λ f. f point) (ap item_work (sym (rolls-Assign label body)) ∙ fold-roll-Item Measure work_step _)

-- nothing is found exactly if all subscripts stay inside

module _ (nest : LoopNest) where
  abbrev extents : List (List ℕ)
  extents = extents_of nest.arrays

  abbrev Freed : Item → Type 0
  Freed item = (point : List ℤ) → free (item_refusal nest item point) ≡ item_inside extents item point

  each_freed : (items : List Item) → Each Freed items → (point : List ℤ) → free (items_refusal nest items point) ≡ items_inside extents items point
  each_freed [] h point = refl
  each_freed (i ∷ is) h point = free_or (item_refusal nest i point) (items_refusal nest is point) ∙ ap₂ (λ x y. x && y) (h.0 point) (each_freed is h.1 point)

  turns_freed : (xs : List ℤ) (f : ℤ → Option SpaceError) (t : ℤ → Bool) → ((i : ℤ) → free (f i) ≡ t i) → free (first_value xs f) ≡ list_all t xs
  turns_freed [] f t h = refl
  turns_freed (x ∷ xs) f t h = free_or (f x) (first_value xs f) ∙ ap₂ (λ x y. x && y) (h x) (turns_freed xs f t h)

  loop_freed : (lows highs : List Form) (step : ℕ) (items : List Item) → Each Freed items → Freed (Loop lows highs step items)
  loop_freed lows highs step items h point =
      ap free (loop_refusal nest lows highs step items point)
      ∙ turns_freed (values_at lows highs step point) (λ i. items_refusal nest items (point ++ i ∷ [])) (λ i. items_inside extents items (point ++ i ∷ []))
      (λ i. each_freed items h (point ++ i ∷ []))
      ∙ sym (inside_loop_is nest.arrays lows highs step items point)

  if_freed : (row : Form) (items : List Item) → Each Freed items → Freed (If row items)
  if_freed row items h point =
      ap free (if_refusal nest row items point) ∙ by (is_met row point) (each_freed items h point) ∙ sym (inside_if_is nest.arrays row items point)
    where
      by : (b : Bool) → free (items_refusal nest items point) ≡ items_inside extents items point
          → free (if b then items_refusal nest items point else None) ≡ (if b then items_inside extents items point else true)
      by true e = e
      by false e = refl

  assign_freed : (label : ℕ) (body : Body) → Freed (Assign label body)
  assign_freed label body point = ap free (assign_refusal nest label body point) ∙ free_instance nest label body point ∙ sym (inside_assign_is nest.arrays label body point)

  pub all_freed : free (items_refusal nest nest.items []) ≡ items_inside extents nest.items []
  all_freed = each_freed nest.items (each_item Freed loop_freed if_freed assign_freed nest.items) []

  -- the walk finds what the first element of the list has that has a refusal

  first_append : (xs ys : List Element) → first_of (leaving nest) (xs ++ ys) ≡ or_else (first_of (leaving nest) xs) (first_of (leaving nest) ys)
  first_append [] ys = refl
  first_append (x ∷ xs) ys =
      ap (or_else (leaving nest x)) (first_append xs ys) ∙ sym (or_assoc (leaving nest x) (first_of (leaving nest) xs) (first_of (leaving nest) ys))

  abbrev Listed : Item → Type 0
  Listed item = (k : ℕ) (iters vector : List ℤ) → first_of (leaving nest) (at_places k (start_item item) iters vector) ≡ item_refusal nest item iters

  each_listed : (items : List Item) → Each Listed items → (k : ℕ) (iters vector : List ℤ)
      → first_of (leaving nest) (at_places k (start_items items) iters vector) ≡ items_refusal nest items iters
  each_listed [] h k iters vector = refl
  each_listed (i ∷ is) h k iters vector =
      ap (first_of (leaving nest)) (places_append k (start_item i) (start_items is) iters vector)
      ∙ first_append (at_places k (start_item i) iters vector) (at_places (k + length (start_item i)) (start_items is) iters vector)
      ∙ ap₂ or_else (h.0 k iters vector) (each_listed is h.1 (k + length (start_item i)) iters vector)

  all_turns : (xs : List ℤ) (g : ℤ → List Element) (f : ℤ → Option SpaceError) → ((i : ℤ) → first_of (leaving nest) (g i) ≡ f i)
      → first_of (leaving nest) (flat_map g xs) ≡ first_value xs f
  all_turns [] g f h = refl
  all_turns (x ∷ xs) g f h = first_append (g x) (flat_map g xs) ∙ ap₂ or_else (h x) (all_turns xs g f h)

  first_alone : (es : List Element) → first_of (leaving nest) (es ++ []) ≡ first_of (leaving nest) es
  first_alone es = ap (first_of (leaving nest)) (append-nil es)

  loop_listed : (lows highs : List Form) (step : ℕ) (items : List Item) → Each Listed items → Listed (Loop lows highs step items)
  loop_listed lows highs step items h k iters vector =
      let v : List ℤ = vector ++ pos k ∷ [] in
      let g : ℤ → List Element = λ i. at_places 0 (start_items items) (iters ++ i ∷ []) (v ++ i ∷ []) in
      ap (λ fs. first_of (leaving nest) (at_places k fs iters vector)) (start_loop lows highs step items)
      ∙ first_alone (flat_map g (values_at lows highs step iters))
      ∙ all_turns (values_at lows highs step iters) g
      (λ i. items_refusal nest items (iters ++ i ∷ [])) (λ i. each_listed items h 0 (iters ++ i ∷ []) (v ++ i ∷ []))
      ∙ sym (loop_refusal nest lows highs step items iters)

  if_listed : (row : Form) (items : List Item) → Each Listed items → Listed (If row items)
  if_listed row items h k iters vector =
      ap (λ fs. first_of (leaving nest) (at_places k fs iters vector)) (start_if row items)
      ∙ ap (first_of (leaving nest)) (places_met row k (start_items items) iters vector)
      ∙ by (is_met row iters) (each_listed items h k iters vector) ∙ sym (if_refusal nest row items iters)
    where
      by : (b : Bool) → first_of (leaving nest) (at_places k (start_items items) iters vector) ≡ items_refusal nest items iters
          → first_of (leaving nest) (if b then at_places k (start_items items) iters vector else []) ≡ (if b then items_refusal nest items iters else None)
      by true e = e
      by false e = refl

  assign_listed : (label : ℕ) (body : Body) → Listed (Assign label body)
  assign_listed label body k iters vector =
      ap (λ fs. first_of (leaving nest) (at_places k fs iters vector)) (start_assign label body)
      ∙ or_none (leaving nest (instance label body iters)) ∙ sym (assign_refusal nest label body iters)

  pub all_listed : first_of (leaving nest) (start nest) ≡ items_refusal nest nest.items []
  all_listed = each_listed nest.items (each_item Listed loop_listed if_listed assign_listed nest.items) 0 [] []

-- the law

no_choice : (b : Bool) (x y : SpaceError) → (if b then Some x else Some y) ≡ None → ⊥
no_choice true x y h = cc
no_choice false x y h = cc

none_sound : (most work : ℕ) (r : Option SpaceError) (i : Bool) → free r ≡ i → (if nat_lt most work then Some TooMany else r) ≡ None → (i && nat_le work most) ≡ true
none_sound most work None true e h = grind (arith, nat_tests)
none_sound most work None false e h = absurd cc
none_sound most work (Some x) i e h = absurd (no_choice (nat_lt most work) TooMany x h)

sound_none : (most work : ℕ) (r : Option SpaceError) (i : Bool) → free r ≡ i → (i && nat_le work most) ≡ true → (if nat_lt most work then Some TooMany else r) ≡ None
sound_none most work None true e h = grind (arith, nat_tests)
sound_none most work None false e h = absurd cc
sound_none most work (Some x) true e h = absurd cc
sound_none most work (Some x) false e h = absurd cc

pub sound_if_none : (nest : LoopNest) → judgement nest ≡ None → is_sound nest ≡ true
sound_if_none nest h =
    none_sound most_work (items_work nest.items []) (first_of (leaving nest) (start nest)) (items_inside (extents_of nest.arrays) nest.items []) (ap free (all_listed nest) ∙ all_freed nest) h

pub none_if_sound : (nest : LoopNest) → is_sound nest ≡ true → judgement nest ≡ None
none_if_sound nest h =
    sound_none most_work (items_work nest.items []) (first_of (leaving nest) (start nest)) (items_inside (extents_of nest.arrays) nest.items []) (ap free (all_listed nest) ∙ all_freed nest) h

too_many : (most work : ℕ) (r : Option SpaceError) → most < work → (if nat_lt most work then Some TooMany else r) ≡ Some TooMany
too_many most work r h = grind (arith, nat_tests)

few_enough : (most work left : ℕ) (r : Option SpaceError) → left + work ≡ most → (if nat_lt most work then Some TooMany else r) ≡ r
few_enough most work left r h = grind (arith, nat_tests)

pub ends_judged : (nest : LoopNest) (e : SpaceError) → Ends e most_work (items_work nest.items []) → IsRefusal e (judgement nest)
ends_judged nest Memory h = tt
ends_judged nest TooMany h = too_many most_work (items_work nest.items []) (first_of (leaving nest) (start nest)) h
ends_judged nest (OutOfRange first access cell) h = absurd h

-- what the walk through all items found, from a slice that has them
pub walk_judged : (nest : LoopNest) (items : List Item) (new : Walk) → items ≡ nest.items
    → GoesOn (items_work items []) (items_refusal nest items []) (record { left = most_work; found = None }) new → judgement nest ≡ new.found
walk_judged nest items new e g =
    let h = rw e at g in
    few_enough most_work (items_work nest.items []) new.left (first_of (leaving nest) (start nest)) h.left ∙ all_listed nest ∙ sym h.found

pub refusal_judged : (e : SpaceError) (r : Option SpaceError) → r ≡ Some e → IsRefusal e r
refusal_judged Memory r h = tt
refusal_judged TooMany r h = h
refusal_judged (OutOfRange first access cell) r h = h

-- items

pub ends_later : (e : SpaceError) (left work from all : ℕ) → Ends e left work → (left < work → from < all) → Ends e from all
ends_later Memory left work from all h f = tt
ends_later TooMany left work from all h f = f h
ends_later (OutOfRange first access cell) left work from all h f = absurd h

-- a walk through items that has come to the k-th
pub record Rest (nest : LoopNest) (items : List Item) (point : List ℤ) (k : ℕ) (first walk : Walk) : Type 0 where
  pub left : walk.left + items_work items point ≡ first.left + items_work (drop k items) point
  pub found : or_else walk.found (items_refusal nest (drop k items) point) ≡ or_else first.found (items_refusal nest items point)

pub rest_goes_on : (nest : LoopNest) (items : List Item) (point : List ℤ) (k : ℕ) (d : Item) (first walk next : Walk) → k < length items → Rest nest items point k first walk
    → GoesOn (item_work (get_or items k d) point) (item_refusal nest (get_or items k d) point) walk next → Rest nest items point (k + 1) first next
rest_goes_on nest items point k d first walk next l r g =
    let e = drop_more items k d l in
    let a : walk.left + items_work items point ≡ first.left + (item_work (get_or items k d) point + items_work (drop (k + 1) items) point) = rw e at r.left in
    let b : or_else walk.found (or_else (item_refusal nest (get_or items k d) point) (items_refusal nest (drop (k + 1) items) point)) ≡ or_else first.found (items_refusal nest items point) = rw e at r.found in
    let h = g.left in
    record {
      left = omega arith;
      found = ap (λ f. or_else f (items_refusal nest (drop (k + 1) items) point)) g.found
          ∙ or_assoc walk.found (item_refusal nest (get_or items k d) point) (items_refusal nest (drop (k + 1) items) point) ∙ b;
    }

pub rest_ends : (nest : LoopNest) (items : List Item) (point : List ℤ) (k : ℕ) (d : Item) (e : SpaceError) (first walk : Walk) → k < length items → Rest nest items point k first walk
    → Ends e walk.left (item_work (get_or items k d) point) → Ends e first.left (items_work items point)
rest_ends nest items point k d e first walk l r h =
    let a : walk.left + items_work items point ≡ first.left + (item_work (get_or items k d) point + items_work (drop (k + 1) items) point) = rw (drop_more items k d l) at r.left in
    ends_later e walk.left (item_work (get_or items k d) point) first.left (items_work items point) h (λ short. omega arith)

pub rest_begins : (nest : LoopNest) (items : List Item) (point : List ℤ) (walk : Walk) → Rest nest items point 0 walk walk
rest_begins nest items point walk = record { left = refl; found = refl }

pub rest_done : (nest : LoopNest) (items : List Item) (point : List ℤ) (k : ℕ) (first walk : Walk) → length items ≤ k → Rest nest items point k first walk
    → GoesOn (items_work items point) (items_refusal nest items point) first walk
rest_done nest items point k first walk l r =
    let e = drop_all k items l in
    let a : walk.left + items_work items point ≡ first.left + 0 = rw e at r.left in
    let b : or_else walk.found None ≡ or_else first.found (items_refusal nest items point) = rw e at r.found in
    record { left = omega arith; found = sym (or_none walk.found) ∙ b }

-- turns

-- a walk through a loop that has come to a value
pub record Turned (nest : LoopNest) (item : Item) (items : List Item) (point : List ℤ) (step : ℕ) (value high : ℤ) (first walk : Walk) : Type 0 where
  pub left : walk.left + item_work item point ≡ first.left + turns_work (loop_values value high step) (λ i. items_work items (point ++ i ∷ []))
  pub found : or_else walk.found (first_value (loop_values value high step) (λ i. items_refusal nest items (point ++ i ∷ []))) ≡ or_else first.found (item_refusal nest item point)

pub turns_begin : (nest : LoopNest) (item : Item) (lows highs : List Form) (step : ℕ) (items : List Item) (point : List ℤ) (low high : ℤ) (walk : Walk)
    → item ≡ Loop lows highs step items → low ≡ low_of lows point → high ≡ high_of highs point → Turned nest item items point step low high walk walk
turns_begin nest item lows highs step items point low high walk is l h =
    rw (is, l, h) (record {
      left = ap (λ n. walk.left + n) (loop_work lows highs step items point);
      found = ap (or_else walk.found) (sym (loop_refusal nest lows highs step items point));
    })

-- what a loop takes where it comes to a value
turns_first : (f : ℤ → ℕ) (value high : ℤ) (step : ℕ) → 1 ≤ step → value ≤ℤ high
    → turns_work (loop_values value high step) f ≡ f value + 1 + turns_work (loop_values (value +ℤ pos step) high step) f
turns_first f value high step s l = ap (λ xs. turns_work xs f) (values_next value high step s l)

pub turn_goes_on : (nest : LoopNest) (item : Item) (items : List Item) (point inner : List ℤ) (step : ℕ) (value high : ℤ) (first walk turn next : Walk) → 1 ≤ step → value ≤ℤ high
    → inner ≡ point ++ value ∷ [] → Turned nest item items point step value high first walk → GoesOn 1 None walk turn → GoesOn (items_work items inner) (items_refusal nest items inner) turn next
    → Turned nest item items point step (value +ℤ pos step) high first next
turn_goes_on nest item items point inner step value high first walk turn next s l e t one g =
    let f : ℤ → ℕ = λ i. items_work items (point ++ i ∷ []) in
    let r : ℤ → Option SpaceError = λ i. items_refusal nest items (point ++ i ∷ []) in
    let here : GoesOn (f value) (r value) turn next = subst (λ p. GoesOn (items_work items p) (items_refusal nest items p) turn next) e g in
    let a = t.left in
    let b = one.left in
    let c = here.left in
    let d = turns_first f value high step s l in
    let same : or_else walk.found (or_else (r value) (first_value (loop_values (value +ℤ pos step) high step) r)) ≡ or_else first.found (item_refusal nest item point) =
    ap (λ xs. or_else walk.found (first_value xs r)) (sym (values_next value high step s l)) ∙ t.found in
    record {
      left = omega arith;
      found = ap (λ o. or_else o (first_value (loop_values (value +ℤ pos step) high step) r)) (here.found ∙ ap (λ o. or_else o (r value)) (one.found ∙ or_none walk.found))
          ∙ or_assoc walk.found (r value) (first_value (loop_values (value +ℤ pos step) high step) r) ∙ same;
    }

pub turns_end : (nest : LoopNest) (item : Item) (items : List Item) (point : List ℤ) (step : ℕ) (value high : ℤ) (first walk : Walk) → high <ℤ value
    → Turned nest item items point step value high first walk → GoesOn (item_work item point) (item_refusal nest item point) first walk
turns_end nest item items point step value high first walk past t =
    let none = values_none value high step past in
    let a = ap (λ xs. turns_work xs (λ i. items_work items (point ++ i ∷ []))) none in
    let b = t.left in
    record {
      left = omega arith;
      found = sym (or_none walk.found) ∙ ap (λ xs. or_else walk.found (first_value xs (λ i. items_refusal nest items (point ++ i ∷ [])))) (sym none) ∙ t.found;
    }

pub turn_short : (nest : LoopNest) (item : Item) (items : List Item) (point : List ℤ) (step : ℕ) (value high : ℤ) (e : SpaceError) (first walk : Walk) → 1 ≤ step → value ≤ℤ high
    → Turned nest item items point step value high first walk → Ends e walk.left 1 → Ends e first.left (item_work item point)
turn_short nest item items point step value high e first walk s l t ends =
    let a = t.left in
    let d = turns_first (λ i. items_work items (point ++ i ∷ [])) value high step s l in
    ends_later e walk.left 1 first.left (item_work item point) ends (λ short. omega arith)

pub inner_short : (nest : LoopNest) (item : Item) (items : List Item) (point inner : List ℤ) (step : ℕ) (value high : ℤ) (e : SpaceError) (first walk turn : Walk) → 1 ≤ step → value ≤ℤ high
    → inner ≡ point ++ value ∷ [] → Turned nest item items point step value high first walk → GoesOn 1 None walk turn → Ends e turn.left (items_work items inner)
    → Ends e first.left (item_work item point)
inner_short nest item items point inner step value high e first walk turn s l same t one ends =
    let f : ℤ → ℕ = λ i. items_work items (point ++ i ∷ []) in
    let a = t.left in
    let b = one.left in
    let d = turns_first f value high step s l in
    let here : Ends e turn.left (f value) = subst (λ p. Ends e turn.left (items_work items p)) same ends in
    ends_later e turn.left (f value) first.left (item_work item point) here (λ short. omega arith)

pub met_walked : (nest : LoopNest) (item : Item) (row : Form) (items : List Item) (point : List ℤ) (r : Result Walk SpaceError) (walk : Walk) → item ≡ If row items → true ≡ is_met row point
    → Walks r (items_work items point) (items_refusal nest items point) walk → Walks r (item_work item point) (item_refusal nest item point) walk
met_walked nest item row items point r walk is m h = rw (is, if_work row items point, if_refusal nest row items point, ← m) h

pub unmet_walked : (nest : LoopNest) (item : Item) (row : Form) (items : List Item) (point : List ℤ) (walk : Walk) → item ≡ If row items → false ≡ is_met row point
    → GoesOn (item_work item point) (item_refusal nest item point) walk walk
unmet_walked nest item row items point walk is m =
    rw (is, if_work row items point, if_refusal nest row items point, ← m) (record { left = omega arith; found = sym (or_none walk.found) })

pub assign_walked : (nest : LoopNest) (item : Item) (label : ℕ) (body : Body) (point : List ℤ) (r : Result Walk SpaceError) (walk : Walk) → item ≡ Assign label body
    → Walks r 1 (leaving nest (instance label body point)) walk → Walks r (item_work item point) (item_refusal nest item point) walk
assign_walked nest item label body point r walk is h = rw (is, assign_work label body point, assign_refusal nest label body point) h

pub err_walks : (r : Result Walk SpaceError) (e : SpaceError) (work : ℕ) (refusal : Option SpaceError) (walk : Walk) → IsErrAnd r (λ x. x ≡ e) → Ends e walk.left work
    → Walks r work refusal walk
err_walks (Ok w) e work refusal walk h k = absurd h
err_walks (Err x) e work refusal walk h k = subst (λ y. Ends y walk.left work) (sym h) k
