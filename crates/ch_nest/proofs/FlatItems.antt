-- Flattened items have the meaning of the items that they were made from.
use Rattle.std.proofs.Common.{◌≡◌, ℕ, ◌+◌, ◌<◌, ◌≤◌, ◌^◌, ℤ, pos, ◌+ℤ◌, ◌≤ℤ◌, unsigned_abs, Bool, true, false, ◌&&◌, nat_lt, nat_eq, int_le, if◌then◌else◌, List, [], ◌∷◌, ◌++◌, map, set, get_or, take, drop, length, length-append, arith, ap, sym, subst, ◌∙◌, refl}
use Rattle.std.specs.Bool.{IsTrue}
use Rattle.std.specs.List.{list_all}
use Rattle.std.proofs.lemmas.Bool.{and_parts, eqb-true, le-leb}
use Rattle.std.proofs.lemmas.Int.{ints}
use Rattle.std.proofs.lemmas.List.{length-take-le, take_at, take_more, take_more_set, length-set}
use Rattle.ch_affine.specs.Affine.{value}
use Rattle.ch_affine.specs.Form.{Form}
use Rattle.ch_nest.specs.declared.nest.ArrayDecl.{ArrayDecl}
use Rattle.ch_nest.specs.declared.nest.Body.{Body}
use Rattle.ch_nest.specs.declared.nest.Item.{Item}
use Rattle.ch_nest.specs.declared.nest.Item.TheVariants.{Loop, If, Assign}
use Rattle.ch_nest.specs.declared.nest.Item.TheOpen.{Item-F}
use Rattle.ch_nest.specs.declared.flat.FlatExpr.{FlatExpr}
use Rattle.ch_nest.specs.declared.flat.FlatItem.{FlatItem}
use Rattle.ch_nest.specs.declared.flat.FlatItem.TheVariants as flat
use Rattle.ch_nest.specs.Arrays.{extents_of}
use Rattle.ch_nest.specs.At.{AreAt}
use Rattle.ch_nest.specs.Fast.{AreFlat, FitBelow, FitsBelow, IsFlatExpr, IsFlatItem, IsFlatPlace, near, run_flat, run_flats}
use Rattle.ch_nest.specs.LoopNest.{LoopNest}
use Rattle.ch_nest.specs.Limits.{most_affine}
use Rattle.ch_nest.specs.Run.{expr_value, greatest, high_of, is_met, least, loop_values, low_of, place, run, run_item, run_items, turns}
use Rattle.ch_nest.specs.Shape.{body_fits, box_of, coefs_fit, head_fits, is_at_most, is_nest, is_small, item_fits, item_fits_step, items_fit, row_fits}
use Rattle.ch_nest.specs.Sound.{item_inside, items_inside}
use Rattle.ch_nest.proofs.Fits.{head_lows, head_highs, if_fit, loop_fits_is}
use Rattle.ch_nest.proofs.Flattens.{dot_take}
use Rattle.ch_nest.proofs.FlatRuns.{flat_assign_is, flat_if_is, flat_loop_is}
use Rattle.ch_nest.proofs.Runs.{loop_inside, met_inside, nest_at, reads_inside, run_assign, run_loop_is, run_met, run_unmet, write_inside}
use Rattle.ch_nest.proofs.Turns.{assign_fits_is, fit_at, if_at, loop_at, row_at, turn_at, value_small}
use Rattle.ch_nest.proofs.Values.{each_value}

pub body_below : (arrays : List ArrayDecl) (item : Item) (d label : ℕ) (body : Body) → item ≡ Assign label body → FitsBelow arrays item d → IsTrue (body_fits arrays d body)
body_below arrays item d label body is b =
    let f : IsTrue (item_fits arrays (Assign label body) b.boxes) = rw is at b.fit in
    let g : IsTrue (body_fits arrays (length b.boxes) body) = rw (assign_fits_is arrays label body b.boxes) at f in
    let h = rw b.loops at g in h

pub record LoopBelow (arrays : List ArrayDecl) (lows highs : List Form) (step : ℕ) (items : List Item) (d : ℕ) : Type 0 where
  pub head : head_fits d lows highs step ≡ true
  pub inner : FitBelow arrays items (d + 1)

pub loop_below : (arrays : List ArrayDecl) (item : Item) (d : ℕ) (lows highs : List Form) (step : ℕ) (items : List Item) → item ≡ Loop lows highs step items → FitsBelow arrays item d
    → LoopBelow arrays lows highs step items d
loop_below arrays item d lows highs step items is b =
    let f : IsTrue (item_fits arrays (Loop lows highs step items) b.boxes) = rw is at b.fit in
    let g : IsTrue (item_fits_step arrays (Item-F.Loop lows highs step (map (item_fits arrays) items)) b.boxes) = rw (loop_fits_is arrays lows highs step items b.boxes) at f in
    let here : IsTrue (head_fits (length b.boxes) lows highs step && nat_lt 0 (length (map (item_fits arrays) items))) = (and_parts _ _ g).0 in
    let head : head_fits (length b.boxes) lows highs step ≡ true = (and_parts _ _ here).0 in
    let below : IsTrue (is_small (box_of b.boxes lows highs) && items_fit arrays items (b.boxes ++ box_of b.boxes lows highs ∷ [])) = (and_parts _ _ g).1 in
    record {
      head = rw (sym b.loops) head;
      inner = record {
        boxes = b.boxes ++ box_of b.boxes lows highs ∷ [];
        loops = omega (arith, length-append b.boxes (box_of b.boxes lows highs ∷ []), b.loops);
        fit = (and_parts _ _ below).1;
      };
    }

pub item_below : (arrays : List ArrayDecl) (items : List Item) (d k : ℕ) (i : Item) → k < length items → FitBelow arrays items d → FitsBelow arrays (get_or items k i) d
item_below arrays items d k i l b = record { boxes = b.boxes; loops = b.loops; fit = fit_at arrays items b.boxes k i l b.fit }

pub assign_flat : (arrays : List ArrayDecl) (d : ℕ) (item : Item) (label : ℕ) (body : Body) (write : Form) (right : FlatExpr) → item ≡ Assign label body
    → IsFlatPlace arrays d body.write write → IsFlatExpr arrays d body.right right → IsFlatItem arrays d item (flat.Assign write right)
assign_flat arrays d item label body write right is w r = λ point cells l at i.
    let q : List ℤ = take d point in
    let a : run_flat (flat.Assign write right) point cells ≡ set cells (place (extents_of arrays) body.write q) (expr_value (extents_of arrays) q cells body.right) =
    rw (flat_assign_is write right point cells, w point l (write_inside arrays item label body q is i), r point cells l (reads_inside arrays item label body q is i)) refl in
    run_assign arrays item label body q cells (run_flat (flat.Assign write right) point cells) is a

-- items one after another

pub flats_run : (arrays : List ArrayDecl) (d : ℕ) (items : List Item) (flats : List FlatItem) → AreFlat arrays d items flats → (point cells : List ℤ) → length point ≡ 6
    → AreAt arrays items (take d point) → IsTrue (items_inside (extents_of arrays) items (take d point)) → run_flats flats point cells ≡ run_items (extents_of arrays) items (take d point) cells
flats_run arrays d [] [] f point cells l at i = refl
flats_run arrays d [] (x ∷ xs) f point cells l at i = absurd f
flats_run arrays d (y ∷ ys) [] f point cells l at i = absurd f
flats_run arrays d (y ∷ ys) (x ∷ xs) f point cells l at i =
    let fits = and_parts (item_fits arrays y at.boxes) (items_fit arrays ys at.boxes) at.fit in
    let inside = and_parts (item_inside (extents_of arrays) y (take d point)) (items_inside (extents_of arrays) ys (take d point)) i in
    let first : run_flat x point cells ≡ run_item (extents_of arrays) y (take d point) cells =
    f.0 point cells l (record { boxes = at.boxes; small = at.small; inside = at.inside; fit = fits.0 }) inside.0 in
    ap (λ c. run_flats xs point c) first ∙ flats_run arrays d ys xs f.1 point (run_item (extents_of arrays) y (take d point) cells) l
    (record { boxes = at.boxes; small = at.small; inside = at.inside; fit = fits.1 }) inside.1

pub flats_push : (arrays : List ArrayDecl) (d : ℕ) (items : List Item) (flats : List FlatItem) (y : Item) (x : FlatItem) → AreFlat arrays d items flats
    → IsFlatItem arrays d y x → AreFlat arrays d (items ++ y ∷ []) (flats ++ x ∷ [])
flats_push arrays d [] [] y x f h = (h, tt)
flats_push arrays d [] (z ∷ zs) y x f h = absurd f
flats_push arrays d (w ∷ ws) [] y x f h = absurd f
flats_push arrays d (w ∷ ws) (z ∷ zs) y x f h = (f.0, flats_push arrays d ws zs y x f.1 h)

pub flats_more : (arrays : List ArrayDecl) (d : ℕ) (items : List Item) (flats next : List FlatItem) (y : Item) (x : FlatItem) (k : ℕ) → k < length items
    → y ≡ get_or items k y → AreFlat arrays d (take k items) flats → IsFlatItem arrays d y x → next ≡ flats ++ x ∷ [] → AreFlat arrays d (take (k + 1) items) next
flats_more arrays d items flats next y x k l is f h e =
    let more : take (k + 1) items ≡ take k items ++ y ∷ [] = take_more items k y l ∙ ap (λ z. take k items ++ z ∷ []) (sym is) in
    rw (e, more) (flats_push arrays d (take k items) flats y x f h)

-- forms need a point only as far as the loops around go

value_take : (n : ℕ) (f : Form) (point : List ℤ) → length f.coefs ≡ n → value f point ≡ value f (take n point)
value_take n f point e = ap (λ z. f.constant +ℤ z) (dot_take f.coefs point n (omega arith))

values_take : (n : ℕ) (fs : List Form) (point : List ℤ) → IsTrue (list_all (coefs_fit n) fs) → map (λ f. value f point) fs ≡ map (λ f. value f (take n point)) fs
values_take n [] point c = refl
values_take n (f ∷ fs) point c =
    let size : length f.coefs ≡ n = eqb-true _ _ ((and_parts (nat_eq (length f.coefs) n) (list_all (is_at_most most_affine) f.coefs) ((and_parts _ _ c).0)).0) in
    ap (λ z. z ∷ map (λ f. value f point) fs) (value_take n f point size)
    ∙ ap (λ zs. value f (take n point) ∷ zs) (values_take n fs point ((and_parts _ _ c).1))

-- turns

turns_same : (xs : List ℤ) (low high : ℤ) (t : ℤ → Bool) (f g : ℤ → List ℤ → List ℤ) (cells : List ℤ) → IsTrue (list_all (λ x. int_le low x && int_le x high) xs)
    → IsTrue (list_all t xs) → ((x : ℤ) (c : List ℤ) → low ≤ℤ x → x ≤ℤ high → IsTrue (t x) → f x c ≡ g x c) → turns xs f cells ≡ turns xs g cells
turns_same [] low high t f g cells b i h = refl
turns_same (x ∷ xs) low high t f g cells b i h =
    let ends = and_parts (int_le low x && int_le x high) (list_all (λ x. int_le low x && int_le x high) xs) b in
    let here = and_parts (int_le low x) (int_le x high) ends.0 in
    let inside = and_parts (t x) (list_all t xs) i in
    let from : low ≤ℤ x = let e : int_le low x ≡ true = here.0 in grind (arith, ints) in
    let to : x ≤ℤ high = let e : int_le x high ≡ true = here.1 in grind (arith, ints) in
    ap (λ c. turns xs f c) (h x cells from to inside.0) ∙ turns_same xs low high t f g (g x cells) ends.1 inside.1 h

in_range : (low high x : ℤ) → low ≤ℤ x → x ≤ℤ high → (int_le low x && int_le x high) ≡ true
in_range low high x from to = grind (arith, ints)

pub loop_flat : (arrays : List ArrayDecl) (d : ℕ) (item : Item) (lows highs lows' highs' : List Form) (step : ℕ) (items : List Item) (flats : List FlatItem)
    → item ≡ Loop lows highs step items → lows' ≡ lows → highs' ≡ highs → d < 6 → AreFlat arrays (d + 1) items flats → IsFlatItem arrays d item (flat.Loop d lows' highs' step flats)
loop_flat arrays d item lows highs lows' highs' step items flats is el eh deep h = λ point cells l at i.
    let q : List ℤ = take d point in
    let size : length q ≡ d = length-take-le d point (omega arith) in
    let a = loop_at arrays item lows highs step items q is at in
    let head : head_fits d lows highs step ≡ true = rw size at a.head in
    let low : low_of lows point ≡ low_of lows q = ap greatest (values_take d lows point (head_lows d lows highs step head)) in
    let high : high_of highs point ≡ high_of highs q = ap least (values_take d highs point (head_highs d lows highs step head)) in
    let each : (x : ℤ) (c : List ℤ) → low_of lows q ≤ℤ x → x ≤ℤ high_of highs q → IsTrue (items_inside (extents_of arrays) items (q ++ x ∷ []))
    → run_flats flats (set point d (near x)) c ≡ run_items (extents_of arrays) items (q ++ x ∷ []) c =
    λ x c from to inside.
    let small : unsigned_abs x ≤ 2 ^ 30 = value_small arrays lows highs step items q x a from to in
    let same : near x ≡ x = (let e : is_at_most most_affine x ≡ true = le-leb (unsigned_abs x) most_affine small in rw e refl) in
    let inner : take (d + 1) (set point d x) ≡ q ++ x ∷ [] = take_more_set point d x (omega arith) in
    let l' : length (set point d x) ≡ 6 = omega (arith, length-set point d x) in
    let at' : AreAt arrays items (take (d + 1) (set point d x)) = turn_at arrays lows highs step items q (take (d + 1) (set point d x)) x a from to inner in
    let i' : IsTrue (items_inside (extents_of arrays) items (take (d + 1) (set point d x))) = rw inner inside in
    ap (λ y. run_flats flats (set point d y) c) same ∙ flats_run arrays (d + 1) items flats h (set point d x) c l' at' i'
    ∙ ap (λ p. run_items (extents_of arrays) items p c) inner in
    let turn : ℤ → List ℤ → List ℤ = λ x. run_flats flats (set point d (near x)) in
    let inside = loop_inside arrays item lows highs step items q (low_of lows q) (high_of highs q) is refl refl i in
    rw (el, eh) (flat_loop_is d lows highs step flats point cells
    ∙ ap (λ z. turns (loop_values z (high_of highs point) step) turn cells) low ∙ ap (λ z. turns (loop_values (low_of lows q) z step) turn cells) high
    ∙ turns_same (loop_values (low_of lows q) (high_of highs q) step) (low_of lows q) (high_of highs q) (λ x. items_inside (extents_of arrays) items (q ++ x ∷ []))
    turn (λ x. run_items (extents_of arrays) items (q ++ x ∷ [])) cells
    (each_value (low_of lows q) (high_of highs q) step (λ x. int_le (low_of lows q) x && int_le x (high_of highs q)) (in_range (low_of lows q) (high_of highs q)))
    inside each
    ∙ sym (run_loop_is arrays lows highs step items q cells) ∙ sym (ap (λ z. run_item (extents_of arrays) z q cells) is))

-- conditions

pub if_below : (arrays : List ArrayDecl) (item : Item) (d : ℕ) (row : Form) (items : List Item) → item ≡ If row items → FitsBelow arrays item d → FitBelow arrays items d
if_below arrays item d row items is b = record { boxes = b.boxes; loops = b.loops; fit = (if_fit arrays item row items b.boxes is b.fit).inner }

pub if_flat : (arrays : List ArrayDecl) (d : ℕ) (item : Item) (row row' : Form) (items : List Item) (flats : List FlatItem) → item ≡ If row items → row' ≡ row
    → d ≤ 6 → AreFlat arrays d items flats → IsFlatItem arrays d item (flat.If row' flats)
if_flat arrays d item row row' items flats is er deep h = λ point cells l at i.
    let q : List ℤ = take d point in
    let size : length q ≡ d = length-take-le d point (omega arith) in
    let fits : IsTrue (row_fits d row) = rw size at (row_at arrays item row items q is at) in
    let whole : length row.coefs ≡ d = eqb-true _ _ ((and_parts (nat_eq (length row.coefs) d) _ fits).0) in
    let same : is_met row point ≡ is_met row q = ap (λ z. int_le (pos 0) z) (value_take d row point whole) in
    let here : (b : Bool) → b ≡ is_met row q → (if b then run_flats flats point cells else cells) ≡ run_item (extents_of arrays) item q cells =
    λ b. by b (λ m. run_met arrays item row items q cells _ is m (flats_run arrays d items flats h point cells l (if_at arrays item row items q is at) (met_inside arrays item row items q is m i)))
    (λ m. run_unmet arrays item row items q cells is m) in
    rw er (flat_if_is row flats point cells ∙ here (is_met row point) same)
  where
    by : {next cells all : List ℤ} {m : Bool} (b : Bool) → (true ≡ m → next ≡ all) → (false ≡ m → cells ≡ all) → b ≡ m → (if b then next else cells) ≡ all
    by true f g e = f e
    by false f g e = g e

-- a flattened nest, from the outermost items on

abbrev pub zeros : List ℤ
zeros = pos 0 ∷ pos 0 ∷ pos 0 ∷ pos 0 ∷ pos 0 ∷ pos 0 ∷ []

pub performed : (nest : LoopNest) (arrays : List ArrayDecl) (items : List Item) (flats flats' : List FlatItem) (cells mid next : List ℤ) → IsTrue (is_nest nest)
    → IsTrue (items_inside (extents_of nest.arrays) nest.items []) → arrays ≡ nest.arrays → items ≡ nest.items → AreFlat arrays 0 items flats → flats' ≡ flats → mid ≡ cells
    → length next ≡ length mid → next ≡ run_flats flats' zeros mid → take (length cells) (next ++ drop (length next) cells) ≡ run nest cells
performed nest arrays items flats flats' cells mid next n i ea ei f ef em len r =
    let f' : AreFlat nest.arrays 0 nest.items flats = subst (λ ys. AreFlat nest.arrays 0 ys flats) ei (subst (λ ds. AreFlat ds 0 items flats) ea f) in
    let size : length next ≡ length cells = len ∙ ap length em in
    take_at next (drop (length next) cells) (length cells) size ∙ r ∙ ap (λ fs. run_flats fs zeros mid) ef ∙ ap (λ c. run_flats flats zeros c) em
    ∙ flats_run nest.arrays 0 nest.items flats f' zeros cells refl (nest_at nest n) i
