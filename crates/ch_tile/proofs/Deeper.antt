-- A tiled piece has the elements of the old one, each one level deeper at the number of its tile.
use Rattle.std.proofs.Common.{◌≡◌, refl, sym, ap, ap₂, ◌∙◌, subst, ℕ, zero, suc, ◌-◌, ◌<◌, ◌≤◌, ℤ, pos, List, [], ◌∷◌, length, map, take, get_or, arith, length-take-le}
use Rattle.std.specs.Bool.{IsTrue}
use Rattle.std.specs.Int.{int_div_euclid}
use Rattle.ch_affine.specs.Rows.{all_hold, lies_in}
use Rattle.ch_affine.specs.declared.system.Range.{Range}
use Rattle.ch_space.specs.declared.piece.Piece.{Piece}
use Rattle.ch_space.specs.Keeps.{IsWhole, places_of}
use Rattle.ch_space.specs.Pieces.{element_at, instances}
use Rattle.ch_space.proofs.Counted.{box_points_lie}
use Rattle.ch_space.proofs.Membership.{box_points_in, in_instances}
use Rattle.ch_space.proofs.PieceElements.{element_places, element_values, levels_of}
use Rattle.ch_timed.specs.Closed.{at_vector}
use Rattle.ch_timed.specs.Members.{In}
use Rattle.ch_timed.specs.Vectors.{places, values, woven}
use Rattle.ch_timed.specs.declared.element.Element.{Element}
use Rattle.ch_moved.specs.Reindexed.{IsReindexed}
use Rattle.ch_moved.specs.Substituted.{image}
use Rattle.ch_moved.proofs.Values.{lies_at, lies_length}
use Rattle.ch_tile.specs.Layout.{removed, tile_rows, tiled_boxes, tiles_of, untiled}
use Rattle.ch_tile.specs.Tiled.{inserted, tiled_element}
use Rattle.ch_tile.proofs.Insertions.{image_removed, inserted_removed, length_inserted, length_removed, removed_inserted}
use Rattle.ch_tile.proofs.TiledPieces.{inserted_lies, quotient_grows, rows_tile, tile_rows_hold}

pub map_inserted : {A B : Type 0} (h : A → B) (k : ℕ) (x : A) (xs : List A) → map h (inserted k x xs) ≡ inserted k (h x) (map h xs)
map_inserted h zero x xs = refl
map_inserted h (suc k) x [] = refl
map_inserted h (suc k) x (y ∷ ys) = ap (λ t. h y ∷ t) (map_inserted h k x ys)

less_one : (n : ℕ) → suc n - 1 ≡ n
less_one n = omega arith

counted_from : (j l t : ℕ) (e : Element) → tiled_element (pos (suc l)) (pos t) (pos (suc j)) e
    ≡ at_vector e (woven (inserted (suc j) (pos 0) (places e.vector)) (inserted j (int_div_euclid (get_or (values e.vector) l (pos 0)) (pos t)) (values e.vector)))
counted_from j l t e =
    ap₂ (λ a b. at_vector e (woven (inserted (suc j) (pos 0) (places e.vector)) (inserted a (int_div_euclid (get_or (values e.vector) b (pos 0)) (pos t)) (values e.vector))))
    (less_one j) (less_one l)

module _ (p q : Piece) (w : IsWhole p) (j l t : ℕ) (d : Range) (some : 0 < t) (outer : j ≤ l) (inner : l < p.levels)
    (r : IsReindexed p (untiled p.levels j) (tiled_boxes j l t (take p.levels p.system.boxes) d) (tile_rows p.levels j l t) (inserted (suc j) 0 p.places) q)
    (element : (ys : List ℤ) → length ys ≡ suc p.levels → element_at q ys ≡ at_vector (element_at p (image (untiled p.levels j) ys)) (woven (places_of q) ys)) where
  boxes_long : length (take p.levels p.system.boxes) ≡ p.levels
  boxes_long = let e = w.boxes in length-take-le p.levels p.system.boxes (omega arith)

  abbrev tile_of : List ℤ → ℤ
  tile_of xs = int_div_euclid (get_or xs l (pos 0)) (pos t)

  abbrev deeper : List ℤ → List ℤ
  deeper xs = inserted j (tile_of xs) xs

  deeper_long : (xs : List ℤ) → length xs ≡ p.levels → length (deeper xs) ≡ suc p.levels
  deeper_long xs e = let k = length_inserted j (tile_of xs) xs (omega arith) in omega arith

  shallower : (xs : List ℤ) → length xs ≡ p.levels → image (untiled p.levels j) (deeper xs) ≡ xs
  shallower xs e = image_removed j (suc p.levels) (deeper xs) (deeper_long xs e) ∙ removed_inserted j (tile_of xs) xs (omega arith)

  there : (xs : List ℤ) → In xs (instances p) → In (deeper xs) (instances q)
  there xs i =
      let e = levels_of p xs w i in
      let b = boxes_long in
      let lies : IsTrue (lies_in (take p.levels p.system.boxes) xs) = box_points_lie (take p.levels p.system.boxes) xs (box_points_in (take p.levels p.system.boxes) xs (in_instances p xs i).inside) in
      let ends = lies_at (take p.levels p.system.boxes) xs l d lies (omega arith) in
      let boxed = inserted_lies j (tiles_of t (get_or (take p.levels p.system.boxes) l d)) (take p.levels p.system.boxes) (tile_of xs) xs (omega arith)
      (quotient_grows t _ _ some ends.least) (quotient_grows t _ _ some ends.most) lies in
      (r.is_instance (deeper xs)).1 (boxed, tile_rows_hold p.levels j l t (tile_of xs) xs e outer inner some refl, subst (λ z. In z (instances p)) (sym (shallower xs e)) i)

  same_element : (xs : List ℤ) → In xs (instances p) → tiled_element (pos (suc l)) (pos t) (pos (suc j)) (element_at p xs) ≡ element_at q (deeper xs)
  same_element xs i =
      let e = levels_of p xs w i in
      let ps = element_places p xs w i in
      let vs = element_values p xs w i in
      let new_places : places_of q ≡ inserted (suc j) (pos 0) (places_of p) = ap (map pos) r.places ∙ map_inserted pos (suc j) 0 p.places in
      counted_from j l t (element_at p xs)
      ∙ ap₂ (λ a b. at_vector (element_at p xs) (woven (inserted (suc j) (pos 0) a) (inserted j (int_div_euclid (get_or b l (pos 0)) (pos t)) b))) ps vs
      ∙ ap (λ a. at_vector (element_at p xs) (woven a (deeper xs))) (sym new_places)
      ∙ ap (λ z. at_vector (element_at p z) (woven (places_of q) (deeper xs))) (sym (shallower xs e))
      ∙ sym (element (deeper xs) (deeper_long xs e))

  pub tiled_forth : (xs : List ℤ) → In xs (instances p) → (ys : List ℤ) × (In ys (instances q) × (tiled_element (pos (suc l)) (pos t) (pos (suc j)) (element_at p xs) ≡ element_at q ys))
  tiled_forth xs i = (deeper xs, (there xs i, same_element xs i))

  tiles_long : length (tiled_boxes j l t (take p.levels p.system.boxes) d) ≡ suc p.levels
  tiles_long = let b = boxes_long in let k = length_inserted j (tiles_of t (get_or (take p.levels p.system.boxes) l d)) (take p.levels p.system.boxes) (omega arith) in omega arith

  pub tiled_back : (ys : List ℤ) → In ys (instances q) → (xs : List ℤ) × (In xs (instances p) × (tiled_element (pos (suc l)) (pos t) (pos (suc j)) (element_at p xs) ≡ element_at q ys))
  tiled_back ys i =
      let b = (r.is_instance ys).0 i in
      let e : length ys ≡ suc p.levels = lies_length _ ys b.0 ∙ tiles_long in
      let gone = image_removed j (suc p.levels) ys e in
      let old : In (removed j ys) (instances p) = subst (λ z. In z (instances p)) gone b.2 in
      let n = length_removed j ys (omega arith) in
      let again = inserted_removed j (pos 0) ys (omega arith) in
      let f = rows_tile p.levels j l t (get_or ys j (pos 0)) (removed j ys) (omega arith) outer inner (subst (λ z. IsTrue (all_hold (tile_rows p.levels j l t) z)) (sym again) b.1) in
      let same : deeper (removed j ys) ≡ ys = ap (λ z. inserted j z (removed j ys)) (sym f) ∙ again in
      (removed j ys, (old, same_element (removed j ys) old ∙ ap (element_at q) same))
