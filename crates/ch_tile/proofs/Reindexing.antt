-- What the change of variables of a tiled piece asks for.
use Rattle.std.proofs.Common.{◌≡◌, sym, ap, ap₂, ◌∙◌, subst, ℕ, suc, ◌+◌, ◌<◌, ◌≤◌, ◌^◌, List, length, get_or, take, arith, length-take-le, Result}
use Rattle.ch_moved.specs.Room.{HasRoom, origin_range}
use Rattle.std.specs.Result.{IfOk}
use Rattle.std.specs.declared.alloc.AllocError.{AllocError}
use Rattle.std.specs.List.{All}
use Rattle.ch_affine.specs.Affine.{IsAtMost, IsSmall}
use Rattle.ch_affine.specs.Form.{Form}
use Rattle.ch_affine.specs.declared.system.Range.{Range}
use Rattle.ch_moved.specs.Changed.{AllLong}
use Rattle.ch_moved.specs.Reindexed.{IsReindexed}
use Rattle.ch_moved.specs.Substituted.{substituted}
use Rattle.ch_space.specs.declared.piece.Piece.{Piece}
use Rattle.ch_space.specs.Keeps.{IsWhole}
use Rattle.ch_tile.specs.Layout.{tile_rows, tiled_boxes, tiles_of, untiled}
use Rattle.ch_tile.specs.Pieces.{IsTiled}
use Rattle.ch_tile.specs.Tiled.{inserted}
use Rattle.ch_tile.proofs.Insertions.{length_inserted}
use Rattle.ch_tile.proofs.TiledForms.{length_untiled, long_rows, long_untiled, near_untiled, untiled_small}

pub record Fits (p : Piece) (gs : List Form) (boxes : List Range) (extra : List Form) (new_places : List ℕ) : Type 0 where
  pub levels : p.levels ≤ 10
  pub many : length gs ≡ p.levels
  pub long : AllLong (length boxes) gs
  pub near : All (λ f. IsAtMost (2 ^ 59) f.constant) gs
  pub extra_long : AllLong (length boxes) extra
  pub few : length boxes + (p.levels + p.hidden) ≤ 4096
  pub places : length new_places ≡ length boxes + 1
  pub origin : All (λ f. IsSmall (substituted (length boxes) gs f)) p.origin

pub length_boxes : (p : Piece) (j l t : ℕ) (d : Range) → IsWhole p → j ≤ p.levels → length (tiled_boxes j l t (take p.levels p.system.boxes) d) ≡ suc p.levels
length_boxes p j l t d w h =
    let e = w.boxes in
    let b : length (take p.levels p.system.boxes) ≡ p.levels = length-take-le p.levels p.system.boxes (omega arith) in
    let k = length_inserted j (tiles_of t _) (take p.levels p.system.boxes) (omega arith) in
    k ∙ omega arith

pub fits : (p : Piece) (l t j : ℕ) → IsWhole p → HasRoom 1 p → p.levels < 10 → j ≤ l → l < p.levels
    → Fits p (untiled p.levels j) (tiled_boxes j l t (take p.levels p.system.boxes) origin_range) (tile_rows p.levels j l t) (inserted (suc j) 0 p.places)
fits p l t j w room shallow outer inner =
    let b = length_boxes p j l t origin_range w (omega arith) in
    let i = length_inserted (suc j) 0 p.places (let n = w.places in omega arith) in
    record {
      levels = omega arith;
      many = length_untiled p.levels j (omega arith);
      long = subst (λ n. AllLong n (untiled p.levels j)) (sym b) (long_untiled p.levels j);
      near = near_untiled p.levels j;
      extra_long = subst (λ n. AllLong n (tile_rows p.levels j l t)) (sym b) (long_rows p.levels j l t outer inner);
      few = let v = room.limited.variables in let c = room.few in omega arith;
      places = let n = w.places in omega arith;
      origin = λ k d h.
          subst (λ n. IsSmall (substituted n (untiled p.levels j) (get_or p.origin k d))) (sym b)
          (untiled_small p.levels j room.weight room.commands (get_or p.origin k d) (omega arith) shallow room.some (let h = room.small in omega arith) room.few (w.origin k d h) (room.limited.origin k d h));
    }

-- as the code makes them

pub record AreMade (p : Piece) (l t j : ℕ) (gs : List Form) (boxes : List Range) (extra : List Form) (new_places : List ℕ) : Type 0 where
  pub forms : gs ≡ untiled p.levels j
  pub ranges : boxes ≡ tiled_boxes j l t (take p.levels p.system.boxes) origin_range
  pub rows : extra ≡ tile_rows p.levels j l t
  pub places : new_places ≡ inserted (suc j) 0 p.places

pub are_made : (p : Piece) (l t j n k : ℕ) (gs : List Form) (boxes bs : List Range) (extra : List Form) (places old : List ℕ) → n ≡ p.levels → bs ≡ take n p.system.boxes → old ≡ p.places → k ≡ suc j
    → gs ≡ untiled n j → boxes ≡ tiled_boxes j l t bs origin_range → extra ≡ tile_rows n j l t → places ≡ inserted k 0 old → AreMade p l t j gs boxes extra places
are_made p l t j n k gs boxes bs extra places old e f o i g b r h = record {
  forms = g ∙ ap (λ m. untiled m j) e;
  ranges = b ∙ ap (λ z. tiled_boxes j l t z origin_range) (f ∙ ap (λ m. take m p.system.boxes) e);
  rows = r ∙ ap (λ m. tile_rows m j l t) e;
  places = h ∙ ap₂ (λ m z. inserted m 0 z) i o;
}

pub fits_made : (p : Piece) (l t j : ℕ) (gs : List Form) (boxes : List Range) (extra : List Form) (places : List ℕ) → AreMade p l t j gs boxes extra places → IsWhole p → HasRoom 1 p → p.levels < 10 → j ≤ l → l < p.levels
    → Fits p gs boxes extra places
fits_made p l t j gs boxes extra places m w room shallow outer inner =
    subst (λ z. Fits p z boxes extra places) (sym m.forms)
    (subst (λ z. Fits p (untiled p.levels j) z extra places) (sym m.ranges)
    (subst (λ z. Fits p (untiled p.levels j) (tiled_boxes j l t (take p.levels p.system.boxes) origin_range) z places) (sym m.rows)
    (subst (Fits p (untiled p.levels j) (tiled_boxes j l t (take p.levels p.system.boxes) origin_range) (tile_rows p.levels j l t)) (sym m.places) (fits p l t j w room shallow outer inner))))

pub tiled_made : (p : Piece) (l t j : ℕ) (gs : List Form) (boxes : List Range) (extra : List Form) (places : List ℕ) (r : Result Piece AllocError) → AreMade p l t j gs boxes extra places
    → IfOk r (λ q. IsReindexed p gs boxes extra places q) → IfOk r (λ q. IsTiled l t j p q)
tiled_made p l t j gs boxes extra places r m h =
    subst (λ z. IfOk r (IsReindexed p (untiled p.levels j) (tiled_boxes j l t (take p.levels p.system.boxes) origin_range) (tile_rows p.levels j l t) z)) m.places
    (subst (λ z. IfOk r (IsReindexed p (untiled p.levels j) (tiled_boxes j l t (take p.levels p.system.boxes) origin_range) z places)) m.rows
    (subst (λ z. IfOk r (IsReindexed p (untiled p.levels j) z extra places)) m.ranges (subst (λ z. IfOk r (IsReindexed p z boxes extra places)) m.forms h)))
