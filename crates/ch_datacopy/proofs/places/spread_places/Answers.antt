use Rattle.std.proofs.Common.{◌+◌, ◌*◌, sym, ap, ap₂, ◌∙◌, length, map, pos, set, take, slice_index_or}
use Rattle.std.proofs.Math.ListN.{length-set}
use Rattle.std.specs.Cmp.Lexicographic.{other_text, same_text}
use Rattle.ch_datacopy.specs.Spreads.{spread_by}
use Rattle.ch_datacopy.proofs.Placed.{placed_beside, placed_short, rewritten_same, spread_at}
use Rattle.ch_datacopy.proofs.places.spread_places.Goals as goal
use Rattle.ch_datacopy.proofs.places.spread_places.Goals.{then-around-theirs+then-eq, then-is_loop, else-is_loop, else-around-theirs, else-around-theirs-via-then-around-theirs+else-eq, else-around-theirs-via-else-around-theirs}

pub returns : goal.returns
returns c = elim c.if-around-theirs.branch [
  | then-around-theirs+then-eq w ↦
      spread_at c.args.spread c.args.ours.now c.args.theirs.now c.in_ok-wide.wide c.if-around-theirs.wide c.args.around w.if-is_loop.offset c.requires.deep w.if-around-theirs.true
      (same_text (take c.args.around c.args.ours.now) (take c.args.around c.args.theirs.now) (sym w.if-eq.true ∙ w.eq.ensures)) c.in_ok-wide.ensures
      (elim w.if-is_loop.branch [
        | then-is_loop v ↦ (λ e. v.offset-is, λ n. absurd (n v.if-is_loop.true))
        | else-is_loop v ↦ (λ e. absurd (v.if-is_loop.false e), λ n. v.offset-is)
      ])
      (w.wide-is
      ∙ rewritten_same c.in_ok-wide.wide (set w.as_mut_slice.result.now c.args.around (w.from.result * c.args.spread.width + w.if-is_loop.offset))
      (length-set w.as_mut_slice.result.now c.args.around (w.from.result * c.args.spread.width + w.if-is_loop.offset) ∙ ap length w.as_mut_slice.ensures.value)
      ∙ ap₂ (λ z n. set z c.args.around (n * c.args.spread.width + w.if-is_loop.offset)) w.as_mut_slice.ensures.value w.from.ensures)
  | else-around-theirs w ↦ elim w.else-around-theirs.branch [
    | else-around-theirs-via-then-around-theirs+else-eq v ↦
        ap (map pos) (w.wide-is ∙ c.in_ok-wide.ensures)
        ∙ sym (placed_beside (spread_by c.args.spread (slice_index_or c.args.ours.now c.args.around 0)) c.args.ours.now c.args.theirs.now c.args.around c.requires.deep
        (other_text (take c.args.around c.args.ours.now) (take c.args.around c.args.theirs.now) (sym v.if-eq.false ∙ v.eq.ensures)))
    | else-around-theirs-via-else-around-theirs v ↦
        ap (map pos) (w.wide-is ∙ c.in_ok-wide.ensures)
        ∙ sym (placed_short (spread_by c.args.spread (slice_index_or c.args.ours.now c.args.around 0)) c.args.ours.now c.args.theirs.now c.args.around c.requires.deep v.if-around-theirs.false)
  ]
]
