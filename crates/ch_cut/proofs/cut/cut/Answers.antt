use Rattle.std.proofs.Common.{ap, sym, subst, ◌+◌, SFits, w64}
use Rattle.std.proofs.lemmas.Int.{to_z-of_z}
use Rattle.ch_cut.specs.Cut.{cuts}
use Rattle.ch_cut.specs.Forms.{holds_at}
use Rattle.ch_pieces.specs.Candidates.{AreSomeCandidates}
use Rattle.ch_space.specs.Listed.{Listed}
use Rattle.ch_cut.proofs.cut.cut.Goals as goal

pub moved_space-requires-clause-are : goal.moved_space-requires-clause-are
moved_space-requires-clause-are c =
    let f : SFits w64 c.args.number = c.ranges.number in
    let g : SFits w64 c.args.level = c.ranges.level in
    let h = simp to_z-of_z at c.in_ok-candidates.ensures.are in
    subst (λ w. AreSomeCandidates c.args.space.now.list w (c.args.space.now.commands + 1) c.in_ok-candidates.candidates) (sym (ap (λ (r : Listed). r.weight) c.space.view_is))
    (record { change = cuts c.args.space.now.list c.args.number c.args.level (holds_at c.args.form.now); are = h })
