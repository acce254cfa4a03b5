use Rattle.std.proofs.Common.{◌+◌, sym, ap, ◌∙◌, subst, SFits, w64, arith}
use Rattle.std.proofs.lemmas.Int.{to_z-of_z}
use Rattle.ch_fuse.specs.Fused.{fuses}
use Rattle.ch_fuse.proofs.Made.{few, never}
use Rattle.ch_moved.specs.Causes.{Answers}
use Rattle.ch_pieces.specs.Candidates.{AreCandidates}
use Rattle.ch_space.specs.Listed.{Listed}
use Rattle.ch_fuse.proofs.fusing.fuse.Goals as goal

pub moved_space-requires-clause-number : goal.moved_space-requires-clause-number
moved_space-requires-clause-number c =
    let f = few c.space.inside.arrays c.space.inside.weight c.space.inside.commands c.space.inside.pieces c.space.inside.counts c.space.inside.temps c.args.space.now c.space.invariant c.space.view_is in
    let m = c.in_ok-candidates.ensures.many in
    omega arith

pub moved_space-requires-clause-are : goal.moved_space-requires-clause-are
moved_space-requires-clause-are c =
    let g : SFits w64 c.args.level = c.ranges.level in
    let old = c.args.space.now in
    let made : AreCandidates (fuses c.args.space.now.list c.args.pieces.now c.args.level) c.args.space.now.list c.args.space.now.weight (c.args.space.now.commands + 1) c.in_ok-candidates.candidates = simp to_z-of_z at c.in_ok-candidates.ensures.are in
    record {
      change = fuses old.list c.args.pieces.now c.args.level;
      are = subst (λ w. AreCandidates (fuses old.list c.args.pieces.now c.args.level) old.list w (old.commands + 1) c.in_ok-candidates.candidates) (sym (ap (λ (r : Listed). r.weight) c.space.view_is))
          made;
    }

pub returns-clause-cause : goal.returns-clause-cause
returns-clause-cause c =
    let g : SFits w64 c.args.level = c.ranges.level in
    let old = c.args.space.now in
    let made : AreCandidates (fuses c.args.space.now.list c.args.pieces.now c.args.level) c.args.space.now.list c.args.space.now.weight (c.args.space.now.commands + 1) c.in_ok-candidates.candidates = simp to_z-of_z at c.in_ok-candidates.ensures.are in
    let change = fuses old.list c.args.pieces.now c.args.level in
    let are =
    subst (λ w. AreCandidates (fuses old.list c.args.pieces.now c.args.level) old.list w (old.commands + 1) c.in_ok-candidates.candidates) (sym (ap (λ (r : Listed). r.weight) c.space.view_is))
    made in
    let none = never c.space.inside.arrays c.space.inside.weight c.space.inside.commands c.space.inside.pieces c.space.inside.counts c.space.inside.temps c.args.space.now c.space.invariant c.space.view_is
    change c.space.inside.weight (old.commands + 1) c.in_ok-candidates.candidates are c.in_ok-candidates.ensures.many in
    subst (Answers c.moved_space.result) (none ∙ sym (sym (simp to_z-of_z at c.fuse_cause.ensures) ∙ c.in_default.is)) (c.moved_space.ensures.cause change are)
