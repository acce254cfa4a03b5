use Rattle.std.proofs.Common.{◌≡◌, ap, ◌∙◌, subst}
use Rattle.std.specs.Result.{IfOk}
use Rattle.ch_order.specs.Legal.{AreAmong}
use Rattle.ch_space.specs.Listed.{Listed}
use Rattle.ch_space.specs.Pieces.{listed}
use Rattle.ch_space.proofs.Readings.{below_pieces}
use Rattle.ch_tile.proofs.Made.{kept_in, makes}
use Rattle.ch_tile.proofs.tiling.tiled.Goals as goal

pub tiled_pieces-requires-clause-number : goal.tiled_pieces-requires-clause-number
tiled_pieces-requires-clause-number c =
    below_pieces c.args.space.now.list c.space.inside.pieces c.space.invariant.apart (ap (λ (r : Listed). r.list) c.space.view_is) c.as_slice-all.result.now c.args.number c.as_slice-all.ensures c.requires.number

pub closed_space-requires : goal.closed_space-requires
closed_space-requires c =
    let m =
    makes c.args.number c.args.level c.args.size c.args.outer c.space.inside.arrays c.space.inside.weight c.space.inside.commands c.space.inside.pieces c.as_slice-all.result.now c.in_ok-pieces.pieces
    c.space.inside.counts c.in_ok-counts.counts c.space.inside.temps c.args.space.now c.requires.some c.requires.around c.requires.outer c.space.invariant c.space.view_is c.requires.few
    c.as_slice-all.ensures (c.in_ok-counts.ensures ∙ c.as_slice.ensures) c.requires.shared c.requires.shallow c.in_ok-pieces.ensures in
    m.space

pub returns-clause-list : goal.returns-clause-list
returns-clause-list c =
    let m =
    makes c.args.number c.args.level c.args.size c.args.outer c.space.inside.arrays c.space.inside.weight c.space.inside.commands c.space.inside.pieces c.as_slice-all.result.now c.in_ok-pieces.pieces
    c.space.inside.counts c.in_ok-counts.counts c.space.inside.temps c.args.space.now c.requires.some c.requires.around c.requires.outer c.space.invariant c.space.view_is c.requires.few
    c.as_slice-all.ensures (c.in_ok-counts.ensures ∙ c.as_slice.ensures) c.requires.shared c.requires.shallow c.in_ok-pieces.ensures in
    subst (λ z. IfOk c.closed_space.result (λ new. new.list ≡ z)) m.list c.closed_space.ensures.list

pub returns-clause-kept : goal.returns-clause-kept
returns-clause-kept c =
    let m =
    makes c.args.number c.args.level c.args.size c.args.outer c.space.inside.arrays c.space.inside.weight c.space.inside.commands c.space.inside.pieces c.as_slice-all.result.now c.in_ok-pieces.pieces
    c.space.inside.counts c.in_ok-counts.counts c.space.inside.temps c.args.space.now c.requires.some c.requires.around c.requires.outer c.space.invariant c.space.view_is c.requires.few
    c.as_slice-all.ensures (c.in_ok-counts.ensures ∙ c.as_slice.ensures) c.requires.shared c.requires.shallow c.in_ok-pieces.ensures in
    kept_in c.closed_space.result (listed c.in_ok-pieces.pieces) (λ z. AreAmong c.args.space.now.list z) c.closed_space.ensures.list m.kept

pub returns-clause-no_others : goal.returns-clause-no_others
returns-clause-no_others c =
    let m =
    makes c.args.number c.args.level c.args.size c.args.outer c.space.inside.arrays c.space.inside.weight c.space.inside.commands c.space.inside.pieces c.as_slice-all.result.now c.in_ok-pieces.pieces
    c.space.inside.counts c.in_ok-counts.counts c.space.inside.temps c.args.space.now c.requires.some c.requires.around c.requires.outer c.space.invariant c.space.view_is c.requires.few
    c.as_slice-all.ensures (c.in_ok-counts.ensures ∙ c.as_slice.ensures) c.requires.shared c.requires.shallow c.in_ok-pieces.ensures in
    kept_in c.closed_space.result (listed c.in_ok-pieces.pieces) (λ z. AreAmong z c.args.space.now.list) c.closed_space.ensures.list m.no_others
