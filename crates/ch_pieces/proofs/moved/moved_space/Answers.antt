use Rattle.std.proofs.Common.{◌∙◌, ◌+◌, subst, sym, length, arith}
use Rattle.std.proofs.lemmas.Int.{ints}
use Rattle.ch_space.specs.Keeps.{IsSpace}
use Rattle.ch_pieces.proofs.Spaces.{among_view, not_too_many, too_many_is, view_among, view_few, view_length, view_list, view_space}
use Rattle.ch_pieces.proofs.moved.moved_space.Goals as goal

pub assembled-requires-clause-few : goal.assembled-requires-clause-few
assembled-requires-clause-few c =
    view_few c.before-2.inside.arrays c.before-2.inside.pieces c.before-2.inside.counts c.before-2.inside.temps c.before-2.inside.weight c.before-2.inside.commands c.args.before.now c.before-2.invariant
    c.before-2.view_is c.args.weight c.args.candidates c.requires.are

pub returns-then-len-gt-MOST_PIECES-clause-cause : goal.returns-then-len-gt-MOST_PIECES-clause-cause
returns-then-len-gt-MOST_PIECES-clause-cause c change h =
    too_many_is change c.args.before.now.list (length c.in_ok-assembled.assembled.pieces) _ (view_length c.before-2.inside.arrays c.before-2.inside.pieces c.before-2.inside.counts c.before-2.inside.temps c.before-2.inside.weight c.before-2.inside.commands c.args.before.now c.before-2.invariant
    c.before-2.view_is c.args.weight c.args.candidates c.in_ok-assembled.assembled.pieces c.in_ok-assembled.assembled.counts c.in_ok-assembled.ensures change h) (let e = c.len.ensures in let l = c.if-len-gt-MOST_PIECES.true in omega arith)
    (let e = c.len-then-len-gt-MOST_PIECES.ensures in omega (arith, ints))

pub invariant_of-result : goal.invariant_of-result
invariant_of-result c =
    subst (λ t. IsSpace c.before-2.inside.arrays c.in_ok-assembled.assembled.pieces c.in_ok-assembled.assembled.counts t c.args.weight (c.before-2.inside.commands + 1)) (sym (c.in_ok-temps.ensures ∙ c.as_slice.ensures))
    (view_space c.before-2.inside.arrays c.before-2.inside.pieces c.before-2.inside.counts c.before-2.inside.temps c.before-2.inside.weight c.before-2.inside.commands c.args.before.now c.before-2.invariant
    c.before-2.view_is c.args.weight c.args.candidates c.in_ok-assembled.assembled.pieces c.in_ok-assembled.assembled.counts c.in_ok-assembled.ensures
    c.requires.are (let e = c.len.ensures in let l = c.if-len-gt-MOST_PIECES.false in omega arith) c.requires.commands c.requires.some c.requires.light)

pub returns-clause-cause : goal.returns-clause-cause
returns-clause-cause c change h =
    not_too_many change c.args.before.now.list (length c.in_ok-assembled.assembled.pieces) (view_length c.before-2.inside.arrays c.before-2.inside.pieces c.before-2.inside.counts c.before-2.inside.temps c.before-2.inside.weight c.before-2.inside.commands c.args.before.now c.before-2.invariant
    c.before-2.view_is c.args.weight c.args.candidates c.in_ok-assembled.assembled.pieces c.in_ok-assembled.assembled.counts c.in_ok-assembled.ensures change h) (let e = c.len.ensures in let l = c.if-len-gt-MOST_PIECES.false in omega arith)

pub returns-clause-list : goal.returns-clause-list
returns-clause-list c =
    view_list c.before-2.inside.arrays c.before-2.inside.pieces c.before-2.inside.counts c.before-2.inside.temps c.before-2.inside.weight c.before-2.inside.commands c.args.before.now c.before-2.invariant
    c.before-2.view_is c.args.weight c.args.candidates c.in_ok-assembled.assembled.pieces c.in_ok-assembled.assembled.counts c.in_ok-assembled.ensures

pub returns-clause-kept : goal.returns-clause-kept
returns-clause-kept c =
    view_among c.before-2.inside.arrays c.before-2.inside.pieces c.before-2.inside.counts c.before-2.inside.temps c.before-2.inside.weight c.before-2.inside.commands c.args.before.now c.before-2.invariant
    c.before-2.view_is c.args.weight c.args.candidates c.in_ok-assembled.assembled.pieces c.in_ok-assembled.assembled.counts c.in_ok-assembled.ensures
    c.requires.are (let e = c.len.ensures in let l = c.if-len-gt-MOST_PIECES.false in omega arith) c.requires.commands c.requires.some c.requires.light

pub returns-clause-no_others : goal.returns-clause-no_others
returns-clause-no_others c =
    among_view c.before-2.inside.arrays c.before-2.inside.pieces c.before-2.inside.counts c.before-2.inside.temps c.before-2.inside.weight c.before-2.inside.commands c.args.before.now c.before-2.invariant
    c.before-2.view_is c.args.weight c.args.candidates c.in_ok-assembled.assembled.pieces c.in_ok-assembled.assembled.counts c.in_ok-assembled.ensures
    c.requires.are (let e = c.len.ensures in let l = c.if-len-gt-MOST_PIECES.false in omega arith) c.requires.commands c.requires.some c.requires.light
