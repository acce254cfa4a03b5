use Rattle.std.proofs.Common.{◌∙◌, ap, arith, get_or, length, refl, sym, []}
use Rattle.std.proofs.lemmas.List.{get_or_push, length_push}
use Rattle.ch_code.specs.declared.code.Code.TheVariants.{Leaf}
use Rattle.ch_plan.specs.Ready.{extents_in}
use Rattle.ch_eval.specs.declared.make.Needs.{Needs}
use Rattle.ch_eval.proofs.Fitting.{access_parts, body_right, body_write, leaf_parts}
use Rattle.ch_eval.proofs.Planning.{grows_push, leaf_planned}
use Rattle.ch_eval.proofs.make.leaf_of.Goals as goal

pub spot_of-requires-clause-origin : goal.spot_of-requires-clause-origin
spot_of-requires-clause-origin c =
    let site = c.args.site.now in
    (leaf_parts (length site.arrays.now) site.around c.args.body.now site.origin.now c.args.places.now c.requires.fits).0.1

pub spot_of-requires-clause-array : goal.spot_of-requires-clause-array
spot_of-requires-clause-array c =
    let site = c.args.site.now in
    let parts = leaf_parts (length site.arrays.now) site.around c.args.body.now site.origin.now c.args.places.now c.requires.fits in
    (access_parts (length site.arrays.now) (length site.origin.now) c.args.body.now.write (body_write (length site.arrays.now) (length site.origin.now) c.args.body.now parts.0.0)).0

pub spot_of-requires-clause-subs : goal.spot_of-requires-clause-subs
spot_of-requires-clause-subs c =
    let site = c.args.site.now in
    let parts = leaf_parts (length site.arrays.now) site.around c.args.body.now site.origin.now c.args.places.now c.requires.fits in
    (access_parts (length site.arrays.now) (length site.origin.now) c.args.body.now.write (body_write (length site.arrays.now) (length site.origin.now) c.args.body.now parts.0.0)).1

pub right_of-requires-clause-origin : goal.right_of-requires-clause-origin
right_of-requires-clause-origin c =
    let site = c.args.site.now in
    (leaf_parts (length site.arrays.now) site.around c.args.body.now site.origin.now c.args.places.now c.requires.fits).0.1

pub right_of-requires-clause-fits : goal.right_of-requires-clause-fits
right_of-requires-clause-fits c =
    let site = c.args.site.now in
    body_right (length site.arrays.now) (length site.origin.now) c.args.body.now
    (leaf_parts (length site.arrays.now) site.around c.args.body.now site.origin.now c.args.places.now c.requires.fits).0.0

pub returns-clause-grows : goal.returns-clause-grows
returns-clause-grows c =
    let old = c.args.needs.now in
    let new : Needs = record { places = c.push.new.self; deep = old.deep; vars = old.vars; rows = old.rows } in
    grows_push old new c.in_ok-copy.copy refl refl refl c.in_ok-push.ensures.ok

pub returns-clause-plan : goal.returns-clause-plan
returns-clause-plan c = λ label.
    let site = c.args.site.now in
    let old = c.args.needs.now in
    let new : Needs = record { places = c.push.new.self; deep = old.deep; vars = old.vars; rows = old.rows } in
    let parts = leaf_parts (length site.arrays.now) site.around c.args.body.now site.origin.now c.args.places.now c.requires.fits in
    leaf_planned (extents_in site.arrays.now) site.around c.len-leaf.result new label c.args.body.now site.origin.now c.args.places.now c.in_ok-write.write c.in_ok-right.right
    (Leaf label c.args.body.now site.origin.now c.args.places.now) refl parts.1 (omega (arith, c.len-leaf.ensures, ap length c.in_ok-push.ensures.ok, length_push old.places c.in_ok-copy.copy))
    (ap (λ ps. get_or ps c.len-leaf.result []) c.in_ok-push.ensures.ok ∙ get_or_push old.places c.in_ok-copy.copy [] c.len-leaf.result (sym c.len-leaf.ensures) ∙ c.in_ok-copy.ensures) c.in_ok-write.ensures c.in_ok-right.ensures
