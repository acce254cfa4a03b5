use Rattle.std.proofs.Common.{◌≡◌, ap, sym, map, pos, true, false, ◌∙◌}
use Rattle.ch_cut.specs.Forms.{holds_at}
use Rattle.ch_cut.specs.Parts.{cut_places}
use Rattle.ch_cut.proofs.Doubling.{shares_beside}
use Rattle.ch_cut.proofs.Halved.{halves_parts, replaced_parts}
use Rattle.ch_space.specs.Keeps.{places_of}
use Rattle.ch_timed.specs.Vectors.{shares}
use Rattle.ch_cut.proofs.parts.parts.Goals as goal

pub returns-then-share : goal.returns-then-share
returns-then-share c =
    let ours = map pos c.args.ours.now in
    let p = c.args.piece.now in
    let s : shares c.args.level ours (places_of p) ≡ true = ap (λ t. shares c.args.level ours (map pos t)) (sym c.as_slice-theirs.ensures) ∙ sym c.share.ensures ∙ c.if-share.true in
    halves_parts c.args.level ours c.args.form.now p c.halves.result c.requires.whole c.requires.some (shares_beside c.args.level ours (places_of p) s) s c.halves.ensures

pub returns : goal.returns
returns c =
    let ours = map pos c.args.ours.now in
    let p = c.args.piece.now in
    let s : shares c.args.level ours (places_of p) ≡ false = ap (λ t. shares c.args.level ours (map pos t)) (sym c.as_slice-theirs.ensures) ∙ sym c.share.ensures ∙ c.if-share.false in
    let is = c.in_ok-places.ensures ∙ ap (λ t. cut_places c.args.level ours true (map pos t)) c.as_slice-theirs.ensures in
    replaced_parts c.args.level ours (holds_at c.args.form.now) p c.requires.whole s c.in_ok-places.places is c.args.count c.requires.count c.replaced.result c.replaced.ensures
