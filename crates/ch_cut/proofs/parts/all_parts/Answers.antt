use Rattle.std.proofs.Common.{◌≡◌, ◌≤◌, ◌+◌, length, arith, ap, sym, subst, map, pos, take, ◌++◌, ◌∷◌, [], ◌∙◌}
use Rattle.std.proofs.lemmas.List.{take_all, take_more}
use Rattle.ch_cut.specs.Forms.{holds_at}
use Rattle.ch_cut.specs.Parts.{AllParts}
use Rattle.ch_cut.proofs.PartLists.{all_more}
use Rattle.ch_moved.proofs.Named.{item_whole}
use Rattle.ch_cut.proofs.parts.all_parts.Goals as goal

pub parts-requires-clause-whole : goal.parts-requires-clause-whole
parts-requires-clause-whole c = item_whole c.args.pieces.now c.loop-k.k c.index-pieces-k.result c.requires.apart c.loop-k-test.true c.index-pieces-k.is

pub loop-k-preserved : goal.loop-k-preserved
loop-k-preserved c =
    let ps = c.args.pieces.now in
    let p = c.index-pieces-k.result in
    let k = c.loop-k.k in
    let ours = map pos c.args.ours.now in
    let more : take k ps ++ p ∷ [] ≡ take (k + 1) ps = ap (λ z. take k ps ++ z ∷ []) c.index-pieces-k.is ∙ sym (take_more ps k p c.loop-k-test.true) in
    subst (λ z. AllParts c.args.level ours (holds_at c.args.form.now) z c.append.new.candidates) more
    (subst (λ z. AllParts c.args.level ours (holds_at c.args.form.now) (take k ps ++ p ∷ []) z) (sym c.in_ok-append.ensures)
    (all_more c.args.level ours (holds_at c.args.form.now) (take k ps) p c.loop-k.candidates c.in_ok-more.more c.loop-k.invariant c.in_ok-more.ensures))

pub returns : goal.returns
returns c =
    let l : length c.args.pieces.now ≤ c.loop-k.k = let t = c.loop-k-test.false in omega arith in
    subst (λ z. AllParts c.args.level (map pos c.args.ours.now) (holds_at c.args.form.now) z c.loop-k.candidates) (take_all c.loop-k.k c.args.pieces.now l) c.loop-k.invariant
