use Rattle.std.proofs.Common.{ap, subst, map, pos, ◌++◌, ◌∷◌, [], ◌∙◌}
use Rattle.ch_cut.specs.Forms.{failing}
use Rattle.ch_cut.specs.Parts.{IsHalf, doubled}
use Rattle.ch_cut.proofs.halves.halves.Goals as goal

pub returns : goal.returns
returns c =
    let p = c.args.piece.now in
    let f = c.args.form.now in
    let a = c.in_ok-half.field-0 in
    let b = c.in_ok-half-2.field-0 in
    let first = c.in_ok-first.ensures ∙ ap (λ z. doubled c.args.level (pos 0) (map pos z)) c.as_slice-places.ensures in
    let second = c.in_ok-second.ensures ∙ ap (λ z. doubled c.args.level (pos 1) (map pos z)) c.as_slice-places.ensures in
    record {
      first = a;
      second = b;
      are = c.in_ok-push-2.ensures.ok ∙ ap (λ z. z ++ b ∷ []) (c.in_ok-push.ensures.ok ∙ ap (λ z. z ++ a ∷ []) c.new-halves.ensures);
      is_first = subst (λ z. IsHalf p f z a) first c.in_ok-half.ensures;
      is_second = subst (λ z. IsHalf p (failing f) z b) second (subst (λ g. IsHalf p g (map pos c.in_ok-second.second) b) c.in_ok-failing.ensures c.in_ok-half-2.ensures);
    }
