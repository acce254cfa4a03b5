use Rattle.std.proofs.Common.{sym, ap, ap₂, ◌∙◌, nat_eq, take}
use Rattle.std.specs.Cmp.Lexicographic.{pointwise}
use Rattle.std.proofs.lemmas.List.{take_min}
use Rattle.ch_space.proofs.Readings.{same_fronts}
use Rattle.ch_fuse.proofs.placing.begin_alike.Goals as goal

pub returns : goal.returns
returns c =
    let ours = c.args.ours.now in
    let theirs = c.args.theirs.now in
    c.eq.ensures
    ∙ ap₂ (pointwise nat_eq) (ap (λ n. take n ours) c.min.ensures ∙ take_min c.args.count ours) (ap (λ n. take n theirs) c.min-2.ensures ∙ take_min c.args.count theirs)
    ∙ sym (same_fronts c.args.count ours theirs)
