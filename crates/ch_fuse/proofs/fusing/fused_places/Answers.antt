use Rattle.std.proofs.Common.{◌+◌, ◌*◌, ◌++◌, refl, ap, ◌∙◌, drop, length, map, pos, set, take}
use Rattle.ch_fuse.specs.Fused.{fused_places}
use Rattle.ch_fuse.proofs.Steps.{both_written}
use Rattle.ch_fuse.proofs.fusing.fused_places.Goals as goal

pub returns : goal.returns
returns c =
    let old = c.in_ok-fused.fused in
    let first = set c.as_mut_slice.result.now c.args.level (c.from.result * c.args.width + c.from-2.result) in
    both_written old c.as_mut_slice.result.now (take (length old) (first ++ drop (length first) old)) c.as_mut_slice-2.result.now c.args.places.now c.args.level c.from.result c.from-2.result
    c.args.width c.from-3.result c.requires.some c.requires.deep c.from.ensures c.from-2.ensures c.in_ok-fused.ensures c.as_mut_slice.ensures.value refl c.as_mut_slice-2.ensures.value
    ∙ ap (λ n. fused_places c.args.level (pos c.args.width) (pos n) (map pos c.args.places.now)) c.from-3.ensures
