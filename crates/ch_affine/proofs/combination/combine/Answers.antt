use Rattle.std.proofs.Common.{◌^◌, sym, ◌∙◌, ap, length, arith, rules, SFits, w64}
use Rattle.std.specs.Int.{w128}
use Rattle.std.proofs.lemmas.Int.{to_z-of_z}
use Rattle.std.proofs.lemmas.List.Elements.{All-same}
use Rattle.ch_affine.specs.Affine.{IsAtMost}
use Rattle.ch_affine.proofs.Combines.{small_coefs, small_constant, length_combined, same_form}
use Rattle.ch_affine.proofs.combination.combine.Goals as goal

pub mixed_coefs-requires-clause-small : goal.mixed_coefs-requires-clause-small
mixed_coefs-requires-clause-small c =
    let a : SFits w64 c.args.a = c.ranges.a in
    let b : SFits w64 c.args.b = c.ranges.b in
    let l : SFits w64 c.args.limit = c.ranges.limit in
    let s : SFits w128 c.mixed-constant.result = search rules in
    let none = simp to_z-of_z at (sym c.first_wide_of.ensures ∙ c.in_default.is) in
    simp to_z-of_z (small_coefs _ _ c.requires.limit_high none)

pub narrowed-requires : goal.narrowed-requires
narrowed-requires c =
    let a : SFits w64 c.args.a = c.ranges.a in
    let b : SFits w64 c.args.b = c.ranges.b in
    let l : SFits w64 c.args.limit = c.ranges.limit in
    let s : SFits w128 c.mixed-constant.result = search rules in
    let none = simp to_z-of_z at (sym c.first_wide_of.ensures ∙ c.in_default.is) in
    simp to_z-of_z (small_constant _ _ c.requires.limit_high none)

pub invariant_of-result : goal.invariant_of-result
invariant_of-result c =
    let a : SFits w64 c.args.a = c.ranges.a in
    let b : SFits w64 c.args.b = c.ranges.b in
    let l : SFits w64 c.args.limit = c.ranges.limit in
    let s : SFits w128 c.mixed-constant.result = search rules in
    let n : SFits w64 c.narrowed.result = search rules in
    let none = simp to_z-of_z at (sym c.first_wide_of.ensures ∙ c.in_default.is) in
    let coefs = simp to_z-of_z at c.in_ok-coefs.ensures in
    let same = rw (← c.x.view_is, ← c.y.view_is) at c.requires.same in
    let lengths = rw (← c.as_slice-xs.ensures, ← c.as_slice-ys.ensures) at same in
    let few = rw (← c.as_slice-xs.ensures) at c.x.invariant.few in
    let constant = simp to_z-of_z at c.narrowed.ensures in
    record {
      few = omega (arith, few, ap length coefs ∙ length_combined _ _ _ _ lengths);
      coefs = All-same (IsAtMost (2 ^ 60)) _ _ coefs (small_coefs _ _ c.requires.limit_high none);
      constant = simp to_z-of_z (rw constant (small_constant _ _ c.requires.limit_high none));
    }

pub returns-clause-value : goal.returns-clause-value
returns-clause-value c =
    let a : SFits w64 c.args.a = c.ranges.a in
    let b : SFits w64 c.args.b = c.ranges.b in
    let s : SFits w128 c.mixed-constant.result = search rules in
    let n : SFits w64 c.narrowed.result = search rules in
    let x : SFits w64 c.x.inside.constant = search rules in
    let y : SFits w64 c.y.inside.constant = search rules in
    let coefs = rw (c.as_slice-xs.ensures, c.as_slice-ys.ensures) at (simp to_z-of_z at c.in_ok-coefs.ensures) in
    let constant = simp to_z-of_z at c.narrowed.ensures ∙ simp to_z-of_z at c.mixed-constant.ensures.value in
    rw (← c.x.view_is, ← c.y.view_is) (same_form _ _ _ _ coefs (simp to_z-of_z constant))
