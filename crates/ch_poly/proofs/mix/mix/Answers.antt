use Rattle.std.proofs.Common.{◌≡◌, ◌≤ℤ◌, pos, length, refl, subst, sym, ap, ◌∙◌, arith, rules, SFits, w64}
use Rattle.std.specs.Int.{w128}
use Rattle.std.proofs.lemmas.Int.{ints, to_z-of_z}
use Rattle.ch_affine.specs.Form.{Form}
use Rattle.ch_poly.proofs.Mixed.{small_zero, implied_zero, implied_step}
use Rattle.ch_poly.proofs.mix.mix.Goals as goal

pub loop-i-init : goal.loop-i-init
loop-i-init c = record {
  small = small_zero c.clear.new.sums c.clear.ensures.small;
  implied = implied_zero c.args.rows.now c.clear.new.sums c.clear.ensures.small;
}

pub loop-i-preserved : goal.loop-i-preserved
loop-i-preserved c =
    let f : SFits w64 c.factor-factor.result = search rules in
    let b : SFits w128 c.loop-i.bound = search rules in
    let l : SFits w128 c.in-Some.less = search rules in
    let k : SFits w64 c.row.inside.constant = search rules in
    let coefs : c.as_slice.result.now ≡ c.index-rows-i.result.coefs = c.as_slice.ensures ∙ ap (λ (g : Form). g.coefs) c.row.view_is in
    let constant : c.row.inside.constant ≡ c.index-rows-i.result.constant = ap (λ (g : Form). g.constant) c.row.view_is in
    let less = simp to_z-of_z at c.in-Some.ensures in
    let less' = rw constant at less in
    let some : pos 0 ≤ℤ c.factor-factor.result = omega (arith, ints, c.if-factor-le0.false) in
    let P : Form → Type 0 = λ g. length g.coefs ≡ length c.args.sums.now in
    let same : length c.index-rows-i.result.coefs ≡ length c.args.sums.now = subst P (sym c.index-rows-i.is) (c.requires.same c.loop-i.i c.index-rows-i.result c.loop-i-test.true) in
    let same' : length c.index-rows-i.result.coefs ≡ length c.loop-i.sums = omega (arith, same) in
    let added = simp to_z-of_z at (rw coefs at c.if-not-add_row.ensures.added) in
    let before = c.loop-i.invariant.implied in
    simp to_z-of_z (record {
      small = c.if-not-add_row.ensures.small;
      implied = implied_step c.args.rows.now c.loop-i.i c.index-rows-i.result c.loop-i-test.true c.index-rows-i.is c.factor-factor.result _ c.in-Some.less c.loop-i.sums c.add_row.new.sums some same' (added refl) less' before;
    })
