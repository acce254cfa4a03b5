use Rattle.std.proofs.Common.{◌≡◌, SFits, w64, rules, arith, pos, ◌-ℤ◌, ap}
use Rattle.std.proofs.lemmas.Int.{ints, to_z-of_z}
use Rattle.ch_meeting.proofs.RowValues.{below_value}
use Rattle.ch_meeting.proofs.cells.below_row.Goals as goal

pub returns-clause-value : goal.returns-clause-value
returns-clause-value c =
    let constant = c.sub.invariant.constant in
    let f : SFits w64 c.sub.inside.0.0.constant = search rules in
    let g : SFits w64 (pos 0 -ℤ c.sub.inside.0.0.constant) = omega (arith, ints, constant) in
    let m : SFits w64 c.from-modulus.result = search rules in
    let l : SFits w64 (c.from-modulus.result -ℤ pos 1) = search rules in
    let k : c.from-modulus.result ≡ pos c.args.sub.now.modulus = omega (arith, ints, c.from-modulus.ensures, ap (λ s. s.modulus) c.sub.view_is) in
    let value = simp to_z-of_z at c.row.ensures.value in
    below_value c.args.sub.now.form c.sub.inside.0.0.coefs c.sub.inside.0.0.constant (ap (λ s. s.form) c.sub.view_is) c.args.sub.now.modulus c.from-modulus.result
    (c.from-modulus.result -ℤ pos 1) (pos c.args.sub.now.modulus -ℤ pos 1) (ap (λ t. t -ℤ pos 1) k)
    c.as_slice.result.now c.in_ok-coefs.coefs c.subtract.new.coefs c.add_one.new.coefs
    c.add_one-2.new.coefs c.args.iters c.args.turn c.args.one c.row.result c.as_slice.ensures k c.in_ok-coefs.ensures.sum c.in_ok-subtract.ensures.sum (simp to_z-of_z at c.in_ok-add_one.ensures.sum)
    (simp to_z-of_z at c.in_ok-add_one-2.ensures.sum) value
