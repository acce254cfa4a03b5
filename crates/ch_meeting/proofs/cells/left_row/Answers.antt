use Rattle.std.proofs.Common.{◌≡◌, SFits, w64, rules, arith, neg_ℤ, pos, ◌-ℤ◌, ap}
use Rattle.std.proofs.lemmas.Int.{ints, to_z-of_z}
use Rattle.ch_meeting.proofs.RowValues.{left_value}
use Rattle.ch_meeting.proofs.cells.left_row.Goals as goal

pub returns-clause-value : goal.returns-clause-value
returns-clause-value c =
    let f : SFits w64 c.sub.inside.0.0.constant = search rules in
    let m : SFits w64 c.from.result = search rules in
    let n : SFits w64 (pos 0 -ℤ c.from.result) = search rules in
    let k : pos 0 -ℤ c.from.result ≡ neg_ℤ (pos c.args.sub.now.modulus) = omega (arith, ints, c.from.ensures, ap (λ s. s.modulus) c.sub.view_is) in
    left_value c.args.sub.now.form c.sub.inside.0.0.coefs c.sub.inside.0.0.constant (ap (λ s. s.form) c.sub.view_is) c.args.sub.now.modulus (pos 0 -ℤ c.from.result) c.as_slice.result.now
    c.in_ok-coefs.coefs c.add.new.coefs c.add_one.new.coefs
    c.args.iters c.args.turn c.row.result c.as_slice.ensures k c.in_ok-coefs.ensures.sum c.in_ok-add.ensures.sum (simp to_z-of_z at c.in_ok-add_one.ensures.sum) (simp to_z-of_z at c.row.ensures.value)
