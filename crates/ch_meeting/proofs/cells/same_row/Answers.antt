use Rattle.std.proofs.Common.{◌≡◌, SFits, w64, rules, arith, neg_ℤ, pos, ◌+ℤ◌, ◌-ℤ◌, ap}
use Rattle.std.proofs.lemmas.Int.{ints, to_z-of_z}
use Rattle.ch_meeting.proofs.RowValues.{same_value}
use Rattle.ch_meeting.proofs.cells.same_row.Goals as goal

pub returns-clause-value : goal.returns-clause-value
returns-clause-value c =
    let f : SFits w64 c.sub.inside.0.0.constant = search rules in
    let h : SFits w64 c.other.inside.0.0.constant = search rules in
    let m : SFits w64 c.from.result = search rules in
    let n : SFits w64 (pos 0 -ℤ c.from.result) = search rules in
    let o : SFits w64 c.from-2.result = search rules in
    let a : SFits w64 c.carried-coef.result.0 = search rules in
    let b : SFits w64 c.carried-coef.result.1 = search rules in
    let k : pos 0 -ℤ c.from.result ≡ neg_ℤ (pos c.args.sub.now.modulus) = omega (arith, ints, c.from.ensures, ap (λ s. s.modulus) c.sub.view_is) in
    let l : c.from-2.result ≡ pos c.args.other.now.modulus = omega (arith, ints, c.from-2.ensures, ap (λ s. s.modulus) c.other.view_is) in
    let j : (c.carried-coef.result.0 +ℤ c.carried-coef.result.1) ≡ (c.sub.inside.0.0.constant -ℤ c.other.inside.0.0.constant) = simp to_z-of_z at c.carried-coef.ensures.sum in
    same_value c.args.sub.now.form c.args.other.now.form c.sub.inside.0.0.coefs c.other.inside.0.0.coefs c.sub.inside.0.0.constant c.other.inside.0.0.constant
    (ap (λ s. s.form) c.sub.view_is) (ap (λ s. s.form) c.other.view_is) c.args.sub.now.modulus
    c.args.other.now.modulus (pos 0 -ℤ c.from.result) c.from-2.result c.carried-coef.result.0 c.carried-coef.result.1 c.as_slice.result.now c.as_slice-2.result.now c.in_ok-coefs.coefs c.add.new.coefs
    c.subtract.new.coefs c.add_one.new.coefs c.add_one-2.new.coefs c.add_one-3.new.coefs
    c.args.sites.here.iters c.args.sites.there.iters c.args.sites.here.turns c.args.sites.there.turns c.args.sites.one c.row.result c.as_slice.ensures c.as_slice-2.ensures k l j c.in_ok-coefs.ensures.sum
    c.in_ok-add.ensures.sum c.in_ok-subtract.ensures.sum (simp to_z-of_z at c.in_ok-add_one.ensures.sum) (simp to_z-of_z at c.in_ok-add_one-2.ensures.sum) (simp to_z-of_z at c.in_ok-add_one-3.ensures.sum)
    (simp to_z-of_z at c.row.ensures.value)
