use Rattle.std.proofs.Common.{◌≡◌, map, neg_ℤ, take}
use Rattle.ch_cut.proofs.forms.failing.Given as goal

abbrev pub invariant-loop-coef : goal.invariant-loop-coef
invariant-loop-coef l = l.coefs ≡ map neg_ℤ (take l.coef-index l.form-inside.coefs)
