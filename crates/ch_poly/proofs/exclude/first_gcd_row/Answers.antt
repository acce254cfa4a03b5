use Rattle.std.proofs.Common.{refl, arith}
use Rattle.ch_poly.specs.Exclusions.{IsGcdRow}
use Rattle.ch_poly.proofs.Divides.{not_more, not_any}
use Rattle.ch_poly.proofs.exclude.first_gcd_row.Goals as goal

pub loop-i-preserved : goal.loop-i-preserved
loop-i-preserved c = not_more (IsGcdRow c.args.rows.now) c.loop-i.i c.loop-i.invariant (c.if-is_gcd_row.ensures.no refl)

pub returns : goal.returns
returns c = record { none = not_any c.args.rows.now c.loop-i.i (omega (arith, c.loop-i-test.false)) c.loop-i.invariant }
