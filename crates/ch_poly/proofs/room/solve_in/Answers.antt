use Rattle.std.proofs.Common.{refl}
use Rattle.ch_poly.proofs.Fixes.{fixed_in}
use Rattle.ch_poly.proofs.Meeting.{no_tops}
use Rattle.ch_poly.proofs.room.solve_in.Goals as goal

pub returns-then-any_opposed-clause-no : goal.returns-then-any_opposed-clause-no
returns-then-any_opposed-clause-no c = λ t h. (c.if-any_opposed.ensures refl).never h.point h.holds

pub returns-clause-no : goal.returns-clause-no
returns-clause-no c = λ t h.
    let f = rw (c.write_box.ensures.lows, c.write_box.ensures.highs) at (c.if-not-fix_front.ensures.yes refl) in
    (c.search.ensures.no t).none h.point (fixed_in _ _ _ _ _ h.point f h.within h.begins) (no_tops _ _ h.point h.holds)
