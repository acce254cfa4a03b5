-- Pieces none of whose elements conflict have none the other way round.
use Rattle.std.proofs.Common.{◌≡◌, refl, ℕ, Bool, false, ◌↔◌}
use Rattle.std.specs.Bool.{IsTrue}
use Rattle.std.proofs.lemmas.Bool.{both_ways}
use Rattle.ch_depends.specs.declared.sides.Side.{Side}
use Rattle.ch_depends.specs.Sought.{Meets, Reversed}
use Rattle.ch_meeting.specs.Meeting.{differing_level, vector_at}
use Rattle.ch_timed.specs.declared.element.Element.{Element}

pub none_reversed : (from to : Side) (answer : Bool) → (answer ≡ false → (level : ℕ) → Meets from.piece.now to.piece.now level → ⊥) → answer ≡ false → (e f : Element) → Reversed from to e f → ⊥
none_reversed from to answer iff none e f r =
    let c = r.holds.holds in
    let v = c.reverses in
    iff none (differing_level 1 (vector_at from.piece.now v.xs) (vector_at to.piece.now v.ys)) (record {
      access = c.access;
      other = c.other;
      asked = c.asked;
      meets = record { first = v.xs; second = v.ys; meeting = v.reversal.0; differs = refl };
    })
