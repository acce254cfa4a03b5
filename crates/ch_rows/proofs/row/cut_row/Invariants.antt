use Rattle.std.proofs.Common.{◌≡◌, ◌<◌, ◌≤◌, ℕ, length, get_or, vec_capacity}
use Rattle.ch_rows.proofs.Cutting.{Uncut, CutFrom}
use Rattle.ch_rows.proofs.row.cut_row.Given as goal
use Rattle.ch_rows.specs.FirstSeats.{IsNew}
use Rattle.ch_seats.specs.Walk.{Walks}

abbrev pub invariant-loop-i : goal.invariant-loop-i
invariant-loop-i g l = record {
  walk : Walks (Uncut l.number l.turns l.fn.seats) (CutFrom l.number l.turns l.fn.seats) l.i l.books l.seats;
  long : length l.row.items ≡ l.i;
  room : length l.books ≤ vec_capacity l.row;
  new : (j : ℕ) (a : _) (b : _) → j < l.i → IsNew l.number l.turns j (get_or l.books j a) (get_or l.row.items j b);
}
