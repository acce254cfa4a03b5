use Rattle.std.proofs.Common.{◌≡◌, ◌≤◌, ◌-◌, ◌<◌, ℕ, length, map, take, vec_capacity}
use Rattle.ch_client.proofs.rows.play.Given as goal
use Rattle.ch_client.specs.Arrays.{HaveRun}
use Rattle.ch_client.specs.Stands.{RowStands}
use Rattle.ch_conduct.specs.declared.report.CallLine.{CallLine}

abbrev pub invariant-loop-i : goal.invariant-loop-i
invariant-loop-i g l =
    let k = l.client in
    record {
      long : length l.lines.items ≡ l.i;
      room : length l.sessions ≤ vec_capacity l.lines;
      are : map (λ (x : CallLine). x.session) l.lines.items ≡ take l.i l.sessions;
      stands : RowStands (g.B.Bench.means k.bench.now) k.number k.manner.patient k.manner.machine g.V.Made.made l.lines.items (length l.sessions - l.i) l.books l.seats l.notes.lasts.items;
      arrays : HaveRun (g.B.Bench.means k.bench.now) (take l.i l.sessions) l.fn.notes.arrays.items l.notes.arrays.items;
    }
