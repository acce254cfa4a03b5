-- A source and a sink in memory, as their callers see them.
use Rattle.std.specs.Prelude.{ℕ, ◌-◌, List, ◌++◌, length, take, drop, min, Result, Ok, Err}
use Rattle.ch_io.specs.Faults.{raised}

-- left: the bytes to come; step: the most bytes of one read; fail: the numbers of the reads that fail; next: the number of the next read, from 1;
-- faults: how many reads have failed
pub record SourceState : Type 0 where
  pub left : List ℕ
  pub step : ℕ
  pub fail : List ℕ
  pub next : ℕ
  pub faults : ℕ

-- how many bytes a good read into n places gives
abbrev pub read_len : SourceState → ℕ → ℕ
read_len s n = min s.step (min n (length s.left))

-- a good read takes the bytes that it gives away, and each read is counted
abbrev pub after_read : {E : Type 0} → SourceState → Result ℕ E → SourceState
after_read s (Ok n) = record s { left = drop n s.left; next = raised s.next }
after_read s (Err _) = record s { next = raised s.next; faults = raised s.faults }

-- taken: the bytes taken; room: the most bytes that it takes in all; step: the most bytes of one write; fail: the numbers of the writes that fail;
-- next: the number of the next write, from 1; faults: how many writes have failed
pub record SinkState : Type 0 where
  pub taken : List ℕ
  pub room : ℕ
  pub step : ℕ
  pub fail : List ℕ
  pub next : ℕ
  pub faults : ℕ

-- how many of n bytes a good write takes
abbrev pub write_len : SinkState → ℕ → ℕ
write_len s n = min s.step (min n (s.room - length s.taken))

-- a good write appends the front of the piece, and each write is counted
abbrev pub after_write : {E : Type 0} → SinkState → List ℕ → Result ℕ E → SinkState
after_write s piece (Ok n) = record s { taken = s.taken ++ take n piece; next = raised s.next }
after_write s piece (Err _) = record s { next = raised s.next; faults = raised s.faults }
