-- What a run does to its input and its output, by the status that it answers.
use Rattle.std.specs.Prelude.{◌≡◌, ◌≤◌, ◌⊎◌, ℕ, List, Option, Some, None, IfSome, drop}
use Rattle.std.specs.Io.KnownBytes.{Appends}
use Rattle.ch_io.specs.Faults.{HasRisen}
use Rattle.ch_io.specs.Streams.{AppendsPart}
use Rattle.ch_run.specs.Answers.{Answers, AnswersInPart, input_of, read_by}
use Rattle.ch_run.specs.Requests.{asked_of}
use Rattle.ch_words.specs.Usage.{usage}

-- What is known of the streams at a time: the bytes that are left to read and those that were taken, where they are told, and
-- how many calls have failed on either side.
pub record Standing : Type 0 where
  pub left : Option (List ℕ)
  pub reads_failed : ℕ
  pub taken : Option (List ℕ)
  pub writes_failed : ℕ

-- of a source that tells this, and a sink that tells this
abbrev pub standing : Option (List ℕ) → ℕ → Option (List ℕ) → ℕ → Standing
standing left reads_failed taken writes_failed =
    record { left = left; reads_failed = reads_failed; taken = taken; writes_failed = writes_failed }

-- the statuses at which a text was written whole
abbrev pub IsWhole : ℕ → Type 0
IsWhole status = (status ≤ 1) ⊎ (status ≡ 6)

-- what a run with these words does between two times
pub record Conduct (words : List (List ℕ)) (old new : Standing) (status : ℕ) : Type 0 where
  pub known : status ≤ 6
  -- what was written at 0, 1 and 6, and which of them it is
  pub answer : IsWhole status → IfSome (asked_of words) (λ r. IfSome (input_of r old.left) (λ bytes. Answers r bytes old.taken new.taken status))
  -- all of the input was read, but what is past the limit by more than a byte; `demo` read nothing
  pub read : IsWhole status → IfSome (asked_of words) (λ r. IfSome old.left (λ bytes. new.left ≡ Some (drop (read_by r) bytes)))
  -- the usage line comes exactly for words that ask for nothing, where there is memory to read them
  pub usage_line : status ≡ 2 → Appends old.taken new.taken usage
  pub other_words : status ≡ 2 → asked_of words ≡ None
  pub usable_words : asked_of words ≡ None → (status ≡ 2) ⊎ ((status ≡ 4) ⊎ (status ≡ 5))
  -- a failed read
  pub read_fault : status ≡ 3 → HasRisen old.reads_failed new.reads_failed
  pub read_nothing : status ≡ 3 → new.taken ≡ old.taken
  -- a failed write, and the front of the text that was written before it
  pub write_fault : status ≡ 4 → HasRisen old.writes_failed new.writes_failed
  pub write_part : status ≡ 4 → IfSome (asked_of words) (λ r. IfSome (input_of r old.left) (λ bytes. AnswersInPart r bytes old.taken new.taken))
  pub usage_part : status ≡ 4 → asked_of words ≡ None → AppendsPart old.taken new.taken usage
  -- want of memory
  pub memory : status ≡ 5 → new.taken ≡ old.taken
