-- What is asked for, of what is answered without threads.
use Rattle.std.specs.Prelude.{ℕ, Bool, false, Option, Some, None, option_and_then, List}
use Rattle.ch_words.specs.declared.request.Request.{Request}
use Rattle.ch_words.specs.declared.request.Request.TheVariants.{Eval, Check, Show, Search, Run, Replay, Demo}
use Rattle.ch_words.specs.Requests.{reads_input, request_of}

-- The requests that are answered: `run` and `replay` aren't yet.
abbrev pub answered : Request → Option Request
answered (Eval sums) = Some (Eval sums)
answered (Check at) = Some (Check at)
answered (Show at) = Some (Show at)
answered Search = Some Search
answered (Run builders sums) = None
answered Replay = None
answered (Demo number) = Some (Demo number)

-- what the words after the program's name ask for, where that is answered
abbrev pub asked_of : List (List ℕ) → Option Request
asked_of words = option_and_then answered (request_of words)

-- whether any input is read
abbrev pub reads : Option Request → Bool
reads None = false
reads (Some r) = reads_input r
