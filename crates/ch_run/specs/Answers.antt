-- What the program may answer to an input: a status and a text.
use Rattle.std.specs.Prelude.{◌≡◌, ℕ, ℤ, if◌then◌else◌, List, [], Option, Some, None, Result, Ok, Err}
use Rattle.std.specs.Io.KnownBytes.{Appends}
use Rattle.ch_check.specs.Checked.{check_status, check_text}
use Rattle.ch_check.specs.Sessions.{fits_all}
use Rattle.ch_check.specs.Shown.{ShowsAll}
use Rattle.ch_demo.specs.Summaries.{IsDemoText}
use Rattle.ch_deck.specs.Decks.{deck_of}
use Rattle.ch_deck.specs.Parts.{DeckParts}
use Rattle.ch_deck.specs.declared.refusal.Refused.{Refused}
use Rattle.ch_deck.specs.Refusals.{refusal_line}
use Rattle.ch_io.specs.Streams.{AppendsPart}
use Rattle.ch_lex.specs.declared.error.Code2.{Code2}
use Rattle.ch_lex.specs.declared.error.Code2.TheVariants.{D11}
use Rattle.ch_run.specs.EvalText.{eval_text}
use Rattle.ch_search.specs.Searched.{IsSearchText}
use Rattle.ch_words.specs.Requests.{reads_input}
use Rattle.ch_words.specs.declared.request.Request.{Request}
use Rattle.ch_words.specs.declared.request.Request.TheVariants.{Eval, Check, Show, Search, Demo}
use Rattle.ch_workload.specs.declared.error.DeckCode.TheVariants.{Plain}

-- each session must have as many parameters as values are given
abbrev pub unfit_values : Option (List ℤ) → DeckParts → Option Code2
unfit_values at deck = if fits_all at deck then None else Some D11

-- why an accepted deck is refused by what is asked of it
abbrev pub unfit : Request → DeckParts → Option Code2
unfit (Check at) deck = unfit_values at deck
unfit (Show at) deck = unfit_values at deck
unfit other deck = None

-- a refusal of the whole input, at no place
abbrev pub refused_whole : Code2 → Refused
refused_whole code = record { code = Plain code; spot = None; detail = [] }

-- the status and the text of a refusal
abbrev pub IsRefused : Refused → ℕ → List ℕ → Type 0
IsRefused refusal status text = (status ≡ 1) × (text ≡ refusal_line refusal)

-- what is told of a deck
abbrev pub IsTold : Request → DeckParts → ℕ → List ℕ → Type 0
IsTold (Eval sums) deck status text = (status ≡ 0) × (text ≡ eval_text sums deck.programs)
IsTold (Check at) deck status text = (status ≡ check_status deck at) × (text ≡ check_text deck at)
IsTold (Show at) deck status text = (status ≡ check_status deck at) × ShowsAll deck at text
IsTold Search deck status text = (status ≡ 0) × IsSearchText deck text
IsTold other deck status text = ⊥

abbrev pub IsToldUnless : Option Code2 → Request → DeckParts → ℕ → List ℕ → Type 0
IsToldUnless (Some code) r deck status text = IsRefused (refused_whole code) status text
IsToldUnless None r deck status text = IsTold r deck status text

-- the status and the text of an accepted deck, or of the first refusal
abbrev pub IsAnswer : Request → Result DeckParts Refused → ℕ → List ℕ → Type 0
IsAnswer r (Ok deck) status text = IsToldUnless (unfit r deck) r deck status text
IsAnswer r (Err refusal) status text = IsRefused refusal status text

-- the status and the text of a request: `demo` tells of its number, every other command of the input
abbrev pub AnswersRequest : Request → List ℕ → ℕ → List ℕ → Type 0
AnswersRequest (Demo number) bytes status text = (status ≡ 0) × IsDemoText number text
AnswersRequest r bytes status text = IsAnswer r (deck_of bytes) status text

-- one byte more than an input may have is read, which tells one that is too long
abbrev pub most_read : ℕ
most_read = 1048577

-- how many bytes are read of an input at most: none by `demo`
abbrev pub read_by : Request → ℕ
read_by r = if reads_input r then most_read else 0

-- what a request is answered to: the bytes that are left to read, where they are told, or no bytes
abbrev pub input_of : Request → Option (List ℕ) → Option (List ℕ)
input_of r left = if reads_input r then left else Some []

-- the answer to these bytes was appended
pub record Answers (r : Request) (bytes : List ℕ) (old new : Option (List ℕ)) (status : ℕ) : Type 0 where
  pub text : List ℕ
  pub answers : AnswersRequest r bytes status text
  pub appended : Appends old new text

-- a front of an answer to these bytes was appended, not all of it
pub record AnswersInPart (r : Request) (bytes : List ℕ) (old new : Option (List ℕ)) : Type 0 where
  pub status : ℕ
  pub text : List ℕ
  pub answers : AnswersRequest r bytes status text
  pub appended : AppendsPart old new text
