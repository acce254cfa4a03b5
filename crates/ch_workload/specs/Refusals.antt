-- The codes that a deck is refused by, and readings that any of them may refuse.
use Rattle.std.specs.Prelude.{◌≡◌, ℕ, pos, Bool, true, false, List, codes, Result, Ok, Err}
use Rattle.ch_lex.specs.Codes as lexed
use Rattle.ch_lex.specs.declared.error.ParseError.{ParseError}
use Rattle.ch_lex.specs.declared.error.ParseError.TheVariants as parsing
use Rattle.ch_workload.specs.declared.error.DeckCode.{DeckCode}
use Rattle.ch_workload.specs.declared.error.DeckCode.TheVariants.{Plain, D13, D14}
use Rattle.ch_workload.specs.declared.error.SectionError.{SectionError}
use Rattle.ch_workload.specs.declared.error.SectionError.TheVariants.{Memory, Refused}

abbrev pub code_text : DeckCode → List ℕ
code_text (Plain code) = lexed.code_text code
code_text D13 = codes "D13"
code_text D14 = codes "D14"

-- a refusal of the readers below as one with these codes
abbrev pub raised : ParseError → SectionError
raised (parsing.Refused code at value) = Refused (Plain code) at value
raised parsing.Memory = Memory

-- a reading of the readers below
abbrev pub lifted : {X : Type 0} → Result X ParseError → Result X SectionError
lifted (Ok x) = Ok x
lifted (Err e) = Err (raised e)

infixl 10 ◌>>=◌
abbrev pub ◌>>=◌ : {A B : Type 0} → Result A SectionError → (A → Result B SectionError) → Result B SectionError
(Ok x) >>= f = f x
(Err e) >>= f = Err e

-- what is read where the test holds, and the refusal elsewhere
abbrev pub admitted : {X : Type 0} → Bool → DeckCode → ℕ → X → Result X SectionError
admitted true code at x = Ok x
admitted false code at x = Err (Refused code at (pos 0))

-- what a reading function gives: what the grammar says, unless memory ran out
abbrev pub Fails : {Y : Type 0} → SectionError → Result Y SectionError → Type 0
Fails Memory read = Unit {0}
Fails (Refused code at value) read = read ≡ Err (Refused code at value)

abbrev pub Gives : {X Y : Type 0} → (X → Y) → Result X SectionError → Result Y SectionError → Type 0
Gives view (Ok x) read = read ≡ Ok (view x)
Gives view (Err e) read = Fails e read
