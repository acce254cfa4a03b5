-- A deck, or its first refusal: the length, then the tokens, then the sections from the first token to the last, then whether each
-- program in turn can be run.
use Rattle.std.specs.Prelude.{ℕ, List, [], length, nat_lt, Option, Some, None, Result, Ok, Err, if◌then◌else◌}
use Rattle.ch_deck.specs.declared.found.Found.{Found}
use Rattle.ch_deck.specs.declared.refusal.Refused.{Refused}
use Rattle.ch_deck.specs.Judged.{deck_found, first_unfit}
use Rattle.ch_deck.specs.Limits.{most_bytes}
use Rattle.ch_deck.specs.Parts.{DeckParts}
use Rattle.ch_deck.specs.Refusals.{refused_at, value_text}
use Rattle.ch_deck.specs.Sections.{sections_of}
use Rattle.ch_lex.specs.Codes.{refusal_of}
use Rattle.ch_lex.specs.declared.error.Code2.TheVariants.{D10}
use Rattle.ch_lex.specs.declared.error.LexError.{LexError}
use Rattle.ch_lex.specs.declared.error.ParseError.{ParseError}
use Rattle.ch_lex.specs.declared.token.Token.{Token}
use Rattle.ch_lex.specs.Tokens.{tokens_of}
use Rattle.ch_workload.specs.Refusals.{◌>>=◌, lifted}
use Rattle.ch_workload.specs.declared.error.DeckCode.TheVariants.{Plain}
use Rattle.ch_workload.specs.declared.error.SectionError.{SectionError}
use Rattle.ch_workload.specs.declared.error.SectionError.TheVariants as errors

abbrev pub too_long : Refused
too_long = record { code = Plain D10; spot = None; detail = [] }

-- the tokens as a reader takes them
abbrev pub lexed : Result (List Token) LexError → Result (List Token) ParseError
lexed (Ok ts) = Ok ts
lexed (Err e) = Err (refusal_of e)

-- the sections of a text
abbrev pub read_of : List ℕ → Result Found SectionError
read_of bytes = lifted (lexed (tokens_of bytes)) >>= sections_of bytes

abbrev pub told_of : Option Refused → Found → Result DeckParts Refused
told_of (Some refusal) found = Err refusal
told_of None found = Ok (deck_found found)

-- a reader's refusal with its line and column; want of memory, which no definition gives, counts as the text's length
abbrev pub spotted : List ℕ → Result Found SectionError → Result DeckParts Refused
spotted bytes (Ok found) = told_of (first_unfit bytes found.programs found.places) found
spotted bytes (Err (errors.Refused code at value)) = Err (refused_at bytes code at (value_text code value))
spotted bytes (Err errors.Memory) = Err too_long

unfoldable pub deck_of : List ℕ → Result DeckParts Refused
deck_of bytes = if nat_lt most_bytes (length bytes) then Err too_long else spotted bytes (read_of bytes)
