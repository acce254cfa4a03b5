-- Refusals of a deck, and the line that tells of one.
use Rattle.std.specs.Prelude.{ℕ, ℤ, List, [], ◌∷◌, ◌++◌, codes, Option, Some, None}
use Rattle.ch_deck.specs.declared.refusal.Refused.{Refused}
use Rattle.ch_lex.specs.Spots.{spot_of}
use Rattle.ch_lex.specs.declared.error.Code2.TheVariants.{A1}
use Rattle.ch_lex.specs.declared.token.Spot.{Spot}
use Rattle.ch_print.specs.Numbers.{integer_text, number_text}
use Rattle.ch_workload.specs.Refusals.{code_text}
use Rattle.ch_workload.specs.declared.error.DeckCode.{DeckCode}
use Rattle.ch_workload.specs.declared.error.DeckCode.TheVariants.{Plain}

-- the detail of a reader's refusal: the number of an A1
abbrev pub value_text : DeckCode → ℤ → List ℕ
value_text (Plain A1) value = integer_text value
value_text other value = []

-- a refusal at a byte of the text
abbrev pub refused_at : List ℕ → DeckCode → ℕ → List ℕ → Refused
refused_at bytes code at detail = record { code = code; spot = Some (spot_of bytes at); detail = detail }

abbrev pub spot_text : Option Spot → List ℕ
spot_text None = []
spot_text (Some s) = codes " at " ++ number_text s.line ++ codes ":" ++ number_text s.column

abbrev pub detail_text : List ℕ → List ℕ
detail_text [] = []
detail_text (b ∷ bs) = codes ": " ++ b ∷ bs

-- the line that the program writes
unfoldable pub refusal_line : Refused → List ℕ
refusal_line r = codes "refused " ++ code_text r.code ++ spot_text r.spot ++ detail_text r.detail ++ codes "\n"
