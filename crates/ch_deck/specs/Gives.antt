-- What reading a deck gives: what the definition says, unless memory ran out.
use Rattle.std.specs.Prelude.{◌≡◌, Result, Ok, Err}
use Rattle.ch_deck.specs.Parts.{DeckParts}
use Rattle.ch_deck.specs.declared.refusal.DeckError.{DeckError}
use Rattle.ch_deck.specs.declared.refusal.DeckError.TheVariants.{Refused, Memory}
use Rattle.ch_deck.specs.declared.refusal.Refused as refusal

abbrev pub GivesDeck : Result DeckParts DeckError → Result DeckParts refusal.Refused → Type 0
GivesDeck (Ok deck) read = read ≡ Ok deck
GivesDeck (Err (Refused r)) read = read ≡ Err r
GivesDeck (Err Memory) read = Unit {0}
