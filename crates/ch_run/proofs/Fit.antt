-- What a deck that isn't refused by what is asked of it meets.
use Rattle.std.proofs.Common.{◌≡◌, ℕ, ℤ, Bool, true, false, if◌then◌else◌, List, Option, Some, None, IfSome, refl, subst, inl, inr, arith}
use Rattle.std.specs.Bool.{IsTrue}
use Rattle.std.specs.List.{All}
use Rattle.std.specs.Option.{ForSome}
use Rattle.ch_affine.specs.Affine.{IsAtMost}
use Rattle.ch_check.specs.Sessions.{fits_all}
use Rattle.ch_deck.specs.Parts.{DeckParts}
use Rattle.ch_lex.specs.declared.error.Code2.TheVariants.{D11}
use Rattle.ch_run.specs.Answers.{unfit_values}
use Rattle.ch_run.specs.Conduct.{IsWhole}
use Rattle.ch_words.specs.Numbers.{largest_value}

none : (f : Bool) → (if f then None else Some D11) ≡ None → IsTrue f
none true h = refl
none false h = absurd cc

pub fit : (at : Option (List ℤ)) (deck : DeckParts) → unfit_values at deck ≡ None → IsTrue (fits_all at deck)
fit at deck h = none (fits_all at deck) h

-- small values, as the checks want them
pub for_small : (at : Option (List ℤ)) → IfSome at (All (IsAtMost largest_value)) → ForSome at (All (IsAtMost largest_value))
for_small None h x e = absurd cc
for_small (Some v) h x e = let q : v ≡ x = cc in subst (All (IsAtMost largest_value)) q h

-- the status of a check is 0 or 6
pub is_whole : (t : Bool) (status : ℕ) → status ≡ (if t then 6 else 0) → IsWhole status
is_whole true status e = inr e
is_whole false status e = inl (omega (arith, e))
