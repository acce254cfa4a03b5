-- Every program that was parsed is printable.
use Rattle.std.proofs.Common.{◌≡◌, ℕ, ◌-◌, List, drop, length, Result, Ok, Err, refl, subst}
use Rattle.ch_lex.specs.Cut.{IsCut}
use Rattle.ch_lex.specs.declared.error.ParseError.{ParseError}
use Rattle.ch_lex.specs.declared.token.Token.{Token}
use Rattle.ch_nestparse.specs.Read.{◌>>=◌}
use Rattle.ch_nestparse.specs.Sections.{Section, program_at, section_at}
use Rattle.ch_nestparse.specs.declared.program.ParsedProgram.{ParsedProgram}
use Rattle.ch_nestparse.proofs.SectionsFit.{section_distinct, section_fills}
use Rattle.ch_nestparse.proofs.Spellings.{spelled_arrays, spelled_fills, spelled_name}
use Rattle.ch_nestprint.specs.Printable.{IsPrintable}

abbrev as_program : List Token → Section × List Token → ParsedProgram
as_program tokens x = record { name = x.0.name; nest = x.0.nest; fills = x.0.fills; accesses = x.0.accesses; next = length tokens - length x.1 }

from_section : (bytes : List ℕ) (tokens : List Token) (from : ℕ) (p : ParsedProgram) (r : Result (Section × List Token) ParseError) → IsCut bytes 0 tokens → section_at bytes (drop from tokens) ≡ r
    → (r >>= λ x. Ok (as_program tokens x)) ≡ Ok p → IsPrintable p.name p.nest.arrays p.fills
from_section bytes tokens from p (Err e) cut is h = absurd (cc)
from_section bytes tokens from p (Ok x) cut is h =
    let same : as_program tokens x ≡ p = cc in
    subst (λ (q : ParsedProgram). IsPrintable q.name q.nest.arrays q.fills) same (record {
      called = spelled_name bytes tokens from x.0 x.1 cut is;
      named = spelled_arrays bytes tokens from x.0 x.1 cut is;
      differ = section_distinct bytes (drop from tokens) x.0 x.1 is;
      each = section_fills bytes (drop from tokens) x.0 x.1 is;
      filled = spelled_fills bytes tokens from x.0 x.1 cut is;
    })

pub printable : (bytes : List ℕ) (tokens : List Token) (from : ℕ) (p : ParsedProgram) → IsCut bytes 0 tokens → program_at bytes tokens from ≡ Ok p → IsPrintable p.name p.nest.arrays p.fills
printable bytes tokens from p cut h = from_section bytes tokens from p (section_at bytes (drop from tokens)) cut refl h
