-- A text is read as one program and nothing else: it has tokens, and they are a program section of this name, this nest and
-- these fills, with no token behind it.
use Rattle.std.specs.Prelude.{◌≡◌, ℕ, List, [], Ok}
use Rattle.ch_lex.specs.Tokens.{tokens_of}
use Rattle.ch_lex.specs.declared.token.Token.{Token}
use Rattle.ch_nest.specs.LoopNest.{LoopNest}
use Rattle.ch_nest.specs.declared.nest.Fill.{Fill}
use Rattle.ch_nestparse.specs.Sections.{Section, section_at}

pub record IsReadAs (text : List ℕ) (name : List ℕ) (nest : LoopNest) (fills : List Fill) : Type 0 where
  pub tokens : List Token
  pub section : Section
  pub lexed : tokens_of text ≡ Ok tokens
  pub parsed : section_at text tokens ≡ Ok (section, [])
  pub same_name : section.name ≡ name
  pub same_nest : section.nest ≡ nest
  pub same_fills : section.fills ≡ fills
