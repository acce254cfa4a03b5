-- The keywords.
use Rattle.std.specs.Prelude.{ℕ, List, [], ◌∷◌, codes, Option, find}
use Rattle.std.specs.Str.{bytes_eq}
use Rattle.ch_lex.specs.declared.keyword.Keyword.{Keyword}
use Rattle.ch_lex.specs.declared.keyword.Keyword.TheVariants.{Program, Recipe, Session, Client, Let, Array, Fill, For, Max, Min, Param, To, Step, Call, Machine, Eager, Patient}

abbrev pub keyword_text : Keyword → List ℕ
keyword_text Program = codes "program"
keyword_text Recipe = codes "recipe"
keyword_text Session = codes "session"
keyword_text Client = codes "client"
keyword_text Let = codes "let"
keyword_text Array = codes "array"
keyword_text Fill = codes "fill"
keyword_text For = codes "for"
keyword_text Max = codes "max"
keyword_text Min = codes "min"
keyword_text Param = codes "param"
keyword_text To = codes "to"
keyword_text Step = codes "step"
keyword_text Call = codes "call"
keyword_text Machine = codes "machine"
keyword_text Eager = codes "eager"
keyword_text Patient = codes "patient"

abbrev pub keywords : List Keyword
keywords =
    Program ∷ Recipe ∷ Session ∷ Client ∷ Let ∷ Array ∷ Fill ∷ For ∷ Max ∷ Min ∷ Param ∷ To ∷ Step ∷ Call ∷ Machine ∷ Eager ∷ Patient ∷ []

-- the first of these whose text this is
abbrev pub named : List ℕ → List Keyword → Option Keyword
named text candidates = find (λ k. bytes_eq (keyword_text k) text) candidates

-- the keyword whose text this is, if there is one
unfoldable pub keyword_of : List ℕ → Option Keyword
keyword_of text = named text keywords
