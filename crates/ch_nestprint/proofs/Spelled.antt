-- The text of a list of symbols, one symbol further.
use Rattle.std.proofs.Common.{◌≡◌, ℕ, ◌+◌, ◌<◌, List, ◌++◌, get_or, length, drop, refl, append_assoc}
use Rattle.std.specs.Bool.{IsTrue}
use Rattle.std.specs.Char.{is_ascii}
use Rattle.std.specs.List.{list_all}
use Rattle.std.proofs.lemmas.List.{drop_more}
use Rattle.ch_lex.specs.Keywords.{keyword_text}
use Rattle.ch_lex.specs.declared.keyword.Keyword.{Keyword}
use Rattle.ch_lex.specs.declared.keyword.Keyword.TheVariants.{Program, Recipe, Session, Client, Let, Array, Fill, For, Max, Min, Param, To, Step, Call, Machine, Eager, Patient}
use Rattle.ch_nestprint.specs.declared.layout.Layout.{Layout}
use Rattle.ch_nestprint.specs.declared.symbol.Symbol.{Symbol}
use Rattle.ch_nestprint.specs.Layouts.{gap, layout_after, spell, symbol_text}

pub keyword_ascii : (k : Keyword) → IsTrue (list_all is_ascii (keyword_text k))
keyword_ascii Program = refl
keyword_ascii Recipe = refl
keyword_ascii Session = refl
keyword_ascii Client = refl
keyword_ascii Let = refl
keyword_ascii Array = refl
keyword_ascii Fill = refl
keyword_ascii For = refl
keyword_ascii Max = refl
keyword_ascii Min = refl
keyword_ascii Param = refl
keyword_ascii To = refl
keyword_ascii Step = refl
keyword_ascii Call = refl
keyword_ascii Machine = refl
keyword_ascii Eager = refl
keyword_ascii Patient = refl

pub one_more : (symbols : List Symbol) (i : ℕ) (d : Symbol) (layout : Layout) (out total : List ℕ) → i < length symbols → out ++ spell layout (drop i symbols) ≡ total
    → ((out ++ symbol_text (get_or symbols i d)) ++ gap layout (get_or symbols i d) (drop (i + 1) symbols)) ++ spell (layout_after layout (get_or symbols i d)) (drop (i + 1) symbols) ≡ total
unfolding spell
one_more symbols i d layout out total l h =
    let a = rw (drop_more symbols i d l) at h in
    let b = simp append_assoc at a in
    simp append_assoc b
