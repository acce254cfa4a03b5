-- The tokens of a text that was spelled show the symbols again.
use Rattle.std.proofs.Common.{◌≡◌, ℕ, ◌+◌, ◌-◌, ◌≤◌, true, ◌&&◌, List, [], ◌∷◌, ◌++◌, length, map, take, drop, min, Option, Some, None, Ok, refl, sym, ap, ◌∙◌, append_assoc, length-append, arith}
use Rattle.std.specs.Prelude.{is_none}
use Rattle.std.specs.List.{list_all}
use Rattle.std.proofs.Math.Seq.{drop-append_seam, take-append_seam}
use Rattle.std.proofs.lemmas.Bool.{and_parts, leb-true}
use Rattle.ch_lex.specs.Bytes.{begins, is_letter, is_word}
use Rattle.ch_lex.specs.Keywords.{keyword_of, keyword_text}
use Rattle.ch_lex.specs.Tokens.{most_number, tokens_of}
use Rattle.ch_lex.specs.declared.keyword.Keyword.{Keyword}
use Rattle.ch_lex.specs.declared.keyword.Keyword.TheVariants as words
use Rattle.ch_lex.specs.declared.token.Token.{Token}
use Rattle.ch_nestparse.specs.Read.{kind_look, text_of, word_look}
use Rattle.ch_nestprint.specs.declared.layout.Layout.{Layout}
use Rattle.ch_nestprint.specs.declared.symbol.Symbol.{Symbol}
use Rattle.ch_nestprint.specs.declared.symbol.Symbol.TheVariants.{Name, Number, Key, Mark}
use Rattle.ch_nestprint.specs.Cuts.{is_symbol, kind_of, symbol_of, symbol_of_look, tokens_at}
use Rattle.ch_nestprint.specs.Layouts.{first_layout, gap, layout_after, spell, symbol_text}
use Rattle.ch_nestprint.proofs.Laid.{laid}

key_back : (k : Keyword) → keyword_of (keyword_text k) ≡ Some k
unfolding keyword_of
key_back words.Program = refl
key_back words.Recipe = refl
key_back words.Session = refl
key_back words.Client = refl
key_back words.Let = refl
key_back words.Array = refl
key_back words.Fill = refl
key_back words.For = refl
key_back words.Max = refl
key_back words.Min = refl
key_back words.Param = refl
key_back words.To = refl
key_back words.Step = refl
key_back words.Call = refl
key_back words.Machine = refl
key_back words.Eager = refl
key_back words.Patient = refl

name_back : (found : Option Keyword) (text : List ℕ) → is_none found ≡ true → symbol_of_look (word_look found) text ≡ Name text
name_back None text h = refl
name_back (Some k) text h = absurd (cc)

look_back : (s : Symbol) → is_symbol s ≡ true → symbol_of_look (kind_look (kind_of s) (symbol_text s)) (symbol_text s) ≡ s
look_back (Name text) h =
    let first = and_parts (begins is_letter text) (list_all is_word text && is_none (keyword_of text)) h in
    name_back (keyword_of text) text ((and_parts (list_all is_word text) (is_none (keyword_of text)) first.1).1)
look_back (Number n) h =
    let small : n ≤ most_number = leb-true n most_number h in
    let same : min n most_number ≡ n = omega arith in
    ap Number same
look_back (Key k) h = ap (λ (found : Option Keyword). symbol_of_look (word_look found) (keyword_text k)) (key_back k)
look_back (Mark s) h = refl

cut_out : (before text rest : List ℕ) → take (length before + length text - length before) (drop (length before) (before ++ (text ++ rest))) ≡ text
cut_out before text rest =
    let n : length before + length text - length before ≡ length text = omega arith in
    rw (n, drop-append_seam before (text ++ rest)) (take-append_seam text rest)

told_from : (ss : List Symbol) (layout : Layout) (bytes before : List ℕ) (at : ℕ) → list_all is_symbol ss ≡ true → bytes ≡ before ++ spell layout ss → at ≡ length before
    → map (symbol_of bytes) (tokens_at layout at ss) ≡ ss
unfolding spell tokens_at
told_from [] layout bytes before at h e a = refl
told_from (s ∷ ss) layout bytes before at h e a =
    let parts = and_parts (is_symbol s) (list_all is_symbol ss) h in
    let rest = spell (layout_after layout s) ss in
    let g = gap layout s ss in
    let t : Token = record { kind = kind_of s; start = at; end = at + length (symbol_text s) } in
    let here : bytes ≡ before ++ (symbol_text s ++ (g ++ rest)) = e ∙ ap (λ (xs : List ℕ). before ++ xs) (append_assoc (symbol_text s) g rest) in
    let text : text_of bytes t ≡ symbol_text s = rw (here, a) (cut_out before (symbol_text s) (g ++ rest)) in
    let first : symbol_of bytes t ≡ s = rw text (look_back s parts.0) in
    let beyond : bytes ≡ ((before ++ symbol_text s) ++ g) ++ rest = here ∙ sym (append_assoc before (symbol_text s) (g ++ rest)) ∙ sym (append_assoc (before ++ symbol_text s) g rest) in
    let far : at + length (symbol_text s) + length g ≡ length ((before ++ symbol_text s) ++ g) = simp length-append (omega arith) in
    let more = told_from ss (layout_after layout s) bytes ((before ++ symbol_text s) ++ g) (at + length (symbol_text s) + length g) parts.1 beyond far in
    rw (first, more) refl

pub told : (ss : List Symbol) → list_all is_symbol ss ≡ true → (ts : List Token) × (tokens_of (spell first_layout ss) ≡ Ok ts) × (map (symbol_of (spell first_layout ss)) ts ≡ ss)
told ss h = (tokens_at first_layout 0 ss, laid ss first_layout 0 h, told_from ss first_layout (spell first_layout ss) [] 0 h refl refl)
