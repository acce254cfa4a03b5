-- A text in pieces, each of which is read as known symbols whatever stands around it.
use Rattle.std.proofs.Common.{◌≡◌, ℕ, ◌+◌, true, false, ◌&&◌, List, [], ◌∷◌, ◌++◌, length, map, Result, Ok, Err, refl, sym, ap, ◌∙◌, append_assoc, append-nil, length-append}
use Rattle.std.specs.Prelude.{codes, is_none, nat_le}
use Rattle.std.specs.List.{flat_map, list_all}
use Rattle.std.proofs.lemmas.Bool.{and_from, and_parts}
use Rattle.std.proofs.lemmas.List.{map-append}
use Rattle.ch_lex.proofs.Pieces.{with_front}
use Rattle.ch_lex.specs.Bytes.{begins, is_letter, is_word}
use Rattle.ch_lex.specs.Keywords.{keyword_of}
use Rattle.ch_lex.specs.Signs.{sign_text}
use Rattle.ch_lex.specs.Tokens.{begun, most_number, tokens_from, tokens_of, with_token}
use Rattle.ch_lex.specs.declared.error.LexError.{LexError}
use Rattle.ch_lex.specs.declared.keyword.Keyword.TheVariants as words
use Rattle.ch_lex.specs.declared.token.Kind.{Kind}
use Rattle.ch_lex.specs.declared.token.Kind.TheVariants as kinds
use Rattle.ch_lex.specs.declared.token.Sign.{Sign}
use Rattle.ch_lex.specs.declared.token.Sign.TheVariants as signs
use Rattle.ch_lex.specs.declared.token.Token.{Token}
use Rattle.ch_nestparse.specs.Read.{kind_look, text_of}
use Rattle.ch_nestparse.specs.Spelling.{is_name}
use Rattle.ch_print.specs.Lists.{behind, separated}
use Rattle.ch_print.specs.Numbers.{number_text}
use Rattle.ch_nestprint.specs.declared.symbol.Symbol.{Symbol}
use Rattle.ch_nestprint.specs.declared.symbol.Symbol.TheVariants.{Name, Number, Key, Mark}
use Rattle.ch_nestprint.specs.Cuts.{Shows, symbol_of, symbol_of_look}
use Rattle.ch_nestprint.proofs.Cases.{Each}
use Rattle.ch_scriptprint.proofs.Fronts.{CalmSign, cut_out, name_read, name_shown, number_read, number_shown, sign_read}

-- Behind any text, and in front of any that R allows, this text is cut into these symbols, and what follows is cut on its own.
pub record Lays (R : List ℕ → Type 0) (text : List ℕ) (ss : List Symbol) : Type 0 where
  pub cut : (before rest : List ℕ) → R rest
      → (ts : List Token) × (tokens_from 0 (length before) (text ++ rest) ≡ with_front ts (tokens_from 0 (length (before ++ text)) rest))
      × (map (symbol_of (before ++ (text ++ rest))) ts ≡ ss)

-- whatever follows
abbrev pub Any : List ℕ → Type 0
Any rest = Unit {0}

-- what follows goes on with no name or number
abbrev pub Stops : List ℕ → Type 0
Stops rest = begins is_word rest ≡ false

front_nil : (r : Result (List Token) LexError) → with_front [] r ≡ r
front_nil (Ok ts) = refl
front_nil (Err e) = refl

front_one : (kind : Kind) (len at : ℕ) (r : Result (List Token) LexError) → with_token kind len at r ≡ with_front (record { kind = kind; start = at; end = at + len } ∷ []) r
front_one kind len at (Ok ts) = refl
front_one kind len at (Err e) = refl

front_front : (xs ys : List Token) (r : Result (List Token) LexError) → with_front xs (with_front ys r) ≡ with_front (xs ++ ys) r
front_front xs ys (Ok ts) = ap (λ (us : List Token). Ok us) (sym (append_assoc xs ys ts))
front_front xs ys (Err e) = refl

pub nothing_laid : (R : List ℕ → Type 0) → Lays R [] []
nothing_laid R = record {
  cut = λ before rest h. ([], sym (front_nil (tokens_from 0 (length before) rest)) ∙ ap (λ (bs : List ℕ). with_front [] (tokens_from 0 (length bs) rest)) (sym (append-nil before)), refl);
}

-- One token. `sort` is its kind, and R makes sure that nothing more belongs to it.
one_token : (R : List ℕ → Type 0) (sort : Kind) (text : List ℕ) (s : Symbol)
    → ((at : ℕ) (rest : List ℕ) → R rest → tokens_from 0 at (text ++ rest) ≡ with_token sort (length text) at (tokens_from 0 (at + length text) rest))
    → symbol_of_look (kind_look sort text) text ≡ s → (before rest : List ℕ) → R rest
    → (ts : List Token) × (tokens_from 0 (length before) (text ++ rest) ≡ with_front ts (tokens_from 0 (length (before ++ text)) rest))
    × (map (symbol_of (before ++ (text ++ rest))) ts ≡ s ∷ [])
one_token R sort text s read look before rest calm =
    let t : Token = record { kind = sort; start = length before; end = length before + length text } in
    let far : length (before ++ text) ≡ length before + length text = length-append before text in
    let cut : text_of (before ++ (text ++ rest)) t ≡ text = cut_out before text rest in
    let same : symbol_of (before ++ (text ++ rest)) t ≡ s = rw cut look in (
      t ∷ [],
      read (length before) rest calm
          ∙ front_one sort (length text) (length before) (tokens_from 0 (length before + length text) rest)
          ∙ ap (λ (n : ℕ). with_front (t ∷ []) (tokens_from 0 n rest)) (sym far),
      ap (λ (x : Symbol). x ∷ []) same,
    )

pub word_laid : (text : List ℕ) → is_name text ≡ true → Lays Stops text (Name text ∷ [])
word_laid text h =
    let first = and_parts (begins is_letter text) (list_all is_word text && is_none (keyword_of text)) h in
    let all = and_parts (list_all is_word text) (is_none (keyword_of text)) first.1 in
    let spelled = and_from (begins is_letter text) (list_all is_word text) first.0 all.0 in
    record { cut = one_token Stops kinds.Name text (Name text) (λ at rest calm. name_read text at rest spelled calm) (name_shown text h) }

recipe_shown : symbol_of_look (kind_look kinds.Name (codes "recipe")) (codes "recipe") ≡ Key words.Recipe
unfolding keyword_of
recipe_shown = refl

pub recipe_word_laid : Lays Stops (codes "recipe") (Key words.Recipe ∷ [])
recipe_word_laid = record { cut = one_token Stops kinds.Name (codes "recipe") (Key words.Recipe) (λ at rest calm. name_read (codes "recipe") at rest refl calm) recipe_shown }

pub number_laid : (n : ℕ) → nat_le n most_number ≡ true → Lays Stops (number_text n) (Number n ∷ [])
number_laid n h = record { cut = one_token Stops (kinds.Number n) (number_text n) (Number n) (λ at rest calm. number_read n at rest h calm) (number_shown n (number_text n) h) }

-- a sign, of which what follows makes no longer one
pub open_laid : (s : Sign) → Lays (CalmSign s) (sign_text s) (Mark s ∷ [])
open_laid s = record { cut = one_token (CalmSign s) (kinds.Sign s) (sign_text s) (Mark s) (sign_read s) refl }

-- a sign with which no longer one begins
pub sign_laid : (s : Sign) → ((rest : List ℕ) → CalmSign s rest) → Lays Any (sign_text s) (Mark s ∷ [])
sign_laid s calm = record { cut = one_token Any (kinds.Sign s) (sign_text s) (Mark s) (λ at rest h. sign_read s at rest (calm rest)) refl }

gap_passed : (b : ℕ) → ((at : ℕ) (bytes : List ℕ) → tokens_from 0 at (b ∷ bytes) ≡ tokens_from 0 (at + 1) bytes) → Lays Any (b ∷ []) []
gap_passed b passed = record {
  cut = λ before rest h.
      let far : length (before ++ b ∷ []) ≡ length before + 1 = length-append before (b ∷ []) in (
        [],
        passed (length before) rest ∙ ap (λ (n : ℕ). tokens_from 0 n rest) (sym far) ∙ sym (front_nil (tokens_from 0 (length (before ++ b ∷ [])) rest)),
        refl,
      );
}

blank_read : (at : ℕ) (bytes : List ℕ) → tokens_from 0 at (32 ∷ bytes) ≡ tokens_from 0 (at + 1) bytes
unfolding tokens_from begun
blank_read at bytes = refl

feed_read : (at : ℕ) (bytes : List ℕ) → tokens_from 0 at (10 ∷ bytes) ≡ tokens_from 0 (at + 1) bytes
unfolding tokens_from begun
feed_read at bytes = refl

pub blank_laid : Lays Any (codes " ") []
blank_laid = gap_passed 32 blank_read

pub feed_laid : Lays Any (codes "\n") []
feed_laid = gap_passed 10 feed_read

both : (R S : List ℕ → Type 0) (a b : List ℕ) (xs ys : List Symbol) → Lays R a xs → Lays S b ys → ((rest : List ℕ) → S rest → R (b ++ rest)) → (before rest : List ℕ) → S rest
    → (ts : List Token) × (tokens_from 0 (length before) ((a ++ b) ++ rest) ≡ with_front ts (tokens_from 0 (length (before ++ (a ++ b))) rest))
    × (map (symbol_of (before ++ ((a ++ b) ++ rest))) ts ≡ xs ++ ys)
both R S a b xs ys f g calm before rest h =
    let one = f.cut before (b ++ rest) (calm rest h) in
    let two = g.cut (before ++ a) rest h in
    let inner : (a ++ b) ++ rest ≡ a ++ (b ++ rest) = append_assoc a b rest in
    let outer : (before ++ a) ++ (b ++ rest) ≡ before ++ ((a ++ b) ++ rest) = append_assoc before a (b ++ rest) ∙ ap (λ (bs : List ℕ). before ++ bs) (sym inner) in
    let ends : (before ++ a) ++ b ≡ before ++ (a ++ b) = append_assoc before a b in
    let first : map (symbol_of (before ++ ((a ++ b) ++ rest))) one.0 ≡ xs = ap (λ (bs : List ℕ). map (symbol_of (before ++ bs)) one.0) inner ∙ one.2 in
    let second : map (symbol_of (before ++ ((a ++ b) ++ rest))) two.0 ≡ ys = ap (λ (bs : List ℕ). map (symbol_of bs) two.0) (sym outer) ∙ two.2 in (
      one.0 ++ two.0,
      ap (tokens_from 0 (length before)) inner ∙ one.1 ∙ ap (with_front one.0) two.1
          ∙ front_front one.0 two.0 (tokens_from 0 (length ((before ++ a) ++ b)) rest)
          ∙ ap (λ (bs : List ℕ). with_front (one.0 ++ two.0) (tokens_from 0 (length bs) rest)) ends,
      map-append (symbol_of (before ++ ((a ++ b) ++ rest))) one.0 two.0 ∙ ap (λ (zs : List Symbol). zs ++ map (symbol_of (before ++ ((a ++ b) ++ rest))) two.0) first ∙ ap (λ (zs : List Symbol). xs ++ zs) second,
    )

-- one piece behind the other
pub joined : {R S : List ℕ → Type 0} {a b : List ℕ} {xs ys : List Symbol} → Lays R a xs → Lays S b ys → ((rest : List ℕ) → S rest → R (b ++ rest)) → Lays S (a ++ b) (xs ++ ys)
joined {R} {S} {a} {b} {xs} {ys} f g calm = record { cut = both R S a b xs ys f g calm }

-- what may stand before anything may stand before what R allows
pub weaker : {a : List ℕ} {xs : List Symbol} (R : List ℕ → Type 0) → Lays Any a xs → Lays R a xs
weaker R f = record { cut = λ before rest h. f.cut before rest tt }

-- behind a piece that anything may follow
pub chained : {S : List ℕ → Type 0} {a b : List ℕ} {xs ys : List Symbol} → Lays Any a xs → Lays S b ys → Lays S (a ++ b) (xs ++ ys)
chained f g = joined f g (λ rest h. tt)

pub comma_laid : Lays Any (codes ", ") (Mark signs.Comma ∷ [])
comma_laid = chained (sign_laid signs.Comma (λ rest. tt)) blank_laid

nothing_read : (at : ℕ) → tokens_from 0 at [] ≡ Ok []
unfolding tokens_from
nothing_read at = refl

-- a whole text
pub shown : (text : List ℕ) (ss : List Symbol) → Lays Any text ss → Shows text ss
shown text ss f =
    let all = f.cut [] [] tt in
    let whole : text ++ [] ≡ text = append-nil text in
    let read : tokens_of text ≡ Ok (all.0 ++ []) = ap (tokens_from 0 0) (sym whole) ∙ all.1 ∙ ap (with_front all.0) (nothing_read (length text)) in (
      all.0,
      read ∙ ap (λ (ts : List Token). Ok ts) (append-nil all.0),
      ap (λ (bs : List ℕ). map (symbol_of bs) all.0) (sym whole) ∙ all.2,
    )

-- lists with commas between the elements

abbrev pub more_symbols : {A : Type 0} → (A → List Symbol) → A → List Symbol
more_symbols symbols x = Mark signs.Comma ∷ symbols x

abbrev pub listed : {A : Type 0} → (A → List Symbol) → List A → List Symbol
listed symbols [] = []
listed symbols (x ∷ xs) = symbols x ++ flat_map (more_symbols symbols) xs

module _ {A : Type 0} (text : A → List ℕ) (symbols : A → List Symbol) where
  abbrev IsLaid : A → Type 0
  IsLaid x = Lays Stops (text x) (symbols x)

  more_stops : (xs : List A) (rest : List ℕ) → Stops rest → Stops (flat_map (behind (codes ", ") text) xs ++ rest)
  more_stops [] rest h = h
  more_stops (x ∷ xs) rest h = refl

  more_laid : (xs : List A) → Each IsLaid xs → Lays Stops (flat_map (behind (codes ", ") text) xs) (flat_map (more_symbols symbols) xs)
  more_laid [] h = nothing_laid Stops
  more_laid (x ∷ xs) h = joined (chained comma_laid h.0) (more_laid xs h.1) (more_stops xs)

  pub separated_laid : (xs : List A) → Each IsLaid xs → Lays Stops (separated (codes ", ") text xs) (listed symbols xs)
  separated_laid [] h = nothing_laid Stops
  separated_laid (x ∷ xs) h = joined h.0 (more_laid xs h.1) (more_stops xs)
