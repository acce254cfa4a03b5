-- Reading tokens that show known symbols: what the readers of single tokens give.
use Rattle.std.proofs.Common.{◌≡◌, ℕ, pos, Bool, true, false, List, [], ◌∷◌, map, drop, Option, Some, None, Result, Ok, refl, sym, ap, ◌∙◌, eq-eqb}
use Rattle.std.specs.Prelude.{neg_ℤ, ◌==◌}
use Rattle.ch_lex.specs.declared.error.Code2.{Code2}
use Rattle.ch_lex.specs.declared.error.Code2.TheVariants.{P1, P3}
use Rattle.ch_lex.specs.declared.error.ParseError.{ParseError}
use Rattle.ch_lex.specs.declared.keyword.Keyword.{Keyword}
use Rattle.ch_lex.specs.declared.keyword.Keyword.TheVariants as words
use Rattle.ch_lex.specs.declared.token.Kind.{Kind}
use Rattle.ch_lex.specs.declared.token.Kind.TheVariants as kinds
use Rattle.ch_lex.specs.declared.token.Sign.{Sign}
use Rattle.ch_lex.specs.declared.token.Sign.TheVariants as signs
use Rattle.ch_lex.specs.declared.token.Token.{Token}
use Rattle.ch_lex.specs.Keywords.{keyword_of}
use Rattle.ch_nestparse.specs.declared.ahead.Look.{Look}
use Rattle.ch_nestparse.specs.declared.ahead.Look.TheVariants as looks
use Rattle.ch_nestparse.specs.Read.{◌>>=◌, Names, begins, choose, find_name, fresh_at, guarded, integer_at, is_keyword, is_new, is_sign, keyword_at, kind_look, name_at, name_if, next_is, number_at, number_if, place, seen, sign_at, sign_index, text_at, text_of, word_look}
use Rattle.ch_nestprint.specs.declared.symbol.Symbol.{Symbol}
use Rattle.ch_nestprint.specs.declared.symbol.Symbol.TheVariants.{Name, Number, Key, Mark}
use Rattle.ch_nestprint.specs.Cuts.{symbol_of, symbol_of_look}

-- the result is a value with this property
abbrev pub Given : {A : Type 0} → (A → Type 0) → Result A ParseError → Type 0
Given {A} P r = (a : A) × (r ≡ Ok a) × P a

pub given_bind : {A B : Type 0} (P : A → Type 0) (Q : B → Type 0) (r : Result A ParseError) (f : A → Result B ParseError) → Given P r → ((a : A) → P a → Given Q (f a)) → Given Q (r >>= f)
given_bind P Q r f g k = let b = k g.0 g.2 in (b.0, ap (λ x. x >>= f) g.1 ∙ b.1, b.2)

pub given_ok : {A : Type 0} (P : A → Type 0) (a : A) → P a → Given P (Ok a)
given_ok P a p = (a, refl, p)

pub given_guarded : {A : Type 0} (P : A → Type 0) (b : Bool) (code : Code2) (at : ℕ) (read : Unit {0} → Result A ParseError) → b ≡ true → Given P (read tt) → Given P (guarded b code at read)
given_guarded P b code at read h g = rw h g

pub given_chosen : {A : Type 0} (P : A → Type 0) (b : Bool) (this that : Unit {0} → Result A ParseError) → b ≡ true → Given P (this tt) → Given P (choose b this that)
given_chosen P b this that h g = rw h g

pub given_other : {A : Type 0} (P : A → Type 0) (b : Bool) (this that : Unit {0} → Result A ParseError) → b ≡ false → Given P (that tt) → Given P (choose b this that)
given_other P b this that h g = rw h g

-- what a symbol looks like to a reader
abbrev pub look_of : Symbol → Look
look_of (Name text) = looks.Name
look_of (Number n) = looks.Number n
look_of (Key k) = looks.Keyword k
look_of (Mark s) = looks.Sign s

abbrev pub front : List Symbol → Look
front [] = looks.End
front (s ∷ ss) = look_of s

word_back : (found : Option Keyword) (text : List ℕ) → look_of (symbol_of_look (word_look found) text) ≡ word_look found
word_back None text = refl
word_back (Some k) text = refl

kind_back : (kind : Kind) (text : List ℕ) → look_of (symbol_of_look (kind_look kind text) text) ≡ kind_look kind text
kind_back kinds.Name text = word_back (keyword_of text) text
kind_back (kinds.Number n) text = refl
kind_back (kinds.Sign s) text = refl

word_text : (found : Option Keyword) (text other : List ℕ) → symbol_of_look (word_look found) text ≡ Name other → text ≡ other
word_text None text other h = cc
word_text (Some k) text other h = absurd (cc)

kind_text : (kind : Kind) (text other : List ℕ) → symbol_of_look (kind_look kind text) text ≡ Name other → text ≡ other
kind_text kinds.Name text other h = word_text (keyword_of text) text other h
kind_text (kinds.Number n) text other h = absurd (cc)
kind_text (kinds.Sign s) text other h = absurd (cc)

same_index : (n : ℕ) → (n == n) ≡ true
same_index n = eq-eqb n n refl

pub sign_same : (s : Sign) → is_sign s (looks.Sign s) ≡ true
sign_same s = same_index (sign_index s)

pub keyword_same : (k : Keyword) → is_keyword k (looks.Keyword k) ≡ true
keyword_same words.Program = refl
keyword_same words.Recipe = refl
keyword_same words.Session = refl
keyword_same words.Client = refl
keyword_same words.Let = refl
keyword_same words.Array = refl
keyword_same words.Fill = refl
keyword_same words.For = refl
keyword_same words.Max = refl
keyword_same words.Min = refl
keyword_same words.Param = refl
keyword_same words.To = refl
keyword_same words.Step = refl
keyword_same words.Call = refl
keyword_same words.Machine = refl
keyword_same words.Eager = refl
keyword_same words.Patient = refl

module _ (bytes : List ℕ) where
  -- the tokens show these symbols
  abbrev pub Sees : List Token → List Symbol → Type 0
  Sees ts ss = map (symbol_of bytes) ts ≡ ss

  pub seen_front : (ts : List Token) (ss : List Symbol) → Sees ts ss → seen bytes ts ≡ front ss
  seen_front [] ss h = ap front h
  seen_front (t ∷ ts) ss h = sym (kind_back t.kind (text_of bytes t)) ∙ ap front h

  pub text_front : (ts : List Token) (text : List ℕ) (ss : List Symbol) → Sees ts (Name text ∷ ss) → text_at bytes ts ≡ text
  text_front [] text ss h = absurd (cc)
  text_front (t ∷ ts) text ss h =
      let e : symbol_of bytes t ≡ Name text = cc in
      kind_text t.kind (text_of bytes t) text e

  pub behind_front : (ts : List Token) (s : Symbol) (ss : List Symbol) → Sees ts (s ∷ ss) → Sees (drop 1 ts) ss
  behind_front [] s ss h = absurd (cc)
  behind_front (t ∷ ts) s ss h = cc

  -- the value, and the tokens of these symbols after it
  abbrev pub Valued : {X : Type 0} → X → List Symbol → X × List Token → Type 0
  Valued x rest r = (r.0 ≡ x) × Sees r.1 rest

  abbrev pub Passed : List Symbol → List Token → Type 0
  Passed rest ts = Sees ts rest

  pub sign_given : (code : Code2) (s : Sign) (ts : List Token) (rest : List Symbol) → Sees ts (Mark s ∷ rest) → Given (Passed rest) (sign_at bytes code s ts)
  unfolding sign_at
  sign_given code s ts rest h =
      given_guarded (Passed rest) (next_is bytes s ts) code (place bytes ts) (λ _. Ok (drop 1 ts)) (ap (is_sign s) (seen_front ts (Mark s ∷ rest) h) ∙ sign_same s)
      (given_ok (Passed rest) (drop 1 ts) (behind_front ts (Mark s) rest h))

  pub keyword_given : (code : Code2) (k : Keyword) (ts : List Token) (rest : List Symbol) → Sees ts (Key k ∷ rest) → Given (Passed rest) (keyword_at bytes code k ts)
  unfolding keyword_at
  keyword_given code k ts rest h =
      given_guarded (Passed rest) (begins bytes k ts) code (place bytes ts) (λ _. Ok (drop 1 ts)) (ap (is_keyword k) (seen_front ts (Key k ∷ rest) h) ∙ keyword_same k)
      (given_ok (Passed rest) (drop 1 ts) (behind_front ts (Key k) rest h))

  pub name_given : (code : Code2) (text : List ℕ) (ts : List Token) (rest : List Symbol) → Sees ts (Name text ∷ rest) → Given (Valued text rest) (name_at bytes code ts)
  unfolding name_at
  name_given code text ts rest h =
      let e : seen bytes ts ≡ looks.Name = seen_front ts (Name text ∷ rest) h in
      ((text_at bytes ts, drop 1 ts), ap (λ (l : Look). name_if l code (place bytes ts) (text_at bytes ts) (drop 1 ts)) e, (text_front ts text rest h, behind_front ts (Name text) rest h))

  pub number_given : (code : Code2) (n : ℕ) (ts : List Token) (rest : List Symbol) → Sees ts (Number n ∷ rest) → Given (Valued n rest) (number_at bytes code ts)
  unfolding number_at
  number_given code n ts rest h =
      let e : seen bytes ts ≡ looks.Number n = seen_front ts (Number n ∷ rest) h in
      ((n, drop 1 ts), ap (λ (l : Look). number_if l code (place bytes ts) (drop 1 ts)) e, (refl, behind_front ts (Number n) rest h))

  pub plain_given : (code : Code2) (n : ℕ) (ts : List Token) (rest : List Symbol) → Sees ts (Number n ∷ rest) → Given (Valued (pos n) rest) (integer_at bytes code ts)
  unfolding integer_at
  plain_given code n ts rest h =
      given_other (Valued (pos n) rest) (next_is bytes signs.Minus ts) (λ _. number_at bytes code (drop 1 ts) >>= λ m. Ok (neg_ℤ (pos m.0), m.1)) (λ _. number_at bytes code ts >>= λ m. Ok (pos m.0, m.1))
      (ap (is_sign signs.Minus) (seen_front ts (Number n ∷ rest) h))
      (given_bind (Valued n rest) (Valued (pos n) rest) (number_at bytes code ts) (λ m. Ok (pos m.0, m.1)) (number_given code n ts rest h)
      (λ m g. given_ok (Valued (pos n) rest) (pos m.0, m.1) (ap pos g.0, g.1)))

  pub minus_given : (code : Code2) (n : ℕ) (ts : List Token) (rest : List Symbol) → Sees ts (Mark signs.Minus ∷ Number n ∷ rest) → Given (Valued (neg_ℤ (pos n)) rest) (integer_at bytes code ts)
  unfolding integer_at
  minus_given code n ts rest h =
      given_chosen (Valued (neg_ℤ (pos n)) rest) (next_is bytes signs.Minus ts) (λ _. number_at bytes code (drop 1 ts) >>= λ m. Ok (neg_ℤ (pos m.0), m.1)) (λ _. number_at bytes code ts >>= λ m. Ok (pos m.0, m.1))
      (ap (is_sign signs.Minus) (seen_front ts (Mark signs.Minus ∷ Number n ∷ rest) h))
      (given_bind (Valued n rest) (Valued (neg_ℤ (pos n)) rest) (number_at bytes code (drop 1 ts)) (λ m. Ok (neg_ℤ (pos m.0), m.1))
      (number_given code n (drop 1 ts) rest (behind_front ts (Mark signs.Minus) (Number n ∷ rest) h))
      (λ m g. given_ok (Valued (neg_ℤ (pos n)) rest) (neg_ℤ (pos m.0), m.1) (ap (λ (k : ℕ). neg_ℤ (pos k)) g.0, g.1)))

  pub fresh_given : (names : Names) (text : List ℕ) (ts : List Token) (rest : List Symbol) → find_name text names ≡ None → Sees ts (Name text ∷ rest) → Given (Valued text rest) (fresh_at bytes names ts)
  unfolding fresh_at
  fresh_given names text ts rest e h =
      given_bind (Valued text rest) (Valued text rest) (name_at bytes P1 ts) (λ n. guarded (is_new (find_name n.0 names)) P3 (place bytes ts) (λ _. Ok n)) (name_given P1 text ts rest h)
      (λ n g. given_guarded (Valued text rest) (is_new (find_name n.0 names)) P3 (place bytes ts) (λ _. Ok n) (ap (λ (x : List ℕ). is_new (find_name x names)) g.0 ∙ ap is_new e) (given_ok (Valued text rest) n g))
