-- The tokens that are left of a text: what readings of single tokens leave of them, and that each refusal names a place of the
-- text, or its end.
use Rattle.std.proofs.Common.{◌≡◌, ℕ, zero, suc, ◌-◌, ◌≤◌, pos, neg_ℤ, Bool, true, false, List, [], ◌∷◌, length, drop, Result, Ok, refl, arith}
use Rattle.std.proofs.lemmas.Bool.{false≢true}
use Rattle.ch_lex.specs.Cut.{IsCut}
use Rattle.ch_lex.specs.declared.error.Code2.{Code2}
use Rattle.ch_lex.specs.declared.error.ParseError.{ParseError}
use Rattle.ch_lex.specs.declared.keyword.Keyword.{Keyword}
use Rattle.ch_lex.specs.declared.token.Sign.{Sign}
use Rattle.ch_lex.specs.declared.token.Sign.TheVariants as signs
use Rattle.ch_lex.specs.declared.token.Token.{Token}
use Rattle.ch_nestparse.specs.declared.ahead.Look.{Look}
use Rattle.ch_nestparse.specs.declared.ahead.Look.TheVariants as looks
use Rattle.ch_nestparse.specs.Read.{◌>>=◌, Read, begins, guarded, integer_at, keyword_at, name_at, name_if, next_is, number_at, number_if, place, repeated, seen, sign_at, text_at}
use Rattle.ch_nestparse.specs.Spelling.{is_name}
use Rattle.ch_nestparse.proofs.Placed.{Placed, placed_bind, placed_choose, placed_err, placed_guarded, placed_ok}
use Rattle.ch_nestparse.proofs.Spellings.{cut_stands, seen_name}

module _ (bytes : List ℕ) where
  -- the text is cut into these tokens from some place on, and they are at most so many
  abbrev pub Left : ℕ → List Token → Type 0
  Left n ts = (at : ℕ) × (at ≤ length bytes) × IsCut bytes at ts × (length ts ≤ n)

  pub left_within : (m n : ℕ) (ts : List Token) → m ≤ n → Left m ts → Left n ts
  left_within m n ts l h = let few = h.3 in (h.0, h.1, h.2, omega (arith, l, few))

  pub left_drop : (n : ℕ) (ts : List Token) → Left n ts → Left n (drop 1 ts)
  left_drop n [] h = h
  left_drop n (t ∷ ts) h = let few = h.3 in (t.end, h.2.3, h.2.5, omega (arith, few))

  pub left_after : (k n : ℕ) (ts : List Token) → Left n ts → Left n (drop k ts)
  left_after zero n ts h = h
  left_after (suc k) n [] h = h
  left_after (suc k) n (t ∷ ts) h = left_after k n ts (left_drop n (t ∷ ts) h)

  pub left_place : (n : ℕ) (ts : List Token) → Left n ts → place bytes ts ≤ length bytes
  left_place n [] h = omega arith
  left_place n (t ∷ ts) h = let a = h.2.2 in let b = h.2.3 in omega (arith, a, b)

  -- what is read where a token stands: one is taken
  pub left_taken : (n : ℕ) (t : Token) (ts : List Token) → Left n (t ∷ ts) → (1 ≤ n) × Left (n - 1) ts
  left_taken n t ts h = let few = h.3 in (omega (arith, few), (t.end, h.2.3, h.2.5, omega (arith, few)))

  pub number_taken : (n z : ℕ) (ts : List Token) → seen bytes ts ≡ looks.Number z → Left n ts → (1 ≤ n) × Left (n - 1) (drop 1 ts)
  number_taken n z [] e h = absurd cc
  number_taken n z (t ∷ ts) e h = left_taken n t ts h

  pub name_taken : (n : ℕ) (ts : List Token) → seen bytes ts ≡ looks.Name → Left n ts → (1 ≤ n) × Left (n - 1) (drop 1 ts)
  name_taken n [] e h = absurd cc
  name_taken n (t ∷ ts) e h = left_taken n t ts h

  pub placed_map : {X : Type 0} {P Q : X → Type 0} {r : Result X ParseError} → ((x : X) → P x → Q x) → Placed bytes P r → Placed bytes Q r
  placed_map f p = (λ x e. f x (p.0 x e), p.1)

  -- a reading whose value has the property, and which leaves at most so many tokens
  abbrev pub Leaves : {X : Type 0} → (X → Type 0) → ℕ → Read X → Type 0
  Leaves P n r = Placed bytes (λ x. P x.0 × Left n x.1) r

  pub placed_if : {X : Type 0} {P : X → Type 0} (test : Bool) (code : Code2) (at : ℕ) (read : Unit {0} → Result X ParseError) → at ≤ length bytes
      → (test ≡ true → Placed bytes P (read tt)) → Placed bytes P (guarded test code at read)
  placed_if true code at read l p = p refl
  placed_if {P = P} false code at read l p = placed_err bytes P code at (pos 0) l

  -- single tokens

  pub sign_left : (code : Code2) (s : Sign) (n : ℕ) (ts : List Token) → Left n ts → Placed bytes (Left n) (sign_at bytes code s ts)
  unfolding sign_at
  sign_left code s n ts h =
      placed_guarded bytes (next_is bytes s ts) code (place bytes ts) (λ _. Ok (drop 1 ts)) (left_place n ts h)
      (placed_ok bytes (Left n) (drop 1 ts) (left_drop n ts h))

  begun : (k : Keyword) (n : ℕ) (ts : List Token) → begins bytes k ts ≡ true → Left n ts → (1 ≤ n) × Left (n - 1) (drop 1 ts)
  begun k n [] b h = absurd (false≢true b)
  begun k n (t ∷ ts) b h = left_taken n t ts h

  pub keyword_left : (code : Code2) (k : Keyword) (n : ℕ) (ts : List Token) → Left n ts → Placed bytes (λ rest. (1 ≤ n) × Left (n - 1) rest) (keyword_at bytes code k ts)
  unfolding keyword_at
  keyword_left code k n ts h =
      placed_if (begins bytes k ts) code (place bytes ts) (λ _. Ok (drop 1 ts)) (left_place n ts h)
      (λ b. placed_ok bytes (λ rest. (1 ≤ n) × Left (n - 1) rest) (drop 1 ts) (begun k n ts b h))

  abbrev pub IsName : List ℕ → Type 0
  IsName text = is_name text ≡ true

  name_if_left : (look : Look) (code : Code2) (at : ℕ) (text : List ℕ) (n : ℕ) (ts : List Token) → at ≤ length bytes → (look ≡ looks.Name → IsName text) → Left n ts
      → Leaves IsName n (name_if look code at text ts)
  name_if_left looks.Name code at text n ts l g h = placed_ok bytes (λ x. IsName x.0 × Left n x.1) (text, ts) (g refl, h)
  name_if_left other code at text n ts l g h = placed_err bytes (λ x. IsName x.0 × Left n x.1) code at (pos 0) l

  pub name_left : (code : Code2) (n : ℕ) (ts : List Token) → Left n ts → Leaves IsName n (name_at bytes code ts)
  unfolding name_at
  name_left code n ts h =
      name_if_left (seen bytes ts) code (place bytes ts) (text_at bytes ts) n (drop 1 ts) (left_place n ts h)
      (seen_name bytes ts (cut_stands bytes h.0 ts h.2)) (left_drop n ts h)

  abbrev pub Any : {X : Type 0} → X → Type 0
  Any x = Unit {0}

  number_if_left : (look : Look) (code : Code2) (at n : ℕ) (ts : List Token) → at ≤ length bytes → Left n ts → Leaves Any n (number_if look code at ts)
  number_if_left (looks.Number z) code at n ts l h = placed_ok bytes (λ x. Unit {0} × Left n x.1) (z, ts) (tt, h)
  number_if_left other code at n ts l h = placed_err bytes (λ x. Unit {0} × Left n x.1) code at (pos 0) l

  number_left : (code : Code2) (n : ℕ) (ts : List Token) → Left n ts → Leaves Any n (number_at bytes code ts)
  unfolding number_at
  number_left code n ts h = number_if_left (seen bytes ts) code (place bytes ts) n (drop 1 ts) (left_place n ts h) (left_drop n ts h)

  pub integer_left : (code : Code2) (n : ℕ) (ts : List Token) → Left n ts → Leaves Any n (integer_at bytes code ts)
  unfolding integer_at
  integer_left code n ts h =
      placed_choose bytes (next_is bytes signs.Minus ts)
      (λ _. number_at bytes code (drop 1 ts) >>= λ z. Ok (neg_ℤ (pos z.0), z.1))
      (λ _. number_at bytes code ts >>= λ z. Ok (pos z.0, z.1))
      (placed_bind bytes (number_left code n (drop 1 ts) (left_drop n ts h)) (λ z g. placed_ok bytes (λ x. Unit {0} × Left n x.1) (neg_ℤ (pos z.0), z.1) (tt, g.1)))
      (placed_bind bytes (number_left code n ts h) (λ z g. placed_ok bytes (λ x. Unit {0} × Left n x.1) (pos z.0, z.1) (tt, g.1)))

  -- what each reading keeps holds after all of them
  pub repeated_left : {S : Type 0} (I : S → List Token → Type 0) (goes : List Token → Bool) (one : S → List Token → Read S)
      → ((s : S) (ts : List Token) → I s ts → Placed bytes (λ x. I x.0 x.1) (one s ts))
      → (k : ℕ) (s : S) (ts : List Token) → I s ts → Placed bytes (λ x. I x.0 x.1) (repeated goes one k s ts)
  unfolding repeated
  repeated_left I goes one each zero s ts h = placed_ok bytes (λ x. I x.0 x.1) (s, ts) h
  repeated_left I goes one each (suc k) s ts h =
      placed_choose bytes (goes ts) (λ _. one s ts >>= λ x. repeated goes one k x.0 x.1) (λ _. Ok (s, ts))
      (placed_bind bytes (each s ts h) (λ x g. repeated_left I goes one each k x.0 x.1 g))
      (placed_ok bytes (λ x. I x.0 x.1) (s, ts) h)
