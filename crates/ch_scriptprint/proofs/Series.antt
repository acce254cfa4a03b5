-- Lists of things that are read one after the other.
use Rattle.std.proofs.Common.{◌≡◌, ℕ, zero, suc, ◌≤◌, Bool, true, false, List, [], ◌∷◌, ◌++◌, length, Result, Ok, sym, ap, subst, ◌∙◌, append_assoc, append-nil, length-append, arith}
use Rattle.std.specs.List.{flat_map}
use Rattle.std.proofs.lemmas.List.{length-map}
use Rattle.ch_lex.specs.declared.error.ParseError.{ParseError}
use Rattle.ch_lex.specs.declared.token.Token.{Token}
use Rattle.ch_nestparse.specs.Read.{◌>>=◌, Read, repeated}
use Rattle.ch_nestprint.specs.declared.symbol.Symbol.{Symbol}
use Rattle.ch_nestprint.proofs.Seeing.{Given, Sees, Valued, given_bind, given_chosen, given_ok, given_other}

-- a reading that is known to be another one
pub given_same : {A : Type 0} (P : A → Type 0) (r s : Result A ParseError) → r ≡ s → Given P s → Given P r
given_same P r s e g = (g.0, e ∙ g.1, g.2)

-- as many tokens as symbols
pub seen_long : (bytes : List ℕ) (ts : List Token) (ss : List Symbol) → Sees bytes ts ss → length ts ≡ length ss
seen_long bytes ts ss h = simp length-map at (ap length h)

-- Elements that are read one by one, each behind those that were found, where `Good found xs` is known of those to come and
-- `Behind` of what stands behind each.
module _ (bytes : List ℕ) {A : Type 0} (symbols : A → List Symbol) (goes : List Token → Bool) (one : List A → List Token → Read (List A))
    (Good : List A → List A → Type 0) (Behind : List Symbol → Type 0)
    (steps : (found : List A) (x : A) (xs : List A) → Good found (x ∷ xs) → Good (found ++ x ∷ []) xs)
    (reads : (found : List A) (x : A) (xs : List A) (ts : List Token) (rest : List Symbol) → Good found (x ∷ xs) → Behind rest → Sees bytes ts (symbols x ++ rest) → Given (Valued bytes (found ++ x ∷ []) rest) (one found ts))
    (begins : (x : A) (ts : List Token) (rest : List Symbol) → Sees bytes ts (symbols x ++ rest) → goes ts ≡ true)
    (follows : (x : A) (rest : List Symbol) → Behind (symbols x ++ rest)) where
  all_follow : (xs : List A) (rest : List Symbol) → Behind rest → Behind (flat_map symbols xs ++ rest)
  all_follow [] rest h = h
  all_follow (x ∷ xs) rest h = subst Behind (sym (append_assoc (symbols x) (flat_map symbols xs) rest)) (follows x (flat_map symbols xs ++ rest))

  pub series_given : (xs : List A) (k : ℕ) (found : List A) (ts : List Token) (rest : List Symbol) → Good found xs → length xs ≤ k → Behind rest
      → ((us : List Token) → Sees bytes us rest → goes us ≡ false) → Sees bytes ts (flat_map symbols xs ++ rest) → Given (Valued bytes (found ++ xs) rest) (repeated goes one k found ts)
  unfolding repeated
  series_given [] zero found ts rest good few behind stops sees = given_ok (Valued bytes (found ++ []) rest) (found, ts) (sym (append-nil found), sees)
  series_given [] (suc k) found ts rest good few behind stops sees =
      given_other (Valued bytes (found ++ []) rest) (goes ts) (λ _. one found ts >>= λ y. repeated goes one k y.0 y.1) (λ _. Ok (found, ts)) (stops ts sees)
      (given_ok (Valued bytes (found ++ []) rest) (found, ts) (sym (append-nil found), sees))
  series_given (x ∷ xs) zero found ts rest good few behind stops sees = absurd (omega arith)
  series_given (x ∷ xs) (suc k) found ts rest good few behind stops sees =
      let goal = Valued bytes (found ++ x ∷ xs) rest in
      let more : List Symbol = flat_map symbols xs ++ rest in
      let flat : Sees bytes ts (symbols x ++ more) = sees ∙ append_assoc (symbols x) (flat_map symbols xs) rest in
      given_chosen goal (goes ts) (λ _. one found ts >>= λ y. repeated goes one k y.0 y.1) (λ _. Ok (found, ts)) (begins x ts more flat)
      (given_bind (Valued bytes (found ++ x ∷ []) more) goal (one found ts) (λ y. repeated goes one k y.0 y.1)
      (reads found x xs ts more good (all_follow xs rest behind) flat) (λ y g.
      let few_left : length xs ≤ k = omega arith in
      let made = series_given xs k (found ++ x ∷ []) y.1 rest (steps found x xs good) few_left behind stops g.1 in
      (made.0, ap (λ (s : List A). repeated goes one k s y.1) g.0 ∙ made.1, (made.2.0 ∙ append_assoc found (x ∷ []) xs, made.2.1))))

-- each element has a symbol at least
pub some_each : {A : Type 0} (symbols : A → List Symbol) → ((x : A) → 1 ≤ length (symbols x)) → (xs : List A) → length xs ≤ length (flat_map symbols xs)
some_each symbols some [] = omega arith
some_each symbols some (x ∷ xs) =
    let a = some x in
    let b = some_each symbols some xs in
    omega (arith, a, b, length-append (symbols x) (flat_map symbols xs))

pub few_seen : {A : Type 0} (bytes : List ℕ) (symbols : A → List Symbol) → ((x : A) → 1 ≤ length (symbols x)) → (xs : List A) (ts : List Token) (rest : List Symbol)
    → Sees bytes ts (flat_map symbols xs ++ rest) → length xs ≤ length ts
few_seen bytes symbols some xs ts rest sees =
    let a = seen_long bytes ts (flat_map symbols xs ++ rest) sees in
    let b = some_each symbols some xs in
    omega (arith, a, b, length-append (flat_map symbols xs) rest)
