-- Reading expressions of either sort from tokens that show known symbols: operands, products and sums, one part at a time.
use Rattle.std.proofs.Common.{◌≡◌, ℕ, zero, suc, ◌+◌, ◌<◌, ◌≤◌, true, ◌&&◌, nat_lt, List, ◌∷◌, drop, Option, Some, None, Ok, refl, ap, ◌∙◌, arith}
use Rattle.std.proofs.lemmas.Bool.{and_from}
use Rattle.std.proofs.lemmas.Bool.Decides.{nat_tests}
use Rattle.ch_lex.specs.declared.error.Code2.TheVariants.{P1}
use Rattle.ch_lex.specs.declared.token.Sign.{Sign}
use Rattle.ch_lex.specs.declared.token.Sign.TheVariants as signs
use Rattle.ch_lex.specs.declared.token.Token.{Token}
use Rattle.ch_nest.specs.Limits.{most_operands}
use Rattle.ch_nestparse.specs.declared.ahead.Ending.{Ending}
use Rattle.ch_nestparse.specs.declared.ahead.Ending.TheVariants as endings
use Rattle.ch_nestparse.specs.declared.ahead.Look.{Look}
use Rattle.ch_nestparse.specs.declared.ahead.Look.TheVariants as looks
use Rattle.ch_nestparse.specs.declared.ahead.Opening.{Opening}
use Rattle.ch_nestparse.specs.declared.ahead.Opening.TheVariants as openings
use Rattle.ch_nestparse.specs.Expressions.{Counted, Reader, Sort, begins_operand, behind, behind_minus, between_parens, chain, counted_operand, factor, factor_sign, fits_behind, more_factors, more_terms, opened, opening, product, star_after, step, sum, summand, term, term_sign, unary}
use Rattle.ch_nestparse.specs.Read.{◌>>=◌, guarded, place, seen, sign_at}
use Rattle.ch_nestprint.specs.declared.symbol.Symbol.{Symbol}
use Rattle.ch_nestprint.specs.declared.symbol.Symbol.TheVariants.{Mark}
use Rattle.ch_nestprint.proofs.Seeing.{Given, Sees, Passed, front, given_bind, given_guarded, given_ok, behind_front, seen_front, sign_given}

chain_stop : {X : Type 0} (ahead : X × ℕ × List Token → Option Sign) (one : Sign → X × ℕ × List Token → Counted X) (k : ℕ) (x : X × ℕ × List Token) → ahead x ≡ None → chain ahead one k x ≡ Ok x
unfolding chain
chain_stop ahead one zero x h = refl
chain_stop ahead one (suc k) x h = ap (λ (o : Option Sign). behind o (Ok x) (λ s. one s x >>= chain ahead one k)) h

chain_step : {X : Type 0} (ahead : X × ℕ × List Token → Option Sign) (one : Sign → X × ℕ × List Token → Counted X) (k : ℕ) (x y : X × ℕ × List Token) (s : Sign) → ahead x ≡ Some s → one s x ≡ Ok y
    → chain ahead one (suc k) x ≡ chain ahead one k y
unfolding chain
chain_step ahead one k x y s h g =
    ap (λ (o : Option Sign). behind o (Ok x) (λ t. one t x >>= chain ahead one k)) h ∙ ap (λ (r : Counted _). r >>= chain ahead one k) g

module _ {X : Type 0} (bytes : List ℕ) (sort : Sort X) where
  -- such a value, so many operands, and the tokens of these symbols after it
  abbrev pub At : (X → Type 0) → ℕ → List Symbol → X × ℕ × List Token → Type 0
  At Q n rest r = Q r.0 × (r.1 ≡ n) × Sees bytes r.2 rest

  -- A reading has come to such a state of a loop over parts, where the parts before had `used` operands.
  abbrev pub Reached : (X → Type 0) → ℕ → ℕ → List Symbol → (ℕ → X × ℕ × List Token → Counted X) → Counted X → Type 0
  Reached Q n used rest more r = (k : ℕ) × (x : X × ℕ × List Token) × (256 ≤ k + used) × (r ≡ more k x) × At Q n rest x

  module _ (inner : Reader X) (star : Option ℕ) where
    pub product_begun : (Q : X → Type 0) (m used n : ℕ) (ts : List Token) (rest : List Symbol) → Given (At Q m rest) (inner star n ts)
        → Reached Q m used rest (more_factors bytes sort inner star) (product bytes sort inner star n ts)
    unfolding product
    product_begun Q m used n ts rest g = (256, g.0, omega arith, ap (λ (r : Counted X). r >>= more_factors bytes sort inner star most_operands) g.1, g.2)

    pub product_ends : (Q : X → Type 0) (m used : ℕ) (rest : List Symbol) (r : Counted X) → factor_sign (front rest) ≡ None
        → Reached Q m used rest (more_factors bytes sort inner star) r → Given (At Q m rest) r
    product_ends Q m used rest r h g =
        (g.1, g.3 ∙ chain_stop (λ y. factor_sign (seen bytes y.2)) (factor bytes sort inner star) g.0 g.1 (ap factor_sign (seen_front bytes g.1.2 rest g.4.2) ∙ h), g.4)

    -- a part of a sum, with what may stand behind it
    summand_given : (ending : Ending) (Q : X → Type 0) (m n : ℕ) (ts : List Token) (rest : List Symbol) → fits_behind ending (front rest) ≡ true → Given (At Q m rest) (product bytes sort inner star n ts)
        → Given (At Q m rest) (summand bytes sort inner ending star n ts)
    unfolding summand
    summand_given ending Q m n ts rest follows g =
        given_bind (At Q m rest) (At Q m rest) (product bytes sort inner star n ts) (λ x. guarded (fits_behind ending (seen bytes x.2)) P1 (place bytes x.2) (λ _. Ok x)) g (λ x f.
        given_guarded (At Q m rest) (fits_behind ending (seen bytes x.2)) P1 (place bytes x.2) (λ _. Ok x) (ap (fits_behind ending) (seen_front bytes x.2 rest f.2) ∙ follows) (given_ok (At Q m rest) x f))

    pub sum_begun : (ending : Ending) (Q : X → Type 0) (m used n : ℕ) (ts : List Token) (rest : List Symbol) → fits_behind ending (front rest) ≡ true
        → Given (At Q m rest) (product bytes sort inner star n ts) → Reached Q m used rest (more_terms bytes sort inner ending star) (sum bytes sort inner ending star n ts)
    unfolding sum
    sum_begun ending Q m used n ts rest follows g =
        let h = summand_given ending Q m n ts rest follows g in
        (256, h.0, omega arith, ap (λ (r : Counted X). r >>= more_terms bytes sort inner ending star most_operands) h.1, h.2)

    pub sum_ends : (ending : Ending) (Q : X → Type 0) (m used : ℕ) (rest : List Symbol) (r : Counted X) → term_sign (front rest) ≡ None
        → Reached Q m used rest (more_terms bytes sort inner ending star) r → Given (At Q m rest) r
    sum_ends ending Q m used rest r h g =
        (g.1, g.3 ∙ chain_stop (λ y. term_sign (seen bytes y.2)) (term bytes sort inner ending star) g.0 g.1 (ap term_sign (seen_front bytes g.1.2 rest g.4.2) ∙ h), g.4)

    -- what a part behind a sign gives
    part_read : (P Q R : X → Type 0) (m n : ℕ) (s : Sign) (more rest : List Symbol) (part : X → ℕ → ℕ → List Token → Counted X) (x : X × ℕ × List Token) → At P m (Mark s ∷ more) x
        → ((a : X) → P a → (at : ℕ) (us : List Token) → Sees bytes us more → Given (At Q n rest) (part a at m us)) → ((at : ℕ) (a b : X) → P a → Q b → Given R (sort.joined s at a b))
        → Given (At R n rest) (step bytes part sort.joined s x)
    part_read P Q R m n s more rest part x h reads joins =
        let at = place bytes x.2 in
        let sees = behind_front bytes x.2 (Mark s) more h.2 in
        let right : Given (At Q n rest) (part x.0 at x.1 (drop 1 x.2)) = rw h.1 (reads x.0 h.0 at (drop 1 x.2) sees) in
        given_bind (At Q n rest) (At R n rest) (part x.0 at x.1 (drop 1 x.2)) (λ y. sort.joined s at x.0 y.0 >>= λ z. Ok (z, y.1, y.2)) right (λ y g.
        given_bind R (At R n rest) (sort.joined s at x.0 y.0) (λ z. Ok (z, y.1, y.2)) (joins at x.0 y.0 h.0 g.0) (λ z f.
        given_ok (At R n rest) (z, y.1, y.2) (f, g.1, g.2)))

    pub factor_on : (P Q R : X → Type 0) (m n used all : ℕ) (more rest : List Symbol) (r : Counted X) → used < 256 → used < all
        → Reached P m used (Mark signs.Star ∷ more) (more_factors bytes sort inner star) r
        → ((a : X) → P a → (here : ℕ) (us : List Token) → Sees bytes us more → Given (At Q n rest) (inner (star_after star (sort.iterates a) here) m us))
        → ((at : ℕ) (a b : X) → P a → Q b → Given R (sort.joined signs.Star at a b)) → Reached R n all rest (more_factors bytes sort inner star) r
    unfolding factor
    factor_on P Q R m n used all more rest r few grows (zero, x, left, is, at) reads joins = absurd (omega arith)
    factor_on P Q R m n used all more rest r few grows (suc k, x, left, is, at) reads joins =
        let next = part_read P Q R m n signs.Star more rest (λ y here. inner (star_after star (sort.iterates y) here)) x at
        reads joins in
        (k, next.0, omega arith, is ∙ chain_step (λ y. factor_sign (seen bytes y.2)) (factor bytes sort inner star) k x next.0 signs.Star (ap factor_sign (seen_front bytes x.2 (Mark signs.Star ∷ more) at.2)) next.1, next.2)

    pub term_on : (ending : Ending) (P Q R : X → Type 0) (m n used all : ℕ) (s : Sign) (more rest : List Symbol) (r : Counted X) → used < 256 → used < all → term_sign (looks.Sign s) ≡ Some s → fits_behind ending (front rest) ≡ true
        → Reached P m used (Mark s ∷ more) (more_terms bytes sort inner ending star) r
        → ((us : List Token) → Sees bytes us more → Given (At Q n rest) (product bytes sort inner star m us))
        → ((at : ℕ) (a b : X) → P a → Q b → Given R (sort.joined s at a b)) → Reached R n all rest (more_terms bytes sort inner ending star) r
    unfolding term
    term_on ending P Q R m n used all s more rest r few grows sign follows (zero, x, left, is, at) reads joins = absurd (omega arith)
    term_on ending P Q R m n used all s more rest r few grows sign follows (suc k, x, left, is, at) reads joins =
        let next = part_read P Q R m n s more rest (λ y here. summand bytes sort inner ending star) x at (λ a p here us sees. summand_given ending Q n m us rest follows (reads us sees)) joins in
        (k, next.0, omega arith, is ∙ chain_step (λ y. term_sign (seen bytes y.2)) (term bytes sort inner ending star) k x next.0 s (ap term_sign (seen_front bytes x.2 (Mark s ∷ more) at.2) ∙ sign) next.1, next.2)

  -- an operand
  pub counted_given : (Q : X → Type 0) (left : ℕ) (star : Option ℕ) (n : ℕ) (ts : List Token) (rest : List Symbol) → begins_operand (seen bytes ts) ≡ true → n < 256
      → Given (λ r. Q r.0 × Sees bytes r.1 rest) (sort.operand left star ts) → Given (At Q (n + 1) rest) (counted_operand bytes sort left star n ts)
  unfolding counted_operand
  counted_given Q left star n ts rest b l g =
      let few : nat_lt n most_operands ≡ true = grind (arith, nat_tests) in
      given_guarded (At Q (n + 1) rest) (begins_operand (seen bytes ts) && nat_lt n most_operands) P1 (place bytes ts) (λ _. sort.operand left star ts >>= λ x. Ok (x.0, n + 1, x.1))
      (and_from (begins_operand (seen bytes ts)) (nat_lt n most_operands) b few)
      (given_bind (λ r. Q r.0 × Sees bytes r.1 rest) (At Q (n + 1) rest) (sort.operand left star ts) (λ x. Ok (x.0, n + 1, x.1)) g (λ x f.
      given_ok (At Q (n + 1) rest) (x.0, n + 1, x.1) (f.0, refl, f.1)))

  abbrev opens : Opening → ℕ → Option ℕ → ℕ → List Token → Counted X
  opens o left star n ts = opened o
      (λ _. behind_minus bytes sort (unary bytes sort left) star n ts)
      (λ _. between_parens bytes sort (unary bytes sort left) star n ts)
      (λ _. counted_operand bytes sort (suc left) star n ts)

  operand_opening : (l : Look) → begins_operand l ≡ true → opening l ≡ openings.Operand
  operand_opening looks.Name h = refl
  operand_opening (looks.Number n) h = refl
  operand_opening (looks.Keyword k) h = absurd (cc)
  operand_opening (looks.Sign s) h = absurd (cc)
  operand_opening looks.End h = absurd (cc)

  pub operand_given : (Q : X → Type 0) (left : ℕ) (star : Option ℕ) (n : ℕ) (ts : List Token) (rest : List Symbol) → begins_operand (seen bytes ts) ≡ true → n < 256
      → Given (λ r. Q r.0 × Sees bytes r.1 rest) (sort.operand left star ts) → Given (At Q (n + 1) rest) (unary bytes sort left star n ts)
  unfolding unary
  operand_given Q zero star n ts rest b l g = counted_given Q 0 star n ts rest b l g
  operand_given Q (suc left) star n ts rest b l g =
      let c = counted_given Q (suc left) star n ts rest b l g in
      (c.0, ap (λ (o : Opening). opens o left star n ts) (operand_opening (seen bytes ts) b) ∙ c.1, c.2)

  pub minus_read : (P Q : X → Type 0) (left : ℕ) (star : Option ℕ) (m n : ℕ) (ts : List Token) (more rest : List Symbol) → Sees bytes ts (Mark signs.Minus ∷ more)
      → ((us : List Token) → Sees bytes us more → Given (At P n rest) (unary bytes sort left star m us)) → ((at : ℕ) (x : X) → P x → Given Q (sort.negated at x))
      → Given (At Q n rest) (unary bytes sort (suc left) star m ts)
  unfolding unary behind_minus
  minus_read P Q left star m n ts more rest h reads negates =
      let c : Given (At Q n rest) (behind_minus bytes sort (unary bytes sort left) star m ts) =
      given_bind (At P n rest) (At Q n rest) (unary bytes sort left star m (drop 1 ts)) (λ x. sort.negated (place bytes ts) x.0 >>= λ y. Ok (y, x.1, x.2)) (reads (drop 1 ts) (behind_front bytes ts (Mark signs.Minus) more h)) (λ x g.
      given_bind Q (At Q n rest) (sort.negated (place bytes ts) x.0) (λ y. Ok (y, x.1, x.2)) (negates (place bytes ts) x.0 g.0) (λ y f.
      given_ok (At Q n rest) (y, x.1, x.2) (f, g.1, g.2))) in
      (c.0, ap (λ (o : Opening). opens o left star m ts) (ap opening (seen_front bytes ts (Mark signs.Minus ∷ more) h)) ∙ c.1, c.2)

  pub parens_read : (Q : X → Type 0) (left : ℕ) (star : Option ℕ) (m n : ℕ) (ts : List Token) (more rest : List Symbol) → Sees bytes ts (Mark signs.LeftParen ∷ more)
      → ((us : List Token) → Sees bytes us more → Given (At Q n (Mark signs.RightParen ∷ rest)) (sum bytes sort (unary bytes sort left) endings.Paren star m us))
      → Given (At Q n rest) (unary bytes sort (suc left) star m ts)
  unfolding unary between_parens
  parens_read Q left star m n ts more rest h reads =
      let c : Given (At Q n rest) (between_parens bytes sort (unary bytes sort left) star m ts) =
      given_bind (At Q n (Mark signs.RightParen ∷ rest)) (At Q n rest) (sum bytes sort (unary bytes sort left) endings.Paren star m (drop 1 ts)) (λ x. sign_at bytes P1 signs.RightParen x.2 >>= λ us. Ok (x.0, x.1, us))
      (reads (drop 1 ts) (behind_front bytes ts (Mark signs.LeftParen) more h)) (λ x g.
      given_bind (Passed bytes rest) (At Q n rest) (sign_at bytes P1 signs.RightParen x.2) (λ us. Ok (x.0, x.1, us)) (sign_given bytes P1 signs.RightParen x.2 rest g.2) (λ us f.
      given_ok (At Q n rest) (x.0, x.1, us) (g.0, g.1, f))) in
      (c.0, ap (λ (o : Opening). opens o left star m ts) (ap opening (seen_front bytes ts (Mark signs.LeftParen ∷ more) h)) ∙ c.1, c.2)
