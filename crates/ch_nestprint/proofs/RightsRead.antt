-- Printed accesses and right sides are read as they were.
use Rattle.std.proofs.Common.{◌≡◌, ℕ, zero, suc, ◌+◌, ◌<◌, ◌≤◌, ℤ, pos, negsuc, Bool, true, false, not, ◌&&◌, nat_eq, nat_lt, List, [], ◌∷◌, ◌++◌, length, drop, Option, Some, None, Ok, refl, sym, ap, ◌∙◌, append_assoc, ltb-true, arith}
use Rattle.std.specs.Prelude.{neg_ℤ, nat_le}
use Rattle.std.specs.List.{list_all, flat_map}
use Rattle.std.proofs.lemmas.Bool.{and_parts, eqb-true, leb-true, false≢true}
use Rattle.std.proofs.lemmas.List.{append-nil}
use Rattle.ch_affine.specs.Form.{Form}
use Rattle.ch_lex.specs.declared.error.Code2.TheVariants.{P1}
use Rattle.ch_lex.specs.declared.token.Sign.{Sign}
use Rattle.ch_lex.specs.declared.token.Sign.TheVariants as signs
use Rattle.ch_lex.specs.declared.token.Token.{Token}
use Rattle.ch_nest.specs.Limits.{most_affine, most_dimensions}
use Rattle.ch_nest.specs.Shape.{access_fits, coefs_fit, constant_fits, form_fits, has_dimensions, inside, is_array, is_at_most, is_operand, is_term, nested, nested_step, operands, operands_step, parts_fit, parts_fit_step, sub_fits, within_left}
use Rattle.ch_nest.specs.declared.exprs.Standing.{Standing}
use Rattle.ch_nest.specs.declared.exprs.Standing.TheVariants.{Term, Factor, Operand}
use Rattle.ch_nest.specs.declared.nest.Access.{Access}
use Rattle.ch_nest.specs.declared.nest.ArrayDecl.{ArrayDecl}
use Rattle.ch_nest.specs.declared.nest.Expr.{Expr}
use Rattle.ch_nest.specs.declared.nest.Expr.TheVariants as exprs
use Rattle.ch_nest.specs.declared.nest.Sub.{Sub}
use Rattle.ch_nestparse.specs.declared.ahead.Ending.{Ending}
use Rattle.ch_nestparse.specs.declared.ahead.Ending.TheVariants as endings
use Rattle.ch_nestparse.specs.declared.ahead.Look.{Look}
use Rattle.ch_nestparse.specs.declared.ahead.Look.TheVariants as looks
use Rattle.ch_nestparse.specs.declared.scope.Named.{Named}
use Rattle.ch_nestparse.specs.declared.scope.Named.TheVariants.{Let, Array, Iterator}
use Rattle.ch_nestparse.specs.Expressions.{Sort, begins_operand, factor_sign, fits_behind, more_factors, more_terms, product, star_after, sum, term_sign, unary}
use Rattle.ch_nestparse.specs.Forms.{form_at}
use Rattle.ch_nestparse.specs.Read.{◌>>=◌, Names, find_name, guarded, is_sign, next_is, place, repeated, seen, sign_at, text_at}
use Rattle.ch_nestparse.specs.Rights.{access_at, access_right, always, joined_right, named_right, operand_right, plain_right, right_at, rights, sub_at}
use Rattle.ch_nestparse.proofs.Nesting.{fold_add, fold_iter, fold_mul, fold_neg, fold_number, fold_read, fold_sub, inside_suc}
use Rattle.ch_nestprint.specs.declared.symbol.Symbol.{Symbol}
use Rattle.ch_nestprint.specs.declared.symbol.Symbol.TheVariants.{Name, Number, Mark}
use Rattle.ch_nestprint.specs.Ends.{form_symbols}
use Rattle.ch_nestprint.specs.Minus.{minus_in, minus_step, size_if}
use Rattle.ch_nestprint.specs.Names.{array_name, iterator_name, minus_name}
use Rattle.ch_nestprint.specs.Sides.{access_symbols, constant_symbol, joined_symbols, right_step, right_symbols, sub_symbols}
use Rattle.ch_nestprint.proofs.Amounts.{below_negsuc, below_pos}
use Rattle.ch_nestprint.proofs.Cases.{Each, by_exprs}
use Rattle.ch_nestprint.proofs.FormsRead.{Calm, form_given}
use Rattle.ch_nestprint.proofs.Reading.{At, Reached, factor_on, minus_read, operand_given, parens_read, product_begun, product_ends, sum_begun, sum_ends, term_on}
use Rattle.ch_nestprint.proofs.Seeing.{Given, Passed, Sees, Valued, behind_front, front, given_bind, given_guarded, given_ok, seen_front, sign_given, text_front}

-- the names in force below so many loops
pub record Known (names : Names) (arrays : List ArrayDecl) (letters levels : ℕ) : Type 0 where
  pub iterators : (k : ℕ) → k < levels → find_name (iterator_name letters k) names ≡ Some (Iterator k)
  pub free : (k : ℕ) → levels ≤ k → find_name (iterator_name letters k) names ≡ None
  pub placed : (k n : ℕ) → has_dimensions arrays k n ≡ true → find_name (array_name arrays k) names ≡ Some (Array k n)

-- the let of a negative number is in force
abbrev pub LetKnown : Names → ℕ → ℕ → Type 0
LetKnown names letters size = find_name (minus_name letters size) names ≡ Some (Let (neg_ℤ (pos size)))

pub each_left : {A : Type 0} (P : A → Type 0) (xs ys : List A) → Each P (xs ++ ys) → Each P xs
each_left P [] ys h = tt
each_left P (x ∷ xs) ys h = (h.0, each_left P xs ys h.1)

pub each_right : {A : Type 0} (P : A → Type 0) (xs ys : List A) → Each P (xs ++ ys) → Each P ys
each_right P [] ys h = h
each_right P (x ∷ xs) ys h = each_right P xs ys h.1

-- no subscript goes on here
abbrev pub Bare : List Symbol → Type 0
Bare rest = is_sign signs.LeftBracket (front rest) ≡ false

some_dimensions : (arrays : List ArrayDecl) (k n : ℕ) → list_all is_array arrays ≡ true → has_dimensions arrays k n ≡ true → 1 ≤ n
some_dimensions [] zero n h d = absurd (cc)
some_dimensions [] (suc k) n h d = absurd (cc)
some_dimensions (x ∷ xs) zero n h d =
    let shape = (and_parts (is_array x) (list_all is_array xs) h).0 in
    let few = and_parts (nat_le 1 (length x.extents)) (nat_le (length x.extents) most_dimensions) ((and_parts _ (list_all (nat_le 1) x.extents) shape).0) in
    let some = leb-true 1 (length x.extents) few.0 in
    let same : length x.extents ≡ n = eqb-true (length x.extents) n d in
    omega (arith, some, same)
some_dimensions (x ∷ xs) (suc k) n h d = some_dimensions xs k n ((and_parts (is_array x) (list_all is_array xs) h).1) d

left_open : (left : ℕ) (p : ℕ → Bool) → within_left (inside true left) p ≡ true → (l : ℕ) × (left ≡ suc l) × (p l ≡ true)
left_open zero p h = absurd (false≢true h)
left_open (suc l) p h = (l, refl, rw (inside_suc l) at h)

plain_joined : (a : List Symbol) (s : Sign) (b rest : List Symbol) → joined_symbols false a s b ++ rest ≡ a ++ (Mark s ∷ (b ++ rest))
plain_joined a s b rest = ap (λ (xs : List Symbol). xs ++ rest) (append-nil (a ++ (Mark s ∷ b))) ∙ append_assoc a (Mark s ∷ b) rest

parens_joined : (a : List Symbol) (s : Sign) (b rest : List Symbol) → joined_symbols true a s b ++ rest ≡ Mark signs.LeftParen ∷ (joined_symbols false a s b ++ (Mark signs.RightParen ∷ rest))
parens_joined a s b rest =
    ap (λ (xs : List Symbol). Mark signs.LeftParen ∷ xs)
    (append_assoc (a ++ (Mark s ∷ b)) (Mark signs.RightParen ∷ []) rest ∙ ap (λ (xs : List Symbol). xs ++ (Mark signs.RightParen ∷ rest)) (sym (append-nil (a ++ (Mark s ∷ b)))))

module _ (bytes : List ℕ) (names : Names) (arrays : List ArrayDecl) (letters levels : ℕ) (known : Known names arrays letters levels) (shapes : list_all is_array arrays ≡ true) (few : levels ≤ 6) where
  sub_given : (left : ℕ) (found : List Sub) (s : Sub) (ts : List Token) (rest : List Symbol) → sub_fits levels s ≡ true → Sees bytes ts (sub_symbols letters s ++ rest)
      → Given (Valued bytes (found ++ s ∷ []) rest) (sub_at bytes names levels left found ts)
  unfolding sub_at
  sub_given left found s ts rest h g =
      let parts = and_parts (form_fits levels s.form) (nat_eq s.modulus 0) h in
      let zero : s.modulus ≡ 0 = eqb-true s.modulus 0 parts.1 in
      let form = and_parts (coefs_fit levels s.form) (constant_fits s.form) parts.0 in
      let coefs = and_parts (nat_eq (length s.form.coefs) levels) (list_all (is_at_most most_affine) s.form.coefs) form.0 in
      let long : length s.form.coefs ≡ levels = eqb-true (length s.form.coefs) levels coefs.0 in
      let inner = form_symbols letters s.form.coefs s.form.constant in
      let flat : Sees bytes ts (Mark signs.LeftBracket ∷ (inner ++ (Mark signs.RightBracket ∷ rest))) =
      g ∙ ap (λ (xs : List Symbol). Mark signs.LeftBracket ∷ xs) (append_assoc inner (Mark signs.RightBracket ∷ []) rest) in
      let behind : List Symbol = Mark signs.RightBracket ∷ rest in
      given_bind (Passed bytes (inner ++ behind)) (Valued bytes (found ++ s ∷ []) rest) (sign_at bytes P1 signs.LeftBracket ts) (λ us. form_at bytes names levels left endings.Bracket us >>= λ f. sign_at bytes P1 signs.RightBracket f.1 >>= λ vs. Ok (found ++ record { form = f.0; modulus = 0 } ∷ [], vs))
      (sign_given bytes P1 signs.LeftBracket ts (inner ++ behind) flat) (λ us a.
      given_bind (Valued bytes s.form behind) (Valued bytes (found ++ s ∷ []) rest) (form_at bytes names levels left endings.Bracket us) (λ f. sign_at bytes P1 signs.RightBracket f.1 >>= λ vs. Ok (found ++ record { form = f.0; modulus = 0 } ∷ [], vs))
      (form_given bytes names levels letters left endings.Bracket known.iterators s.form us behind (sym long) few (coefs.1, form.1) (record { stars = refl; brackets = refl; follows = refl }) refl a) (λ f b.
      given_bind (Passed bytes rest) (Valued bytes (found ++ s ∷ []) rest) (sign_at bytes P1 signs.RightBracket f.1) (λ vs. Ok (found ++ record { form = f.0; modulus = 0 } ∷ [], vs))
      (sign_given bytes P1 signs.RightBracket f.1 rest b.1) (λ vs c.
      let same : record { form = f.0; modulus = 0 } ≡ s = ap (λ (x : Form). record { form = x; modulus = 0 }) b.0 ∙ ap (λ (m : ℕ). record { form = s.form; modulus = m }) (sym zero) in
      given_ok (Valued bytes (found ++ s ∷ []) rest) (found ++ record { form = f.0; modulus = 0 } ∷ [], vs) (ap (λ (x : Sub). found ++ x ∷ []) same, c))))

  subs_given : (left : ℕ) (subs found : List Sub) (ts : List Token) (rest : List Symbol) → list_all (sub_fits levels) subs ≡ true → Sees bytes ts (flat_map (sub_symbols letters) subs ++ rest)
      → Given (Valued bytes (found ++ subs) rest) (repeated always (sub_at bytes names levels left) (length subs) found ts)
  unfolding repeated
  subs_given left [] found ts rest h g = given_ok (Valued bytes (found ++ []) rest) (found, ts) (sym (append-nil found), g)
  subs_given left (s ∷ ss) found ts rest h g =
      let parts = and_parts (sub_fits levels s) (list_all (sub_fits levels) ss) h in
      let more = flat_map (sub_symbols letters) ss ++ rest in
      let flat : Sees bytes ts (sub_symbols letters s ++ more) = g ∙ append_assoc (sub_symbols letters s) (flat_map (sub_symbols letters) ss) rest in
      given_bind (Valued bytes (found ++ s ∷ []) more) (Valued bytes (found ++ s ∷ ss) rest) (sub_at bytes names levels left found ts) (λ x. repeated always (sub_at bytes names levels left) (length ss) x.0 x.1)
      (sub_given left found s ts more parts.0 flat) (λ x a.
      let again = subs_given left ss x.0 x.1 rest parts.1 a.1 in
      let whole : x.0 ++ ss ≡ found ++ s ∷ ss = ap (λ (f : List Sub). f ++ ss) a.0 ∙ append_assoc found (s ∷ []) ss in
      (again.0, again.1, (again.2.0 ∙ whole, again.2.1)))

  pub access_given : (left : ℕ) (a : Access) (ts : List Token) (rest : List Symbol) → list_all (sub_fits levels) a.subs ≡ true → Bare rest → Sees bytes ts (flat_map (sub_symbols letters) a.subs ++ rest)
      → Given (Valued bytes a rest) (access_at bytes names levels left a.array (length a.subs) ts)
  unfolding access_at
  access_given left a ts rest h bare g =
      given_bind (Valued bytes a.subs rest) (Valued bytes a rest) (repeated always (sub_at bytes names levels left) (length a.subs) [] ts)
      (λ subs. guarded (not (next_is bytes signs.LeftBracket subs.1)) P1 (place bytes subs.1) (λ _. Ok (record { array = a.array; subs = subs.0 }, subs.1)))
      (subs_given left a.subs [] ts rest h g) (λ subs b.
      let none : not (next_is bytes signs.LeftBracket subs.1) ≡ true = ap (λ (l : Look). not (is_sign signs.LeftBracket l)) (seen_front bytes subs.1 rest b.1) ∙ ap not bare in
      given_guarded (Valued bytes a rest) (not (next_is bytes signs.LeftBracket subs.1)) P1 (place bytes subs.1) (λ _. Ok (record { array = a.array; subs = subs.0 }, subs.1)) none
      (given_ok (Valued bytes a rest) (record { array = a.array; subs = subs.0 }, subs.1) (ap (λ (ss : List Sub). record { array = a.array; subs = ss }) b.0, b.1)))

  -- right sides

  abbrev sort : Sort Expr
  sort = rights bytes names levels

  abbrev AtExpr : Expr → ℕ → List Symbol → Expr × ℕ × List Token → Type 0
  AtExpr e = At bytes sort (λ x. x ≡ e)

  abbrev shown : Expr → Standing → List Symbol
  shown e = right_symbols arrays letters e

  abbrev OperandRead : Expr → Type 0
  OperandRead e = (left : ℕ) (star : Option ℕ) (n : ℕ) (ts : List Token) (rest : List Symbol) → nested e Operand left ≡ true → n + operands e ≤ 256 → Bare rest → Sees bytes ts (shown e Operand ++ rest)
      → Given (AtExpr e (n + operands e) rest) (unary bytes sort left star n ts)

  abbrev FactorRead : Expr → Type 0
  FactorRead e = (left : ℕ) (star : Option ℕ) (n : ℕ) (ts : List Token) (rest : List Symbol) → nested e Factor left ≡ true → n + operands e ≤ 256 → Bare rest → Sees bytes ts (shown e Factor ++ rest)
      → Reached bytes sort (λ x. x ≡ e) (n + operands e) (operands e) rest (more_factors bytes sort (unary bytes sort left) star) (product bytes sort (unary bytes sort left) star n ts)

  abbrev TermRead : Expr → Type 0
  TermRead e = (ending : Ending) (left : ℕ) (star : Option ℕ) (n : ℕ) (ts : List Token) (rest : List Symbol) → nested e Term left ≡ true → n + operands e ≤ 256 → Calm ending rest → Sees bytes ts (shown e Term ++ rest)
      → Reached bytes sort (λ x. x ≡ e) (n + operands e) (operands e) rest (more_terms bytes sort (unary bytes sort left) ending star) (sum bytes sort (unary bytes sort left) ending star n ts)

  factor_from : (e : Expr) → ((left : ℕ) → nested e Factor left ≡ true → nested e Operand left ≡ true) → shown e Factor ≡ shown e Operand → OperandRead e → FactorRead e
  factor_from e nests same o left star n ts rest h l b s =
      product_begun bytes sort (unary bytes sort left) star (λ x. x ≡ e) (n + operands e) (operands e) n ts rest (o left star n ts rest (nests left h) l b (rw same at s))

  factor_whole : (e : Expr) → FactorRead e → (ending : Ending) (left : ℕ) (star : Option ℕ) (n : ℕ) (ts : List Token) (rest : List Symbol) → nested e Factor left ≡ true → n + operands e ≤ 256 → Calm ending rest
      → Sees bytes ts (shown e Factor ++ rest) → Given (AtExpr e (n + operands e) rest) (product bytes sort (unary bytes sort left) star n ts)
  factor_whole e f ending left star n ts rest h l calm s =
      product_ends bytes sort (unary bytes sort left) star (λ x. x ≡ e) (n + operands e) (operands e) rest (product bytes sort (unary bytes sort left) star n ts) calm.stars (f left star n ts rest h l calm.brackets s)

  term_from : (e : Expr) → ((left : ℕ) → nested e Term left ≡ true → nested e Factor left ≡ true) → shown e Term ≡ shown e Factor → FactorRead e → TermRead e
  term_from e nests same f ending left star n ts rest h l calm s =
      sum_begun bytes sort (unary bytes sort left) star ending (λ x. x ≡ e) (n + operands e) (operands e) n ts rest calm.follows (factor_whole e f ending left star n ts rest (nests left h) l calm (rw same at s))

  operand_from : (e : Expr) → ((left : ℕ) → nested e Operand left ≡ true → (l : ℕ) × (left ≡ suc l) × (nested e Term l ≡ true))
      → ((rest : List Symbol) → shown e Operand ++ rest ≡ Mark signs.LeftParen ∷ (shown e Term ++ (Mark signs.RightParen ∷ rest))) → TermRead e → OperandRead e
  operand_from e nests same t left star n ts rest h l b s =
      let level = nests left h in
      let more : List Symbol = shown e Term ++ (Mark signs.RightParen ∷ rest) in
      rw level.1 (parens_read bytes sort (λ x. x ≡ e) level.0 star n (n + operands e) ts more rest (s ∙ same rest) (λ us sees.
      sum_ends bytes sort (unary bytes sort level.0) star endings.Paren (λ x. x ≡ e) (n + operands e) (operands e) (Mark signs.RightParen ∷ rest) (sum bytes sort (unary bytes sort level.0) endings.Paren star n us) refl
      (t endings.Paren level.0 star n us (Mark signs.RightParen ∷ rest) level.2 l (record { stars = refl; brackets = refl; follows = refl }) sees)))

  pub record RightRead (e : Expr) : Type 0 where
    pub some : 1 ≤ operands e
    pub operand : OperandRead e
    pub factor : FactorRead e
    pub term : TermRead e

  -- a sum or a difference
  sum_term : (e x y : Expr) (s : Sign) → term_sign (looks.Sign s) ≡ Some s → ((at : ℕ) (a b : Expr) → a ≡ x → b ≡ y → Given (λ z. z ≡ e) (joined_right s at a b)) → operands e ≡ operands x + operands y
      → ((left : ℕ) → nested e Term left ≡ true → (nested x Term left && nested y Factor left) ≡ true) → shown e Term ≡ joined_symbols false (shown x Term) s (shown y Factor)
      → (is_sign signs.LeftBracket (looks.Sign s) ≡ false) → (factor_sign (looks.Sign s) ≡ None) → ((ending : Ending) → fits_behind ending (looks.Sign s) ≡ true) → RightRead x → RightRead y → TermRead e
  unfolding rights
  sum_term e x y s sign joins count nests same bracket starred adds rx ry ending left star n ts rest h l calm sees =
      let parts = and_parts (nested x Term left) (nested y Factor left) (nests left h) in
      let more = shown y Factor ++ rest in
      let flat : Sees bytes ts (shown x Term ++ (Mark s ∷ more)) = sees ∙ ap (λ (xs : List Symbol). xs ++ rest) same ∙ plain_joined (shown x Term) s (shown y Factor) rest in
      let first = rx.term ending left star n ts (Mark s ∷ more) parts.0 (omega (arith, count)) (record { stars = starred; brackets = bracket; follows = adds ending }) flat in
      let one = ry.some in
      let whole : n + operands x + operands y ≡ n + operands e = omega (arith, count) in
      rw (← whole) (term_on bytes sort (unary bytes sort left) star ending (λ a. a ≡ x) (λ b. b ≡ y) (λ z. z ≡ e) (n + operands x) (n + operands x + operands y) (operands x) (operands e) s more rest
      (sum bytes sort (unary bytes sort left) ending star n ts) (omega (arith, one, count)) (omega (arith, one, count)) sign calm.follows first
      (λ us there. factor_whole y ry.factor ending left star (n + operands x) us rest parts.1 (omega (arith, count)) calm there) joins)

  -- a product
  product_factor : (e x y : Expr) → ((at : ℕ) (a b : Expr) → a ≡ x → b ≡ y → Given (λ z. z ≡ e) (joined_right signs.Star at a b)) → operands e ≡ operands x + operands y
      → ((left : ℕ) → nested e Factor left ≡ true → (nested x Factor left && nested y Operand left) ≡ true) → shown e Factor ≡ joined_symbols false (shown x Factor) signs.Star (shown y Operand)
      → RightRead x → RightRead y → FactorRead e
  unfolding rights
  product_factor e x y joins count nests same rx ry left star n ts rest h l bare sees =
      let parts = and_parts (nested x Factor left) (nested y Operand left) (nests left h) in
      let more = shown y Operand ++ rest in
      let flat : Sees bytes ts (shown x Factor ++ (Mark signs.Star ∷ more)) = sees ∙ ap (λ (xs : List Symbol). xs ++ rest) same ∙ plain_joined (shown x Factor) signs.Star (shown y Operand) rest in
      let first = rx.factor left star n ts (Mark signs.Star ∷ more) parts.0 (omega (arith, count)) refl flat in
      let one = ry.some in
      let whole : n + operands x + operands y ≡ n + operands e = omega (arith, count) in
      rw (← whole) (factor_on bytes sort (unary bytes sort left) star (λ a. a ≡ x) (λ b. b ≡ y) (λ z. z ≡ e) (n + operands x) (n + operands x + operands y) (operands x) (operands e) more rest
      (product bytes sort (unary bytes sort left) star n ts) (omega (arith, one, count)) (omega (arith, one, count)) first
      (λ a is here us there. ry.operand left (star_after star (sort.iterates a) here) (n + operands x) us rest parts.1 (omega (arith, count)) bare there) joins)

  -- right sides of each kind

  atom : (e : Expr) → ((s : Standing) (left : ℕ) → nested e s left ≡ true) → ((s : Standing) → shown e s ≡ shown e Operand) → operands e ≡ 1 → OperandRead e → RightRead e
  atom e nests same count o =
      let f : FactorRead e = factor_from e (λ left h. nests Operand left) (same Factor) o in
      record {
        some = omega (arith, count);
        operand = o;
        factor = f;
        term = term_from e (λ left h. nests Factor left) (same Term ∙ sym (same Factor)) f;
      }

  number_operand : (m : ℕ) (e : Expr) → e ≡ exprs.Number (pos m) → operands e ≡ 1 → shown e Operand ≡ Number m ∷ [] → OperandRead e
  unfolding rights
  number_operand m e is count same left star n ts rest h l bare sees =
      let there : Sees bytes ts (Number m ∷ rest) = sees ∙ ap (λ (xs : List Symbol). xs ++ rest) same in
      let look : seen bytes ts ≡ looks.Number m = seen_front bytes ts (Number m ∷ rest) there in
      let made = ap (λ (x : Look). operand_right bytes names levels left (place bytes ts) (next_is bytes signs.LeftBracket (drop 1 ts)) x (find_name (text_at bytes ts) names) (drop 1 ts)) look in
      rw count (operand_given bytes sort (λ x. x ≡ e) left star n ts rest (ap begins_operand look) (omega (arith, count))
      ((exprs.Number (pos m), drop 1 ts), made, (sym is, behind_front bytes ts (Number m) rest there)))

  named_operand : (text : List ℕ) (named : Named) (e : Expr) → find_name text names ≡ Some named → ((at : ℕ) (us : List Token) → plain_right at (Some named) us ≡ Ok (e, us)) → operands e ≡ 1
      → shown e Operand ≡ Name text ∷ [] → OperandRead e
  unfolding rights
  named_operand text named e found reads count same left star n ts rest h l bare sees =
      let there : Sees bytes ts (Name text ∷ rest) = sees ∙ ap (λ (xs : List Symbol). xs ++ rest) same in
      let look : seen bytes ts ≡ looks.Name = seen_front bytes ts (Name text ∷ rest) there in
      let behind = behind_front bytes ts (Name text) rest there in
      let at = place bytes ts in
      let bracket : next_is bytes signs.LeftBracket (drop 1 ts) ≡ false = ap (is_sign signs.LeftBracket) (seen_front bytes (drop 1 ts) rest behind) ∙ bare in
      let name : find_name (text_at bytes ts) names ≡ Some named = ap (λ (t : List ℕ). find_name t names) (text_front bytes ts text rest there) ∙ found in
      let made = ap (λ (x : Look). operand_right bytes names levels left at (next_is bytes signs.LeftBracket (drop 1 ts)) x (find_name (text_at bytes ts) names) (drop 1 ts)) look
      ∙ ap (λ (b : Bool). named_right bytes names levels left at b (find_name (text_at bytes ts) names) (drop 1 ts)) bracket
      ∙ ap (λ (o : Option Named). plain_right at o (drop 1 ts)) name ∙ reads at (drop 1 ts) in
      rw count (operand_given bytes sort (λ x. x ≡ e) left star n ts rest (ap begins_operand look) (omega (arith, count)) ((e, drop 1 ts), made, (refl, behind)))

  bracket_first : (subs : List Sub) (rest : List Symbol) → 1 ≤ length subs → is_sign signs.LeftBracket (front (flat_map (sub_symbols letters) subs ++ rest)) ≡ true
  bracket_first [] rest h = absurd (omega arith)
  bracket_first (s ∷ ss) rest h = refl

  read_operand : (a : Access) (e : Expr) → e ≡ exprs.Read a → access_fits arrays levels a ≡ true → operands e ≡ 1 → shown e Operand ≡ access_symbols arrays letters a → OperandRead e
  unfolding rights
  read_operand a e is fits count same left star n ts rest h l bare sees =
      let parts = and_parts (has_dimensions arrays a.array (length a.subs)) (list_all (sub_fits levels) a.subs) fits in
      let text = array_name arrays a.array in
      let subs : List Symbol = flat_map (sub_symbols letters) a.subs ++ rest in
      let there : Sees bytes ts (Name text ∷ subs) = sees ∙ ap (λ (xs : List Symbol). xs ++ rest) same in
      let look : seen bytes ts ≡ looks.Name = seen_front bytes ts (Name text ∷ subs) there in
      let behind = behind_front bytes ts (Name text) subs there in
      let at = place bytes ts in
      let some = some_dimensions arrays a.array (length a.subs) shapes parts.0 in
      let bracket : next_is bytes signs.LeftBracket (drop 1 ts) ≡ true = ap (is_sign signs.LeftBracket) (seen_front bytes (drop 1 ts) subs behind) ∙ bracket_first a.subs rest some in
      let name : find_name (text_at bytes ts) names ≡ Some (Array a.array (length a.subs)) = ap (λ (t : List ℕ). find_name t names) (text_front bytes ts text subs there) ∙ known.placed a.array (length a.subs) parts.0 in
      let made = ap (λ (x : Look). operand_right bytes names levels left at (next_is bytes signs.LeftBracket (drop 1 ts)) x (find_name (text_at bytes ts) names) (drop 1 ts)) look
      ∙ ap (λ (b : Bool). named_right bytes names levels left at b (find_name (text_at bytes ts) names) (drop 1 ts)) bracket
      ∙ ap (λ (o : Option Named). access_right bytes names levels left at o (drop 1 ts)) name in
      let g : Given (λ r. (r.0 ≡ e) × Sees bytes r.1 rest) (access_at bytes names levels left a.array (length a.subs) (drop 1 ts) >>= λ x. Ok (exprs.Read x.0, x.1)) =
      given_bind (Valued bytes a rest) (λ r. (r.0 ≡ e) × Sees bytes r.1 rest) (access_at bytes names levels left a.array (length a.subs) (drop 1 ts)) (λ x. Ok (exprs.Read x.0, x.1))
      (access_given left a (drop 1 ts) rest parts.1 bare behind) (λ x f.
      given_ok (λ r. (r.0 ≡ e) × Sees bytes r.1 rest) (exprs.Read x.0, x.1) (ap exprs.Read f.0 ∙ sym is, f.1)) in
      let small : n < 256 = omega (arith, count) in
      rw count (operand_given bytes sort (λ x. x ≡ e) left star n ts rest (ap begins_operand look) small (g.0, made ∙ g.1, g.2))

  negated_operand : (x : Expr) → RightRead x → OperandRead (exprs.Neg x)
  unfolding rights
  negated_operand x rx left star n ts rest h l bare sees =
      let level = left_open left (nested x Operand) (sym (ap (λ f. f Operand left) (fold_neg nested_step x)) ∙ h) in
      let count : operands (exprs.Neg x) ≡ operands x = fold_neg operands_step x in
      let there : Sees bytes ts (Mark signs.Minus ∷ (shown x Operand ++ rest)) = sees ∙ ap (λ (f : Standing → List Symbol). f Operand ++ rest) (fold_neg (right_step arrays letters) x) in
      rw (level.1, count) (minus_read bytes sort (λ a. a ≡ x) (λ a. a ≡ exprs.Neg x) level.0 star n (n + operands x) ts (shown x Operand ++ rest) rest there
      (λ us again. rx.operand level.0 star n us rest level.2 (omega (arith, count)) bare again)
      (λ at a is. given_ok (λ z. z ≡ exprs.Neg x) (exprs.Neg a) (ap exprs.Neg is)))

  sum_right : (e x y : Expr) (s : Sign) → term_sign (looks.Sign s) ≡ Some s → is_sign signs.LeftBracket (looks.Sign s) ≡ false → factor_sign (looks.Sign s) ≡ None → ((ending : Ending) → fits_behind ending (looks.Sign s) ≡ true)
      → ((at : ℕ) (a b : Expr) → a ≡ x → b ≡ y → Given (λ z. z ≡ e) (joined_right s at a b)) → operands e ≡ operands x + operands y
      → ((st : Standing) (left : ℕ) → nested e st left ≡ within_left (inside (not (is_term st)) left) (λ l. nested x Term l && nested y Factor l))
      → ((st : Standing) → shown e st ≡ joined_symbols (not (is_term st)) (shown x Term) s (shown y Factor)) → RightRead x → RightRead y → RightRead e
  sum_right e x y s sign bracket starred adds joins count nests same rx ry =
      let one = rx.some in
      let t : TermRead e = sum_term e x y s sign joins count (λ left h. sym (nests Term left) ∙ h) (same Term) bracket starred adds rx ry in
      let o : OperandRead e = operand_from e
      (λ left h. let level = left_open left (λ l. nested x Term l && nested y Factor l) (sym (nests Operand left) ∙ h) in (level.0, level.1, nests Term level.0 ∙ level.2))
      (λ rest. ap (λ (xs : List Symbol). xs ++ rest) (same Operand) ∙ parens_joined (shown x Term) s (shown y Factor) rest
      ∙ ap (λ (xs : List Symbol). Mark signs.LeftParen ∷ (xs ++ (Mark signs.RightParen ∷ rest))) (sym (same Term))) t in
      record {
        some = omega (arith, one, count);
        operand = o;
        factor = factor_from e (λ left h. nests Operand left ∙ sym (nests Factor left) ∙ h) (same Factor ∙ sym (same Operand)) o;
        term = t;
      }

  product_right : (e x y : Expr) → ((at : ℕ) (a b : Expr) → a ≡ x → b ≡ y → Given (λ z. z ≡ e) (joined_right signs.Star at a b)) → operands e ≡ operands x + operands y
      → ((st : Standing) (left : ℕ) → nested e st left ≡ within_left (inside (is_operand st) left) (λ l. nested x Factor l && nested y Operand l))
      → ((st : Standing) → shown e st ≡ joined_symbols (is_operand st) (shown x Factor) signs.Star (shown y Operand)) → RightRead x → RightRead y → RightRead e
  product_right e x y joins count nests same rx ry =
      let one = rx.some in
      let f : FactorRead e = product_factor e x y joins count (λ left h. sym (nests Factor left) ∙ h) (same Factor) rx ry in
      let t : TermRead e = term_from e (λ left h. nests Factor left ∙ sym (nests Term left) ∙ h) (same Term ∙ sym (same Factor)) f in
      let o : OperandRead e = operand_from e
      (λ left h. let level = left_open left (λ l. nested x Factor l && nested y Operand l) (sym (nests Operand left) ∙ h) in (level.0, level.1, nests Term level.0 ∙ level.2))
      (λ rest. ap (λ (xs : List Symbol). xs ++ rest) (same Operand) ∙ parens_joined (shown x Factor) signs.Star (shown y Operand) rest
      ∙ ap (λ (xs : List Symbol). Mark signs.LeftParen ∷ (xs ++ (Mark signs.RightParen ∷ rest))) (sym (same Term))) t in
      record {
        some = omega (arith, one, count);
        operand = o;
        factor = f;
        term = t;
      }

  -- every right side

  abbrev LetsKnown : List ℕ → Type 0
  LetsKnown sizes = Each (LetKnown names letters) sizes

  abbrev AnyRead : Expr → Type 0
  AnyRead e = parts_fit arrays levels e ≡ true → LetsKnown (minus_in e) → RightRead e

  number_read : (z : ℤ) → LetsKnown (minus_in (exprs.Number z)) → RightRead (exprs.Number z)
  number_read (pos m) lets =
      let e = exprs.Number (pos m) in
      let same : (s : Standing) → shown e s ≡ Number m ∷ [] = λ s.
      ap (λ f. f s) (fold_number (right_step arrays letters) (pos m)) ∙ ap (λ (b : Bool). constant_symbol b letters m ∷ []) (below_pos m) in
      let count = fold_number operands_step (pos m) in
      atom e (λ s left. ap (λ f. f s left) (fold_number nested_step (pos m))) (λ s. same s ∙ sym (same Operand)) count (number_operand m e refl count (same Operand))
  number_read (negsuc m) lets =
      let e = exprs.Number (negsuc m) in
      let same : (s : Standing) → shown e s ≡ Name (minus_name letters (suc m)) ∷ [] = λ s.
      ap (λ f. f s) (fold_number (right_step arrays letters) (negsuc m)) ∙ ap (λ (b : Bool). constant_symbol b letters (suc m) ∷ []) (below_negsuc m) in
      let count = fold_number operands_step (negsuc m) in
      let sizes : minus_in e ≡ suc m ∷ [] = fold_number minus_step (negsuc m) ∙ ap (λ (b : Bool). size_if b (suc m)) (below_negsuc m) in
      let lets_one : LetsKnown (suc m ∷ []) = rw sizes at lets in
      atom e (λ s left. ap (λ f. f s left) (fold_number nested_step (negsuc m))) (λ s. same s ∙ sym (same Operand)) count
      (named_operand (minus_name letters (suc m)) (Let (negsuc m)) e lets_one.0 (λ at us. refl) count (same Operand))

  iterator_read : (k : ℕ) → nat_lt k levels ≡ true → RightRead (exprs.Iter k)
  iterator_read k h =
      let e = exprs.Iter k in
      let same : (s : Standing) → shown e s ≡ Name (iterator_name letters k) ∷ [] = λ s. ap (λ f. f s) (fold_iter (right_step arrays letters) k) in
      let count = fold_iter operands_step k in
      atom e (λ s left. ap (λ f. f s left) (fold_iter nested_step k)) (λ s. same s ∙ sym (same Operand)) count
      (named_operand (iterator_name letters k) (Iterator k) e (known.iterators k (ltb-true k levels h)) (λ at us. refl) count (same Operand))

  access_read : (a : Access) → access_fits arrays levels a ≡ true → RightRead (exprs.Read a)
  access_read a h =
      let e = exprs.Read a in
      let same : (s : Standing) → shown e s ≡ access_symbols arrays letters a = λ s. ap (λ f. f s) (fold_read (right_step arrays letters) a) in
      let count = fold_read operands_step a in
      atom e (λ s left. ap (λ f. f s left) (fold_read nested_step a)) (λ s. same s ∙ sym (same Operand)) count (read_operand a e refl h count (same Operand))

  negated_read : (x : Expr) → RightRead x → RightRead (exprs.Neg x)
  negated_read x rx =
      let e = exprs.Neg x in
      let same : (s : Standing) → shown e s ≡ Mark signs.Minus ∷ shown x Operand = λ s. ap (λ f. f s) (fold_neg (right_step arrays letters) x) in
      let nests : (s : Standing) (left : ℕ) → nested e s left ≡ within_left (inside true left) (nested x Operand) = λ s left. ap (λ f. f s left) (fold_neg nested_step x) in
      let count = fold_neg operands_step x in
      let one = rx.some in
      let o = negated_operand x rx in
      let f : FactorRead e = factor_from e (λ left h. nests Operand left ∙ sym (nests Factor left) ∙ h) (same Factor ∙ sym (same Operand)) o in
      record {
        some = omega (arith, one, count);
        operand = o;
        factor = f;
        term = term_from e (λ left h. nests Factor left ∙ sym (nests Term left) ∙ h) (same Term ∙ sym (same Factor)) f;
      }

  same_both : (f : Expr → Expr → Expr) (a b x y : Expr) → a ≡ x → b ≡ y → f a b ≡ f x y
  same_both f a b x y p q = cc

  added_read : (x y : Expr) → RightRead x → RightRead y → RightRead (exprs.Add x y)
  added_read x y rx ry = sum_right (exprs.Add x y) x y signs.Plus refl refl refl (λ ending. refl)
      (λ at a b p q. given_ok (λ z. z ≡ exprs.Add x y) (exprs.Add a b) (same_both exprs.Add a b x y p q)) (fold_add operands_step x y)
      (λ s left. ap (λ f. f s left) (fold_add nested_step x y)) (λ s. ap (λ f. f s) (fold_add (right_step arrays letters) x y)) rx ry

  subtracted_read : (x y : Expr) → RightRead x → RightRead y → RightRead (exprs.Sub x y)
  subtracted_read x y rx ry = sum_right (exprs.Sub x y) x y signs.Minus refl refl refl (λ ending. refl)
      (λ at a b p q. given_ok (λ z. z ≡ exprs.Sub x y) (exprs.Sub a b) (same_both exprs.Sub a b x y p q)) (fold_sub operands_step x y)
      (λ s left. ap (λ f. f s left) (fold_sub nested_step x y)) (λ s. ap (λ f. f s) (fold_sub (right_step arrays letters) x y)) rx ry

  multiplied_read : (x y : Expr) → RightRead x → RightRead y → RightRead (exprs.Mul x y)
  multiplied_read x y rx ry = product_right (exprs.Mul x y) x y
      (λ at a b p q. given_ok (λ z. z ≡ exprs.Mul x y) (exprs.Mul a b) (same_both exprs.Mul a b x y p q)) (fold_mul operands_step x y)
      (λ s left. ap (λ f. f s left) (fold_mul nested_step x y)) (λ s. ap (λ f. f s) (fold_mul (right_step arrays letters) x y)) rx ry

  any_read : (e : Expr) → AnyRead e
  any_read = by_exprs AnyRead
      (λ z h lets. number_read z lets)
      (λ k h lets. iterator_read k (sym (fold_iter (parts_fit_step arrays levels) k) ∙ h))
      (λ a h lets. access_read a (sym (fold_read (parts_fit_step arrays levels) a) ∙ h))
      (λ x again h lets. negated_read x (again (sym (fold_neg (parts_fit_step arrays levels) x) ∙ h) (rw (fold_neg minus_step x) at lets)))
      (λ x y f g h lets.
      let parts = and_parts (parts_fit arrays levels x) (parts_fit arrays levels y) (sym (fold_add (parts_fit_step arrays levels) x y) ∙ h) in
      let both : LetsKnown (minus_in x ++ minus_in y) = rw (fold_add minus_step x y) at lets in
      added_read x y (f parts.0 (each_left (LetKnown names letters) (minus_in x) (minus_in y) both)) (g parts.1 (each_right (LetKnown names letters) (minus_in x) (minus_in y) both)))
      (λ x y f g h lets.
      let parts = and_parts (parts_fit arrays levels x) (parts_fit arrays levels y) (sym (fold_sub (parts_fit_step arrays levels) x y) ∙ h) in
      let both : LetsKnown (minus_in x ++ minus_in y) = rw (fold_sub minus_step x y) at lets in
      subtracted_read x y (f parts.0 (each_left (LetKnown names letters) (minus_in x) (minus_in y) both)) (g parts.1 (each_right (LetKnown names letters) (minus_in x) (minus_in y) both)))
      (λ x y f g h lets.
      let parts = and_parts (parts_fit arrays levels x) (parts_fit arrays levels y) (sym (fold_mul (parts_fit_step arrays levels) x y) ∙ h) in
      let both : LetsKnown (minus_in x ++ minus_in y) = rw (fold_mul minus_step x y) at lets in
      multiplied_read x y (f parts.0 (each_left (LetKnown names letters) (minus_in x) (minus_in y) both)) (g parts.1 (each_right (LetKnown names letters) (minus_in x) (minus_in y) both)))

  -- a whole right side
  pub right_given : (e : Expr) (ts : List Token) (rest : List Symbol) → parts_fit arrays levels e ≡ true → operands e ≤ 256 → nested e Term 32 ≡ true → LetsKnown (minus_in e)
      → Calm endings.Semicolon rest → term_sign (front rest) ≡ None → Sees bytes ts (right_symbols arrays letters e Term ++ rest) → Given (Valued bytes e rest) (right_at bytes names levels ts)
  unfolding right_at
  right_given e ts rest h l nests lets calm ends sees =
      let reads : RightRead e = any_read e h lets in
      let whole = sum_ends bytes sort (unary bytes sort 32) None endings.Semicolon (λ x. x ≡ e) (0 + operands e) (operands e) rest (sum bytes sort (unary bytes sort 32) endings.Semicolon None 0 ts) ends
      (reads.term endings.Semicolon 32 None 0 ts rest nests (omega arith) calm sees) in
      given_bind (AtExpr e (0 + operands e) rest) (Valued bytes e rest) (sum bytes sort (unary bytes sort 32) endings.Semicolon None 0 ts) (λ x. Ok (x.0, x.2)) whole (λ x g.
      given_ok (Valued bytes e rest) (x.0, x.2) (g.0, g.2))
