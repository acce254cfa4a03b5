-- The text of a right side tells it.
use Rattle.std.proofs.Common.{◌≡◌, refl, sym, ap, ◌∙◌, subst, ℕ, suc, ◌<◌, Bool, true, false, not, ◌&&◌, ◌||◌, cond, nat_eq, ℤ, pos, negsuc, List, [], ◌∷◌, ◌++◌, length, inl, inr, arith, append_assoc}
use Rattle.std.specs.Prelude.{codes}
use Rattle.std.specs.List.{list_all}
use Rattle.std.proofs.lemmas.Bool.{and_from, and_parts, both_ways, or_left, or_parts, not-true, not-false, not_from_false}
use Rattle.std.proofs.lemmas.Bool.Decides.{nat_tests}
use Rattle.std.proofs.lemmas.List.{append_cancel_left}
use Rattle.ch_nest.specs.declared.nest.Access.{Access}
use Rattle.ch_nest.specs.declared.nest.ArrayDecl.{ArrayDecl}
use Rattle.ch_nest.specs.declared.nest.Body.{Body}
use Rattle.ch_nest.specs.declared.nest.Expr.{Expr, map-Expr}
use Rattle.ch_nest.specs.declared.nest.Expr.TheOpen.{Expr-F}
use Rattle.ch_nest.specs.declared.nest.Expr.TheViews.{out-Expr, roll-Expr, roll-out-Expr}
use Rattle.ch_nest.specs.declared.nest.Expr.TheFolds.{fold-roll-Expr, ind-Expr}
use Rattle.ch_print.specs.Numbers.{integer_text, number_text}
use Rattle.ch_print.proofs.Readback.{all_digits, digit_first, is_digit, read_integer, read_number, same_run, stops}
use Rattle.ch_code.specs.FormText.{original, variable_text}
use Rattle.ch_code.specs.BodyText.{Side, access_text, array_text, body_text, closing, expr_layer, expr_text, infix_text, is_plain, is_word, nth_name, opening, operand_text}
use Rattle.ch_code.specs.declared.bodies.Standing.{Standing}
use Rattle.ch_code.specs.declared.bodies.Standing.TheVariants.{Sum, Product, Operand, Negated}
use Rattle.ch_code.proofs.Chains.{IsChain, chain_more, chain_one, read_chain}
use Rattle.ch_code.proofs.ReadBodies.{access_is, named, other_cases, own_cases, own_plain, plain_first, plain_words, read_access}
use Rattle.ch_code.proofs.ReadForms.{behind_one, differ, starts_apart}
use Rattle.ch_code.proofs.ReadLists.{apart_by, leads, leads_with}

-- what goes on with a right side: a byte of a word, or a subscript
abbrev pub is_text : ℕ → Bool
is_text b = is_word b || nat_eq 91 b

pub text_words : (r : List ℕ) → stops is_text r ≡ true → stops is_word r ≡ true
text_words [] h = refl
text_words (b ∷ bs) h = not_from_false _ ((or_parts _ _ (not-true _ h)).0)

text_open : (r : List ℕ) → stops is_text r ≡ true → leads 91 r ≡ false
text_open [] h = refl
text_open (b ∷ bs) h = (or_parts _ _ (not-true _ h)).1

word_digits : (r : List ℕ) → stops is_word r ≡ true → stops is_digit r ≡ true
word_digits [] h = refl
word_digits (b ∷ bs) h = not_from_false _ ((or_parts _ _ ((or_parts _ _ ((or_parts _ _ (not-true _ h)).0)).0)).0)

digit_words : (xs : List ℕ) → list_all is_digit xs ≡ true → list_all is_word xs ≡ true
digit_words [] h = refl
digit_words (b ∷ bs) h =
    let p = and_parts (is_digit b) (list_all is_digit bs) h in
    and_from _ _ (or_left _ _ (or_left _ _ (or_left _ _ (p.0)))) (digit_words bs (p.1))

-- what begins with a minus sign is a negative number where a digit stands behind it
abbrev minus_shape : List ℕ → ℕ
minus_shape [] = 2
minus_shape (b ∷ bs) = cond (stops is_digit bs) 2 1

-- what a right side begins as: 0 a name, 1 a number, 2 a negation, 3 what stands in parentheses
abbrev text_shape : List ℕ → ℕ
text_shape xs = cond (leads 40 xs) 3 (cond (leads 45 xs) (minus_shape xs) (cond (stops is_digit xs) 0 1))

digit_bracket : (b : ℕ) → is_digit b ≡ true → nat_eq 40 b ≡ false
digit_bracket b h = grind (arith, nat_tests)

digit_minus : (b : ℕ) → is_digit b ≡ true → nat_eq 45 b ≡ false
digit_minus b h = grind (arith, nat_tests)

word_bracket : (b : ℕ) → is_word b ≡ true → nat_eq 40 b ≡ false
word_bracket b h = grind (arith, nat_tests)

word_minus : (b : ℕ) → is_word b ≡ true → nat_eq 45 b ≡ false
word_minus b h = grind (arith, nat_tests)

digit_shape : (xs : List ℕ) → stops is_digit xs ≡ false → text_shape xs ≡ 1
digit_shape [] h = absurd (both_ways true h refl)
digit_shape (b ∷ bs) h =
    let d : is_digit b ≡ true = not-false _ h in
    rw (digit_bracket b d, digit_minus b d, d) refl

below_shape : (xs : List ℕ) → stops is_digit xs ≡ false → text_shape (45 ∷ xs) ≡ 1
below_shape xs h = ap (λ t. cond t 2 1) h

negation_shape : (xs : List ℕ) → stops is_digit xs ≡ true → text_shape (45 ∷ xs) ≡ 2
negation_shape xs h = ap (λ t. cond t 2 1) h

name_shape : (xs : List ℕ) → stops is_word xs ≡ false → stops is_digit xs ≡ true → text_shape xs ≡ 0
name_shape [] h k = absurd (both_ways true h refl)
name_shape (b ∷ bs) h k =
    let w : is_word b ≡ true = not-false _ h in
    let d : is_digit b ≡ false = not-true _ k in
    rw (word_bracket b w, word_minus b w, d) refl

plain_no_digit : (name r : List ℕ) → is_plain name ≡ true → stops is_digit (name ++ r) ≡ true
plain_no_digit [] r h = absurd (both_ways false refl h)
plain_no_digit (b ∷ bs) r h = (and_parts _ _ h).0

array_shape : (arrays : List ArrayDecl) (n : ℕ) (r : List ℕ) → text_shape (array_text arrays n ++ r) ≡ 0
array_shape arrays n r = elim (own_cases arrays n) as (λ _. text_shape (array_text arrays n ++ r) ≡ 0) [
  | inl x ↦ ap text_shape (named r (array_text arrays n) (nth_name arrays n) (x.1))
      ∙ name_shape (nth_name arrays n ++ r) (plain_first (nth_name arrays n) r (own_plain arrays n (x.0))) (plain_no_digit (nth_name arrays n) r (own_plain arrays n (x.0)))
  | inr x ↦ elim (other_cases (length arrays) n) as (λ _. text_shape (array_text arrays n ++ r) ≡ 0) [
    | inl y ↦ ap text_shape (named r (array_text arrays n) _ (x ∙ y.1))
    | inr y ↦ ap text_shape (named r (array_text arrays n) _ (x ∙ y.1))
  ]
]

-- a name begins with no parenthesis and no digit
name_open : (xs : List ℕ) → text_shape xs ≡ 0 → leads 40 xs ≡ false
name_open xs h = by (leads 40 xs) refl
  where
    by : (b : Bool) → leads 40 xs ≡ b → b ≡ false
    by true e = absurd (omega (arith, sym h ∙ ap (λ t. cond t 3 (cond (leads 45 xs) (minus_shape xs) (cond (stops is_digit xs) 0 1))) e))
    by false e = refl

name_digit : (xs : List ℕ) → text_shape xs ≡ 0 → stops is_digit xs ≡ true
name_digit [] h = refl
name_digit (b ∷ bs) h = by (is_digit b) refl
  where
    by : (c : Bool) → is_digit b ≡ c → not c ≡ true
    by true e = absurd (omega (arith, sym h ∙ digit_shape (b ∷ bs) (ap not e)))
    by false e = refl

infix_is : (encloses : Bool) (x operator y r : List ℕ) → infix_text encloses x operator y ++ r ≡ opening encloses ++ (x ++ (operator ++ (y ++ (closing encloses ++ r))))
infix_is encloses x operator y r = simp append_assoc

operand_is : (encloses : Bool) (z : ℤ) (r : List ℕ) → operand_text encloses z ++ r ≡ opening encloses ++ (integer_text z ++ (closing encloses ++ r))
operand_is encloses z r = simp append_assoc

abbrev shape : {A : Type 0} → Expr-F A → ℕ
shape (Expr-F.Number z) = 1
shape (Expr-F.Iter k) = 0
shape (Expr-F.Read a) = 0
shape (Expr-F.Neg x) = 2
shape (Expr-F.Add x y) = 3
shape (Expr-F.Sub x y) = 3
shape (Expr-F.Mul x y) = 3

-- behind a minus sign it stands in parentheses
abbrev opens : {A : Type 0} → Expr-F A → Bool
opens (Expr-F.Number (pos n)) = true
opens (Expr-F.Number (negsuc n)) = false
opens (Expr-F.Iter k) = false
opens (Expr-F.Read a) = false
opens (Expr-F.Neg x) = false
opens (Expr-F.Add x y) = true
opens (Expr-F.Sub x y) = true
opens (Expr-F.Mul x y) = true

abbrev is_sum : {A : Type 0} → Expr-F A → Bool
is_sum (Expr-F.Number z) = false
is_sum (Expr-F.Iter k) = false
is_sum (Expr-F.Read a) = false
is_sum (Expr-F.Neg x) = false
is_sum (Expr-F.Add x y) = true
is_sum (Expr-F.Sub x y) = true
is_sum (Expr-F.Mul x y) = false

abbrev is_product : {A : Type 0} → Expr-F A → Bool
is_product (Expr-F.Number z) = false
is_product (Expr-F.Iter k) = false
is_product (Expr-F.Read a) = false
is_product (Expr-F.Neg x) = false
is_product (Expr-F.Add x y) = false
is_product (Expr-F.Sub x y) = false
is_product (Expr-F.Mul x y) = true

-- what may stand behind a right side, by where it stands
abbrev pub EndsOperand : List ℕ → Type 0
EndsOperand r = stops is_text r ≡ true

abbrev pub EndsProduct : List ℕ → Type 0
EndsProduct r = (stops is_text r ≡ true) × (leads_with 32 42 r ≡ false)

abbrev pub EndsSum : List ℕ → Type 0
EndsSum r = (stops is_text r ≡ true) × (leads 32 r ≡ false)

sum_product : (r : List ℕ) → EndsSum r → EndsProduct r
sum_product [] h = (refl, refl)
sum_product (b ∷ bs) h = (h.0, ap (λ t. t && leads 42 bs) (h.1))

-- the signs between the terms of a sum, and between the factors of a product
abbrev sum_mark : Bool → List ℕ
sum_mark true = codes " + "
sum_mark false = codes " - "

abbrev product_mark : Unit {0} → List ℕ
product_mark o = codes " * "

abbrev sum_of : Bool → Expr → Expr → Expr
sum_of true x y = roll-Expr (Expr-F.Add x y)
sum_of false x y = roll-Expr (Expr-F.Sub x y)

abbrev product_of : Unit {0} → Expr → Expr → Expr
product_of o x y = roll-Expr (Expr-F.Mul x y)

abbrev NoSum : Expr → Type 0
NoSum x = (z : Expr-F Expr) × ((x ≡ roll-Expr z) × (is_sum z ≡ false))

abbrev NoProduct : Expr → Type 0
NoProduct x = (z : Expr-F Expr) × ((x ≡ roll-Expr z) × (is_product z ≡ false))

read_sum_mark : (o p : Bool) (u v : List ℕ) → sum_mark o ++ u ≡ sum_mark p ++ v → (o ≡ p) × (u ≡ v)
read_sum_mark true true u v e = (refl, append_cancel_left (codes " + ") u v e)
read_sum_mark true false u v e = absurd (differ 1 _ _ refl e)
read_sum_mark false true u v e = absurd (differ 1 _ _ refl e)
read_sum_mark false false u v e = (refl, append_cancel_left (codes " - ") u v e)

read_product_mark : (o p : Unit {0}) (u v : List ℕ) → product_mark o ++ u ≡ product_mark p ++ v → (o ≡ p) × (u ≡ v)
read_product_mark o p u v e = (refl, append_cancel_left (codes " * ") u v e)

sum_ends : (o : Bool) (u : List ℕ) → EndsProduct (sum_mark o ++ u)
sum_ends true u = (refl, refl)
sum_ends false u = (refl, refl)

no_sum_mark : (r : List ℕ) (o : Bool) (u : List ℕ) → EndsSum r → r ≡ sum_mark o ++ u → ⊥
no_sum_mark r true u h e = apart_by (leads 32) r (codes " + " ++ u) (h.1) refl e
no_sum_mark r false u h e = apart_by (leads 32) r (codes " - " ++ u) (h.1) refl e

no_product_mark : (r : List ℕ) (o : Unit {0}) (u : List ℕ) → EndsProduct r → r ≡ product_mark o ++ u → ⊥
no_product_mark r o u h e = apart_by (leads_with 32 42) r (codes " * " ++ u) (h.1) refl e

-- each right side is a sum of what are none, and a product of what are none

abbrev IsAny : Expr → Type 0
IsAny x = Unit {0}

abbrev AsSum : Expr → Type 0
AsSum = IsChain sum_of NoSum IsAny

abbrev AsProduct : Expr → Type 0
AsProduct = IsChain product_of NoProduct IsAny

abbrev Both : Type 0
Both = (c : Expr) × (AsSum c × AsProduct c)

abbrev bare_both : Both → Expr
bare_both e = e.0

no_operation : (z : Expr-F Expr) → is_sum z ≡ false → is_product z ≡ false → AsSum (roll-Expr z) × AsProduct (roll-Expr z)
no_operation z s p = (chain_one sum_of NoSum IsAny (roll-Expr z) (z, (refl, s)) tt, chain_one product_of NoProduct IsAny (roll-Expr z) (z, (refl, p)) tt)

chains_step : (k : Expr-F Both) → AsSum (roll-Expr (map-Expr Both Expr bare_both k)) × AsProduct (roll-Expr (map-Expr Both Expr bare_both k))
chains_step (Expr-F.Number z) = no_operation (Expr-F.Number z) refl refl
chains_step (Expr-F.Iter k) = no_operation (Expr-F.Iter k) refl refl
chains_step (Expr-F.Read a) = no_operation (Expr-F.Read a) refl refl
chains_step (Expr-F.Neg x) = no_operation (Expr-F.Neg (x.0)) refl refl
chains_step (Expr-F.Add x y) =
    let z : Expr-F Expr = Expr-F.Add (x.0) (y.0) in
    (chain_more sum_of NoSum IsAny true (x.0) (y.0) (x.1.0) tt, chain_one product_of NoProduct IsAny (roll-Expr z) (z, (refl, refl)) tt)
chains_step (Expr-F.Sub x y) =
    let z : Expr-F Expr = Expr-F.Sub (x.0) (y.0) in
    (chain_more sum_of NoSum IsAny false (x.0) (y.0) (x.1.0) tt, chain_one product_of NoProduct IsAny (roll-Expr z) (z, (refl, refl)) tt)
chains_step (Expr-F.Mul x y) =
    let z : Expr-F Expr = Expr-F.Mul (x.0) (y.0) in
    (chain_one sum_of NoSum IsAny (roll-Expr z) (z, (refl, refl)) tt, chain_more product_of NoProduct IsAny tt (x.0) (y.0) (x.1.1) tt)

chains : (x : Expr) → AsSum x × AsProduct x
chains = ind-Expr (λ x. AsSum x × AsProduct x) (λ x k is. subst (λ z. AsSum (roll-Expr z) × AsProduct (roll-Expr z)) is (chains_step k))

module _ (arrays : List ArrayDecl) (n : ℕ) where
  abbrev text : Standing → Expr → List ℕ
  text s x = expr_text arrays n x s

  -- a layer's text, with the texts of its parts in their place
  abbrev layer : Standing → Expr-F Expr → List ℕ
  layer s z = expr_layer arrays n (map-Expr Expr Side (expr_text arrays n) z) s

  rolled : (s : Standing) (z : Expr-F Expr) (q : List ℕ) → text s (roll-Expr z) ++ q ≡ layer s z ++ q
  rolled s z q = ap (λ f. f s ++ q) (fold-roll-Expr Side (expr_layer arrays n) z)

  opened : (s : Standing) (y : Expr) (q : List ℕ) → text s y ++ q ≡ layer s (out-Expr y) ++ q
  opened s y q = ap (λ e. text s e ++ q) (sym (roll-out-Expr y)) ∙ rolled s (out-Expr y) q

  read_shape : (a : Access) (q : List ℕ) → text_shape (access_text arrays n a ++ q) ≡ 0
  read_shape a q = let x = access_is arrays n a q in ap text_shape (x.1.0) ∙ array_shape arrays a.array (91 ∷ x.0)

  -- what stands alone stands likewise

  sum_layer : (z : Expr-F Expr) (r : List ℕ) → is_sum z ≡ false → layer Sum z ++ r ≡ layer Product z ++ r
  sum_layer (Expr-F.Number z) r h = refl
  sum_layer (Expr-F.Iter k) r h = refl
  sum_layer (Expr-F.Read a) r h = refl
  sum_layer (Expr-F.Neg x) r h = refl
  sum_layer (Expr-F.Add x y) r h = absurd (both_ways true h refl)
  sum_layer (Expr-F.Sub x y) r h = absurd (both_ways true h refl)
  sum_layer (Expr-F.Mul x y) r h = refl

  product_layer : (z : Expr-F Expr) (r : List ℕ) → is_product z ≡ false → layer Product z ++ r ≡ layer Operand z ++ r
  product_layer (Expr-F.Number z) r h = refl
  product_layer (Expr-F.Iter k) r h = refl
  product_layer (Expr-F.Read a) r h = refl
  product_layer (Expr-F.Neg x) r h = refl
  product_layer (Expr-F.Add x y) r h = refl
  product_layer (Expr-F.Sub x y) r h = refl
  product_layer (Expr-F.Mul x y) r h = absurd (both_ways true h refl)

  sum_alone : (x : Expr) (r : List ℕ) → NoSum x → text Sum x ++ r ≡ text Product x ++ r
  sum_alone x r f =
      ap (λ e. text Sum e ++ r) (f.1.0) ∙ rolled Sum (f.0) r ∙ sum_layer (f.0) r (f.1.1) ∙ sym (rolled Product (f.0) r) ∙ ap (λ e. text Product e ++ r) (sym (f.1.0))

  product_alone : (x : Expr) (r : List ℕ) → NoProduct x → text Product x ++ r ≡ text Operand x ++ r
  product_alone x r f =
      ap (λ e. text Product e ++ r) (f.1.0) ∙ rolled Product (f.0) r ∙ product_layer (f.0) r (f.1.1) ∙ sym (rolled Operand (f.0) r) ∙ ap (λ e. text Operand e ++ r) (sym (f.1.0))

  sum_joined : (o : Bool) (x y : Expr) (r : List ℕ) → text Sum (sum_of o x y) ++ r ≡ text Sum x ++ (sum_mark o ++ (text Product y ++ r))
  sum_joined true x y r = rolled Sum (Expr-F.Add x y) r ∙ infix_is false (text Sum x) (codes " + ") (text Product y) r
  sum_joined false x y r = rolled Sum (Expr-F.Sub x y) r ∙ infix_is false (text Sum x) (codes " - ") (text Product y) r

  product_joined : (o : Unit {0}) (x y : Expr) (r : List ℕ) → text Product (product_of o x y) ++ r ≡ text Product x ++ (product_mark o ++ (text Operand y ++ r))
  product_joined o x y r = rolled Product (Expr-F.Mul x y) r ∙ infix_is false (text Product x) (codes " * ") (text Operand y) r

  -- the text of a right side that stands so tells it
  abbrev Clear : Standing → (List ℕ → Type 0) → Expr → Type 0
  Clear s Ends x = (y : Expr) (r q : List ℕ) → Ends r → Ends q → text s x ++ r ≡ text s y ++ q → (x ≡ y) × (r ≡ q)

  abbrev ClearSum : Expr → Type 0
  ClearSum = Clear Sum EndsSum

  abbrev ClearProduct : Expr → Type 0
  ClearProduct = Clear Product EndsProduct

  abbrev ClearOperand : Expr → Type 0
  ClearOperand = Clear Operand EndsOperand

  sum_clear : (x : Expr) → IsChain sum_of NoSum ClearProduct x → ClearSum x
  sum_clear =
      read_chain sum_of NoSum sum_mark (text Sum) (text Product) sum_joined read_sum_mark sum_alone EndsProduct EndsSum sum_product sum_ends no_sum_mark (λ y. (chains y).0)

  product_clear : (x : Expr) → IsChain product_of NoProduct ClearOperand x → ClearProduct x
  product_clear =
      read_chain product_of NoProduct product_mark (text Product) (text Operand) product_joined read_product_mark product_alone EndsOperand EndsProduct (λ r h. h.0) (λ o u. refl) no_product_mark
      (λ y. (chains y).1)

  abbrev IsClear : Expr → Type 0
  IsClear x = IsChain sum_of NoSum ClearProduct x × (IsChain product_of NoProduct ClearOperand x × ClearOperand x)

  abbrev Known : Type 0
  Known = (c : Expr) × IsClear c

  abbrev bare : Known → Expr
  bare e = e.0

  abbrev mapped : Expr-F Known → Expr-F Expr
  mapped k = map-Expr Known Expr bare k

  -- behind a minus sign

  open_layer : (z : Expr-F Expr) (q : List ℕ) → leads 40 (layer Negated z ++ q) ≡ opens z
  unfolding integer_text
  open_layer (Expr-F.Number (pos m)) q = refl
  open_layer (Expr-F.Number (negsuc m)) q = refl
  open_layer (Expr-F.Iter k) q = refl
  open_layer (Expr-F.Read a) q = name_open (access_text arrays n a ++ q) (read_shape a q)
  open_layer (Expr-F.Neg x) q = refl
  open_layer (Expr-F.Add x y) q = refl
  open_layer (Expr-F.Sub x y) q = refl
  open_layer (Expr-F.Mul x y) q = refl

  no_digit_layer : (z : Expr-F Expr) (q : List ℕ) → stops is_digit (layer Negated z ++ q) ≡ true
  unfolding integer_text
  no_digit_layer (Expr-F.Number (pos m)) q = refl
  no_digit_layer (Expr-F.Number (negsuc m)) q = refl
  no_digit_layer (Expr-F.Iter k) q = refl
  no_digit_layer (Expr-F.Read a) q = name_digit (access_text arrays n a ++ q) (read_shape a q)
  no_digit_layer (Expr-F.Neg x) q = refl
  no_digit_layer (Expr-F.Add x y) q = refl
  no_digit_layer (Expr-F.Sub x y) q = refl
  no_digit_layer (Expr-F.Mul x y) q = refl

  inner_layer : (z : Expr-F Expr) (q : List ℕ) → opens z ≡ true → layer Negated z ++ q ≡ 40 ∷ (layer Sum z ++ 41 ∷ q)
  inner_layer (Expr-F.Number (pos m)) q h = operand_is true (pos m) q ∙ ap (λ t. 40 ∷ t) (sym (operand_is false (pos m) (41 ∷ q)))
  inner_layer (Expr-F.Number (negsuc m)) q h = absurd (both_ways false refl h)
  inner_layer (Expr-F.Iter k) q h = absurd (both_ways false refl h)
  inner_layer (Expr-F.Read a) q h = absurd (both_ways false refl h)
  inner_layer (Expr-F.Neg x) q h = absurd (both_ways false refl h)
  inner_layer (Expr-F.Add x y) q h = infix_is true (text Sum x) (codes " + ") (text Product y) q ∙ ap (λ t. 40 ∷ t) (sym (infix_is false (text Sum x) (codes " + ") (text Product y) (41 ∷ q)))
  inner_layer (Expr-F.Sub x y) q h = infix_is true (text Sum x) (codes " - ") (text Product y) q ∙ ap (λ t. 40 ∷ t) (sym (infix_is false (text Sum x) (codes " - ") (text Product y) (41 ∷ q)))
  inner_layer (Expr-F.Mul x y) q h = infix_is true (text Product x) (codes " * ") (text Operand y) q ∙ ap (λ t. 40 ∷ t) (sym (infix_is false (text Product x) (codes " * ") (text Operand y) (41 ∷ q)))

  plain_layer : (z : Expr-F Expr) (q : List ℕ) → opens z ≡ false → layer Negated z ++ q ≡ layer Operand z ++ q
  plain_layer (Expr-F.Number (pos m)) q h = absurd (both_ways true h refl)
  plain_layer (Expr-F.Number (negsuc m)) q h = refl
  plain_layer (Expr-F.Iter k) q h = refl
  plain_layer (Expr-F.Read a) q h = refl
  plain_layer (Expr-F.Neg x) q h = refl
  plain_layer (Expr-F.Add x y) q h = absurd (both_ways true h refl)
  plain_layer (Expr-F.Sub x y) q h = absurd (both_ways true h refl)
  plain_layer (Expr-F.Mul x y) q h = absurd (both_ways true h refl)

  read_inner : (x y : Expr) (r q : List ℕ) → ClearSum x → text Sum x ++ 41 ∷ r ≡ text Sum y ++ 41 ∷ q → (x ≡ y) × (r ≡ q)
  read_inner x y r q c e = let s = c y (41 ∷ r) (41 ∷ q) (refl, refl) (refl, refl) e in (s.0, behind_one _ _ _ _ (s.1))

  read_negated : (x y : Expr) (r q : List ℕ) → IsClear x → EndsOperand r → EndsOperand q → text Negated x ++ r ≡ text Negated y ++ q → (x ≡ y) × (r ≡ q)
  read_negated x y r q c hr hq e = by (opens (out-Expr x)) refl
    where
      layers : layer Negated (out-Expr x) ++ r ≡ layer Negated (out-Expr y) ++ q
      layers = sym (opened Negated x r) ∙ e ∙ opened Negated y q

      same : opens (out-Expr x) ≡ opens (out-Expr y)
      same = sym (open_layer (out-Expr x) r) ∙ ap (leads 40) layers ∙ open_layer (out-Expr y) q

      by : (b : Bool) → opens (out-Expr x) ≡ b → (x ≡ y) × (r ≡ q)
      by true h =
          let inner = behind_one _ _ _ _ (sym (inner_layer (out-Expr x) r h) ∙ layers ∙ inner_layer (out-Expr y) q (sym same ∙ h)) in
          read_inner x y r q (sum_clear x (c.0)) (opened Sum x (41 ∷ r) ∙ inner ∙ sym (opened Sum y (41 ∷ q)))
      by false h =
          let plain = sym (plain_layer (out-Expr x) r h) ∙ layers ∙ plain_layer (out-Expr y) q (sym same ∙ h) in
          c.1.1 y r q hr hq (opened Operand x r ∙ plain ∙ sym (opened Operand y q))

  -- where neither a sum nor a product may stand

  number_shape : (z : ℤ) (q : List ℕ) → text_shape (integer_text z ++ q) ≡ 1
  unfolding integer_text
  number_shape (pos m) q = digit_shape (number_text m ++ q) (digit_first m q)
  number_shape (negsuc m) q = below_shape (number_text (suc m) ++ q) (digit_first (suc m) q)

  shape_is : (z : Expr-F Expr) (q : List ℕ) → text_shape (layer Operand z ++ q) ≡ shape z
  shape_is (Expr-F.Number z) q = ap text_shape (operand_is false z q) ∙ number_shape z q
  shape_is (Expr-F.Iter k) q = refl
  shape_is (Expr-F.Read a) q = read_shape a q
  shape_is (Expr-F.Neg x) q = negation_shape (text Negated x ++ q) (ap (stops is_digit) (opened Negated x q) ∙ no_digit_layer (out-Expr x) q)
  shape_is (Expr-F.Add x y) q = refl
  shape_is (Expr-F.Sub x y) q = refl
  shape_is (Expr-F.Mul x y) q = refl

  -- an iterator isn't an access
  iter_apart : (k : ℕ) (a : Access) (r q : List ℕ) → stops is_text r ≡ true → variable_text original (suc k) ++ r ≡ access_text arrays n a ++ q → ⊥
  iter_apart k a r q h e =
      let x = access_is arrays n a q in
      let to : variable_text original (suc k) ++ r ≡ array_text arrays a.array ++ 91 ∷ x.0 = e ∙ x.1.0 in
      elim (own_cases arrays a.array) as (λ _. ⊥) [
        | inl o ↦
            let s = same_run is_word (variable_text original (suc k)) (nth_name arrays a.array) r (91 ∷ x.0) (digit_words (number_text (suc k)) (all_digits (suc k))) (plain_words (nth_name arrays a.array) (own_plain arrays a.array (o.0)))
            (text_words r h) refl (to ∙ named (91 ∷ x.0) _ _ (o.1)) in
            starts_apart is_text r (91 ∷ x.0) h refl (s.1)
        | inr o ↦ elim (other_cases (length arrays) a.array) as (λ _. ⊥) [
          | inl y ↦ differ 0 _ _ refl (to ∙ named (91 ∷ x.0) _ _ (o ∙ y.1))
          | inr y ↦ differ 0 _ _ refl (to ∙ named (91 ∷ x.0) _ _ (o ∙ y.1))
        ]
      ]

  match_layer : (k : Expr-F Known) (z : Expr-F Expr) (r q : List ℕ) → EndsOperand r → EndsOperand q → shape (mapped k) ≡ shape z → shape (mapped k) < 3
      → layer Operand (mapped k) ++ r ≡ layer Operand z ++ q → (mapped k ≡ z) × (r ≡ q)
  match_layer (Expr-F.Number y) (Expr-F.Number z) r q hr hq h l e =
      let s = read_integer y z r q (word_digits r (text_words r hr)) (word_digits q (text_words q hq)) (sym (operand_is false y r) ∙ e ∙ operand_is false z q) in
      (ap (λ u. Expr-F.Number u) (s.0), s.1)
  match_layer (Expr-F.Iter j) (Expr-F.Iter k) r q hr hq h l e =
      let s = read_number (suc j) (suc k) r q (word_digits r (text_words r hr)) (word_digits q (text_words q hq)) (behind_one _ _ _ _ e) in
      let same : j ≡ k = omega (arith, s.0) in
      (ap (λ u. Expr-F.Iter u) same, s.1)
  match_layer (Expr-F.Iter j) (Expr-F.Read a) r q hr hq h l e = absurd (iter_apart j a r q hr e)
  match_layer (Expr-F.Read a) (Expr-F.Iter k) r q hr hq h l e = absurd (iter_apart k a q r hq (sym e))
  match_layer (Expr-F.Read a) (Expr-F.Read b) r q hr hq h l e =
      let s = read_access arrays n a b r q (text_open r hr) (text_open q hq) e in
      (ap (λ u. Expr-F.Read u) (s.0), s.1)
  match_layer (Expr-F.Neg a) (Expr-F.Neg x) r q hr hq h l e =
      let s = read_negated (bare a) x r q (a.1) hr hq (behind_one _ _ _ _ e) in
      (ap (λ u. Expr-F.Neg u) (s.0), s.1)
  match_layer _ _ r q hr hq h l e = absurd (omega (arith, h, l))

  small_operand : (k : Expr-F Known) → shape (mapped k) < 3 → ClearOperand (roll-Expr (mapped k))
  small_operand k l y r q hr hq e =
      let layers = sym (rolled Operand (mapped k) r) ∙ e ∙ opened Operand y q in
      let s = match_layer k (out-Expr y) r q hr hq (sym (shape_is (mapped k) r) ∙ ap text_shape layers ∙ shape_is (out-Expr y) q) l layers in
      (ap roll-Expr (s.0) ∙ roll-out-Expr y, s.1)

  enclosed_layer : (z : Expr-F Expr) (q : List ℕ) → shape z ≡ 3 → layer Operand z ++ q ≡ 40 ∷ (layer Sum z ++ 41 ∷ q)
  enclosed_layer (Expr-F.Add x y) q h = inner_layer (Expr-F.Add x y) q refl
  enclosed_layer (Expr-F.Sub x y) q h = inner_layer (Expr-F.Sub x y) q refl
  enclosed_layer (Expr-F.Mul x y) q h = inner_layer (Expr-F.Mul x y) q refl
  enclosed_layer _ q h = absurd (omega (arith, h))

  large_operand : (z : Expr-F Expr) → shape z ≡ 3 → ClearSum (roll-Expr z) → ClearOperand (roll-Expr z)
  large_operand z h c y r q hr hq e =
      let layers = sym (rolled Operand z r) ∙ e ∙ opened Operand y q in
      let same : shape z ≡ shape (out-Expr y) = sym (shape_is z r) ∙ ap text_shape layers ∙ shape_is (out-Expr y) q in
      let inner = behind_one _ _ _ _ (sym (enclosed_layer z r h) ∙ layers ∙ enclosed_layer (out-Expr y) q (sym same ∙ h)) in
      read_inner (roll-Expr z) y r q c (rolled Sum z (41 ∷ r) ∙ inner ∙ sym (opened Sum y (41 ∷ q)))

  small_clear : (k : Expr-F Known) → shape (mapped k) < 3 → is_sum (mapped k) ≡ false → is_product (mapped k) ≡ false → IsClear (roll-Expr (mapped k))
  small_clear k l s p =
      let x = roll-Expr (mapped k) in
      let operand = small_operand k l in
      let product = chain_one product_of NoProduct ClearOperand x (mapped k, (refl, p)) operand in
      (chain_one sum_of NoSum ClearProduct x (mapped k, (refl, s)) (product_clear x product), (product, operand))

  sum_is_clear : (z : Expr-F Expr) → shape z ≡ 3 → is_product z ≡ false → IsChain sum_of NoSum ClearProduct (roll-Expr z) → IsClear (roll-Expr z)
  sum_is_clear z h p sum =
      let operand = large_operand z h (sum_clear (roll-Expr z) sum) in
      (sum, (chain_one product_of NoProduct ClearOperand (roll-Expr z) (z, (refl, p)) operand, operand))

  clear_step : (k : Expr-F Known) → IsClear (roll-Expr (mapped k))
  clear_step (Expr-F.Number z) = small_clear (Expr-F.Number z) (omega arith) refl refl
  clear_step (Expr-F.Iter k) = small_clear (Expr-F.Iter k) (omega arith) refl refl
  clear_step (Expr-F.Read a) = small_clear (Expr-F.Read a) (omega arith) refl refl
  clear_step (Expr-F.Neg x) = small_clear (Expr-F.Neg x) (omega arith) refl refl
  clear_step (Expr-F.Add x y) =
      sum_is_clear (Expr-F.Add (bare x) (bare y)) refl refl (chain_more sum_of NoSum ClearProduct true (bare x) (bare y) (x.1.0) (product_clear (bare y) (y.1.1.0)))
  clear_step (Expr-F.Sub x y) =
      sum_is_clear (Expr-F.Sub (bare x) (bare y)) refl refl (chain_more sum_of NoSum ClearProduct false (bare x) (bare y) (x.1.0) (product_clear (bare y) (y.1.1.0)))
  clear_step (Expr-F.Mul x y) =
      let z : Expr-F Expr = Expr-F.Mul (bare x) (bare y) in
      let product = chain_more product_of NoProduct ClearOperand tt (bare x) (bare y) (x.1.1.0) (y.1.1.1) in
      let sum = chain_one sum_of NoSum ClearProduct (roll-Expr z) (z, (refl, refl)) (product_clear (roll-Expr z) product) in
      (sum, (product, large_operand z refl (sum_clear (roll-Expr z) sum)))

  clear : (x : Expr) → IsClear x
  clear = ind-Expr IsClear (λ x k is. subst (λ z. IsClear (roll-Expr z)) is (clear_step k))

  pub read_expr : (x : Expr) → ClearSum x
  read_expr x = sum_clear x ((clear x).0)

  same_body : (a b : Body) → a.write ≡ b.write → a.right ≡ b.right → a ≡ b
  same_body a b w v =
      let with_write : Access → Body = λ x. record { write = x; right = a.right } in
      let with_right : Expr → Body = λ x. record { write = b.write; right = x } in
      ap with_write w ∙ ap with_right v

  body_is : (b : Body) (r : List ℕ) → body_text arrays n b ++ r ≡ access_text arrays n b.write ++ (codes " = " ++ (text Sum b.right ++ r))
  unfolding body_text
  body_is b r = append_assoc (access_text arrays n b.write ++ codes " = ") (text Sum b.right) r ∙ append_assoc (access_text arrays n b.write) (codes " = ") (text Sum b.right ++ r)

  pub read_body : (a b : Body) (r q : List ℕ) → EndsSum r → EndsSum q → body_text arrays n a ++ r ≡ body_text arrays n b ++ q → (a ≡ b) × (r ≡ q)
  read_body a b r q hr hq e =
      let s = read_access arrays n a.write b.write (codes " = " ++ (text Sum a.right ++ r)) (codes " = " ++ (text Sum b.right ++ q)) refl refl (sym (body_is a r) ∙ e ∙ body_is b q) in
      let t = read_expr a.right b.right r q hr hq (append_cancel_left (codes " = ") _ _ (s.1)) in
      (same_body a b (s.0) (t.0), t.1)
