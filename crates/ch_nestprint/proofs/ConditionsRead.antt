-- A printed condition is read as it was.
use Rattle.std.proofs.Common.{◌≡◌, ℕ, ◌+◌, ◌<◌, ◌≤◌, ℤ, Bool, true, false, ◌&&◌, nat_eq, List, [], ◌∷◌, ◌++◌, length, drop, Some, None, Ok, refl, sym, ap, ◌∙◌, append_assoc, if◌then◌else◌, arith}
use Rattle.std.specs.List.{list_all}
use Rattle.std.proofs.lemmas.Bool.{and_parts, eqb-true}
use Rattle.ch_affine.specs.Form.{Form}
use Rattle.ch_lex.specs.declared.error.Code2.TheVariants.{P1}
use Rattle.ch_lex.specs.declared.token.Sign.TheVariants as signs
use Rattle.ch_lex.specs.declared.token.Token.{Token}
use Rattle.ch_nest.specs.Limits.{most_affine, most_nesting}
use Rattle.ch_nest.specs.Shape.{coefs_fit, constant_fits, form_fits, is_at_most, row_fits}
use Rattle.ch_nestparse.specs.declared.ahead.Ending.{Ending}
use Rattle.ch_nestparse.specs.declared.ahead.Ending.TheVariants as endings
use Rattle.ch_nestparse.specs.declared.ahead.Look.{Look}
use Rattle.ch_nestparse.specs.declared.ahead.Look.TheVariants as looks
use Rattle.ch_nestparse.specs.declared.conditions.Relation.{Relation}
use Rattle.ch_nestparse.specs.declared.conditions.Relation.TheVariants as relations
use Rattle.ch_nestparse.specs.declared.scope.Named.TheVariants.{Iterator}
use Rattle.ch_nestparse.specs.Conditions.{condition_at, relation_if, row_of}
use Rattle.ch_nestparse.specs.Expressions.{term_sign}
use Rattle.ch_nestparse.specs.Forms.{form_at}
use Rattle.ch_nestparse.specs.Read.{◌>>=◌, Names, find_name, place, seen, sign_at}
use Rattle.ch_nestprint.specs.Conditions.{comparison, condition_symbols, is_low, sides_symbols}
use Rattle.ch_nestprint.specs.Ends.{form_symbols}
use Rattle.ch_nestprint.specs.declared.symbol.Symbol.{Symbol}
use Rattle.ch_nestprint.specs.declared.symbol.Symbol.TheVariants.{Mark}
use Rattle.ch_nestprint.specs.Names.{iterator_name}
use Rattle.ch_nestprint.proofs.FormsRead.{Calm, form_given}
use Rattle.ch_nestprint.proofs.Rows.{is_difference, left_fits, left_side, raised_fits_row, raised_row, right_fits, right_side, row_back}
use Rattle.ch_nestprint.proofs.Seeing.{Given, Passed, Sees, Valued, behind_front, front, given_bind, given_ok, seen_front, sign_given}

abbrev side_symbols : ℕ → Form → List Symbol
side_symbols letters f = form_symbols letters f.coefs f.constant

abbrev compared : Bool → Relation
compared low = if low then relations.More else relations.AtLeast

calm_compared : (low : Bool) (rest : List Symbol) → Calm endings.Related (Mark (comparison low) ∷ rest)
calm_compared true rest = record { stars = refl; brackets = refl; follows = refl }
calm_compared false rest = record { stars = refl; brackets = refl; follows = refl }

no_term : (low : Bool) → term_sign (looks.Sign (comparison low)) ≡ None
no_term true = refl
no_term false = refl

relation_read : (low : Bool) (at : ℕ) (ts : List Token) → relation_if (looks.Sign (comparison low)) at ts ≡ Ok (compared low, ts)
relation_read true at ts = refl
relation_read false at ts = refl

module _ (bytes : List ℕ) (names : Names) (letters levels : ℕ) (iterators : (k : ℕ) → k < levels → find_name (iterator_name letters k) names ≡ Some (Iterator k)) (few : levels ≤ 6) where
  side_given : (ending : Ending) (f : Form) (ts : List Token) (rest : List Symbol) → form_fits levels f ≡ true → Calm ending rest → term_sign (front rest) ≡ None
      → Sees bytes ts (side_symbols letters f ++ rest) → Given (Valued bytes f rest) (form_at bytes names levels most_nesting ending ts)
  side_given ending f ts rest h calm ends sees =
      let parts = and_parts (coefs_fit levels f) (constant_fits f) h in
      let coefs = and_parts (nat_eq (length f.coefs) levels) (list_all (is_at_most most_affine) f.coefs) parts.0 in
      form_given bytes names levels letters most_nesting ending iterators f ts rest (sym (eqb-true (length f.coefs) levels coefs.0)) few (coefs.1, parts.1) calm ends sees

  both_given : (low : Bool) (row : Form) (ts : List Token) (rest : List Symbol) → is_difference levels row ≡ true
      → Sees bytes ts ((Mark signs.LeftParen ∷ sides_symbols letters low row.coefs row.constant) ++ (Mark signs.RightParen ∷ rest))
      → Given (Valued bytes (row_of (compared low) (left_side row) (right_side row)) rest) (condition_at bytes names levels ts)
  unfolding condition_at
  both_given low row ts rest fits sees =
      let goal = Valued bytes (row_of (compared low) (left_side row) (right_side row)) rest in
      let closes : List Symbol = Mark signs.RightParen ∷ rest in
      let third : List Symbol = side_symbols letters (right_side row) ++ closes in
      let second : List Symbol = Mark (comparison low) ∷ third in
      let first : List Symbol = side_symbols letters (left_side row) ++ second in
      let flat : Sees bytes ts (Mark signs.LeftParen ∷ first) =
      sees ∙ ap (λ (xs : List Symbol). Mark signs.LeftParen ∷ xs) (append_assoc (side_symbols letters (left_side row)) (Mark (comparison low) ∷ side_symbols letters (right_side row)) closes) in
      let calm_close : Calm endings.Paren closes = record { stars = refl; brackets = refl; follows = refl } in
      given_bind (Passed bytes first) goal (sign_at bytes P1 signs.LeftParen ts) _ (sign_given bytes P1 signs.LeftParen ts first flat) (λ paren a.
      given_bind (Valued bytes (left_side row) second) goal (form_at bytes names levels most_nesting endings.Related paren) _
      (side_given endings.Related (left_side row) paren second (left_fits levels row fits) (calm_compared low third) (no_term low) a) (λ left b.
      let read : Given (Valued bytes (compared low) third) (relation_if (seen bytes left.1) (place bytes left.1) (drop 1 left.1)) = (
        (compared low, drop 1 left.1),
        ap (λ (l : Look). relation_if l (place bytes left.1) (drop 1 left.1)) (seen_front bytes left.1 second b.1) ∙ relation_read low (place bytes left.1) (drop 1 left.1),
        (refl, behind_front bytes left.1 (Mark (comparison low)) third b.1),
      ) in
      given_bind (Valued bytes (compared low) third) goal (relation_if (seen bytes left.1) (place bytes left.1) (drop 1 left.1)) _ read (λ relation c.
      given_bind (Valued bytes (right_side row) closes) goal (form_at bytes names levels most_nesting endings.Paren relation.1) _
      (side_given endings.Paren (right_side row) relation.1 closes (right_fits levels row fits) calm_close refl c.1) (λ right d.
      given_bind (Passed bytes rest) goal (sign_at bytes P1 signs.RightParen right.1) _ (sign_given bytes P1 signs.RightParen right.1 rest d.1) (λ us e.
      given_ok goal (row_of relation.0 left.0 right.0, us)
      (ap (λ (r : Relation). row_of r left.0 right.0) c.0 ∙ ap (λ (f : Form). row_of (compared low) f right.0) b.0 ∙ ap (row_of (compared low) (left_side row)) d.0, e))))))

  pub condition_given : (row : Form) (ts : List Token) (rest : List Symbol) → row_fits levels row ≡ true → Sees bytes ts (condition_symbols letters row ++ rest)
      → Given (Valued bytes row rest) (condition_at bytes names levels ts)
  condition_given row ts rest fits sees =
      let low = is_low row in
      let raised = raised_row low row in
      let flat : Sees bytes ts ((Mark signs.LeftParen ∷ sides_symbols letters low raised.coefs raised.constant) ++ (Mark signs.RightParen ∷ rest)) =
      sees ∙ append_assoc (Mark signs.LeftParen ∷ sides_symbols letters low raised.coefs raised.constant) (Mark signs.RightParen ∷ []) rest in
      let g = both_given low raised ts rest (raised_fits_row levels row fits) flat in
      (g.0, g.1, (g.2.0 ∙ row_back low row, g.2.1))
