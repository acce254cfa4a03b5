-- A printed form is read as the form.
use Rattle.std.proofs.Common.{◌≡◌, ℕ, zero, suc, ◌+◌, ◌*◌, ◌<◌, ◌≤◌, ℤ, pos, negsuc, ◌+ℤ◌, ◌*ℤ◌, unsigned_abs, Bool, true, false, nat_eq, List, [], ◌∷◌, ◌++◌, length, drop, Option, Some, None, Result, Ok, refl, sym, ap, ◌∙◌, append_assoc, length-append, arith}
use Rattle.std.specs.List.{list_all}
use Rattle.std.proofs.lemmas.Bool.{and_parts, eqb-true}
use Rattle.std.proofs.lemmas.Int.{ints}
use Rattle.std.proofs.lemmas.List.{append-nil}
use Rattle.std.proofs.lemmas.List.Folds.{list_all-append}
use Rattle.ch_affine.specs.Combined.{combined}
use Rattle.ch_affine.specs.Form.{Form}
use Rattle.ch_lex.specs.declared.error.ParseError.{ParseError}
use Rattle.ch_lex.specs.declared.token.Sign.{Sign}
use Rattle.ch_lex.specs.declared.token.Sign.TheVariants as signs
use Rattle.ch_lex.specs.declared.token.Token.{Token}
use Rattle.ch_nest.specs.Limits.{most_affine}
use Rattle.ch_nest.specs.Shape.{is_at_most}
use Rattle.ch_nestparse.specs.declared.ahead.Ending.{Ending}
use Rattle.ch_nestparse.specs.declared.ahead.Look.{Look}
use Rattle.ch_nestparse.specs.declared.ahead.Look.TheVariants as looks
use Rattle.ch_nestparse.specs.declared.part.Part.{Part}
use Rattle.ch_nestparse.specs.declared.scope.Named.{Named}
use Rattle.ch_nestparse.specs.declared.scope.Named.TheVariants.{Iterator}
use Rattle.ch_nestparse.specs.Expressions.{Counted, Reader, Sort, begins_operand, expression, factor_sign, fits_behind, more_terms, product, sum, term_sign, unary}
use Rattle.ch_nestparse.specs.Forms.{constant_form, form_at, iterator_form, joined_parts, named_part, narrow, number_part_if, operand_part, parts, plain_part, times}
use Rattle.ch_nestparse.specs.Read.{◌>>=◌, Names, find_name, is_sign, next_is, place, seen, text_at}
use Rattle.ch_nestprint.specs.declared.symbol.Symbol.{Symbol}
use Rattle.ch_nestprint.specs.declared.symbol.Symbol.TheVariants.{Name, Number, Mark}
use Rattle.ch_nestprint.specs.Ends.{coef_if, constant_if, form_symbols, is_below, is_none, lead, terms_symbols, times_if}
use Rattle.ch_nestprint.specs.Names.{iterator_name}
use Rattle.ch_nestprint.proofs.Amounts.{IsSmall, all_kept, amount, amount_is, factor_of, iterator_unit, kept, narrow_is, new, none_is, not_wide, nothing, nothing_small, size_small, unit, unit_added, unit_times}
use Rattle.ch_nestprint.proofs.Reading.{At, Reached, factor_on, operand_given, product_begun, product_ends, sum_begun, sum_ends, term_on}
use Rattle.ch_nestprint.proofs.Seeing.{Given, Sees, Valued, behind_front, front, given_bind, given_ok, seen_front, text_front}

-- no product, and no subscript, goes on here, and a part of a sum may end
pub record Calm (ending : Ending) (rest : List Symbol) : Type 0 where
  pub stars : factor_sign (front rest) ≡ None
  pub brackets : is_sign signs.LeftBracket (front rest) ≡ false
  pub follows : fits_behind ending (front rest) ≡ true

abbrev pub mark_of : Bool → Sign
mark_of false = signs.Plus
mark_of true = signs.Minus

mark_adds : (below : Bool) → term_sign (looks.Sign (mark_of below)) ≡ Some (mark_of below)
mark_adds false = refl
mark_adds true = refl

-- a form that is made of two
abbrev pub IsForm : Form → Part → Type 0
IsForm f p = p.form ≡ f

abbrev IsConstant : ℕ → ℤ → Part → Type 0
IsConstant levels z p = (p.form ≡ constant_form levels z) × (p.iterates ≡ false)

abbrev pub form : List ℤ → ℤ → Form
form coefs z = record { coefs = coefs; constant = z }

zero_times : (size : ℕ) → pos 0 *ℤ pos size +ℤ pos size *ℤ pos 0 ≡ pos 0
zero_times size = omega (arith, ints)

unit_small : (size k m : ℕ) → is_at_most most_affine (pos size) ≡ true → list_all (is_at_most most_affine) (unit (pos size) k m) ≡ true
unit_small size k m h = rw (list_all-append, nothing_small k, h, nothing_small m) refl

narrow_given : (at : ℕ) (f g : Form) (iterates : Bool) → f ≡ g → IsSmall g → Given (IsForm g) (narrow at f iterates)
narrow_given at f g iterates e h =
    (record { form = g; iterates = iterates }, ap (λ (x : Form). narrow at x iterates) e ∙ narrow_is at g iterates h, refl)

joined_given : (below : Bool) (at : ℕ) (a b : Part) (x y g : Form) → a.form ≡ x → b.form ≡ y → combined (pos 1) x (factor_of below) y ≡ g → IsSmall g
    → Given (IsForm g) (joined_parts (mark_of below) at a b)
joined_given false at a b x y g e f h small = narrow_given at (combined (pos 1) a.form (pos 1) b.form) g _ (rw (e, f) h) small
joined_given true at a b x y g e f h small = narrow_given at (combined (pos 1) a.form (negsuc 0) b.form) g _ (rw (e, f) h) small

times_given : (at : ℕ) (a b : Part) (x y g : Form) → a.form ≡ x → a.iterates ≡ false → b.form ≡ y → combined (pos 0) x x.constant y ≡ g → IsSmall g
    → Given (IsForm g) (joined_parts signs.Star at a b)
times_given at a b x y g e i f h small =
    let c = narrow_given at (combined (pos 0) a.form a.form.constant b.form) g b.iterates (rw (e, f) h) small in
    (c.0, ap (λ (t : Bool). times t at a b) i ∙ c.1, c.2)

module _ (bytes : List ℕ) (names : Names) (levels letters left : ℕ) (ending : Ending) (iterators : (k : ℕ) → k < levels → find_name (iterator_name letters k) names ≡ Some (Iterator k)) where
  abbrev sort : Sort Part
  sort = parts bytes names levels

  abbrev inner : Reader Part
  inner = unary bytes sort left

  abbrev AtPart : (Part → Type 0) → ℕ → List Symbol → Part × ℕ × List Token → Type 0
  AtPart = At bytes sort

  abbrev Summed : Form → ℕ → List Symbol → Counted Part → Type 0
  Summed f m rest r = Reached bytes sort (IsForm f) m m rest (more_terms bytes sort inner ending None) r

  number_operand : (star : Option ℕ) (n : ℕ) (ts : List Token) (rest : List Symbol) (size : ℕ) → n < 256 → is_at_most most_affine (pos size) ≡ true → Sees bytes ts (Number size ∷ rest)
      → Given (AtPart (IsConstant levels (pos size)) (n + 1) rest) (inner star n ts)
  unfolding parts
  number_operand star n ts rest size l h s =
      let e : seen bytes ts ≡ looks.Number size = seen_front bytes ts (Number size ∷ rest) s in
      let p : Part = record { form = constant_form levels (pos size); iterates = false } in
      let at = place bytes ts in
      let made : operand_part levels star at (next_is bytes signs.LeftBracket (drop 1 ts)) (seen bytes ts) (find_name (text_at bytes ts) names) ≡ Ok p =
      ap (λ (look : Look). operand_part levels star at (next_is bytes signs.LeftBracket (drop 1 ts)) look (find_name (text_at bytes ts) names)) e
      ∙ ap (λ (b : Bool). number_part_if b levels at (pos size)) (not_wide (pos size) h) in
      operand_given bytes sort (IsConstant levels (pos size)) left star n ts rest (ap begins_operand e) l
      ((p, drop 1 ts), ap (λ (r : Result Part ParseError). r >>= λ q. Ok (q, drop 1 ts)) made, ((refl, refl), behind_front bytes ts (Number size) rest s))

  iterator_operand : (n : ℕ) (ts : List Token) (rest : List Symbol) (k : ℕ) → n < 256 → k < levels → is_sign signs.LeftBracket (front rest) ≡ false → Sees bytes ts (Name (iterator_name letters k) ∷ rest)
      → Given (AtPart (IsForm (iterator_form levels k)) (n + 1) rest) (inner None n ts)
  unfolding parts
  iterator_operand n ts rest k l m b s =
      let e : seen bytes ts ≡ looks.Name = seen_front bytes ts (Name (iterator_name letters k) ∷ rest) s in
      let p : Part = record { form = iterator_form levels k; iterates = true } in
      let at = place bytes ts in
      let behind = behind_front bytes ts (Name (iterator_name letters k)) rest s in
      let bracket : next_is bytes signs.LeftBracket (drop 1 ts) ≡ false = ap (is_sign signs.LeftBracket) (seen_front bytes (drop 1 ts) rest behind) ∙ b in
      let found : find_name (text_at bytes ts) names ≡ Some (Iterator k) = ap (λ (t : List ℕ). find_name t names) (text_front bytes ts (iterator_name letters k) rest s) ∙ iterators k m in
      let made : operand_part levels None at (next_is bytes signs.LeftBracket (drop 1 ts)) (seen bytes ts) (find_name (text_at bytes ts) names) ≡ Ok p =
      ap (λ (look : Look). operand_part levels None at (next_is bytes signs.LeftBracket (drop 1 ts)) look (find_name (text_at bytes ts) names)) e
      ∙ ap (λ (b : Bool). named_part levels None at b (find_name (text_at bytes ts) names)) bracket
      ∙ ap (λ (o : Option Named). plain_part levels None at o) found in
      operand_given bytes sort (IsForm (iterator_form levels k)) left None n ts rest (ap begins_operand e) l
      ((p, drop 1 ts), ap (λ (r : Result Part ParseError). r >>= λ q. Ok (q, drop 1 ts)) made, (refl, behind))

  -- how many operands a term has
  abbrev extra : Bool → ℕ
  extra true = 1
  extra false = 2

  some_extra : (alone : Bool) (m : ℕ) → m < m + extra alone
  some_extra true m = omega arith
  some_extra false m = omega arith

  least_extra : (alone : Bool) → 0 + extra alone ≤ 3
  least_extra true = omega arith
  least_extra false = omega arith

  more_extra : (alone : Bool) → 1 + extra alone ≤ 3
  more_extra true = omega arith
  more_extra false = omega arith

  few_extra : (alone : Bool) (m n : ℕ) → m + 2 * n + 5 < 256 → m + extra alone + 2 * n + 3 < 256
  few_extra true m n h = omega arith
  few_extra false m n h = omega arith

  number_product : (n : ℕ) (ts : List Token) (rest : List Symbol) (size : ℕ) → n < 256 → is_at_most most_affine (pos size) ≡ true → Calm ending rest → Sees bytes ts (Number size ∷ rest)
      → Given (AtPart (IsConstant levels (pos size)) (n + 1) rest) (product bytes sort inner None n ts)
  number_product n ts rest size l h calm s =
      product_ends bytes sort inner None (IsConstant levels (pos size)) (n + 1) 1 rest (product bytes sort inner None n ts) calm.stars
      (product_begun bytes sort inner None (IsConstant levels (pos size)) (n + 1) 1 n ts rest (number_operand None n ts rest size l h s))

  times_product : (alone : Bool) (n : ℕ) (ts : List Token) (rest : List Symbol) (size k m : ℕ) → nat_eq size 1 ≡ alone → n + 2 < 256 → levels ≡ k + suc m → is_at_most most_affine (pos size) ≡ true
      → Calm ending rest → Sees bytes ts (times_if alone size (iterator_name letters k) ++ rest)
      → Given (AtPart (IsForm (form (unit (pos size) k m) (pos 0))) (n + extra alone) rest) (product bytes sort inner None n ts)
  unfolding parts
  times_product true n ts rest size k m a l e h calm s =
      let one : size ≡ 1 = eqb-true size 1 a in
      let f : iterator_form levels k ≡ form (unit (pos size) k m) (pos 0) = rw one (ap (λ (xs : List ℤ). form xs (pos 0)) (iterator_unit levels k m e)) in
      let g = iterator_operand n ts rest k (omega arith) (omega arith) calm.brackets s in
      let q : Part → Type 0 = IsForm (form (unit (pos size) k m) (pos 0)) in
      product_ends bytes sort inner None q (n + 1) 1 rest (product bytes sort inner None n ts) calm.stars
      (product_begun bytes sort inner None q (n + 1) 1 n ts rest (g.0, g.1, (g.2.0 ∙ f, g.2.1, g.2.2)))
  times_product false n ts rest size k m a l e h calm s =
      let behind : List Symbol = Name (iterator_name letters k) ∷ rest in
      let q : Part → Type 0 = IsForm (form (unit (pos size) k m) (pos 0)) in
      let first = product_begun bytes sort inner None (IsConstant levels (pos size)) (n + 1) 1 n ts (Mark signs.Star ∷ behind) (number_operand None n ts (Mark signs.Star ∷ behind) size (omega arith) h s) in
      let twice : n + 1 + 1 ≡ n + 2 = omega arith in
      let small : IsSmall (form (unit (pos size) k m) (pos 0)) = (unit_small size k m h, refl) in
      let made : combined (pos 0) (constant_form levels (pos size)) (pos size) (form (unit (pos 1) k m) (pos 0)) ≡ form (unit (pos size) k m) (pos 0) =
      rw (unit_times size levels k m e, zero_times size) refl in
      let lone : iterator_form levels k ≡ form (unit (pos 1) k m) (pos 0) = ap (λ (xs : List ℤ). form xs (pos 0)) (iterator_unit levels k m e) in
      product_ends bytes sort inner None q (n + 2) 2 rest (product bytes sort inner None n ts) calm.stars
      (rw (← twice) (factor_on bytes sort inner None (IsConstant levels (pos size)) (IsForm (iterator_form levels k)) q (n + 1) (n + 1 + 1) 1 2 behind rest (product bytes sort inner None n ts) (omega arith) (omega arith) first
      (λ p is here us sees. rw is.1 (iterator_operand (n + 1) us rest k (omega arith) (omega arith) calm.brackets sees))
      (λ here x y is f. times_given here x y (constant_form levels (pos size)) (form (unit (pos 1) k m) (pos 0)) (form (unit (pos size) k m) (pos 0)) is.0 is.1 (f ∙ lone) made small)))

  -- one part more of a form

  amount_small : (below : Bool) (size : ℕ) → is_at_most most_affine (pos size) ≡ true → is_at_most most_affine (amount below size) ≡ true
  amount_small false size h = h
  amount_small true zero h = h
  amount_small true (suc size) h = h

  constant_step : (below : Bool) (xs : List ℤ) (size m : ℕ) (more : List Symbol) (r : Counted Part) → levels ≡ length xs → list_all (is_at_most most_affine) xs ≡ true
      → is_at_most most_affine (pos size) ≡ true → m + 1 < 256 → Calm ending more → Summed (form xs (pos 0)) m (Mark (mark_of below) ∷ Number size ∷ more) r
      → Summed (form xs (amount below size)) (m + 1) more r
  unfolding parts
  constant_step below xs size m more r e small h l calm before =
      let made : combined (pos 1) (form xs (pos 0)) (factor_of below) (constant_form levels (pos size)) ≡ form xs (amount below size) = rw (all_kept below xs levels e, new below size) refl in
      term_on bytes sort inner None ending (IsForm (form xs (pos 0))) (IsConstant levels (pos size)) (IsForm (form xs (amount below size))) m (m + 1) m (m + 1) (mark_of below) (Number size ∷ more) more r
      (omega arith) (omega arith) (mark_adds below) calm.follows before
      (λ us sees. number_product m us more size (omega arith) h calm sees)
      (λ at a b is f. joined_given below at a b (form xs (pos 0)) (constant_form levels (pos size)) (form xs (amount below size)) is f.0 made (small, amount_small below size h))

  coef_step : (alone below : Bool) (done : List ℤ) (k n size m : ℕ) (more : List Symbol) (r : Counted Part) → nat_eq size 1 ≡ alone → k ≡ length done → levels ≡ k + suc n
      → list_all (is_at_most most_affine) done ≡ true → is_at_most most_affine (pos size) ≡ true → m + 3 < 256 → Calm ending more
      → Summed (form (done ++ nothing (suc n)) (pos 0)) m (Mark (mark_of below) ∷ (times_if alone size (iterator_name letters k) ++ more)) r
      → Summed (form (done ++ amount below size ∷ nothing n) (pos 0)) (m + extra alone) more r
  unfolding parts
  coef_step alone below done k n size m more r a e f small h l calm before =
      let x : Form = form (done ++ nothing (suc n)) (pos 0) in
      let y : Form = form (unit (pos size) k n) (pos 0) in
      let z : Form = form (done ++ amount below size ∷ nothing n) (pos 0) in
      let made : combined (pos 1) x (factor_of below) y ≡ z = rw (unit_added below size done k n e, kept below (pos 0)) refl in
      let fits : IsSmall z = (rw (list_all-append, small, amount_small below size h, nothing_small n) refl, refl) in
      term_on bytes sort inner None ending (IsForm x) (IsForm y) (IsForm z) m (m + extra alone) m (m + extra alone) (mark_of below) (times_if alone size (iterator_name letters k) ++ more) more r
      (omega arith) (some_extra alone m) (mark_adds below) calm.follows before
      (λ us sees. times_product alone m us more size k n a (omega arith) f h calm sees)
      (λ at u v is g. joined_given below at u v x y z is g made fits)

  -- what stands behind a first term

  lead_is : (below : Bool) → lead false below ≡ Mark (mark_of below) ∷ []
  lead_is false = refl
  lead_is true = refl

  calm_lead : (below : Bool) (xs rest : List Symbol) → Calm ending ((lead false below ++ xs) ++ rest)
  calm_lead false xs rest = record { stars = refl; brackets = refl; follows = refl }
  calm_lead true xs rest = record { stars = refl; brackets = refl; follows = refl }

  calm_constant : (skip : Bool) (z : ℤ) (rest : List Symbol) → Calm ending rest → Calm ending (constant_if skip false z ++ rest)
  calm_constant true z rest calm = calm
  calm_constant false z rest calm = calm_lead (is_below z) (Number (unsigned_abs z) ∷ []) rest

  calm_coef : (skip : Bool) (c : ℤ) (k : ℕ) (more rest : List Symbol) → Calm ending (more ++ rest) → Calm ending ((coef_if skip letters false c k ++ more) ++ rest)
  calm_coef true c k more rest calm = calm
  calm_coef false c k more rest calm =
      let t = times_if (nat_eq (unsigned_abs c) 1) (unsigned_abs c) (iterator_name letters k) in
      rw (append_assoc (lead false (is_below c)) t more) (calm_lead (is_below c) (t ++ more) rest)

  calm_terms : (k : ℕ) (cs : List ℤ) (z : ℤ) (rest : List Symbol) → Calm ending rest → Calm ending (terms_symbols letters false k cs z ++ rest)
  calm_terms k [] z rest calm = calm_constant (is_none z) z rest calm
  calm_terms k (c ∷ cs) z rest calm = calm_coef (is_none c) c k (terms_symbols letters false (k + 1) cs z) rest (calm_terms (k + 1) cs z rest calm)

  last_read : (skip : Bool) (xs : List ℤ) (z : ℤ) (m : ℕ) (rest : List Symbol) (r : Counted Part) → is_none z ≡ skip → levels ≡ length xs → list_all (is_at_most most_affine) xs ≡ true
      → is_at_most most_affine z ≡ true → m + 1 < 256 → Calm ending rest → Summed (form xs (pos 0)) m (constant_if skip false z ++ rest) r → (n : ℕ) × Summed (form xs z) n rest r
  last_read true xs z m rest r none e small h l calm before = (m, rw (none_is z none) before)
  last_read false xs z m rest r none e small h l calm before =
      let there = rw (lead_is (is_below z)) at before in
      let made = constant_step (is_below z) xs (unsigned_abs z) m rest r e small (size_small z h) l calm there in
      (m + 1, rw (amount_is z) at made)

  abbrev MoreRead : List ℤ → Type 0
  MoreRead coefs = (done : List ℤ) (k : ℕ) (z : ℤ) (m : ℕ) (rest : List Symbol) (r : Counted Part) → k ≡ length done → levels ≡ k + length coefs
      → list_all (is_at_most most_affine) done ≡ true → list_all (is_at_most most_affine) coefs ≡ true → is_at_most most_affine z ≡ true → m + 2 * length coefs + 3 < 256 → Calm ending rest
      → Summed (form (done ++ nothing (length coefs)) (pos 0)) m (terms_symbols letters false k coefs z ++ rest) r → (n : ℕ) × Summed (form (done ++ coefs) z) n rest r

  next_read : (skip : Bool) (c : ℤ) (cs : List ℤ) → MoreRead cs → (done : List ℤ) (k : ℕ) (z : ℤ) (m : ℕ) (rest : List Symbol) (r : Counted Part) → is_none c ≡ skip → k ≡ length done → levels ≡ k + suc (length cs)
      → list_all (is_at_most most_affine) done ≡ true → is_at_most most_affine c ≡ true → list_all (is_at_most most_affine) cs ≡ true → is_at_most most_affine z ≡ true
      → m + 2 * length cs + 5 < 256 → Calm ending rest
      → Summed (form (done ++ nothing (suc (length cs))) (pos 0)) m ((coef_if skip letters false c k ++ terms_symbols letters false (k + 1) cs z) ++ rest) r → (n : ℕ) × Summed (form (done ++ c ∷ cs) z) n rest r
  next_read true c cs again done k z m rest r none e f small first smalls h l calm before =
      let zero : c ≡ pos 0 = none_is c none in
      let moved : done ++ pos 0 ∷ nothing (length cs) ≡ (done ++ c ∷ []) ++ nothing (length cs) = rw (zero, append_assoc) refl in
      let there = rw moved at before in
      let joined : (done ++ c ∷ []) ++ cs ≡ done ++ c ∷ cs = append_assoc done (c ∷ []) cs in
      let long : k + 1 ≡ length (done ++ c ∷ []) = simp length-append (omega arith) in
      let fits : list_all (is_at_most most_affine) (done ++ c ∷ []) ≡ true = rw (list_all-append, small, first) refl in
      let more = again (done ++ c ∷ []) (k + 1) z m rest r long (omega arith) fits smalls h (omega arith) calm there in
      rw joined at more
  next_read false c cs again done k z m rest r none e f small first smalls h l calm before =
      let size = unsigned_abs c in
      let alone = nat_eq size 1 in
      let terms = terms_symbols letters false (k + 1) cs z in
      let there = rw (lead_is (is_below c)) at before in
      let here : Summed (form (done ++ nothing (suc (length cs))) (pos 0)) m (Mark (mark_of (is_below c)) ∷ (times_if alone size (iterator_name letters k) ++ (terms ++ rest))) r = rw (← append_assoc (times_if alone size (iterator_name letters k)) terms rest) there in
      let made = coef_step alone (is_below c) done k (length cs) size m (terms ++ rest) r refl e f small (size_small c first) (omega arith) (calm_terms (k + 1) cs z rest calm) here in
      let moved : done ++ c ∷ nothing (length cs) ≡ (done ++ c ∷ []) ++ nothing (length cs) = rw append_assoc refl in
      let after = rw (amount_is c, moved) at made in
      let joined : (done ++ c ∷ []) ++ cs ≡ done ++ c ∷ cs = append_assoc done (c ∷ []) cs in
      let long : k + 1 ≡ length (done ++ c ∷ []) = simp length-append (omega arith) in
      let fits : list_all (is_at_most most_affine) (done ++ c ∷ []) ≡ true = rw (list_all-append, small, first) refl in
      let few : m + extra alone + 2 * length cs + 3 < 256 = few_extra alone m (length cs) l in
      let more = again (done ++ c ∷ []) (k + 1) z (m + extra alone) rest r long (omega arith) fits smalls h few calm after in
      rw joined at more

  more_read : (coefs : List ℤ) → MoreRead coefs
  more_read [] done k z m rest r e f small smalls h l calm before =
      let whole : done ++ nothing 0 ≡ done ++ [] = refl in
      let long : levels ≡ length (done ++ []) = simp length-append (omega arith) in
      let fits : list_all (is_at_most most_affine) (done ++ []) ≡ true = rw (list_all-append, small) refl in
      last_read (is_none z) (done ++ []) z m rest r refl long fits h (omega arith) calm before
  more_read (c ∷ cs) done k z m rest r e f small smalls h l calm before =
      let parts = and_parts (is_at_most most_affine c) (list_all (is_at_most most_affine) cs) smalls in
      next_read (is_none c) c cs (more_read cs) done k z m rest r refl e f small parts.0 parts.1 h (omega arith) calm before

  -- a whole form

  nothing_long : (n : ℕ) → length (nothing n) ≡ n
  nothing_long zero = refl
  nothing_long (suc n) = let e = nothing_long n in omega (arith, e)

  nothing_joined : (k n : ℕ) → nothing k ++ nothing n ≡ nothing (k + n)
  nothing_joined zero n = ap nothing (omega arith)
  nothing_joined (suc k) n =
      let e : suc k + n ≡ suc (k + n) = omega arith in
      rw e (ap (λ (t : List ℤ). pos 0 ∷ t) (nothing_joined k n))

  -- a form that begins with a number
  number_first : (n : ℕ) (ts : List Token) (rest : List Symbol) (size : ℕ) → is_at_most most_affine (pos size) ≡ true → Calm ending rest → Sees bytes ts (Number size ∷ rest)
      → Summed (form (nothing levels) (pos size)) 1 rest (sum bytes sort inner ending None 0 ts)
  number_first n ts rest size h calm s =
      let g = number_product 0 ts rest size (omega arith) h calm s in
      sum_begun bytes sort inner None ending (IsForm (form (nothing levels) (pos size))) 1 1 0 ts rest calm.follows (g.0, g.1, (g.2.0.0, g.2.1, g.2.2))

  constant_first : (below : Bool) (z : ℤ) (ts : List Token) (rest : List Symbol) → is_below z ≡ below → is_at_most most_affine z ≡ true → Calm ending rest
      → Sees bytes ts ((lead true below ++ Number (unsigned_abs z) ∷ []) ++ rest) → (n : ℕ) × Summed (form (nothing levels) z) n rest (sum bytes sort inner ending None 0 ts)
  constant_first false z ts rest e h calm s =
      let is : pos (unsigned_abs z) ≡ z = rw e at (amount_is z) in
      let made = number_first 0 ts rest (unsigned_abs z) (size_small z h) calm s in
      (1, rw is at made)
  constant_first true z ts rest e h calm s =
      let is : amount true (unsigned_abs z) ≡ z = rw e at (amount_is z) in
      let calm_minus : Calm ending (Mark signs.Minus ∷ Number (unsigned_abs z) ∷ rest) = record { stars = refl; brackets = refl; follows = refl } in
      let before = number_first 0 ts (Mark signs.Minus ∷ Number (unsigned_abs z) ∷ rest) 0 refl calm_minus s in
      let made = constant_step true (nothing levels) (unsigned_abs z) 1 rest (sum bytes sort inner ending None 0 ts) (sym (nothing_long levels)) (nothing_small levels) (size_small z h) (omega arith) calm before in
      (2, rw is at made)

  abbrev FirstRead : List ℤ → Type 0
  FirstRead coefs = (k : ℕ) (z : ℤ) (ts : List Token) (rest : List Symbol) → levels ≡ k + length coefs → list_all (is_at_most most_affine) coefs ≡ true → is_at_most most_affine z ≡ true
      → 2 * length coefs + 10 < 256 → Calm ending rest → Sees bytes ts (terms_symbols letters true k coefs z ++ rest) → (n : ℕ) × Summed (form (nothing k ++ coefs) z) n rest (sum bytes sort inner ending None 0 ts)

  coef_first : (below : Bool) (c : ℤ) (cs : List ℤ) (k : ℕ) (z : ℤ) (ts : List Token) (rest : List Symbol) → is_below c ≡ below → levels ≡ k + suc (length cs)
      → is_at_most most_affine c ≡ true → list_all (is_at_most most_affine) cs ≡ true → is_at_most most_affine z ≡ true → 2 * length cs + 10 < 256 → Calm ending rest
      → Sees bytes ts (lead true below ++ (times_if (nat_eq (unsigned_abs c) 1) (unsigned_abs c) (iterator_name letters k) ++ (terms_symbols letters false (k + 1) cs z ++ rest)))
      → (m : ℕ) × (m ≤ 3) × Summed (form (nothing k ++ c ∷ nothing (length cs)) (pos 0)) m (terms_symbols letters false (k + 1) cs z ++ rest) (sum bytes sort inner ending None 0 ts)
  coef_first false c cs k z ts rest e f first smalls h l calm s =
      let size = unsigned_abs c in
      let alone = nat_eq size 1 in
      let more = terms_symbols letters false (k + 1) cs z ++ rest in
      let is : pos size ≡ c = rw e at (amount_is c) in
      let g = times_product alone 0 ts more size k (length cs) refl (omega arith) f (size_small c first) (calm_terms (k + 1) cs z rest calm) s in
      let q : Part → Type 0 = IsForm (form (unit (pos size) k (length cs)) (pos 0)) in
      let made = sum_begun bytes sort inner None ending q (0 + extra alone) (0 + extra alone) 0 ts more (calm_terms (k + 1) cs z rest calm).follows g in
      (0 + extra alone, least_extra alone, rw is at made)
  coef_first true c cs k z ts rest e f first smalls h l calm s =
      let size = unsigned_abs c in
      let alone = nat_eq size 1 in
      let more = terms_symbols letters false (k + 1) cs z ++ rest in
      let is : amount true size ≡ c = rw e at (amount_is c) in
      let behind : List Symbol = Mark signs.Minus ∷ (times_if alone size (iterator_name letters k) ++ more) in
      let calm_minus : Calm ending behind = record { stars = refl; brackets = refl; follows = refl } in
      let before = number_first 0 ts behind 0 refl calm_minus s in
      let whole : nothing levels ≡ nothing k ++ nothing (suc (length cs)) = ap nothing f ∙ sym (nothing_joined k (suc (length cs))) in
      let there : Summed (form (nothing k ++ nothing (suc (length cs))) (pos 0)) 1 behind (sum bytes sort inner ending None 0 ts) = rw whole at before in
      let made = coef_step alone true (nothing k) k (length cs) size 1 more (sum bytes sort inner ending None 0 ts) refl (sym (nothing_long k)) f (nothing_small k) (size_small c first) (omega arith) (calm_terms (k + 1) cs z rest calm) there in
      (1 + extra alone, more_extra alone, rw is at made)

  choose_first : (skip : Bool) (c : ℤ) (cs : List ℤ) → FirstRead cs → (k : ℕ) (z : ℤ) (ts : List Token) (rest : List Symbol) → is_none c ≡ skip → levels ≡ k + suc (length cs)
      → is_at_most most_affine c ≡ true → list_all (is_at_most most_affine) cs ≡ true → is_at_most most_affine z ≡ true → 2 * length cs + 12 < 256 → Calm ending rest
      → Sees bytes ts ((coef_if skip letters true c k ++ terms_symbols letters skip (k + 1) cs z) ++ rest) → (n : ℕ) × Summed (form (nothing k ++ c ∷ cs) z) n rest (sum bytes sort inner ending None 0 ts)
  choose_first true c cs again k z ts rest none f first smalls h l calm s =
      let zero : c ≡ pos 0 = none_is c none in
      let made = again (k + 1) z ts rest (omega arith) smalls h (omega arith) calm s in
      let moved : nothing (k + 1) ++ cs ≡ nothing k ++ c ∷ cs = rw (zero, ← nothing_joined k 1, append_assoc) refl in
      rw moved at made
  choose_first false c cs again k z ts rest none f first smalls h l calm s =
      let times = times_if (nat_eq (unsigned_abs c) 1) (unsigned_abs c) (iterator_name letters k) in
      let terms = terms_symbols letters false (k + 1) cs z in
      let flat : ((lead true (is_below c) ++ times) ++ terms) ++ rest ≡ lead true (is_below c) ++ (times ++ (terms ++ rest)) =
      append_assoc (lead true (is_below c) ++ times) terms rest ∙ append_assoc (lead true (is_below c)) times (terms ++ rest) in
      let made = coef_first (is_below c) c cs k z ts rest refl f first smalls h (omega arith) calm (s ∙ flat) in
      let moved : nothing k ++ c ∷ nothing (length cs) ≡ (nothing k ++ c ∷ []) ++ nothing (length cs) = rw append_assoc refl in
      let there : Summed (form ((nothing k ++ c ∷ []) ++ nothing (length cs)) (pos 0)) made.0 (terms ++ rest) (sum bytes sort inner ending None 0 ts) = rw moved at made.2 in
      let joined : (nothing k ++ c ∷ []) ++ cs ≡ nothing k ++ c ∷ cs = append_assoc (nothing k) (c ∷ []) cs in
      let n = nothing_long k in
      let long : k + 1 ≡ length (nothing k ++ c ∷ []) = simp length-append (omega (arith, n)) in
      let fits : list_all (is_at_most most_affine) (nothing k ++ c ∷ []) ≡ true = rw (list_all-append, nothing_small k, first) refl in
      let small = made.1 in
      let more = more_read cs (nothing k ++ c ∷ []) (k + 1) z made.0 rest (sum bytes sort inner ending None 0 ts) long (omega arith) fits smalls h (omega (arith, small)) calm there in
      rw joined at more

  first_read : (coefs : List ℤ) → FirstRead coefs
  first_read [] k z ts rest f smalls h l calm s =
      let made = constant_first (is_below z) z ts rest refl h calm s in
      let e : levels ≡ k = omega arith in
      let whole : nothing levels ≡ nothing k ++ [] = ap nothing e ∙ sym (append-nil (nothing k)) in
      rw whole at made
  first_read (c ∷ cs) k z ts rest f smalls h l calm s =
      let parts = and_parts (is_at_most most_affine c) (list_all (is_at_most most_affine) cs) smalls in
      choose_first (is_none c) c cs (first_read cs) k z ts rest refl f parts.0 parts.1 h (omega arith) calm s

  pub form_given : (f : Form) (ts : List Token) (rest : List Symbol) → levels ≡ length f.coefs → levels ≤ 6 → IsSmall f → Calm ending rest → term_sign (front rest) ≡ None
      → Sees bytes ts (form_symbols letters f.coefs f.constant ++ rest) → Given (Valued bytes f rest) (form_at bytes names levels left ending ts)
  unfolding form_at
  form_given f ts rest e l small calm ends s =
      let made = first_read f.coefs 0 f.constant ts rest (omega arith) small.0 small.1 (omega arith) calm s in
      let done : Given (AtPart (IsForm f) made.0 rest) (sum bytes sort inner ending None 0 ts) = sum_ends bytes sort inner None ending (IsForm f) made.0 made.0 rest (sum bytes sort inner ending None 0 ts) ends made.1 in
      let whole : Given (λ x. IsForm f x.0 × Sees bytes x.1 rest) (expression bytes sort left ending ts) =
      given_bind (AtPart (IsForm f) made.0 rest) (λ x. IsForm f x.0 × Sees bytes x.1 rest) (sum bytes sort inner ending None 0 ts) (λ x. Ok (x.0, x.2)) done (λ x g.
      given_ok (λ x. IsForm f x.0 × Sees bytes x.1 rest) (x.0, x.2) (g.0, g.2)) in
      given_bind (λ x. IsForm f x.0 × Sees bytes x.1 rest) (Valued bytes f rest) (expression bytes sort left ending ts) (λ p. Ok (p.0.form, p.1)) whole (λ p g.
      given_ok (Valued bytes f rest) (p.0.form, p.1) g)
