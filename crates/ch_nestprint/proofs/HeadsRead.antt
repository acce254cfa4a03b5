-- The printed head of a loop is read as it was.
use Rattle.std.proofs.Common.{◌≡◌, ℕ, zero, suc, ◌+◌, ◌<◌, ◌≤◌, ℤ, pos, ◌+ℤ◌, unsigned_abs, Bool, true, false, not, ◌&&◌, nat_eq, List, [], ◌∷◌, ◌++◌, length, map, drop, Some, None, Ok, refl, sym, ap, ◌∙◌, append_assoc, arith}
use Rattle.std.specs.Prelude.{◌-ℤ◌, nat_le}
use Rattle.std.specs.Str.{bytes_eq}
use Rattle.std.specs.List.{list_all, flat_map}
use Rattle.std.proofs.lemmas.Bool.{and_parts, eqb-true, leb-true}
use Rattle.std.proofs.lemmas.Int.{ints}
use Rattle.std.proofs.lemmas.List.{append-nil}
use Rattle.ch_affine.specs.Form.{Form}
use Rattle.ch_affine.specs.declared.system.Range.{Range}
use Rattle.ch_lex.specs.declared.error.Code2.TheVariants.{P1, P7}
use Rattle.ch_lex.specs.declared.keyword.Keyword.{Keyword}
use Rattle.ch_lex.specs.declared.keyword.Keyword.TheVariants as words
use Rattle.ch_lex.specs.declared.token.Sign.TheVariants as signs
use Rattle.ch_lex.specs.declared.token.Token.{Token}
use Rattle.ch_nest.specs.Limits.{most_affine, most_forms, most_nesting}
use Rattle.ch_nest.specs.Shape.{are_few, box_of, coefs_fit, head_fits, high_end, highs_fit, is_at_most, is_small, low_end, lows_fit, step_fits}
use Rattle.ch_nestparse.specs.declared.ahead.Ending.{Ending}
use Rattle.ch_nestparse.specs.declared.ahead.Ending.TheVariants as endings
use Rattle.ch_nestparse.specs.declared.ahead.Look.{Look}
use Rattle.ch_nestparse.specs.declared.ahead.Look.TheVariants as looks
use Rattle.ch_nestparse.specs.declared.heads.Ends.{Ends}
use Rattle.ch_nestparse.specs.declared.scope.Named.TheVariants.{Iterator}
use Rattle.ch_nestparse.specs.Expressions.{term_sign}
use Rattle.ch_nestparse.specs.Forms.{form_at}
use Rattle.ch_nestparse.specs.Heads.{Head, bounded, bounded_if, ends_at, head_at, high_at, last_of, low_at, more_at, next_is_comma, next_at, number_step_at, same_name_at, several_at, single_at, step_at, strict_if}
use Rattle.ch_nestparse.specs.Read.{◌>>=◌, Names, begins, find_name, fresh_at, guarded, is_keyword, is_sign, name_at, next_is, number_at, place, repeated, seen, sign_at}
use Rattle.ch_nestprint.specs.declared.symbol.Symbol.{Symbol}
use Rattle.ch_nestprint.specs.declared.symbol.Symbol.TheVariants.{Name, Number, Key, Mark}
use Rattle.ch_nestprint.specs.Ends.{beginning_symbols, coef_if, comma_end, end_symbols, ends_symbols, head_symbols, highs_symbols, is_below, is_none, is_strict, lead, limit_symbols, lows_symbols, next_if, next_symbols, raised_if, relation, step_symbols, terms_symbols, times_if}
use Rattle.ch_nestprint.specs.Names.{iterator_name}
use Rattle.ch_nestprint.proofs.AllSymbols.{EndFits, highs_end, lows_end}
use Rattle.ch_nestprint.proofs.FormsRead.{Calm, form_given}
use Rattle.ch_nestprint.proofs.NamesRead.{same_bytes}
use Rattle.ch_nestprint.proofs.Seeing.{Given, Passed, Sees, Valued, behind_front, fresh_given, front, given_bind, given_chosen, given_guarded, given_ok, given_other, keyword_same, name_given, number_given, seen_front, sign_given}

-- a form begins with no keyword

times_word : (word : Keyword) (alone : Bool) (size : ℕ) (name : List ℕ) (rest : List Symbol) → is_keyword word (front (times_if alone size name ++ rest)) ≡ false
times_word word true size name rest = refl
times_word word false size name rest = refl

constant_word : (word : Keyword) (below : Bool) (size : ℕ) (rest : List Symbol) → is_keyword word (front ((lead true below ++ Number size ∷ []) ++ rest)) ≡ false
constant_word word true size rest = refl
constant_word word false size rest = refl

lead_word : (word : Keyword) (below alone : Bool) (size : ℕ) (name : List ℕ) (more rest : List Symbol) → is_keyword word (front (((lead true below ++ times_if alone size name) ++ more) ++ rest)) ≡ false
lead_word word true alone size name more rest = refl
lead_word word false true size name more rest = refl
lead_word word false false size name more rest = refl

coef_word : (word : Keyword) (skip : Bool) (letters : ℕ) (c : ℤ) (level : ℕ) (more rest : List Symbol) → (skip ≡ true → is_keyword word (front (more ++ rest)) ≡ false)
    → is_keyword word (front ((coef_if skip letters true c level ++ more) ++ rest)) ≡ false
coef_word word true letters c level more rest h = h refl
coef_word word false letters c level more rest h = lead_word word (is_below c) (nat_eq (unsigned_abs c) 1) (unsigned_abs c) (iterator_name letters level) more rest

terms_word : (word : Keyword) (letters level : ℕ) (coefs : List ℤ) (z : ℤ) (rest : List Symbol) → is_keyword word (front (terms_symbols letters true level coefs z ++ rest)) ≡ false
terms_word word letters level [] z rest = constant_word word (is_below z) (unsigned_abs z) rest
terms_word word letters level (c ∷ cs) z rest =
    coef_word word (is_none c) letters c level (terms_symbols letters (is_none c) (level + 1) cs z) rest
    (λ e. rw e (terms_word word letters (level + 1) cs z rest))

abbrev pub raised_form : Bool → Form → Form
raised_form raises f = record { coefs = f.coefs; constant = raised_if raises f.constant }

abbrev ends_of : List Form → ℤ → Ends
ends_of forms end = record { forms = forms; end = end }

abbrev head_of : List ℕ → Ends → Ends → ℕ → Head
head_of name low high step = record { name = name; lows = low.forms; highs = high.forms; step = step; box = record { low = low.end; high = high.end } }

both_ends : (a b : List Form) (x y : ℤ) → a ≡ b → x ≡ y → ends_of a x ≡ ends_of b y
both_ends a b x y e f = ap (λ (fs : List Form). ends_of fs x) e ∙ ap (λ (z : ℤ). ends_of b z) f

whole_head : (m n : List ℕ) (a b c d : Ends) (x y : ℕ) → m ≡ n → a ≡ b → c ≡ d → x ≡ y → head_of m a c x ≡ head_of n b d y
whole_head m n a b c d x y e f g h =
    ap (λ (z : List ℕ). head_of z a c x) e ∙ ap (λ (z : Ends). head_of n z c x) f ∙ ap (λ (z : Ends). head_of n b z x) g ∙ ap (head_of n b d) h

module _ (bytes : List ℕ) (names : Names) (letters levels : ℕ) (iterators : (k : ℕ) → k < levels → find_name (iterator_name letters k) names ≡ Some (Iterator k)) (few : levels ≤ 6) where
  end_given : (ending : Ending) (raises : Bool) (f : Form) (ts : List Token) (rest : List Symbol) → EndFits levels raises f ≡ true → Calm ending rest → term_sign (front rest) ≡ None → Sees bytes ts (end_symbols letters raises f ++ rest)
      → Given (Valued bytes (raised_form raises f) rest) (form_at bytes names levels most_nesting ending ts)
  end_given ending raises f ts rest h calm ends sees =
      let parts = and_parts (coefs_fit levels f) (is_at_most most_affine (raised_if raises f.constant)) h in
      let coefs = and_parts (nat_eq (length f.coefs) levels) (list_all (is_at_most most_affine) f.coefs) parts.0 in
      form_given bytes names levels letters most_nesting ending iterators (raised_form raises f) ts rest (sym (eqb-true (length f.coefs) levels coefs.0)) few (coefs.1, parts.1) calm ends sees

  calm_commas : (raises : Bool) (fs : List Form) (rest : List Symbol) → Calm endings.Listed (flat_map (comma_end letters raises) fs ++ (Mark signs.RightParen ∷ rest))
  calm_commas raises [] rest = record { stars = refl; brackets = refl; follows = refl }
  calm_commas raises (f ∷ fs) rest = record { stars = refl; brackets = refl; follows = refl }

  ends_commas : (raises : Bool) (fs : List Form) (rest : List Symbol) → term_sign (front (flat_map (comma_end letters raises) fs ++ (Mark signs.RightParen ∷ rest))) ≡ None
  ends_commas raises [] rest = refl
  ends_commas raises (f ∷ fs) rest = refl

  mores_given : (raises : Bool) (fs : List Form) (k : ℕ) (found : List Form) (ts : List Token) (rest : List Symbol) → length fs ≤ k → list_all (EndFits levels raises) fs ≡ true
      → Sees bytes ts (flat_map (comma_end letters raises) fs ++ (Mark signs.RightParen ∷ rest))
      → Given (Valued bytes (found ++ map (raised_form raises) fs) (Mark signs.RightParen ∷ rest)) (repeated (next_is_comma bytes) (more_at bytes names levels) k found ts)
  unfolding repeated more_at
  mores_given raises [] zero found ts rest l h sees = given_ok (Valued bytes (found ++ []) (Mark signs.RightParen ∷ rest)) (found, ts) (sym (append-nil found), sees)
  mores_given raises [] (suc k) found ts rest l h sees =
      given_other (Valued bytes (found ++ []) (Mark signs.RightParen ∷ rest)) (next_is_comma bytes ts)
      (λ _. more_at bytes names levels found ts >>= λ x. repeated (next_is_comma bytes) (more_at bytes names levels) k x.0 x.1) (λ _. Ok (found, ts))
      (ap (is_sign signs.Comma) (seen_front bytes ts (Mark signs.RightParen ∷ rest) sees))
      (given_ok (Valued bytes (found ++ []) (Mark signs.RightParen ∷ rest)) (found, ts) (sym (append-nil found), sees))
  mores_given raises (f ∷ fs) zero found ts rest l h sees = absurd (omega arith)
  mores_given raises (f ∷ fs) (suc k) found ts rest l h sees =
      let parts = and_parts (EndFits levels raises f) (list_all (EndFits levels raises) fs) h in
      let after : List Symbol = flat_map (comma_end letters raises) fs ++ (Mark signs.RightParen ∷ rest) in
      let goal = Valued bytes (found ++ map (raised_form raises) (f ∷ fs)) (Mark signs.RightParen ∷ rest) in
      let one = Valued bytes (found ++ raised_form raises f ∷ []) after in
      let flat : Sees bytes ts (Mark signs.Comma ∷ (end_symbols letters raises f ++ after)) =
      sees ∙ ap (λ (xs : List Symbol). Mark signs.Comma ∷ xs) (append_assoc (end_symbols letters raises f) (flat_map (comma_end letters raises) fs) (Mark signs.RightParen ∷ rest)) in
      let behind = behind_front bytes ts (Mark signs.Comma) (end_symbols letters raises f ++ after) flat in
      given_chosen goal (next_is_comma bytes ts)
      (λ _. more_at bytes names levels found ts >>= λ x. repeated (next_is_comma bytes) (more_at bytes names levels) k x.0 x.1) (λ _. Ok (found, ts))
      (ap (is_sign signs.Comma) (seen_front bytes ts (Mark signs.Comma ∷ (end_symbols letters raises f ++ after)) flat))
      (given_bind one goal (more_at bytes names levels found ts) (λ x. repeated (next_is_comma bytes) (more_at bytes names levels) k x.0 x.1)
      (given_bind (Valued bytes (raised_form raises f) after) one (form_at bytes names levels most_nesting endings.Listed (drop 1 ts)) (λ form. Ok (found ++ form.0 ∷ [], form.1))
      (end_given endings.Listed raises f (drop 1 ts) after parts.0 (calm_commas raises fs rest) (ends_commas raises fs rest) behind) (λ form a.
      given_ok one (found ++ form.0 ∷ [], form.1) (ap (λ (x : Form). found ++ x ∷ []) a.0, a.1))) (λ x a.
      let again = mores_given raises fs k x.0 x.1 rest (omega arith) parts.1 a.1 in
      let whole : x.0 ++ map (raised_form raises) fs ≡ found ++ map (raised_form raises) (f ∷ fs) =
      ap (λ (xs : List Form). xs ++ map (raised_form raises) fs) a.0 ∙ append_assoc found (raised_form raises f ∷ []) (map (raised_form raises) fs) in
      (again.0, again.1, (again.2.0 ∙ whole, again.2.1))))

  several_given : (raises : Bool) (f : Form) (fs : List Form) (ts : List Token) (rest : List Symbol) → length fs ≤ 3 → list_all (EndFits levels raises) (f ∷ fs) ≡ true
      → Sees bytes ts (Mark signs.LeftParen ∷ (end_symbols letters raises f ++ (flat_map (comma_end letters raises) fs ++ (Mark signs.RightParen ∷ rest))))
      → Given (Valued bytes (map (raised_form raises) (f ∷ fs)) rest) (several_at bytes names levels ts)
  unfolding several_at
  several_given raises f fs ts rest l h sees =
      let parts = and_parts (EndFits levels raises f) (list_all (EndFits levels raises) fs) h in
      let after : List Symbol = flat_map (comma_end letters raises) fs ++ (Mark signs.RightParen ∷ rest) in
      let all = map (raised_form raises) (f ∷ fs) in
      let goal = Valued bytes all rest in
      let closes : List Symbol = Mark signs.RightParen ∷ rest in
      given_bind (Passed bytes (end_symbols letters raises f ++ after)) goal (sign_at bytes P1 signs.LeftParen ts) _ (sign_given bytes P1 signs.LeftParen ts (end_symbols letters raises f ++ after) sees) (λ us a.
      given_bind (Valued bytes (raised_form raises f) after) goal (form_at bytes names levels most_nesting endings.Listed us) _ (end_given endings.Listed raises f us after parts.0 (calm_commas raises fs rest) (ends_commas raises fs rest) a) (λ first b.
      let found : List Form = first.0 ∷ [] in
      let whole : found ++ map (raised_form raises) fs ≡ all = ap (λ (x : Form). x ∷ map (raised_form raises) fs) b.0 in
      given_bind (Valued bytes (found ++ map (raised_form raises) fs) closes) goal (repeated (next_is_comma bytes) (more_at bytes names levels) 3 found first.1) _ (mores_given raises fs 3 found first.1 rest l parts.1 b.1) (λ x c.
      let none : not (next_is_comma bytes x.1) ≡ true = ap (λ (k : Look). not (is_sign signs.Comma k)) (seen_front bytes x.1 closes c.1) in
      given_bind (Valued bytes all closes) goal (guarded (not (next_is_comma bytes x.1)) P1 (place bytes (drop 1 x.1)) (λ _. Ok x)) _
      (given_guarded (Valued bytes all closes) (not (next_is_comma bytes x.1)) P1 (place bytes (drop 1 x.1)) (λ _. Ok x) none (given_ok (Valued bytes all closes) x (c.0 ∙ whole, c.1))) (λ y d.
      given_bind (Passed bytes rest) goal (sign_at bytes P1 signs.RightParen y.1) _ (sign_given bytes P1 signs.RightParen y.1 rest d.1) (λ vs e.
      given_ok goal (y.0, vs) (d.0, e))))))

  ends_given : (word : Keyword) (raises : Bool) (fs : List Form) (ts : List Token) (rest : List Symbol) → list_all (EndFits levels raises) fs ≡ true → 1 ≤ length fs → length fs ≤ 4
      → Calm endings.Semicolon rest → term_sign (front rest) ≡ None → Sees bytes ts (ends_symbols letters word raises fs ++ rest) → Given (Valued bytes (map (raised_form raises) fs) rest) (ends_at bytes word names levels ts)
  unfolding ends_at single_at
  ends_given word raises [] ts rest h some l calm ends sees = absurd (omega arith)
  ends_given word raises (f ∷ []) ts rest h some l calm ends sees =
      let fits = (and_parts (EndFits levels raises f) true h).0 in
      let goal = Valued bytes (raised_form raises f ∷ []) rest in
      given_other goal (begins bytes word ts) (λ _. several_at bytes names levels (drop 1 ts)) (λ _. single_at bytes names levels ts)
      (ap (is_keyword word) (seen_front bytes ts (end_symbols letters raises f ++ rest) sees) ∙ terms_word word letters 0 f.coefs (raised_if raises f.constant) rest)
      (given_bind (Valued bytes (raised_form raises f) rest) goal (form_at bytes names levels most_nesting endings.Semicolon ts) (λ form. Ok (form.0 ∷ [], form.1)) (end_given endings.Semicolon raises f ts rest fits calm ends sees) (λ form a.
      given_ok goal (form.0 ∷ [], form.1) (ap (λ (x : Form). x ∷ []) a.0, a.1)))
  ends_given word raises (f ∷ g ∷ fs) ts rest h some l calm ends sees =
      let more : List Symbol = flat_map (comma_end letters raises) (g ∷ fs) in
      let after : List Symbol = end_symbols letters raises f ++ (more ++ (Mark signs.RightParen ∷ rest)) in
      let flat : Sees bytes ts (Key word ∷ Mark signs.LeftParen ∷ after) =
      sees ∙ ap (λ (xs : List Symbol). Key word ∷ Mark signs.LeftParen ∷ xs)
      (append_assoc (end_symbols letters raises f ++ more) (Mark signs.RightParen ∷ []) rest ∙ append_assoc (end_symbols letters raises f) more (Mark signs.RightParen ∷ rest)) in
      let goal = Valued bytes (map (raised_form raises) (f ∷ g ∷ fs)) rest in
      given_chosen goal (begins bytes word ts) (λ _. several_at bytes names levels (drop 1 ts)) (λ _. single_at bytes names levels ts)
      (ap (is_keyword word) (seen_front bytes ts (Key word ∷ Mark signs.LeftParen ∷ after) flat) ∙ keyword_same word)
      (several_given raises f (g ∷ fs) (drop 1 ts) rest (omega arith) h (behind_front bytes ts (Key word) (Mark signs.LeftParen ∷ after) flat))

  -- the box

  bounded_given : (P : ℤ → Type 0) (at : ℕ) (end : ℤ) → is_at_most most_affine end ≡ true → P end → Given P (bounded at end)
  bounded_given P at end h p = (end, ap (λ (b : Bool). bounded_if b at end) h, p)

  not_raised : (fs : List Form) → map (raised_form false) fs ≡ fs
  not_raised [] = refl
  not_raised (f ∷ fs) = ap (λ (xs : List Form). f ∷ xs) (not_raised fs)

  lowered : (z : ℤ) → z +ℤ pos 1 -ℤ pos 1 ≡ z
  lowered z = omega (arith, ints)

  last_raised : (strict : Bool) (f : Form) → last_of strict (raised_form strict f) ≡ f
  last_raised false f = refl
  last_raised true f = ap (λ (z : ℤ). record { coefs = f.coefs; constant = z }) (lowered f.constant)

  lasts_raised : (strict : Bool) (fs : List Form) → map (last_of strict) (map (raised_form strict) fs) ≡ fs
  lasts_raised strict [] = refl
  lasts_raised strict (f ∷ fs) = rw (last_raised strict f, lasts_raised strict fs) refl

  low_given : (boxes : List Range) (at : ℕ) (lows : List Form) (ts : List Token) (rest : List Symbol) → levels ≡ length boxes → lows_fit levels lows ≡ true → is_at_most most_affine (low_end boxes lows) ≡ true
      → Calm endings.Semicolon rest → term_sign (front rest) ≡ None → Sees bytes ts (lows_symbols letters lows ++ rest)
      → Given (Valued bytes (record { forms = lows; end = low_end boxes lows }) rest) (low_at bytes names boxes at ts)
  unfolding low_at
  low_given boxes at lows ts rest e h small calm ends sees =
      let few_forms = and_parts (nat_le 1 (length lows)) (nat_le (length lows) most_forms) ((and_parts (are_few lows) _ h).0) in
      let goal = Valued bytes (record { forms = lows; end = low_end boxes lows }) rest in
      let read : Given (Valued bytes (map (raised_form false) lows) rest) (ends_at bytes words.Max names (length boxes) ts) =
      rw (← e) (ends_given words.Max false lows ts rest (lows_end levels lows h) (leb-true 1 (length lows) few_forms.0) (leb-true (length lows) most_forms few_forms.1) calm ends sees) in
      given_bind (Valued bytes (map (raised_form false) lows) rest) goal (ends_at bytes words.Max names (length boxes) ts) _ read (λ x a.
      let same : x.0 ≡ lows = a.0 ∙ not_raised lows in
      let end_is : low_end boxes x.0 ≡ low_end boxes lows = ap (low_end boxes) same in
      given_bind (λ z. z ≡ low_end boxes lows) goal (bounded at (low_end boxes x.0)) _
      (bounded_given (λ z. z ≡ low_end boxes lows) at (low_end boxes x.0) (ap (is_at_most most_affine) end_is ∙ small) end_is) (λ z b.
      given_ok goal (record { forms = x.0; end = z }, x.1) (both_ends x.0 lows z (low_end boxes lows) same b, a.1)))

  strict_front : (strict : Bool) (at : ℕ) (ts : List Token) → strict_if (looks.Sign (relation strict)) at ts ≡ Ok (strict, ts)
  strict_front true at ts = refl
  strict_front false at ts = refl

  high_given : (boxes : List Range) (at : ℕ) (low : ℤ) (highs : List Form) (ts : List Token) (rest : List Symbol) → levels ≡ length boxes → highs_fit levels highs ≡ true
      → is_at_most most_affine (high_end boxes low highs) ≡ true → Calm endings.Semicolon rest → term_sign (front rest) ≡ None → Sees bytes ts (highs_symbols letters highs ++ rest)
      → Given (Valued bytes (record { forms = highs; end = high_end boxes low highs }) rest) (high_at bytes names boxes at low ts)
  unfolding high_at
  high_given boxes at low highs ts rest e h small calm ends sees =
      let strict = is_strict highs in
      let more : List Symbol = ends_symbols letters words.Min strict highs ++ rest in
      let few_forms = and_parts (nat_le 1 (length highs)) (nat_le (length highs) most_forms) ((and_parts (are_few highs) _ h).0) in
      let goal = Valued bytes (record { forms = highs; end = high_end boxes low highs }) rest in
      let first : Given (Valued bytes strict more) (strict_if (seen bytes ts) (place bytes ts) (drop 1 ts)) = (
        (strict, drop 1 ts),
        ap (λ (l : Look). strict_if l (place bytes ts) (drop 1 ts)) (seen_front bytes ts (Mark (relation strict) ∷ more) sees) ∙ strict_front strict (place bytes ts) (drop 1 ts),
        (refl, behind_front bytes ts (Mark (relation strict)) more sees),
      ) in
      given_bind (Valued bytes strict more) goal (strict_if (seen bytes ts) (place bytes ts) (drop 1 ts)) _ first (λ s a.
      let read : Given (Valued bytes (map (raised_form strict) highs) rest) (ends_at bytes words.Min names (length boxes) s.1) =
      rw (← e) (ends_given words.Min strict highs s.1 rest (highs_end levels highs h) (leb-true 1 (length highs) few_forms.0) (leb-true (length highs) most_forms few_forms.1) calm ends a.1) in
      given_bind (Valued bytes (map (raised_form strict) highs) rest) goal (ends_at bytes words.Min names (length boxes) s.1) _ read (λ x b.
      let same : map (last_of s.0) x.0 ≡ highs =
      ap (λ (t : Bool). map (last_of t) x.0) a.0 ∙ ap (map (last_of strict)) b.0 ∙ lasts_raised strict highs in
      let end_is : high_end boxes low (map (last_of s.0) x.0) ≡ high_end boxes low highs = ap (high_end boxes low) same in
      given_bind (λ z. z ≡ high_end boxes low highs) goal (bounded at (high_end boxes low (map (last_of s.0) x.0))) _
      (bounded_given (λ z. z ≡ high_end boxes low highs) at (high_end boxes low (map (last_of s.0) x.0)) (ap (is_at_most most_affine) end_is ∙ small) end_is) (λ z c.
      given_ok goal (record { forms = map (last_of s.0) x.0; end = z }, x.1) (both_ends (map (last_of s.0) x.0) highs z (high_end boxes low highs) same c, b.1))))

  same_given : (name : List ℕ) (ts : List Token) (rest : List Symbol) → Sees bytes ts (Name name ∷ rest) → Given (Passed bytes rest) (same_name_at bytes name ts)
  unfolding same_name_at
  same_given name ts rest sees =
      given_bind (Valued bytes name rest) (Passed bytes rest) (name_at bytes P1 ts) (λ other. guarded (bytes_eq name other.0) P1 (place bytes ts) (λ _. Ok other.1)) (name_given bytes P1 name ts rest sees) (λ other a.
      given_guarded (Passed bytes rest) (bytes_eq name other.0) P1 (place bytes ts) (λ _. Ok other.1) (ap (bytes_eq name) a.0 ∙ same_bytes name) (given_ok (Passed bytes rest) other.1 a.1))

  number_step_given : (name : List ℕ) (lows : List Form) (step : ℕ) (ts : List Token) (rest : List Symbol) → step_fits step lows ≡ true
      → Sees bytes ts (Mark signs.Equals ∷ Name name ∷ Mark signs.Plus ∷ Number step ∷ rest) → Given (Valued bytes step rest) (number_step_at bytes name lows ts)
  unfolding number_step_at
  number_step_given name lows step ts rest fits sees =
      let goal = Valued bytes step rest in
      let third : List Symbol = Number step ∷ rest in
      let second : List Symbol = Mark signs.Plus ∷ third in
      let first : List Symbol = Name name ∷ second in
      given_bind (Passed bytes first) goal (sign_at bytes P1 signs.Equals ts) _ (sign_given bytes P1 signs.Equals ts first sees) (λ us a.
      given_bind (Passed bytes second) goal (same_name_at bytes name us) _ (same_given name us second a) (λ vs b.
      given_bind (Passed bytes third) goal (sign_at bytes P1 signs.Plus vs) _ (sign_given bytes P1 signs.Plus vs third b) (λ ws c.
      given_bind (Valued bytes step rest) goal (number_at bytes P1 ws) _ (number_given bytes P1 step ws rest c) (λ n d.
      given_guarded goal (step_fits n.0 lows) P7 (place bytes ws) (λ _. Ok n) (ap (λ (k : ℕ). step_fits k lows) d.0 ∙ fits) (given_ok goal n d)))))

  next_given : (alone : Bool) (name : List ℕ) (lows : List Form) (step : ℕ) (ts : List Token) (rest : List Symbol) → nat_eq step 1 ≡ alone → step_fits step lows ≡ true
      → Sees bytes ts (next_if alone name step ++ rest) → Given (Valued bytes step rest) (next_at bytes name lows ts)
  unfolding next_at
  next_given true name lows step ts rest one fits sees =
      given_chosen (Valued bytes step rest) (next_is bytes signs.Increment ts) (λ _. Ok (1, drop 1 ts)) (λ _. number_step_at bytes name lows ts)
      (ap (is_sign signs.Increment) (seen_front bytes ts (Mark signs.Increment ∷ rest) sees))
      (given_ok (Valued bytes step rest) (1, drop 1 ts) (sym (eqb-true step 1 one), behind_front bytes ts (Mark signs.Increment) rest sees))
  next_given false name lows step ts rest one fits sees =
      given_other (Valued bytes step rest) (next_is bytes signs.Increment ts) (λ _. Ok (1, drop 1 ts)) (λ _. number_step_at bytes name lows ts)
      (ap (is_sign signs.Increment) (seen_front bytes ts (Mark signs.Equals ∷ Name name ∷ Mark signs.Plus ∷ Number step ∷ rest) sees))
      (number_step_given name lows step ts rest fits sees)

  step_given : (name : List ℕ) (lows : List Form) (step : ℕ) (ts : List Token) (rest : List Symbol) → step_fits step lows ≡ true
      → Sees bytes ts (next_symbols name step ++ (Mark signs.RightParen ∷ rest)) → Given (Valued bytes step rest) (step_at bytes name lows ts)
  unfolding step_at
  step_given name lows step ts rest fits sees =
      let goal = Valued bytes step rest in
      let closes : List Symbol = Mark signs.RightParen ∷ rest in
      let more : List Symbol = next_if (nat_eq step 1) name step ++ closes in
      given_bind (Passed bytes more) goal (same_name_at bytes name ts) _ (same_given name ts more sees) (λ us a.
      given_bind (Valued bytes step closes) goal (next_at bytes name lows us) _ (next_given (nat_eq step 1) name lows step us closes refl fits a) (λ x b.
      given_bind (Passed bytes rest) goal (sign_at bytes P1 signs.RightParen x.1) _ (sign_given bytes P1 signs.RightParen x.1 rest b.1) (λ vs c.
      given_ok goal (x.0, vs) (b.0, c))))

  pub head_given : (boxes : List Range) (at : ℕ) (lows highs : List Form) (step : ℕ) (ts : List Token) (rest : List Symbol) → levels ≡ length boxes → find_name (iterator_name letters levels) names ≡ None
      → head_fits levels lows highs step ≡ true → is_small (box_of boxes lows highs) ≡ true → Sees bytes ts (head_symbols letters levels lows highs step ++ rest)
      → Given (Valued bytes (record { name = iterator_name letters levels; lows = lows; highs = highs; step = step; box = box_of boxes lows highs }) rest) (head_at bytes names boxes at ts)
  unfolding head_at
  head_given boxes at lows highs step ts rest e fresh fits small sees =
      let name = iterator_name letters levels in
      let both = and_parts (lows_fit levels lows && highs_fit levels highs) (step_fits step lows) ((and_parts _ ((lows_fit levels lows && highs_fit levels highs) && step_fits step lows) fits).1) in
      let heads = and_parts (lows_fit levels lows) (highs_fit levels highs) both.0 in
      let low = low_end boxes lows in
      let box = and_parts (is_at_most most_affine low) (is_at_most most_affine (high_end boxes low highs)) small in
      let h : Head = record { name = name; lows = lows; highs = highs; step = step; box = box_of boxes lows highs } in
      let goal = Valued bytes h rest in
      let seventh : List Symbol = next_symbols name step ++ (Mark signs.RightParen ∷ rest) in
      let sixth : List Symbol = Mark signs.Semicolon ∷ seventh in
      let fifth : List Symbol = highs_symbols letters highs ++ sixth in
      let fourth : List Symbol = Name name ∷ fifth in
      let third : List Symbol = Mark signs.Semicolon ∷ fourth in
      let second : List Symbol = lows_symbols letters lows ++ third in
      let flat : Sees bytes ts (Mark signs.LeftParen ∷ Name name ∷ Mark signs.Equals ∷ second) =
      sees ∙ append_assoc (beginning_symbols letters levels lows ++ limit_symbols letters levels highs) (step_symbols letters levels step) rest
      ∙ ap (λ (xs : List Symbol). (beginning_symbols letters levels lows ++ limit_symbols letters levels highs) ++ (Mark signs.Semicolon ∷ xs)) (append_assoc (next_symbols name step) (Mark signs.RightParen ∷ []) rest)
      ∙ append_assoc (beginning_symbols letters levels lows) (limit_symbols letters levels highs) sixth in
      let calm_sign : (xs : List Symbol) → Calm endings.Semicolon (Mark signs.Semicolon ∷ xs) = λ xs. record { stars = refl; brackets = refl; follows = refl } in
      given_bind (Passed bytes (Name name ∷ Mark signs.Equals ∷ second)) goal (sign_at bytes P1 signs.LeftParen ts) _ (sign_given bytes P1 signs.LeftParen ts (Name name ∷ Mark signs.Equals ∷ second) flat) (λ paren a.
      given_bind (Valued bytes name (Mark signs.Equals ∷ second)) goal (fresh_at bytes names paren) _ (fresh_given bytes names name paren (Mark signs.Equals ∷ second) fresh a) (λ n b.
      given_bind (Passed bytes second) goal (sign_at bytes P1 signs.Equals n.1) _ (sign_given bytes P1 signs.Equals n.1 second b.1) (λ equals c.
      given_bind (Valued bytes (record { forms = lows; end = low }) third) goal (low_at bytes names boxes at equals) _ (low_given boxes at lows equals third e heads.0 box.0 (calm_sign fourth) refl c) (λ l d.
      given_bind (Passed bytes fourth) goal (sign_at bytes P1 signs.Semicolon l.1) _ (sign_given bytes P1 signs.Semicolon l.1 fourth d.1) (λ semi f.
      given_bind (Passed bytes fifth) goal (same_name_at bytes n.0 semi) _ (rw b.0 (same_given name semi fifth f)) (λ relation g.
      let end_is : l.0.end ≡ low = ap (λ (x : Ends). x.end) d.0 in
      given_bind (Valued bytes (record { forms = highs; end = high_end boxes low highs }) sixth) goal (high_at bytes names boxes at l.0.end relation) _
      (rw end_is (high_given boxes at low highs relation sixth e heads.1 box.1 (calm_sign seventh) refl g)) (λ k i.
      given_bind (Passed bytes seventh) goal (sign_at bytes P1 signs.Semicolon k.1) _ (sign_given bytes P1 signs.Semicolon k.1 seventh i.1) (λ last j.
      let lows_are : l.0.forms ≡ lows = ap (λ (x : Ends). x.forms) d.0 in
      given_bind (Valued bytes step rest) goal (step_at bytes n.0 l.0.forms last) _ (rw (b.0, lows_are) (step_given name lows step last rest both.1 j)) (λ s m.
      given_ok goal (record { name = n.0; lows = l.0.forms; highs = k.0.forms; step = s.0; box = record { low = l.0.end; high = k.0.end } }, s.1)
      (whole_head n.0 name l.0 (record { forms = lows; end = low }) k.0 (record { forms = highs; end = high_end boxes low highs }) s.0 step b.0 d.0 i.0 m.0, m.1))))))))))
