-- Each symbol of a printed program is a token of the language.
use Rattle.std.proofs.Common.{◌≡◌, ℕ, suc, ◌+◌, ◌≤◌, ℤ, unsigned_abs, Bool, true, false, not, ◌&&◌, ◌||◌, nat_eq, nat_lt, List, [], ◌∷◌, ◌++◌, length, map, codes, refl, sym, ap, ◌∙◌, arith}
use Rattle.std.specs.Prelude.{nat_le}
use Rattle.std.specs.Bool.{IsTrue}
use Rattle.std.specs.List.{list_all, list_any, flat_map}
use Rattle.std.proofs.Math.Nat.{mul-le-mul_left, mul-le-mul_right}
use Rattle.std.proofs.lemmas.Bool.{and_parts, and_from, leb-true, le-leb}
use Rattle.ch_affine.specs.Form.{Form}
use Rattle.ch_affine.specs.declared.system.Range.{Range}
use Rattle.ch_lex.specs.Tokens.{most_number}
use Rattle.ch_lex.specs.declared.keyword.Keyword.{Keyword}
use Rattle.ch_lex.specs.declared.keyword.Keyword.TheVariants as words
use Rattle.ch_lex.specs.declared.token.Sign.{Sign}
use Rattle.ch_lex.specs.declared.token.Sign.TheVariants as signs
use Rattle.ch_nest.specs.Arrays.{cells_in, extents_of, total}
use Rattle.ch_nest.specs.Limits.{most_affine, most_cells, most_conditions, most_step}
use Rattle.ch_nest.specs.LoopNest.{LoopNest}
use Rattle.ch_nest.specs.Shape.{access_fits, all_conditions_fit, are_few, arrays_fit, body_fits, box_of, coefs_fit, constant_fits, expr_fits, form_fits, has_dimensions, head_fits, highs_fit, is_array, is_at_most, is_nest, is_operand, is_small, is_term, item_fits, item_fits_step, items_fit, lows_fit, parts_fit, parts_fit_step, raised_fits, row_fits, step_fits, sub_fits}
use Rattle.ch_nest.specs.declared.exprs.Standing.{Standing}
use Rattle.ch_nest.specs.declared.exprs.Standing.TheVariants.{Term, Factor, Operand}
use Rattle.ch_nest.specs.declared.nest.Access.{Access}
use Rattle.ch_nest.specs.declared.nest.ArrayDecl.{ArrayDecl}
use Rattle.ch_nest.specs.declared.nest.Body.{Body}
use Rattle.ch_nest.specs.declared.nest.Expr.{Expr}
use Rattle.ch_nest.specs.declared.nest.Expr.TheVariants as exprs
use Rattle.ch_nest.specs.declared.nest.Fill.{Fill}
use Rattle.ch_nest.specs.declared.nest.Item.{Item}
use Rattle.ch_nest.specs.declared.nest.Item.TheVariants.{Loop, If, Assign}
use Rattle.ch_nest.specs.declared.nest.Sub.{Sub}
use Rattle.ch_nestparse.specs.Spelling.{is_fill, is_name, is_named}
use Rattle.ch_nestparse.proofs.Nesting.{fold_add, fold_iter, fold_mul, fold_neg, fold_number, fold_read, fold_sub}
use Rattle.ch_nestprint.specs.declared.symbol.Symbol.{Symbol}
use Rattle.ch_nestprint.specs.declared.symbol.Symbol.TheVariants.{Name, Number, Key, Mark}
use Rattle.ch_nestprint.specs.Cuts.{is_symbol}
use Rattle.ch_nestprint.specs.Conditions.{condition_symbols, is_low, sides_symbols}
use Rattle.ch_nestprint.specs.Ends.{beginning_symbols, coef_if, coef_symbols, comma_end, constant_if, end_symbols, ends_symbols, form_symbols, head_symbols, highs_symbols, is_below, is_none, is_strict, lead, limit_symbols, listed, lows_symbols, next_if, next_symbols, raised_if, step_symbols, terms_symbols, times_if}
use Rattle.ch_nestprint.specs.Minus.{minus_in, minus_in_item, minus_in_items, minus_item_step, minus_step, size_if}
use Rattle.ch_nestprint.specs.Names.{array_name, iterator_name, letters_for, minus_name}
use Rattle.ch_nestprint.specs.Printable.{IsPrintable}
use Rattle.ch_nestprint.specs.Printed.{array_symbols, arrays_symbols, assign_symbols, extent_symbols, fill_symbols, integer_if, integer_symbols, item_step, item_symbols, items_symbols, let_if, lets_symbols, program_symbols}
use Rattle.ch_nestprint.specs.Sides.{access_symbols, closing, constant_symbol, joined_symbols, opening, right_step, right_symbols, sub_symbols}
use Rattle.ch_nestprint.proofs.Cases.{Each, by_exprs, each_item, fold_assign, fold_if, fold_loop}
use Rattle.ch_nestprint.proofs.Rows.{left_fits, left_side, raised_fits_row, raised_row, right_fits, right_side}
use Rattle.ch_nestprint.proofs.Spelling.{all_joined, all_mapped, array_named, if_named, iterator_named, minus_named}

abbrev AreTokens : List Symbol → Type 0
AreTokens ss = list_all is_symbol ss ≡ true

joined : (xs ys : List Symbol) → AreTokens xs → AreTokens ys → AreTokens (xs ++ ys)
joined xs ys h g = all_joined is_symbol xs ys h g

-- one more symbol in front
named : (text : List ℕ) (ss : List Symbol) → is_name text ≡ true → AreTokens ss → AreTokens (Name text ∷ ss)
named text ss h g = and_from (is_name text) (list_all is_symbol ss) h g

counted : (n : ℕ) (ss : List Symbol) → nat_le n most_number ≡ true → AreTokens ss → AreTokens (Number n ∷ ss)
counted n ss h g = and_from (nat_le n most_number) (list_all is_symbol ss) h g

-- forms

number_fits : (z : ℤ) → is_at_most most_affine z ≡ true → nat_le (unsigned_abs z) most_number ≡ true
number_fits z h =
    let small : unsigned_abs z ≤ 1073741824 = leb-true (unsigned_abs z) most_affine h in
    le-leb (unsigned_abs z) most_number (omega arith)

lead_tokens : (first below : Bool) → AreTokens (lead first below)
lead_tokens true true = refl
lead_tokens true false = refl
lead_tokens false true = refl
lead_tokens false false = refl

times_tokens : (alone : Bool) (size : ℕ) (name : List ℕ) → nat_le size most_number ≡ true → is_name name ≡ true → AreTokens (times_if alone size name)
times_tokens true size name h g = named name [] g refl
times_tokens false size name h g = counted size (Mark signs.Star ∷ Name name ∷ []) h (named name [] g refl)

coef_tokens : (skipped : Bool) (letters : ℕ) (first : Bool) (c : ℤ) (level : ℕ) → is_at_most most_affine c ≡ true → AreTokens (coef_if skipped letters first c level)
coef_tokens true letters first c level h = refl
coef_tokens false letters first c level h =
    joined (lead first (is_below c)) _ (lead_tokens first (is_below c))
    (times_tokens (nat_eq (unsigned_abs c) 1) (unsigned_abs c) (iterator_name letters level) (number_fits c h) (iterator_named letters level))

constant_tokens : (skipped first : Bool) (z : ℤ) → is_at_most most_affine z ≡ true → AreTokens (constant_if skipped first z)
constant_tokens true first z h = refl
constant_tokens false first z h = joined (lead first (is_below z)) (Number (unsigned_abs z) ∷ []) (lead_tokens first (is_below z)) (counted (unsigned_abs z) [] (number_fits z h) refl)

terms_tokens : (letters : ℕ) (first : Bool) (level : ℕ) (coefs : List ℤ) (z : ℤ) → list_all (is_at_most most_affine) coefs ≡ true → is_at_most most_affine z ≡ true
    → AreTokens (terms_symbols letters first level coefs z)
terms_tokens letters first level [] z h g = constant_tokens (not first && is_none z) first z g
terms_tokens letters first level (c ∷ cs) z h g =
    let parts = and_parts (is_at_most most_affine c) (list_all (is_at_most most_affine) cs) h in
    joined (coef_symbols letters first c level) _ (coef_tokens (is_none c) letters first c level parts.0) (terms_tokens letters (first && is_none c) (level + 1) cs z parts.1 g)

coefs_small : (depth : ℕ) (f : Form) → coefs_fit depth f ≡ true → list_all (is_at_most most_affine) f.coefs ≡ true
coefs_small depth f h = (and_parts (nat_eq (length f.coefs) depth) (list_all (is_at_most most_affine) f.coefs) h).1

form_tokens : (letters depth : ℕ) (f : Form) → form_fits depth f ≡ true → AreTokens (form_symbols letters f.coefs f.constant)
form_tokens letters depth f h =
    let parts = and_parts (coefs_fit depth f) (constant_fits f) h in
    terms_tokens letters true 0 f.coefs f.constant (coefs_small depth f parts.0) parts.1

-- the ends of loops

abbrev pub EndFits : ℕ → Bool → Form → Bool
EndFits depth raises f = coefs_fit depth f && is_at_most most_affine (raised_if raises f.constant)

end_tokens : (letters depth : ℕ) (raises : Bool) (f : Form) → EndFits depth raises f ≡ true → AreTokens (end_symbols letters raises f)
end_tokens letters depth raises f h =
    let parts = and_parts (coefs_fit depth f) (is_at_most most_affine (raised_if raises f.constant)) h in
    terms_tokens letters true 0 f.coefs (raised_if raises f.constant) (coefs_small depth f parts.0) parts.1

listed_tokens : (letters depth : ℕ) (raises : Bool) (fs : List Form) → list_all (EndFits depth raises) fs ≡ true → AreTokens (listed letters raises fs)
listed_tokens letters depth raises [] h = refl
listed_tokens letters depth raises (f ∷ fs) h =
    let parts = and_parts (EndFits depth raises f) (list_all (EndFits depth raises) fs) h in
    joined (end_symbols letters raises f) _ (end_tokens letters depth raises f parts.0)
    (all_mapped is_symbol (comma_end letters raises) (EndFits depth raises) (end_tokens letters depth raises) fs parts.1)

several_tokens : (letters depth : ℕ) (word : Keyword) (raises : Bool) (fs : List Form) → list_all (EndFits depth raises) fs ≡ true
    → AreTokens (Key word ∷ Mark signs.LeftParen ∷ listed letters raises fs ++ Mark signs.RightParen ∷ [])
several_tokens letters depth word raises fs h = joined (Key word ∷ Mark signs.LeftParen ∷ listed letters raises fs) (Mark signs.RightParen ∷ []) (listed_tokens letters depth raises fs h) refl

ends_tokens : (letters depth : ℕ) (word : Keyword) (raises : Bool) (fs : List Form) → list_all (EndFits depth raises) fs ≡ true → AreTokens (ends_symbols letters word raises fs)
ends_tokens letters depth word raises [] h = refl
ends_tokens letters depth word raises (f ∷ []) h = end_tokens letters depth raises f ((and_parts (EndFits depth raises f) true h).0)
ends_tokens letters depth word raises (f ∷ g ∷ fs) h = several_tokens letters depth word raises (f ∷ g ∷ fs) h

both_all : {A : Type 0} (p q : A → Bool) (xs : List A) → list_all p xs ≡ true → list_all q xs ≡ true → list_all (λ x. p x && q x) xs ≡ true
both_all p q [] h g = refl
both_all p q (x ∷ xs) h g =
    let a = and_parts (p x) (list_all p xs) h in
    let b = and_parts (q x) (list_all q xs) g in
    and_from (p x && q x) _ (and_from (p x) (q x) a.0 b.0) (both_all p q xs a.1 b.1)

pub lows_end : (depth : ℕ) (lows : List Form) → lows_fit depth lows ≡ true → list_all (EndFits depth false) lows ≡ true
lows_end depth lows h =
    let parts = and_parts (list_all (coefs_fit depth) lows) (list_all constant_fits lows) ((and_parts (are_few lows) (list_all (coefs_fit depth) lows && list_all constant_fits lows) h).1) in
    both_all (coefs_fit depth) constant_fits lows parts.0 parts.1

strict_ends : (plain : Bool) (depth : ℕ) (highs : List Form) → list_all constant_fits highs ≡ plain → list_all (coefs_fit depth) highs ≡ true
    → (plain || list_all raised_fits highs) ≡ true → list_all (EndFits depth (not plain)) highs ≡ true
strict_ends true depth highs e h g = both_all (coefs_fit depth) constant_fits highs h e
strict_ends false depth highs e h g = both_all (coefs_fit depth) raised_fits highs h g

pub highs_end : (depth : ℕ) (highs : List Form) → highs_fit depth highs ≡ true → list_all (EndFits depth (is_strict highs)) highs ≡ true
highs_end depth highs h =
    let parts = and_parts (list_all (coefs_fit depth) highs) (list_all constant_fits highs || list_all raised_fits highs)
    ((and_parts (are_few highs) (list_all (coefs_fit depth) highs && (list_all constant_fits highs || list_all raised_fits highs)) h).1) in
    strict_ends (list_all constant_fits highs) depth highs refl parts.0 parts.1

next_tokens : (alone : Bool) (name : List ℕ) (step : ℕ) → is_name name ≡ true → nat_le step most_number ≡ true → AreTokens (next_if alone name step)
next_tokens true name step h g = refl
next_tokens false name step h g = named name (Mark signs.Plus ∷ Number step ∷ []) h (counted step [] g refl)

step_small : (step : ℕ) (lows : List Form) → step_fits step lows ≡ true → nat_le step most_number ≡ true
step_small step lows h =
    let few = and_parts (nat_le 1 step) (nat_le step most_step) ((and_parts (nat_le 1 step && nat_le step most_step) _ h).0) in
    let small : step ≤ 64 = leb-true step most_step few.1 in
    le-leb step most_number (omega arith)

head_tokens : (letters level depth : ℕ) (lows highs : List Form) (step : ℕ) → head_fits depth lows highs step ≡ true → AreTokens (head_symbols letters level lows highs step)
head_tokens letters level depth lows highs step h =
    let name = iterator_named letters level in
    let both = and_parts (lows_fit depth lows && highs_fit depth highs) (step_fits step lows) ((and_parts _ ((lows_fit depth lows && highs_fit depth highs) && step_fits step lows) h).1) in
    let parts = and_parts (lows_fit depth lows) (highs_fit depth highs) both.0 in
    let beginning : AreTokens (beginning_symbols letters level lows) =
    named (iterator_name letters level) (Mark signs.Equals ∷ lows_symbols letters lows) name (ends_tokens letters depth words.Max false lows (lows_end depth lows parts.0)) in
    let limit : AreTokens (limit_symbols letters level highs) =
    named (iterator_name letters level) (highs_symbols letters highs) name (ends_tokens letters depth words.Min (is_strict highs) highs (highs_end depth highs parts.1)) in
    let next : AreTokens (next_symbols (iterator_name letters level) step) =
    named (iterator_name letters level) (next_if (nat_eq step 1) (iterator_name letters level) step) name
    (next_tokens (nat_eq step 1) (iterator_name letters level) step name (step_small step lows both.1)) in
    joined (beginning_symbols letters level lows ++ limit_symbols letters level highs) (step_symbols letters level step)
    (joined (beginning_symbols letters level lows) (limit_symbols letters level highs) beginning limit)
    (joined (Mark signs.Semicolon ∷ next_symbols (iterator_name letters level) step) (Mark signs.RightParen ∷ []) next refl)

-- conditions

abbrev side_symbols : ℕ → Form → List Symbol
side_symbols letters f = form_symbols letters f.coefs f.constant

sides_tokens : (letters depth : ℕ) (low : Bool) (row : Form) → form_fits depth (left_side row) ≡ true → form_fits depth (right_side row) ≡ true → AreTokens (sides_symbols letters low row.coefs row.constant)
sides_tokens letters depth true row h g =
    joined (side_symbols letters (left_side row)) (Mark signs.More ∷ side_symbols letters (right_side row)) (form_tokens letters depth (left_side row) h) (form_tokens letters depth (right_side row) g)
sides_tokens letters depth false row h g =
    joined (side_symbols letters (left_side row)) (Mark signs.AtLeast ∷ side_symbols letters (right_side row)) (form_tokens letters depth (left_side row) h) (form_tokens letters depth (right_side row) g)

condition_tokens : (letters depth : ℕ) (row : Form) → row_fits depth row ≡ true → AreTokens (condition_symbols letters row)
condition_tokens letters depth row h =
    let raised = raised_row (is_low row) row in
    let fits = raised_fits_row depth row h in
    joined (Mark signs.LeftParen ∷ sides_symbols letters (is_low row) raised.coefs raised.constant) (Mark signs.RightParen ∷ [])
    (sides_tokens letters depth (is_low row) raised (left_fits depth raised fits) (right_fits depth raised fits)) refl

-- accesses and right sides

sub_tokens : (letters depth : ℕ) (s : Sub) → sub_fits depth s ≡ true → AreTokens (sub_symbols letters s)
sub_tokens letters depth s h =
    joined (Mark signs.LeftBracket ∷ form_symbols letters s.form.coefs s.form.constant) (Mark signs.RightBracket ∷ [])
    (form_tokens letters depth s.form ((and_parts (form_fits depth s.form) (nat_eq s.modulus 0) h).0)) refl

access_tokens : (arrays : List ArrayDecl) (letters depth : ℕ) (a : Access) → list_all is_named arrays ≡ true → access_fits arrays depth a ≡ true
    → AreTokens (access_symbols arrays letters a)
access_tokens arrays letters depth a n h =
    let parts = and_parts (has_dimensions arrays a.array (length a.subs)) (list_all (sub_fits depth) a.subs) h in
    named (array_name arrays a.array) (flat_map (sub_symbols letters) a.subs) (array_named arrays a.array (length a.subs) n parts.0)
    (all_mapped is_symbol (sub_symbols letters) (sub_fits depth) (sub_tokens letters depth) a.subs parts.1)

operand_tokens : (below : Bool) (letters size : ℕ) → nat_le size most_number ≡ true → AreTokens (constant_symbol below letters size ∷ [])
operand_tokens true letters size h = named (minus_name letters size) [] (minus_named letters size) refl
operand_tokens false letters size h = counted size [] h refl

opening_tokens : (parens : Bool) → AreTokens (opening parens)
opening_tokens true = refl
opening_tokens false = refl

closing_tokens : (parens : Bool) → AreTokens (closing parens)
closing_tokens true = refl
closing_tokens false = refl

joined_tokens : (parens : Bool) (x : List Symbol) (sign : Sign) (y : List Symbol) → AreTokens x → AreTokens y → AreTokens (joined_symbols parens x sign y)
joined_tokens parens x sign y h g =
    joined (opening parens ++ x ++ (Mark sign ∷ y)) (closing parens)
    (joined (opening parens ++ x) (Mark sign ∷ y) (joined (opening parens) x (opening_tokens parens) h) g) (closing_tokens parens)

module _ (arrays : List ArrayDecl) (letters depth : ℕ) (have_names : list_all is_named arrays ≡ true) where
  abbrev RightFine : Expr → Type 0
  RightFine x = parts_fit arrays depth x ≡ true → (standing : Standing) → AreTokens (right_symbols arrays letters x standing)

  abbrev shown : {A : Type 0} → Standing → (Standing → A) → A
  shown standing f = f standing

  right_tokens : (x : Expr) → RightFine x
  right_tokens = by_exprs RightFine
      (λ n h standing. let g = sym (fold_number (parts_fit_step arrays depth) n) ∙ h in
      rw (ap (shown standing) (fold_number (right_step arrays letters) n)) (operand_tokens (is_below n) letters (unsigned_abs n) g))
      (λ k h standing. rw (ap (shown standing) (fold_iter (right_step arrays letters) k)) (named (iterator_name letters k) [] (iterator_named letters k) refl))
      (λ a h standing. let g = sym (fold_read (parts_fit_step arrays depth) a) ∙ h in
      rw (ap (shown standing) (fold_read (right_step arrays letters) a)) (access_tokens arrays letters depth a have_names g))
      (λ x f h standing. let g = sym (fold_neg (parts_fit_step arrays depth) x) ∙ h in
      rw (ap (shown standing) (fold_neg (right_step arrays letters) x)) (f g Operand))
      (λ x y f e h standing. let g = and_parts (parts_fit arrays depth x) (parts_fit arrays depth y) (sym (fold_add (parts_fit_step arrays depth) x y) ∙ h) in
      rw (ap (shown standing) (fold_add (right_step arrays letters) x y)) (joined_tokens (not (is_term standing)) _ signs.Plus _ (f g.0 Term) (e g.1 Factor)))
      (λ x y f e h standing. let g = and_parts (parts_fit arrays depth x) (parts_fit arrays depth y) (sym (fold_sub (parts_fit_step arrays depth) x y) ∙ h) in
      rw (ap (shown standing) (fold_sub (right_step arrays letters) x y)) (joined_tokens (not (is_term standing)) _ signs.Minus _ (f g.0 Term) (e g.1 Factor)))
      (λ x y f e h standing. let g = and_parts (parts_fit arrays depth x) (parts_fit arrays depth y) (sym (fold_mul (parts_fit_step arrays depth) x y) ∙ h) in
      rw (ap (shown standing) (fold_mul (right_step arrays letters) x y)) (joined_tokens (is_operand standing) _ signs.Star _ (f g.0 Factor) (e g.1 Operand)))

-- items

module _ (arrays : List ArrayDecl) (letters : ℕ) (have_names : list_all is_named arrays ≡ true) where
  assign_tokens : (depth : ℕ) (b : Body) → body_fits arrays depth b ≡ true → AreTokens (assign_symbols arrays letters b)
  assign_tokens depth b h =
      let parts = and_parts (access_fits arrays depth b.write) (expr_fits arrays depth b.right) h in
      let fits = and_parts (parts_fit arrays depth b.right) _ parts.1 in
      joined (access_symbols arrays letters b.write ++ (Mark signs.Equals ∷ right_symbols arrays letters b.right Term)) (Mark signs.Semicolon ∷ [])
      (joined (access_symbols arrays letters b.write) (Mark signs.Equals ∷ right_symbols arrays letters b.right Term)
      (access_tokens arrays letters depth b.write have_names parts.0) (right_tokens arrays letters depth have_names b.right fits.0 Term)) refl

  abbrev ItemFine : Item → Type 0
  ItemFine item = (boxes : List Range) → item_fits arrays item boxes ≡ true → (depth : ℕ) → AreTokens (item_symbols arrays letters item depth)

  each_tokens : (items : List Item) → Each ItemFine items → (boxes : List Range) → items_fit arrays items boxes ≡ true → (depth : ℕ) → AreTokens (items_symbols arrays letters items depth)
  each_tokens [] fine boxes h depth = refl
  each_tokens (i ∷ is) fine boxes h depth =
      let parts = and_parts (item_fits arrays i boxes) (items_fit arrays is boxes) h in
      joined (item_symbols arrays letters i depth) (items_symbols arrays letters is depth) (fine.0 boxes parts.0 depth) (each_tokens is fine.1 boxes parts.1 depth)

  loop_tokens : (lows highs : List Form) (step : ℕ) (items : List Item) → Each ItemFine items → ItemFine (Loop lows highs step items)
  loop_tokens lows highs step items fine boxes h depth =
      let inner : List Range = boxes ++ box_of boxes lows highs ∷ [] in
      let g = sym (ap (λ f. f boxes) (fold_loop (item_fits_step arrays) lows highs step items)) ∙ h in
      let a = and_parts (head_fits (length boxes) lows highs step && nat_lt 0 (length (map (item_fits arrays) items))) (is_small (box_of boxes lows highs) && items_fit arrays items inner) g in
      let head = and_parts (head_fits (length boxes) lows highs step) _ a.0 in
      let below = and_parts (is_small (box_of boxes lows highs)) (items_fit arrays items inner) a.1 in
      rw (ap (λ f. f depth) (fold_loop (item_step arrays letters) lows highs step items))
      (joined ((Key words.For ∷ head_symbols letters depth lows highs step) ++ (Mark signs.LeftBrace ∷ items_symbols arrays letters items (suc depth))) (Mark signs.RightBrace ∷ [])
      (joined (Key words.For ∷ head_symbols letters depth lows highs step) (Mark signs.LeftBrace ∷ items_symbols arrays letters items (suc depth))
      (head_tokens letters depth (length boxes) lows highs step head.0) (each_tokens items fine inner below.1 (suc depth))) refl)

  if_tokens : (row : Form) (items : List Item) → Each ItemFine items → ItemFine (If row items)
  if_tokens row items fine boxes h depth =
      let g = sym (ap (λ f. f boxes) (fold_if (item_fits_step arrays) row items)) ∙ h in
      let a = and_parts (row_fits (length boxes) row && nat_lt 0 (length (map (item_fits arrays) items))) (items_fit arrays items boxes) g in
      let b = and_parts (row_fits (length boxes) row) _ a.0 in
      rw (ap (λ f. f depth) (fold_if (item_step arrays letters) row items))
      (joined ((Name (codes "if") ∷ condition_symbols letters row) ++ (Mark signs.LeftBrace ∷ items_symbols arrays letters items depth)) (Mark signs.RightBrace ∷ [])
      (joined (Name (codes "if") ∷ condition_symbols letters row) (Mark signs.LeftBrace ∷ items_symbols arrays letters items depth)
      (named (codes "if") (condition_symbols letters row) if_named (condition_tokens letters (length boxes) row b.0)) (each_tokens items fine boxes a.1 depth)) refl)

  leaf_tokens : (label : ℕ) (body : Body) → ItemFine (Assign label body)
  leaf_tokens label body boxes h depth =
      let g = sym (ap (λ f. f boxes) (fold_assign (item_fits_step arrays) label body)) ∙ h in
      rw (ap (λ f. f depth) (fold_assign (item_step arrays letters) label body)) (assign_tokens (length boxes) body g)

  items_tokens : (items : List Item) (boxes : List Range) → items_fit arrays items boxes ≡ true → (depth : ℕ) → AreTokens (items_symbols arrays letters items depth)
  items_tokens items = each_tokens items (each_item ItemFine loop_tokens if_tokens leaf_tokens items)

-- lets

abbrev pub is_size : ℕ → Bool
is_size n = nat_le n most_number

size_if_fits : (below : Bool) (size : ℕ) → is_size size ≡ true → list_all is_size (size_if below size) ≡ true
size_if_fits true size h = and_from (is_size size) true h refl
size_if_fits false size h = refl

module _ (arrays : List ArrayDecl) (depth : ℕ) where
  abbrev SizesFit : Expr → Type 0
  SizesFit x = parts_fit arrays depth x ≡ true → list_all is_size (minus_in x) ≡ true

  both_sizes : (x y z : Expr) → minus_in z ≡ minus_in x ++ minus_in y → (parts_fit arrays depth x && parts_fit arrays depth y) ≡ true → SizesFit x → SizesFit y → list_all is_size (minus_in z) ≡ true
  both_sizes x y z e h f g =
      let parts = and_parts (parts_fit arrays depth x) (parts_fit arrays depth y) h in
      rw e (all_joined is_size (minus_in x) (minus_in y) (f parts.0) (g parts.1))

  sizes_fit : (x : Expr) → SizesFit x
  sizes_fit = by_exprs SizesFit
      (λ n h. rw (fold_number minus_step n) (size_if_fits (is_below n) (unsigned_abs n) (sym (fold_number (parts_fit_step arrays depth) n) ∙ h)))
      (λ k h. rw (fold_iter minus_step k) refl)
      (λ a h. rw (fold_read minus_step a) refl)
      (λ x f h. rw (fold_neg minus_step x) (f (sym (fold_neg (parts_fit_step arrays depth) x) ∙ h)))
      (λ x y f g h. both_sizes x y (exprs.Add x y) (fold_add minus_step x y) (sym (fold_add (parts_fit_step arrays depth) x y) ∙ h) f g)
      (λ x y f g h. both_sizes x y (exprs.Sub x y) (fold_sub minus_step x y) (sym (fold_sub (parts_fit_step arrays depth) x y) ∙ h) f g)
      (λ x y f g h. both_sizes x y (exprs.Mul x y) (fold_mul minus_step x y) (sym (fold_mul (parts_fit_step arrays depth) x y) ∙ h) f g)

module _ (arrays : List ArrayDecl) where
  abbrev ItemSizesFit : Item → Type 0
  ItemSizesFit item = (boxes : List Range) → item_fits arrays item boxes ≡ true → list_all is_size (minus_in_item item) ≡ true

  each_size : (items : List Item) → Each ItemSizesFit items → (boxes : List Range) → items_fit arrays items boxes ≡ true → list_all is_size (minus_in_items items) ≡ true
  each_size [] fine boxes h = refl
  each_size (i ∷ is) fine boxes h =
      let parts = and_parts (item_fits arrays i boxes) (items_fit arrays is boxes) h in
      all_joined is_size (minus_in_item i) (minus_in_items is) (fine.0 boxes parts.0) (each_size is fine.1 boxes parts.1)

  loop_sizes : (lows highs : List Form) (step : ℕ) (items : List Item) → Each ItemSizesFit items → ItemSizesFit (Loop lows highs step items)
  loop_sizes lows highs step items fine boxes h =
      let inner : List Range = boxes ++ box_of boxes lows highs ∷ [] in
      let g = sym (ap (λ f. f boxes) (fold_loop (item_fits_step arrays) lows highs step items)) ∙ h in
      let a = and_parts (head_fits (length boxes) lows highs step && nat_lt 0 (length (map (item_fits arrays) items))) (is_small (box_of boxes lows highs) && items_fit arrays items inner) g in
      let below = and_parts (is_small (box_of boxes lows highs)) (items_fit arrays items inner) a.1 in
      rw (fold_loop minus_item_step lows highs step items) (each_size items fine inner below.1)

  if_sizes : (row : Form) (items : List Item) → Each ItemSizesFit items → ItemSizesFit (If row items)
  if_sizes row items fine boxes h =
      let g = sym (ap (λ f. f boxes) (fold_if (item_fits_step arrays) row items)) ∙ h in
      let a = and_parts (row_fits (length boxes) row && nat_lt 0 (length (map (item_fits arrays) items))) (items_fit arrays items boxes) g in
      rw (fold_if minus_item_step row items) (each_size items fine boxes a.1)

  leaf_sizes : (label : ℕ) (body : Body) → ItemSizesFit (Assign label body)
  leaf_sizes label body boxes h =
      let g = sym (ap (λ f. f boxes) (fold_assign (item_fits_step arrays) label body)) ∙ h in
      let parts = and_parts (access_fits arrays (length boxes) body.write) (expr_fits arrays (length boxes) body.right) g in
      let fits = and_parts (parts_fit arrays (length boxes) body.right) _ parts.1 in
      rw (fold_assign minus_item_step label body) (sizes_fit arrays (length boxes) body.right fits.0)

  items_sizes_fit : (items : List Item) (boxes : List Range) → items_fit arrays items boxes ≡ true → list_all is_size (minus_in_items items) ≡ true
  items_sizes_fit items = each_size items (each_item ItemSizesFit loop_sizes if_sizes leaf_sizes items)

let_if_tokens : (known : Bool) (letters size : ℕ) → is_size size ≡ true → AreTokens (let_if known letters size)
let_if_tokens true letters size h = refl
let_if_tokens false letters size h =
    named (minus_name letters size) (Mark signs.Equals ∷ Mark signs.Minus ∷ Number size ∷ Mark signs.Semicolon ∷ []) (minus_named letters size) (counted size (Mark signs.Semicolon ∷ []) h refl)

lets_tokens : (letters : ℕ) (before sizes : List ℕ) → list_all is_size sizes ≡ true → AreTokens (lets_symbols letters before sizes)
lets_tokens letters before [] h = refl
lets_tokens letters before (size ∷ sizes) h =
    let parts = and_parts (is_size size) (list_all is_size sizes) h in
    joined (let_if (list_any (λ n. nat_eq n size) before) letters size) (lets_symbols letters (before ++ size ∷ []) sizes)
    (let_if_tokens (list_any (λ n. nat_eq n size) before) letters size parts.0) (lets_tokens letters (before ++ size ∷ []) sizes parts.1)

-- arrays

some_cells : (es : List ℕ) → list_all (nat_le 1) es ≡ true → 1 ≤ cells_in es
some_cells [] h = omega arith
some_cells (e ∷ es) h =
    let parts = and_parts (nat_le 1 e) (list_all (nat_le 1) es) h in
    let a : 1 ≤ e = leb-true 1 e parts.0 in
    let b = some_cells es parts.1 in
    let c = mul-le-mul_left e b in
    omega (arith, a, c)

extents_fit : (es : List ℕ) → list_all (nat_le 1) es ≡ true → cells_in es ≤ 262144 → list_all is_size es ≡ true
extents_fit [] h m = refl
extents_fit (e ∷ es) h m =
    let parts = and_parts (nat_le 1 e) (list_all (nat_le 1) es) h in
    let a : 1 ≤ e = leb-true 1 e parts.0 in
    let c = mul-le-mul_left e (some_cells es parts.1) in
    let d = mul-le-mul_right (cells_in es) a in
    let small : e ≤ most_number = omega (arith, c) in
    and_from (is_size e) (list_all is_size es) (le-leb e most_number small) (extents_fit es parts.1 (omega (arith, d)))

integer_tokens : (below : Bool) (size : ℕ) → is_size size ≡ true → AreTokens (integer_if below size)
integer_tokens true size h = counted size [] h refl
integer_tokens false size h = counted size [] h refl

extent_tokens : (e : ℕ) → is_size e ≡ true → AreTokens (extent_symbols e)
extent_tokens e h = counted e (Mark signs.RightBracket ∷ []) h refl

fill_tokens : (f : Fill) → is_fill f ≡ true → AreTokens (fill_symbols f)
fill_tokens f h =
    let parts = and_parts (is_size (unsigned_abs f.a)) (is_size (unsigned_abs f.b)) h in
    joined ((Mark signs.Equals ∷ Key words.Fill ∷ Mark signs.LeftParen ∷ integer_symbols f.a) ++ (Mark signs.Comma ∷ integer_symbols f.b)) (Mark signs.RightParen ∷ Mark signs.Semicolon ∷ [])
    (joined (Mark signs.Equals ∷ Key words.Fill ∷ Mark signs.LeftParen ∷ integer_symbols f.a) (Mark signs.Comma ∷ integer_symbols f.b)
    (integer_tokens (is_below f.a) (unsigned_abs f.a) parts.0) (integer_tokens (is_below f.b) (unsigned_abs f.b) parts.1)) refl

array_tokens : (d : ArrayDecl) (f : Fill) → is_named d ≡ true → list_all is_size d.extents ≡ true → is_fill f ≡ true → AreTokens (array_symbols d f)
array_tokens d f n e h =
    joined (Key words.Array ∷ Name d.name ∷ flat_map extent_symbols d.extents) (fill_symbols f)
    (named d.name (flat_map extent_symbols d.extents) n (all_mapped is_symbol extent_symbols is_size extent_tokens d.extents e)) (fill_tokens f h)

arrays_tokens : (arrays : List ArrayDecl) (fills : List Fill) → list_all is_named arrays ≡ true → list_all is_array arrays ≡ true → total (extents_of arrays) ≤ 262144 → list_all is_fill fills ≡ true
    → AreTokens (arrays_symbols arrays fills)
arrays_tokens [] fills n a t h = refl
arrays_tokens (d ∷ ds) [] n a t h = refl
arrays_tokens (d ∷ ds) (f ∷ fs) n a t h =
    let names = and_parts (is_named d) (list_all is_named ds) n in
    let shapes = and_parts (is_array d) (list_all is_array ds) a in
    let fills = and_parts (is_fill f) (list_all is_fill fs) h in
    let extents = (and_parts _ (list_all (nat_le 1) d.extents) shapes.0).1 in
    joined (array_symbols d f) (arrays_symbols ds fs) (array_tokens d f names.0 (extents_fit d.extents extents (omega arith)) fills.0)
    (arrays_tokens ds fs names.1 shapes.1 (omega arith) fills.1)

-- a program

pub program_tokens : (name : List ℕ) (nest : LoopNest) (fills : List Fill) → IsTrue (is_nest nest) → IsPrintable name nest.arrays fills → AreTokens (program_symbols name nest fills)
program_tokens name nest fills formed p =
    let halves = and_parts (arrays_fit nest.arrays && all_conditions_fit nest.items most_conditions) _ formed in
    let formed_arrays = and_parts (arrays_fit nest.arrays) (all_conditions_fit nest.items most_conditions) halves.0 in
    let shapes = and_parts (list_all is_array nest.arrays) (nat_le (total (extents_of nest.arrays)) most_cells) formed_arrays.0 in
    let fits : items_fit nest.arrays nest.items [] ≡ true = (and_parts _ (items_fit nest.arrays nest.items []) halves.1).1 in
    let letters = letters_for nest.arrays in
    let lets = lets_symbols letters [] (minus_in_items nest.items) in
    let arrays = arrays_symbols nest.arrays fills in
    let items = items_symbols nest.arrays letters nest.items 0 in
    let body : AreTokens (lets ++ arrays ++ items) =
    joined (lets ++ arrays) items
    (joined lets arrays (lets_tokens letters [] (minus_in_items nest.items) (items_sizes_fit nest.arrays nest.items [] fits))
    (arrays_tokens nest.arrays fills p.named shapes.0 (leb-true (total (extents_of nest.arrays)) most_cells shapes.1) p.filled))
    (items_tokens nest.arrays letters p.named nest.items [] fits 0) in
    joined (Key words.Program ∷ Name name ∷ Mark signs.LeftBrace ∷ (lets ++ arrays ++ items)) (Mark signs.RightBrace ∷ []) (named name (Mark signs.LeftBrace ∷ (lets ++ arrays ++ items)) p.called body) refl
