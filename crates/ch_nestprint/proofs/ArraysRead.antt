-- Printed arrays are read as they were, each under a new name.
use Rattle.std.proofs.Common.{◌≡◌, ℕ, zero, suc, ◌+◌, ◌*◌, ◌<◌, ◌≤◌, ℤ, pos, negsuc, Bool, true, false, not, ◌&&◌, ◌||◌, List, [], ◌∷◌, ◌++◌, length, drop, Some, None, Ok, refl, sym, ap, codes, ◌∙◌, append_assoc, length-append, subst, arith}
use Rattle.std.specs.Prelude.{neg_ℤ, nat_le}
use Rattle.std.specs.Str.{bytes_eq}
use Rattle.std.specs.List.{flat_map, list_all}
use Rattle.std.proofs.Math.Nat.{mul-le-mul_left, mul_assoc}
use Rattle.std.proofs.lemmas.Bool.{and_parts, and_from, leb-true, le-leb, eqb-true}
use Rattle.std.proofs.lemmas.List.{append-nil}
use Rattle.ch_lex.specs.declared.error.Code2.TheVariants.{P1, D8}
use Rattle.ch_lex.specs.declared.keyword.Keyword.TheVariants as words
use Rattle.ch_lex.specs.declared.token.Sign.TheVariants as signs
use Rattle.ch_lex.specs.declared.token.Token.{Token}
use Rattle.ch_nest.specs.Arrays.{cells_in, extents_of, total}
use Rattle.ch_nest.specs.Limits.{most_cells, most_dimensions}
use Rattle.ch_nest.specs.Shape.{has_dimensions, is_array}
use Rattle.ch_nest.specs.declared.nest.ArrayDecl.{ArrayDecl}
use Rattle.ch_nest.specs.declared.nest.Fill.{Fill}
use Rattle.ch_nestparse.specs.declared.ahead.Look.{Look}
use Rattle.ch_nestparse.specs.declared.declarations.Declared.{Declared}
use Rattle.ch_nestparse.specs.declared.scope.Named.{Named}
use Rattle.ch_nestparse.specs.declared.scope.Named.TheVariants.{Let, Array}
use Rattle.ch_nestparse.specs.Distinct.{are_distinct, has_name}
use Rattle.ch_nestparse.specs.Declarations.{array_at, arrays_at, begins_array, extent_at, extent_if, extents_at, fill_at, fitting, is_extent, no_arrays, opens_bracket}
use Rattle.ch_nestparse.specs.Read.{◌>>=◌, Names, find_name, fresh_at, guarded, integer_at, is_keyword, is_sign, keyword_at, place, repeated, seen, sign_at, text_at}
use Rattle.ch_nestprint.specs.declared.symbol.Symbol.{Symbol}
use Rattle.ch_nestprint.specs.declared.symbol.Symbol.TheVariants.{Name, Number, Key, Mark}
use Rattle.ch_nestprint.specs.Names.{array_name, iterator_name, letters_for, minus_name}
use Rattle.ch_nestprint.specs.Printed.{array_symbols, arrays_symbols, extent_symbols, fill_symbols, integer_if, integer_symbols}
use Rattle.ch_nestprint.proofs.Amounts.{below_negsuc, below_pos}
use Rattle.ch_nestprint.proofs.Cases.{Each}
use Rattle.ch_nestprint.proofs.LetsRead.{IsEnd, LetNames, each_also, seen_long}
use Rattle.ch_nestprint.proofs.NamesFree.{IsFree, all_free}
use Rattle.ch_nestprint.proofs.NamesRead.{find_kept, find_new, find_none, iterator_is_no_minus, other_bytes, same_bytes}
use Rattle.ch_nestprint.proofs.RightsRead.{LetKnown}
use Rattle.ch_nestprint.proofs.Seeing.{Given, Passed, Sees, Valued, behind_front, fresh_given, front, given_bind, given_chosen, given_guarded, given_ok, given_other, keyword_given, minus_given, plain_given, seen_front, sign_given}

-- cells

cells_joined : (xs ys : List ℕ) → cells_in (xs ++ ys) ≡ cells_in xs * cells_in ys
cells_joined [] ys = omega arith
cells_joined (x ∷ xs) ys = ap (λ (n : ℕ). x * n) (cells_joined xs ys) ∙ sym (mul_assoc x (cells_in xs) (cells_in ys))

some_cells : (es : List ℕ) → list_all (nat_le 1) es ≡ true → 1 ≤ cells_in es
some_cells [] h = omega arith
some_cells (e ∷ es) h =
    let parts = and_parts (nat_le 1 e) (list_all (nat_le 1) es) h in
    let a : 1 ≤ e = leb-true 1 e parts.0 in
    let c = mul-le-mul_left e (some_cells es parts.1) in
    omega (arith, a, c)

-- an extent, with those before it, makes no more cells than all
cells_first : (found : List ℕ) (e : ℕ) (es : List ℕ) → list_all (nat_le 1) es ≡ true → cells_in found * e ≤ cells_in (found ++ e ∷ es)
cells_first found e es h =
    let c = mul-le-mul_left (cells_in found * e) (some_cells es h) in
    let j = cells_joined found (e ∷ es) in
    let a : cells_in found * (e * cells_in es) ≡ cells_in found * e * cells_in es = sym (mul_assoc (cells_in found) e (cells_in es)) in
    omega (arith, c, j, a)

-- names

pub record Placed (d : Declared) (done : List ArrayDecl) (fills : List Fill) (letters : ℕ) (sizes : List ℕ) : Type 0 where
  pub arrays : d.arrays ≡ done
  pub starts : d.fills ≡ fills
  pub cells : d.cells ≡ total (extents_of done)
  pub placed : (k n : ℕ) → has_dimensions done k n ≡ true → find_name (array_name done k) d.names ≡ Some (Array k n)
  pub lets : Each (LetKnown d.names letters) sizes
  pub free : (k : ℕ) → find_name (iterator_name letters k) d.names ≡ None
  pub fresh : (text : List ℕ) → IsFree letters text → Each (λ x. bytes_eq text x.name ≡ false) done → find_name text d.names ≡ None

-- a name that differs from those before, in the order of the list
abbrev Differs : List ℕ → List ArrayDecl → Type 0
Differs text done = Each (λ x. bytes_eq text x.name ≡ false) done

flipped : (xs ys : List ℕ) → bytes_eq xs ys ≡ false → bytes_eq ys xs ≡ false
flipped xs ys h = other_bytes ys xs (λ e. let g : bytes_eq xs ys ≡ true = ap (bytes_eq xs) e ∙ same_bytes xs in absurd (cc))

or_none : (a b : Bool) → (a || b) ≡ false → (a ≡ false) × (b ≡ false)
or_none true b h = absurd (cc)
or_none false b h = (refl, h)

not_true : (b : Bool) → not b ≡ true → b ≡ false
not_true true h = absurd (cc)
not_true false h = refl

unnamed : (text : List ℕ) (xs : List ArrayDecl) (a : ArrayDecl) (more : List ArrayDecl) → has_name text (xs ++ a ∷ more) ≡ false → bytes_eq text a.name ≡ false
unnamed text [] a more h = (or_none (bytes_eq text a.name) (has_name text more) h).0
unnamed text (x ∷ xs) a more h = unnamed text xs a more ((or_none (bytes_eq text x.name) (has_name text (xs ++ a ∷ more)) h).1)

first_differs : (x : ArrayDecl) (xs : List ArrayDecl) (a : ArrayDecl) (more : List ArrayDecl) → are_distinct (x ∷ (xs ++ a ∷ more)) ≡ true → bytes_eq x.name a.name ≡ false
first_differs x xs a more h =
    unnamed x.name xs a more (not_true (has_name x.name (xs ++ a ∷ more)) ((and_parts (not (has_name x.name (xs ++ a ∷ more))) (are_distinct (xs ++ a ∷ more)) h).0))

distinct_rest : (x : ArrayDecl) (xs : List ArrayDecl) → are_distinct (x ∷ xs) ≡ true → are_distinct xs ≡ true
distinct_rest x xs h = (and_parts (not (has_name x.name xs)) (are_distinct xs) h).1

new_differs : (done : List ArrayDecl) (a : ArrayDecl) (more : List ArrayDecl) → are_distinct (done ++ a ∷ more) ≡ true → Differs a.name done
new_differs [] a more h = tt
new_differs (x ∷ xs) a more h = (flipped x.name a.name (first_differs x xs a more h), new_differs xs a more (distinct_rest x (xs ++ a ∷ more) h))

differs_parts : (text : List ℕ) (done : List ArrayDecl) (a : ArrayDecl) → Differs text (done ++ a ∷ []) → Differs text done × (bytes_eq text a.name ≡ false)
differs_parts text [] a h = (tt, h.0)
differs_parts text (x ∷ xs) a h = let g = differs_parts text xs a h.1 in ((h.0, g.0), g.1)

-- what is placed at the end of a list

no_more : (k n : ℕ) → has_dimensions [] k n ≡ true → ⊥
no_more zero n h = cc
no_more (suc k) n h = cc

placed_last : (done : List ArrayDecl) (a : ArrayDecl) (k n : ℕ) (P : List ℕ → ℕ → Type 0) → has_dimensions (done ++ a ∷ []) k n ≡ true
    → (has_dimensions done k n ≡ true → P (array_name done k) k) → (length a.extents ≡ n → P a.name (length done)) → P (array_name (done ++ a ∷ []) k) k
placed_last [] a zero n P h before last = last (eqb-true (length a.extents) n h)
placed_last [] a (suc k) n P h before last = absurd (no_more k n h)
placed_last (x ∷ xs) a zero n P h before last = before h
placed_last (x ∷ xs) a (suc k) n P h before last =
    placed_last xs a k n (λ t j. P t (suc j)) h before last

total_joined : (xs : List ArrayDecl) (a : ArrayDecl) → total (extents_of (xs ++ a ∷ [])) ≡ total (extents_of xs) + cells_in a.extents
total_joined [] a = omega arith
total_joined (x ∷ xs) a = let e = total_joined xs a in omega (arith, e)

total_more : (xs ys : List ArrayDecl) → total (extents_of (xs ++ ys)) ≡ total (extents_of xs) + total (extents_of ys)
total_more [] ys = omega arith
total_more (x ∷ xs) ys = let e = total_more xs ys in omega (arith, e)

abbrev one_more : Declared → ArrayDecl → Fill → Declared
one_more d a f = record {
  names = d.names ++ (a.name, Array (length d.arrays) (length a.extents)) ∷ [];
  arrays = d.arrays ++ a ∷ [];
  fills = d.fills ++ f ∷ [];
  cells = d.cells + cells_in a.extents;
}

placed_more : (d : Declared) (done : List ArrayDecl) (fills : List Fill) (letters : ℕ) (sizes : List ℕ) (a : ArrayDecl) (f : Fill) → Placed d done fills letters sizes → IsFree letters a.name → Differs a.name done
    → Placed (one_more d a f) (done ++ a ∷ []) (fills ++ f ∷ []) letters sizes
placed_more d done fills letters sizes a f p apart differs =
    let named : Named = Array (length d.arrays) (length a.extents) in
    let more : Names = d.names ++ (a.name, named) ∷ [] in
    let new : find_name a.name d.names ≡ None = p.fresh a.name apart differs in
    let at : length d.arrays ≡ length done = ap length p.arrays in
    record {
      arrays = ap (λ (xs : List ArrayDecl). xs ++ a ∷ []) p.arrays;
      starts = ap (λ (xs : List Fill). xs ++ f ∷ []) p.starts;
      cells = ap (λ (n : ℕ). n + cells_in a.extents) p.cells ∙ sym (total_joined done a);
      placed = λ k n h. placed_last done a k n (λ t j. find_name t more ≡ Some (Array j n)) h
          (λ g. find_kept (array_name done k) d.names ((a.name, named) ∷ []) (Array k n) (p.placed k n g))
          (λ e. find_new a.name d.names named new ∙ ap (λ (j : ℕ). Some (Array j (length a.extents))) at ∙ ap (λ (m : ℕ). Some (Array (length done) m)) e);
      lets = each_also (LetKnown d.names letters) (LetKnown more letters) sizes (λ n k. find_kept (minus_name letters n) d.names ((a.name, named) ∷ []) (Let (neg_ℤ (pos n))) k) p.lets;
      free = λ k. find_none (iterator_name letters k) a.name d.names named (p.free k) (apart.0 k);
      fresh = λ text free h.
          let parts = differs_parts text done a h in
          find_none text a.name d.names named (p.fresh text free parts.0) parts.1;
    }

abbrev Bare : List Symbol → Type 0
Bare rest = is_sign signs.LeftBracket (front rest) ≡ false

abbrev fill_of : ℤ → ℤ → Fill
fill_of a b = record { a = a; b = b }

abbrev decl_of : List ℕ → List ℕ → ArrayDecl
decl_of name extents = record { name = name; extents = extents }

module _ (bytes : List ℕ) where
  integer_given : (z : ℤ) (ts : List Token) (rest : List Symbol) → Sees bytes ts (integer_symbols z ++ rest) → Given (Valued bytes z rest) (integer_at bytes P1 ts)
  integer_given (pos n) ts rest sees = plain_given bytes P1 n ts rest (sees ∙ ap (λ (b : Bool). integer_if b n ++ rest) (below_pos n))
  integer_given (negsuc n) ts rest sees = minus_given bytes P1 (suc n) ts rest (sees ∙ ap (λ (b : Bool). integer_if b (suc n) ++ rest) (below_negsuc n))

  extent_given : (names : Names) (array used : ℕ) (found : List ℕ) (e : ℕ) (ts : List Token) (rest : List Symbol) → 1 ≤ e → used + cells_in found * e ≤ 262144 → Sees bytes ts (extent_symbols e ++ rest)
      → Given (Valued bytes (found ++ e ∷ []) rest) (extent_at bytes names array used found ts)
  unfolding extent_at
  extent_given names array used found e ts rest some few sees =
      let closes : List Symbol = Mark signs.RightBracket ∷ rest in
      let goal = Valued bytes (found ++ e ∷ []) rest in
      let test : is_extent used (cells_in found) (pos e) ≡ true = and_from (nat_le 1 e) (nat_le (used + cells_in found * e) most_cells) (le-leb 1 e some) (le-leb (used + cells_in found * e) most_cells few) in
      given_bind (Passed bytes (Number e ∷ closes)) goal (sign_at bytes P1 signs.LeftBracket ts) _ (sign_given bytes P1 signs.LeftBracket ts (Number e ∷ closes) sees) (λ inside a.
      let read : Given (Valued bytes (pos e) closes) (extent_if (seen bytes inside) (place bytes inside) (find_name (text_at bytes inside) names) (drop 1 inside)) =
      ((pos e, drop 1 inside), ap (λ (l : Look). extent_if l (place bytes inside) (find_name (text_at bytes inside) names) (drop 1 inside)) (seen_front bytes inside (Number e ∷ closes) a), (refl, behind_front bytes inside (Number e) closes a)) in
      given_bind (Valued bytes (pos e) closes) goal (extent_if (seen bytes inside) (place bytes inside) (find_name (text_at bytes inside) names) (drop 1 inside)) _ read (λ extent b.
      let fits : Given (λ n. n ≡ e) (fitting array used (cells_in found) extent.0) =
      (e, ap (λ (z : ℤ). fitting array used (cells_in found) z) b.0 ∙ ap (λ (t : Bool). guarded t D8 array (λ _. Ok e)) test, refl) in
      given_bind (λ n. n ≡ e) goal (fitting array used (cells_in found) extent.0) _ fits (λ n c.
      given_bind (Passed bytes rest) goal (sign_at bytes P1 signs.RightBracket extent.1) _ (sign_given bytes P1 signs.RightBracket extent.1 rest b.1) (λ us d.
      given_ok goal (found ++ n ∷ [], us) (ap (λ (x : ℕ). found ++ x ∷ []) c, d)))))

  more_extents : (names : Names) (array used : ℕ) (es found : List ℕ) (k : ℕ) (ts : List Token) (rest : List Symbol) → length es ≤ k → list_all (nat_le 1) es ≡ true → used + cells_in (found ++ es) ≤ 262144
      → Bare rest → Sees bytes ts (flat_map extent_symbols es ++ rest) → Given (Valued bytes (found ++ es) rest) (repeated (opens_bracket bytes) (extent_at bytes names array used) k found ts)
  unfolding repeated
  more_extents names array used [] found zero ts rest l some few bare sees = given_ok (Valued bytes (found ++ []) rest) (found, ts) (sym (append-nil found), sees)
  more_extents names array used [] found (suc k) ts rest l some few bare sees =
      given_other (Valued bytes (found ++ []) rest) (opens_bracket bytes ts) (λ _. extent_at bytes names array used found ts >>= λ x. repeated (opens_bracket bytes) (extent_at bytes names array used) k x.0 x.1) (λ _. Ok (found, ts))
      (ap (is_sign signs.LeftBracket) (seen_front bytes ts rest sees) ∙ bare) (given_ok (Valued bytes (found ++ []) rest) (found, ts) (sym (append-nil found), sees))
  more_extents names array used (e ∷ es) found zero ts rest l some few bare sees = absurd (omega arith)
  more_extents names array used (e ∷ es) found (suc k) ts rest l some few bare sees =
      let parts = and_parts (nat_le 1 e) (list_all (nat_le 1) es) some in
      let more : List Symbol = flat_map extent_symbols es ++ rest in
      let goal = Valued bytes (found ++ e ∷ es) rest in
      let cells = cells_first found e es parts.1 in
      let joined : (found ++ e ∷ []) ++ es ≡ found ++ e ∷ es = append_assoc found (e ∷ []) es in
      given_chosen goal (opens_bracket bytes ts) (λ _. extent_at bytes names array used found ts >>= λ x. repeated (opens_bracket bytes) (extent_at bytes names array used) k x.0 x.1) (λ _. Ok (found, ts))
      (ap (is_sign signs.LeftBracket) (seen_front bytes ts (extent_symbols e ++ more) sees))
      (given_bind (Valued bytes (found ++ e ∷ []) more) goal (extent_at bytes names array used found ts) (λ x. repeated (opens_bracket bytes) (extent_at bytes names array used) k x.0 x.1)
      (extent_given names array used found e ts more (leb-true 1 e parts.0) (omega (arith, cells)) sees) (λ x a.
      let whole : x.0 ++ es ≡ found ++ e ∷ es = ap (λ (xs : List ℕ). xs ++ es) a.0 ∙ joined in
      let fits : used + cells_in (x.0 ++ es) ≤ 262144 = rw whole few in
      let again = more_extents names array used es x.0 k x.1 rest (omega arith) parts.1 fits bare a.1 in
      (again.0, again.1, (again.2.0 ∙ whole, again.2.1))))

  extents_given : (names : Names) (array used : ℕ) (es : List ℕ) (ts : List Token) (rest : List Symbol) → 1 ≤ length es → length es ≤ 4 → list_all (nat_le 1) es ≡ true → used + cells_in es ≤ 262144
      → Bare rest → Sees bytes ts (flat_map extent_symbols es ++ rest) → Given (Valued bytes es rest) (extents_at bytes names array used ts)
  unfolding extents_at
  extents_given names array used [] ts rest l m some few bare sees = absurd (omega arith)
  extents_given names array used (e ∷ es) ts rest l m some few bare sees =
      let parts = and_parts (nat_le 1 e) (list_all (nat_le 1) es) some in
      let more : List Symbol = flat_map extent_symbols es ++ rest in
      let goal = Valued bytes (e ∷ es) rest in
      let cells = cells_first [] e es parts.1 in
      given_bind (Valued bytes (e ∷ []) more) goal (extent_at bytes names array used [] ts) _ (extent_given names array used [] e ts more (leb-true 1 e parts.0) (omega (arith, cells)) sees) (λ x a.
      let whole : x.0 ++ es ≡ e ∷ es = ap (λ (xs : List ℕ). xs ++ es) a.0 in
      let fits : used + cells_in (x.0 ++ es) ≤ 262144 = rw whole few in
      let read = more_extents names array used es x.0 3 x.1 rest (omega arith) parts.1 fits bare a.1 in
      given_bind (Valued bytes (x.0 ++ es) rest) goal (repeated (opens_bracket bytes) (extent_at bytes names array used) 3 x.0 x.1) _ read (λ y b.
      let none : not (opens_bracket bytes y.1) ≡ true = ap (λ (k : Look). not (is_sign signs.LeftBracket k)) (seen_front bytes y.1 rest b.1) ∙ ap not bare in
      given_guarded goal (not (opens_bracket bytes y.1)) P1 (place bytes y.1) (λ _. Ok y) none (given_ok goal y (b.0 ∙ whole, b.1))))

  fill_given : (f : Fill) (ts : List Token) (rest : List Symbol) → Sees bytes ts (fill_symbols f ++ rest) → Given (Valued bytes f rest) (fill_at bytes ts)
  unfolding fill_at
  fill_given f ts rest sees =
      let goal = Valued bytes f rest in
      let sixth : List Symbol = Mark signs.Semicolon ∷ rest in
      let fifth : List Symbol = Mark signs.RightParen ∷ sixth in
      let fourth : List Symbol = integer_symbols f.b ++ fifth in
      let third : List Symbol = Mark signs.Comma ∷ fourth in
      let second : List Symbol = integer_symbols f.a ++ third in
      let first : List Symbol = Mark signs.LeftParen ∷ second in
      let head : List Symbol = Mark signs.Equals ∷ Key words.Fill ∷ Mark signs.LeftParen ∷ integer_symbols f.a in
      let flat : Sees bytes ts (Mark signs.Equals ∷ Key words.Fill ∷ first) =
      sees ∙ append_assoc (head ++ (Mark signs.Comma ∷ integer_symbols f.b)) (Mark signs.RightParen ∷ Mark signs.Semicolon ∷ []) rest ∙ append_assoc head (Mark signs.Comma ∷ integer_symbols f.b) fifth in
      given_bind (Passed bytes (Key words.Fill ∷ first)) goal (sign_at bytes P1 signs.Equals ts) _ (sign_given bytes P1 signs.Equals ts (Key words.Fill ∷ first) flat) (λ equals a.
      given_bind (Passed bytes first) goal (keyword_at bytes P1 words.Fill equals) _ (keyword_given bytes P1 words.Fill equals first a) (λ word b.
      given_bind (Passed bytes second) goal (sign_at bytes P1 signs.LeftParen word) _ (sign_given bytes P1 signs.LeftParen word second b) (λ paren c.
      given_bind (Valued bytes f.a third) goal (integer_at bytes P1 paren) _ (integer_given f.a paren third c) (λ x d.
      given_bind (Passed bytes fourth) goal (sign_at bytes P1 signs.Comma x.1) _ (sign_given bytes P1 signs.Comma x.1 fourth d.1) (λ comma e.
      given_bind (Valued bytes f.b fifth) goal (integer_at bytes P1 comma) _ (integer_given f.b comma fifth e) (λ y g.
      given_bind (Passed bytes sixth) goal (sign_at bytes P1 signs.RightParen y.1) _ (sign_given bytes P1 signs.RightParen y.1 sixth g.1) (λ close h.
      given_bind (Passed bytes rest) goal (sign_at bytes P1 signs.Semicolon close) _ (sign_given bytes P1 signs.Semicolon close rest h) (λ us i.
      given_ok goal (record { a = x.0; b = y.0 }, us) (ap (λ (z : ℤ). fill_of z y.0) d.0 ∙ ap (λ (z : ℤ). fill_of f.a z) g.0, i)))))))))

  array_given : (d : Declared) (a : ArrayDecl) (f : Fill) (ts : List Token) (rest : List Symbol) → find_name a.name d.names ≡ None → is_array a ≡ true → d.cells + cells_in a.extents ≤ 262144
      → Sees bytes ts (array_symbols a f ++ rest) → Given (Valued bytes (one_more d a f) rest) (array_at bytes d ts)
  unfolding array_at
  array_given d a f ts rest fresh shape few sees =
      let goal = Valued bytes (one_more d a f) rest in
      let shapes = and_parts (nat_le 1 (length a.extents) && nat_le (length a.extents) most_dimensions) (list_all (nat_le 1) a.extents) shape in
      let counts = and_parts (nat_le 1 (length a.extents)) (nat_le (length a.extents) most_dimensions) shapes.0 in
      let fill : List Symbol = fill_symbols f ++ rest in
      let extents : List Symbol = flat_map extent_symbols a.extents ++ fill in
      let flat : Sees bytes ts (Key words.Array ∷ Name a.name ∷ extents) = sees ∙ append_assoc (Key words.Array ∷ Name a.name ∷ flat_map extent_symbols a.extents) (fill_symbols f) rest in
      given_bind (Passed bytes (Name a.name ∷ extents)) goal (keyword_at bytes P1 words.Array ts) _ (keyword_given bytes P1 words.Array ts (Name a.name ∷ extents) flat) (λ word b.
      given_bind (Valued bytes a.name extents) goal (fresh_at bytes d.names word) _ (fresh_given bytes d.names a.name word extents fresh b) (λ n c.
      given_bind (Valued bytes a.extents fill) goal (extents_at bytes d.names (place bytes word) d.cells n.1) _
      (extents_given d.names (place bytes word) d.cells a.extents n.1 fill (leb-true 1 (length a.extents) counts.0) (leb-true (length a.extents) most_dimensions counts.1) shapes.1 few refl c.1) (λ es e.
      given_bind (Valued bytes f rest) goal (fill_at bytes es.1) _ (fill_given f es.1 rest e.1) (λ x g.
      given_ok goal (one_more d (record { name = n.0; extents = es.0 }) x.0, x.1)
      (ap (λ (t : List ℕ). one_more d (decl_of t es.0) x.0) c.0 ∙ ap (λ (t : List ℕ). one_more d (decl_of a.name t) x.0) e.0 ∙ ap (one_more d a) g.0, g.1)))))

  abbrev pub ArraysAfter : List ArrayDecl → List Fill → ℕ → List ℕ → List Symbol → Declared × List Token → Type 0
  ArraysAfter arrays fills letters sizes rest r = Placed r.0 arrays fills letters sizes × Sees bytes r.1 rest

  arrays_end : (letters : ℕ) (sizes : List ℕ) (done : List ArrayDecl) (fills : List Fill) (k : ℕ) (d : Declared) (ts : List Token) (rest : List Symbol) → Placed d done fills letters sizes → IsEnd words.Array rest
      → Sees bytes ts rest → Given (ArraysAfter done fills letters sizes rest) (repeated (begins_array bytes) (array_at bytes) k d ts)
  unfolding repeated
  arrays_end letters sizes done fills zero d ts rest p ends sees = given_ok (ArraysAfter done fills letters sizes rest) (d, ts) (p, sees)
  arrays_end letters sizes done fills (suc k) d ts rest p ends sees =
      given_other (ArraysAfter done fills letters sizes rest) (begins_array bytes ts) (λ _. array_at bytes d ts >>= λ x. repeated (begins_array bytes) (array_at bytes) k x.0 x.1) (λ _. Ok (d, ts))
      (ap (is_keyword words.Array) (seen_front bytes ts rest sees) ∙ ends) (given_ok (ArraysAfter done fills letters sizes rest) (d, ts) (p, sees))

  each_array : (letters : ℕ) (sizes : List ℕ) (arrays : List ArrayDecl) (fills : List Fill) (done : List ArrayDecl) (starts : List Fill) (k : ℕ) (d : Declared) (ts : List Token) (rest : List Symbol)
      → length fills ≡ length arrays → Placed d done starts letters sizes → Each (λ x. IsFree letters x.name) arrays → are_distinct (done ++ arrays) ≡ true → list_all is_array arrays ≡ true
      → total (extents_of (done ++ arrays)) ≤ 262144 → IsEnd words.Array rest → length (arrays_symbols arrays fills) ≤ k → Sees bytes ts (arrays_symbols arrays fills ++ rest)
      → Given (ArraysAfter (done ++ arrays) (starts ++ fills) letters sizes rest) (repeated (begins_array bytes) (array_at bytes) k d ts)
  unfolding repeated
  each_array letters sizes [] [] done starts k d ts rest same p apart differ shapes few ends l sees =
      let a : done ≡ done ++ [] = sym (append-nil done) in
      let b : starts ≡ starts ++ [] = sym (append-nil starts) in
      let made = arrays_end letters sizes done starts k d ts rest p ends sees in
      rw (a, b) at made
  each_array letters sizes [] (f ∷ fs) done starts k d ts rest same p apart differ shapes few ends l sees = absurd (omega arith)
  each_array letters sizes (a ∷ more_arrays) [] done starts k d ts rest same p apart differ shapes few ends l sees = absurd (omega arith)
  each_array letters sizes (a ∷ more_arrays) (f ∷ fs) done starts zero d ts rest same p apart differ shapes few ends l sees = absurd (omega arith)
  each_array letters sizes (a ∷ more_arrays) (f ∷ fs) done starts (suc k) d ts rest same p apart differ shapes few ends l sees =
      let parts = and_parts (is_array a) (list_all is_array more_arrays) shapes in
      let tail = arrays_symbols more_arrays fs in
      let more : List Symbol = tail ++ rest in
      let goal = ArraysAfter (done ++ a ∷ more_arrays) (starts ++ f ∷ fs) letters sizes rest in
      let flat : Sees bytes ts (array_symbols a f ++ more) = sees ∙ append_assoc (array_symbols a f) tail rest in
      let joined : (done ++ a ∷ []) ++ more_arrays ≡ done ++ a ∷ more_arrays = append_assoc done (a ∷ []) more_arrays in
      let joined_fills : (starts ++ f ∷ []) ++ fs ≡ starts ++ f ∷ fs = append_assoc starts (f ∷ []) fs in
      let differs = new_differs done a more_arrays differ in
      let sum = total_more done (a ∷ more_arrays) in
      let cells = p.cells in
      let next : Declared = one_more d a f in
      let fresh : find_name a.name d.names ≡ None = p.fresh a.name apart.0 differs in
      let few_here : d.cells + cells_in a.extents ≤ 262144 = omega (arith, sum, cells) in
      given_chosen goal (begins_array bytes ts) (λ _. array_at bytes d ts >>= λ x. repeated (begins_array bytes) (array_at bytes) k x.0 x.1) (λ _. Ok (d, ts))
      (ap (is_keyword words.Array) (seen_front bytes ts (array_symbols a f ++ more) flat))
      (given_bind (Valued bytes next more) goal (array_at bytes d ts) (λ x. repeated (begins_array bytes) (array_at bytes) k x.0 x.1) (array_given d a f ts more fresh parts.0 few_here flat) (λ x b.
      let now : Placed x.0 (done ++ a ∷ []) (starts ++ f ∷ []) letters sizes = subst (λ (y : Declared). Placed y (done ++ a ∷ []) (starts ++ f ∷ []) letters sizes) (sym b.0) (placed_more d done starts letters sizes a f p apart.0 differs) in
      let distinct : are_distinct ((done ++ a ∷ []) ++ more_arrays) ≡ true = rw joined differ in
      let fits : total (extents_of ((done ++ a ∷ []) ++ more_arrays)) ≤ 262144 = rw joined few in
      let rest_long : length tail ≤ k = omega (arith, length-append (array_symbols a f) tail) in
      let made = each_array letters sizes more_arrays fs (done ++ a ∷ []) (starts ++ f ∷ []) k x.0 x.1 rest (omega arith) now apart.1 distinct parts.1 fits ends rest_long b.1 in
      rw (joined, joined_fills) at made))

  none_placed : (names : Names) (letters : ℕ) (sizes : List ℕ) → LetNames names letters sizes → Placed (no_arrays names) [] [] letters sizes
  none_placed names letters sizes lets = record {
    arrays = refl;
    starts = refl;
    cells = refl;
    placed = λ k n h. absurd (no_more k n h);
    lets = lets.known;
    free = λ k. lets.free (iterator_name letters k) (λ size. iterator_is_no_minus letters k size);
    fresh = λ text free h. lets.free text free.1;
  }

  pub arrays_given : (arrays : List ArrayDecl) (fills : List Fill) (names : Names) (sizes : List ℕ) (ts : List Token) (rest : List Symbol) → length fills ≡ length arrays → LetNames names (letters_for arrays) sizes
      → are_distinct arrays ≡ true → list_all is_array arrays ≡ true → total (extents_of arrays) ≤ 262144 → IsEnd words.Array rest → Sees bytes ts (arrays_symbols arrays fills ++ rest)
      → Given (ArraysAfter arrays fills (letters_for arrays) sizes rest) (arrays_at bytes names ts)
  arrays_given arrays fills names sizes ts rest same lets differ shapes few ends sees =
      let letters = letters_for arrays in
      let n = seen_long bytes letters ts (arrays_symbols arrays fills ++ rest) sees in
      each_array letters sizes arrays fills [] [] (length ts) (no_arrays names) ts rest same (none_placed names letters sizes lets) (all_free arrays) differ shapes few ends
      (omega (arith, n, length-append (arrays_symbols arrays fills) rest)) sees
