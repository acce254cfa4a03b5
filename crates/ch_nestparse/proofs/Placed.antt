-- Each refusal names a byte of the text, or its end.
use Rattle.std.proofs.Common.{◌≡◌, ℕ, zero, suc, ◌+◌, ◌≤◌, ◌<◌, ℤ, pos, negsuc, neg_ℤ, Bool, true, false, not, ◌&&◌, ◌||◌, nat_lt, List, [], ◌∷◌, ◌++◌, length, drop, map, take, ◌-◌, Option, Some, None, Result, Ok, Err, refl, ap, subst, arith}
use Rattle.std.specs.List.{All}
use Rattle.std.specs.Str.{bytes_eq}
use Rattle.std.proofs.lemmas.List.Elements.{All-nil, All-cons}
use Rattle.ch_affine.specs.Combined.{combined, first_wide, is_wide}
use Rattle.ch_affine.specs.Form.{Form}
use Rattle.ch_affine.specs.declared.system.Range.{Range}
use Rattle.ch_lex.specs.Cut.{IsCut}
use Rattle.ch_lex.specs.declared.error.Code2.{Code2}
use Rattle.ch_lex.specs.declared.error.Code2.TheVariants.{P1, P2, P3, P4, P5, P6, P7, A1, D8}
use Rattle.ch_lex.specs.declared.error.ParseError.{ParseError}
use Rattle.ch_lex.specs.declared.error.ParseError.TheVariants.{Memory, Refused}
use Rattle.ch_lex.specs.declared.keyword.Keyword.{Keyword}
use Rattle.ch_lex.specs.declared.keyword.Keyword.TheVariants as words
use Rattle.ch_lex.specs.declared.token.Sign.{Sign}
use Rattle.ch_lex.specs.declared.token.Sign.TheVariants as signs
use Rattle.ch_lex.specs.declared.token.Token.{Token}
use Rattle.ch_nest.specs.Arrays.{cells_in}
use Rattle.ch_nest.specs.Limits.{most_affine, most_conditions, most_nesting, most_operands, most_statements, deepest}
use Rattle.ch_nest.specs.Shape.{high_end, is_at_most, low_end, step_fits}
use Rattle.ch_nest.specs.declared.nest.Expr.{Expr}
use Rattle.ch_nest.specs.declared.nest.Expr.TheVariants as exprs
use Rattle.ch_nest.specs.declared.nest.Item.TheVariants.{Loop, If, Assign}
use Rattle.ch_nest.specs.declared.nest.Sub.{Sub}
use Rattle.ch_nestparse.specs.declared.ahead.Ending.{Ending}
use Rattle.ch_nestparse.specs.declared.ahead.Ending.TheVariants as endings
use Rattle.ch_nestparse.specs.declared.ahead.Look.{Look}
use Rattle.ch_nestparse.specs.declared.ahead.Look.TheVariants as looks
use Rattle.ch_nestparse.specs.declared.ahead.Opening.{Opening}
use Rattle.ch_nestparse.specs.declared.ahead.Opening.TheVariants as openings
use Rattle.ch_nestparse.specs.declared.declarations.Declared.{Declared}
use Rattle.ch_nestparse.specs.declared.part.Part.{Part}
use Rattle.ch_nestparse.specs.declared.scope.Named.{Named}
use Rattle.ch_nestparse.specs.declared.scope.Named.TheVariants.{Let, Array, Iterator}
use Rattle.ch_nestparse.specs.Accesses.{accesses_in, begins_access, with_place}
use Rattle.ch_nestparse.specs.Declarations.{array_at, arrays_at, begins_array, begins_let, extent_at, extent_if, extents_at, fill_at, fitting, is_extent, let_at, lets_at, no_arrays, opens_bracket}
use Rattle.ch_nestparse.specs.Expressions.{Counted, Reader, Sort, begins_operand, behind, behind_minus, between_parens, chain, counted_operand, expression, factor, factor_sign, fits_behind, opened, opening, product, star_after, step, sum, summand, term, term_sign, unary}
use Rattle.ch_nestparse.specs.Forms.{form_at, iterator_part, joined_parts, limit, named_part, narrow, narrow_if, number_part, number_part_if, operand_part, parts, times}
use Rattle.ch_nestparse.specs.declared.conditions.Relation.TheVariants as relations
use Rattle.ch_nestparse.specs.Conditions.{condition_at, relation_if, row_of}
use Rattle.ch_nestparse.specs.Gives.{Fails}
use Rattle.ch_nestparse.specs.Heads.{bounded, bounded_if, ends_at, head_at, high_at, last_of, low_at, more_at, next_at, next_is_comma, number_step_at, same_name_at, several_at, single_at, step_at, strict_if}
use Rattle.ch_nestparse.specs.Inside.{IsWithin}
use Rattle.ch_nestparse.specs.Items.{Items, assign_at, body_at, cif_at, is_more, item_at, item_by, items_at, loop_at, written}
use Rattle.ch_nestparse.specs.Read.{◌>>=◌, Names, Read, begins, begins_if, choose, find_name, fresh_at, guarded, integer_at, is_new, keyword_at, name_at, name_if, next_is, number_at, number_if, place, refused, repeated, seen, sign_at, text_at}
use Rattle.ch_nestparse.specs.Rights.{access_at, always, joined_right, named_right, operand_right, right_at, rights, sub_at}
use Rattle.ch_nestparse.specs.Sections.{Section, before, section_at}
use Rattle.ch_nestparse.proofs.Posts.{Post, post_bind, post_err, post_ok}

module _ (bytes : List ℕ) where
  -- each of these tokens begins in the text
  abbrev pub Inside : List Token → Type 0
  Inside [] = Unit {0}
  Inside (t ∷ ts) = (t.start < length bytes) × Inside ts

  inside_drop : (ts : List Token) → Inside ts → Inside (drop 1 ts)
  inside_drop [] h = tt
  inside_drop (t ∷ ts) h = h.1

  inside_place : (ts : List Token) → Inside ts → place bytes ts ≤ length bytes
  inside_place [] h = omega arith
  inside_place (t ∷ ts) h = let l = h.0 in omega (arith, l)

  abbrev pub Refuses : {X : Type 0} → Result X ParseError → Type 0
  Refuses r = (e : ParseError) → r ≡ Err e → IsWithin (length bytes) e

  -- a reading that gives such a value, or is refused at a place of the text
  abbrev pub Placed : {X : Type 0} → (X → Type 0) → Result X ParseError → Type 0
  Placed P r = Post P r × Refuses r

  -- a value and tokens after it that begin in the text
  abbrev Reads : {X : Type 0} → Read X → Type 0
  Reads r = Placed (λ x. Inside x.1) r

  refuses_ok : {X : Type 0} (x : X) → Refuses (Ok x)
  refuses_ok x e h = absurd cc

  refuses_err : {X : Type 0} (code : Code2) (at : ℕ) (value : ℤ) → at ≤ length bytes → Refuses {X = X} (Err (Refused code at value))
  refuses_err code at value l e h = let s : Refused code at value ≡ e = cc in subst (IsWithin (length bytes)) s l

  refuses_bind : {A B : Type 0} {P : A → Type 0} (r : Result A ParseError) (f : A → Result B ParseError) → Placed P r → ((x : A) → P x → Refuses (f x)) → Refuses (r >>= f)
  refuses_bind (Ok x) f p q e h = q x (p.0 x refl) e h
  refuses_bind (Err d) f p q e h = let s : d ≡ e = cc in p.1 e (ap Err s)

  pub placed_ok : {X : Type 0} (P : X → Type 0) (x : X) → P x → Placed P (Ok x)
  placed_ok P x p = (post_ok P x p, refuses_ok x)

  pub placed_err : {X : Type 0} (P : X → Type 0) (code : Code2) (at : ℕ) (value : ℤ) → at ≤ length bytes → Placed P (Err (Refused code at value))
  placed_err P code at value l = (post_err P (Refused code at value), refuses_err code at value l)

  pub placed_bind : {A B : Type 0} {P : A → Type 0} {Q : B → Type 0} {r : Result A ParseError} {f : A → Result B ParseError} → Placed P r → ((x : A) → P x → Placed Q (f x)) → Placed Q (r >>= f)
  placed_bind {r = r} {f = f} p q = (post_bind p.0 (λ x h. (q x h).0), refuses_bind r f p (λ x h. (q x h).1))

  placed_any : {X : Type 0} {r : Result X ParseError} → Refuses r → Placed (λ x. Unit {0}) r
  placed_any h = (λ x e. tt, h)

  pub placed_guarded : {X : Type 0} {P : X → Type 0} (test : Bool) (code : Code2) (at : ℕ) (read : Unit {0} → Result X ParseError) → at ≤ length bytes → Placed P (read tt) → Placed P (guarded test code at read)
  placed_guarded true code at read l p = p
  placed_guarded {P = P} false code at read l p = placed_err P code at (pos 0) l

  pub placed_choose : {X : Type 0} {P : X → Type 0} (test : Bool) (this that : Unit {0} → Result X ParseError) → Placed P (this tt) → Placed P (that tt) → Placed P (choose test this that)
  placed_choose true this that p q = p
  placed_choose false this that p q = q

  -- single tokens

  sign_placed : (code : Code2) (s : Sign) (ts : List Token) → Inside ts → Placed Inside (sign_at bytes code s ts)
  unfolding sign_at
  sign_placed code s ts h = placed_guarded (next_is bytes s ts) code (place bytes ts) (λ _. Ok (drop 1 ts)) (inside_place ts h) (placed_ok Inside (drop 1 ts) (inside_drop ts h))

  keyword_placed : (code : Code2) (k : Keyword) (ts : List Token) → Inside ts → Placed Inside (keyword_at bytes code k ts)
  unfolding keyword_at
  keyword_placed code k ts h = placed_guarded (begins bytes k ts) code (place bytes ts) (λ _. Ok (drop 1 ts)) (inside_place ts h) (placed_ok Inside (drop 1 ts) (inside_drop ts h))

  name_if_placed : (look : Look) (code : Code2) (at : ℕ) (text : List ℕ) (ts : List Token) → at ≤ length bytes → Inside ts → Reads (name_if look code at text ts)
  name_if_placed looks.Name code at text ts l h = placed_ok (λ x. Inside x.1) (text, ts) h
  name_if_placed other code at text ts l h = placed_err (λ x. Inside x.1) code at (pos 0) l

  name_placed : (code : Code2) (ts : List Token) → Inside ts → Reads (name_at bytes code ts)
  unfolding name_at
  name_placed code ts h = name_if_placed (seen bytes ts) code (place bytes ts) (text_at bytes ts) (drop 1 ts) (inside_place ts h) (inside_drop ts h)

  number_if_placed : (look : Look) (code : Code2) (at : ℕ) (ts : List Token) → at ≤ length bytes → Inside ts → Reads (number_if look code at ts)
  number_if_placed (looks.Number n) code at ts l h = placed_ok (λ x. Inside x.1) (n, ts) h
  number_if_placed other code at ts l h = placed_err (λ x. Inside x.1) code at (pos 0) l

  number_placed : (code : Code2) (ts : List Token) → Inside ts → Reads (number_at bytes code ts)
  unfolding number_at
  number_placed code ts h = number_if_placed (seen bytes ts) code (place bytes ts) (drop 1 ts) (inside_place ts h) (inside_drop ts h)

  integer_placed : (code : Code2) (ts : List Token) → Inside ts → Reads (integer_at bytes code ts)
  unfolding integer_at
  integer_placed code ts h =
      placed_choose (next_is bytes signs.Minus ts)
      (λ _. number_at bytes code (drop 1 ts) >>= λ n. Ok (neg_ℤ (pos n.0), n.1))
      (λ _. number_at bytes code ts >>= λ n. Ok (pos n.0, n.1))
      (placed_bind (number_placed code (drop 1 ts) (inside_drop ts h)) (λ n g. placed_ok (λ x. Inside x.1) (neg_ℤ (pos n.0), n.1) g))
      (placed_bind (number_placed code ts h) (λ n g. placed_ok (λ x. Inside x.1) (pos n.0, n.1) g))

  fresh_placed : (names : Names) (ts : List Token) → Inside ts → Reads (fresh_at bytes names ts)
  unfolding fresh_at
  fresh_placed names ts h =
      placed_bind (name_placed P1 ts h) (λ n g.
      placed_guarded (is_new (find_name n.0 names)) P3 (place bytes ts) (λ _. Ok n) (inside_place ts h) (placed_ok (λ x. Inside x.1) n g))

  repeated_placed : {S : Type 0} (goes : List Token → Bool) (one : S → List Token → Read S) → ((s : S) (ts : List Token) → Inside ts → Reads (one s ts))
      → (k : ℕ) (s : S) (ts : List Token) → Inside ts → Reads (repeated goes one k s ts)
  unfolding repeated
  repeated_placed goes one each zero s ts h = placed_ok (λ x. Inside x.1) (s, ts) h
  repeated_placed goes one each (suc k) s ts h =
      placed_choose (goes ts) (λ _. one s ts >>= λ x. repeated goes one k x.0 x.1) (λ _. Ok (s, ts))
      (placed_bind (each s ts h) (λ x g. repeated_placed goes one each k x.0 x.1 g))
      (placed_ok (λ x. Inside x.1) (s, ts) h)

  -- lets and arrays

  let_placed : (names : Names) (ts : List Token) → Inside ts → Reads (let_at bytes names ts)
  unfolding let_at
  let_placed names ts h =
      placed_bind (keyword_placed P1 words.Let ts h) (λ word a.
      placed_bind (fresh_placed names word a) (λ name b.
      placed_bind (sign_placed P1 signs.Equals name.1 b) (λ equals c.
      placed_bind (integer_placed P1 equals c) (λ value d.
      placed_bind (sign_placed P1 signs.Semicolon value.1 d) (λ rest e.
      placed_ok (λ x. Inside x.1) (names ++ (name.0, Let value.0) ∷ [], rest) e)))))

  lets_placed : (ts : List Token) → Inside ts → Reads (lets_at bytes ts)
  lets_placed ts h = repeated_placed (begins_let bytes) (let_at bytes) let_placed (length ts) [] ts h

  extent_if_placed : (look : Look) (at : ℕ) (named : Option Named) (ts : List Token) → at ≤ length bytes → Inside ts → Reads (extent_if look at named ts)
  extent_if_placed (looks.Number n) at named ts l h = placed_ok (λ x. Inside x.1) (pos n, ts) h
  extent_if_placed looks.Name at (Some (Let z)) ts l h = placed_ok (λ x. Inside x.1) (z, ts) h
  extent_if_placed looks.Name at (Some (Array k n)) ts l h = placed_err (λ x. Inside x.1) P2 at (pos 0) l
  extent_if_placed looks.Name at (Some (Iterator k)) ts l h = placed_err (λ x. Inside x.1) P2 at (pos 0) l
  extent_if_placed looks.Name at None ts l h = placed_err (λ x. Inside x.1) P2 at (pos 0) l
  extent_if_placed (looks.Keyword k) at named ts l h = placed_err (λ x. Inside x.1) P1 at (pos 0) l
  extent_if_placed (looks.Sign s) at named ts l h = placed_err (λ x. Inside x.1) P1 at (pos 0) l
  extent_if_placed looks.End at named ts l h = placed_err (λ x. Inside x.1) P1 at (pos 0) l

  fitting_placed : (array used size : ℕ) (z : ℤ) → array ≤ length bytes → Placed (λ x. Unit {0}) (fitting array used size z)
  fitting_placed array used size z l = placed_guarded (is_extent used size z) D8 array (λ _. Ok _) l (placed_ok (λ x. Unit {0}) _ tt)

  extent_placed : (names : Names) (array used : ℕ) → array ≤ length bytes → (found : List ℕ) (ts : List Token) → Inside ts → Reads (extent_at bytes names array used found ts)
  unfolding extent_at
  extent_placed names array used l found ts h =
      placed_bind (sign_placed P1 signs.LeftBracket ts h) (λ inside a.
      placed_bind (extent_if_placed (seen bytes inside) (place bytes inside) (find_name (text_at bytes inside) names) (drop 1 inside) (inside_place inside a) (inside_drop inside a)) (λ extent b.
      placed_bind (fitting_placed array used (cells_in found) extent.0 l) (λ fits c.
      placed_bind (sign_placed P1 signs.RightBracket extent.1 b) (λ rest d.
      placed_ok (λ x. Inside x.1) (found ++ fits ∷ [], rest) d))))

  extents_placed : (names : Names) (array used : ℕ) (ts : List Token) → array ≤ length bytes → Inside ts → Reads (extents_at bytes names array used ts)
  unfolding extents_at
  extents_placed names array used ts l h =
      placed_bind (extent_placed names array used l [] ts h) (λ first a.
      placed_bind (repeated_placed (opens_bracket bytes) (extent_at bytes names array used) (extent_placed names array used l) 3 first.0 first.1 a) (λ all b.
      placed_guarded (not (opens_bracket bytes all.1)) P1 (place bytes all.1) (λ _. Ok all) (inside_place all.1 b) (placed_ok (λ x. Inside x.1) all b)))

  fill_placed : (ts : List Token) → Inside ts → Reads (fill_at bytes ts)
  unfolding fill_at
  fill_placed ts h =
      placed_bind (sign_placed P1 signs.Equals ts h) (λ equals a.
      placed_bind (keyword_placed P1 words.Fill equals a) (λ word b.
      placed_bind (sign_placed P1 signs.LeftParen word b) (λ paren c.
      placed_bind (integer_placed P1 paren c) (λ x d.
      placed_bind (sign_placed P1 signs.Comma x.1 d) (λ comma e.
      placed_bind (integer_placed P1 comma e) (λ y f.
      placed_bind (sign_placed P1 signs.RightParen y.1 f) (λ close g.
      placed_bind (sign_placed P1 signs.Semicolon close g) (λ rest i.
      placed_ok (λ x. Inside x.1) (record { a = x.0; b = y.0 }, rest) i))))))))

  array_placed : (d : Declared) (ts : List Token) → Inside ts → Reads (array_at bytes d ts)
  unfolding array_at
  array_placed d ts h =
      placed_bind (keyword_placed P1 words.Array ts h) (λ word a.
      placed_bind (fresh_placed d.names word a) (λ name b.
      placed_bind (extents_placed d.names (place bytes word) d.cells name.1 (inside_place word a) b) (λ extents c.
      placed_bind (fill_placed extents.1 c) (λ fill e.
      placed_ok (λ x. Inside x.1) _ e))))

  arrays_placed : (names : Names) (ts : List Token) → Inside ts → Reads (arrays_at bytes names ts)
  arrays_placed names ts h = repeated_placed (begins_array bytes) (array_at bytes) array_placed (length ts) (no_arrays names) ts h

  -- expressions

  abbrev Star : Option ℕ → Type 0
  Star None = Unit {0}
  Star (Some at) = at ≤ length bytes

  star_behind : (star : Option ℕ) (iterates : Bool) (here : ℕ) → Star star → here ≤ length bytes → Star (star_after star iterates here)
  star_behind (Some at) iterates here h l = h
  star_behind None true here h l = l
  star_behind None false here h l = tt

  placed_behind : {X : Type 0} {P : X → Type 0} (o : Option Sign) (none : Result X ParseError) (some : Sign → Result X ParseError) → Placed P none → ((s : Sign) → Placed P (some s)) → Placed P (behind o none some)
  placed_behind None none some p q = p
  placed_behind (Some s) none some p q = q s

  placed_opened : {X : Type 0} {P : X → Type 0} (o : Opening) (minus paren operand : Unit {0} → Result X ParseError) → Placed P (minus tt) → Placed P (paren tt) → Placed P (operand tt)
      → Placed P (opened o minus paren operand)
  placed_opened openings.Minus minus paren operand p q r = p
  placed_opened openings.Paren minus paren operand p q r = q
  placed_opened openings.Operand minus paren operand p q r = r

  module _ {X : Type 0} (sort : Sort X)
      (operand_placed : (left : ℕ) (star : Option ℕ) (ts : List Token) → Star star → Inside ts → Reads (sort.operand left star ts))
      (negated_placed : (at : ℕ) (x : X) → at ≤ length bytes → Refuses (sort.negated at x))
      (joined_placed : (s : Sign) (at : ℕ) (x y : X) → at ≤ length bytes → Refuses (sort.joined s at x y)) where
    abbrev On : X × ℕ × List Token → Type 0
    On x = Inside x.2

    chain_placed : (ahead : X × ℕ × List Token → Option Sign) (one : Sign → X × ℕ × List Token → Counted X) → ((s : Sign) (x : X × ℕ × List Token) → On x → Placed On (one s x))
        → (k : ℕ) (x : X × ℕ × List Token) → On x → Placed On (chain ahead one k x)
    unfolding chain
    chain_placed ahead one each zero x h = placed_ok On x h
    chain_placed ahead one each (suc k) x h =
        placed_behind (ahead x) (Ok x) (λ s. one s x >>= chain ahead one k) (placed_ok On x h) (λ s. placed_bind (each s x h) (λ y g. chain_placed ahead one each k y g))

    step_placed : (part : X → ℕ → ℕ → List Token → Counted X) (s : Sign) (x : X × ℕ × List Token) → On x → Placed On (part x.0 (place bytes x.2) x.1 (drop 1 x.2)) → Placed On (step bytes part sort.joined s x)
    step_placed part s x h p =
        placed_bind p (λ y g.
        placed_bind (placed_any (joined_placed s (place bytes x.2) x.0 y.0 (inside_place x.2 h))) (λ z k.
        placed_ok On (z, y.1, y.2) g))

    counted_placed : (left : ℕ) (star : Option ℕ) (n : ℕ) (ts : List Token) → Star star → Inside ts → Placed On (counted_operand bytes sort left star n ts)
    unfolding counted_operand
    counted_placed left star n ts l h =
        placed_guarded (begins_operand (seen bytes ts) && nat_lt n most_operands) P1 (place bytes ts) (λ _. sort.operand left star ts >>= λ x. Ok (x.0, n + 1, x.1)) (inside_place ts h)
        (placed_bind (operand_placed left star ts l h) (λ x g. placed_ok On (x.0, n + 1, x.1) g))

    module _ (inner : Reader X) (inner_placed : (star : Option ℕ) (n : ℕ) (ts : List Token) → Star star → Inside ts → Placed On (inner star n ts)) where
      factor_placed : (star : Option ℕ) (s : Sign) (x : X × ℕ × List Token) → Star star → On x → Placed On (factor bytes sort inner star s x)
      unfolding factor
      factor_placed star s x l h =
          step_placed (λ y at. inner (star_after star (sort.iterates y) at)) s x h
          (inner_placed (star_after star (sort.iterates x.0) (place bytes x.2)) x.1 (drop 1 x.2) (star_behind star (sort.iterates x.0) (place bytes x.2) l (inside_place x.2 h)) (inside_drop x.2 h))

      product_placed : (star : Option ℕ) (n : ℕ) (ts : List Token) → Star star → Inside ts → Placed On (product bytes sort inner star n ts)
      unfolding product
      product_placed star n ts l h =
          placed_bind (inner_placed star n ts l h) (λ x g.
          chain_placed (λ y. factor_sign (seen bytes y.2)) (factor bytes sort inner star) (λ s y k. factor_placed star s y l k) most_operands x g)

      summand_placed : (ending : Ending) (star : Option ℕ) (n : ℕ) (ts : List Token) → Star star → Inside ts → Placed On (summand bytes sort inner ending star n ts)
      unfolding summand
      summand_placed ending star n ts l h =
          placed_bind (product_placed star n ts l h) (λ x g.
          placed_guarded (fits_behind ending (seen bytes x.2)) P1 (place bytes x.2) (λ _. Ok x) (inside_place x.2 g) (placed_ok On x g))

      term_placed : (ending : Ending) (star : Option ℕ) (s : Sign) (x : X × ℕ × List Token) → Star star → On x → Placed On (term bytes sort inner ending star s x)
      unfolding term
      term_placed ending star s x l h = step_placed (λ y at. summand bytes sort inner ending star) s x h (summand_placed ending star x.1 (drop 1 x.2) l (inside_drop x.2 h))

      sum_placed : (ending : Ending) (star : Option ℕ) (n : ℕ) (ts : List Token) → Star star → Inside ts → Placed On (sum bytes sort inner ending star n ts)
      unfolding sum
      sum_placed ending star n ts l h =
          placed_bind (summand_placed ending star n ts l h) (λ x g.
          chain_placed (λ y. term_sign (seen bytes y.2)) (term bytes sort inner ending star) (λ s y k. term_placed ending star s y l k) most_operands x g)

      minus_placed : (star : Option ℕ) (n : ℕ) (ts : List Token) → Star star → Inside ts → Placed On (behind_minus bytes sort inner star n ts)
      unfolding behind_minus
      minus_placed star n ts l h =
          placed_bind (inner_placed star n (drop 1 ts) l (inside_drop ts h)) (λ x g.
          placed_bind (placed_any (negated_placed (place bytes ts) x.0 (inside_place ts h))) (λ y k.
          placed_ok On (y, x.1, x.2) g))

      parens_placed : (star : Option ℕ) (n : ℕ) (ts : List Token) → Star star → Inside ts → Placed On (between_parens bytes sort inner star n ts)
      unfolding between_parens
      parens_placed star n ts l h =
          placed_bind (sum_placed endings.Paren star n (drop 1 ts) l (inside_drop ts h)) (λ x g.
          placed_bind (sign_placed P1 signs.RightParen x.2 g) (λ rest k.
          placed_ok On (x.0, x.1, rest) k))

    unary_placed : (left : ℕ) (star : Option ℕ) (n : ℕ) (ts : List Token) → Star star → Inside ts → Placed On (unary bytes sort left star n ts)
    unfolding unary
    unary_placed zero star n ts l h = counted_placed 0 star n ts l h
    unary_placed (suc left) star n ts l h =
        placed_opened (opening (seen bytes ts))
        (λ _. behind_minus bytes sort (unary bytes sort left) star n ts)
        (λ _. between_parens bytes sort (unary bytes sort left) star n ts)
        (λ _. counted_operand bytes sort (suc left) star n ts)
        (minus_placed (unary bytes sort left) (unary_placed left) star n ts l h)
        (parens_placed (unary bytes sort left) (unary_placed left) star n ts l h)
        (counted_placed (suc left) star n ts l h)

    expression_placed : (left : ℕ) (ending : Ending) (ts : List Token) → Inside ts → Reads (expression bytes sort left ending ts)
    expression_placed left ending ts h =
        placed_bind (sum_placed (unary bytes sort left) (unary_placed left) ending None 0 ts tt h) (λ x g.
        placed_ok (λ y. Inside y.1) (x.0, x.2) g)

  -- affine forms

  narrow_if_placed : (o : Option ℤ) (at : ℕ) (form : Form) (iterates : Bool) → at ≤ length bytes → Refuses (narrow_if o at form iterates)
  narrow_if_placed None at form iterates l = refuses_ok _
  narrow_if_placed (Some z) at form iterates l = refuses_err A1 at z l

  narrow_placed : (at : ℕ) (form : Form) (iterates : Bool) → at ≤ length bytes → Refuses (narrow at form iterates)
  narrow_placed at form iterates l = narrow_if_placed (first_wide limit form) at form iterates l

  number_if_part_placed : (b : Bool) (levels at : ℕ) (z : ℤ) → at ≤ length bytes → Refuses (number_part_if b levels at z)
  number_if_part_placed true levels at z l = refuses_err A1 at z l
  number_if_part_placed false levels at z l = refuses_ok _

  number_part_placed : (levels at : ℕ) (z : ℤ) → at ≤ length bytes → Refuses (number_part levels at z)
  number_part_placed levels at z l = number_if_part_placed (is_wide limit z) levels at z l

  iterator_part_placed : (levels : ℕ) (star : Option ℕ) (k : ℕ) → Star star → Refuses (iterator_part levels star k)
  iterator_part_placed levels (Some before) k l = refuses_err P4 before (pos 0) l
  iterator_part_placed levels None k l = refuses_ok _

  named_part_placed : (levels : ℕ) (star : Option ℕ) (at : ℕ) (access : Bool) (named : Option Named) → Star star → at ≤ length bytes → Refuses (named_part levels star at access named)
  named_part_placed levels star at true (Some (Array k n)) s l = refuses_err P4 at (pos 0) l
  named_part_placed levels star at true (Some (Let z)) s l = refuses_err P2 at (pos 0) l
  named_part_placed levels star at true (Some (Iterator k)) s l = refuses_err P2 at (pos 0) l
  named_part_placed levels star at true None s l = refuses_err P2 at (pos 0) l
  named_part_placed levels star at false (Some (Let z)) s l = number_part_placed levels at z l
  named_part_placed levels star at false (Some (Iterator k)) s l = iterator_part_placed levels star k s
  named_part_placed levels star at false (Some (Array k n)) s l = refuses_err P2 at (pos 0) l
  named_part_placed levels star at false None s l = refuses_err P2 at (pos 0) l

  operand_part_placed : (levels : ℕ) (star : Option ℕ) (at : ℕ) (access : Bool) (look : Look) (named : Option Named) → Star star → at ≤ length bytes → Refuses (operand_part levels star at access look named)
  operand_part_placed levels star at access (looks.Number n) named s l = number_part_placed levels at (pos n) l
  operand_part_placed levels star at access looks.Name named s l = named_part_placed levels star at access named s l
  operand_part_placed levels star at access (looks.Keyword k) named s l = named_part_placed levels star at access named s l
  operand_part_placed levels star at access (looks.Sign t) named s l = named_part_placed levels star at access named s l
  operand_part_placed levels star at access looks.End named s l = named_part_placed levels star at access named s l

  times_placed : (b : Bool) (at : ℕ) (x y : Part) → at ≤ length bytes → Refuses (times b at x y)
  times_placed true at x y l = narrow_placed at (combined y.form.constant x.form (pos 0) y.form) true l
  times_placed false at x y l = narrow_placed at (combined (pos 0) x.form x.form.constant y.form) y.iterates l

  joined_parts_placed : (s : Sign) (at : ℕ) (x y : Part) → at ≤ length bytes → Refuses (joined_parts s at x y)
  joined_parts_placed signs.Plus at x y l = narrow_placed at (combined (pos 1) x.form (pos 1) y.form) (x.iterates || y.iterates) l
  joined_parts_placed signs.Minus at x y l = narrow_placed at (combined (pos 1) x.form (negsuc 0) y.form) (x.iterates || y.iterates) l
  joined_parts_placed other at x y l = times_placed x.iterates at x y l

  form_placed : (names : Names) (levels left : ℕ) (ending : Ending) (ts : List Token) → Inside ts → Reads (form_at bytes names levels left ending ts)
  unfolding form_at parts
  form_placed names levels left ending ts h =
      placed_bind (expression_placed (parts bytes names levels)
      (λ l star us s i.
      placed_bind (placed_any (operand_part_placed levels star (place bytes us) (next_is bytes signs.LeftBracket (drop 1 us)) (seen bytes us) (find_name (text_at bytes us) names) s (inside_place us i))) (λ p k.
      placed_ok (λ x. Inside x.1) (p, drop 1 us) (inside_drop us i)))
      (λ at x l. narrow_placed at (combined (negsuc 0) x.form (pos 0) x.form) x.iterates l)
      joined_parts_placed left ending ts h) (λ p g.
      placed_ok (λ x. Inside x.1) (p.0.form, p.1) g)

  -- right sides

  sub_placed : (names : Names) (levels left : ℕ) (found : List Sub) (ts : List Token) → Inside ts → Reads (sub_at bytes names levels left found ts)
  unfolding sub_at
  sub_placed names levels left found ts h =
      placed_bind (sign_placed P1 signs.LeftBracket ts h) (λ inside a.
      placed_bind (form_placed names levels left endings.Bracket inside a) (λ form b.
      placed_bind (sign_placed P1 signs.RightBracket form.1 b) (λ rest c.
      placed_ok (λ x. Inside x.1) (found ++ record { form = form.0; modulus = 0 } ∷ [], rest) c)))

  access_placed : (names : Names) (levels left k n : ℕ) (ts : List Token) → Inside ts → Reads (access_at bytes names levels left k n ts)
  unfolding access_at
  access_placed names levels left k n ts h =
      placed_bind (repeated_placed always (sub_at bytes names levels left) (sub_placed names levels left) n [] ts h) (λ subs g.
      placed_guarded (not (next_is bytes signs.LeftBracket subs.1)) P1 (place bytes subs.1) (λ _. Ok (record { array = k; subs = subs.0 }, subs.1)) (inside_place subs.1 g)
      (placed_ok (λ x. Inside x.1) (record { array = k; subs = subs.0 }, subs.1) g))

  named_right_placed : (names : Names) (levels left at : ℕ) (access : Bool) (named : Option Named) (ts : List Token) → at ≤ length bytes → Inside ts → Reads (named_right bytes names levels left at access named ts)
  named_right_placed names levels left at true (Some (Array k n)) ts l h =
      placed_bind (access_placed names levels left k n ts h) (λ a g. placed_ok (λ x. Inside x.1) (exprs.Read a.0, a.1) g)
  named_right_placed names levels left at true (Some (Let z)) ts l h = placed_err (λ x. Inside x.1) P2 at (pos 0) l
  named_right_placed names levels left at true (Some (Iterator k)) ts l h = placed_err (λ x. Inside x.1) P2 at (pos 0) l
  named_right_placed names levels left at true None ts l h = placed_err (λ x. Inside x.1) P2 at (pos 0) l
  named_right_placed names levels left at false (Some (Let z)) ts l h = placed_ok (λ x. Inside x.1) (exprs.Number z, ts) h
  named_right_placed names levels left at false (Some (Iterator k)) ts l h = placed_ok (λ x. Inside x.1) (exprs.Iter k, ts) h
  named_right_placed names levels left at false (Some (Array k n)) ts l h = placed_err (λ x. Inside x.1) P2 at (pos 0) l
  named_right_placed names levels left at false None ts l h = placed_err (λ x. Inside x.1) P2 at (pos 0) l

  operand_right_placed : (names : Names) (levels left at : ℕ) (access : Bool) (look : Look) (named : Option Named) (ts : List Token) → at ≤ length bytes → Inside ts
      → Reads (operand_right bytes names levels left at access look named ts)
  operand_right_placed names levels left at access (looks.Number n) named ts l h = placed_ok (λ x. Inside x.1) (exprs.Number (pos n), ts) h
  operand_right_placed names levels left at access looks.Name named ts l h = named_right_placed names levels left at access named ts l h
  operand_right_placed names levels left at access (looks.Keyword k) named ts l h = named_right_placed names levels left at access named ts l h
  operand_right_placed names levels left at access (looks.Sign s) named ts l h = named_right_placed names levels left at access named ts l h
  operand_right_placed names levels left at access looks.End named ts l h = named_right_placed names levels left at access named ts l h

  joined_right_placed : (s : Sign) (at : ℕ) (x y : Expr) → Refuses (joined_right s at x y)
  joined_right_placed signs.Plus at x y = refuses_ok (exprs.Add x y)
  joined_right_placed signs.Minus at x y = refuses_ok (exprs.Sub x y)
  joined_right_placed other at x y = refuses_ok (exprs.Mul x y)

  right_placed : (names : Names) (levels : ℕ) (ts : List Token) → Inside ts → Reads (right_at bytes names levels ts)
  unfolding right_at rights
  right_placed names levels ts h =
      expression_placed (rights bytes names levels)
      (λ l star us s i. operand_right_placed names levels l (place bytes us) (next_is bytes signs.LeftBracket (drop 1 us)) (seen bytes us) (find_name (text_at bytes us) names) (drop 1 us) (inside_place us i) (inside_drop us i))
      (λ at x l. refuses_ok (exprs.Neg x))
      (λ s at x y l. joined_right_placed s at x y)
      most_nesting endings.Semicolon ts h

  -- heads of loops

  more_placed : (names : Names) (levels : ℕ) (found : List Form) (ts : List Token) → Inside ts → Reads (more_at bytes names levels found ts)
  unfolding more_at
  more_placed names levels found ts h =
      placed_bind (form_placed names levels most_nesting endings.Listed (drop 1 ts) (inside_drop ts h)) (λ form g. placed_ok (λ x. Inside x.1) (found ++ form.0 ∷ [], form.1) g)

  several_placed : (names : Names) (levels : ℕ) (ts : List Token) → Inside ts → Reads (several_at bytes names levels ts)
  unfolding several_at
  several_placed names levels ts h =
      placed_bind (sign_placed P1 signs.LeftParen ts h) (λ inside a.
      placed_bind (form_placed names levels most_nesting endings.Listed inside a) (λ first b.
      placed_bind (repeated_placed (next_is_comma bytes) (more_at bytes names levels) (more_placed names levels) 3 (first.0 ∷ []) first.1 b) (λ all c.
      placed_bind (placed_guarded (not (next_is_comma bytes all.1)) P1 (place bytes (drop 1 all.1)) (λ _. Ok all) (inside_place (drop 1 all.1) (inside_drop all.1 c)) (placed_ok (λ x. Inside x.1) all c)) (λ few d.
      placed_bind (sign_placed P1 signs.RightParen few.1 d) (λ rest e.
      placed_ok (λ x. Inside x.1) (few.0, rest) e)))))

  single_placed : (names : Names) (levels : ℕ) (ts : List Token) → Inside ts → Reads (single_at bytes names levels ts)
  unfolding single_at
  single_placed names levels ts h = placed_bind (form_placed names levels most_nesting endings.Semicolon ts h) (λ form g. placed_ok (λ x. Inside x.1) (form.0 ∷ [], form.1) g)

  ends_placed : (word : Keyword) (names : Names) (levels : ℕ) (ts : List Token) → Inside ts → Reads (ends_at bytes word names levels ts)
  unfolding ends_at
  ends_placed word names levels ts h =
      placed_choose (begins bytes word ts) (λ _. several_at bytes names levels (drop 1 ts)) (λ _. single_at bytes names levels ts)
      (several_placed names levels (drop 1 ts) (inside_drop ts h)) (single_placed names levels ts h)

  bounded_if_placed : (b : Bool) (at : ℕ) (end : ℤ) → at ≤ length bytes → Refuses (bounded_if b at end)
  bounded_if_placed true at end l = refuses_ok end
  bounded_if_placed false at end l = refuses_err A1 at end l

  bounded_placed : (at : ℕ) (end : ℤ) → at ≤ length bytes → Placed (λ x. Unit {0}) (bounded at end)
  bounded_placed at end l = placed_any (bounded_if_placed (is_at_most most_affine end) at end l)

  low_placed : (names : Names) (boxes : List Range) (at : ℕ) (ts : List Token) → at ≤ length bytes → Inside ts → Reads (low_at bytes names boxes at ts)
  unfolding low_at
  low_placed names boxes at ts l h =
      placed_bind (ends_placed words.Max names (length boxes) ts h) (λ lows a.
      placed_bind (bounded_placed at (low_end boxes lows.0) l) (λ end b.
      placed_ok (λ x. Inside x.1) (record { forms = lows.0; end = end }, lows.1) a))

  same_name_placed : (name : List ℕ) (ts : List Token) → Inside ts → Placed Inside (same_name_at bytes name ts)
  unfolding same_name_at
  same_name_placed name ts h =
      placed_bind (name_placed P1 ts h) (λ other a. placed_guarded (bytes_eq name other.0) P1 (place bytes ts) (λ _. Ok other.1) (inside_place ts h) (placed_ok Inside other.1 a))

  strict_if_placed : (look : Look) (at : ℕ) (ts : List Token) → at ≤ length bytes → Inside ts → Reads (strict_if look at ts)
  strict_if_placed (looks.Sign signs.Less) at ts l h = placed_ok (λ x. Inside x.1) (true, ts) h
  strict_if_placed (looks.Sign signs.AtMost) at ts l h = placed_ok (λ x. Inside x.1) (false, ts) h
  strict_if_placed other at ts l h = placed_err (λ x. Inside x.1) P1 at (pos 0) l

  high_placed : (names : Names) (boxes : List Range) (at : ℕ) (low : ℤ) (ts : List Token) → at ≤ length bytes → Inside ts → Reads (high_at bytes names boxes at low ts)
  unfolding high_at
  high_placed names boxes at low ts l h =
      placed_bind (strict_if_placed (seen bytes ts) (place bytes ts) (drop 1 ts) (inside_place ts h) (inside_drop ts h)) (λ strict a.
      placed_bind (ends_placed words.Min names (length boxes) strict.1 a) (λ forms b.
      placed_bind (bounded_placed at (high_end boxes low (map (last_of strict.0) forms.0)) l) (λ end c.
      placed_ok (λ x. Inside x.1) (record { forms = map (last_of strict.0) forms.0; end = end }, forms.1) b)))

  number_step_placed : (name : List ℕ) (lows : List Form) (ts : List Token) → Inside ts → Reads (number_step_at bytes name lows ts)
  unfolding number_step_at
  number_step_placed name lows ts h =
      placed_bind (sign_placed P1 signs.Equals ts h) (λ equals a.
      placed_bind (same_name_placed name equals a) (λ again b.
      placed_bind (sign_placed P1 signs.Plus again b) (λ plus c.
      placed_bind (number_placed P1 plus c) (λ step d.
      placed_guarded (step_fits step.0 lows) P7 (place bytes plus) (λ _. Ok step) (inside_place plus c) (placed_ok (λ x. Inside x.1) step d)))))

  next_placed : (name : List ℕ) (lows : List Form) (ts : List Token) → Inside ts → Reads (next_at bytes name lows ts)
  unfolding next_at
  next_placed name lows ts h =
      placed_choose (next_is bytes signs.Increment ts) (λ _. Ok (1, drop 1 ts)) (λ _. number_step_at bytes name lows ts)
      (placed_ok (λ x. Inside x.1) (1, drop 1 ts) (inside_drop ts h)) (number_step_placed name lows ts h)

  step_at_placed : (name : List ℕ) (lows : List Form) (ts : List Token) → Inside ts → Reads (step_at bytes name lows ts)
  unfolding step_at
  step_at_placed name lows ts h =
      placed_bind (same_name_placed name ts h) (λ third a.
      placed_bind (next_placed name lows third a) (λ step b.
      placed_bind (sign_placed P1 signs.RightParen step.1 b) (λ rest c.
      placed_ok (λ x. Inside x.1) (step.0, rest) c)))

  relation_placed : (look : Look) (at : ℕ) (ts : List Token) → at ≤ length bytes → Inside ts → Reads (relation_if look at ts)
  relation_placed (looks.Sign signs.Less) at ts l h = placed_ok (λ x. Inside x.1) (relations.Less, ts) h
  relation_placed (looks.Sign signs.AtMost) at ts l h = placed_ok (λ x. Inside x.1) (relations.AtMost, ts) h
  relation_placed (looks.Sign signs.More) at ts l h = placed_ok (λ x. Inside x.1) (relations.More, ts) h
  relation_placed (looks.Sign signs.AtLeast) at ts l h = placed_ok (λ x. Inside x.1) (relations.AtLeast, ts) h
  relation_placed other at ts l h = placed_err (λ x. Inside x.1) P1 at (pos 0) l

  condition_placed : (names : Names) (levels : ℕ) (ts : List Token) → Inside ts → Reads (condition_at bytes names levels ts)
  unfolding condition_at
  condition_placed names levels ts h =
      placed_bind (sign_placed P1 signs.LeftParen ts h) (λ paren a.
      placed_bind (form_placed names levels most_nesting endings.Related paren a) (λ left b.
      placed_bind (relation_placed (seen bytes left.1) (place bytes left.1) (drop 1 left.1) (inside_place left.1 b) (inside_drop left.1 b)) (λ relation c.
      placed_bind (form_placed names levels most_nesting endings.Paren relation.1 c) (λ right d.
      placed_bind (sign_placed P1 signs.RightParen right.1 d) (λ rest e.
      placed_ok (λ x. Inside x.1) (row_of relation.0 left.0 right.0, rest) e)))))

  head_placed : (names : Names) (boxes : List Range) (at : ℕ) (ts : List Token) → at ≤ length bytes → Inside ts → Reads (head_at bytes names boxes at ts)
  unfolding head_at
  head_placed names boxes at ts l h =
      placed_bind (sign_placed P1 signs.LeftParen ts h) (λ paren a.
      placed_bind (fresh_placed names paren a) (λ name b.
      placed_bind (sign_placed P1 signs.Equals name.1 b) (λ equals c.
      placed_bind (low_placed names boxes at equals l c) (λ low d.
      placed_bind (sign_placed P1 signs.Semicolon low.1 d) (λ second e.
      placed_bind (same_name_placed name.0 second e) (λ relation f.
      placed_bind (high_placed names boxes at low.0.end relation l f) (λ high g.
      placed_bind (sign_placed P1 signs.Semicolon high.1 g) (λ third i.
      placed_bind (step_at_placed name.0 low.0.forms third i) (λ step j.
      placed_ok (λ x. Inside x.1) (record { name = name.0; lows = low.0.forms; highs = high.0.forms; step = step.0; box = record { low = low.0.end; high = high.0.end } }, step.1) j)))))))))

  -- items

  written_placed : (few : Bool) (at : ℕ) (named : Option Named) → at ≤ length bytes → Placed (λ x. Unit {0}) (written few at named)
  written_placed few at (Some (Array k n)) l = placed_guarded few P6 at (λ _. Ok (k, n)) l (placed_ok (λ x. Unit {0}) (k, n) tt)
  written_placed few at (Some (Let z)) l = placed_err (λ x. Unit {0}) P2 at (pos 0) l
  written_placed few at (Some (Iterator k)) l = placed_err (λ x. Unit {0}) P2 at (pos 0) l
  written_placed few at None l = placed_err (λ x. Unit {0}) P2 at (pos 0) l

  assign_placed : (names : Names) (levels : ℕ) (found : Items) (ts : List Token) → Inside ts → Reads (assign_at bytes names levels found ts)
  unfolding assign_at
  assign_placed names levels found ts h =
      placed_bind (name_placed P1 ts h) (λ name a.
      placed_bind (written_placed (nat_lt found.1 most_statements) (place bytes ts) (find_name name.0 names) (inside_place ts h)) (λ array b.
      placed_bind (access_placed names levels most_nesting array.0 array.1 name.1 a) (λ write c.
      placed_bind (sign_placed P1 signs.Equals write.1 c) (λ equals d.
      placed_bind (right_placed names levels equals d) (λ right e.
      placed_bind (sign_placed P1 signs.Semicolon right.1 e) (λ rest f.
      placed_ok (λ x. Inside x.1) ((found.0 ++ Assign found.1 (record { write = write.0; right = right.0 }) ∷ [], found.1 + 1), rest) f))))))

  items_placed : (item : Items → List Token → Read Items) → ((s : Items) (ts : List Token) → Inside ts → Reads (item s ts)) → (found : Items) (ts : List Token) → Inside ts → Reads (items_at bytes item found ts)
  unfolding items_at
  items_placed item each found ts h =
      placed_bind (repeated_placed (is_more bytes) item each (most_statements + 1) found ts h) (λ x a.
      placed_bind (sign_placed P1 signs.RightBrace x.1 a) (λ rest b.
      placed_ok (λ y. Inside y.1) (x.0, rest) b))

  body_placed : (item : Items → List Token → Read Items) → ((s : Items) (ts : List Token) → Inside ts → Reads (item s ts)) → (label : ℕ) (ts : List Token) → Inside ts → Reads (body_at bytes item label ts)
  unfolding body_at
  body_placed item each label ts h =
      placed_choose (next_is bytes signs.LeftBrace ts) (λ _. item ([], label) (drop 1 ts) >>= λ x. items_at bytes item x.0 x.1) (λ _. item ([], label) ts)
      (placed_bind (each ([], label) (drop 1 ts) (inside_drop ts h)) (λ x a. items_placed item each x.0 x.1 a))
      (each ([], label) ts h)

  loop_placed : (item : Names → List Range → Items → List Token → Read Items) → ((names : Names) (boxes : List Range) (s : Items) (ts : List Token) → Inside ts → Reads (item names boxes s ts))
      → (names : Names) (boxes : List Range) (at : ℕ) (found : Items) (ts : List Token) → at ≤ length bytes → Inside ts → Reads (loop_at bytes item names boxes at found ts)
  unfolding loop_at
  loop_placed item each names boxes at found ts l h =
      placed_bind (head_placed names boxes at ts l h) (λ head a.
      placed_bind (body_placed (item (names ++ (head.0.name, Iterator (length boxes)) ∷ []) (boxes ++ head.0.box ∷ [])) (each (names ++ (head.0.name, Iterator (length boxes)) ∷ []) (boxes ++ head.0.box ∷ [])) found.1 head.1 a) (λ body b.
      placed_ok (λ x. Inside x.1) ((found.0 ++ Loop head.0.lows head.0.highs head.0.step body.0.0 ∷ [], body.0.1), body.1) b))

  cif_placed : (item : Items → List Token → Read Items) → ((s : Items) (ts : List Token) → Inside ts → Reads (item s ts)) → (names : Names) (levels : ℕ) (found : Items) (ts : List Token) → Inside ts
      → Reads (cif_at bytes item names levels found ts)
  unfolding cif_at
  cif_placed item each names levels found ts h =
      placed_bind (condition_placed names levels ts h) (λ row a.
      placed_bind (body_placed item each found.1 row.1 a) (λ body b.
      placed_ok (λ x. Inside x.1) ((found.0 ++ If row.0 body.0.0 ∷ [], body.0.1), body.1) b))

  item_by_placed : (ts : List Token) (loop cif assign : Unit {0} → Read Items) → Reads (loop tt) → Reads (cif tt) → Reads (assign tt) → Reads (item_by bytes ts loop cif assign)
  item_by_placed ts loop cif assign p q r =
      placed_choose (begins bytes words.For ts) loop (λ _. choose (begins_if bytes ts) cif assign) p (placed_choose (begins_if bytes ts) cif assign q r)

  item_placed : (ifs deeper : ℕ) (names : Names) (boxes : List Range) (found : Items) (ts : List Token) → Inside ts → Reads (item_at bytes ifs deeper names boxes found ts)
  unfolding item_at
  item_placed zero zero names boxes found ts h =
      item_by_placed ts (λ _. refused P5 (place bytes ts)) (λ _. refused P7 (place bytes ts)) (λ _. assign_at bytes names (length boxes) found ts)
      (placed_err (λ x. Inside x.1) P5 (place bytes ts) (pos 0) (inside_place ts h)) (placed_err (λ x. Inside x.1) P7 (place bytes ts) (pos 0) (inside_place ts h)) (assign_placed names (length boxes) found ts h)
  item_placed zero (suc deeper) names boxes found ts h =
      item_by_placed ts (λ _. loop_at bytes (item_at bytes zero deeper) names boxes (place bytes ts) found (drop 1 ts)) (λ _. refused P7 (place bytes ts)) (λ _. assign_at bytes names (length boxes) found ts)
      (loop_placed (item_at bytes zero deeper) (item_placed zero deeper) names boxes (place bytes ts) found (drop 1 ts) (inside_place ts h) (inside_drop ts h))
      (placed_err (λ x. Inside x.1) P7 (place bytes ts) (pos 0) (inside_place ts h)) (assign_placed names (length boxes) found ts h)
  item_placed (suc ifs) zero names boxes found ts h =
      item_by_placed ts (λ _. refused P5 (place bytes ts)) (λ _. cif_at bytes (item_at bytes ifs zero names boxes) names (length boxes) found (drop 1 ts)) (λ _. assign_at bytes names (length boxes) found ts)
      (placed_err (λ x. Inside x.1) P5 (place bytes ts) (pos 0) (inside_place ts h))
      (cif_placed (item_at bytes ifs zero names boxes) (item_placed ifs zero names boxes) names (length boxes) found (drop 1 ts) (inside_drop ts h)) (assign_placed names (length boxes) found ts h)
  item_placed (suc ifs) (suc deeper) names boxes found ts h =
      item_by_placed ts (λ _. loop_at bytes (item_at bytes (suc ifs) deeper) names boxes (place bytes ts) found (drop 1 ts))
      (λ _. cif_at bytes (item_at bytes ifs (suc deeper) names boxes) names (length boxes) found (drop 1 ts)) (λ _. assign_at bytes names (length boxes) found ts)
      (loop_placed (item_at bytes (suc ifs) deeper) (item_placed (suc ifs) deeper) names boxes (place bytes ts) found (drop 1 ts) (inside_place ts h) (inside_drop ts h))
      (cif_placed (item_at bytes ifs (suc deeper) names boxes) (item_placed ifs (suc deeper) names boxes) names (length boxes) found (drop 1 ts) (inside_drop ts h)) (assign_placed names (length boxes) found ts h)

  -- a section

  inside_take : (n : ℕ) (ts : List Token) → Inside ts → Inside (take n ts)
  inside_take zero ts h = tt
  inside_take (suc n) [] h = tt
  inside_take (suc n) (t ∷ ts) h = (h.0, inside_take n ts h.1)

  inside_after : (n : ℕ) (ts : List Token) → Inside ts → Inside (drop n ts)
  inside_after zero ts h = h
  inside_after (suc n) [] h = tt
  inside_after (suc n) (t ∷ ts) h = inside_after n ts h.1

  abbrev InText : ℕ → Type 0
  InText at = at < length bytes

  place_told : (b : Bool) (at : ℕ) (places : List ℕ) → at < length bytes → All InText places → All InText (with_place b at places)
  place_told true at places l h = All-cons InText at places l h
  place_told false at places l h = h

  accesses_told : (ts : List Token) → Inside ts → All InText (accesses_in bytes ts)
  accesses_told [] h = All-nil InText
  accesses_told (t ∷ ts) h = place_told (begins_access bytes (t ∷ ts)) t.start (accesses_in bytes ts) h.0 (accesses_told ts h.1)

  section_placed : (ts : List Token) → Inside ts → Placed (λ x. All InText x.0.accesses) (section_at bytes ts)
  unfolding section_at
  section_placed ts h =
      placed_bind (keyword_placed P1 words.Program ts h) (λ word a.
      placed_bind (name_placed P1 word a) (λ name b.
      placed_bind (sign_placed P1 signs.LeftBrace name.1 b) (λ inside c.
      placed_bind (lets_placed inside c) (λ lets d.
      placed_bind (arrays_placed lets.0 lets.1 d) (λ declared e.
      placed_bind (items_placed (item_at bytes most_conditions deepest declared.0.names []) (item_placed most_conditions deepest declared.0.names []) ([], 0) declared.1 e) (λ items f.
      placed_ok (λ x. All InText x.0.accesses) (
        record {
          name = name.0;
          nest = record { arrays = declared.0.arrays; items = items.0.0 };
          fills = declared.0.fills;
          accesses = accesses_in bytes (before items.1 declared.1);
        },
        items.1,
      ) (accesses_told (before items.1 declared.1) (inside_take (length declared.1 - length items.1) declared.1 e))))))))

  inside_cut : (at : ℕ) (ts : List Token) → IsCut bytes at ts → Inside ts
  inside_cut at [] h = tt
  inside_cut at (t ∷ ts) h = (omega (arith, h.2, h.3), inside_cut t.end ts h.5)

  pub refused_inside : (tokens : List Token) (from : ℕ) (e : ParseError) → IsCut bytes 0 tokens → Fails e (section_at bytes (drop from tokens)) → IsWithin (length bytes) e
  refused_inside tokens from Memory c h = tt
  refused_inside tokens from (Refused code at value) c h = (section_placed (drop from tokens) (inside_after from tokens (inside_cut 0 tokens c))).1 (Refused code at value) h

  pub accessed_inside : (tokens : List Token) (from : ℕ) (s : Section) (rest : List Token) → IsCut bytes 0 tokens → section_at bytes (drop from tokens) ≡ Ok (s, rest) → All (λ at. at < length bytes) s.accesses
  accessed_inside tokens from s rest c h = (section_placed (drop from tokens) (inside_after from tokens (inside_cut 0 tokens c))).0 (s, rest) h
