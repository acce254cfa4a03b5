-- What the numbers of a command name, and the first cause where they name nothing.
use Rattle.std.proofs.Common.{◌≡◌, refl, sym, ap, ◌∙◌, subst, ℕ, ◌+◌, ◌-◌, ◌<◌, ◌≤◌, ℤ, pos, negsuc, ◌≤ℤ◌, int_le, true, Option, Some, None, Result, List, [], ◌∷◌, length, arith}
use Rattle.std.specs.Prelude.{if◌then◌else◌}
use Rattle.std.proofs.lemmas.Bool.{and_parts, le-ltb, lt-ltb}
use Rattle.std.proofs.lemmas.Int.{ints}
use Rattle.ch_copied.specs.Copyable.{HasLoop}
use Rattle.ch_copied.specs.Plans.{plan}
use Rattle.ch_datacopy.specs.Causes.{copy_cause, first_cause, not_there, of_array, of_plan}
use Rattle.ch_moved.specs.Arguments.{has_level, is_piece, natural}
use Rattle.ch_moved.specs.Causes.{Answers, first_of, no_level, no_piece}
use Rattle.ch_moved.proofs.Allowed.{none_first, test_of}
use Rattle.ch_moved.proofs.Causing.{piece_number}
use Rattle.ch_nest.specs.declared.cause.Shape.{Shape}
use Rattle.ch_space.specs.declared.error.ShapeError.{ShapeError}
use Rattle.ch_timed.specs.Groups.{piece}
use Rattle.ch_timed.specs.declared.element.Element.{Element}

-- a piece and a level that it has
pub record IsNamed (list : List Element) (s level : ℤ) : Type 0 where
  pub there : is_piece list s ≡ true
  pub some : 1 ≤ natural level
  pub loop : HasLoop list (natural s) ((natural level - 1) + 1)

natural_is : (z : ℤ) → pos 1 ≤ℤ z → z ≡ pos (natural z)
natural_is (pos n) h = refl
natural_is (negsuc n) h = absurd (omega (arith, ints))

least : (level : ℤ) → int_le (pos 1) level ≡ true → pos 1 ≤ℤ level
least level t = grind (arith, ints)

most : (level : ℤ) (n : ℕ) → int_le level (pos n) ≡ true → level ≤ℤ pos n
most level n t = grind (arith, ints)

pub is_named : (list : List Element) (s level : ℤ) → first_cause list s level ≡ None → IsNamed list s level
is_named list s level e =
    let a = none_first (no_piece list (s ∷ [])) (no_level list (s ∷ []) level ∷ []) e in
    let b = none_first (no_level list (s ∷ []) level) [] a.1 in
    let t = test_of (is_piece list s) (record { code = 1; number = s }) a.0 in
    let p = piece_number list s t in
    let l = and_parts (int_le (pos 1) level) (int_le level (pos (length (piece list (natural s)) - 1))) (test_of (has_level list level s) (record { code = 2; number = level }) b.0) in
    let low = least level l.0 in
    let high = most level (length (piece list (natural s)) - 1) l.1 in
    let is = natural_is level low in
    let number = p.0 in
    let same = p.1 in
    let here : 1 ≤ natural level = some level (natural level) low is in
    record {
      there = t;
      some = here;
      loop = record {
        some = omega (arith, number, same);
        least = omega arith;
        most = deep level (natural level) (length (piece list (natural s))) low high is;
      };
    }
  where
    some : (z : ℤ) (n : ℕ) → pos 1 ≤ℤ z → z ≡ pos n → 1 ≤ n
    some z n h e = omega (arith, ints, h, e)

    deep : (z : ℤ) (n m : ℕ) → pos 1 ≤ℤ z → z ≤ℤ pos (m - 1) → z ≡ pos n → (n - 1) + 1 < m
    deep z n m h g e = omega (arith, ints, h, g, e)

-- causes

first_two : (a b : Option Shape) (rest : List (Option Shape)) (x : Shape) → first_of (a ∷ b ∷ []) ≡ Some x → first_of (a ∷ b ∷ rest) ≡ Some x
first_two None None rest x e = cc
first_two None (Some y) rest x e = e
first_two (Some y) b rest x e = e

no_two : (a b : Option Shape) (rest : List (Option Shape)) → first_of (a ∷ b ∷ []) ≡ None → first_of (a ∷ b ∷ rest) ≡ first_of rest
no_two None None rest e = refl
no_two None (Some y) rest e = cc
no_two (Some y) b rest e = cc

module _ (list : List Element) (arrays buffers : ℕ) (s level : ℤ) where
  pub cause_here : (array : Option ℕ) (x : Shape) → first_cause list s level ≡ Some x → copy_cause list arrays buffers s level array ≡ Some x
  cause_here array x e = first_two (no_piece list (s ∷ [])) (no_level list (s ∷ []) level) (of_array list arrays buffers (natural s) (natural level) array) x e

  rest_is : (array : Option ℕ) → first_cause list s level ≡ None → copy_cause list arrays buffers s level array ≡ first_of (of_array list arrays buffers (natural s) (natural level) array)
  rest_is array e = no_two (no_piece list (s ∷ [])) (no_level list (s ∷ []) level) (of_array list arrays buffers (natural s) (natural level) array) e

  -- no array is named
  pub cause_none : (array : Option ℕ) (x : Shape) → first_cause list s level ≡ None → array ≡ None → Some x ≡ not_there → copy_cause list arrays buffers s level array ≡ Some x
  cause_none array x e f h = rest_is array e ∙ ap (λ a. first_of (of_array list arrays buffers (natural s) (natural level) a)) f ∙ sym h

  -- the array isn't declared
  pub cause_undeclared : (named : Option ℕ) (array : ℕ) (x : Shape) → first_cause list s level ≡ None → named ≡ Some array → arrays ≤ array → Some x ≡ not_there → copy_cause list arrays buffers s level named ≡ Some x
  cause_undeclared named array x e f l h =
      rest_is named e ∙ ap (λ a. first_of (of_array list arrays buffers (natural s) (natural level) a)) f
      ∙ ap (λ b. first_of (if b then of_plan (plan list (natural s) (natural level - 1) array (arrays + buffers)) list else not_there ∷ [])) (le-ltb array arrays l) ∙ sym h

  -- the plan tells
  pub plan_tells : {X : Type 0} (r : Result X ShapeError) (named : Option ℕ) (array : ℕ) → first_cause list s level ≡ None → named ≡ Some array → array < arrays
      → Answers r (first_of (of_plan (plan list (natural s) (natural level - 1) array (arrays + buffers)) list)) → Answers r (copy_cause list arrays buffers s level named)
  plan_tells r named array e f l h =
      subst (Answers r)
      (sym (rest_is named e ∙ ap (λ a. first_of (of_array list arrays buffers (natural s) (natural level) a)) f
      ∙ ap (λ b. first_of (if b then of_plan (plan list (natural s) (natural level - 1) array (arrays + buffers)) list else not_there ∷ [])) (lt-ltb array arrays l))) h
