-- Conditions: between parameters, and of splits.
use Rattle.std.specs.Prelude.{ℕ, Bool, ◌||◌, true, false, List, [], ◌∷◌, ◌++◌, length, drop, Option, Some, None, Ok}
use Rattle.ch_lex.specs.declared.error.Code2.TheVariants.{R1, R3}
use Rattle.ch_lex.specs.declared.token.Sign.TheVariants as signs
use Rattle.ch_lex.specs.declared.token.Token.{Token}
use Rattle.ch_nestparse.specs.declared.ahead.Look.{Look}
use Rattle.ch_nestparse.specs.declared.ahead.Look.TheVariants as looks
use Rattle.ch_nestparse.specs.Read.{◌>>=◌, Read, choose, name_at, next_is, place, refused, repeated, seen, text_at}
use Rattle.ch_script.specs.declared.recipe.Purpose.{Purpose}
use Rattle.ch_script.specs.declared.recipe.Purpose.TheVariants.{Require, Split}
use Rattle.ch_script.specs.declared.recipe.Cond.{Cond}
use Rattle.ch_script.specs.declared.recipe.Of.{Of}
use Rattle.ch_script.specs.declared.recipe.Of.TheVariants.{One, Level, Param}
use Rattle.ch_script.specs.declared.recipe.Relation.{Relation}
use Rattle.ch_script.specs.declared.recipe.Relation.TheVariants as relations
use Rattle.ch_script.specs.declared.recipe.Term.{Term}
use Rattle.ch_script.specs.Names.{find_text, level_of}

abbrev pub param_named : Option ℕ → Option Of
param_named (Some k) = Some (Param k)
param_named None = None

abbrev pub level_named : Option ℕ → Option Of
level_named (Some l) = Some (Level l)
level_named None = None

abbrev pub or_param : Option ℕ → List ℕ → List (List ℕ) → Option Of
or_param (Some l) text params = Some (Level l)
or_param None text params = param_named (find_text text params)

-- what a name alone stands for
abbrev pub named_alone : Purpose → List ℕ → List (List ℕ) → Option Of
named_alone Require text params = param_named (find_text text params)
named_alone Split text params = or_param (level_of text) text params

-- what a name behind `NUM *` stands for
abbrev pub named_scaled : Purpose → List ℕ → List (List ℕ) → Option Of
named_scaled Require text params = param_named (find_text text params)
named_scaled Split text params = level_named (level_of text)

abbrev pub term : Bool → ℕ → Of → Term
term negative factor of = record { negative = negative; factor = factor; of = of }

abbrev pub known_term : Bool → ℕ → ℕ → Option Of → List Token → Read Term
known_term negative factor at (Some of) ts = Ok (term negative factor of, ts)
known_term negative factor at None ts = refused R3 at

-- a name behind `NUM *`, where `ts` are the tokens from it on
unfoldable pub scaled_at : List ℕ → Purpose → List (List ℕ) → Bool → ℕ → List Token → Read Term
scaled_at bytes purpose params negative factor ts =
    name_at bytes R1 ts >>= λ name. known_term negative factor (place bytes ts) (named_scaled purpose name.0 params) name.1

abbrev pub term_by : Look → List ℕ → Purpose → List (List ℕ) → Bool → List Token → Read Term
term_by (looks.Number n) bytes purpose params negative ts = choose (next_is bytes signs.Star (drop 1 ts))
    (λ _. scaled_at bytes purpose params negative n (drop 1 (drop 1 ts)))
    (λ _. Ok (term negative n One, drop 1 ts))
term_by looks.Name bytes purpose params negative ts =
    known_term negative 1 (place bytes ts) (named_alone purpose (text_at bytes ts) params) (drop 1 ts)
term_by other bytes purpose params negative ts = refused R1 (place bytes ts)

-- a number, a name, or a number times a name, behind a minus or not
unfoldable pub term_at : List ℕ → Purpose → List (List ℕ) → Bool → List Token → Read Term
term_at bytes purpose params negative ts = term_by (seen bytes ts) bytes purpose params negative ts

abbrev pub is_minus : List ℕ → List Token → Bool
is_minus bytes ts = next_is bytes signs.Minus ts

-- one term and more follow
abbrev pub goes_on : List ℕ → List Token → Bool
goes_on bytes ts = next_is bytes signs.Plus ts || is_minus bytes ts

-- one term more behind a `+` or a `-`
unfoldable pub more_term_at : List ℕ → Purpose → List (List ℕ) → List Term → List Token → Read (List Term)
more_term_at bytes purpose params found ts =
    term_at bytes purpose params (is_minus bytes ts) (drop 1 ts) >>= λ t. Ok (found ++ t.0 ∷ [], t.1)

-- the first term, which may stand behind a `-`
unfoldable pub first_term_at : List ℕ → Purpose → List (List ℕ) → List Token → Read Term
first_term_at bytes purpose params ts = choose (is_minus bytes ts)
    (λ _. term_at bytes purpose params true (drop 1 ts))
    (λ _. term_at bytes purpose params false ts)

-- one term and more; there are no more of them than tokens
unfoldable pub sum_at : List ℕ → Purpose → List (List ℕ) → List Token → Read (List Term)
sum_at bytes purpose params ts = first_term_at bytes purpose params ts
    >>= λ first. repeated (goes_on bytes) (more_term_at bytes purpose params) (length first.1) (first.0 ∷ []) first.1

-- the relation, where `ts` are the tokens after it
abbrev pub relation_if : Look → ℕ → List Token → Read Relation
relation_if (looks.Sign signs.Less) at ts = Ok (relations.Less, ts)
relation_if (looks.Sign signs.AtMost) at ts = Ok (relations.AtMost, ts)
relation_if (looks.Sign signs.More) at ts = Ok (relations.More, ts)
relation_if (looks.Sign signs.AtLeast) at ts = Ok (relations.AtLeast, ts)
relation_if other at ts = refused R1 at

-- a sum, a relation and a sum
unfoldable pub condition_at : List ℕ → Purpose → List (List ℕ) → List Token → Read Cond
condition_at bytes purpose params ts = do
  left ← sum_at bytes purpose params ts
  relation ← relation_if (seen bytes left.1) (place bytes left.1) (drop 1 left.1)
  right ← sum_at bytes purpose params relation.1
  Ok (record { left = left.0; relation = relation.0; right = right.0 }, right.1)
