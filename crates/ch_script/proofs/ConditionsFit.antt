-- A condition that was read: it has at most 2^20 terms, and each of them is one that its purpose allows.
use Rattle.std.proofs.Common.{◌≡◌, ℕ, ◌+◌, ◌-◌, ◌<◌, ◌≤◌, pos, Bool, true, false, ◌&&◌, nat_eq, nat_le, nat_lt, List, [], ◌∷◌, ◌++◌, length, drop, Option, Some, None, Ok, length-append, refl, subst, lt-ltb, le-leb, arith}
use Rattle.std.specs.List.{list_all}
use Rattle.std.proofs.lemmas.Bool.{and_from}
use Rattle.std.proofs.lemmas.List.Folds.{list_all-append}
use Rattle.ch_lex.specs.declared.error.Code2.TheVariants.{R1, R3}
use Rattle.ch_lex.specs.declared.token.Sign.TheVariants as signs
use Rattle.ch_lex.specs.declared.token.Token.{Token}
use Rattle.ch_nestparse.specs.declared.ahead.Look.{Look}
use Rattle.ch_nestparse.specs.declared.ahead.Look.TheVariants as looks
use Rattle.ch_nestparse.specs.Read.{next_is, place, seen, text_at}
use Rattle.ch_nestparse.proofs.Placed.{Placed, placed_bind, placed_choose, placed_err, placed_ok}
use Rattle.ch_script.specs.Conditions.{condition_at, first_term_at, goes_on, is_minus, known_term, level_named, more_term_at, named_alone, named_scaled, or_param, param_named, relation_if, scaled_at, sum_at, term, term_at, term_by}
use Rattle.ch_script.specs.Limits.{deepest_level, most_terms}
use Rattle.ch_script.specs.Names.{find_text, level_of}
use Rattle.ch_script.specs.Recipes.{condition_fits, required_fits, split_fits, term_fits}
use Rattle.ch_script.specs.declared.recipe.Cond.{Cond}
use Rattle.ch_script.specs.declared.recipe.Of.{Of}
use Rattle.ch_script.specs.declared.recipe.Of.TheVariants.{One, Level, Param}
use Rattle.ch_script.specs.declared.recipe.Purpose.{Purpose}
use Rattle.ch_script.specs.declared.recipe.Purpose.TheVariants.{Require, Split}
use Rattle.ch_script.specs.declared.recipe.Relation.{Relation}
use Rattle.ch_script.specs.declared.recipe.Relation.TheVariants as relations
use Rattle.ch_script.specs.declared.recipe.Term.{Term}
use Rattle.ch_script.proofs.Left.{Leaves, Left, left_drop, left_place, left_within, name_left, name_taken, number_taken, placed_map, repeated_left}
use Rattle.ch_script.proofs.NamesFit.{found_inside, level_inside}

-- what a name stands for

param_required : (m : ℕ) (o : Option ℕ) (x : Of) → ((k : ℕ) → o ≡ Some k → k < m) → param_named o ≡ Some x → required_fits m x ≡ true
param_required m None x g e = absurd cc
param_required m (Some k) x g e = let s : Param k ≡ x = cc in subst (λ y. required_fits m y ≡ true) s (lt-ltb k m (g k refl))

param_split : (m : ℕ) (o : Option ℕ) (x : Of) → ((k : ℕ) → o ≡ Some k → k < m) → param_named o ≡ Some x → split_fits m 1 x ≡ true
param_split m None x g e = absurd cc
param_split m (Some k) x g e =
    let s : Param k ≡ x = cc in
    subst (λ y. split_fits m 1 y ≡ true) s (and_from (nat_lt k m) (nat_eq 1 1) (lt-ltb k m (g k refl)) refl)

level_fits : (m factor l : ℕ) → (1 ≤ l) × (l ≤ 10) → split_fits m factor (Level l) ≡ true
level_fits m factor l h = and_from (nat_le 1 l) (nat_le l deepest_level) (le-leb 1 l h.0) (le-leb l deepest_level h.1)

level_split : (m factor : ℕ) (o : Option ℕ) (x : Of) → ((l : ℕ) → o ≡ Some l → (1 ≤ l) × (l ≤ 10)) → level_named o ≡ Some x → split_fits m factor x ≡ true
level_split m factor None x g e = absurd cc
level_split m factor (Some l) x g e = let s : Level l ≡ x = cc in subst (λ y. split_fits m factor y ≡ true) s (level_fits m factor l (g l refl))

either_split : (ps : List (List ℕ)) (text : List ℕ) (o : Option ℕ) (x : Of) → ((l : ℕ) → o ≡ Some l → (1 ≤ l) × (l ≤ 10)) → or_param o text ps ≡ Some x
    → split_fits (length ps) 1 x ≡ true
either_split ps text (Some l) x g e = let s : Level l ≡ x = cc in subst (λ y. split_fits (length ps) 1 y ≡ true) s (level_fits (length ps) 1 l (g l refl))
either_split ps text None x g e = param_split (length ps) (find_text text ps) x (found_inside text ps) e

alone_fits : (purpose : Purpose) (ps : List (List ℕ)) (text : List ℕ) (negative : Bool) (x : Of) → named_alone purpose text ps ≡ Some x → term_fits purpose (length ps) (term negative 1 x) ≡ true
alone_fits Require ps text negative x e = param_required (length ps) (find_text text ps) x (found_inside text ps) e
alone_fits Split ps text negative x e = either_split ps text (level_of text) x (level_inside text) e

scaled_fits : (purpose : Purpose) (ps : List (List ℕ)) (text : List ℕ) (negative : Bool) (factor : ℕ) (x : Of) → named_scaled purpose text ps ≡ Some x → term_fits purpose (length ps) (term negative factor x) ≡ true
scaled_fits Require ps text negative factor x e = param_required (length ps) (find_text text ps) x (found_inside text ps) e
scaled_fits Split ps text negative factor x e = level_split (length ps) factor (level_of text) x (level_inside text) e

one_fits : (purpose : Purpose) (m : ℕ) (negative : Bool) (factor : ℕ) → term_fits purpose m (term negative factor One) ≡ true
one_fits Require m negative factor = refl
one_fits Split m negative factor = refl

-- readings

module _ (bytes : List ℕ) (purpose : Purpose) (ps : List (List ℕ)) where
  abbrev TermFits : Term → Type 0
  TermFits t = term_fits purpose (length ps) t ≡ true

  known_left : (negative : Bool) (factor at : ℕ) (o : Option Of) (n : ℕ) (ts : List Token) → at ≤ length bytes → ((x : Of) → o ≡ Some x → TermFits (term negative factor x)) → Left bytes n ts
      → Leaves bytes TermFits n (known_term negative factor at o ts)
  known_left negative factor at (Some x) n ts l g h = placed_ok bytes (λ t. TermFits t.0 × Left bytes n t.1) (term negative factor x, ts) (g x refl, h)
  known_left negative factor at None n ts l g h = placed_err bytes (λ t. TermFits t.0 × Left bytes n t.1) R3 at (pos 0) l

  scaled_left : (negative : Bool) (factor n : ℕ) (ts : List Token) → Left bytes n ts → Leaves bytes TermFits n (scaled_at bytes purpose ps negative factor ts)
  unfolding scaled_at
  scaled_left negative factor n ts h =
      placed_bind bytes (name_left bytes R1 n ts h) (λ name a.
      known_left negative factor (place bytes ts) (named_scaled purpose name.0 ps) n name.1 (left_place bytes n ts h) (scaled_fits purpose ps name.0 negative factor) a.1)

  -- one token at least is taken
  abbrev Takes : ℕ → Term × List Token → Type 0
  Takes n x = TermFits x.0 × (1 ≤ n) × Left bytes (n - 1) x.1

  term_by_left : (look : Look) (negative : Bool) (n : ℕ) (ts : List Token) → seen bytes ts ≡ look → Left bytes n ts → Placed bytes (Takes n) (term_by look bytes purpose ps negative ts)
  term_by_left (looks.Number z) negative n ts e h =
      let t = number_taken bytes n z ts e h in
      placed_map bytes {P = λ x. TermFits x.0 × Left bytes (n - 1) x.1} {Q = Takes n} (λ x p. (p.0, t.0, p.1))
      (placed_choose bytes (next_is bytes signs.Star (drop 1 ts))
      (λ _. scaled_at bytes purpose ps negative z (drop 1 (drop 1 ts)))
      (λ _. Ok (term negative z One, drop 1 ts))
      (scaled_left negative z (n - 1) (drop 1 (drop 1 ts)) (left_drop bytes (n - 1) (drop 1 ts) t.1))
      (placed_ok bytes (λ x. TermFits x.0 × Left bytes (n - 1) x.1) (term negative z One, drop 1 ts) (one_fits purpose (length ps) negative z, t.1)))
  term_by_left looks.Name negative n ts e h =
      let t = name_taken bytes n ts e h in
      placed_map bytes {P = λ x. TermFits x.0 × Left bytes (n - 1) x.1} {Q = Takes n} (λ x p. (p.0, t.0, p.1))
      (known_left negative 1 (place bytes ts) (named_alone purpose (text_at bytes ts) ps) (n - 1) (drop 1 ts) (left_place bytes n ts h) (alone_fits purpose ps (text_at bytes ts) negative) t.1)
  term_by_left other negative n ts e h = placed_err bytes (Takes n) R1 (place bytes ts) (pos 0) (left_place bytes n ts h)

  term_left : (negative : Bool) (n : ℕ) (ts : List Token) → Left bytes n ts → Placed bytes (Takes n) (term_at bytes purpose ps negative ts)
  unfolding term_at
  term_left negative n ts h = term_by_left (seen bytes ts) negative n ts refl h

  first_left : (n : ℕ) (ts : List Token) → Left bytes n ts → Placed bytes (Takes n) (first_term_at bytes purpose ps ts)
  unfolding first_term_at
  first_left n ts h =
      placed_choose bytes (is_minus bytes ts) (λ _. term_at bytes purpose ps true (drop 1 ts)) (λ _. term_at bytes purpose ps false ts)
      (term_left true n (drop 1 ts) (left_drop bytes n ts h))
      (term_left false n ts h)

  -- terms that fit, of which there are no more than tokens were taken from so many
  abbrev Sum : ℕ → List Term → List Token → Type 0
  Sum n found ts = (list_all (term_fits purpose (length ps)) found ≡ true) × (length found ≤ n) × Left bytes (n - length found) ts

  sum_more : (n : ℕ) (found : List Term) (x : Term × List Token) → (list_all (term_fits purpose (length ps)) found ≡ true) → length found ≤ n → Takes (n - length found) x
      → Sum n (found ++ x.0 ∷ []) x.1
  sum_more n found x f l h =
      let some = h.1 in
      let more : length (found ++ x.0 ∷ []) ≡ length found + 1 = length-append found (x.0 ∷ []) in
      (rw (list_all-append, f, h.0) refl, omega (arith, some, l, more), left_within bytes (n - length found - 1) (n - length (found ++ x.0 ∷ [])) x.1 (omega (arith, more)) h.2)

  more_left : (n : ℕ) (found : List Term) (ts : List Token) → Sum n found ts → Placed bytes (λ x. Sum n x.0 x.1) (more_term_at bytes purpose ps found ts)
  unfolding more_term_at
  more_left n found ts h =
      placed_bind bytes (term_left (is_minus bytes ts) (n - length found) (drop 1 ts) (left_drop bytes (n - length found) ts h.2)) (λ x a.
      placed_ok bytes (λ y. Sum n y.0 y.1) (found ++ x.0 ∷ [], x.1) (sum_more n found x h.0 h.1 a))

  sum_left : (n : ℕ) (ts : List Token) → Left bytes n ts → Placed bytes (λ x. Sum n x.0 x.1) (sum_at bytes purpose ps ts)
  unfolding sum_at
  sum_left n ts h =
      placed_bind bytes (first_left n ts h) (λ first a.
      repeated_left bytes (Sum n) (goes_on bytes) (more_term_at bytes purpose ps) (more_left n) (length first.1) (first.0 ∷ []) first.1 (rw a.0 refl, a.1, a.2))

  relation_left : (look : Look) (at n : ℕ) (ts : List Token) → at ≤ length bytes → Left bytes n ts → Placed bytes (λ x. Left bytes n x.1) (relation_if look at ts)
  relation_left (looks.Sign signs.Less) at n ts l h = placed_ok bytes (λ x. Left bytes n x.1) (relations.Less, ts) h
  relation_left (looks.Sign signs.AtMost) at n ts l h = placed_ok bytes (λ x. Left bytes n x.1) (relations.AtMost, ts) h
  relation_left (looks.Sign signs.More) at n ts l h = placed_ok bytes (λ x. Left bytes n x.1) (relations.More, ts) h
  relation_left (looks.Sign signs.AtLeast) at n ts l h = placed_ok bytes (λ x. Left bytes n x.1) (relations.AtLeast, ts) h
  relation_left other at n ts l h = placed_err bytes (λ x. Left bytes n x.1) R1 at (pos 0) l

  abbrev pub CondFits : Cond → Type 0
  CondFits c = condition_fits purpose (length ps) c ≡ true

  sums_fit : (n : ℕ) (left : List Term) (relation : Relation) (right : List Term) → n ≤ most_terms → list_all (term_fits purpose (length ps)) left ≡ true → list_all (term_fits purpose (length ps)) right ≡ true
      → length left ≤ n → length right ≤ n - length left → CondFits (record { left = left; relation = relation; right = right })
  sums_fit n left relation right few f g l r =
      and_from (nat_le (length left + length right) most_terms) (list_all (term_fits purpose (length ps)) left && list_all (term_fits purpose (length ps)) right)
      (le-leb (length left + length right) most_terms (omega (arith, few, l, r)))
      (and_from (list_all (term_fits purpose (length ps)) left) (list_all (term_fits purpose (length ps)) right) f g)

  pub condition_left : (n : ℕ) (ts : List Token) → n ≤ most_terms → Left bytes n ts → Leaves bytes CondFits n (condition_at bytes purpose ps ts)
  unfolding condition_at
  condition_left n ts few h =
      placed_bind bytes (sum_left n ts h) (λ left a.
      placed_bind bytes (relation_left (seen bytes left.1) (place bytes left.1) (n - length left.0) (drop 1 left.1) (left_place bytes (n - length left.0) left.1 a.2) (left_drop bytes (n - length left.0) left.1 a.2)) (λ relation b.
      placed_bind bytes (sum_left (n - length left.0) relation.1 b) (λ right c.
      placed_ok bytes (λ x. CondFits x.0 × Left bytes n x.1) (record { left = left.0; relation = relation.0; right = right.0 }, right.1)
      (sums_fit n left.0 relation.0 right.0 few a.0 c.0 a.1 c.1, left_within bytes (n - length left.0 - length right.0) n right.1 (omega arith) c.2))))
