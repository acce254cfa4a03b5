-- Printed conditions are read.
use Rattle.std.proofs.Common.{◌≡◌, ℕ, ◌≤◌, Bool, true, false, ◌&&◌, ◌||◌, nat_eq, nat_le, nat_lt, List, [], ◌∷◌, ◌++◌, length, drop, Option, Some, Ok, refl, sym, ap, subst, ◌∙◌, append_assoc, arith}
use Rattle.std.specs.List.{flat_map, list_all}
use Rattle.std.proofs.lemmas.Bool.{and_parts, eqb-true, leb-true, ltb-true}
use Rattle.ch_lex.specs.declared.error.Code2.TheVariants.{R1}
use Rattle.ch_lex.specs.declared.token.Sign.TheVariants as signs
use Rattle.ch_lex.specs.declared.token.Token.{Token}
use Rattle.ch_nestparse.specs.declared.ahead.Look.{Look}
use Rattle.ch_nestparse.specs.declared.ahead.Look.TheVariants as looks
use Rattle.ch_nestparse.specs.Read.{is_sign, name_at, next_is, place, repeated, seen, text_at}
use Rattle.ch_nestprint.specs.declared.symbol.Symbol.{Symbol}
use Rattle.ch_nestprint.specs.declared.symbol.Symbol.TheVariants.{Name, Number, Mark}
use Rattle.ch_nestprint.proofs.Cases.{Each}
use Rattle.ch_nestprint.proofs.Seeing.{Given, Sees, Valued, behind_front, front, given_bind, given_chosen, given_ok, given_other, name_given, seen_front, text_front}
use Rattle.ch_script.specs.Conditions.{condition_at, first_term_at, goes_on, is_minus, known_term, level_named, more_term_at, named_alone, named_scaled, or_param, param_named, relation_if, scaled_at, sum_at, term, term_at, term_by}
use Rattle.ch_script.specs.Limits.{deepest_level}
use Rattle.ch_script.specs.Names.{level_of}
use Rattle.ch_script.specs.Recipes.{condition_fits, has_few_terms, term_fits}
use Rattle.ch_script.specs.declared.recipe.Cond.{Cond}
use Rattle.ch_script.specs.declared.recipe.Of.{Of}
use Rattle.ch_script.specs.declared.recipe.Of.TheVariants.{One, Level, Param}
use Rattle.ch_script.specs.declared.recipe.Purpose.{Purpose}
use Rattle.ch_script.specs.declared.recipe.Purpose.TheVariants.{Require, Split}
use Rattle.ch_script.specs.declared.recipe.Relation.{Relation}
use Rattle.ch_script.specs.declared.recipe.Relation.TheVariants as relations
use Rattle.ch_script.specs.declared.recipe.Term.{Term}
use Rattle.ch_scriptprint.specs.Printable.{are_params, condition_written, is_list, sum_written, term_written}
use Rattle.ch_scriptprint.specs.Printed.{level_text, param_name}
use Rattle.ch_scriptprint.proofs.Params.{known, level_back}
use Rattle.ch_scriptprint.proofs.RecipeLays.{each_of}
use Rattle.ch_scriptprint.proofs.Series.{few_seen, given_same, series_given}
use Rattle.ch_scriptprint.proofs.Symbols.{condition_symbols, factor_symbols, first_symbols, lead_symbols, next_mark, next_symbols, part_symbols, relation_sign, sum_symbols}

abbrev cond_of : List Term → Relation → List Term → Cond
cond_of a r b = record { left = a; relation = r; right = b }

no_sign : (a b : Bool) → a ≡ false → b ≡ false → (a || b) ≡ false
no_sign true b h g = absurd (cc)
no_sign false b h g = g

-- no factor ends here
abbrev pub NoStar : List Symbol → Type 0
NoStar rest = is_sign signs.Star (front rest) ≡ false

-- a sum ends here
pub record Ends (rest : List Symbol) : Type 0 where
  pub star : is_sign signs.Star (front rest) ≡ false
  pub plus : is_sign signs.Plus (front rest) ≡ false
  pub minus : is_sign signs.Minus (front rest) ≡ false

relation_ends : (r : Relation) (rest : List Symbol) → Ends (Mark (relation_sign r) ∷ rest)
relation_ends relations.Less rest = record { star = refl; plus = refl; minus = refl }
relation_ends relations.AtMost rest = record { star = refl; plus = refl; minus = refl }
relation_ends relations.More rest = record { star = refl; plus = refl; minus = refl }
relation_ends relations.AtLeast rest = record { star = refl; plus = refl; minus = refl }

relation_read : (r : Relation) (at : ℕ) (ts : List Token) → relation_if (looks.Sign (relation_sign r)) at ts ≡ Ok (r, ts)
relation_read relations.Less at ts = refl
relation_read relations.AtMost at ts = refl
relation_read relations.More at ts = refl
relation_read relations.AtLeast at ts = refl

-- no part begins with a minus sign
factor_plain : (one : Bool) (factor : ℕ) (name : List ℕ) (rest : List Symbol) → is_sign signs.Minus (front ((factor_symbols one factor ++ Name name ∷ []) ++ rest)) ≡ false
factor_plain true factor name rest = refl
factor_plain false factor name rest = refl

part_plain : (ps : List (List ℕ)) (factor : ℕ) (of : Of) (rest : List Symbol) → is_sign signs.Minus (front (part_symbols ps factor of ++ rest)) ≡ false
part_plain ps factor One rest = refl
part_plain ps factor (Level l) rest = factor_plain (nat_eq factor 1) factor (level_text l) rest
part_plain ps factor (Param k) rest = factor_plain (nat_eq factor 1) factor (param_name ps k) rest

mark_minus : (negative : Bool) (rest : List Symbol) → is_sign signs.Minus (front (next_mark negative ∷ rest)) ≡ negative
mark_minus true rest = refl
mark_minus false rest = refl

mark_star : (negative : Bool) (rest : List Symbol) → NoStar (next_mark negative ∷ rest)
mark_star true rest = refl
mark_star false rest = refl

mark_goes : (negative : Bool) (rest : List Symbol) → (is_sign signs.Plus (front (next_mark negative ∷ rest)) || is_sign signs.Minus (front (next_mark negative ∷ rest))) ≡ true
mark_goes true rest = refl
mark_goes false rest = refl

module _ (bytes : List ℕ) (purpose : Purpose) (ps : List (List ℕ)) (all : are_params [] ps ≡ true) where
  by_look : (t : Term) (negative : Bool) (l : Look) (ts : List Token) (rest : List Symbol) → seen bytes ts ≡ l → Given (Valued bytes t rest) (term_by l bytes purpose ps negative ts)
      → Given (Valued bytes t rest) (term_at bytes purpose ps negative ts)
  unfolding term_at
  by_look t negative l ts rest e g =
      given_same (Valued bytes t rest) (term_by (seen bytes ts) bytes purpose ps negative ts) (term_by l bytes purpose ps negative ts) (ap (λ (m : Look). term_by m bytes purpose ps negative ts) e) g

  -- a name of its own
  alone_given : (negative : Bool) (name : List ℕ) (of : Of) (ts : List Token) (rest : List Symbol) → named_alone purpose name ps ≡ Some of → Sees bytes ts (Name name ∷ rest)
      → Given (Valued bytes (term negative 1 of) rest) (term_at bytes purpose ps negative ts)
  alone_given negative name of ts rest e sees =
      let goal = Valued bytes (term negative 1 of) rest in
      let found : named_alone purpose (text_at bytes ts) ps ≡ Some of = ap (λ (text : List ℕ). named_alone purpose text ps) (text_front bytes ts name rest sees) ∙ e in
      by_look (term negative 1 of) negative looks.Name ts rest (seen_front bytes ts (Name name ∷ rest) sees)
      (given_same goal (known_term negative 1 (place bytes ts) (named_alone purpose (text_at bytes ts) ps) (drop 1 ts)) (Ok (term negative 1 of, drop 1 ts))
      (ap (λ (o : Option Of). known_term negative 1 (place bytes ts) o (drop 1 ts)) found)
      (given_ok goal (term negative 1 of, drop 1 ts) (refl, behind_front bytes ts (Name name) rest sees)))

  -- a number
  one_given : (negative : Bool) (n : ℕ) (ts : List Token) (rest : List Symbol) → NoStar rest → Sees bytes ts (Number n ∷ rest) → Given (Valued bytes (term negative n One) rest) (term_at bytes purpose ps negative ts)
  one_given negative n ts rest ends sees =
      let goal = Valued bytes (term negative n One) rest in
      let behind = behind_front bytes ts (Number n) rest sees in
      by_look (term negative n One) negative (looks.Number n) ts rest (seen_front bytes ts (Number n ∷ rest) sees)
      (given_other goal (next_is bytes signs.Star (drop 1 ts)) (λ _. scaled_at bytes purpose ps negative n (drop 1 (drop 1 ts))) (λ _. Ok (term negative n One, drop 1 ts))
      (ap (is_sign signs.Star) (seen_front bytes (drop 1 ts) rest behind) ∙ ends)
      (given_ok goal (term negative n One, drop 1 ts) (refl, behind)))

  -- a name behind a number
  name_scaled : (negative : Bool) (n : ℕ) (name : List ℕ) (of : Of) (ts : List Token) (rest : List Symbol) → named_scaled purpose name ps ≡ Some of → Sees bytes ts (Name name ∷ rest)
      → Given (Valued bytes (term negative n of) rest) (scaled_at bytes purpose ps negative n ts)
  unfolding scaled_at
  name_scaled negative n name of ts rest e sees =
      let goal = Valued bytes (term negative n of) rest in
      given_bind (Valued bytes name rest) goal (name_at bytes R1 ts) _ (name_given bytes R1 name ts rest sees) (λ x g.
      let found : named_scaled purpose x.0 ps ≡ Some of = ap (λ (text : List ℕ). named_scaled purpose text ps) g.0 ∙ e in
      given_same goal (known_term negative n (place bytes ts) (named_scaled purpose x.0 ps) x.1) (Ok (term negative n of, x.1))
      (ap (λ (o : Option Of). known_term negative n (place bytes ts) o x.1) found)
      (given_ok goal (term negative n of, x.1) (refl, g.1)))

  scaled_given : (negative : Bool) (n : ℕ) (name : List ℕ) (of : Of) (ts : List Token) (rest : List Symbol) → named_scaled purpose name ps ≡ Some of → Sees bytes ts (Number n ∷ Mark signs.Star ∷ Name name ∷ rest)
      → Given (Valued bytes (term negative n of) rest) (term_at bytes purpose ps negative ts)
  scaled_given negative n name of ts rest e sees =
      let goal = Valued bytes (term negative n of) rest in
      let star : List Symbol = Mark signs.Star ∷ Name name ∷ rest in
      let behind = behind_front bytes ts (Number n) star sees in
      by_look (term negative n of) negative (looks.Number n) ts rest (seen_front bytes ts (Number n ∷ star) sees)
      (given_chosen goal (next_is bytes signs.Star (drop 1 ts)) (λ _. scaled_at bytes purpose ps negative n (drop 1 (drop 1 ts))) (λ _. Ok (term negative n One, drop 1 ts))
      (ap (is_sign signs.Star) (seen_front bytes (drop 1 ts) star behind))
      (name_scaled negative n name of (drop 1 (drop 1 ts)) rest e (behind_front bytes (drop 1 ts) (Mark signs.Star) (Name name ∷ rest) behind)))

  times_given : (one negative : Bool) (n : ℕ) (name : List ℕ) (of : Of) (ts : List Token) (rest : List Symbol) → nat_eq n 1 ≡ one → named_alone purpose name ps ≡ Some of
      → (one ≡ false → named_scaled purpose name ps ≡ Some of) → Sees bytes ts ((factor_symbols one n ++ Name name ∷ []) ++ rest)
      → Given (Valued bytes (term negative n of) rest) (term_at bytes purpose ps negative ts)
  times_given true negative n name of ts rest same alone scaled sees =
      let one : n ≡ 1 = eqb-true n 1 same in
      subst (λ (m : ℕ). Given (Valued bytes (term negative m of) rest) (term_at bytes purpose ps negative ts)) (sym one) (alone_given negative name of ts rest alone sees)
  times_given false negative n name of ts rest same alone scaled sees = scaled_given negative n name of ts rest (scaled refl) sees

no_level : (purpose : Purpose) (ps : List (List ℕ)) (negative : Bool) (n l : ℕ) → term_fits purpose (length ps) (term negative n (Level l)) ≡ true
    → (named_alone purpose (level_text l) ps ≡ Some (Level l)) × (named_scaled purpose (level_text l) ps ≡ Some (Level l))
no_level Require ps negative n l h = absurd (cc)
no_level Split ps negative n l h =
    let parts = and_parts (nat_le 1 l) (nat_le l deepest_level) h in
    let back : level_of (level_text l) ≡ Some l = level_back l (leb-true 1 l parts.0) (leb-true l deepest_level parts.1) in
    (ap (λ (o : Option ℕ). or_param o (level_text l) ps) back, ap level_named back)

param_there : (purpose : Purpose) (ps : List (List ℕ)) (negative : Bool) (n k : ℕ) → are_params [] ps ≡ true → term_fits purpose (length ps) (term negative n (Param k)) ≡ true
    → (named_alone purpose (param_name ps k) ps ≡ Some (Param k)) × (nat_eq n 1 ≡ false → named_scaled purpose (param_name ps k) ps ≡ Some (Param k))
param_there Require ps negative n k all h =
    let param = known ps k all (ltb-true k (length ps) h) in
    (ap param_named param.found, λ e. ap param_named param.found)
param_there Split ps negative n k all h =
    let parts = and_parts (nat_lt k (length ps)) (nat_eq n 1) h in
    let param = known ps k all (ltb-true k (length ps) parts.0) in (
      ap (λ (o : Option ℕ). or_param o (param_name ps k) ps) param.apart ∙ ap param_named param.found,
      λ e. let one : nat_eq n 1 ≡ true = parts.1 in absurd (cc),
    )

module _ (bytes : List ℕ) (purpose : Purpose) (ps : List (List ℕ)) (all : are_params [] ps ≡ true) where
  part_given : (negative : Bool) (n : ℕ) (of : Of) (ts : List Token) (rest : List Symbol) → term_fits purpose (length ps) (term negative n of) ≡ true → NoStar rest → Sees bytes ts (part_symbols ps n of ++ rest)
      → Given (Valued bytes (term negative n of) rest) (term_at bytes purpose ps negative ts)
  part_given negative n One ts rest h ends sees = one_given bytes purpose ps all negative n ts rest ends sees
  part_given negative n (Level l) ts rest h ends sees =
      let named = no_level purpose ps negative n l h in
      times_given bytes purpose ps all (nat_eq n 1) negative n (level_text l) (Level l) ts rest refl named.0 (λ e. named.1) sees
  part_given negative n (Param k) ts rest h ends sees =
      let named = param_there purpose ps negative n k all h in
      times_given bytes purpose ps all (nat_eq n 1) negative n (param_name ps k) (Param k) ts rest refl named.0 named.1 sees

  abbrev Fits : Term → Type 0
  Fits t = term_fits purpose (length ps) t ≡ true

  first_by : (negative : Bool) (n : ℕ) (of : Of) (ts : List Token) (rest : List Symbol) → Fits (term negative n of) → NoStar rest → Sees bytes ts ((lead_symbols negative ++ part_symbols ps n of) ++ rest)
      → Given (Valued bytes (term negative n of) rest) (first_term_at bytes purpose ps ts)
  unfolding first_term_at
  first_by true n of ts rest h ends sees =
      let behind : List Symbol = part_symbols ps n of ++ rest in
      given_chosen (Valued bytes (term true n of) rest) (is_minus bytes ts) (λ _. term_at bytes purpose ps true (drop 1 ts)) (λ _. term_at bytes purpose ps false ts)
      (ap (is_sign signs.Minus) (seen_front bytes ts (Mark signs.Minus ∷ behind) sees))
      (part_given true n of (drop 1 ts) rest h ends (behind_front bytes ts (Mark signs.Minus) behind sees))
  first_by false n of ts rest h ends sees =
      given_other (Valued bytes (term false n of) rest) (is_minus bytes ts) (λ _. term_at bytes purpose ps true (drop 1 ts)) (λ _. term_at bytes purpose ps false ts)
      (ap (is_sign signs.Minus) (seen_front bytes ts (part_symbols ps n of ++ rest) sees) ∙ part_plain ps n of rest)
      (part_given false n of ts rest h ends sees)

  more_given : (found : List Term) (t : Term) (ts : List Token) (rest : List Symbol) → Fits t → NoStar rest → Sees bytes ts (next_symbols ps t ++ rest)
      → Given (Valued bytes (found ++ t ∷ []) rest) (more_term_at bytes purpose ps found ts)
  unfolding more_term_at
  more_given found t ts rest h ends sees =
      let goal = Valued bytes (found ++ t ∷ []) rest in
      let behind : List Symbol = part_symbols ps t.factor t.of ++ rest in
      let sign : is_minus bytes ts ≡ t.negative = ap (is_sign signs.Minus) (seen_front bytes ts (next_mark t.negative ∷ behind) sees) ∙ mark_minus t.negative behind in
      let part = part_given t.negative t.factor t.of (drop 1 ts) rest h ends (behind_front bytes ts (next_mark t.negative) behind sees) in
      let same : Given (Valued bytes t rest) (term_at bytes purpose ps (is_minus bytes ts) (drop 1 ts)) =
      given_same (Valued bytes t rest) (term_at bytes purpose ps (is_minus bytes ts) (drop 1 ts)) (term_at bytes purpose ps t.negative (drop 1 ts)) (ap (λ (b : Bool). term_at bytes purpose ps b (drop 1 ts)) sign) part in
      given_bind (Valued bytes t rest) goal (term_at bytes purpose ps (is_minus bytes ts) (drop 1 ts)) _ same (λ x g.
      given_ok goal (found ++ x.0 ∷ [], x.1) (ap (λ (u : Term). found ++ u ∷ []) g.0, g.1))

  tail_star : (terms : List Term) (rest : List Symbol) → NoStar rest → NoStar (flat_map (next_symbols ps) terms ++ rest)
  tail_star [] rest h = h
  tail_star (t ∷ terms) rest h = mark_star t.negative ((part_symbols ps t.factor t.of ++ flat_map (next_symbols ps) terms) ++ rest)

  sum_given : (terms : List Term) (ts : List Token) (rest : List Symbol) → list_all (term_fits purpose (length ps)) terms ≡ true → is_list terms ≡ true → Ends rest → Sees bytes ts (sum_symbols ps terms ++ rest)
      → Given (Valued bytes terms rest) (sum_at bytes purpose ps ts)
  unfolding sum_at
  sum_given [] ts rest h some ends sees = absurd (cc)
  sum_given (t ∷ terms) ts rest h some ends sees =
      let goal = Valued bytes (t ∷ terms) rest in
      let fits = and_parts (term_fits purpose (length ps) t) (list_all (term_fits purpose (length ps)) terms) h in
      let each : Each Fits terms = each_of (term_fits purpose (length ps)) Fits (λ u e. e) terms fits.1 in
      let tail = flat_map (next_symbols ps) terms in
      let flat : Sees bytes ts ((lead_symbols t.negative ++ part_symbols ps t.factor t.of) ++ (tail ++ rest)) = sees ∙ append_assoc (first_symbols ps t) tail rest in
      given_bind (Valued bytes t (tail ++ rest)) goal (first_term_at bytes purpose ps ts) _ (first_by t.negative t.factor t.of ts (tail ++ rest) fits.0 (tail_star terms rest ends.star) flat) (λ x f.
      let few : length terms ≤ length x.1 = few_seen bytes (next_symbols ps) (λ u. omega arith) terms x.1 rest f.1 in
      let series = series_given bytes (next_symbols ps) (goes_on bytes) (more_term_at bytes purpose ps) (λ found us. Each Fits us) NoStar
      (λ found u us g. g.1) (λ found u us vs ss g b s. more_given found u vs ss g.0 b s)
      (λ u vs ss s. ap (λ (l : Look). is_sign signs.Plus l || is_sign signs.Minus l) (seen_front bytes vs (next_symbols ps u ++ ss) s) ∙ mark_goes u.negative (part_symbols ps u.factor u.of ++ ss))
      (λ u ss. mark_star u.negative (part_symbols ps u.factor u.of ++ ss))
      terms (length x.1) (t ∷ []) x.1 rest each few ends.star
      (λ vs s. ap (λ (l : Look). is_sign signs.Plus l || is_sign signs.Minus l) (seen_front bytes vs rest s) ∙ no_sign (is_sign signs.Plus (front rest)) (is_sign signs.Minus (front rest)) ends.plus ends.minus) f.1 in
      (series.0, ap (λ (u : Term). repeated (goes_on bytes) (more_term_at bytes purpose ps) (length x.1) (u ∷ []) x.1) f.0 ∙ series.1, series.2))

  pub condition_given : (c : Cond) (ts : List Token) (rest : List Symbol) → condition_fits purpose (length ps) c ≡ true → condition_written c ≡ true → Ends rest → Sees bytes ts (condition_symbols ps c ++ rest)
      → Given (Valued bytes c rest) (condition_at bytes purpose ps ts)
  unfolding condition_at
  condition_given c ts rest h w ends sees =
      let goal = Valued bytes c rest in
      let fits = and_parts (list_all (term_fits purpose (length ps)) c.left) (list_all (term_fits purpose (length ps)) c.right)
      ((and_parts (has_few_terms c) (list_all (term_fits purpose (length ps)) c.left && list_all (term_fits purpose (length ps)) c.right) h).1) in
      let written = and_parts (sum_written c.left) (sum_written c.right) w in
      let left = (and_parts (is_list c.left) (list_all term_written c.left) written.0).0 in
      let right = (and_parts (is_list c.right) (list_all term_written c.right) written.1).0 in
      let third : List Symbol = sum_symbols ps c.right ++ rest in
      let second : List Symbol = Mark (relation_sign c.relation) ∷ third in
      let flat : Sees bytes ts (sum_symbols ps c.left ++ second) =
      sees ∙ append_assoc (sum_symbols ps c.left ++ Mark (relation_sign c.relation) ∷ []) (sum_symbols ps c.right) rest ∙ append_assoc (sum_symbols ps c.left) (Mark (relation_sign c.relation) ∷ []) third in
      given_bind (Valued bytes c.left second) goal (sum_at bytes purpose ps ts) _ (sum_given c.left ts second fits.0 left (relation_ends c.relation third) flat) (λ x f.
      let read : Given (Valued bytes c.relation third) (relation_if (seen bytes x.1) (place bytes x.1) (drop 1 x.1)) = (
        (c.relation, drop 1 x.1),
        ap (λ (l : Look). relation_if l (place bytes x.1) (drop 1 x.1)) (seen_front bytes x.1 second f.1) ∙ relation_read c.relation (place bytes x.1) (drop 1 x.1),
        (refl, behind_front bytes x.1 (Mark (relation_sign c.relation)) third f.1),
      ) in
      given_bind (Valued bytes c.relation third) goal (relation_if (seen bytes x.1) (place bytes x.1) (drop 1 x.1)) _ read (λ y g.
      given_bind (Valued bytes c.right rest) goal (sum_at bytes purpose ps y.1) _ (sum_given c.right y.1 rest fits.1 right ends g.1) (λ z k.
      given_ok goal (record { left = x.0; relation = y.0; right = z.0 }, z.1)
      (ap (λ (a : List Term). cond_of a y.0 z.0) f.0 ∙ ap (λ (r : Relation). cond_of c.left r z.0) g.0 ∙ ap (cond_of c.left c.relation) k.0, k.1))))
