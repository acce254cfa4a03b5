-- What a grid is refused for, and what is known of recipes and nests.
use Rattle.std.proofs.Common.{◌≡◌, refl, sym, ap, ◌∙◌, subst, ℕ, zero, suc, ◌+◌, ◌<◌, ◌≤◌, pos, Bool, true, false, not, ◌&&◌, cond, nat_le, nat_lt, List, [], ◌∷◌, ◌++◌, length, length-append, slice_get, get_or, Option, Some, None, lt-ltb, arith}
use Rattle.std.specs.Bool.{IsTrue}
use Rattle.std.specs.List.{list_all, position}
use Rattle.std.specs.Option.{option_map_or, is_some}
use Rattle.std.proofs.lemmas.Bool.{and_from, and_parts, leb-true}
use Rattle.std.proofs.lemmas.List.Folds.{list_all-append, list_all_at}
use Rattle.std.proofs.lemmas.List.Quantifiers.{position-Some}
use Rattle.ch_grid.specs.declared.grid.GridError.{GridError}
use Rattle.ch_grid.specs.declared.grid.GridError.TheVariants.{BadParam, TooManyPoints}
use Rattle.ch_grid.specs.declared.param.Param.{Param}
use Rattle.ch_grid.specs.Grid.{fault_of, fault_with, is_good}
use Rattle.ch_grid.specs.Points.{count}
use Rattle.ch_nest.specs.Arrays.{extents_of, total}
use Rattle.ch_nest.specs.declared.nest.ArrayDecl.{ArrayDecl}
use Rattle.ch_nest.specs.Limits.{most_cells, most_conditions, most_dimensions}
use Rattle.ch_nest.specs.LoopNest.{LoopNest}
use Rattle.ch_nest.specs.Shape.{all_conditions_fit, all_numbered, arrays_fit, is_array, is_nest, items_fit}
use Rattle.ch_nestparse.proofs.Cells.{some_cells}
use Rattle.ch_script.specs.Limits.{most_commands, most_conditions as most_requires, most_params}
use Rattle.ch_script.specs.Recipes.{RecipeParts, command_fits, condition_fits, is_recipe}
use Rattle.ch_script.specs.declared.recipe.Purpose.TheVariants.{Require}
use Rattle.ch_workload.specs.Params.{is_named}
use Rattle.ch_workload.specs.Sessions.{grid_fits, has_few_points, numbered, session_fits}
use Rattle.ch_workload.specs.Tuned.{Tuned}

-- grids

no_param : Param
no_param = record { low = pos 0; high = pos 0; step = pos 0 }

not_false : (b : Bool) → not b ≡ true → b ≡ false
not_false true h = absurd cc
not_false false h = refl

none_bad : (ps : List Param) → list_all is_good ps ≡ true → position (λ p. not (is_good p)) ps ≡ None
none_bad ps h = by (position (λ p. not (is_good p)) ps) refl
  where
    by : (o : Option ℕ) → position (λ p. not (is_good p)) ps ≡ o → o ≡ None
    by None e = refl
    by (Some k) e =
        let a = position-Some (λ p. not (is_good p)) ps k no_param e in
        let f : list_all is_good ps ≡ false = list_all_at is_good ps k no_param a.0 (not_false (is_good (get_or ps k no_param)) a.1) in
        absurd cc

few_by : (b : Bool) → cond b None (Some TooManyPoints) ≡ None → b ≡ true
few_by true h = refl
few_by false h = absurd cc

many_by : (b : Bool) (e : GridError) → cond b None (Some TooManyPoints) ≡ Some e → b ≡ false
many_by true e h = absurd cc
many_by false e h = refl

points_fault : (ps : List Param) → list_all is_good ps ≡ true → fault_of ps ≡ cond (has_few_points ps) None (Some TooManyPoints)
points_fault ps h = ap (fault_with ps) (none_bad ps h)

pub few_points : (ps : List Param) → IsTrue (list_all is_good ps) → fault_of ps ≡ None → has_few_points ps ≡ true
few_points ps h e = few_by (has_few_points ps) (sym (points_fault ps h) ∙ e)

pub many_points : (ps : List Param) (fault : GridError) → IsTrue (list_all is_good ps) → fault_of ps ≡ Some fault → has_few_points ps ≡ false
many_points ps fault h e = many_by (has_few_points ps) fault (sym (points_fault ps h) ∙ e)

-- a parameter alone

alone_by : (good : Bool) (p : Param) → is_good p ≡ good → fault_of (p ∷ []) ≡ fault_with (p ∷ []) (cond good None (Some 0))
alone_by true p h = rw h refl
alone_by false p h = rw h refl

bad_alone : (p : Param) (at : ℕ) → fault_of (p ∷ []) ≡ Some (BadParam at) → false ≡ is_good p
bad_alone p at e = by (is_good p) refl
  where
    by : (b : Bool) → is_good p ≡ b → false ≡ b
    by false h = refl
    by true h =
        let f : fault_of (p ∷ []) ≡ cond (has_few_points (p ∷ [])) None (Some TooManyPoints) = points_fault (p ∷ []) (and_from (is_good p) true h refl) in
        absurd (other (has_few_points (p ∷ [])) (sym f ∙ e))
      where
        other : (c : Bool) → cond c None (Some TooManyPoints) ≡ Some (BadParam at) → ⊥
        other true g = cc
        other false g = cc

pub alone_bad : (ps : List Param) (p : Param) (at : ℕ) → ps ≡ p ∷ [] → fault_of ps ≡ Some (BadParam at) → false ≡ is_good p
alone_bad ps p at s e = bad_alone p at (sym (ap fault_of s) ∙ e)

good_by : (p : Param) (o : Option GridError) → fault_of (p ∷ []) ≡ o → ((at : ℕ) → o ≡ Some (BadParam at) → ⊥) → true ≡ is_good p
good_by p o e n = by (is_good p) refl
  where
    by : (b : Bool) → is_good p ≡ b → true ≡ b
    by true h = refl
    by false h = let f : fault_of (p ∷ []) ≡ Some (BadParam 0) = alone_by false p h in absurd (n 0 (sym e ∙ f))

pub alone_good : (ps : List Param) (p : Param) → ps ≡ p ∷ [] → fault_of ps ≡ None → true ≡ is_good p
alone_good ps p s e = good_by p None (sym (ap fault_of s) ∙ e) (λ at h. cc)

pub alone_many : (ps : List Param) (p : Param) → ps ≡ p ∷ [] → fault_of ps ≡ Some TooManyPoints → true ≡ is_good p
alone_many ps p s e = good_by p (Some TooManyPoints) (sym (ap fault_of s) ∙ e) (λ at h. cc)

-- one parameter more, whose name is the next one

named_there : (names : List (List ℕ)) (k : ℕ) (text : List ℕ) → is_named names k text ≡ true → k < length names
named_there [] k text h = absurd cc
named_there (n ∷ ns) zero text h = omega arith
named_there (n ∷ ns) (suc k) text h = let r = named_there ns k text h in omega (arith, r)

pub params_more : (names : List (List ℕ)) (ps new : List Param) (k : ℕ) (text : List ℕ) (p : Param) → (length ps ≤ length names) × IsTrue (list_all is_good ps)
    → new ≡ ps ++ p ∷ [] → k ≡ length ps → is_named names k text ≡ true → is_good p ≡ true → (length new ≤ length names) × IsTrue (list_all is_good new)
params_more names ps new k text p kept pushed count named good =
    let there = named_there names k text named in
    let more : length (ps ++ p ∷ []) ≡ length ps + 1 = length-append ps (p ∷ []) in
    let few : length (ps ++ p ∷ []) ≤ length names = omega (arith, there, more, count) in
    let before : list_all is_good ps ≡ true = kept.1 in
    let all : list_all is_good (ps ++ p ∷ []) ≡ true = rw (list_all-append, before, good) refl in
    (subst (λ qs. length qs ≤ length names) (sym pushed) few, subst (λ qs. list_all is_good qs ≡ true) (sym pushed) all)

-- recipes

pub few_params : (r : RecipeParts) → IsTrue (is_recipe r) → length r.params ≤ 6
few_params r h = leb-true (length r.params) most_params (and_parts (nat_le (length r.params) most_params) _ h).0

pub conditions_fit : (r : RecipeParts) → IsTrue (is_recipe r) → IsTrue (list_all (condition_fits Require (length r.params)) r.conditions)
conditions_fit r h =
    let a = (and_parts (nat_le (length r.params) most_params) _ h).1 in
    let b = (and_parts (nat_le (length r.conditions) most_requires) _ a).1 in
    let c = (and_parts (nat_le (length r.commands) most_commands) _ b).1 in
    (and_parts (list_all (condition_fits Require (length r.params)) r.conditions) (list_all (command_fits (length r.params)) r.commands) c).0

-- sessions

numbered_there : (recipes : List RecipeParts) (k : ℕ) → k < length recipes → slice_get recipes k ≡ Some (numbered recipes k)
numbered_there [] k l = absurd (omega (arith, l))
numbered_there (r ∷ rs) zero l = refl
numbered_there (r ∷ rs) (suc k) l = numbered_there rs k (omega (arith, l))

pub fits_declared : (programs : ℕ) (recipes : List RecipeParts) (s : Tuned) → s.program < programs → s.recipe < length recipes
    → IsTrue (grid_fits s.params (numbered recipes s.recipe)) → IsTrue (session_fits programs recipes s)
fits_declared programs recipes s p r g =
    and_from (nat_lt s.program programs) (option_map_or (grid_fits s.params) (slice_get recipes s.recipe) false) (lt-ltb s.program programs p)
    (ap (λ o. option_map_or (grid_fits s.params) o false) (numbered_there recipes s.recipe r) ∙ g)

-- arrays

arrays_few : (arrays : List ArrayDecl) → IsTrue (list_all is_array arrays) → length arrays ≤ total (extents_of arrays)
arrays_few [] h = omega arith
arrays_few (d ∷ ds) h =
    let p = and_parts (is_array d) (list_all is_array ds) h in
    let q = and_parts (nat_le 1 (length d.extents) && nat_le (length d.extents) most_dimensions) (list_all (nat_le 1) d.extents) p.0 in
    let a = some_cells d.extents q.1 in
    let b = arrays_few ds p.1 in
    omega arith

pub few_arrays : (nest : LoopNest) → IsTrue (is_nest nest) → length nest.arrays ≤ 262144
few_arrays nest h =
    let f = (and_parts (arrays_fit nest.arrays) (all_conditions_fit nest.items most_conditions)
    (and_parts (arrays_fit nest.arrays && all_conditions_fit nest.items most_conditions) (is_some (all_numbered nest.items 0) && items_fit nest.arrays nest.items []) h).0).0 in
    let p = and_parts (list_all is_array nest.arrays) (nat_le (total (extents_of nest.arrays)) most_cells) f in
    let a = arrays_few nest.arrays p.0 in
    let b : total (extents_of nest.arrays) ≤ most_cells = leb-true (total (extents_of nest.arrays)) most_cells p.1 in
    omega arith
