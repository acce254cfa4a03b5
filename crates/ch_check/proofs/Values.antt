-- The values at which a recipe is checked.
use Rattle.std.proofs.Common.{◌≡◌, sym, ap, ap₂, ◌∙◌, subst, arith, ℕ, ◌+◌, ◌-◌, ◌/◌, ◌<◌, ◌≤◌, ◌^◌, ℤ, nat_eq, true, Option, Some, None, List, [], ◌∷◌, ◌++◌, length, get_or, take, map}
use Rattle.std.specs.Bool.{IsTrue}
use Rattle.std.specs.List.{All, slice_get}
use Rattle.std.specs.Prelude.{IfSome}
use Rattle.std.specs.Option.{ForSome}
use Rattle.std.proofs.lemmas.Bool.Decides.{nat_tests}
use Rattle.std.proofs.lemmas.List.{get_or-map, length-map, take_all, take_more}
use Rattle.ch_affine.specs.Affine.{IsAtMost}
use Rattle.ch_check.specs.Sessions.{fits, values_of}
use Rattle.ch_constrain.specs.Nearest.{values}
use Rattle.ch_constrain.proofs.Coordinates.{many, size_at}
use Rattle.ch_constrain.proofs.Onward.{values_long}
use Rattle.ch_grid.specs.Grid.{is_within, size, sizes}
use Rattle.ch_grid.specs.Points.{is_point}
use Rattle.ch_grid.specs.declared.param.Param.{Param}
use Rattle.ch_grid.proofs.Sizes.{within_facts}
use Rattle.ch_rank.specs.Moves.{centre}
use Rattle.ch_rank.proofs.Starting.{centre_point, sizes_some}
use Rattle.ch_constrain.proofs.Values.{values_small}
use Rattle.ch_workload.specs.Tuned.{Tuned}

centre_long : (ps : List Param) → length (centre (sizes ps)) ≡ length ps
centre_long ps = length-map (sizes ps) (λ n. (n - 1) / 2) ∙ length-map ps size

-- one index of the centre more
pub index_more : (ps : List Param) (k r : ℕ) (point next : List ℕ) → k < length ps → IfSome (slice_get ps k) (λ p. r ≡ size p) → point ≡ take k (centre (sizes ps))
    → next ≡ point ++ (r - 1) / 2 ∷ [] → next ≡ take (k + 1) (centre (sizes ps))
index_more ps k r point next l s h n =
    let here : r ≡ get_or (sizes ps) k 0 = size_at ps k r l s in
    let half : get_or (centre (sizes ps)) k 0 ≡ (get_or (sizes ps) k 0 - 1) / 2 = get_or-map (λ n. (n - 1) / 2) (sizes ps) k 0 0 (many ps k l) in
    let long = centre_long ps in
    n ∙ ap₂ (λ (xs : List ℕ) (x : ℕ). xs ++ x ∷ []) h (ap (λ m. (m - 1) / 2) here ∙ sym half) ∙ sym (take_more (centre (sizes ps)) k 0 (omega (arith, l, long)))

pub whole_centre : (ps : List Param) (k : ℕ) (point : List ℕ) → length ps ≤ k → point ≡ take k (centre (sizes ps)) → point ≡ centre (sizes ps)
whole_centre ps k point l h =
    let long = centre_long ps in
    h ∙ take_all k (centre (sizes ps)) (omega (arith, l, long))

pub centre_inside : (ps : List Param) → IsTrue (is_point (sizes ps) (centre (sizes ps)))
centre_inside ps = centre_point (sizes ps) (sizes_some ps)

pub central_long : (ps : List Param) (numbers : List ℤ) → numbers ≡ values ps (centre (sizes ps)) → length numbers ≡ length ps
central_long ps numbers e = ap length e ∙ values_long ps (centre (sizes ps)) (centre_inside ps)

pub central_small : (ps : List Param) (numbers : List ℤ) → IsTrue (is_within ps) → numbers ≡ values ps (centre (sizes ps)) → All (IsAtMost (2 ^ 20)) numbers
central_small ps numbers w e =
    subst (All (IsAtMost (2 ^ 20))) (sym e) (values_small ps (centre (sizes ps)) (within_facts ps w).good (centre_inside ps))

same_count : (a b : ℕ) → IsTrue (nat_eq a b) → a ≡ b
same_count a b h = grind (arith, nat_tests)

-- where values are given, they are those, and as many as the parameters

pub given_are : (at : Option (List ℤ)) (given : List ℤ) (ps : List Param) (numbers : List ℤ) → at ≡ Some given → numbers ≡ given → numbers ≡ values_of at ps
given_are at given ps numbers e n = n ∙ sym (ap (λ o. values_of o ps) e)

pub given_long : (at : Option (List ℤ)) (given : List ℤ) (s : Tuned) (numbers : List ℤ) → at ≡ Some given → IsTrue (fits at s) → numbers ≡ given → length numbers ≡ length s.params
given_long at given s numbers e f n = ap length n ∙ same_count (length given) (length s.params) (subst (λ o. IsTrue (fits o s)) e f)

pub given_small : (at : Option (List ℤ)) (given numbers : List ℤ) → at ≡ Some given → ForSome at (All (IsAtMost (2 ^ 20))) → numbers ≡ given → All (IsAtMost (2 ^ 20)) numbers
given_small at given numbers e s n = subst (All (IsAtMost (2 ^ 20))) (sym n) (s given e)

pub none_given : (at : Option (List ℤ)) (ps : List Param) (numbers : List ℤ) → at ≡ None → numbers ≡ values ps (centre (sizes ps)) → numbers ≡ values_of at ps
none_given at ps numbers e n = n ∙ sym (ap (λ o. values_of o ps) e)
