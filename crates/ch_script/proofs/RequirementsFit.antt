-- The forms of conditions between parameters, one parameter or condition on, how large they are, and how many coefficients they have.
use Rattle.std.proofs.Common.{◌≡◌, ℕ, suc, ◌+◌, ◌-◌, ◌^◌, ◌<◌, ◌≤◌, ℤ, unsigned_abs, ◌&&◌, List, [], ◌∷◌, ◌++◌, length, map, drop, get_or, append_assoc, append-nil, add-one, drop-cons, ◌∙◌, ap₂, sym, arith}
use Rattle.std.specs.Bool.{IsTrue}
use Rattle.std.specs.List.{All, list_all, range_with_len}
use Rattle.std.proofs.lemmas.Bool.{and_parts, leb-true}
use Rattle.std.proofs.lemmas.List.FromFn.{length-map-range_with_len}
use Rattle.ch_affine.specs.Affine.{IsAtMost, IsSmall, form}
use Rattle.ch_affine.specs.Form.{Form}
use Rattle.ch_script.specs.Limits.{most_terms}
use Rattle.ch_script.specs.Recipes.{condition_fits, has_few_terms, term_fits}
use Rattle.ch_script.specs.Requirements.{all_requirements, required, requirement, weight_between}
use Rattle.ch_script.specs.declared.recipe.Cond.{Cond}
use Rattle.ch_script.specs.declared.recipe.Purpose.TheVariants.{Require}
use Rattle.ch_script.specs.declared.recipe.Relation.{Relation}
use Rattle.ch_script.specs.declared.recipe.Relation.TheVariants.{Less, AtMost, More, AtLeast}
use Rattle.ch_script.specs.declared.recipe.Term.{Term}

pub weights_more : (f : ℕ → ℤ) (n k : ℕ) (cs new : List ℤ) (z : ℤ) (whole : List ℤ) → k < n → z ≡ f k → new ≡ cs ++ z ∷ []
    → cs ++ map f (range_with_len k (n - k)) ≡ whole → new ++ map f (range_with_len (k + 1) (n - (k + 1))) ≡ whole
weights_more f n k cs new z whole l q m h =
    let e : n - k ≡ suc (n - (k + 1)) = omega arith in
    let a : cs ++ f k ∷ map f (range_with_len (k + 1) (n - (k + 1))) ≡ whole = rw e at h in
    rw (m, q) (append_assoc cs (f k ∷ []) (map f (range_with_len (k + 1) (n - (k + 1)))) ∙ a)

pub weights_end : (f : ℕ → ℤ) (n k : ℕ) (cs : List ℤ) (whole : List ℤ) → n ≤ k → cs ++ map f (range_with_len k (n - k)) ≡ whole → cs ≡ whole
weights_end f n k cs whole l h =
    let e : n - k ≡ 0 = omega arith in
    let a = rw e at h in
    sym (append-nil cs) ∙ a

pub excess_small : (n : ℕ) (cs : List ℤ) (z : ℤ) → n ≤ 6 → length cs ≡ n → All (IsAtMost (2 ^ 60)) cs → unsigned_abs z ≤ 2 ^ 60 → IsSmall (form cs z)
excess_small n cs z l e c k = record { few = omega (arith, l, e); coefs = c; constant = k }

few_terms : (m : ℕ) (c : Cond) → IsTrue (condition_fits Require m c) → length c.left + length c.right ≤ most_terms
few_terms m c h =
    leb-true (length c.left + length c.right) most_terms (and_parts (has_few_terms c) (list_all (term_fits Require m) c.left && list_all (term_fits Require m) c.right) h).0

pub few_left : (m : ℕ) (c : Cond) → IsTrue (condition_fits Require m c) → length c.left ≤ 2 ^ 20
few_left m c h = let few = few_terms m c h in omega (arith, few)

pub few_right : (m : ℕ) (c : Cond) → IsTrue (condition_fits Require m c) → length c.right ≤ 2 ^ 20
few_right m c h = let few = few_terms m c h in omega (arith, few)

-- a form has a coefficient for each parameter

required_long : (n : ℕ) (r : Relation) (left right : List Term) → length (required n r left right).coefs ≡ n
required_long n Less left right = length-map-range_with_len (weight_between right left) 0 n
required_long n AtMost left right = length-map-range_with_len (weight_between right left) 0 n
required_long n More left right = length-map-range_with_len (weight_between left right) 0 n
required_long n AtLeast left right = length-map-range_with_len (weight_between left right) 0 n

pub requirement_long : (n : ℕ) (c : Cond) → length (requirement n c).coefs ≡ n
requirement_long n c = required_long n c.relation c.left c.right

-- one condition more
pub rows_more : (n k : ℕ) (cs : List Cond) (c : Cond) (rows new : List Form) (row : Form) → k < length cs → c ≡ get_or cs k c → row ≡ requirement n c → new ≡ rows ++ row ∷ []
    → rows ++ all_requirements n (drop k cs) ≡ all_requirements n cs → new ++ all_requirements n (drop (k + 1) cs) ≡ all_requirements n cs
rows_more n k cs c rows new row l e r p h =
    let d : drop k cs ≡ c ∷ drop (k + 1) cs = drop-cons cs k c l ∙ ap₂ (λ x i. x ∷ drop i cs) (sym e) (sym (add-one k)) in
    let a : rows ++ requirement n c ∷ all_requirements n (drop (k + 1) cs) ≡ all_requirements n cs = rw d at h in
    rw (p, r) (append_assoc rows (requirement n c ∷ []) (all_requirements n (drop (k + 1) cs)) ∙ a)
