-- The sums of a condition, one term or one level on, and how large they are.
use Rattle.std.proofs.Common.{◌≡◌, ℕ, suc, ◌+◌, ◌-◌, ◌^◌, ◌<◌, ◌≤◌, ℤ, ◌+ℤ◌, unsigned_abs, max, true, ◌&&◌, nat_le, List, [], ◌∷◌, ◌++◌, length, drop, map, get_or, append_assoc, append-nil, ◌∙◌, sym, arith}
use Rattle.std.specs.Bool.{IsTrue}
use Rattle.std.specs.List.{All, list_all}
use Rattle.std.proofs.lemmas.Bool.{and_parts, leb-true}
use Rattle.std.proofs.lemmas.List.{drop_more}
use Rattle.std.proofs.lemmas.List.Elements.{All-append, All-cons, All-nil}
use Rattle.std.proofs.Math.IntN.{+ℤ_assoc}
use Rattle.ch_affine.specs.Affine.{IsAtMost, IsSmall, form}
use Rattle.ch_script.specs.Limits.{deepest_level, most_terms}
use Rattle.ch_script.specs.Recipes.{condition_fits, has_few_terms, split_fits, term_fits}
use Rattle.ch_script.specs.Values.{greatest_level, level_in, levels_from, levels_in, total}
use Rattle.ch_script.specs.declared.recipe.Cond.{Cond}
use Rattle.ch_script.specs.declared.recipe.Of.{Of}
use Rattle.ch_script.specs.declared.recipe.Of.TheVariants.{One, Level, Param}
use Rattle.ch_script.specs.declared.recipe.Purpose.TheVariants.{Split}
use Rattle.ch_script.specs.declared.recipe.Term.{Term}

pub total_more : (f : Term → ℤ) (ts : List Term) (k : ℕ) (d : Term) (sum more next whole : ℤ) → k < length ts → more ≡ f (get_or ts k d) → next ≡ sum +ℤ more
    → sum +ℤ total f (drop k ts) ≡ whole → next +ℤ total f (drop (k + 1) ts) ≡ whole
total_more f ts k d sum more next whole l m n h =
    let a = rw (drop_more ts k d l) at h in
    rw (n, m, +ℤ_assoc) a

pub greatest_more : (ts : List Term) (k : ℕ) (d : Term) (most whole : ℕ) → k < length ts → max most (greatest_level (drop k ts)) ≡ whole
    → max (max (level_in (get_or ts k d).of) most) (greatest_level (drop (k + 1) ts)) ≡ whole
greatest_more ts k d most whole l h =
    let a : max most (max (level_in (get_or ts k d).of) (greatest_level (drop (k + 1) ts))) ≡ whole = rw (drop_more ts k d l) at h in
    omega (arith, a)

pub coefs_more : (f : ℕ → ℤ) (n k : ℕ) (cs new : List ℤ) (z : ℤ) (whole : List ℤ) → k < n → z ≡ f (k + 1) → new ≡ cs ++ z ∷ []
    → cs ++ map f (levels_from (n - k) (k + 1)) ≡ whole → new ++ map f (levels_from (n - (k + 1)) (k + 1 + 1)) ≡ whole
coefs_more f n k cs new z whole l q m h =
    let e : n - k ≡ suc (n - (k + 1)) = omega arith in
    let a : cs ++ f (k + 1) ∷ map f (levels_from (n - (k + 1)) (k + 1 + 1)) ≡ whole = rw e at h in
    rw (m, q) (append_assoc cs (f (k + 1) ∷ []) (map f (levels_from (n - (k + 1)) (k + 1 + 1))) ∙ a)

pub coefs_end : (f : ℕ → ℤ) (n k : ℕ) (cs : List ℤ) (whole : List ℤ) → n ≤ k → cs ++ map f (levels_from (n - k) (k + 1)) ≡ whole → cs ≡ whole
coefs_end f n k cs whole l h =
    let e : n - k ≡ 0 = omega arith in
    let a = rw e at h in
    sym (append-nil cs) ∙ a

pub small_more : (cs : List ℤ) (z : ℤ) → All (IsAtMost (2 ^ 60)) cs → unsigned_abs z ≤ 2 ^ 60 → All (IsAtMost (2 ^ 60)) (cs ++ z ∷ [])
small_more cs z h l = All-append (IsAtMost (2 ^ 60)) cs (z ∷ []) h (All-cons (IsAtMost (2 ^ 60)) z [] l (All-nil (IsAtMost (2 ^ 60))))

level_small : (m factor : ℕ) (o : Of) → split_fits m factor o ≡ true → level_in o ≤ 10
level_small m factor One h = omega arith
level_small m factor (Level l) h = leb-true l 10 (and_parts (nat_le 1 l) (nat_le l deepest_level) h).1
level_small m factor (Param k) h = omega arith

pub greatest_fits : (m : ℕ) (ts : List Term) → IsTrue (list_all (term_fits Split m) ts) → greatest_level ts ≤ 10
greatest_fits m [] h = omega arith
greatest_fits m (t ∷ ts) h =
    let parts = and_parts (term_fits Split m t) (list_all (term_fits Split m) ts) h in
    let a = level_small m t.factor t.of parts.0 in
    let b = greatest_fits m ts parts.1 in
    omega (arith, a, b)

pub form_small : (m : ℕ) (more less : List Term) (cs : List ℤ) (z : ℤ) → IsTrue (list_all (term_fits Split m) more) → IsTrue (list_all (term_fits Split m) less)
    → length cs ≡ levels_in more less → All (IsAtMost (2 ^ 60)) cs → unsigned_abs z ≤ 2 ^ 60 → IsSmall (form cs z)
form_small m more less cs z f g n c k =
    let a = greatest_fits m more f in
    let b = greatest_fits m less g in
    record { few = omega (arith, a, b, n); coefs = c; constant = k }

fit_parts : (m : ℕ) (c : Cond) → IsTrue (condition_fits Split m c)
    → (length c.left + length c.right ≤ most_terms) × IsTrue (list_all (term_fits Split m) c.left) × IsTrue (list_all (term_fits Split m) c.right)
fit_parts m c h =
    let first = and_parts (has_few_terms c) (list_all (term_fits Split m) c.left && list_all (term_fits Split m) c.right) h in
    let sides = and_parts (list_all (term_fits Split m) c.left) (list_all (term_fits Split m) c.right) first.1 in
    (leb-true (length c.left + length c.right) most_terms first.0, sides.0, sides.1)

pub few_left : (m : ℕ) (c : Cond) → IsTrue (condition_fits Split m c) → length c.left ≤ 2 ^ 20
few_left m c h = let few = (fit_parts m c h).0 in omega (arith, few)

pub few_right : (m : ℕ) (c : Cond) → IsTrue (condition_fits Split m c) → length c.right ≤ 2 ^ 20
few_right m c h = let few = (fit_parts m c h).0 in omega (arith, few)

pub left_fit : (m : ℕ) (c : Cond) → IsTrue (condition_fits Split m c) → IsTrue (list_all (term_fits Split m) c.left)
left_fit m c h = (fit_parts m c h).1

pub right_fit : (m : ℕ) (c : Cond) → IsTrue (condition_fits Split m c) → IsTrue (list_all (term_fits Split m) c.right)
right_fit m c h = (fit_parts m c h).2
