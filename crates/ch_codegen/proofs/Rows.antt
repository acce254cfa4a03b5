-- A row whose least value over a box is at least 0 holds everywhere in it.
use Rattle.std.proofs.Common.{◌≡◌, sym, ap, ◌∙◌, ℕ, ◌+◌, ◌<◌, ℤ, pos, negsuc, ◌+ℤ◌, ◌*ℤ◌, ◌≤ℤ◌, true, int_le, List, [], ◌∷◌, length, take, drop, get_or, arith}
use Rattle.std.proofs.lemmas.Bool.{and_from}
use Rattle.std.proofs.lemmas.Int.{ints}
use Rattle.std.proofs.lemmas.List.{drop_more}
use Rattle.std.proofs.lemmas.List.Folds.{list_all_more}
use Rattle.std.proofs.Math.IntN.{+ℤ_assoc}
use Rattle.ch_affine.specs.declared.system.Range.{Range}
use Rattle.ch_affine.specs.Affine.{dot, value}
use Rattle.ch_affine.specs.Form.{Form}
use Rattle.ch_poly.proofs.Cuts.{term_up, term_down}
use Rattle.ch_poly.proofs.Firsts.{le_true}
use Rattle.ch_codegen.specs.Parts.{InRanges}
use Rattle.ch_codegen.specs.LeastValues.{least_term, least_sum, least_value, HoldEverywhere}

least_term_le : (c : ℤ) (b : Range) (x : ℤ) → b.low ≤ℤ x → x ≤ℤ b.high → least_term c b ≤ℤ (c *ℤ x)
least_term_le (pos c) b x l h = omega (arith, ints, term_up c b.low x l)
least_term_le (negsuc c) b x l h = omega (arith, ints, term_down c b.high x h)

least_sum_le : (cs : List ℤ) (bs : List Range) (xs : List ℤ) → length cs ≡ length bs → InRanges bs xs → least_sum cs bs ≤ℤ dot cs xs
least_sum_le [] bs xs e h = omega (arith, ints)
least_sum_le (c ∷ cs) [] xs e h = absurd (omega arith)
least_sum_le (c ∷ cs) (b ∷ bs) [] e h = absurd h
least_sum_le (c ∷ cs) (b ∷ bs) (x ∷ xs) e h = omega (arith, ints, least_term_le c b x h.0 h.1, least_sum_le cs bs xs (omega arith) h.2)

pub least_more : (cs : List ℤ) (bs : List Range) (d : Range) (k : ℕ) (sum more next total : ℤ) → k < length cs → length cs ≡ length bs
    → more ≡ least_term (get_or cs k (pos 0)) (get_or bs k d) → next ≡ sum +ℤ more
    → sum +ℤ least_sum (drop k cs) (drop k bs) ≡ total → next +ℤ least_sum (drop (k + 1) cs) (drop (k + 1) bs) ≡ total
least_more cs bs d k sum more next total lc same m n h =
    let lb : k < length bs = omega arith in
    let a = rw (drop_more cs k (pos 0) lc, drop_more bs k d lb) at h in
    rw (n, m, +ℤ_assoc) a

pub holds_more : (rows : List Form) (bs : List Range) (k : ℕ) (row : Form) → k < length rows → row ≡ get_or rows k row → length row.coefs ≡ length bs → pos 0 ≤ℤ least_value row bs
    → HoldEverywhere (take k rows) bs → HoldEverywhere (take (k + 1) rows) bs
holds_more rows bs k row l e same low before xs h =
    let at : pos 0 ≤ℤ value row xs = omega (arith, ints, low, least_sum_le row.coefs bs xs same h) in
    let here : int_le (pos 0) (value (get_or rows k row) xs) ≡ true = ap (λ f. int_le (pos 0) (value f xs)) (sym e) ∙ le_true (value row xs) at in
    list_all_more (λ f. int_le (pos 0) (value f xs)) rows k row l ∙ and_from _ _ (before xs h) here
