-- Systems over new variables.
use Rattle.std.proofs.Common.{◌≡◌, sym, ap, ◌∙◌, subst, ℕ, suc, ◌+◌, ◌-◌, ◌<◌, ◌≤◌, ℤ, pos, negsuc, Result, Ok, Err, IfOk, List, [], ◌∷◌, ◌++◌, map, length, take, drop, arith, length-append}
use Rattle.std.specs.List.{All}
use Rattle.std.proofs.lemmas.List.Elements.{All-nil, All-cons, All-head, All-append, All-map, All-weaker}
use Rattle.ch_affine.specs.Form.{Form}
use Rattle.ch_affine.specs.Affine.{IsSmall}
use Rattle.ch_affine.specs.Rows.{IsBox, IsSystem, Rows, system}
use Rattle.ch_affine.specs.declared.system.Range.{Range}
use Rattle.ch_moved.specs.Changed.{AllLong, AreConditions, IsChanged, StandOver}
use Rattle.ch_moved.specs.Spread.{opposite, tied, ties, widened}
use Rattle.ch_moved.specs.Substituted.{substituted}
use Rattle.ch_moved.proofs.Fitted.{length_spread}
use Rattle.ch_moved.proofs.Fronts.{IsGiven, Joins, plain_changed, tied_changed}
use Rattle.ch_moved.proofs.HiddenTies.{length_opposite}
use Rattle.ch_moved.proofs.Substitutes.{length_zeros, long_tail}
use Rattle.ch_space.specs.Built.{zeros}

long_same : (m n : ℕ) (fs : List Form) → m ≡ n → AllLong m fs → AllLong n fs
long_same m n fs e a = subst (λ k. AllLong k fs) e a

length_widened : (more : ℕ) (f : Form) → length (widened more f).coefs ≡ length f.coefs + more
length_widened more f = length-append f.coefs (zeros more) ∙ ap (λ m. length f.coefs + m) (length_zeros more)

widened_long : (n more : ℕ) (fs : List Form) → AllLong n fs → AllLong (n + more) (map (widened more) fs)
widened_long n more fs a =
    All-map (λ f. length f.coefs ≡ n + more) (widened more) fs
    (All-weaker (λ f. length f.coefs ≡ n) (λ f. length (widened more f).coefs ≡ n + more) (λ f e. length_widened more f ∙ ap (λ m. m + more) e) fs a)

pub joined_system : (rows conditions new : List Form) (boxes hidden both : List Range) (vars : ℕ) → length boxes + length hidden ≤ 4096 → AllLong (length boxes + length hidden) rows
    → AllLong (length boxes) conditions → All IsBox boxes → All IsBox hidden → new ≡ rows ++ map (widened (length hidden)) conditions → both ≡ boxes ++ hidden → vars ≡ length both
    → IsSystem (system vars new both)
joined_system rows conditions new boxes hidden both vars few a b c d e f v =
    let n : length boxes + length hidden ≡ vars = sym (v ∙ ap length f ∙ length-append boxes hidden) in
    record {
      few = subst (λ k. k ≤ 4096) n few;
      rows = subst (AllLong vars) (sym e) (All-append (λ f. length f.coefs ≡ vars) rows (map (widened (length hidden)) conditions) (long_same _ vars rows n a)
          (long_same _ vars _ n (widened_long (length boxes) (length hidden) conditions b)));
      boxes = sym v;
      each = subst (All IsBox) (sym f) (All-append IsBox boxes hidden c d);
    }

-- how many coefficients the rows have

substituted_length : (n vars hidden : ℕ) (gs : List Form) (f : Form) → AllLong n gs → length gs ≤ vars → hidden + length gs ≡ vars → length f.coefs ≡ vars → length (substituted n gs f).coefs ≡ n + hidden
substituted_length n vars hidden gs f a l h e =
    let few : length gs ≤ length f.coefs = subst (λ m. length gs ≤ m) (sym e) l in
    let m = length_spread n gs 0 f a few in
    omega arith

pub substituted_long : (n vars hidden : ℕ) (gs rows new : List Form) → AllLong n gs → length gs ≤ vars → hidden + length gs ≡ vars → AllLong vars rows → new ≡ map (substituted n gs) rows
    → AllLong (n + hidden) new
substituted_long n vars hidden gs rows new a l h b e =
    subst (AllLong (n + hidden)) (sym e)
    (All-map (λ f. length f.coefs ≡ n + hidden) (substituted n gs) rows
    (All-weaker (λ f. length f.coefs ≡ vars) (λ f. length (substituted n gs f).coefs ≡ n + hidden) (λ f k. substituted_length n vars hidden gs f a l h k) rows b))

length_tied : (n k hidden : ℕ) (c : ℤ) (f : Form) → length f.coefs ≡ n → k < hidden → length (tied f k c (hidden - 1 - k)).coefs ≡ n + hidden
length_tied n k hidden c f e l =
    let a = length-append f.coefs (zeros k ++ c ∷ zeros (hidden - 1 - k)) in
    let b = length-append (zeros k) (c ∷ zeros (hidden - 1 - k)) in
    let x = length_zeros k in
    let y = length_zeros (hidden - 1 - k) in
    omega arith

ties_long : (n k hidden : ℕ) (gs : List Form) → AllLong n gs → k + length gs ≤ hidden → AllLong (n + hidden) (ties k hidden gs)
ties_long n k hidden [] a l = All-nil (λ f. length f.coefs ≡ n + hidden)
ties_long n k hidden (g ∷ gs) a l =
    let e = All-head (λ f. length f.coefs ≡ n) g gs a in
    let lt : k < hidden = omega arith in
    let after : ℕ = hidden - 1 - k in
    let more : List Form = ties (suc k) hidden gs in
    All-cons (λ f. length f.coefs ≡ n + hidden) (tied g k (negsuc 0) after) (tied (opposite g) k (pos 1) after ∷ more) (length_tied n k hidden (negsuc 0) g e lt)
    (All-cons (λ f. length f.coefs ≡ n + hidden) (tied (opposite g) k (pos 1) after) more (length_tied n k hidden (pos 1) (opposite g) (length_opposite g ∙ e) lt)
    (ties_long n (suc k) hidden gs (long_tail n g gs a) (omega arith)))

pub tied_long : (n old hidden : ℕ) (gs rows new : List Form) → AllLong n gs → length gs ≤ old → hidden ≡ old → StandOver (ties 0 old gs) n old gs rows new → AllLong (n + hidden) new
tied_long n old hidden gs rows new a l h s =
    long_same (n + old) (n + hidden) new (ap (λ m. n + m) (sym h))
    (subst (AllLong (n + old)) (sym s.behind) (All-append (λ f. length f.coefs ≡ n + old) (ties 0 old gs) s.over (ties_long n 0 old gs a (omega arith)) s.are.long))

-- the systems

module _ (old : Rows) (gs : List Form) (boxes front : List Range) (extra conditions : List Form) (system_is : IsSystem old) (long : AllLong (length boxes) gs) (few : length gs ≤ old.vars)
    (c : AreConditions boxes gs front extra conditions) (f : front ≡ take (length gs) old.boxes) where
  given : IsGiven old gs boxes extra conditions
  given = record {
    long = long;
    variables = system_is.boxes;
    few = few;
    rows = system_is.rows;
    conditions = subst (λ rs. AreConditions boxes gs rs extra conditions) f c;
  }

  pub plain_ok : {E : Type 0} (r : Result Rows E) (hidden : List Range) (new : List Form) → hidden ≡ drop (length gs) old.boxes → new ≡ map (substituted (length boxes) gs) old.rows
      → IfOk r (λ s. Joins new conditions boxes hidden s) → IfOk r (λ s. IsChanged old gs boxes extra s)
  plain_ok (Ok s) hidden new h n j =
      plain_changed old gs boxes extra conditions s given
      (subst (λ rs. Joins (map (substituted (length boxes) gs) old.rows) conditions boxes rs s) h (subst (λ fs. Joins fs conditions boxes hidden s) n j))
  plain_ok (Err e) hidden new h n j = tt

  pub tied_ok : {E : Type 0} (r : Result Rows E) (hidden : List Range) (new : List Form) → hidden ≡ old.boxes → StandOver (ties 0 old.vars gs) (length boxes) old.vars gs old.rows new
      → (All (λ f. IsSmall (substituted (length boxes) gs f)) old.rows → ⊥) → IfOk r (λ s. Joins new conditions boxes hidden s) → IfOk r (λ s. IsChanged old gs boxes extra s)
  tied_ok (Ok s) hidden new h t large j = tied_changed old gs boxes extra conditions s given new t (subst (λ rs. Joins new conditions boxes rs s) h j) large
  tied_ok (Err e) hidden new h t large j = tt
