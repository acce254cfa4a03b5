-- The values of the rows of a query.
use Rattle.std.proofs.Common.{◌≡◌, ap, ◌∙◌, ℕ, ℤ, pos, negsuc, ◌+ℤ◌, ◌-ℤ◌, ◌*ℤ◌, neg_ℤ, Result, Ok, Err, IfOk, List, take, drop, arith}
use Rattle.std.specs.declared.alloc.AllocError.{AllocError}
use Rattle.std.proofs.lemmas.Int.{ints}
use Rattle.std.proofs.Math.IntN.{zero-*ℤ}
use Rattle.ch_affine.specs.Affine.{dot, form, value}
use Rattle.ch_affine.specs.Form.{Form}
use Rattle.ch_poly.specs.Boxes.{at}
use Rattle.ch_meeting.proofs.Stretches.{neg_times}
use Rattle.ch_space.proofs.Rowed.{one_times}

abbrev Made : Type 0
Made = Result Form AllocError

ok_values : (r : Made) (f g : List ℤ → ℤ) → ((z : List ℤ) → f z ≡ g z) → IfOk r (λ row. (z : List ℤ) → value row z ≡ f z) → IfOk r (λ row. (z : List ℤ) → value row z ≡ g z)
ok_values (Err o) f g e h = tt
ok_values (Ok row) f g e h = λ z. h z ∙ e z

ok_values_at : (r : Made) (one : ℕ) (f g : List ℤ → ℤ) → ((z : List ℤ) → at z one ≡ pos 1 → f z ≡ g z) → IfOk r (λ row. (z : List ℤ) → value row z ≡ f z)
    → IfOk r (λ row. (z : List ℤ) → at z one ≡ pos 1 → value row z ≡ g z)
ok_values_at (Err o) one f g e h = tt
ok_values_at (Ok row) one f g e h = λ z u. h z ∙ e z u

-- what coefficients sum up to
abbrev pub SumsTo : List ℤ → (List ℤ → ℤ) → Type 0
SumsTo coefs v = (z : List ℤ) → dot coefs z ≡ v z

module _ (f : Form) (coefs : List ℤ) (constant : ℤ) (is : form coefs constant ≡ f) where
  same_coefs : coefs ≡ f.coefs
  same_coefs = ap (λ g. g.coefs) is

  same_constant : constant ≡ f.constant
  same_constant = ap (λ g. g.constant) is

  pub tie_value : (more c0 c1 c2 : List ℤ) (levels iter : ℕ) (r : Made) → more ≡ coefs → SumsTo c0 (λ z. pos 0) → SumsTo c1 (λ z. dot c0 z +ℤ dot more (drop levels z))
      → SumsTo c2 (λ z. dot c1 z +ℤ (negsuc 0 *ℤ at z iter)) → IfOk r (λ row. (z : List ℤ) → value row z ≡ constant +ℤ dot c2 z)
      → IfOk r (λ row. (z : List ℤ) → value row z ≡ value f (drop levels z) -ℤ at z iter)
  tie_value more c0 c1 c2 levels iter r m a b d h =
      ok_values r (λ z. constant +ℤ dot c2 z) (λ z. value f (drop levels z) -ℤ at z iter)
      (λ z. (let n = neg_times (pos 1) (at z iter) in let o = one_times (at z iter) in
      let e = ap (λ cs. dot cs (drop levels z)) (m ∙ same_coefs) in
      omega (arith, ints, a z, b z, d z, e, n, o, same_constant))) h

  pub placed_value : (front back c0 c1 c2 : List ℤ) (count levels hidden : ℕ) (r : Made) → front ≡ take count coefs → back ≡ drop count coefs → SumsTo c0 (λ z. pos 0)
      → SumsTo c1 (λ z. dot c0 z +ℤ dot front (drop levels z)) → SumsTo c2 (λ z. dot c1 z +ℤ dot back (drop hidden z)) → IfOk r (λ row. (z : List ℤ) → value row z ≡ constant +ℤ dot c2 z)
      → IfOk r (λ row. (z : List ℤ) → value row z ≡ f.constant +ℤ (dot (take count f.coefs) (drop levels z) +ℤ dot (drop count f.coefs) (drop hidden z)))
  placed_value front back c0 c1 c2 count levels hidden r m n a b d h =
      ok_values r (λ z. constant +ℤ dot c2 z) (λ z. f.constant +ℤ (dot (take count f.coefs) (drop levels z) +ℤ dot (drop count f.coefs) (drop hidden z)))
      (λ z. (let e = ap (λ cs. dot cs (drop levels z)) (m ∙ ap (take count) same_coefs) in
      let g = ap (λ cs. dot cs (drop hidden z)) (n ∙ ap (drop count) same_coefs) in
      omega (arith, ints, a z, b z, d z, e, g, same_constant))) h

  pub left_value : (m : ℕ) (k : ℤ) (more c0 c1 c2 : List ℤ) (iters turn : ℕ) (r : Made) → more ≡ coefs → k ≡ neg_ℤ (pos m) → SumsTo c0 (λ z. pos 0)
      → SumsTo c1 (λ z. dot c0 z +ℤ dot more (drop iters z)) → SumsTo c2 (λ z. dot c1 z +ℤ (k *ℤ at z turn)) → IfOk r (λ row. (z : List ℤ) → value row z ≡ constant +ℤ dot c2 z)
      → IfOk r (λ row. (z : List ℤ) → value row z ≡ value f (drop iters z) -ℤ pos m *ℤ at z turn)
  left_value m k more c0 c1 c2 iters turn r e i a b d h =
      ok_values r (λ z. constant +ℤ dot c2 z) (λ z. value f (drop iters z) -ℤ pos m *ℤ at z turn)
      (λ z. (let n = ap (λ t. t *ℤ at z turn) i ∙ neg_times (pos m) (at z turn) in
      let g = ap (λ cs. dot cs (drop iters z)) (e ∙ same_coefs) in
      omega (arith, ints, a z, b z, d z, g, n, same_constant))) h

  pub below_value : (m : ℕ) (k l top : ℤ) → l ≡ top → (more c0 c1 c2 c3 : List ℤ) (iters turn one : ℕ) (r : Made) → more ≡ coefs → k ≡ pos m → SumsTo c0 (λ z. pos 0)
      → SumsTo c1 (λ z. dot c0 z -ℤ dot more (drop iters z)) → SumsTo c2 (λ z. dot c1 z +ℤ (k *ℤ at z turn)) → SumsTo c3 (λ z. dot c2 z +ℤ (l *ℤ at z one))
      → IfOk r (λ row. (z : List ℤ) → value row z ≡ (pos 0 -ℤ constant) +ℤ dot c3 z)
      → IfOk r (λ row. (z : List ℤ) → at z one ≡ pos 1 → value row z ≡ top -ℤ (value f (drop iters z) -ℤ pos m *ℤ at z turn))
  below_value m k l top same more c0 c1 c2 c3 iters turn one r e i a b d g h =
      ok_values_at r one (λ z. (pos 0 -ℤ constant) +ℤ dot c3 z) (λ z. top -ℤ (value f (drop iters z) -ℤ pos m *ℤ at z turn))
      (λ z u. (let n = ap (λ t. t *ℤ at z turn) i in
      let o = ap (λ t. l *ℤ t) u ∙ times_one l in
      let q = ap (λ cs. dot cs (drop iters z)) (e ∙ same_coefs) in
      omega (arith, ints, a z, b z, d z, g z, q, n, o, same_constant, same))) h
    where
      times_one : (l : ℤ) → l *ℤ pos 1 ≡ l
      times_one l = Rattle.std.proofs.Math.IntN.*ℤ_comm l (pos 1) ∙ one_times l

module _ (f g : Form) (coefs others : List ℤ) (constant second : ℤ) (is : form coefs constant ≡ f) (are : form others second ≡ g) where
  pub same_value : (m n : ℕ) (k l j rest : ℤ) (more back c0 c1 c2 c3 c4 c5 : List ℤ) (here there turn again one : ℕ) (r : Made) → more ≡ coefs → back ≡ others → k ≡ neg_ℤ (pos m) → l ≡ pos n
      → (j +ℤ rest) ≡ (constant -ℤ second) → SumsTo c0 (λ z. pos 0)
      → SumsTo c1 (λ z. dot c0 z +ℤ dot more (drop here z)) → SumsTo c2 (λ z. dot c1 z -ℤ dot back (drop there z)) → SumsTo c3 (λ z. dot c2 z +ℤ (k *ℤ at z turn))
      → SumsTo c4 (λ z. dot c3 z +ℤ (l *ℤ at z again)) → SumsTo c5 (λ z. dot c4 z +ℤ (j *ℤ at z one)) → IfOk r (λ row. (z : List ℤ) → value row z ≡ rest +ℤ dot c5 z)
      → IfOk r (λ row. (z : List ℤ) → at z one ≡ pos 1
      → value row z ≡ (value f (drop here z) -ℤ pos m *ℤ at z turn) -ℤ (value g (drop there z) -ℤ pos n *ℤ at z again))
  same_value m n k l j rest more back c0 c1 c2 c3 c4 c5 here there turn again one r e i x y w a b d p q s h =
      ok_values_at r one (λ z. rest +ℤ dot c5 z)
      (λ z. (value f (drop here z) -ℤ pos m *ℤ at z turn) -ℤ (value g (drop there z) -ℤ pos n *ℤ at z again))
      (λ z u. (let t1 = ap (λ t. t *ℤ at z turn) x ∙ neg_times (pos m) (at z turn) in
      let t2 = ap (λ t. t *ℤ at z again) y in
      let t3 = ap (λ t. j *ℤ t) u ∙ times_one j in
      let t4 = ap (λ cs. dot cs (drop here z)) (e ∙ ap (λ g. g.coefs) is) in
      let t5 = ap (λ cs. dot cs (drop there z)) (i ∙ ap (λ g. g.coefs) are) in
      let t6 : constant ≡ f.constant = ap (λ g. g.constant) is in
      let t7 : second ≡ g.constant = ap (λ g. g.constant) are in
      omega (arith, ints, a z, b z, d z, p z, q z, s z, t1, t2, t3, t4, t5, t6, t7, w))) h
    where
      times_one : (l : ℤ) → l *ℤ pos 1 ≡ l
      times_one l = Rattle.std.proofs.Math.IntN.*ℤ_comm l (pos 1) ∙ one_times l

pub step_value : (constant : ℤ) (c0 c1 c2 : List ℤ) (first second : ℕ) (r : Made) → SumsTo c0 (λ z. pos 0) → SumsTo c1 (λ z. dot c0 z +ℤ (negsuc 0 *ℤ at z first))
    → SumsTo c2 (λ z. dot c1 z +ℤ (pos 1 *ℤ at z second)) → IfOk r (λ row. (z : List ℤ) → value row z ≡ constant +ℤ dot c2 z)
    → IfOk r (λ row. (z : List ℤ) → value row z ≡ constant +ℤ (at z second -ℤ at z first))
step_value constant c0 c1 c2 first second r a b d h =
    ok_values r (λ z. constant +ℤ dot c2 z) (λ z. constant +ℤ (at z second -ℤ at z first))
    (λ z. (let n = neg_times (pos 1) (at z first) in let o = one_times (at z first) in let p = one_times (at z second) in omega (arith, ints, a z, b z, d z, n, o, p))) h
