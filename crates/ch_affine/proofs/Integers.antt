-- Laws of multiplication on the integers that std lacks: distribution over sums, and associativity.
use Rattle.std.proofs.Common.{◌≡◌, ℕ, zero, suc, ℤ, pos, negsuc, ◌+ℤ◌, ◌*ℤ◌, ◌-ℤ◌, sym, ap, ◌∙◌, arith}
use Rattle.std.proofs.lemmas.Int.{ints}
use Rattle.std.proofs.Math.IntN.{*ℤ_comm, pred_ℤ, suc_ℤ-*ℤ, pred_ℤ-*ℤ, zero-*ℤ, +ℤ_idr, +ℤ_assoc, +ℤ-suc_ℤ, +ℤ-pred_ℤ, -ℤ_one}

pub times_zero : (a : ℤ) → a *ℤ pos 0 ≡ pos 0
times_zero a = *ℤ_comm a (pos 0) ∙ zero-*ℤ a

plus_natural : (x : ℤ) (d : ℕ) (c : ℤ) → (x +ℤ pos d) *ℤ c ≡ x *ℤ c +ℤ pos d *ℤ c
plus_natural x zero c = ap (λ y. y *ℤ c) (+ℤ_idr x) ∙ sym (ap (λ z. x *ℤ c +ℤ z) (zero-*ℤ c) ∙ +ℤ_idr (x *ℤ c))
plus_natural x (suc d) c =
    ap (λ y. y *ℤ c) (+ℤ-suc_ℤ x (pos d)) ∙ suc_ℤ-*ℤ (x +ℤ pos d) c ∙ ap (λ y. y +ℤ c) (plus_natural x d c) ∙ +ℤ_assoc _ _ c
    ∙ sym (ap (λ y. x *ℤ c +ℤ y) (suc_ℤ-*ℤ (pos d) c))

pub plus_times : (x y c : ℤ) → (x +ℤ y) *ℤ c ≡ x *ℤ c +ℤ y *ℤ c
plus_times x (pos d) c = plus_natural x d c
plus_times x (negsuc zero) c =
    let m : x +ℤ negsuc zero ≡ x -ℤ pos 1 = omega (arith, ints) in
    let e : x +ℤ negsuc zero ≡ pred_ℤ x = m ∙ -ℤ_one x in
    let f : negsuc zero *ℤ c ≡ pos 0 *ℤ c -ℤ c = pred_ℤ-*ℤ (pos 0) c in
    let g : (x +ℤ negsuc zero) *ℤ c ≡ x *ℤ c -ℤ c = ap (λ y. y *ℤ c) e ∙ pred_ℤ-*ℤ x c in
    omega (arith, ints, f, g, zero-*ℤ c)
plus_times x (negsuc (suc d)) c =
    let e : (x +ℤ negsuc (suc d)) *ℤ c ≡ (x +ℤ negsuc d) *ℤ c -ℤ c = ap (λ y. y *ℤ c) (+ℤ-pred_ℤ x (negsuc d)) ∙ pred_ℤ-*ℤ (x +ℤ negsuc d) c in
    let f : negsuc (suc d) *ℤ c ≡ negsuc d *ℤ c -ℤ c = pred_ℤ-*ℤ (negsuc d) c in
    omega (arith, ints, e, f, plus_times x (negsuc d) c)

pub times_plus : (a x y : ℤ) → a *ℤ (x +ℤ y) ≡ a *ℤ x +ℤ a *ℤ y
times_plus a x y = *ℤ_comm a (x +ℤ y) ∙ plus_times x y a ∙ ap (λ z. z +ℤ y *ℤ a) (*ℤ_comm x a) ∙ ap (λ z. a *ℤ x +ℤ z) (*ℤ_comm y a)

pub times_assoc : (a b c : ℤ) → (a *ℤ b) *ℤ c ≡ a *ℤ (b *ℤ c)
times_assoc (pos zero) b c = ap (λ y. y *ℤ c) (zero-*ℤ b) ∙ zero-*ℤ c ∙ sym (zero-*ℤ (b *ℤ c))
times_assoc (pos (suc n)) b c =
    let e : (pos (suc n) *ℤ b) *ℤ c ≡ (pos n *ℤ b) *ℤ c +ℤ b *ℤ c = ap (λ y. y *ℤ c) (suc_ℤ-*ℤ (pos n) b) ∙ plus_times (pos n *ℤ b) b c in
    e ∙ ap (λ y. y +ℤ b *ℤ c) (times_assoc (pos n) b c) ∙ sym (suc_ℤ-*ℤ (pos n) (b *ℤ c))
times_assoc (negsuc zero) b c =
    let e : negsuc zero *ℤ b +ℤ b ≡ pos 0 = omega (arith, ints, pred_ℤ-*ℤ (pos 0) b, zero-*ℤ b) in
    let f : (negsuc zero *ℤ b) *ℤ c +ℤ b *ℤ c ≡ pos 0 = sym (plus_times (negsuc zero *ℤ b) b c) ∙ ap (λ y. y *ℤ c) e ∙ zero-*ℤ c in
    omega (arith, ints, f, pred_ℤ-*ℤ (pos 0) (b *ℤ c), zero-*ℤ (b *ℤ c))
times_assoc (negsuc (suc n)) b c =
    let e : negsuc (suc n) *ℤ b +ℤ b ≡ negsuc n *ℤ b = omega (arith, ints, pred_ℤ-*ℤ (negsuc n) b) in
    let f : (negsuc (suc n) *ℤ b) *ℤ c +ℤ b *ℤ c ≡ (negsuc n *ℤ b) *ℤ c = sym (plus_times (negsuc (suc n) *ℤ b) b c) ∙ ap (λ y. y *ℤ c) e in
    omega (arith, ints, f, pred_ℤ-*ℤ (negsuc n) (b *ℤ c), times_assoc (negsuc n) b c)
