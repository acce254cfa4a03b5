-- Levels that two elements have in common, one level on.
use Rattle.std.proofs.Common.{◌≡◌, ◌∙◌, ap, sym, refl, arith, ℕ, zero, suc, ◌+◌, ◌-◌, ◌<◌, ℤ, Bool, true, false, List, if◌then◌else◌}
use Rattle.ch_plan.specs.Planned.{kept_from, same_at}

next_fuel : (n k : ℕ) → k < n → n - k ≡ suc (n - (k + 1))
next_fuel n k l = omega (arith, l)

pub kept_on : (ours theirs : List ℕ) (point last : List ℤ) (n k whole : ℕ) → k < n → same_at ours theirs point last k ≡ true
    → kept_from ours theirs point last (n - k) k ≡ whole → kept_from ours theirs point last (n - (k + 1)) (k + 1) ≡ whole
kept_on ours theirs point last n k whole l s h =
    let a : kept_from ours theirs point last (suc (n - (k + 1))) k ≡ whole = rw (next_fuel n k l) at h in
    sym (ap (λ (b : Bool). if b then kept_from ours theirs point last (n - (k + 1)) (k + 1) else k) s) ∙ a

pub kept_here : (ours theirs : List ℕ) (point last : List ℤ) (n k whole : ℕ) → k < n → same_at ours theirs point last k ≡ false
    → kept_from ours theirs point last (n - k) k ≡ whole → k ≡ whole
kept_here ours theirs point last n k whole l s h =
    let a : kept_from ours theirs point last (suc (n - (k + 1))) k ≡ whole = rw (next_fuel n k l) at h in
    sym (ap (λ (b : Bool). if b then kept_from ours theirs point last (n - (k + 1)) (k + 1) else k) s) ∙ a
