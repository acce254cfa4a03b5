-- Sums that wrap on the way.
use Rattle.std.proofs.Common.{◌≡◌, ap, sym, ◌∙◌, refl, ℕ, ◌+◌, ◌-◌, ◌<◌, ◌≤◌, ℤ, pos, ◌+ℤ◌, ◌*ℤ◌, List, [], ◌∷◌, ◌++◌, get_or, drop, take, length, arith, FitsSigned, w64}
use Rattle.std.specs.Int.{Width, int_wrap}
use Rattle.std.proofs.lemmas.Int.{SFits-int_wrap, int_wrap-add_left, int_wrap-add_right, int_wrap-add_same, int_wrap_fits, ints}
use Rattle.std.proofs.lemmas.List.{drop_more, drop_all, take_all}
use Rattle.std.proofs.Math.IntN.{+ℤ_comm}
use Rattle.ch_plan.specs.declared.plan.Residue.{Residue}
use Rattle.ch_plan.specs.Planned.{residue_value, residues_value, summed}

pub added_is : (w : Width) (total p here next : ℤ) → here ≡ int_wrap w p → next ≡ int_wrap w (total +ℤ here) → next ≡ int_wrap w (total +ℤ p)
added_is w total p here next h n = n ∙ ap (λ z. int_wrap w (total +ℤ z)) h ∙ int_wrap-add_right w total p

pub summed_on : {X : Type 0} (w : Width) (f : X → ℤ) (xs : List X) (k : ℕ) (d : X) (total next whole : ℤ) → k < length xs → next ≡ int_wrap w (total +ℤ f (get_or xs k d))
    → int_wrap w (total +ℤ summed f (drop k xs)) ≡ whole → int_wrap w (next +ℤ summed f (drop (k + 1) xs)) ≡ whole
summed_on w f xs k d total next whole l n e =
    let p : ℤ = f (get_or xs k d) in
    let rest : ℤ = summed f (drop (k + 1) xs) in
    let split : summed f (drop k xs) ≡ p +ℤ rest = ap (λ zs. summed f zs) (drop_more xs k d l) in
    let c : int_wrap w (next +ℤ rest) ≡ int_wrap w ((total +ℤ p) +ℤ rest) = ap (λ z. int_wrap w (z +ℤ rest)) n ∙ int_wrap-add_left w (total +ℤ p) rest in
    let e' : (total +ℤ p) +ℤ rest ≡ total +ℤ (p +ℤ rest) = omega (arith, ints) in
    c ∙ ap (int_wrap w) (e' ∙ ap (λ z. total +ℤ z) (sym split)) ∙ e

-- the same at a member that is known by its place
pub summed_at : {X : Type 0} (w : Width) (f : X → ℤ) (xs : List X) (k : ℕ) (x : X) (total next whole : ℤ) → k < length xs → x ≡ get_or xs k x → next ≡ int_wrap w (total +ℤ f x)
    → int_wrap w (total +ℤ summed f (drop k xs)) ≡ whole → int_wrap w (next +ℤ summed f (drop (k + 1) xs)) ≡ whole
summed_at w f xs k x total next whole l is n e = summed_on w f xs k x total next whole l (n ∙ ap (λ y. int_wrap w (total +ℤ f y)) is) e

pub summed_done : {X : Type 0} (w : Width) (f : X → ℤ) (xs : List X) (k : ℕ) (total whole : ℤ) → length xs ≤ k → FitsSigned w total
    → int_wrap w (total +ℤ summed f (drop k xs)) ≡ whole → total ≡ whole
summed_done w f xs k total whole l fits e =
    let z : drop k xs ≡ [] = drop_all k xs l in
    let n : total +ℤ summed f (drop k xs) ≡ total = ap (λ us. total +ℤ summed f us) z ∙ omega (arith, ints) in
    rw (n, int_wrap_fits w total fits) at e

pub summed_push : {X : Type 0} (f : X → ℤ) (xs : List X) (x : X) → summed f (xs ++ x ∷ []) ≡ summed f xs +ℤ f x
summed_push f [] x = omega (arith, ints)
summed_push f (y ∷ ys) x = omega (arith, ints, summed_push f ys x)

pub residues_first : (r : Residue) (rs : List Residue) (point : List ℤ) → 1 ≤ length rs → r ≡ get_or rs 0 r
    → residues_value rs point ≡ int_wrap w64 (int_wrap w64 (r.stride *ℤ residue_value r point) +ℤ residues_value (take (length rs - 1) (drop 1 rs)) point)
residues_first r [] point l is = absurd (omega arith)
residues_first r (q ∷ rs) point l is =
    let e : take (length (q ∷ rs) - 1) (drop 1 (q ∷ rs)) ≡ rs = take_all (length (q ∷ rs) - 1) rs (omega arith) in
    ap (λ (u : Residue). int_wrap w64 (int_wrap w64 (u.stride *ℤ residue_value u point) +ℤ residues_value rs point)) (sym is)
    ∙ ap (λ us. int_wrap w64 (int_wrap w64 (r.stride *ℤ residue_value r point) +ℤ residues_value us point)) (sym e)

-- numbers that are the same where they wrap

pub wrapped_once : (w : Width) (z : ℤ) → int_wrap w (int_wrap w z) ≡ int_wrap w z
wrapped_once w z = int_wrap_fits w (int_wrap w z) (SFits-int_wrap w z)

pub wrapped_same : (w : Width) (v z : ℤ) → v ≡ int_wrap w z → int_wrap w v ≡ int_wrap w z
wrapped_same w v z e = ap (int_wrap w) e ∙ wrapped_once w z

pub same_plus : (w : Width) (a a' b b' : ℤ) → int_wrap w a ≡ int_wrap w a' → int_wrap w b ≡ int_wrap w b' → int_wrap w (a +ℤ b) ≡ int_wrap w (a' +ℤ b')
same_plus w a a' b b' e f =
    int_wrap-add_same w a a' b e ∙ ap (int_wrap w) (+ℤ_comm a' b) ∙ int_wrap-add_same w b b' a' f ∙ ap (int_wrap w) (+ℤ_comm b' a')

pub residues_push : (rs : List Residue) (r : Residue) (point : List ℤ)
    → int_wrap w64 (residues_value (rs ++ r ∷ []) point) ≡ int_wrap w64 (residues_value rs point +ℤ r.stride *ℤ residue_value r point)
residues_push [] r point =
    let v : ℤ = r.stride *ℤ residue_value r point in
    let one : int_wrap w64 (int_wrap w64 v +ℤ pos 0) ≡ int_wrap w64 (v +ℤ pos 0) = int_wrap-add_left w64 v (pos 0) in
    let zero : v +ℤ pos 0 ≡ pos 0 +ℤ v = omega (arith, ints) in
    ap (int_wrap w64) one ∙ wrapped_once w64 (v +ℤ pos 0) ∙ ap (int_wrap w64) zero
residues_push (q ∷ qs) r point =
    let v : ℤ = r.stride *ℤ residue_value r point in
    let a : ℤ = int_wrap w64 (q.stride *ℤ residue_value q point) in
    let more = residues_push qs r point in
    let first : int_wrap w64 (residues_value ((q ∷ qs) ++ r ∷ []) point) ≡ int_wrap w64 (a +ℤ residues_value (qs ++ r ∷ []) point) = wrapped_once w64 (a +ℤ residues_value (qs ++ r ∷ []) point) in
    let second : int_wrap w64 (a +ℤ residues_value (qs ++ r ∷ []) point) ≡ int_wrap w64 (a +ℤ (residues_value qs point +ℤ v)) = same_plus w64 a a _ _ refl more in
    let move : a +ℤ (residues_value qs point +ℤ v) ≡ (a +ℤ residues_value qs point) +ℤ v = omega (arith, ints) in
    let last : int_wrap w64 ((a +ℤ residues_value qs point) +ℤ v) ≡ int_wrap w64 (residues_value (q ∷ qs) point +ℤ v) =
    sym (int_wrap-add_left w64 (a +ℤ residues_value qs point) v) in
    first ∙ second ∙ ap (int_wrap w64) move ∙ last
