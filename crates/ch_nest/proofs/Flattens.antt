-- Forms that stand for places, and right sides and items made of them.
use Rattle.std.proofs.Common.{◌≡◌, ℕ, zero, suc, ◌+◌, ◌-◌, ◌*◌, ◌<◌, ◌≤◌, ◌^◌, ℤ, pos, ◌+ℤ◌, ◌*ℤ◌, ◌-ℤ◌, neg_ℤ, ◌≤ℤ◌, unsigned_abs, Bool, ◌&&◌, List, [], ◌∷◌, get_or, take, drop, length, arith, ap, sym, ◌∙◌, refl, w64, FitsSigned}
use Rattle.std.specs.Bool.{IsTrue}
use Rattle.std.specs.Int.{int_wrap}
use Rattle.std.specs.List.{All, list_all}
use Rattle.std.specs.Prelude.{Result, Ok, Err, IfOk}
use Rattle.std.proofs.Math.IntN.{pos-*ℤ-pos}
use Rattle.std.proofs.lemmas.Bool.{and_parts, eqb-true}
use Rattle.std.proofs.lemmas.Int.{ints, int_wrap_fits, fits_signed_from_abs}
use Rattle.std.proofs.lemmas.List.{length-take-le}
use Rattle.ch_affine.specs.Form.{Form}
use Rattle.ch_affine.specs.Affine.{dot, value, IsAtMost}
use Rattle.std.proofs.lemmas.List.Elements.{All-head, All-tail}
use Rattle.ch_affine.specs.Combined.{combined, combined_coefs}
use Rattle.ch_affine.proofs.Combines.{value_combined}
use Rattle.ch_nest.specs.declared.nest.Access.{Access}
use Rattle.ch_nest.specs.declared.nest.ArrayDecl.{ArrayDecl}
use Rattle.ch_nest.specs.declared.nest.Expr.{Expr}
use Rattle.ch_nest.specs.declared.nest.Expr.TheVariants.{Neg, Add, Sub, Mul, rolls-Neg, rolls-Add, rolls-Sub, rolls-Mul}
use Rattle.ch_nest.specs.declared.nest.Expr.TheFolds.{fold-roll-Expr}
use Rattle.ch_nest.specs.declared.nest.Sub.{Sub as Subscript}
use Rattle.ch_nest.specs.declared.flat.FlatExpr.{FlatExpr}
use Rattle.ch_nest.specs.declared.flat.FlatExpr.TheVariants as flat
use Rattle.ch_nest.specs.declared.flat.FlatExpr.TheFolds.{fold-roll-FlatExpr}
use Rattle.ch_nest.specs.Arrays.{extents_of, row_major, total}
use Rattle.ch_nest.specs.Fast.{flat_step, flat_value, wrapped, IsFlatExpr, IsFlatPlace, IsPlain, IsRowMajor}
use Rattle.ch_nest.specs.Run.{expr_step, expr_value, modulo, place, sub_value, subscripts}
use Rattle.ch_nest.specs.Shape.{access_fits, arrays_fit, is_array, sub_fits}
use Rattle.ch_nest.specs.Sound.{expr_inside, expr_inside_step}
use Rattle.ch_nest.proofs.Distinct.{bounded}
use Rattle.ch_nest.proofs.Places.{reached, first_within, rest_within, all_take}
use Rattle.ch_nest.proofs.Rests.{all_rest, rest-cons}
use Rattle.ch_nest.proofs.StartCells.{each_array, total_few}

-- a form's value needs the point only as far as its coefficients go

pub dot_take : (cs xs : List ℤ) (n : ℕ) → length cs ≤ n → dot cs xs ≡ dot cs (take n xs)
dot_take [] xs n l = refl
dot_take (c ∷ cs) xs zero l = absurd (omega arith)
dot_take (c ∷ cs) [] (suc n) l = refl
dot_take (c ∷ cs) (x ∷ xs) (suc n) l = ap (λ d. (c *ℤ x) +ℤ d) (dot_take cs xs n (omega arith))

length-combined : (a b : ℤ) (xs ys : List ℤ) → length (combined_coefs a xs b ys) ≤ length xs
length-combined a b [] ys = omega arith
length-combined a b (x ∷ xs) [] = omega arith
length-combined a b (x ∷ xs) (y ∷ ys) = omega (arith, length-combined a b xs ys)

pub length-combined_same : (a b : ℤ) (xs ys : List ℤ) → length xs ≡ length ys → length (combined_coefs a xs b ys) ≡ length xs
length-combined_same a b [] ys e = refl
length-combined_same a b (x ∷ xs) [] e = absurd (omega arith)
length-combined_same a b (x ∷ xs) (y ∷ ys) e = omega (arith, length-combined_same a b xs ys (omega arith))

-- subscripts

plain_sub_of : (n : ℕ) (point : List ℤ) (s : Subscript) → IsTrue (sub_fits n s) → value s.form point ≡ sub_value point s
plain_sub_of n point s h =
    let m : s.modulus ≡ 0 = eqb-true _ _ ((and_parts _ _ h).1) in
    sym (ap (λ m. modulo m (value s.form point)) m)

pub sub_coefs_of : (n : ℕ) (s : Subscript) → IsTrue (sub_fits n s) → n ≡ length s.form.coefs
sub_coefs_of n s h = sym (eqb-true _ _ ((and_parts _ _ ((and_parts _ _ ((and_parts _ _ h).0)).0)).0))

along_is : (n k : ℕ) (a x v : ℤ) → a ≡ pos k → pos 0 ≤ℤ x → v ≡ pos n *ℤ a +ℤ pos 1 *ℤ x → v ≡ pos (k * n + unsigned_abs x)
along_is n k a x v e l h =
    let f : pos n *ℤ a ≡ pos (n * k) = ap (λ z. pos n *ℤ z) e ∙ pos-*ℤ-pos n k in
    let g : v ≡ pos (n * k) +ℤ pos 1 *ℤ x = rw f at h in
    omega (arith, ints, g)

pub next_same : (ss : List Subscript) (t : Subscript) (e : ℤ) (at next : Form) → 1 ≤ length ss → IsTrue (list_all (sub_fits (length at.coefs)) ss)
    → t ≡ get_or ss 0 t → next ≡ combined e at (pos 1) t.form → length next.coefs ≡ length at.coefs
next_same [] t e at next l fit i c = absurd (omega arith)
next_same (s ∷ ss) t e at next l fit i c =
    let c' : next ≡ combined e at (pos 1) s.form = rw i at c in
    rw c' (length-combined_same e (pos 1) at.coefs s.form.coefs (sub_coefs_of (length at.coefs) s ((and_parts _ _ fit).0)))

pub next_fits : (ss : List Subscript) (t : Subscript) (e : ℤ) (at next : Form) → 1 ≤ length ss → IsTrue (list_all (sub_fits (length at.coefs)) ss)
    → t ≡ get_or ss 0 t → next ≡ combined e at (pos 1) t.form → IsTrue (list_all (sub_fits (length next.coefs)) (take (length ss - 1) (drop 1 ss)))
next_fits ss t e at next l fit i c = rw (next_same ss t e at next l fit i c) (all_rest (sub_fits (length at.coefs)) ss fit)

pub row_step : (es : List ℕ) (ss : List Subscript) (s : Subscript) (e : ℤ) (at next f : Form) → 1 ≤ length es → 1 ≤ length ss
    → IsTrue (list_all (sub_fits (length at.coefs)) ss) → e ≡ pos (get_or es 0 0) → s ≡ get_or ss 0 s → next ≡ combined e at (pos 1) s.form
    → IsRowMajor next (take (length es - 1) (drop 1 es)) (take (length ss - 1) (drop 1 ss)) f → IsRowMajor at es ss f
row_step [] ss s e at next f l m fit is i c h = absurd (omega arith)
row_step (n ∷ es) [] s e at next f l m fit is i c h = absurd (omega arith)
row_step (n ∷ es) (t ∷ ss) s e at next f l m fit is i c h = λ point k v w.
    let one : IsTrue (sub_fits (length at.coefs) t) = (and_parts _ _ fit).0 in
    let first = first_within (n ∷ es) point (t ∷ ss) s (sub_value point t) l m refl w in
    let others = rest_within (n ∷ es) point (t ∷ ss) l m w in
    let c' : next ≡ combined e at (pos 1) t.form = rw i at c in
    let here : value next point ≡ pos n *ℤ value at point +ℤ pos 1 *ℤ value t.form point =
    rw (c', is) (value_combined (pos n) (pos 1) at t.form point (sub_coefs_of (length at.coefs) t one)) in
    let same : value t.form point ≡ sub_value point t = plain_sub_of (length at.coefs) point t one in
    let here' : value next point ≡ pos n *ℤ value at point +ℤ pos 1 *ℤ sub_value point t = rw same at here in
    let there : value next point ≡ pos (k * n + unsigned_abs (sub_value point t)) = along_is n k (value at point) (sub_value point t) (value next point) v first.0 here' in
    let whole = h point (k * n + unsigned_abs (sub_value point t)) there others in
    let result = rw (rest-cons n es, rest-cons t ss) at whole in result

-- places

total_take : (ds : List ArrayDecl) (k : ℕ) → total (extents_of (take k ds)) ≤ total (extents_of ds)
total_take ds zero = omega arith
total_take [] (suc k) = omega arith
total_take (d ∷ ds) (suc k) = omega (arith, total_take ds k)

pub before_few : (ds : List ArrayDecl) (k : ℕ) → IsTrue (arrays_fit ds) → total (extents_of (take k ds)) ≤ 262144
before_few ds k h = omega (arith, total_take ds k, total_few ds h)

pub before_fit : (ds : List ArrayDecl) (k : ℕ) → IsTrue (arrays_fit ds) → IsTrue (list_all is_array (take k ds))
before_fit ds k h = all_take is_array k ds (each_array ds h)

pub placed : (arrays : List ArrayDecl) (d : ℕ) (a : Access) (array : ArrayDecl) (before : ℕ) (es : List ℕ) (ss : List Subscript) (base start inner f : Form) → IsTrue (arrays_fit arrays) → IsTrue (access_fits arrays d a)
    → d ≤ 6 → array ≡ get_or arrays a.array array → before ≡ total (extents_of (take a.array arrays)) → IsPlain d before base → IsPlain d 0 start
    → length inner.coefs ≡ length start.coefs → es ≡ array.extents → ss ≡ a.subs → IsRowMajor start es ss inner → f ≡ combined (pos 1) base (pos 1) inner → IsFlatPlace arrays d a f
placed arrays d a array before es ss base start inner f fit ok deep is n b s same ee se h e = λ point l i.
    let q : List ℤ = take d point in
    let size : length q ≡ d = length-take-le d point (omega arith) in
    let ok' : IsTrue (access_fits arrays (length q) a) = rw size ok in
    let r = reached arrays a q array fit ok' i is in
    let row : ℕ = row_major 0 array.extents (subscripts a q) in
    let w' = h q 0 (s.everywhere q) (rw (ee, se) r.within_it) in
    let w : value inner q ≡ pos row = rw (ee, se) at w' in
    let v : value f q ≡ pos 1 *ℤ value base q +ℤ pos 1 *ℤ value inner q =
    rw e (value_combined (pos 1) (pos 1) base inner q (b.same ∙ sym (same ∙ s.same))) in
    let sum : value f q ≡ pos (place (extents_of arrays) a q) = omega (arith, ints, v, w, n, b.everywhere q, r.placed) in
    let few : length f.coefs ≤ d = rw (e, ← b.same) (length-combined (pos 1) (pos 1) base.coefs inner.coefs) in
    let whole : value f point ≡ value f q = ap (λ z. f.constant +ℤ z) (dot_take f.coefs point d few) in
    let below = bounded 0 array.extents (subscripts a q) r.within_it in
    let small : place (extents_of arrays) a q < 262144 = omega (arith, below, r.room, r.few, r.placed) in
    let fits : FitsSigned w64 (pos (place (extents_of arrays) a q)) = fits_signed_from_abs w64 (pos (place (extents_of arrays) a q)) (omega arith) in
    let wraps : wrapped f point ≡ pos (place (extents_of arrays) a q) = ap (λ z. int_wrap w64 z) (whole ∙ sum) ∙ int_wrap_fits w64 (pos (place (extents_of arrays) a q)) fits in
    ap unsigned_abs wraps

-- right sides

-- an operation on two sides
flat_both : (arrays : List ArrayDecl) (d : ℕ) (e x y : Expr) (f fx fy : FlatExpr) (op : ℤ → ℤ → ℤ)
    → ((point cells : List ℤ) → expr_value (extents_of arrays) point cells e ≡ op (expr_value (extents_of arrays) point cells x) (expr_value (extents_of arrays) point cells y))
    → ((point cells : List ℤ) → flat_value point cells f ≡ op (flat_value point cells fx) (flat_value point cells fy))
    → ((point : List ℤ) → expr_inside (extents_of arrays) point e ≡ (expr_inside (extents_of arrays) point x && expr_inside (extents_of arrays) point y))
    → IsFlatExpr arrays d x fx → IsFlatExpr arrays d y fy → IsFlatExpr arrays d e f
flat_both arrays d e x y f fx fy op value flat inside hx hy = λ point cells l h.
    let q : List ℤ = take d point in
    let i : IsTrue (expr_inside (extents_of arrays) q x && expr_inside (extents_of arrays) q y) = rw (inside q) at h in
    let parts = and_parts (expr_inside (extents_of arrays) q x) (expr_inside (extents_of arrays) q y) i in
    rw (flat point cells, value q cells, hx point cells l parts.0, hy point cells l parts.1) refl

pub flat_neg : (arrays : List ArrayDecl) (d : ℕ) (e x : Expr) (fx : FlatExpr) → e ≡ Neg x → IsFlatExpr arrays d x fx → IsFlatExpr arrays d e (flat.Neg fx)
flat_neg arrays d e x fx is hx = λ point cells l h.
    let q : List ℤ = take d point in
    let inside : expr_inside (extents_of arrays) q e ≡ expr_inside (extents_of arrays) q x =
    ap (expr_inside (extents_of arrays) q) (is ∙ sym (rolls-Neg x)) ∙ fold-roll-Expr Bool (expr_inside_step (extents_of arrays) q) _ in
    let value : expr_value (extents_of arrays) q cells e ≡ int_wrap w64 (neg_ℤ (expr_value (extents_of arrays) q cells x)) =
    ap (expr_value (extents_of arrays) q cells) (is ∙ sym (rolls-Neg x)) ∙ fold-roll-Expr ℤ (expr_step (extents_of arrays) q cells) _ in
    let flat : flat_value point cells (flat.Neg fx) ≡ int_wrap w64 (neg_ℤ (flat_value point cells fx)) =
    ap (flat_value point cells) (sym (flat.rolls-Neg fx)) ∙ fold-roll-FlatExpr ℤ (flat_step point cells) _ in
    let i : IsTrue (expr_inside (extents_of arrays) q x) = rw inside at h in
    rw (flat, value, hx point cells l i) refl

pub flat_add : (arrays : List ArrayDecl) (d : ℕ) (e x y : Expr) (fx fy : FlatExpr) → e ≡ Add x y → IsFlatExpr arrays d x fx → IsFlatExpr arrays d y fy
    → IsFlatExpr arrays d e (flat.Add fx fy)
flat_add arrays d e x y fx fy is = flat_both arrays d e x y (flat.Add fx fy) fx fy (λ v w. int_wrap w64 (v +ℤ w))
    (λ point cells. ap (expr_value (extents_of arrays) point cells) (is ∙ sym (rolls-Add x y)) ∙ fold-roll-Expr ℤ (expr_step (extents_of arrays) point cells) _)
    (λ point cells. ap (flat_value point cells) (sym (flat.rolls-Add fx fy)) ∙ fold-roll-FlatExpr ℤ (flat_step point cells) _)
    (λ point. ap (expr_inside (extents_of arrays) point) (is ∙ sym (rolls-Add x y)) ∙ fold-roll-Expr Bool (expr_inside_step (extents_of arrays) point) _)

pub flat_sub : (arrays : List ArrayDecl) (d : ℕ) (e x y : Expr) (fx fy : FlatExpr) → e ≡ Sub x y → IsFlatExpr arrays d x fx → IsFlatExpr arrays d y fy
    → IsFlatExpr arrays d e (flat.Sub fx fy)
flat_sub arrays d e x y fx fy is = flat_both arrays d e x y (flat.Sub fx fy) fx fy (λ v w. int_wrap w64 (v -ℤ w))
    (λ point cells. ap (expr_value (extents_of arrays) point cells) (is ∙ sym (rolls-Sub x y)) ∙ fold-roll-Expr ℤ (expr_step (extents_of arrays) point cells) _)
    (λ point cells. ap (flat_value point cells) (sym (flat.rolls-Sub fx fy)) ∙ fold-roll-FlatExpr ℤ (flat_step point cells) _)
    (λ point. ap (expr_inside (extents_of arrays) point) (is ∙ sym (rolls-Sub x y)) ∙ fold-roll-Expr Bool (expr_inside_step (extents_of arrays) point) _)

pub flat_mul : (arrays : List ArrayDecl) (d : ℕ) (e x y : Expr) (fx fy : FlatExpr) → e ≡ Mul x y → IsFlatExpr arrays d x fx → IsFlatExpr arrays d y fy
    → IsFlatExpr arrays d e (flat.Mul fx fy)
flat_mul arrays d e x y fx fy is = flat_both arrays d e x y (flat.Mul fx fy) fx fy (λ v w. int_wrap w64 (v *ℤ w))
    (λ point cells. ap (expr_value (extents_of arrays) point cells) (is ∙ sym (rolls-Mul x y)) ∙ fold-roll-Expr ℤ (expr_step (extents_of arrays) point cells) _)
    (λ point cells. ap (flat_value point cells) (sym (flat.rolls-Mul fx fy)) ∙ fold-roll-FlatExpr ℤ (flat_step point cells) _)
    (λ point. ap (expr_inside (extents_of arrays) point) (is ∙ sym (rolls-Mul x y)) ∙ fold-roll-Expr Bool (expr_inside_step (extents_of arrays) point) _)

-- what holds of a value that a call may give

pub ok_maps : {A E : Type 0} (r : Result A E) (P Q : A → Type 0) → ((x : A) → P x → Q x) → IfOk r P → IfOk r Q
ok_maps (Ok x) P Q f h = f x h
ok_maps (Err e) P Q f h = tt

-- a form without coefficients

pub zeros_small : (cs : List ℤ) → All (λ c. c ≡ pos 0) cs → All (IsAtMost (2 ^ 60)) cs
zeros_small cs h = λ k d l. let e : get_or cs k d ≡ pos 0 = h k d l in rw e (omega arith)

dot_zeros : (cs xs : List ℤ) → All (λ c. c ≡ pos 0) cs → dot cs xs ≡ pos 0
dot_zeros [] xs h = refl
dot_zeros (c ∷ cs) [] h = refl
dot_zeros (c ∷ cs) (x ∷ xs) h =
    let e : c ≡ pos 0 = All-head (λ c. c ≡ pos 0) c cs h in
    rw (e, dot_zeros cs xs (All-tail (λ c. c ≡ pos 0) c cs h)) (omega (arith, ints))

pub plain_everywhere : (cs : List ℤ) (n : ℕ) (constant : ℤ) → All (λ c. c ≡ pos 0) cs → constant ≡ pos n → (point : List ℤ) → constant +ℤ dot cs point ≡ pos n
plain_everywhere cs n constant h e point = omega (arith, ints, e, dot_zeros cs point h)
