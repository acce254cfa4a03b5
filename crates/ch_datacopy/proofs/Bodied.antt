-- The bodies of the new pieces: what they access, by which forms, and which iterators they use.
use Rattle.std.proofs.Common.{◌≡◌, refl, sym, ap, ap₂, ◌∙◌, subst, ℕ, suc, ◌+◌, ◌≤◌, ℤ, pos, Bool, true, false, ◌&&◌, nat_lt, if◌then◌else◌, List, [], ◌∷◌, ◌++◌, map, length, replicate, inl, inr, length-append, arith}
use Rattle.std.proofs.lemmas.List.{length-replicate}
use Rattle.ch_copied.specs.Accesses.{names}
use Rattle.ch_copied.specs.Bodies.{in_body, moved_cell, one_variable, out_body, redirect, redirect_step, redirected, redirected_access, variables, wrapped}
use Rattle.ch_copied.specs.Plans.{Plan}
use Rattle.ch_copied.proofs.Inside.{redirected_reads}
use Rattle.ch_nest.specs.declared.nest.Access.{Access}
use Rattle.ch_nest.specs.declared.nest.Body.{Body}
use Rattle.ch_nest.specs.declared.nest.Expr.{Expr, map-Expr}
use Rattle.ch_nest.specs.declared.nest.Expr.TheOpen.{Expr-F}
use Rattle.ch_nest.specs.declared.nest.Expr.TheFolds.{fold-roll-Expr, ind-Expr}
use Rattle.ch_nest.specs.declared.nest.Expr.TheVariants.{Number, Iter, Read, Neg, Add, Sub, Mul, rolls-Number, rolls-Iter, rolls-Read, rolls-Neg, rolls-Add, rolls-Sub, rolls-Mul}
use Rattle.ch_nest.specs.declared.nest.Sub as subscript
use Rattle.ch_space.specs.Keeps.{iters_below, iters_below_step}
use Rattle.ch_timed.specs.Conflict.{accesses, reads}
use Rattle.ch_timed.specs.Members.{In}
use Rattle.ch_timed.proofs.Rolls.{reads_read}

map_append : {X Y : Type 0} (f : X → Y) (xs ys : List X) → map f (xs ++ ys) ≡ map f xs ++ map f ys
map_append f [] ys = refl
map_append f (x ∷ xs) ys = ap (λ z. f x ∷ z) (map_append f xs ys)

-- a redirected body accesses the redirected accesses
pub redirected_accesses : (p : Plan) (b : Body) → accesses (redirected p b) ≡ map (redirected_access p) (accesses b)
redirected_accesses p b =
    ap (λ rs. rs ++ redirected_access p b.write ∷ []) (redirected_reads p b.right)
    ∙ sym (map_append (redirected_access p) (reads b.right) (b.write ∷ []))

-- those of moves
pub in_accesses : (p : Plan) → accesses (in_body p) ≡ moved_cell p ∷ redirected_access p (moved_cell p) ∷ []
in_accesses p = ap (λ rs. rs ++ redirected_access p (moved_cell p) ∷ []) (reads_read (moved_cell p))

pub out_accesses : (p : Plan) → accesses (out_body p) ≡ redirected_access p (moved_cell p) ∷ moved_cell p ∷ []
out_accesses p = ap (λ rs. rs ++ moved_cell p ∷ []) (reads_read (redirected_access p (moved_cell p)))

-- iterators

module _ (n : ℕ) where
  below_number : (m : ℤ) → iters_below n (Number m) ≡ true
  below_number m = ap (iters_below n) (sym (rolls-Number m)) ∙ fold-roll-Expr Bool (iters_below_step n) _

  below_iter : (k : ℕ) → iters_below n (Iter k) ≡ nat_lt k n
  below_iter k = ap (iters_below n) (sym (rolls-Iter k)) ∙ fold-roll-Expr Bool (iters_below_step n) _

  pub below_read : (a : Access) → iters_below n (Read a) ≡ true
  below_read a = ap (iters_below n) (sym (rolls-Read a)) ∙ fold-roll-Expr Bool (iters_below_step n) _

  below_neg : (x : Expr) → iters_below n (Neg x) ≡ iters_below n x
  below_neg x = ap (iters_below n) (sym (rolls-Neg x)) ∙ fold-roll-Expr Bool (iters_below_step n) _

  below_add : (x y : Expr) → iters_below n (Add x y) ≡ (iters_below n x && iters_below n y)
  below_add x y = ap (iters_below n) (sym (rolls-Add x y)) ∙ fold-roll-Expr Bool (iters_below_step n) _

  below_sub : (x y : Expr) → iters_below n (Sub x y) ≡ (iters_below n x && iters_below n y)
  below_sub x y = ap (iters_below n) (sym (rolls-Sub x y)) ∙ fold-roll-Expr Bool (iters_below_step n) _

  below_mul : (x y : Expr) → iters_below n (Mul x y) ≡ (iters_below n x && iters_below n y)
  below_mul x y = ap (iters_below n) (sym (rolls-Mul x y)) ∙ fold-roll-Expr Bool (iters_below_step n) _

  module _ (p : Plan) where
    abbrev Same : Expr → Type 0
    Same x = iters_below n (redirect p x) ≡ iters_below n x

    abbrev Known : Type 0
    Known = (x : Expr) × Same x

    abbrev bare : Known → Expr
    bare e = e.0

    layer : (y : Expr-F Known) → iters_below n (redirect_step p (map-Expr Expr Expr (redirect p) (map-Expr Known Expr bare y)))
        ≡ iters_below_step n (map-Expr Expr Bool (iters_below n) (map-Expr Known Expr bare y))
    layer (Expr-F.Number m) = below_number m
    layer (Expr-F.Iter k) = below_iter k
    layer (Expr-F.Read a) = below_read (redirected_access p a)
    layer (Expr-F.Neg x) = below_neg (redirect p x.0) ∙ x.1
    layer (Expr-F.Add x y) = below_add (redirect p x.0) (redirect p y.0) ∙ ap₂ (λ a b. a && b) x.1 y.1
    layer (Expr-F.Sub x y) = below_sub (redirect p x.0) (redirect p y.0) ∙ ap₂ (λ a b. a && b) x.1 y.1
    layer (Expr-F.Mul x y) = below_mul (redirect p x.0) (redirect p y.0) ∙ ap₂ (λ a b. a && b) x.1 y.1

    -- a redirected right side uses the same iterators
    pub redirected_below : (x : Expr) → Same x
    redirected_below = ind-Expr Same (λ x y is.
        ap (iters_below n) (fold-roll-Expr Expr (redirect_step p) x)
        ∙ subst (λ z. iters_below n (redirect_step p (map-Expr Expr Expr (redirect p) z)) ≡ iters_below_step n (map-Expr Expr Bool (iters_below n) z)) is (layer y)
        ∙ sym (fold-roll-Expr Bool (iters_below_step n) x))

-- subscripts

pub wrapped_length : (subs : List subscript.Sub) (es : List ℕ) → length subs ≡ length es → length (wrapped subs es) ≡ length subs
wrapped_length [] es h = refl
wrapped_length (s ∷ subs) [] h = absurd (omega arith)
wrapped_length (s ∷ subs) (e ∷ es) h = ap suc (wrapped_length subs es (omega arith))

-- each has the form of an old one
pub wrapped_from : (subs : List subscript.Sub) (es : List ℕ) (s : subscript.Sub) → In s (wrapped subs es) → (t : subscript.Sub) × (In t subs × (s.form ≡ t.form))
wrapped_from [] es s i = absurd i
wrapped_from (t ∷ subs) [] s i = absurd i
wrapped_from (t ∷ subs) (e ∷ es) s (inl k) = (t, (inl refl, ap (λ (z : subscript.Sub). z.form) (sym k)))
wrapped_from (t ∷ subs) (e ∷ es) s (inr i) = let r = wrapped_from subs es s i in (r.0, (inr r.1.0, r.1.1))

-- so has each of a redirected access
pub redirected_from : (p : Plan) (a : Access) (s : subscript.Sub) → In s (redirected_access p a).subs → (t : subscript.Sub) × (In t a.subs × (s.form ≡ t.form))
redirected_from p a s i = by (names p.array a) i
  where
    by : (b : Bool) → In s (if b then record { array = p.buffer; subs = wrapped a.subs p.extents } else a).subs → (t : subscript.Sub) × (In t a.subs × (s.form ≡ t.form))
    by true j = wrapped_from a.subs p.extents s j
    by false j = (s, (j, refl))

pub variables_length : (before : ℕ) (es : List ℕ) → length (variables before es) ≡ length es
variables_length before [] = refl
variables_length before (e ∷ es) = ap suc (variables_length (suc before) es)

-- the variables stand at their numbers, without a modulus
pub variables_from : (before : ℕ) (es : List ℕ) (s : subscript.Sub) → In s (variables before es)
    → (s.modulus ≡ 0) × ((k : ℕ) × ((m : ℕ) × (((k + 1) + m ≡ before + length es) × ((before ≤ k) × (s.form ≡ one_variable k m)))))
variables_from before [] s i = absurd i
variables_from before (e ∷ es) s (inl h) =
    (ap (λ (z : subscript.Sub). z.modulus) (sym h), (before, (length es, (omega arith, (omega arith, ap (λ (z : subscript.Sub). z.form) (sym h))))))
variables_from before (e ∷ es) s (inr i) =
    let r = variables_from (suc before) es s i in
    let a = r.1.1.1.0 in
    let b = r.1.1.1.1.0 in
    (r.0, (r.1.0, (r.1.1.0, (omega arith, (omega arith, r.1.1.1.1.1)))))

pub variable_long : (k m : ℕ) → length (one_variable k m).coefs ≡ (k + 1) + m
variable_long k m =
    let a = length-append (replicate k (pos 0)) (pos 1 ∷ replicate m (pos 0)) in
    let b = length-replicate k (pos 0) in
    let c = length-replicate m (pos 0) in
    omega arith
