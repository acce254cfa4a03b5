-- What fits, layer by layer, and what code executes and comes to, layer by layer.
use Rattle.std.proofs.Common.{◌≡◌, ap, sym, ◌∙◌, refl, ℕ, zero, suc, ◌+◌, ◌<◌, ◌≤◌, ℤ, pos, ◌+ℤ◌, Bool, true, false, cond, ◌&&◌, nat_eq, nat_le, nat_lt, List, [], ◌∷◌, ◌++◌, get_or, take, map, length, arith}
use Rattle.std.specs.Bool.{IsTrue}
use Rattle.std.specs.List.{flat_map, list_all}
use Rattle.std.proofs.lemmas.Bool.{and_from, and_parts, eqb-true, leb-true, ltb-true}
use Rattle.ch_affine.specs.Form.{Form}
use Rattle.ch_affine.specs.Rows.{Rows}
use Rattle.ch_code.specs.declared.code.Bound.{Bound}
use Rattle.ch_code.specs.declared.code.Code.{Code}
use Rattle.ch_code.specs.declared.code.Code.TheVariants.{Seq, Loop, Guard, Leaf, rolls-Seq, rolls-Loop, rolls-Guard, rolls-Leaf}
use Rattle.ch_code.specs.declared.code.Code.TheFolds.{fold-roll-Code}
use Rattle.ch_code.specs.Trace.{Traced, guarded, high_of, low_of, one_by_one, trace, trace_step, turns_listed}
use Rattle.ch_code.specs.WellFormed.{Fitting, Valued, access_fits, body_fits, bound_fits, bounds_fit, fits, fits_step, form_fits, iterators_fit, iterators_fit_step, leaf_fits, loop_values, turn_values, values_step}
use Rattle.ch_nest.specs.declared.nest.Access.{Access}
use Rattle.ch_nest.specs.declared.nest.Body.{Body}
use Rattle.ch_nest.specs.declared.nest.Expr.{Expr}
use Rattle.ch_nest.specs.declared.nest.Expr.TheVariants as expr
use Rattle.ch_nest.specs.declared.nest.Expr.TheFolds.{fold-roll-Expr}
use Rattle.ch_nest.specs.Run.{count}
use Rattle.ch_poly.specs.Points.{begins_some}
use Rattle.ch_timed.specs.Conflict.{reads}
use Rattle.ch_timed.specs.Vectors.{woven}
use Rattle.ch_timed.specs.declared.element.Element.{Element}
use Rattle.ch_timed.specs.declared.element.Label.{Label}
use Rattle.ch_timed.proofs.Rolls.{reads_add, reads_mul, reads_neg, reads_read, reads_sub}
use Rattle.ch_plan.specs.Ready.{HaveDepth, SubsFit, iters_at}
use Rattle.ch_eval.specs.Made.{RightFits}

-- tests of all members

pub all_append : {X : Type 0} (t : X → Bool) (xs ys : List X) → list_all t (xs ++ ys) ≡ true → (list_all t xs ≡ true) × (list_all t ys ≡ true)
all_append t [] ys h = (refl, h)
all_append t (x ∷ xs) ys h =
    let p = and_parts (t x) (list_all t (xs ++ ys)) h in
    let r = all_append t xs ys p.1 in
    (and_from _ _ p.0 r.0, r.1)

pub all_at : {X : Type 0} (t : X → Bool) (xs : List X) (k : ℕ) (d : X) → k < length xs → list_all t xs ≡ true → t (get_or xs k d) ≡ true
all_at t [] k d l h = absurd (omega arith)
all_at t (x ∷ xs) zero d l h = (and_parts (t x) (list_all t xs) h).0
all_at t (x ∷ xs) (suc k) d l h = all_at t xs k d (omega arith) (and_parts (t x) (list_all t xs) h).1

pub forms_deep : (around : ℕ) (forms : List Form) → list_all (form_fits around) forms ≡ true → HaveDepth around forms
forms_deep around forms h = λ k d l. eqb-true _ _ (all_at (form_fits around) forms k d l h)

-- right sides

module _ (arrays iterators : ℕ) where
  iter_fits : (k : ℕ) → iterators_fit iterators (expr.Iter k) ≡ nat_lt k iterators
  iter_fits k = ap (iterators_fit iterators) (sym (expr.rolls-Iter k)) ∙ fold-roll-Expr Bool (iterators_fit_step iterators) _

  neg_fits : (x : Expr) → iterators_fit iterators (expr.Neg x) ≡ iterators_fit iterators x
  neg_fits x = ap (iterators_fit iterators) (sym (expr.rolls-Neg x)) ∙ fold-roll-Expr Bool (iterators_fit_step iterators) _

  add_fits : (x y : Expr) → iterators_fit iterators (expr.Add x y) ≡ (iterators_fit iterators x && iterators_fit iterators y)
  add_fits x y = ap (iterators_fit iterators) (sym (expr.rolls-Add x y)) ∙ fold-roll-Expr Bool (iterators_fit_step iterators) _

  sub_fits : (x y : Expr) → iterators_fit iterators (expr.Sub x y) ≡ (iterators_fit iterators x && iterators_fit iterators y)
  sub_fits x y = ap (iterators_fit iterators) (sym (expr.rolls-Sub x y)) ∙ fold-roll-Expr Bool (iterators_fit_step iterators) _

  mul_fits : (x y : Expr) → iterators_fit iterators (expr.Mul x y) ≡ (iterators_fit iterators x && iterators_fit iterators y)
  mul_fits x y = ap (iterators_fit iterators) (sym (expr.rolls-Mul x y)) ∙ fold-roll-Expr Bool (iterators_fit_step iterators) _

  pub fits_iter : (e : Expr) (k : ℕ) → e ≡ expr.Iter k → RightFits arrays iterators e → k < iterators
  fits_iter e k is h = ltb-true k iterators (sym (ap (iterators_fit iterators) is ∙ iter_fits k) ∙ h.iterators)

  pub fits_read : (e : Expr) (a : Access) → e ≡ expr.Read a → RightFits arrays iterators e → IsTrue (access_fits arrays iterators a)
  fits_read e a is h =
      let known = ap reads is ∙ reads_read a in
      (and_parts (access_fits arrays iterators a) true (sym (ap (list_all (access_fits arrays iterators)) known) ∙ h.accesses)).0

  pub fits_neg : (e x : Expr) → e ≡ expr.Neg x → RightFits arrays iterators e → RightFits arrays iterators x
  fits_neg e x is h = record {
    iterators = sym (ap (iterators_fit iterators) is ∙ neg_fits x) ∙ h.iterators;
    accesses = sym (ap (list_all (access_fits arrays iterators)) (ap reads is ∙ reads_neg x)) ∙ h.accesses;
  }

  both_fit : (e x y : Expr) → iterators_fit iterators e ≡ (iterators_fit iterators x && iterators_fit iterators y) → reads e ≡ reads x ++ reads y → RightFits arrays iterators e
      → RightFits arrays iterators x × RightFits arrays iterators y
  both_fit e x y i r h =
      let p = and_parts (iterators_fit iterators x) (iterators_fit iterators y) (sym i ∙ h.iterators) in
      let q = all_append (access_fits arrays iterators) (reads x) (reads y) (sym (ap (list_all (access_fits arrays iterators)) r) ∙ h.accesses) in
      (record { iterators = p.0; accesses = q.0 }, record { iterators = p.1; accesses = q.1 })

  pub fits_add : (e x y : Expr) → e ≡ expr.Add x y → RightFits arrays iterators e → RightFits arrays iterators x × RightFits arrays iterators y
  fits_add e x y is = both_fit e x y (ap (iterators_fit iterators) is ∙ add_fits x y) (ap reads is ∙ reads_add x y)

  pub fits_sub : (e x y : Expr) → e ≡ expr.Sub x y → RightFits arrays iterators e → RightFits arrays iterators x × RightFits arrays iterators y
  fits_sub e x y is = both_fit e x y (ap (iterators_fit iterators) is ∙ sub_fits x y) (ap reads is ∙ reads_sub x y)

  pub fits_mul : (e x y : Expr) → e ≡ expr.Mul x y → RightFits arrays iterators e → RightFits arrays iterators x × RightFits arrays iterators y
  fits_mul e x y is = both_fit e x y (ap (iterators_fit iterators) is ∙ mul_fits x y) (ap reads is ∙ reads_mul x y)

  pub body_right : (b : Body) → IsTrue (body_fits arrays iterators b) → RightFits arrays iterators b.right
  body_right b h =
      let p = and_parts (iterators_fit iterators b.right) (list_all (access_fits arrays iterators) (reads b.right ++ b.write ∷ [])) h in
      record { iterators = p.0; accesses = (all_append (access_fits arrays iterators) (reads b.right) (b.write ∷ []) p.1).0 }

  pub body_write : (b : Body) → IsTrue (body_fits arrays iterators b) → IsTrue (access_fits arrays iterators b.write)
  body_write b h =
      let p = and_parts (iterators_fit iterators b.right) (list_all (access_fits arrays iterators) (reads b.right ++ b.write ∷ [])) h in
      (and_parts (access_fits arrays iterators b.write) true ((all_append (access_fits arrays iterators) (reads b.right) (b.write ∷ []) p.1).1)).0

pub access_parts : (arrays iterators : ℕ) (a : Access) → IsTrue (access_fits arrays iterators a) → (a.array < arrays) × SubsFit iterators a.subs
access_parts arrays iterators a h =
    let p = and_parts (nat_lt a.array arrays) (list_all (λ s. form_fits iterators s.form) a.subs) h in
    (ltb-true _ _ p.0, λ k d l. eqb-true _ _ (all_at (λ s. form_fits iterators s.form) a.subs k d l p.1))

pub leaf_parts : (arrays around : ℕ) (body : Body) (origin : List Form) (places : List ℕ) → IsTrue (leaf_fits arrays around body origin places)
    → (IsTrue (body_fits arrays (length origin) body) × HaveDepth around origin) × (length places ≡ suc around)
leaf_parts arrays around body origin places h =
    let p = and_parts (body_fits arrays (length origin) body && list_all (form_fits around) origin) (nat_eq (length places) (suc around)) h in
    let q = and_parts (body_fits arrays (length origin) body) (list_all (form_fits around) origin) p.0 in
    ((q.0, forms_deep around origin q.1), eqb-true _ _ p.1)

-- code

pub record LoopFits (arrays around number : ℕ) (low_bounds high_bounds : List Bound) (body : Code) : Type 0 where
  pub level : number ≡ suc around
  pub lows : IsTrue (list_all (bound_fits around) low_bounds)
  pub highs : IsTrue (list_all (bound_fits around) high_bounds)
  pub inner : IsTrue (fits arrays body (suc around))

module _ (arrays around : ℕ) where
  seq_fits : (parts : List Code) → fits arrays (Seq parts) around ≡ list_all (λ part. part around) (map (fits arrays) parts)
  seq_fits parts = ap (λ f. f around) (ap (fits arrays) (sym (rolls-Seq parts)) ∙ fold-roll-Code Fitting (fits_step arrays) _)

  loop_fits : (level : ℕ) (lows highs : List Bound) (inner : Code)
      → fits arrays (Loop level lows highs inner) around ≡ (nat_eq level (suc around) && bounds_fit around lows && bounds_fit around highs && fits arrays inner (suc around))
  loop_fits level lows highs inner = ap (λ f. f around) (ap (fits arrays) (sym (rolls-Loop level lows highs inner)) ∙ fold-roll-Code Fitting (fits_step arrays) _)

  guard_fits : (system : Rows) (inner : Code) → fits arrays (Guard system inner) around ≡ (nat_le around system.vars && fits arrays inner around)
  guard_fits system inner = ap (λ f. f around) (ap (fits arrays) (sym (rolls-Guard system inner)) ∙ fold-roll-Code Fitting (fits_step arrays) _)

  leaf_is_fit : (label : Label) (body : Body) (origin : List Form) (places : List ℕ) → fits arrays (Leaf label body origin places) around ≡ leaf_fits arrays around body origin places
  leaf_is_fit label body origin places = ap (λ f. f around) (ap (fits arrays) (sym (rolls-Leaf label body origin places)) ∙ fold-roll-Code Fitting (fits_step arrays) _)

  pub fits_parts : (code : Code) (parts : List Code) → code ≡ Seq parts → IsTrue (fits arrays code around) → IsTrue (list_all (λ part. fits arrays part around) parts)
  fits_parts code parts is h = each parts (sym (ap (λ c. fits arrays c around) is ∙ seq_fits parts) ∙ h)
    where
      each : (parts : List Code) → list_all (λ part. part around) (map (fits arrays) parts) ≡ true → list_all (λ part. fits arrays part around) parts ≡ true
      each [] h = refl
      each (c ∷ cs) h = let p = and_parts (fits arrays c around) (list_all (λ part. part around) (map (fits arrays) cs)) h in and_from _ _ p.0 (each cs p.1)

  pub fits_loop : (code : Code) (level : ℕ) (lows highs : List Bound) (inner : Code) → code ≡ Loop level lows highs inner → IsTrue (fits arrays code around)
      → LoopFits arrays around level lows highs inner
  fits_loop code level lows highs inner is h =
      let p = and_parts _ _ (sym (ap (λ c. fits arrays c around) is ∙ loop_fits level lows highs inner) ∙ h) in
      let q = and_parts _ _ p.0 in
      let r = and_parts _ _ q.0 in
      record {
        level = eqb-true _ _ r.0;
        lows = (and_parts (nat_le 1 (length lows)) (list_all (bound_fits around) lows) r.1).1;
        highs = (and_parts (nat_le 1 (length highs)) (list_all (bound_fits around) highs) q.1).1;
        inner = p.1;
      }

  pub fits_guard : (code : Code) (system : Rows) (inner : Code) → code ≡ Guard system inner → IsTrue (fits arrays code around) → (around ≤ system.vars) × IsTrue (fits arrays inner around)
  fits_guard code system inner is h =
      let p = and_parts (nat_le around system.vars) (fits arrays inner around) (sym (ap (λ c. fits arrays c around) is ∙ guard_fits system inner) ∙ h) in
      (leb-true _ _ p.0, p.1)

  pub fits_leaf : (code : Code) (label : Label) (body : Body) (origin : List Form) (places : List ℕ) → code ≡ Leaf label body origin places → IsTrue (fits arrays code around)
      → IsTrue (leaf_fits arrays around body origin places)
  fits_leaf code label body origin places is h = sym (ap (λ c. fits arrays c around) is ∙ leaf_is_fit label body origin places) ∙ h

pub bound_parts : (around : ℕ) (bounds : List Bound) (k : ℕ) (d : Bound) → IsTrue (list_all (bound_fits around) bounds) → k < length bounds
    → (length (get_or bounds k d).form.coefs ≡ around) × (1 ≤ (get_or bounds k d).divisor)
bound_parts around bounds k d h l =
    let p = and_parts (form_fits around (get_or bounds k d).form) (nat_le 1 (get_or bounds k d).divisor) (all_at (bound_fits around) bounds k d l h) in
    (eqb-true _ _ p.0, leb-true _ _ p.1)

-- what code executes, and the values of its loops

abbrev pub leaf_element : Label → Body → List Form → List ℕ → List ℤ → Element
leaf_element label body origin places xs = record { identity = record { label = label; iters = iters_at origin xs }; vector = woven (map pos places) xs; body = body }

module _ (xs : List ℤ) where
  pub trace_seq : (parts : List Code) → trace (Seq parts) xs ≡ one_by_one (map trace parts) xs
  trace_seq parts = ap (λ f. f xs) (ap trace (sym (rolls-Seq parts)) ∙ fold-roll-Code Traced trace_step _)

  pub trace_loop : (level : ℕ) (lows highs : List Bound) (inner : Code)
      → trace (Loop level lows highs inner) xs ≡ turns_listed (count (low_of lows xs) (high_of highs xs)) (low_of lows xs) (λ x. trace inner (xs ++ x ∷ []))
  trace_loop level lows highs inner = ap (λ f. f xs) (ap trace (sym (rolls-Loop level lows highs inner)) ∙ fold-roll-Code Traced trace_step _)

  pub trace_guard : (system : Rows) (inner : Code) → trace (Guard system inner) xs ≡ guarded (begins_some system xs) (trace inner xs)
  trace_guard system inner = ap (λ f. f xs) (ap trace (sym (rolls-Guard system inner)) ∙ fold-roll-Code Traced trace_step _)

  pub trace_leaf : (label : Label) (body : Body) (origin : List Form) (places : List ℕ) → trace (Leaf label body origin places) xs ≡ leaf_element label body origin places xs ∷ []
  trace_leaf label body origin places = ap (λ f. f xs) (ap trace (sym (rolls-Leaf label body origin places)) ∙ fold-roll-Code Traced trace_step _)

  pub values_seq : (parts : List Code) → loop_values (Seq parts) xs ≡ flat_map (λ part. part xs) (map loop_values parts)
  values_seq parts = ap (λ f. f xs) (ap loop_values (sym (rolls-Seq parts)) ∙ fold-roll-Code Valued values_step _)

  pub values_loop : (level : ℕ) (lows highs : List Bound) (inner : Code)
      → loop_values (Loop level lows highs inner) xs ≡ turn_values (count (low_of lows xs) (high_of highs xs)) (low_of lows xs) (λ x. loop_values inner (xs ++ x ∷ []))
  values_loop level lows highs inner = ap (λ f. f xs) (ap loop_values (sym (rolls-Loop level lows highs inner)) ∙ fold-roll-Code Valued values_step _)

  pub values_guard : (system : Rows) (inner : Code) → loop_values (Guard system inner) xs ≡ cond (begins_some system xs) (loop_values inner xs) []
  values_guard system inner = ap (λ f. f xs) (ap loop_values (sym (rolls-Guard system inner)) ∙ fold-roll-Code Valued values_step _)
