-- What a space asks of bodies holds of those of a well formed nest.
use Rattle.std.proofs.Common.{◌≡◌, refl, sym, ap, ◌∙◌, subst, ℕ, zero, suc, ◌<◌, ◌≤◌, ◌*◌, Bool, true, ◌&&◌, nat_eq, nat_le, List, [], ◌∷◌, ◌++◌, length, slice_get, inl, inr, arith}
use Rattle.std.specs.Bool.{IsTrue}
use Rattle.std.specs.List.{All, list_all}
use Rattle.std.specs.Option.{option_map_or}
use Rattle.std.proofs.lemmas.Bool.{and_parts, eqb-true, leb-true}
use Rattle.std.proofs.lemmas.List.Elements.{All-nil, All-cons}
use Rattle.std.specs.Option.{is_some}
use Rattle.ch_nest.specs.Arrays.{cells_in, extents_of, total}
use Rattle.ch_nest.specs.declared.nest.Access.{Access}
use Rattle.ch_nest.specs.declared.nest.ArrayDecl.{ArrayDecl}
use Rattle.ch_nest.specs.declared.nest.Body.{Body}
use Rattle.ch_nest.specs.declared.nest.Expr.{Expr, map-Expr}
use Rattle.ch_nest.specs.declared.nest.Expr.TheOpen.{Expr-F}
use Rattle.ch_nest.specs.declared.nest.Expr.TheFolds.{fold-roll-Expr, ind-Expr}
use Rattle.ch_nest.specs.declared.nest.Sub.{Sub}
use Rattle.ch_nest.specs.Limits.{most_cells, most_conditions, most_dimensions}
use Rattle.ch_nest.specs.LoopNest.{LoopNest}
use Rattle.ch_nest.specs.Shape.{access_fits, all_conditions_fit, all_numbered, arrays_fit, body_fits, coefs_fit, constant_fits, expr_fits, form_fits, has_dimensions, is_array, is_nest, items_fit, parts_fit, parts_fit_step, sub_fits}
use Rattle.ch_space.specs.Keeps.{IsAccess, IsBody, accesses, iters_below, iters_below_step}
use Rattle.ch_timed.specs.Conflict.{reads, reads_step}
use Rattle.ch_timed.specs.Members.{Each, In}

-- what is known of a nest

pub nest_arrays : (nest : LoopNest) → IsTrue (is_nest nest) → IsTrue (arrays_fit nest.arrays)
nest_arrays nest h =
    (and_parts (arrays_fit nest.arrays) (all_conditions_fit nest.items most_conditions)
    (and_parts (arrays_fit nest.arrays && all_conditions_fit nest.items most_conditions) (is_some (all_numbered nest.items 0) && items_fit nest.arrays nest.items []) h).0).0

pub nest_numbered : (nest : LoopNest) → IsTrue (is_nest nest) → IsTrue (is_some (all_numbered nest.items 0))
nest_numbered nest h =
    (and_parts (is_some (all_numbered nest.items 0)) (items_fit nest.arrays nest.items [])
    (and_parts (arrays_fit nest.arrays && all_conditions_fit nest.items most_conditions) (is_some (all_numbered nest.items 0) && items_fit nest.arrays nest.items []) h).1).0

pub nest_fits : (nest : LoopNest) → IsTrue (is_nest nest) → IsTrue (items_fit nest.arrays nest.items [])
nest_fits nest h =
    (and_parts (is_some (all_numbered nest.items 0)) (items_fit nest.arrays nest.items [])
    (and_parts (arrays_fit nest.arrays && all_conditions_fit nest.items most_conditions) (is_some (all_numbered nest.items 0) && items_fit nest.arrays nest.items []) h).1).1

pub all_from_each : {X : Type 0} (P : X → Type 0) (xs : List X) → Each P xs → All P xs
all_from_each P [] h = All-nil P
all_from_each P (x ∷ xs) h = All-cons P x xs h.0 (all_from_each P xs h.1)

pub each_in : {X : Type 0} (P : X → Type 0) (xs : List X) (x : X) → Each P xs → In x xs → P x
each_in P [] x h i = absurd i
each_in P (y ∷ ys) x h (inl k) = subst P k h.0
each_in P (y ∷ ys) x h (inr i) = each_in P ys x h.1 i

pub each_append : {X : Type 0} (P : X → Type 0) (xs ys : List X) → Each P xs → Each P ys → Each P (xs ++ ys)
each_append P [] ys h g = g
each_append P (x ∷ xs) ys h g = (h.0, each_append P xs ys h.1 g)

pub each_of : {X : Type 0} (P Q : X → Type 0) (xs : List X) → ((x : X) → P x → Q x) → Each P xs → Each Q xs
each_of P Q [] f h = tt
each_of P Q (x ∷ xs) f h = (f x h.0, each_of P Q xs f h.1)

-- right sides

module _ (arrays : List ArrayDecl) (n : ℕ) where
  abbrev pub Fits : Access → Type 0
  Fits a = IsTrue (access_fits arrays n a)

  record Parts (fine small : Bool) (rs : List Access) : Type 0 where
    below : fine ≡ true → small ≡ true
    reads : fine ≡ true → Each Fits rs

  abbrev Fine : Expr → Type 0
  Fine e = Parts (parts_fit arrays n e) (iters_below n e) (reads e)

  abbrev Known : Type 0
  Known = (e : Expr) × Fine e

  abbrev bare : Known → Expr
  bare k = k.0

  both : (f g a b : Bool) (xs ys : List Access) → Parts f a xs → Parts g b ys → Parts (f && g) (a && b) (xs ++ ys)
  both f g a b xs ys p q = record {
    below = λ h. let r = and_parts f g h in let x = p.below r.0 in let y = q.below r.1 in rw (x, y) refl;
    reads = λ h. let r = and_parts f g h in each_append Fits xs ys (p.reads r.0) (q.reads r.1);
  }

  layer : (y : Expr-F Known)
      → Parts (parts_fit_step arrays n (map-Expr Expr Bool (parts_fit arrays n) (map-Expr Known Expr bare y)))
      (iters_below_step n (map-Expr Expr Bool (iters_below n) (map-Expr Known Expr bare y)))
      (reads_step (map-Expr Expr (List Access) reads (map-Expr Known Expr bare y)))
  layer (Expr-F.Number m) = record { below = λ h. refl; reads = λ h. tt }
  layer (Expr-F.Iter k) = record { below = λ h. h; reads = λ h. tt }
  layer (Expr-F.Read a) = record { below = λ h. refl; reads = λ h. (h, tt) }
  layer (Expr-F.Neg x) = x.1
  layer (Expr-F.Add x y) = both _ _ _ _ _ _ x.1 y.1
  layer (Expr-F.Sub x y) = both _ _ _ _ _ _ x.1 y.1
  layer (Expr-F.Mul x y) = both _ _ _ _ _ _ x.1 y.1

  all_folds : (f g a b : Bool) (xs ys : List Access) → f ≡ g → a ≡ b → xs ≡ ys → Parts g b ys → Parts f a xs
  all_folds f g a b xs ys p q r h = subst (λ t. Parts t a xs) (sym p) (subst (λ t. Parts g t xs) (sym q) (subst (λ t. Parts g b t) (sym r) h))

  right_parts : (e : Expr) → Fine e
  right_parts = ind-Expr Fine (λ x y is.
      all_folds _ _ _ _ _ _ (fold-roll-Expr Bool (parts_fit_step arrays n) x) (fold-roll-Expr Bool (iters_below_step n) x) (fold-roll-Expr (List Access) reads_step x)
      (subst (λ z. Parts (parts_fit_step arrays n (map-Expr Expr Bool (parts_fit arrays n) z)) (iters_below_step n (map-Expr Expr Bool (iters_below n) z))
      (reads_step (map-Expr Expr (List Access) reads z))) is (layer y)))

  pub body_accesses : (b : Body) → IsTrue (body_fits arrays n b) → Each Fits (accesses b)
  body_accesses b h =
      let p = and_parts (access_fits arrays n b.write) (expr_fits arrays n b.right) h in
      let q = and_parts (parts_fit arrays n b.right) _ p.1 in
      each_append Fits (reads b.right) (b.write ∷ []) ((right_parts b.right).reads q.0) (p.0, tt)

  pub body_iters : (b : Body) → IsTrue (body_fits arrays n b) → IsTrue (iters_below n b.right)
  body_iters b h =
      let p = and_parts (access_fits arrays n b.write) (expr_fits arrays n b.right) h in
      let q = and_parts (parts_fit arrays n b.right) _ p.1 in
      (right_parts b.right).below q.0

-- dimensions

abbrev dimensions : List ArrayDecl → ℕ → ℕ
dimensions arrays k = option_map_or (λ d. length d.extents) (slice_get arrays k) 0

record KnownArray (arrays : List ArrayDecl) (k n : ℕ) : Type 0 where
  there : k < length arrays
  same : n ≡ dimensions arrays k
  some : 1 ≤ n
  few : n ≤ most_dimensions

array_known : (arrays : List ArrayDecl) (k n : ℕ) → IsTrue (list_all is_array arrays) → IsTrue (has_dimensions arrays k n) → KnownArray arrays k n
array_known [] k n all h = absurd cc
array_known (d ∷ ds) zero n all h =
    let p = and_parts (is_array d) (list_all is_array ds) all in
    let q = and_parts (nat_le 1 (length d.extents) && nat_le (length d.extents) most_dimensions) (list_all (nat_le 1) d.extents) p.0 in
    let r = and_parts (nat_le 1 (length d.extents)) (nat_le (length d.extents) most_dimensions) q.0 in
    let e : length d.extents ≡ n = eqb-true (length d.extents) n h in
    let some : 1 ≤ length d.extents = leb-true 1 (length d.extents) r.0 in
    let few : length d.extents ≤ most_dimensions = leb-true (length d.extents) most_dimensions r.1 in
    record { there = omega arith; same = sym e; some = omega arith; few = omega arith }
array_known (d ∷ ds) (suc k) n all h =
    let p = and_parts (is_array d) (list_all is_array ds) all in
    let r = array_known ds k n p.1 h in
    let t = r.there in
    record { there = omega arith; same = r.same; some = r.some; few = r.few }

access_known : (arrays : List ArrayDecl) (n : ℕ) (a : Access) → IsTrue (list_all is_array arrays) → IsTrue (access_fits arrays n a) → KnownArray arrays a.array (length a.subs)
access_known arrays n a all h = array_known arrays a.array (length a.subs) all (and_parts (has_dimensions arrays a.array (length a.subs)) (list_all (sub_fits n) a.subs) h).0

-- accesses of one array have equally many subscripts
pub same_dimensions : (arrays : List ArrayDecl) (m n : ℕ) (a b : Access) → IsTrue (list_all is_array arrays) → IsTrue (access_fits arrays m a) → IsTrue (access_fits arrays n b)
    → a.array ≡ b.array → length a.subs ≡ length b.subs
same_dimensions arrays m n a b all f g e =
    (access_known arrays m a all f).same ∙ ap (dimensions arrays) e ∙ sym (access_known arrays n b all g).same

subs_plain : (n : ℕ) (ss : List Sub) → IsTrue (list_all (sub_fits n) ss) → All (λ s. length s.form.coefs ≡ n) ss × All (λ s. s.modulus ≡ 0) ss
subs_plain n [] h = (All-nil _, All-nil _)
subs_plain n (s ∷ ss) h =
    let p = and_parts (sub_fits n s) (list_all (sub_fits n) ss) h in
    let q = and_parts (form_fits n s.form) (nat_eq s.modulus 0) p.0 in
    let r = and_parts (coefs_fit n s.form) (constant_fits s.form) q.0 in
    let l = eqb-true (length s.form.coefs) n (and_parts (nat_eq (length s.form.coefs) n) _ r.0).0 in
    let m = eqb-true s.modulus 0 q.1 in
    let more = subs_plain n ss p.1 in
    (All-cons (λ s. length s.form.coefs ≡ n) s ss l more.0, All-cons (λ s. s.modulus ≡ 0) s ss m more.1)

pub is_access : (arrays : List ArrayDecl) (n : ℕ) (a : Access) → IsTrue (list_all is_array arrays) → IsTrue (access_fits arrays n a) → IsAccess (length arrays) 0 n a
is_access arrays n a all h =
    let k = access_known arrays n a all h in
    let t = k.there in
    let f = k.few in
    let p = subs_plain n a.subs (and_parts (has_dimensions arrays a.array (length a.subs)) (list_all (sub_fits n) a.subs) h).1 in
    record { array = omega arith; some = k.some; few = omega arith; forms = p.0; plain = λ d. p.1 }

pub is_body : (arrays : List ArrayDecl) (n : ℕ) (b : Body) → IsTrue (list_all is_array arrays) → IsTrue (body_fits arrays n b) → IsBody (length arrays) 0 n b
is_body arrays n b all h = record {
  iterators = body_iters arrays n b h;
  accesses = all_from_each (IsAccess (length arrays) 0 n) (accesses b)
      (each_of (Fits arrays n) (IsAccess (length arrays) 0 n) (accesses b) (λ a f. is_access arrays n a all f) (body_accesses arrays n b h));
}

-- how many arrays there are

cells_some : (es : List ℕ) → IsTrue (list_all (nat_le 1) es) → 1 ≤ cells_in es
cells_some [] h = omega arith
cells_some (e ∷ es) h =
    let p = and_parts (nat_le 1 e) (list_all (nat_le 1) es) h in
    let a : 1 ≤ e = leb-true 1 e p.0 in
    let b = cells_some es p.1 in
    product_some e (cells_in es) a b
  where
    product_some : (a b : ℕ) → 1 ≤ a → 1 ≤ b → 1 ≤ a * b
    product_some a b l m = grind arith

arrays_few : (arrays : List ArrayDecl) → IsTrue (list_all is_array arrays) → length arrays ≤ total (extents_of arrays)
arrays_few [] h = omega arith
arrays_few (d ∷ ds) h =
    let p = and_parts (is_array d) (list_all is_array ds) h in
    let q = and_parts (nat_le 1 (length d.extents) && nat_le (length d.extents) most_dimensions) (list_all (nat_le 1) d.extents) p.0 in
    let a = cells_some d.extents q.1 in
    let b = arrays_few ds p.1 in
    omega arith

pub few_arrays : (arrays : List ArrayDecl) → IsTrue (arrays_fit arrays) → length arrays ≤ most_cells
few_arrays arrays h =
    let p = and_parts (list_all is_array arrays) (nat_le (total (extents_of arrays)) most_cells) h in
    let a = arrays_few arrays p.0 in
    let b : total (extents_of arrays) ≤ most_cells = leb-true (total (extents_of arrays)) most_cells p.1 in
    omega arith
