-- What the calls of the commands tell, at arguments that are the numbers of a recipe's command.
use Rattle.std.proofs.Common.{◌≡◌, refl, sym, ◌∙◌, subst, arith, ℕ, ◌+◌, ◌*◌, ℤ, List, [], ◌∷◌, ◌++◌, length, Option, Some, None, Result, Ok, Err}
use Rattle.std.specs.Prelude.{IfOk, IfSome}
use Rattle.ch_affine.specs.Form.{Form}
use Rattle.ch_copied.specs.Copied.{buffer_extents, datacopied}
use Rattle.ch_cut.specs.Cut.{peel_cause, peeled, split, split_cause}
use Rattle.ch_datacopy.specs.Causes.{copy_cause, not_there}
use Rattle.ch_fuse.specs.Distributed.{distribute_cause, distributed}
use Rattle.ch_fuse.specs.Fused.{fuse_cause, fused}
use Rattle.ch_moved.specs.Arguments.{natural}
use Rattle.ch_moved.specs.Causes.{Answers, first_of, no_level, no_piece}
use Rattle.ch_nest.specs.declared.cause.Shape.{Shape}
use Rattle.ch_order.specs.Legal.{AreAmong}
use Rattle.ch_permute.specs.Permuted.{permute_cause, permuted}
use Rattle.ch_permute.specs.Raised.{growth, shift_cause, shifted, skew_cause, skewed}
use Rattle.ch_script.specs.Values.{condition}
use Rattle.ch_script.specs.declared.recipe.Arg.{Arg}
use Rattle.ch_script.specs.declared.recipe.Command.{Command}
use Rattle.ch_script.specs.declared.recipe.Command.TheVariants.{Permute, Skew, Shift, Tile, Unroll, Split, Peel, Fuse, Distribute, Datacopy}
use Rattle.ch_script.specs.declared.recipe.Cond.{Cond}
use Rattle.ch_space.specs.Listed.{Listed}
use Rattle.ch_space.specs.declared.error.ShapeError.{ShapeError}
use Rattle.ch_tile.specs.Tiled.{tile_cause, tiled}
use Rattle.ch_timed.specs.declared.element.Element.{Element}
use Rattle.ch_unroll.specs.Unrolled.{unroll_cause, unrolled}
use Rattle.ch_variant.specs.Arguments.{Scope, array_of, number, numbers}
use Rattle.ch_variant.specs.Commands.{IsCopied, IsReordered, buffers, cause, changed, factor, next_buffer, with_buffer, with_copy}
use Rattle.ch_variant.specs.Meaning.{Keeps}

-- what each of the calls tells: its cause, its list, and what becomes of the weight
pub record Tells (p : Listed) (first : Option Shape) (list : List Element) (weight : ℕ) (r : Result Listed ShapeError) : Type 0 where
  pub cause : Answers r first
  pub list_is : IfOk r (λ (new : Listed). new.list ≡ list)
  pub kept : IfOk r (λ (new : Listed). AreAmong p.list new.list)
  pub no_others : IfOk r (λ (new : Listed). AreAmong new.list p.list)
  pub arrays : IfOk r (λ (new : Listed). new.arrays ≡ p.arrays)
  pub temps : IfOk r (λ (new : Listed). new.temps ≡ p.temps)
  pub weight_is : IfOk r (λ (new : Listed). new.weight ≡ weight)
  pub commands : IfOk r (λ (new : Listed). new.commands ≡ p.commands + 1)

same_parts : (new : Listed) (list : List Element) (arrays : ℕ) (temps : List (List ℕ)) (weight commands : ℕ)
    → new.list ≡ list → new.arrays ≡ arrays → new.temps ≡ temps → new.weight ≡ weight → new.commands ≡ commands
    → new ≡ record { list = list; arrays = arrays; temps = temps; weight = weight; commands = commands }
same_parts new list arrays temps weight commands l a t w k = rw (← l, ← a, ← t, ← w, ← k) refl

next_of : (r : Result Listed ShapeError) (p : Listed) (first : Option Shape) (list : List Element) (weight : ℕ) → Tells p first list weight r
    → IfOk r (λ new. new ≡ record { list = list; arrays = p.arrays; temps = p.temps; weight = weight; commands = p.commands + 1 })
next_of (Err e) p first list weight t = tt
next_of (Ok new) p first list weight t = same_parts new list p.arrays p.temps weight (p.commands + 1) t.list_is t.arrays t.temps t.weight_is t.commands

-- where that is what the command's definitions say
step_of : (here : Scope) (c : Command) (p : Listed) (r : Result Listed ShapeError) → buffers here c p ≡ p.temps → Tells p (cause here c p) (changed here c p) (p.weight * factor here c) r
    → IsReordered here c p r
step_of here c p r b t = record {
  first = t.cause;
  follows = subst (λ ts. IfOk r (λ (new : Listed). new ≡ record { list = changed here c p; arrays = p.arrays; temps = ts; weight = p.weight * factor here c; commands = p.commands + 1 }))
      (sym b) (next_of r p (cause here c p) (changed here c p) (p.weight * factor here c) t);
  kept = t.kept;
  no_others = t.no_others;
}

once : (n : ℕ) → n ≡ n * 1
once n = omega arith

pub permutes : (here : Scope) (s : Arg) (order : List Arg) (p : Listed) (r : Result Listed ShapeError) (n : ℤ) (ns : List ℤ)
    → n ≡ number here.values s → ns ≡ numbers here.values order
    → Tells p (permute_cause p.list n ns) (permuted p.list n ns) p.weight r → IsReordered here (Permute s order) p r
permutes here s order p r n ns e f t =
    let T : ℤ → List ℤ → ℕ → Type 0 = λ x xs w. Tells p (permute_cause p.list x xs) (permuted p.list x xs) w r in
    step_of here (Permute s order) p r refl
    (subst (λ w. T (number here.values s) (numbers here.values order) w) (once p.weight)
    (subst (λ xs. T (number here.values s) xs p.weight) f
    (subst (λ x. T x ns p.weight) e t)))

pub skews : (here : Scope) (ss : List Arg) (level : Arg) (amounts : List Arg) (p : Listed) (r : Result Listed ShapeError) (ns : List ℤ) (l : ℤ) (by : List ℤ)
    → ns ≡ numbers here.values ss → l ≡ number here.values level → by ≡ numbers here.values amounts
    → Tells p (skew_cause p.list p.weight ns l by) (skewed p.list ns l by) (p.weight * growth by) r → IsReordered here (Skew ss level amounts) p r
skews here ss level amounts p r ns l by e f g t =
    let T : List ℤ → ℤ → List ℤ → Type 0 = λ xs y ys. Tells p (skew_cause p.list p.weight xs y ys) (skewed p.list xs y ys) (p.weight * growth ys) r in
    step_of here (Skew ss level amounts) p r refl
    (subst (λ ys. T (numbers here.values ss) (number here.values level) ys) g
    (subst (λ y. T (numbers here.values ss) y by) f
    (subst (λ xs. T xs l by) e t)))

pub shifts : (here : Scope) (ss : List Arg) (level amount : Arg) (p : Listed) (r : Result Listed ShapeError) (ns : List ℤ) (l by : ℤ)
    → ns ≡ numbers here.values ss → l ≡ number here.values level → by ≡ number here.values amount
    → Tells p (shift_cause p.list ns l by) (shifted p.list ns l by) p.weight r → IsReordered here (Shift ss level amount) p r
shifts here ss level amount p r ns l by e f g t =
    let T : List ℤ → ℤ → ℤ → ℕ → Type 0 = λ xs y z w. Tells p (shift_cause p.list xs y z) (shifted p.list xs y z) w r in
    step_of here (Shift ss level amount) p r refl
    (subst (λ w. T (numbers here.values ss) (number here.values level) (number here.values amount) w) (once p.weight)
    (subst (λ z. T (numbers here.values ss) (number here.values level) z p.weight) g
    (subst (λ y. T (numbers here.values ss) y by p.weight) f
    (subst (λ xs. T xs l by p.weight) e t))))

pub tiles : (here : Scope) (s level size outer : Arg) (p : Listed) (r : Result Listed ShapeError) (n l t o : ℤ)
    → n ≡ number here.values s → l ≡ number here.values level → t ≡ number here.values size → o ≡ number here.values outer
    → Tells p (tile_cause p.list n l t o) (tiled p.list n l t o) p.weight r → IsReordered here (Tile s level size outer) p r
tiles here s level size outer p r n l t o e f g h told =
    let T : ℤ → ℤ → ℤ → ℤ → ℕ → Type 0 = λ x y z v w. Tells p (tile_cause p.list x y z v) (tiled p.list x y z v) w r in
    step_of here (Tile s level size outer) p r refl
    (subst (λ w. T (number here.values s) (number here.values level) (number here.values size) (number here.values outer) w) (once p.weight)
    (subst (λ v. T (number here.values s) (number here.values level) (number here.values size) v p.weight) h
    (subst (λ z. T (number here.values s) (number here.values level) z o p.weight) g
    (subst (λ y. T (number here.values s) y t o p.weight) f
    (subst (λ x. T x l t o p.weight) e told)))))

pub unrolls : (here : Scope) (s level amount : Arg) (p : Listed) (r : Result Listed ShapeError) (n l u : ℤ)
    → n ≡ number here.values s → l ≡ number here.values level → u ≡ number here.values amount
    → Tells p (unroll_cause p.list p.weight n l u) (unrolled p.list n l u) (p.weight * natural u) r → IsReordered here (Unroll s level amount) p r
unrolls here s level amount p r n l u e f g t =
    let T : ℤ → ℤ → ℤ → Type 0 = λ x y z. Tells p (unroll_cause p.list p.weight x y z) (unrolled p.list x y z) (p.weight * natural z) r in
    step_of here (Unroll s level amount) p r refl
    (subst (λ z. T (number here.values s) (number here.values level) z) g
    (subst (λ y. T (number here.values s) y u) f
    (subst (λ x. T x l u) e t)))

pub splits : (here : Scope) (s level : Arg) (c : Cond) (p : Listed) (r : Result Listed ShapeError) (n l : ℤ) (f : Form)
    → n ≡ number here.values s → l ≡ number here.values level → f ≡ condition here.values c
    → Tells p (split_cause p.list n l f) (split p.list n l f) p.weight r → IsReordered here (Split s level c) p r
splits here s level c p r n l f d e g t =
    let T : ℤ → ℤ → Form → ℕ → Type 0 = λ x y z w. Tells p (split_cause p.list x y z) (split p.list x y z) w r in
    step_of here (Split s level c) p r refl
    (subst (λ w. T (number here.values s) (number here.values level) (condition here.values c) w) (once p.weight)
    (subst (λ z. T (number here.values s) (number here.values level) z p.weight) g
    (subst (λ y. T (number here.values s) y f p.weight) e
    (subst (λ x. T x l f p.weight) d t))))

pub peels : (here : Scope) (s level count : Arg) (p : Listed) (r : Result Listed ShapeError) (n l k : ℤ)
    → n ≡ number here.values s → l ≡ number here.values level → k ≡ number here.values count
    → Tells p (peel_cause p.list n l k) (peeled p.list n l k) p.weight r → IsReordered here (Peel s level count) p r
peels here s level count p r n l k e f g t =
    let T : ℤ → ℤ → ℤ → ℕ → Type 0 = λ x y z w. Tells p (peel_cause p.list x y z) (peeled p.list x y z) w r in
    step_of here (Peel s level count) p r refl
    (subst (λ w. T (number here.values s) (number here.values level) (number here.values count) w) (once p.weight)
    (subst (λ z. T (number here.values s) (number here.values level) z p.weight) g
    (subst (λ y. T (number here.values s) y k p.weight) f
    (subst (λ x. T x l k p.weight) e t))))

pub fuses : (here : Scope) (ss : List Arg) (level : Arg) (p : Listed) (r : Result Listed ShapeError) (ns : List ℤ) (l : ℤ)
    → ns ≡ numbers here.values ss → l ≡ number here.values level
    → Tells p (fuse_cause p.list ns l) (fused p.list ns l) p.weight r → IsReordered here (Fuse ss level) p r
fuses here ss level p r ns l e f t =
    let T : List ℤ → ℤ → ℕ → Type 0 = λ xs y w. Tells p (fuse_cause p.list xs y) (fused p.list xs y) w r in
    step_of here (Fuse ss level) p r refl
    (subst (λ w. T (numbers here.values ss) (number here.values level) w) (once p.weight)
    (subst (λ y. T (numbers here.values ss) y p.weight) f
    (subst (λ xs. T xs l p.weight) e t)))

pub distributes : (here : Scope) (ss : List Arg) (level : Arg) (p : Listed) (r : Result Listed ShapeError) (ns : List ℤ) (l : ℤ)
    → ns ≡ numbers here.values ss → l ≡ number here.values level
    → Tells p (distribute_cause p.list ns l) (distributed p.list ns l) p.weight r → IsReordered here (Distribute ss level) p r
distributes here ss level p r ns l e f t =
    let T : List ℤ → ℤ → ℕ → Type 0 = λ xs y w. Tells p (distribute_cause p.list xs y) (distributed p.list xs y) w r in
    step_of here (Distribute ss level) p r refl
    (subst (λ w. T (numbers here.values ss) (number here.values level) w) (once p.weight)
    (subst (λ y. T (numbers here.values ss) y p.weight) f
    (subst (λ xs. T xs l p.weight) e t)))

-- ---- a copy

-- what its call tells
pub record TellsCopy (p : Listed) (n l : ℤ) (array : Option ℕ) (r : Result Listed ShapeError) : Type 0 where
  pub cause : Answers r (copy_cause p.list p.arrays (length p.temps) n l array)
  pub list_is : IfOk r (λ (new : Listed). IfSome array (λ k. new.list ≡ datacopied p.list (natural n) (natural l) k (next_buffer p)))
  pub temps_are : IfOk r (λ (new : Listed). IfSome array (λ k. new.temps ≡ p.temps ++ buffer_extents p.list (natural n) (natural l) k (next_buffer p) ∷ []))
  pub arrays : IfOk r (λ (new : Listed). new.arrays ≡ p.arrays)
  pub weight_is : IfOk r (λ (new : Listed). new.weight ≡ p.weight)
  pub commands : IfOk r (λ (new : Listed). new.commands ≡ p.commands + 1)
  pub keeps : IfOk r (λ (new : Listed). Keeps p new)

-- an array that isn't declared is a cause
undeclared : (a b : Option Shape) → first_of (a ∷ b ∷ not_there ∷ []) ≡ None → ⊥
undeclared (Some x) b e = cc
undeclared None (Some x) e = cc
undeclared None None e = cc

copied_to : (p new : Listed) (n l : ℤ) (array : Option ℕ) → TellsCopy p n l array (Ok new)
    → new ≡ record { list = with_copy p (natural n) (natural l) array; arrays = p.arrays; temps = with_buffer p (natural n) (natural l) array; weight = p.weight * 1; commands = p.commands + 1 }
copied_to p new n l None t = absurd (undeclared (no_piece p.list (n ∷ [])) (no_level p.list (n ∷ []) l) t.cause)
copied_to p new n l (Some k) t =
    same_parts new (with_copy p (natural n) (natural l) (Some k)) p.arrays (with_buffer p (natural n) (natural l) (Some k)) (p.weight * 1) (p.commands + 1)
    t.list_is t.arrays t.temps_are (t.weight_is ∙ once p.weight) t.commands

copy_follows : (p : Listed) (n l : ℤ) (array : Option ℕ) (r : Result Listed ShapeError) → TellsCopy p n l array r
    → IfOk r (λ new. new ≡ record { list = with_copy p (natural n) (natural l) array; arrays = p.arrays; temps = with_buffer p (natural n) (natural l) array; weight = p.weight * 1; commands = p.commands + 1 })
copy_follows p n l array (Ok new) t = copied_to p new n l array t
copy_follows p n l array (Err e) t = tt

copy_is : (here : Scope) (s level : Arg) (name : List ℕ) (p : Listed) (r : Result Listed ShapeError)
    → TellsCopy p (number here.values s) (number here.values level) (array_of here.arrays name) r → IsCopied here (Datacopy s level name) p r
copy_is here s level name p r t = record {
  first = t.cause;
  follows = copy_follows p (number here.values s) (number here.values level) (array_of here.arrays name) r t;
  keeps = t.keeps;
}

pub copies_to : (here : Scope) (s level : Arg) (name : List ℕ) (p : Listed) (r : Result Listed ShapeError) (n l : ℤ) (array : Option ℕ)
    → n ≡ number here.values s → l ≡ number here.values level → array ≡ array_of here.arrays name → TellsCopy p n l array r → IsCopied here (Datacopy s level name) p r
copies_to here s level name p r n l array e f g t =
    copy_is here s level name p r
    (subst (λ a. TellsCopy p (number here.values s) (number here.values level) a r) g
    (subst (λ y. TellsCopy p (number here.values s) y array r) f
    (subst (λ x. TellsCopy p x l array r) e t)))

-- a command that is written out, as an arm of a match tells it
pub step_at : (here : Scope) (c d : Command) (p : Listed) (r : Result Listed ShapeError) → d ≡ c → IsReordered here c p r → IsReordered here d p r
step_at here c d p r e s = subst (λ x. IsReordered here x p r) (sym e) s
