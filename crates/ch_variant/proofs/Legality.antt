-- One command: when there is a next program, what it keeps, and the pair for which there is none.
use Rattle.std.proofs.Common.{◌≡◌, refl, sym, ap, ◌∙◌, subst, arith, ℕ, ◌+◌, ◌≤◌, Bool, true, false, if◌then◌else◌, List, [], ◌∷◌, ◌++◌, length, length-append, map, Option, Some, None, Ok, Err}
use Rattle.std.specs.Bool.{IsTrue}
use Rattle.std.proofs.lemmas.Bool.{and_parts}
use Rattle.ch_copied.specs.Copied.{buffer_extents}
use Rattle.ch_depends.specs.Depends.{pair_of}
use Rattle.ch_depends.specs.declared.answers.Pair.{Pair}
use Rattle.ch_moved.specs.Arguments.{natural}
use Rattle.ch_moved.specs.Causes.{Answers}
use Rattle.ch_nest.specs.declared.cause.Shape.{Shape}
use Rattle.ch_order.specs.Agreement.{KeepsArrays}
use Rattle.ch_order.specs.Legal.{AreAmong, IsLegalBy}
use Rattle.ch_order.proofs.Agreements.{keeps_legal, keeps_same}
use Rattle.ch_reduce.proofs.Relaxed.{relaxed_end, relaxed_inside}
use Rattle.ch_script.specs.declared.recipe.Command.{Command}
use Rattle.ch_script.specs.declared.recipe.Command.TheVariants.{Permute, Skew, Shift, Tile, Unroll, Split, Peel, Fuse, Distribute, Datacopy, Accumulate}
use Rattle.ch_script.specs.declared.refusal.Refusal.TheVariants.{Illegal}
use Rattle.ch_script.specs.declared.refusal.Refusal.TheVariants as refusal
use Rattle.ch_space.specs.Listed.{Listed}
use Rattle.ch_space.specs.declared.error.ShapeError.{ShapeError}
use Rattle.ch_space.specs.declared.error.ShapeError.TheVariants as shape
use Rattle.ch_timed.specs.Order as order
use Rattle.ch_timed.specs.Timed.{Step, is_well_formed, same_step, step}
use Rattle.ch_timed.specs.declared.element.Cell.{Cell}
use Rattle.ch_timed.specs.declared.element.Element.{Element}
use Rattle.ch_variant.specs.Applied.{IsAnswer, decided, forbidden_at, one, reversal, turned}
use Rattle.ch_variant.specs.Arguments.{Scope, array_of, number}
use Rattle.ch_variant.specs.Commands.{IsBehind, IsCopied, IsReordered, buffers, cause, changed, copies, frees_sums, next, next_buffer, with_buffer}
use Rattle.ch_variant.specs.LeastPairs.{IsLeastTurned, must_keep}
use Rattle.ch_variant.specs.Meaning.{Keeps}
use Rattle.ch_variant.specs.Refusals.{IsLeastPair, StepIsLeast}
use Rattle.ch_variant.proofs.LeastTurned.{found}

-- what is known of a command's call that gave a program
pub record Given (here : Scope) (c : Command) (p new : Listed) : Type 0 where
  pub orders : copies c ≡ false
  pub moves : frees_sums c ≡ false
  pub allowed : cause here c p ≡ None
  pub follows : new ≡ next here c p
  pub kept : AreAmong p.list new.list
  pub no_others : AreAmong new.list p.list
  pub old_formed : IsTrue (is_well_formed p.list)
  pub new_formed : IsTrue (is_well_formed new.list)

pub given_of : (here : Scope) (c : Command) (p new : Listed) → copies c ≡ false → frees_sums c ≡ false → IsReordered here c p (Ok new) → IsTrue (is_well_formed p.list) → IsTrue (is_well_formed new.list)
    → Given here c p new
given_of here c p new o m s f g = record {
  orders = o;
  moves = m;
  allowed = s.first;
  follows = s.follows;
  kept = s.kept;
  no_others = s.no_others;
  old_formed = f;
  new_formed = g;
}

list_is : (here : Scope) (c : Command) (p new : Listed) → Given here c p new → new.list ≡ changed here c p
list_is here c p new g = ap (λ (n : Listed). n.list) g.follows

none_is : (o : Option (order.Pair Step Cell)) → pair_of o ≡ None → o ≡ None
none_is None e = refl
none_is (Some q) e = cc

-- a command is judged by its cause, its pair and its program
one_by : (here : Scope) (sums : Bool) (n : ℕ) (c : Command) (p : Listed) → frees_sums c ≡ false
    → one here sums n c p ≡ decided n (cause here c p) (reversal here sums c p) (next here c p)
one_by here sums n c p m = ap (λ t. if t then Ok p else decided n (cause here c p) (reversal here sums c p) (next here c p)) m

-- the pair of one that gives another order, and of a copy
reversal_is : (here : Scope) (sums : Bool) (c : Command) (p : Listed) → copies c ≡ false → reversal here sums c p ≡ turned sums p.list (changed here c p)
reversal_is here sums c p o = ap (λ t. if t then None else turned sums p.list (changed here c p)) o

one_is : (here : Scope) (sums : Bool) (n : ℕ) (c : Command) (p : Listed) → copies c ≡ false → frees_sums c ≡ false
    → one here sums n c p ≡ decided n (cause here c p) (turned sums p.list (changed here c p)) (next here c p)
one_is here sums n c p o m = one_by here sums n c p m ∙ ap (λ r. decided n (cause here c p) r (next here c p)) (reversal_is here sums c p o)

-- the pair is that of the steps that must keep their order
turned_is : (sums : Bool) (old new : List Element) → turned sums old new ≡ order.reversed same_step (must_keep sums) (map step old) (map step new)
turned_is false old new = refl
turned_is true old new = refl

-- ---- buffers

-- a command that gives another order has no buffer of its own
same_buffers : (here : Scope) (c : Command) (p : Listed) → copies c ≡ false → buffers here c p ≡ p.temps
same_buffers here (Permute s order) p e = refl
same_buffers here (Skew ss level amounts) p e = refl
same_buffers here (Shift ss level amount) p e = refl
same_buffers here (Tile s level size outer) p e = refl
same_buffers here (Unroll s level amount) p e = refl
same_buffers here (Split s level d) p e = refl
same_buffers here (Peel s level count) p e = refl
same_buffers here (Fuse ss level) p e = refl
same_buffers here (Distribute ss level) p e = refl
same_buffers here (Datacopy s level array) p e = cc
same_buffers here Accumulate p e = refl

one_longer : (p : Listed) (s level : ℕ) (array : Option ℕ) → length (with_buffer p s level array) ≤ length p.temps + 1
one_longer p s level None = omega arith
one_longer p s level (Some array) =
    let l : length (p.temps ++ buffer_extents p.list s level array (next_buffer p) ∷ []) ≡ length p.temps + 1 = length-append p.temps (buffer_extents p.list s level array (next_buffer p) ∷ []) in
    omega (arith, l)

buffers_longer : (here : Scope) (c : Command) (p : Listed) → length (buffers here c p) ≤ length p.temps + 1
buffers_longer here (Permute s order) p = omega arith
buffers_longer here (Skew ss level amounts) p = omega arith
buffers_longer here (Shift ss level amount) p = omega arith
buffers_longer here (Tile s level size outer) p = omega arith
buffers_longer here (Unroll s level amount) p = omega arith
buffers_longer here (Split s level d) p = omega arith
buffers_longer here (Peel s level count) p = omega arith
buffers_longer here (Fuse ss level) p = omega arith
buffers_longer here (Distribute ss level) p = omega arith
buffers_longer here (Datacopy s level array) p =
    one_longer p (natural (number here.values s)) (natural (number here.values level)) (array_of here.arrays array)
buffers_longer here Accumulate p = omega arith

pub behind_of : (here : Scope) (c : Command) (p new : Listed) → new ≡ next here c p → IsBehind p new
behind_of here c p new e = record {
  arrays = ap (λ (n : Listed). n.arrays) e;
  buffers = subst (λ (n : Listed). length n.temps ≤ length p.temps + 1) (sym e) (buffers_longer here c p);
  commands = ap (λ (n : Listed). n.commands) e;
}

-- ---- a copy

pub copy_goes_on : (here : Scope) (sums : Bool) (n : ℕ) (c : Command) (p new : Listed) → copies c ≡ true → frees_sums c ≡ false → IsCopied here c p (Ok new)
    → one here sums n c p ≡ Ok new
copy_goes_on here sums n c p new o m s =
    one_by here sums n c p m
    ∙ ap (λ t. decided n (cause here c p) (if t then None else turned sums p.list (changed here c p)) (next here c p)) o
    ∙ ap (λ x. decided n x None (next here c p)) s.first
    ∙ ap Ok (sym s.follows)

-- ---- no pair is reversed

pub step_goes_on : (here : Scope) (sums : Bool) (n : ℕ) (c : Command) (p new : Listed) → Given here c p new → pair_of (turned sums p.list new.list) ≡ None
    → one here sums n c p ≡ Ok new
step_goes_on here sums n c p new g e =
    let none : turned sums p.list (changed here c p) ≡ None =
    ap (turned sums p.list) (sym (list_is here c p new g)) ∙ none_is (turned sums p.list new.list) e in
    one_is here sums n c p g.orders g.moves
    ∙ ap (λ x. decided n x (turned sums p.list (changed here c p)) (next here c p)) g.allowed
    ∙ ap (λ x. decided n None x (next here c p)) none
    ∙ ap Ok (sym g.follows)

keeps_by : (sums : Bool) (arrays buffers : List (List ℕ)) (old new : List Element) → IsLegalBy (must_keep sums) old new → KeepsArrays arrays old buffers new buffers
keeps_by false arrays buffers old new l = keeps_legal arrays buffers old new l
keeps_by true arrays buffers old new l = keeps_same arrays buffers old new (relaxed_end old new l) (relaxed_inside old new l)

pub step_keeps : (here : Scope) (sums : Bool) (c : Command) (p new : Listed) → Given here c p new → pair_of (turned sums p.list new.list) ≡ None → Keeps p new
step_keeps here sums c p new g e arrays few =
    let legal : IsLegalBy (must_keep sums) p.list new.list = record {
      old_once = (and_parts _ _ g.old_formed).0;
      new_once = (and_parts _ _ g.new_formed).0;
      kept = g.kept;
      no_others = g.no_others;
      in_turn = sym (turned_is sums p.list new.list) ∙ none_is (turned sums p.list new.list) e;
    } in
    let same : p.temps ≡ new.temps = sym (ap (λ (n : Listed). n.temps) g.follows ∙ same_buffers here c p g.orders) in
    subst (λ ts. KeepsArrays arrays p.list p.temps new.list ts) same (keeps_by sums arrays p.temps p.list new.list legal)

-- ---- the shape forbids the command

step_is_forbidden : (here : Scope) (sums : Bool) (n : ℕ) (c : Command) (p : Listed) (forbidden : Shape) → frees_sums c ≡ false
    → cause here c p ≡ Some forbidden → one here sums n c p ≡ Err (refusal.Shape n forbidden)
step_is_forbidden here sums n c p forbidden m e =
    one_by here sums n c p m ∙ ap (λ x. decided n x (reversal here sums c p) (next here c p)) e

pub step_refused : (here : Scope) (sums : Bool) (n : ℕ) (c : Command) (p : Listed) (e : ShapeError) → frees_sums c ≡ false → Answers {X = Listed} (Err e) (cause here c p)
    → IsAnswer {X = Listed} (Err (forbidden_at n e)) (one here sums n c p)
step_refused here sums n c p (shape.Shape forbidden) m s = step_is_forbidden here sums n c p forbidden m s
step_refused here sums n c p shape.Memory m s = tt

pub names_no_pair : (here : Scope) (sums : Bool) (n : ℕ) (c : Command) (p : Listed) (e : ShapeError) → StepIsLeast here sums n c p (forbidden_at n e)
names_no_pair here sums n c p (shape.Shape forbidden) = tt
names_no_pair here sums n c p shape.Memory = tt

-- ---- a pair is reversed

-- the pair of steps behind the one of identities
some_is : (o : Option (order.Pair Step Cell)) (q : Pair) → pair_of o ≡ Some q
    → (r : order.Pair Step Cell) × (o ≡ Some r) × (q ≡ record { first = r.first.identity; second = r.second.identity; cell = r.cell })
some_is None q e = cc
some_is (Some r) q e = (r, refl, sym (some_same _ _ e))
  where
    some_same : (a b : Pair) → Some a ≡ Some b → a ≡ b
    some_same a b e = cc

pub step_reverses : (here : Scope) (sums : Bool) (n : ℕ) (c : Command) (p new : Listed) (q : Pair) → Given here c p new → pair_of (turned sums p.list new.list) ≡ Some q
    → one here sums n c p ≡ Err (Illegal n q.first q.second q.cell)
step_reverses here sums n c p new q g e =
    let r = some_is (turned sums p.list new.list) q e in
    let some : turned sums p.list (changed here c p) ≡ Some r.0 = ap (turned sums p.list) (sym (list_is here c p new g)) ∙ r.1 in
    one_is here sums n c p g.orders g.moves
    ∙ ap (λ x. decided n x (turned sums p.list (changed here c p)) (next here c p)) g.allowed
    ∙ ap (λ x. decided n None x (next here c p)) some
    ∙ ap (λ (x : Pair). Err (Illegal n x.first x.second x.cell)) (sym r.2)

pub pair_is_least : (here : Scope) (sums : Bool) (c : Command) (p new : Listed) (q : Pair) → Given here c p new → pair_of (turned sums p.list new.list) ≡ Some q
    → IsLeastPair here sums c p q.first q.second q.cell
pair_is_least here sums c p new q g e =
    let r = some_is (turned sums p.list new.list) q e in
    let f = found (must_keep sums) p.list new.list g.old_formed g.new_formed g.kept r.0 (sym (turned_is sums p.list new.list) ∙ r.1) in
    record {
      orders = g.orders;
      shape = g.allowed;
      before = f.0;
      behind = f.1;
      first_is = ap (λ (x : Pair). x.first) r.2 ∙ ap (λ (x : order.Pair Step Cell). x.first.identity) f.2.1;
      second_is = ap (λ (x : Pair). x.second) r.2 ∙ ap (λ (x : order.Pair Step Cell). x.second.identity) f.2.1;
      least = subst (IsLeastTurned (must_keep sums) p.list (changed here c p) f.0 f.1) (sym (ap (λ (x : Pair). x.cell) r.2))
          (subst (λ l. IsLeastTurned (must_keep sums) p.list l f.0 f.1 r.0.cell) (list_is here c p new g) f.2.0);
    }
