-- The commands of a recipe one after another: what the first so many make of a program, and what one more does.
use Rattle.std.proofs.Common.{◌≡◌, refl, sym, subst, ap, ◌∙◌, arith, Bool, true, false, ◌||◌, if◌then◌else◌, ℕ, suc, ◌+◌, ◌<◌, ◌≤◌, ℤ, Result, Ok, Err, List, [], ◌∷◌, ◌++◌, length, take, drop, get_or}
use Rattle.std.specs.List.{list_any}
use Rattle.std.specs.Result.{IsErrAnd}
use Rattle.std.proofs.Math.Bool.{or-true}
use Rattle.std.proofs.Math.Seq.{drop-cons}
use Rattle.std.proofs.lemmas.List.Folds.{list_any-append}
use Rattle.std.proofs.lemmas.List.{length-take-le, take-append-drop, take_all, take_more}
use Rattle.ch_nest.specs.LoopNest.{LoopNest}
use Rattle.ch_script.specs.declared.recipe.Command.{Command}
use Rattle.ch_script.specs.declared.refusal.Refusal.{Refusal}
use Rattle.ch_script.specs.declared.refusal.Refusal.TheVariants.{Illegal, Shape}
use Rattle.ch_space.specs.Listed.{Listed}
use Rattle.ch_variant.specs.Applied.{IsAnswer, and_then, decided, from_step, one, plain, reversal}
use Rattle.ch_variant.specs.Arguments.{Scope, scope}
use Rattle.ch_variant.specs.Commands.{cause, frees_sums, next}
use Rattle.ch_variant.specs.Refusals.{IsLeastPair, PairIsLeast, StepIsLeast}
use Rattle.ch_variant.specs.declared.error.ApplyError.{ApplyError}
use Rattle.ch_variant.specs.declared.error.ApplyError.TheVariants.{Refused, Memory}

then_same : (r : Result Listed Refusal) (f g h : Listed → Result Listed Refusal) → ((p : Listed) → f p ≡ and_then (g p) h)
    → and_then r f ≡ and_then (and_then r g) h
then_same (Ok p) f g h e = e p
then_same (Err refused) f g h e = refl

then_done : (r : Result Listed Refusal) (f : Listed → Result Listed Refusal) → ((p : Listed) → f p ≡ Ok p) → and_then r f ≡ r
then_done (Ok p) f e = e p
then_done (Err refused) f e = refl

-- commands behind others
or_step : (a b c : Bool) → ((a || b) || c) ≡ (a || (b || c))
or_step true b c = refl
or_step false b c = refl

or_none : (a : Bool) → (a || false) ≡ a
or_none true = refl
or_none false = refl

from_step-append : (here : Scope) (sums : Bool) (step : ℕ) (cs ds : List Command) (p : Listed)
    → from_step here sums step (cs ++ ds) p
    ≡ and_then (from_step here sums step cs p) (from_step here (sums || list_any frees_sums cs) (step + length cs) ds)
from_step-append here sums step [] ds p =
    let e : step ≡ step + 0 = omega arith in
    ap (λ n. from_step here sums n ds p) e ∙ ap (λ f. from_step here f (step + 0) ds p) (sym (or_none sums))
from_step-append here sums step (c ∷ cs) ds p =
    let e : step + 1 + length cs ≡ step + suc (length cs) = omega arith in
    let later : Bool = sums || frees_sums c in
    let last : Bool = sums || list_any frees_sums (c ∷ cs) in
    then_same (one here sums step c p) (from_step here later (step + 1) (cs ++ ds)) (from_step here later (step + 1) cs) (from_step here last (step + suc (length cs)) ds)
    (λ q. from_step-append here later (step + 1) cs ds q
    ∙ ap (λ n. and_then (from_step here later (step + 1) cs q) (from_step here (later || list_any frees_sums cs) n ds)) e
    ∙ ap (λ f. and_then (from_step here later (step + 1) cs q) (from_step here f (step + suc (length cs)) ds)) (or_step sums (frees_sums c) (list_any frees_sums cs)))

split_at : (cs : List Command) (k : ℕ) (c : Command) → k < length cs → c ≡ get_or cs k c → cs ≡ take k cs ++ c ∷ drop (suc k) cs
split_at cs k c l e =
    sym (take-append-drop k cs) ∙ ap (λ ds. take k cs ++ ds) (drop-cons cs k c l) ∙ ap (λ d. take k cs ++ d ∷ drop (suc k) cs) (sym e)

-- the first k commands lead to this program, and one of them lets sums be made in any order, or none does
pub record Reaches (here : Scope) (cs : List Command) (first : Listed) (k : ℕ) (sums : Bool) (p : Listed) : Type 0 where
  pub within : k ≤ length cs
  pub freed : sums ≡ list_any frees_sums (take k cs)
  pub is : from_step here false 1 (take k cs) first ≡ Ok p

pub reaches_first : (here : Scope) (cs : List Command) (p : Listed) → Reaches here cs p 0 false p
reaches_first here cs p = record { within = omega arith; freed = refl; is = refl }

-- where they do, command k is the next one
next_is : (here : Scope) (cs : List Command) (first p : Listed) (k : ℕ) (sums : Bool) (c : Command) (ds : List Command) → Reaches here cs first k sums p
    → from_step here false 1 (take k cs ++ c ∷ ds) first ≡ and_then (one here sums (k + 1) c p) (from_step here (sums || frees_sums c) (k + 2) ds)
next_is here cs first p k sums c ds r =
    let n : length (take k cs) ≡ k = length-take-le k cs r.within in
    let e : 1 + length (take k cs) ≡ k + 1 = omega (arith, n) in
    let f : k + 1 + 1 ≡ k + 2 = omega arith in
    let flag : Bool = list_any frees_sums (take k cs) in
    from_step-append here false 1 (take k cs) (c ∷ ds) first
    ∙ ap (λ s. and_then s (from_step here flag (1 + length (take k cs)) (c ∷ ds))) r.is
    ∙ ap (λ m. from_step here flag m (c ∷ ds) p) e
    ∙ ap (λ t. from_step here t (k + 1) (c ∷ ds) p) (sym r.freed)
    ∙ ap (λ m. and_then (one here sums (k + 1) c p) (from_step here (sums || frees_sums c) m ds)) f

more_commands : (cs : List Command) (k : ℕ) (c : Command) → k < length cs → c ≡ get_or cs k c → take (k + 1) cs ≡ take k cs ++ c ∷ []
more_commands cs k c l e = take_more cs k c l ∙ ap (λ d. take k cs ++ d ∷ []) (sym e)

freed_more : (cs : List Command) (k : ℕ) (c : Command) → k < length cs → c ≡ get_or cs k c
    → list_any frees_sums (take (k + 1) cs) ≡ (list_any frees_sums (take k cs) || frees_sums c)
freed_more cs k c l e =
    ap (list_any frees_sums) (more_commands cs k c l e) ∙ list_any-append frees_sums (take k cs) (c ∷ [])
    ∙ ap (λ t. list_any frees_sums (take k cs) || t) (or_none (frees_sums c))

reaches_next : (here : Scope) (cs : List Command) (first p q : Listed) (k : ℕ) (sums : Bool) (c : Command) → Reaches here cs first k sums p
    → k < length cs → c ≡ get_or cs k c → one here sums (k + 1) c p ≡ Ok q → Reaches here cs first (k + 1) (sums || frees_sums c) q
reaches_next here cs first p q k sums c r l e o = record {
  within = omega arith;
  freed = ap (λ t. t || frees_sums c) r.freed ∙ sym (freed_more cs k c l e);
  is = ap (λ ds. from_step here false 1 ds first) (more_commands cs k c l e)
      ∙ next_is here cs first p k sums c [] r ∙ ap (λ s. and_then s (from_step here (sums || frees_sums c) (k + 2) [])) o;
}

-- behind a command that gives another order
pub reaches_more : (here : Scope) (cs : List Command) (first p q : Listed) (k : ℕ) (sums : Bool) (c : Command) → Reaches here cs first k sums p
    → k < length cs → c ≡ get_or cs k c → frees_sums c ≡ false → one here sums (k + 1) c p ≡ Ok q → Reaches here cs first (k + 1) sums q
reaches_more here cs first p q k sums c r l e m o =
    subst (λ t. Reaches here cs first (k + 1) t q) (ap (λ t. sums || t) m ∙ or_none sums) (reaches_next here cs first p q k sums c r l e o)

-- behind one that lets sums be made in any order
pub reaches_freed : (here : Scope) (cs : List Command) (first p : Listed) (k : ℕ) (sums : Bool) (c : Command) → Reaches here cs first k sums p
    → k < length cs → c ≡ get_or cs k c → frees_sums c ≡ true → Reaches here cs first (k + 1) true p
reaches_freed here cs first p k sums c r l e m =
    subst (λ t. Reaches here cs first (k + 1) t p) (ap (λ t. sums || t) m ∙ or-true sums)
    (reaches_next here cs first p p k sums c r l e (ap (λ t. if t then Ok p else judged) m))
  where
    judged : Result Listed Refusal
    judged = decided (k + 1) (cause here c p) (reversal here sums c p) (next here c p)

stops : (here : Scope) (cs : List Command) (first p : Listed) (k : ℕ) (sums : Bool) (c : Command) (refused : Refusal) → Reaches here cs first k sums p
    → k < length cs → c ≡ get_or cs k c → one here sums (k + 1) c p ≡ Err refused → from_step here false 1 cs first ≡ Err refused
stops here cs first p k sums c refused r l e o =
    ap (λ ds. from_step here false 1 ds first) (split_at cs k c l e)
    ∙ next_is here cs first p k sums c (drop (suc k) cs) r ∙ ap (λ s. and_then s (from_step here (sums || frees_sums c) (k + 2) (drop (suc k) cs))) o

-- a call's answer where the command that comes next is refused, or memory runs out
pub answer_stops : (here : Scope) (cs : List Command) (first p : Listed) (k : ℕ) (sums : Bool) (c : Command) (e : ApplyError) → Reaches here cs first k sums p
    → k < length cs → c ≡ get_or cs k c → IsAnswer {X = Listed} (Err e) (one here sums (k + 1) c p) → IsAnswer {X = Listed} (Err e) (from_step here false 1 cs first)
answer_stops here cs first p k sums c (Refused refused) r l e o = stops here cs first p k sums c refused r l e o
answer_stops here cs first p k sums c Memory r l e o = tt

-- and where all commands were gone through
pub reached_all : (here : Scope) (cs : List Command) (first p : Listed) (k : ℕ) (sums : Bool) → Reaches here cs first k sums p → length cs ≤ k
    → from_step here false 1 cs first ≡ Ok p
reached_all here cs first p k sums r l = ap (λ ds. from_step here false 1 ds first) (sym (take_all k cs l)) ∙ r.is

pub pair_stops : (nest : LoopNest) (values : List ℤ) (cs : List Command) (p : Listed) (k : ℕ) (sums : Bool) (c : Command) (e : ApplyError)
    → Reaches (scope nest values) cs (plain nest) k sums p → k < length cs → c ≡ get_or cs k c → StepIsLeast (scope nest values) sums (k + 1) c p e → PairIsLeast nest cs values {X = Listed} (Err e)
pair_stops nest values cs p k sums c Memory r l e s = tt
pair_stops nest values cs p k sums c (Refused (Shape n forbidden)) r l e s = tt
pair_stops nest values cs p k sums c (Refused (Illegal n first second cell)) r l e s =
    let m : length (take k cs) ≡ k = length-take-le k cs r.within in
    let o : k + 1 ≡ length (take k cs) + 1 = omega (arith, m) in
    record {
      earlier = take k cs;
      command = c;
      later = drop (suc k) cs;
      stands = split_at cs k c l e;
      number = s.0 ∙ o;
      program = p;
      reached = r.is;
      pair = subst (λ t. IsLeastPair (scope nest values) t c p first second cell) r.freed s.1;
    }

-- ---- the exit of a `?`

pub at_exit : (X : Type 0) (P : Result X ApplyError → Type 0) (r : Result X ApplyError) (e : ApplyError) → IsErrAnd r (λ x. x ≡ e) → P (Err e) → P r
at_exit X P (Ok x) e h k = absurd h
at_exit X P (Err x) e h k = subst (λ y. P (Err y)) (sym h) k
