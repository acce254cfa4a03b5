-- What a program costs as its code, and what is said of it.
use Rattle.std.proofs.Common.{◌≡◌, ◌∙◌, sym, ap, subst, ℕ, Option, Some, Result, Ok, Err, List, ◌++◌, length}
use Rattle.std.specs.Bool.{IsTrue}
use Rattle.ch_code.specs.Trace.{unit_trace}
use Rattle.ch_code.specs.UnitParts.{UnitParts}
use Rattle.ch_cost.specs.Cost.{cost}
use Rattle.ch_eval.specs.Cells.{unit_extents}
use Rattle.ch_judge.specs.Judged.{judged_at, program_cost, told_of}
use Rattle.ch_judge.specs.declared.judging.Told.{Told}
use Rattle.ch_nest.specs.Arrays.{extents_of}
use Rattle.ch_nest.specs.CostModel.{CostModel}
use Rattle.ch_nest.specs.LoopNest.{LoopNest}
use Rattle.ch_nest.specs.Sound.{is_sound}
use Rattle.ch_nest.specs.declared.nest.ArrayDecl.{ArrayDecl}
use Rattle.ch_script.specs.declared.refusal.Refusal.{Refusal}
use Rattle.ch_session.specs.Making.{Making, Origin}
use Rattle.ch_space.specs.Listed.{Listed}
use Rattle.ch_timed.specs.Flat.{StaysInside}
use Rattle.ch_timed.specs.Timed.{pieces}
use Rattle.ch_timed.specs.declared.element.Element.{Element}
use Rattle.ch_variant.specs.Applied.{IsAnswer}
use Rattle.ch_variant.specs.Judgements.{measured}
use Rattle.ch_variant.specs.Meaning.{KeepsNest}
use Rattle.ch_variant.specs.Variants.{HasList, IsVariant, Refuses, VariantParts, applied_at, program_of}
use Rattle.ch_variant.specs.declared.error.ApplyError.{ApplyError}
use Rattle.ch_variant.specs.declared.error.ApplyError.TheVariants.{Refused, Memory}
use Rattle.ch_variant.proofs.Kept.{stays_inside}

pub unit_inside : (nest : LoopNest) (p : Listed) (u : UnitParts) → IsTrue (is_sound nest) → KeepsNest nest p.list p.temps
    → unit_trace u ≡ p.list → u.arrays ≡ nest.arrays → u.temps ≡ p.temps → StaysInside (unit_extents u) (unit_trace u)
unit_inside nest p u sound keeps trace arrays temps =
    subst (λ (list : List Element). StaysInside (unit_extents u) list) (sym trace)
    (subst (λ (ts : List (List ℕ)). StaysInside (extents_of u.arrays ++ ts) p.list) (sym temps)
    (subst (λ (ds : List ArrayDecl). StaysInside (extents_of ds ++ p.temps) p.list) (sym arrays) (stays_inside nest p.list p.temps sound keeps)))

-- the code of a program costs what the program does
pub same_cost : (m : CostModel) (nest : LoopNest) (p : Listed) (u : UnitParts) (c : ℕ) → c ≡ cost m (unit_extents u) (unit_trace u)
    → unit_trace u ≡ p.list → u.arrays ≡ nest.arrays → u.temps ≡ p.temps → c ≡ program_cost m nest p
same_cost m nest p u c is trace arrays temps =
    is ∙ ap (λ (list : List Element). cost m (unit_extents u) list) trace
    ∙ ap (λ (ts : List (List ℕ)). cost m (extents_of u.arrays ++ ts) p.list) temps
    ∙ ap (λ (ds : List ArrayDecl). cost m (extents_of ds ++ p.temps) p.list) arrays

pub told_is : (m : CostModel) (nest : LoopNest) (p : Listed) (t : Told) → t.pieces ≡ length (pieces p.list) → t.instances ≡ length p.list
    → t.cost ≡ program_cost m nest p → t ≡ told_of m nest p
told_is m nest p t a b c = λ i. record { pieces = a i; instances = b i; cost = c i }

-- a refusal of what is made is a refusal by every measure of it
pub refused_too : (X Y : Type 0) (measure : Listed → Y) (e : ApplyError) (answer : Result Listed Refusal) → Refuses {X = X} (Err e) answer → IsAnswer {X = Y} (Err e) (measured measure answer)
refused_too X Y measure (Refused refused) answer h = ap (measured measure) h
refused_too X Y measure Memory answer h = tt

-- a variant of a point costs what is said of the point
pub judged_is : (m : CostModel) (nest : LoopNest) (o : Origin) (n : ℕ) (v : VariantParts) (c : ℕ) → v.making ≡ record { subject = n; nest = nest; origin = Some o } → IsVariant v
    → c ≡ cost m (unit_extents v.unit) (unit_trace v.unit) → judged_at m nest o ≡ Ok c
judged_is m nest o n v c made i is = by (applied_at nest o) (subst (λ (k : Making). HasList (program_of k) (unit_trace v.unit) v.unit.temps) made i.program)
  where
    same : v.unit.arrays ≡ nest.arrays
    same = i.arrays ∙ ap (λ (k : Making). k.nest.arrays) made

    by : (r : Result Listed Refusal) → HasList r (unit_trace v.unit) v.unit.temps → measured (program_cost m nest) r ≡ Ok c
    by (Ok p) h = ap Ok (sym (same_cost m nest p v.unit c is (sym h.0) same (sym h.1)))
    by (Err refused) h = absurd h
