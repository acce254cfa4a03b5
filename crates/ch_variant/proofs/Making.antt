-- Code that was generated for a program of a nest is a variant of that nest.
use Rattle.std.proofs.Common.{◌≡◌, refl, sym, subst, ap, ◌∙◌, ℕ, ℤ, Ok, Err, Result, Option, Some, None, List, length, ◌++◌}
use Rattle.std.specs.Bool.{IsTrue}
use Rattle.ch_code.specs.Trace.{unit_trace}
use Rattle.ch_code.specs.UnitParts.{UnitParts}
use Rattle.ch_nest.specs.Arrays.{extents_of}
use Rattle.ch_nest.specs.LoopNest.{LoopNest}
use Rattle.ch_nest.specs.Sound.{is_sound}
use Rattle.ch_session.specs.Making.{Making, Origin}
use Rattle.ch_space.specs.Listed.{Listed}
use Rattle.ch_timed.specs.Flat.{StaysInside}
use Rattle.ch_timed.specs.Timed.{is_well_formed, pieces}
use Rattle.ch_script.specs.declared.recipe.Command.{Command}
use Rattle.ch_script.specs.declared.refusal.Refusal.{Refusal}
use Rattle.ch_script.specs.declared.refusal.Refusal.TheVariants.{Illegal, Shape}
use Rattle.ch_variant.specs.Applied.{IsAnswer, plain}
use Rattle.ch_variant.specs.Judgements.{measured, sizes_of}
use Rattle.ch_variant.specs.Meaning.{KeepsNest, RunsNest}
use Rattle.ch_variant.specs.Sources.{origin_of, parts_of}
use Rattle.ch_variant.specs.Refusals.{PairIsLeast}
use Rattle.ch_variant.specs.Variants.{HasList, IsVariant, Refuses, VariantParts, applied_at, point_of, program_of}
use Rattle.ch_variant.specs.declared.error.ApplyError.{ApplyError}
use Rattle.ch_variant.specs.declared.error.ApplyError.TheVariants.{Refused, Memory}
use Rattle.ch_variant.specs.declared.judging.Judgement.{Judgement}
use Rattle.ch_variant.specs.declared.variant.Source.{Source}
use Rattle.ch_variant.proofs.Kept.{keeps_itself_whole, keeps_nest, runs_nest, stays_inside}

pub variant_of : (v : VariantParts) (p : Listed) → IsTrue (is_sound v.making.nest) → v.unit.arrays ≡ v.making.nest.arrays
    → unit_trace v.unit ≡ p.list → v.unit.temps ≡ p.temps → program_of v.making ≡ Ok p
    → IsTrue (is_well_formed p.list) → KeepsNest v.making.nest p.list p.temps → IsVariant v
variant_of v p s a t b e w k = record {
  sound = s;
  arrays = a;
  program = subst (λ r. HasList r (unit_trace v.unit) v.unit.temps) (sym e) (sym t, sym b);
  well_formed = subst (λ l. IsTrue (is_well_formed l)) (sym t) w;
  keeps = subst (λ l. KeepsNest v.making.nest l v.unit.temps) (sym t) (subst (λ ts. KeepsNest v.making.nest p.list ts) (sym b) k);
}

pub keeps_plain : (nest : LoopNest) → KeepsNest nest (plain nest).list (plain nest).temps
keeps_plain nest = keeps_nest nest (plain nest) (keeps_itself_whole (plain nest))

pub variant_inside : (v : VariantParts) → IsVariant v → StaysInside (extents_of v.making.nest.arrays ++ v.unit.temps) (unit_trace v.unit)
variant_inside v i = stays_inside v.making.nest (unit_trace v.unit) v.unit.temps i.sound i.keeps

pub variant_runs : (v : VariantParts) → IsVariant v → RunsNest v.making.nest (unit_trace v.unit) v.unit.temps
variant_runs v i = runs_nest v.making.nest (unit_trace v.unit) v.unit.temps i.sound i.keeps

abbrev making : ℕ → LoopNest → Option Origin → Making
making subject nest origin = record { subject = subject; nest = nest; origin = origin }

abbrev whole : ℕ → LoopNest → Option Origin → UnitParts → VariantParts
whole subject nest origin unit = record { making = record { subject = subject; nest = nest; origin = origin }; unit = unit }

-- a variant's parts, from what its fields were made of
pub parts_are : (subject : ℕ) (n nest : LoopNest) (source : Option Source) (origin : Option Origin) (unit : UnitParts)
    → n ≡ nest → origin_of source ≡ origin
    → parts_of subject n source unit ≡ record { making = record { subject = subject; nest = nest; origin = origin }; unit = unit }
parts_are subject n nest source origin unit e f =
    ap (λ (m : LoopNest). whole subject m (origin_of source) unit) e ∙ ap (λ (o : Option Origin). whole subject nest o unit) f

-- ---- what a build answers, from the answer of the program that it is made of

-- the code that was made for the program of a recipe at a point
pub built : (subject : ℕ) (n nest : LoopNest) (s : Source) (o : Origin) (u : UnitParts) (p : Listed) → n ≡ nest → origin_of (Some s) ≡ Some o
    → IsTrue (is_sound nest) → applied_at nest o ≡ Ok p → IsTrue (is_well_formed p.list) → KeepsNest nest p.list p.temps
    → unit_trace u ≡ p.list → u.arrays ≡ nest.arrays → u.temps ≡ p.temps → IsVariant (parts_of subject n (Some s) u)
built subject n nest s o u p e f sound made formed kept trace arrays temps =
    subst IsVariant (sym (parts_are subject n nest (Some s) (Some o) u e f))
    (variant_of (whole subject nest (Some o) u) p sound arrays trace temps made formed kept)

-- the code that was made for the nest itself
pub built_plain : (subject : ℕ) (n nest : LoopNest) (u : UnitParts) (p : Listed) → n ≡ nest → p ≡ plain nest
    → IsTrue (is_sound nest) → IsTrue (is_well_formed p.list) → unit_trace u ≡ p.list → u.arrays ≡ nest.arrays → u.temps ≡ p.temps
    → IsVariant (parts_of subject n None u)
built_plain subject n nest u p e f sound formed trace arrays temps =
    subst IsVariant (sym (parts_are subject n nest None None u e refl))
    (variant_of (whole subject nest None u) p sound arrays trace temps (ap Ok (sym f)) formed
    (subst (λ (q : Listed). KeepsNest nest q.list q.temps) (sym f) (keeps_plain nest)))

pub goes_on : {X : Type 0} (x : X) (answer : Result Listed Refusal) (p : Listed) → answer ≡ Ok p → Refuses (Ok x) answer
goes_on x answer p e = subst (Refuses (Ok x)) (sym e) tt

pub refuses_too : (X : Type 0) (e : ApplyError) (answer : Result Listed Refusal) → IsAnswer {X = Listed} (Err e) answer → Refuses {X = X} (Err e) answer
refuses_too X (Refused refused) answer h = h
refuses_too X Memory answer h = tt

pub least_too : (X Y : Type 0) (nest : LoopNest) (cs : List Command) (values : List ℤ) (e : ApplyError) → PairIsLeast nest cs values {X = X} (Err e)
    → PairIsLeast nest cs values {X = Y} (Err e)
least_too X Y nest cs values Memory h = tt
least_too X Y nest cs values (Refused (Shape step c)) h = tt
least_too X Y nest cs values (Refused (Illegal step first second cell)) h = h

-- ---- what a judgement tells of it

pub measured_too : {X : Type 0} (measure : Listed → X) (e : ApplyError) (answer : Result Listed Refusal) → IsAnswer {X = Listed} (Err e) answer
    → IsAnswer {X = X} (Err e) (measured measure answer)
measured_too measure (Refused refused) answer h = ap (measured measure) h
measured_too measure Memory answer h = tt

pub measured_is : {X : Type 0} (measure : Listed → X) (answer : Result Listed Refusal) (p : Listed) (x : X) → answer ≡ Ok p → x ≡ measure p
    → measured measure answer ≡ Ok x
measured_is measure answer p x e f = ap (measured measure) e ∙ ap Ok (sym f)

abbrev judgement : ℕ → ℕ → Judgement
judgement a b = record { pieces = a; instances = b }

pub sizes_are : (p : Listed) (a b : ℕ) → a ≡ length (pieces p.list) → b ≡ length p.list → judgement a b ≡ sizes_of p
sizes_are p a b e f = ap (λ x. judgement x b) e ∙ ap (judgement (length (pieces p.list))) f

-- what a variant's parts say of what they were made from
pub made_is : (subject : ℕ) (n nest : LoopNest) (s : Source) (o : Origin) → n ≡ nest → origin_of (Some s) ≡ Some o
    → making subject n (origin_of (Some s)) ≡ making subject nest (Some o)
made_is subject n nest s o e f = ap (λ (m : LoopNest). making subject m (origin_of (Some s))) e ∙ ap (making subject nest) f

pub point_is : (subject : ℕ) (n : LoopNest) (s t : Option Source) (u : UnitParts) (v : VariantParts) → parts_of subject n s u ≡ v → s ≡ t
    → point_of (origin_of t) ≡ point_of v.making.origin
point_is subject n s t u v e f = ap (λ (o : Option Source). point_of (origin_of o)) (sym f) ∙ ap (λ (w : VariantParts). point_of w.making.origin) e
