-- The unit of the tests is one.
use Rattle.std.proofs.Common.{◌≡◌, sym, ap, ◌∙◌, subst, ◌^◌, ℕ, true, List, []}
use Rattle.std.specs.List.{All}
use Rattle.std.proofs.lemmas.List.Elements.{All-nil}
use Rattle.ch_affine.specs.Affine.{IsAtMost}
use Rattle.ch_affine.specs.Rows.{Rows, IsSystem}
use Rattle.ch_nest.specs.declared.nest.ArrayDecl.{ArrayDecl}
use Rattle.ch_code.specs.declared.code.Code.{Code}
use Rattle.ch_code.specs.declared.code.Code.TheFolds.{fold-roll-Code}
use Rattle.ch_code.specs.declared.code.Code.TheVariants.{Seq, rolls-Seq}
use Rattle.ch_code.specs.Trace.{Traced, trace, trace_step}
use Rattle.ch_code.specs.UnitParts.{unit_of}
use Rattle.ch_code.specs.WellFormed.{Fitting, IsUnit, Valued, fits, fits_step, guards, guards_step, loop_values, values_step}

no_trace : trace (Seq []) [] ≡ []
no_trace = ap (λ f. f []) (ap trace (sym (rolls-Seq [])) ∙ fold-roll-Code Traced trace_step _)

no_guards : guards (Seq []) ≡ []
no_guards = ap guards (sym (rolls-Seq [])) ∙ fold-roll-Code (List Rows) guards_step _

no_values : loop_values (Seq []) [] ≡ []
no_values = ap (λ f. f []) (ap loop_values (sym (rolls-Seq [])) ∙ fold-roll-Code Valued values_step _)

it_fits : fits 0 (Seq []) 0 ≡ true
it_fits = ap (λ f. f 0) (ap (fits 0) (sym (rolls-Seq [])) ∙ fold-roll-Code Fitting (fits_step 0) _)

it_is_unit : IsUnit (unit_of (Seq []) [] [])
it_is_unit = record {
  fits = it_fits;
  guards = subst (All IsSystem) (sym no_guards) (All-nil IsSystem);
  values = subst (All (IsAtMost (2 ^ 54))) (sym no_values) (All-nil (IsAtMost (2 ^ 54)));
  iterators = subst (All (λ e. All (IsAtMost (2 ^ 54)) e.identity.iters)) (sym no_trace) (All-nil (λ e. All (IsAtMost (2 ^ 54)) e.identity.iters));
}

pub empty_is_unit : (parts : List Code) (arrays : List ArrayDecl) (temps : List (List ℕ)) → parts ≡ [] → arrays ≡ [] → temps ≡ [] → IsUnit (unit_of (Seq parts) arrays temps)
empty_is_unit parts arrays temps p a t =
    subst (λ x. IsUnit (unit_of (Seq x) arrays temps)) (sym p) (subst (λ x. IsUnit (unit_of (Seq []) x temps)) (sym a) (subst (λ x. IsUnit (unit_of (Seq []) [] x)) (sym t) it_is_unit))
