use Rattle.std.proofs.Common.{refl, subst, sym}
use Rattle.ch_space.specs.Listed.{Listed}
use Rattle.ch_variant.specs.Applied.{IsAnswer, one}
use Rattle.ch_variant.specs.Arguments.{scope}
use Rattle.ch_variant.specs.Refusals.{StepIsLeast}
use Rattle.ch_variant.specs.declared.error.ApplyError.{ApplyError}
use Rattle.ch_variant.proofs.Legality.{behind_of, copy_goes_on, names_no_pair, step_refused}
use Rattle.ch_variant.proofs.applying.one.Goals as goal
