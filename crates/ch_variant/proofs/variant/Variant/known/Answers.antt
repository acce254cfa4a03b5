use Rattle.std.proofs.Common.{subst}
use Rattle.ch_variant.specs.Variants.{IsVariant}
use Rattle.ch_variant.proofs.Making.{variant_inside, variant_runs}
use Rattle.ch_variant.proofs.variant.Variant.known.Goals as goal

pub returns-clause-keeps : goal.returns-clause-keeps
returns-clause-keeps c = subst IsVariant c.self.view_is c.self.invariant

pub returns-clause-inside : goal.returns-clause-inside
returns-clause-inside c = variant_inside c.args.self.now (subst IsVariant c.self.view_is c.self.invariant)

pub returns-clause-runs : goal.returns-clause-runs
returns-clause-runs c = variant_runs c.args.self.now (subst IsVariant c.self.view_is c.self.invariant)
