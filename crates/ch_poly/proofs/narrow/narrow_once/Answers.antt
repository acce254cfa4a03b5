use Rattle.ch_poly.proofs.Ranges.{inside_then}
use Rattle.ch_poly.proofs.narrow.narrow_once.Goals as goal

pub returns-in_default-narrow_rows-clause-inside : goal.returns-in_default-narrow_rows-clause-inside
returns-in_default-narrow_rows-clause-inside c = inside_then _ _ _ _ _ _ c.narrow_rows.ensures.inside c.narrow_rows-2.ensures.inside

pub returns-clause-inside : goal.returns-clause-inside
returns-clause-inside c = inside_then _ _ _ _ _ _ c.narrow_rows.ensures.inside c.narrow_rows-2.ensures.inside
