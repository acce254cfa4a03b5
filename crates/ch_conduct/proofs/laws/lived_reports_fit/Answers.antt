use Rattle.ch_conduct.proofs.Judged.{lived_fits}
use Rattle.ch_conduct.proofs.laws.lived_reports_fit.Goals as goal

pub returns : goal.returns
returns c = lived_fits
