use Rattle.std.proofs.Common.{refl}
use Rattle.ch_conduct.proofs.Longer.{conduct_longer, builder_longer}
use Rattle.ch_conduct.proofs.Prefixes.{legal_prefix}
use Rattle.ch_conduct.proofs.laws.conduct_lasts.Goals as goal

pub returns : goal.returns
returns c = record {
  client = λ th judge h k p l n patient machine lines reads d. conduct_longer th judge h k p l n patient machine lines _ reads (legal_prefix th h k p l) refl d;
  builder = λ th judge h k p l b d. builder_longer th judge h k p l b _ (legal_prefix th h k p l) refl d;
}
