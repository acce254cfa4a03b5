use Rattle.ch_conduct.proofs.Building.{builds_more, builder_ends}
use Rattle.ch_conduct.proofs.laws.jobs_add_up.Goals as goal

pub returns : goal.returns
returns c = record {
  more = λ th judge b t at s y z h k w d x gives is r. builds_more th judge b s y z h k t at w d x gives is r;
  end = λ th judge b s z h w d x none. builder_ends th judge b s z h w d x none;
}
