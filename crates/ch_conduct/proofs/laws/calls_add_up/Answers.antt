use Rattle.ch_conduct.proofs.OneCall.{conduct_more, ends}
use Rattle.ch_conduct.proofs.laws.calls_add_up.Goals as goal

pub returns : goal.returns
returns c = record {
  more = λ th judge n patient machine lines j how s z k d e. conduct_more th judge n patient machine lines s z j how k.0 k.1 d e;
  end = λ th judge n patient machine lines h s z k d t. ends th judge n patient machine lines s z h k.0 k.1 t d;
}
