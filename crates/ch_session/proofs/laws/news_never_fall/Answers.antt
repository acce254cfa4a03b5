use Rattle.ch_session.specs.Growth.{news_grow}
use Rattle.ch_session.proofs.Versions.{news_twice}
use Rattle.ch_session.proofs.laws.news_never_fall.Goals as goal

pub returns : goal.returns
returns c = record { grow = news_grow; twice = news_twice }
