use Rattle.ch_sessions.proofs.Knowing.{stays_read}
use Rattle.ch_sessions.proofs.desk.Desk.read_news.Goals as goal

pub returns : goal.returns
returns c = stays_read c.args.shared.now.book c.args.self.now.seat c.news.new.seat c.args.self.now.jobs.items c.news.ensures.seat c.news.ensures.kept.1 c.requires
