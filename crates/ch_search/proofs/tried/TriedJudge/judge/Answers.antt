use Rattle.ch_search.proofs.tried.TriedJudge.judge.Goals as goal

pub judge-requires-clause-subject : goal.judge-requires-clause-subject
judge-requires-clause-subject c =
    let t = c.args.self.now in
    record { sound = t.sound; filled = t.filled }
