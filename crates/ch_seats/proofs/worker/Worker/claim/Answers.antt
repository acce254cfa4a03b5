use Rattle.ch_seats.proofs.Taken.{took, sits_on, claim_own, claimed_last}
use Rattle.ch_seats.proofs.worker.Worker.claim.Goals as goal

pub returns-clause-sits : goal.returns-clause-sits
returns-clause-sits g c =
    let w = c.args.self.now in
    let t = c.claim.ensures.turn in
    sits_on w.number w.book.now c.args.seat.now c.claim.new.seat t.0 _ c.requires.sits t.1 (claim_own w.number c.args.builder c.claim.result c.requires.number c.requires.builder)

pub returns-clause-turn : goal.returns-clause-turn
returns-clause-turn g c =
    let w = c.args.self.now in
    let t = c.claim.ensures.turn in
    (t.0, took w.number w.book.now c.args.seat.now c.claim.new.seat t.0 _ c.requires.sits t.1 (claim_own w.number c.args.builder c.claim.result c.requires.number c.requires.builder), t.2)

pub returns-clause-last : goal.returns-clause-last
returns-clause-last g c =
    let w = c.args.self.now in
    let t = c.claim.ensures.turn in
    let own = claim_own w.number c.args.builder c.claim.result c.requires.number c.requires.builder in
    claimed_last w.number c.args.builder w.book.now c.args.seat.now c.claim.new.seat t.0 c.claim.result
    (sits_on w.number w.book.now c.args.seat.now c.claim.new.seat t.0 _ c.requires.sits t.1 own)
    (took w.number w.book.now c.args.seat.now c.claim.new.seat t.0 _ c.requires.sits t.1 own) c.claim.ensures.job
