use Rattle.std.proofs.Common.{◌≡◌, ◌∷◌, [], ◌+◌, ℕ, List, Option, Some, None, true, refl, sym, ap, ◌∙◌, subst}
use Rattle.std.specs.Arc.{arc_value}
use Rattle.ch_session.specs.declared.event.Event.{Event}
use Rattle.ch_session.specs.declared.event.Event.TheVariants.{Report}
use Rattle.ch_session.specs.History.{left_after}
use Rattle.ch_session.specs.Making.{Making}
use Rattle.ch_conduct.specs.Turns.{Building, TookTurn}
use Rattle.ch_conduct.proofs.OneCall.{measures, meets_none, settles_built}
use Rattle.ch_conduct.specs.Turns.Compared.{nothing}
use Rattle.ch_conduct.specs.Meaning.{Judge, Meaning, judge_of}
use Rattle.ch_seats.specs.Benches.{CostIs}
use Rattle.ch_seats.specs.Seated.{theme_in, knows}
use Rattle.ch_client.proofs.Moves.{cost_of_trial}
use Rattle.ch_client.proofs.call.patient_call.Goals as goal

pub returns-in_ok-cost-in-Trial-clause-call : goal.returns-in_ok-cost-in-Trial-clause-call
returns-in_ok-cost-in-Trial-clause-call g c =
    let q = rw c.in-Trial.is at c.in_ok-trial.ensures.turn in
    let b = c.report.ensures.turn in
    let n = c.args.at.now.number in
    let th = theme_in c.args.at.now.book.now in
    let m : Meaning = g.B.Bench.means c.args.at.now.bench.now in
    let made_is = ap g.V.Made.made c.deref.ensures ∙ q.2.1 in
    let cost = cost_of_trial m c.args.machine.now c.args.at.now.book.now q.0 c.in-Trial.trial c.args.at.now.session (g.V.Made.made c.deref.result.now) c.in_ok-cost-in-Trial.cost c.requires.book made_is c.in_ok-cost-in-Trial.ensures.cost in
    measures th (judge_of m c.args.at.now.session) n true c.args.machine.now c.args.last.now.how c.args.call c.in-Trial.trial (left_after th b.0 c.in-Trial.trial) (knows n c.args.seat.now) (knows n c.args.seat.now) (knows n c.fetch.new.seat) (knows n c.report.new.seat) q.0 b.0 [] (nothing refl refl refl) q.1 q.2.0 cost.0
    (subst (λ (x : ℕ). TookTurn th n (knows n c.fetch.new.seat) (knows n c.report.new.seat) b.0 (Report n c.in-Trial.trial c.args.call x (left_after th b.0 c.in-Trial.trial) ∷ [])) cost.1 b.1)

pub returns-in_ok-run-in-Err-NoJob-clause-call : goal.returns-in_ok-run-in-Err-NoJob-clause-call
returns-in_ok-run-in-Err-NoJob-clause-call g c =
    let q = rw c.in-Current.is at c.in_ok-trial.ensures.turn in
    let p = rw c.in-Err-NoJob.field-0-is at c.in-Err-NoJob.ensures.turn in
    let n = c.args.at.now.number in
    let th = theme_in c.args.at.now.book.now in
    let m : Meaning = g.B.Bench.means c.args.at.now.bench.now in
    meets_none th (judge_of m c.args.at.now.session) n true c.args.machine.now c.args.last.now.how c.args.call c.in-Current.version c.in-Current.news (knows n c.args.seat.now) (knows n c.args.seat.now) (knows n c.fetch.new.seat) (knows n c.claim.new.seat) q.0 p.0 [] (nothing refl refl refl) q.1 (sym q.2.3) p.1 p.2

pub returns-in_ok-how-in-Ok-clause-call : goal.returns-in_ok-how-in-Ok-clause-call
returns-in_ok-how-in-Ok-clause-call g c =
    let q = rw c.in-Current.is at c.in_ok-trial.ensures.turn in
    let p = c.in-Ok.ensures.turn in
    let b = c.in_ok-refused-in-Ok.ensures.turn in
    let n = c.args.at.now.number in
    let th = theme_in c.args.at.now.book.now in
    let m : Meaning = g.B.Bench.means c.args.at.now.bench.now in
    let t = c.in-Ok.job.trial in
    let made : Building th (judge_of m c.args.at.now.session) n (knows n c.args.seat.now) (knows n c.build.new.seat) c.in-Current.version t c.in-Ok.job.point = record { first = knows n c.fetch.new.seat; second = knows n c.claim.new.seat; h = q.0; k = p.0; l = b.0; fetches = q.1; gives = p.2.0; job = p.2.1; claims = p.1; builds = b.1 } in
    settles_built th (judge_of m c.args.at.now.session) n true c.args.machine.now c.args.last.now.how c.args.call c.in-Current.version t c.in_ok-how-in-Ok.how c.in-Ok.job.point (knows n c.args.seat.now) (knows n c.args.seat.now) (knows n c.build.new.seat) (knows n c.settle.new.seat) [] refl (nothing refl refl refl) made c.in_ok-how-in-Ok.ensures.settles
