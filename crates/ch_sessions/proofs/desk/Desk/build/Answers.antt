use Rattle.std.proofs.Common.{◌≡◌, ◌∙◌, ℕ, Option, Some, IfSome, subst, sym, ap}
use Rattle.std.proofs.lemmas.List.Elements.{All-get_or}
use Rattle.std.proofs.lemmas.Option.{slice_get-get_or}
use Rattle.ch_book.specs.Books.{first_of, seen, with_events}
use Rattle.ch_rank.specs.Moves.{Point}
use Rattle.ch_session.specs.declared.replies.Job.{Job}
use Rattle.ch_sessions.specs.Desks.{IsBuild, IsJob}
use Rattle.ch_sessions.specs.Plans.{IsPlanFor, theme_of}
use Rattle.ch_sessions.proofs.Knowing.{build_fits}
use Rattle.ch_sessions.proofs.desk.Desk.build.Goals as goal

pub returns : goal.returns
returns c =
    let b = c.args.shared.now.book in
    let s = c.args.self.now.seat in
    let jobs = c.args.self.now.jobs.items in
    let th = (first_of b).theme in
    let d : Job = c.index-job.result.now in
    let k : IsJob th (seen s) d = subst (λ (v : Job). IsJob th (seen s) v) (sym c.index-job.ensures) (All-get_or (IsJob th (seen s)) jobs c.in-Some.place d c.in-Some.ensures.0 c.requires.fits.jobs) in
    let m : IsPlanFor (theme_of c.args.shared.now.course) d.point c.in_ok-outcome.outcome = subst (λ (x : Point). IsPlanFor (theme_of c.args.shared.now.course) x c.in_ok-outcome.outcome) c.as_slice.ensures c.in_ok-outcome.ensures in
    let f : IsBuild (with_events b (seen s)) d.trial c.in_ok-outcome.outcome = build_fits c.args.shared.now.course (with_events b (seen s)) d c.in_ok-outcome.outcome c.requires.about k m in
    let e : d.trial ≡ c.args.trial = ap (λ (v : Job). v.trial) c.index-job.ensures ∙ subst (λ (o : Option Job). IfSome o (λ v. v.trial ≡ c.args.trial)) (slice_get-get_or jobs c.in-Some.place d c.in-Some.ensures.0) c.in-Some.ensures.1 in
    subst (λ (t : ℕ). IsBuild (with_events b (seen s)) t c.in_ok-outcome.outcome) e f
