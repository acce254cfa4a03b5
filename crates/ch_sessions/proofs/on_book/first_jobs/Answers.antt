use Rattle.std.proofs.Common.{◌≡◌, ◌∙◌, List, [], ◌∷◌, ◌++◌, arith, subst}
use Rattle.std.proofs.lemmas.List.Elements.{All-push, All-same}
use Rattle.ch_session.specs.declared.event.Event.{Event}
use Rattle.ch_session.specs.declared.replies.Job.{Job}
use Rattle.ch_sessions.specs.Desks.{IsJob}
use Rattle.ch_sessions.proofs.Knowing.{job_here}
use Rattle.ch_sessions.proofs.on_book.first_jobs.Goals as goal

pub loop-trial-preserved : goal.loop-trial-preserved
loop-trial-preserved c =
    let p = c.args.session.now in
    let j : Job = record { trial = c.loop-trial.trial; point = c.in_ok-point.point } in
    let k : IsJob p.theme [] j = subst (λ (v : List Event). IsJob p.theme v j) c.requires (job_here p c.search-search.result.now c.loop-trial.trial c.in_ok-point.point c.search-search.ensures (omega (arith, c.trials-trial-end.ensures.value)) (c.in_ok-point.ensures ∙ c.point_of.ensures.value)) in
    All-same (IsJob p.theme []) c.push.new.self.items (c.loop-trial.jobs.items ++ j ∷ []) c.in_ok-push.ensures.items (All-push (IsJob p.theme []) c.loop-trial.jobs.items j c.loop-trial.invariant k)
