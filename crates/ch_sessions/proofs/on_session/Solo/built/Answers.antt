use Rattle.std.proofs.Common.{◌∙◌, arith}
use Rattle.ch_session.specs.declared.replies.Job.{Job}
use Rattle.ch_sessions.proofs.Knowing.{build_fits, job_here}
use Rattle.ch_sessions.proofs.on_session.Solo.built.Goals as goal

pub built-reply-requires : goal.built-reply-requires
built-reply-requires c =
    let p = c.args.self.now.session in
    let j : Job = record { trial = c.args.build.trial; point = c.as_slice.result.now } in
    let x = c.as_slice.ensures ∙ (c.in_ok-point.ensures ∙ c.point_of.ensures.value) in
    (build_fits c.args.self.now.course p j c.in_ok-outcome.outcome c.requires (job_here p c.search-search.result.now c.args.build.trial c.as_slice.result.now c.search-search.ensures (omega (arith, c.trials.ensures.value)) x) c.in_ok-outcome.ensures).1
