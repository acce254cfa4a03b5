use Rattle.std.proofs.Common.{◌∙◌, ap, sym}
use Rattle.ch_space.specs.Judged.{judgement}
use Rattle.ch_space.proofs.Judgings.{none_if_sound, refusal_judged, sound_if_none, walk_judged}
use Rattle.ch_space.proofs.judge.judged.Goals as goal

pub returns-then-is_sound-clause-exact : goal.returns-then-is_sound-clause-exact
returns-then-is_sound-clause-exact c = none_if_sound c.args.nest.now (sym c.is_sound.ensures ∙ c.if-is_sound.true)

pub returns-in-None-clause-exact : goal.returns-in-None-clause-exact
returns-in-None-clause-exact c =
    walk_judged c.args.nest.now c.as_slice.result.now c.in_ok-end.end (c.as_slice.ensures ∙ ap (λ n. n.items) c.nest.view_is) c.in_ok-end.ensures ∙ c.in-None.is

pub returns-in-None-clause-sound : goal.returns-in-None-clause-sound
returns-in-None-clause-sound c =
    sound_if_none c.args.nest.now
    (walk_judged c.args.nest.now c.as_slice.result.now c.in_ok-end.end (c.as_slice.ensures ∙ ap (λ n. n.items) c.nest.view_is) c.in_ok-end.ensures ∙ c.in-None.is)

pub returns-in-Some-clause-exact : goal.returns-in-Some-clause-exact
returns-in-Some-clause-exact c =
    rw c.in-Some.refusal-is
    (refusal_judged c.in-Some.refusal (judgement c.args.nest.now)
    (walk_judged c.args.nest.now c.as_slice.result.now c.in_ok-end.end (c.as_slice.ensures ∙ ap (λ n. n.items) c.nest.view_is) c.in_ok-end.ensures ∙ c.in-Some.is))
