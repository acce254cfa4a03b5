use Rattle.std.proofs.Common.{◌∙◌, ◌≤◌, sym, ap, subst, length}
use Rattle.std.specs.Bool.{IsTrue}
use Rattle.std.proofs.lemmas.Result.{IfOk-weaker}
use Rattle.ch_report.specs.Sessions.{is_inside}
use Rattle.ch_subject.specs.Subjects.{machine_of}
use Rattle.ch_workload.specs.Tuned.{Tuned}
use Rattle.ch_search.proofs.Sessions.{as_part, repeats}
use Rattle.ch_search.proofs.parts.part_of.Goals as goal

pub searched-requires-clause-params : goal.searched-requires-clause-params
searched-requires-clause-params c = ap (λ (s : Tuned). length s.params) c.session.view_is ∙ c.subject_of-subject.ensures.params

pub searched-requires-clause-repeat : goal.searched-requires-clause-repeat
searched-requires-clause-repeat c =
    let some = repeats c.args.session.now c.known.ensures in
    subst (λ (s : Tuned). (1 ≤ s.repeat) × (s.repeat ≤ 9)) (sym c.session.view_is) some

pub returns-clause-tuned : goal.returns-clause-tuned
returns-clause-tuned c =
    IfOk-weaker c.searched.result _ _ (λ part h. as_part c.args.deck.now c.args.k c.args.session.now _ _ _ _ part c.session.view_is
    (c.subject_of-subject.ensures.machine ∙ c.machine_of-machine.ensures ∙ ap (λ cs. machine_of cs c.args.k) c.clients.ensures)
    c.subject_of-subject.ensures.nest c.subject_of-subject.ensures.recipe h) c.searched.ensures.tuned

pub returns-clause-inside : goal.returns-clause-inside
returns-clause-inside c =
    IfOk-weaker c.searched.result _ _ (λ part h. subst (λ (s : Tuned). IsTrue (is_inside s.params part)) c.session.view_is h) c.searched.ensures.inside
