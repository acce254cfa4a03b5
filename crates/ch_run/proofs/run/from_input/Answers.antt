use Rattle.ch_run.proofs.Outs.{answered, answered_part}
use Rattle.ch_run.proofs.run.from_input.Goals as goal

pub returns-in-Ok-write_all-clause-answer : goal.returns-in-Ok-write_all-clause-answer
returns-in-Ok-write_all-clause-answer g c = λ _.
    answered c.args.request.now _ _ _ c.in-Ok.bytes.items c.in-Ok-answer_to.answer.text c.in-Ok-answer_to.answer.status c.requires.reads c.in-Ok.ensures.bytes
    (rw c.deref.ensures.value at c.in-Ok-answer_to.ensures.told) (rw c.as_bytes.ensures.value at c.in-Ok-write_all.ensures.all)

pub returns-clause-write_part : goal.returns-clause-write_part
returns-clause-write_part g c = λ _.
    answered_part c.args.request.now _ _ _ c.in-Ok.bytes.items c.in-Ok-answer_to.answer.text c.in-Ok-answer_to.answer.status c.requires.reads c.in-Ok.ensures.bytes
    (rw c.deref.ensures.value at c.in-Ok-answer_to.ensures.told) (rw c.as_bytes.ensures.value at c.in-Err-write_all.ensures.part)
