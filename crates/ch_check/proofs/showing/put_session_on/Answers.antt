use Rattle.std.proofs.Common.{◌≡◌, ◌++◌, refl, Ok, Err, rules}
use Rattle.ch_check.specs.Checked.{line_text}
use Rattle.ch_check.proofs.Lines.{IsCase, case_of, legal_told, line_is, made_is, refused_told}
use Rattle.ch_check.proofs.ShowTexts.{legal_shown, refused_shown}
use Rattle.ch_check.proofs.showing.put_session_on.Goals as goal

pub returns-in-Ok-clause-text : goal.returns-in-Ok-clause-text
returns-in-Ok-clause-text c =
    let deck = c.args.deck.now in
    let at = c.args.at.now in
    let machine = c.args.machine.now in
    let s = c.args.session.now in
    let n = c.subject_of-subject.result.nest.now in
    let r = c.subject_of-subject.result.recipe.now in
    let m = c.subject_of-subject.result.machine.now in
    let v = c.as_slice-numbers.result.now in
    let here : IsCase deck at machine s n r m v = case_of deck at machine s n r m v c.in_ok-values.values c.subject_of-subject.ensures.nest c.subject_of-subject.ensures.recipe
    c.subject_of-subject.ensures.machine c.as_slice-numbers.ensures c.in_ok-values.ensures.exact in
    let made = c.in-Ok.made in
    let told = legal_told n r m v made.space made.told c.in-Ok.ensures.program c.in-Ok.ensures.told in
    let line : c.put_legal.new.out ≡ c.args.out.now ++ line_text s.name v n.arrays (Ok made.told) = search rules in
    legal_shown machine deck at s n made.space made.unit (line_text s.name v n.arrays (Ok made.told)) c.args.out.now c.put_legal.new.out c.put_made.new.out here.nest
    (made_is deck at machine s n r m v (Ok made.space) here c.in-Ok.ensures.program) c.in-Ok.ensures.code (line_is deck at machine s n r m v n.arrays (Ok made.told) here refl told)
    line c.in_ok-put_made-in-Ok.ensures

pub returns-in-Err-Refused-clause-text : goal.returns-in-Err-Refused-clause-text
returns-in-Err-Refused-clause-text c =
    let deck = c.args.deck.now in
    let at = c.args.at.now in
    let machine = c.args.machine.now in
    let s = c.args.session.now in
    let n = c.subject_of-subject.result.nest.now in
    let r = c.subject_of-subject.result.recipe.now in
    let m = c.subject_of-subject.result.machine.now in
    let v = c.as_slice-numbers.result.now in
    let here : IsCase deck at machine s n r m v = case_of deck at machine s n r m v c.in_ok-values.values c.subject_of-subject.ensures.nest c.subject_of-subject.ensures.recipe
    c.subject_of-subject.ensures.machine c.as_slice-numbers.ensures c.in_ok-values.ensures.exact in
    let refused = c.in-Err-Refused.refusal in
    let is = rw c.in-Err-Refused.field-0-is at c.in-Err-Refused.ensures.refusal in
    let line : c.put_refused.new.out ≡ c.args.out.now ++ line_text s.name v n.arrays (Err refused) = search rules in
    refused_shown machine deck at s refused (line_text s.name v n.arrays (Err refused)) c.args.out.now c.put_refused.new.out (made_is deck at machine s n r m v (Err refused) here is)
    (line_is deck at machine s n r m v n.arrays (Err refused) here refl (refused_told n r m v refused is)) line
