use Rattle.std.proofs.Common.{◌≡◌, ℕ, ◌+◌, ◌<◌, List, [], ◌∷◌, ◌++◌, length, get_or, drop, Some, None, sym, ap, ap₂, ◌∙◌, rules, lit<, arith}
use Rattle.std.specs.List.{slice_split}
use Rattle.std.proofs.lemmas.List.{length_push}
use Rattle.std.proofs.lemmas.Iterator.Consumers.{YieldsList-turn, YieldsList-end}
use Rattle.std.proofs.lemmas.Iterator.Splits.{YieldsList-from_str_split}
use Rattle.ch_words.specs.Numbers.{whole_of, is_comma}
use Rattle.ch_words.proofs.Parts.{read_behind, read_to_the_end, read_one, read_none}
use Rattle.ch_words.proofs.numbers.wholes_of.Goals as goal

pub returns-in_default : goal.returns-in_default
returns-in_default c =
    let turn = YieldsList-turn (YieldsList-from_str_split 44 c.args.text.now (lit< tt) (cc) (cc) (cc)) c.loop-part.yielded _ c.loop-part.yielded_by _ _ c.in-Some.part c.in-Some.is c.next.ensures.steps in
    let none : whole_of c.in-Some.part.now ≡ None = ap whole_of (sym c.as_bytes.ensures.value) ∙ (sym c.whole_of.ensures ∙ c.in_default.is) in
    sym (read_none whole_of c.loop-part.numbers (slice_split is_comma c.args.text.now) (length c.loop-part.yielded) c.in-Some.part.now turn none) ∙ c.loop-part.invariant

pub loop-part-preserved : goal.loop-part-preserved
loop-part-preserved c =
    let parts : List (List ℕ) = slice_split is_comma c.args.text.now in
    let turn = YieldsList-turn (YieldsList-from_str_split 44 c.args.text.now (lit< tt) (cc) (cc) (cc)) c.loop-part.yielded _ c.loop-part.yielded_by _ _ c.in-Some.part c.in-Some.is c.next.ensures.steps in
    let some : whole_of c.in-Some.part.now ≡ Some c.in-Some-whole_of.number = ap whole_of (sym c.as_bytes.ensures.value) ∙ (sym c.whole_of.ensures ∙ c.in-Some-whole_of.is) in
    let pushed : c.push.new.self ≡ c.loop-part.numbers ++ c.in-Some-whole_of.number ∷ [] = search rules in
    ap₂ (λ ys k. read_behind whole_of ys (drop k parts)) pushed (length_push c.loop-part.yielded c.in-Some.part)
    ∙ (read_one whole_of c.loop-part.numbers c.in-Some-whole_of.number parts (length c.loop-part.yielded) c.in-Some.part.now turn some
    ∙ c.loop-part.invariant)

pub returns : goal.returns
returns c =
    let parts : List (List ℕ) = slice_split is_comma c.args.text.now in
    let end = YieldsList-end (YieldsList-from_str_split 44 c.args.text.now (lit< tt) (cc) (cc) (cc)) c.loop-part.yielded _ c.loop-part.yielded_by _ _ c.in-None.is c.next.ensures.steps in
    sym (read_to_the_end whole_of c.loop-part.numbers parts (length c.loop-part.yielded) (omega (arith, end.1))) ∙ c.loop-part.invariant
