use Rattle.std.proofs.Common.{◌≡◌, ◌∙◌, sym, true, false, ◌<◌, ◌==◌, length, rules, arith}
use Rattle.std.specs.List.{list_all}
use Rattle.std.proofs.lemmas.Bool.{not-false, eqb-false}
use Rattle.ch_lex.specs.Bytes.{is_digit}
use Rattle.ch_words.proofs.Digits.{natural_capped}
use Rattle.ch_words.proofs.numbers.natural_of.Goals as goal

pub returns : goal.returns
returns c =
    let empty : (length c.args.text.now == 0) ≡ false = sym c.is_empty.ensures ∙ c.if-is_empty.false in
    let some : 0 < length c.args.text.now = omega (arith, eqb-false (length c.args.text.now) 0 empty) in
    let digits : list_all is_digit c.args.text.now ≡ true = first_of (cc, search (rules, not-false), grind (arith, not-false)) in
    natural_capped c.args.most c.args.text.now c.capped-number.result some digits c.capped-number.ensures (omega arith)
