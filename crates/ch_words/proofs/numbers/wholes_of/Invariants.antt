use Rattle.std.proofs.Common.{◌≡◌, ◌++◌, option_map, length, drop}
use Rattle.std.specs.List.{slice_split}
use Rattle.ch_words.specs.Numbers.{whole_of, wholes_of, each_read, is_comma}
use Rattle.ch_words.proofs.numbers.wholes_of.Given as goal

abbrev pub invariant-loop-part : goal.invariant-loop-part
invariant-loop-part l = option_map (λ more. l.numbers ++ more) (each_read whole_of (drop (length l.yielded) (slice_split is_comma l.text))) ≡ wholes_of l.text
