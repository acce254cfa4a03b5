-- A text that is written in pieces.
use Rattle.std.proofs.Common.{ℕ, ◌+◌, ◌-◌, List, length, take, drop, sym, subst}
use Rattle.std.proofs.Math.Seq.{take-add}
use Rattle.std.proofs.lemmas.List.{take_rest}
use Rattle.std.specs.declared.option.Option.{Option}
use Rattle.std.specs.Io.KnownBytes.{Appends}
use Rattle.std.proofs.KnownBytes.{Appends-trans}

-- a front of the text, and the front of its rest, as `&text[at..]` gives it
pub appends_more : (a b c : Option (List ℕ)) (text : List ℕ) (at n : ℕ) → Appends a b (take at text) → Appends b c (take n (take (length text - at) (drop at text)))
    → Appends a c (take (at + n) text)
appends_more a b c text at n p q =
    let r = subst (λ (s : List ℕ). Appends b c (take n s)) (take_rest text at) q in
    subst (Appends a c) (sym (take-add at n text)) (Appends-trans a b c _ _ p r)
