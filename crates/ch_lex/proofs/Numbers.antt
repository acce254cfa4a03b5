-- Numbers that grow as their digits are read.
use Rattle.std.proofs.Common.{◌≡◌, ℕ, ◌+◌, ◌-◌, ◌*◌, ◌<◌, List, ◌∷◌, None, get_or, drop, length, map, arith}
use Rattle.std.proofs.lemmas.Bool.{lt-ltb}
use Rattle.std.proofs.lemmas.List.{drop_more}
use Rattle.std.proofs.lemmas.Int.Digits.{number_after_ge}
use Rattle.std.specs.Int.Digits.{number_from_digits_after}
use Rattle.ch_lex.specs.Bytes.{number_of}
use Rattle.ch_lex.specs.Tokens.{small_number, most_number}

-- the digits that are left, behind those that were read
abbrev pub number_after : ℕ → List ℕ → ℕ
number_after number digits = number_from_digits_after 10 number (map (λ d. d - 48) digits)

pub too_large : (first : ℕ) (others : List ℕ) (number k more : ℕ) → k < length others → more ≡ number * 10 + (get_or others k 0 - 48) → most_number < more
    → number_after number (drop k others) ≡ number_of (first ∷ others) → small_number (first ∷ others) ≡ None
too_large first others number k more l e h r =
    let s : number_after more (drop (k + 1) others) ≡ number_of (first ∷ others) = rw e (rw (drop_more others k 0 l) at r) in
    rw (lt-ltb most_number (number_of (first ∷ others)) (omega (arith, number_after_ge 10 more (map (λ d. d - 48) (drop (k + 1) others)) (omega arith))))
