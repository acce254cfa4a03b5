-- Numbers that are cut off while their digits are read, and the limit of a number.
use Rattle.std.proofs.Common.{◌≡◌, ℕ, ◌+◌, ◌-◌, ◌*◌, ◌<◌, ◌≤◌, Bool, true, ◌&&◌, if◌then◌else◌, nat_le, List, [], ◌∷◌, get_or, take, length, map, min, Option, Some, None, arith, sym, ap, ◌∙◌}
use Rattle.std.specs.List.{list_all}
use Rattle.std.specs.Int.Digits.{number_from_digits}
use Rattle.std.proofs.lemmas.Int.Digits.{number_push}
use Rattle.std.proofs.lemmas.List.{map_more}
use Rattle.std.proofs.lemmas.Bool.{le-leb}
use Rattle.clap.specs.Words.{Text}
use Rattle.ch_lex.specs.Bytes.{is_digit, number_of}
use Rattle.ch_words.specs.Numbers.{natural_of}

one_more : (digits : List ℕ) (k : ℕ) → k < length digits → number_of (take (k + 1) digits) ≡ number_of (take k digits) * 10 + (get_or digits k 0 - 48)
one_more digits k l =
    ap (number_from_digits 10) (map_more (λ d. d - 48) digits k 0 l)
    ∙ number_push 10 (map (λ d. d - 48) (take k digits)) (get_or digits k 0 - 48)

cut_off : (a b d past number : ℕ) → 0 < past → number ≡ min a past → b ≡ a * 10 + d → min (number * 10 + d) past ≡ min b past
cut_off a b d past number p e f = omega arith

pub capped_more : (digits : List ℕ) (k past number : ℕ) → k < length digits → 0 < past → number ≡ min (number_of (take k digits)) past
    → min (number * 10 + (get_or digits k 0 - 48)) past ≡ min (number_of (take (k + 1) digits)) past
capped_more digits k past number l p e = cut_off _ _ _ past number p e (one_more digits k l)

pub natural_from : (most : ℕ) (text : Text) → 0 < length text → list_all is_digit text ≡ true → number_of text ≤ most → natural_of most text ≡ Some (number_of text)
natural_from most [] p h l = absurd (omega arith)
natural_from most (b ∷ bs) p h l =
    ap (λ t. if t && nat_le (number_of (b ∷ bs)) most then Some (number_of (b ∷ bs)) else None) h
    ∙ ap (λ t. if t then Some (number_of (b ∷ bs)) else None) (le-leb (number_of (b ∷ bs)) most l)

-- the number that was read, cut off behind the limit, if it is within the limit
pub natural_capped : (most : ℕ) (text : Text) (number : ℕ) → 0 < length text → list_all is_digit text ≡ true → number ≡ min (number_of text) (most + 1) → number ≤ most
    → Some number ≡ natural_of most text
natural_capped most text number p h e l =
    let same : number ≡ number_of text = omega arith in
    let within : number_of text ≤ most = omega arith in
    ap (λ n. Some n) same ∙ sym (natural_from most text p h within)
