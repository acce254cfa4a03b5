-- Gaps that are joined from blanks and comments.
use Rattle.std.proofs.Common.{◌≡◌, ℕ, zero, suc, ◌+◌, Bool, true, false, if◌then◌else◌, List, [], ◌∷◌, take, drop, inl, inr, refl, ◌∙◌, add-one, arith}
use Rattle.std.specs.List.{prefix_len}
use Rattle.std.proofs.lemmas.Bool.{eqb-true}
use Rattle.std.proofs.lemmas.Bool.Decides.{nat_tests}
use Rattle.ch_lex.specs.declared.ahead.Front.TheVariants.{Gap}
use Rattle.ch_lex.specs.Bytes.{is_hash, is_line_feed, is_ascii, is_comment, begins}
use Rattle.ch_lex.specs.Cut.{is_gap}
use Rattle.ch_lex.proofs.Meanings.{Means}

-- a byte that a comment goes on with
goes_on : (last : Bool) (b : ℕ) (rest : List ℕ) → is_comment b ≡ true → is_gap last true (b ∷ rest) ≡ is_gap last true rest
goes_on last b rest inside =
    let ascii : is_ascii b ≡ true = grind (arith, nat_tests) in
    let same_line : is_line_feed b ≡ false = grind (arith, nat_tests) in
    rw (ascii, same_line) refl

-- a byte that ends a comment, and begins a gap
ends_it : (last : Bool) (b : ℕ) (rest : List ℕ) → is_comment b ≡ false → is_gap last false (b ∷ rest) ≡ true → is_gap last true (b ∷ rest) ≡ true
ends_it last b rest outside gap = grind (arith, nat_tests)

end_step : (test : Bool) (b : ℕ) (bs : List ℕ) → is_comment b ≡ test → is_gap true false (drop (if test then 1 + prefix_len is_comment bs else 0) (b ∷ bs)) ≡ true
    → (is_gap true false (drop (prefix_len is_comment bs) bs) ≡ true → is_gap true true bs ≡ true) → is_gap true true (b ∷ bs) ≡ true
end_step true b bs inside gap next =
    let more : 1 + prefix_len is_comment bs ≡ suc (prefix_len is_comment bs) = omega arith in
    goes_on true b bs inside ∙ next (rw more at gap)
end_step false b bs outside gap next = ends_it true b bs outside gap

-- a comment, and the gap up to the end of the text
comment_to_end : (bs : List ℕ) → is_gap true false (drop (prefix_len is_comment bs) bs) ≡ true → is_gap true true bs ≡ true
comment_to_end [] gap = refl
comment_to_end (b ∷ bs) gap = end_step (is_comment b) b bs refl gap (comment_to_end bs)

mid_step : (test : Bool) (b : ℕ) (bs : List ℕ) (n m : ℕ) → is_comment b ≡ test → m ≡ n + (if test then 1 + prefix_len is_comment bs else 0)
    → is_gap false false (take n (drop (if test then 1 + prefix_len is_comment bs else 0) (b ∷ bs))) ≡ true
    → begins is_comment (drop n (drop (if test then 1 + prefix_len is_comment bs else 0) (b ∷ bs))) ≡ true
    → (is_gap false false (take n (drop (prefix_len is_comment bs) bs)) ≡ true → begins is_comment (drop n (drop (prefix_len is_comment bs) bs)) ≡ true
    → is_gap false true (take (n + prefix_len is_comment bs) bs) ≡ true)
    → is_gap false true (take m (b ∷ bs)) ≡ true
mid_step true b bs n m inside e gap token next =
    let more : 1 + prefix_len is_comment bs ≡ suc (prefix_len is_comment bs) = omega arith in
    let whole : m ≡ suc (n + prefix_len is_comment bs) = omega arith in
    rw whole (goes_on false b (take (n + prefix_len is_comment bs) bs) inside ∙ next (rw more at gap) (rw more at token))
mid_step false b bs zero m outside e gap token next = absurd (cc)
mid_step false b bs (suc n) m outside e gap token next =
    let whole : m ≡ suc n = omega arith in
    rw whole (ends_it false b (take n bs) outside gap)

-- a comment, and the gap up to a token
comment_to_token : (bs : List ℕ) (n : ℕ) → is_gap false false (take n (drop (prefix_len is_comment bs) bs)) ≡ true
    → begins is_comment (drop n (drop (prefix_len is_comment bs) bs)) ≡ true → is_gap false true (take (n + prefix_len is_comment bs) bs) ≡ true
comment_to_token [] zero gap token = absurd (cc)
comment_to_token [] (suc n) gap token = absurd (cc)
comment_to_token (b ∷ bs) n gap token = mid_step (is_comment b) b bs n (n + prefix_len is_comment (b ∷ bs)) refl refl gap token (comment_to_token bs n)

-- a hash begins a comment
hash_opens : (last : Bool) (b : ℕ) (rest : List ℕ) → is_hash b ≡ true → is_gap last false (b ∷ rest) ≡ is_gap last true rest
hash_opens last b rest hash = rw (eqb-true b 35 hash) refl

-- a gap in front of the end of the text
pub gap_to_end : (b : ℕ) (bs : List ℕ) (len : ℕ) → Means Gap len b bs → is_gap true false (drop len (b ∷ bs)) ≡ true → is_gap true false (b ∷ bs) ≡ true
gap_to_end b bs len (inl (blank, one)) gap = rw blank (rw one at gap)
gap_to_end b bs len (inr (hash, run)) gap =
    hash_opens true b bs hash ∙ comment_to_end bs (rw (run, add-one) at gap)

-- a gap in front of a token
pub gap_to_token : (b : ℕ) (bs : List ℕ) (len n m : ℕ) → Means Gap len b bs → m ≡ n + len → is_gap false false (take n (drop len (b ∷ bs))) ≡ true
    → begins is_comment (drop n (drop len (b ∷ bs))) ≡ true → is_gap false false (take m (b ∷ bs)) ≡ true
gap_to_token b bs len n m (inl (blank, one)) e gap token =
    let whole : m ≡ suc n = omega arith in
    rw (whole, blank) (rw one at gap)
gap_to_token b bs len n m (inr (hash, run)) e gap token =
    let whole : m ≡ suc (n + prefix_len is_comment bs) = omega arith in
    rw whole (hash_opens false b (take (n + prefix_len is_comment bs) bs) hash ∙ comment_to_token bs n (rw (run, add-one) at gap) (rw (run, add-one) at token))
