-- The tokens that are read cut the text.
use Rattle.std.proofs.Common.{◌≡◌, ℕ, zero, suc, ◌+◌, ◌-◌, ◌<◌, true, false, List, [], ◌∷◌, length, take, drop, Result, Ok, Err, inl, inr, refl, sym, ap, subst, ◌∙◌, arith, length-drop}
use Rattle.std.specs.Prelude.{IfOk}
use Rattle.std.proofs.lemmas.List.{drop-drop, drop_all}
use Rattle.std.proofs.lemmas.Bool.Decides.{nat_tests}
use Rattle.ch_lex.specs.declared.token.Kind.{Kind}
use Rattle.ch_lex.specs.declared.token.Kind.TheVariants as kinds
use Rattle.ch_lex.specs.declared.token.Token.{Token}
use Rattle.ch_lex.specs.declared.error.LexError.{LexError}
use Rattle.ch_lex.specs.declared.ahead.Front.{Front}
use Rattle.ch_lex.specs.declared.ahead.Front.TheVariants.{Gap, Piece, NotAscii, BadByte, NumberTooLarge}
use Rattle.ch_lex.specs.Bytes.{is_digit, is_letter, is_comment, begins}
use Rattle.ch_lex.specs.Tokens.{begun, joined, tokens_from, tokens_of, Gives}
use Rattle.ch_lex.specs.Cut.{is_gap, Stands, IsCut}
use Rattle.ch_lex.proofs.Runs.{begins-take}
use Rattle.ch_lex.proofs.SignTexts.{begins_inside}
use Rattle.ch_lex.proofs.Meanings.{Means, begun_means}
use Rattle.ch_lex.proofs.Gaps.{gap_to_end, gap_to_token}

letter_inside : (bytes : List ℕ) → begins is_letter bytes ≡ true → begins is_comment bytes ≡ true
letter_inside [] h = h
letter_inside (b ∷ bs) h = grind (arith, nat_tests)

digit_inside : (bytes : List ℕ) → begins is_digit bytes ≡ true → begins is_comment bytes ≡ true
digit_inside [] h = h
digit_inside (b ∷ bs) h = grind (arith, nat_tests)

-- no token begins with a byte that ends a comment
token_inside : (kind : Kind) (len : ℕ) (bytes : List ℕ) → Stands kind len bytes → begins is_comment bytes ≡ true
token_inside kinds.Name len bytes h = letter_inside bytes h.first
token_inside (kinds.Number n) len bytes h = digit_inside bytes h.first
token_inside (kinds.Sign s) len bytes h = begins-take is_comment len bytes (rw h.text (begins_inside s))

-- what stands at a place, and what stands behind it
behind : (bytes : List ℕ) (at len : ℕ) (rest : List ℕ) → drop at bytes ≡ rest → drop (at + len) bytes ≡ drop len rest
behind bytes at len rest e = sym (drop-drop len at bytes) ∙ ap (drop len) e

-- a gap in front of what is cut
after_gap : (bytes : List ℕ) (at len b : ℕ) (bs : List ℕ) (ts : List Token) → drop at bytes ≡ b ∷ bs → Means Gap len b bs → IsCut bytes (at + len) ts → IsCut bytes at ts
after_gap bytes at len b bs [] e m h =
    let gap : is_gap true false (drop len (b ∷ bs)) ≡ true = rw (sym (behind bytes at len (b ∷ bs) e)) h in
    rw e (gap_to_end b bs len m gap)
after_gap bytes at len b bs (t ∷ ts) e m h =
    let n = t.start - (at + len) in
    let far : t.start - at ≡ n + len = omega (arith, h.0) in
    let gap : is_gap false false (take n (drop len (b ∷ bs))) ≡ true = rw (sym (behind bytes at len (b ∷ bs) e)) h.1 in
    let there : drop n (drop len (b ∷ bs)) ≡ drop t.start bytes =
    sym (ap (drop n) (behind bytes at len (b ∷ bs) e)) ∙ drop-drop n (at + len) bytes ∙ ap (λ (m : ℕ). drop m bytes) (omega (arith, h.0)) in
    let token : begins is_comment (drop n (drop len (b ∷ bs))) ≡ true = rw there (token_inside t.kind (t.end - t.start) (drop t.start bytes) h.4) in (
      omega (arith, h.0),
      rw e (gap_to_token b bs len n (t.start - at) m far gap token),
      h.2,
      h.3,
      h.4,
      h.5,
    )

-- a token in front of what is cut
after_token : (bytes : List ℕ) (at len b : ℕ) (bs : List ℕ) (kind : Kind) (ts : List Token) → drop at bytes ≡ b ∷ bs → Means (Piece kind) len b bs
    → IsCut bytes (at + len) ts → IsCut bytes at (record { kind = kind; start = at; end = at + len } ∷ ts)
after_token bytes at len b bs kind ts e m h =
    let whole : length bytes - at ≡ length bs + 1 = omega (arith, length-drop at bytes, ap length e) in
    let none : at - at ≡ 0 = omega arith in
    let long : at + len - at ≡ len = omega arith in (
      omega arith,
      rw none refl,
      omega (arith, m.1),
      omega (arith, m.1, m.2, whole),
      rw (e, long) m.0,
      h,
    )

some_gap : (b : ℕ) (bs : List ℕ) (len : ℕ) → Means Gap len b bs → 0 < len
some_gap b bs len (inl (blank, one)) = omega (arith, one)
some_gap b bs len (inr (hash, run)) = omega (arith, run)

moved : (bytes : List ℕ) (at len : ℕ) (ts : List Token) → 0 < len → IsCut bytes (at + 1 + (len - 1)) ts → IsCut bytes (at + len) ts
moved bytes at len ts some h = let same : at + 1 + (len - 1) ≡ at + len = omega arith in subst (λ (m : ℕ). IsCut bytes m ts) same h

cut_on : (front : Front) (bytes : List ℕ) (at len b : ℕ) (bs : List ℕ) (ts : List Token) (after : Result (List Token) LexError) → drop at bytes ≡ b ∷ bs
    → Means front len b bs → joined front len at after ≡ Ok ts → ((us : List Token) → after ≡ Ok us → IsCut bytes (at + 1 + (len - 1)) us) → IsCut bytes at ts
cut_on Gap bytes at len b bs ts after e m h next = after_gap bytes at len b bs ts e m (moved bytes at len ts (some_gap b bs len m) (next ts h))
cut_on (Piece kind) bytes at len b bs ts (Ok us) e m h next =
    let is : record { kind = kind; start = at; end = at + len } ∷ us ≡ ts = cc in
    subst (λ (vs : List Token). IsCut bytes at vs) is (after_token bytes at len b bs kind us e m (moved bytes at len us m.1 (next us refl)))
cut_on (Piece kind) bytes at len b bs ts (Err x) e m h next = absurd (cc)
cut_on NotAscii bytes at len b bs ts after e m h next = absurd (cc)
cut_on BadByte bytes at len b bs ts after e m h next = absurd (cc)
cut_on NumberTooLarge bytes at len b bs ts after e m h next = absurd (cc)

cut : (bytes rest : List ℕ) (taken at : ℕ) (ts : List Token) → drop at bytes ≡ rest → tokens_from taken at rest ≡ Ok ts → IsCut bytes (at + taken) ts
unfolding tokens_from
cut bytes [] taken at ts e h =
    let none : [] ≡ ts = cc in
    let end : drop (at + taken) bytes ≡ [] = behind bytes at taken [] e ∙ drop_all taken [] (omega arith) in
    subst (λ (us : List Token). IsCut bytes (at + taken) us) none (rw end refl)
cut bytes (b ∷ bs) (suc taken) at ts e h =
    let far : at + 1 + taken ≡ at + suc taken = omega arith in
    subst (λ (m : ℕ). IsCut bytes m ts) far (cut bytes bs taken (at + 1) ts (behind bytes at 1 (b ∷ bs) e) h)
cut bytes (b ∷ bs) zero at ts e h =
    let same : at ≡ at + 0 = omega arith in
    let rest : (us : List Token) → tokens_from ((begun b bs).1 - 1) (at + 1) bs ≡ Ok us → IsCut bytes (at + 1 + ((begun b bs).1 - 1)) us = λ us g. cut bytes bs ((begun b bs).1 - 1) (at + 1) us (behind bytes at 1 (b ∷ bs) e) g in
    subst (λ (m : ℕ). IsCut bytes m ts) same
    (cut_on (begun b bs).0 bytes at (begun b bs).1 b bs ts (tokens_from ((begun b bs).1 - 1) (at + 1) bs) e (begun_means b bs) h rest)

pub cut_result : (bytes : List ℕ) (r : Result (List Token) LexError) → Gives r (tokens_of bytes) → IfOk r (λ ts. IsCut bytes 0 ts)
cut_result bytes (Ok ts) h = cut bytes bytes 0 0 ts refl h
cut_result bytes (Err e) h = tt
