-- One piece of a text after another.
use Rattle.std.proofs.Common.{◌≡◌, ℕ, zero, suc, ◌+◌, ◌-◌, ◌<◌, ◌≤◌, List, [], ◌∷◌, ◌++◌, length, drop, get_or, Result, Ok, Err, refl, sym, ap, ◌∙◌, arith, append_assoc}
use Rattle.std.proofs.lemmas.List.{drop_more, drop_all, drop-drop, append-nil}
use Rattle.ch_lex.specs.declared.token.Kind.{Kind}
use Rattle.ch_lex.specs.declared.token.Token.{Token}
use Rattle.ch_lex.specs.declared.error.LexError.{LexError}
use Rattle.ch_lex.specs.declared.error.LexError.TheVariants as errors
use Rattle.ch_lex.specs.declared.ahead.Front.{Front}
use Rattle.ch_lex.specs.declared.ahead.Front.TheVariants.{Gap, Piece, NotAscii, BadByte, NumberTooLarge}
use Rattle.ch_lex.specs.Tokens.{begun, joined, tokens_from}

-- what was found before, and then what is read
abbrev pub with_front : List Token → Result (List Token) LexError → Result (List Token) LexError
with_front found (Ok ts) = Ok (found ++ ts)
with_front found (Err e) = Err e

-- bytes that belong to what stands before are passed over
pub passed : (taken at : ℕ) (bytes : List ℕ) → tokens_from taken at bytes ≡ tokens_from 0 (at + taken) (drop taken bytes)
unfolding tokens_from
passed zero at bytes = ap (λ (n : ℕ). tokens_from 0 n bytes) (omega arith)
passed (suc taken) at [] = refl
passed (suc taken) at (b ∷ bs) =
    passed taken (at + 1) bs ∙ ap (λ (n : ℕ). tokens_from 0 n (drop taken bs)) (omega arith)

-- the piece that begins at a place, and the rest after it
pub opened : (at : ℕ) (bytes : List ℕ) (r : Front × ℕ) → at < length bytes → 0 < r.1
    → begun (get_or bytes at 0) (drop (at + 1) bytes) ≡ r
    → tokens_from 0 at (drop at bytes) ≡ joined r.0 r.1 at (tokens_from 0 (at + r.1) (drop (at + r.1) bytes))
unfolding tokens_from
opened at bytes r l p e =
    rw (drop_more bytes at 0 l, e, passed (r.1 - 1) (at + 1) (drop (at + 1) bytes), drop-drop (r.1 - 1) (at + 1) bytes)
    (let same : at + 1 + (r.1 - 1) ≡ at + r.1 = omega arith in rw same)

with_front-joined : (found : List Token) (k : Kind) (len at : ℕ) (rest : Result (List Token) LexError)
    → with_front found (joined (Piece k) len at rest) ≡ with_front (found ++ record { kind = k; start = at; end = at + len } ∷ []) rest
with_front-joined found k len at (Ok ts) = ap (λ (us : List Token). Ok us) (sym (append_assoc found (record { kind = k; start = at; end = at + len } ∷ []) ts))
with_front-joined found k len at (Err e) = refl

-- each way to go on, and each way to stop
pub more_gap : (found : List Token) (at : ℕ) (bytes : List ℕ) (r : Front × ℕ) (total : Result (List Token) LexError) → at < length bytes → 0 < r.1
    → begun (get_or bytes at 0) (drop (at + 1) bytes) ≡ r → r.0 ≡ Gap → with_front found (tokens_from 0 at (drop at bytes)) ≡ total
    → with_front found (tokens_from 0 (at + r.1) (drop (at + r.1) bytes)) ≡ total
more_gap found at bytes r total l p e k h = rw (opened at bytes r l p e, k) at h

pub more_piece : (found : List Token) (kind : Kind) (at : ℕ) (bytes : List ℕ) (r : Front × ℕ) (total : Result (List Token) LexError) → at < length bytes → 0 < r.1
    → begun (get_or bytes at 0) (drop (at + 1) bytes) ≡ r → r.0 ≡ Piece kind → with_front found (tokens_from 0 at (drop at bytes)) ≡ total
    → with_front (found ++ record { kind = kind; start = at; end = at + r.1 } ∷ []) (tokens_from 0 (at + r.1) (drop (at + r.1) bytes)) ≡ total
more_piece found kind at bytes r total l p e k h =
    sym (with_front-joined found kind r.1 at (tokens_from 0 (at + r.1) (drop (at + r.1) bytes))) ∙ (rw (opened at bytes r l p e, k) at h)

pub stop_not_ascii : (found : List Token) (at : ℕ) (bytes : List ℕ) (r : Front × ℕ) (total : Result (List Token) LexError) → at < length bytes → 0 < r.1
    → begun (get_or bytes at 0) (drop (at + 1) bytes) ≡ r → r.0 ≡ NotAscii → with_front found (tokens_from 0 at (drop at bytes)) ≡ total
    → total ≡ Err (errors.NotAscii at)
stop_not_ascii found at bytes r total l p e k h = sym (rw (opened at bytes r l p e, k) at h)

pub stop_bad_byte : (found : List Token) (at : ℕ) (bytes : List ℕ) (r : Front × ℕ) (total : Result (List Token) LexError) → at < length bytes → 0 < r.1
    → begun (get_or bytes at 0) (drop (at + 1) bytes) ≡ r → r.0 ≡ BadByte → with_front found (tokens_from 0 at (drop at bytes)) ≡ total
    → total ≡ Err (errors.BadByte at)
stop_bad_byte found at bytes r total l p e k h = sym (rw (opened at bytes r l p e, k) at h)

pub stop_too_large : (found : List Token) (at : ℕ) (bytes : List ℕ) (r : Front × ℕ) (total : Result (List Token) LexError) → at < length bytes → 0 < r.1
    → begun (get_or bytes at 0) (drop (at + 1) bytes) ≡ r → r.0 ≡ NumberTooLarge → with_front found (tokens_from 0 at (drop at bytes)) ≡ total
    → total ≡ Err (errors.NumberTooLarge at)
stop_too_large found at bytes r total l p e k h = sym (rw (opened at bytes r l p e, k) at h)

pub stop_end : (found : List Token) (at : ℕ) (bytes : List ℕ) (total : Result (List Token) LexError) → length bytes ≤ at
    → with_front found (tokens_from 0 at (drop at bytes)) ≡ total → total ≡ Ok found
unfolding tokens_from
stop_end found at bytes total l h = sym (rw (drop_all at bytes l, append-nil) at h)
