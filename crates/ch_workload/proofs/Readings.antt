-- Readings of sections: what they give, and that each refusal names a place of the text, or its end.
use Rattle.std.proofs.Common.{◌≡◌, ℕ, ◌-◌, ◌≤◌, pos, Bool, true, false, List, length, drop, length-drop, Result, Ok, Err, refl, ap, subst, arith}
use Rattle.ch_lex.specs.Cut.{IsCut}
use Rattle.ch_lex.specs.declared.error.Code2.{Code2}
use Rattle.ch_lex.specs.declared.error.ParseError.{ParseError}
use Rattle.ch_lex.specs.declared.error.ParseError.TheVariants as parsing
use Rattle.ch_lex.specs.declared.token.Token.{Token}
use Rattle.ch_nestparse.specs.declared.ahead.Look.{Look}
use Rattle.ch_nestparse.specs.declared.ahead.Look.TheVariants as looks
use Rattle.ch_nestparse.specs.Read.{number_at, number_if, place, seen}
use Rattle.ch_nestparse.proofs.Placed.{Placed, placed_err, placed_ok}
use Rattle.ch_nestparse.proofs.Posts.{Post}
use Rattle.ch_script.proofs.Left.{Leaves, Left, left_after, left_drop, left_place}
use Rattle.ch_workload.specs.declared.error.DeckCode.{DeckCode}
use Rattle.ch_workload.specs.declared.error.SectionError.{SectionError}
use Rattle.ch_workload.specs.declared.error.SectionError.TheVariants.{Refused}
use Rattle.ch_nestparse.specs.Inside as parsed
use Rattle.ch_workload.specs.Inside.{IsWithin}
use Rattle.ch_workload.specs.Refusals.{◌>>=◌, admitted, lifted, raised}

module _ (bytes : List ℕ) where
  number_if_left : (look : Look) (code : Code2) (at n : ℕ) (ts : List Token) → at ≤ length bytes → Left bytes n ts → Leaves bytes (λ (z : ℕ). Unit {0}) n (number_if look code at ts)
  number_if_left (looks.Number z) code at n ts l h = placed_ok bytes (λ x. Unit {0} × Left bytes n x.1) (z, ts) (tt, h)
  number_if_left other code at n ts l h = placed_err bytes (λ x. Unit {0} × Left bytes n x.1) code at (pos 0) l

  pub number_left : (code : Code2) (n : ℕ) (ts : List Token) → Left bytes n ts → Leaves bytes (λ (z : ℕ). Unit {0}) n (number_at bytes code ts)
  unfolding number_at
  number_left code n ts h = number_if_left (seen bytes ts) code (place bytes ts) n (drop 1 ts) (left_place bytes n ts h) (left_drop bytes n ts h)

  -- the tokens from one on
  pub from_left : (tokens : List Token) (from : ℕ) → IsCut bytes 0 tokens → Left bytes (length tokens - from) (drop from tokens)
  from_left tokens from c =
      let l = left_after bytes from (length tokens) tokens (0, omega arith, c, omega arith) in
      let d : length (drop from tokens) ≡ length tokens - from = length-drop from tokens in
      (l.0, l.1, l.2, omega (arith, d))

  -- a reading that gives such a value, or is refused at a place of the text
  pub record Told {X : Type 0} (P : X → Type 0) (r : Result X SectionError) : Type 0 where
    pub gives : (x : X) → r ≡ Ok x → P x
    pub refuses : (e : SectionError) → r ≡ Err e → IsWithin (length bytes) e

  pub told_ok : {X : Type 0} (P : X → Type 0) (x : X) → P x → Told P (Ok x)
  told_ok P x p = record {
    gives = λ y e. let s : x ≡ y = cc in subst P s p;
    refuses = λ e h. absurd cc;
  }

  pub told_err : {X : Type 0} (P : X → Type 0) (code : DeckCode) (at : ℕ) → at ≤ length bytes → Told P (Err (Refused code at (pos 0)))
  told_err P code at l = record {
    gives = λ y e. absurd cc;
    refuses = λ e h. let s : Refused code at (pos 0) ≡ e = cc in subst (IsWithin (length bytes)) s l;
  }

  pub told_bind : {A B : Type 0} {P : A → Type 0} {Q : B → Type 0} {r : Result A SectionError} {f : A → Result B SectionError} → Told P r → ((x : A) → P x → Told Q (f x)) → Told Q (r >>= f)
  told_bind {r = Ok x} p q = q x (p.gives x refl)
  told_bind {r = Err d} p q = record {
    gives = λ y e. absurd cc;
    refuses = λ e h. let s : d ≡ e = cc in p.refuses e (ap Err s);
  }

  raised_within : (e : ParseError) → parsed.IsWithin (length bytes) e → IsWithin (length bytes) (raised e)
  raised_within (parsing.Refused code at value) h = h
  raised_within parsing.Memory h = tt

  pub told_lifted : {X : Type 0} (P : X → Type 0) (r : Result X ParseError) → Placed bytes P r → Told P (lifted r)
  told_lifted P (Ok x) p = told_ok P x (p.0 x refl)
  told_lifted P (Err d) p = record {
    gives = λ y e. absurd cc;
    refuses = λ e h. let s : raised d ≡ e = cc in subst (IsWithin (length bytes)) s (raised_within d (p.1 d refl));
  }

  pub told_admitted : {X : Type 0} (P : X → Type 0) (test : Bool) (code : DeckCode) (at : ℕ) (x : X) → at ≤ length bytes → (test ≡ true → P x) → Told P (admitted test code at x)
  told_admitted P true code at x l p = told_ok P x (p refl)
  told_admitted P false code at x l p = told_err P code at l

  -- two facts of one reading
  pub placed_with : {X : Type 0} {P Q : X → Type 0} {r : Result X ParseError} → Post Q r → Placed bytes P r → Placed bytes (λ x. P x × Q x) r
  placed_with q p = (λ x e. (p.0 x e, q x e), p.1)
