-- The sections of a deck, one more.
use Rattle.std.proofs.Common.{◌≡◌, ℕ, zero, suc, ◌+◌, ◌-◌, ◌<◌, ◌≤◌, false, nat_lt, List, [], length, Result, Ok, Err, refl, sym, ◌∙◌, lt-ltb, arith}
use Rattle.std.proofs.lemmas.Bool.Decides.{nat_tests}
use Rattle.std.proofs.lemmas.List.Elements.{All-nil}
use Rattle.ch_lex.specs.declared.token.Token.{Token}
use Rattle.ch_workload.specs.declared.error.SectionError.{SectionError}
use Rattle.ch_deck.specs.declared.found.Found.{Found}
use Rattle.ch_deck.specs.Kept.{AreFound, IsRead}
use Rattle.ch_deck.specs.Parts.{AreNames}
use Rattle.ch_deck.specs.Sections.{nothing_found, section_from, sections_from}

module _ (bytes : List ℕ) (tokens : List Token) where
  -- what is left after k sections
  pub sections_more : (n k : ℕ) (f g : Found) (whole : Result Found SectionError) → sections_from (n - k) bytes tokens f ≡ whole → k < n → f.next < length tokens
      → section_from bytes tokens f ≡ Ok g → sections_from (n - (k + 1)) bytes tokens g ≡ whole
  unfolding sections_from
  sections_more n k f g whole h l m e =
      let s : n - k ≡ suc (n - (k + 1)) = omega arith in
      let a = rw s at h in
      let b = rw (lt-ltb f.next (length tokens) m, e) at a in b

  pub sections_fail : (n k : ℕ) (f : Found) (e : SectionError) (whole : Result Found SectionError) → sections_from (n - k) bytes tokens f ≡ whole → k < n → f.next < length tokens
      → section_from bytes tokens f ≡ Err e → whole ≡ Err e
  unfolding sections_from
  sections_fail n k f e whole h l m d =
      let s : n - k ≡ suc (n - (k + 1)) = omega arith in
      let a = rw s at h in
      let b = rw (lt-ltb f.next (length tokens) m, d) at a in sym b

  stop_by : (left : ℕ) (f : Found) → length tokens ≤ f.next → sections_from left bytes tokens f ≡ Ok f
  unfolding sections_from
  stop_by zero f l = refl
  stop_by (suc left) f l = let past : nat_lt f.next (length tokens) ≡ false = grind (arith, nat_tests) in rw past refl

  pub sections_stop : (left : ℕ) (f : Found) (whole : Result Found SectionError) → sections_from left bytes tokens f ≡ whole → length tokens ≤ f.next → whole ≡ Ok f
  sections_stop left f whole h l = sym h ∙ stop_by left f l

no_names : (most : ℕ) → AreNames most []
no_names most = record { few = omega arith; called = refl; differ = refl }

pub nothing_kept : AreFound nothing_found
nothing_kept = record {
  programs = no_names _;
  recipes = no_names _;
  sessions = no_names _;
  clients = no_names _;
  placed = refl;
  read = All-nil IsRead;
  tuned = refl;
  called = refl;
}
