-- The names of parameters and of levels are found again.
use Rattle.std.proofs.Common.{◌≡◌, ℕ, zero, suc, ◌+◌, ◌<◌, ◌≤◌, Bool, true, false, not, ◌&&◌, cond, nat_lt, List, [], ◌∷◌, ◌++◌, length, Option, Some, None, refl, sym, ap, subst, ◌∙◌, append_assoc, length-append, lt-ltb, arith}
use Rattle.std.specs.Prelude.{is_none}
use Rattle.std.specs.List.{position, position_or_len}
use Rattle.std.specs.Str.{bytes_eq}
use Rattle.std.proofs.lemmas.Bool.{and_parts}
use Rattle.std.proofs.lemmas.Bool.Decides.{nat_tests}
use Rattle.ch_lex.specs.Keywords.{keyword_of}
use Rattle.ch_nestparse.specs.Spelling.{is_name}
use Rattle.ch_nestprint.proofs.NamesRead.{same_bytes}
use Rattle.ch_print.specs.Numbers.{number_text}
use Rattle.ch_script.specs.Names.{find_text, is_free, level_of}
use Rattle.ch_scriptprint.specs.Printable.{are_params}
use Rattle.ch_scriptprint.specs.Printed.{level_text, param_name}

pub none_is : {A : Type 0} (o : Option A) → is_none o ≡ true → o ≡ None
none_is None h = refl
none_is (Some x) h = absurd (cc)

-- where a test passes first

module _ {A : Type 0} (p : A → Bool) where
  step_within : (b : Bool) (n m : ℕ) → n ≤ m → cond (not b) (1 + n) 0 ≤ suc m
  step_within true n m h = omega arith
  step_within false n m h = omega arith

  within : (xs : List A) → position_or_len p xs ≤ length xs
  within [] = omega arith
  within (x ∷ xs) = step_within (p x) (position_or_len p xs) (length xs) (within xs)

  step_back : (b : Bool) (n m : ℕ) → cond (not b) (1 + n) 0 ≡ suc m → (b ≡ false) × (n ≡ m)
  step_back true n m h = absurd (omega arith)
  step_back false n m h = (refl, omega arith)

  step_on : (b : Bool) (n m : ℕ) → b ≡ false → n ≡ m → cond (not b) (1 + n) 0 ≡ suc m
  step_on true n m e h = absurd (cc)
  step_on false n m e h = omega arith

  first_at : (xs : List A) (x : A) (ys : List A) → position_or_len p xs ≡ length xs → p x ≡ true → position_or_len p (xs ++ x ∷ ys) ≡ length xs
  first_at [] x ys h e = ap (λ (b : Bool). cond (not b) (1 + position_or_len p ys) 0) e
  first_at (y ∷ xs) x ys h e =
      let back = step_back (p y) (position_or_len p xs) (length xs) h in
      step_on (p y) (position_or_len p (xs ++ x ∷ ys)) (length xs) back.0 (first_at xs x ys back.1 e)

  none_before : (xs : List A) → is_none (position p xs) ≡ true → position_or_len p xs ≡ length xs
  none_before xs h = by_test (nat_lt (position_or_len p xs) (length xs)) refl h
    where
      by_test : (b : Bool) → nat_lt (position_or_len p xs) (length xs) ≡ b → is_none (cond b (Some (position_or_len p xs)) None) ≡ true → position_or_len p xs ≡ length xs
      by_test true e k = absurd (cc)
      by_test false e k = let l = within xs in let m : length xs ≤ position_or_len p xs = grind (arith, nat_tests) in omega arith

  pub position_at : (xs : List A) (x : A) (ys : List A) → is_none (position p xs) ≡ true → p x ≡ true → position p (xs ++ x ∷ ys) ≡ Some (length xs)
  position_at xs x ys h e =
      let at : position_or_len p (xs ++ x ∷ ys) ≡ length xs = first_at xs x ys (none_before xs h) e in
      let inside : length xs < length (xs ++ x ∷ ys) = omega (arith, length-append xs (x ∷ ys)) in
      rw (at, lt-ltb (length xs) (length (xs ++ x ∷ ys)) inside) refl

-- what is known of a parameter
pub record Known (ps : List (List ℕ)) (k : ℕ) : Type 0 where
  pub named : is_name (param_name ps k) ≡ true
  pub found : find_text (param_name ps k) ps ≡ Some k
  pub apart : level_of (param_name ps k) ≡ None

name_there : (before : List (List ℕ)) (n : List ℕ) (ns : List (List ℕ)) → param_name (before ++ n ∷ ns) (length before) ≡ n
name_there [] n ns = refl
name_there (b ∷ before) n ns = name_there before n ns

known_here : (before : List (List ℕ)) (n : List ℕ) (ns : List (List ℕ)) → is_name n ≡ true → is_free n before ≡ true → Known (before ++ n ∷ ns) (length before)
known_here before n ns h f =
    let parts = and_parts (is_none (find_text n before)) (is_none (level_of n)) f in
    let there = name_there before n ns in
    record {
      named = ap is_name there ∙ h;
      found = ap (λ (text : List ℕ). find_text text (before ++ n ∷ ns)) there ∙ position_at (λ other. bytes_eq other n) before n ns parts.0 (same_bytes n);
      apart = ap level_of there ∙ none_is (level_of n) parts.1;
    }

known_from : (before ns : List (List ℕ)) (k : ℕ) → are_params before ns ≡ true → k < length ns → Known (before ++ ns) (length before + k)
known_from before [] k h l = absurd (omega arith)
known_from before (n ∷ ns) zero h l =
    let parts = and_parts (is_name n) (is_free n before && are_params (before ++ n ∷ []) ns) h in
    let more = and_parts (is_free n before) (are_params (before ++ n ∷ []) ns) parts.1 in
    let at : length before + 0 ≡ length before = omega arith in
    subst (Known (before ++ n ∷ ns)) (sym at) (known_here before n ns parts.0 more.0)
known_from before (n ∷ ns) (suc k) h l =
    let parts = and_parts (is_name n) (is_free n before && are_params (before ++ n ∷ []) ns) h in
    let more = and_parts (is_free n before) (are_params (before ++ n ∷ []) ns) parts.1 in
    let long : length (before ++ n ∷ []) + k ≡ length before + suc k = omega (arith, length-append before (n ∷ [])) in
    let made = known_from (before ++ n ∷ []) ns k more.1 (omega arith) in
    subst (Known (before ++ n ∷ ns)) long (subst (λ (all : List (List ℕ)). Known all (length (before ++ n ∷ []) + k)) (append_assoc before (n ∷ []) ns) made)

pub known : (ps : List (List ℕ)) (k : ℕ) → are_params [] ps ≡ true → k < length ps → Known ps k
known ps k h l = let at : 0 + k ≡ k = omega arith in subst (Known ps) at (known_from [] ps k h l)

-- levels

pub level_back : (l : ℕ) → 1 ≤ l → l ≤ 10 → level_of (level_text l) ≡ Some l
unfolding level_of number_text
level_back zero h m = absurd (omega arith)
level_back (suc zero) h m = refl
level_back (suc (suc zero)) h m = refl
level_back (suc (suc (suc zero))) h m = refl
level_back (suc (suc (suc (suc zero)))) h m = refl
level_back (suc (suc (suc (suc (suc zero))))) h m = refl
level_back (suc (suc (suc (suc (suc (suc zero)))))) h m = refl
level_back (suc (suc (suc (suc (suc (suc (suc zero))))))) h m = refl
level_back (suc (suc (suc (suc (suc (suc (suc (suc zero)))))))) h m = refl
level_back (suc (suc (suc (suc (suc (suc (suc (suc (suc zero))))))))) h m = refl
level_back (suc (suc (suc (suc (suc (suc (suc (suc (suc (suc zero)))))))))) h m = refl
level_back (suc (suc (suc (suc (suc (suc (suc (suc (suc (suc (suc l))))))))))) h m = absurd (omega arith)

pub level_named : (l : ℕ) → 1 ≤ l → l ≤ 10 → is_name (level_text l) ≡ true
unfolding keyword_of number_text
level_named zero h m = absurd (omega arith)
level_named (suc zero) h m = refl
level_named (suc (suc zero)) h m = refl
level_named (suc (suc (suc zero))) h m = refl
level_named (suc (suc (suc (suc zero)))) h m = refl
level_named (suc (suc (suc (suc (suc zero))))) h m = refl
level_named (suc (suc (suc (suc (suc (suc zero)))))) h m = refl
level_named (suc (suc (suc (suc (suc (suc (suc zero))))))) h m = refl
level_named (suc (suc (suc (suc (suc (suc (suc (suc zero)))))))) h m = refl
level_named (suc (suc (suc (suc (suc (suc (suc (suc (suc zero))))))))) h m = refl
level_named (suc (suc (suc (suc (suc (suc (suc (suc (suc (suc zero)))))))))) h m = refl
level_named (suc (suc (suc (suc (suc (suc (suc (suc (suc (suc (suc l))))))))))) h m = absurd (omega arith)
