-- The names of a recipe that was read: each parameter that is found exists, levels are 1 to 10, and there are at most 6 parameters.
use Rattle.std.proofs.Common.{◌≡◌, ℕ, ◌<◌, ◌≤◌, ◌+◌, Bool, true, false, ◌&&◌, cond, nat_le, nat_lt, List, [], ◌∷◌, ◌++◌, length, drop, Option, Some, Ok, length-append, refl, subst, arith}
use Rattle.std.specs.Prelude.{find}
use Rattle.std.specs.List.{list_all}
use Rattle.std.specs.Str.{bytes_eq}
use Rattle.std.proofs.lemmas.Bool.{and_parts, leb-true, ltb-true}
use Rattle.std.proofs.lemmas.List.Quantifiers.{position-Some}
use Rattle.ch_lex.specs.declared.error.Code2.TheVariants.{R1, R3, R4}
use Rattle.ch_lex.specs.declared.token.Sign.TheVariants as signs
use Rattle.ch_lex.specs.declared.token.Token.{Token}
use Rattle.ch_nestparse.specs.Read.{◌>>=◌, next_is, place, repeated, sign_at}
use Rattle.ch_nestparse.proofs.Placed.{placed_bind, placed_choose, placed_guarded, placed_ok}
use Rattle.ch_script.specs.Limits.{most_params}
use Rattle.ch_script.specs.Names.{find_text, is_free, level_name, level_of, levels, more_param_at, next_is_comma, param_at, params_at}
use Rattle.ch_script.proofs.Left.{Leaves, Left, left_drop, left_place, name_left, placed_if, repeated_left, sign_left}

pub found_inside : (text : List ℕ) (texts : List (List ℕ)) (k : ℕ) → find_text text texts ≡ Some k → k < length texts
found_inside text texts k h = (position-Some (λ other. bytes_eq other text) texts k [] h).0

found_if : (q : ℕ → Bool) (test : Bool) (x l : ℕ) (rest : Option ℕ) → q x ≡ true → (rest ≡ Some l → q l ≡ true) → cond test (Some x) rest ≡ Some l → q l ≡ true
found_if q true x l rest a g e = let s : x ≡ l = cc in subst (λ y. q y ≡ true) s a
found_if q false x l rest a g e = g e

found_all : (q p : ℕ → Bool) (xs : List ℕ) (l : ℕ) → list_all q xs ≡ true → find p xs ≡ Some l → q l ≡ true
found_all q p [] l a e = absurd cc
found_all q p (x ∷ xs) l a e =
    let parts = and_parts _ _ a in
    found_if q (p x) x l (find p xs) parts.0 (found_all q p xs l parts.1) e

abbrev is_level : ℕ → Bool
is_level l = nat_le 1 l && nat_le l 10

pub level_inside : (text : List ℕ) (l : ℕ) → level_of text ≡ Some l → (1 ≤ l) × (l ≤ 10)
unfolding level_of
level_inside text l h =
    let parts = and_parts _ _ (found_all is_level (λ k. bytes_eq (level_name k) text) levels l refl h) in
    (leb-true 1 l parts.0, leb-true l 10 parts.1)

module _ (bytes : List ℕ) (n : ℕ) where
  abbrev pub Few : List (List ℕ) → Type 0
  Few ps = length ps ≤ most_params

  param_left : (ps : List (List ℕ)) (ts : List Token) → Few ps × Left bytes n ts → Leaves bytes Few n (param_at bytes ps ts)
  unfolding param_at
  param_left ps ts h =
      placed_bind bytes (name_left bytes R1 n ts h.1) (λ name a.
      placed_bind bytes (placed_guarded bytes (is_free name.0 ps) R3 (place bytes ts) (λ _. Ok name.0) (left_place bytes n ts h.1) (placed_ok bytes (λ t. Unit {0}) name.0 tt)) (λ free b.
      placed_bind bytes (placed_if bytes (nat_lt (length ps) most_params) R4 (place bytes ts) (λ _. Ok free) (left_place bytes n ts h.1) (λ few. placed_ok bytes (λ t. length ps < most_params) free (ltb-true (length ps) most_params few))) (λ few c.
      let more : length (ps ++ few ∷ []) ≡ length ps + 1 = length-append ps (few ∷ []) in
      placed_ok bytes (λ x. Few x.0 × Left bytes n x.1) (ps ++ few ∷ [], name.1) (omega (arith, c, more), a.1))))

  more_param_left : (ps : List (List ℕ)) (ts : List Token) → Few ps × Left bytes n ts → Leaves bytes Few n (more_param_at bytes ps ts)
  unfolding more_param_at
  more_param_left ps ts h = placed_bind bytes (sign_left bytes R1 signs.Comma n ts h.1) (λ rest a. param_left ps rest (h.0, a))

  pub params_left : (ts : List Token) → Left bytes n ts → Leaves bytes Few n (params_at bytes ts)
  unfolding params_at
  params_left ts h =
      placed_choose bytes (next_is bytes signs.RightParen ts) (λ _. Ok ([], drop 1 ts))
      (λ _. param_at bytes [] ts >>= λ first. repeated (next_is_comma bytes) (more_param_at bytes) most_params first.0 first.1
      >>= λ all. sign_at bytes R1 signs.RightParen all.1 >>= λ rest. Ok (all.0, rest))
      (placed_ok bytes (λ x. Few x.0 × Left bytes n x.1) ([], drop 1 ts) (omega arith, left_drop bytes n ts h))
      (placed_bind bytes (param_left [] ts (omega arith, h)) (λ first a.
      placed_bind bytes (repeated_left bytes (λ ps us. Few ps × Left bytes n us) (next_is_comma bytes) (more_param_at bytes) more_param_left most_params first.0 first.1 a) (λ all b.
      placed_bind bytes (sign_left bytes R1 signs.RightParen n all.1 b.1) (λ rest c.
      placed_ok bytes (λ x. Few x.0 × Left bytes n x.1) (all.0, rest) (b.0, c)))))
