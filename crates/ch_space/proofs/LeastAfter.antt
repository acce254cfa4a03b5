-- The steps that find the least instance after a vector.
use Rattle.std.proofs.Common.{◌≡◌, refl, sym, ap, ap₂, ◌∙◌, subst, ℕ, ◌+◌, ◌≤◌, ℤ, pos, ◌<ℤ◌, ◌==◌, true, false, Option, Some, None, List, [], ◌∷◌, ◌++◌, length, map, arith, Result, Ok, Err, IfOk}
use Rattle.std.specs.declared.alloc.AllocError.{AllocError}
use Rattle.std.proofs.lemmas.Bool.{eqb-true}
use Rattle.ch_timed.specs.Members.{In}
use Rattle.ch_space.specs.declared.piece.Piece.{Piece}
use Rattle.ch_space.specs.Following.{BeginsWith, ComesAfter, IsAbove, IsAny, IsLeast}
use Rattle.ch_space.specs.Keeps.{IsWhole}
use Rattle.ch_space.specs.Pieces.{instances}
use Rattle.ch_space.proofs.Followings.{after_ended, after_less, after_nothing, begins_more, begins_never, least_leaves, least_same, least_stays, never_last, never_more, no_places}
use Rattle.ch_space.proofs.PieceElements.{levels_of}

abbrev pub Answers : Piece → List ℤ → List ℕ → List ℤ → Option (List ℤ) → Type 0
Answers p fixed places vector r = IsLeast (BeginsWith fixed (ComesAfter (map pos places) vector)) (instances p) r

module _ (p : Piece) (fixed : List ℤ) (places : List ℕ) (w : IsWhole p) (long : length fixed + length places ≡ p.levels + 1) where
  -- the values behind those that are fixed
  behind_fixed : (place : ℕ) (inner : List ℕ) (xs : List ℤ) → places ≡ place ∷ inner → In xs (instances p) → length xs ≡ length fixed + length inner
  behind_fixed place inner xs e i = let n = ap length e in let l = levels_of p xs w i in omega arith

  all_begin : (place : ℕ) (inner : List ℕ) (vector : List ℤ) (r : Result (Option (List ℤ)) AllocError) → places ≡ place ∷ inner
      → ((rest : List ℤ) → length rest ≡ length inner → ComesAfter (map pos (place ∷ inner)) vector rest) → IfOk r (λ m. IsLeast (BeginsWith fixed IsAny) (instances p) m)
      → IfOk r (λ m. Answers p fixed places vector m)
  all_begin place inner vector (Err o) e h least = tt
  all_begin place inner vector (Ok m) e h least =
      subst (λ ps. Answers p fixed ps vector m) (sym e)
      (least_same (BeginsWith fixed IsAny) (BeginsWith fixed (ComesAfter (map pos (place ∷ inner)) vector)) (instances p) m
      (λ xs i b. begins_more IsAny (ComesAfter (map pos (place ∷ inner)) vector) (length inner) (λ rest l u. h rest l) fixed xs (behind_fixed place inner xs e i) b)
      (λ xs i b. begins_more (ComesAfter (map pos (place ∷ inner)) vector) IsAny (length inner) (λ rest l u. tt) fixed xs (behind_fixed place inner xs e i) b)
      least)

  none_begin : (place : ℕ) (inner : List ℕ) (vector : List ℤ) → places ≡ place ∷ inner → ((rest : List ℤ) → length rest ≡ length inner → ComesAfter (map pos (place ∷ inner)) vector rest → ⊥)
      → Answers p fixed places vector None
  none_begin place inner vector e h =
      subst (λ ps. Answers p fixed ps vector None) (sym e)
      (λ xs i b. begins_never (ComesAfter (map pos (place ∷ inner)) vector) (length inner) h fixed xs (behind_fixed place inner xs e i) b)

  none_at : (places : List ℕ) (vector : List ℤ) (fixed xs : List ℤ) → length places ≡ 0 → BeginsWith fixed (ComesAfter (map pos places) vector) xs → ⊥
  none_at [] vector [] xs e b = no_places vector xs b
  none_at (q ∷ qs) vector [] xs e b = absurd (omega arith)
  none_at places vector (f ∷ fixed) [] e b = b
  none_at places vector (f ∷ fixed) (x ∷ xs) e b = none_at places vector fixed xs e b.1

  pub without_places : (vector : List ℤ) → length places ≡ 0 → Answers p fixed places vector None
  without_places vector e = λ xs i b. none_at places vector fixed xs e b

  pub without_vector : (place : ℕ) (inner : List ℕ) (vector : List ℤ) (r : Result (Option (List ℤ)) AllocError) → places ≡ place ∷ inner → length vector ≡ 0
      → IfOk r (λ m. IsLeast (BeginsWith fixed IsAny) (instances p) m) → IfOk r (λ m. Answers p fixed places vector m)
  without_vector place inner vector r e n least = all_begin place inner vector r e (λ rest l. nothing rest vector n) least
    where
      nothing : (rest v : List ℤ) → length v ≡ 0 → ComesAfter (map pos (place ∷ inner)) v rest
      nothing rest [] n = after_nothing (pos place) (map pos inner) rest
      nothing rest (x ∷ v) n = absurd (omega arith)

  pub at_greater_place : (place : ℕ) (inner : List ℕ) (vector : List ℤ) (now : ℤ) (later : List ℤ) (r : Result (Option (List ℤ)) AllocError) → places ≡ place ∷ inner → vector ≡ now ∷ later
      → now <ℤ pos place → IfOk r (λ m. IsLeast (BeginsWith fixed IsAny) (instances p) m) → IfOk r (λ m. Answers p fixed places vector m)
  at_greater_place place inner vector now later r e v less least =
      all_begin place inner vector r e
      (λ rest l. subst (λ z. ComesAfter (map pos (place ∷ inner)) z rest) (sym v) (after_less now (pos place) later (map pos inner) rest less)) least

  pub at_less_place : (place : ℕ) (inner : List ℕ) (vector : List ℤ) (now : ℤ) (later : List ℤ) → places ≡ place ∷ inner → vector ≡ now ∷ later → pos place <ℤ now
      → Answers p fixed places vector None
  at_less_place place inner vector now later e v more =
      none_begin place inner vector e
      (λ rest l t. never_more now (pos place) later (map pos inner) rest more (subst (λ z. ComesAfter (map pos (place ∷ inner)) z rest) v t))

  pub at_last_place : (place : ℕ) (inner : List ℕ) (vector : List ℤ) (now : ℤ) (later : List ℤ) → places ≡ place ∷ inner → vector ≡ now ∷ later → now ≡ pos place → inner ≡ []
      → Answers p fixed places vector None
  at_last_place place inner vector now later e v same last =
      none_begin place inner vector e
      (λ rest l t. never_last (pos place) later rest (l ∙ ap length last)
      (subst (λ z. ComesAfter (map pos (place ∷ z)) (pos place ∷ later) rest) last (subst (λ z. ComesAfter (map pos (place ∷ inner)) z rest) (v ∙ ap (λ z. z ∷ later) same) t)))

  pub at_end_of_vector : (place : ℕ) (inner : List ℕ) (vector : List ℤ) (now : ℤ) (later : List ℤ) (r : Result (Option (List ℤ)) AllocError) → places ≡ place ∷ inner → vector ≡ now ∷ later
      → now ≡ pos place → 1 ≤ length inner → length later ≡ 0 → IfOk r (λ m. IsLeast (BeginsWith fixed IsAny) (instances p) m) → IfOk r (λ m. Answers p fixed places vector m)
  at_end_of_vector place inner vector now later r e v same some n least =
      all_begin place inner vector r e
      (λ rest l. subst (λ z. ComesAfter (map pos (place ∷ inner)) z rest) (sym (v ∙ ap (λ z. z ∷ later) same)) (ended rest later n (omega arith))) least
    where
      ended : (rest l : List ℤ) → length l ≡ 0 → 1 ≤ length rest → ComesAfter (map pos (place ∷ inner)) (pos place ∷ l) rest
      ended rest [] n m = after_ended (pos place) (map pos inner) rest m
      ended rest (x ∷ l) n m = absurd (omega arith)

  module _ (place : ℕ) (inner : List ℕ) (vector : List ℤ) (now value : ℤ) (later behind next : List ℤ) (e : places ≡ place ∷ inner) (v : vector ≡ now ∷ later) (f : later ≡ value ∷ behind)
      (same : now ≡ pos place) (n : next ≡ fixed ++ value ∷ []) where
    whole_vector : vector ≡ pos place ∷ value ∷ behind
    whole_vector = v ∙ ap₂ (λ x xs. x ∷ xs) same f

    pub stays : (m : List ℤ) → Answers p next inner behind (Some m) → Answers p fixed places vector (Some m)
    stays m least =
        subst (λ ps. Answers p fixed ps vector (Some m)) (sym e)
        (subst (λ z. Answers p fixed (place ∷ inner) z (Some m)) (sym whole_vector)
        (least_stays (pos place) value (map pos inner) behind fixed m (instances p) (subst (λ z. Answers p z inner behind (Some m)) n least)))

    pub leaves : (r : Result (Option (List ℤ)) AllocError) → Answers p next inner behind None → IfOk r (λ m. IsLeast (BeginsWith fixed (IsAbove value)) (instances p) m)
        → IfOk r (λ m. Answers p fixed places vector m)
    leaves (Err o) none least = tt
    leaves (Ok m) none least =
        subst (λ ps. Answers p fixed ps vector m) (sym e)
        (subst (λ z. Answers p fixed (place ∷ inner) z m) (sym whole_vector)
        (least_leaves (pos place) value (map pos inner) behind fixed (instances p) m (subst (λ z. Answers p z inner behind None) n none) least))

pub none_left : (xs : List ℕ) → true ≡ (length xs == 0) → xs ≡ []
none_left [] e = refl
none_left (x ∷ xs) e = (let n : length (x ∷ xs) ≡ 0 = eqb-true (length (x ∷ xs)) 0 (sym e) in absurd (omega arith))

pub some_left : (xs : List ℕ) → false ≡ (length xs == 0) → 1 ≤ length xs
some_left [] e = cc
some_left (x ∷ xs) e = omega arith

pub found_stays : (p : Piece) (next : List ℤ) (inner : List ℕ) (behind : List ℤ) (found : Option (List ℤ)) (r : Option (List ℤ)) → found ≡ r → Answers p next inner behind found → Answers p next inner behind r
found_stays p next inner behind found r e h = subst (Answers p next inner behind) e h
