-- Candidates for a space, and what its type says of a level.
use Rattle.std.proofs.Common.{◌≡◌, refl, sym, ap, ◌∙◌, subst, ℕ, zero, suc, ◌+◌, ◌-◌, ◌<◌, ◌≤◌, ◌^◌, ℤ, pos, negsuc, ◌<ℤ◌, ◌≤ℤ◌, int_le, int_lt, ◌+ℤ◌, ◌-ℤ◌, unsigned_abs, true, false, Option, Some, None, List, [], ◌∷◌, ◌++◌, length, map, get_or, arith, length-append, Result, Ok, Err}
use Rattle.ch_moved.specs.Room.{HasRoom}
use Rattle.std.specs.Result.{IfOk}
use Rattle.std.specs.declared.alloc.AllocError.{AllocError}
use Rattle.std.specs.List.{All}
use Rattle.std.proofs.lemmas.Bool.{and_parts}
use Rattle.std.proofs.lemmas.Int.{ints}
use Rattle.std.proofs.lemmas.List.Elements.{All-append, All-cons, All-head, All-nil, All-tail}
use Rattle.ch_affine.specs.Affine.{IsAtMost, IsSmall}
use Rattle.ch_affine.specs.Form.{Form}
use Rattle.ch_cut.specs.Cut.{cuts, large_coefficient, large_constant, names_deeper, no_count, peel_cause, peels}
use Rattle.ch_cut.specs.Ends.{IsLeastOf}
use Rattle.ch_cut.specs.Forms.{IsModest, at_most, holds_at}
use Rattle.ch_cut.specs.Parts.{AllParts}
use Rattle.ch_cut.proofs.Leasts.{peels_up_to}
use Rattle.ch_cut.proofs.PartLists.{all_few, are_candidates}
use Rattle.ch_moved.specs.Arguments.{depth, has_level, is_piece, natural}
use Rattle.ch_moved.specs.Causes.{Answers, first_of, no_level, no_piece, too_many}
use Rattle.ch_moved.proofs.Allowed.{all_small, none_first, passes_first}
use Rattle.ch_moved.proofs.Causing.{piece_number}
use Rattle.ch_moved.proofs.Values.{length_zeros}
use Rattle.ch_nest.specs.declared.cause.Shape.{Shape}
use Rattle.ch_pieces.specs.declared.candidate.Candidate.{Candidate}
use Rattle.ch_pieces.specs.Candidates.{AreCandidates}
use Rattle.ch_space.specs.Built.{zeros}
use Rattle.ch_space.specs.declared.error.ShapeError.{ShapeError}
use Rattle.ch_space.specs.declared.piece.Piece.{Piece}
use Rattle.ch_space.specs.Keeps.{AreApart, IsLimited, IsSpace, most_commands, places_of}
use Rattle.ch_space.specs.Listed.{Listed}
use Rattle.ch_space.specs.Pieces.{listed}
use Rattle.ch_space.proofs.PieceElements.{length_pos}
use Rattle.ch_space.proofs.PieceNumbers.{numbered}
use Rattle.ch_space.proofs.Readings.{places_at}
use Rattle.ch_timed.specs.declared.element.Element.{Element}
use Rattle.ch_timed.specs.Groups.{piece}
use Rattle.ch_timed.specs.Timed.{pieces}

-- the piece and the level of the arguments
pub record Stands (list : List Element) (s level : ℤ) : Type 0 where
  pub is_piece : is_piece list s ≡ true
  pub some : 1 ≤ unsigned_abs level
  pub natural_is : natural level ≡ unsigned_abs level
  pub level_is : level ≡ pos (unsigned_abs level)
  pub deep : unsigned_abs level + 1 ≤ length (piece list (natural s))

pub stands : (list : List Element) (s level : ℤ) → no_piece list (s ∷ []) ≡ None → no_level list (s ∷ []) level ≡ None → Stands list s level
stands list s (pos n) a b =
    let h = and_parts (int_le (pos 1) (pos n)) (int_le (pos n) (pos (depth list s))) (passes_first (has_level list (pos n) s) _ None b).0 in
    let one : 1 ≤ n = at_least n h.0 in
    let top : n ≤ depth list s = at_most_of n (depth list s) h.1 in
    record { is_piece = (passes_first (is_piece list s) _ None a).0; some = one; natural_is = refl; level_is = refl; deep = omega arith }
  where
    at_least : (n : ℕ) → int_le (pos 1) (pos n) ≡ true → 1 ≤ n
    at_least n e = grind (arith, ints)

    at_most_of : (n d : ℕ) → int_le (pos n) (pos d) ≡ true → n ≤ d
    at_most_of n d e = grind (arith, ints)
stands list s (negsuc n) a b =
    let h = and_parts (int_le (pos 1) (negsuc n)) (int_le (negsuc n) (pos (depth list s))) (passes_first (has_level list (negsuc n) s) _ None b).0 in
    absurd (below n h.0)
  where
    below : (n : ℕ) → int_le (pos 1) (negsuc n) ≡ true → ⊥
    below n e = grind (arith, ints)

few_places : (w c : ℕ) (ps : List Piece) (k : ℕ) → AreApart ps → All (IsLimited w c) ps → length (get_or (map places_of ps) k []) ≤ 11
few_places w c [] zero a l = omega arith
few_places w c [] (suc k) a l = omega arith
few_places w c (p ∷ ps) zero a l = let h = (All-head (IsLimited w c) p ps l).levels in let m = length_pos p.places in let e = a.0.places in omega arith
few_places w c (p ∷ ps) (suc k) a l = few_places w c ps k a.3 (All-tail (IsLimited w c) p ps l)

pub few_levels : (arrays w c : ℕ) (ps : List Piece) (counts : List ℕ) (temps : List (List ℕ)) (s level : ℤ) (list : List Element) → IsSpace arrays ps counts temps w c → listed ps ≡ list → Stands list s level
    → unsigned_abs level ≤ 10
few_levels arrays w c ps counts temps s level list space e st =
    let f = few_places w c ps (natural s) space.apart space.limited in
    let n : piece (listed ps) (natural s) ≡ get_or (map places_of ps) (natural s) [] = ap (λ z. get_or z (natural s) []) (numbered ps space.apart) in
    let m = ap length (ap (λ z. piece z (natural s)) (sym e) ∙ n) in
    let d = st.deep in
    omega arith

pub all_room : (arrays w c : ℕ) (ps : List Piece) (counts : List ℕ) (temps : List (List ℕ)) → IsSpace arrays ps counts temps w c → c < most_commands → All (HasRoom 1) ps
all_room arrays w c ps counts temps space few = λ k d l. record { weight = w; commands = c; limited = space.limited k d l; some = space.some_weight; small = let h = space.small_weight in omega arith; few = few }

module _ (list : List Element) (ps : List Piece) (a : AreApart ps) (e : listed ps ≡ list) (s level : ℤ) (st : Stands list s level) (all : List Piece) (is : all ≡ ps) (item : Piece)
    (at : item ≡ get_or all (unsigned_abs s) item) where
  number : unsigned_abs s < length (pieces list)
  number = (piece_number list s st.is_piece).0

  pub ours_are : places_of item ≡ piece list (natural s)
  ours_are = ap places_of at ∙ places_at list ps a e all (unsigned_abs s) item is number ∙ ap (piece list) (sym (piece_number list s st.is_piece).1)

  pub deep_places : unsigned_abs level + 1 ≤ length item.places
  deep_places = let l = ap length ours_are in let m = length_pos item.places in let d = st.deep in omega arith

pub made : (arrays w c : ℕ) (ps : List Piece) (counts : List ℕ) (temps : List (List ℕ)) (v : Listed) (s level : ℤ) (f : Form) (all : List Piece) (item : Piece) (ours : List ℕ)
    (r : Result (List Candidate) AllocError) → IsSpace arrays ps counts temps w c → record { list = listed ps; arrays = arrays; temps = temps; weight = w; commands = c } ≡ v → v.commands < most_commands
    → Stands v.list s level → all ≡ ps → item ≡ get_or all (unsigned_abs s) item → ours ≡ item.places → IfOk r (AllParts (unsigned_abs level) (map pos ours) (holds_at f) all)
    → IfOk r (AreCandidates (cuts v.list s level (holds_at f)) v.list v.weight (v.commands + 1))
made arrays w c ps counts temps v s level f all item ours (Ok cs) space e few st is at o parts =
    subst (λ (v : Listed). v.commands < most_commands → Stands v.list s level → AreCandidates (cuts v.list s level (holds_at f)) v.list v.weight (v.commands + 1) cs) e
    (λ few st.
    let here : map pos ours ≡ piece (listed ps) (natural s) = ap (map pos) o ∙ ours_are (listed ps) ps space.apart refl s level st all is item at in
    let same : AllParts (natural level) (piece (listed ps) (natural s)) (holds_at f) ps cs =
    subst (λ n. AllParts n (piece (listed ps) (natural s)) (holds_at f) ps cs) (sym st.natural_is)
    (subst (λ z. AllParts (unsigned_abs level) z (holds_at f) ps cs) here (subst (λ z. AllParts (unsigned_abs level) (map pos ours) (holds_at f) z cs) is parts)) in
    let one : 1 ≤ natural level = subst (λ n. 1 ≤ n) (sym st.natural_is) st.some in
    are_candidates (natural level) (piece (listed ps) (natural s)) (holds_at f) ps cs w c one space.apart space.well_formed same space.some_weight space.small_weight few space.limited)
    few st
made arrays w c ps counts temps v s level f all item ours (Err e) space k few st is at o parts = tt

pub made_few : (level : ℕ) (ours : List ℤ) (f : Form) (ps all : List Piece) (r : Result (List Candidate) AllocError) → length ps ≤ 256 → all ≡ ps → IfOk r (AllParts level ours (holds_at f) all)
    → IfOk r (λ cs. length cs ≤ 2 ^ 20)
made_few level ours f ps all (Ok cs) few is parts = let h = all_few level ours (holds_at f) all cs parts in let e = ap length is in omega arith
made_few level ours f ps all (Err e) few is parts = tt

-- the turns that are peeled off
pub turns_same : (list : List Element) (ps all : List Piece) (s level k v : ℤ) (item : Piece) (f : Form) → AreApart ps → listed ps ≡ list → Stands list s level → all ≡ ps
    → item ≡ get_or all (unsigned_abs s) item → f ≡ at_most (unsigned_abs level) v → (pos 0 <ℤ k → IsLeastOf all (places_of item) (unsigned_abs level) (pos 1) ((v +ℤ pos 1) -ℤ k))
    → (k ≤ℤ pos 0 → IsLeastOf all (places_of item) (unsigned_abs level) (negsuc 0) (k -ℤ v)) → (xs : List ℤ) → holds_at f xs ≡ peels list s level k xs
turns_same list ps all s level k v item f a e st is at g front back xs =
    let ours = ours_are list ps a e s level st all is item at ∙ ap (λ z. piece z (natural s)) (sym e) in
    let same : (sign w : ℤ) → IsLeastOf all (places_of item) (unsigned_abs level) sign w → IsLeastOf ps (piece (listed ps) (natural s)) (natural level) sign w = λ sign w h.
    subst (λ n. IsLeastOf ps (piece (listed ps) (natural s)) n sign w) (sym st.natural_is)
    (subst (λ z. IsLeastOf ps z (unsigned_abs level) sign w) ours (subst (λ z. IsLeastOf z (places_of item) (unsigned_abs level) sign w) is h)) in
    ap (λ z. holds_at z xs) (g ∙ ap (λ n. at_most n v) (sym st.natural_is))
    ∙ peels_up_to ps a s level k v xs (λ h. same (pos 1) _ (front h)) (λ h. same (negsuc 0) _ (back h))
    ∙ ap (λ z. peels z s level k xs) e

-- the last one of some causes

pub last_cause : (os : List (Option Shape)) (t : Option Shape) → first_of os ≡ None → first_of (os ++ t ∷ []) ≡ t
last_cause [] None e = refl
last_cause [] (Some c) e = refl
last_cause (None ∷ os) t e = last_cause os t e
last_cause (Some c ∷ os) t e = absurd cc

pub early_cause : (os : List (Option Shape)) (t : Option Shape) (c : Shape) → first_of os ≡ Some c → first_of (os ++ t ∷ []) ≡ Some c
early_cause [] t c e = absurd cc
early_cause (None ∷ os) t c e = early_cause os t c e
early_cause (Some d ∷ os) t c e = e

pub coefs_small : (list : List Element) (s level : ℤ) (f : Form)
    → first_of (no_piece list (s ∷ []) ∷ no_level list (s ∷ []) level ∷ names_deeper level f ∷ large_coefficient f ∷ large_constant f ∷ []) ≡ None → All (IsAtMost 64) f.coefs
coefs_small list s level f h =
    let a = none_first (no_piece list (s ∷ [])) _ h in
    let b = none_first (no_level list (s ∷ []) level) _ a.1 in
    let c = none_first (names_deeper level f) _ b.1 in
    all_small 64 f.coefs (none_first (large_coefficient f) _ c.1).0

-- what holds of each value

pub ok_map : {X : Type 0} (r : Result X AllocError) (P Q : X → Type 0) → ((x : X) → P x → Q x) → IfOk r P → IfOk r Q
ok_map (Ok x) P Q f h = f x h
ok_map (Err e) P Q f h = tt

pub at_most_short : (n : ℕ) (v level : ℤ) (f : Form) → 1 ≤ n → level ≡ pos n → f ≡ at_most n v → pos (length f.coefs) ≤ℤ level
at_most_short n v level f some is e =
    let a = length-append (zeros (n - 1)) (negsuc 0 ∷ []) in
    let b = length_zeros (n - 1) in
    let l : length f.coefs ≡ n = ap (λ g. length g.coefs) e ∙ omega arith in
    omega (arith, ints)

pub at_most_modest : (n : ℕ) (v : ℤ) (f : Form) → IsAtMost (2 ^ 59) v → f ≡ at_most n v → IsModest f
at_most_modest n v f near e =
    subst IsModest (sym e) (record {
      coefs = All-append (IsAtMost (2 ^ 59)) (zeros (n - 1)) (negsuc 0 ∷ []) (small_zeros (n - 1)) (All-cons (IsAtMost (2 ^ 59)) (negsuc 0) [] (omega arith) (All-nil (IsAtMost (2 ^ 59))));
      constant = near;
    })
  where
    small_zeros : (n : ℕ) → All (IsAtMost (2 ^ 59)) (zeros n)
    small_zeros zero = All-nil (IsAtMost (2 ^ 59))
    small_zeros (suc n) = All-cons (IsAtMost (2 ^ 59)) (pos 0) (zeros n) (omega arith) (small_zeros n)

pub condition_small : (cs made : List ℤ) (k level : ℤ) (n : ℕ) → made ≡ cs → pos (length cs) ≤ℤ level → level ≡ pos n → n ≤ 10 → All (IsAtMost 64) cs → IsAtMost (2 ^ 30) k
    → IsSmall (record { coefs = made; constant = k })
condition_small cs made k level n e short is few small near =
    subst (λ z. IsSmall (record { coefs = z; constant = k })) (sym e) (record {
      few = let h : length cs ≤ n = omega (arith, ints) in omega arith;
      coefs = λ i d l. let m = small i d l in omega arith;
      constant = omega arith;
    })

-- the parts of what peeling answers

pub peel_same : (list : List Element) (s level k : ℤ) (f : Form) → ((xs : List ℤ) → holds_at f xs ≡ peels list s level k xs)
    → cuts list s level (holds_at f) ≡ cuts list s level (peels list s level k)
peel_same list s level k f h = ap (cuts list s level) (λ i xs. h xs i)

pub peel_answers : {X : Type 0} (r : Result X ShapeError) (list : List Element) (s level k : ℤ) (f : Form) → ((xs : List ℤ) → holds_at f xs ≡ peels list s level k xs)
    → first_of (no_piece list (s ∷ []) ∷ no_level list (s ∷ []) level ∷ no_count k ∷ []) ≡ None → Answers r (too_many (cuts list s level (holds_at f)) list) → Answers r (peel_cause list s level k)
peel_answers r list s level k f h none a =
    subst (Answers r)
    (ap (λ g. too_many g list) (peel_same list s level k f h)
    ∙ sym (last_cause (no_piece list (s ∷ []) ∷ no_level list (s ∷ []) level ∷ no_count k ∷ []) (too_many (cuts list s level (peels list s level k)) list) none))
    a

-- tests of numbers

pub from_le : (a b : ℤ) → int_le a b ≡ true → a ≤ℤ b
from_le a b e = grind (arith, ints)

pub from_not_le : (a b : ℤ) → int_le a b ≡ false → b <ℤ a
from_not_le a b e = grind (arith, ints)

pub from_lt : (a b : ℤ) → int_lt a b ≡ true → a <ℤ b
from_lt a b e = grind (arith, ints)
