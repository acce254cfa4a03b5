-- The ranks of the places of parts in order.
use Rattle.std.proofs.Common.{◌≡◌, refl, sym, ap, ap₂, ◌∙◌, subst, ℕ, suc, ◌+◌, ◌-◌, ◌<◌, ◌≤◌, ◌^◌, pos, Bool, true, false, cond, List, [], ◌∷◌, ◌++◌, map, length, take, drop, get_or, arith}
use Rattle.std.specs.List.{All, filter}
use Rattle.std.proofs.lemmas.List.{get_or-map, length-map}
use Rattle.std.proofs.lemmas.List.Elements.{All-head, All-tail}
use Rattle.ch_pieces.specs.declared.candidate.Candidate.{Candidate}
use Rattle.ch_pieces.specs.declared.parts.Part.{Part}
use Rattle.ch_pieces.specs.Assembled.{IsAssembled, has_instance, wide}
use Rattle.ch_pieces.specs.InOrder.{AreParts, IsCounted, wide_part}
use Rattle.ch_pieces.proofs.Spaces.{PlacesDiffer, assembled_apart}
use Rattle.ch_space.specs.declared.piece.Piece.{Piece}
use Rattle.ch_space.specs.Keeps.{AreApart, IsWhole, places_of}
use Rattle.ch_space.specs.Pieces.{instances}
use Rattle.ch_space.specs.Renumbered.{AreRanks, all_placed, next_places, placed}
use Rattle.ch_space.proofs.ClosedPieces.{map_placed, rank_length}
use Rattle.ch_space.proofs.PlacesInOrder.{pieces_after, rank_before, rank_here, rank_small, rank_there, ranks_count, ranks_more, so_many}
use Rattle.ch_timed.specs.Closed.{ranks}
use Rattle.ch_timed.proofs.Orders.{ordered_length}

abbrev pub wides : List Part → List Piece
wides parts = map wide_part parts

wide_at : (parts : List Part) (k : ℕ) (d : Part) → k < length parts → get_or (wides parts) k (wide_part d) ≡ wide_part (get_or parts k d)
wide_at parts k d h = get_or-map wide_part parts k d (wide_part d) h

places_at : (parts : List Part) (k : ℕ) (d : Part) (places : List ℕ) → k < length parts → places ≡ (get_or parts k d).places → places ≡ (get_or (wides parts) k (wide_part d)).places
places_at parts k d places h e = e ∙ ap (λ p. p.places) (sym (wide_at parts k d h))

inside : (parts : List Part) (k : ℕ) → k < length parts → k < length (wides parts)
inside parts k h = subst (λ n. k < n) (sym (length-map parts wide_part)) h

-- the ranks of the places of the first k parts
abbrev pub AreRanked : List Part → ℕ → List (List ℕ) → Type 0
AreRanked parts k closed = AreRanks (map places_of (wides parts)) (take k (wides parts)) closed

-- these are the ranks of the places of part k
abbrev pub IsRank : List Part → ℕ → Part → List ℕ → Type 0
IsRank parts k d numbers = map pos numbers ≡ ranks (map places_of (wides parts)) [] (places_of (get_or (wides parts) k (wide_part d)))

pub ranked_long : (parts : List Part) (k : ℕ) (closed : List (List ℕ)) → AreRanked parts k closed → k ≤ length parts → length closed ≡ k
ranked_long parts k closed r h = so_many (map places_of (wides parts)) (wides parts) k closed r (subst (λ n. k ≤ n) (sym (length-map parts wide_part)) h)

pub ranked_before : (parts : List Part) (k : ℕ) (closed lent : List (List ℕ)) (r before : List ℕ) (d : Part) → AreRanked parts k closed → lent ≡ closed → r ≡ get_or lent (k - 1) r → before ≡ r
    → 0 < k → k < length parts → IsRank parts (k - 1) d before
ranked_before parts k closed lent r before d a l e b z h = rank_before (wides parts) k closed lent r before (wide_part d) a l e b z (inside parts k h)

pub ranked_same : (parts : List Part) (k : ℕ) (d : Part) (before old : List ℕ) → k < length parts → IsRank parts k d before → old ≡ (get_or parts k d).places → length before ≡ length old
ranked_same parts k d before old h r o =
    rank_length (map places_of (wides parts)) (get_or (wides parts) k (wide_part d)) before r ∙ ap length (sym (places_at parts k d old h o))

pub ranked_small : (parts : List Part) (k : ℕ) (d : Part) (before : List ℕ) → length parts ≤ 2097152 → IsRank parts k d before → All (λ c. c ≤ 2097152) before
ranked_small parts k d before few r = rank_small (wides parts) (wide_part d) k before (subst (λ n. n ≤ 2097152) (sym (length-map parts wide_part)) few) r

pub ranked_here : (parts : List Part) (k : ℕ) (d e : Part) (before old places next : List ℕ) → AreApart (wides parts) → 0 < k → k < length parts → IsRank parts (k - 1) d old
    → before ≡ (get_or parts (k - 1) d).places → places ≡ (get_or parts k e).places → next ≡ next_places before old places → IsRank parts k e next
ranked_here parts k d e before old places next a z h r b p n =
    rank_here (wides parts) k (wide_part d) (wide_part e) before old places next a z (inside parts k h) r (places_at parts (k - 1) d before (omega arith) b) (places_at parts k e places h p) n

pub ranked_first : (parts : List Part) (k : ℕ) (e : Part) (places next : List ℕ) → AreApart (wides parts) → k ≡ 0 → k < length parts → places ≡ (get_or parts k e).places → next ≡ next_places [] [] places
    → IsRank parts k e next
ranked_first parts k e places next a z h p n = rank_there (wides parts) k (wide_part e) places next a z (inside parts k h) (places_at parts k e places h p) n

pub ranked_more : (parts : List Part) (k : ℕ) (closed new : List (List ℕ)) (next : List ℕ) (d : Part) → AreRanked parts k closed → k < length parts → IsRank parts k d next → new ≡ closed ++ next ∷ []
    → AreRanked parts (k + 1) new
ranked_more parts k closed new next d r h n e = ranks_more (map places_of (wides parts)) (wides parts) k closed new next (wide_part d) r (inside parts k h) n e

-- What is made of the parts.

kept_shorter : (b : Bool) (p : Piece) (ps rest : List Piece) → length rest ≤ length ps → length (cond b (p ∷ rest) rest) ≤ suc (length ps)
kept_shorter true p ps rest h = omega arith
kept_shorter false p ps rest h = omega arith

filter_shorter : (test : Piece → Bool) (ps : List Piece) → length (filter test ps) ≤ length ps
filter_shorter test [] = omega arith
filter_shorter test (p ∷ ps) = kept_shorter (test p) p ps (filter test ps) (filter_shorter test ps)

pub few_parts : (cs : List Candidate) (parts : List Part) → AreParts cs parts → length cs ≤ 2 ^ 20 → length parts ≤ 2097152
few_parts cs parts a h =
    let e = sym (length-map parts wide_part) ∙ ap length a.are in
    let s = ordered_length places_of (filter has_instance (map wide cs)) in
    let f = filter_shorter has_instance (map wide cs) in
    let m = length-map cs wide in
    omega arith

pub parts_apart : (cs : List Candidate) (parts lent : List Part) → AreParts cs parts → All (λ c. IsWhole (wide c)) cs → PlacesDiffer cs → lent ≡ parts → AreApart (wides lent)
parts_apart cs parts lent a w d e = subst (λ z. AreApart (wides z)) (sym e) (subst AreApart (sym a.are) (assembled_apart cs w d))

-- a piece placed twice has the last places
placed_over : (parts : List Part) (closed : List (List ℕ)) → length closed ≡ length parts → all_placed (map (λ p. p.piece) parts) closed ≡ all_placed (wides parts) closed
placed_over [] closed h = refl
placed_over (p ∷ parts) [] h = absurd (omega arith)
placed_over (p ∷ parts) (c ∷ closed) h = ap (λ z. placed p.piece c ∷ z) (placed_over parts closed (omega arith))

counts_are : (parts : List Part) → All IsCounted parts → map (λ p. p.count) parts ≡ map (λ p. length (instances p)) (wides parts)
counts_are [] a = refl
counts_are (p ∷ parts) a = ap₂ (λ n ns. n ∷ ns) (All-head IsCounted p parts a) (counts_are parts (All-tail IsCounted p parts a))

closed_count : (parts : List Part) (closed : List (List ℕ)) → AreRanks (map places_of (wides parts)) (wides parts) closed → length closed ≡ length parts
closed_count parts closed r = ranks_count (map places_of (wides parts)) (wides parts) closed r ∙ length-map parts wide_part

pub enough_parts : (parts lent : List Part) (pieces given : List Piece) (closed : List (List ℕ)) → lent ≡ parts → pieces ≡ map (λ p. p.piece) parts → given ≡ pieces
    → AreRanks (map places_of (wides lent)) (wides lent) closed → length closed ≤ length given
enough_parts parts lent pieces given closed l p g r =
    let a = closed_count lent closed r in
    let b = ap length l in
    let c = ap length (g ∙ p) ∙ length-map parts (λ (p : Part). p.piece) in
    omega arith

pub all_assembled : (cs : List Candidate) (parts lent : List Part) (pieces given new : List Piece) (counts : List ℕ) (closed : List (List ℕ)) → AreParts cs parts → lent ≡ parts
    → AreRanks (map places_of (wides lent)) (wides lent) closed → pieces ≡ map (λ p. p.piece) parts → counts ≡ map (λ p. p.count) parts → given ≡ pieces → new ≡ all_placed given closed
    → IsAssembled cs (take (length pieces) (new ++ drop (length new) pieces)) counts
all_assembled cs parts lent pieces given new counts closed a l r p n g e =
    let ranked : AreRanks (map places_of (wides parts)) (wides parts) closed = subst (λ z. AreRanks (map places_of (wides z)) (wides z) closed) l r in
    let here : take (length pieces) (new ++ drop (length new) pieces) ≡ all_placed (wides parts) closed =
    pieces_after pieces given new closed g e ∙ ap (λ z. all_placed z closed) p ∙ placed_over parts closed (closed_count parts closed ranked) in
    record {
      ranks = closed;
      are_ranks = subst (λ z. AreRanks (map places_of z) z closed) a.are ranked;
      is = here ∙ ap (λ z. all_placed z closed) a.are;
      counted = n ∙ counts_are parts a.counted ∙ sym (ap (map (λ p. length (instances p))) here ∙ map_placed (λ p. length (instances p)) (λ p c. refl) (wides parts) closed);
    }
