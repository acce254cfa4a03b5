-- How many pieces the copied list has: those of the old one, and one for each access that is moved.
use Rattle.std.proofs.Common.{◌≡◌, refl, sym, ap, ◌∙◌, ℕ, suc, ℤ, pos, Bool, true, cond, List, [], ◌∷◌, ◌++◌, map, length, inl, inr}
use Rattle.std.specs.List.{filter}
use Rattle.std.proofs.lemmas.List.{length-map}
use Rattle.ch_copied.specs.Plans.{Plan}
use Rattle.ch_datacopy.specs.declared.cells.Cells.{Cells}
use Rattle.ch_datacopy.specs.Works.{AreKept, AreMoved}
use Rattle.ch_pieces.specs.Assembled.{assembled, has_instance, wide}
use Rattle.ch_pieces.specs.declared.candidate.Candidate.{Candidate}
use Rattle.ch_space.specs.declared.piece.Piece.{Piece}
use Rattle.ch_space.specs.Keeps.{AreApart, places_of}
use Rattle.ch_space.specs.Pieces.{listed}
use Rattle.ch_space.specs.Renumbered.{AreRanks, all_placed}
use Rattle.ch_space.proofs.ClosedPieces.{apart_placed, list_closed, places_in}
use Rattle.ch_space.proofs.PieceNumbers.{how_many}
use Rattle.ch_timed.specs.Closed.{below, closed_up, follows, ranks}
use Rattle.ch_timed.specs.Members.{In}
use Rattle.ch_timed.specs.Timed.{pieces}
use Rattle.ch_timed.proofs.Orders.{ordered_length}

-- ranks are natural numbers

abbrev ranked : List (List ℤ) → List ℤ → List ℤ → List ℕ
ranked all front [] = []
ranked all front (p ∷ ps) = below p (follows front all) ∷ ranked all (front ++ p ∷ []) ps

ranked_is : (all : List (List ℤ)) (front ps : List ℤ) → map pos (ranked all front ps) ≡ ranks all front ps
ranked_is all front [] = refl
ranked_is all front (p ∷ ps) = ap (λ z. pos (below p (follows front all)) ∷ z) (ranked_is all (front ++ p ∷ []) ps)

abbrev pub all_ranked : List (List ℤ) → List Piece → List (List ℕ)
all_ranked all [] = []
all_ranked all (q ∷ qs) = ranked all [] (places_of q) ∷ all_ranked all qs

pub are_ranked : (all : List (List ℤ)) (qs : List Piece) → AreRanks all qs (all_ranked all qs)
are_ranked all [] = tt
are_ranked all (q ∷ qs) = (ranked_is all [] (places_of q), are_ranked all qs)

placed_many : (qs : List Piece) (rs : List (List ℕ)) → length (all_placed qs rs) ≡ length qs
placed_many [] rs = refl
placed_many (q ∷ qs) [] = refl
placed_many (q ∷ qs) (r ∷ rs) = ap suc (placed_many qs rs)

-- closing up keeps the number of pieces
pub closed_many : (qs : List Piece) → AreApart qs → length (pieces (closed_up (listed qs))) ≡ length qs
closed_many qs apart =
    let rs = all_ranked (map places_of qs) qs in
    let are = are_ranked (map places_of qs) qs in
    ap (λ z. length (pieces z)) (sym (list_closed qs (all_ranked (map places_of qs) qs) are apart))
    ∙ how_many (all_placed qs (all_ranked (map places_of qs) qs)) (apart_placed (map places_of qs) qs (all_ranked (map places_of qs) qs) (places_in qs) are apart)
    ∙ placed_many qs (all_ranked (map places_of qs) qs)

-- the assembled candidates are as many as the candidates, where each has an instance

filter_all : {X : Type 0} (t : X → Bool) (xs : List X) → ((x : X) → In x xs → t x ≡ true) → filter t xs ≡ xs
filter_all t [] h = refl
filter_all t (x ∷ xs) h = ap (λ b. cond b (x ∷ filter t xs) (filter t xs)) (h x (inl refl)) ∙ ap (λ z. x ∷ z) (filter_all t xs (λ y i. h y (inr i)))

pub assembled_many : (cs : List Candidate) → ((q : Piece) → In q (map wide cs) → has_instance q ≡ true) → length (assembled cs) ≡ length cs
assembled_many cs h =
    ordered_length places_of (filter has_instance (map wide cs)) ∙ ap length (filter_all has_instance (map wide cs) h) ∙ length-map cs wide

pub kept_many : (p : Plan) (qs : List Piece) (ks : List Candidate) → AreKept p qs ks → length ks ≡ length qs
kept_many p [] [] k = refl
kept_many p [] (c ∷ ks) k = absurd k
kept_many p (q ∷ qs) [] k = absurd k
kept_many p (q ∷ qs) (c ∷ ks) k = ap suc (kept_many p qs ks k.1)

pub moved_many : (p : Plan) (n : ℕ) (us : List Cells) (ms : List Candidate) → AreMoved p n us ms → length ms ≡ length us
moved_many p n [] [] m = refl
moved_many p n [] (c ∷ ms) m = absurd m
moved_many p n (u ∷ us) [] m = absurd m
moved_many p n (u ∷ us) (c ∷ ms) m = ap suc (moved_many p (suc n) us ms m.1)
