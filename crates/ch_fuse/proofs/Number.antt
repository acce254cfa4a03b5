-- Candidates leave no more pieces than they are.
use Rattle.std.proofs.Common.{◌≡◌, refl, ap, ℕ, ◌≤◌, ltb, true, false, None, List, map, length, arith}
use Rattle.std.specs.List.{filter, flat_map}
use Rattle.std.proofs.lemmas.Bool.Decides.{nat_tests}
use Rattle.std.proofs.lemmas.List.{length-map}
use Rattle.std.proofs.lemmas.List.Sums.{count_by-le-length, length-filter}
use Rattle.ch_moved.specs.Causes.{too_many}
use Rattle.ch_moved.proofs.Taken.{Taken, listed_taken}
use Rattle.ch_pieces.specs.declared.candidate.Candidate.{Candidate}
use Rattle.ch_pieces.specs.Assembled.{assembled, has_instance, wide}
use Rattle.ch_pieces.specs.Candidates.{AreCandidates}
use Rattle.ch_pieces.proofs.Spaces.{assembled_apart, assembled_in, in_assembled}
use Rattle.ch_space.specs.declared.piece.Piece.{Piece}
use Rattle.ch_space.specs.Keeps.{AreApart, most_pieces, places_of}
use Rattle.ch_space.specs.Pieces.{elements, listed}
use Rattle.ch_space.proofs.Membership.{flat_in, in_flat}
use Rattle.ch_space.proofs.PieceNumbers.{how_many, listed_in}
use Rattle.ch_timed.specs.declared.element.Element.{Element}
use Rattle.ch_timed.specs.Timed.{identities_differ, in_order, pieces}
use Rattle.ch_timed.proofs.Orders.{from_order, ordered_length}

module _ (change : Element → Element) (weight commands : ℕ) (ps : List Piece) (cs : List Candidate) (once : identities_differ (listed ps) ≡ true) (a : AreApart ps) (h : AreCandidates change (listed ps) weight commands cs) where
  taken : Taken change ps (assembled cs)
  taken = record {
    forth = λ e i.
        let p = in_flat elements ps e i in
        let q = in_flat elements (map wide cs) (change e) (h.forth e (listed_in ps p.0 e p.1.0 p.1.1)) in
        flat_in elements (assembled cs) q.0 (change e) (assembled_in cs q.0 (change e) q.1.0 q.1.1) q.1.1;
    back = λ f i.
        let q = in_flat elements (assembled cs) f i in
        let e = h.back f (flat_in elements (map wide cs) q.0 f (in_assembled cs q.0 q.1.0) q.1.1) in
        (e.0, (from_order (λ e. e.vector) (flat_map elements ps) e.0 e.1, e.2));
  }

  few_assembled : length (assembled cs) ≤ length cs
  few_assembled =
      let s = ordered_length places_of (filter has_instance (map wide cs)) in
      let f = length-filter has_instance (map wide cs) in
      let c = count_by-le-length has_instance (map wide cs) in
      let m = length-map cs wide in
      omega arith

  fewer_pieces : length (pieces (in_order (map change (listed ps)))) ≤ length cs
  fewer_pieces =
      let up = assembled_apart cs h.whole h.differ in
      let e = ap (λ z. length (pieces z)) (listed_taken change ps (assembled cs) h.steps once a up taken) in
      let n = how_many (assembled cs) up in
      let f = few_assembled in
      omega arith

  pub never_too_many : length cs ≤ most_pieces → too_many change (listed ps) ≡ None
  never_too_many l =
      let f = fewer_pieces in
      let t : ltb most_pieces (length (pieces (in_order (map change (listed ps))))) ≡ false = grind (arith, nat_tests) in
      rw t refl
