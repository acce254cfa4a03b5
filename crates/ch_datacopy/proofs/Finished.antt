-- The candidates of a copy can be assembled, and what comes of it is a space that stands for the copied list.
use Rattle.std.proofs.Common.{◌≡◌, ◌≢◌, refl, sym, ap, ap₂, ◌∙◌, subst, ℕ, suc, ◌+◌, ◌<◌, ◌≤◌, ◌^◌, Bool, true, false, cond, IfSome, List, [], ◌∷◌, ◌++◌, map, length, sum, ◌⊎◌, inl, inr, length-append, arith}
use Rattle.std.specs.List.{All, filter}
use Rattle.std.proofs.lemmas.List.{length-map}
use Rattle.ch_copied.specs.Copied.{copied}
use Rattle.ch_copied.specs.Plans.{Plan}
use Rattle.ch_copied.proofs.Meaning.{same_meaning}
use Rattle.ch_copied.proofs.Inside.{stays_inside}
use Rattle.ch_datacopy.specs.declared.cells.Cells.{Cells}
use Rattle.ch_datacopy.specs.Sources.{forms}
use Rattle.ch_datacopy.specs.Works.{AreKept, AreMoved, IsKept}
use Rattle.ch_datacopy.proofs.Assembling.{all_elsewhere, fewer_uses}
use Rattle.ch_datacopy.proofs.Counted.{kept_many, moved_many}
use Rattle.ch_datacopy.proofs.Elementwise.{kept_instances, move_instances}
use Rattle.ch_datacopy.proofs.Made.{all_whole, candidate, made_list, made_space, up}
use Rattle.ch_datacopy.proofs.Numbered.{nth_in}
use Rattle.ch_datacopy.proofs.Planned.{IsCopying, cells_many}
use Rattle.ch_datacopy.proofs.Together.{IsOne}
use Rattle.ch_order.specs.Agreement.{KeepsArrays}
use Rattle.ch_order.proofs.Agreements.{keeps_but}
use Rattle.ch_pieces.specs.Assembled.{IsAssembled, assembled, has_instance, wide}
use Rattle.ch_pieces.specs.Candidates.{IsKnown}
use Rattle.ch_pieces.specs.declared.candidate.Candidate.{Candidate}
use Rattle.ch_pieces.proofs.Spaces.{fewer_instances, places_differ}
use Rattle.ch_space.specs.declared.piece.Piece.{Piece}
use Rattle.ch_space.specs.Keeps.{AreApart, IsSpace, IsWhole, most_commands, most_instances, most_levels, most_pieces, places_of}
use Rattle.ch_space.specs.Pieces.{instances, listed}
use Rattle.ch_space.specs.Renumbered.{all_placed}
use Rattle.ch_space.proofs.ClosedPieces.{apart_placed, places_in}
use Rattle.ch_space.proofs.PieceNumbers.{all_in, list_length}
use Rattle.ch_timed.specs.declared.element.Cell.{Cell}
use Rattle.ch_timed.specs.Do.{Store, done}
use Rattle.ch_timed.specs.declared.element.Element.{Element}
use Rattle.ch_timed.specs.Flat.{IsInside, StaysInside}
use Rattle.ch_timed.specs.Members.{In, Pairwise}
use Rattle.ch_timed.specs.Timed.{step}
use Rattle.ch_timed.proofs.Orders.{ordered_length}

filter_short : {X : Type 0} (t : X → Bool) (xs : List X) → length (filter t xs) ≤ length xs
filter_short t [] = omega arith
filter_short {X} t (x ∷ xs) = by (t x) (filter_short t xs)
  where
    by : (b : Bool) → length (filter t xs) ≤ length xs → length (cond b (x ∷ filter t xs) (filter t xs)) ≤ length (x ∷ xs)
    by true l = omega (arith, l)
    by false l = omega (arith, l)

all_inside : (extents : List (List ℕ)) (list : List Element) → StaysInside extents list → (e : Element) → In e list → IsInside extents (step e)
all_inside extents [] h e i = absurd i
all_inside extents (x ∷ xs) h e (inl j) = subst (λ (z : Element). IsInside extents (step z)) j h.0
all_inside extents (x ∷ xs) h e (inr i) = all_inside extents xs h.1 e i

module _ (arrays : ℕ) (ps : List Piece) (counts : List ℕ) (temps : List (List ℕ)) (weight commands : ℕ) (p : Plan) (m : ℕ) (us : List Cells)
    (k : IsCopying arrays ps counts temps weight commands p m us) (small : length ps + length us ≤ most_pieces)
    (cs ks ms : List Candidate) (parts : cs ≡ ks ++ ms) (keeps : AreKept p ps ks) (moves : AreMoved p 0 us ms) where
  its_candidate : (c : Candidate) → In c cs → ((q : Piece) × (In q ps × IsKept p q c)) ⊎ IsOne p k.moved us c
  its_candidate = candidate arrays ps counts temps weight commands k.space p m k.planned k.fine k.number k.declared k.long k.some k.few k.moved k.transfers k.theirs us k.cells cs ks ms parts keeps moves

  pub are_whole : All (λ c. IsWhole (wide c)) cs
  are_whole = all_whole arrays ps counts temps weight commands k.space p m k.planned k.fine k.number k.declared k.long k.some k.few k.moved k.transfers k.theirs us k.cells cs ks ms parts keeps moves

  few_instances : (q : Piece) → In q ps → length (instances q) ≤ most_instances
  few_instances q i =
      let a = fewer_instances ps q k.space.apart i in
      let b = list_length ps counts k.space.apart k.space.counted in
      let c = k.space.few in
      omega (arith, a, b, c)

  pub are_few : All (λ c. length (instances c.piece) < 2 ^ 64) cs
  are_few = all_in (λ (c : Candidate). length (instances c.piece) < 2 ^ 64) cs (λ c i. elim (its_candidate c i) as (λ _. length (instances c.piece) < 2 ^ 64) [
    | inl h ↦
        let a = few_instances h.0 h.1.0 in
        let b : length (instances c.piece) ≡ length (instances h.0) = ap length (kept_instances p h.0 c h.1.1) in
        omega (arith, a, b)
    | inr o ↦
        let t = k.theirs o.source (nth_in o.number k.moved o.source o.is_source) in
        let a = few_instances o.source.piece t.piece in
        let b : length (instances c.piece) ≤ length (instances o.source.piece) = fewer_uses o.source.piece p.around (forms o.source.access) o.cells (wide c) o.cells_are (move_instances p o.number o.cells c o.moved) in
        omega (arith, a, b)
  ])

  pub are_known : All IsKnown cs
  are_known = all_in IsKnown cs (λ c i. elim (its_candidate c i) as (λ _. IsKnown c) [
    | inl h ↦ subst (λ o. IfSome o (λ n. n ≡ length (instances c.piece))) (sym h.1.1.count) (sym (ap length (kept_instances p h.0 c h.1.1)))
    | inr o ↦ subst (λ z. IfSome z (λ n. n ≡ length (instances c.piece))) (sym o.moved.count) tt
  ])

  pub they_differ : Pairwise (λ q r. places_of q ≢ places_of r) (filter has_instance (map wide cs))
  they_differ = places_differ cs (subst (λ z. Pairwise (λ c d. places_of (wide c) ≢ places_of (wide d)) z) (sym parts) (all_elsewhere ps k.space.apart p m k.planned k.fine us ks ms keeps moves k.many))

  candidates_many : length cs ≡ length ps + length us
  candidates_many = ap length parts ∙ length-append ks ms ∙ ap₂ (λ a b. a + b) (kept_many p ps ks keeps) (moved_many p 0 us ms moves)

  pub not_many : length cs ≤ 2 ^ 20
  not_many = let n = candidates_many in omega (arith, n, small)

  module _ (new : List Piece) (new_counts : List ℕ) (are : IsAssembled cs new new_counts) where
    pub its_list : listed new ≡ copied p (listed ps)
    its_list = made_list arrays ps counts temps weight commands k.space p m k.planned k.fine k.number k.declared k.long k.some k.few k.moved k.transfers k.theirs us k.cells cs ks ms parts keeps moves k.many new new_counts are

    new_apart : AreApart new
    new_apart = subst AreApart (sym are.is)
        (apart_placed (map places_of (assembled cs)) (assembled cs) are.ranks (places_in (assembled cs)) are.are_ranks
        (up arrays ps counts temps weight commands k.space p m k.planned k.fine k.number k.declared k.long k.some k.few k.moved k.transfers k.theirs us k.cells cs ks ms parts keeps moves k.many))

    new_many : length new ≤ most_pieces
    new_many =
        let a = ap length are.is in
        let b = placed_many (assembled cs) are.ranks in
        let c = ordered_length places_of (filter has_instance (map wide cs)) in
        let d = filter_short has_instance (map wide cs) in
        let e = length-map cs wide in
        let f = candidates_many in
        omega (arith, a, b, c, d, e, f, small)
      where
        placed_many : (qs : List Piece) (rs : List (List ℕ)) → length (all_placed qs rs) ≡ length qs
        placed_many [] rs = refl
        placed_many (q ∷ qs) [] = refl
        placed_many (q ∷ qs) (r ∷ rs) = ap suc (placed_many qs rs)

    pub counts_many : length new_counts ≤ 2 ^ 20
    counts_many =
        let a = ap length are.counted in
        let b = length-map new (λ q. length (instances q)) in
        let c = new_many in
        omega (arith, a, b, c)

    pub counted_all : sum new_counts ≡ length (copied p (listed ps))
    counted_all = list_length new new_counts new_apart are.counted ∙ ap length its_list

    pub its_space : p.around + m ≤ most_levels → sum new_counts ≤ most_instances → commands + 1 ≤ most_commands → IsSpace arrays new new_counts (temps ++ p.extents ∷ []) weight (commands + 1)
    its_space shallow few more =
        made_space arrays ps counts temps weight commands k.space p m k.planned k.fine k.number k.declared k.long k.some k.few k.moved k.transfers k.theirs us k.cells cs ks ms parts keeps moves k.many new new_counts are
        shallow (let n = cells_many p.around k.moved us k.cells in omega (arith, n, small)) few new_many more

    pub its_meaning : (store : Store) (c : Cell) → c.array ≢ p.buffer → done (listed new) store c ≡ done (listed ps) store c
    its_meaning store c n = ap (λ z. done z store c) its_list ∙ same_meaning p (listed ps) m k.planned k.fine store c n

    -- the program's arrays are kept
    pub its_keeping : (names : List (List ℕ)) → length names ≡ arrays → KeepsArrays names (listed ps) temps (listed new) (temps ++ p.extents ∷ [])
    its_keeping names n =
        let b = k.number in
        let l = length-append names temps in
        keeps_but names temps p.extents (listed ps) (listed new) p.buffer (omega (arith, n, b)) (λ store c away. sym (its_meaning store c away))
        (λ i. subst (StaysInside ((names ++ temps) ++ p.extents ∷ [])) (sym its_list)
        (stays_inside p (listed ps) m k.planned k.fine (names ++ temps) p.extents (omega (arith, n, b, l)) refl (all_inside (names ++ temps) (listed ps) i)))
