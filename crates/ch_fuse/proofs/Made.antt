-- What the code makes of a space, seen as contracts see it.
use Rattle.std.proofs.Common.{◌≡◌, sym, ap, ◌∙◌, subst, ℕ, ◌+◌, ◌≤◌, ℤ, pos, ◌≤ℤ◌, Bool, None, List, [], ◌∷◌, map, length, take, get_or, ◌⊎◌, zero, suc, arith}
use Rattle.std.proofs.lemmas.Bool.{and_parts}
use Rattle.std.proofs.lemmas.Int.{ints}
use Rattle.std.proofs.lemmas.List.{take_all}
use Rattle.ch_fuse.specs.Replaced.{ArePlaced, relocated, replaced}
use Rattle.ch_fuse.proofs.Differing.{Differ, apart_differ}
use Rattle.ch_fuse.proofs.Number.{never_too_many}
use Rattle.ch_fuse.proofs.Relocating.{how_many_placed, placed_candidates}
use Rattle.ch_moved.specs.Causes.{too_many}
use Rattle.ch_moved.proofs.Replaced.{places_apart}
use Rattle.ch_pieces.specs.declared.candidate.Candidate.{Candidate}
use Rattle.ch_pieces.specs.Candidates.{AreCandidates}
use Rattle.ch_space.specs.declared.piece.Piece.{Piece}
use Rattle.ch_space.specs.Keeps.{IsSpace, most_pieces, places_of}
use Rattle.ch_space.specs.Listed.{Listed}
use Rattle.ch_space.specs.Pieces.{listed}
use Rattle.ch_space.proofs.PieceNumbers.{how_many, numbered}
use Rattle.ch_timed.specs.Members.{In}
use Rattle.ch_timed.specs.Timed.{pieces}
use Rattle.ch_timed.specs.declared.element.Element.{Element}
use Rattle.ch_timed.proofs.Orders.{in_map}

natural_at : (xs : List ℕ) (k : ℕ) → pos 0 ≤ℤ get_or (map pos xs) k (pos 0)
natural_at [] k = omega (arith, ints)
natural_at (x ∷ xs) zero = omega (arith, ints)
natural_at (x ∷ xs) (suc k) = natural_at xs k

module _ (arrays weight commands : ℕ) (ps : List Piece) (counts : List ℕ) (temps : List (List ℕ)) (l : Listed) (space : IsSpace arrays ps counts temps weight commands)
    (view : record { list = listed ps; arrays = arrays; temps = temps; weight = weight; commands = commands } ≡ l) where
  same_list : listed ps ≡ l.list
  same_list = ap (λ (r : Listed). r.list) view

  old_piece : (a : List ℤ) → In a (pieces l.list) → (p : Piece) × (In p ps × (places_of p ≡ a))
  old_piece a i = in_map places_of ps a (subst (In a) (numbered ps space.apart) (subst (λ z. In a (pieces z)) (sym same_list) i))

  -- the places of the pieces are the same or differ
  pub far : (a b : List ℤ) → In a (pieces l.list) → In b (pieces l.list) → (a ≡ b) ⊎ Differ a b
  far a b i j =
      let p = old_piece a i in
      let q = old_piece b j in
      subst (λ z. (z ≡ b) ⊎ Differ z b) p.1.1
      (subst (λ z. (places_of p.0 ≡ z) ⊎ Differ (places_of p.0) z) q.1.1 (apart_differ _ _ (places_apart ps space.apart space.well_formed p.0 q.0 p.1.0 q.1.0)))

  pub known : (a : List ℤ) → In a (pieces l.list) → (k : ℕ) → pos 0 ≤ℤ get_or a k (pos 0)
  known a i k = let p = old_piece a i in subst (λ z. pos 0 ≤ℤ get_or z k (pos 0)) p.1.1 (natural_at p.0.places k)

  pub number : length ps ≡ length (pieces l.list)
  number = sym (how_many ps space.apart) ∙ ap (λ z. length (pieces z)) same_list

  pub few : length (pieces l.list) ≤ most_pieces
  few = let n = number in let f = space.few_pieces in omega arith

  pub never : (change : Element → Element) (w c : ℕ) (cs : List Candidate) → AreCandidates change l.list w c cs → length cs ≡ length (pieces l.list) → too_many change l.list ≡ None
  never change w c cs h n =
      let f = few in
      subst (λ z. too_many change z ≡ None) same_list
      (never_too_many change w c ps cs (and_parts _ _ space.well_formed).0 space.apart (subst (λ z. AreCandidates change z w c cs) (sym same_list) h) (omega arith))

  module _ (new : List ℤ → List ℤ) (others : List Piece) (k : ℕ) (cs : List Candidate) (same : others ≡ ps) (all : length others ≤ k) (h : ArePlaced new (take k others) cs) where
    all_placed : ArePlaced new ps cs
    all_placed = subst (λ z. ArePlaced new z cs) (take_all k others all ∙ same) h

    pub as_many : length cs ≡ length (pieces l.list)
    as_many = how_many_placed new ps cs all_placed ∙ number

  pub are_candidates : (inside : List ℤ → Bool) (f : List ℤ → List ℤ) → ((v : List ℤ) → length (f v) ≡ length v)
      → ((a b : List ℤ) → In a (pieces l.list) → In b (pieces l.list) → Differ a b → Differ (replaced inside f a) (replaced inside f b))
      → (others : List Piece) (k : ℕ) (cs : List Candidate) → others ≡ ps → length others ≤ k → ArePlaced (replaced inside f) (take k others) cs
      → AreCandidates (relocated inside f) l.list l.weight (l.commands + 1) cs
  are_candidates inside f long keeps others k cs same all h =
      subst (λ (r : Listed). AreCandidates (relocated inside f) r.list r.weight (r.commands + 1) cs) view
      (placed_candidates inside f long arrays weight commands ps counts temps space
      (λ a b i j d. keeps a b (subst (λ z. In a (pieces z)) same_list i) (subst (λ z. In b (pieces z)) same_list j) d) cs
      (all_placed (replaced inside f) others k cs same all h))
