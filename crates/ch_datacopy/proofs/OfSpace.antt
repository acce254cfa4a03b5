-- The list of a space can be copied.
use Rattle.std.proofs.Common.{◌≡◌, refl, sym, ap, ◌∙◌, subst, ℕ, ◌+◌, ◌<◌, List, [], ◌∷◌, length, inl, inr, arith}
use Rattle.std.specs.List.{All, flat_map}
use Rattle.ch_nest.specs.declared.nest.Access.{Access}
use Rattle.ch_nest.specs.declared.nest.Sub as subscript
use Rattle.ch_copied.specs.Copyable.{IsCopyable}
use Rattle.ch_space.specs.declared.piece.Piece.{Piece}
use Rattle.ch_space.specs.Keeps.{IsAccess, IsBody, IsSpace, places_of}
use Rattle.ch_timed.specs.Conflict.{accesses}
use Rattle.ch_space.specs.Pieces.{listed}
use Rattle.ch_space.proofs.EndsOf.{at_all}
use Rattle.ch_space.proofs.Membership.{flat_in}
use Rattle.ch_space.proofs.PieceElements.{StandsFor, element_places, same_piece, whole_in}
use Rattle.ch_space.proofs.PieceNumbers.{in_listed}
use Rattle.ch_timed.specs.Members.{Each, In}
use Rattle.ch_timed.specs.Vectors.{places}
use Rattle.ch_timed.specs.declared.element.Element.{Element}

each_all : {X : Type 0} (P : X → Type 0) (xs : List X) → All P xs → Each P xs
each_all {X = X} P xs h = all_each xs (λ x i. at_all P xs x h i)
  where
    all_each : (ys : List X) → ((x : X) → In x ys → P x) → Each P ys
    all_each [] g = tt
    all_each (y ∷ ys) g = (g y (inl refl), all_each ys (λ x i. g x (inr i)))

module _ (arrays : ℕ) (ps : List Piece) (counts : List ℕ) (temps : List (List ℕ)) (weight commands : ℕ) (space : IsSpace arrays ps counts temps weight commands) where
  its_places : (e : Element) (s : StandsFor ps e) → places e.vector ≡ places_of s.piece
  its_places e s = ap (λ (z : Element). places z.vector) (sym s.is) ∙ element_places s.piece s.instance (whole_in ps s.piece space.apart s.is_piece) s.is_instance

  one_body : (e f : Element) → In e (listed ps) → In f (listed ps) → places e.vector ≡ places f.vector → e.body ≡ f.body
  one_body e f i j h =
      let s = in_listed ps e i in
      let t = in_listed ps f j in
      let same = same_piece ps s.piece t.piece space.apart s.is_piece t.is_piece (sym (its_places e s) ∙ h ∙ its_places f t) in
      ap (λ (z : Element). z.body) (sym s.is) ∙ ap (λ (q : Piece). q.body) same ∙ ap (λ (z : Element). z.body) t.is

  access_of : (e : Element) (a : Access) → In e (listed ps) → In a (accesses e.body) → (n : ℕ) × IsAccess arrays (length temps) n a
  access_of e a i j =
      let s = in_listed ps e i in
      let b = at_all (λ p. IsBody arrays (length temps) (length p.origin) p.body) ps s.piece space.bodies s.is_piece in (
        length s.piece.origin,
        at_all (IsAccess arrays (length temps) (length s.piece.origin)) (accesses s.piece.body) a b.accesses
            (subst (λ body. In a (accesses body)) (ap (λ (z : Element). z.body) (sym s.is)) j),
      )

  among : (e : Element) (a : Access) → In e (listed ps) → In a (accesses e.body) → In a (flat_map (λ p. accesses p.body) ps)
  among e a i j =
      let s = in_listed ps e i in
      flat_in (λ p. accesses p.body) ps s.piece a s.is_piece (subst (λ body. In a (accesses body)) (ap (λ (z : Element). z.body) (sym s.is)) j)

  -- with an access of the array; the buffer is the next one
  pub copyable : (array : ℕ) → array < arrays → (f : Element) (b : Access) → In f (listed ps) → In b (accesses f.body) → b.array ≡ array
      → IsCopyable (listed ps) array (arrays + length temps) (length b.subs)
  copyable array few f b k l is = record {
    well_formed = space.well_formed;
    bodies = one_body;
    fresh = λ e a i j h. let x = access_of e a i j in let n = x.1.array in absurd (omega arith);
    plain = λ e a i j h. let x = access_of e a i j in each_all (λ (s : subscript.Sub). s.modulus ≡ 0) a.subs (x.1.plain (subst (λ n. n < arrays) (sym h) few));
    agree = λ e a i j h. space.agree a b (among e a i j) (among f b k l) (h ∙ sym is);
    other = λ h. absurd (omega arith);
  }
