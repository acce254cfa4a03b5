-- The candidates have the elements of the copied list.
use Rattle.std.proofs.Common.{◌≡◌, refl, sym, ap, ◌∙◌, subst, ℕ, zero, suc, ◌+◌, List, [], ◌∷◌, ◌++◌, map, length, ◌⊎◌, inl, inr, arith}
use Rattle.std.specs.List.{flat_map}
use Rattle.std.proofs.lemmas.List.{length-map}
use Rattle.ch_affine.specs.Affine.{value}
use Rattle.ch_copied.specs.Copied.{copy_ins, copy_outs, kept, move}
use Rattle.ch_copied.specs.Copyable.{IsCopyable}
use Rattle.ch_copied.specs.Plans.{Plan}
use Rattle.ch_copied.specs.Uses.{Use, uses}
use Rattle.ch_copied.proofs.Lists.{append_left, append_right, in_append}
use Rattle.ch_copied.proofs.Moving.{IsLong}
use Rattle.ch_copied.proofs.Sound.{IsPlanned, front_long, long_use, unclosed, unclosed_ascends}
use Rattle.ch_datacopy.specs.declared.cells.Cells.{Cells}
use Rattle.ch_datacopy.specs.Cells.{iterators_at}
use Rattle.ch_datacopy.specs.Sources.{AreCellsOf, Source, forms}
use Rattle.ch_datacopy.specs.Used.{IsCellsOf}
use Rattle.ch_datacopy.specs.Works.{AreKept, AreMoved, IsKept, IsMoved, move_body, move_offset}
use Rattle.ch_datacopy.proofs.Elementwise.{kept_from, kept_to, move_element, move_instances}
use Rattle.ch_datacopy.proofs.MoveNumbers.{IsMove, copy_is, is_copy}
use Rattle.ch_datacopy.proofs.Numbered.{Nth, map_nth, nth_in, nth_map}
use Rattle.ch_datacopy.proofs.Sourced.{transfer_of, used_from, used_to, uses_are}
use Rattle.ch_nest.specs.declared.nest.Sub.{Sub}
use Rattle.ch_pieces.specs.Assembled.{assembled, wide}
use Rattle.ch_pieces.specs.declared.candidate.Candidate.{Candidate}
use Rattle.ch_pieces.proofs.Spaces.{assembled_in, in_assembled}
use Rattle.ch_space.specs.declared.piece.Piece.{Piece}
use Rattle.ch_space.specs.Keeps.{AreApart}
use Rattle.ch_space.specs.Pieces.{element_at, elements, instances, listed}
use Rattle.ch_space.proofs.Membership.{flat_in, in_flat}
use Rattle.ch_space.proofs.PieceElements.{whole_in}
use Rattle.ch_space.proofs.PieceNumbers.{in_listed, listed_ascends, listed_in}
use Rattle.ch_timed.specs.declared.element.Element.{Element}
use Rattle.ch_timed.specs.Members.{Each, In}
use Rattle.ch_timed.specs.Timed.{in_order}
use Rattle.ch_timed.proofs.Orders.{ascending_same, from_order, in_map, map_in, to_order}
use Rattle.ch_timed.proofs.Sorted.{adjacent_ascends}

-- members of lists side by side

kept_of : (p : Plan) (qs : List Piece) (ks : List Candidate) → AreKept p qs ks → (c : Candidate) → In c ks → (q : Piece) × (In q qs × IsKept p q c)
kept_of p [] [] k c i = absurd i
kept_of p [] (d ∷ ks) k c i = absurd k
kept_of p (q ∷ qs) [] k c i = absurd k
kept_of p (q ∷ qs) (d ∷ ks) k c (inl e) = (q, (inl refl, subst (IsKept p q) e k.0))
kept_of p (q ∷ qs) (d ∷ ks) k c (inr i) = let r = kept_of p qs ks k.1 c i in (r.0, (inr r.1.0, r.1.1))

of_kept : (p : Plan) (qs : List Piece) (ks : List Candidate) → AreKept p qs ks → (q : Piece) → In q qs → (c : Candidate) × (In c ks × IsKept p q c)
of_kept p [] ks k q i = absurd i
of_kept p (r ∷ qs) [] k q i = absurd k
of_kept p (r ∷ qs) (d ∷ ks) k q (inl e) = (d, (inl refl, subst (λ z. IsKept p z d) e k.0))
of_kept p (r ∷ qs) (d ∷ ks) k q (inr i) = let s = of_kept p qs ks k.1 q i in (s.0, (inr s.1.0, s.1.1))

-- a candidate that is a move, with its number
pub record IsOne (p : Plan) (ss : List Source) (us : List Cells) (c : Candidate) : Type 0 where
  pub number : ℕ
  pub source : Source
  pub cells : Cells
  pub is_source : Nth number ss source
  pub moved : IsMoved p number cells c
  pub cells_are : IsCellsOf source.piece p.around (forms source.access) cells

moves_of : (p : Plan) (n : ℕ) (ss : List Source) (us : List Cells) (ms : List Candidate) → AreCellsOf p.around ss us → AreMoved p n us ms → (c : Candidate) → In c ms
    → (k : ℕ) × ((m : ℕ) × ((m ≡ n + k) × ((s : Source) × ((u : Cells) × (Nth k ss s × (IsMoved p m u c × IsCellsOf s.piece p.around (forms s.access) u))))))
moves_of p n [] [] [] a b c i = absurd i
moves_of p n [] [] (d ∷ ms) a b c i = absurd b
moves_of p n [] (u ∷ us) ms a b c i = absurd a
moves_of p n (s ∷ ss) [] ms a b c i = absurd a
moves_of p n (s ∷ ss) (u ∷ us) [] a b c i = absurd b
moves_of p n (s ∷ ss) (u ∷ us) (d ∷ ms) a b c (inl e) = (0, (n, (omega arith, (s, (u, (refl, (subst (IsMoved p n u) e b.0, a.0)))))))
moves_of p n (s ∷ ss) (u ∷ us) (d ∷ ms) a b c (inr i) =
    let r = moves_of p (suc n) ss us ms a.1 b.1 c i in
    let e = r.1.1.0 in
    (suc r.0, (r.1.0, (omega arith, r.1.1.1)))

of_moves : (p : Plan) (n : ℕ) (ss : List Source) (us : List Cells) (ms : List Candidate) → AreCellsOf p.around ss us → AreMoved p n us ms → (k : ℕ) (s : Source) → Nth k ss s
    → (c : Candidate) × (In c ms × ((m : ℕ) × ((m ≡ n + k) × ((u : Cells) × (IsMoved p m u c × IsCellsOf s.piece p.around (forms s.access) u)))))
of_moves p n [] us ms a b k s i = absurd i
of_moves p n (t ∷ ss) [] ms a b k s i = absurd a
of_moves p n (t ∷ ss) (u ∷ us) [] a b k s i = absurd b
of_moves p n (t ∷ ss) (u ∷ us) (d ∷ ms) a b zero s i =
    (d, (inl refl, (n, (omega arith, (u, (b.0, subst (λ (z : Source). IsCellsOf z.piece p.around (forms z.access) u) i a.0))))))
of_moves p n (t ∷ ss) (u ∷ us) (d ∷ ms) a b (suc k) s i =
    let r = of_moves p (suc n) ss us ms a.1 b.1 k s i in
    let e = r.1.1.1.0 in
    (r.0, (inr r.1.0, (r.1.1.0, (omega arith, r.1.1.1.1))))

module _ (ps : List Piece) (apart : AreApart ps) (p : Plan) (dimensions : ℕ) (planned : IsPlanned p (listed ps)) (fine : IsCopyable (listed ps) p.array p.buffer dimensions)
    (ss : List Source) (transfers : p.ins ++ p.outs ≡ map transfer_of ss) (theirs : (s : Source) → In s ss → In s.piece ps × Each (λ (b : Sub). b.modulus ≡ 0) s.access.subs)
    (us : List Cells) (cells : AreCellsOf p.around ss us)
    (cs ks ms : List Candidate) (parts : cs ≡ ks ++ ms) (keeps : AreKept p ps ks) (moves : AreMoved p 0 us ms) where
  abbrev pub list : List Element
  list = listed ps

  abbrev pub target : List Element
  target = unclosed p list dimensions planned fine

  pub candidate_of : (c : Candidate) → In c cs → ((q : Piece) × (In q ps × IsKept p q c)) ⊎ IsOne p ss us c
  candidate_of c i = elim (in_append ks ms c (subst (In c) parts i)) as (λ _. ((q : Piece) × (In q ps × IsKept p q c)) ⊎ IsOne p ss us c) [
    | inl j ↦ inl (kept_of p ps ks keeps c j)
    | inr j ↦
        let r = moves_of p 0 ss us ms cells moves c j in
        let number : r.1.0 ≡ r.0 = let e = r.1.1.0 in omega arith in
        let rest = r.1.1.1 in
        inr (record {
          number = r.0;
          source = rest.0;
          cells = rest.1.0;
          is_source = rest.1.1.0;
          moved = subst (λ k. IsMoved p k rest.1.0 c) number rest.1.1.1.0;
          cells_are = rest.1.1.1.1;
        })
  ]

  -- a source is one of the plan's transfers
  pub transfer_in : (s : Source) → In s ss → In (transfer_of s) p.ins ⊎ In (transfer_of s) p.outs
  transfer_in s i = in_append p.ins p.outs (transfer_of s) (subst (In (transfer_of s)) (sym transfers) (map_in transfer_of ss s i))

  pub use_long : (s : Source) → In s ss → (w : Use) → In w (uses list p.around (transfer_of s)) → IsLong p w
  use_long s i w j = long_use p list dimensions planned fine (transfer_of s) w (transfer_in s i) j

  -- as many subscripts as the plan has extents
  pub use_levels : (s : Source) → In s ss → (u : Cells) → IsCellsOf s.piece p.around (forms s.access) u → (w : Use) → In w (uses list p.around (transfer_of s))
      → u.levels ≡ length w.prefix + length w.cell
  use_levels s i u c w j =
      let x = uses_are ps apart s.piece (theirs s i).0 p.around s.access (theirs s i).1 w j in
      let l = use_long s i w j in
      let a = c.framed.levels in
      let b : length w.cell ≡ length (forms s.access) = ap (λ (z : Use). length z.cell) x.1.1 ∙ length-map (forms s.access) (λ f. value f (iterators_at s.piece x.0)) in
      let d = l.prefix in
      omega arith

  pub move_at : (o_number : ℕ) (s : Source) → In s ss → (u : Cells) (c : Candidate) → IsMoved p o_number u c → IsCellsOf s.piece p.around (forms s.access) u → (w : Use) → In w (uses list p.around (transfer_of s))
      → element_at (wide c) (w.prefix ++ w.cell) ≡ move p (move_body p o_number) (p.label + o_number) (move_offset p o_number) w
  move_at n s i u c m d w j =
      let l = use_long s i w j in
      move_element p n u c m w (front_long p list dimensions planned fine ∙ sym l.prefix) l.cell (use_levels s i u d w j)

  -- each element of a candidate is one of the new list

  kept_new : (f : Element) (c : Candidate) (q : Piece) → In q ps → IsKept p q c → In f (elements (wide c)) → In f target
  kept_new f c q i k j =
      let e = kept_from p q c k f (whole_in ps q apart i) j in
      append_left (map (kept p) list) (copy_ins p list ++ copy_outs p list) f
      (subst (λ z. In z (map (kept p) list)) (sym e.1.1) (map_in (kept p) list (element_at q e.0) (listed_in ps q (element_at q e.0) i (map_in (element_at q) (instances q) e.0 e.1.0))))

  moved_new : (f : Element) (c : Candidate) → IsOne p ss us c → In f (elements (wide c)) → In f target
  moved_new f c o j =
      let i = nth_in o.number ss o.source o.is_source in
      let m = in_map (element_at (wide c)) (instances (wide c)) f j in
      let there = subst (In m.0) (move_instances p o.number o.cells c o.moved) m.1.0 in
      let w = used_from ps apart o.source.piece (theirs o.source i).0 p.around o.source.access (theirs o.source i).1 o.cells o.cells_are m.0 there in
      append_right (map (kept p) list) (copy_ins p list ++ copy_outs p list) f (is_copy p list f (record {
        number = o.number;
        transfer = transfer_of o.source;
        its_use = w.0;
        is_transfer = subst (λ ts. Nth o.number ts (transfer_of o.source)) (sym transfers) (nth_map transfer_of o.number ss o.source o.is_source);
        is_use = w.1.0;
        is = sym m.1.1 ∙ ap (element_at (wide c)) w.1.1 ∙ move_at o.number o.source i o.cells c o.moved o.cells_are w.0 w.1.0;
      }))

  pub to_new : (f : Element) → In f (flat_map elements (map wide cs)) → In f target
  to_new f i =
      let q = in_flat elements (map wide cs) f i in
      let c = in_map wide cs q.0 q.1.0 in
      let j : In f (elements (wide c.0)) = subst (λ z. In f (elements z)) (sym c.1.1) q.1.1 in
      elim (candidate_of c.0 c.1.0) as (λ _. In f target) [
        | inl k ↦ kept_new f c.0 k.0 k.1.0 k.1.1 j
        | inr o ↦ moved_new f c.0 o j
      ]

  -- and each of these is one of a candidate

  among : (c : Candidate) → In c cs → (f : Element) → In f (elements (wide c)) → In f (flat_map elements (map wide cs))
  among c i f j = flat_in elements (map wide cs) (wide c) f (map_in wide cs c i) j

  new_kept : (e : Element) → In e list → In (kept p e) (flat_map elements (map wide cs))
  new_kept e i =
      let s = in_listed ps e i in
      let c = of_kept p ps ks keeps s.piece s.is_piece in
      subst (λ z. In (kept p z) (flat_map elements (map wide cs))) s.is
      (among c.0 (subst (In c.0) (sym parts) (append_left ks ms c.0 c.1.0)) (kept p (element_at s.piece s.instance)) (kept_to p s.piece c.0 c.1.1 s.instance (whole_in ps s.piece apart s.is_piece) s.is_instance))

  new_moved : (f : Element) → IsMove p list f → In f (flat_map elements (map wide cs))
  new_moved f m =
      let t = map_nth transfer_of m.number ss m.transfer (subst (λ ts. Nth m.number ts m.transfer) transfers m.is_transfer) in
      let i = nth_in m.number ss t.0 t.1.0 in
      let c = of_moves p 0 ss us ms cells moves m.number t.0 t.1.0 in
      let number : c.1.1.0 ≡ m.number = let e = c.1.1.1.0 in omega arith in
      let rest = c.1.1.1.1 in
      let moved = subst (λ k. IsMoved p k rest.0 c.0) number rest.1.0 in
      let w : In m.its_use (uses list p.around (transfer_of t.0)) = subst (λ z. In m.its_use (uses list p.around z)) (sym t.1.1) m.is_use in
      let u = used_to ps apart t.0.piece (theirs t.0 i).0 p.around t.0.access (theirs t.0 i).1 rest.0 rest.1.1 m.its_use w in
      subst (λ z. In z (flat_map elements (map wide cs))) (move_at m.number t.0 i rest.0 c.0 moved rest.1.1 m.its_use w ∙ sym m.is)
      (among c.0 (subst (In c.0) (sym parts) (append_right ks ms c.0 c.1.0)) (element_at (wide c.0) (m.its_use.prefix ++ m.its_use.cell))
      (map_in (element_at (wide c.0)) (instances (wide c.0)) (m.its_use.prefix ++ m.its_use.cell) (subst (In (m.its_use.prefix ++ m.its_use.cell)) (sym (move_instances p m.number rest.0 c.0 moved)) u)))

  pub from_new : (f : Element) → In f target → In f (flat_map elements (map wide cs))
  from_new f i = elim (in_append (map (kept p) list) (copy_ins p list ++ copy_outs p list) f i) as (λ _. In f (flat_map elements (map wide cs))) [
    | inl j ↦ let m = in_map (kept p) list f j in subst (λ z. In z (flat_map elements (map wide cs))) m.1.1 (new_kept m.0 m.1.0)
    | inr j ↦ new_moved f (copy_is p list f j)
  ]

  -- so the assembled pieces stand for it
  pub list_is : AreApart (assembled cs) → listed (assembled cs) ≡ in_order target
  list_is up =
      ascending_same (λ (e : Element). e.vector) (listed (assembled cs)) (in_order target) (listed_ascends (assembled cs) up) (adjacent_ascends (in_order target) (unclosed_ascends p list dimensions planned fine))
      (λ f i.
      let q = in_flat elements (assembled cs) f (from_order (λ (e : Element). e.vector) (flat_map elements (assembled cs)) f i) in
      to_order (λ (e : Element). e.vector) target f (to_new f (flat_in elements (map wide cs) q.0 f (in_assembled cs q.0 q.1.0) q.1.1)))
      (λ f i.
      let q = in_flat elements (map wide cs) f (from_new f (from_order (λ (e : Element). e.vector) target f i)) in
      to_order (λ (e : Element). e.vector) (flat_map elements (assembled cs)) f (flat_in elements (assembled cs) q.0 f (assembled_in cs q.0 f q.1.0 q.1.1) q.1.1))
