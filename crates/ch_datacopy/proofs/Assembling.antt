-- The candidates can be put together: each is whole and has few instances, and no two stand at the same places.
use Rattle.std.proofs.Common.{◌≡◌, ◌≢◌, refl, sym, ap, ap₂, ◌∙◌, subst, ℕ, zero, suc, ◌+◌, ◌<◌, ◌≤◌, ℤ, pos, ◌+ℤ◌, ◌*ℤ◌, Bool, true, false, if◌then◌else◌, nat_lt, List, [], ◌∷◌, ◌++◌, map, length, replicate, take, inl, inr, length-append, arith}
use Rattle.std.specs.List.{All}
use Rattle.std.specs.Ordering.{int_cmp, int_eq}
use Rattle.std.specs.declared.cmp.Ordering.{Ordering}
use Rattle.std.specs.declared.cmp.Ordering.TheVariants.{Less, Equal, Greater}
use Rattle.std.specs.Cmp.Lexicographic.{slice_cmp}
use Rattle.std.proofs.lemmas.List.{length-map, length-replicate}
use Rattle.ch_affine.specs.Form.{Form}
use Rattle.ch_copied.specs.Copied.{loop_place, new_place, placed, width}
use Rattle.ch_copied.specs.Copyable.{IsCopyable}
use Rattle.ch_copied.specs.Plans.{Plan}
use Rattle.ch_copied.proofs.NewPlaces.{placed_same, places_replaced}
use Rattle.ch_copied.proofs.Sound.{IsPlanned, new_rises}
use Rattle.ch_copied.proofs.WellFormed.{kept_not_moved, moves_apart}
use Rattle.ch_datacopy.specs.declared.cells.Cells.{Cells}
use Rattle.ch_datacopy.specs.Cells.{cell_at, iterators_at}
use Rattle.ch_datacopy.specs.Pairs.{used}
use Rattle.ch_datacopy.specs.Used.{IsCellsOf}
use Rattle.ch_datacopy.specs.Works.{AreKept, AreMoved, IsKept, IsMoved, move_offset}
use Rattle.ch_pieces.specs.Assembled.{wide}
use Rattle.ch_pieces.specs.declared.candidate.Candidate.{Candidate}
use Rattle.ch_pieces.proofs.Spaces.{pairwise_append}
use Rattle.ch_space.specs.declared.piece.Piece.{Piece}
use Rattle.ch_space.specs.Built.{unit, units, zeros}
use Rattle.ch_space.specs.Keeps.{AllLater, AreApart, IsWhole, places_of}
use Rattle.ch_space.specs.Pieces.{element_at, instances, listed}
use Rattle.ch_space.proofs.PieceElements.{element_places, instances_ascend, length_pos, never, whole_in}
use Rattle.ch_space.proofs.PieceNumbers.{all_in, instance_in, listed_in, some_in}
use Rattle.ch_timed.specs.Members.{Each, In, Pairwise}
use Rattle.ch_timed.specs.Ordered.{each_once, put_once, put_once_by}
use Rattle.ch_timed.proofs.Orders.{ascending_same, from_once, in_map, map_in, once_ascends, to_once}

-- lists of numbers, each once, are not longer

put_once_short_by : (o : Ordering) (v w : List ℤ) (ws rest : List (List ℤ)) → length rest ≤ suc (length ws) → length (put_once_by o v w ws rest) ≤ suc (length (w ∷ ws))
put_once_short_by Less v w ws rest h = omega arith
put_once_short_by Equal v w ws rest h = omega arith
put_once_short_by Greater v w ws rest h = omega arith

put_once_short : (v : List ℤ) (ws : List (List ℤ)) → length (put_once v ws) ≤ suc (length ws)
put_once_short v [] = omega arith
put_once_short v (w ∷ ws) = put_once_short_by (slice_cmp int_cmp v w) v w ws (put_once v ws) (put_once_short v ws)

once_short : (vs : List (List ℤ)) → length (each_once vs) ≤ length vs
once_short [] = omega arith
once_short (v ∷ vs) = let a = put_once_short v (each_once vs) in let b = once_short vs in omega arith

-- an access uses no more cells than its piece has instances
pub fewer_uses : (q : Piece) (around : ℕ) (fs : List Form) (u : Cells) (r : Piece) → IsCellsOf q around fs u → instances r ≡ used u → length (instances r) ≤ length (instances q)
fewer_uses q around fs u r is same =
    let g : List ℤ → List ℤ = λ xs. take around xs ++ cell_at fs (iterators_at q xs) in
    let each : instances r ≡ each_once (map g (instances q)) = ascending_same (λ v. v) (instances r) (each_once (map g (instances q))) (instances_ascend r) (once_ascends (map g (instances q)))
    (λ ys i.
    let x = (is.exact ys).0 (subst (In ys) same i) in
    to_once (map g (instances q)) ys (subst (λ z. In z (map g (instances q))) (sym x.2) (map_in g (instances q) x.0 x.1)))
    (λ ys i.
    let x = in_map g (instances q) ys (from_once (map g (instances q)) ys i) in
    subst (In ys) (sym same) ((is.exact ys).1 (x.0, x.1.0, sym x.1.1))) in
    let a = once_short (map g (instances q)) in
    let b = length-map (instances q) g in
    let c = ap length each in
    omega (arith, a, b, c)

-- places

placed_length : (f : ℤ → ℤ) (front ps : List ℤ) → length (placed f front ps) ≡ length ps
placed_length f [] [] = refl
placed_length f (g ∷ front) [] = refl
placed_length f [] (p ∷ ps) = refl
placed_length f (g ∷ front) (p ∷ ps) = ap suc (by (int_eq p g) (placed_length f front ps))
  where
    by : (b : Bool) → length (placed f front ps) ≡ length ps → length (if b then placed f front ps else ps) ≡ length ps
    by true e = e
    by false e = refl

zeros_long : (n : ℕ) → length (zeros n) ≡ n
zeros_long zero = refl
zeros_long (suc n) = ap suc (zeros_long n)

unit_long : (before after : ℕ) → length (unit before after).coefs ≡ (before + 1) + after
unit_long before after = let a = length-append (zeros before) (pos 1 ∷ zeros after) in let b = zeros_long before in let c = zeros_long after in omega arith

units_long : (before n total : ℕ) → total ≡ before + n → (f : Form) → In f (units before n) → length f.coefs ≡ total
units_long before zero total e f i = absurd i
units_long before (suc n) total e f (inl h) = ap (λ (g : Form). length g.coefs) (sym h) ∙ unit_long before n ∙ omega arith
units_long before (suc n) total e f (inr i) = units_long (suc before) n total (omega arith) f i

pub kept_whole : (p : Plan) (q : Piece) (c : Candidate) → IsKept p q c → IsWhole q → IsWhole (wide c)
kept_whole p q c is w = record {
  places =
      let a = length_pos c.places in
      let b = ap length is.places in
      let d = placed_length (new_place p) (take p.around p.ours) (places_of q) in
      let e = length_pos q.places in
      let f = w.places in
      let g = is.levels in
      omega (arith, a, b, d, e, f, g);
  variables = ap (λ s. s.vars) is.system ∙ w.variables ∙ sym (ap₂ (λ x y. x + y) is.levels is.hidden);
  boxes = ap (λ s. length s.boxes) is.system ∙ w.boxes ∙ sym (ap₂ (λ x y. x + y) is.levels is.hidden);
  origin = subst (λ (fs : List Form). All (λ f. length f.coefs ≡ c.piece.levels) fs) (sym is.origin) (subst (λ n. All (λ (f : Form). length f.coefs ≡ n) q.origin) (sym is.levels) w.origin);
}

pub move_whole : (p : Plan) (k : ℕ) (u : Cells) (c : Candidate) (q : Piece) (fs : List Form) → IsMoved p k u c → IsCellsOf q p.around fs u → length (take p.around p.ours) ≡ p.around → length fs ≡ length p.extents
    → IsWhole (wide c)
move_whole p k u c q fs is cells front dims = record {
  places =
      let a = length_pos c.places in
      let b = ap length is.places in
      let d = length-append (take p.around p.ours) ((loop_place p *ℤ width p +ℤ pos (move_offset p k)) ∷ replicate (length p.extents) (pos 0)) in
      let e = length-replicate (length p.extents) (pos 0) in
      let g = is.levels in
      let h = cells.framed.levels in
      omega (arith, a, b, d, e, g, h, front, dims);
  variables = ap (λ s. s.vars) is.system ∙ cells.vars ∙ sym (ap₂ (λ x y. x + y) is.levels is.hidden);
  boxes = ap (λ s. length s.boxes) is.system ∙ cells.framed.boxes ∙ sym (ap₂ (λ x y. x + y) is.levels is.hidden);
  origin = subst (λ (fs : List Form). All (λ f. length f.coefs ≡ c.piece.levels) fs) (sym is.origin)
      (all_in (λ (f : Form). length f.coefs ≡ c.piece.levels) (units 0 u.levels) (units_long 0 u.levels c.piece.levels (is.levels ∙ (let e : u.levels ≡ 0 + u.levels = omega arith in e))));
}

-- no two stand at the same places

in_later : (ps : List ℤ) (qs : List Piece) (q : Piece) → AllLater ps qs → In q qs → slice_cmp int_cmp ps (places_of q) ≡ Less
in_later ps [] q a i = absurd i
in_later ps (r ∷ qs) q a (inl e) = subst (λ z. slice_cmp int_cmp ps (places_of z) ≡ Less) e a.0
in_later ps (r ∷ qs) q a (inr i) = in_later ps qs q a.1 i

abbrev Elsewhere : Candidate → Candidate → Type 0
Elsewhere c d = places_of (wide c) ≢ places_of (wide d)

each_by : {X : Type 0} (P : X → Type 0) (xs : List X) → ((x : X) → In x xs → P x) → Each P xs
each_by P [] h = tt
each_by P (x ∷ xs) h = (h x (inl refl), each_by P xs (λ y i. h y (inr i)))

its_piece : (p : Plan) (qs : List Piece) (ks : List Candidate) → AreKept p qs ks → (c : Candidate) → In c ks → (q : Piece) × (In q qs × IsKept p q c)
its_piece p [] [] k c i = absurd i
its_piece p [] (d ∷ ks) k c i = absurd k
its_piece p (q ∷ qs) [] k c i = absurd k
its_piece p (q ∷ qs) (d ∷ ks) k c (inl e) = (q, (inl refl, subst (IsKept p q) e k.0))
its_piece p (q ∷ qs) (d ∷ ks) k c (inr i) = let r = its_piece p qs ks k.1 c i in (r.0, (inr r.1.0, r.1.1))

its_number : (p : Plan) (n : ℕ) (us : List Cells) (ms : List Candidate) → AreMoved p n us ms → (c : Candidate) → In c ms → (k : ℕ) × ((n ≤ k) × ((k < n + length us) × ((u : Cells) × IsMoved p k u c)))
its_number p n [] [] m c i = absurd i
its_number p n [] (d ∷ ms) m c i = absurd m
its_number p n (u ∷ us) [] m c i = absurd m
its_number p n (u ∷ us) (d ∷ ms) m c (inl e) = (n, (omega arith, (omega arith, (u, subst (IsMoved p n u) e m.0))))
its_number p n (u ∷ us) (d ∷ ms) m c (inr i) = let r = its_number p (suc n) us ms m.1 c i in let a = r.1.0 in let b = r.1.1.0 in (r.0, (omega arith, (omega arith, r.1.1.1)))

offset_least : (p : Plan) (k : ℕ) → (length p.ins ≡ move_offset p k → ⊥)
offset_least p k = by (nat_lt k (length p.ins)) refl
  where
    by : (b : Bool) → nat_lt k (length p.ins) ≡ b → length p.ins ≡ (if b then k else suc k) → ⊥
    by true h e = absurd (grind arith)
    by false h e = absurd (grind arith)

offset_most : (p : Plan) (k n : ℕ) → k < n → move_offset p k < n + 1
offset_most p k n l = by (nat_lt k (length p.ins))
  where
    by : (b : Bool) → (if b then k else suc k) < n + 1
    by true = omega arith
    by false = omega arith

offset_same : (p : Plan) (k m : ℕ) → move_offset p k ≡ move_offset p m → k ≡ m
offset_same p k m = by (nat_lt k (length p.ins)) (nat_lt m (length p.ins)) refl refl
  where
    by : (b c : Bool) → nat_lt k (length p.ins) ≡ b → nat_lt m (length p.ins) ≡ c → (if b then k else suc k) ≡ (if c then m else suc m) → k ≡ m
    by true true h g e = e
    by false false h g e = omega arith
    by true false h g e = absurd (grind arith)
    by false true h g e = absurd (grind arith)

module _ (ps : List Piece) (apart : AreApart ps) (p : Plan) (dimensions : ℕ) (planned : IsPlanned p (listed ps)) (fine : IsCopyable (listed ps) p.array p.buffer dimensions) where
  keeps_elsewhere : (qs : List Piece) (ks : List Candidate) → AreApart qs → AreKept p qs ks → Pairwise Elsewhere ks
  keeps_elsewhere [] [] a k = tt
  keeps_elsewhere [] (c ∷ ks) a k = absurd k
  keeps_elsewhere (q ∷ qs) [] a k = absurd k
  keeps_elsewhere (q ∷ qs) (c ∷ ks) a k = (
    each_by (Elsewhere c) ks (λ d i h.
        let r = its_piece p qs ks k.1 d i in
        never (places_of q) (places_of r.0) (in_later (places_of q) qs r.0 a.2 r.1.0)
        (placed_same (new_place p) (new_rises p (listed ps) dimensions planned fine) (take p.around p.ours) (places_of q) (places_of r.0) (sym k.0.places ∙ h ∙ r.1.1.places))),
    keeps_elsewhere qs ks a.3 k.1,
  )

  moves_elsewhere : (n : ℕ) (us : List Cells) (ms : List Candidate) → AreMoved p n us ms → Pairwise Elsewhere ms
  moves_elsewhere n [] [] m = tt
  moves_elsewhere n [] (c ∷ ms) m = absurd m
  moves_elsewhere n (u ∷ us) [] m = absurd m
  moves_elsewhere n (u ∷ us) (c ∷ ms) m = (
    each_by (Elsewhere c) ms (λ d i h.
        let r = its_number p (suc n) us ms m.1 d i in
        let far = r.1.0 in
        moves_apart p (listed ps) dimensions planned fine (move_offset p n) (move_offset p r.0) (replicate (length p.extents) (pos 0)) (replicate (length p.extents) (pos 0))
        (λ e. absurd (omega (arith, far, offset_same p n r.0 e))) (sym m.0.places ∙ h ∙ r.1.1.1.1.places)),
    moves_elsewhere (suc n) us ms m.1,
  )

  pub all_elsewhere : (us : List Cells) (ks ms : List Candidate) → AreKept p ps ks → AreMoved p 0 us ms → length us ≡ length p.ins + length p.outs → Pairwise Elsewhere (ks ++ ms)
  all_elsewhere us ks ms k m many = pairwise_append Elsewhere ks ms (keeps_elsewhere ps ks apart k) (moves_elsewhere 0 us ms m) (λ c d i j h.
      let q = its_piece p ps ks k c i in
      let r = its_number p 0 us ms m d j in
      let x = some_in (instances q.0) (instance_in ps q.0 apart q.1.0) in
      let e = element_at q.0 x.0 in
      let there = listed_in ps q.0 (element_at q.0 x.0) q.1.0 (map_in (element_at q.0) (instances q.0) x.0 x.1) in
      let at = element_places q.0 x.0 (whole_in ps q.0 apart q.1.0) x.1 in
      let most = r.1.1.0 in
      kept_not_moved p (listed ps) dimensions planned fine (element_at q.0 x.0) there (move_offset p r.0)
      (offset_most p r.0 (length p.ins + length p.outs) (omega (arith, most, many))) (offset_least p r.0) (replicate (length p.extents) (pos 0))
      (places_replaced (new_place p) (take p.around p.ours) (element_at q.0 x.0).vector ∙ ap (placed (new_place p) (take p.around p.ours)) at ∙ sym q.1.1.places ∙ h ∙ r.1.1.1.1.places))
