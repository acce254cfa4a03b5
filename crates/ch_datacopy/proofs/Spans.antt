-- The extents of a plan are one more than the widths of its cells, and the only numbers that are.
use Rattle.std.proofs.Common.{◌≡◌, refl, sym, ap, ap₂, ◌∙◌, subst, ℕ, suc, ◌+◌, ◌<◌, ◌≤◌, ℤ, pos, ◌-ℤ◌, ◌≤ℤ◌, negsuc, unsigned_abs, List, [], ◌∷◌, ◌++◌, length, take, drop, get_or, slice_index_or, ◌⊎◌, inl, inr, arith}
use Rattle.std.specs.List.{flat_map}
use Rattle.std.proofs.lemmas.Int.{ints}
use Rattle.ch_copied.specs.Plans.{Plan}
use Rattle.ch_copied.specs.Uses.{IsExtent, Use, apart, uses}
use Rattle.ch_copied.proofs.Exact.{exact}
use Rattle.ch_copied.proofs.Sound.{long_use, use_dimensions}
use Rattle.ch_datacopy.specs.declared.cells.Cells.{Cells}
use Rattle.ch_datacopy.specs.Cells.{cell_at, iterators_at}
use Rattle.ch_datacopy.specs.Pairs.{IsPairOf, used}
use Rattle.ch_datacopy.specs.Sources.{Source, forms}
use Rattle.ch_datacopy.specs.Widths.{AreApart, AreWidths, IsWidth}
use Rattle.ch_datacopy.proofs.Instances.{drop_front, take_front}
use Rattle.ch_datacopy.proofs.Planned.{IsCopying, cells_of, is_plain, source_of}
use Rattle.ch_datacopy.proofs.Sourced.{are_uses, transfer_of, used_from, used_to}
use Rattle.ch_space.specs.declared.piece.Piece.{Piece}
use Rattle.ch_space.specs.Pieces.{instances, listed}
use Rattle.ch_space.proofs.Membership.{flat_in, in_append, in_flat}
use Rattle.ch_space.proofs.PieceNumbers.{instance_in, some_in}
use Rattle.ch_timed.specs.Members.{In}
use Rattle.ch_timed.proofs.Orders.{in_map, map_in}

-- widths are unique

width_most : (around cells k : ℕ) (us : List Cells) (w v : ℕ) → IsWidth around cells k us us w → IsWidth around cells k us us v → w ≤ v
width_most around cells k us w v a b = elim a.needed as (λ _. w ≤ v) [
  | inl e ↦ omega (arith, e)
  | inr p ↦
      let l = b.enough p.first p.second p.prefix p.first_cell p.second_cell p.first_is p.second_is p.pair in
      let d = p.differ in
      omega (arith, ints, l, d)
]

same_entries : (xs ys : List ℕ) → length xs ≡ length ys → ((k : ℕ) → k < length xs → get_or xs k 0 ≡ get_or ys k 0) → xs ≡ ys
same_entries [] [] l h = refl
same_entries [] (y ∷ ys) l h = absurd (omega (arith, l))
same_entries (x ∷ xs) [] l h = absurd (omega (arith, l))
same_entries (x ∷ xs) (y ∷ ys) l h = ap₂ (λ z zs. z ∷ zs) (h 0 (omega arith)) (same_entries xs ys (omega (arith, l)) (λ k m. h (suc k) (omega (arith, m))))

pub one_width : (around cells : ℕ) (us : List Cells) (es fs : List ℕ) → AreWidths around cells us es → AreWidths around cells us fs → es ≡ fs
one_width around cells us es fs a b = same_entries es fs (a.count ∙ sym b.count) (λ k l.
    let c = a.count in
    let x = a.each k (omega (arith, l, c)) in
    let y = b.each k (omega (arith, l, c)) in
    let m = width_most around cells k us x.0 y.0 x.2 y.2 in
    let n = width_most around cells k us y.0 x.0 y.2 x.2 in
    x.1 ∙ (let e : x.0 + 1 ≡ y.0 + 1 = omega (arith, m, n) in e) ∙ sym y.1)

-- the parts of a list of two parts, where the first is as long
fronts_same : (n : ℕ) (xs ys vs ws : List ℤ) → length xs ≡ n → length vs ≡ n → xs ++ ys ≡ vs ++ ws → (xs ≡ vs) × (ys ≡ ws)
fronts_same n xs ys vs ws l m e = (
  sym (take_front n xs ys l) ∙ ap (take n) e ∙ take_front n vs ws m,
  sym (drop_front n xs ys l) ∙ ap (drop n) e ∙ drop_front n vs ws m,
)

apart_bound : (c d : ℤ) (w : ℕ) → unsigned_abs (c -ℤ d) + 1 ≤ w + 1 → (c -ℤ d) ≤ℤ pos w
apart_bound c d w l = omega (arith, ints, l)

module _ (arrays : ℕ) (ps : List Piece) (counts : List ℕ) (temps : List (List ℕ)) (weight commands : ℕ) (p : Plan) (m : ℕ) (us : List Cells)
    (k : IsCopying arrays ps counts temps weight commands p m us) where
  abbrev all : List Use
  all = flat_map (uses (listed ps) p.around) (p.ins ++ p.outs)

  -- a use of some cells
  record IsUseOf (u : Cells) (prefix cell : List ℤ) : Type 0 where
    use_is : Use
    is_use : In use_is all
    prefix_is : prefix ≡ use_is.prefix
    cell_is : cell ≡ use_is.cell

  side : (x : Source) → In x k.moved → In (transfer_of x) p.ins ⊎ In (transfer_of x) p.outs
  side x i = in_append p.ins p.outs (transfer_of x) (subst (In (transfer_of x)) (sym k.transfers) (map_in transfer_of k.moved x i))

  in_all : (x : Source) → In x k.moved → (w : Use) → In w (uses (listed ps) p.around (transfer_of x)) → In w all
  in_all x i w j = flat_in (uses (listed ps) p.around) (p.ins ++ p.outs) (transfer_of x) w (subst (In (transfer_of x)) (sym k.transfers) (map_in transfer_of k.moved x i)) j

  its_use : (u : Cells) (prefix cell : List ℤ) → In u us → length prefix ≡ p.around → In (prefix ++ cell) (used u) → IsUseOf u prefix cell
  its_use u prefix cell i l j =
      let x = source_of p.around k.moved us k.cells u i in
      let t = k.theirs x.0 x.1.0 in
      let w = used_from ps k.space.apart x.0.piece t.piece p.around x.0.access (is_plain arrays ps counts temps weight commands p m us k x.0 x.1.0) u x.1.1 (prefix ++ cell) j in
      let long = long_use p (listed ps) m k.planned k.fine (transfer_of x.0) w.0 (side x.0 x.1.0) w.1.0 in
      let same = fronts_same p.around prefix cell w.0.prefix w.0.cell l long.prefix w.1.1 in
      record { use_is = w.0; is_use = in_all x.0 x.1.0 w.0 w.1.0; prefix_is = same.0; cell_is = same.1 }

  -- the cells of a use
  record IsCellOf (w : Use) : Type 0 where
    cells_are : Cells
    is_cells : In cells_are us
    there : In (w.prefix ++ w.cell) (used cells_are)
    prefix_long : length w.prefix ≡ p.around
    cell_long : length w.cell ≡ m

  its_cells : (w : Use) → In w all → IsCellOf w
  its_cells w i =
      let t = in_flat (uses (listed ps) p.around) (p.ins ++ p.outs) w i in
      let x = in_map transfer_of k.moved t.0 (subst (In t.0) k.transfers t.1.0) in
      let j : In w (uses (listed ps) p.around (transfer_of x.0)) = subst (λ z. In w (uses (listed ps) p.around z)) (sym x.1.1) t.1.1 in
      let u = cells_of p.around k.moved us k.cells x.0 x.1.0 in
      let long = long_use p (listed ps) m k.planned k.fine (transfer_of x.0) w (side x.0 x.1.0) j in
      let d = use_dimensions p (listed ps) m k.planned k.fine (transfer_of x.0) w (side x.0 x.1.0) j in
      record {
        cells_are = u.0;
        is_cells = u.1.0;
        there = used_to ps k.space.apart x.0.piece (k.theirs x.0 x.1.0).piece p.around x.0.access (is_plain arrays ps counts temps weight commands p m us k x.0 x.1.0) u.0 u.1.1 w j;
        prefix_long = long.prefix;
        cell_long = d;
      }

  all_long : (w : Use) → In w all → length w.cell ≡ m
  all_long w i = (its_cells w i).cell_long

  some_use : (w : Use) × In w all
  some_use =
      let t = k.theirs k.first k.is_first in
      let y = some_in (instances k.first.piece) (instance_in ps k.first.piece k.space.apart t.piece) in
      let i = are_uses ps k.space.apart k.first.piece t.piece p.around k.first.access (is_plain arrays ps counts temps weight commands p m us k k.first k.is_first) y.0 y.1 in
      let w : Use = record { prefix = take p.around y.0; cell = cell_at (forms k.first.access) (iterators_at k.first.piece y.0) } in
      (w, in_all k.first k.is_first w i)

  extent_is : (j : ℕ) → j < m → IsExtent all j (get_or p.extents j 0)
  extent_is j l = subst (λ es. IsExtent all j (get_or es j 0)) (sym k.planned.extents) (exact m all all_long some_use.0 some_use.1 j l)

  -- two uses with one prefix
  pair_of : (w v : Use) → In w all → In v all → w.prefix ≡ v.prefix → (a : Cells) × ((b : Cells) × (In a us × (In b us × IsPairOf p.around m a b w.prefix w.cell v.cell)))
  pair_of w v i j e =
      let a = its_cells w i in
      let b = its_cells v j in (
        a.cells_are,
        (
          b.cells_are,
          (
            a.is_cells,
            (
              b.is_cells,
              record {
                prefix_long = a.prefix_long;
                first_long = a.cell_long;
                second_long = b.cell_long;
                in_first = a.there;
                in_second = subst (λ z. In (z ++ v.cell) (used b.cells_are)) (sym e) b.there;
              },
            ),
          ),
        ),
      )

  width_is : (j : ℕ) (e : ℕ) → IsExtent all j e → (wide : ℕ) × (e ≡ wide + 1) × IsWidth p.around m j us us wide
  width_is j e x = (unsigned_abs (x_first -ℤ x_second), sym x.needed, record { enough = enough; needed = needed })
    where
      x_first : ℤ
      x_first = slice_index_or x.first.cell j (pos 0)

      x_second : ℤ
      x_second = slice_index_or x.second.cell j (pos 0)

      enough : (u v : Cells) (prefix first second : List ℤ) → In u us → In v us → IsPairOf p.around m u v prefix first second
          → (slice_index_or first j (pos 0) -ℤ slice_index_or second j (pos 0)) ≤ℤ pos (unsigned_abs (x_first -ℤ x_second))
      enough u v prefix first second i h pair =
          let a = its_use u prefix first i pair.prefix_long pair.in_first in
          let b = its_use v prefix second h pair.prefix_long pair.in_second in
          let l = x.enough a.use_is b.use_is a.is_use b.is_use (sym a.prefix_is ∙ b.prefix_is) in
          let n = x.needed in
          apart_bound (slice_index_or first j (pos 0)) (slice_index_or second j (pos 0)) (unsigned_abs (x_first -ℤ x_second))
          (subst (λ z. unsigned_abs (slice_index_or first j (pos 0) -ℤ slice_index_or z j (pos 0)) + 1 ≤ unsigned_abs (x_first -ℤ x_second) + 1) (sym b.cell_is)
          (subst (λ z. unsigned_abs (slice_index_or z j (pos 0) -ℤ slice_index_or b.use_is.cell j (pos 0)) + 1 ≤ unsigned_abs (x_first -ℤ x_second) + 1) (sym a.cell_is)
          (subst (λ n. apart j a.use_is b.use_is ≤ n) (sym n) l)))

      needed : (unsigned_abs (x_first -ℤ x_second) ≡ 0) ⊎ AreApart p.around m j us us (unsigned_abs (x_first -ℤ x_second))
      needed = elim (sign x_first x_second) as (λ _. (unsigned_abs (x_first -ℤ x_second) ≡ 0) ⊎ AreApart p.around m j us us (unsigned_abs (x_first -ℤ x_second))) [
        | inl f ↦
            let q = pair_of x.first x.second x.first_is x.second_is x.one_prefix in
            inr (record {
              first = q.0;
              second = q.1.0;
              first_is = q.1.1.0;
              second_is = q.1.1.1.0;
              prefix = x.first.prefix;
              first_cell = x.first.cell;
              second_cell = x.second.cell;
              pair = q.1.1.1.1;
              differ = f;
            })
        | inr f ↦
            let q = pair_of x.second x.first x.second_is x.first_is (sym x.one_prefix) in
            inr (record {
              first = q.0;
              second = q.1.0;
              first_is = q.1.1.0;
              second_is = q.1.1.1.0;
              prefix = x.second.prefix;
              first_cell = x.second.cell;
              second_cell = x.first.cell;
              pair = q.1.1.1.1;
              differ = f;
            })
      ]
        where
          either : (y z : ℤ) → z ≡ pos 0 -ℤ y → (y ≡ pos (unsigned_abs y)) ⊎ (z ≡ pos (unsigned_abs y))
          either (pos n) z e = inl refl
          either (negsuc n) z e = inr (omega (arith, ints, e))

          sign : (c d : ℤ) → (c -ℤ d ≡ pos (unsigned_abs (c -ℤ d))) ⊎ (d -ℤ c ≡ pos (unsigned_abs (c -ℤ d)))
          sign c d = either (c -ℤ d) (d -ℤ c) (omega (arith, ints))

  -- the plan's extents are the widths, and one more
  pub are_widths : AreWidths p.around m us p.extents
  are_widths = record { count = k.long; each = λ j l. width_is j (get_or p.extents j 0) (extent_is j l) }
