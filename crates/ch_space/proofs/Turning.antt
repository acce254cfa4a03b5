-- The points of the negated system are the negatives, in the opposite order.
use Rattle.std.proofs.Common.{◌≡◌, refl, sym, ap, ap₂, ◌∙◌, ℕ, ◌+◌, ◌<◌, ◌≤◌, ◌^◌, ℤ, pos, neg_ℤ, ◌+ℤ◌, ◌*ℤ◌, ◌≤ℤ◌, ◌<ℤ◌, ◌&&◌, int_le, List, [], ◌∷◌, ◌++◌, map, length, take, get_or, arith}
use Rattle.std.specs.List.{All}
use Rattle.std.specs.Ordering.{int_cmp, ordering_then, MatchOrdering}
use Rattle.std.specs.declared.cmp.Ordering.{Ordering}
use Rattle.std.specs.declared.cmp.Ordering.TheVariants.{Less, Equal, Greater}
use Rattle.std.specs.Cmp.{int_ranked}
use Rattle.std.specs.Cmp.Lexicographic.{slice_cmp}
use Rattle.std.proofs.Math.IntN.{neg_ℤ-neg_ℤ, *ℤ_comm}
use Rattle.std.proofs.lemmas.Int.{ints}
use Rattle.std.proofs.lemmas.List.{length-map, map_more, take_all}
use Rattle.std.proofs.lemmas.List.Elements.{All-map, All-weaker, All-cons, All-head, All-tail, All-nil}
use Rattle.ch_affine.specs.Form.{Form}
use Rattle.ch_affine.specs.Affine.{IsAtMost, IsSmall, value, dot}
use Rattle.ch_affine.specs.Rows.{Rows, IsSystem, IsBox, all_hold}
use Rattle.ch_affine.specs.declared.system.Range.{Range}
use Rattle.ch_poly.specs.Points.{points, box_points}
use Rattle.ch_poly.proofs.Contradicts.{neg_times}
use Rattle.ch_poly.proofs.Firsts.{InBox}
use Rattle.ch_timed.specs.Members.{In}
use Rattle.ch_space.specs.Negated.{negatives, negated_form, negated_range, negated}
use Rattle.ch_space.proofs.Membership.{in_filter, filter_in, in_box_points, box_points_in, length_inside}

turned_product : (c x : ℤ) → c *ℤ neg_ℤ x ≡ neg_ℤ c *ℤ x
turned_product c x =
    let a = neg_times x c in
    let b = neg_times c x in
    let d = *ℤ_comm x c in
    let e = *ℤ_comm (neg_ℤ x) c in
    omega (arith, ints)

turned_dot : (cs xs : List ℤ) → dot (negatives cs) xs ≡ dot cs (negatives xs)
turned_dot [] xs = refl
turned_dot (c ∷ cs) [] = refl
turned_dot (c ∷ cs) (x ∷ xs) = ap₂ (λ p q. p +ℤ q) (sym (turned_product c x)) (turned_dot cs xs)

turned_value : (f : Form) (xs : List ℤ) → value (negated_form f) xs ≡ value f (negatives xs)
turned_value f xs = ap (λ z. f.constant +ℤ z) (turned_dot f.coefs xs)

turned_hold : (rows : List Form) (xs : List ℤ) → all_hold (map negated_form rows) xs ≡ all_hold rows (negatives xs)
turned_hold [] xs = refl
turned_hold (f ∷ rows) xs = ap₂ (λ a b. a && b) (ap (λ v. int_le (pos 0) v) (turned_value f xs)) (turned_hold rows xs)

pub twice : (xs : List ℤ) → negatives (negatives xs) ≡ xs
twice [] = refl
twice (x ∷ xs) = ap₂ (λ h t. h ∷ t) (neg_ℤ-neg_ℤ x) (twice xs)

turned_inside : (rs : List Range) (xs : List ℤ) → InBox rs xs → InBox (map negated_range rs) (negatives xs)
turned_inside [] [] b = tt
turned_inside [] (x ∷ xs) b = absurd b
turned_inside (r ∷ rs) [] b = absurd b
turned_inside (r ∷ rs) (x ∷ xs) b = let l = b.0 in let h = b.1 in (omega (arith, ints), omega (arith, ints), turned_inside rs xs b.2)

inside_turned : (rs : List Range) (xs : List ℤ) → InBox (map negated_range rs) xs → InBox rs (negatives xs)
inside_turned [] [] b = tt
inside_turned [] (x ∷ xs) b = absurd b
inside_turned (r ∷ rs) [] b = absurd b
inside_turned (r ∷ rs) (x ∷ xs) b = let l = b.0 in let h = b.1 in (omega (arith, ints), omega (arith, ints), inside_turned rs xs b.2)

pub point_inside : (s : Rows) (p : List ℤ) → In p (points s) → InBox s.boxes p
point_inside s p i = in_box_points s.boxes p (in_filter (all_hold s.rows) (box_points s.boxes) p i).0

pub point_length : (s : Rows) (p : List ℤ) → In p (points s) → length p ≡ length s.boxes
point_length s p i = length_inside s.boxes p (point_inside s p i)

pub point_turned : (s : Rows) (p : List ℤ) → In p (points s) → In (negatives p) (points (negated s))
point_turned s p i =
    let f = in_filter (all_hold s.rows) (box_points s.boxes) p i in
    filter_in (all_hold (map negated_form s.rows)) (box_points (map negated_range s.boxes)) (negatives p)
    (box_points_in (map negated_range s.boxes) (negatives p) (turned_inside s.boxes p (point_inside s p i)))
    (turned_hold s.rows (negatives p) ∙ ap (all_hold s.rows) (twice p) ∙ f.1)

pub turned_point : (s : Rows) (q : List ℤ) → In q (points (negated s)) → In (negatives q) (points s)
turned_point s q i =
    let f = in_filter (all_hold (map negated_form s.rows)) (box_points (map negated_range s.boxes)) q i in
    filter_in (all_hold s.rows) (box_points s.boxes) (negatives q)
    (box_points_in s.boxes (negatives q) (inside_turned s.boxes q (point_inside (negated s) q i)))
    (sym (turned_hold s.rows q) ∙ f.1)

opposite_cmp : (x y : ℤ) (r o : Ordering) → MatchOrdering r (neg_ℤ x <ℤ neg_ℤ y) (neg_ℤ x ≡ neg_ℤ y) (neg_ℤ y <ℤ neg_ℤ x) → MatchOrdering o (y <ℤ x) (y ≡ x) (x <ℤ y) → r ≡ o
opposite_cmp x y Less Less m n = refl
opposite_cmp x y Less Equal m n = absurd (omega (arith, ints))
opposite_cmp x y Less Greater m n = absurd (omega (arith, ints))
opposite_cmp x y Equal Less m n = absurd (omega (arith, ints))
opposite_cmp x y Equal Equal m n = refl
opposite_cmp x y Equal Greater m n = absurd (omega (arith, ints))
opposite_cmp x y Greater Less m n = absurd (omega (arith, ints))
opposite_cmp x y Greater Equal m n = absurd (omega (arith, ints))
opposite_cmp x y Greater Greater m n = refl

pub opposite : (xs ys : List ℤ) → length xs ≡ length ys → slice_cmp int_cmp (negatives xs) (negatives ys) ≡ slice_cmp int_cmp ys xs
opposite [] [] h = refl
opposite [] (y ∷ ys) h = absurd (omega arith)
opposite (x ∷ xs) [] h = absurd (omega arith)
opposite (x ∷ xs) (y ∷ ys) h =
    ap₂ ordering_then
    (opposite_cmp x y (int_cmp (neg_ℤ x) (neg_ℤ y)) (int_cmp y x) (int_ranked (neg_ℤ x) (neg_ℤ y) (int_cmp (neg_ℤ x) (neg_ℤ y)) refl) (int_ranked y x (int_cmp y x) refl))
    (opposite xs ys (omega arith))

-- The negated system is one.

pub negative_small : (most : ℕ) (x : ℤ) → IsAtMost most x → IsAtMost most (neg_ℤ x)
negative_small most x h = omega (arith, ints)

pub turned_small : (f : Form) → IsSmall f → IsSmall (negated_form f)
turned_small f s = record {
  few = rw length-map s.few;
  coefs = All-map (IsAtMost (2 ^ 60)) neg_ℤ f.coefs (All-weaker (IsAtMost (2 ^ 60)) (λ c. IsAtMost (2 ^ 60) (neg_ℤ c)) (negative_small (2 ^ 60)) f.coefs s.coefs);
  constant = s.constant;
}

turned_box : (r : Range) → IsBox r → IsBox (negated_range r)
turned_box r b = let l = b.low in let h = b.high in let s = b.some in record { low = negative_small (2 ^ 54) r.high h; high = negative_small (2 ^ 54) r.low l; some = omega (arith, ints) }

pub turned_is : (s : Rows) → IsSystem s → IsSystem (negated s)
turned_is s i = record {
  few = i.few;
  rows = All-map (λ f. length f.coefs ≡ s.vars) negated_form s.rows (All-weaker (λ (f : Form). length f.coefs ≡ s.vars) (λ (f : Form). length (negatives f.coefs) ≡ s.vars) (λ f h. length-map f.coefs neg_ℤ ∙ h) s.rows i.rows);
  boxes = length-map s.boxes negated_range ∙ i.boxes;
  each = All-map IsBox negated_range s.boxes (All-weaker IsBox (λ r. IsBox (negated_range r)) turned_box s.boxes i.each);
}

within_small : (low high x : ℤ) → IsAtMost (2 ^ 54) low → IsAtMost (2 ^ 54) high → low ≤ℤ x → x ≤ℤ high → IsAtMost (2 ^ 54) x
within_small low high x l h a b = omega (arith, ints)

pub inside_small : (rs : List Range) (xs : List ℤ) → All IsBox rs → InBox rs xs → All (IsAtMost (2 ^ 54)) xs
inside_small [] [] a b = All-nil (IsAtMost (2 ^ 54))
inside_small [] (x ∷ xs) a b = absurd b
inside_small (r ∷ rs) [] a b = absurd b
inside_small (r ∷ rs) (x ∷ xs) a b =
    let i = All-head IsBox r rs a in
    All-cons (IsAtMost (2 ^ 54)) x xs (within_small r.low r.high x i.low i.high b.0 b.1) (inside_small rs xs (All-tail IsBox r rs a) b.2)

pub point_small : (s : Rows) (p : List ℤ) → IsSystem s → In p (points s) → All (IsAtMost (2 ^ 54)) p
point_small s p i j = inside_small s.boxes p i.each (point_inside s p j)

-- What the functions want.

abbrev range_of : ℤ → ℤ → Range
range_of low high = record { low = low; high = high }

pub ranges_more : (boxes others new : List Range) (k : ℕ) (d : Range) (low high : ℤ) → k < length boxes → others ≡ map negated_range (take k boxes)
    → new ≡ others ++ record { low = low; high = high } ∷ [] → low ≡ neg_ℤ (get_or boxes k d).high → high ≡ neg_ℤ (get_or boxes k d).low → new ≡ map negated_range (take (k + 1) boxes)
ranges_more boxes others new k d low high h o n l g =
    n ∙ ap₂ (λ z (r : Range). z ++ r ∷ []) o (ap₂ range_of l g) ∙ sym (map_more negated_range boxes k d h)

pub system_turned : (s : Rows) (rows : List Form) (boxes ranges : List Range) (k : ℕ) → IsSystem s → rows ≡ map negated_form (take k s.rows) → length s.rows ≤ k → boxes ≡ map negated_range ranges → ranges ≡ s.boxes
    → IsSystem (record { vars = s.vars; rows = rows; boxes = boxes })
system_turned s rows boxes ranges k i r h b e =
    let rows_are : rows ≡ map negated_form s.rows = r ∙ ap (map negated_form) (take_all k s.rows h) in
    let boxes_are : boxes ≡ map negated_range s.boxes = b ∙ ap (map negated_range) e in
    rw (rows_are, boxes_are) (turned_is s i)
