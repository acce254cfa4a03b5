-- The two changes of a piece: levels that change places, and one level that becomes greater.
use Rattle.std.proofs.Common.{◌≡◌, sym, ap, ap₂, ◌∙◌, subst, ℕ, ◌+◌, ◌-◌, ◌*◌, ◌<◌, ◌≤◌, ◌^◌, ℤ, pos, ◌+ℤ◌, neg_ℤ, unsigned_abs, true, List, map, length, get_or, set, take, sum, inl, inr, arith}
use Rattle.ch_moved.specs.Room.{origin_range}
use Rattle.std.specs.List.{All}
use Rattle.std.proofs.lemmas.Int.{ints}
use Rattle.std.proofs.lemmas.Nat.{mul-le}
use Rattle.std.proofs.Math.Nat.{mul-add}
use Rattle.std.proofs.lemmas.List.{get_or-set_other, get_or-set_same, get_or_default, length-append, length-map, length-set, length-take-le}
use Rattle.std.proofs.lemmas.List.FromFn.{get_or-map-range_with_len, length-map-range_with_len}
use Rattle.std.proofs.lemmas.List.Elements.{All-take}
use Rattle.ch_affine.specs.Affine.{IsAtMost, dot, form}
use Rattle.ch_affine.specs.Form.{Form}
use Rattle.ch_affine.specs.Rows.{IsBox, lies_in}
use Rattle.ch_affine.specs.declared.system.Range.{Range}
use Rattle.ch_moved.specs.Changed.{AllLong}
use Rattle.ch_moved.specs.Spread.{constants}
use Rattle.ch_moved.specs.Substituted.{image, substituted}
use Rattle.ch_permute.specs.Lowered.{greater, less, minus_forms, plus}
use Rattle.ch_permute.specs.Permuted.{picked}
use Rattle.ch_permute.specs.Raised.{growth}
use Rattle.ch_permute.specs.Turned.{Turns, source, target, turned, turned_boxes, turned_forms}
use Rattle.ch_permute.proofs.Changing.{Changes, IsOrdered, same_changes}
use Rattle.ch_permute.proofs.Columns.{column_turned, constants_turned, dot_column_minus, dot_constants_minus, form_at, forms_count, length_unit, same_or_not}
use Rattle.ch_moved.proofs.Limits.{at_most_at, bounded_product, far_more, farther, in_sum, narrow_by}
use Rattle.ch_permute.proofs.Growth.{greater_bounded, greater_ordered, within_greater}
use Rattle.ch_permute.proofs.Raising.{lies_set, plus_back, plus_there}
use Rattle.ch_permute.proofs.Steps.{minus_at, minus_count, minus_other}
use Rattle.ch_permute.proofs.Turning.{image_turned, length_turned, lies_turned, picked_turned, turned_back}
use Rattle.ch_moved.proofs.Values.{dot_nothing, dot_pick, lies_at}
use Rattle.ch_space.specs.Built.{unit}
use Rattle.ch_space.specs.Keeps.{IsBounded, IsNarrow, IsWhole, farthest}
use Rattle.ch_space.specs.declared.piece.Piece.{Piece}

at_range : (m : ℕ) (boxes : List Range) (k : ℕ) (d : Range) → All (IsBounded m) boxes → k < length boxes → IsBounded m (get_or boxes k d)
at_range m boxes k d h l = h k d l

bounded_more : (m n : ℕ) (b : Range) → m ≤ n → IsBounded m b → IsBounded n b
bounded_more m n b l h = record { low = let a = h.low in omega arith; high = let a = h.high in omega arith }

module _ (order : List ℤ) (p : Piece) (w : IsWhole p) (turns : Turns p.levels (source order) (target order)) where
  boxes_count : length (take p.levels p.system.boxes) ≡ p.levels
  boxes_count = length-take-le p.levels p.system.boxes (let b = w.boxes in omega arith)

  long_forms : AllLong p.levels (turned_forms (target order) p.levels)
  long_forms k d l =
      let n = forms_count (target order) p.levels in
      let o : k < p.levels = omega arith in
      let b = turns.below_too k o in
      let u = length_unit (target order k) (p.levels - 1 - target order k) in
      ap (λ (g : Form). length g.coefs) (get_or_default (turned_forms (target order) p.levels) k d (unit 0 0) l ∙ form_at (target order) p.levels k o) ∙ u ∙ omega arith

  turned_narrow : (weight c : ℕ) (f : Form) → 1 ≤ weight → length f.coefs ≡ p.levels → IsNarrow weight c f
      → IsNarrow (weight * 1) (c + 1) (substituted p.levels (turned_forms (target order) p.levels) f)
  turned_narrow weight c f some e narrow =
      let far = far_more weight c 1 some (omega arith) in
      narrow_by p.levels (turned_forms (target order) p.levels) f (weight * 1) (c + 1) long_forms (e ∙ sym (forms_count (target order) p.levels)) (λ k l.
      let s = source order k in
      let same = ap (dot f.coefs) (column_turned (source order) (target order) p.levels k l turns) ∙ dot_pick f.coefs s (p.levels - 1 - s) in
      let b = at_most_at weight f.coefs s narrow.coefs in
      subst (IsAtMost (weight * 1)) (sym same) (let m : weight ≤ weight * 1 = omega arith in omega arith))
      (let z = ap (dot f.coefs) (constants_turned (target order) p.levels) ∙ dot_nothing f.coefs p.levels in
      let t : f.constant +ℤ dot f.coefs (constants (turned_forms (target order) p.levels)) ≡ f.constant = omega (arith, ints) in
      subst (IsAtMost (farthest (weight * 1) (c + 1))) (sym t) (let b = narrow.constant in omega arith))

  pub turn_changes : Changes (picked order) 1 p (turned_forms (target order) p.levels) (turned_boxes (source order) (take p.levels p.system.boxes))
  turn_changes = record {
    many = forms_count (target order) p.levels;
    long = long_forms;
    boxed = length-map-range_with_len (λ k. get_or boxes (source order k) origin_range) 0 (length boxes) ∙ boxes_count;
    there = λ xs e.
        ap (image gs) (picked_turned order xs) ∙ image_turned (target order) p.levels (turned (source order) xs) (length_turned (source order) xs ∙ e)
        ∙ turned_back (source order) (target order) xs (λ k l. subst (λ n. target order k < n) (sym e) (turns.below_too k (omega arith))) turns.there;
    back = λ ys e.
        picked_turned order (image gs ys) ∙ ap (turned (source order)) (image_turned (target order) p.levels ys e)
        ∙ turned_back (target order) (source order) ys (λ k l. subst (λ n. source order k < n) (sym e) (turns.below k (omega arith))) turns.back;
    same_length = λ xs. ap length (picked_turned order xs) ∙ length_turned (source order) xs;
    lies = λ xs h.
        subst (λ z. lies_in (turned_boxes (source order) boxes) z ≡ true) (sym (picked_turned order xs))
        (lies_turned (source order) boxes xs (λ k l. let n = boxes_count in let b = turns.below k (omega arith) in omega arith) h);
    ordered = λ old k d l.
        let n = length-map-range_with_len (λ k. get_or boxes (source order k) origin_range) 0 (length boxes) in
        let m = boxes_count in
        let o : k < length boxes = omega arith in
        let b = turns.below k (omega arith) in
        subst IsOrdered (sym (get_or-map-range_with_len (λ k. get_or boxes (source order k) origin_range) 0 (length boxes) k k d o (omega arith)))
        (All-take IsBox p.levels p.system.boxes old (source order k) origin_range (omega arith)).some;
    constants = λ k d l.
        let n = forms_count (target order) p.levels in
        let o : k < p.levels = omega arith in
        subst (λ (g : Form). IsAtMost (2 ^ 20) g.constant) (sym (get_or_default gs k d (unit 0 0) l ∙ form_at (target order) p.levels k o)) (omega arith);
    bounded = λ weight c some h. far_all weight c some h;
    narrow = turned_narrow;
  }
    where
      boxes : List Range
      boxes = take p.levels p.system.boxes

      gs : List Form
      gs = turned_forms (target order) p.levels

      far_all : (weight c : ℕ) → 1 ≤ weight → All (IsBounded (farthest weight c)) (take p.levels p.system.boxes)
          → All (IsBounded (farthest (weight * 1) (c + 1))) (turned_boxes (source order) (take p.levels p.system.boxes))
      far_all weight c some h k d l =
          let n = length-map-range_with_len (λ k. get_or (take p.levels p.system.boxes) (source order k) origin_range) 0 (length (take p.levels p.system.boxes)) in
          let m = boxes_count in
          let o : k < length (take p.levels p.system.boxes) = omega arith in
          let b = turns.below k (omega arith) in
          subst (IsBounded (farthest (weight * 1) (c + 1))) (sym (get_or-map-range_with_len (λ k. get_or (take p.levels p.system.boxes) (source order k) origin_range) 0 (length (take p.levels p.system.boxes)) k k d o (omega arith)))
          (bounded_more (farthest weight c) (farthest (weight * 1) (c + 1)) _ (far_more weight c 1 some (omega arith)) (h (source order k) origin_range (omega arith)))

turned_sign : (z : ℤ) → IsAtMost (2 ^ 20) z → IsAtMost (2 ^ 20) (neg_ℤ z)
turned_sign z s = grind (arith, ints)

module _ (amounts : List ℤ) (amount : ℤ) (level : ℕ) (p : Piece) (w : IsWhole p) (inside : level < p.levels) (around : length amounts ≤ level) (near : IsAtMost (2 ^ 20) amount) where
  range_count : length (take p.levels p.system.boxes) ≡ p.levels
  range_count = length-take-le p.levels p.system.boxes (let b = w.boxes in omega arith)

  length_less : (gap after : ℕ) → length (less (form amounts amount) gap after).coefs ≡ length amounts + (gap + (after + 1))
  length_less gap after =
      let a = length-append (map neg_ℤ amounts) (unit gap after).coefs in
      let b = length-map amounts neg_ℤ in
      let c = length_unit gap after in
      omega arith

  long_minus : AllLong p.levels (minus_forms (form amounts amount) level p.levels)
  long_minus k d l =
      let fs = minus_forms (form amounts amount) level p.levels in
      let n = minus_count (form amounts amount) level p.levels in
      let o : k < p.levels = omega arith in
      let e = get_or_default fs k d (unit 0 0) l in
      elim (same_or_not k level) as (λ _. length (get_or fs k d).coefs ≡ p.levels) [
        | inl s ↦
            let u = length_less (level - length amounts) (p.levels - 1 - level) in
            ap (λ (g : Form). length g.coefs) (e ∙ ap (λ j. get_or fs j (unit 0 0)) s ∙ minus_at (form amounts amount) level p.levels inside) ∙ u ∙ omega arith
        | inr s ↦
            let u = length_unit k (p.levels - 1 - k) in
            ap (λ (g : Form). length g.coefs) (e ∙ minus_other (form amounts amount) level p.levels k o s) ∙ u ∙ omega arith
      ]

  grown : 1 ≤ growth amounts
  grown = omega arith

  minus_narrow : (weight c : ℕ) (f : Form) → 1 ≤ weight → length f.coefs ≡ p.levels → IsNarrow weight c f
      → IsNarrow (weight * growth amounts) (c + 1) (substituted p.levels (minus_forms (form amounts amount) level p.levels) f)
  minus_narrow weight c f some e narrow =
      narrow_by p.levels (minus_forms (form amounts amount) level p.levels) f (weight * growth amounts) (c + 1) long_minus (e ∙ sym (minus_count (form amounts amount) level p.levels)) (λ k l.
      let same = dot_column_minus f.coefs (form amounts amount) level p.levels k l inside around in
      let a = at_most_at weight f.coefs k narrow.coefs in
      let b = at_most_at weight f.coefs level narrow.coefs in
      let t = bounded_product (get_or f.coefs k (pos 0)) (get_or f.coefs level (pos 0)) (get_or amounts k (pos 0)) weight (sum (map unsigned_abs amounts)) b (in_sum amounts k) in
      let m = mul-add weight 1 (sum (map unsigned_abs amounts)) in
      subst (IsAtMost (weight * growth amounts)) (sym same) (omega arith))
      (let z = dot_constants_minus f.coefs (form amounts amount) level p.levels inside in
      let b = at_most_at weight f.coefs level narrow.coefs in
      let t = bounded_product f.constant (get_or f.coefs level (pos 0)) amount weight (unsigned_abs amount) b (omega arith) in
      let far = farther weight c (growth amounts) (unsigned_abs amount) some grown near in
      let one : farthest weight c * 1 ≤ farthest weight c * growth amounts = mul-le (farthest weight c) 1 (farthest weight c) (growth amounts) (omega arith) grown in
      let k = narrow.constant in
      subst (IsAtMost (farthest (weight * growth amounts) (c + 1))) (sym (ap (λ x. f.constant +ℤ x) z)) (omega arith))

  minus_bounded : (weight c : ℕ) → 1 ≤ weight → All (IsBounded (farthest weight c)) (take p.levels p.system.boxes)
      → All (IsBounded (farthest (weight * growth amounts) (c + 1))) (set (take p.levels p.system.boxes) level
      (greater (form amounts amount) (take p.levels p.system.boxes) (get_or (take p.levels p.system.boxes) level origin_range)))
  minus_bounded weight c some h k d l =
      let boxes = take p.levels p.system.boxes in
      let r = greater (form amounts amount) boxes (get_or boxes level origin_range) in
      let n = length-set boxes level r in
      let m = range_count in
      elim (same_or_not k level) as (λ _. IsBounded (farthest (weight * growth amounts) (c + 1)) (get_or (set boxes level r) k d)) [
        | inl s ↦
            let b = greater_bounded (form amounts amount) boxes (get_or boxes level origin_range) (farthest weight c) h (h level origin_range (omega arith)) in
            let far = farther weight c (growth amounts) (unsigned_abs amount) some grown near in
            let one : 1 * unsigned_abs amount ≤ weight * unsigned_abs amount = mul-le 1 (unsigned_abs amount) weight (unsigned_abs amount) some (omega arith) in
            subst (IsBounded (farthest (weight * growth amounts) (c + 1))) (sym (ap (λ j. get_or (set boxes level r) j d) s ∙ get_or-set_same boxes level r d (omega arith)))
            (bounded_more (farthest weight c * growth amounts + unsigned_abs amount) (farthest (weight * growth amounts) (c + 1)) r (omega arith) b)
        | inr s ↦
            subst (IsBounded (farthest (weight * growth amounts) (c + 1))) (sym (get_or-set_other boxes level k r d s))
            (bounded_more (farthest weight c) (farthest (weight * growth amounts) (c + 1)) _ (far_more weight c (growth amounts) some grown) (h k d (omega arith)))
      ]

  minus_constants : All (λ g. IsAtMost (2 ^ 20) g.constant) (minus_forms (form amounts amount) level p.levels)
  minus_constants k d l =
      let fs = minus_forms (form amounts amount) level p.levels in
      let n = minus_count (form amounts amount) level p.levels in
      let o : k < p.levels = omega arith in
      let e = get_or_default fs k d (unit 0 0) l in
      elim (same_or_not k level) as (λ _. IsAtMost (2 ^ 20) (get_or fs k d).constant) [
        | inl s ↦
            subst (λ (g : Form). IsAtMost (2 ^ 20) g.constant) (sym (e ∙ ap (λ j. get_or fs j (unit 0 0)) s ∙ minus_at (form amounts amount) level p.levels inside)) (turned_sign amount near)
        | inr s ↦ subst (λ (g : Form). IsAtMost (2 ^ 20) g.constant) (sym (e ∙ minus_other (form amounts amount) level p.levels k o s)) (omega arith)
      ]

  minus_ordered : All IsBox p.system.boxes → All IsOrdered (set (take p.levels p.system.boxes) level
      (greater (form amounts amount) (take p.levels p.system.boxes) (get_or (take p.levels p.system.boxes) level origin_range)))
  minus_ordered old k d l =
      let boxes = take p.levels p.system.boxes in
      let r = greater (form amounts amount) boxes (get_or boxes level origin_range) in
      let n = length-set boxes level r in
      let m = range_count in
      let each = All-take IsBox p.levels p.system.boxes old in
      elim (same_or_not k level) as (λ _. IsOrdered (get_or (set boxes level r) k d)) [
        | inl s ↦
            subst IsOrdered (sym (ap (λ j. get_or (set boxes level r) j d) s ∙ get_or-set_same boxes level r d (omega arith)))
            (greater_ordered (form amounts amount) boxes (get_or boxes level origin_range) (omega arith) (λ j e h. (each j e h).some) (each level origin_range (omega arith)).some)
        | inr s ↦ subst IsOrdered (sym (get_or-set_other boxes level k r d s)) (each k d (omega arith)).some
      ]

  pub raise_changes : Changes (plus (form amounts amount) level) (growth amounts) p (minus_forms (form amounts amount) level p.levels)
      (set (take p.levels p.system.boxes) level (greater (form amounts amount) (take p.levels p.system.boxes) (get_or (take p.levels p.system.boxes) level origin_range)))
  raise_changes = record {
    many = minus_count (form amounts amount) level p.levels;
    long = long_minus;
    boxed = length-set (take p.levels p.system.boxes) level _ ∙ range_count;
    there = λ xs e. plus_there (form amounts amount) level p.levels xs e inside around;
    back = λ ys e. plus_back (form amounts amount) level p.levels ys e inside around;
    same_length = λ xs. length-set xs level _;
    lies = λ xs h.
        let n = range_count in
        lies_set (take p.levels p.system.boxes) xs level _ _ h
        (within_greater (form amounts amount) (take p.levels p.system.boxes) (get_or (take p.levels p.system.boxes) level origin_range) xs (get_or xs level (pos 0)) (omega arith) h
        (lies_at (take p.levels p.system.boxes) xs level origin_range h (omega arith)));
    ordered = minus_ordered;
    constants = minus_constants;
    bounded = minus_bounded;
    narrow = minus_narrow;
  }

-- the same, as the code makes them

pub turned_is : (order : List ℤ) (p : Piece) (gs : List Form) (boxes bs : List Range) (n : ℕ) → IsWhole p → Turns p.levels (source order) (target order) → bs ≡ p.system.boxes → n ≡ p.levels
    → gs ≡ turned_forms (target order) n → boxes ≡ turned_boxes (source order) (take n bs) → Changes (picked order) 1 p gs boxes
turned_is order p gs boxes bs n w t s l e f =
    same_changes (picked order) 1 p (turned_forms (target order) p.levels) gs (turned_boxes (source order) (take p.levels p.system.boxes)) boxes (turn_changes order p w t)
    (e ∙ ap (turned_forms (target order)) l) (f ∙ ap₂ (λ m z. turned_boxes (source order) (take m z)) l s)

pub raised_is : (amounts : List ℤ) (amount : ℤ) (level : ℕ) (p : Piece) (gs : List Form) (boxes bs : List Range) (n : ℕ) → IsWhole p → level < p.levels → length amounts ≤ level
    → IsAtMost (2 ^ 20) amount → bs ≡ p.system.boxes → n ≡ p.levels → gs ≡ minus_forms (form amounts amount) level n
    → boxes ≡ set (take n bs) level (greater (form amounts amount) (take n bs) (get_or (take n bs) level origin_range))
    → Changes (plus (form amounts amount) level) (growth amounts) p gs boxes
raised_is amounts amount level p gs boxes bs n w inside around near s l e f =
    same_changes (plus (form amounts amount) level) (growth amounts) p (minus_forms (form amounts amount) level p.levels) gs _ boxes (raise_changes amounts amount level p w inside around near)
    (e ∙ ap (minus_forms (form amounts amount) level) l)
    (f ∙ ap₂ (λ m z. set (take m z) level (greater (form amounts amount) (take m z) (get_or (take m z) level origin_range))) l s)
