-- Loop values that change places, and change back.
use Rattle.std.proofs.Common.{◌≡◌, sym, ap, ◌∙◌, subst, ℕ, ◌+◌, ◌-◌, ◌<◌, ◌≤◌, ℤ, pos, true, false, List, map, length, take, drop, get_or, min, ltb, inl, inr, arith}
use Rattle.ch_moved.specs.Room.{origin_range}
use Rattle.std.proofs.lemmas.Bool.{cases_lt}
use Rattle.std.proofs.lemmas.Int.{ints}
use Rattle.std.proofs.lemmas.List.{ext_get_or, get_or-append_right, get_or-drop, get_or-map, get_or-take, get_or_append_left, length-append, length-drop, length-map, length-take}
use Rattle.std.proofs.lemmas.List.FromFn.{length-map-range_with_len, get_or-map-range_with_len}
use Rattle.ch_affine.specs.Affine.{value}
use Rattle.ch_affine.specs.Rows.{lies_in}
use Rattle.ch_affine.specs.declared.system.Range.{Range}
use Rattle.ch_moved.specs.Arguments.{at_level, natural}
use Rattle.ch_moved.specs.Substituted.{image}
use Rattle.ch_permute.specs.Permuted.{picked}
use Rattle.ch_permute.specs.Turned.{source, turned, turned_boxes, turned_forms}
use Rattle.ch_space.specs.Built.{unit}
use Rattle.ch_moved.proofs.Values.{IsWithin, dot_unit, lies_at, lies_by, lies_length}

pub length_turned : (s : ℕ → ℕ) (xs : List ℤ) → length (turned s xs) ≡ length xs
length_turned s xs = length-map-range_with_len (λ k. get_or xs (s k) (pos 0)) 0 (length xs)

pub at_turned : (s : ℕ → ℕ) (xs : List ℤ) (k : ℕ) (d : ℤ) → k < length xs → get_or (turned s xs) k d ≡ get_or xs (s k) (pos 0)
at_turned s xs k d l = get_or-map-range_with_len (λ k. get_or xs (s k) (pos 0)) 0 (length xs) k k d l (omega arith)

-- to turn and to turn back changes nothing
pub turned_back : (s t : ℕ → ℕ) (xs : List ℤ) → ((k : ℕ) → k < length xs → t k < length xs) → ((k : ℕ) → s (t k) ≡ k) → turned t (turned s xs) ≡ xs
turned_back s t xs below back =
    ext_get_or (pos 0) (turned t (turned s xs)) xs (length_turned t (turned s xs) ∙ length_turned s xs) (λ k l.
    let n = length_turned t (turned s xs) in let m = length_turned s xs in
    at_turned t (turned s xs) k (pos 0) (omega arith) ∙ at_turned s xs (t k) (pos 0) (below k (omega arith)) ∙ ap (λ j. get_or xs j (pos 0)) (back k))

length_picked : (order xs : List ℤ) → length (picked order xs) ≡ length xs
length_picked order xs =
    let f : ℤ → ℤ = λ o. at_level (natural o) xs in
    let a = length-append (map f (take (length xs) order)) (drop (length order) xs) in
    let b = length-map (take (length xs) order) f in
    let c = length-take (length xs) order in
    let d = length-drop (length order) xs in
    omega arith

source_near : (order : List ℤ) (k : ℕ) → k < length order → source order k ≡ natural (get_or order k (pos 0)) - 1
source_near order k l = let t : ltb k (length order) ≡ true = grind arith in rw t

source_far : (order : List ℤ) (k : ℕ) → length order ≤ k → source order k ≡ k
source_far order k l = let t : ltb k (length order) ≡ false = grind arith in rw t

abbrev chosen : List ℤ → ℤ → ℤ
chosen xs o = at_level (natural o) xs

-- the values in an order
pub picked_turned : (order xs : List ℤ) → picked order xs ≡ turned (source order) xs
picked_turned order xs = ext_get_or (pos 0) (picked order xs) (turned (source order) xs) (length_picked order xs ∙ sym (length_turned (source order) xs)) (λ k l.
    let n : k < length xs = let e = length_picked order xs in omega arith in
    elim (cases_lt k (length order)) as (λ _. get_or (picked order xs) k (pos 0) ≡ get_or (turned (source order) xs) k (pos 0)) [
      | inl a ↦ near k n a ∙ sym (at_turned (source order) xs k (pos 0) n)
      | inr a ↦ far k n a ∙ sym (at_turned (source order) xs k (pos 0) n)
    ])
  where
    long : length (map (chosen xs) (take (length xs) order)) ≡ min (length xs) (length order)
    long = length-map (take (length xs) order) (chosen xs) ∙ length-take (length xs) order

    near : (k : ℕ) → k < length xs → k < length order → get_or (picked order xs) k (pos 0) ≡ get_or xs (source order k) (pos 0)
    near k n a =
        let e = long in
        let m : k < length (map (chosen xs) (take (length xs) order)) = omega arith in
        let o : k < length (take (length xs) order) = let q = length-take (length xs) order in omega arith in
        get_or_append_left (map (chosen xs) (take (length xs) order)) (drop (length order) xs) (pos 0) k m
        ∙ get_or-map (chosen xs) (take (length xs) order) k (pos 0) (pos 0) o
        ∙ ap (chosen xs) (get_or-take (length xs) order k (pos 0) n)
        ∙ ap (λ j. get_or xs j (pos 0)) (sym (source_near order k a))

    far : (k : ℕ) → k < length xs → length order ≤ k → get_or (picked order xs) k (pos 0) ≡ get_or xs (source order k) (pos 0)
    far k n a =
        let e = long in
        let m : length (map (chosen xs) (take (length xs) order)) ≡ length order = omega arith in
        let o : length order + (k - length order) ≡ k = omega arith in
        get_or-append_right (map (chosen xs) (take (length xs) order)) (drop (length order) xs) (length order) k (pos 0) m a
        ∙ get_or-drop (length order) xs (k - length order) (pos 0)
        ∙ ap (λ j. get_or xs j (pos 0)) (o ∙ sym (source_far order k a))

-- the old values from the new ones
pub image_turned : (t : ℕ → ℕ) (n : ℕ) (ys : List ℤ) → length ys ≡ n → image (turned_forms t n) ys ≡ turned t ys
image_turned t n ys e = ext_get_or (pos 0) (image (turned_forms t n) ys) (turned t ys) (many ∙ sym e ∙ sym (length_turned t ys)) (λ k l.
    let m : k < n = let q = many in omega arith in
    get_or-map (λ g. value g ys) (turned_forms t n) k (unit 0 0) (pos 0) (let q = forms in omega arith)
    ∙ ap (λ g. value g ys) (get_or-map-range_with_len (λ k. unit (t k) (n - 1 - t k)) 0 n k k (unit 0 0) m (omega arith))
    ∙ one (t k) (n - 1 - t k)
    ∙ sym (at_turned t ys k (pos 0) (omega arith)))
  where
    forms : length (turned_forms t n) ≡ n
    forms = length-map-range_with_len (λ k. unit (t k) (n - 1 - t k)) 0 n

    many : length (image (turned_forms t n) ys) ≡ n
    many = length-map (turned_forms t n) (λ g. value g ys) ∙ forms

    one : (b a : ℕ) → value (unit b a) ys ≡ get_or ys b (pos 0)
    one b a = omega (arith, ints, dot_unit b a ys)

-- the turned values lie in the turned ranges
pub lies_turned : (s : ℕ → ℕ) (boxes : List Range) (xs : List ℤ) → ((k : ℕ) → k < length boxes → s k < length boxes) → lies_in boxes xs ≡ true → lies_in (turned_boxes s boxes) (turned s xs) ≡ true
lies_turned s boxes xs below e =
    let n = lies_length boxes xs e in
    let m = length-map-range_with_len (λ k. get_or boxes (s k) origin_range) 0 (length boxes) in
    lies_by (turned_boxes s boxes) (turned s xs) origin_range (length_turned s xs ∙ n ∙ sym m) (λ k l.
    let o : k < length boxes = omega arith in
    let w = lies_at boxes xs (s k) origin_range e (below k o) in
    let b = get_or-map-range_with_len (λ k. get_or boxes (s k) origin_range) 0 (length boxes) k k origin_range o (omega arith) in
    let v = at_turned s xs k (pos 0) (omega arith) in
    subst (λ r. IsWithin r (get_or (turned s xs) k (pos 0))) (sym b) (subst (IsWithin (get_or boxes (s k) origin_range)) (sym v) w))
