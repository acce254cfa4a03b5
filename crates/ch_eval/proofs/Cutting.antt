-- Arrays cut out of all cells, and joined again.
use Rattle.std.proofs.Common.{◌≡◌, ap, ap₂, sym, ◌∙◌, refl, subst, ℕ, zero, suc, ◌+◌, ◌-◌, ◌<◌, ◌≤◌, ◌^◌, ℤ, pos, List, [], ◌∷◌, ◌++◌, drop, get_or, length, map, sum, take, arith, length-append, length-drop}
use Rattle.std.proofs.lemmas.List.{drop-drop, get_or-drop, get_or-take, get_or_default, length-take-le, nil_from_length, take-append-drop}
use Rattle.std.proofs.lemmas.List.Sums.{sum_by-cons}
use Rattle.ch_eval.specs.Cells.{HasParts, joined, parts}

pub sum_first : (n : ℕ) (ns : List ℕ) → sum (n ∷ ns) ≡ n + sum ns
sum_first n ns = sum_by-cons (λ x. x) n ns

pub parts_joined : (ns : List ℕ) (cells : List ℤ) → sum ns ≡ length cells → joined (parts ns cells) ≡ cells
parts_joined [] cells e = sym (nil_from_length cells (sym e))
parts_joined (n ∷ ns) cells e =
    let more = parts_joined ns (drop n cells) (omega (arith, e, sum_first n ns, length-drop n cells)) in
    ap (λ zs. take n cells ++ zs) more ∙ take-append-drop n cells

pub parts_sizes : (ns : List ℕ) (cells : List ℤ) → sum ns ≡ length cells → map length (parts ns cells) ≡ ns
parts_sizes [] cells e = refl
parts_sizes (n ∷ ns) cells e =
    let s = sum_first n ns in
    ap₂ (λ m ms. m ∷ ms) (length-take-le n cells (omega (arith, e, s))) (parts_sizes ns (drop n cells) (omega (arith, e, s, length-drop n cells)))

pub parts_count : (ns : List ℕ) (cells : List ℤ) → length (parts ns cells) ≡ length ns
parts_count [] cells = refl
parts_count (n ∷ ns) cells = ap suc (parts_count ns (drop n cells))

part_at : (ns : List ℕ) (cells : List ℤ) (k : ℕ) → k < length ns → get_or (parts ns cells) k [] ≡ take (get_or ns k 0) (drop (sum (take k ns)) cells)
part_at [] cells k l = absurd (omega arith)
part_at (n ∷ ns) cells zero l = refl
part_at (n ∷ ns) cells (suc k) l =
    part_at ns (drop n cells) k (omega arith) ∙ ap (take (get_or ns k 0)) (drop-drop (sum (take k ns)) n cells)
    ∙ ap (λ j. take (get_or ns k 0) (drop j cells)) (sym (sum_first n (take k ns)))

-- a part lies within all
part_within : (ns : List ℕ) (k : ℕ) → k < length ns → sum (take k ns) + get_or ns k 0 ≤ sum ns
part_within [] k l = absurd (omega arith)
part_within (n ∷ ns) zero l = omega (arith, sum_first n ns)
part_within (n ∷ ns) (suc k) l = omega (arith, part_within ns k (omega arith), sum_first n ns, sum_first n (take k ns))

part_length : (ns : List ℕ) (cells : List ℤ) (k : ℕ) → sum ns ≡ length cells → k < length ns → length (get_or (parts ns cells) k []) ≡ get_or ns k 0
part_length ns cells k e l =
    let w = part_within ns k l in
    ap length (part_at ns cells k l) ∙ length-take-le (get_or ns k 0) (drop (sum (take k ns)) cells) (omega (arith, w, e, length-drop (sum (take k ns)) cells))

cell_at : (ns : List ℕ) (cells : List ℤ) (k at : ℕ) → k < length ns → at < get_or ns k 0 → get_or (get_or (parts ns cells) k []) at (pos 0) ≡ get_or cells (sum (take k ns) + at) (pos 0)
cell_at ns cells k at l b =
    ap (λ zs. get_or zs at (pos 0)) (part_at ns cells k l) ∙ get_or-take (get_or ns k 0) (drop (sum (take k ns)) cells) at (pos 0) b ∙ get_or-drop (sum (take k ns)) cells at (pos 0)

pub joined_length : (arrays : List (List ℤ)) → length (joined arrays) ≡ sum (map length arrays)
joined_length [] = refl
joined_length (a ∷ more) = omega (arith, length-append a (joined more), joined_length more, sum_first (length a) (map length more))

-- reading

module _ (sizes starts : List ℕ) (cells : List ℤ) (arrays : List (List ℤ)) (h : HasParts sizes starts cells) (is : parts sizes cells ≡ arrays) (k : ℕ) (l : k < length arrays) where
  pub known_size : k < length sizes
  known_size = omega (arith, l, ap length is, parts_count sizes cells)

  pub known_start : k < length starts
  known_start = omega (arith, known_size, h.count)

  start_is : (start : ℕ) → start ≡ get_or starts k start → start ≡ sum (take k sizes)
  start_is start s = s ∙ get_or_default starts k start 0 known_start ∙ h.starts k known_size

  array_size : length (get_or arrays k []) ≡ get_or sizes k 0
  array_size = ap (λ (zs : List (List ℤ)). length (get_or zs k [])) (sym is) ∙ part_length sizes cells k h.whole known_size

  pub cell_below : (at start : ℕ) → at < length (get_or arrays k []) → start ≡ get_or starts k start → start + at < length cells
  cell_below at start b s = omega (arith, b, array_size, start_is start s, part_within sizes k known_size, h.whole)

  pub cell_is : (at start : ℕ) → at < length (get_or arrays k []) → start ≡ get_or starts k start → get_or cells (start + at) (pos 0) ≡ get_or (get_or arrays k []) at (pos 0)
  cell_is at start b s =
      let below : at < get_or sizes k 0 = omega (arith, b, array_size) in
      ap (λ j. get_or cells (j + at) (pos 0)) (start_is start s) ∙ sym (cell_at sizes cells k at known_size below) ∙ ap (λ (zs : List (List ℤ)). get_or (get_or zs k []) at (pos 0)) is

  pub array_within : (start size : ℕ) → start ≡ get_or starts k start → size ≡ get_or sizes k size → start + size ≤ length cells
  array_within start size s z = omega (arith, z ∙ get_or_default sizes k size 0 known_size, start_is start s, part_within sizes k known_size, h.whole)

  pub array_is : (start size : ℕ) → start ≡ get_or starts k start → size ≡ get_or sizes k size → take size (drop start cells) ≡ get_or arrays k []
  array_is start size s z =
      ap₂ (λ n j. take n (drop j cells)) (z ∙ get_or_default sizes k size 0 known_size) (start_is start s) ∙ sym (part_at sizes cells k known_size) ∙ ap (λ (zs : List (List ℤ)). get_or zs k []) is

-- writing

pub parts_kept : (sizes starts : List ℕ) (old new : List ℤ) → length new ≡ length old → HasParts sizes starts old → HasParts sizes starts new
parts_kept sizes starts old new e h = record { whole = h.whole ∙ sym e; count = h.count; starts = h.starts }

-- cells that were worked on together with buffers behind them, and cut off again
module _ (sizes : List ℕ) (old new both worked buffers : List ℤ) (arrays : List (List ℤ)) (total : ℕ) (whole : sum sizes ≡ length old) (is : parts sizes old ≡ arrays) (t : total ≡ length old)
    (b : both ≡ old ++ buffers) (same : length worked ≡ length both) (n : new ≡ take total worked) where
  pub cut_length : length new ≡ length old
  cut_length = ap length n ∙ length-take-le total worked (omega (arith, t, same, ap length b, length-append old buffers)) ∙ t

  joined_old : joined arrays ≡ old
  joined_old = ap joined (sym is) ∙ parts_joined sizes old whole

  pub cut_sizes : map length (parts sizes new) ≡ map length arrays
  cut_sizes = parts_sizes sizes new (whole ∙ sym cut_length) ∙ sym (parts_sizes sizes old whole) ∙ ap (map length) is

  pub cut_cells : (f : List ℤ → List ℤ) → worked ≡ f both → joined (parts sizes new) ≡ take (length (joined arrays)) (f (joined arrays ++ buffers))
  cut_cells f w =
      parts_joined sizes new (whole ∙ sym cut_length) ∙ n ∙ ap₂ (λ m zs. take m zs) (t ∙ ap length (sym joined_old)) (w ∙ ap f (b ∙ ap (λ zs. zs ++ buffers) (sym joined_old)))

  pub cut_few : length both < 2 ^ 63 → length (joined arrays) + length buffers < 2 ^ 63
  cut_few l = omega (arith, l, ap length b, length-append old buffers, ap length joined_old)
