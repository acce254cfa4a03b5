-- Lists that agree on a program's arrays, one after another, and what they do to flat arrays.
use Rattle.std.proofs.Common.{◌≡◌, ◌≢◌, refl, sym, ap, ◌∙◌, subst, ℕ, zero, suc, ◌+◌, ◌<◌, ◌≤◌, ℤ, pos, List, [], ◌∷◌, ◌++◌, length, take, get_or, replicate, length-append, arith}
use Rattle.std.specs.Bool.{IsTrue}
use Rattle.std.proofs.lemmas.List.{append_assoc, ext_get_or, get_or-take, length-replicate, length-take-le, take_all}
use Rattle.ch_nest.specs.Arrays.{extents_of, total, within_array}
use Rattle.ch_nest.specs.LoopNest.{LoopNest}
use Rattle.ch_nest.specs.Run.{run}
use Rattle.ch_nest.specs.Sound.{items_inside}
use Rattle.ch_nest.proofs.Distinct.{cell_of_place}
use Rattle.ch_order.specs.Agreement.{AgreeOn, KeepsArrays}
use Rattle.ch_order.specs.Legal.{IsLegal}
use Rattle.ch_order.proofs.Held.{held}
use Rattle.ch_order.proofs.Legal.{legal_end, legal_inside}
use Rattle.ch_timed.specs.declared.element.Cell.{Cell}
use Rattle.ch_timed.specs.declared.element.Element.{Element}
use Rattle.ch_timed.specs.Do.{Store, done}
use Rattle.ch_timed.specs.Flat.{StaysInside, done_flat, look, place_of, with_buffers}
use Rattle.ch_timed.specs.Start.{start}
use Rattle.ch_timed.proofs.MoreArrays.{done_length, done_more, place_more, stays_more}
use Rattle.ch_timed.proofs.Program.{run_is}
use Rattle.ch_timed.proofs.Stays.{stays}

-- one step

pub keeps_itself : (arrays buffers : List (List ℕ)) (list : List Element) → KeepsArrays arrays list buffers list buffers
keeps_itself arrays buffers list = record { agree = λ store c l. refl; inside = λ i. i }

pub keeps_same : (arrays buffers : List (List ℕ)) (old new : List Element) → ((store : Store) → done old store ≡ done new store)
    → ((extents : List (List ℕ)) → StaysInside extents old → StaysInside extents new) → KeepsArrays arrays old buffers new buffers
keeps_same arrays buffers old new same inside = record { agree = λ store c l. ap (λ t. t c) (same store); inside = inside (arrays ++ buffers) }

pub keeps_legal : (arrays buffers : List (List ℕ)) (old new : List Element) → IsLegal old new → KeepsArrays arrays old buffers new buffers
keeps_legal arrays buffers old new l = keeps_same arrays buffers old new (legal_end old new l) (legal_inside old new l)

pub keeps_but : (arrays buffers : List (List ℕ)) (extents : List ℕ) (old new : List Element) (buffer : ℕ) → length arrays ≤ buffer
    → ((store : Store) (c : Cell) → c.array ≢ buffer → done old store c ≡ done new store c)
    → (StaysInside (arrays ++ buffers) old → StaysInside ((arrays ++ buffers) ++ extents ∷ []) new)
    → KeepsArrays arrays old buffers new (buffers ++ extents ∷ [])
keeps_but arrays buffers extents old new buffer l same inside = record {
  agree = λ store c below. same store c (λ e. absurd (omega (arith, e)));
  inside = λ i. subst (λ es. StaysInside es new) (append_assoc arrays buffers (extents ∷ [])) (inside i);
}

pub keeps_both : (arrays first_buffers mid_buffers last_buffers : List (List ℕ)) (first mid last : List Element) → KeepsArrays arrays first first_buffers mid mid_buffers
    → KeepsArrays arrays mid mid_buffers last last_buffers → KeepsArrays arrays first first_buffers last last_buffers
keeps_both arrays fb mb lb first mid last f g = record {
  agree = λ store c l. f.agree store c l ∙ g.agree store c l;
  inside = λ i. g.inside (f.inside i);
}

-- flat arrays

within_first : (arrays buffers : List (List ℕ)) (k : ℕ) (subs : List ℤ) → IsTrue (within_array arrays k subs) → IsTrue (within_array (arrays ++ buffers) k subs)
within_first [] buffers k subs h = cc
within_first (es ∷ ess) buffers zero subs h = h
within_first (es ∷ ess) buffers (suc k) subs h = within_first ess buffers k subs h

total_both : (arrays buffers : List (List ℕ)) → total (arrays ++ buffers) ≡ total arrays + total buffers
total_both [] buffers = omega arith
total_both (es ∷ ess) buffers = omega (arith, total_both ess buffers)

-- in one list of arrays and buffers
agree_flat : (arrays buffers : List (List ℕ)) (old new : List Element) → AgreeOn (length arrays) old new → StaysInside (arrays ++ buffers) old → StaysInside (arrays ++ buffers) new
    → (cells : List ℤ) → length cells ≡ total (arrays ++ buffers)
    → take (total arrays) (done_flat (arrays ++ buffers) old cells) ≡ take (total arrays) (done_flat (arrays ++ buffers) new cells)
agree_flat arrays buffers old new agree i j cells l =
    let both : List (List ℕ) = arrays ++ buffers in
    let room : total arrays ≤ length cells = omega (arith, l, total_both arrays buffers) in
    let old_size : length (take (total arrays) (done_flat both old cells)) ≡ total arrays = length-take-le (total arrays) (done_flat both old cells) (omega (arith, done_length both old cells, room)) in
    let new_size : length (take (total arrays) (done_flat both new cells)) ≡ total arrays = length-take-le (total arrays) (done_flat both new cells) (omega (arith, done_length both new cells, room)) in
    ext_get_or (pos 0) (take (total arrays) (done_flat both old cells)) (take (total arrays) (done_flat both new cells)) (old_size ∙ sym new_size) (λ k below.
    let small : k < total arrays = omega (arith, below, old_size) in
    let c = cell_of_place arrays k small in
    let cell : Cell = record { array = c.array; subs = c.subs } in
    let there : IsTrue (within_array both c.array c.subs) = within_first arrays buffers c.array c.subs c.within in
    let placed : place_of both cell ≡ k = place_more arrays buffers cell c.within ∙ c.placed in
    get_or-take (total arrays) (done_flat both old cells) k (pos 0) small
    ∙ ap (λ z. get_or (done_flat both old cells) z (pos 0)) (sym placed)
    ∙ held both old cells i l cell there ∙ agree (look both cells) cell c.there ∙ sym (held both new cells j l cell there)
    ∙ ap (λ z. get_or (done_flat both new cells) z (pos 0)) placed
    ∙ sym (get_or-take (total arrays) (done_flat both new cells) k (pos 0) small))

take_front : {X : Type 0} (xs ys : List X) (n : ℕ) → n ≤ length xs → take n (xs ++ ys) ≡ take n xs
take_front xs ys zero l = refl
take_front [] ys (suc n) l = absurd (omega arith)
take_front (x ∷ xs) ys (suc n) l = ap (λ t. x ∷ t) (take_front xs ys n (omega arith))

-- the new list has buffers behind those of the old one
pub keeps_flat : (arrays buffers more : List (List ℕ)) (old new : List Element) → KeepsArrays arrays old buffers new (buffers ++ more) → StaysInside (arrays ++ buffers) old
    → (cells rest : List ℤ) → length cells ≡ total (arrays ++ buffers) → length rest ≡ total more
    → take (total arrays) (done_flat (arrays ++ buffers) old cells) ≡ take (total arrays) (done_flat (arrays ++ (buffers ++ more)) new (cells ++ rest))
keeps_flat arrays buffers more old new k i cells rest l m =
    let all : (arrays ++ buffers) ++ more ≡ arrays ++ (buffers ++ more) = append_assoc arrays buffers more in
    let wider : StaysInside (arrays ++ (buffers ++ more)) old = subst (λ es. StaysInside es old) all (stays_more (arrays ++ buffers) more old i) in
    let size : length (cells ++ rest) ≡ total (arrays ++ (buffers ++ more)) = omega (arith, length-append cells rest, l, m, total_both (arrays ++ buffers) more, ap total all) in
    let grown : done_flat (arrays ++ (buffers ++ more)) old (cells ++ rest) ≡ done_flat (arrays ++ buffers) old cells ++ rest =
    ap (λ es. done_flat es old (cells ++ rest)) (sym all) ∙ done_more (arrays ++ buffers) more old cells rest i l in
    let room : total arrays ≤ length (done_flat (arrays ++ buffers) old cells) = omega (arith, done_length (arrays ++ buffers) old cells, l, total_both arrays buffers) in
    sym (take_front (done_flat (arrays ++ buffers) old cells) rest (total arrays) room) ∙ ap (take (total arrays)) (sym grown)
    ∙ agree_flat arrays (buffers ++ more) old new k.agree wider (k.inside i) (cells ++ rest) size

append_nil : {X : Type 0} (xs : List X) → xs ++ [] ≡ xs
append_nil [] = refl
append_nil (x ∷ xs) = ap (λ t. x ∷ t) (append_nil xs)

pub keeps_run : (nest : LoopNest) → IsTrue (items_inside (extents_of nest.arrays) nest.items []) → (new : List Element) (buffers : List (List ℕ))
    → KeepsArrays (extents_of nest.arrays) (start nest) [] new buffers → (cells rest : List ℤ) → length cells ≡ total (extents_of nest.arrays) → length rest ≡ total buffers
    → run nest cells ≡ take (length cells) (done_flat (extents_of nest.arrays ++ buffers) new (cells ++ rest))
keeps_run nest i new buffers k cells rest l m =
    let arrays : List (List ℕ) = extents_of nest.arrays in
    let none : arrays ++ [] ≡ arrays = append_nil arrays in
    let inside : StaysInside (arrays ++ []) (start nest) = subst (λ es. StaysInside es (start nest)) (sym none) (stays nest i) in
    let size : length cells ≡ total (arrays ++ []) = l ∙ ap total (sym none) in
    let whole : take (total arrays) (done_flat arrays (start nest) cells) ≡ done_flat arrays (start nest) cells =
    take_all (total arrays) (done_flat arrays (start nest) cells) (omega (arith, done_length arrays (start nest) cells, l)) in
    run_is nest cells ∙ sym whole ∙ ap (λ es. take (total arrays) (done_flat es (start nest) cells)) (sym none)
    ∙ keeps_flat arrays [] buffers (start nest) new k inside cells rest size m
    ∙ ap (λ n. take n (done_flat (arrays ++ buffers) new (cells ++ rest))) (sym l)

pub keeps_run_buffered : (nest : LoopNest) → IsTrue (items_inside (extents_of nest.arrays) nest.items []) → (new : List Element) (buffers : List (List ℕ))
    → KeepsArrays (extents_of nest.arrays) (start nest) [] new buffers → (cells : List ℤ) → length cells ≡ total (extents_of nest.arrays)
    → run nest cells ≡ take (length cells) (done_flat (extents_of nest.arrays ++ buffers) new (with_buffers buffers cells))
keeps_run_buffered nest i new buffers k cells l = keeps_run nest i new buffers k cells (replicate (total buffers) (pos 0)) l (length-replicate (total buffers) (pos 0))
