-- Lines of arrays, one after the other.
use Rattle.std.proofs.Common.{◌≡◌, ℕ, zero, suc, ◌+◌, ◌<◌, ◌≤◌, ◌^◌, nat_le, Bool, ℤ, List, [], ◌∷◌, ◌++◌, get_or, take, drop, length, arith, append_assoc, ◌∙◌}
use Rattle.std.specs.Bool.{IsTrue}
use Rattle.std.specs.List.{list_all}
use Rattle.std.proofs.lemmas.Bool.{and_parts, leb-true}
use Rattle.std.proofs.lemmas.List.{drop_more, length-take}
use Rattle.ch_nest.specs.declared.nest.ArrayDecl.{ArrayDecl}
use Rattle.ch_nest.specs.Arrays.{cells_in, extents_of, total}
use Rattle.ch_nest.specs.Shape.{arrays_fit, is_array}
use Rattle.ch_nest.proofs.Places.{extents_some}
use Rattle.ch_run.specs.EvalText.{array_line, array_lines}

pub lines_more : (sums : Bool) (ds : List ArrayDecl) (k : ℕ) (d : ArrayDecl) (rest : List ℤ) (out next whole : List ℕ) (n : ℕ) → k < length ds → n ≡ cells_in (get_or ds k d).extents
    → next ≡ out ++ array_line sums (get_or ds k d) (take n rest) → out ++ array_lines sums (drop k ds) rest ≡ whole → next ++ array_lines sums (drop (k + 1) ds) (drop n rest) ≡ whole
lines_more sums ds k d rest out next whole n l e f h =
    let a = rw (drop_more ds k d l, ← e) at h in
    rw f (append_assoc out (array_line sums (get_or ds k d) (take n rest)) (array_lines sums (drop (k + 1) ds) (drop n rest)) ∙ a)

most_at : (ds : List ArrayDecl) (k : ℕ) (d : ArrayDecl) → k < length ds → cells_in (get_or ds k d).extents ≤ total (extents_of ds)
most_at [] k d l = absurd (omega arith)
most_at (x ∷ ds) zero d l = omega arith
most_at (x ∷ ds) (suc k) d l = omega (arith, most_at ds k d (omega arith))

pub few_at : (ds : List ArrayDecl) (k : ℕ) (d : ArrayDecl) → k < length ds → IsTrue (arrays_fit ds) → cells_in (get_or ds k d).extents ≤ 2 ^ 40
few_at ds k d l f =
    let m = most_at ds k d l in
    let s : total (extents_of ds) ≤ 262144 = leb-true _ _ ((and_parts (list_all is_array ds) (nat_le (total (extents_of ds)) 262144) f).1) in
    omega (arith, m, s)

pub some_at : (ds : List ArrayDecl) (k : ℕ) (d : ArrayDecl) → k < length ds → IsTrue (arrays_fit ds) → IsTrue (list_all (nat_le 1) (get_or ds k d).extents)
some_at ds k d l f = extents_some ds k d l ((and_parts (list_all is_array ds) (nat_le (total (extents_of ds)) 262144) f).0)

-- the first of some elements, where they are few
pub take_few : (n : ℕ) (cells : List ℤ) → n ≤ 2 ^ 40 → length (take n cells) ≤ 2 ^ 40
take_few n cells h = omega (arith, length-take n cells, h)
