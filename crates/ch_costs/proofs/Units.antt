-- The code of a program that keeps what a nest means, and the arrays that it runs on.
use Rattle.std.proofs.Common.{◌≡◌, sym, ap, subst, ℕ, ℤ, ◌<◌, List, ◌++◌, length, map, arith}
use Rattle.std.specs.Bool.{IsTrue}
use Rattle.std.proofs.lemmas.List.{length-map}
use Rattle.ch_code.specs.Trace.{unit_trace}
use Rattle.ch_code.specs.UnitParts.{UnitParts}
use Rattle.ch_eval.specs.Cells.{sizes_of, unit_extents}
use Rattle.ch_nest.specs.Arrays.{cells_in, extents_of}
use Rattle.ch_nest.specs.LoopNest.{LoopNest}
use Rattle.ch_nest.specs.Sound.{is_sound}
use Rattle.ch_nest.specs.declared.nest.ArrayDecl.{ArrayDecl}
use Rattle.ch_space.specs.Listed.{Listed}
use Rattle.ch_timed.specs.Flat.{StaysInside}
use Rattle.ch_timed.specs.declared.element.Element.{Element}
use Rattle.ch_variant.specs.Meaning.{KeepsNest}
use Rattle.ch_variant.proofs.Kept.{stays_inside}

pub unit_inside : (nest : LoopNest) (p : Listed) (u : UnitParts) → IsTrue (is_sound nest) → KeepsNest nest p.list p.temps
    → unit_trace u ≡ p.list → u.arrays ≡ nest.arrays → u.temps ≡ p.temps → StaysInside (unit_extents u) (unit_trace u)
unit_inside nest p u sound keeps trace arrays temps =
    subst (λ (list : List Element). StaysInside (unit_extents u) list) (sym trace)
    (subst (λ (ts : List (List ℕ)). StaysInside (extents_of u.arrays ++ ts) p.list) (sym temps)
    (subst (λ (ds : List ArrayDecl). StaysInside (extents_of ds ++ p.temps) p.list) (sym arrays) (stays_inside nest p.list p.temps sound keeps)))

-- an array that is declared is there
pub there : (arrays : List (List ℤ)) (ds : List ArrayDecl) (k : ℕ) → map length arrays ≡ sizes_of ds → k < length ds → k < length arrays
there arrays ds k e l =
    let one : length (map length arrays) ≡ length arrays = length-map arrays length in
    let other : length (sizes_of ds) ≡ length ds = length-map ds (λ d. cells_in d.extents) in
    let same : length (map length arrays) ≡ length (sizes_of ds) = ap (λ (ns : List ℕ). length ns) e in
    omega (arith, l, one, other, same)
