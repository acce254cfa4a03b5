use Rattle.std.proofs.Common.{◌∙◌, sym, ap, subst, length, true}
use Rattle.ch_code.specs.Trace.{trace}
use Rattle.ch_code.specs.UnitParts.{unit_of}
use Rattle.ch_space.specs.Keeps.{AreApart}
use Rattle.ch_space.specs.Pieces.{listed}
use Rattle.ch_codegen.specs.Around.{IsAround}
use Rattle.ch_codegen.specs.Formed.{IsFormed}
use Rattle.ch_codegen.proofs.Listed.{all_listed}
use Rattle.ch_codegen.proofs.Listing.{start_around}
use Rattle.ch_codegen.proofs.Whole.{is_unit}
use Rattle.ch_codegen.proofs.generator.generate.Goals as goal

pub returns-clause-trace : goal.returns-clause-trace
returns-clause-trace c =
    let pieces = c.as_slice-pieces.result.now in
    let apart : AreApart pieces = subst AreApart (sym c.as_slice-pieces.ensures) c.s.invariant.apart in
    all_listed (IsAround 0 true pieces) pieces (trace c.in_ok-root.root) apart (start_around pieces apart) c.in_ok-root.ensures.lists
    ∙ ap listed c.as_slice-pieces.ensures ∙ ap (λ z. z.list) c.s.view_is

pub invariant_of-result : goal.invariant_of-result
invariant_of-result c =
    let pieces = c.as_slice-pieces.result.now in
    let apart : AreApart pieces = subst AreApart (sym c.as_slice-pieces.ensures) c.s.invariant.apart in
    let arrays = ap (λ z. z.arrays) c.s.view_is ∙ c.requires ∙ ap length (sym (c.in_ok-arrays.ensures ∙ c.as_slice.ensures ∙ ap (λ n. n.arrays) c.nest.view_is)) in
    let temps = ap length (sym (c.in_ok-temps.ensures ∙ c.as_slice-2.ensures)) in
    is_unit (unit_of c.in_ok-root.root c.in_ok-arrays.arrays c.in_ok-temps.temps) c.s.inside.arrays (length c.s.inside.temps) c.s.inside.pieces arrays temps
    c.s.invariant.bodies c.s.invariant.near (subst (λ ps. IsFormed 0 ps c.in_ok-root.root) c.as_slice-pieces.ensures c.in_ok-root.ensures.formed)
    (all_listed (IsAround 0 true pieces) pieces (trace c.in_ok-root.root) apart (start_around pieces apart) c.in_ok-root.ensures.lists ∙ ap listed c.as_slice-pieces.ensures)
