-- What programs keep of a nest, from one command to the next, and what the code of such a program does.
use Rattle.std.proofs.Common.{◌≡◌, sym, ◌∙◌, subst, ℕ, List, [], ◌++◌, append-nil, length}
use Rattle.std.specs.Bool.{IsTrue}
use Rattle.std.proofs.lemmas.Bool.{and_parts}
use Rattle.std.proofs.lemmas.List.{length-map}
use Rattle.ch_nest.specs.Arrays.{extents_of}
use Rattle.ch_nest.specs.LoopNest.{LoopNest}
use Rattle.ch_nest.specs.Sound.{is_sound, items_inside}
use Rattle.ch_nest.specs.declared.nest.ArrayDecl.{ArrayDecl}
use Rattle.ch_order.proofs.Agreements.{keeps_both, keeps_itself, keeps_run_buffered}
use Rattle.ch_space.specs.Listed.{Listed}
use Rattle.ch_timed.specs.Flat.{StaysInside}
use Rattle.ch_timed.specs.Start.{start}
use Rattle.ch_timed.specs.declared.element.Element.{Element}
use Rattle.ch_timed.proofs.Stays.{stays}
use Rattle.ch_variant.specs.Applied.{plain}
use Rattle.ch_variant.specs.Meaning.{Keeps, KeepsNest, RunsNest}

pub keeps_itself_whole : (p : Listed) → Keeps p p
keeps_itself_whole p arrays few = keeps_itself arrays p.temps p.list

pub keeps_on : (p q r : Listed) → q.arrays ≡ p.arrays → Keeps p q → Keeps q r → Keeps p r
keeps_on p q r e f g arrays few =
    keeps_both arrays p.temps q.temps r.temps p.list q.list r.list (f arrays few) (g arrays (few ∙ sym e))

length_extents : (arrays : List ArrayDecl) → length (extents_of arrays) ≡ length arrays
length_extents arrays = length-map arrays (λ d. d.extents)

pub keeps_nest : (nest : LoopNest) (p : Listed) → Keeps (plain nest) p → KeepsNest nest p.list p.temps
keeps_nest nest p k = k (extents_of nest.arrays) (length_extents nest.arrays)

inside_of : (nest : LoopNest) → IsTrue (is_sound nest) → IsTrue (items_inside (extents_of nest.arrays) nest.items [])
inside_of nest s = (and_parts _ _ s).0

pub runs_nest : (nest : LoopNest) (list : List Element) (buffers : List (List ℕ)) → IsTrue (is_sound nest) → KeepsNest nest list buffers → RunsNest nest list buffers
runs_nest nest list buffers s k cells l = keeps_run_buffered nest (inside_of nest s) list buffers k cells l

pub stays_inside : (nest : LoopNest) (list : List Element) (buffers : List (List ℕ)) → IsTrue (is_sound nest) → KeepsNest nest list buffers
    → StaysInside (extents_of nest.arrays ++ buffers) list
stays_inside nest list buffers s k =
    k.inside (subst (λ es. StaysInside es (start nest)) (sym (append-nil (extents_of nest.arrays))) (stays nest (inside_of nest s)))
