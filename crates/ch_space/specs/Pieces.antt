-- The elements of pieces.
use Rattle.std.specs.Prelude.{ℤ, pos, List, map, take}
use Rattle.std.specs.List.{filter, flat_map}
use Rattle.ch_affine.specs.Affine.{value}
use Rattle.ch_poly.specs.Points.{begins_some, box_points}
use Rattle.ch_space.specs.declared.piece.Piece.{Piece}
use Rattle.ch_timed.specs.declared.element.Element.{Element}
use Rattle.ch_timed.specs.Timed.{in_order}
use Rattle.ch_timed.specs.Vectors.{woven}

-- the element at these values of the levels
abbrev pub element_at : Piece → List ℤ → Element
element_at p xs = record {
  identity = record { label = p.label; iters = map (λ f. value f xs) p.origin };
  vector = woven (map pos p.places) xs;
  body = p.body;
}

-- the values of the levels that some point of the system begins with, in lexicographic order
abbrev pub instances : Piece → List (List ℤ)
instances p = filter (begins_some p.system) (box_points (take p.levels p.system.boxes))

abbrev pub elements : Piece → List Element
elements p = map (element_at p) (instances p)

-- the timed list of some pieces
abbrev pub listed : List Piece → List Element
listed ps = in_order (flat_map elements ps)
