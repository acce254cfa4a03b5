-- What is executed for all pieces of a space is its list.
use Rattle.std.proofs.Common.{◌≡◌, subst, ℤ, List, [], ◌∷◌}
use Rattle.std.specs.List.{flat_map}
use Rattle.ch_code.specs.Trace.{Traced}
use Rattle.ch_space.specs.declared.piece.Piece.{Piece}
use Rattle.ch_space.specs.Keeps.{AreApart}
use Rattle.ch_space.specs.Pieces.{element_at, instances, elements, listed}
use Rattle.ch_space.proofs.PieceNumbers.{listed_ascends}
use Rattle.ch_timed.specs.declared.element.Element.{Element}
use Rattle.ch_timed.specs.Members.{In}
use Rattle.ch_timed.proofs.Orders.{IsAscending, in_map, map_in, ascending_same, from_order, to_order}
use Rattle.ch_codegen.specs.Parts.{Ascends, IsAmong, Lists}
use Rattle.ch_codegen.proofs.Inside.{in_flat, flat_in}

abbrev vector_of : Element → List ℤ
vector_of e = e.vector

ascending : (xs : List Element) → Ascends xs → IsAscending vector_of xs
ascending [] a = tt
ascending (x ∷ xs) a = (a.0, ascending xs a.1)

to_elements : (ps : List Piece) (e : Element) → IsAmong ps [] e → In e (flat_map elements ps)
to_elements ps e m = flat_in elements ps m.0 e m.1.0 (subst (λ z. In z (elements m.0)) m.1.1.1.1 (map_in (element_at m.0) (instances m.0) m.1.1.0 m.1.1.1.0))

from_elements : (ps : List Piece) (e : Element) → In e (flat_map elements ps) → IsAmong ps [] e
from_elements ps e i =
    let p = in_flat elements ps e i in
    let x = in_map (element_at p.0) (instances p.0) e p.1.1 in
    (p.0, (p.1.0, (x.0, (x.1.0, x.1.1))))

pub all_listed : (P : List ℤ → Type 0) (ps : List Piece) (t : Traced) → AreApart ps → P [] → Lists P (IsAmong ps) t → t [] ≡ listed ps
all_listed P ps t apart h a =
    ascending_same vector_of (t []) (listed ps) (ascending (t []) (a.ascends [] h)) (listed_ascends ps apart)
    (λ e i. to_order vector_of (flat_map elements ps) e (to_elements ps e (a.only [] e h i)))
    (λ e i. a.each [] e h (from_elements ps e (from_order vector_of (flat_map elements ps) e i)))
