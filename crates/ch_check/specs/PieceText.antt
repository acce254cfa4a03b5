-- The lines that tell of the pieces of a timed list.
use Rattle.std.specs.Prelude.{ℕ, ℤ, List, [], ◌∷◌, ◌++◌, codes, length}
use Rattle.std.specs.List.{flat_map, range_with_len}
use Rattle.ch_print.specs.Instances.{identity_text, label_text}
use Rattle.ch_print.specs.Lists.{behind}
use Rattle.ch_print.specs.Numbers.{integer_text, number_text}
use Rattle.ch_space.specs.Members.{members}
use Rattle.ch_timed.specs.declared.element.Element.{Element}
use Rattle.ch_timed.specs.declared.element.Identity.{Identity}
use Rattle.ch_timed.specs.declared.element.Label.{Label}
use Rattle.ch_timed.specs.Timed.{pieces}
use Rattle.ch_timed.specs.Vectors.{places}

-- a piece's number, label and static places, as `piece 0 S0 places 0 1`
unfoldable pub piece_front : ℕ → Label → List ℤ → List ℕ
piece_front k label ps = codes "piece " ++ number_text k ++ codes " " ++ label_text label ++ codes " places"
    ++ flat_map (behind (codes " ") integer_text) ps

-- its count, and its first and last instance
unfoldable pub piece_ends : ℕ → Identity → Identity → List ℕ
piece_ends count first last =
    codes " count " ++ number_text count ++ codes " first " ++ identity_text first ++ codes " last " ++ identity_text last ++ codes "\n"

abbrev pub piece_text : ℕ → Label → List ℤ → ℕ → Identity → Identity → List ℕ
piece_text k label ps count first last = piece_front k label ps ++ piece_ends count first last

-- the last of some elements, the first of which is e
abbrev pub last_of : Element → List Element → Element
last_of e [] = e
last_of e (f ∷ more) = last_of f more

-- the line of piece k, whose elements these are, in order
abbrev pub piece_line : ℕ → List Element → List ℕ
piece_line k [] = []
piece_line k (e ∷ more) = piece_text k e.identity.label (places e.vector) (length (e ∷ more)) e.identity (last_of e more).identity

abbrev pub piece_lines : List Element → List ℕ
piece_lines list = flat_map (λ k. piece_line k (members list k)) (range_with_len 0 (length (pieces list)))
