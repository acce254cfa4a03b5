-- Statement instances as `S0(1,2)`, elements of moves as `M0(1,2)`, cells as `A[1][2]`, and buffers as `T:0`.
use Rattle.std.specs.Prelude.{ℕ, ℤ, List, ◌++◌, codes}
use Rattle.std.specs.List.{flat_map}
use Rattle.ch_print.specs.Lists.{separated}
use Rattle.ch_print.specs.Numbers.{integer_text, number_text}
use Rattle.ch_timed.specs.declared.element.Identity.{Identity}
use Rattle.ch_timed.specs.declared.element.Label.{Label}
use Rattle.ch_timed.specs.declared.element.Label.TheVariants.{Stmt, Move}

abbrev pub label_text : Label → List ℕ
label_text (Stmt k) = codes "S" ++ number_text k
label_text (Move k) = codes "M" ++ number_text k

-- the label, and the values of the original iterators
unfoldable pub identity_text : Identity → List ℕ
identity_text i = label_text i.label ++ codes "(" ++ separated (codes ",") integer_text i.iters ++ codes ")"

abbrev pub subscript_text : ℤ → List ℕ
subscript_text z = codes "[" ++ integer_text z ++ codes "]"

-- the array's name, and each subscript
unfoldable pub cell_text : List ℕ → List ℤ → List ℕ
cell_text name subscripts = name ++ flat_map subscript_text subscripts

-- a buffer by its number: no array's name has a colon
abbrev pub buffer_text : ℕ → List ℕ
buffer_text k = codes "T:" ++ number_text k
