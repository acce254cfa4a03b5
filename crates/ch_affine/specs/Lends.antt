-- What a list is once a slice of it has been written.
use Rattle.std.specs.Prelude.{List, ◌++◌, length, take, drop}
use Rattle.std.specs.Borrow.{Lends, MutBor, Fml, Array, RattleType}
use Rattle.ch_affine.specs.contracts.list.List.{the_row}

-- new, where it is as long as old: a slice keeps its length, so the other cases never come
abbrev pub rewritten : {A : Type 0} → List A → List A → List A
rewritten old new = take (length old) (new ++ drop (length new) old)

-- the list ends as what was last written through the slice
abbrev pub lends_slice : (R : RattleType) → MutBor (List R.Denot) → MutBor (List R.Denot) → Fml
lends_slice R list slice = Lends (the_row R) (Array R 0) list slice (rewritten list.now)
