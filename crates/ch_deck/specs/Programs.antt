-- What the type of a deck keeps of its programs, and names of one sort.
use Rattle.std.specs.Prelude.{◌≡◌, ℕ, Bool, true, false, not, ◌&&◌, ◌||◌, IsTrue, List, [], ◌∷◌, length}
use Rattle.std.specs.List.{list_all}
use Rattle.std.specs.Str.{bytes_eq}
use Rattle.ch_deck.specs.declared.program.Program.{Program}
use Rattle.ch_nest.specs.Sound.{is_sound}
use Rattle.ch_nestparse.specs.Distinct.{are_distinct}
use Rattle.ch_nestparse.specs.Spelling.{is_fill, is_name, is_named}

-- the name stands among these
abbrev pub has_name : List ℕ → List (List ℕ) → Bool
has_name name [] = false
has_name name (n ∷ ns) = bytes_eq name n || has_name name ns

-- no name stands twice
abbrev pub names_differ : List (List ℕ) → Bool
names_differ [] = true
names_differ (n ∷ ns) = not (has_name n ns) && names_differ ns

-- It can be run; its name and those of its arrays are names of the language, no two arrays have one name, and each has a fill whose
-- numbers are numbers of the language.
pub record IsProgram (p : Program) : Type 0 where
  pub sound : IsTrue (is_sound p.nest)
  pub called : IsTrue (is_name p.name)
  pub named : IsTrue (list_all is_named p.nest.arrays)
  pub apart : IsTrue (are_distinct p.nest.arrays)
  pub filled : length p.fills ≡ length p.nest.arrays
  pub numbers : IsTrue (list_all is_fill p.fills)
