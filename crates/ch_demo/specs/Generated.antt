-- The deck that is made from a number: products of two matrices, each tuned over two tile sizes by one recipe.
use Rattle.std.specs.Prelude.{ℕ, ◌+◌, ◌*◌, ◌%◌, pos, false, List, [], ◌∷◌, ◌++◌, codes, map}
use Rattle.std.specs.List.{range_with_len}
use Rattle.ch_deck.specs.Parts.{DeckParts, deck_parts}
use Rattle.ch_deck.specs.declared.program.Program.{Program}
use Rattle.ch_demo.specs.Product.{product}
use Rattle.ch_grid.specs.declared.param.Param.{Param}
use Rattle.ch_nest.specs.CostModel.{CostModel, cost_model}
use Rattle.ch_nest.specs.declared.nest.Fill.{Fill}
use Rattle.ch_print.specs.Numbers.{number_text}
use Rattle.ch_script.specs.Recipes.{RecipeParts, recipe_of}
use Rattle.ch_script.specs.declared.recipe.Arg.TheVariants as arg
use Rattle.ch_script.specs.declared.recipe.Command.{Command}
use Rattle.ch_script.specs.declared.recipe.Command.TheVariants.{Tile}
use Rattle.ch_workload.specs.Tuned.{Tuned, tuned}
use Rattle.ch_workload.specs.declared.client.Script.{Script}

-- how many programs there are, and as many sessions
abbrev pub count_of : ℕ → ℕ
count_of number = 1 + number % 8

-- how many rows and columns the matrices of program k have
abbrev pub size_of : ℕ → ℕ → ℕ
size_of number k = 8 + (number + 3 * k) % 9

abbrev pub fill : ℕ → ℕ → Fill
fill a b = record { a = pos a; b = pos b }

abbrev pub fills_of : ℕ → ℕ → List Fill
fills_of number k = fill 1 (number % 97) ∷ fill 2 k ∷ fill 0 0 ∷ []

-- m0, m1 and so on
abbrev pub program_of : ℕ → ℕ → Program
program_of number k = record { name = codes "m" ++ number_text k; nest = product (size_of number k); fills = fills_of number k }

-- the loop of level 3 of statement 0 in tiles of the size that a parameter has, around the loop of another level
abbrev pub tile : ℕ → ℕ → Command
tile size outer = Tile (arg.Number (pos 0)) (arg.Number (pos 3)) (arg.Param size) (arg.Number (pos outer))

abbrev pub two_tiles : RecipeParts
two_tiles = recipe_of (codes "two") (codes "T" ∷ codes "U" ∷ []) [] (tile 0 1 ∷ tile 1 2 ∷ [])

-- both sizes are 1 to 6
abbrev pub sizes_tried : List Param
sizes_tried =
    record { low = pos 1; high = pos 6; step = pos 1 } ∷ record { low = pos 1; high = pos 6; step = pos 1 } ∷ []

-- s0, s1 and so on, each of the program of its number
abbrev pub session_of : ℕ → Tuned
session_of k = tuned (codes "s" ++ number_text k) k 0 sizes_tried 1

-- each turn of a loop costs 1, and a miss nothing
abbrev pub turns_alone : CostModel
turns_alone = cost_model 1 0 1 1

-- it calls each of so many sessions once
abbrev pub caller : ℕ → Script
caller n = record {
  name = codes "c";
  patient = false;
  machine = turns_alone;
  fills = [];
  calls = map (λ k. record { session = k; times = 1 }) (range_with_len 0 n);
}

-- so many programs and sessions
abbrev pub deck_with : ℕ → ℕ → DeckParts
deck_with number n =
    deck_parts (map (program_of number) (range_with_len 0 n)) (two_tiles ∷ []) (map session_of (range_with_len 0 n)) (caller n ∷ [])

abbrev pub generated : ℕ → DeckParts
generated number = deck_with number (count_of number)
