-- The symbols of a program, and its text.
use Rattle.std.specs.Prelude.{ℕ, suc, ℤ, unsigned_abs, Bool, true, false, List, [], ◌∷◌, ◌++◌, codes, map, nat_eq}
use Rattle.std.specs.List.{flat_map, list_any}
use Rattle.ch_lex.specs.declared.keyword.Keyword.TheVariants as words
use Rattle.ch_lex.specs.declared.token.Sign.TheVariants as signs
use Rattle.ch_nest.specs.LoopNest.{LoopNest}
use Rattle.ch_nest.specs.declared.exprs.Standing.TheVariants.{Term}
use Rattle.ch_nest.specs.declared.nest.ArrayDecl.{ArrayDecl}
use Rattle.ch_nest.specs.declared.nest.Body.{Body}
use Rattle.ch_nest.specs.declared.nest.Fill.{Fill}
use Rattle.ch_nest.specs.declared.nest.Item.{Item}
use Rattle.ch_nest.specs.declared.nest.Item.TheFolds.{fold-Item}
use Rattle.ch_nest.specs.declared.nest.Item.TheOpen.{Item-F}
use Rattle.ch_nestprint.specs.Conditions.{condition_symbols}
use Rattle.ch_nestprint.specs.Ends.{head_symbols, is_below}
use Rattle.ch_nestprint.specs.Layouts.{first_layout, spell}
use Rattle.ch_nestprint.specs.Minus.{minus_in_items}
use Rattle.ch_nestprint.specs.Names.{letters_for, minus_name}
use Rattle.ch_nestprint.specs.Sides.{access_symbols, right_symbols}
use Rattle.ch_nestprint.specs.declared.symbol.Symbol.{Symbol}
use Rattle.ch_nestprint.specs.declared.symbol.Symbol.TheVariants.{Name, Number, Key, Mark}

-- items

abbrev pub assign_symbols : List ArrayDecl → ℕ → Body → List Symbol
assign_symbols arrays letters b = access_symbols arrays letters b.write ++ (Mark signs.Equals ∷ right_symbols arrays letters b.right Term) ++ Mark signs.Semicolon ∷ []

-- what is printed below so many loops
abbrev pub Below : Type 0
Below = ℕ → List Symbol

abbrev pub each_below : List Below → Below
each_below [] depth = []
each_below (x ∷ xs) depth = x depth ++ each_below xs depth

abbrev pub item_step : List ArrayDecl → ℕ → Item-F Below → Below
item_step arrays letters (Item-F.Loop lows highs step items) depth =
    (Key words.For ∷ head_symbols letters depth lows highs step) ++ (Mark signs.LeftBrace ∷ each_below items (suc depth)) ++ Mark signs.RightBrace ∷ []
item_step arrays letters (Item-F.If row items) depth =
    (Name (codes "if") ∷ condition_symbols letters row) ++ (Mark signs.LeftBrace ∷ each_below items depth) ++ Mark signs.RightBrace ∷ []
item_step arrays letters (Item-F.Assign label body) depth = assign_symbols arrays letters body

abbrev pub item_symbols : List ArrayDecl → ℕ → Item → Below
item_symbols arrays letters = fold-Item Below (item_step arrays letters)

abbrev pub items_symbols : List ArrayDecl → ℕ → List Item → Below
items_symbols arrays letters items = each_below (map (item_symbols arrays letters) items)

-- lets and arrays

abbrev pub let_symbols : ℕ → ℕ → List Symbol
let_symbols letters size = Key words.Let ∷ Name (minus_name letters size) ∷ Mark signs.Equals ∷ Mark signs.Minus ∷ Number size ∷ Mark signs.Semicolon ∷ []

abbrev pub let_if : Bool → ℕ → ℕ → List Symbol
let_if true letters size = []
let_if false letters size = let_symbols letters size

-- a let for each of these magnitudes that isn't among those before
abbrev pub lets_symbols : ℕ → List ℕ → List ℕ → List Symbol
lets_symbols letters before [] = []
lets_symbols letters before (size ∷ sizes) = let_if (list_any (λ n. nat_eq n size) before) letters size ++ lets_symbols letters (before ++ size ∷ []) sizes

abbrev pub integer_if : Bool → ℕ → List Symbol
integer_if true size = Mark signs.Minus ∷ Number size ∷ []
integer_if false size = Number size ∷ []

abbrev pub integer_symbols : ℤ → List Symbol
integer_symbols z = integer_if (is_below z) (unsigned_abs z)

abbrev pub extent_symbols : ℕ → List Symbol
extent_symbols extent = Mark signs.LeftBracket ∷ Number extent ∷ Mark signs.RightBracket ∷ []

abbrev pub fill_symbols : Fill → List Symbol
fill_symbols f =
    Mark signs.Equals ∷ Key words.Fill ∷ Mark signs.LeftParen ∷ integer_symbols f.a
    ++ (Mark signs.Comma ∷ integer_symbols f.b) ++ Mark signs.RightParen ∷ Mark signs.Semicolon ∷ []

abbrev pub array_symbols : ArrayDecl → Fill → List Symbol
array_symbols d f = (Key words.Array ∷ Name d.name ∷ flat_map extent_symbols d.extents) ++ fill_symbols f

-- each array with its fill
abbrev pub arrays_symbols : List ArrayDecl → List Fill → List Symbol
arrays_symbols [] fills = []
arrays_symbols (d ∷ ds) [] = []
arrays_symbols (d ∷ ds) (f ∷ fs) = array_symbols d f ++ arrays_symbols ds fs

-- a program

-- the lets, the arrays and the items
abbrev pub parts_symbols : ℕ → List ArrayDecl → List Item → List Fill → List Symbol
parts_symbols letters arrays items fills = lets_symbols letters [] (minus_in_items items) ++ arrays_symbols arrays fills ++ items_symbols arrays letters items 0

abbrev pub body_symbols : LoopNest → List Fill → List Symbol
body_symbols nest fills = parts_symbols (letters_for nest.arrays) nest.arrays nest.items fills

abbrev pub program_symbols : List ℕ → LoopNest → List Fill → List Symbol
program_symbols name nest fills = (Key words.Program ∷ Name name ∷ Mark signs.LeftBrace ∷ body_symbols nest fills) ++ Mark signs.RightBrace ∷ []

abbrev pub program_text : List ℕ → LoopNest → List Fill → List ℕ
program_text name nest fills = spell first_layout (program_symbols name nest fills)
