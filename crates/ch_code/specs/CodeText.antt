-- The text of a unit for people: its arrays and buffers, a line for each, and then its code, where a loop or a guard stands
-- over what it governs, which is two spaces further in.
use Rattle.std.specs.Prelude.{ℕ, zero, suc, Bool, true, false, cond, ◌||◌, nat_eq, List, [], ◌∷◌, ◌++◌, length, codes}
use Rattle.std.specs.List.{flat_map}
use Rattle.ch_affine.specs.Form.{Form}
use Rattle.ch_nest.specs.declared.nest.ArrayDecl.{ArrayDecl}
use Rattle.ch_nest.specs.declared.nest.Body.{Body}
use Rattle.ch_print.specs.Instances.{buffer_text, label_text}
use Rattle.ch_print.specs.Numbers.{number_text}
use Rattle.ch_timed.specs.declared.element.Label.{Label}
use Rattle.ch_code.specs.BodyText.{body_text, is_plain}
use Rattle.ch_code.specs.FormText.{form_text, looped, original, variable_text}
use Rattle.ch_code.specs.LoopText.{for_text, if_text}
use Rattle.ch_code.specs.declared.code.Code.{Code}
use Rattle.ch_code.specs.declared.code.Code.TheOpen.{Code-F}
use Rattle.ch_code.specs.declared.code.Code.TheFolds.{fold-Code}
use Rattle.ch_code.specs.UnitParts.{UnitParts}

-- an original iterator as a form of the values of the loops around
unfoldable pub origin_text : ℕ → ℕ → Form → List ℕ
origin_text around k f = variable_text original k ++ codes " = " ++ form_text looped around f

abbrev pub more_origins_text : ℕ → ℕ → List Form → List ℕ
more_origins_text around k [] = []
more_origins_text around k (f ∷ fs) = codes ", " ++ origin_text around k f ++ more_origins_text around (suc k) fs

abbrev pub origins_text : ℕ → List Form → List ℕ
origins_text around [] = []
origins_text around (f ∷ fs) = origin_text around 1 f ++ more_origins_text around 2 fs

abbrev pub place_text : ℕ → List ℕ
place_text p = codes " " ++ number_text p

-- a statement's label, and where its original iterators come from
unfoldable pub instance_text : ℕ → Label → List Form → List ℕ
instance_text around label origin = label_text label ++ codes "(" ++ origins_text around origin ++ codes ")"

-- a statement with its static places and its assignment
unfoldable pub leaf_text : List ArrayDecl → ℕ → Label → Body → List Form → List ℕ → List ℕ
leaf_text arrays around label body origin places =
    instance_text around label origin ++ codes " at" ++ flat_map place_text places ++ codes ": " ++ body_text arrays (length origin) body ++ codes "\n"

-- two spaces for each level
abbrev pub margin : ℕ → List ℕ
margin zero = []
margin (suc d) = codes "  " ++ margin d

-- Code stands behind a head, or begins a line at a level. Behind a head it begins a line at the next level, but a sequence's brace,
-- which stands behind the head.
abbrev pub lead : Bool → ℕ → List ℕ
lead false level = margin level
lead true level = codes "\n" ++ margin (suc level)

abbrev pub level_of : Bool → ℕ → ℕ
level_of false level = level
level_of true level = suc level

abbrev pub brace_lead : Bool → ℕ → List ℕ
brace_lead false level = margin level
brace_lead true level = codes " "

-- the text of code: whether it stands behind a head, the level of the line, and the number of loops around
abbrev pub Printed : Type 0
Printed = Bool → ℕ → ℕ → List ℕ

abbrev pub parts_text : List Printed → ℕ → ℕ → List ℕ
parts_text [] level around = []
parts_text (p ∷ ps) level around = p false level around ++ parts_text ps level around

-- parts between braces, of which the second begins a line at the level
abbrev pub braced_text : List Printed → ℕ → ℕ → List ℕ
braced_text parts level around = codes "{\n" ++ parts_text parts (suc level) around ++ margin level ++ codes "}\n"

abbrev pub code_layer : List ArrayDecl → Code-F Printed → Printed
code_layer arrays (Code-F.Seq parts) behind level around = brace_lead behind level ++ braced_text parts level around
code_layer arrays (Code-F.Loop number lows highs inner) behind level around =
    lead behind level ++ for_text around number lows highs ++ inner true (level_of behind level) (suc around)
code_layer arrays (Code-F.Guard system inner) behind level around =
    lead behind level ++ if_text around system ++ inner true (level_of behind level) around
code_layer arrays (Code-F.Leaf label body origin places) behind level around =
    lead behind level ++ leaf_text arrays around label body origin places

abbrev pub code_text : List ArrayDecl → Code → Printed
code_text arrays = fold-Code Printed (code_layer arrays)

-- a backslash stands before a quotation mark and before a backslash
abbrev pub escaped : ℕ → List ℕ
escaped b = cond (nat_eq b 34 || nat_eq b 92) (92 ∷ b ∷ []) (b ∷ [])

abbrev pub quoted : List ℕ → List ℕ
quoted name = codes "\"" ++ flat_map escaped name ++ codes "\""

-- a name that isn't plain is quoted
abbrev pub name_text : List ℕ → List ℕ
name_text name = cond (is_plain name) name (quoted name)

abbrev pub extent_text : ℕ → List ℕ
extent_text e = codes "[" ++ number_text e ++ codes "]"

unfoldable pub array_line : ArrayDecl → List ℕ
array_line d = codes "array " ++ name_text d.name ++ flat_map extent_text d.extents ++ codes "\n"

unfoldable pub buffer_line : ℕ → List ℕ → List ℕ
buffer_line k extents = codes "buffer " ++ buffer_text k ++ flat_map extent_text extents ++ codes "\n"

abbrev pub buffer_lines : ℕ → List (List ℕ) → List ℕ
buffer_lines k [] = []
buffer_lines k (t ∷ ts) = buffer_line k t ++ buffer_lines (suc k) ts

unfoldable pub unit_text : UnitParts → List ℕ
unit_text u = flat_map array_line u.arrays ++ buffer_lines 0 u.temps ++ code_text u.arrays u.root false 0 0
