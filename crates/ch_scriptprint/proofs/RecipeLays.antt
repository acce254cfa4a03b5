-- The text of a recipe that can be written is cut into its symbols.
use Rattle.std.proofs.Common.{◌≡◌, ℕ, suc, ℤ, pos, negsuc, Bool, true, false, ◌&&◌, nat_eq, nat_le, nat_lt, List, [], ◌∷◌, ◌++◌, length, refl, codes}
use Rattle.std.specs.Prelude.{unsigned_abs}
use Rattle.std.specs.List.{flat_map, list_all}
use Rattle.std.proofs.lemmas.Bool.{and_parts, leb-true, ltb-true}
use Rattle.ch_lex.specs.Keywords.{keyword_of}
use Rattle.ch_lex.specs.Tokens.{most_number}
use Rattle.ch_lex.specs.declared.keyword.Keyword.TheVariants as words
use Rattle.ch_lex.specs.declared.token.Sign.TheVariants as signs
use Rattle.ch_nestparse.specs.Spelling.{is_name}
use Rattle.ch_nestprint.specs.declared.symbol.Symbol.{Symbol}
use Rattle.ch_nestprint.specs.declared.symbol.Symbol.TheVariants.{Name, Key, Mark}
use Rattle.ch_nestprint.proofs.Cases.{Each}
use Rattle.ch_print.specs.Numbers.{integer_text}
use Rattle.ch_script.specs.Limits.{deepest_level, most_commands, most_conditions, most_params}
use Rattle.ch_script.specs.Names.{is_free}
use Rattle.ch_script.specs.Recipes.{RecipeParts, arg_fits, args_fit, command_fits, condition_fits, has_few_terms, is_recipe, term_fits}
use Rattle.ch_script.specs.Words.{require_text, word_text}
use Rattle.ch_script.specs.declared.recipe.Arg.{Arg}
use Rattle.ch_script.specs.declared.recipe.Arg.TheVariants as arg
use Rattle.ch_script.specs.declared.recipe.Command.{Command}
use Rattle.ch_script.specs.declared.recipe.Command.TheVariants.{Permute, Skew, Shift, Tile, Unroll, Split, Peel, Fuse, Distribute, Datacopy, Accumulate}
use Rattle.ch_script.specs.declared.recipe.Cond.{Cond}
use Rattle.ch_script.specs.declared.recipe.Of.{Of}
use Rattle.ch_script.specs.declared.recipe.Of.TheVariants.{One, Level, Param}
use Rattle.ch_script.specs.declared.recipe.Purpose.{Purpose}
use Rattle.ch_script.specs.declared.recipe.Purpose.TheVariants as purposes
use Rattle.ch_script.specs.declared.recipe.Relation.{Relation}
use Rattle.ch_script.specs.declared.recipe.Relation.TheVariants as relations
use Rattle.ch_script.specs.declared.recipe.Term.{Term}
use Rattle.ch_script.specs.declared.word.Word.{Word}
use Rattle.ch_script.specs.declared.word.Word.TheVariants as commands
use Rattle.ch_scriptprint.specs.Printable.{are_params, arg_written, args_written, command_written, condition_written, is_list, is_printable, sum_written, term_written}
use Rattle.ch_scriptprint.specs.Printed.{arg_text, args_text, arguments_text, command_line, condition_text, factor_if, first_sign, group_text, head_line, level_text, line_text, next_sign, next_text, param_name, part_text, recipe_text, relation_text, require_line, sum_text, triple_text, two, word_of_command}
use Rattle.ch_scriptprint.proofs.Lays.{Any, Lays, Stops, blank_laid, chained, comma_laid, feed_laid, joined, nothing_laid, number_laid, open_laid, recipe_word_laid, separated_laid, sign_laid, weaker, word_laid}
use Rattle.ch_scriptprint.proofs.Params.{known, level_named}
use Rattle.ch_scriptprint.proofs.Symbols.{arg_symbols, args_symbols, arguments_symbols, command_symbols, condition_symbols, factor_symbols, head_symbols, lead_symbols, line_symbols, name_symbols, next_mark, next_symbols, number_symbols, part_symbols, recipe_symbols, relation_sign, require_symbols, sum_symbols, three_symbols, two_symbols}

pub each_of : {A : Type 0} (p : A → Bool) (P : A → Type 0) → ((x : A) → p x ≡ true → P x) → (xs : List A) → list_all p xs ≡ true → Each P xs
each_of p P f [] h = tt
each_of p P f (x ∷ xs) h = let parts = and_parts (p x) (list_all p xs) h in (f x parts.0, each_of p P f xs parts.1)

pub each_both : {A : Type 0} (p q : A → Bool) (P : A → Type 0) → ((x : A) → p x ≡ true → q x ≡ true → P x) → (xs : List A) → list_all p xs ≡ true → list_all q xs ≡ true → Each P xs
each_both p q P f [] h g = tt
each_both p q P f (x ∷ xs) h g =
    let parts = and_parts (p x) (list_all p xs) h in
    let others = and_parts (q x) (list_all q xs) g in
    (f x parts.0 others.0, each_both p q P f xs parts.1 others.1)

pub word_named : (w : Word) → is_name (word_text w) ≡ true
unfolding keyword_of
word_named commands.Permute = refl
word_named commands.Skew = refl
word_named commands.Shift = refl
word_named commands.Tile = refl
word_named commands.Unroll = refl
word_named commands.Split = refl
word_named commands.Peel = refl
word_named commands.Fuse = refl
word_named commands.Distribute = refl
word_named commands.Datacopy = refl
word_named commands.Accumulate = refl

pub require_named : is_name require_text ≡ true
unfolding keyword_of
require_named = refl

integer_laid : (n : ℤ) → nat_le (unsigned_abs n) most_number ≡ true → Lays Stops (integer_text n) (number_symbols n)
unfolding integer_text
integer_laid (pos n) h = number_laid n h
integer_laid (negsuc n) h = chained (sign_laid signs.Minus (λ rest. tt)) (number_laid (suc n) h)

two_laid : (a b : List ℕ) (xs ys : List Symbol) → Lays Stops a xs → Lays Stops b ys → Lays Stops (two a b) (two_symbols xs ys)
two_laid a b xs ys f g = chained (joined f comma_laid (λ rest h. refl)) g

three_laid : (a b c : List ℕ) (xs ys zs : List Symbol) → Lays Stops a xs → Lays Stops b ys → Lays Stops c zs → Lays Stops (two (two a b) c) (three_symbols xs ys zs)
three_laid a b c xs ys zs f g h = two_laid (two a b) c (two_symbols xs ys) zs (two_laid a b xs ys f g) h

-- four blanks, the word, and in parentheses what belongs to it
line_laid : (word inside : List ℕ) (ss : List Symbol) → is_name word ≡ true → Lays Stops inside ss → Lays Any (line_text word inside) (line_symbols word ss)
line_laid word inside ss named f =
    let margin : Lays Any (codes "    ") [] = chained blank_laid (chained blank_laid (chained blank_laid blank_laid)) in
    let start : Lays Any (codes "    " ++ word ++ codes "(") (Name word ∷ Mark signs.LeftParen ∷ []) =
    joined (chained margin (word_laid word named)) (sign_laid signs.LeftParen (λ rest. tt)) (λ rest h. refl) in
    let end : Lays Any (codes ");\n") (Mark signs.RightParen ∷ Mark signs.Semicolon ∷ []) =
    chained (chained (sign_laid signs.RightParen (λ rest. tt)) (sign_laid signs.Semicolon (λ rest. tt))) feed_laid in
    joined (chained start f) end (λ rest h. refl)

module _ (ps : List (List ℕ)) (all : are_params [] ps ≡ true) where
  param_named : (k : ℕ) → nat_lt k (length ps) ≡ true → is_name (param_name ps k) ≡ true
  param_named k h = let made = known ps k all (ltb-true k (length ps) h) in made.named

  arg_laid : (a : Arg) → arg_fits (length ps) a ≡ true → arg_written a ≡ true → Lays Stops (arg_text ps a) (arg_symbols ps a)
  arg_laid (arg.Number n) h w = integer_laid n w
  arg_laid (arg.Param k) h w = word_laid (param_name ps k) (param_named k h)

  args_laid : (args : List Arg) → args_fit (length ps) args ≡ true → args_written args ≡ true → Lays Stops (args_text ps args) (args_symbols ps args)
  args_laid args h w =
      let written = (and_parts (is_list args) (list_all arg_written args) w).1 in
      let each = each_both (arg_fits (length ps)) arg_written (λ a. Lays Stops (arg_text ps a) (arg_symbols ps a)) arg_laid args h written in
      let close : Lays Any (codes "]") (Mark signs.RightBracket ∷ []) = sign_laid signs.RightBracket (λ rest. tt) in
      weaker Stops (joined (chained (sign_laid signs.LeftBracket (λ rest. tt)) (separated_laid (arg_text ps) (arg_symbols ps) args each)) close (λ rest h. refl))

  -- conditions

  factor_laid : (one : Bool) (factor : ℕ) → nat_le factor most_number ≡ true → Lays Any (factor_if one factor) (factor_symbols one factor)
  factor_laid true factor h = nothing_laid Any
  factor_laid false factor h = joined (number_laid factor h) (sign_laid signs.Star (λ rest. tt)) (λ rest g. refl)

  times_laid : (factor : ℕ) (name : List ℕ) → nat_le factor most_number ≡ true → is_name name ≡ true
      → Lays Stops (factor_if (nat_eq factor 1) factor ++ name) (factor_symbols (nat_eq factor 1) factor ++ Name name ∷ [])
  times_laid factor name h g = chained (factor_laid (nat_eq factor 1) factor h) (word_laid name g)

  part_laid : (purpose : Purpose) (negative : Bool) (factor : ℕ) (of : Of) → term_fits purpose (length ps) (record { negative = negative; factor = factor; of = of }) ≡ true
      → nat_le factor most_number ≡ true → Lays Stops (part_text ps factor of) (part_symbols ps factor of)
  part_laid purpose negative factor One h w = number_laid factor w
  part_laid purposes.Require negative factor (Level l) h w = absurd (cc)
  part_laid purposes.Split negative factor (Level l) h w =
      let parts = and_parts (nat_le 1 l) (nat_le l deepest_level) h in
      times_laid factor (level_text l) w (level_named l (leb-true 1 l parts.0) (leb-true l deepest_level parts.1))
  part_laid purposes.Require negative factor (Param k) h w = times_laid factor (param_name ps k) w (param_named k h)
  part_laid purposes.Split negative factor (Param k) h w = times_laid factor (param_name ps k) w (param_named k ((and_parts (nat_lt k (length ps)) (nat_eq factor 1) h).0))

  lead_laid : (negative : Bool) → Lays Any (first_sign negative) (lead_symbols negative)
  lead_laid true = sign_laid signs.Minus (λ rest. tt)
  lead_laid false = nothing_laid Any

  mark_laid : (negative : Bool) → Lays Any (next_sign negative) (next_mark negative ∷ [])
  mark_laid true = chained (chained blank_laid (sign_laid signs.Minus (λ rest. tt))) blank_laid
  mark_laid false = joined (chained blank_laid (open_laid signs.Plus)) blank_laid (λ rest h. refl)

  mark_stops : (negative : Bool) (a b c : List ℕ) → Stops (((next_sign negative ++ a) ++ b) ++ c)
  mark_stops true a b c = refl
  mark_stops false a b c = refl

  relation_laid : (r : Relation) → Lays Any (relation_text r) (Mark (relation_sign r) ∷ [])
  relation_laid relations.Less = joined (chained blank_laid (open_laid signs.Less)) blank_laid (λ rest h. refl)
  relation_laid relations.AtMost = chained (chained blank_laid (sign_laid signs.AtMost (λ rest. tt))) blank_laid
  relation_laid relations.More = joined (chained blank_laid (open_laid signs.More)) blank_laid (λ rest h. refl)
  relation_laid relations.AtLeast = chained (chained blank_laid (sign_laid signs.AtLeast (λ rest. tt))) blank_laid

  relation_stops : (r : Relation) (rest : List ℕ) → Stops (relation_text r ++ rest)
  relation_stops relations.Less rest = refl
  relation_stops relations.AtMost rest = refl
  relation_stops relations.More rest = refl
  relation_stops relations.AtLeast rest = refl

  module _ (purpose : Purpose) where
    term_laid : (t : Term) → term_fits purpose (length ps) t ≡ true → term_written t ≡ true → Lays Stops (part_text ps t.factor t.of) (part_symbols ps t.factor t.of)
    term_laid t h w = part_laid purpose t.negative t.factor t.of h w

    next_stops : (ts : List Term) (rest : List ℕ) → Stops rest → Stops (flat_map (next_text ps) ts ++ rest)
    next_stops [] rest h = h
    next_stops (t ∷ ts) rest h = mark_stops t.negative (part_text ps t.factor t.of) (flat_map (next_text ps) ts) rest

    next_laid : (ts : List Term) → list_all (term_fits purpose (length ps)) ts ≡ true → list_all term_written ts ≡ true → Lays Stops (flat_map (next_text ps) ts) (flat_map (next_symbols ps) ts)
    next_laid [] h w = nothing_laid Stops
    next_laid (t ∷ ts) h w =
        let fits = and_parts (term_fits purpose (length ps) t) (list_all (term_fits purpose (length ps)) ts) h in
        let written = and_parts (term_written t) (list_all term_written ts) w in
        joined (chained (mark_laid t.negative) (term_laid t fits.0 written.0)) (next_laid ts fits.1 written.1) (next_stops ts)

    sum_laid : (ts : List Term) → list_all (term_fits purpose (length ps)) ts ≡ true → list_all term_written ts ≡ true → Lays Stops (sum_text ps ts) (sum_symbols ps ts)
    sum_laid [] h w = nothing_laid Stops
    sum_laid (t ∷ ts) h w =
        let fits = and_parts (term_fits purpose (length ps) t) (list_all (term_fits purpose (length ps)) ts) h in
        let written = and_parts (term_written t) (list_all term_written ts) w in
        joined (chained (lead_laid t.negative) (term_laid t fits.0 written.0)) (next_laid ts fits.1 written.1) (next_stops ts)

    condition_laid : (c : Cond) → condition_fits purpose (length ps) c ≡ true → condition_written c ≡ true → Lays Stops (condition_text ps c) (condition_symbols ps c)
    condition_laid c h w =
        let fits = and_parts (list_all (term_fits purpose (length ps)) c.left) (list_all (term_fits purpose (length ps)) c.right)
        ((and_parts (has_few_terms c) (list_all (term_fits purpose (length ps)) c.left && list_all (term_fits purpose (length ps)) c.right) h).1) in
        let written = and_parts (sum_written c.left) (sum_written c.right) w in
        let left = (and_parts (is_list c.left) (list_all term_written c.left) written.0).1 in
        let right = (and_parts (is_list c.right) (list_all term_written c.right) written.1).1 in
        chained (joined (sum_laid c.left fits.0 left) (relation_laid c.relation) (λ rest g. relation_stops c.relation rest)) (sum_laid c.right fits.1 right)

  -- commands

  triple_laid : (a b c : Arg) → (arg_fits (length ps) a && (arg_fits (length ps) b && arg_fits (length ps) c)) ≡ true → (arg_written a && (arg_written b && arg_written c)) ≡ true
      → Lays Stops (triple_text ps a b c) (three_symbols (arg_symbols ps a) (arg_symbols ps b) (arg_symbols ps c))
  triple_laid a b c h w =
      let f = and_parts (arg_fits (length ps) a) (arg_fits (length ps) b && arg_fits (length ps) c) h in
      let more = and_parts (arg_fits (length ps) b) (arg_fits (length ps) c) f.1 in
      let g = and_parts (arg_written a) (arg_written b && arg_written c) w in
      let others = and_parts (arg_written b) (arg_written c) g.1 in
      three_laid _ _ _ _ _ _ (arg_laid a f.0 g.0) (arg_laid b more.0 others.0) (arg_laid c more.1 others.1)

  group_laid : (ss : List Arg) (level : Arg) → (args_fit (length ps) ss && arg_fits (length ps) level) ≡ true → (args_written ss && arg_written level) ≡ true
      → Lays Stops (group_text ps ss level) (two_symbols (args_symbols ps ss) (arg_symbols ps level))
  group_laid ss level h w =
      let f = and_parts (args_fit (length ps) ss) (arg_fits (length ps) level) h in
      let g = and_parts (args_written ss) (arg_written level) w in
      two_laid _ _ _ _ (args_laid ss f.0 g.0) (arg_laid level f.1 g.1)

  arguments_laid : (c : Command) → command_fits (length ps) c ≡ true → command_written c ≡ true → Lays Stops (arguments_text ps c) (arguments_symbols ps c)
  arguments_laid (Permute s order) h w =
      let f = and_parts (arg_fits (length ps) s) (args_fit (length ps) order) h in
      let g = and_parts (arg_written s) (args_written order) w in
      two_laid _ _ _ _ (arg_laid s f.0 g.0) (args_laid order f.1 g.1)
  arguments_laid (Skew ss level amounts) h w =
      let f = and_parts (args_fit (length ps) ss) (arg_fits (length ps) level && args_fit (length ps) amounts) h in
      let more = and_parts (arg_fits (length ps) level) (args_fit (length ps) amounts) f.1 in
      let g = and_parts (args_written ss) (arg_written level && args_written amounts) w in
      let others = and_parts (arg_written level) (args_written amounts) g.1 in
      three_laid _ _ _ _ _ _ (args_laid ss f.0 g.0) (arg_laid level more.0 others.0) (args_laid amounts more.1 others.1)
  arguments_laid (Shift ss level amount) h w =
      let f = and_parts (args_fit (length ps) ss) (arg_fits (length ps) level && arg_fits (length ps) amount) h in
      let more = and_parts (arg_fits (length ps) level) (arg_fits (length ps) amount) f.1 in
      let g = and_parts (args_written ss) (arg_written level && arg_written amount) w in
      let others = and_parts (arg_written level) (arg_written amount) g.1 in
      three_laid _ _ _ _ _ _ (args_laid ss f.0 g.0) (arg_laid level more.0 others.0) (arg_laid amount more.1 others.1)
  arguments_laid (Tile s level size outer) h w =
      let f = and_parts (arg_fits (length ps) s) (arg_fits (length ps) level && (arg_fits (length ps) size && arg_fits (length ps) outer)) h in
      let more = and_parts (arg_fits (length ps) level) (arg_fits (length ps) size && arg_fits (length ps) outer) f.1 in
      let last = and_parts (arg_fits (length ps) size) (arg_fits (length ps) outer) more.1 in
      let g = and_parts (arg_written s) (arg_written level && (arg_written size && arg_written outer)) w in
      let others = and_parts (arg_written level) (arg_written size && arg_written outer) g.1 in
      let end = and_parts (arg_written size) (arg_written outer) others.1 in
      two_laid _ _ _ _ (three_laid _ _ _ _ _ _ (arg_laid s f.0 g.0) (arg_laid level more.0 others.0) (arg_laid size last.0 end.0)) (arg_laid outer last.1 end.1)
  arguments_laid (Unroll s level amount) h w = triple_laid s level amount h w
  arguments_laid (Split s level c) h w =
      let f = and_parts (arg_fits (length ps) s) (arg_fits (length ps) level && condition_fits purposes.Split (length ps) c) h in
      let more = and_parts (arg_fits (length ps) level) (condition_fits purposes.Split (length ps) c) f.1 in
      let g = and_parts (arg_written s) (arg_written level && condition_written c) w in
      let others = and_parts (arg_written level) (condition_written c) g.1 in
      three_laid _ _ _ _ _ _ (arg_laid s f.0 g.0) (arg_laid level more.0 others.0) (condition_laid purposes.Split c more.1 others.1)
  arguments_laid (Peel s level count) h w = triple_laid s level count h w
  arguments_laid (Fuse ss level) h w = group_laid ss level h w
  arguments_laid (Distribute ss level) h w = group_laid ss level h w
  arguments_laid (Datacopy s level array) h w =
      let f = and_parts (arg_fits (length ps) s) (arg_fits (length ps) level) h in
      let g = and_parts (arg_written s) (arg_written level && is_name array) w in
      let others = and_parts (arg_written level) (is_name array) g.1 in
      three_laid _ _ _ _ _ _ (arg_laid s f.0 g.0) (arg_laid level f.1 others.0) (word_laid array others.1)
  arguments_laid Accumulate h w = nothing_laid Stops

  command_laid : (c : Command) → command_fits (length ps) c ≡ true → command_written c ≡ true → Lays Any (command_line ps c) (command_symbols ps c)
  command_laid c h w = line_laid (word_text (word_of_command c)) (arguments_text ps c) (arguments_symbols ps c) (word_named (word_of_command c)) (arguments_laid c h w)

  require_laid : (c : Cond) → condition_fits purposes.Require (length ps) c ≡ true → condition_written c ≡ true → Lays Any (require_line ps c) (require_symbols ps c)
  require_laid c h w = line_laid require_text (condition_text ps c) (condition_symbols ps c) require_named (condition_laid purposes.Require c h w)

lines_laid : {A : Type 0} (text : A → List ℕ) (symbols : A → List Symbol) (xs : List A) → Each (λ x. Lays Any (text x) (symbols x)) xs → Lays Any (flat_map text xs) (flat_map symbols xs)
lines_laid text symbols [] h = nothing_laid Any
lines_laid text symbols (x ∷ xs) h = chained h.0 (lines_laid text symbols xs h.1)

names_laid : (before ns : List (List ℕ)) → are_params before ns ≡ true → Each (λ n. Lays Stops n (name_symbols n)) ns
names_laid before [] h = tt
names_laid before (n ∷ ns) h =
    let parts = and_parts (is_name n) (is_free n before && are_params (before ++ n ∷ []) ns) h in
    let more = and_parts (is_free n before) (are_params (before ++ n ∷ []) ns) parts.1 in
    (word_laid n parts.0, names_laid (before ++ n ∷ []) ns more.1)

head_laid : (name : List ℕ) (ps : List (List ℕ)) → is_name name ≡ true → are_params [] ps ≡ true → Lays Any (head_line name ps) (head_symbols name ps)
head_laid name ps h all =
    let word : Lays Any (codes "recipe ") (Key words.Recipe ∷ []) = joined recipe_word_laid blank_laid (λ rest g. refl) in
    let opened : Lays Any (codes "recipe " ++ name ++ codes "(") (Key words.Recipe ∷ Name name ∷ Mark signs.LeftParen ∷ []) =
    joined (chained word (word_laid name h)) (sign_laid signs.LeftParen (λ rest. tt)) (λ rest g. refl) in
    let end : Lays Any (codes ") {\n") (Mark signs.RightParen ∷ Mark signs.LeftBrace ∷ []) =
    chained (chained (chained (sign_laid signs.RightParen (λ rest. tt)) blank_laid) (sign_laid signs.LeftBrace (λ rest. tt))) feed_laid in
    joined (chained opened (separated_laid (λ p. p) name_symbols ps (names_laid [] ps all))) end (λ rest g. refl)

pub recipe_laid : (r : RecipeParts) → is_recipe r ≡ true → is_printable r ≡ true → Lays Any (recipe_text r) (recipe_symbols r)
recipe_laid r h w =
    let n = length r.params in
    let a = and_parts (nat_le (length r.params) most_params) (nat_le (length r.conditions) most_conditions && (nat_le (length r.commands) most_commands && (list_all (condition_fits purposes.Require n) r.conditions && list_all (command_fits n) r.commands))) h in
    let b = and_parts (nat_le (length r.conditions) most_conditions) (nat_le (length r.commands) most_commands && (list_all (condition_fits purposes.Require n) r.conditions && list_all (command_fits n) r.commands)) a.1 in
    let c = and_parts (nat_le (length r.commands) most_commands) (list_all (condition_fits purposes.Require n) r.conditions && list_all (command_fits n) r.commands) b.1 in
    let fits = and_parts (list_all (condition_fits purposes.Require n) r.conditions) (list_all (command_fits n) r.commands) c.1 in
    let d = and_parts (is_name r.name) (are_params [] r.params && (list_all condition_written r.conditions && list_all command_written r.commands)) w in
    let e = and_parts (are_params [] r.params) (list_all condition_written r.conditions && list_all command_written r.commands) d.1 in
    let written = and_parts (list_all condition_written r.conditions) (list_all command_written r.commands) e.1 in
    let requires = each_both (condition_fits purposes.Require n) condition_written (λ k. Lays Any (require_line r.params k) (require_symbols r.params k)) (require_laid r.params e.0) r.conditions fits.0 written.0 in
    let commands = each_both (command_fits n) command_written (λ k. Lays Any (command_line r.params k) (command_symbols r.params k)) (command_laid r.params e.0) r.commands fits.1 written.1 in
    let end : Lays Any (codes "}\n") (Mark signs.RightBrace ∷ []) = chained (sign_laid signs.RightBrace (λ rest. tt)) feed_laid in
    chained (chained (chained (head_laid r.name r.params d.0 e.0) (lines_laid (require_line r.params) (require_symbols r.params) r.conditions requires)) (lines_laid (command_line r.params) (command_symbols r.params) r.commands commands)) end
