-- A printed program is read as the program.
use Rattle.std.proofs.Common.{◌≡◌, ℕ, true, false, ◌&&◌, List, [], ◌∷◌, ◌++◌, Option, Some, None, Ok, refl, ap, ◌∙◌, append_assoc, arith}
use Rattle.std.specs.Prelude.{is_some, nat_le}
use Rattle.std.specs.Bool.{IsTrue}
use Rattle.std.specs.List.{list_all}
use Rattle.std.proofs.lemmas.Bool.{and_parts, leb-true}
use Rattle.ch_lex.specs.declared.error.Code2.TheVariants.{P1}
use Rattle.ch_lex.specs.declared.keyword.Keyword.{Keyword}
use Rattle.ch_lex.specs.declared.keyword.Keyword.TheVariants as words
use Rattle.ch_lex.specs.declared.token.Sign.TheVariants as signs
use Rattle.ch_lex.specs.declared.token.Token.{Token}
use Rattle.ch_nest.specs.Arrays.{extents_of, total}
use Rattle.ch_nest.specs.Limits.{deepest, most_cells, most_conditions}
use Rattle.ch_nest.specs.LoopNest.{LoopNest}
use Rattle.ch_nest.specs.Shape.{all_conditions_fit, all_numbered, arrays_fit, is_array, is_nest, items_fit}
use Rattle.ch_nest.specs.declared.nest.ArrayDecl.{ArrayDecl}
use Rattle.ch_nest.specs.declared.nest.Fill.{Fill}
use Rattle.ch_nest.specs.declared.nest.Item.{Item}
use Rattle.ch_nestparse.specs.declared.ahead.Look.TheVariants as looks
use Rattle.ch_nestparse.specs.Declarations.{arrays_at, lets_at}
use Rattle.ch_nestparse.specs.Items.{Items, item_at, items_at}
use Rattle.ch_nestparse.specs.Read.{is_keyword, keyword_at, name_at, sign_at}
use Rattle.ch_nestparse.specs.Sections.{Section, section_at}
use Rattle.ch_nestprint.specs.declared.symbol.Symbol.{Symbol}
use Rattle.ch_nestprint.specs.declared.symbol.Symbol.TheVariants.{Name, Key, Mark}
use Rattle.ch_nestprint.specs.Back.{IsReadAs}
use Rattle.ch_nestprint.specs.Cuts.{Shows}
use Rattle.ch_nestprint.specs.Minus.{minus_in_items}
use Rattle.ch_nestprint.specs.Names.{letters_for}
use Rattle.ch_nestprint.specs.Printable.{IsPrintable}
use Rattle.ch_nestprint.specs.Printed.{arrays_symbols, item_step, item_symbols, items_symbols, lets_symbols, program_symbols}
use Rattle.ch_nestprint.proofs.ArraysRead.{ArraysAfter, arrays_given}
use Rattle.ch_nestprint.proofs.Cases.{by_items, fold_assign, fold_if, fold_loop}
use Rattle.ch_nestprint.proofs.ItemsRead.{items_given}
use Rattle.ch_nestprint.proofs.LetsRead.{IsEnd, LetsAfter, lets_given}
use Rattle.ch_nestprint.proofs.RightsRead.{Known}
use Rattle.ch_nestprint.proofs.Seeing.{Given, Passed, Sees, Valued, front, given_bind, given_ok, keyword_given, name_given, sign_given}

numbered_to : (o : Option ℕ) → is_some o ≡ true → (m : ℕ) × (o ≡ Some m)
numbered_to None h = absurd (cc)
numbered_to (Some m) h = (m, refl)

-- what stands at the front of items and of arrays

item_word : (word : Keyword) → is_keyword word (looks.Keyword words.For) ≡ false → (arrays : List ArrayDecl) (letters : ℕ) (item : Item) (depth : ℕ) (xs : List Symbol)
    → is_keyword word (front (item_symbols arrays letters item depth ++ xs)) ≡ false
item_word word h arrays letters = by_items (λ item. (depth : ℕ) (xs : List Symbol) → is_keyword word (front (item_symbols arrays letters item depth ++ xs)) ≡ false)
    (λ lows highs step items again depth xs. ap (λ f. is_keyword word (front (f depth ++ xs))) (fold_loop (item_step arrays letters) lows highs step items) ∙ h)
    (λ row items again depth xs. ap (λ f. is_keyword word (front (f depth ++ xs))) (fold_if (item_step arrays letters) row items))
    (λ label body depth xs. ap (λ f. is_keyword word (front (f depth ++ xs))) (fold_assign (item_step arrays letters) label body))

items_word : (word : Keyword) → is_keyword word (looks.Keyword words.For) ≡ false → (arrays : List ArrayDecl) (letters : ℕ) (items : List Item) (rest : List Symbol)
    → IsEnd word (items_symbols arrays letters items 0 ++ (Mark signs.RightBrace ∷ rest))
items_word word h arrays letters [] rest = refl
items_word word h arrays letters (i ∷ is) rest =
    ap (λ (xs : List Symbol). is_keyword word (front xs)) (append_assoc (item_symbols arrays letters i 0) (items_symbols arrays letters is 0) (Mark signs.RightBrace ∷ rest))
    ∙ item_word word h arrays letters i 0 (items_symbols arrays letters is 0 ++ (Mark signs.RightBrace ∷ rest))

arrays_word : (arrays : List ArrayDecl) (fills : List Fill) (rest : List Symbol) → IsEnd words.Let rest → IsEnd words.Let (arrays_symbols arrays fills ++ rest)
arrays_word [] fills rest h = h
arrays_word (d ∷ ds) [] rest h = h
arrays_word (d ∷ ds) (f ∷ fs) rest h = refl

none_left : (bytes : List ℕ) (ts : List Token) → Sees bytes ts [] → ts ≡ []
none_left bytes [] h = refl
none_left bytes (t ∷ ts) h = absurd (cc)

abbrev IsSection : List ℕ → LoopNest → List Fill → Section × List Token → Type 0
IsSection name nest fills r = (r.0.name ≡ name) × (r.0.nest ≡ nest) × (r.0.fills ≡ fills) × (r.1 ≡ [])

abbrev nest_of : List ArrayDecl → List Item → LoopNest
nest_of arrays items = record { arrays = arrays; items = items }

same_nest : (a b : List ArrayDecl) (x y : List Item) → a ≡ b → x ≡ y → nest_of a x ≡ nest_of b y
same_nest a b x y e f = ap (λ (c : List ArrayDecl). nest_of c x) e ∙ ap (nest_of b) f

section_given : (bytes name : List ℕ) (nest : LoopNest) (fills : List Fill) (ts : List Token) → IsTrue (is_nest nest) → IsPrintable name nest.arrays fills → Sees bytes ts (program_symbols name nest fills)
    → Given (IsSection name nest fills) (section_at bytes ts)
unfolding section_at
section_given bytes name nest fills ts formed p sees =
    let parts = and_parts (arrays_fit nest.arrays && all_conditions_fit nest.items most_conditions) (is_some (all_numbered nest.items 0) && items_fit nest.arrays nest.items []) formed in
    let halves = and_parts (arrays_fit nest.arrays) (all_conditions_fit nest.items most_conditions) parts.0 in
    let shapes = and_parts (list_all is_array nest.arrays) (nat_le (total (extents_of nest.arrays)) most_cells) halves.0 in
    let items_parts = and_parts (is_some (all_numbered nest.items 0)) (items_fit nest.arrays nest.items []) parts.1 in
    let labels = numbered_to (all_numbered nest.items 0) items_parts.0 in
    let letters = letters_for nest.arrays in
    let sizes = minus_in_items nest.items in
    let lets = lets_symbols letters [] sizes in
    let arrays = arrays_symbols nest.arrays fills in
    let items = items_symbols nest.arrays letters nest.items 0 in
    let fourth : List Symbol = items ++ (Mark signs.RightBrace ∷ []) in
    let third : List Symbol = arrays ++ fourth in
    let second : List Symbol = lets ++ third in
    let first : List Symbol = Mark signs.LeftBrace ∷ second in
    let flat : Sees bytes ts (Key words.Program ∷ Name name ∷ first) =
    sees ∙ ap (λ (xs : List Symbol). Key words.Program ∷ Name name ∷ Mark signs.LeftBrace ∷ xs)
    (append_assoc (lets ++ arrays) items (Mark signs.RightBrace ∷ []) ∙ append_assoc lets arrays fourth) in
    let goal = IsSection name nest fills in
    given_bind (Passed bytes (Name name ∷ first)) goal (keyword_at bytes P1 words.Program ts) _ (keyword_given bytes P1 words.Program ts (Name name ∷ first) flat) (λ word a.
    given_bind (Valued bytes name first) goal (name_at bytes P1 word) _ (name_given bytes P1 name word first a) (λ n b.
    given_bind (Passed bytes second) goal (sign_at bytes P1 signs.LeftBrace n.1) _ (sign_given bytes P1 signs.LeftBrace n.1 second b.1) (λ inside c.
    given_bind (LetsAfter bytes letters sizes third) goal (lets_at bytes inside) _ (lets_given bytes letters sizes inside third (arrays_word nest.arrays fills fourth (items_word words.Let refl nest.arrays letters nest.items [])) c) (λ l d.
    given_bind (ArraysAfter bytes nest.arrays fills letters sizes fourth) goal (arrays_at bytes l.0 l.1) _
    (arrays_given bytes nest.arrays fills l.0 sizes l.1 fourth p.each d.0 p.differ shapes.0 (leb-true (total (extents_of nest.arrays)) most_cells shapes.1) (items_word words.Array refl nest.arrays letters nest.items []) d.1) (λ x e.
    let known : Known x.0.names nest.arrays letters 0 = record { iterators = λ k h. absurd (omega arith); free = λ k h. e.0.free k; placed = e.0.placed } in
    given_bind (Valued bytes (nest.items, labels.0) []) goal (items_at bytes (item_at bytes most_conditions deepest x.0.names []) ([], 0) x.1) _
    (items_given bytes nest.arrays letters shapes.0 nest.items x.0.names labels.0 x.1 [] known halves.1 items_parts.1 labels.1 e.0.lets e.1) (λ y f.
    given_ok goal _ (b.0, same_nest x.0.arrays nest.arrays y.0.0 nest.items e.0.arrays (ap (λ (z : Items). z.0) f.0), e.0.starts, none_left bytes y.1 f.1)))))))

pub read_back : (text name : List ℕ) (nest : LoopNest) (fills : List Fill) → IsTrue (is_nest nest) → IsPrintable name nest.arrays fills → Shows text (program_symbols name nest fills) → IsReadAs text name nest fills
read_back text name nest fills formed p s =
    let g = section_given text name nest fills s.0 formed p s.2 in
    record {
      tokens = s.0;
      section = g.0.0;
      lexed = s.1;
      parsed = g.1 ∙ ap (λ (us : List Token). Ok (g.0.0, us)) g.2.3;
      same_name = g.2.0;
      same_nest = g.2.1;
      same_fills = g.2.2;
    }
