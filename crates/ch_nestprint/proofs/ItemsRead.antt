-- Printed loops, conditions and assignments are read as they were.
use Rattle.std.proofs.Common.{◌≡◌, ◌≢◌, ℕ, zero, suc, ◌+◌, ◌-◌, ◌<◌, ◌≤◌, Bool, true, false, not, ◌&&◌, nat_eq, nat_lt, if◌then◌else◌, List, [], ◌∷◌, ◌++◌, length, map, drop, Option, Some, None, Ok, codes, refl, sym, ap, ◌∙◌, append_assoc, length-append, ltb-true, arith}
use Rattle.std.specs.Prelude.{nat_le, neg_ℤ, pos}
use Rattle.std.specs.Str.{bytes_eq}
use Rattle.std.specs.List.{flat_map, list_all}
use Rattle.std.proofs.lemmas.Bool.{and_parts, eqb-true, leb-true}
use Rattle.std.proofs.lemmas.List.{append-nil}
use Rattle.ch_affine.specs.Form.{Form}
use Rattle.ch_affine.specs.declared.system.Range.{Range}
use Rattle.ch_lex.specs.declared.error.Code2.TheVariants.{P1}
use Rattle.ch_lex.specs.declared.keyword.Keyword.TheVariants as words
use Rattle.ch_lex.specs.declared.token.Sign.TheVariants as signs
use Rattle.ch_lex.specs.declared.token.Token.{Token}
use Rattle.ch_nest.specs.Limits.{deepest, most_conditions, most_nesting, most_operands, most_statements}
use Rattle.ch_nest.specs.Shape.{access_fits, after, all_conditions_fit, all_numbered, body_fits, box_of, conditions_fit, conditions_step, expr_fits, has_dimensions, head_fits, is_array, is_small, item_fits, item_fits_step, items_fit, nested, numbered, numbered_step, operands, parts_fit, row_fits, sub_fits}
use Rattle.ch_nest.specs.declared.exprs.Standing.TheVariants.{Term}
use Rattle.ch_nest.specs.declared.nest.Access.{Access}
use Rattle.ch_nest.specs.declared.nest.ArrayDecl.{ArrayDecl}
use Rattle.ch_nest.specs.declared.nest.Body.{Body}
use Rattle.ch_nest.specs.declared.nest.Expr.{Expr}
use Rattle.ch_nest.specs.declared.nest.Item.{Item}
use Rattle.ch_nest.specs.declared.nest.Item.TheVariants.{Loop, If, Assign}
use Rattle.ch_nest.specs.declared.nest.Sub.{Sub}
use Rattle.ch_nestparse.specs.declared.ahead.Look.{Look}
use Rattle.ch_nestparse.specs.declared.scope.Named.{Named}
use Rattle.ch_nestparse.specs.declared.scope.Named.TheVariants.{Let, Array, Iterator}
use Rattle.ch_nestparse.specs.Conditions.{condition_at}
use Rattle.ch_nestparse.specs.Heads.{Head, head_at}
use Rattle.ch_nestparse.specs.Items.{Items, assign_at, body_at, cif_at, is_more, item_at, items_at, loop_at, written}
use Rattle.ch_nestparse.specs.Read.{◌>>=◌, Names, begins, begins_if, find_name, if_on, is_keyword, is_sign, name_at, next_is, place, repeated, seen, sign_at, text_at}
use Rattle.ch_nestparse.specs.Rights.{access_at, right_at}
use Rattle.ch_nestparse.proofs.Nested.{item_assign, item_if, item_loop}
use Rattle.ch_nestprint.specs.declared.symbol.Symbol.{Symbol}
use Rattle.ch_nestprint.specs.declared.symbol.Symbol.TheVariants.{Name, Key, Mark}
use Rattle.ch_nestprint.specs.Conditions.{condition_symbols}
use Rattle.ch_nestprint.specs.Ends.{head_symbols}
use Rattle.ch_nestprint.specs.Minus.{minus_in, minus_in_item, minus_in_items, minus_item_step}
use Rattle.ch_nestprint.specs.Names.{array_name, iterator_name, minus_name}
use Rattle.ch_nestprint.specs.Printed.{assign_symbols, item_step, item_symbols, items_symbols}
use Rattle.ch_nestprint.specs.Sides.{access_symbols, right_symbols, sub_symbols}
use Rattle.ch_nestprint.proofs.Cases.{Each, by_items, each_item, fold_assign, fold_if, fold_loop}
use Rattle.ch_nestprint.proofs.ConditionsRead.{condition_given}
use Rattle.ch_nestprint.proofs.HeadsRead.{head_given}
use Rattle.ch_nestprint.proofs.NamesRead.{find_kept, known_deeper}
use Rattle.ch_nestprint.proofs.RightsRead.{Known, LetKnown, access_given, each_left, each_right, right_given}
use Rattle.ch_nestprint.proofs.Seeing.{Given, Passed, Sees, Valued, behind_front, front, given_bind, given_chosen, given_ok, given_other, name_given, seen_front, sign_given, text_front}

-- labels

after_some : (o : Option ℕ) (next : ℕ → Option ℕ) (k : ℕ) → after o next ≡ Some k → (m : ℕ) × (o ≡ Some m) × (next m ≡ Some k)
after_some None next k h = absurd (cc)
after_some (Some m) next k h = (m, refl, h)

label_if : (b : Bool) (k m : ℕ) → (if b then Some k else None) ≡ Some m → (b ≡ true) × (k ≡ m)
label_if true k m h = (refl, cc)
label_if false k m h = absurd (cc)

label_is : (label k m : ℕ) (body : Body) → numbered (Assign label body) k ≡ Some m → (label ≡ k) × (nat_lt k 16 ≡ true) × (k + 1 ≡ m)
label_is label k m body h =
    let g = sym (ap (λ f. f k) (fold_assign numbered_step label body)) ∙ h in
    let a = label_if (nat_eq label k && nat_lt k 16) (k + 1) m g in
    let b = and_parts (nat_eq label k) (nat_lt k 16) a.0 in
    (eqb-true label k b.0, b.1, a.1)

module _ (arrays : List ArrayDecl) where
  abbrev ItemCounts : Item → Type 0
  ItemCounts item = (boxes : List Range) (k m : ℕ) → item_fits arrays item boxes ≡ true → numbered item k ≡ Some m → (k < m) × (m ≤ 16)

  each_counts : (items : List Item) → Each ItemCounts items → (boxes : List Range) (k m : ℕ) → items_fit arrays items boxes ≡ true → all_numbered items k ≡ Some m
      → (k + length items ≤ m) × (k ≤ 16 → m ≤ 16)
  each_counts [] counts boxes k m fits h = let e : k ≡ m = cc in (omega (arith, e), λ l. omega (arith, e))
  each_counts (i ∷ is) counts boxes k m fits h =
      let parts = and_parts (item_fits arrays i boxes) (items_fit arrays is boxes) fits in
      let s = after_some (numbered i k) (all_numbered is) m h in
      let one = counts.0 boxes k s.0 parts.0 s.1 in
      let more = each_counts is counts.1 boxes s.0 m parts.1 s.2 in
      (omega (arith, one.0, more.0), λ l. more.1 one.1)

  -- the parts of a loop that fits
  record LoopFits (lows highs : List Form) (step : ℕ) (items : List Item) (boxes : List Range) : Type 0 where
    head : head_fits (length boxes) lows highs step ≡ true
    some : 0 < length items
    small : is_small (box_of boxes lows highs) ≡ true
    inner : items_fit arrays items (boxes ++ box_of boxes lows highs ∷ []) ≡ true

  mapped_long : (items : List Item) → length (map (item_fits arrays) items) ≡ length items
  mapped_long [] = refl
  mapped_long (i ∷ is) = let e = mapped_long is in omega (arith, e)

  loop_fits : (lows highs : List Form) (step : ℕ) (items : List Item) (boxes : List Range) → item_fits arrays (Loop lows highs step items) boxes ≡ true → LoopFits lows highs step items boxes
  loop_fits lows highs step items boxes h =
      let inside : List Range = boxes ++ box_of boxes lows highs ∷ [] in
      let g = sym (ap (λ f. f boxes) (fold_loop (item_fits_step arrays) lows highs step items)) ∙ h in
      let a = and_parts (head_fits (length boxes) lows highs step && nat_lt 0 (length (map (item_fits arrays) items))) (is_small (box_of boxes lows highs) && items_fit arrays items inside) g in
      let b = and_parts (head_fits (length boxes) lows highs step) (nat_lt 0 (length (map (item_fits arrays) items))) a.0 in
      let c = and_parts (is_small (box_of boxes lows highs)) (items_fit arrays items inside) a.1 in
      let l = ltb-true 0 (length (map (item_fits arrays) items)) b.1 in
      let m = mapped_long items in
      record {
        head = b.0;
        some = omega (arith, l, m);
        small = c.0;
        inner = c.1;
      }

  -- the parts of a condition that fits
  record IfFits (row : Form) (items : List Item) (boxes : List Range) : Type 0 where
    row_is : row_fits (length boxes) row ≡ true
    some : 0 < length items
    inner : items_fit arrays items boxes ≡ true

  if_fits : (row : Form) (items : List Item) (boxes : List Range) → item_fits arrays (If row items) boxes ≡ true → IfFits row items boxes
  if_fits row items boxes h =
      let g = sym (ap (λ f. f boxes) (fold_if (item_fits_step arrays) row items)) ∙ h in
      let a = and_parts (row_fits (length boxes) row && nat_lt 0 (length (map (item_fits arrays) items))) (items_fit arrays items boxes) g in
      let b = and_parts (row_fits (length boxes) row) (nat_lt 0 (length (map (item_fits arrays) items))) a.0 in
      let l = ltb-true 0 (length (map (item_fits arrays) items)) b.1 in
      let m = mapped_long items in
      record {
        row_is = b.0;
        some = omega (arith, l, m);
        inner = a.1;
      }

  first_counts : (items : List Item) → Each ItemCounts items → (boxes : List Range) (k m : ℕ) → 0 < length items → items_fit arrays items boxes ≡ true → all_numbered items k ≡ Some m → (k < m) × (m ≤ 16)
  first_counts [] counts boxes k m l fits h = absurd (omega (arith, l))
  first_counts (i ∷ is) counts boxes k m l fits h =
      let parts = and_parts (item_fits arrays i boxes) (items_fit arrays is boxes) fits in
      let s = after_some (numbered i k) (all_numbered is) m h in
      let one = counts.0 boxes k s.0 parts.0 s.1 in
      let more = each_counts is counts.1 boxes s.0 m parts.1 s.2 in
      (omega (arith, one.0, more.0), more.1 one.1)

  loop_counts : (lows highs : List Form) (step : ℕ) (items : List Item) → Each ItemCounts items → ItemCounts (Loop lows highs step items)
  loop_counts lows highs step items counts boxes k m fits h =
      let f = loop_fits lows highs step items boxes fits in
      first_counts items counts (boxes ++ box_of boxes lows highs ∷ []) k m f.some f.inner (sym (ap (λ g. g k) (fold_loop numbered_step lows highs step items)) ∙ h)

  if_counts : (row : Form) (items : List Item) → Each ItemCounts items → ItemCounts (If row items)
  if_counts row items counts boxes k m fits h =
      let f = if_fits row items boxes fits in
      first_counts items counts boxes k m f.some f.inner (sym (ap (λ g. g k) (fold_if numbered_step row items)) ∙ h)

  leaf_counts : (label : ℕ) (body : Body) → ItemCounts (Assign label body)
  leaf_counts label body boxes k m fits h =
      let a = label_is label k m body h in
      let l = ltb-true k 16 a.1 in
      let e = a.2 in
      (omega (arith, e), omega (arith, e, l))

  -- there are no more items than statements
  items_count : (items : List Item) (boxes : List Range) (k m : ℕ) → items_fit arrays items boxes ≡ true → all_numbered items k ≡ Some m → (k + length items ≤ m) × (k ≤ 16 → m ≤ 16)
  items_count items = each_counts items (each_item ItemCounts loop_counts if_counts leaf_counts items)

  item_count : (item : Item) → ItemCounts item
  item_count = by_items ItemCounts loop_counts if_counts leaf_counts

-- items

abbrev items_and : List Item → ℕ → Items
items_and items next = (items, next)

same_pair : (a b : List Item) (m n : ℕ) → a ≡ b → m ≡ n → items_and a m ≡ items_and b n
same_pair a b m n e f = ap (λ (x : List Item). items_and x m) e ∙ ap (items_and b) f

abbrev body_of : Access → Expr → Body
body_of write right = record { write = write; right = right }

whole_body : (a b : Access) (x y : Expr) → a ≡ b → x ≡ y → body_of a x ≡ body_of b y
whole_body a b x y e f = ap (λ (c : Access). body_of c x) e ∙ ap (body_of b) f

abbrev lets_known : Names → ℕ → List ℕ → Type 0
lets_known names letters sizes = Each (LetKnown names letters) sizes

lets_kept : (names more : Names) (letters : ℕ) (sizes : List ℕ) → lets_known names letters sizes → lets_known (names ++ more) letters sizes
lets_kept names more letters [] h = tt
lets_kept names more letters (size ∷ sizes) h = (find_kept (minus_name letters size) names more (Let (neg_ℤ (pos size))) h.0, lets_kept names more letters sizes h.1)

abbrev added : Items → Item → ℕ → Items
added found item next = (found.0 ++ item ∷ [], next)

same_added : (found : Items) (label other : ℕ) (body : Body) (m n : ℕ) → label ≡ other → m ≡ n → added found (Assign other body) m ≡ added found (Assign label body) n
same_added found label other body m n e f = ap (λ (k : ℕ). added found (Assign k body) m) (sym e) ∙ ap (added found (Assign label body)) f

abbrev loop_of : Items → Head → Items → Items
loop_of found head body = (found.0 ++ Loop head.lows head.highs head.step body.0 ∷ [], body.1)

whole_loop : (found : Items) (a b : Head) (x y : Items) → a ≡ b → x ≡ y → loop_of found a x ≡ loop_of found b y
whole_loop found a b x y e f = ap (λ (h : Head). loop_of found h x) e ∙ ap (loop_of found b) f

abbrev if_of : Items → Form → Items → Items
if_of found row body = (found.0 ++ If row body.0 ∷ [], body.1)

whole_if : (found : Items) (a b : Form) (x y : Items) → a ≡ b → x ≡ y → if_of found a x ≡ if_of found b y
whole_if found a b x y e f = ap (λ (r : Form). if_of found r x) e ∙ ap (if_of found b) f

-- what begins with a name and no parenthesis is no condition

and_none : (a b : Bool) → b ≡ false → (a && b) ≡ false
and_none true b h = h
and_none false b h = refl

no_if : (bytes : List ℕ) (text : List ℕ) (ts : List Token) (rest : List Symbol) → is_sign signs.LeftParen (front rest) ≡ false → Sees bytes ts (Name text ∷ rest) → begins_if bytes ts ≡ false
no_if bytes text ts rest h sees =
    let word = bytes_eq (text_at bytes ts) (codes "if") && next_is bytes signs.LeftParen (drop 1 ts) in
    let behind : next_is bytes signs.LeftParen (drop 1 ts) ≡ false = ap (is_sign signs.LeftParen) (seen_front bytes (drop 1 ts) rest (behind_front bytes ts (Name text) rest sees)) ∙ h in
    ap (λ (l : Look). if_on l word) (seen_front bytes ts (Name text ∷ rest) sees) ∙ and_none (bytes_eq (text_at bytes ts) (codes "if")) _ behind

some_if : (bytes : List ℕ) (ts : List Token) (rest : List Symbol) → Sees bytes ts (Name (codes "if") ∷ Mark signs.LeftParen ∷ rest) → begins_if bytes ts ≡ true
some_if bytes ts rest sees =
    let more : List Symbol = Mark signs.LeftParen ∷ rest in
    let word = bytes_eq (text_at bytes ts) (codes "if") && next_is bytes signs.LeftParen (drop 1 ts) in
    let behind : next_is bytes signs.LeftParen (drop 1 ts) ≡ true = ap (is_sign signs.LeftParen) (seen_front bytes (drop 1 ts) more (behind_front bytes ts (Name (codes "if")) more sees)) in
    ap (λ (l : Look). if_on l word) (seen_front bytes ts (Name (codes "if") ∷ more) sees)
    ∙ ap (λ (t : List ℕ). bytes_eq t (codes "if") && next_is bytes signs.LeftParen (drop 1 ts)) (text_front bytes ts (codes "if") more sees) ∙ behind

subscript_next : (letters : ℕ) (subs : List Sub) (x y rest : List Symbol) → is_sign signs.LeftParen (front (((flat_map (sub_symbols letters) subs ++ (Mark signs.Equals ∷ x)) ++ y) ++ rest)) ≡ false
subscript_next letters [] x y rest = refl
subscript_next letters (s ∷ ss) x y rest = refl

module _ (bytes : List ℕ) (arrays : List ArrayDecl) (letters : ℕ) (shapes : list_all is_array arrays ≡ true) where
  assign_given : (names : Names) (levels : ℕ) (found : Items) (body : Body) (ts : List Token) (rest : List Symbol) → Known names arrays letters levels → levels ≤ 6 → body_fits arrays levels body ≡ true
      → nat_lt found.1 16 ≡ true → lets_known names letters (minus_in body.right) → Sees bytes ts (assign_symbols arrays letters body ++ rest)
      → Given (Valued bytes (added found (Assign found.1 body) (found.1 + 1)) rest) (assign_at bytes names levels found ts)
  unfolding assign_at
  assign_given names levels found body ts rest known few fits label lets sees =
      let parts = and_parts (access_fits arrays levels body.write) (expr_fits arrays levels body.right) fits in
      let a = body.write in
      let access = and_parts (has_dimensions arrays a.array (length a.subs)) (list_all (sub_fits levels) a.subs) parts.0 in
      let right = and_parts (parts_fit arrays levels body.right) (nat_le (operands body.right) most_operands && nested body.right Term most_nesting) parts.1 in
      let deep = and_parts (nat_le (operands body.right) most_operands) (nested body.right Term most_nesting) right.1 in
      let goal = Valued bytes (added found (Assign found.1 body) (found.1 + 1)) rest in
      let name = array_name arrays a.array in
      let ends : List Symbol = Mark signs.Semicolon ∷ rest in
      let value : List Symbol = right_symbols arrays letters body.right Term ++ ends in
      let equals : List Symbol = Mark signs.Equals ∷ value in
      let subs : List Symbol = flat_map (sub_symbols letters) a.subs ++ equals in
      let flat : Sees bytes ts (Name name ∷ subs) =
      sees ∙ append_assoc (access_symbols arrays letters a ++ (Mark signs.Equals ∷ right_symbols arrays letters body.right Term)) (Mark signs.Semicolon ∷ []) rest
      ∙ append_assoc (access_symbols arrays letters a) (Mark signs.Equals ∷ right_symbols arrays letters body.right Term) ends in
      given_bind (Valued bytes name subs) goal (name_at bytes P1 ts) _ (name_given bytes P1 name ts subs flat) (λ n b.
      let array : Option Named = Some (Array a.array (length a.subs)) in
      let is : find_name n.0 names ≡ array = ap (λ (t : List ℕ). find_name t names) b.0 ∙ known.placed a.array (length a.subs) access.0 in
      let which : Given (λ x. x ≡ (a.array, length a.subs)) (written (nat_lt found.1 most_statements) (place bytes ts) (find_name n.0 names)) =
      ((a.array, length a.subs), ap (λ (o : Option Named). written (nat_lt found.1 most_statements) (place bytes ts) o) is ∙ ap (λ (t : Bool). written t (place bytes ts) array) label, refl) in
      given_bind (λ x. x ≡ (a.array, length a.subs)) goal (written (nat_lt found.1 most_statements) (place bytes ts) (find_name n.0 names)) _ which (λ x c.
      let read : Given (Valued bytes a equals) (access_at bytes names levels most_nesting x.0 x.1 n.1) =
      rw c (access_given bytes names arrays letters levels known shapes few most_nesting a n.1 equals access.1 refl b.1) in
      given_bind (Valued bytes a equals) goal (access_at bytes names levels most_nesting x.0 x.1 n.1) _ read (λ write d.
      given_bind (Passed bytes value) goal (sign_at bytes P1 signs.Equals write.1) _ (sign_given bytes P1 signs.Equals write.1 value d.1) (λ us e.
      given_bind (Valued bytes body.right ends) goal (right_at bytes names levels us) _
      (right_given bytes names arrays letters levels known shapes few body.right us ends right.0 (leb-true (operands body.right) most_operands deep.0) deep.1 lets (record { stars = refl; brackets = refl; follows = refl }) refl e) (λ r f.
      given_bind (Passed bytes rest) goal (sign_at bytes P1 signs.Semicolon r.1) _ (sign_given bytes P1 signs.Semicolon r.1 rest f.1) (λ vs g.
      given_ok goal (added found (Assign found.1 (record { write = write.0; right = r.0 })) (found.1 + 1), vs)
      (ap (λ (x : Body). added found (Assign found.1 x) (found.1 + 1)) (whole_body write.0 a r.0 body.right d.0 f.0), g)))))))

  abbrev ItemRead : Item → Type 0
  ItemRead item = (ifs deeper : ℕ) (names : Names) (boxes : List Range) (found : Items) (m : ℕ) (ts : List Token) (rest : List Symbol) → Known names arrays letters (length boxes) → length boxes + deeper ≡ 6
      → conditions_fit item ifs ≡ true → item_fits arrays item boxes ≡ true → numbered item found.1 ≡ Some m → lets_known names letters (minus_in_item item) → Sees bytes ts (item_symbols arrays letters item (length boxes) ++ rest)
      → Given (Valued bytes (added found item m) rest) (item_at bytes ifs deeper names boxes found ts)

  leaf_read : (label : ℕ) (body : Body) → ItemRead (Assign label body)
  leaf_read label body ifs deeper names boxes found m ts rest known deep conds fits h lets sees =
      let a = label_is label found.1 m body h in
      let is : body_fits arrays (length boxes) body ≡ true = sym (ap (λ f. f boxes) (fold_assign (item_fits_step arrays) label body)) ∙ fits in
      let flat : Sees bytes ts (assign_symbols arrays letters body ++ rest) = sees ∙ ap (λ f. f (length boxes) ++ rest) (fold_assign (item_step arrays letters) label body) in
      let no_loop : begins bytes words.For ts ≡ false = ap (is_keyword words.For) (seen_front bytes ts (assign_symbols arrays letters body ++ rest) flat) in
      let w = body.write in
      let behind : List Symbol = ((flat_map (sub_symbols letters) w.subs ++ (Mark signs.Equals ∷ right_symbols arrays letters body.right Term)) ++ Mark signs.Semicolon ∷ []) ++ rest in
      let no_condition : begins_if bytes ts ≡ false = no_if bytes (array_name arrays w.array) ts behind (subscript_next letters w.subs _ _ rest) flat in
      let sizes : lets_known names letters (minus_in body.right) = rw (fold_assign minus_item_step label body) at lets in
      let g = assign_given names (length boxes) found body ts rest known (omega (arith, deep)) is a.1 sizes flat in
      (g.0, item_assign bytes ifs deeper names boxes found ts no_loop no_condition ∙ g.1, (g.2.0 ∙ same_added found label found.1 body (found.1 + 1) m a.0 a.2, g.2.1))

  front_more : (item : Item) (depth : ℕ) (xs : List Symbol) → is_sign signs.RightBrace (front (item_symbols arrays letters item depth ++ xs)) ≡ false
  front_more = by_items (λ item. (depth : ℕ) (xs : List Symbol) → is_sign signs.RightBrace (front (item_symbols arrays letters item depth ++ xs)) ≡ false)
      (λ lows highs step items again depth xs. ap (λ f. is_sign signs.RightBrace (front (f depth ++ xs))) (fold_loop (item_step arrays letters) lows highs step items))
      (λ row items again depth xs. ap (λ f. is_sign signs.RightBrace (front (f depth ++ xs))) (fold_if (item_step arrays letters) row items))
      (λ label body depth xs. ap (λ f. is_sign signs.RightBrace (front (f depth ++ xs))) (fold_assign (item_step arrays letters) label body))

  -- items one after another, up to a closing brace
  each_read : (items : List Item) → Each ItemRead items → (ifs deeper : ℕ) (names : Names) (boxes : List Range) (k : ℕ) (found : Items) (m : ℕ) (ts : List Token) (rest : List Symbol)
      → Known names arrays letters (length boxes) → length boxes + deeper ≡ 6 → all_conditions_fit items ifs ≡ true → length items ≤ k → items_fit arrays items boxes ≡ true → all_numbered items found.1 ≡ Some m
      → lets_known names letters (minus_in_items items) → Sees bytes ts (items_symbols arrays letters items (length boxes) ++ (Mark signs.RightBrace ∷ rest))
      → Given (Valued bytes (found.0 ++ items, m) (Mark signs.RightBrace ∷ rest)) (repeated (is_more bytes) (item_at bytes ifs deeper names boxes) k found ts)
  unfolding repeated
  each_read [] reads ifs deeper names boxes zero found m ts rest known deep conds l fits h lets sees =
      let e : found.1 ≡ m = cc in
      given_ok (Valued bytes (found.0 ++ [], m) (Mark signs.RightBrace ∷ rest)) (found, ts) (same_pair found.0 (found.0 ++ []) found.1 m (sym (append-nil found.0)) e, sees)
  each_read [] reads ifs deeper names boxes (suc k) found m ts rest known deep conds l fits h lets sees =
      let e : found.1 ≡ m = cc in
      let goal = Valued bytes (found.0 ++ [], m) (Mark signs.RightBrace ∷ rest) in
      given_other goal (is_more bytes ts) (λ _. item_at bytes ifs deeper names boxes found ts >>= λ x. repeated (is_more bytes) (item_at bytes ifs deeper names boxes) k x.0 x.1) (λ _. Ok (found, ts))
      (ap (λ (x : Look). not (is_sign signs.RightBrace x)) (seen_front bytes ts (Mark signs.RightBrace ∷ rest) sees))
      (given_ok goal (found, ts) (same_pair found.0 (found.0 ++ []) found.1 m (sym (append-nil found.0)) e, sees))
  each_read (i ∷ is) reads ifs deeper names boxes zero found m ts rest known deep conds l fits h lets sees = absurd (omega arith)
  each_read (i ∷ is) reads ifs deeper names boxes (suc k) found m ts rest known deep conds l fits h lets sees =
      let parts = and_parts (item_fits arrays i boxes) (items_fit arrays is boxes) fits in
      let nest = and_parts (conditions_fit i ifs) (all_conditions_fit is ifs) conds in
      let s = after_some (numbered i found.1) (all_numbered is) m h in
      let more : List Symbol = items_symbols arrays letters is (length boxes) ++ (Mark signs.RightBrace ∷ rest) in
      let goal = Valued bytes (found.0 ++ i ∷ is, m) (Mark signs.RightBrace ∷ rest) in
      let flat : Sees bytes ts (item_symbols arrays letters i (length boxes) ++ more) = sees ∙ append_assoc (item_symbols arrays letters i (length boxes)) (items_symbols arrays letters is (length boxes)) (Mark signs.RightBrace ∷ rest) in
      given_chosen goal (is_more bytes ts) (λ _. item_at bytes ifs deeper names boxes found ts >>= λ x. repeated (is_more bytes) (item_at bytes ifs deeper names boxes) k x.0 x.1) (λ _. Ok (found, ts))
      (ap (λ (x : Look). not (is_sign signs.RightBrace x)) (seen_front bytes ts (item_symbols arrays letters i (length boxes) ++ more) flat) ∙ ap not (front_more i (length boxes) more))
      (given_bind (Valued bytes (added found i s.0) more) goal (item_at bytes ifs deeper names boxes found ts) (λ x. repeated (is_more bytes) (item_at bytes ifs deeper names boxes) k x.0 x.1)
      (reads.0 ifs deeper names boxes found s.0 ts more known deep nest.0 parts.0 s.1 (each_left (LetKnown names letters) (minus_in_item i) (minus_in_items is) lets) flat) (λ x a.
      let label : all_numbered is x.0.1 ≡ Some m = ap (λ (y : Items). all_numbered is y.1) a.0 ∙ s.2 in
      let again = each_read is reads.1 ifs deeper names boxes k x.0 m x.1 rest known deep nest.1 (omega arith) parts.1 label (each_right (LetKnown names letters) (minus_in_item i) (minus_in_items is) lets) a.1 in
      let whole : x.0.0 ++ is ≡ found.0 ++ i ∷ is = ap (λ (y : Items). y.0 ++ is) a.0 ∙ append_assoc found.0 (i ∷ []) is in
      (again.0, again.1, (again.2.0 ∙ ap (λ (zs : List Item). items_and zs m) whole, again.2.1))))

  items_read : (items : List Item) → Each ItemRead items → (ifs deeper : ℕ) (names : Names) (boxes : List Range) (found : Items) (m : ℕ) (ts : List Token) (rest : List Symbol)
      → Known names arrays letters (length boxes) → length boxes + deeper ≡ 6 → all_conditions_fit items ifs ≡ true → length items ≤ 17 → items_fit arrays items boxes ≡ true → all_numbered items found.1 ≡ Some m
      → lets_known names letters (minus_in_items items) → Sees bytes ts (items_symbols arrays letters items (length boxes) ++ (Mark signs.RightBrace ∷ rest))
      → Given (Valued bytes (found.0 ++ items, m) rest) (items_at bytes (item_at bytes ifs deeper names boxes) found ts)
  unfolding items_at
  items_read items reads ifs deeper names boxes found m ts rest known deep conds l fits h lets sees =
      let goal = Valued bytes (found.0 ++ items, m) rest in
      given_bind (Valued bytes (found.0 ++ items, m) (Mark signs.RightBrace ∷ rest)) goal (repeated (is_more bytes) (item_at bytes ifs deeper names boxes) 17 found ts) (λ x. sign_at bytes P1 signs.RightBrace x.1 >>= λ us. Ok (x.0, us))
      (each_read items reads ifs deeper names boxes 17 found m ts rest known deep conds l fits h lets sees) (λ x a.
      given_bind (Passed bytes rest) goal (sign_at bytes P1 signs.RightBrace x.1) (λ us. Ok (x.0, us)) (sign_given bytes P1 signs.RightBrace x.1 rest a.1) (λ us b.
      given_ok goal (x.0, us) (a.0, b)))

  body_read : (items : List Item) → Each ItemRead items → (ifs deeper : ℕ) (names : Names) (boxes : List Range) (label m : ℕ) (ts : List Token) (rest : List Symbol)
      → Known names arrays letters (length boxes) → length boxes + deeper ≡ 6 → all_conditions_fit items ifs ≡ true → 0 < length items → length items ≤ 17 → items_fit arrays items boxes ≡ true → all_numbered items label ≡ Some m
      → lets_known names letters (minus_in_items items) → Sees bytes ts (Mark signs.LeftBrace ∷ (items_symbols arrays letters items (length boxes) ++ (Mark signs.RightBrace ∷ rest)))
      → Given (Valued bytes (items, m) rest) (body_at bytes (item_at bytes ifs deeper names boxes) label ts)
  unfolding body_at
  body_read [] reads ifs deeper names boxes label m ts rest known deep conds some l fits h lets sees = absurd (omega arith)
  body_read (i ∷ is) reads ifs deeper names boxes label m ts rest known deep conds some l fits h lets sees =
      let parts = and_parts (item_fits arrays i boxes) (items_fit arrays is boxes) fits in
      let nest = and_parts (conditions_fit i ifs) (all_conditions_fit is ifs) conds in
      let s = after_some (numbered i label) (all_numbered is) m h in
      let more : List Symbol = items_symbols arrays letters is (length boxes) ++ (Mark signs.RightBrace ∷ rest) in
      let goal = Valued bytes (i ∷ is, m) rest in
      let none : Items = ([], label) in
      let inside = behind_front bytes ts (Mark signs.LeftBrace) (items_symbols arrays letters (i ∷ is) (length boxes) ++ (Mark signs.RightBrace ∷ rest)) sees in
      let flat : Sees bytes (drop 1 ts) (item_symbols arrays letters i (length boxes) ++ more) = inside ∙ append_assoc (item_symbols arrays letters i (length boxes)) (items_symbols arrays letters is (length boxes)) (Mark signs.RightBrace ∷ rest) in
      given_chosen goal (next_is bytes signs.LeftBrace ts) (λ _. item_at bytes ifs deeper names boxes none (drop 1 ts) >>= λ x. items_at bytes (item_at bytes ifs deeper names boxes) x.0 x.1) (λ _. item_at bytes ifs deeper names boxes none ts)
      (ap (is_sign signs.LeftBrace) (seen_front bytes ts (Mark signs.LeftBrace ∷ (items_symbols arrays letters (i ∷ is) (length boxes) ++ (Mark signs.RightBrace ∷ rest))) sees))
      (given_bind (Valued bytes (added none i s.0) more) goal (item_at bytes ifs deeper names boxes none (drop 1 ts)) (λ x. items_at bytes (item_at bytes ifs deeper names boxes) x.0 x.1)
      (reads.0 ifs deeper names boxes none s.0 (drop 1 ts) more known deep nest.0 parts.0 s.1 (each_left (LetKnown names letters) (minus_in_item i) (minus_in_items is) lets) flat) (λ x a.
      let next : all_numbered is x.0.1 ≡ Some m = ap (λ (y : Items). all_numbered is y.1) a.0 ∙ s.2 in
      let again = items_read is reads.1 ifs deeper names boxes x.0 m x.1 rest known deep nest.1 (omega arith) parts.1 next (each_right (LetKnown names letters) (minus_in_item i) (minus_in_items is) lets) a.1 in
      let whole : x.0.0 ++ is ≡ i ∷ is = ap (λ (y : Items). y.0 ++ is) a.0 in
      (again.0, again.1, (again.2.0 ∙ ap (λ (zs : List Item). items_and zs m) whole, again.2.1))))

  loop_read : (lows highs : List Form) (step : ℕ) (items : List Item) → Each ItemRead items → ItemRead (Loop lows highs step items)
  unfolding loop_at
  loop_read lows highs step items reads ifs deeper names boxes found m ts rest known deep conds fits h lets sees =
      let f = loop_fits arrays lows highs step items boxes fits in
      let d = length boxes in
      let l = ltb-true d 6 ((and_parts (nat_lt d deepest) _ f.head).0) in
      let some : deeper ≢ 0 = λ z. omega (arith, l, deep, z) in
      let name = iterator_name letters d in
      let box = box_of boxes lows highs in
      let inside : List Range = boxes ++ box ∷ [] in
      let within : Names = names ++ (name, Iterator d) ∷ [] in
      let long : length inside ≡ d + 1 = length-append boxes (box ∷ []) in
      let body : List Symbol = items_symbols arrays letters items (suc d) in
      let one_more : suc d ≡ length inside = omega (arith, long) in
      let tail : List Symbol = Mark signs.LeftBrace ∷ (body ++ (Mark signs.RightBrace ∷ rest)) in
      let flat : Sees bytes ts (Key words.For ∷ (head_symbols letters d lows highs step ++ tail)) =
      sees ∙ ap (λ g. g d ++ rest) (fold_loop (item_step arrays letters) lows highs step items)
      ∙ append_assoc ((Key words.For ∷ head_symbols letters d lows highs step) ++ (Mark signs.LeftBrace ∷ body)) (Mark signs.RightBrace ∷ []) rest
      ∙ append_assoc (Key words.For ∷ head_symbols letters d lows highs step) (Mark signs.LeftBrace ∷ body) (Mark signs.RightBrace ∷ rest) in
      let goal = Valued bytes (added found (Loop lows highs step items) m) rest in
      let head : Head = record { name = name; lows = lows; highs = highs; step = step; box = box } in
      let numbers : all_numbered items found.1 ≡ Some m = sym (ap (λ g. g found.1) (fold_loop numbered_step lows highs step items)) ∙ h in
      let nest : all_conditions_fit items ifs ≡ true = sym (ap (λ g. g ifs) (fold_loop conditions_step lows highs step items)) ∙ conds in
      let count = items_count arrays items inside found.1 m f.inner numbers in
      let few : length items ≤ 17 = omega (arith, count.0, (item_count arrays (Loop lows highs step items) boxes found.1 m fits h).1) in
      let sizes : lets_known names letters (minus_in_items items) = rw (fold_loop minus_item_step lows highs step items) at lets in
      let kept : lets_known within letters (minus_in_items items) = lets_kept names ((name, Iterator d) ∷ []) letters (minus_in_items items) sizes in
      let known_inside : Known within arrays letters (length inside) = rw long (known_deeper names arrays letters d known) in
      let deep_inside : length inside + (deeper - 1) ≡ 6 = omega (arith, long, deep, l) in
      let first = behind_front bytes ts (Key words.For) (head_symbols letters d lows highs step ++ tail) flat in
      let begins_loop : begins bytes words.For ts ≡ true = ap (is_keyword words.For) (seen_front bytes ts (Key words.For ∷ (head_symbols letters d lows highs step ++ tail)) flat) in
      let read = given_bind (Valued bytes head tail) goal (head_at bytes names boxes (place bytes ts) (drop 1 ts)) _
      (head_given bytes names letters d known.iterators (omega (arith, deep)) boxes (place bytes ts) lows highs step (drop 1 ts) tail refl (known.free d (omega arith)) f.head f.small first) (λ x a.
      let read : Given (Valued bytes (items, m) rest) (body_at bytes (item_at bytes ifs (deeper - 1) (names ++ (x.0.name, Iterator (length boxes)) ∷ []) (boxes ++ x.0.box ∷ [])) found.1 x.1) =
      rw a.0 (body_read items reads ifs (deeper - 1) within inside found.1 m x.1 rest known_inside deep_inside nest f.some few f.inner numbers kept (rw one_more at a.1)) in
      given_bind (Valued bytes (items, m) rest) goal (body_at bytes (item_at bytes ifs (deeper - 1) (names ++ (x.0.name, Iterator (length boxes)) ∷ []) (boxes ++ x.0.box ∷ [])) found.1 x.1) _ read (λ y b.
      given_ok goal ((found.0 ++ Loop x.0.lows x.0.highs x.0.step y.0.0 ∷ [], y.0.1), y.1) (whole_loop found x.0 head y.0 (items, m) a.0 b.0, b.1))) in
      (read.0, item_loop bytes ifs deeper names boxes found ts begins_loop some ∙ read.1, read.2)

  if_read : (row : Form) (items : List Item) → Each ItemRead items → ItemRead (If row items)
  unfolding cif_at
  if_read row items reads ifs deeper names boxes found m ts rest known deep conds fits h lets sees =
      let f = if_fits arrays row items boxes fits in
      let d = length boxes in
      let body : List Symbol = items_symbols arrays letters items d in
      let tail : List Symbol = Mark signs.LeftBrace ∷ (body ++ (Mark signs.RightBrace ∷ rest)) in
      let condition : List Symbol = condition_symbols letters row in
      let flat : Sees bytes ts (Name (codes "if") ∷ (condition ++ tail)) =
      sees ∙ ap (λ g. g d ++ rest) (fold_if (item_step arrays letters) row items)
      ∙ append_assoc ((Name (codes "if") ∷ condition) ++ (Mark signs.LeftBrace ∷ body)) (Mark signs.RightBrace ∷ []) rest
      ∙ append_assoc (Name (codes "if") ∷ condition) (Mark signs.LeftBrace ∷ body) (Mark signs.RightBrace ∷ rest) in
      let goal = Valued bytes (added found (If row items) m) rest in
      let nest = and_parts (nat_lt 0 ifs) (all_conditions_fit items (ifs - 1)) (sym (ap (λ g. g ifs) (fold_if conditions_step row items)) ∙ conds) in
      let l = ltb-true 0 ifs nest.0 in
      let some : ifs ≢ 0 = λ z. omega (arith, l, z) in
      let numbers : all_numbered items found.1 ≡ Some m = sym (ap (λ g. g found.1) (fold_if numbered_step row items)) ∙ h in
      let count = items_count arrays items boxes found.1 m f.inner numbers in
      let few : length items ≤ 17 = omega (arith, count.0, (item_count arrays (If row items) boxes found.1 m fits h).1) in
      let sizes : lets_known names letters (minus_in_items items) = rw (fold_if minus_item_step row items) at lets in
      let no_loop : begins bytes words.For ts ≡ false = ap (is_keyword words.For) (seen_front bytes ts (Name (codes "if") ∷ (condition ++ tail)) flat) in
      let begins_condition : begins_if bytes ts ≡ true = some_if bytes ts _ flat in
      let first = behind_front bytes ts (Name (codes "if")) (condition ++ tail) flat in
      let read = given_bind (Valued bytes row tail) goal (condition_at bytes names d (drop 1 ts)) _
      (condition_given bytes names letters d known.iterators (omega (arith, deep)) row (drop 1 ts) tail f.row_is first) (λ x a.
      given_bind (Valued bytes (items, m) rest) goal (body_at bytes (item_at bytes (ifs - 1) deeper names boxes) found.1 x.1) _
      (body_read items reads (ifs - 1) deeper names boxes found.1 m x.1 rest known deep nest.1 f.some few f.inner numbers sizes a.1) (λ y b.
      given_ok goal ((found.0 ++ If x.0 y.0.0 ∷ [], y.0.1), y.1) (whole_if found x.0 row y.0 (items, m) a.0 b.0, b.1))) in
      (read.0, item_if bytes ifs deeper names boxes found ts no_loop begins_condition some ∙ read.1, read.2)

  any_item_read : (items : List Item) → Each ItemRead items
  any_item_read = each_item ItemRead loop_read if_read leaf_read

  -- all items of a nest
  pub items_given : (items : List Item) (names : Names) (m : ℕ) (ts : List Token) (rest : List Symbol) → Known names arrays letters 0 → all_conditions_fit items most_conditions ≡ true → items_fit arrays items [] ≡ true → all_numbered items 0 ≡ Some m
      → lets_known names letters (minus_in_items items) → Sees bytes ts (items_symbols arrays letters items 0 ++ (Mark signs.RightBrace ∷ rest))
      → Given (Valued bytes (items, m) rest) (items_at bytes (item_at bytes most_conditions deepest names []) ([], 0) ts)
  items_given items names m ts rest known conds fits h lets sees =
      let count = items_count arrays items [] 0 m fits h in
      let most = count.1 (omega arith) in
      items_read items (any_item_read items) most_conditions deepest names [] ([], 0) m ts rest known refl conds (omega (arith, count.0, most)) fits h lets sees
