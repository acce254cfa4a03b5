-- The items of a body of a well formed nest take no more places than the nest has statements.
use Rattle.std.proofs.Common.{◌≡◌, refl, sym, ap, ◌∙◌, subst, ℕ, zero, suc, ◌+◌, ◌<◌, ◌≤◌, Bool, true, false, ◌&&◌, nat_eq, nat_lt, if◌then◌else◌, Option, Some, None, List, [], ◌∷◌, ◌++◌, length, map, get_or, take, arith, length-append}
use Rattle.std.specs.Bool.{IsTrue}
use Rattle.std.specs.Option.{is_some}
use Rattle.std.proofs.lemmas.Bool.{and_parts, ltb-true}
use Rattle.std.proofs.lemmas.List.{length-map}
use Rattle.ch_affine.specs.Form.{Form}
use Rattle.ch_affine.specs.declared.system.Range.{Range}
use Rattle.ch_nest.specs.declared.nest.ArrayDecl.{ArrayDecl}
use Rattle.ch_nest.specs.declared.nest.Body.{Body}
use Rattle.ch_nest.specs.declared.nest.Item.{Item}
use Rattle.ch_nest.specs.declared.nest.Item.TheOpen.{Item-F}
use Rattle.ch_nest.specs.declared.nest.Item.TheVariants.{Loop, If, Assign, rolls-Loop, rolls-If, rolls-Assign}
use Rattle.ch_nest.specs.declared.nest.Item.TheFolds.{fold-roll-Item}
use Rattle.ch_nest.specs.Limits.{most_statements}
use Rattle.ch_nest.specs.Shape.{Numbering, after, all_numbered, box_of, each_numbered, head_fits, is_small, item_fits, item_fits_step, items_fit, numbered, numbered_step, row_fits}
use Rattle.ch_nest.proofs.Fits.{if_fits_is, loop_fits_is}
use Rattle.ch_space.specs.Statements.{findings, findings_of}
use Rattle.ch_space.proofs.FindingCases.{findings_assign, findings_if, findings_loop}
use Rattle.ch_timed.specs.Members.{Each}
use Rattle.ch_timed.proofs.ItemCases.{by_items, each_item}

pub record After (o : Option ℕ) (next : Numbering) (m : ℕ) : Type 0 where
  pub j : ℕ
  pub first : o ≡ Some j
  pub rest : next j ≡ Some m

pub after_some : (o : Option ℕ) (next : Numbering) (m : ℕ) → after o next ≡ Some m → After o next m
after_some None next m e = absurd cc
after_some (Some j) next m e = record { j = j; first = refl; rest = e }

pub some_same : (k m : ℕ) → ◌≡◌ {A = Option ℕ} (Some k) (Some m) → k ≡ m
some_same k m e = cc

pub label_next : (a b : Bool) (k m : ℕ) → (if a && b then Some (k + 1) else None) ≡ Some m → (b ≡ true) × (k + 1 ≡ m)
label_next true true k m e = (refl, some_same (k + 1) m e)
label_next true false k m e = absurd cc
label_next false b k m e = absurd cc

pub numbered_loop : (lows highs : List Form) (step : ℕ) (items : List Item) (k : ℕ) → numbered (Loop lows highs step items) k ≡ all_numbered items k
numbered_loop lows highs step items k = ap (λ f. f k) (ap numbered (sym (rolls-Loop lows highs step items)) ∙ fold-roll-Item Numbering numbered_step _)

pub numbered_if : (row : Form) (items : List Item) (k : ℕ) → numbered (If row items) k ≡ all_numbered items k
numbered_if row items k = ap (λ f. f k) (ap numbered (sym (rolls-If row items)) ∙ fold-roll-Item Numbering numbered_step _)

pub numbered_assign : (label : ℕ) (body : Body) (k : ℕ) → numbered (Assign label body) k ≡ numbered_step (Item-F.Assign label body) k
numbered_assign label body k = ap (λ f. f k) (ap numbered (sym (rolls-Assign label body)) ∙ fold-roll-Item Numbering numbered_step _)

module _ (arrays : List ArrayDecl) where
  -- places, which are at least so many, are taken within the numbers from k to m
  pub record Takes (least k m places : ℕ) : Type 0 where
    pub some : least ≤ places
    pub within : k + places ≤ m
    pub most : m ≤ most_statements

  abbrev Short : Item → Type 0
  Short item = (boxes : List Range) (k m : ℕ) → IsTrue (item_fits arrays item boxes) → numbered item k ≡ Some m → k ≤ most_statements → Takes 1 k m (length (findings_of item))

  items_short : (items : List Item) → Each Short items → (boxes : List Range) (k m : ℕ) → IsTrue (items_fit arrays items boxes) → all_numbered items k ≡ Some m → k ≤ most_statements
      → Takes (length items) k m (length (findings items))
  items_short [] h boxes k m fit e l = let s = some_same k m e in record { some = omega arith; within = omega arith; most = omega arith }
  items_short (i ∷ is) h boxes k m fit e l =
      let p = and_parts (item_fits arrays i boxes) (items_fit arrays is boxes) fit in
      let a = after_some (numbered i k) (each_numbered (map numbered is)) m e in
      let here = h.0 boxes k a.j p.0 a.first l in
      let more = items_short is h.1 boxes a.j m p.1 a.rest here.most in
      let n = length-append (findings_of i) (findings is) in
      let x = here.some in
      let y = more.some in
      let z = here.within in
      let w = more.within in
      record { some = omega arith; within = omega arith; most = more.most }

  loop_short : (lows highs : List Form) (step : ℕ) (items : List Item) → Each Short items → Short (Loop lows highs step items)
  loop_short lows highs step items h boxes k m fit e l =
      let box : Range = box_of boxes lows highs in
      let g : IsTrue (item_fits_step arrays (Item-F.Loop lows highs step (map (item_fits arrays) items)) boxes) = subst (λ b. IsTrue b) (loop_fits_is arrays lows highs step items boxes) fit in
      let top = and_parts (head_fits (length boxes) lows highs step && nat_lt 0 (length (map (item_fits arrays) items))) (is_small box && items_fit arrays items (boxes ++ box ∷ [])) g in
      let some = ltb-true 0 (length (map (item_fits arrays) items)) (and_parts (head_fits (length boxes) lows highs step) (nat_lt 0 (length (map (item_fits arrays) items))) top.0).1 in
      let low = and_parts (is_small box) (items_fit arrays items (boxes ++ box ∷ [])) top.1 in
      let r = items_short items h (boxes ++ box ∷ []) k m low.1 (sym (numbered_loop lows highs step items k) ∙ e) l in
      let n = length-map items (item_fits arrays) in
      let one = ap length (findings_loop lows highs step items) in
      let x = r.some in
      let y = r.within in
      record { some = omega arith; within = omega arith; most = r.most }

  if_short : (row : Form) (items : List Item) → Each Short items → Short (If row items)
  if_short row items h boxes k m fit e l =
      let g : IsTrue (item_fits_step arrays (Item-F.If row (map (item_fits arrays) items)) boxes) = subst (λ b. IsTrue b) (if_fits_is arrays row items boxes) fit in
      let top = and_parts (row_fits (length boxes) row && nat_lt 0 (length (map (item_fits arrays) items))) (items_fit arrays items boxes) g in
      let some = ltb-true 0 (length (map (item_fits arrays) items)) (and_parts (row_fits (length boxes) row) (nat_lt 0 (length (map (item_fits arrays) items))) top.0).1 in
      let r = items_short items h boxes k m top.1 (sym (numbered_if row items k) ∙ e) l in
      let n = length-map items (item_fits arrays) in
      let many : length (findings_of (If row items)) ≡ length (findings items) = ap length (findings_if row items) ∙ length-map (findings items) _ in
      let x = r.some in
      let y = r.within in
      record { some = omega arith; within = omega arith; most = r.most }

  assign_short : (label : ℕ) (body : Body) → Short (Assign label body)
  assign_short label body boxes k m fit e l =
      let p = label_next (nat_eq label k) (nat_lt k most_statements) k m (sym (numbered_assign label body k) ∙ e) in
      let q = ltb-true k most_statements p.0 in
      let r = p.1 in
      let one = ap length (findings_assign label body) in
      record { some = omega arith; within = omega arith; most = omega arith }

  pub short_item : (item : Item) → Short item
  short_item = by_items Short loop_short if_short assign_short

  pub short_items : (items : List Item) (boxes : List Range) (k m : ℕ) → IsTrue (items_fit arrays items boxes) → all_numbered items k ≡ Some m → k ≤ most_statements
      → Takes (length items) k m (length (findings items))
  short_items items = items_short items (each_item Short loop_short if_short assign_short items)

  -- the k-th item with the numbers of its statements
  pub record NumberedAt (items : List Item) (k : ℕ) (d : Item) (from : ℕ) : Type 0 where
    pub here : ℕ
    pub next : ℕ
    pub numbered : numbered (get_or items k d) here ≡ Some next
    pub before : from + length (findings (take k items)) ≤ here
    pub most : here ≤ most_statements

  pub numbered_at : (items : List Item) (boxes : List Range) (k : ℕ) (d : Item) (from to : ℕ) → k < length items → IsTrue (items_fit arrays items boxes)
      → all_numbered items from ≡ Some to → from ≤ most_statements → NumberedAt items k d from
  numbered_at [] boxes k d from to l fit e few = absurd (omega arith)
  numbered_at (i ∷ is) boxes zero d from to l fit e few =
      let a = after_some (numbered i from) (each_numbered (map numbered is)) to e in
      record { here = from; next = a.j; numbered = a.first; before = omega arith; most = few }
  numbered_at (i ∷ is) boxes (suc k) d from to l fit e few =
      let p = and_parts (item_fits arrays i boxes) (items_fit arrays is boxes) fit in
      let a = after_some (numbered i from) (each_numbered (map numbered is)) to e in
      let first = short_item i boxes from a.j p.0 a.first few in
      let r = numbered_at is boxes k d a.j to (omega arith) p.1 a.rest first.most in
      let n = length-append (findings_of i) (findings (take k is)) in
      let x = first.within in
      let y = r.before in
      record { here = r.here; next = r.next; numbered = r.numbered; before = omega arith; most = r.most }

pub some_number : (o : Option ℕ) → IsTrue (is_some o) → (m : ℕ) × (o ≡ Some m)
some_number None h = absurd cc
some_number (Some m) h = (m, refl)
