-- An access that leaves its array has a number below that of all accesses of the text: so it has a place there.
use Rattle.std.proofs.Common.{◌≡◌, refl, sym, ap, ◌∙◌, subst, ℕ, zero, suc, ◌+◌, ◌<◌, ◌≤◌, ℤ, pos, Bool, true, false, ◌&&◌, if◌then◌else◌, nat_eq, nat_lt, Option, Some, None, List, [], ◌∷◌, ◌++◌, length, length-append, map, take, append-nil, arith}
use Rattle.std.specs.Bool.{IsTrue}
use Rattle.std.specs.List.{flat_map, slice_get, sum}
use Rattle.std.specs.Option.{is_some}
use Rattle.std.proofs.lemmas.Bool.{and_parts, eqb-true}
use Rattle.std.proofs.lemmas.List.Sums.{sum_by-cons}
use Rattle.ch_affine.specs.Form.{Form}
use Rattle.ch_nest.specs.Arrays.{extents_of}
use Rattle.ch_nest.specs.Limits.{most_statements, most_work}
use Rattle.ch_nest.specs.LoopNest.{LoopNest}
use Rattle.ch_nest.specs.Run.{is_met, values_at}
use Rattle.ch_nest.specs.Shape.{Numbering, after, all_numbered, each_numbered, is_nest, numbered}
use Rattle.ch_nest.specs.Sound.{access_inside, items_work}
use Rattle.ch_nest.specs.declared.nest.Access.{Access}
use Rattle.ch_nest.specs.declared.nest.Body.{Body}
use Rattle.ch_nest.specs.declared.nest.Item.{Item}
use Rattle.ch_nest.specs.declared.nest.Item.TheVariants.{Loop, If, Assign}
use Rattle.ch_nestparse.specs.TextOrder as text
use Rattle.ch_nestparse.specs.declared.program.ParsedProgram.{ParsedProgram}
use Rattle.ch_space.proofs.Bodies.{nest_numbered}
use Rattle.ch_space.proofs.Short.{numbered_assign, numbered_if, numbered_loop}
use Rattle.ch_space.proofs.Subscripted.{assign_bodies, if_bodies, loop_bodies}
use Rattle.ch_space.specs.Judged.{access_count, accesses_before, bodies, bodies_of, first_leaving, first_of, judgement, leaving, leaving_if, or_else, out_of_range, text_accesses}
use Rattle.ch_space.specs.declared.error.SpaceError.{SpaceError}
use Rattle.ch_space.specs.declared.error.SpaceError.TheVariants.{TooMany, OutOfRange}
use Rattle.ch_timed.specs.Conflict.{cell_of}
use Rattle.ch_timed.specs.Members.{Each}
use Rattle.ch_timed.specs.Start.{Listing, at_places, start, start_item, start_items}
use Rattle.ch_timed.specs.declared.element.Cell.{Cell}
use Rattle.ch_timed.specs.declared.element.Element.{Element}
use Rattle.ch_timed.specs.declared.element.Identity.{Identity}
use Rattle.ch_timed.specs.declared.element.Label.TheVariants.{Stmt}
use Rattle.ch_timed.proofs.Blocks.{each_both}
use Rattle.ch_timed.proofs.ItemCases.{each_item}
use Rattle.ch_timed.proofs.Listings.{each_flat, places_append, places_met}
use Rattle.ch_timed.proofs.Orders.{each_more}
use Rattle.ch_timed.proofs.Rolls.{start_assign, start_if, start_loop}
use Rattle.ch_deck.specs.Kept.{IsRead}
use Rattle.ch_deck.proofs.TextOrders.{text_order}

-- lists

get_left : {X : Type 0} (xs ys : List X) (i : ℕ) (x : X) → slice_get xs i ≡ Some x → slice_get (xs ++ ys) i ≡ Some x
get_left [] ys i x h = absurd cc
get_left (z ∷ zs) ys zero x h = h
get_left (z ∷ zs) ys (suc i) x h = get_left zs ys i x h

get_right : {X : Type 0} (xs ys : List X) (i j : ℕ) (x : X) → j ≡ length xs + i → slice_get ys i ≡ Some x → slice_get (xs ++ ys) j ≡ Some x
get_right [] ys i j x e h = let s : i ≡ j = omega (arith, e) in subst (λ k. slice_get ys k ≡ Some x) s h
get_right (z ∷ zs) ys i zero x e h = absurd (omega (arith, e))
get_right (z ∷ zs) ys i (suc j) x e h = get_right zs ys i j x (omega (arith, e)) h

-- the statement of an element: its label counts on from k, and its body is the one of that number

record Stands (k : ℕ) (bs : List Body) (e : Element) : Type 0 where
  index : ℕ
  label : e.identity.label ≡ Stmt (k + index)
  there : slice_get bs index ≡ Some e.body

after_parts : (o : Option ℕ) (next : Numbering) (m : ℕ) → after o next ≡ Some m → (j : ℕ) × ((o ≡ Some j) × (next j ≡ Some m))
after_parts None next m h = absurd cc
after_parts (Some j) next m h = (j, (refl, h))

leaf_number : (t : Bool) (k m : ℕ) → (if t then Some (k + 1) else None) ≡ Some m → (t ≡ true) × (m ≡ k + 1)
leaf_number true k m h = (refl, cc)
leaf_number false k m h = absurd cc

leaf_is : (label : ℕ) (body : Body) (k m : ℕ) → numbered (Assign label body) k ≡ Some m → (label ≡ k) × (m ≡ k + 1)
leaf_is label body k m h =
    let q = leaf_number (nat_eq label k && nat_lt k most_statements) k m (sym (numbered_assign label body k) ∙ h) in
    (eqb-true label k (and_parts _ _ q.0).0, q.1)

abbrev Places : ℕ → List Body → List Listing → Type 0
Places k bs fs = (p : ℕ) (iters vector : List ℤ) → Each (Stands k bs) (at_places p fs iters vector)

-- the labels of an item's statements count on from k to m, and its elements are theirs
abbrev AllStand : Item → Type 0
AllStand item = (k m : ℕ) → numbered item k ≡ Some m → (m ≡ k + length (bodies_of item)) × Places k (bodies_of item) (start_item item)

items_stand : (items : List Item) → Each AllStand items → (k m : ℕ) → each_numbered (map numbered items) k ≡ Some m → (m ≡ k + length (bodies items)) × Places k (bodies items) (start_items items)
items_stand [] h k m e = (let f : k ≡ m = cc in omega (arith, f), λ p iters vector. tt)
items_stand (i ∷ is) h k m e =
    let q = after_parts (numbered i k) (each_numbered (map numbered is)) m e in
    let a = h.0 k q.0 q.1.0 in
    let b = items_stand is h.1 q.0 m q.1.1 in
    let l = length-append (bodies_of i) (bodies is) in
    let here = a.0 in
    let rest = b.0 in (
      omega (arith, here, rest, l),
      λ p iters vector.
          subst (Each (Stands k (bodies_of i ++ bodies is))) (sym (places_append p (start_item i) (start_items is) iters vector))
          (each_both (Stands k (bodies_of i ++ bodies is)) (at_places p (start_item i) iters vector) (at_places (p + length (start_item i)) (start_items is) iters vector)
          (each_more (Stands k (bodies_of i)) (Stands k (bodies_of i ++ bodies is)) _ (λ e s. record { index = s.index; label = s.label; there = get_left (bodies_of i) (bodies is) s.index e.body s.there }) (a.1 p iters vector))
          (each_more (Stands q.0 (bodies is)) (Stands k (bodies_of i ++ bodies is)) _ (λ e s. record {
            index = length (bodies_of i) + s.index;
            label = s.label ∙ ap Stmt (omega (arith, here));
            there = get_right (bodies_of i) (bodies is) s.index (length (bodies_of i) + s.index) e.body refl s.there;
          }) (b.1 (p + length (start_item i)) iters vector))),
    )

loop_stands : (lows highs : List Form) (step : ℕ) (items : List Item) → Each AllStand items → AllStand (Loop lows highs step items)
loop_stands lows highs step items h k m e =
    let b = items_stand items h k m (sym (numbered_loop lows highs step items k) ∙ e) in (
      b.0 ∙ ap (λ bs. k + length bs) (sym (loop_bodies lows highs step items)),
      λ p iters vector.
          subst (λ bs. Each (Stands k bs) (at_places p (start_item (Loop lows highs step items)) iters vector)) (sym (loop_bodies lows highs step items))
          (subst (λ fs. Each (Stands k (bodies items)) (at_places p fs iters vector)) (sym (start_loop lows highs step items))
          (subst (Each (Stands k (bodies items))) (sym (append-nil _))
          (each_flat (Stands k (bodies items)) (λ i. at_places 0 (start_items items) (iters ++ i ∷ []) ((vector ++ pos p ∷ []) ++ i ∷ [])) (values_at lows highs step iters)
          (λ x. b.1 0 (iters ++ x ∷ []) ((vector ++ pos p ∷ []) ++ x ∷ []))))),
    )

if_stands : (row : Form) (items : List Item) → Each AllStand items → AllStand (If row items)
if_stands row items h k m e =
    let b = items_stand items h k m (sym (numbered_if row items k) ∙ e) in (
      b.0 ∙ ap (λ bs. k + length bs) (sym (if_bodies row items)),
      λ p iters vector.
          subst (λ bs. Each (Stands k bs) (at_places p (start_item (If row items)) iters vector)) (sym (if_bodies row items))
          (subst (λ fs. Each (Stands k (bodies items)) (at_places p fs iters vector)) (sym (start_if row items))
          (subst (Each (Stands k (bodies items))) (sym (places_met row p (start_items items) iters vector)) (by p iters vector (is_met row iters) (b.1 p iters vector)))),
    )
  where
    by : (p : ℕ) (iters vector : List ℤ) (met : Bool) → Each (Stands k (bodies items)) (at_places p (start_items items) iters vector)
        → Each (Stands k (bodies items)) (if met then at_places p (start_items items) iters vector else [])
    by p iters vector true d = d
    by p iters vector false d = tt

leaf_stands : (label : ℕ) (body : Body) → AllStand (Assign label body)
leaf_stands label body k m e =
    let q = leaf_is label body k m e in
    let here : label ≡ k = q.0 in (
      q.1 ∙ ap (λ bs. k + length bs) (sym (assign_bodies label body)),
      λ p iters vector.
          subst (λ bs. Each (Stands k bs) (at_places p (start_item (Assign label body)) iters vector)) (sym (assign_bodies label body))
          (subst (λ fs. Each (Stands k (body ∷ [])) (at_places p fs iters vector)) (sym (start_assign label body))
          (record { index = 0; label = ap Stmt (omega (arith, here)); there = refl }, tt)),
    )

all_stand : (items : List Item) (m : ℕ) → all_numbered items 0 ≡ Some m → Places 0 (bodies items) (start_items items)
all_stand items m e = (items_stand items (each_item AllStand loop_stands if_stands leaf_stands items) 0 m e).1

some_is : (o : Option ℕ) → is_some o ≡ true → (m : ℕ) × (o ≡ Some m)
some_is (Some m) h = (m, refl)
some_is None h = absurd cc

nest_stands : (nest : LoopNest) → IsTrue (is_nest nest) → Each (Stands 0 (bodies nest.items)) (start nest)
nest_stands nest h = let n = some_is (all_numbered nest.items 0) (nest_numbered nest h) in all_stand nest.items n.0 n.1 0 [] []

-- counts of accesses

record IsFound (P : Element → Type 0) (f : Element → Option SpaceError) (r : SpaceError) : Type 0 where
  element : Element
  fact : P element
  gives : f element ≡ Some r

found_first : (P : Element → Type 0) (f : Element → Option SpaceError) (es : List Element) (r : SpaceError) → Each P es → first_of f es ≡ Some r → IsFound P f r
found_first P f [] r h e = absurd cc
found_first P f (x ∷ xs) r h e = by (f x) refl e (found_first P f xs r h.1)
  where
    by : (o : Option SpaceError) → f x ≡ o → or_else o (first_of f xs) ≡ Some r → (first_of f xs ≡ Some r → IsFound P f r) → IsFound P f r
    by (Some s) g d more = record { element = x; fact = h.0; gives = g ∙ d }
    by None g d more = more d

leaving_below : (extents : List (List ℕ)) (iters : List ℤ) (i first : Identity) (access : ℕ) (cell : Cell) (k : ℕ) (accesses : List Access)
    → out_of_range i (first_leaving extents iters k accesses) ≡ Some (OutOfRange first access cell) → access < k + length accesses
leaving_below extents iters i first access cell k [] h = absurd cc
leaving_below extents iters i first access cell k (a ∷ more) h = by (access_inside extents iters a) h (leaving_below extents iters i first access cell (suc k) more)
  where
    by : (b : Bool) → out_of_range i (leaving_if b k (cell_of iters a) (first_leaving extents iters (suc k) more)) ≡ Some (OutOfRange first access cell)
        → (out_of_range i (first_leaving extents iters (suc k) more) ≡ Some (OutOfRange first access cell) → access < suc k + length more) → access < k + suc (length more)
    by true e rest = let r = rest e in omega (arith, r)
    by false e rest = let s : k ≡ access = cc in omega (arith, s)

before_and_own : (bs : List Body) (n : ℕ) (b : Body) → slice_get bs n ≡ Some b → sum (take n (map access_count bs)) + access_count b ≤ sum (map access_count bs)
before_and_own [] n b h = absurd cc
before_and_own (x ∷ xs) zero b h =
    let s : access_count x ≡ access_count b = ap count h in
    let none : sum (take 0 (map access_count (x ∷ xs))) ≡ 0 = refl in
    let all : sum (map access_count (x ∷ xs)) ≡ access_count x + sum (map access_count xs) = sum_by-cons (λ k. k) (access_count x) (map access_count xs) in
    omega (arith, s, none, all)
  where
    count : Option Body → ℕ
    count (Some y) = access_count y
    count None = 0
before_and_own (x ∷ xs) (suc n) b h =
    let r = before_and_own xs n b h in
    let front : sum (take (suc n) (map access_count (x ∷ xs))) ≡ access_count x + sum (take n (map access_count xs)) = sum_by-cons (λ k. k) (access_count x) (take n (map access_count xs)) in
    let all : sum (map access_count (x ∷ xs)) ≡ access_count x + sum (map access_count xs) = sum_by-cons (λ k. k) (access_count x) (map access_count xs) in
    omega (arith, r, front, all)

sum_is : (bs : List Body) → sum (map access_count bs) ≡ length (flat_map text_accesses bs)
sum_is [] = refl
sum_is (b ∷ bs) =
    let h = sum_is bs in
    let l = length-append (text_accesses b) (flat_map text_accesses bs) in
    let all : sum (map access_count (b ∷ bs)) ≡ access_count b + sum (map access_count bs) = sum_by-cons (λ k. k) (access_count b) (map access_count bs) in
    omega (arith, h, l, all)

judged_below : (nest : LoopNest) (first : Identity) (access : ℕ) (cell : Cell) → IsTrue (is_nest nest) → judgement nest ≡ Some (OutOfRange first access cell)
    → access < length (text.text_accesses nest.items)
judged_below nest first access cell known h = by (nat_lt most_work (items_work nest.items [])) h
  where
    at_element : IsFound (Stands 0 (bodies nest.items)) (leaving nest) (OutOfRange first access cell) → access < length (text.text_accesses nest.items)
    at_element f =
        let s = f.fact in
        let e = f.element in
        let below = leaving_below (extents_of nest.arrays) e.identity.iters e.identity first access cell (accesses_before nest.items e.identity.label) (text_accesses e.body) f.gives in
        let number : 0 + s.index ≡ s.index = omega arith in
        let before : accesses_before nest.items e.identity.label ≡ sum (take s.index (map access_count (bodies nest.items))) = ap (accesses_before nest.items) (s.label ∙ ap Stmt number) in
        let all = before_and_own (bodies nest.items) s.index e.body s.there in
        let total = sum_is (bodies nest.items) in
        let order = ap length (text_order nest.items) in
        omega (arith, below, before, all, total, order)

    by : (many : Bool) → (if many then Some TooMany else first_of (leaving nest) (start nest)) ≡ Some (OutOfRange first access cell) → access < length (text.text_accesses nest.items)
    by true e = absurd cc
    by false e = at_element (found_first (Stands 0 (bodies nest.items)) (leaving nest) (start nest) (OutOfRange first access cell) (nest_stands nest known) e)

-- the access that a judgement names is one of the text
pub access_there : (p : ParsedProgram) (first : Identity) (access : ℕ) (cell : Cell) → IsTrue (is_nest p.nest) → IsRead p → judgement p.nest ≡ Some (OutOfRange first access cell)
    → access < length p.accesses
access_there p first access cell known read h =
    let below = judged_below p.nest first access cell known h in
    let same = read.accesses in
    omega (arith, below, same)
