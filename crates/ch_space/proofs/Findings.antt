-- The elements of a nest are those of its statements.
use Rattle.std.proofs.Common.{◌≡◌, refl, sym, ap, ap₂, ◌∙◌, subst, ℕ, suc, ◌+◌, ℤ, pos, Bool, true, false, if◌then◌else◌, List, [], ◌∷◌, ◌++◌, length, map, inl, inr, arith, append-nil, length-append}
use Rattle.std.specs.List.{flat_map}
use Rattle.std.proofs.lemmas.List.{length-map, map-append}
use Rattle.ch_affine.specs.Form.{Form}
use Rattle.ch_nest.specs.declared.nest.Body.{Body}
use Rattle.ch_nest.specs.declared.nest.Item.{Item}
use Rattle.ch_nest.specs.declared.nest.Item.TheVariants.{Loop, If, Assign}
use Rattle.ch_nest.specs.LoopNest.{LoopNest}
use Rattle.ch_nest.specs.Run.{is_met, values_at}
use Rattle.ch_space.specs.declared.level.Around.{Around}
use Rattle.ch_space.specs.declared.level.Around.TheVariants.{Inside, Where}
use Rattle.ch_space.specs.declared.level.Level.{Level}
use Rattle.ch_space.specs.Statements.{Statement, at_numbers, findings, findings_of, loops, statements}
use Rattle.ch_space.proofs.FindingCases.{findings_assign, findings_if, findings_loop, numbers_append, numbers_met}
use Rattle.ch_space.proofs.Membership.{in_append, append_left, append_right, in_flat, flat_in}
use Rattle.ch_space.proofs.Turnings.{Between, pushed, push, met_last, met_push, length_between, loops_inside, loops_where}
use Rattle.ch_timed.specs.Members.{Each, In}
use Rattle.ch_timed.specs.declared.element.Element.{Element}
use Rattle.ch_timed.specs.declared.element.Label.TheVariants.{Stmt}
use Rattle.ch_timed.specs.Start.{at_places, start_item, start_items, start}
use Rattle.ch_timed.specs.Vectors.{woven}
use Rattle.ch_timed.proofs.ItemCases.{by_items, each_item}
use Rattle.ch_timed.proofs.Listings.{places_append, places_met}
use Rattle.ch_timed.proofs.Rolls.{start_assign, start_if, start_loop}

-- the element of a statement at these values of its loops
abbrev pub element_of : Statement → List ℤ → Element
element_of s xs = record { identity = record { label = Stmt s.label; iters = xs }; vector = woven (map pos s.places) xs; body = s.body }

-- a statement that has the element at some values of its loops
pub record Has (ss : List Statement) (e : Element) : Type 0 where
  pub s : Statement
  pub there : In s ss
  pub xs : List ℤ
  pub inside : Between [] s.around xs
  pub is : element_of s xs ≡ e

-- what stands at values of the loops around, which the statement's values begin with
pub record Begun (around : List Around) (listing : List ℤ → List Element) (e : Element) : Type 0 where
  pub iters : List ℤ
  pub inside : Between [] around iters
  pub there : In e (listing iters)

-- a vector that a further place is put behind
abbrev Leads : List ℤ → List ℕ → List ℤ → Type 0
Leads vector places iters = (k : ℕ) → vector ++ pos k ∷ [] ≡ woven (map pos (places ++ k ∷ [])) iters

leads_on : (ps xs : List ℤ) (x p : ℤ) → length ps ≡ length xs + 1 → (woven ps xs ++ x ∷ []) ++ p ∷ [] ≡ woven (ps ++ p ∷ []) (xs ++ x ∷ [])
leads_on [] xs x p e = absurd (omega arith)
leads_on (q ∷ []) [] x p e = refl
leads_on (q ∷ r ∷ ps) [] x p e = absurd (omega arith)
leads_on (q ∷ ps) (y ∷ xs) x p e = ap (λ t. q ∷ y ∷ t) (leads_on ps xs x p (omega arith))

length_pos : (ps : List ℕ) → length (map pos ps) ≡ length ps
length_pos [] = refl
length_pos (p ∷ ps) = ap suc (length_pos ps)

leads_loop : (places : List ℕ) (iters : List ℤ) (x : ℤ) → length places ≡ length iters + 1 → Leads (woven (map pos places) iters ++ x ∷ []) places (iters ++ x ∷ [])
leads_loop places iters x e k =
    leads_on (map pos places) iters x (pos k) (length_pos places ∙ e) ∙ ap (λ ps. woven ps (iters ++ x ∷ [])) (sym (map-append pos places (k ∷ [])))

woven_last : (ps xs : List ℤ) (x : ℤ) → length ps ≡ length xs + 1 → woven ps (xs ++ x ∷ []) ≡ woven ps xs ++ x ∷ []
woven_last [] xs x e = absurd (omega arith)
woven_last (q ∷ []) [] x e = refl
woven_last (q ∷ r ∷ ps) [] x e = absurd (omega arith)
woven_last (q ∷ ps) (y ∷ xs) x e = ap (λ t. q ∷ y ∷ t) (woven_last ps xs x (omega arith))

place_last : (ps xs : List ℤ) (p : ℤ) → length ps ≡ length xs → woven ps xs ++ p ∷ [] ≡ woven (ps ++ p ∷ []) xs
place_last [] [] p e = refl
place_last [] (x ∷ xs) p e = absurd (omega arith)
place_last (q ∷ ps) [] p e = absurd (omega arith)
place_last (q ∷ ps) (x ∷ xs) p e = ap (λ t. q ∷ x ∷ t) (place_last ps xs p (omega arith))

leads : (places : List ℕ) (iters : List ℤ) → length places ≡ length iters → Leads (woven (map pos places) iters) places iters
leads places iters e k =
    place_last (map pos places) iters (pos k) (length_pos places ∙ e) ∙ ap (λ ps. woven ps iters) (sym (map-append pos places (k ∷ [])))

-- an item takes as many places in both

abbrev AsMany : Item → Type 0
AsMany item = length (start_item item) ≡ length (findings_of item)

all_as_many : (items : List Item) → Each AsMany items → length (start_items items) ≡ length (findings items)
all_as_many [] h = refl
all_as_many (i ∷ is) h =
    length-append (start_item i) (start_items is) ∙ ap₂ (λ a b. a + b) h.0 (all_as_many is h.1) ∙ sym (length-append (findings_of i) (findings is))

as_many : (item : Item) → AsMany item
as_many = by_items AsMany
    (λ lows highs step items h. ap length (start_loop lows highs step items) ∙ sym (ap length (findings_loop lows highs step items)))
    (λ row items h. ap length (start_if row items) ∙ length-map (start_items items) _ ∙ all_as_many items h ∙ sym (ap length (findings_if row items) ∙ length-map (findings items) _))
    (λ label body. ap length (start_assign label body) ∙ sym (ap length (findings_assign label body)))

-- each element of the list is one of a statement

abbrev Forth : Item → Type 0
Forth item = (k : ℕ) (around : List Around) (places : List ℕ) (iters vector : List ℤ) → Leads vector places iters → Between [] around iters → length places ≡ length iters
    → (e : Element) → In e (at_places k (start_item item) iters vector) → Has (at_numbers k (findings_of item) around places) e

has_left : (ss ts : List Statement) (e : Element) → Has ss e → Has (ss ++ ts) e
has_left ss ts e h = record { s = h.s; there = append_left ss ts h.s h.there; xs = h.xs; inside = h.inside; is = h.is }

has_right : (ss ts : List Statement) (e : Element) → Has ts e → Has (ss ++ ts) e
has_right ss ts e h = record { s = h.s; there = append_right ss ts h.s h.there; xs = h.xs; inside = h.inside; is = h.is }

items_forth : (items : List Item) → Each Forth items → (k : ℕ) (around : List Around) (places : List ℕ) (iters vector : List ℤ) → Leads vector places iters
    → Between [] around iters → length places ≡ length iters
    → (e : Element) → In e (at_places k (start_items items) iters vector) → Has (at_numbers k (findings items) around places) e
items_forth [] h k around places iters vector lead b same e i = absurd i
items_forth (item ∷ items) h k around places iters vector lead b same e i =
    let front = at_places k (start_item item) iters vector in
    let back = at_places (k + length (start_item item)) (start_items items) iters vector in
    let here = at_numbers k (findings_of item) around places in
    let later = at_numbers (k + length (findings_of item)) (findings items) around places in
    let j : In e (front ++ back) = subst (In e) (places_append k (start_item item) (start_items items) iters vector) i in
    subst (λ ss. Has ss e) (sym (numbers_append k (findings_of item) (findings items) around places))
    (elim (in_append front back e j) as (λ _. Has (here ++ later) e) [
      | inl f ↦ has_left here later e (h.0 k around places iters vector lead b same e f)
      | inr r ↦ has_right here later e (items_forth items h.1 (k + length (findings_of item)) around places iters vector lead b same e
          (subst (λ n. In e (at_places (k + n) (start_items items) iters vector)) (as_many item) r))
    ])

loop_forth : (lows highs : List Form) (step : ℕ) (items : List Item) → Each Forth items → Forth (Loop lows highs step items)
loop_forth lows highs step items h k around places iters vector lead b same e i =
    let v : List ℤ = vector ++ pos k ∷ [] in
    let g : ℤ → List Element = λ x. at_places 0 (start_items items) (iters ++ x ∷ []) (v ++ x ∷ []) in
    let l : Level = record { lows = lows; highs = highs; step = step } in
    let j : In e (flat_map g (values_at lows highs step iters)) =
    subst (In e) (append-nil (flat_map g (values_at lows highs step iters))) (subst (λ fs. In e (at_places k fs iters vector)) (start_loop lows highs step items) i) in
    let t = in_flat g (values_at lows highs step iters) e j in
    let x : ℤ = t.0 in
    let n : length (places ++ k ∷ []) ≡ length iters + 1 = length-append places (k ∷ []) ∙ ap (λ m. m + 1) same in
    let lead' : Leads (v ++ x ∷ []) (places ++ k ∷ []) (iters ++ x ∷ []) =
    subst (λ w. Leads (w ++ x ∷ []) (places ++ k ∷ []) (iters ++ x ∷ [])) (sym (lead k)) (leads_loop (places ++ k ∷ []) iters x n) in
    let r = items_forth items h 0 (around ++ Inside l ∷ []) (places ++ k ∷ []) (iters ++ x ∷ []) (v ++ x ∷ []) lead' (push [] around l iters x b t.1.0)
    (n ∙ sym (length-append iters (x ∷ []))) e t.1.1 in
    subst (λ fs. Has (at_numbers k fs around places) e) (sym (findings_loop lows highs step items))
    (has_left (at_numbers 0 (findings items) (around ++ Inside l ∷ []) (places ++ k ∷ [])) [] e r)

in_met : (b : Bool) (xs : List Element) (e : Element) → In e (if b then xs else []) → (b ≡ true) × In e xs
in_met true xs e i = (refl, i)
in_met false xs e i = absurd i

met_in : (b : Bool) (xs : List Element) (e : Element) → b ≡ true → In e xs → In e (if b then xs else [])
met_in true xs e m i = i
met_in false xs e m i = absurd cc

if_forth : (row : Form) (items : List Item) → Each Forth items → Forth (If row items)
if_forth row items h k around places iters vector lead b same e i =
    let j = in_met (is_met row iters) (at_places k (start_items items) iters vector) e
    (subst (In e) (places_met row k (start_items items) iters vector) (subst (λ fs. In e (at_places k fs iters vector)) (start_if row items) i)) in
    subst (λ fs. Has (at_numbers k fs around places) e) (sym (findings_if row items))
    (subst (λ ss. Has ss e) (sym (numbers_met row k (findings items) around places))
    (items_forth items h k (around ++ Where row ∷ []) places iters vector lead (met_push [] around row iters b j.0) same e j.1))

assign_forth : (label : ℕ) (body : Body) → Forth (Assign label body)
assign_forth label body k around places iters vector lead b same e i =
    subst (λ fs. Has (at_numbers k fs around places) e) (sym (findings_assign label body))
    (by (subst (λ fs. In e (at_places k fs iters vector)) (start_assign label body) i))
  where
    by : In e (record { identity = record { label = Stmt label; iters = iters }; vector = vector ++ pos k ∷ []; body = body } ∷ [])
        → Has (record { label = label; body = body; around = around; places = places ++ k ∷ [] } ∷ []) e
    by (inl is) = record {
      s = record { label = label; body = body; around = around; places = places ++ k ∷ [] };
      there = inl refl;
      xs = iters;
      inside = b;
      is = ap (λ v. record { identity = record { label = Stmt label; iters = iters }; vector = v; body = body }) (sym (lead k)) ∙ is;
    }
    by (inr j) = absurd j

pub start_found : (nest : LoopNest) (e : Element) → In e (start nest) → Has (statements nest.items) e
start_found nest e i = items_forth nest.items (each_item Forth loop_forth if_forth assign_forth nest.items) 0 [] [] [] [] (leads [] [] refl) tt refl e i

-- and the other way round

abbrev Leading : (List ℤ → List ℤ) → List Around → List ℕ → Type 0
Leading vector around places = (iters : List ℤ) → length iters ≡ loops around → Leads (vector iters) places iters

abbrev Back : Item → Type 0
Back item = (k : ℕ) (around : List Around) (places : List ℕ) (vector : List ℤ → List ℤ) → Leading vector around places → length places ≡ loops around
    → (s : Statement) → In s (at_numbers k (findings_of item) around places) → (xs : List ℤ) → Between [] s.around xs
    → Begun around (λ iters. at_places k (start_item item) iters (vector iters)) (element_of s xs)

items_back : (items : List Item) → Each Back items → (k : ℕ) (around : List Around) (places : List ℕ) (vector : List ℤ → List ℤ) → Leading vector around places → length places ≡ loops around
    → (s : Statement) → In s (at_numbers k (findings items) around places) → (xs : List ℤ) → Between [] s.around xs
    → Begun around (λ iters. at_places k (start_items items) iters (vector iters)) (element_of s xs)
items_back [] h k around places vector lead same s i xs b = absurd i
items_back (item ∷ items) h k around places vector lead same s i xs b =
    let here = at_numbers k (findings_of item) around places in
    let later = at_numbers (k + length (findings_of item)) (findings items) around places in
    let j : In s (here ++ later) = subst (In s) (numbers_append k (findings_of item) (findings items) around places) i in
    elim (in_append here later s j) as (λ _. Begun around (λ iters. at_places k (start_items (item ∷ items)) iters (vector iters)) (element_of s xs)) [
      | inl f ↦
          let r = h.0 k around places vector lead same s f xs b in
          record {
            iters = r.iters;
            inside = r.inside;
            there = subst (In (element_of s xs)) (sym (places_append k (start_item item) (start_items items) r.iters (vector r.iters)))
                (append_left (at_places k (start_item item) r.iters (vector r.iters)) (at_places (k + length (start_item item)) (start_items items) r.iters (vector r.iters)) (element_of s xs) r.there);
          }
      | inr f ↦
          let r = items_back items h.1 (k + length (findings_of item)) around places vector lead same s f xs b in
          record {
            iters = r.iters;
            inside = r.inside;
            there = subst (In (element_of s xs)) (sym (places_append k (start_item item) (start_items items) r.iters (vector r.iters)))
                (append_right (at_places k (start_item item) r.iters (vector r.iters)) (at_places (k + length (start_item item)) (start_items items) r.iters (vector r.iters)) (element_of s xs)
                (subst (λ n. In (element_of s xs) (at_places (k + n) (start_items items) r.iters (vector r.iters))) (sym (as_many item)) r.there));
          }
    ]

loop_back : (lows highs : List Form) (step : ℕ) (items : List Item) → Each Back items → Back (Loop lows highs step items)
loop_back lows highs step items h k around places vector lead same s i xs b =
    let l : Level = record { lows = lows; highs = highs; step = step } in
    let inner : List ℕ = places ++ k ∷ [] in
    let found = at_numbers 0 (findings items) (around ++ Inside l ∷ []) inner in
    let j : In s found = subst (In s) (append-nil found) (subst (λ fs. In s (at_numbers k fs around places)) (findings_loop lows highs step items) i) in
    let n : length inner ≡ loops (around ++ Inside l ∷ []) = length-append places (k ∷ []) ∙ ap (λ m. m + 1) same ∙ omega arith ∙ sym (loops_inside around l) in
    let r = items_back items h 0 (around ++ Inside l ∷ []) inner (woven (map pos inner)) (λ iters e. leads inner iters (n ∙ sym e)) n s j xs b in
    let q = pushed [] around l r.iters r.inside in
    let long : length q.xs ≡ loops around = length_between [] around q.xs q.inside in
    let m : length inner ≡ length q.xs + 1 = length-append places (k ∷ []) ∙ ap (λ m. m + 1) (same ∙ sym long) in
    let v : List ℤ = vector q.xs ++ pos k ∷ [] in
    let g : ℤ → List Element = λ x. at_places 0 (start_items items) (q.xs ++ x ∷ []) (v ++ x ∷ []) in
    let front : v ≡ woven (map pos inner) q.xs = lead q.xs long k in
    let there : In (element_of s xs) (g q.x) =
    subst (λ w. In (element_of s xs) (at_places 0 (start_items items) (q.xs ++ q.x ∷ []) w)) (woven_last (map pos inner) q.xs q.x (length_pos inner ∙ m) ∙ ap (λ w. w ++ q.x ∷ []) (sym front))
    (subst (λ zs. In (element_of s xs) (at_places 0 (start_items items) zs (woven (map pos inner) zs))) q.is r.there) in
    record {
      iters = q.xs;
      inside = q.inside;
      there = subst (λ fs. In (element_of s xs) (at_places k fs q.xs (vector q.xs))) (sym (start_loop lows highs step items))
          (append_left (flat_map g (values_at lows highs step q.xs)) [] (element_of s xs) (flat_in g (values_at lows highs step q.xs) q.x (element_of s xs) q.value there));
    }

if_back : (row : Form) (items : List Item) → Each Back items → Back (If row items)
if_back row items h k around places vector lead same s i xs b =
    let j = subst (In s) (numbers_met row k (findings items) around places) (subst (λ fs. In s (at_numbers k fs around places)) (findings_if row items) i) in
    let n = loops_where around row in
    let r = items_back items h k (around ++ Where row ∷ []) places vector (λ iters e. lead iters (e ∙ n)) (same ∙ sym n) s j xs b in
    let p = met_last [] around row r.iters r.inside in
    record {
      iters = r.iters;
      inside = p.0;
      there = subst (λ fs. In (element_of s xs) (at_places k fs r.iters (vector r.iters))) (sym (start_if row items))
          (subst (In (element_of s xs)) (sym (places_met row k (start_items items) r.iters (vector r.iters)))
          (met_in (is_met row r.iters) (at_places k (start_items items) r.iters (vector r.iters)) (element_of s xs) p.1 r.there));
    }

assign_back : (label : ℕ) (body : Body) → Back (Assign label body)
assign_back label body k around places vector lead same s i xs b =
    by (subst (λ fs. In s (at_numbers k fs around places)) (findings_assign label body) i)
  where
    by : In s (record { label = label; body = body; around = around; places = places ++ k ∷ [] } ∷ [])
        → Begun around (λ iters. at_places k (start_item (Assign label body)) iters (vector iters)) (element_of s xs)
    by (inl is) =
        let inside : Between [] around xs = subst (λ t. Between [] t.around xs) (sym is) b in
        record {
          iters = xs;
          inside = inside;
          there = subst (λ fs. In (element_of s xs) (at_places k fs xs (vector xs))) (sym (start_assign label body))
              (inl (ap (λ v. record { identity = record { label = Stmt label; iters = xs }; vector = v; body = body }) (lead xs (length_between [] around xs inside) k)
              ∙ ap (λ t. element_of t xs) is));
        }
    by (inr j) = absurd j

none_around : (xs : List ℤ) → Between [] [] xs → xs ≡ []
none_around [] b = refl
none_around (x ∷ xs) b = absurd b

pub found_start : (nest : LoopNest) (s : Statement) (xs : List ℤ) → In s (statements nest.items) → Between [] s.around xs → In (element_of s xs) (start nest)
found_start nest s xs i inside =
    let r = items_back nest.items (each_item Back loop_back if_back assign_back nest.items) 0 [] [] (λ iters. []) (λ iters e k. leads [] iters (sym e) k) refl s i xs inside in
    subst (λ iters. In (element_of s xs) (at_places 0 (start_items nest.items) iters [])) (none_around r.iters r.inside) r.there
