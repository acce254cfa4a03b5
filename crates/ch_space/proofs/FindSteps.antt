-- The pieces of a nest, found item by item.
use Rattle.std.proofs.Common.{◌≡◌, refl, sym, ap, ap₂, ◌∙◌, subst, ℕ, zero, suc, ◌+◌, ◌^◌, ◌<◌, ◌≤◌, Bool, true, false, cond, ◌&&◌, nat_le, nat_lt, Result, Ok, Err, Some, List, [], ◌∷◌, ◌++◌, length, map, take, get_or, arith, append_assoc, append-nil, length-append}
use Rattle.std.specs.Bool.{IsTrue}
use Rattle.std.specs.List.{sum}
use Rattle.std.specs.Result.{IfOk}
use Rattle.std.proofs.lemmas.Bool.{and_parts, leb-true, lt-ltb}
use Rattle.std.proofs.lemmas.Bool.Decides.{nat_tests}
use Rattle.std.proofs.lemmas.List.{length-map, map-append, take_all, take_more}
use Rattle.std.proofs.lemmas.List.Elements.{filter-append}
use Rattle.ch_affine.specs.Form.{Form}
use Rattle.ch_affine.specs.declared.system.Range.{Range}
use Rattle.ch_nest.specs.declared.nest.ArrayDecl.{ArrayDecl}
use Rattle.ch_nest.specs.declared.nest.Body.{Body}
use Rattle.ch_nest.specs.declared.nest.Item.{Item}
use Rattle.ch_nest.specs.declared.nest.Item.TheVariants.{Loop, If, Assign}
use Rattle.ch_nest.specs.declared.nest.Item.TheOpen.{Item-F}
use Rattle.ch_nest.specs.Arrays.{extents_of}
use Rattle.ch_nest.specs.Limits.{most_cells, most_work}
use Rattle.ch_nest.specs.LoopNest.{LoopNest}
use Rattle.ch_nest.specs.Shape.{all_numbered, box_of, head_fits, is_nest, is_small, item_fits, item_fits_step, items_fit, numbered}
use Rattle.ch_nest.specs.Sound.{is_sound, items_inside, items_work}
use Rattle.ch_nest.proofs.Fits.{if_fit, loop_fits_is}
use Rattle.ch_nest.proofs.Turns.{fit_at}
use Rattle.ch_space.specs.declared.level.Around.{Around}
use Rattle.ch_space.specs.declared.level.Around.TheVariants.{Inside, Where}
use Rattle.ch_space.specs.declared.level.Level.{Level}
use Rattle.ch_space.specs.declared.nest_pieces.Found.{Found}
use Rattle.ch_space.specs.declared.piece.Piece.{Piece}
use Rattle.ch_space.specs.Built.{boxes_from, piece_of}
use Rattle.ch_space.specs.Fitting.{Adds, AreBelow, IsBelow, Places, capped}
use Rattle.ch_space.specs.Keeps.{most_instances, IsSpace}
use Rattle.ch_space.specs.Listed.{Listed}
use Rattle.ch_space.specs.Pieces.{listed}
use Rattle.ch_space.specs.Statements.{Statement, at_numbers, executed, findings, findings_of, instances_of, statements, where_met}
use Rattle.ch_space.proofs.Assembled.{assembled, counts_of, listed_is, pieces_of, sum_filter}
use Rattle.ch_space.proofs.Bodies.{few_arrays, nest_arrays, nest_fits, nest_numbered}
use Rattle.ch_space.proofs.FindingCases.{findings_assign, findings_if, findings_loop, numbers_append, numbers_met}
use Rattle.ch_space.proofs.Shapes.{boxes_last, boxes_where, levels_last, levels_where}
use Rattle.ch_space.proofs.Short.{numbered_at, numbered_if, numbered_loop, some_number}
use Rattle.ch_space.proofs.Sums.{instances_few, sum_first}
use Rattle.ch_timed.specs.Start.{start}

-- one item of some
pub item_below : (items : List Item) (around : List Around) (first place k : ℕ) (item d : Item) → k < length items → item ≡ get_or items k d → place ≡ first + length (findings (take k items))
    → AreBelow items around first → IsBelow item around place
item_below items around first place k item d l is e b =
    let r = numbered_at b.arrays items (boxes_from [] around) k d b.from b.to l b.items_fit b.numbered b.most in
    let x = r.before in
    let y = b.few in
    record {
      arrays = b.arrays;
      fit = b.fit;
      item_fits = subst (λ i. IsTrue (item_fits b.arrays i (boxes_from [] around))) (sym is) (fit_at b.arrays items (boxes_from [] around) k d l b.items_fit);
      from = r.here;
      to = r.next;
      numbered = subst (λ i. numbered i r.here ≡ Some r.next) (sym is) r.numbered;
      few = omega arith;
      most = r.most;
    }

pub loop_below : (item : Item) (lows highs : List Form) (step : ℕ) (items below : List Item) (around inside : List Around) (place : ℕ) (ls hs : List Form) → item ≡ Loop lows highs step items
    → IsBelow item around place → below ≡ items → ls ≡ lows → hs ≡ highs → inside ≡ around ++ Inside (record { lows = ls; highs = hs; step = step }) ∷ [] → AreBelow below inside 0
loop_below item lows highs step items below around inside place ls hs is b ei el eh e =
    let boxes : List Range = boxes_from [] around in
    let box : Range = box_of boxes lows highs in
    let l : Level = record { lows = lows; highs = highs; step = step } in
    let f : IsTrue (item_fits b.arrays (Loop lows highs step items) boxes) = subst (λ i. IsTrue (item_fits b.arrays i boxes)) is b.item_fits in
    let g : IsTrue (item_fits_step b.arrays (Item-F.Loop lows highs step (map (item_fits b.arrays) items)) boxes) = subst (λ t. IsTrue t) (loop_fits_is b.arrays lows highs step items boxes) f in
    let top : IsTrue (head_fits (length boxes) lows highs step && nat_lt 0 (length (map (item_fits b.arrays) items))) = (and_parts _ _ g).0 in
    let low : IsTrue (is_small box && items_fit b.arrays items (boxes ++ box ∷ [])) = (and_parts _ _ g).1 in
    let there : AreBelow items (around ++ Inside l ∷ []) 0 = record {
      arrays = b.arrays;
      fit = levels_last [] around l b.fit (and_parts _ _ top).0 (and_parts (is_small box) (items_fit b.arrays items (boxes ++ box ∷ [])) low).0;
      items_fit = subst (λ z. IsTrue (items_fit b.arrays items z)) (sym (boxes_last [] around l)) (and_parts (is_small box) (items_fit b.arrays items (boxes ++ box ∷ [])) low).1;
      from = b.from;
      to = b.to;
      numbered = sym (numbered_loop lows highs step items b.from) ∙ subst (λ i. numbered i b.from ≡ Some b.to) is b.numbered;
      few = omega arith;
      most = b.most;
    } in
    subst (λ z. AreBelow z inside 0) (sym ei) (subst (λ z. AreBelow items z 0) (sym (e ∙ ap₂ (λ x y. around ++ Inside (record { lows = x; highs = y; step = step }) ∷ []) el eh)) there)

pub if_below : (item : Item) (row : Form) (items below : List Item) (around inside : List Around) (place : ℕ) → item ≡ If row items → IsBelow item around place → below ≡ items
    → inside ≡ around ++ Where row ∷ [] → AreBelow below inside place
if_below item row items below around inside place is b ei e =
    let f = if_fit b.arrays item row items (boxes_from [] around) is b.item_fits in
    let there : AreBelow items (around ++ Where row ∷ []) place = record {
      arrays = b.arrays;
      fit = levels_where [] around row b.fit f.row_fits;
      items_fit = subst (λ z. IsTrue (items_fit b.arrays items z)) (sym (boxes_where [] around row)) f.inner;
      from = b.from;
      to = b.to;
      numbered = sym (numbered_if row items b.from) ∙ subst (λ i. numbered i b.from ≡ Some b.to) is b.numbered;
      few = b.few;
      most = b.most;
    } in
    subst (λ z. AreBelow z inside place) (sym ei) (subst (λ z. AreBelow items z place) (sym e) there)

-- the place after one is a number of 32 bits
pub place_fits : (item : Item) (around : List Around) (place : ℕ) → IsBelow item around place → place + 1 < 2 ^ 32
place_fits item around place b = let x = b.few in let y = b.most in omega arith

-- one layer of the statements

one_place : (ss : List Statement) (old new : Found) → Adds ss old new → Adds (ss ++ []) old new
one_place ss old new a = subst (λ t. Adds t old new) (sym (append-nil ss)) a

pub places_assign : (item : Item) (label : ℕ) (body : Body) (around : List Around) (places here : List ℕ) (place : ℕ) (old new : Found) → item ≡ Assign label body → here ≡ places ++ place ∷ []
    → Adds (record { label = label; body = body; around = around; places = here } ∷ []) old new → Places (findings_of item) around places place (place + 1) old new
places_assign item label body around places here place old new is e a =
    subst (λ fs. Places fs around places place (place + 1) old new) (sym (ap findings_of is ∙ findings_assign label body))
    (record { after = refl; adds = subst (λ p. Adds (record { label = label; body = body; around = around; places = p } ∷ []) old new) e a })

pub places_loop : (item : Item) (lows highs : List Form) (step : ℕ) (items below : List Item) (around inside : List Around) (ls hs : List Form) (places here : List ℕ) (place next : ℕ) (old new : Found)
    → item ≡ Loop lows highs step items → below ≡ items → ls ≡ lows → hs ≡ highs → inside ≡ around ++ Inside (record { lows = ls; highs = hs; step = step }) ∷ [] → here ≡ places ++ place ∷ []
    → Places (findings below) inside here 0 next old new → Places (findings_of item) around places place (place + 1) old new
places_loop item lows highs step items below around inside ls hs places here place next old new is ei el eh e eh' a =
    let l : Level = record { lows = lows; highs = highs; step = step } in
    let inner : List Around = around ++ Inside l ∷ [] in
    let same : at_numbers 0 (findings below) inside here ≡ at_numbers 0 (findings items) inner (places ++ place ∷ []) =
    ap (λ z. at_numbers 0 (findings z) inside here) ei ∙ ap₂ (λ i p. at_numbers 0 (findings items) i p) (e ∙ ap₂ (λ x y. around ++ Inside (record { lows = x; highs = y; step = step }) ∷ []) el eh) eh' in
    subst (λ fs. Places fs around places place (place + 1) old new) (sym (ap findings_of is ∙ findings_loop lows highs step items))
    (record { after = refl; adds = one_place (at_numbers 0 (findings items) inner (places ++ place ∷ [])) old new (subst (λ ss. Adds ss old new) same a.adds) })

pub places_if : (item : Item) (row : Form) (items below : List Item) (around inside : List Around) (places : List ℕ) (place next : ℕ) (old new : Found)
    → item ≡ If row items → below ≡ items → inside ≡ around ++ Where row ∷ []
    → Places (findings below) inside places place next old new → Places (findings_of item) around places place next old new
places_if item row items below around inside places place next old new is ei e a =
    let same : at_numbers place (findings below) inside places ≡ at_numbers place (map (where_met row) (findings items)) around places =
    ap₂ (λ z i. at_numbers place (findings z) i places) ei e ∙ sym (numbers_met row place (findings items) around places) in
    let many : length (findings below) ≡ length (map (where_met row) (findings items)) = ap (λ z. length (findings z)) ei ∙ sym (length-map (findings items) (where_met row)) in
    let n = a.after in
    subst (λ fs. Places fs around places place next old new) (sym (ap findings_of is ∙ findings_if row items))
    (record { after = omega arith; adds = subst (λ ss. Adds ss old new) same a.adds })

executed_both : (ss ts : List Statement) → executed (ss ++ ts) ≡ executed ss ++ executed ts
executed_both ss ts = filter-append (λ s. nat_lt 0 (instances_of s)) ss ts

adds_both : (ss ts : List Statement) (old now new : Found) → Adds ss old now → Adds ts now new → Adds (ss ++ ts) old new
adds_both ss ts old now new a b = record {
  pieces = b.pieces ∙ ap (λ t. t ++ map piece_of (executed ts)) a.pieces ∙ append_assoc old.pieces (map piece_of (executed ss)) (map piece_of (executed ts))
      ∙ ap (λ t. old.pieces ++ t) (sym (ap (map piece_of) (executed_both ss ts) ∙ map-append piece_of (executed ss) (executed ts)));
  counts = b.counts ∙ ap (λ t. t ++ map (λ s. capped (instances_of s)) (executed ts)) a.counts
      ∙ append_assoc old.counts (map (λ s. capped (instances_of s)) (executed ss)) (map (λ s. capped (instances_of s)) (executed ts))
      ∙ ap (λ t. old.counts ++ t) (sym (ap (map (λ s. capped (instances_of s))) (executed_both ss ts) ∙ map-append (λ s. capped (instances_of s)) (executed ss) (executed ts)));
}

pub adds_none : (old : Found) → Adds [] old old
adds_none old = record { pieces = sym (append-nil old.pieces); counts = sym (append-nil old.counts) }

findings_more : (items : List Item) (k : ℕ) (d : Item) → k < length items → findings (take (k + 1) items) ≡ findings (take k items) ++ findings_of (get_or items k d)
findings_more items k d l = ap findings (take_more items k d l) ∙ both (take k items) (get_or items k d)
  where
    both : (is : List Item) (i : Item) → findings (is ++ i ∷ []) ≡ findings is ++ findings_of i
    both [] i = append-nil (findings_of i)
    both (j ∷ js) i = ap (λ t. findings_of j ++ t) (both js i) ∙ sym (append_assoc (findings_of j) (findings js) (findings_of i))

pub places_none : (around : List Around) (places : List ℕ) (first : ℕ) (old : Found) → Places [] around places first first old old
places_none around places first old = record { after = omega arith; adds = adds_none old }

pub places_more : (items : List Item) (item d : Item) (around : List Around) (places : List ℕ) (k first place next : ℕ) (old now new : Found) → k < length items → item ≡ get_or items k d
    → Places (findings (take k items)) around places first place old now → Places (findings_of item) around places place next now new
    → Places (findings (take (k + 1) items)) around places first next old new
places_more items item d around places k first place next old now new l is a b =
    let fs = findings (take k items) in
    let gs = findings_of item in
    let same : fs ++ gs ≡ findings (take (k + 1) items) = ap (λ i. fs ++ findings_of i) is ∙ sym (findings_more items k d l) in
    let x = a.after in
    let y = b.after in
    let n = length-append fs gs in
    subst (λ hs. Places hs around places first next old new) same
    (record {
      after = omega arith;
      adds = subst (λ ss. Adds ss old new) (ap (λ m. at_numbers first fs around places ++ at_numbers m gs around places) x ∙ sym (numbers_append first fs gs around places))
          (adds_both (at_numbers first fs around places) (at_numbers place gs around places) old now new a.adds b.adds);
    })

pub places_done : (items : List Item) (around : List Around) (places : List ℕ) (k first place : ℕ) (old new : Found) → length items ≤ k
    → Places (findings (take k items)) around places first place old new → Places (findings items) around places first place old new
places_done items around places k first place old new l a = subst (λ is. Places (findings is) around places first place old new) (take_all k items l) a

-- one statement

executed_by : (b : Bool) (s : Statement) → nat_lt 0 (instances_of s) ≡ b → executed (s ∷ []) ≡ cond b (s ∷ []) []
executed_by b s e = ap (λ t. cond t (s ∷ []) []) e

pub adds_never : (s : Statement) (count : ℕ) (old : Found) → count ≡ capped (instances_of s) → count ≡ 0 → Adds (s ∷ []) old old
adds_never s count old e z =
    let m : instances_of s ≡ 0 = omega arith in
    let n : nat_lt 0 (instances_of s) ≡ false = grind (arith, nat_tests) in
    let x : executed (s ∷ []) ≡ [] = executed_by false s n in
    record {
      pieces = sym (ap (λ ss. old.pieces ++ map piece_of ss) x ∙ append-nil old.pieces);
      counts = sym (ap (λ ss. old.counts ++ map (λ s. capped (instances_of s)) ss) x ∙ append-nil old.counts);
    }

pub adds_one : (s : Statement) (count : ℕ) (piece : Piece) (old new : Found) → count ≡ capped (instances_of s) → (count ≡ 0 → ⊥) → piece ≡ piece_of s
    → new.pieces ≡ old.pieces ++ piece ∷ [] → new.counts ≡ old.counts ++ count ∷ [] → Adds (s ∷ []) old new
adds_one s count piece old new e z is ep ec =
    let n : nat_lt 0 (instances_of s) ≡ true = lt-ltb 0 (instances_of s) (omega arith) in
    let x : executed (s ∷ []) ≡ s ∷ [] = executed_by true s n in
    record {
      pieces = ep ∙ ap (λ p. old.pieces ++ p ∷ []) is ∙ ap (λ ss. old.pieces ++ map piece_of ss) (sym x);
      counts = ec ∙ ap (λ m. old.counts ++ m ∷ []) e ∙ ap (λ ss. old.counts ++ map (λ s. capped (instances_of s)) ss) (sym x);
    }

-- all statements

capped_same : (most : ℕ) (ns : List ℕ) → sum ns ≤ most → most ≤ most_instances → map capped ns ≡ ns
capped_same most [] l m = refl
capped_same most (n ∷ ns) l m =
    let f = sum_first n ns in
    let e : capped n ≡ n = omega arith in
    ap₂ (λ a b. a ∷ b) e (capped_same most ns (omega arith) m)

map_capped : (ss : List Statement) → map (λ s. capped (instances_of s)) ss ≡ map capped (map instances_of ss)
map_capped [] = refl
map_capped (s ∷ ss) = ap (λ t. capped (instances_of s) ∷ t) (map_capped ss)

pub record Complete (nest : LoopNest) (found : Found) : Type 0 where
  pub pieces : found.pieces ≡ pieces_of nest
  pub counts : found.counts ≡ counts_of nest

sound_work : (nest : LoopNest) → IsTrue (is_sound nest) → items_work nest.items [] ≤ most_work
sound_work nest sound =
    leb-true (items_work nest.items []) most_work (and_parts (items_inside (extents_of nest.arrays) nest.items []) (nat_le (items_work nest.items []) most_work) sound).1

pub all_found : (nest : LoopNest) (items : List Item) (next : ℕ) (old new : Found) → IsTrue (is_sound nest) → items ≡ nest.items → old.pieces ≡ [] → old.counts ≡ []
    → Places (findings items) [] [] 0 next old new → Complete nest new
all_found nest items next old new sound is ep ec a =
    let few = sound_work nest sound in
    let b : Adds (statements nest.items) old new = subst (λ z. Adds (at_numbers 0 (findings z) [] []) old new) is a.adds in
    let n = instances_few nest.items in
    let m = sum_filter (λ s. nat_lt 0 (instances_of s)) (statements nest.items) in
    record {
      pieces = b.pieces ∙ ap (λ t. t ++ pieces_of nest) ep;
      counts = b.counts ∙ ap (λ t. t ++ map (λ s. capped (instances_of s)) (executed (statements nest.items))) ec ∙ map_capped (executed (statements nest.items))
          ∙ capped_same most_work (counts_of nest) (omega arith) (omega arith);
    }

pub top_below : (nest : LoopNest) (items : List Item) → IsTrue (is_nest nest) → items ≡ nest.items → AreBelow items [] 0
top_below nest items known is =
    let m = some_number (all_numbered nest.items 0) (nest_numbered nest known) in
    subst (λ z. AreBelow z [] 0) (sym is)
    (record { arrays = nest.arrays; fit = tt; items_fit = nest_fits nest known; from = 0; to = m.0; numbered = m.1; few = omega arith; most = omega arith })

-- the space that is made

pub arrays_counted : (nest : LoopNest) (arrays : List ArrayDecl) → IsTrue (is_nest nest) → arrays ≡ nest.arrays → length arrays ≤ most_cells
arrays_counted nest arrays known is =
    subst (λ z. length z ≤ most_cells) (sym is)
    (few_arrays nest.arrays (nest_arrays nest known))

pub space_kept : (nest : LoopNest) (n : ℕ) (found : Found) (temps : List (List ℕ)) → IsTrue (is_nest nest) → IsTrue (is_sound nest) → n ≡ length nest.arrays
    → Complete nest found → temps ≡ [] → IsSpace n found.pieces found.counts temps 1 0
space_kept nest n found temps known few en c et =
    subst (λ m. IsSpace m found.pieces found.counts temps 1 0) (sym en)
    (subst (λ ps. IsSpace (length nest.arrays) ps found.counts temps 1 0) (sym c.pieces)
    (subst (λ ns. IsSpace (length nest.arrays) (pieces_of nest) ns temps 1 0) (sym c.counts)
    (subst (λ ts. IsSpace (length nest.arrays) (pieces_of nest) (counts_of nest) ts 1 0) (sym et) (assembled nest known few))))

pub space_is : (nest : LoopNest) (n : ℕ) (found : Found) (temps : List (List ℕ)) → IsTrue (is_nest nest) → n ≡ length nest.arrays → Complete nest found → temps ≡ []
    → ◌≡◌ {A = Listed} (record { list = listed found.pieces; arrays = n; temps = temps; weight = 1; commands = 0 })
    (record { list = start nest; arrays = length nest.arrays; temps = []; weight = 1; commands = 0 })
space_is nest n found temps known en c et =
    let e : listed found.pieces ≡ start nest = ap listed c.pieces ∙ listed_is nest known in
    λ i. record { list = e i; arrays = en i; temps = et i; weight = 1; commands = 0 }

pub ok_places : {E : Type 0} (r : Result ℕ E) (P Q : ℕ → Type 0) → ((n : ℕ) → P n → Q n) → IfOk r P → IfOk r Q
ok_places (Ok n) P Q f h = f n h
ok_places (Err e) P Q f h = h
