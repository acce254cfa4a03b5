-- The statements of a well formed nest: their loops and bodies fit, and their places ascend.
use Rattle.std.proofs.Common.{◌≡◌, refl, sym, ap, ap₂, ◌∙◌, subst, ℕ, suc, ◌+◌, ◌<◌, ◌≤◌, ℤ, pos, ◌&&◌, nat_lt, List, [], ◌∷◌, ◌++◌, length, map, arith, append_assoc, append-nil, length-append}
use Rattle.std.specs.Bool.{IsTrue}
use Rattle.std.proofs.lemmas.Bool.{and_parts}
use Rattle.std.proofs.lemmas.Int.{ints}
use Rattle.std.proofs.lemmas.List.{length-map, map-append}
use Rattle.std.specs.Ordering.{int_cmp, ordering_then}
use Rattle.std.specs.declared.cmp.Ordering.TheVariants.{Less}
use Rattle.std.specs.Cmp.{tied_itself, int_cmp_total}
use Rattle.std.specs.Cmp.Lexicographic.{slice_cmp}
use Rattle.ch_affine.specs.Form.{Form}
use Rattle.ch_affine.specs.declared.system.Range.{Range}
use Rattle.ch_nest.specs.declared.nest.ArrayDecl.{ArrayDecl}
use Rattle.ch_nest.specs.declared.nest.Body.{Body}
use Rattle.ch_nest.specs.declared.nest.Item.{Item}
use Rattle.ch_nest.specs.declared.nest.Item.TheOpen.{Item-F}
use Rattle.ch_nest.specs.declared.nest.Item.TheVariants.{Loop, If, Assign}
use Rattle.ch_nest.specs.Shape.{body_fits, box_of, head_fits, is_small, item_fits, item_fits_step, items_fit, row_fits, IsSmall}
use Rattle.ch_nest.proofs.Fits.{if_fit, loop_fits_is}
use Rattle.ch_nest.proofs.Turns.{assign_fits_is}
use Rattle.ch_space.specs.declared.level.Around.{Around}
use Rattle.ch_space.specs.declared.level.Around.TheVariants.{Inside, Where}
use Rattle.ch_space.specs.declared.level.Level.{Level}
use Rattle.ch_space.specs.Built.{boxes_from}
use Rattle.ch_space.specs.Fitting.{LevelsFit}
use Rattle.ch_space.specs.Statements.{Statement, at_numbers, findings, findings_of, loops, statements}
use Rattle.ch_space.proofs.FindingCases.{findings_assign, findings_if, findings_loop, numbers_append, numbers_met}
use Rattle.ch_space.proofs.Turnings.{loops_inside, loops_where}
use Rattle.ch_timed.specs.Members.{Each}
use Rattle.ch_timed.proofs.Blocks.{int_less}
use Rattle.ch_timed.proofs.ItemCases.{each_item}
use Rattle.ch_timed.proofs.Orders.{IsAscending, each_more}

pub boxes_last : (boxes : List Range) (ps : List Around) (l : Level)
    → boxes_from boxes (ps ++ Inside l ∷ []) ≡ boxes_from boxes ps ++ box_of (boxes ++ boxes_from boxes ps) l.lows l.highs ∷ []
boxes_last boxes [] l = ap (λ b. box_of b l.lows l.highs ∷ []) (sym (append-nil boxes))
boxes_last boxes (Inside k ∷ ps) l =
    let b : List Range = boxes ++ box_of boxes k.lows k.highs ∷ [] in
    ap (λ t. box_of boxes k.lows k.highs ∷ t) (boxes_last b ps l
    ∙ ap (λ z. boxes_from b ps ++ box_of z l.lows l.highs ∷ []) (append_assoc boxes (box_of boxes k.lows k.highs ∷ []) (boxes_from b ps)))
boxes_last boxes (Where row ∷ ps) l = boxes_last boxes ps l

pub boxes_where : (boxes : List Range) (ps : List Around) (row : Form) → boxes_from boxes (ps ++ Where row ∷ []) ≡ boxes_from boxes ps
boxes_where boxes [] row = refl
boxes_where boxes (Inside k ∷ ps) row = ap (λ t. box_of boxes k.lows k.highs ∷ t) (boxes_where (boxes ++ box_of boxes k.lows k.highs ∷ []) ps row)
boxes_where boxes (Where r ∷ ps) row = boxes_where boxes ps row

pub length_boxes : (boxes : List Range) (ps : List Around) → length (boxes_from boxes ps) ≡ loops ps
length_boxes boxes [] = refl
length_boxes boxes (Inside l ∷ ps) = ap suc (length_boxes (boxes ++ box_of boxes l.lows l.highs ∷ []) ps)
length_boxes boxes (Where row ∷ ps) = length_boxes boxes ps

pub levels_last : (boxes : List Range) (ps : List Around) (l : Level) → LevelsFit boxes ps
    → IsTrue (head_fits (length (boxes ++ boxes_from boxes ps)) l.lows l.highs l.step) → IsSmall (box_of (boxes ++ boxes_from boxes ps) l.lows l.highs)
    → LevelsFit boxes (ps ++ Inside l ∷ [])
levels_last boxes [] l fit head small =
    (subst (λ b. IsTrue (head_fits (length b) l.lows l.highs l.step)) (append-nil boxes) head, subst (λ b. IsSmall (box_of b l.lows l.highs)) (append-nil boxes) small, tt)
levels_last boxes (Inside k ∷ ps) l fit head small =
    let b : List Range = boxes ++ box_of boxes k.lows k.highs ∷ [] in
    let e : boxes ++ boxes_from boxes (Inside k ∷ ps) ≡ b ++ boxes_from b ps = sym (append_assoc boxes (box_of boxes k.lows k.highs ∷ []) (boxes_from b ps)) in
    (fit.0, fit.1, levels_last b ps l fit.2 (subst (λ z. IsTrue (head_fits (length z) l.lows l.highs l.step)) e head) (subst (λ z. IsSmall (box_of z l.lows l.highs)) e small))
levels_last boxes (Where row ∷ ps) l fit head small = (fit.0, levels_last boxes ps l fit.1 head small)

pub levels_where : (boxes : List Range) (ps : List Around) (row : Form) → LevelsFit boxes ps → IsTrue (row_fits (length (boxes ++ boxes_from boxes ps)) row)
    → LevelsFit boxes (ps ++ Where row ∷ [])
levels_where boxes [] row fit h = (subst (λ b. IsTrue (row_fits (length b) row)) (append-nil boxes) h, tt)
levels_where boxes (Inside k ∷ ps) row fit h =
    let b : List Range = boxes ++ box_of boxes k.lows k.highs ∷ [] in
    let e : boxes ++ boxes_from boxes (Inside k ∷ ps) ≡ b ++ boxes_from b ps = sym (append_assoc boxes (box_of boxes k.lows k.highs ∷ []) (boxes_from b ps)) in
    (fit.0, fit.1, levels_where b ps row fit.2 (subst (λ z. IsTrue (row_fits (length z) row)) e h))
levels_where boxes (Where r ∷ ps) row fit h = (fit.0, levels_where boxes ps row fit.1 h)

pub record IsFit (arrays : List ArrayDecl) (s : Statement) : Type 0 where
  pub levels : LevelsFit [] s.around
  pub places : length s.places ≡ loops s.around + 1
  pub body : IsTrue (body_fits arrays (loops s.around) s.body)

-- the places begin with these
abbrev Begins : List ℕ → Statement → Type 0
Begins places s = (rest : List ℕ) × (s.places ≡ places ++ rest)

abbrev pub key : Statement → List ℤ
key s = map pos s.places

abbrev pub IsEarlier : Statement → Statement → Type 0
IsEarlier s t = slice_cmp int_cmp (key s) (key t) ≡ Less

cmp_front : (v a b : List ℤ) → slice_cmp int_cmp (v ++ a) (v ++ b) ≡ slice_cmp int_cmp a b
cmp_front [] a b = refl
cmp_front (x ∷ v) a b = ap (λ o. ordering_then o (slice_cmp int_cmp (v ++ a) (v ++ b))) (tied_itself int_cmp_total x) ∙ cmp_front v a b

key_at : (places rest : List ℕ) (k : ℕ) → map pos ((places ++ k ∷ []) ++ rest) ≡ map pos places ++ pos k ∷ map pos rest
key_at places rest k = ap (map pos) (append_assoc places (k ∷ []) rest) ∙ map-append pos places (k ∷ rest)

earlier : (places : List ℕ) (j k : ℕ) (s t : Statement) → Begins (places ++ j ∷ []) s → Begins (places ++ k ∷ []) t → j < k → IsEarlier s t
earlier places j k s t b c h =
    ap₂ (slice_cmp int_cmp) (ap (map pos) b.1 ∙ key_at places b.0 j) (ap (map pos) c.1 ∙ key_at places c.0 k)
    ∙ cmp_front (map pos places) (pos j ∷ map pos b.0) (pos k ∷ map pos c.0)
    ∙ ap (λ o. ordering_then o (slice_cmp int_cmp (map pos b.0) (map pos c.0))) (int_less (pos j) (pos k) (omega (arith, ints)))

each_both : {E : Type 0} (P : E → Type 0) (xs ys : List E) → Each P xs → Each P ys → Each P (xs ++ ys)
each_both P [] ys h g = g
each_both P (x ∷ xs) ys h g = (h.0, each_both P xs ys h.1 g)

ascend_both : (xs ys : List Statement) → IsAscending key xs → IsAscending key ys → Each (λ s. Each (IsEarlier s) ys) xs → IsAscending key (xs ++ ys)
ascend_both [] ys a b h = b
ascend_both (x ∷ xs) ys a b h = (each_both (IsEarlier x) xs ys a.0 h.0, ascend_both xs ys a.1 b h.1)

each_each : (P Q : Statement → Type 0) (R : Statement → Statement → Type 0) (xs ys : List Statement) → ((s t : Statement) → P s → Q t → R s t) → Each P xs → Each Q ys
    → Each (λ s. Each (R s) ys) xs
each_each P Q R [] ys h p q = tt
each_each P Q R (x ∷ xs) ys h p q = (each_more Q (R x) ys (λ t g. h x t p.0 g) q, each_each P Q R xs ys h p.1 q)

shorter : (places : List ℕ) (k : ℕ) (s : Statement) → Begins (places ++ k ∷ []) s → Begins places s
shorter places k s b = (k ∷ b.0, b.1 ∙ append_assoc places (k ∷ []) b.0)

module _ (arrays : List ArrayDecl) where
  -- the statements at the places from one to before another
  abbrev From : List ℕ → ℕ → ℕ → Statement → Type 0
  From places low high s = (j : ℕ) × ((low ≤ j) × ((j < high) × Begins (places ++ j ∷ []) s))

  record Found (places : List ℕ) (low high : ℕ) (ss : List Statement) : Type 0 where
    fit : Each (IsFit arrays) ss
    begins : Each (From places low high) ss
    ascend : IsAscending key ss

  abbrev Shaped : Item → Type 0
  Shaped item =
      (k : ℕ) (around : List Around) (places : List ℕ) → LevelsFit [] around → length places ≡ loops around → IsTrue (item_fits arrays item (boxes_from [] around))
      → Found places k (k + length (findings_of item)) (at_numbers k (findings_of item) around places)

  found_both : (places : List ℕ) (low mid high : ℕ) (ss ts : List Statement) → low ≤ mid → mid ≤ high → Found places low mid ss → Found places mid high ts → Found places low high (ss ++ ts)
  found_both places low mid high ss ts l m f g = record {
    fit = each_both (IsFit arrays) ss ts f.fit g.fit;
    begins = each_both (From places low high) ss ts
        (each_more (From places low mid) (From places low high) ss (λ s b. let x = b.1.1.0 in (b.0, (b.1.0, (omega arith, b.1.1.1)))) f.begins)
        (each_more (From places mid high) (From places low high) ts (λ s b. let x = b.1.0 in (b.0, (omega arith, (b.1.1.0, b.1.1.1)))) g.begins);
    ascend = ascend_both ss ts f.ascend g.ascend
        (each_each (From places low mid) (From places mid high) IsEarlier ss ts
        (λ s t b c. earlier places b.0 c.0 s t b.1.1.1 c.1.1.1 (let x = b.1.1.0 in let y = c.1.0 in omega arith)) f.begins g.begins);
  }

  items_shaped : (items : List Item) → Each Shaped items → (k : ℕ) (around : List Around) (places : List ℕ) → LevelsFit [] around → length places ≡ loops around
      → IsTrue (items_fit arrays items (boxes_from [] around)) → Found places k (k + length (findings items)) (at_numbers k (findings items) around places)
  items_shaped [] h k around places fit same pass = record { fit = tt; begins = tt; ascend = tt }
  items_shaped (i ∷ is) h k around places fit same pass =
      let parts = and_parts (item_fits arrays i (boxes_from [] around)) (items_fit arrays is (boxes_from [] around)) pass in
      let here = h.0 k around places fit same parts.0 in
      let mid : ℕ = k + length (findings_of i) in
      let more = items_shaped is h.1 mid around places fit same parts.1 in
      let n = length-append (findings_of i) (findings is) in
      let end : k + length (findings (i ∷ is)) ≡ mid + length (findings is) = omega arith in
      subst (Found places k (k + length (findings (i ∷ is)))) (sym (numbers_append k (findings_of i) (findings is) around places))
      (subst (λ m. Found places k m (at_numbers k (findings_of i) around places ++ at_numbers mid (findings is) around places)) (sym end)
      (found_both places k mid (mid + length (findings is)) (at_numbers k (findings_of i) around places) (at_numbers mid (findings is) around places) (omega arith) (omega arith) here more))

  one_place : (places : List ℕ) (k high : ℕ) (ss : List Statement) → k < high → Each (IsFit arrays) ss → Each (Begins (places ++ k ∷ [])) ss → IsAscending key ss
      → Found places k high ss
  one_place places k high ss l fit begins ascend = record {
    fit = fit;
    begins = each_more (Begins (places ++ k ∷ [])) (From places k high) ss (λ s b. (k, (omega arith, (omega arith, b)))) begins;
    ascend = ascend;
  }

  loop_shaped : (lows highs : List Form) (step : ℕ) (items : List Item) → Each Shaped items → Shaped (Loop lows highs step items)
  loop_shaped lows highs step items h k around places fit same pass =
      let boxes : List Range = boxes_from [] around in
      let l : Level = record { lows = lows; highs = highs; step = step } in
      let box : Range = box_of boxes lows highs in
      let inner : List ℕ = places ++ k ∷ [] in
      let g : IsTrue (item_fits_step arrays (Item-F.Loop lows highs step (map (item_fits arrays) items)) boxes) = subst (λ b. IsTrue b) (loop_fits_is arrays lows highs step items boxes) pass in
      let top = and_parts (head_fits (length boxes) lows highs step && nat_lt 0 (length (map (item_fits arrays) items))) (is_small box && items_fit arrays items (boxes ++ box ∷ [])) g in
      let head = (and_parts (head_fits (length boxes) lows highs step) (nat_lt 0 (length (map (item_fits arrays) items))) top.0).0 in
      let low = and_parts (is_small box) (items_fit arrays items (boxes ++ box ∷ [])) top.1 in
      let n : length inner ≡ loops (around ++ Inside l ∷ []) = length-append places (k ∷ []) ∙ ap (λ m. m + 1) same ∙ omega arith ∙ sym (loops_inside around l) in
      let ss = at_numbers 0 (findings items) (around ++ Inside l ∷ []) inner in
      let r = items_shaped items h 0 (around ++ Inside l ∷ []) inner (levels_last [] around l fit head low.0) n
      (subst (λ b. IsTrue (items_fit arrays items b)) (sym (boxes_last [] around l)) low.1) in
      let high : ℕ = k + length (findings_of (Loop lows highs step items)) in
      let one = ap length (findings_loop lows highs step items) in
      subst (λ fs. Found places k high (at_numbers k fs around places)) (sym (findings_loop lows highs step items))
      (subst (Found places k high) (sym (append-nil ss))
      (one_place places k high ss (omega arith) r.fit (each_more _ _ ss (λ s b. shorter inner b.0 s b.1.1.1) r.begins) r.ascend))

  if_shaped : (row : Form) (items : List Item) → Each Shaped items → Shaped (If row items)
  if_shaped row items h k around places fit same pass =
      let f = if_fit arrays (If row items) row items (boxes_from [] around) refl pass in
      let r = items_shaped items h k (around ++ Where row ∷ []) places (levels_where [] around row fit f.row_fits) (same ∙ sym (loops_where around row))
      (subst (λ b. IsTrue (items_fit arrays items b)) (sym (boxes_where [] around row)) f.inner) in
      let many : length (findings_of (If row items)) ≡ length (findings items) = ap length (findings_if row items) ∙ length-map (findings items) _ in
      subst (λ m. Found places k (k + m) (at_numbers k (findings_of (If row items)) around places)) (sym many)
      (subst (λ fs. Found places k (k + length (findings items)) (at_numbers k fs around places)) (sym (findings_if row items))
      (subst (Found places k (k + length (findings items))) (sym (numbers_met row k (findings items) around places)) r))

  assign_shaped : (label : ℕ) (body : Body) → Shaped (Assign label body)
  assign_shaped label body k around places fit same pass =
      let high : ℕ = k + length (findings_of (Assign label body)) in
      let one = ap length (findings_assign label body) in
      let b : IsTrue (body_fits arrays (length (boxes_from [] around)) body) = subst (λ b. IsTrue b) (assign_fits_is arrays label body (boxes_from [] around)) pass in
      subst (λ fs. Found places k high (at_numbers k fs around places)) (sym (findings_assign label body))
      (one_place places k high (record { label = label; body = body; around = around; places = places ++ k ∷ [] } ∷ []) (omega arith) (
        record {
          levels = fit;
          places = length-append places (k ∷ []) ∙ ap (λ n. n + 1) same;
          body = subst (λ n. IsTrue (body_fits arrays n body)) (length_boxes [] around) b;
        },
        tt,
      ) (([], sym (append-nil (places ++ k ∷ []))), tt) (tt, tt))

  pub record Shape (items : List Item) : Type 0 where
    pub fit : Each (IsFit arrays) (statements items)
    pub ascend : IsAscending key (statements items)

  pub shaped : (items : List Item) → IsTrue (items_fit arrays items []) → Shape items
  shaped items pass =
      let r = items_shaped items (each_item Shaped loop_shaped if_shaped assign_shaped items) 0 [] [] tt refl pass in
      record { fit = r.fit; ascend = r.ascend }
