-- The points of the system of an access begin with the cells that it uses, each behind its prefix.
use Rattle.std.proofs.Common.{◌≡◌, refl, sym, ap, ap₂, ◌∙◌, subst, ℕ, zero, suc, ◌+◌, ◌≤◌, ℤ, true, List, [], ◌∷◌, ◌++◌, map, length, take, drop, arith, take-append-drop}
use Rattle.ch_affine.specs.Affine.{value}
use Rattle.ch_affine.specs.Form.{Form}
use Rattle.ch_affine.specs.Rows.{Rows, all_hold, system}
use Rattle.ch_affine.specs.declared.system.Range.{Range}
use Rattle.ch_moved.proofs.Fronts.{IsFront, in_fronts, fronts_in}
use Rattle.ch_moved.specs.Changed.{fronts}
use Rattle.ch_poly.proofs.Firsts.{InBox}
use Rattle.ch_space.proofs.Membership.{length_inside}
use Rattle.ch_space.specs.declared.piece.Piece.{Piece}
use Rattle.ch_space.specs.Keeps.{IsWhole}
use Rattle.ch_space.specs.Pieces.{instances}
use Rattle.ch_timed.specs.Members.{In}
use Rattle.ch_datacopy.specs.Cells.{cell_at, iterators_at, use_boxes}
use Rattle.ch_datacopy.proofs.UseRows.{AreUseRows}

-- a point of two boxes side by side
pub inside_split : (rs qs : List Range) (pt : List ℤ) → InBox (rs ++ qs) pt → (xs : List ℤ) × ((ys : List ℤ) × ((pt ≡ xs ++ ys) × (InBox rs xs × InBox qs ys)))
inside_split [] qs pt b = ([], (pt, (refl, (tt, b))))
inside_split (r ∷ rs) qs [] b = absurd b
inside_split (r ∷ rs) qs (x ∷ pt) b =
    let s = inside_split rs qs pt b.2 in
    (x ∷ s.0, (s.1.0, (ap (λ z. x ∷ z) s.1.1.0, ((b.0, b.1, s.1.1.1.0), s.1.1.1.1))))

pub inside_join : (rs qs : List Range) (xs ys : List ℤ) → InBox rs xs → InBox qs ys → InBox (rs ++ qs) (xs ++ ys)
inside_join [] qs [] ys b c = c
inside_join [] qs (x ∷ xs) ys b c = absurd b
inside_join (r ∷ rs) qs [] ys b c = absurd b
inside_join (r ∷ rs) qs (x ∷ xs) ys b c = (b.0, b.1, inside_join rs qs xs ys b.2 c)

pub take_front : {X : Type 0} (n : ℕ) (xs ys : List X) → length xs ≡ n → take n (xs ++ ys) ≡ xs
take_front zero [] ys h = refl
take_front zero (x ∷ xs) ys h = absurd (omega arith)
take_front (suc n) [] ys h = absurd (omega arith)
take_front (suc n) (x ∷ xs) ys h = ap (λ z. x ∷ z) (take_front n xs ys (omega arith))

pub drop_front : {X : Type 0} (n : ℕ) (xs ys : List X) → length xs ≡ n → drop n (xs ++ ys) ≡ ys
drop_front zero [] ys h = refl
drop_front zero (x ∷ xs) ys h = absurd (omega arith)
drop_front (suc n) [] ys h = absurd (omega arith)
drop_front (suc n) (x ∷ xs) ys h = drop_front n xs ys (omega arith)

pub take_few : {X : Type 0} (n : ℕ) (xs : List X) → n ≤ length xs → length (take n xs) ≡ n
take_few zero xs h = refl
take_few (suc n) [] h = absurd (omega arith)
take_few (suc n) (x ∷ xs) h = ap (λ m. suc m) (take_few n xs (omega arith))

pub take_less : {X : Type 0} (n m : ℕ) (xs : List X) → n ≤ m → take n (take m xs) ≡ take n xs
take_less zero m xs h = refl
take_less (suc n) zero xs h = absurd (omega arith)
take_less (suc n) (suc m) [] h = refl
take_less (suc n) (suc m) (x ∷ xs) h = ap (λ z. x ∷ z) (take_less n m xs (omega arith))

pub append_length : {X : Type 0} (xs ys : List X) → length (xs ++ ys) ≡ length xs + length ys
append_length [] ys = omega arith
append_length (x ∷ xs) ys = let e = append_length xs ys in omega arith

pub map_length : {X Y : Type 0} (f : X → Y) (xs : List X) → length (map f xs) ≡ length xs
map_length f [] = refl
map_length f (x ∷ xs) = ap (λ n. suc n) (map_length f xs)

pub inside_take : (n : ℕ) (rs : List Range) (xs : List ℤ) → InBox rs xs → InBox (take n rs) (take n xs)
inside_take zero rs xs b = tt
inside_take (suc n) [] [] b = tt
inside_take (suc n) [] (x ∷ xs) b = absurd b
inside_take (suc n) (r ∷ rs) [] b = absurd b
inside_take (suc n) (r ∷ rs) (x ∷ xs) b = (b.0, b.1, inside_take n rs xs b.2)

pub inside_drop : (n : ℕ) (rs : List Range) (xs : List ℤ) → InBox rs xs → InBox (drop n rs) (drop n xs)
inside_drop zero rs xs b = b
inside_drop (suc n) [] [] b = tt
inside_drop (suc n) [] (x ∷ xs) b = absurd b
inside_drop (suc n) (r ∷ rs) [] b = absurd b
inside_drop (suc n) (r ∷ rs) (x ∷ xs) b = inside_drop n rs xs b.2

module _ (q : Piece) (around : ℕ) (fs rows : List Form) (cells iters : List Range) (vars : ℕ)
    (whole : IsWhole q) (few : around ≤ q.levels) (are : AreUseRows q around fs rows)
    (many_cells : length cells ≡ length fs) (many_iters : length iters ≡ length q.origin) where
  abbrev s : Rows
  s = system vars rows (use_boxes q around cells iters)

  abbrev levels : ℕ
  levels = around + length fs

  boxes_long : around ≤ length q.system.boxes
  boxes_long = let e = whole.boxes in omega arith

  front_long : length (take around q.system.boxes ++ cells) ≡ levels
  front_long = let a = append_length (take around q.system.boxes) cells in let b = take_few around q.system.boxes boxes_long in omega arith

  all_long : levels ≤ length s.boxes
  all_long = let a = append_length (take around q.system.boxes ++ cells) (drop around q.system.boxes ++ iters) in let b = front_long in omega arith

  -- what a cell comes from
  abbrev Uses : List ℤ → Type 0
  Uses ys = (xs : List ℤ) × (In xs (instances q) × (ys ≡ take around xs ++ cell_at fs (iterators_at q xs)))

  pub is_used : (ys : List ℤ) → In ys (fronts levels s) → Uses ys
  is_used ys i =
      let f = in_fronts levels s all_long ys i in
      let a = inside_split (take around q.system.boxes) cells ys (subst (λ rs. InBox rs ys) (take_front levels (take around q.system.boxes ++ cells) (drop around q.system.boxes ++ iters) front_long) f.inside) in
      let b = inside_split (drop around q.system.boxes) iters f.hidden (subst (λ rs. InBox rs f.hidden) (drop_front levels (take around q.system.boxes ++ cells) (drop around q.system.boxes ++ iters) front_long) f.hidden_inside) in
      let pre = a.0 in
      let cs = a.1.0 in
      let inner = b.0 in
      let is = b.1.0 in
      let pre_long : length a.0 ≡ around = length_inside (take around q.system.boxes) a.0 a.1.1.1.0 ∙ take_few around q.system.boxes boxes_long in
      let whole_box : InBox q.system.boxes (a.0 ++ b.0) =
      subst (λ rs. InBox rs (a.0 ++ b.0)) (take-append-drop around q.system.boxes) (inside_join (take around q.system.boxes) (drop around q.system.boxes) a.0 b.0 a.1.1.1.0 b.1.1.1.0) in
      let long : length (a.0 ++ b.0) ≡ q.levels + q.hidden = length_inside q.system.boxes (a.0 ++ b.0) whole_box ∙ whole.boxes in
      let point : all_hold rows ((a.0 ++ a.1.0) ++ (b.0 ++ b.1.0)) ≡ true = ap₂ (λ v w. all_hold rows (v ++ w)) (sym a.1.1.0) (sym b.1.1.0) ∙ f.holds in
      let h = (are.hold a.0 a.1.0 b.0 b.1.0 pre_long (length_inside cells a.1.0 a.1.1.1.1 ∙ many_cells) long (length_inside iters b.1.0 b.1.1.1.1 ∙ many_iters)).0 point in
      let xs : List ℤ = take q.levels (a.0 ++ b.0) in
      let there : IsFront q.levels q.system (take q.levels (a.0 ++ b.0)) = record {
        inside = inside_take q.levels q.system.boxes (a.0 ++ b.0) whole_box;
        hidden = drop q.levels (a.0 ++ b.0);
        hidden_inside = inside_drop q.levels q.system.boxes (a.0 ++ b.0) whole_box;
        holds = ap (all_hold q.system.rows) (take-append-drop q.levels (a.0 ++ b.0)) ∙ h.0;
      } in (
        take q.levels (a.0 ++ b.0),
        (
          fronts_in q.levels q.system enough (take q.levels (a.0 ++ b.0)) there,
          a.1.1.0 ∙ ap₂ (λ v w. v ++ w) (sym (take_less around q.levels (a.0 ++ b.0) few ∙ take_front around a.0 b.0 pre_long)) (h.2 ∙ ap (cell_at fs) h.1),
        ),
      )
    where
      enough : q.levels ≤ length q.system.boxes
      enough = let e = whole.boxes in omega arith

  pub used : (xs : List ℤ) → In xs (instances q) → InBox iters (iterators_at q xs) → InBox cells (cell_at fs (iterators_at q xs))
      → In (take around xs ++ cell_at fs (iterators_at q xs)) (fronts levels s)
  used xs i in_iters in_cells =
      let f = in_fronts q.levels q.system enough xs i in
      let xs_long : length xs ≡ q.levels = length_inside (take q.levels q.system.boxes) xs f.inside ∙ take_few q.levels q.system.boxes enough in
      let whole_box : InBox q.system.boxes (xs ++ f.hidden) =
      subst (λ rs. InBox rs (xs ++ f.hidden)) (take-append-drop q.levels q.system.boxes) (inside_join (take q.levels q.system.boxes) (drop q.levels q.system.boxes) xs f.hidden f.inside f.hidden_inside) in
      let pre_is : take around (xs ++ f.hidden) ≡ take around xs = sym (take_less around q.levels (xs ++ f.hidden) few) ∙ ap (take around) (take_front q.levels xs f.hidden xs_long) in
      let pre_long : length (take around (xs ++ f.hidden)) ≡ around = take_few around (xs ++ f.hidden) (let a = append_length xs f.hidden in let b = xs_long in let c = few in omega arith) in
      let joined : take around (xs ++ f.hidden) ++ drop around (xs ++ f.hidden) ≡ xs ++ f.hidden = take-append-drop around (xs ++ f.hidden) in
      let long : length (take around (xs ++ f.hidden) ++ drop around (xs ++ f.hidden)) ≡ q.levels + q.hidden = ap (λ zs. length zs) joined ∙ length_inside q.system.boxes (xs ++ f.hidden) whole_box ∙ whole.boxes in
      let levels_are : take q.levels (take around (xs ++ f.hidden) ++ drop around (xs ++ f.hidden)) ≡ xs = ap (take q.levels) joined ∙ take_front q.levels xs f.hidden xs_long in
      let h = (are.hold (take around (xs ++ f.hidden)) (cell_at fs (iterators_at q xs)) (drop around (xs ++ f.hidden)) (iterators_at q xs) pre_long
      (map_length (λ g. value g (iterators_at q xs)) fs) long (map_length (λ o. value o xs) q.origin)).1
      (ap (all_hold q.system.rows) joined ∙ f.holds) (ap (iterators_at q) (sym levels_are)) refl in
      subst (λ pre. In (pre ++ cell_at fs (iterators_at q xs)) (fronts levels s)) pre_is
      (fronts_in levels s all_long (take around (xs ++ f.hidden) ++ cell_at fs (iterators_at q xs)) (record {
        inside = subst (λ rs. InBox rs (take around (xs ++ f.hidden) ++ cell_at fs (iterators_at q xs))) (sym (take_front levels (take around q.system.boxes ++ cells) (drop around q.system.boxes ++ iters) front_long))
            (inside_join (take around q.system.boxes) cells (take around (xs ++ f.hidden)) (cell_at fs (iterators_at q xs)) (inside_take around q.system.boxes (xs ++ f.hidden) whole_box) in_cells);
        hidden = drop around (xs ++ f.hidden) ++ iterators_at q xs;
        hidden_inside = subst (λ rs. InBox rs (drop around (xs ++ f.hidden) ++ iterators_at q xs)) (sym (drop_front levels (take around q.system.boxes ++ cells) (drop around q.system.boxes ++ iters) front_long))
            (inside_join (drop around q.system.boxes) iters (drop around (xs ++ f.hidden)) (iterators_at q xs) (inside_drop around q.system.boxes (xs ++ f.hidden) whole_box) in_iters);
        holds = h;
      }))
    where
      enough : q.levels ≤ length q.system.boxes
      enough = let e = whole.boxes in omega arith
