-- The ranges and the numbers of a piece over quotients keep to the limits.
use Rattle.std.proofs.Common.{◌≡◌, refl, sym, ap, ◌∙◌, subst, ℕ, zero, suc, ◌+◌, ◌*◌, ◌<◌, ◌≤◌, ◌^◌, ℤ, pos, ◌+ℤ◌, ◌*ℤ◌, unsigned_abs, true, List, [], ◌∷◌, map, length, take, get_or, set, inl, inr, arith, length-take-le}
use Rattle.ch_moved.specs.Room.{HasRoom, origin_range}
use Rattle.std.specs.List.{All}
use Rattle.std.specs.Int.{int_div_euclid}
use Rattle.std.proofs.lemmas.Int.{ints, unsigned_abs-mul}
use Rattle.std.proofs.lemmas.Nat.{mul-le}
use Rattle.std.proofs.lemmas.Bool.{and_from, and_parts, both_ways, cases_eq}
use Rattle.std.proofs.lemmas.List.{get_or-set_other, get_or-set_same, length-set}
use Rattle.std.proofs.lemmas.List.Elements.{All-map, All-take}
use Rattle.ch_affine.specs.Affine.{IsAtMost, IsSmall, dot}
use Rattle.ch_affine.specs.Form.{Form}
use Rattle.ch_affine.specs.Rows.{IsBox, lies_in}
use Rattle.ch_affine.specs.declared.system.Range.{Range}
use Rattle.ch_moved.specs.Changed.{AllLong}
use Rattle.ch_moved.specs.Reindexed.{IsReindexed}
use Rattle.ch_moved.specs.Spread.{column}
use Rattle.ch_moved.specs.Substituted.{substituted}
use Rattle.ch_moved.proofs.Elements.{reindexed_limits}
use Rattle.ch_moved.proofs.Limits.{at_most_at, far_more, farther, length_substituted, narrow_by, narrow_small}
use Rattle.ch_moved.proofs.Values.{IsWithin, le_to, lies_at}
use Rattle.ch_space.specs.declared.piece.Piece.{Piece}
use Rattle.ch_space.specs.Keeps.{IsBounded, IsLimited, IsNarrow, IsWhole, farthest}
use Rattle.ch_unroll.specs.Turns.{quotients, turn_boxes, turn_forms}
use Rattle.ch_unroll.proofs.Forms.{column_other, column_there, constants_turn, count_turn, each_turn, long_turn}
use Rattle.ch_unroll.proofs.Quotients.{quotient_grows, quotient_near}

-- what holds of all ranges, and of the quotients, holds of the new ranges
each_range : (P Q : Range → Type 0) (k amount : ℕ) (boxes : List Range) → k < length boxes → ((b : Range) → P b → Q b) → ((b : Range) → P b → Q (quotients amount b)) → All P boxes → All Q (turn_boxes k amount boxes)
each_range P Q k amount boxes l weaker there h j d m =
    let one = quotients amount (get_or boxes k origin_range) in
    let n = length-set boxes k one in
    elim (cases_eq j k) as (λ _. Q (get_or (set boxes k one) j d)) [
      | inl e ↦ subst Q (sym (ap (λ i. get_or (set boxes k one) i d) e ∙ get_or-set_same boxes k one d l)) (there (get_or boxes k origin_range) (h k origin_range l))
      | inr e ↦ subst Q (sym (get_or-set_other boxes k j one d e)) (weaker (get_or boxes j d) (h j d (omega arith)))
    ]

pub bounded_turn : (w c k amount : ℕ) (boxes : List Range) → 1 ≤ w → 1 ≤ amount → k < length boxes → All (IsBounded (farthest w c)) boxes → All (IsBounded (farthest (w * amount) (c + 1))) (turn_boxes k amount boxes)
bounded_turn w c k amount boxes some grows l h =
    let far = far_more w c amount some grows in
    each_range (IsBounded (farthest w c)) (IsBounded (farthest (w * amount) (c + 1))) k amount boxes l (λ b i. record { low = let m = i.low in omega arith; high = let m = i.high in omega arith })
    (λ b i. record { low = let m = i.low in let n = quotient_near b.low amount in omega arith; high = let m = i.high in let n = quotient_near b.high amount in omega arith }) h

pub boxes_turn : (k amount : ℕ) (boxes : List Range) → 1 ≤ amount → k < length boxes → All IsBox boxes → All IsBox (turn_boxes k amount boxes)
boxes_turn k amount boxes grows l h =
    each_range IsBox IsBox k amount boxes l (λ b i. i)
    (λ b i. record {
      low = let m = i.low in let n = quotient_near b.low amount in omega arith;
      high = let m = i.high in let n = quotient_near b.high amount in omega arith;
      some = quotient_grows amount b.low b.high grows i.some;
    })
    h

lies_set : (boxes : List Range) (xs : List ℤ) (k : ℕ) (r : Range) (v : ℤ) → lies_in boxes xs ≡ true → IsWithin r v → lies_in (set boxes k r) (set xs k v) ≡ true
lies_set [] [] k r v e w = refl
lies_set [] (x ∷ xs) k r v e w = absurd (both_ways _ refl e)
lies_set (b ∷ boxes) [] k r v e w = absurd (both_ways _ refl e)
lies_set (b ∷ boxes) (x ∷ xs) zero r v e w = and_from _ _ (and_from _ _ (le_to r.low v w.least) (le_to v r.high w.most)) (and_parts _ _ e).1
lies_set (b ∷ boxes) (x ∷ xs) (suc k) r v e w = and_from _ _ (and_parts _ _ e).0 (lies_set boxes xs k r v (and_parts _ _ e).1 w)

-- the quotient lies in its range
pub lies_turn : (k amount : ℕ) (boxes : List Range) (xs : List ℤ) → 1 ≤ amount → k < length boxes → lies_in boxes xs ≡ true
    → lies_in (turn_boxes k amount boxes) (set xs k (int_div_euclid (get_or xs k (pos 0)) (pos amount))) ≡ true
lies_turn k amount boxes xs grows l e =
    let at = lies_at boxes xs k origin_range e l in
    lies_set boxes xs k (quotients amount (get_or boxes k origin_range)) (int_div_euclid (get_or xs k (pos 0)) (pos amount)) e
    (record { least = quotient_grows amount _ _ grows at.least; most = quotient_grows amount _ _ grows at.most })

-- the forms of the iterators

times_near : (a : ℤ) (w n : ℕ) → IsAtMost w a → IsAtMost (w * n) (a *ℤ pos n)
times_near a w n h = subst (λ z. z ≤ w * n) (sym (unsigned_abs-mul a (pos n))) (mul-le (unsigned_abs a) n w n h (omega arith))

pub narrow_turn : (n k amount r w c : ℕ) (f : Form) → k < n → 1 ≤ w → 1 ≤ amount → r ≤ 2 ^ 20 → length f.coefs ≡ n → IsNarrow w c f → IsNarrow (w * amount) (c + 1) (substituted n (turn_forms n k amount r) f)
narrow_turn n k amount r w c f l some grows few e narrow =
    narrow_by n (turn_forms n k amount r) f (w * amount) (c + 1) (long_turn n k amount r l) (e ∙ sym (count_turn n k amount r))
    (λ j m. elim (cases_eq j k) as (λ _. IsAtMost (w * amount) (dot f.coefs (column j (turn_forms n k amount r)))) [
      | inl s ↦
          subst (λ i. IsAtMost (w * amount) (dot f.coefs (column i (turn_forms n k amount r)))) (sym s)
          (subst (IsAtMost (w * amount)) (sym (column_there f.coefs n k amount r l)) (times_near (get_or f.coefs k (pos 0)) w amount (at_most_at w f.coefs k narrow.coefs)))
      | inr s ↦
          let one : w * 1 ≤ w * amount = mul-le w 1 w amount (omega arith) grows in
          let b = at_most_at w f.coefs j narrow.coefs in
          subst (IsAtMost (w * amount)) (sym (column_other f.coefs n k j amount r l m s)) (omega arith)
    ])
    (let far = farther w c amount r some grows few in
    let one : farthest w c * 1 ≤ farthest w c * amount = mul-le (farthest w c) 1 (farthest w c) amount (omega arith) grows in
    let t = times_near (get_or f.coefs k (pos 0)) w r (at_most_at w f.coefs k narrow.coefs) in
    let b = narrow.constant in
    subst (IsAtMost (farthest (w * amount) (c + 1))) (sym (ap (λ z. f.constant +ℤ z) (constants_turn f.coefs n k amount r l))) (sum_near f.constant (get_or f.coefs k (pos 0) *ℤ pos r) (farthest w c) (w * r) _ b t (omega arith)))
  where
    sum_near : (a b : ℤ) (m n o : ℕ) → IsAtMost m a → IsAtMost n b → m + n ≤ o → IsAtMost o (a +ℤ b)
    sum_near a b m n o h i l = omega (arith, ints)

module _ (p : Piece) (k amount r : ℕ) (w : IsWhole p) (l : k < p.levels) (room : HasRoom amount p) (grows : 1 ≤ amount) (few : r ≤ 2 ^ 20) where
  pub ranges_count : length (take p.levels p.system.boxes) ≡ p.levels
  ranges_count = length-take-le p.levels p.system.boxes (let b = w.boxes in omega arith)

  pub boxes_count : length (turn_boxes k amount (take p.levels p.system.boxes)) ≡ p.levels
  boxes_count = length-set (take p.levels p.system.boxes) k (quotients amount (get_or (take p.levels p.system.boxes) k origin_range)) ∙ ranges_count

  pub long_forms : AllLong (length (turn_boxes k amount (take p.levels p.system.boxes))) (turn_forms p.levels k amount r)
  long_forms = subst (λ n. AllLong n (turn_forms p.levels k amount r)) (sym boxes_count) (long_turn p.levels k amount r l)

  pub near_forms : All (λ f. IsAtMost (2 ^ 59) f.constant) (turn_forms p.levels k amount r)
  near_forms = each_turn (λ f. IsAtMost (2 ^ 59) f.constant) p.levels k amount r l (omega arith) (λ j m. omega arith)

  pub are_boxes : All IsBox p.system.boxes → All IsBox (turn_boxes k amount (take p.levels p.system.boxes))
  are_boxes h = let n = ranges_count in boxes_turn k amount (take p.levels p.system.boxes) grows (omega arith) (All-take IsBox p.levels p.system.boxes h)

  pub few_variables : length (turn_boxes k amount (take p.levels p.system.boxes)) + (p.levels + p.hidden) ≤ 4096
  few_variables = let a = boxes_count in let m = room.limited.levels in let v = room.limited.variables in let c = room.few in omega arith

  pub origin_small : All (λ f. IsSmall (substituted (length (turn_boxes k amount (take p.levels p.system.boxes))) (turn_forms p.levels k amount r) f)) p.origin
  origin_small j d m =
      let f = get_or p.origin j d in
      let e = w.origin j d m in
      let a = room.few in
      let b = room.limited.levels in
      subst (λ n. IsSmall (substituted n (turn_forms p.levels k amount r) f)) (sym boxes_count)
      (narrow_small p.levels (substituted p.levels (turn_forms p.levels k amount r) f) (room.weight * amount) (room.commands + 1)
      (length_substituted p.levels (turn_forms p.levels k amount r) f (long_turn p.levels k amount r l) (e ∙ sym (count_turn p.levels k amount r))) b room.small (omega arith)
      (narrow_turn p.levels k amount r room.weight room.commands f l room.some grows few e (room.limited.origin j d m)))

  narrow_all : (weight commands : ℕ) (fs : List Form) → 1 ≤ weight → AllLong p.levels fs → All (IsNarrow weight commands) fs
      → All (IsNarrow (weight * amount) (commands + 1)) (map (substituted p.levels (turn_forms p.levels k amount r)) fs)
  narrow_all weight commands fs some a b =
      All-map (IsNarrow (weight * amount) (commands + 1)) (substituted p.levels (turn_forms p.levels k amount r)) fs
      (λ j d m. narrow_turn p.levels k amount r weight commands (get_or fs j d) l some grows few (a j d m) (b j d m))

  pub limits_turn : (q : Piece) (places : List ℕ) (weight commands : ℕ) → 1 ≤ weight → IsReindexed p (turn_forms p.levels k amount r) (turn_boxes k amount (take p.levels p.system.boxes)) [] places q
      → IsLimited weight commands p → IsLimited (weight * amount) (commands + 1) q
  limits_turn q places weight commands some i h =
      let n = ranges_count in
      let m = boxes_count in
      let o = h.levels in
      reindexed_limits p q (turn_forms p.levels k amount r) (turn_boxes k amount (take p.levels p.system.boxes)) [] places w (count_turn p.levels k amount r) long_forms i weight commands
      (weight * amount) h (omega arith) (bounded_turn weight commands k amount (take p.levels p.system.boxes) some grows (omega arith) h.boxes)
      (subst (λ n. All (IsNarrow (weight * amount) (commands + 1)) (map (substituted n (turn_forms p.levels k amount r)) p.origin)) (sym boxes_count)
      (narrow_all weight commands p.origin some w.origin h.origin))

-- The forms and the ranges, as the code has them, may be put into the piece.
pub record Fits (p : Piece) (gs : List Form) (boxes : List Range) : Type 0 where
  pub many : length gs ≡ p.levels
  pub long : AllLong (length boxes) gs
  pub near : All (λ f. IsAtMost (2 ^ 59) f.constant) gs
  pub ranges : All IsBox boxes
  pub few : length boxes + (p.levels + p.hidden) ≤ 4096
  pub boxed : length boxes ≡ p.levels
  pub origin : All (λ f. IsSmall (substituted (length boxes) gs f)) p.origin

pub fits : (p : Piece) (k amount r : ℕ) (gs : List Form) (boxes : List Range) → IsWhole p → k < p.levels → HasRoom amount p → 1 ≤ amount → r ≤ 2 ^ 20 → All IsBox p.system.boxes
    → gs ≡ turn_forms p.levels k amount r → boxes ≡ turn_boxes k amount (take p.levels p.system.boxes) → Fits p gs boxes
fits p k amount r gs boxes w l room grows few h e f =
    subst (λ z. Fits p z boxes) (sym e) (subst (λ z. Fits p (turn_forms p.levels k amount r) z) (sym f) (record {
      many = count_turn p.levels k amount r;
      long = long_forms p k amount r w l room grows few;
      near = near_forms p k amount r w l room grows few;
      ranges = are_boxes p k amount r w l room grows few h;
      few = few_variables p k amount r w l room grows few;
      boxed = boxes_count p k amount r w l room grows few;
      origin = origin_small p k amount r w l room grows few;
    }))
