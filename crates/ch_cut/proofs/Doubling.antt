-- Places doubled one by one, and the rows of a half.
use Rattle.std.proofs.Common.{◌≡◌, refl, sym, ap, ◌∙◌, subst, ℕ, zero, suc, ◌+◌, ◌-◌, ◌*◌, ◌<◌, ◌≤◌, ◌^◌, ℤ, pos, ◌+ℤ◌, ◌*ℤ◌, Bool, true, false, if◌then◌else◌, nat_eq, List, [], ◌∷◌, ◌++◌, length, map, take, get_or, set, arith, length-append, length-take-le}
use Rattle.ch_moved.specs.Room.{HasRoom}
use Rattle.std.specs.List.{All}
use Rattle.std.proofs.lemmas.Bool.{and_from, and_parts, ltb-true, le-leb}
use Rattle.std.proofs.lemmas.Bool.Decides.{nat_tests}
use Rattle.std.proofs.lemmas.Int.{ints}
use Rattle.std.proofs.lemmas.List.{get_or-map, get_or-set_other, get_or-set_same, length-map, length-set, map-append, take_all, take_more}
use Rattle.std.proofs.lemmas.List.Elements.{All-cons, All-nil}
use Rattle.ch_affine.specs.Affine.{IsAtMost, IsSmall}
use Rattle.ch_affine.specs.Form.{Form}
use Rattle.ch_affine.specs.Rows.{IsBox}
use Rattle.ch_affine.specs.declared.system.Range.{Range}
use Rattle.ch_cut.specs.Parts.{doubled}
use Rattle.ch_cut.proofs.UnitColumns.{all_small, long_units}
use Rattle.ch_moved.specs.Arguments.{beside}
use Rattle.ch_moved.specs.Spread.{widened}
use Rattle.ch_moved.specs.Substituted.{substituted}
use Rattle.ch_moved.proofs.Values.{length_zeros}
use Rattle.ch_space.specs.Built.{units, zeros}
use Rattle.ch_space.specs.declared.piece.Piece.{Piece}
use Rattle.ch_space.specs.Keeps.{IsWhole}
use Rattle.ch_space.proofs.NestLimits.{length_units}
use Rattle.ch_space.proofs.PieceNumbers.{lists_same, same_lists}
use Rattle.ch_timed.specs.Vectors.{shares}

new_place : (place more : ℕ) → pos place *ℤ pos 2 +ℤ pos more ≡ pos (place * 2 + more)
new_place place more = omega (arith, ints)

place_by : (b : Bool) (k level more : ℕ) (ps : List ℕ) (x : ℕ) → nat_eq k (level - 1) ≡ b → k < length ps → x ≡ (if b then get_or ps k 0 * 2 + more else get_or ps k 0)
    → get_or (doubled level (pos more) (map pos ps)) k (pos 0) ≡ pos x
place_by true k level more ps x e l h =
    let s : k ≡ level - 1 = grind (arith, nat_tests) in
    let m = length-map ps pos in
    let g = get_or-map pos ps k 0 (pos 0) l in
    ap (λ j. get_or (set (map pos ps) (level - 1) (get_or (map pos ps) (level - 1) (pos 0) *ℤ pos 2 +ℤ pos more)) j (pos 0)) s
    ∙ get_or-set_same (map pos ps) (level - 1) (get_or (map pos ps) (level - 1) (pos 0) *ℤ pos 2 +ℤ pos more) (pos 0) (omega arith)
    ∙ ap (λ j. get_or (map pos ps) j (pos 0) *ℤ pos 2 +ℤ pos more) (sym s) ∙ ap (λ z. z *ℤ pos 2 +ℤ pos more) g ∙ new_place (get_or ps k 0) more ∙ ap pos (sym h)
place_by false k level more ps x e l h =
    let g = get_or-map pos ps k 0 (pos 0) l in
    get_or-set_other (map pos ps) (level - 1) k (get_or (map pos ps) (level - 1) (pos 0) *ℤ pos 2 +ℤ pos more) (pos 0) (λ s. differ s) ∙ g ∙ ap pos (sym h)
  where
    differ : k ≡ level - 1 → ⊥
    differ s = grind (arith, nat_tests)

pub next_doubled : (b : Bool) (k level more : ℕ) (ps new next : List ℕ) (x : ℕ) → nat_eq k (level - 1) ≡ b → k < length ps → x ≡ (if b then get_or ps k 0 * 2 + more else get_or ps k 0)
    → map pos new ≡ take k (doubled level (pos more) (map pos ps)) → next ≡ new ++ x ∷ [] → map pos next ≡ take (k + 1) (doubled level (pos more) (map pos ps))
next_doubled b k level more ps new next x e l h i n =
    let d = doubled level (pos more) (map pos ps) in
    let m = length-map ps pos in
    let s = length-set (map pos ps) (level - 1) (get_or (map pos ps) (level - 1) (pos 0) *ℤ pos 2 +ℤ pos more) in
    let j : k < length d = omega arith in
    ap (map pos) n ∙ map-append pos new (x ∷ []) ∙ ap (λ z. z ++ pos x ∷ []) i ∙ ap (λ z. take k d ++ z ∷ []) (sym (place_by b k level more ps x e l h)) ∙ sym (take_more d k (pos 0) j)

pub all_doubled : (k level more : ℕ) (ps new : List ℕ) → length ps ≤ k → map pos new ≡ take k (doubled level (pos more) (map pos ps)) → map pos new ≡ doubled level (pos more) (map pos ps)
all_doubled k level more ps new l i =
    let m = length-map ps pos in
    let s = length-set (map pos ps) (level - 1) (get_or (map pos ps) (level - 1) (pos 0) *ℤ pos 2 +ℤ pos more) in
    i ∙ take_all k (doubled level (pos more) (map pos ps)) (omega arith)

-- who shares a loop stands in it

take_less : (n k : ℕ) (xs : List ℤ) → n ≤ k → take n (take k xs) ≡ take n xs
take_less zero k xs h = refl
take_less (suc n) zero xs h = absurd (omega arith)
take_less (suc n) (suc k) [] h = refl
take_less (suc n) (suc k) (x ∷ xs) h = ap (λ t. x ∷ t) (take_less n k xs (omega arith))

pub shares_beside : (level : ℕ) (ours ps : List ℤ) → shares level ours ps ≡ true → beside level ours ps ≡ true
shares_beside level ours ps h =
    let a = and_parts _ _ h in
    let l = ltb-true level (length ps) (and_parts _ _ a.0).1 in
    let e = same_lists (take level ours) (take level ps) a.1 in
    let f : take (level - 1) ours ≡ take (level - 1) ps = sym (take_less (level - 1) level ours (omega arith)) ∙ ap (take (level - 1)) e ∙ take_less (level - 1) level ps (omega arith) in
    and_from _ _ (le-leb level (length ps) (omega arith)) (lists_same (take (level - 1) ours) (take (level - 1) ps) f)

-- what a half needs

pub record Fits (p : Piece) (forms extra : List Form) (boxes : List Range) : Type 0 where
  pub many : length forms ≡ p.levels
  pub long : All (λ f. length f.coefs ≡ length boxes) forms
  pub near : All (λ f. IsAtMost (2 ^ 59) f.constant) forms
  pub extra_long : All (λ f. length f.coefs ≡ length boxes) extra
  pub ranges : All IsBox boxes
  pub origin : All (λ f. IsSmall (substituted (length boxes) forms f)) p.origin

near_units : (before n : ℕ) → All (λ f. IsAtMost (2 ^ 59) f.constant) (units before n)
near_units before zero = All-nil (λ f. IsAtMost (2 ^ 59) f.constant)
near_units before (suc n) = All-cons (λ f. IsAtMost (2 ^ 59) f.constant) _ (units (suc before) n) (omega arith) (near_units (suc before) n)

fits_by : (p : Piece) (row : Form) → IsWhole p → HasRoom 1 p → length row.coefs ≤ p.levels → All IsBox p.system.boxes
    → Fits p (units 0 p.levels) (widened (p.levels - length row.coefs) row ∷ []) (take p.levels p.system.boxes)
fits_by p row w room short each =
    let b = w.boxes in
    let e : length (take p.levels p.system.boxes) ≡ p.levels = length-take-le p.levels p.system.boxes (omega arith) in
    let one : room.weight * 1 ≡ room.weight = omega arith in
    let l = room.limited in
    let c = room.few in
    let levels = l.levels in
    record {
      many = length_units 0 p.levels;
      long = subst (λ n. All (λ f. length f.coefs ≡ n) (units 0 p.levels)) (sym e) (long_units p.levels);
      near = near_units 0 p.levels;
      extra_long =
          All-cons (λ f. length f.coefs ≡ length (take p.levels p.system.boxes)) (widened (p.levels - length row.coefs) row) []
          (let a = length-append row.coefs (zeros (p.levels - length row.coefs)) in let z = length_zeros (p.levels - length row.coefs) in omega arith)
          (All-nil (λ f. length f.coefs ≡ length (take p.levels p.system.boxes)));
      ranges = λ k d h. boxes_at p.levels k d h;
      origin = subst (λ n. All (λ f. IsSmall (substituted n (units 0 p.levels) f)) p.origin) (sym e) (all_small p.levels p.origin room.weight room.commands w.origin levels (let h = room.small in omega arith) (omega arith) l.origin);
    }
  where
    take_at : (n k : ℕ) (rs : List Range) (d : Range) → k < length (take n rs) → (k < length rs) × (get_or (take n rs) k d ≡ get_or rs k d)
    take_at zero k rs d h = absurd (omega arith)
    take_at (suc n) k [] d h = absurd (omega arith)
    take_at (suc n) zero (r ∷ rs) d h = (omega arith, refl)
    take_at (suc n) (suc k) (r ∷ rs) d h = let t = take_at n k rs d (omega arith) in (let l = t.0 in omega arith, t.1)

    boxes_at : (n k : ℕ) (d : Range) → k < length (take n p.system.boxes) → IsBox (get_or (take n p.system.boxes) k d)
    boxes_at n k d h = let t = take_at n k p.system.boxes d h in subst IsBox (sym t.1) (each k d t.0)

pub fits : (p : Piece) (row : Form) (forms extra : List Form) (boxes : List Range) → IsWhole p → HasRoom 1 p → length row.coefs ≤ p.levels → All IsBox p.system.boxes → forms ≡ units 0 p.levels
    → extra ≡ widened (p.levels - length row.coefs) row ∷ [] → boxes ≡ take p.levels p.system.boxes → Fits p forms extra boxes
fits p row forms extra boxes w room short each f x b =
    subst (λ z. Fits p z extra boxes) (sym f) (subst (λ z. Fits p (units 0 p.levels) z boxes) (sym x) (subst (λ z. Fits p (units 0 p.levels) (widened (p.levels - length row.coefs) row ∷ []) z) (sym b) (fits_by p row w room short each)))
