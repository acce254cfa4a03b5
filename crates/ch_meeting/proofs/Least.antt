-- The least point of a draft, from that of its system; rows that are added to a draft.
use Rattle.std.proofs.Common.{◌≡◌, refl, sym, ap, ◌∙◌, subst, ◌≤◌, ℤ, pos, neg_ℤ, ◌≤ℤ◌, true, ◌&&◌, int_le, Option, Some, None, Result, Ok, Err, IfOk, List, [], ◌∷◌, ◌++◌, length, map, take, is_some, IfSome, MatchOption, ◌+◌, ◌<◌, length-append, Bool, ℕ, append-nil, append_assoc, arith, ◌↔◌}
use Rattle.std.specs.Bool.{IsTrue}
use Rattle.std.specs.List.{All}
use Rattle.std.specs.declared.alloc.AllocError.{AllocError}
use Rattle.std.proofs.lemmas.Bool.{and_parts, and_from}
use Rattle.std.proofs.lemmas.Int.{ints}
use Rattle.std.proofs.lemmas.List.{length-map, take_all, take_at, take-append-le}
use Rattle.std.proofs.lemmas.List.Elements.{All-push}
use Rattle.std.proofs.lemmas.List.Folds.{list_all-append}
use Rattle.ch_affine.specs.Affine.{form, value}
use Rattle.ch_affine.specs.Form.{Form}
use Rattle.ch_affine.specs.Rows.{IsSystem, Rows, all_hold, lies_in, system}
use Rattle.ch_affine.specs.declared.system.Range.{Range}
use Rattle.ch_poly.specs.declared.exclusion.Excluded.{Excluded}
use Rattle.ch_poly.specs.Points.{box_points, first, points}
use Rattle.ch_poly.proofs.Firsts.{InBox}
use Rattle.ch_timed.specs.Members.{In}
use Rattle.ch_meeting.specs.declared.draft.Draft.{Draft}
use Rattle.ch_meeting.specs.Drafts.{Fits, IsDraft, IsLeastFit, Narrows, NoneFits, system_of}
use Rattle.ch_meeting.proofs.Stretches.{dot_neg}
use Rattle.ch_space.proofs.EndsOf.{first_before, first_in, none_first, points_ascend}
use Rattle.ch_space.proofs.Membership.{box_points_in, filter_in, in_box_points, in_filter}

-- the two ways to lie in ranges

pub le_true : (a b : ℤ) → a ≤ℤ b → int_le a b ≡ true
le_true a b h = grind (arith, ints)

pub true_le : (a b : ℤ) → int_le a b ≡ true → a ≤ℤ b
true_le a b h = grind (arith, ints)

pub inside_lies : (boxes : List Range) (z : List ℤ) → InBox boxes z → IsTrue (lies_in boxes z)
inside_lies [] [] i = refl
inside_lies [] (x ∷ z) i = absurd i
inside_lies (b ∷ boxes) [] i = absurd i
inside_lies (b ∷ boxes) (x ∷ z) i = and_from (int_le b.low x && int_le x b.high) (lies_in boxes z) (and_from (int_le b.low x) (int_le x b.high) (le_true b.low x i.0) (le_true x b.high i.1)) (inside_lies boxes z i.2)

pub lies_inside : (boxes : List Range) (z : List ℤ) → IsTrue (lies_in boxes z) → InBox boxes z
lies_inside [] [] h = tt
lies_inside [] (x ∷ z) h = absurd cc
lies_inside (b ∷ boxes) [] h = absurd cc
lies_inside (b ∷ boxes) (x ∷ z) h =
    let p = and_parts (int_le b.low x && int_le x b.high) (lies_in boxes z) h in
    let q = and_parts (int_le b.low x) (int_le x b.high) p.0 in
    (true_le b.low x q.0, true_le x b.high q.1, lies_inside boxes z p.1)

-- the least point

fits_point : (d : Draft) (z : List ℤ) → Fits d z → In z (points (system_of d))
fits_point d z f = filter_in (all_hold d.rows) (box_points d.boxes) z (box_points_in d.boxes z (lies_inside d.boxes z f.inside)) f.holds

point_fits : (d : Draft) (z : List ℤ) → In z (points (system_of d)) → Fits d z
point_fits d z i =
    let f = in_filter (all_hold d.rows) (box_points d.boxes) z i in
    record { inside = inside_lies d.boxes z (in_box_points d.boxes z f.0); holds = f.1 }

pub least_first : (d : Draft) (point : Option (List ℤ)) → point ≡ first (points (system_of d)) → IsLeastFit d point
least_first d None e = λ z f. none_first (points (system_of d)) (sym e) z (fits_point d z f)
least_first d (Some z) e = (
  point_fits d z (first_in (points (system_of d)) z (sym e)),
  λ y f. first_before (points (system_of d)) z (points_ascend (system_of d)) (sym e) y (fits_point d y f),
)

pub least_found : (d : Draft) (s : Rows) (r : Result (Option (List ℤ)) AllocError) → s ≡ system_of d → IfOk r (λ point. point ≡ first (points s)) → IfOk r (λ point. IsLeastFit d point)
least_found d s (Err o) e h = tt
least_found d s (Ok point) e h = least_first d point (h ∙ ap (λ t. first (points t)) e)

pub draft_system : (d : Draft) → IsDraft d → IsSystem (system_of d)
draft_system d i = record { few = i.few; rows = i.rows; boxes = refl; each = i.each }

-- further rows

all_pushed : (rows : List Form) (row : Form) (z : List ℤ) → all_hold (rows ++ row ∷ []) z ≡ (all_hold rows z && (int_le (pos 0) (value row z) && true))
all_pushed rows row z = list_all-append (λ f. int_le (pos 0) (value f z)) rows (row ∷ [])

pub pushed_row : (old new : Draft) (row : Form) → IsDraft old → length row.coefs ≡ length old.boxes → new.boxes ≡ old.boxes → new.rows ≡ old.rows ++ row ∷ []
    → Narrows old new (λ z. pos 0 ≤ℤ value row z)
pushed_row old new row d l b e = record {
  boxes = b;
  rows = subst (All (λ f. length f.coefs ≡ length old.boxes)) (sym e) (All-push (λ f. length f.coefs ≡ length old.boxes) old.rows row d.rows l);
  exact = λ z n. (
    λ h. (let p = and_parts _ _ (sym (all_pushed old.rows row z) ∙ ap (λ rows. all_hold rows z) (sym e) ∙ h) in
        (p.0, true_le (pos 0) (value row z) (and_parts _ _ p.1).0)),
    λ p. ap (λ rows. all_hold rows z) e ∙ all_pushed old.rows row z ∙ and_from _ _ p.0 (and_from _ _ (le_true (pos 0) (value row z) p.1) refl),
  );
  added = row ∷ [];
  behind = e;
}

-- one narrowing after another
pub narrowed_twice : (old mid new : Draft) (P Q : List ℤ → Type 0) → Narrows old mid P → Narrows mid new Q → Narrows old new (λ z. P z × Q z)
narrowed_twice old mid new P Q a b = record {
  boxes = b.boxes ∙ a.boxes;
  rows = subst (λ boxes. All (λ f. length f.coefs ≡ length boxes) new.rows) a.boxes b.rows;
  exact = λ z n. (
    λ h. (let q = (b.exact z (subst (λ bs. IsTrue (lies_in bs z)) (sym a.boxes) n)).0 h in
        let p = (a.exact z n).0 q.0 in
        (p.0, (p.1, q.1))),
    λ p. (b.exact z (subst (λ bs. IsTrue (lies_in bs z)) (sym a.boxes) n)).1 ((a.exact z n).1 (p.0, p.1.0), p.1.1),
  );
  added = a.added ++ b.added;
  behind = b.behind ∙ ap (λ rows. rows ++ b.added) a.behind ∙ append_assoc old.rows a.added b.added;
}

pub narrowed_as : (old new : Draft) (P Q : List ℤ → Type 0) → Narrows old new P → ((z : List ℤ) → IsTrue (lies_in old.boxes z) → P z ↔ Q z) → Narrows old new Q
narrowed_as old new P Q a f = record {
  boxes = a.boxes;
  rows = a.rows;
  exact = λ z n. (
    λ h. (let p = (a.exact z n).0 h in (p.0, (f z n).0 p.1)),
    λ q. (a.exact z n).1 (q.0, (f z n).1 q.1),
  );
  added = a.added;
  behind = a.behind;
}

pub not_narrowed : (d : Draft) (P : List ℤ → Type 0) → IsDraft d → ((z : List ℤ) → IsTrue (lies_in d.boxes z) → P z) → Narrows d d P
not_narrowed d P i f = record {
  boxes = refl;
  rows = i.rows;
  exact = λ z n. (λ h. (h, f z n), λ p. p.0);
  added = [];
  behind = sym (append-nil d.rows);
}

pub narrowed_draft : (old new : Draft) (P : List ℤ → Type 0) → IsDraft old → Narrows old new P → IsDraft new
narrowed_draft old new P i a = record {
  few = subst (λ boxes. length boxes ≤ 4096) (sym a.boxes) i.few;
  each = subst (All Rattle.ch_affine.specs.Rows.IsBox) (sym a.boxes) i.each;
  rows = subst (λ boxes. All (λ f. length f.coefs ≡ length boxes) new.rows) (sym a.boxes) a.rows;
}

value_opposite : (row other : Form) (z : List ℤ) → other ≡ form (map neg_ℤ row.coefs) (neg_ℤ row.constant) → value other z ≡ neg_ℤ (value row z)
value_opposite row other z e = ap (λ f. value f z) e ∙ (let d = dot_neg row.coefs z in omega (arith, ints))

pub pushed_both : (old mid new : Draft) (row other : Form) → IsDraft old → length row.coefs ≡ length old.boxes → other ≡ form (map neg_ℤ row.coefs) (neg_ℤ row.constant)
    → mid.boxes ≡ old.boxes → mid.rows ≡ old.rows ++ row ∷ [] → new.boxes ≡ mid.boxes → new.rows ≡ mid.rows ++ other ∷ [] → Narrows old new (λ z. value row z ≡ pos 0)
pushed_both old mid new row other i l o b e c f =
    let a = pushed_row old mid row i l b e in
    let m = narrowed_draft old mid (λ z. pos 0 ≤ℤ value row z) i a in
    let k : length other.coefs ≡ length mid.boxes = ap (λ g. length g.coefs) o ∙ length-map row.coefs neg_ℤ ∙ l ∙ sym (ap length b) in
    narrowed_as old new (λ z. (pos 0 ≤ℤ value row z) × (pos 0 ≤ℤ value other z)) (λ z. value row z ≡ pos 0)
    (narrowed_twice old mid new (λ z. pos 0 ≤ℤ value row z) (λ z. pos 0 ≤ℤ value other z) a (pushed_row mid new other m k c f))
    (λ z n. (
      λ p. (let v = value_opposite row other z o in let g = p.0 in let h = p.1 in omega (arith, ints)),
      λ h. (let v = value_opposite row other z o in (omega (arith, ints), omega (arith, ints))),
    ))

pub narrowed_thrice : (old one two new : Draft) (P Q R : List ℤ → Type 0) → Narrows old one P → Narrows one two Q → Narrows two new R → Narrows old new (λ z. P z × Q z × R z)
narrowed_thrice old one two new P Q R a b c =
    narrowed_as old new (λ z. P z × (Q z × R z)) (λ z. P z × Q z × R z) (narrowed_twice old one new P (λ z. Q z × R z) a (narrowed_twice one two new Q R b c))
    (λ z n. (λ h. (h.0, h.1.0, h.1.1), λ h. (h.0, (h.1, h.2))))

pub narrowed_four : (old one two three new : Draft) (P Q R S : List ℤ → Type 0) → Narrows old one P → Narrows one two Q → Narrows two three R → Narrows three new S
    → Narrows old new (λ z. P z × Q z × R z × S z)
narrowed_four old one two three new P Q R S a b c d =
    narrowed_as old new (λ z. P z × (Q z × R z × S z)) (λ z. P z × Q z × R z × S z) (narrowed_twice old one new P (λ z. Q z × R z × S z) a (narrowed_thrice one two three new Q R S b c d))
    (λ z n. (λ h. (h.0, h.1.0, h.1.1, h.1.2), λ h. (h.0, (h.1, h.2, h.3))))

-- a draft is given back as it was

pub same_draft : (d e : Draft) → d.boxes ≡ e.boxes → d.rows ≡ e.rows → d ≡ e
same_draft d e b r = λ i. record { boxes = b i; rows = r i }

pub kept_rows : (old mid new : Draft) (P : List ℤ → Type 0) (n : ℕ) → Narrows old mid P → n ≡ length old.rows → new.boxes ≡ mid.boxes → new.rows ≡ take n mid.rows → new ≡ old
kept_rows old mid new P n a e b r =
    same_draft new old (b ∙ a.boxes) (r ∙ ap (take n) a.behind ∙ take_at old.rows a.added n (sym e))

-- where the solver excludes a point, none fits
pub told_excluded : (d : Draft) (s : Rows) (o : Option Excluded) (b : Bool) → s ≡ system_of d → IfSome o (λ e. points s ≡ []) → b ≡ is_some o → IsTrue b → NoneFits d
told_excluded d s None b e h i t = absurd (Rattle.std.proofs.lemmas.Bool.both_ways b i t)
told_excluded d s (Some x) b e h i t = λ z f. subst (In z) (ap (λ r. points r) (sym e) ∙ h) (fits_point d z f)

-- a row less
pub popped : (count : ℕ) (old new : List Form) (o : Option Form) → MatchOption o ((old ≡ []) × (new ≡ [])) (λ last. old ≡ new ++ last ∷ []) → count < length old
    → (take count new ≡ take count old) × (length new < length old)
popped count old new None h l = absurd (let e : length old ≡ 0 = ap length h.0 in omega arith)
popped count old new (Some last) h l =
    let e : length old ≡ length new + 1 = ap length h ∙ length-append new (last ∷ []) in
    let f : count ≤ length new = omega arith in
    (sym (ap (take count) h ∙ take-append-le count new (last ∷ []) f), omega arith)

pub kept_all : (count : ℕ) (old new : List Form) → length new ≤ count → take count new ≡ take count old → new ≡ take count old
kept_all count old new l e = sym (take_all count new l) ∙ e
