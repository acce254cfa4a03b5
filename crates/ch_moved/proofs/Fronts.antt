-- What the points of a system over new variables begin with.
use Rattle.std.proofs.Common.{◌≡◌, refl, sym, ap, ◌∙◌, subst, ℕ, zero, suc, ◌+◌, ◌≤◌, ◌↔◌, ℤ, ◌≤ℤ◌, int_le, true, ◌&&◌, List, [], ◌∷◌, ◌++◌, map, length, take, drop, arith, take-append-drop, length-take-le, take_at, drop_at, length-append, length-drop}
use Rattle.std.specs.Bool.{IsTrue}
use Rattle.std.specs.List.{All}
use Rattle.std.proofs.lemmas.Bool.{and_parts}
use Rattle.std.proofs.lemmas.Int.{ints}
use Rattle.std.proofs.lemmas.List.Elements.{All-weaker}
use Rattle.ch_affine.specs.Form.{Form}
use Rattle.ch_affine.specs.Affine.{IsSmall}
use Rattle.ch_affine.specs.Rows.{Rows, all_hold, lies_in, system}
use Rattle.ch_affine.specs.declared.system.Range.{Range}
use Rattle.ch_moved.specs.Changed.{AllLong, AreConditions, StandOver, IsChanged, fronts}
use Rattle.ch_moved.specs.Spread.{ties, widened}
use Rattle.ch_moved.specs.Substituted.{image, substituted}
use Rattle.ch_moved.proofs.HiddenTies.{rows_parts, rows_joined, rows_substituted, rows_widened, ties_hold, ties_held}
use Rattle.ch_poly.specs.Points.{begins, begins_some, box_points, points}
use Rattle.ch_poly.proofs.Firsts.{InBox}
use Rattle.ch_space.proofs.Membership.{in_filter, filter_in, any_from, any_in, in_box_points, box_points_in, length_inside, begins_take, take_begins}
use Rattle.ch_timed.specs.Members.{In}

-- boxes

test_low : (l x : ℤ) → int_le l x ≡ true → l ≤ℤ x
test_low l x t = grind (arith, ints)

low_test : (l x : ℤ) → l ≤ℤ x → int_le l x ≡ true
low_test l x h = grind (arith, ints)

pub lies_inside : (rs : List Range) (xs : List ℤ) → IsTrue (lies_in rs xs) → InBox rs xs
lies_inside [] [] t = tt
lies_inside [] (x ∷ xs) t = absurd cc
lies_inside (r ∷ rs) [] t = absurd cc
lies_inside (r ∷ rs) (x ∷ xs) t =
    let p = and_parts (int_le r.low x && int_le x r.high) (lies_in rs xs) t in
    let q = and_parts (int_le r.low x) (int_le x r.high) p.0 in
    (test_low r.low x q.0, test_low x r.high q.1, lies_inside rs xs p.1)

pub inside_lies : (rs : List Range) (xs : List ℤ) → InBox rs xs → IsTrue (lies_in rs xs)
inside_lies [] [] b = refl
inside_lies [] (x ∷ xs) b = absurd b
inside_lies (r ∷ rs) [] b = absurd b
inside_lies (r ∷ rs) (x ∷ xs) b = rw (low_test r.low x b.0, low_test x r.high b.1) (inside_lies rs xs b.2)

inside_parts : (n : ℕ) (rs : List Range) (xs : List ℤ) → InBox rs xs → InBox (take n rs) (take n xs) × InBox (drop n rs) (drop n xs)
inside_parts zero rs xs b = (tt, b)
inside_parts (suc n) [] [] b = (tt, tt)
inside_parts (suc n) [] (x ∷ xs) b = absurd b
inside_parts (suc n) (r ∷ rs) [] b = absurd b
inside_parts (suc n) (r ∷ rs) (x ∷ xs) b = let p = inside_parts n rs xs b.2 in ((b.0, b.1, p.0), p.1)

inside_both : (rs qs : List Range) (xs hs : List ℤ) → InBox rs xs → InBox qs hs → InBox (rs ++ qs) (xs ++ hs)
inside_both [] qs [] hs b c = c
inside_both [] qs (x ∷ xs) hs b c = absurd b
inside_both (r ∷ rs) qs [] hs b c = absurd b
inside_both (r ∷ rs) qs (x ∷ xs) hs b c = (b.0, b.1, inside_both rs qs xs hs b.2 c)

-- values of the first variables, with hidden ones behind them at which the rows hold
pub record IsFront (n : ℕ) (s : Rows) (xs : List ℤ) : Type 0 where
  pub inside : InBox (take n s.boxes) xs
  pub hidden : List ℤ
  pub hidden_inside : InBox (drop n s.boxes) hidden
  pub holds : all_hold s.rows (xs ++ hidden) ≡ true

module _ (n : ℕ) (s : Rows) (few : n ≤ length s.boxes) where
  pub in_fronts : (xs : List ℤ) → In xs (fronts n s) → IsFront n s xs
  in_fronts xs i =
      let f = in_filter (begins_some s) (box_points (take n s.boxes)) xs i in
      let a = any_from (begins xs) (points s) f.1 in
      let p = in_filter (all_hold s.rows) (box_points s.boxes) a.0 a.1.0 in
      let inside = in_box_points (take n s.boxes) xs f.0 in
      let long : length xs ≡ n = length_inside (take n s.boxes) xs inside ∙ length-take-le n s.boxes few in
      let first : take n a.0 ≡ xs = ap (λ m. take m a.0) (sym long) ∙ begins_take xs a.0 a.1.1 in
      record {
        inside = inside;
        hidden = drop n a.0;
        hidden_inside = (inside_parts n s.boxes a.0 (in_box_points s.boxes a.0 p.0)).1;
        holds = ap (λ z. all_hold s.rows (z ++ drop n a.0)) (sym first) ∙ ap (all_hold s.rows) (take-append-drop n a.0) ∙ p.1;
      }

  pub fronts_in : (xs : List ℤ) → IsFront n s xs → In xs (fronts n s)
  fronts_in xs h =
      let long : length xs ≡ n = length_inside (take n s.boxes) xs h.inside ∙ length-take-le n s.boxes few in
      let point : List ℤ = xs ++ h.hidden in
      let inside : InBox s.boxes point = subst (λ rs. InBox rs point) (take-append-drop n s.boxes) (inside_both (take n s.boxes) (drop n s.boxes) xs h.hidden h.inside h.hidden_inside) in
      let front : begins xs point ≡ true = ap (λ z. begins z point) (sym (take_at xs h.hidden n long)) ∙ take_begins n point in
      filter_in (begins_some s) (box_points (take n s.boxes)) xs (box_points_in (take n s.boxes) xs h.inside)
      (any_in (begins xs) (points s) point (filter_in (all_hold s.rows) (box_points s.boxes) point (box_points_in s.boxes point inside) h.holds) front)

-- Over values of the new variables in the boxes, the new rows hold with some hidden values exactly where the extra rows hold and
-- the values of the forms are a front of the old system.
pub record Agrees (old : Rows) (gs : List Form) (boxes : List Range) (extra : List Form) (s : Rows) : Type 0 where
  pub old_few : length gs ≤ length old.boxes
  pub new_few : length boxes ≤ length s.boxes
  pub boxes_are : take (length boxes) s.boxes ≡ boxes
  pub forth : (ys zs : List ℤ) → IsTrue (lies_in boxes ys) → InBox (drop (length boxes) s.boxes) zs → all_hold s.rows (ys ++ zs) ≡ true
      → (all_hold extra ys ≡ true) × IsFront (length gs) old (image gs ys)
  pub back : (ys : List ℤ) → IsTrue (lies_in boxes ys) → all_hold extra ys ≡ true → IsFront (length gs) old (image gs ys)
      → (zs : List ℤ) × (InBox (drop (length boxes) s.boxes) zs × (all_hold s.rows (ys ++ zs) ≡ true))

fronts_agree : (old : Rows) (gs : List Form) (boxes : List Range) (extra : List Form) (s : Rows) → Agrees old gs boxes extra s
    → (ys : List ℤ) → In ys (fronts (length boxes) s) ↔ (IsTrue (lies_in boxes ys) × IsTrue (all_hold extra ys) × In (image gs ys) (fronts (length gs) old))
fronts_agree old gs boxes extra s a ys = (
  (λ i.
      let f = in_fronts (length boxes) s a.new_few ys i in
      let inside = inside_lies boxes ys (subst (λ rs. InBox rs ys) a.boxes_are f.inside) in
      let r = a.forth ys f.hidden inside f.hidden_inside f.holds in
      (inside, r.0, fronts_in (length gs) old a.old_few (image gs ys) r.1)),
  (λ h.
      let b = a.back ys h.0 h.1 (in_fronts (length gs) old a.old_few (image gs ys) h.2) in
      fronts_in (length boxes) s a.new_few ys (record {
        inside = subst (λ rs. InBox rs ys) (sym a.boxes_are) (lies_inside boxes ys h.0);
        hidden = b.0;
        hidden_inside = b.1.0;
        holds = b.1.1;
      })),
)

-- the conditions

module _ (old : Rows) (gs : List Form) (boxes : List Range) (extra conditions : List Form) (c : AreConditions boxes gs (take (length gs) old.boxes) extra conditions) where
  met : (ys : List ℤ) → IsTrue (lies_in boxes ys) → all_hold conditions ys ≡ true → (all_hold extra ys ≡ true) × InBox (take (length gs) old.boxes) (image gs ys)
  met ys i h =
      let p = and_parts (all_hold extra ys) (lies_in (take (length gs) old.boxes) (image gs ys)) (sym (c.hold ys i) ∙ h) in
      (p.0, lies_inside (take (length gs) old.boxes) (image gs ys) p.1)

  meet : (ys : List ℤ) → IsTrue (lies_in boxes ys) → all_hold extra ys ≡ true → InBox (take (length gs) old.boxes) (image gs ys) → all_hold conditions ys ≡ true
  meet ys i h b = let t : lies_in (take (length gs) old.boxes) (image gs ys) ≡ true = inside_lies (take (length gs) old.boxes) (image gs ys) b in c.hold ys i ∙ rw (h, t) refl

-- a system whose rows are followed by the conditions, and whose boxes by those of the hidden variables
abbrev pub Joins : List Form → List Form → List Range → List Range → Rows → Type 0
Joins rows conditions boxes hidden s =
    s ≡ system (length boxes + length hidden) (rows ++ map (widened (length hidden)) conditions) (boxes ++ hidden)

module _ (rows conditions : List Form) (boxes hidden : List Range) (s : Rows) (j : Joins rows conditions boxes hidden s) where
  front_boxes : take (length boxes) s.boxes ≡ boxes
  front_boxes = ap (λ z. take (length boxes) z.boxes) j ∙ take_at boxes hidden (length boxes) refl

  hidden_boxes : drop (length boxes) s.boxes ≡ hidden
  hidden_boxes = ap (λ z. drop (length boxes) z.boxes) j ∙ drop_at boxes hidden (length boxes) refl

  enough : length boxes ≤ length s.boxes
  enough = let e = ap (λ z. length z.boxes) j ∙ length-append boxes hidden in omega arith

  module _ (long : AllLong (length boxes) conditions) (ys zs : List ℤ) (e : length ys ≡ length boxes) where
    last_hold : all_hold (map (widened (length hidden)) conditions) (ys ++ zs) ≡ all_hold conditions ys
    last_hold = rows_widened (length hidden) conditions ys zs (subst (λ n. AllLong n conditions) (sym e) long)

    joined_parts : all_hold s.rows (ys ++ zs) ≡ true → (all_hold rows (ys ++ zs) ≡ true) × (all_hold conditions ys ≡ true)
    joined_parts h =
        let p = rows_parts rows (map (widened (length hidden)) conditions) (ys ++ zs) (ap (λ z. all_hold z.rows (ys ++ zs)) (sym j) ∙ h) in
        (p.0, sym last_hold ∙ p.1)

    joined_both : all_hold rows (ys ++ zs) ≡ true → all_hold conditions ys ≡ true → all_hold s.rows (ys ++ zs) ≡ true
    joined_both h g = ap (λ z. all_hold z.rows (ys ++ zs)) j ∙ rows_joined rows (map (widened (length hidden)) conditions) (ys ++ zs) h (last_hold ∙ g)

-- what is known of the old system and the forms
pub record IsGiven (old : Rows) (gs : List Form) (boxes : List Range) (extra added : List Form) : Type 0 where
  pub long : AllLong (length boxes) gs
  pub variables : length old.boxes ≡ old.vars
  pub few : length gs ≤ old.vars
  pub rows : AllLong old.vars old.rows
  pub conditions : AreConditions boxes gs (take (length gs) old.boxes) extra added

wide_rows : (d n : ℕ) (fs : List Form) → d ≤ n → AllLong n fs → All (λ f. d ≤ length f.coefs) fs
wide_rows d n fs l a = All-weaker (λ f. length f.coefs ≡ n) (λ f. d ≤ length f.coefs) (λ f e. subst (λ m. d ≤ m) (sym e) l) fs a

module _ (old : Rows) (gs : List Form) (boxes : List Range) (extra conditions : List Form) (s : Rows) (g : IsGiven old gs boxes extra conditions) where
  abbrev ranges : List Range
  ranges = take (length gs) old.boxes

  few_given : length gs ≤ length old.boxes
  few_given = subst (λ n. length gs ≤ n) (sym g.variables) g.few

  long_point : (ys : List ℤ) → IsTrue (lies_in boxes ys) → length ys ≡ length boxes
  long_point ys i = length_inside boxes ys (lies_inside boxes ys i)

  -- each row with the forms put in
  module _ (j : Joins (map (substituted (length boxes) gs) old.rows) conditions boxes (drop (length gs) old.boxes) s) where
    put_in : (ys hs : List ℤ) → length ys ≡ length boxes
        → all_hold (map (substituted (length boxes) gs) old.rows) (ys ++ hs) ≡ all_hold old.rows (image gs ys ++ hs)
    put_in ys hs e = rows_substituted (length boxes) gs old.rows ys hs e g.long (wide_rows (length gs) old.vars old.rows g.few g.rows)

    pub plain_agrees : Agrees old gs boxes extra s
    plain_agrees = record {
      old_few = few_given;
      new_few = enough _ conditions boxes _ s j;
      boxes_are = front_boxes _ conditions boxes _ s j;
      forth = λ ys zs i b h.
          let e = long_point ys i in
          let p = joined_parts _ conditions boxes _ s j g.conditions.long ys zs e h in
          let m = met old gs boxes extra conditions g.conditions ys i p.1 in
          (m.0, record { inside = m.1; hidden = zs; hidden_inside = subst (λ rs. InBox rs zs) (hidden_boxes _ conditions boxes _ s j) b; holds = sym (put_in ys zs e) ∙ p.0 });
      back = λ ys i h f.
          let e = long_point ys i in (
            f.hidden,
            (
              subst (λ rs. InBox rs f.hidden) (sym (hidden_boxes _ conditions boxes _ s j)) f.hidden_inside,
              joined_both _ conditions boxes _ s j g.conditions.long ys f.hidden e (put_in ys f.hidden e ∙ f.holds)
                  (meet old gs boxes extra conditions g.conditions ys i h f.inside),
            ),
          );
    }

  -- the old variables as hidden ones
  module _ (rows : List Form) (t : StandOver (ties 0 old.vars gs) (length boxes) old.vars gs old.rows rows) (j : Joins rows conditions boxes old.boxes s) where
    split : (ys zs : List ℤ) → all_hold rows (ys ++ zs) ≡ true → (all_hold (ties 0 old.vars gs) (ys ++ zs) ≡ true) × (all_hold t.over (ys ++ zs) ≡ true)
    split ys zs h = rows_parts (ties 0 old.vars gs) t.over (ys ++ zs) (ap (λ fs. all_hold fs (ys ++ zs)) (sym t.behind) ∙ h)

    tied_front : (ys zs : List ℤ) → length ys ≡ length boxes → InBox old.boxes zs → all_hold (ties 0 old.vars gs) (ys ++ zs) ≡ true → take (length gs) zs ≡ image gs ys
    tied_front ys zs e b h =
        let n : length (take (length gs) zs) ≡ length gs = length_inside ranges (take (length gs) zs) (inside_parts (length gs) old.boxes zs b).0 ∙ length-take-le (length gs) old.boxes few_given in
        ties_held 0 old.vars gs ys [] (take (length gs) zs) (drop (length gs) zs) (subst (λ m. AllLong m gs) (sym e) g.long) refl n
        (ap (λ z. all_hold (ties 0 old.vars gs) (ys ++ z)) (take-append-drop (length gs) zs) ∙ h)

    tied_forth : (ys zs : List ℤ) → IsTrue (lies_in boxes ys) → InBox old.boxes zs → all_hold s.rows (ys ++ zs) ≡ true
        → (all_hold extra ys ≡ true) × IsFront (length gs) old (image gs ys)
    tied_forth ys zs i b h =
        let e = long_point ys i in
        let p = joined_parts rows conditions boxes old.boxes s j g.conditions.long ys zs e h in
        let m = met old gs boxes extra conditions g.conditions ys i p.1 in
        let q = split ys zs p.0 in
        let same : zs ≡ image gs ys ++ drop (length gs) zs = sym (take-append-drop (length gs) zs) ∙ ap (λ z. z ++ drop (length gs) zs) (tied_front ys zs e b q.0) in (
          m.0,
          record {
            inside = m.1;
            hidden = drop (length gs) zs;
            hidden_inside = (inside_parts (length gs) old.boxes zs b).1;
            holds = sym (t.are.hold ys (drop (length gs) zs) e) ∙ ap (λ z. all_hold t.over (ys ++ z)) (sym same) ∙ q.1;
          },
        )

    tied_back : (ys : List ℤ) → IsTrue (lies_in boxes ys) → all_hold extra ys ≡ true → IsFront (length gs) old (image gs ys)
        → (zs : List ℤ) × (InBox old.boxes zs × (all_hold s.rows (ys ++ zs) ≡ true))
    tied_back ys i h f =
        let e = long_point ys i in
        let zs : List ℤ = image gs ys ++ f.hidden in
        let first = ties_hold 0 old.vars gs ys [] f.hidden (subst (λ m. AllLong m gs) (sym e) g.long) refl in
        let both = rows_joined (ties 0 old.vars gs) t.over (ys ++ zs) first (t.are.hold ys f.hidden e ∙ f.holds) in (
          zs,
          (
            subst (λ rs. InBox rs zs) (take-append-drop (length gs) old.boxes) (inside_both ranges (drop (length gs) old.boxes) (image gs ys) f.hidden f.inside f.hidden_inside),
            joined_both rows conditions boxes old.boxes s j g.conditions.long ys zs e (ap (λ fs. all_hold fs (ys ++ zs)) t.behind ∙ both)
                (meet old gs boxes extra conditions g.conditions ys i h f.inside),
          ),
        )

    pub tied_agrees : Agrees old gs boxes extra s
    tied_agrees = record {
      old_few = few_given;
      new_few = enough rows conditions boxes old.boxes s j;
      boxes_are = front_boxes rows conditions boxes old.boxes s j;
      forth = λ ys zs i b h. tied_forth ys zs i (subst (λ rs. InBox rs zs) (hidden_boxes rows conditions boxes old.boxes s j) b) h;
      back = λ ys i h f.
          let r = tied_back ys i h f in
          (r.0, (subst (λ rs. InBox rs r.0) (sym (hidden_boxes rows conditions boxes old.boxes s j)) r.1.0, r.1.1));
    }

  length_joined : (rows : List Form) (hidden : List Range) → Joins rows conditions boxes hidden s → s.vars ≡ length boxes + length hidden
  length_joined rows hidden j = ap (λ z. z.vars) j

  pub plain_changed : Joins (map (substituted (length boxes) gs) old.rows) conditions boxes (drop (length gs) old.boxes) s → IsChanged old gs boxes extra s
  plain_changed j =
      let v = length_joined _ _ j in
      let d = length-drop (length gs) old.boxes in
      let f = g.few in
      let b = g.variables in
      record {
        boxes = front_boxes _ conditions boxes _ s j;
        least = omega arith;
        most = omega arith;
        plain = λ small. omega arith;
        is_front = fronts_agree old gs boxes extra s (plain_agrees j);
      }

  pub tied_changed : (rows : List Form) → StandOver (ties 0 old.vars gs) (length boxes) old.vars gs old.rows rows → Joins rows conditions boxes old.boxes s
      → (All (λ f. IsSmall (substituted (length boxes) gs f)) old.rows → ⊥) → IsChanged old gs boxes extra s
  tied_changed rows t j large =
      let v = length_joined rows old.boxes j in
      let b = g.variables in
      record {
        boxes = front_boxes rows conditions boxes old.boxes s j;
        least = omega arith;
        most = omega arith;
        plain = λ small. absurd (large small);
        is_front = fronts_agree old gs boxes extra s (tied_agrees rows t j);
      }
