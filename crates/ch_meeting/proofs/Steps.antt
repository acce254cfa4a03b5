-- What a draft asks for once a row more is in it.
use Rattle.std.proofs.Common.{◌≡◌, ◌≢◌, refl, sym, ap, ap₂, ◌∙◌, subst, ℕ, zero, suc, ◌+◌, ◌-◌, ◌<◌, ◌≤◌, ℤ, pos, ◌+ℤ◌, ◌-ℤ◌, ◌*ℤ◌, ◌≤ℤ◌, ◌<ℤ◌, Bool, true, false, ◌&&◌, int_le, List, [], ◌∷◌, ◌++◌, length, map, take, drop, get_or, ◌⊎◌, inl, inr, arith, ◌↔◌}
use Rattle.std.specs.Bool.{IsTrue}
use Rattle.std.proofs.lemmas.Bool.{and_parts, and_from, cases_lt}
use Rattle.std.proofs.lemmas.Int.{ints}
use Rattle.std.proofs.lemmas.List.{take_more, map_more, take_all, take-append-drop, get_or-drop, length-drop, length-take-le, same_from_push}
use Rattle.std.proofs.lemmas.List.Folds.{list_all_more}
use Rattle.ch_affine.specs.Affine.{dot, value}
use Rattle.ch_affine.specs.Form.{Form}
use Rattle.ch_affine.specs.Rows.{IsSystem, all_hold, lies_in}
use Rattle.ch_affine.specs.declared.system.Range.{Range}
use Rattle.ch_nest.specs.declared.nest.Access.{Access}
use Rattle.ch_nest.specs.declared.nest.Sub.{Sub}
use Rattle.ch_poly.specs.Boxes.{at}
use Rattle.ch_meeting.specs.declared.cells.Site.{Site}
use Rattle.ch_meeting.specs.declared.draft.Draft.{Draft}
use Rattle.ch_meeting.specs.declared.orders.Order.{Order}
use Rattle.ch_meeting.specs.Asked.{first_site, second_site}
use Rattle.ch_meeting.specs.Cases.{InOrder}
use Rattle.ch_meeting.specs.Drafts.{IsDraft, Narrows, part}
use Rattle.ch_meeting.specs.Placed.{HoldsAt, InModulus, IsSame, SameUpTo, TiedAt, left}
use Rattle.ch_meeting.proofs.Least.{le_true, lies_inside, narrowed_as, narrowed_twice, not_narrowed, true_le}
use Rattle.ch_meeting.proofs.Parts.{dot_take, part_long, value_part}
use Rattle.ch_space.specs.declared.piece.Piece.{Piece}
use Rattle.ch_space.specs.Keeps.{IsWhole}
use Rattle.ch_space.proofs.Membership.{length_inside}
use Rattle.ch_space.proofs.Rowed.{dot_front}

pub long_point : (boxes : List Range) (z : List ℤ) → IsTrue (lies_in boxes z) → length z ≡ length boxes
long_point boxes z i = length_inside boxes z (lies_inside boxes z i)

-- the one variable, in a later draft

pub still_one : (old new : Draft) (P : List ℤ → Type 0) (one : ℕ) → Narrows old new P → ((z : List ℤ) → IsTrue (lies_in old.boxes z) → at z one ≡ pos 1)
    → (z : List ℤ) → IsTrue (lies_in new.boxes z) → at z one ≡ pos 1
still_one old new P one a u z i = u z (subst (λ bs. IsTrue (lies_in bs z)) a.boxes i)

pub same_room : (old new : Draft) (P : List ℤ → Type 0) → Narrows old new P → length new.boxes ≡ length old.boxes
same_room old new P a = ap length a.boxes

-- iterators

abbrev pub TiedUpTo : ℕ → Piece → ℕ → ℕ → List ℤ → Type 0
TiedUpTo k p levels iters z = part iters k z ≡ map (λ f. value f (part levels p.levels z)) (take k p.origin)

pub tie_none : (d : Draft) (p : Piece) (levels iters : ℕ) → IsDraft d → Narrows d d (TiedUpTo 0 p levels iters)
tie_none d p levels iters i = not_narrowed d (TiedUpTo 0 p levels iters) i (λ z n. refl)

module _ (p : Piece) (old now next : Draft) (levels iters k : ℕ) (f d row : Form) (w : IsWhole p) (inside : iters + length p.origin ≤ length old.boxes) (l : k < length p.origin)
    (is : f ≡ get_or p.origin k d) (v : (z : List ℤ) → value row z ≡ value f (drop levels z) -ℤ at z (iters + k)) where
  tie_front : (z : List ℤ) → IsTrue (lies_in old.boxes z) → part iters (k + 1) z ≡ part iters k z ++ at z (iters + k) ∷ []
  tie_front z n =
      let e = long_point old.boxes z n in
      let m = length-drop iters z in
      take_more (drop iters z) k (pos 0) (omega arith) ∙ ap (λ x. part iters k z ++ x ∷ []) (get_or-drop iters z k (pos 0))

  tie_back : (z : List ℤ) → map (λ f. value f (part levels p.levels z)) (take (k + 1) p.origin)
      ≡ map (λ f. value f (part levels p.levels z)) (take k p.origin) ++ value f (drop levels z) ∷ []
  tie_back z =
      map_more (λ f. value f (part levels p.levels z)) p.origin k d l
      ∙ ap (λ x. map (λ f. value f (part levels p.levels z)) (take k p.origin) ++ x ∷ [])
      (ap (λ g. value g (part levels p.levels z)) (sym is) ∙ value_part f levels p.levels z
      (subst (λ g. length g.coefs ≤ p.levels) (sym is) (let c = w.origin k d l in omega arith)))

  pub tie_more : Narrows old now (TiedUpTo k p levels iters) → Narrows now next (λ z. value row z ≡ pos 0) → Narrows old next (TiedUpTo (k + 1) p levels iters)
  tie_more a b =
      narrowed_as old next (λ z. TiedUpTo k p levels iters z × (value row z ≡ pos 0)) (TiedUpTo (k + 1) p levels iters)
      (narrowed_twice old now next (TiedUpTo k p levels iters) (λ z. value row z ≡ pos 0) a b)
      (λ z n. (
        λ h. (let e = h.1 in let g = v z in
            let same : at z (iters + k) ≡ value f (drop levels z) = omega (arith, ints) in
            tie_front z n ∙ ap₂ (λ xs x. xs ++ x ∷ []) h.0 same ∙ sym (tie_back z)),
        λ h. (let s = same_from_push (part iters k z) (map (λ f. value f (part levels p.levels z)) (take k p.origin)) (at z (iters + k)) (value f (drop levels z))
            (sym (tie_front z n) ∙ h ∙ tie_back z) in
            (s.0, (let g = v z in let e = s.1 in omega (arith, ints)))),
      ))

pub tie_all : (p : Piece) (old now : Draft) (levels iters k : ℕ) → length p.origin ≤ k → k ≤ length p.origin → Narrows old now (TiedUpTo k p levels iters) → Narrows old now (TiedAt p levels iters)
tie_all p old now levels iters k l m a =
    let e : k ≡ length p.origin = omega arith in
    narrowed_as old now (TiedUpTo k p levels iters) (TiedAt p levels iters) a
    (λ z n. (
      λ h. subst (λ j. part iters j z ≡ map (λ f. value f (part levels p.levels z)) p.origin) e (h ∙ ap (map (λ f. value f (part levels p.levels z))) (take_all k p.origin l)),
      λ h. subst (λ j. part iters j z ≡ map (λ f. value f (part levels p.levels z)) p.origin) (sym e) h ∙ sym (ap (map (λ f. value f (part levels p.levels z))) (take_all k p.origin l)),
    ))

-- rows of a piece

abbrev pub Whole : Piece → ℕ → ℕ → List ℤ → List ℤ
Whole p levels hidden z = part levels p.levels z ++ part hidden p.hidden z

abbrev pub HeldUpTo : ℕ → Piece → ℕ → ℕ → List ℤ → Type 0
HeldUpTo k p levels hidden z = IsTrue (all_hold (take k p.system.rows) (Whole p levels hidden z))

pub hold_none : (d : Draft) (p : Piece) (levels hidden : ℕ) → IsDraft d → Narrows d d (HeldUpTo 0 p levels hidden)
hold_none d p levels hidden i = not_narrowed d (HeldUpTo 0 p levels hidden) i (λ z n. refl)

module _ (p : Piece) (old now next : Draft) (levels hidden k : ℕ) (f d row : Form) (w : IsWhole p) (s : IsSystem p.system) (after : levels + p.levels ≤ hidden)
    (inside : hidden + p.hidden ≤ length old.boxes) (l : k < length p.system.rows) (is : f ≡ get_or p.system.rows k d)
    (v : (z : List ℤ) → value row z ≡ f.constant +ℤ (dot (take p.levels f.coefs) (drop levels z) +ℤ dot (drop p.levels f.coefs) (drop hidden z))) where
  row_coefs : length f.coefs ≡ p.levels + p.hidden
  row_coefs = subst (λ g. length g.coefs ≡ p.levels + p.hidden) (sym is) (s.rows k d l ∙ w.variables)

  row_here : (z : List ℤ) → IsTrue (lies_in old.boxes z) → value row z ≡ value f (Whole p levels hidden z)
  row_here z n =
      let e = long_point old.boxes z n in
      let m = row_coefs in
      let front : length (take p.levels f.coefs) ≡ p.levels = length-take-le p.levels f.coefs (omega arith) in
      let back : length (drop p.levels f.coefs) ≡ p.hidden = length-drop p.levels f.coefs ∙ omega arith in
      let a = dot_front (take p.levels f.coefs) (drop p.levels f.coefs) (part levels p.levels z) (part hidden p.hidden z) (front ∙ sym (part_long levels p.levels z (omega arith))) in
      let b = ap (λ cs. dot cs (Whole p levels hidden z)) (take-append-drop p.levels f.coefs) in
      let c = dot_take (take p.levels f.coefs) (drop levels z) p.levels (omega arith) in
      let g = dot_take (drop p.levels f.coefs) (drop hidden z) p.hidden (omega arith) in
      v z ∙ omega (arith, ints, a, b, c, g)

  held_cut : (z : List ℤ) → all_hold (take (k + 1) p.system.rows) (Whole p levels hidden z)
      ≡ (all_hold (take k p.system.rows) (Whole p levels hidden z) && int_le (pos 0) (value f (Whole p levels hidden z)))
  held_cut z =
      list_all_more (λ g. int_le (pos 0) (value g (Whole p levels hidden z))) p.system.rows k d l
      ∙ ap (λ g. all_hold (take k p.system.rows) (Whole p levels hidden z) && int_le (pos 0) (value g (Whole p levels hidden z))) (sym is)

  pub hold_more : Narrows old now (HeldUpTo k p levels hidden) → Narrows now next (λ z. pos 0 ≤ℤ value row z) → Narrows old next (HeldUpTo (k + 1) p levels hidden)
  hold_more a b =
      narrowed_as old next (λ z. HeldUpTo k p levels hidden z × (pos 0 ≤ℤ value row z)) (HeldUpTo (k + 1) p levels hidden)
      (narrowed_twice old now next (HeldUpTo k p levels hidden) (λ z. pos 0 ≤ℤ value row z) a b)
      (λ z n. (
        λ h. held_cut z ∙ and_from (all_hold (take k p.system.rows) (Whole p levels hidden z)) (int_le (pos 0) (value f (Whole p levels hidden z))) h.0
            (le_true (pos 0) (value f (Whole p levels hidden z)) (subst (λ x. pos 0 ≤ℤ x) (row_here z n) h.1)),
        λ h. (let s = and_parts (all_hold (take k p.system.rows) (Whole p levels hidden z)) (int_le (pos 0) (value f (Whole p levels hidden z))) (sym (held_cut z) ∙ h) in
            (s.0, subst (λ x. pos 0 ≤ℤ x) (sym (row_here z n)) (true_le (pos 0) (value f (Whole p levels hidden z)) s.1))),
      ))

pub levels_same : (f row : Form) (n m levels hidden : ℕ) → n ≡ m → ((z : List ℤ) → value row z ≡ f.constant +ℤ (dot (take n f.coefs) (drop levels z) +ℤ dot (drop n f.coefs) (drop hidden z)))
    → (z : List ℤ) → value row z ≡ f.constant +ℤ (dot (take m f.coefs) (drop levels z) +ℤ dot (drop m f.coefs) (drop hidden z))
levels_same f row n m levels hidden e v z = v z ∙ ap (λ j. f.constant +ℤ (dot (take j f.coefs) (drop levels z) +ℤ dot (drop j f.coefs) (drop hidden z))) e

pub hold_all : (p : Piece) (old now : Draft) (levels hidden k : ℕ) → length p.system.rows ≤ k → Narrows old now (HeldUpTo k p levels hidden) → Narrows old now (HoldsAt p levels hidden)
hold_all p old now levels hidden k l a =
    subst (λ rows. Narrows old now (λ z. IsTrue (all_hold rows (Whole p levels hidden z)))) (take_all k p.system.rows l) a

-- subscripts

pub modulus_kept : (d : Draft) (s : Sub) (iters turn : ℕ) → IsDraft d → s.modulus ≡ 0 → Narrows d d (λ z. InModulus s (drop iters z) (at z turn))
modulus_kept d s iters turn i e = not_narrowed d (λ z. InModulus s (drop iters z) (at z turn)) i (λ z n m. absurd (m e))

pub modulus_pushed : (old mid new : Draft) (s : Sub) (iters turn one : ℕ) (low high : Form) → s.modulus ≢ 0 → ((z : List ℤ) → IsTrue (lies_in old.boxes z) → at z one ≡ pos 1)
    → ((z : List ℤ) → value low z ≡ left s (drop iters z) (at z turn))
    → ((z : List ℤ) → at z one ≡ pos 1 → value high z ≡ (pos s.modulus -ℤ pos 1) -ℤ left s (drop iters z) (at z turn))
    → Narrows old mid (λ z. pos 0 ≤ℤ value low z) → Narrows mid new (λ z. pos 0 ≤ℤ value high z) → Narrows old new (λ z. InModulus s (drop iters z) (at z turn))
modulus_pushed old mid new s iters turn one low high some u v w a b =
    narrowed_as old new (λ z. (pos 0 ≤ℤ value low z) × (pos 0 ≤ℤ value high z)) (λ z. InModulus s (drop iters z) (at z turn))
    (narrowed_twice old mid new (λ z. pos 0 ≤ℤ value low z) (λ z. pos 0 ≤ℤ value high z) a b)
    (λ z n. (
      λ h m. (let x = h.0 in let y = h.1 in (omega (arith, ints, v z), omega (arith, ints, w z (u z n)))),
      λ h. (let p = h some in let x = p.0 in let y = p.1 in (omega (arith, ints, v z), omega (arith, ints, w z (u z n)))),
    ))

pub same_pushed : (old mid then new : Draft) (s t : Sub) (here there : Site) (one : ℕ) (row : Form) → ((z : List ℤ) → IsTrue (lies_in old.boxes z) → at z one ≡ pos 1)
    → ((z : List ℤ) → at z one ≡ pos 1 → value row z ≡ left s (drop here.iters z) (at z here.turns) -ℤ left t (drop there.iters z) (at z there.turns))
    → Narrows old mid (λ z. value row z ≡ pos 0) → Narrows mid then (λ z. InModulus s (drop here.iters z) (at z here.turns))
    → Narrows then new (λ z. InModulus t (drop there.iters z) (at z there.turns))
    → Narrows old new (λ z. IsSame s t (drop here.iters z) (drop there.iters z) (at z here.turns) (at z there.turns))
same_pushed old mid then new s t here there one row u v a b c =
    narrowed_as old new (λ z. (value row z ≡ pos 0) × (InModulus s (drop here.iters z) (at z here.turns) × InModulus t (drop there.iters z) (at z there.turns)))
    (λ z. IsSame s t (drop here.iters z) (drop there.iters z) (at z here.turns) (at z there.turns))
    (narrowed_twice old mid new (λ z. value row z ≡ pos 0) (λ z. InModulus s (drop here.iters z) (at z here.turns) × InModulus t (drop there.iters z) (at z there.turns)) a
    (narrowed_twice mid then new (λ z. InModulus s (drop here.iters z) (at z here.turns)) (λ z. InModulus t (drop there.iters z) (at z there.turns)) b c))
    (λ z n. (
      λ h. (h.1.0, h.1.1, (let e = h.0 in omega (arith, ints, v z (u z n)))),
      λ h. ((let e = h.2 in omega (arith, ints, v z (u z n))), (h.0, h.1)),
    ))

pub same_none : (d : Draft) (a b : Access) (here there : Site) → IsDraft d → Narrows d d (SameUpTo 0 a b here there)
same_none d a b here there i = not_narrowed d (SameUpTo 0 a b here there) i (λ z n k x y l. absurd (omega arith))

module _ (a b : Access) (here there : Site) (k : ℕ) (s t : Sub) (is : (d : Sub) → s ≡ get_or a.subs k d) (are : (d : Sub) → t ≡ get_or b.subs k d) where
  abbrev Now : List ℤ → Type 0
  Now z = IsSame s t (drop here.iters z) (drop there.iters z) (at z (here.turns + k)) (at z (there.turns + k))

  same_one_more : (z : List ℤ) → SameUpTo k a b here there z → Now z → SameUpTo (k + 1) a b here there z
  same_one_more z h n j d e l = by (cases_lt j k)
    where
      by : (j < k) ⊎ (k ≤ j) → IsSame (get_or a.subs j d) (get_or b.subs j e) (drop here.iters z) (drop there.iters z) (at z (here.turns + j)) (at z (there.turns + j))
      by (inl m) = h j d e m
      by (inr m) = (let q : k ≡ j = omega arith in
          subst (λ i. IsSame (get_or a.subs i d) (get_or b.subs i e) (drop here.iters z) (drop there.iters z) (at z (here.turns + i)) (at z (there.turns + i))) q
          (subst (λ x. IsSame x (get_or b.subs k e) (drop here.iters z) (drop there.iters z) (at z (here.turns + k)) (at z (there.turns + k))) (is d)
          (subst (λ x. IsSame s x (drop here.iters z) (drop there.iters z) (at z (here.turns + k)) (at z (there.turns + k))) (are e) n)))

  pub same_more : (old now next : Draft) → Narrows old now (SameUpTo k a b here there) → Narrows now next Now → Narrows old next (SameUpTo (k + 1) a b here there)
  same_more old now next x y =
      narrowed_as old next (λ z. SameUpTo k a b here there z × Now z) (SameUpTo (k + 1) a b here there)
      (narrowed_twice old now next (SameUpTo k a b here there) Now x y)
      (λ z n. (
        λ h. same_one_more z h.0 h.1,
        λ h. (
          λ j d e l. h j d e (omega arith),
          subst (λ x. IsSame x t (drop here.iters z) (drop there.iters z) (at z (here.turns + k)) (at z (there.turns + k))) (sym (is s))
              (subst (λ x. IsSame (get_or a.subs k s) x (drop here.iters z) (drop there.iters z) (at z (here.turns + k)) (at z (there.turns + k))) (sym (are t)) (h k s t (omega arith))),
        ),
      ))

-- orders

abbrev pub AgreeUpTo : ℕ → ℕ → ℕ → List ℤ → Type 0
AgreeUpTo k first second z = (j : ℕ) → j < k → at (drop first z) j ≡ at (drop second z) j

pub agree_none : (d : Draft) (first second : ℕ) → IsDraft d → Narrows d d (AgreeUpTo 0 first second)
agree_none d first second i = not_narrowed d (AgreeUpTo 0 first second) i (λ z n j l. absurd (omega arith))

pub agree_more : (old now next : Draft) (first second k : ℕ) (row : Form) → ((z : List ℤ) → value row z ≡ pos 0 +ℤ (at z (second + k) -ℤ at z (first + k)))
    → Narrows old now (AgreeUpTo k first second) → Narrows now next (λ z. value row z ≡ pos 0) → Narrows old next (AgreeUpTo (k + 1) first second)
agree_more old now next first second k row v a b =
    narrowed_as old next (λ z. AgreeUpTo k first second z × (value row z ≡ pos 0)) (AgreeUpTo (k + 1) first second)
    (narrowed_twice old now next (AgreeUpTo k first second) (λ z. value row z ≡ pos 0) a b)
    (λ z n. (λ h. to z h.0 h.1, λ h. ((λ j l. h j (omega arith)), from z (h k (omega arith)))))
  where
    from : (z : List ℤ) → at (drop first z) k ≡ at (drop second z) k → value row z ≡ pos 0
    from z e = (let x = get_or-drop first z k (pos 0) in let y = get_or-drop second z k (pos 0) in omega (arith, ints, v z))

    here : (z : List ℤ) → value row z ≡ pos 0 → at (drop first z) k ≡ at (drop second z) k
    here z e = (let x = get_or-drop first z k (pos 0) in let y = get_or-drop second z k (pos 0) in omega (arith, ints, v z))

    at_last : (z : List ℤ) → AgreeUpTo k first second z → value row z ≡ pos 0 → (j : ℕ) → j < k + 1 → (j < k) ⊎ (k ≤ j) → at (drop first z) j ≡ at (drop second z) j
    at_last z h e j l (inl m) = h j m
    at_last z h e j l (inr m) = (let q : k ≡ j = omega arith in subst (λ i. at (drop first z) i ≡ at (drop second z) i) q (here z e))

    to : (z : List ℤ) → AgreeUpTo k first second z → value row z ≡ pos 0 → AgreeUpTo (k + 1) first second z
    to z h e j l = at_last z h e j l (cases_lt j k)

pub in_order_all : (old new : Draft) (o : Order) (first second k : ℕ) → o.equal ≤ k → k ≤ o.equal → o.less ≡ false → Narrows old new (AgreeUpTo k first second)
    → Narrows old new (λ z. InOrder o (drop first z) (drop second z))
in_order_all old new o first second k l m e a =
    narrowed_as old new (AgreeUpTo k first second) (λ z. InOrder o (drop first z) (drop second z)) a
    (λ z n. (
      λ h. record { same = λ j i. h j (omega arith); less = λ t. never o.less e t },
      λ h j i. h.same j (omega arith),
    ))
  where
    never : {A : Type 0} (b : Bool) → b ≡ false → IsTrue b → A
    never b e t = absurd (Rattle.std.proofs.lemmas.Bool.both_ways b e t)

pub in_order_next : (old mid new : Draft) (o : Order) (first second k : ℕ) (row : Form) → o.equal ≤ k → k ≤ o.equal → o.less ≡ true
    → ((z : List ℤ) → value row z ≡ Rattle.std.proofs.Common.negsuc 0 +ℤ (at z (second + o.equal) -ℤ at z (first + o.equal))) → Narrows old mid (AgreeUpTo k first second)
    → Narrows mid new (λ z. pos 0 ≤ℤ value row z) → Narrows old new (λ z. InOrder o (drop first z) (drop second z))
in_order_next old mid new o first second k row l m e v a b =
    narrowed_as old new (λ z. AgreeUpTo k first second z × (pos 0 ≤ℤ value row z)) (λ z. InOrder o (drop first z) (drop second z))
    (narrowed_twice old mid new (AgreeUpTo k first second) (λ z. pos 0 ≤ℤ value row z) a b)
    (λ z n. (
      λ h. record { same = λ j i. h.0 j (omega arith); less = λ t. to z h.1 },
      λ h. ((λ j i. h.same j (omega arith)), from z (h.less e)),
    ))
  where
    to : (z : List ℤ) → pos 0 ≤ℤ value row z → at (drop first z) o.equal <ℤ at (drop second z) o.equal
    to z h = (let x = get_or-drop first z o.equal (pos 0) in let y = get_or-drop second z o.equal (pos 0) in omega (arith, ints, v z))

    from : (z : List ℤ) → at (drop first z) o.equal <ℤ at (drop second z) o.equal → pos 0 ≤ℤ value row z
    from z h = (let x = get_or-drop first z o.equal (pos 0) in let y = get_or-drop second z o.equal (pos 0) in omega (arith, ints, v z))

-- where the parts of two accesses stand
pub sites_same : (old new : Draft) (n : ℕ) (a b : Access) (p q : Piece) (iters i j k : ℕ) → i ≡ length p.origin → j ≡ length q.origin → k ≡ length a.subs
    → Narrows old new (SameUpTo n a b (record { iters = iters; turns = iters + i + j }) (record { iters = iters + i; turns = iters + i + j + k }))
    → Narrows old new (SameUpTo n a b (first_site p q iters) (second_site p q a iters))
sites_same old new n a b p q iters i j k e f g h =
    subst (λ u. Narrows old new (SameUpTo n a b (record { iters = iters; turns = iters + u + length q.origin }) (record { iters = iters + u; turns = iters + u + length q.origin + length a.subs }))) e
    (subst (λ u. Narrows old new (SameUpTo n a b (record { iters = iters; turns = iters + i + u }) (record { iters = iters + i; turns = iters + i + u + length a.subs }))) f
    (subst (λ u. Narrows old new (SameUpTo n a b (record { iters = iters; turns = iters + i + j }) (record { iters = iters + i; turns = iters + i + j + u }))) g h))
