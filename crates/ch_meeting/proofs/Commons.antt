-- Drafts of queries, and the pairs that have the same iterators.
use Rattle.std.proofs.Common.{◌≡◌, refl, sym, ap, ap₂, ◌∙◌, subst, ℕ, ◌+◌, ◌≤◌, ◌^◌, ℤ, Bool, false, Option, Some, None, List, [], ◌∷◌, ◌++◌, length, take, drop, is_some, arith, ◌↔◌, append-nil, length-append}
use Rattle.std.specs.Bool.{IsTrue}
use Rattle.std.specs.List.{All}
use Rattle.std.proofs.lemmas.Bool.{both_ways}
use Rattle.std.proofs.lemmas.List.{length-map}
use Rattle.std.proofs.lemmas.List.Elements.{All-append, All-nil}
use Rattle.ch_affine.specs.Affine.{IsAtMost, value}
use Rattle.ch_affine.specs.Rows.{IsBox, IsSystem, all_hold, lies_in}
use Rattle.ch_affine.specs.declared.system.Range.{Range}
use Rattle.ch_poly.proofs.Firsts.{InBox}
use Rattle.ch_timed.specs.Members.{In}
use Rattle.ch_timed.proofs.Orders.{map_in}
use Rattle.ch_meeting.specs.declared.draft.Draft.{Draft}
use Rattle.ch_meeting.specs.Asked.{AreCommon, Asks, common_boxes, pair_size}
use Rattle.ch_meeting.specs.Drafts.{IsDraft, IsLeastFit, Narrows, NoneFits, part}
use Rattle.ch_meeting.specs.Meeting.{HaveCommon, IsPlain, iters_at}
use Rattle.ch_meeting.specs.Placed.{HoldsAt, TiedAt, pair_boxes, wides}
use Rattle.ch_meeting.proofs.Layouts.{length_wides, near_inside, pair_each, wides_boxes}
use Rattle.ch_meeting.proofs.Least.{inside_lies, lies_inside, narrowed_draft}
use Rattle.ch_meeting.proofs.Parts.{behind_at, both_inside, hidden_long, hidden_of, joined, levels_long, pair_instances, pair_joined}
use Rattle.ch_space.specs.declared.piece.Piece.{Piece}
use Rattle.ch_space.specs.Keeps.{IsWhole}
use Rattle.ch_space.specs.Pieces.{element_at, elements, instances}
use Rattle.ch_space.proofs.EndsOf.{at_all}
use Rattle.ch_space.proofs.Membership.{length_inside}

-- drafts

pub fresh_draft : (d : Draft) (boxes : List Range) → d.boxes ≡ boxes → d.rows ≡ [] → length boxes ≤ 4096 → All IsBox boxes → IsDraft d
fresh_draft d boxes e f few each = record {
  few = subst (λ bs. length bs ≤ 4096) (sym e) few;
  each = subst (All IsBox) (sym e) each;
  rows = subst (All (λ f. length f.coefs ≡ length d.boxes)) (sym f) (All-nil (λ f. length f.coefs ≡ length d.boxes));
}

pub asked : (d new : Draft) (boxes : List Range) (P : List ℤ → Type 0) → d.boxes ≡ boxes → d.rows ≡ [] → length boxes ≤ 4096 → All IsBox boxes → Narrows d new P → Asks new boxes P
asked d new boxes P e f few each a = record {
  boxes_are = a.boxes ∙ e;
  draft = narrowed_draft d new P (fresh_draft d boxes e f few each) a;
  exact = λ z. (
    λ h. (let i = subst (λ bs. IsTrue (lies_in bs z)) (a.boxes ∙ e) h.inside in
        (i, ((a.exact z (subst (λ bs. IsTrue (lies_in bs z)) (sym e) i)).0 h.holds).1)),
    λ p. record {
      inside = subst (λ bs. IsTrue (lies_in bs z)) (sym (a.boxes ∙ e)) p.0;
      holds = (a.exact z (subst (λ bs. IsTrue (lies_in bs z)) (sym e) p.0)).1 (ap (λ rows. all_hold rows z) f, p.1);
    },
  );
}

-- one more thing that is asked
pub asks_more : (d new : Draft) (boxes : List Range) (P Q : List ℤ → Type 0) → Asks d boxes P → Narrows d new Q → Asks new boxes (λ z. P z × Q z)
asks_more d new boxes P Q k a = record {
  boxes_are = a.boxes ∙ k.boxes_are;
  draft = narrowed_draft d new Q k.draft a;
  exact = λ z. (
    λ h. (let i = subst (λ bs. IsTrue (lies_in bs z)) a.boxes h.inside in
        let e = (a.exact z i).0 h.holds in
        let f = (k.exact z).0 (record { inside = i; holds = e.0 }) in
        (f.0, (f.1, e.1))),
    λ p. (let f = (k.exact z).1 (p.0, p.1.0) in
        record {
          inside = subst (λ bs. IsTrue (lies_in bs z)) (sym a.boxes) f.inside;
          holds = (a.exact z f.inside).1 (f.holds, p.1.1);
        }),
  );
}

-- whether some point fits
pub some_fits : (d : Draft) (boxes : List Range) (P : List ℤ → Type 0) (A : Type 0) (point : Option (List ℤ)) (b : Bool) → Asks d boxes P → IsLeastFit d point → b ≡ is_some point
    → ((z : List ℤ) → IsTrue (lies_in boxes z) → P z → A) → (A → (z : List ℤ) × (IsTrue (lies_in boxes z) × P z)) → IsTrue b ↔ A
some_fits d boxes P A None b k l e to from = (
  λ t. absurd (both_ways b e t),
  λ a. (let z = from a in absurd (l z.0 ((k.exact z.0).1 z.1))),
)
some_fits d boxes P A (Some q) b k l e to from = (λ t. (let p = (k.exact q).0 l.0 in to q p.0 p.1), λ a. e)

-- sizes

pub pair_long : (p q : Piece) → IsWhole p → IsWhole q → length (pair_boxes p q) ≡ pair_size p q
pair_long p q w v =
    let a : List Range = take p.levels p.system.boxes in
    let b : List Range = take q.levels q.system.boxes in
    let c : List Range = drop p.levels p.system.boxes in
    let d : List Range = drop q.levels q.system.boxes in
    let x : length a ≡ p.levels = levels_long p w in
    let y : length b ≡ q.levels = levels_long q v in
    let s : length c ≡ p.hidden = hidden_long p w in
    let t : length d ≡ q.hidden = hidden_long q v in
    length-append a (b ++ (c ++ d)) ∙ omega (arith, length-append b (c ++ d), length-append c d)

pub common_long : (p q : Piece) → IsWhole p → IsWhole q → length (common_boxes p q) ≡ pair_size p q + length p.origin
common_long p q w v = length-append (pair_boxes p q) (wides (length p.origin)) ∙ ap₂ (λ a b. a + b) (pair_long p q w v) (length_wides (length p.origin))

pub common_few : (p q : Piece) → IsPlain p → IsPlain q → length (common_boxes p q) ≤ 4096
common_few p q w v =
    let n = common_long p q w.whole v.whole in
    let a = w.variables in
    let b = v.variables in
    let c = w.iterators in
    omega arith

pub common_each : (p q : Piece) → IsSystem p.system → IsSystem q.system → All IsBox (common_boxes p q)
common_each p q s t = All-append IsBox (pair_boxes p q) (wides (length p.origin)) (pair_each p q s t) (wides_boxes (length p.origin))

-- iterators are small

pub iters_small : (p : Piece) (xs : List ℤ) → IsPlain p → In xs (instances p) → All (IsAtMost (2 ^ 54)) (iters_at p xs)
iters_small p xs w i = at_all (λ e. All (IsAtMost (2 ^ 54)) e.identity.iters) (elements p) (element_at p xs) w.near (map_in (element_at p) (instances p) xs i)

pub iters_long : (p : Piece) (xs : List ℤ) → length (iters_at p xs) ≡ length p.origin
iters_long p xs = length-map p.origin (λ f. value f xs)

-- what stands in parts

pub held_there : (p : Piece) (levels hidden : ℕ) (z xs hs : List ℤ) → part levels p.levels z ≡ xs → part hidden p.hidden z ≡ hs → IsTrue (all_hold p.system.rows (xs ++ hs))
    → HoldsAt p levels hidden z
held_there p levels hidden z xs hs e f h = subst (λ t. IsTrue (all_hold p.system.rows t)) (sym (ap₂ (λ a b. a ++ b) e f)) h

pub tied_there : (p : Piece) (levels iters : ℕ) (z xs is : List ℤ) → part levels p.levels z ≡ xs → part iters (length p.origin) z ≡ is → is ≡ iters_at p xs → TiedAt p levels iters z
tied_there p levels iters z xs is e f g = f ∙ g ∙ sym (ap (iters_at p) e)

pub none_before : (n : ℕ) → 0 + n ≡ n
none_before n = omega arith

-- the same iterators

module _ (p q : Piece) (w : IsPlain p) (v : IsPlain q) (same : length p.origin ≡ length q.origin) where
  pub common_to : (z : List ℤ) → IsTrue (lies_in (common_boxes p q) z) → AreCommon p q z → HaveCommon p q
  common_to z i h =
      let s = pair_instances p q w.whole v.whole (wides (length p.origin)) 0 z (lies_inside (common_boxes p q) z i) h.1 in
      record {
        first = part 0 p.levels z;
        second = part p.levels q.levels z;
        is_first = s.0;
        is_second = subst (λ o. In (part o q.levels z) (instances q)) (none_before p.levels) s.1;
        same = sym h.0.0 ∙ ap (λ n. part (pair_size p q) n z) same ∙ h.0.1;
      }

  pub common_from : HaveCommon p q → (z : List ℤ) × (IsTrue (lies_in (common_boxes p q) z) × AreCommon p q z)
  common_from h =
      let xs : List ℤ = h.first in
      let ys : List ℤ = h.second in
      let f = hidden_of p w.whole h.first h.is_first in
      let g = hidden_of q v.whole h.second h.is_second in
      let is : List ℤ = iters_at p h.first in
      let ws : List (List ℤ) = h.first ∷ h.second ∷ f.0 ∷ g.0 ∷ iters_at p h.first ∷ [] in
      let z : List ℤ = joined (h.first ∷ h.second ∷ f.0 ∷ g.0 ∷ iters_at p h.first ∷ []) in
      let a : length h.first ≡ p.levels = length_inside (take p.levels p.system.boxes) h.first f.1.0 ∙ levels_long p w.whole in
      let b : length h.second ≡ q.levels = length_inside (take q.levels q.system.boxes) h.second g.1.0 ∙ levels_long q v.whole in
      let c : length f.0 ≡ p.hidden = length_inside (drop p.levels p.system.boxes) f.0 f.1.1.0 ∙ hidden_long p w.whole in
      let d : length g.0 ≡ q.hidden = length_inside (drop q.levels q.system.boxes) g.0 g.1.1.0 ∙ hidden_long q v.whole in
      let n : length (iters_at p h.first) ≡ length p.origin = iters_long p h.first in
      let small = near_inside (length p.origin) (iters_at p h.first) n (iters_small p h.first w h.is_first) in
      let inside = both_inside (take p.levels p.system.boxes) (take q.levels q.system.boxes ++ (drop p.levels p.system.boxes ++ (drop q.levels q.system.boxes ++ wides (length p.origin))))
      h.first (h.second ++ (f.0 ++ (g.0 ++ (iters_at p h.first ++ [])))) f.1.0
      (both_inside (take q.levels q.system.boxes) (drop p.levels p.system.boxes ++ (drop q.levels q.system.boxes ++ wides (length p.origin))) h.second (f.0 ++ (g.0 ++ (iters_at p h.first ++ []))) g.1.0
      (both_inside (drop p.levels p.system.boxes) (drop q.levels q.system.boxes ++ wides (length p.origin)) f.0 (g.0 ++ (iters_at p h.first ++ [])) f.1.1.0
      (both_inside (drop q.levels q.system.boxes) (wides (length p.origin)) g.0 (iters_at p h.first ++ []) g.1.1.0
      (subst (InBox (wides (length p.origin))) (sym (append-nil (iters_at p h.first))) small)))) in
      let lies = inside_lies (common_boxes p q) z (subst (λ bs. InBox bs z) (sym (pair_joined p q (wides (length p.origin)))) inside) in
      let first : part 0 p.levels z ≡ h.first = behind_at ws 0 0 p.levels refl (omega arith) (sym a) in
      let second : (o : ℕ) → o ≡ p.levels → part o q.levels z ≡ h.second = λ o e. behind_at ws 1 o q.levels (omega arith) (omega arith) (sym b) in
      let third : part (0 + p.levels + q.levels) p.hidden z ≡ f.0 = behind_at ws 2 (0 + p.levels + q.levels) p.hidden (omega arith) (omega arith) (sym c) in
      let fourth : part (0 + p.levels + q.levels + p.hidden) q.hidden z ≡ g.0 = behind_at ws 3 (0 + p.levels + q.levels + p.hidden) q.hidden (omega arith) (omega arith) (sym d) in
      let fifth : (m : ℕ) → m ≡ length p.origin → part (pair_size p q) m z ≡ iters_at p h.first = λ m e. behind_at ws 4 (pair_size p q) m (omega arith) (omega arith) (e ∙ sym n) in (
        z,
        (
          lies,
          (
            (
              tied_there p 0 (pair_size p q) z h.first (iters_at p h.first) first (fifth (length p.origin) refl) refl,
              tied_there q p.levels (pair_size p q) z h.second (iters_at p h.first) (second p.levels refl) (fifth (length q.origin) (sym same)) h.same,
            ),
            (
              held_there p 0 (0 + p.levels + q.levels) z h.first f.0 first third f.1.1.1,
              held_there q (0 + p.levels) (0 + p.levels + q.levels + p.hidden) z h.second g.0 (second (0 + p.levels) (none_before p.levels)) fourth g.1.1.1,
            ),
          ),
        ),
      )

pub no_common : (p q : Piece) → (length p.origin ≡ length q.origin → ⊥) → HaveCommon p q → ⊥
no_common p q n h = n (sym (iters_long p h.first) ∙ ap length h.same ∙ iters_long q h.second)

pub common_answer : (p q : Piece) → IsPlain p → IsPlain q → length p.origin ≡ length q.origin → (d : Draft) (point : Option (List ℤ)) (b : Bool) → Asks d (common_boxes p q) (AreCommon p q)
    → IsLeastFit d point → b ≡ is_some point → IsTrue b ↔ HaveCommon p q
common_answer p q w v same d point b k l e =
    some_fits d (common_boxes p q) (AreCommon p q) (HaveCommon p q) point b k l e (common_to p q w v same) (common_from p q w v same)

pub common_none : (p q : Piece) → IsPlain p → IsPlain q → length p.origin ≡ length q.origin → (d : Draft) → Asks d (common_boxes p q) (AreCommon p q) → NoneFits d
    → IsTrue false ↔ HaveCommon p q
common_none p q w v same d k n = (λ t. absurd (both_ways _ refl t), λ h. absurd (let z = common_from p q w v same h in n z.0 ((k.exact z.0).1 z.1)))
