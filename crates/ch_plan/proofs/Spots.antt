-- Sums made of forms, residues, and the places of accesses.
use Rattle.std.proofs.Common.{◌≡◌, ap, sym, ◌∙◌, refl, subst, ℕ, zero, suc, ◌+◌, ◌*◌, ◌<◌, ◌≤◌, ◌^◌, ℤ, pos, ◌+ℤ◌, ◌*ℤ◌, unsigned_abs, nat_eq, Bool, true, false, if◌then◌else◌, Some, List, [], ◌∷◌, ◌++◌, get_or, take, drop, map, length, replicate, arith, w64, ◌-◌}
use Rattle.std.specs.Bool.{IsTrue}
use Rattle.std.specs.Int.{int_rem_euclid, int_wrap, w128}
use Rattle.std.specs.List.{All, slice_get}
use Rattle.std.proofs.lemmas.Bool.{eqb-true, ne_eqb}
use Rattle.std.proofs.lemmas.Int.{ints, int_wrap-add_left, int_wrap-mul_left, int_wrap_fits, fits_signed_from_abs}
use Rattle.std.proofs.lemmas.List.{take_all}
use Rattle.std.proofs.lemmas.List.Elements.{All-tail}
use Rattle.ch_affine.specs.Affine.{IsAtMost, IsSmall, dot, form, value}
use Rattle.ch_affine.specs.Form.{Form}
use Rattle.ch_nest.specs.declared.nest.Access.{Access}
use Rattle.ch_nest.specs.declared.nest.Sub as sub
use Rattle.ch_nest.specs.Arrays.{cells_in, total, within_array}
use Rattle.ch_nest.specs.Run.{modulo, place, sub_value, subscripts}
use Rattle.ch_nest.proofs.Flattens.{dot_take}
use Rattle.ch_plan.specs.declared.plan.Residue.{Residue}
use Rattle.ch_plan.specs.declared.plan.Spot.{Spot}
use Rattle.ch_plan.specs.declared.plan.Sum.{Sum}
use Rattle.ch_plan.specs.declared.plan.Term.{Term}
use Rattle.ch_plan.specs.declared.plan.Weight.{Weight}
use Rattle.ch_plan.specs.Planned.{at, mixed, residue_value, residues_value, spot_place, spot_value, sum_value, weighed, wide_value, with_residues}
use Rattle.ch_plan.proofs.Weighing.{residues_push, same_plus, summed_push, wrapped_once, wrapped_same}
use Rattle.ch_plan.specs.declared.accesses.Draft.{Draft}
use Rattle.ch_plan.specs.declared.accesses.Placed.{Placed}
use Rattle.ch_plan.specs.Ready.{AreBases, HaveDepth, IsPoint, IsResidue, IsSpot, IsSumOf, SubsFit, drafted, extents_in, formed, iters_at, strided}
use Rattle.ch_plan.proofs.Forming.{dot_more, dot_replicate, dot_small, iter_is, length_iters}
use Rattle.ch_plan.proofs.Striding.{place_from, placed_get, strided_first}

-- coefficients that aren't 0, one on

pub terms_next : (coefs point : List ℤ) (ts new : List Term) (t : Term) (k : ℕ) → k < length coefs → new ≡ ts ++ t ∷ [] → t.level ≡ k → t.coef ≡ get_or coefs k (pos 0)
    → weighed ts point ≡ dot (take k coefs) point → weighed new point ≡ dot (take (k + 1) coefs) point
terms_next coefs point ts new t k l n level coef h =
    let push : weighed new point ≡ weighed ts point +ℤ t.coef *ℤ at point t.level = ap (λ zs. weighed zs point) n ∙ summed_push (λ u. u.coef *ℤ at point u.level) ts t in
    rw (push, h, level, coef) (sym (dot_more coefs point k l))

pub terms_skip : (coefs point : List ℤ) (ts : List Term) (k : ℕ) → k < length coefs → get_or coefs k (pos 0) ≡ pos 0
    → weighed ts point ≡ dot (take k coefs) point → weighed ts point ≡ dot (take (k + 1) coefs) point
terms_skip coefs point ts k l z h =
    let more = dot_more coefs point k l in
    let none : get_or coefs k (pos 0) *ℤ at point k ≡ pos 0 *ℤ at point k = ap (λ c. c *ℤ at point k) z in
    omega (arith, ints, h, more, none)

-- sums of forms

pub value_small : (f : Form) (xs : List ℤ) → IsSmall f → All (IsAtMost (2 ^ 54)) xs → unsigned_abs (value f xs) ≤ 2 ^ 60 + 4096 * 2 ^ 114
value_small f xs s h =
    let d = dot_small f.coefs xs s.coefs h in
    let c : unsigned_abs f.constant ≤ 2 ^ 60 = s.constant in
    let few : length f.coefs * 2 ^ 114 ≤ 4096 * 2 ^ 114 = omega (arith, s.few) in
    omega (arith, ints, d, c, few)

taken_value : (f : Form) (s : Sum) (around : ℕ) (point : List ℤ) → IsSumOf f s → length f.coefs ≡ around → s.constant +ℤ weighed s.terms point ≡ value f (take around point)
taken_value f s around point i e =
    let terms : weighed s.terms point ≡ dot f.coefs (take around point) = i.terms point ∙ dot_take f.coefs point around (omega (arith, e)) in
    rw (i.constant, terms) refl

-- where the value is small, it is the sum's
pub sum_small : (f : Form) (s : Sum) (around : ℕ) (point : List ℤ) → IsSumOf f s → length f.coefs ≡ around → unsigned_abs (value f (take around point)) ≤ 2 ^ 54
    → sum_value s point ≡ value f (take around point)
sum_small f s around point i e small =
    ap (int_wrap w64) (taken_value f s around point i e) ∙ int_wrap_fits w64 (value f (take around point)) (fits_signed_from_abs w64 (value f (take around point)) (omega (arith, small)))

-- in 128 bits it is wherever the loop values are small
pub sum_wide : (f : Form) (s : Sum) (around : ℕ) (point : List ℤ) → IsSumOf f s → length f.coefs ≡ around → All (IsAtMost (2 ^ 54)) (take around point)
    → wide_value s point ≡ value f (take around point)
sum_wide f s around point i e small =
    let v = value_small f (take around point) i.small small in
    ap (int_wrap w128) (taken_value f s around point i e) ∙ int_wrap_fits w128 (value f (take around point)) (fits_signed_from_abs w128 (value f (take around point)) (omega (arith, v)))

-- an iterator at a point
pub iter_small : (origin : List Form) (around : ℕ) (point : List ℤ) (k : ℕ) (d : Form) → IsPoint origin around point → k < length origin
    → unsigned_abs (value (get_or origin k d) (take around point)) ≤ 2 ^ 54
iter_small origin around point k d p l =
    let m : k < length (iters_at origin (take around point)) = omega (arith, l, length_iters origin (take around point)) in
    subst (IsAtMost (2 ^ 54)) (iter_is origin (take around point) k d l) (p.iters k (pos 0) m)

pub weights_next : (origin : List Form) (around : ℕ) (coefs point : List ℤ) (ws new : List Weight) (w : Weight) (g : Form) (k : ℕ) → IsPoint origin around point → HaveDepth around origin
    → k < length coefs → k < length origin → g ≡ get_or origin k g → IsSumOf g w.sum → w.coef ≡ get_or coefs k (pos 0) → new ≡ ws ++ w ∷ []
    → mixed ws point ≡ dot (take k coefs) (iters_at origin (take around point)) → mixed new point ≡ dot (take (k + 1) coefs) (iters_at origin (take around point))
weights_next origin around coefs point ws new w g k p depth l lo gg i coef n h =
    let xs : List ℤ = take around point in
    let push : mixed new point ≡ mixed ws point +ℤ w.coef *ℤ sum_value w.sum point = ap (λ zs. mixed zs point) n ∙ summed_push (λ u. u.coef *ℤ sum_value u.sum point) ws w in
    let deep : length g.coefs ≡ around = subst (λ z. length z.coefs ≡ around) (sym gg) (depth k g lo) in
    let small : unsigned_abs (value g xs) ≤ 2 ^ 54 = subst (λ z. unsigned_abs (value z xs) ≤ 2 ^ 54) (sym gg) (iter_small origin around point k g p lo) in
    let sum : sum_value w.sum point ≡ value g xs = sum_small g w.sum around point i deep small in
    let here : at (iters_at origin xs) k ≡ value g xs = iter_is origin xs k g lo ∙ ap (λ z. value z xs) (sym gg) in
    rw (push, h, coef, sum, ← here) (sym (dot_more coefs (iters_at origin xs) k l))

pub weights_skip : (coefs iters point : List ℤ) (ws : List Weight) (k : ℕ) → k < length coefs → get_or coefs k (pos 0) ≡ pos 0
    → mixed ws point ≡ dot (take k coefs) iters → mixed ws point ≡ dot (take (k + 1) coefs) iters
weights_skip coefs iters point ws k l z h =
    let more = dot_more coefs iters k l in
    let none : get_or coefs k (pos 0) *ℤ at iters k ≡ pos 0 *ℤ at iters k = ap (λ c. c *ℤ at iters k) z in
    omega (arith, ints, h, more, none)

modulo_some : (m : ℕ) (z : ℤ) → 1 ≤ m → modulo m z ≡ int_rem_euclid z (pos m)
modulo_some zero z l = absurd (omega arith)
modulo_some (suc m) z l = refl

pub residue_is : (origin : List Form) (around : ℕ) (s : sub.Sub) (stride : ℤ) (r : Residue) → IsSmall s.form → 1 ≤ s.modulus → r.stride ≡ stride → r.modulus ≡ s.modulus
    → r.constant ≡ s.form.constant
    → ((point : List ℤ) → IsPoint origin around point → mixed r.weights point ≡ dot s.form.coefs (iters_at origin (take around point)))
    → IsResidue origin around s stride r
residue_is origin around s stride r small some st m c w = record {
  stride_is = st;
  value_is = λ point p.
      let iters : List ℤ = iters_at origin (take around point) in
      let sum : r.constant +ℤ mixed r.weights point ≡ value s.form iters = rw (c, w point p) refl in
      let v = value_small s.form iters small p.iters in
      let fits : int_wrap w128 (r.constant +ℤ mixed r.weights point) ≡ value s.form iters =
      ap (int_wrap w128) sum ∙ int_wrap_fits w128 (value s.form iters) (fits_signed_from_abs w128 (value s.form iters) (omega (arith, v))) in
      let ne : nat_eq r.modulus 0 ≡ false = ne_eqb r.modulus 0 (λ e. omega (arith, e, m, some)) in
      let opened : residue_value r point ≡ int_rem_euclid (int_wrap w128 (r.constant +ℤ mixed r.weights point)) (pos r.modulus) =
      ap (λ (b : Bool). if b then pos 0 else int_rem_euclid (int_wrap w128 (r.constant +ℤ mixed r.weights point)) (pos r.modulus)) ne in
      opened ∙ ap (λ z. int_rem_euclid z (pos r.modulus)) fits ∙ ap (λ n. int_rem_euclid (value s.form iters) (pos n)) m ∙ sym (modulo_some s.modulus (value s.form iters) some);
}

-- all subscripts but the first
pub rest_fit : (n : ℕ) (subs : List sub.Sub) → 1 ≤ length subs → SubsFit n subs → SubsFit n (take (length subs - 1) (drop 1 subs))
rest_fit n [] l h = absurd (omega arith)
rest_fit n (s ∷ ss) l h =
    subst (SubsFit n) (sym (take_all (length (s ∷ ss) - 1) ss (omega arith))) (All-tail (λ (z : sub.Sub). length z.form.coefs ≡ n) s ss h)

-- drafts

pub drafted_new : (d : Draft) (around : ℕ) (point : List ℤ) → d.coefs.items ≡ replicate around (pos 0) → d.residues ≡ [] → drafted d around point ≡ d.constant
drafted_new d around point c r =
    let a : dot d.coefs.items (take around point) ≡ pos 0 = ap (λ cs. dot cs (take around point)) c ∙ dot_replicate around (take around point) in
    let b : residues_value d.residues point ≡ pos 0 = ap (λ rs. residues_value rs point) r in
    omega (arith, ints, a, b)

pub sum_is : (f : Form) (s : Sum) (coefs slice : List ℤ) (constant : ℤ) → IsSmall (form coefs constant) → form coefs constant ≡ f → slice ≡ coefs → s.constant ≡ constant
    → ((point : List ℤ) → weighed s.terms point ≡ dot slice point) → IsSumOf f s
sum_is f s coefs slice constant small is e c t =
    let i : IsSumOf (form coefs constant) s = record {
      small = small;
      constant = c;
      terms = λ point. t point ∙ ap (λ cs. dot cs point) e;
    } in
    subst (λ g. IsSumOf g s) is i

module _ (around : ℕ) (point : List ℤ) where
  -- a subscript without a modulus
  pub plain_added : (old new : Draft) (s : sub.Sub) (stride : ℤ) (iters : List ℤ) → s.modulus ≡ 0 → new.residues ≡ old.residues
      → int_wrap w64 (formed new (take around point)) ≡ int_wrap w64 (formed old (take around point) +ℤ stride *ℤ value s.form iters)
      → int_wrap w64 (drafted new around point) ≡ int_wrap w64 (drafted old around point +ℤ stride *ℤ sub_value iters s)
  plain_added old new s stride iters m r h =
      let v : ℤ = stride *ℤ value s.form iters in
      let a : ℤ = formed old (take around point) in
      let rest : ℤ = residues_value old.residues point in
      let plain : value s.form iters ≡ sub_value iters s = sym (ap (λ n. modulo n (value s.form iters)) m) in
      let both = same_plus w64 (formed new (take around point)) (a +ℤ v) (residues_value new.residues point) rest h (ap (λ rs. int_wrap w64 (residues_value rs point)) r) in
      let move : (a +ℤ v) +ℤ rest ≡ (a +ℤ rest) +ℤ v = omega (arith, ints) in
      both ∙ ap (int_wrap w64) move ∙ ap (λ z. int_wrap w64 ((a +ℤ rest) +ℤ stride *ℤ z)) plain

  -- a subscript with a modulus
  pub residue_added : (old new : Draft) (r : Residue) (v stride : ℤ) → formed new (take around point) ≡ formed old (take around point) → new.residues ≡ old.residues ++ r ∷ []
      → r.stride ≡ stride → residue_value r point ≡ v → int_wrap w64 (drafted new around point) ≡ int_wrap w64 (drafted old around point +ℤ stride *ℤ v)
  residue_added old new r v stride f n s e =
      let a : ℤ = formed old (take around point) in
      let rest : ℤ = residues_value old.residues point in
      let push : int_wrap w64 (residues_value new.residues point) ≡ int_wrap w64 (rest +ℤ stride *ℤ v) =
      ap (λ rs. int_wrap w64 (residues_value rs point)) n ∙ residues_push old.residues r point ∙ rw (s, e) refl in
      let both = same_plus w64 (formed new (take around point)) a (residues_value new.residues point) (rest +ℤ stride *ℤ v) (ap (int_wrap w64) f) push in
      let move : a +ℤ (rest +ℤ stride *ℤ v) ≡ (a +ℤ rest) +ℤ stride *ℤ v = omega (arith, ints) in
      both ∙ ap (int_wrap w64) move

  -- a first subscript and the others
  pub others_added : (old one all : Draft) (first rest t cells : ℤ) → t ≡ int_wrap w64 cells
      → int_wrap w64 (drafted one around point) ≡ int_wrap w64 (drafted old around point +ℤ t *ℤ first)
      → int_wrap w64 (drafted all around point) ≡ int_wrap w64 (drafted one around point +ℤ rest)
      → int_wrap w64 (drafted all around point) ≡ int_wrap w64 (drafted old around point +ℤ (cells *ℤ first +ℤ rest))
  others_added old one all first rest t cells tt' h g =
      let d : ℤ = drafted old around point in
      let times : int_wrap w64 (t *ℤ first) ≡ int_wrap w64 (cells *ℤ first) = ap (λ z. int_wrap w64 (z *ℤ first)) tt' ∙ int_wrap-mul_left w64 cells first in
      let one' = h ∙ same_plus w64 d d (t *ℤ first) (cells *ℤ first) refl times in
      let both = same_plus w64 (drafted one around point) (d +ℤ cells *ℤ first) rest rest one' refl in
      let move : (d +ℤ cells *ℤ first) +ℤ rest ≡ d +ℤ (cells *ℤ first +ℤ rest) = omega (arith, ints) in
      g ∙ both ∙ ap (int_wrap w64) move

-- the place as it is taken on a walk
pub finished : (d : Draft) (s : Spot) (point : List ℤ) → s.sum.constant ≡ d.constant → ((p : List ℤ) → weighed s.sum.terms p ≡ dot d.coefs.items p) → s.residues ≡ d.residues
    → spot_value point s ≡ int_wrap w64 (drafted d (length d.coefs.items) point)
finished d s point c t r =
    let terms : weighed s.sum.terms point ≡ dot d.coefs.items (take (length d.coefs.items) point) = t point ∙ dot_take d.coefs.items point (length d.coefs.items) (omega arith) in
    let f : ℤ = formed d (take (length d.coefs.items) point) in
    let sum : sum_value s.sum point ≡ int_wrap w64 f = rw (c, terms) refl in
    ap (λ rs. with_residues (sum_value s.sum point) rs point) r ∙ ap (λ z. with_residues z d.residues point) sum ∙ added d.residues f
  where
    zero_more : (f : ℤ) → f ≡ f +ℤ pos 0
    zero_more f = omega (arith, ints)

    added : (rs : List Residue) (f : ℤ) → with_residues (int_wrap w64 f) rs point ≡ int_wrap w64 (f +ℤ residues_value rs point)
    added [] f = ap (int_wrap w64) (zero_more f)
    added (q ∷ qs) f = int_wrap-add_left w64 f (residues_value (q ∷ qs) point)

pub spot_is : (placed : List Placed) (origin : List Form) (around : ℕ) (a : Access) (p : Placed) (start end : Draft) (spot : Spot) → AreBases placed → a.array < length placed
    → p ≡ get_or placed a.array p → ((point : List ℤ) → drafted start around point ≡ p.base)
    → ((point : List ℤ) → IsPoint origin around point
    → int_wrap w64 (drafted end around point) ≡ int_wrap w64 (drafted start around point +ℤ strided p.extents (map (sub_value (iters_at origin (take around point))) a.subs)))
    → ((point : List ℤ) → spot_value point spot ≡ int_wrap w64 (drafted end around point)) → IsSpot (extents_in placed) origin around a spot
spot_is placed origin around a p start end spot bases l pp begin sum done = λ point fine small within.
    let iters : List ℤ = iters_at origin (take around point) in
    let got : slice_get (extents_in placed) a.array ≡ Some p.extents = placed_get placed a.array p l ∙ ap (λ (z : Placed). Some z.extents) (sym pp) in
    let base : p.base ≡ int_wrap w64 (pos (total (take a.array (extents_in placed)))) = ap (λ (z : Placed). z.base) pp ∙ bases a.array p l in
    let v : spot_value point spot ≡ int_wrap w64 (p.base +ℤ strided p.extents (map (sub_value iters) a.subs)) =
    done point ∙ sum point fine ∙ ap (λ z. int_wrap w64 (z +ℤ strided p.extents (map (sub_value iters) a.subs))) (begin point) in
    place_from (extents_in placed) a.array p.extents (subscripts a iters) p.base (spot_value point spot) got within small base v

-- the same, of a draft that has so many coefficients
pub spot_made : (placed : List Placed) (origin : List Form) (around : ℕ) (a : Access) (p : Placed) (start end : Draft) (spot : Spot) → AreBases placed → a.array < length placed
    → p ≡ get_or placed a.array p → length end.coefs.items ≡ around → ((point : List ℤ) → drafted start around point ≡ p.base)
    → ((point : List ℤ) → IsPoint origin around point
    → int_wrap w64 (drafted end around point) ≡ int_wrap w64 (drafted start around point +ℤ strided p.extents (map (sub_value (iters_at origin (take around point))) a.subs)))
    → ((point : List ℤ) → spot_value point spot ≡ int_wrap w64 (drafted end (length end.coefs.items) point)) → IsSpot (extents_in placed) origin around a spot
spot_made placed origin around a p start end spot bases l pp long begin sum done =
    spot_is placed origin around a p start end spot bases l pp begin sum (λ point. done point ∙ ap (λ n. int_wrap w64 (drafted end n point)) long)

-- a first subscript and the others, at all points
pub subs_added : (origin : List Form) (around : ℕ) (old one all : Draft) (s : sub.Sub) (es : List ℕ) (subs : List sub.Sub) (t : ℤ) → 1 ≤ length es → 1 ≤ length subs → s ≡ get_or subs 0 s
    → t ≡ int_wrap w64 (pos (cells_in (take (length es - 1) (drop 1 es))))
    → ((point : List ℤ) → IsPoint origin around point
    → int_wrap w64 (drafted one around point) ≡ int_wrap w64 (drafted old around point +ℤ t *ℤ sub_value (iters_at origin (take around point)) s))
    → ((point : List ℤ) → IsPoint origin around point
    → int_wrap w64 (drafted all around point)
    ≡ int_wrap w64 (drafted one around point +ℤ strided (take (length es - 1) (drop 1 es)) (map (sub_value (iters_at origin (take around point))) (take (length subs - 1) (drop 1 subs)))))
    → (point : List ℤ) → IsPoint origin around point
    → int_wrap w64 (drafted all around point) ≡ int_wrap w64 (drafted old around point +ℤ strided es (map (sub_value (iters_at origin (take around point))) subs))
subs_added origin around old one all s es subs t l m is tt' h g = λ point p.
    let f : sub.Sub → ℤ = sub_value (iters_at origin (take around point)) in
    let inner : List ℕ = take (length es - 1) (drop 1 es) in
    others_added around point old one all (f s) (strided inner (map f (take (length subs - 1) (drop 1 subs)))) t (pos (cells_in inner)) tt' (h point p) (g point p)
    ∙ ap (λ z. int_wrap w64 (drafted old around point +ℤ z)) (strided_first f es subs s l m is)
