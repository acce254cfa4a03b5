-- Equalities that follow from the rows, and what they leave of a box.
use Rattle.std.proofs.Common.{◌≡◌, ℕ, zero, suc, ◌<◌, ℤ, pos, ◌+ℤ◌, ◌-ℤ◌, ◌≤ℤ◌, unsigned_abs, List, [], ◌∷◌, length, set, refl, sym, ap, ◌∙◌, subst, arith}
use Prim.Native.Nat.{◌∣◌}
use Rattle.std.proofs.lemmas.Int.{ints}
use Rattle.ch_affine.specs.Form.{Form}
use Rattle.ch_affine.specs.Affine.{dot, form}
use Rattle.ch_poly.specs.Boxes.{at, peaks, Within, IsBoxed}
use Rattle.ch_poly.specs.Goals.{IsAtLeast, Reaches, Keeps, IsEmpty}
use Rattle.ch_poly.specs.Mixes.{IsImplied, IsMissed, IsEqualTo, IsForced, AreOpposite}
use Rattle.ch_poly.proofs.Contradicts.{dot_opposed}
use Rattle.ch_poly.proofs.Hollows.{box_dvd}
use Rattle.ch_poly.proofs.Least.{into_lowest}
use Rattle.ch_poly.proofs.Meeting.{keeps_then, empty_back, keeps_more, empty_more}
use Rattle.ch_poly.proofs.Ranges.{in_each}

pub forced_from : (rows : List Form) (cs ds : List ℤ) (v w : ℤ) → IsImplied rows (form cs (pos 0)) v → IsImplied rows (form ds (pos 0)) w → AreOpposite cs ds v w → IsForced rows cs v
forced_from rows cs ds v w i j o = record {
  forced = λ p s r. record {
    is =
        let x : v ≤ℤ (pos 0 +ℤ dot cs p) = (i.implied p s r).reached in
        let y : w ≤ℤ (pos 0 +ℤ dot ds p) = (j.implied p (s ∙ o.same) r).reached in
        omega (arith, ints, x, y, o.sum, dot_opposed cs ds p o.same o.each);
  };
}

pub missed_empty : (cs : List ℤ) (v : ℤ) (lows highs : List ℤ) → length cs ≡ length lows → length highs ≡ length lows → IsMissed cs v lows highs → IsEmpty (IsEqualTo cs v) lows highs
missed_empty cs v lows highs s s' m = record {
  none = λ p w e.
      let P : ℤ → Type 0 = λ z. m.divisor ∣ unsigned_abs (peaks cs lows highs -ℤ z) in
      m.not (subst P e.is (box_dvd m.divisor cs lows highs p s (in_each lows highs p s' w) m.divides.each));
}

-- the value from below, and its opposite

at_value : (cs : List ℤ) (v : ℤ) (p : List ℤ) → IsEqualTo cs v p → IsAtLeast v (form cs (pos 0)) p
at_value cs v p e = record { reached = omega (arith, ints, e.is) }

at_opposite : (cs ds : List ℤ) (v w : ℤ) → AreOpposite cs ds v w → (p : List ℤ) → IsEqualTo cs v p → IsAtLeast w (form ds (pos 0)) p
at_opposite cs ds v w o p e = record { reached = omega (arith, ints, e.is, o.sum, dot_opposed cs ds p o.same o.each) }

module _ (cs ds : List ℤ) (v w : ℤ) (o : AreOpposite cs ds v w) (a b c d e f : List ℤ) where
  pub both_first_empty : IsEmpty (IsAtLeast v (form cs (pos 0))) a b → IsEmpty (IsEqualTo cs v) a b
  both_first_empty none = empty_more (IsAtLeast v (form cs (pos 0))) (IsEqualTo cs v) a b (at_value cs v) none

  first_keeps : Keeps (IsAtLeast v (form cs (pos 0))) a b c d → Keeps (IsEqualTo cs v) a b c d
  first_keeps k = keeps_more (IsAtLeast v (form cs (pos 0))) (IsEqualTo cs v) a b c d (at_value cs v) k

  pub both_then_empty : Keeps (IsAtLeast v (form cs (pos 0))) a b c d → IsEmpty (IsAtLeast w (form ds (pos 0))) c d → IsEmpty (IsEqualTo cs v) a b
  both_then_empty k none =
      empty_back (IsEqualTo cs v) a b c d (first_keeps k) (empty_more (IsAtLeast w (form ds (pos 0))) (IsEqualTo cs v) c d (at_opposite cs ds v w o) none)

  pub both_keep : Keeps (IsAtLeast v (form cs (pos 0))) a b c d → Keeps (IsAtLeast w (form ds (pos 0))) c d e f → Keeps (IsEqualTo cs v) a b e f
  both_keep k l =
      keeps_then (IsEqualTo cs v) a b c d e f (first_keeps k) (keeps_more (IsAtLeast w (form ds (pos 0))) (IsEqualTo cs v) c d e f (at_opposite cs ds v w o) l)

-- a single number, and it is missed
pub single_empty : (P : List ℤ → Type 0) (a b lows highs : List ℤ) (k : ℕ) → Keeps P a b lows highs → IsBoxed lows highs → k < length lows → at lows k ≡ at highs k
    → IsEmpty P lows (set highs k (at lows k)) → IsEmpty P a b
single_empty P a b lows highs k keeps box lt same none = record {
  none = λ p w h.
      let v : Within lows highs p = keeps.kept p w h in
      none.none p (into_lowest lows highs p k box lt v (omega (arith, ints, same, v.high k lt))) h;
}

pub restored : (xs : List ℤ) (k : ℕ) (v : ℤ) → set (set xs k v) k (at xs k) ≡ xs
restored [] k v = refl
restored (x ∷ xs) zero v = refl
restored (x ∷ xs) (suc k) v = ap (λ ys. x ∷ ys) (restored xs k v)

-- over the rows

pub forced_keeps : (rows : List Form) (cs : List ℤ) (v : ℤ) (a b lows highs l h : List ℤ) → IsForced rows cs v → length cs ≡ length lows
    → Keeps (Reaches (pos 0) rows) a b lows highs → Keeps (IsEqualTo cs v) lows highs l h → Keeps (Reaches (pos 0) rows) a b l h
forced_keeps rows cs v a b lows highs l h f s before k =
    keeps_then (Reaches (pos 0) rows) a b lows highs l h before (record { kept = λ p w r. k.kept p w (f.forced p (w.same ∙ sym s) r) })

pub forced_empty : (rows : List Form) (cs : List ℤ) (v : ℤ) (a b lows highs : List ℤ) → IsForced rows cs v → length cs ≡ length lows
    → Keeps (Reaches (pos 0) rows) a b lows highs → IsEmpty (IsEqualTo cs v) lows highs → IsEmpty (Reaches (pos 0) rows) a b
forced_empty rows cs v a b lows highs f s before e =
    empty_back (Reaches (pos 0) rows) a b lows highs before (record { none = λ p w r. e.none p w (f.forced p (w.same ∙ sym s) r) })
