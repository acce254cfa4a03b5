-- The elements that a code tree executes, in order.
use Rattle.std.specs.Prelude.{ℕ, zero, suc, ℤ, pos, ◌+ℤ◌, neg_ℤ, Bool, true, false, List, [], ◌∷◌, ◌++◌, map}
use Rattle.std.specs.Int.{int_div_euclid}
use Rattle.ch_affine.specs.Affine.{value}
use Rattle.ch_code.specs.declared.code.Bound.{Bound}
use Rattle.ch_code.specs.declared.code.Code.{Code}
use Rattle.ch_code.specs.declared.code.Code.TheOpen.{Code-F}
use Rattle.ch_code.specs.declared.code.Code.TheFolds.{fold-Code}
use Rattle.ch_code.specs.UnitParts.{UnitParts}
use Rattle.ch_nest.specs.Run.{greatest, least, count}
use Rattle.ch_poly.specs.Points.{begins_some}
use Rattle.ch_timed.specs.declared.element.Element.{Element}
use Rattle.ch_timed.specs.Vectors.{woven}

-- where a loop begins: each bound rounded up
abbrev pub low_of : List Bound → List ℤ → ℤ
low_of lows xs = greatest (map (λ b. neg_ℤ (int_div_euclid (neg_ℤ (value b.form xs)) (pos b.divisor))) lows)

-- where it ends: each bound rounded down
abbrev pub high_of : List Bound → List ℤ → ℤ
high_of highs xs = least (map (λ b. int_div_euclid (value b.form xs) (pos b.divisor)) highs)

-- the elements, from the values of the loops around
abbrev pub Traced : Type 0
Traced = List ℤ → List Element

abbrev pub one_by_one : List Traced → Traced
one_by_one [] xs = []
one_by_one (f ∷ fs) xs = f xs ++ one_by_one fs xs

abbrev pub guarded : Bool → List Element → List Element
guarded true list = list
guarded false list = []

-- the first n turns of a loop
abbrev pub turns_listed : ℕ → ℤ → (ℤ → List Element) → List Element
turns_listed zero low turn = []
turns_listed (suc n) low turn = turns_listed n low turn ++ turn (low +ℤ pos n)

abbrev pub trace_step : Code-F Traced → Traced
trace_step (Code-F.Seq parts) xs = one_by_one parts xs
trace_step (Code-F.Loop level lows highs inner) xs = turns_listed (count (low_of lows xs) (high_of highs xs)) (low_of lows xs) (λ x. inner (xs ++ x ∷ []))
trace_step (Code-F.Guard system inner) xs = guarded (begins_some system xs) (inner xs)
trace_step (Code-F.Leaf label body origin places) xs =
    record { identity = record { label = label; iters = map (λ f. value f xs) origin }; vector = woven (map pos places) xs; body = body } ∷ []

abbrev pub trace : Code → Traced
trace = fold-Code Traced trace_step

-- the elements that a unit executes
abbrev pub unit_trace : UnitParts → List Element
unit_trace u = trace u.root []
