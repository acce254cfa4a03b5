-- The greatest value of the difference over the points of a pair is the greatest difference of a subscript.
use Rattle.std.proofs.Common.{◌≡◌, refl, sym, ap, ◌∙◌, subst, ℕ, ◌+◌, ℤ, pos, ◌-ℤ◌, Option, Some, None, List, ◌++◌, map, get_or}
use Rattle.ch_affine.specs.Affine.{value}
use Rattle.ch_affine.specs.Form.{Form}
use Rattle.ch_poly.specs.Points.{greatest_of, points}
use Rattle.ch_datacopy.specs.declared.cells.Cells.{Cells}
use Rattle.ch_timed.specs.Members.{In}
use Rattle.ch_timed.proofs.Orders.{in_map, map_in}
use Rattle.ch_datacopy.specs.Pairs.{IsFramed, IsPairOf, IsWidest, difference, pair_system}
use Rattle.ch_datacopy.proofs.PairPoints.{difference_is, greatest_is, none_greatest, pair_from, pair_to}

pub are_widest : (around k after : ℕ) (u v : Cells) → IsFramed around ((k + 1) + after) u → IsFramed around ((k + 1) + after) v
    → IsWidest around ((k + 1) + after) k u v
    (greatest_of (map (value (difference around k after (u.hidden + v.hidden))) (points (pair_system around ((k + 1) + after) u v))))
are_widest around k after u v wu wv = by (greatest_of values) refl
  where
    m : ℕ
    m = (k + 1) + after

    f : Form
    f = difference around k after (u.hidden + v.hidden)

    values : List ℤ
    values = map (value f) (points (pair_system around ((k + 1) + after) u v))

    there : (prefix first second : List ℤ) → IsPairOf around ((k + 1) + after) u v prefix first second → In (get_or first k (pos 0) -ℤ get_or second k (pos 0)) values
    there prefix first second p =
        let q = pair_to around ((k + 1) + after) u v wu wv prefix first second p.prefix_long p.first_long p.second_long p.in_first p.in_second in
        subst (λ z. In z values) (difference_is around k after (u.hidden + v.hidden) prefix first second q.0 p.prefix_long p.first_long p.second_long q.1.0)
        (map_in (value f) (points (pair_system around ((k + 1) + after) u v)) (((prefix ++ first) ++ second) ++ q.0) q.1.1)

    by : (o : Option ℤ) → greatest_of values ≡ o → IsWidest around ((k + 1) + after) k u v o
    by None e = λ prefix first second p. none_greatest values e (get_or first k (pos 0) -ℤ get_or second k (pos 0)) (there prefix first second p)
    by (Some g) e =
        let top = greatest_is values g e in
        let x = in_map (value f) (points (pair_system around ((k + 1) + after) u v)) g top.0 in
        let p = pair_from around ((k + 1) + after) u v wu wv x.0 x.1.0 in (
          λ prefix first second q. top.1 (get_or first k (pos 0) -ℤ get_or second k (pos 0)) (there prefix first second q),
          (
            p.prefix,
            p.first,
            p.second,
            record {
              prefix_long = p.prefix_long;
              first_long = p.first_long;
              second_long = p.second_long;
              in_first = p.in_first;
              in_second = p.in_second;
            },
            sym (difference_is around k after (u.hidden + v.hidden) p.prefix p.first p.second p.hidden p.prefix_long p.first_long p.second_long p.hidden_long)
                ∙ ap (value f) (sym p.is) ∙ x.1.1,
          ),
        )
