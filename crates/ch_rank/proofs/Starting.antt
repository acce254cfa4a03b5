-- The first simplex, and a grid's sizes.
use Rattle.std.proofs.Common.{◌≡◌, ℕ, zero, suc, ◌+◌, ◌-◌, ◌*◌, ◌/◌, ◌<◌, ◌≤◌, ◌^◌, Bool, true, false, nat_lt, ◌&&◌, List, [], ◌∷◌, ◌++◌, length, map, take, set, get_or, replicate, Option, None, refl, sym, ap, ap₂, ◌∙◌, subst, arith}
use Rattle.std.specs.Prelude.{IfSome, slice_get}
use Rattle.std.specs.List.{All}
use Rattle.std.proofs.lemmas.Bool.Decides.{nat_tests}
use Rattle.std.proofs.lemmas.List.{take_more_set, take_more, get_or-map, length-map}
use Rattle.std.proofs.lemmas.List.Elements.{All-head, All-tail, All-cons, All-nil}
use Rattle.std.proofs.lemmas.Option.{slice_get-get_or}
use Rattle.std.proofs.Math.Seq.{take-length}
use Rattle.std.proofs.Math.Nat.{mul-le-mul_right, mul-le-mul_left}
use Rattle.ch_grid.specs.declared.param.Param.{Param}
use Rattle.ch_grid.specs.Grid.{size, sizes}
use Rattle.ch_grid.specs.Points.{count, is_point, number}
use Rattle.ch_grid.proofs.Sizes.{size_some, no_param, count_all}
use Rattle.ch_rank.specs.Moves.{centre}
use Rattle.ch_rank.specs.Bound.{greatest}
use Rattle.ch_rank.specs.Trials.{AreTrials}
use Rattle.ch_rank.specs.Bound.{bound}
use Rattle.ch_rank.specs.Search.{Game, opening}
use Rattle.ch_rank.specs.Entries.{IsSearch}
use Rattle.ch_rank.specs.declared.outcome.Outcome.{Outcome}
use Rattle.ch_rank.specs.declared.outcome.Costed.{Costed}
use Rattle.ch_rank.specs.declared.tally.Tally.{Tally}
use Rattle.ch_rank.specs.declared.outcome.Outcome.TheVariants.{Refused}
use Rattle.ch_rank.specs.Entries.{tally_from}
use Rattle.ch_rank.proofs.Entering.{opening_waits, unknown}
use Rattle.ch_rank.proofs.Measuring.{none_kept, nothing_known}
use Rattle.ch_grid.specs.Grid.{is_within}
use Rattle.ch_grid.proofs.Sizes.{within_facts}
use Rattle.std.specs.List.{IsDistinct}
use Rattle.ch_rank.specs.Moves.{same_point}

and_of : (a b : Bool) → a ≡ true → b ≡ true → (a && b) ≡ true
and_of true true p q = refl
and_of true false p q = absurd (cc)
and_of false b p q = absurd (cc)

half_below : (n : ℕ) → 1 ≤ n → nat_lt ((n - 1) / 2) n ≡ true
half_below n h = let l : (n - 1) / 2 < n = omega arith in grind (arith, nat_tests)

pub centre_point : (ns : List ℕ) → All (λ n. 1 ≤ n) ns → is_point ns (centre ns) ≡ true
centre_point [] a = refl
centre_point (n ∷ ns) a = and_of (nat_lt ((n - 1) / 2) n) (is_point ns (centre ns)) (half_below n (All-head (λ m. 1 ≤ m) n ns a)) (centre_point ns (All-tail (λ m. 1 ≤ m) n ns a))

pub centre_next : (ns row : List ℕ) (i z : ℕ) → i < length ns → i < length row → z ≡ (get_or ns i 0 - 1) / 2 → take i row ≡ take i (centre ns) → take (i + 1) (set row i z) ≡ take (i + 1) (centre ns)
centre_next ns row i z lt lt' e t =
    let l = length-map ns (λ n. (n - 1) / 2) in
    let g : get_or (centre ns) i 0 ≡ (get_or ns i 0 - 1) / 2 = get_or-map (λ n. (n - 1) / 2) ns i 0 0 lt in
    take_more_set row i z lt' ∙ (ap₂ (λ (v : List ℕ) (w : ℕ). v ++ w ∷ []) t (e ∙ sym g) ∙ sym (take_more (centre ns) i 0 (omega (arith, l))))

pub centre_written : (ns row : List ℕ) (i : ℕ) → i ≡ length ns → take i row ≡ take i (centre ns) → take (length ns) row ≡ centre ns
centre_written ns row i e t =
    let l = length-map ns (λ n. (n - 1) / 2) in
    ap (λ n. take n row) (sym e) ∙ (t ∙ (ap (λ n. take n (centre ns)) (e ∙ sym l) ∙ take-length (centre ns)))

-- ---- sizes

if_some : (ps : List Param) (k : ℕ) (r : ℕ) → k < length ps → IfSome (slice_get ps k) (λ p. r ≡ size p) → r ≡ size (get_or ps k no_param)
if_some ps k r h i = subst (λ (o : Option Param). IfSome o (λ p. r ≡ size p)) (slice_get-get_or ps k no_param h) i

sizes_push : (ps : List Param) (p : Param) → sizes (ps ++ p ∷ []) ≡ sizes ps ++ size p ∷ []
sizes_push [] p = refl
sizes_push (q ∷ ps) p = ap (λ (v : List ℕ). size q ∷ v) (sizes_push ps p)

pub sizes_more : (ps : List Param) (k r : ℕ) (so_far : List ℕ) → k < length ps → IfSome (slice_get ps k) (λ p. r ≡ size p) → so_far ≡ sizes (take k ps) → so_far ++ r ∷ [] ≡ sizes (take (k + 1) ps)
sizes_more ps k r so_far h i e =
    ap₂ (λ (v : List ℕ) (n : ℕ). v ++ n ∷ []) e (if_some ps k r h i) ∙ (sym (sizes_push (take k ps) (get_or ps k no_param)) ∙ ap sizes (sym (take_more ps k no_param h)))

pub sizes_some : (ps : List Param) → All (λ n. 1 ≤ n) (sizes ps)
sizes_some [] = All-nil (λ n. 1 ≤ n)
sizes_some (p ∷ ps) = All-cons (λ n. 1 ≤ n) (size p) (sizes ps) (size_some p) (sizes_some ps)

pub greatest_within : (ps : List Param) → greatest (sizes ps) ≤ count (sizes ps)
greatest_within [] = omega arith
greatest_within (p ∷ ps) =
    let r = greatest_within ps in
    let s = size_some p in
    let c = count_all ps in
    let a : size p * 1 ≤ size p * count (sizes ps) = mul-le-mul_left (size p) c in
    let b : 1 * count (sizes ps) ≤ size p * count (sizes ps) = mul-le-mul_right (count (sizes ps)) s in
    omega arith

-- ---- no trial yet

zeros : (n t : ℕ) → get_or (replicate {A = ℕ} n 0) t 0 ≡ 0
zeros zero t = refl
zeros (suc n) zero = refl
zeros (suc n) (suc t) = zeros n t

length_zeros : (n : ℕ) → length (replicate {A = ℕ} n 0) ≡ n
length_zeros zero = refl
length_zeros (suc n) = ap (λ k. suc k) (length_zeros n)

none_distinct : IsDistinct same_point []
unfolding IsDistinct
none_distinct = tt

pub no_trials : (ps : List Param) (ns : List ℕ) (rows : List (List ℕ)) (table : List ℕ) (n cap : ℕ) → is_within ps ≡ true → ns ≡ sizes ps → rows ≡ [] → table ≡ replicate n 0 → n ≡ count (sizes ps) → n ≤ 65536 → cap ≡ n → AreTrials ns (map (take (length ns)) rows) table cap
no_trials ps ns rows table n cap w sizes_are no_rows zero_table points few room =
    let f = within_facts ps w in
    let l : length (sizes ps) ≡ length ps = length-map ps size in
    subst (λ (v : List ℕ). AreTrials v (map (take (length v)) rows) table cap) (sym sizes_are)
    (subst (λ (v : List (List ℕ)). AreTrials (sizes ps) (map (take (length (sizes ps))) v) table cap) (sym no_rows)
    (subst (λ (v : List ℕ). AreTrials (sizes ps) [] v cap) (sym zero_table) (record {
      dims = omega (arith, l, f.few);
      few = f.points;
      some = sizes_some ps;
      in_grid = All-nil (λ p. is_point (sizes ps) p ≡ true);
      apart = none_distinct;
      room = omega arith;
      is_table = record { long = length_zeros n ∙ points; each = λ p h. zeros n (number (sizes ps) p) };
    })))

length_none : (n : ℕ) → length (replicate {A = Option Outcome} n None) ≡ n
length_none zero = refl
length_none (suc n) = ap (λ k. suc k) (length_none n)

length_fresh : (n : ℕ) (y : Tally) → length (replicate {A = Tally} n y) ≡ n
length_fresh zero y = refl
length_fresh (suc n) y = ap (λ k. suc k) (length_fresh n y)

fresh : (n t : ℕ) (y : Tally) → get_or (replicate n y) t y ≡ y
fresh zero t y = refl
fresh (suc n) zero y = refl
fresh (suc n) (suc t) y = fresh n t y

pub fresh_tallies : (n r : ℕ) → replicate n (record { left = r; least = Refused }) ≡ replicate n (tally_from r [])
fresh_tallies n r = let e : r ≡ r - 0 = omega arith in λ i. replicate n (record { left = e i; least = Refused })

-- a search that begins
pub started : (ps items : List Param) (rep : ℕ) (g : Game) (os : List (Option Outcome)) (ts : List Tally) (es : List Costed) (slice : List ℕ) (most n : ℕ) → (1 ≤ rep) × (rep ≤ 9) → items ≡ ps → g ≡ opening (sizes ps) → os ≡ replicate n None → ts ≡ replicate n (tally_from rep []) → es ≡ [] → n ≡ count (sizes ps) → n ≤ 65536 → length g.points ≤ count g.sizes →
    most ≡ bound slice → slice ≡ g.sizes → most < 2 ^ 63 → IsSearch items rep g os ts es None 0 most
started ps items rep g os ts es slice most n few items_are game none_yet none_left no_entries points small_grid fits most_is slice_is small =
    let z : g.sizes ≡ sizes ps = ap (λ (h : Game). h.sizes) game in
    subst (λ (v : List Param). IsSearch v rep g os ts es None 0 most) (sym items_are)
    (subst (λ (v : List Costed). IsSearch ps rep g os ts v None 0 most) (sym no_entries)
    (subst (λ (v : List Tally). IsSearch ps rep g os v [] None 0 most) (sym none_left)
    (subst (λ (v : List (Option Outcome)). IsSearch ps rep g v (replicate n (tally_from rep [])) [] None 0 most) (sym none_yet) (record {
      repeat = few;
      sizes_are = z;
      game = game ∙ opening_waits rep (sizes ps) few.0;
      outcomes_are = λ t. unknown n t ∙ sym (nothing_known rep t few.0);
      tallies_are = λ t. fresh n t (tally_from rep []);
      long = length_none n ∙ (points ∙ ap count (sym z));
      tallies_long = length_fresh n (tally_from rep []) ∙ (points ∙ ap count (sym z));
      within = fits;
      legal = refl;
      kept = none_kept (length g.points) rep few.0;
      best_is = refl;
      versions_are = refl;
      points_few = omega (arith, points, small_grid);
      most_is = most_is ∙ ap bound (slice_is ∙ z);
      small = small;
    }))))
