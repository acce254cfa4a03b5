-- The cost of small lists, computed.
use Rattle.std.proofs.Common.{◌≡◌, refl, ap, suc, min, ◌∙◌, ◌++◌, ◌+◌, ◌*◌, ℕ, ◌+ℤ◌, ℤ, pos, negsuc, List, [], ◌∷◌, length, map}
use Rattle.std.specs.List.{flat_map}
use Rattle.std.specs.Int.{int_div_euclid, int_rem_euclid}
use Rattle.ch_nest.specs.declared.nest.Access.{Access}
use Rattle.ch_nest.specs.declared.nest.Body.{Body}
use Rattle.ch_nest.specs.declared.nest.Expr.{Expr}
use Rattle.ch_nest.specs.declared.nest.Expr.TheVariants.{Number, Iter, Read, Add, Mul}
use Rattle.ch_nest.specs.declared.nest.Sub.{Sub}
use Rattle.ch_timed.specs.declared.element.Element.{Element}
use Rattle.ch_timed.specs.declared.element.Label.TheVariants.{Stmt}
use Rattle.ch_timed.specs.Conflict.{cell_of, reads}
use Rattle.ch_timed.specs.Flat.{place_of}
use Rattle.ch_timed.proofs.Rolls.{reads_add, reads_mul, reads_read, reads_number, reads_iter}
use Rattle.ch_nest.specs.CostModel.{CostModel}
use Rattle.ch_cost.specs.Cost.{addresses, all_turns, cost, empty_slots, misses, most_cost}

-- a turn costs 1 and a miss 8, and the cache has 16 lines of 4 cells
abbrev usual : CostModel
usual = record { turn = 1; miss = 8; lines = 16; width = 4 }

abbrev sub : List ℤ → ℤ → Sub
sub coefs constant = record { form = record { coefs = coefs; constant = constant }; modulus = 0 }

abbrev access : ℕ → List Sub → Access
access array subs = record { array = array; subs = subs }

-- a body with its reads written out
record Known : Type 0 where
  body : Body
  sources : List Access
  known : reads body.right ≡ sources

-- an instance of it: the iterators and the vector
abbrev Instance : Type 0
Instance = Known × (List ℤ × List ℤ)

abbrev element : Instance → Element
element i = record { identity = record { label = Stmt 0; iters = i.1.0 }; vector = i.1.1; body = i.0.body }

-- its addresses, computed
abbrev plain : List (List ℕ) → Instance → List ℕ
plain extents i = map (place_of extents) (map (cell_of i.1.0) i.0.sources ++ cell_of i.1.0 i.0.body.write ∷ [])

vectors_are : (list : List Instance) → map (λ e. e.vector) (map element list) ≡ map (λ i. i.1.1) list
vectors_are [] = refl
vectors_are (i ∷ more) = ap (λ vs. i.1.1 ∷ vs) (vectors_are more)

lengths_are : (list : List Instance) → length (map element list) ≡ length list
lengths_are [] = refl
lengths_are (i ∷ more) = ap suc (lengths_are more)

addresses_are : (extents : List (List ℕ)) (list : List Instance) → flat_map (addresses extents) (map element list) ≡ flat_map (plain extents) list
addresses_are extents [] = refl
addresses_are extents (i ∷ more) =
    ap (λ rs. map (place_of extents) (map (cell_of i.1.0) rs ++ cell_of i.1.0 i.0.body.write ∷ []) ++ flat_map (addresses extents) (map element more)) i.0.known
    ∙ ap (λ ns. plain extents i ++ ns) (addresses_are extents more)

abbrev at_once : List (List ℕ) → List Instance → ℕ
at_once extents list =
    min most_cost (length list + usual.turn * all_turns [] (map (λ i. i.1.1) list) + usual.miss * misses usual (empty_slots usual) (flat_map (plain extents) list))

cost_is : (extents : List (List ℕ)) (list : List Instance) → cost usual extents (map element list) ≡ at_once extents list
cost_is extents list =
    ap (λ n. min most_cost (n + usual.turn * all_turns [] (map (λ e. e.vector) (map element list)) + usual.miss * misses usual (empty_slots usual) (flat_map (addresses extents) (map element list)))) (lengths_are list)
    ∙ ap (λ vs. min most_cost (length list + usual.turn * all_turns [] vs + usual.miss * misses usual (empty_slots usual) (flat_map (addresses extents) (map element list)))) (vectors_are list)
    ∙ ap (λ ns. min most_cost (length list + usual.turn * all_turns [] (map (λ i. i.1.1) list) + usual.miss * misses usual (empty_slots usual) ns)) (addresses_are extents list)

-- A[i][j] = 10 * i + j at 0 <= j < i < 4, the loop over j in tiles of 2
abbrev triangle_body : Body
triangle_body = record {
  write = access 0 (sub (pos 1 ∷ pos 0 ∷ []) (pos 0) ∷ sub (pos 0 ∷ pos 1 ∷ []) (pos 0) ∷ []);
  right = Add (Mul (Number (pos 10)) (Iter 0)) (Iter 1);
}

abbrev triangle : Known
triangle = record { body = triangle_body; sources = []; known = simp (reads_add, reads_mul, reads_number, reads_iter) }

abbrev tiled : ℤ → ℤ → Instance
tiled i j = (triangle, (i ∷ j ∷ [], pos 0 ∷ int_div_euclid j (pos 2) ∷ pos 0 ∷ i ∷ pos 0 ∷ j ∷ pos 0 ∷ []))

abbrev triangle_list : List Instance
triangle_list = tiled (pos 1) (pos 0) ∷ tiled (pos 2) (pos 0) ∷ tiled (pos 2) (pos 1) ∷ tiled (pos 3) (pos 0) ∷ tiled (pos 3) (pos 1) ∷ tiled (pos 3) (pos 2) ∷ []

triangle_cost : cost usual ((4 ∷ 4 ∷ []) ∷ []) (map element triangle_list) ≡ 42
triangle_cost = cost_is ((4 ∷ 4 ∷ []) ∷ []) triangle_list

-- A[i] = i at 1 <= i <= 10, unrolled by 4
abbrev counted : Known
counted = record { body = record { write = access 0 (sub (pos 1 ∷ []) (pos 0) ∷ []); right = Iter 0 }; sources = []; known = simp reads_iter }

abbrev unrolled : ℕ → Instance
unrolled i = (counted, (pos i ∷ [], pos 0 ∷ int_div_euclid (pos i) (pos 4) ∷ int_rem_euclid (pos i) (pos 4) ∷ []))

abbrev counted_list : List Instance
counted_list = map unrolled (1 ∷ 2 ∷ 3 ∷ 4 ∷ 5 ∷ 6 ∷ 7 ∷ 8 ∷ 9 ∷ 10 ∷ [])

counted_cost : cost usual ((11 ∷ []) ∷ []) (map element counted_list) ≡ 37
counted_cost = cost_is ((11 ∷ []) ∷ []) counted_list

-- A[i] = A[i - 1] + A[i] + A[i + 1] at 0 <= t < 3 and 1 <= i <= 4, skewed, in tiles of 2
abbrev near : ℤ → Access
near c = access 0 (sub (pos 0 ∷ pos 1 ∷ []) c ∷ [])

abbrev wave : Known
wave = record {
  body = record { write = near (pos 0); right = Add (Add (Read (near (negsuc 0))) (Read (near (pos 0)))) (Read (near (pos 1))) };
  sources = near (negsuc 0) ∷ near (pos 0) ∷ near (pos 1) ∷ [];
  known = simp (reads_add, reads_read);
}

abbrev skewed : ℤ → ℤ → Instance
skewed t i = (wave, (t ∷ i ∷ [], pos 0 ∷ int_div_euclid (t +ℤ i) (pos 2) ∷ pos 0 ∷ t ∷ pos 0 ∷ (t +ℤ i) ∷ pos 0 ∷ []))

abbrev wave_list : List Instance
wave_list = skewed (pos 0) (pos 1) ∷ skewed (pos 0) (pos 2) ∷ skewed (pos 0) (pos 3) ∷ skewed (pos 1) (pos 1) ∷ skewed (pos 1) (pos 2) ∷ skewed (pos 2) (pos 1) ∷ skewed (pos 0) (pos 4) ∷ skewed (pos 1) (pos 3) ∷ skewed (pos 1) (pos 4) ∷ skewed (pos 2) (pos 2) ∷ skewed (pos 2) (pos 3) ∷ skewed (pos 2) (pos 4) ∷ []

wave_cost : cost usual ((6 ∷ []) ∷ []) (map element wave_list) ≡ 52
wave_cost = cost_is ((6 ∷ []) ∷ []) wave_list

-- A[i] = A[i] * 2 at 0 <= i < 4 in tiles of 2, over a buffer of 2 cells: what a tile needs is copied in, and its results are copied out
abbrev buffered : List ℤ → Access
buffered coefs = access 1 (record { form = record { coefs = coefs; constant = pos 0 }; modulus = 2 } ∷ [])

abbrev doubled : Known
doubled = record {
  body = record { write = buffered (pos 1 ∷ []); right = Mul (Read (buffered (pos 1 ∷ []))) (Number (pos 2)) };
  sources = buffered (pos 1 ∷ []) ∷ [];
  known = simp (reads_mul, reads_read, reads_number);
}

abbrev second : Access
second = access 0 (sub (pos 0 ∷ pos 1 ∷ []) (pos 0) ∷ [])

abbrev fetched : Known
fetched = record { body = record { write = buffered (pos 0 ∷ pos 1 ∷ []); right = Read second }; sources = second ∷ []; known = simp reads_read }

abbrev stored : Known
stored = record { body = record { write = second; right = Read (buffered (pos 0 ∷ pos 1 ∷ [])) }; sources = buffered (pos 0 ∷ pos 1 ∷ []) ∷ []; known = simp reads_read }

abbrev tile_of : ℤ → ℤ → ℤ → List Instance
tile_of t c d =
    (fetched, (t ∷ c ∷ [], pos 0 ∷ t ∷ pos 0 ∷ c ∷ pos 0 ∷ [])) ∷ (fetched, (t ∷ d ∷ [], pos 0 ∷ t ∷ pos 0 ∷ d ∷ pos 0 ∷ []))
    ∷ (doubled, (c ∷ [], pos 0 ∷ t ∷ pos 1 ∷ c ∷ pos 0 ∷ [])) ∷ (doubled, (d ∷ [], pos 0 ∷ t ∷ pos 1 ∷ d ∷ pos 0 ∷ []))
    ∷ (stored, (t ∷ c ∷ [], pos 0 ∷ t ∷ pos 2 ∷ c ∷ pos 0 ∷ [])) ∷ (stored, (t ∷ d ∷ [], pos 0 ∷ t ∷ pos 2 ∷ d ∷ pos 0 ∷ [])) ∷ []

abbrev copied_list : List Instance
copied_list = tile_of (pos 0) (pos 0) (pos 1) ++ tile_of (pos 1) (pos 2) (pos 3)

copied_cost : cost usual ((4 ∷ []) ∷ (2 ∷ []) ∷ []) (map element copied_list) ≡ 42
copied_cost = cost_is ((4 ∷ []) ∷ (2 ∷ []) ∷ []) copied_list
