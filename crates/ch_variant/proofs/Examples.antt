-- Recipes on small programs, computed from the definitions.
use Rattle.std.proofs.Common.{◌≡◌, refl, sym, ap, ◌∙◌, true, false, ◌&&◌, ◌||◌, ℤ, pos, negsuc, List, [], ◌∷◌, Some, None, Ok, Err}
use Rattle.ch_affine.specs.Form.{Form}
use Rattle.ch_nest.specs.declared.nest.Access.{Access}
use Rattle.ch_nest.specs.declared.nest.Body.{Body}
use Rattle.std.specs.List.{list_all}
use Rattle.ch_nest.specs.declared.nest.Expr.{Expr}
use Rattle.ch_nest.specs.declared.nest.Expr.TheOpen.{Expr-F}
use Rattle.ch_nest.specs.declared.nest.Expr.TheVariants.{Number, Iter, Add, Mul, Read, rolls-Add, rolls-Read}
use Rattle.ch_nest.specs.declared.nest.Expr.TheViews.{out-Expr, out-roll-Expr}
use Rattle.ch_nest.specs.declared.nest.Item.TheVariants.{Loop, Assign}
use Rattle.ch_nest.specs.declared.nest.Sub.{Sub}
use Rattle.ch_nest.specs.LoopNest.{LoopNest}
use Rattle.ch_script.specs.declared.recipe.Arg.TheVariants as arg
use Rattle.ch_script.specs.declared.recipe.Command.{Command}
use Rattle.ch_script.specs.declared.recipe.Command.TheVariants.{Accumulate, Permute, Tile, Unroll}
use Rattle.ch_script.specs.declared.refusal.Refusal.TheVariants as refusal
use Rattle.ch_reduce.specs.Accumulation.{accumulates, adds_to, is_of_other, is_read, leaves_out}
use Rattle.ch_reduce.specs.Relaxed.{relaxed_reversed}
use Rattle.ch_space.specs.Listed.{Listed}
use Rattle.ch_timed.specs.Conflict.{reads, reversed}
use Rattle.ch_timed.specs.Start.{start}
use Rattle.ch_timed.specs.Timed.{step}
use Rattle.ch_timed.specs.declared.element.Element.{Element}
use Rattle.ch_timed.specs.declared.element.Identity.{Identity}
use Rattle.ch_timed.specs.declared.element.Label.TheVariants.{Stmt}
use Rattle.ch_timed.proofs.Rolls.{reads_add, reads_iter, reads_mul, reads_number, reads_read, start_loop, start_assign}
use Rattle.ch_variant.specs.Applied.{and_then, applied, decided, from_step, one}
use Rattle.ch_variant.specs.Arguments.{Scope, scope}
use Rattle.ch_variant.specs.Commands.{cause, changed, next}
use Rattle.ch_variant.proofs.Known.{reversed_known, sums_free}

abbrev form : List ℤ → ℤ → Form
form coefs constant = record { coefs = coefs; constant = constant }

abbrev sub : List ℤ → ℤ → Sub
sub coefs constant = record { form = form coefs constant; modulus = 0 }

-- A[i + a][j + b]
abbrev near : ℤ → ℤ → Access
near a b = record { array = 0; subs = sub (pos 1 ∷ pos 0 ∷ []) a ∷ sub (pos 0 ∷ pos 1 ∷ []) b ∷ [] }

abbrev listed : List Element → Listed
listed list = record { list = list; arrays = 1; temps = []; weight = 1; commands = 0 }

-- ---- A[i][j] = 10 * i + j at 0 <= j < i < 4, and tile(0, 2, T, 1)

abbrev body : Body
body = record { write = near (pos 0) (pos 0); right = Add (Mul (Number (pos 10)) (Iter 0)) (Iter 1) }

abbrev triangle : LoopNest
triangle = record {
  arrays = record { name = []; extents = 4 ∷ 4 ∷ [] } ∷ [];
  items = Loop (form [] (pos 0) ∷ []) (form [] (pos 3) ∷ []) 1 (Loop (form (pos 0 ∷ []) (pos 0) ∷ []) (form (pos 1 ∷ []) (negsuc 0) ∷ []) 1 (Assign 0 body ∷ []) ∷ []) ∷ [];
}

abbrev at : Body → ℤ → ℤ → List ℤ → Element
at b i j vector = record { identity = record { label = Stmt 0; iters = i ∷ j ∷ [] }; vector = vector; body = b }

abbrev written : ℤ → ℤ → Element
written i j = at body i j (pos 0 ∷ i ∷ pos 0 ∷ j ∷ pos 0 ∷ [])

abbrev tiled : ℤ → ℤ → ℤ → Element
tiled t i j = at body i j (pos 0 ∷ t ∷ pos 0 ∷ i ∷ pos 0 ∷ j ∷ pos 0 ∷ [])

abbrev rows : List Element
rows = written (pos 1) (pos 0) ∷ written (pos 2) (pos 0) ∷ written (pos 2) (pos 1) ∷ written (pos 3) (pos 0) ∷ written (pos 3) (pos 1) ∷ written (pos 3) (pos 2) ∷ []

abbrev two_tiles : List Element
two_tiles = tiled (pos 0) (pos 1) (pos 0) ∷ tiled (pos 0) (pos 2) (pos 0) ∷ tiled (pos 0) (pos 2) (pos 1) ∷ tiled (pos 0) (pos 3) (pos 0) ∷ tiled (pos 0) (pos 3) (pos 1) ∷ tiled (pos 1) (pos 3) (pos 2) ∷ []

the_rows : start triangle ≡ rows
the_rows = simp (start_loop, start_assign)

no_reads : reads body.right ≡ []
no_reads = simp (reads_add, reads_mul, reads_number, reads_iter)

abbrev tile : Command
tile = Tile (arg.Number (pos 0)) (arg.Number (pos 2)) (arg.Param 0) (arg.Number (pos 1))

abbrev at_two : Scope
at_two = scope triangle (pos 2 ∷ [])

the_tiles : changed at_two tile (listed rows) ≡ two_tiles
the_tiles = refl

fine : cause at_two tile (listed rows) ≡ None
fine = refl

none_turned : reversed rows two_tiles ≡ None
none_turned = reversed_known [] rows two_tiles (no_reads, (no_reads, (no_reads, (no_reads, (no_reads, (no_reads, tt))))))

-- at T = 2 it is legal
legal : applied triangle (tile ∷ []) (pos 2 ∷ []) ≡ Ok (next at_two tile (listed rows))
legal =
    ap (λ l. from_step at_two false 1 (tile ∷ []) (listed l)) the_rows
    ∙ ap (λ o. and_then (decided 1 None o (next at_two tile (listed rows))) (from_step at_two false 2 [])) none_turned

-- at T = 0 there is no such tile, and 33 is too often to unroll
no_tile : one (scope triangle (pos 0 ∷ [])) false 1 tile (listed rows) ≡ Err (refusal.Shape 1 (record { code = 4; number = pos 0 }))
no_tile = refl

no_amount : cause (scope triangle (pos 33 ∷ [])) (Unroll (arg.Number (pos 0)) (arg.Number (pos 1)) (arg.Param 0)) (listed rows) ≡ Some (record { code = 4; number = pos 33 })
no_amount = refl

-- ---- A[i][j] = A[i - 1][j + 1] + 1 at 1 <= i <= 2, 0 <= j <= 1: the loops may not be interchanged

abbrev source : Access
source = near (negsuc 0) (pos 1)

abbrev wave_body : Body
wave_body = record { write = near (pos 0) (pos 0); right = Add (Read source) (Number (pos 1)) }

abbrev wave : LoopNest
wave = record {
  arrays = record { name = []; extents = 3 ∷ 3 ∷ [] } ∷ [];
  items = Loop (form [] (pos 1) ∷ []) (form [] (pos 2) ∷ []) 1 (Loop (form (pos 0 ∷ []) (pos 0) ∷ []) (form (pos 0 ∷ []) (pos 1) ∷ []) 1 (Assign 0 wave_body ∷ []) ∷ []) ∷ [];
}

abbrev front : ℤ → ℤ → Element
front i j = at wave_body i j (pos 0 ∷ i ∷ pos 0 ∷ j ∷ pos 0 ∷ [])

abbrev turned : ℤ → ℤ → Element
turned i j = at wave_body i j (pos 0 ∷ j ∷ pos 0 ∷ i ∷ pos 0 ∷ [])

abbrev fronts : List Element
fronts = front (pos 1) (pos 0) ∷ front (pos 1) (pos 1) ∷ front (pos 2) (pos 0) ∷ front (pos 2) (pos 1) ∷ []

abbrev interchanged : List Element
interchanged = turned (pos 1) (pos 0) ∷ turned (pos 2) (pos 0) ∷ turned (pos 1) (pos 1) ∷ turned (pos 2) (pos 1) ∷ []

the_fronts : start wave ≡ fronts
the_fronts = simp (start_loop, start_assign)

reads_source : reads wave_body.right ≡ source ∷ []
reads_source = simp (reads_add, reads_read, reads_number)

abbrev interchange : Command
interchange = Permute (arg.Number (pos 0)) (arg.Number (pos 2) ∷ arg.Number (pos 1) ∷ [])

abbrev as_it_waves : Scope
as_it_waves = scope wave []

the_interchange : changed as_it_waves interchange (listed fronts) ≡ interchanged
the_interchange = refl

abbrev instance : ℤ → ℤ → Identity
instance i j = record { label = Stmt 0; iters = i ∷ j ∷ [] }

pair_turned : reversed fronts interchanged
    ≡ Some (record { first = step (front (pos 1) (pos 1)); second = step (front (pos 2) (pos 0)); cell = record { array = 0; subs = pos 1 ∷ pos 1 ∷ [] } })
pair_turned = reversed_known (source ∷ []) fronts interchanged (reads_source, (reads_source, (reads_source, (reads_source, tt))))

-- S0(1, 1) writes A[1][1], which S0(2, 0) reads
illegal : applied wave (interchange ∷ tile ∷ []) []
    ≡ Err (refusal.Illegal 1 (instance (pos 1) (pos 1)) (instance (pos 2) (pos 0)) (record { array = 0; subs = pos 1 ∷ pos 1 ∷ [] }))
illegal =
    ap (λ l. from_step as_it_waves false 1 (interchange ∷ tile ∷ []) (listed l)) the_fronts
    ∙ ap (λ o. and_then (decided 1 None o (next as_it_waves interchange (listed fronts))) (from_step as_it_waves false 2 (tile ∷ []))) pair_turned

-- ---- Z[0] = Z[0] + B[i][j] at 0 <= i, j <= 1: the loops may be interchanged where sums may be made in any order

abbrev total : Access
total = record { array = 0; subs = sub (pos 0 ∷ pos 0 ∷ []) (pos 0) ∷ [] }

abbrev added : Access
added = record { array = 1; subs = sub (pos 1 ∷ pos 0 ∷ []) (pos 0) ∷ sub (pos 0 ∷ pos 1 ∷ []) (pos 0) ∷ [] }

abbrev sum_body : Body
sum_body = record { write = total; right = Add (Read total) (Read added) }

abbrev sum : LoopNest
sum = record {
  arrays = record { name = []; extents = 1 ∷ [] } ∷ record { name = []; extents = 2 ∷ 2 ∷ [] } ∷ [];
  items = Loop (form [] (pos 0) ∷ []) (form [] (pos 1) ∷ []) 1 (Loop (form (pos 0 ∷ []) (pos 0) ∷ []) (form (pos 0 ∷ []) (pos 1) ∷ []) 1 (Assign 0 sum_body ∷ []) ∷ []) ∷ [];
}

abbrev term : ℤ → ℤ → Element
term i j = at sum_body i j (pos 0 ∷ i ∷ pos 0 ∷ j ∷ pos 0 ∷ [])

abbrev turned_term : ℤ → ℤ → Element
turned_term i j = at sum_body i j (pos 0 ∷ j ∷ pos 0 ∷ i ∷ pos 0 ∷ [])

abbrev terms : List Element
terms = term (pos 0) (pos 0) ∷ term (pos 0) (pos 1) ∷ term (pos 1) (pos 0) ∷ term (pos 1) (pos 1) ∷ []

abbrev turned_terms : List Element
turned_terms = turned_term (pos 0) (pos 0) ∷ turned_term (pos 1) (pos 0) ∷ turned_term (pos 0) (pos 1) ∷ turned_term (pos 1) (pos 1) ∷ []

abbrev two_arrays : List Element → Listed
two_arrays list = record { list = list; arrays = 2; temps = []; weight = 1; commands = 0 }

abbrev as_it_sums : Scope
as_it_sums = scope sum []

the_terms : start sum ≡ terms
the_terms = simp (start_loop, start_assign)

reads_both : reads sum_body.right ≡ total ∷ added ∷ []
reads_both = simp (reads_add, reads_read)

the_turned_terms : changed as_it_sums interchange (two_arrays terms) ≡ turned_terms
the_turned_terms = refl

sum_turned : reversed terms turned_terms
    ≡ Some (record { first = step (term (pos 0) (pos 1)); second = step (term (pos 1) (pos 0)); cell = record { array = 0; subs = pos 0 ∷ [] } })
sum_turned = reversed_known (total ∷ added ∷ []) terms turned_terms (reads_both, (reads_both, (reads_both, (reads_both, tt))))

-- S0(0, 1) and S0(1, 0) both write Z[0]
sum_refused : applied sum (interchange ∷ []) []
    ≡ Err (refusal.Illegal 1 (instance (pos 0) (pos 1)) (instance (pos 1) (pos 0)) (record { array = 0; subs = pos 0 ∷ [] }))
sum_refused =
    ap (λ l. from_step as_it_sums false 1 (interchange ∷ []) (two_arrays l)) the_terms
    ∙ ap (λ o. and_then (decided 1 None o (next as_it_sums interchange (two_arrays terms))) (from_step as_it_sums false 2 [])) sum_turned

-- where it comes behind `accumulate` it is the second command, and is legal

out_add : (x y : Expr) → out-Expr (Add x y) ≡ Expr-F.Add x y
out_add x y = ap out-Expr (sym (rolls-Add x y)) ∙ out-roll-Expr (Expr-F.Add x y)

out_read : (a : Access) → out-Expr (Read a) ≡ Expr-F.Read a
out_read a = ap out-Expr (sym (rolls-Read a)) ∙ out-roll-Expr (Expr-F.Read a)

adds : accumulates sum_body ≡ true
adds =
    ap (adds_to total) (out_add (Read total) (Read added))
    ∙ ap (λ o. (is_read total o && leaves_out 0 (Read added)) || (is_read total (out-Expr (Read added)) && leaves_out 0 (Read total))) (out_read total)
    ∙ ap (λ xs. list_all (is_of_other 0) xs || (is_read total (out-Expr (Read added)) && leaves_out 0 (Read total))) (reads_read added)

none_in_free_conflict : relaxed_reversed terms turned_terms ≡ None
none_in_free_conflict = sums_free 0 terms turned_terms ((adds, refl), ((adds, refl), ((adds, refl), ((adds, refl), tt))))

sum_legal : applied sum (Accumulate ∷ interchange ∷ []) [] ≡ Ok (next as_it_sums interchange (two_arrays terms))
sum_legal =
    ap (λ l. from_step as_it_sums false 1 (Accumulate ∷ interchange ∷ []) (two_arrays l)) the_terms
    ∙ ap (λ o. and_then (decided 2 None o (next as_it_sums interchange (two_arrays terms))) (from_step as_it_sums true 3 [])) none_in_free_conflict
