-- What a move does to a store.
use Rattle.std.proofs.Common.{◌≡◌, refl, sym, ap, ap₂, ◌∙◌, subst, ℕ, zero, suc, ℤ, pos, ◌+ℤ◌, ◌*ℤ◌, true, if◌then◌else◌, List, [], ◌∷◌, ◌++◌, length, map, replicate, arith, append_assoc}
use Rattle.std.proofs.lemmas.Int.{ints}
use Rattle.std.proofs.lemmas.Bool.{eq-eqb}
use Rattle.ch_affine.specs.Affine.{value, dot}
use Rattle.ch_nest.specs.declared.nest.Access.{Access}
use Rattle.ch_nest.specs.declared.nest.Sub as subscript
use Rattle.ch_nest.specs.Run.{modulo, sub_value, subscripts}
use Rattle.ch_timed.specs.Members.{Each}
use Rattle.ch_timed.specs.Timed.{step}
use Rattle.ch_timed.specs.Conflict.{cell_of, same_cell}
use Rattle.ch_timed.specs.Do.{Store, execute}
use Rattle.ch_copied.specs.Accesses.{names}
use Rattle.ch_copied.specs.Uses.{Use}
use Rattle.ch_copied.specs.Plans.{Plan}
use Rattle.ch_copied.specs.Bodies.{in_body, moved_cell, out_body, redirected_access, variables, wrapped}
use Rattle.ch_copied.specs.Copied.{move}
use Rattle.ch_copied.proofs.Wrapping.{wrap}
use Rattle.ch_copied.proofs.Simulation.{array_cell, buffer_cell, transfer}
use Rattle.ch_copied.proofs.Values.{value_read}

abbrev pub IsPlain : List subscript.Sub → Type 0
IsPlain subs = Each (λ (s : subscript.Sub). s.modulus ≡ 0) subs

-- subscripts modulo the extents
pub wrapped_values : (point : List ℤ) (subs : List subscript.Sub) (es : List ℕ) → IsPlain subs
    → map (sub_value point) (wrapped subs es) ≡ wrap es (map (sub_value point) subs)
wrapped_values point [] es h = refl
wrapped_values point (s ∷ ss) [] h = refl
wrapped_values point (s ∷ ss) (e ∷ es) h =
    let plain : value s.form point ≡ modulo s.modulus (value s.form point) = ap (λ m. modulo m (value s.form point)) (sym h.0) in
    ap₂ (λ x xs. modulo e x ∷ xs) plain (wrapped_values point ss es h.1)

pub redirected_cell : (p : Plan) (iters : List ℤ) (a : Access) → names p.array a ≡ true → IsPlain a.subs
    → cell_of iters (redirected_access p a) ≡ buffer_cell p (subscripts a iters)
redirected_cell p iters a h plain =
    let there : redirected_access p a ≡ record { array = p.buffer; subs = wrapped a.subs p.extents } = rw h refl in
    let cells = wrapped_values iters a.subs p.extents plain in
    ap (cell_of iters) there ∙ (λ i. record { array = p.buffer; subs = cells i })

zero_times : (x : ℤ) → (pos 0 *ℤ x) ≡ pos 0
zero_times x = omega (arith, ints)

dot_zeros : (n : ℕ) (xs : List ℤ) → dot (replicate n (pos 0)) xs ≡ pos 0
dot_zeros zero xs = refl
dot_zeros (suc n) [] = refl
dot_zeros (suc n) (x ∷ xs) = let a = zero_times x in let b = dot_zeros n xs in omega (arith, ints)

one_times : (x : ℤ) → (pos 1 *ℤ x) ≡ x
one_times x = omega (arith, ints)

-- the form of one variable
dot_unit : (before : ℕ) (pre : List ℤ) (n : ℕ) (c : ℤ) (cs : List ℤ) → length pre ≡ before → dot (replicate before (pos 0) ++ pos 1 ∷ replicate n (pos 0)) (pre ++ c ∷ cs) ≡ c
dot_unit zero [] n c cs h = let a = one_times c in let b = dot_zeros n cs in omega (arith, ints)
dot_unit zero (x ∷ pre) n c cs h = absurd (omega arith)
dot_unit (suc before) [] n c cs h = absurd (omega arith)
dot_unit (suc before) (x ∷ pre) n c cs h = let a = zero_times x in let b = dot_unit before pre n c cs (omega arith) in omega (arith, ints)

plus_zero : (x : ℤ) → (pos 0 +ℤ x) ≡ x
plus_zero x = omega (arith, ints)

pub variables_are : (before : ℕ) (es : List ℕ) (pre cs : List ℤ) → length pre ≡ before → length cs ≡ length es
    → map (sub_value (pre ++ cs)) (variables before es) ≡ cs
variables_are before [] pre [] h g = refl
variables_are before [] pre (c ∷ cs) h g = absurd (omega arith)
variables_are before (e ∷ es) pre [] h g = absurd (omega arith)
variables_are before (e ∷ es) pre (c ∷ cs) h g =
    let here : pos 0 +ℤ dot (replicate before (pos 0) ++ pos 1 ∷ replicate (length es) (pos 0)) (pre ++ c ∷ cs) ≡ c =
    plus_zero (dot (replicate before (pos 0) ++ pos 1 ∷ replicate (length es) (pos 0)) (pre ++ c ∷ cs)) ∙ dot_unit before pre (length es) c cs h in
    let more : map (sub_value (pre ++ c ∷ cs)) (variables (suc before) es) ≡ cs =
    subst (λ z. map (sub_value z) (variables (suc before) es) ≡ cs) (append_assoc pre (c ∷ []) cs)
    (variables_are (suc before) es (pre ++ c ∷ []) cs (longer pre c ∙ ap (λ n. suc n) h) (omega arith)) in
    ap₂ (λ x xs. x ∷ xs) here more
  where
    longer : (xs : List ℤ) (y : ℤ) → length (xs ++ y ∷ []) ≡ suc (length xs)
    longer [] y = refl
    longer (x ∷ xs) y = ap (λ n. suc n) (longer xs y)

variables_plain : (before : ℕ) (es : List ℕ) → IsPlain (variables before es)
variables_plain before [] = tt
variables_plain before (e ∷ es) = (refl, variables_plain (suc before) es)

-- a use as a move of the plan has it
pub record IsLong (p : Plan) (u : Use) : Type 0 where
  pub prefix : length u.prefix ≡ p.around
  pub cell : length u.cell ≡ length p.extents

module _ (p : Plan) (u : Use) (long : IsLong p u) where
  pub moved_is : cell_of (u.prefix ++ u.cell) (moved_cell p) ≡ array_cell p u.cell
  moved_is = let e = variables_are p.around p.extents u.prefix u.cell long.prefix long.cell in λ i. record { array = p.array; subs = e i }

  pub buffered_is : cell_of (u.prefix ++ u.cell) (redirected_access p (moved_cell p)) ≡ buffer_cell p u.cell
  buffered_is =
      redirected_cell p (u.prefix ++ u.cell) (moved_cell p) (eq-eqb p.array p.array refl) (variables_plain p.around p.extents)
      ∙ ap (buffer_cell p) (variables_are p.around p.extents u.prefix u.cell long.prefix long.cell)

  pub load_is : (label place : ℕ) (t : Store) → execute (step (move p (in_body p) label place u)) t ≡ transfer (buffer_cell p u.cell) (array_cell p u.cell) t
  load_is label place t = λ i c.
      if same_cell c (buffered_is i) then (value_read (u.prefix ++ u.cell) t (moved_cell p) ∙ ap t moved_is) i else t c

  pub store_is : (label place : ℕ) (t : Store) → execute (step (move p (out_body p) label place u)) t ≡ transfer (array_cell p u.cell) (buffer_cell p u.cell) t
  store_is label place t = λ i c.
      if same_cell c (moved_is i) then (value_read (u.prefix ++ u.cell) t (redirected_access p (moved_cell p)) ∙ ap t buffered_is) i else t c
