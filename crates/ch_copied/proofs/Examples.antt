-- The definitions computed on small lists: each list after a copy, element by element.
use Rattle.std.proofs.Common.{◌≡◌, refl, ℕ, ℤ, pos, negsuc, List, [], ◌∷◌}
use Rattle.ch_nest.specs.declared.nest.Access.{Access}
use Rattle.ch_nest.specs.declared.nest.Body.{Body}
use Rattle.ch_nest.specs.declared.nest.Expr.{Expr}
use Rattle.ch_nest.specs.declared.nest.Expr.TheVariants.{Number, Iter, Read, Neg, Add, Sub, Mul}
use Rattle.ch_nest.specs.declared.nest.Sub as subscript
use Rattle.ch_timed.specs.declared.element.Element.{Element}
use Rattle.ch_timed.specs.declared.element.Label.{Label}
use Rattle.ch_timed.specs.declared.element.Label.TheVariants.{Stmt, Move}
use Rattle.ch_timed.specs.Conflict.{reads}
use Rattle.ch_timed.proofs.Rolls.{reads_number, reads_iter, reads_read, reads_neg, reads_add, reads_sub, reads_mul}
use Rattle.ch_copied.specs.Plans.{Plan, plan}
use Rattle.ch_copied.specs.Bodies.{redirected, in_body, out_body}
use Rattle.ch_copied.specs.Copied.{copied}
use Rattle.ch_copied.proofs.Rolls.{redirect_number, redirect_iter, redirect_read, redirect_neg, redirect_add, redirect_sub, redirect_mul}

abbrev at : Label → List ℤ → List ℤ → Body → Element
at l iters vector body = record { identity = record { label = l; iters = iters }; vector = vector; body = body }

-- the form with these coefficients and this constant, modulo a number or as it stands
abbrev taken : List ℤ → ℤ → ℕ → subscript.Sub
taken coefs constant modulus = record { form = record { coefs = coefs; constant = constant }; modulus = modulus }

abbrev access : ℕ → List subscript.Sub → Access
access array subs = record { array = array; subs = subs }

abbrev assigned : Access → Expr → Body
assigned write right = record { write = write; right = right }

-- a tile of a loop that doubles an array

abbrev body0 : Body
body0 = assigned (access 0 (taken (pos 1 ∷ []) (pos 0) 0 ∷ [])) (Mul (Read (access 0 (taken (pos 1 ∷ []) (pos 0) 0 ∷ []))) (Number (pos 2)))

abbrev tile_old : List Element
tile_old =
    at (Stmt 0) (pos 0 ∷ []) (pos 0 ∷ pos 0 ∷ pos 0 ∷ pos 0 ∷ pos 0 ∷ []) body0 ∷
    at (Stmt 0) (pos 1 ∷ []) (pos 0 ∷ pos 0 ∷ pos 0 ∷ pos 1 ∷ pos 0 ∷ []) body0 ∷
    at (Stmt 0) (pos 2 ∷ []) (pos 0 ∷ pos 1 ∷ pos 0 ∷ pos 2 ∷ pos 0 ∷ []) body0 ∷
    at (Stmt 0) (pos 3 ∷ []) (pos 0 ∷ pos 1 ∷ pos 0 ∷ pos 3 ∷ pos 0 ∷ []) body0 ∷
    []

abbrev tile_plan : Plan
tile_plan = record {
  ours = (pos 0 ∷ pos 0 ∷ pos 0 ∷ []);
  around = 1;
  array = 0;
  buffer = 1;
  ins = record { places = pos 0 ∷ pos 0 ∷ pos 0 ∷ []; access = access 0 (taken (pos 1 ∷ []) (pos 0) 0 ∷ []) } ∷ [];
  outs = record { places = pos 0 ∷ pos 0 ∷ pos 0 ∷ []; access = access 0 (taken (pos 1 ∷ []) (pos 0) 0 ∷ []) } ∷ [];
  extents = (2 ∷ []);
  label = 0;
}

tile_body0_reads : reads body0.right ≡ access 0 (taken (pos 1 ∷ []) (pos 0) 0 ∷ []) ∷ []
tile_body0_reads = simp (reads_number, reads_read, reads_mul)

tile_is : plan tile_old 0 1 0 1 ≡ tile_plan
tile_is = rw (tile_body0_reads) refl

abbrev tile_new : List Element
tile_new =
    at (Move 0) (pos 0 ∷ pos 0 ∷ []) (pos 0 ∷ pos 0 ∷ pos 0 ∷ pos 0 ∷ pos 0 ∷ []) (in_body tile_plan) ∷
    at (Move 0) (pos 0 ∷ pos 1 ∷ []) (pos 0 ∷ pos 0 ∷ pos 0 ∷ pos 1 ∷ pos 0 ∷ []) (in_body tile_plan) ∷
    at (Stmt 0) (pos 0 ∷ []) (pos 0 ∷ pos 0 ∷ pos 1 ∷ pos 0 ∷ pos 0 ∷ []) (redirected tile_plan body0) ∷
    at (Stmt 0) (pos 1 ∷ []) (pos 0 ∷ pos 0 ∷ pos 1 ∷ pos 1 ∷ pos 0 ∷ []) (redirected tile_plan body0) ∷
    at (Move 1) (pos 0 ∷ pos 0 ∷ []) (pos 0 ∷ pos 0 ∷ pos 2 ∷ pos 0 ∷ pos 0 ∷ []) (out_body tile_plan) ∷
    at (Move 1) (pos 0 ∷ pos 1 ∷ []) (pos 0 ∷ pos 0 ∷ pos 2 ∷ pos 1 ∷ pos 0 ∷ []) (out_body tile_plan) ∷
    at (Move 0) (pos 1 ∷ pos 2 ∷ []) (pos 0 ∷ pos 1 ∷ pos 0 ∷ pos 2 ∷ pos 0 ∷ []) (in_body tile_plan) ∷
    at (Move 0) (pos 1 ∷ pos 3 ∷ []) (pos 0 ∷ pos 1 ∷ pos 0 ∷ pos 3 ∷ pos 0 ∷ []) (in_body tile_plan) ∷
    at (Stmt 0) (pos 2 ∷ []) (pos 0 ∷ pos 1 ∷ pos 1 ∷ pos 2 ∷ pos 0 ∷ []) (redirected tile_plan body0) ∷
    at (Stmt 0) (pos 3 ∷ []) (pos 0 ∷ pos 1 ∷ pos 1 ∷ pos 3 ∷ pos 0 ∷ []) (redirected tile_plan body0) ∷
    at (Move 1) (pos 1 ∷ pos 2 ∷ []) (pos 0 ∷ pos 1 ∷ pos 2 ∷ pos 2 ∷ pos 0 ∷ []) (out_body tile_plan) ∷
    at (Move 1) (pos 1 ∷ pos 3 ∷ []) (pos 0 ∷ pos 1 ∷ pos 2 ∷ pos 3 ∷ pos 0 ∷ []) (out_body tile_plan) ∷
    []

tile_copied : copied tile_plan tile_old ≡ tile_new
tile_copied = refl

tile_right0 : (redirected tile_plan body0).right ≡ Mul (Read (access 1 (taken (pos 1 ∷ []) (pos 0) 2 ∷ []))) (Number (pos 2))
tile_right0 = simp (redirect_number, redirect_read, redirect_mul)

tile_write0 : (redirected tile_plan body0).write ≡ access 1 (taken (pos 1 ∷ []) (pos 0) 2 ∷ [])
tile_write0 = refl

tile_in : in_body tile_plan ≡ assigned (access 1 (taken (pos 0 ∷ pos 1 ∷ []) (pos 0) 2 ∷ [])) (Read (access 0 (taken (pos 0 ∷ pos 1 ∷ []) (pos 0) 0 ∷ [])))
tile_in = refl

tile_out : out_body tile_plan ≡ assigned (access 0 (taken (pos 0 ∷ pos 1 ∷ []) (pos 0) 0 ∷ [])) (Read (access 1 (taken (pos 0 ∷ pos 1 ∷ []) (pos 0) 2 ∷ [])))
tile_out = refl

-- an array that is only read

abbrev body1 : Body
body1 = assigned (access 1 (taken (pos 1 ∷ []) (pos 0) 0 ∷ [])) (Add (Read (access 0 (taken (pos 1 ∷ []) (pos 0) 0 ∷ []))) (Number (pos 1)))

abbrev only_read_old : List Element
only_read_old =
    at (Stmt 0) (pos 0 ∷ []) (pos 0 ∷ pos 0 ∷ pos 0 ∷ pos 0 ∷ pos 0 ∷ []) body1 ∷
    at (Stmt 0) (pos 1 ∷ []) (pos 0 ∷ pos 0 ∷ pos 0 ∷ pos 1 ∷ pos 0 ∷ []) body1 ∷
    at (Stmt 0) (pos 2 ∷ []) (pos 0 ∷ pos 1 ∷ pos 0 ∷ pos 2 ∷ pos 0 ∷ []) body1 ∷
    at (Stmt 0) (pos 3 ∷ []) (pos 0 ∷ pos 1 ∷ pos 0 ∷ pos 3 ∷ pos 0 ∷ []) body1 ∷
    []

abbrev only_read_plan : Plan
only_read_plan = record {
  ours = (pos 0 ∷ pos 0 ∷ pos 0 ∷ []);
  around = 1;
  array = 0;
  buffer = 2;
  ins = record { places = pos 0 ∷ pos 0 ∷ pos 0 ∷ []; access = access 0 (taken (pos 1 ∷ []) (pos 0) 0 ∷ []) } ∷ [];
  outs = [];
  extents = (2 ∷ []);
  label = 0;
}

only_read_body1_reads : reads body1.right ≡ access 0 (taken (pos 1 ∷ []) (pos 0) 0 ∷ []) ∷ []
only_read_body1_reads = simp (reads_number, reads_read, reads_add)

only_read_is : plan only_read_old 0 1 0 2 ≡ only_read_plan
only_read_is = rw (only_read_body1_reads) refl

abbrev only_read_new : List Element
only_read_new =
    at (Move 0) (pos 0 ∷ pos 0 ∷ []) (pos 0 ∷ pos 0 ∷ pos 0 ∷ pos 0 ∷ pos 0 ∷ []) (in_body only_read_plan) ∷
    at (Move 0) (pos 0 ∷ pos 1 ∷ []) (pos 0 ∷ pos 0 ∷ pos 0 ∷ pos 1 ∷ pos 0 ∷ []) (in_body only_read_plan) ∷
    at (Stmt 0) (pos 0 ∷ []) (pos 0 ∷ pos 0 ∷ pos 1 ∷ pos 0 ∷ pos 0 ∷ []) (redirected only_read_plan body1) ∷
    at (Stmt 0) (pos 1 ∷ []) (pos 0 ∷ pos 0 ∷ pos 1 ∷ pos 1 ∷ pos 0 ∷ []) (redirected only_read_plan body1) ∷
    at (Move 0) (pos 1 ∷ pos 2 ∷ []) (pos 0 ∷ pos 1 ∷ pos 0 ∷ pos 2 ∷ pos 0 ∷ []) (in_body only_read_plan) ∷
    at (Move 0) (pos 1 ∷ pos 3 ∷ []) (pos 0 ∷ pos 1 ∷ pos 0 ∷ pos 3 ∷ pos 0 ∷ []) (in_body only_read_plan) ∷
    at (Stmt 0) (pos 2 ∷ []) (pos 0 ∷ pos 1 ∷ pos 1 ∷ pos 2 ∷ pos 0 ∷ []) (redirected only_read_plan body1) ∷
    at (Stmt 0) (pos 3 ∷ []) (pos 0 ∷ pos 1 ∷ pos 1 ∷ pos 3 ∷ pos 0 ∷ []) (redirected only_read_plan body1) ∷
    []

only_read_copied : copied only_read_plan only_read_old ≡ only_read_new
only_read_copied = refl

only_read_right0 : (redirected only_read_plan body1).right ≡ Add (Read (access 2 (taken (pos 1 ∷ []) (pos 0) 2 ∷ []))) (Number (pos 1))
only_read_right0 = simp (redirect_number, redirect_read, redirect_add)

only_read_write0 : (redirected only_read_plan body1).write ≡ access 1 (taken (pos 1 ∷ []) (pos 0) 0 ∷ [])
only_read_write0 = refl

only_read_in : in_body only_read_plan ≡ assigned (access 2 (taken (pos 0 ∷ pos 1 ∷ []) (pos 0) 2 ∷ [])) (Read (access 0 (taken (pos 0 ∷ pos 1 ∷ []) (pos 0) 0 ∷ [])))
only_read_in = refl

-- a stencil, with a piece beside it that uses the array too

abbrev body2 : Body
body2 = assigned (access 0 (taken (pos 0 ∷ pos 1 ∷ []) (pos 0) 0 ∷ [])) (Add (Read (access 0 (taken (pos 0 ∷ pos 1 ∷ []) (negsuc 0) 0 ∷ []))) (Read (access 0 (taken (pos 0 ∷ pos 1 ∷ []) (pos 1) 0 ∷ []))))

abbrev body3 : Body
body3 = assigned (access 1 (taken (pos 1 ∷ []) (pos 0) 0 ∷ [])) (Read (access 0 (taken (pos 0 ∷ []) (pos 1) 0 ∷ [])))

abbrev stencil_old : List Element
stencil_old =
    at (Stmt 0) (pos 0 ∷ pos 1 ∷ []) (pos 0 ∷ pos 0 ∷ pos 0 ∷ pos 1 ∷ pos 0 ∷ []) body2 ∷
    at (Stmt 0) (pos 0 ∷ pos 2 ∷ []) (pos 0 ∷ pos 0 ∷ pos 0 ∷ pos 2 ∷ pos 0 ∷ []) body2 ∷
    at (Stmt 1) (pos 0 ∷ []) (pos 0 ∷ pos 0 ∷ pos 1 ∷ []) body3 ∷
    at (Stmt 0) (pos 1 ∷ pos 1 ∷ []) (pos 0 ∷ pos 1 ∷ pos 0 ∷ pos 1 ∷ pos 0 ∷ []) body2 ∷
    at (Stmt 0) (pos 1 ∷ pos 2 ∷ []) (pos 0 ∷ pos 1 ∷ pos 0 ∷ pos 2 ∷ pos 0 ∷ []) body2 ∷
    at (Stmt 1) (pos 1 ∷ []) (pos 0 ∷ pos 1 ∷ pos 1 ∷ []) body3 ∷
    []

abbrev stencil_plan : Plan
stencil_plan = record {
  ours = (pos 0 ∷ pos 0 ∷ pos 0 ∷ []);
  around = 1;
  array = 0;
  buffer = 2;
  ins = record { places = pos 0 ∷ pos 0 ∷ pos 0 ∷ []; access = access 0 (taken (pos 0 ∷ pos 1 ∷ []) (negsuc 0) 0 ∷ []) } ∷ record { places = pos 0 ∷ pos 0 ∷ pos 0 ∷ []; access = access 0 (taken (pos 0 ∷ pos 1 ∷ []) (pos 1) 0 ∷ []) } ∷ [];
  outs = record { places = pos 0 ∷ pos 0 ∷ pos 0 ∷ []; access = access 0 (taken (pos 0 ∷ pos 1 ∷ []) (pos 0) 0 ∷ []) } ∷ [];
  extents = (4 ∷ []);
  label = 0;
}

stencil_body2_reads : reads body2.right ≡ access 0 (taken (pos 0 ∷ pos 1 ∷ []) (negsuc 0) 0 ∷ []) ∷ access 0 (taken (pos 0 ∷ pos 1 ∷ []) (pos 1) 0 ∷ []) ∷ []
stencil_body2_reads = simp (reads_read, reads_add)

stencil_is : plan stencil_old 0 1 0 2 ≡ stencil_plan
stencil_is = rw (stencil_body2_reads) refl

abbrev stencil_new : List Element
stencil_new =
    at (Move 0) (pos 0 ∷ pos 0 ∷ []) (pos 0 ∷ pos 0 ∷ pos 0 ∷ pos 0 ∷ pos 0 ∷ []) (in_body stencil_plan) ∷
    at (Move 0) (pos 0 ∷ pos 1 ∷ []) (pos 0 ∷ pos 0 ∷ pos 0 ∷ pos 1 ∷ pos 0 ∷ []) (in_body stencil_plan) ∷
    at (Move 1) (pos 0 ∷ pos 2 ∷ []) (pos 0 ∷ pos 0 ∷ pos 1 ∷ pos 2 ∷ pos 0 ∷ []) (in_body stencil_plan) ∷
    at (Move 1) (pos 0 ∷ pos 3 ∷ []) (pos 0 ∷ pos 0 ∷ pos 1 ∷ pos 3 ∷ pos 0 ∷ []) (in_body stencil_plan) ∷
    at (Stmt 0) (pos 0 ∷ pos 1 ∷ []) (pos 0 ∷ pos 0 ∷ pos 2 ∷ pos 1 ∷ pos 0 ∷ []) (redirected stencil_plan body2) ∷
    at (Stmt 0) (pos 0 ∷ pos 2 ∷ []) (pos 0 ∷ pos 0 ∷ pos 2 ∷ pos 2 ∷ pos 0 ∷ []) (redirected stencil_plan body2) ∷
    at (Move 2) (pos 0 ∷ pos 1 ∷ []) (pos 0 ∷ pos 0 ∷ pos 3 ∷ pos 1 ∷ pos 0 ∷ []) (out_body stencil_plan) ∷
    at (Move 2) (pos 0 ∷ pos 2 ∷ []) (pos 0 ∷ pos 0 ∷ pos 3 ∷ pos 2 ∷ pos 0 ∷ []) (out_body stencil_plan) ∷
    at (Stmt 1) (pos 0 ∷ []) (pos 0 ∷ pos 0 ∷ pos 4 ∷ []) body3 ∷
    at (Move 0) (pos 1 ∷ pos 0 ∷ []) (pos 0 ∷ pos 1 ∷ pos 0 ∷ pos 0 ∷ pos 0 ∷ []) (in_body stencil_plan) ∷
    at (Move 0) (pos 1 ∷ pos 1 ∷ []) (pos 0 ∷ pos 1 ∷ pos 0 ∷ pos 1 ∷ pos 0 ∷ []) (in_body stencil_plan) ∷
    at (Move 1) (pos 1 ∷ pos 2 ∷ []) (pos 0 ∷ pos 1 ∷ pos 1 ∷ pos 2 ∷ pos 0 ∷ []) (in_body stencil_plan) ∷
    at (Move 1) (pos 1 ∷ pos 3 ∷ []) (pos 0 ∷ pos 1 ∷ pos 1 ∷ pos 3 ∷ pos 0 ∷ []) (in_body stencil_plan) ∷
    at (Stmt 0) (pos 1 ∷ pos 1 ∷ []) (pos 0 ∷ pos 1 ∷ pos 2 ∷ pos 1 ∷ pos 0 ∷ []) (redirected stencil_plan body2) ∷
    at (Stmt 0) (pos 1 ∷ pos 2 ∷ []) (pos 0 ∷ pos 1 ∷ pos 2 ∷ pos 2 ∷ pos 0 ∷ []) (redirected stencil_plan body2) ∷
    at (Move 2) (pos 1 ∷ pos 1 ∷ []) (pos 0 ∷ pos 1 ∷ pos 3 ∷ pos 1 ∷ pos 0 ∷ []) (out_body stencil_plan) ∷
    at (Move 2) (pos 1 ∷ pos 2 ∷ []) (pos 0 ∷ pos 1 ∷ pos 3 ∷ pos 2 ∷ pos 0 ∷ []) (out_body stencil_plan) ∷
    at (Stmt 1) (pos 1 ∷ []) (pos 0 ∷ pos 1 ∷ pos 4 ∷ []) body3 ∷
    []

stencil_copied : copied stencil_plan stencil_old ≡ stencil_new
stencil_copied = refl

stencil_right0 : (redirected stencil_plan body2).right ≡ Add (Read (access 2 (taken (pos 0 ∷ pos 1 ∷ []) (negsuc 0) 4 ∷ []))) (Read (access 2 (taken (pos 0 ∷ pos 1 ∷ []) (pos 1) 4 ∷ [])))
stencil_right0 = simp (redirect_read, redirect_add)

stencil_write0 : (redirected stencil_plan body2).write ≡ access 2 (taken (pos 0 ∷ pos 1 ∷ []) (pos 0) 4 ∷ [])
stencil_write0 = refl

stencil_in : in_body stencil_plan ≡ assigned (access 2 (taken (pos 0 ∷ pos 1 ∷ []) (pos 0) 4 ∷ [])) (Read (access 0 (taken (pos 0 ∷ pos 1 ∷ []) (pos 0) 0 ∷ [])))
stencil_in = refl

stencil_out : out_body stencil_plan ≡ assigned (access 0 (taken (pos 0 ∷ pos 1 ∷ []) (pos 0) 0 ∷ [])) (Read (access 2 (taken (pos 0 ∷ pos 1 ∷ []) (pos 0) 4 ∷ [])))
stencil_out = refl

-- two pieces in a group, the first of which writes

abbrev body4 : Body
body4 = assigned (access 0 (taken (pos 1 ∷ []) (pos 1) 0 ∷ [])) (Sub (Read (access 1 (taken (pos 1 ∷ []) (pos 0) 0 ∷ []))) (Read (access 0 (taken (pos 1 ∷ []) (pos 0) 0 ∷ []))))

abbrev body5 : Body
body5 = assigned (access 2 (taken (pos 1 ∷ []) (pos 0) 0 ∷ [])) (Add (Mul (Read (access 0 (taken (pos 1 ∷ []) (pos 1) 0 ∷ []))) (Read (access 0 (taken (pos 1 ∷ []) (pos 1) 0 ∷ [])))) (Neg (Read (access 0 (taken (pos 1 ∷ []) (pos 0) 0 ∷ [])))))

abbrev two_pieces_old : List Element
two_pieces_old =
    at (Stmt 0) (pos 0 ∷ []) (pos 0 ∷ pos 0 ∷ pos 0 ∷ []) body4 ∷
    at (Stmt 1) (pos 0 ∷ []) (pos 0 ∷ pos 0 ∷ pos 1 ∷ []) body5 ∷
    at (Stmt 0) (pos 1 ∷ []) (pos 0 ∷ pos 1 ∷ pos 0 ∷ []) body4 ∷
    at (Stmt 1) (pos 1 ∷ []) (pos 0 ∷ pos 1 ∷ pos 1 ∷ []) body5 ∷
    []

abbrev two_pieces_plan : Plan
two_pieces_plan = record {
  ours = (pos 0 ∷ pos 0 ∷ []);
  around = 0;
  array = 0;
  buffer = 3;
  ins = record { places = pos 0 ∷ pos 0 ∷ []; access = access 0 (taken (pos 1 ∷ []) (pos 0) 0 ∷ []) } ∷ record { places = pos 0 ∷ pos 1 ∷ []; access = access 0 (taken (pos 1 ∷ []) (pos 1) 0 ∷ []) } ∷ record { places = pos 0 ∷ pos 1 ∷ []; access = access 0 (taken (pos 1 ∷ []) (pos 0) 0 ∷ []) } ∷ [];
  outs = record { places = pos 0 ∷ pos 0 ∷ []; access = access 0 (taken (pos 1 ∷ []) (pos 1) 0 ∷ []) } ∷ [];
  extents = (3 ∷ []);
  label = 0;
}

two_pieces_body4_reads : reads body4.right ≡ access 1 (taken (pos 1 ∷ []) (pos 0) 0 ∷ []) ∷ access 0 (taken (pos 1 ∷ []) (pos 0) 0 ∷ []) ∷ []
two_pieces_body4_reads = simp (reads_read, reads_sub)

two_pieces_body5_reads : reads body5.right ≡ access 0 (taken (pos 1 ∷ []) (pos 1) 0 ∷ []) ∷ access 0 (taken (pos 1 ∷ []) (pos 1) 0 ∷ []) ∷ access 0 (taken (pos 1 ∷ []) (pos 0) 0 ∷ []) ∷ []
two_pieces_body5_reads = simp (reads_read, reads_neg, reads_add, reads_mul)

two_pieces_is : plan two_pieces_old 0 0 0 3 ≡ two_pieces_plan
two_pieces_is = rw (two_pieces_body4_reads, two_pieces_body5_reads) refl

abbrev two_pieces_new : List Element
two_pieces_new =
    at (Move 0) (pos 0 ∷ []) (pos 0 ∷ pos 0 ∷ pos 0 ∷ []) (in_body two_pieces_plan) ∷
    at (Move 0) (pos 1 ∷ []) (pos 0 ∷ pos 1 ∷ pos 0 ∷ []) (in_body two_pieces_plan) ∷
    at (Move 1) (pos 1 ∷ []) (pos 1 ∷ pos 1 ∷ pos 0 ∷ []) (in_body two_pieces_plan) ∷
    at (Move 1) (pos 2 ∷ []) (pos 1 ∷ pos 2 ∷ pos 0 ∷ []) (in_body two_pieces_plan) ∷
    at (Move 2) (pos 0 ∷ []) (pos 2 ∷ pos 0 ∷ pos 0 ∷ []) (in_body two_pieces_plan) ∷
    at (Move 2) (pos 1 ∷ []) (pos 2 ∷ pos 1 ∷ pos 0 ∷ []) (in_body two_pieces_plan) ∷
    at (Stmt 0) (pos 0 ∷ []) (pos 3 ∷ pos 0 ∷ pos 0 ∷ []) (redirected two_pieces_plan body4) ∷
    at (Stmt 1) (pos 0 ∷ []) (pos 3 ∷ pos 0 ∷ pos 1 ∷ []) (redirected two_pieces_plan body5) ∷
    at (Stmt 0) (pos 1 ∷ []) (pos 3 ∷ pos 1 ∷ pos 0 ∷ []) (redirected two_pieces_plan body4) ∷
    at (Stmt 1) (pos 1 ∷ []) (pos 3 ∷ pos 1 ∷ pos 1 ∷ []) (redirected two_pieces_plan body5) ∷
    at (Move 3) (pos 1 ∷ []) (pos 4 ∷ pos 1 ∷ pos 0 ∷ []) (out_body two_pieces_plan) ∷
    at (Move 3) (pos 2 ∷ []) (pos 4 ∷ pos 2 ∷ pos 0 ∷ []) (out_body two_pieces_plan) ∷
    []

two_pieces_copied : copied two_pieces_plan two_pieces_old ≡ two_pieces_new
two_pieces_copied = refl

two_pieces_right0 : (redirected two_pieces_plan body4).right ≡ Sub (Read (access 1 (taken (pos 1 ∷ []) (pos 0) 0 ∷ []))) (Read (access 3 (taken (pos 1 ∷ []) (pos 0) 3 ∷ [])))
two_pieces_right0 = simp (redirect_read, redirect_sub)

two_pieces_write0 : (redirected two_pieces_plan body4).write ≡ access 3 (taken (pos 1 ∷ []) (pos 1) 3 ∷ [])
two_pieces_write0 = refl

two_pieces_right1 : (redirected two_pieces_plan body5).right ≡ Add (Mul (Read (access 3 (taken (pos 1 ∷ []) (pos 1) 3 ∷ []))) (Read (access 3 (taken (pos 1 ∷ []) (pos 1) 3 ∷ [])))) (Neg (Read (access 3 (taken (pos 1 ∷ []) (pos 0) 3 ∷ []))))
two_pieces_right1 = simp (redirect_read, redirect_neg, redirect_add, redirect_mul)

two_pieces_write1 : (redirected two_pieces_plan body5).write ≡ access 2 (taken (pos 1 ∷ []) (pos 0) 0 ∷ [])
two_pieces_write1 = refl

two_pieces_in : in_body two_pieces_plan ≡ assigned (access 3 (taken (pos 1 ∷ []) (pos 0) 3 ∷ [])) (Read (access 0 (taken (pos 1 ∷ []) (pos 0) 0 ∷ [])))
two_pieces_in = refl

two_pieces_out : out_body two_pieces_plan ≡ assigned (access 0 (taken (pos 1 ∷ []) (pos 0) 0 ∷ [])) (Read (access 3 (taken (pos 1 ∷ []) (pos 0) 3 ∷ [])))
two_pieces_out = refl

-- two dimensions, with an extent of each

abbrev body6 : Body
body6 = assigned (access 0 (taken (pos 1 ∷ pos 0 ∷ []) (pos 0) 0 ∷ taken (pos 0 ∷ pos 1 ∷ []) (pos 0) 0 ∷ [])) (Add (Read (access 0 (taken (pos 1 ∷ pos 0 ∷ []) (pos 1) 0 ∷ taken (pos 0 ∷ pos 1 ∷ []) (pos 1) 0 ∷ []))) (Iter 0))

abbrev two_dimensions_old : List Element
two_dimensions_old =
    at (Stmt 0) (pos 0 ∷ pos 0 ∷ []) (pos 0 ∷ pos 0 ∷ pos 0 ∷ pos 0 ∷ pos 0 ∷ []) body6 ∷
    at (Stmt 0) (pos 0 ∷ pos 1 ∷ []) (pos 0 ∷ pos 0 ∷ pos 0 ∷ pos 1 ∷ pos 0 ∷ []) body6 ∷
    at (Stmt 0) (pos 1 ∷ pos 0 ∷ []) (pos 0 ∷ pos 1 ∷ pos 0 ∷ pos 0 ∷ pos 0 ∷ []) body6 ∷
    at (Stmt 0) (pos 1 ∷ pos 1 ∷ []) (pos 0 ∷ pos 1 ∷ pos 0 ∷ pos 1 ∷ pos 0 ∷ []) body6 ∷
    []

abbrev two_dimensions_plan : Plan
two_dimensions_plan = record {
  ours = (pos 0 ∷ pos 0 ∷ pos 0 ∷ []);
  around = 1;
  array = 0;
  buffer = 1;
  ins = record { places = pos 0 ∷ pos 0 ∷ pos 0 ∷ []; access = access 0 (taken (pos 1 ∷ pos 0 ∷ []) (pos 1) 0 ∷ taken (pos 0 ∷ pos 1 ∷ []) (pos 1) 0 ∷ []) } ∷ [];
  outs = record { places = pos 0 ∷ pos 0 ∷ pos 0 ∷ []; access = access 0 (taken (pos 1 ∷ pos 0 ∷ []) (pos 0) 0 ∷ taken (pos 0 ∷ pos 1 ∷ []) (pos 0) 0 ∷ []) } ∷ [];
  extents = (2 ∷ 3 ∷ []);
  label = 0;
}

two_dimensions_body6_reads : reads body6.right ≡ access 0 (taken (pos 1 ∷ pos 0 ∷ []) (pos 1) 0 ∷ taken (pos 0 ∷ pos 1 ∷ []) (pos 1) 0 ∷ []) ∷ []
two_dimensions_body6_reads = simp (reads_iter, reads_read, reads_add)

two_dimensions_is : plan two_dimensions_old 0 1 0 1 ≡ two_dimensions_plan
two_dimensions_is = rw (two_dimensions_body6_reads) refl

abbrev two_dimensions_new : List Element
two_dimensions_new =
    at (Move 0) (pos 0 ∷ pos 1 ∷ pos 1 ∷ []) (pos 0 ∷ pos 0 ∷ pos 0 ∷ pos 1 ∷ pos 0 ∷ pos 1 ∷ pos 0 ∷ []) (in_body two_dimensions_plan) ∷
    at (Move 0) (pos 0 ∷ pos 1 ∷ pos 2 ∷ []) (pos 0 ∷ pos 0 ∷ pos 0 ∷ pos 1 ∷ pos 0 ∷ pos 2 ∷ pos 0 ∷ []) (in_body two_dimensions_plan) ∷
    at (Stmt 0) (pos 0 ∷ pos 0 ∷ []) (pos 0 ∷ pos 0 ∷ pos 1 ∷ pos 0 ∷ pos 0 ∷ []) (redirected two_dimensions_plan body6) ∷
    at (Stmt 0) (pos 0 ∷ pos 1 ∷ []) (pos 0 ∷ pos 0 ∷ pos 1 ∷ pos 1 ∷ pos 0 ∷ []) (redirected two_dimensions_plan body6) ∷
    at (Move 1) (pos 0 ∷ pos 0 ∷ pos 0 ∷ []) (pos 0 ∷ pos 0 ∷ pos 2 ∷ pos 0 ∷ pos 0 ∷ pos 0 ∷ pos 0 ∷ []) (out_body two_dimensions_plan) ∷
    at (Move 1) (pos 0 ∷ pos 0 ∷ pos 1 ∷ []) (pos 0 ∷ pos 0 ∷ pos 2 ∷ pos 0 ∷ pos 0 ∷ pos 1 ∷ pos 0 ∷ []) (out_body two_dimensions_plan) ∷
    at (Move 0) (pos 1 ∷ pos 2 ∷ pos 1 ∷ []) (pos 0 ∷ pos 1 ∷ pos 0 ∷ pos 2 ∷ pos 0 ∷ pos 1 ∷ pos 0 ∷ []) (in_body two_dimensions_plan) ∷
    at (Move 0) (pos 1 ∷ pos 2 ∷ pos 2 ∷ []) (pos 0 ∷ pos 1 ∷ pos 0 ∷ pos 2 ∷ pos 0 ∷ pos 2 ∷ pos 0 ∷ []) (in_body two_dimensions_plan) ∷
    at (Stmt 0) (pos 1 ∷ pos 0 ∷ []) (pos 0 ∷ pos 1 ∷ pos 1 ∷ pos 0 ∷ pos 0 ∷ []) (redirected two_dimensions_plan body6) ∷
    at (Stmt 0) (pos 1 ∷ pos 1 ∷ []) (pos 0 ∷ pos 1 ∷ pos 1 ∷ pos 1 ∷ pos 0 ∷ []) (redirected two_dimensions_plan body6) ∷
    at (Move 1) (pos 1 ∷ pos 1 ∷ pos 0 ∷ []) (pos 0 ∷ pos 1 ∷ pos 2 ∷ pos 1 ∷ pos 0 ∷ pos 0 ∷ pos 0 ∷ []) (out_body two_dimensions_plan) ∷
    at (Move 1) (pos 1 ∷ pos 1 ∷ pos 1 ∷ []) (pos 0 ∷ pos 1 ∷ pos 2 ∷ pos 1 ∷ pos 0 ∷ pos 1 ∷ pos 0 ∷ []) (out_body two_dimensions_plan) ∷
    []

two_dimensions_copied : copied two_dimensions_plan two_dimensions_old ≡ two_dimensions_new
two_dimensions_copied = refl

two_dimensions_right0 : (redirected two_dimensions_plan body6).right ≡ Add (Read (access 1 (taken (pos 1 ∷ pos 0 ∷ []) (pos 1) 2 ∷ taken (pos 0 ∷ pos 1 ∷ []) (pos 1) 3 ∷ []))) (Iter 0)
two_dimensions_right0 = simp (redirect_iter, redirect_read, redirect_add)

two_dimensions_write0 : (redirected two_dimensions_plan body6).write ≡ access 1 (taken (pos 1 ∷ pos 0 ∷ []) (pos 0) 2 ∷ taken (pos 0 ∷ pos 1 ∷ []) (pos 0) 3 ∷ [])
two_dimensions_write0 = refl

two_dimensions_in : in_body two_dimensions_plan ≡ assigned (access 1 (taken (pos 0 ∷ pos 1 ∷ pos 0 ∷ []) (pos 0) 2 ∷ taken (pos 0 ∷ pos 0 ∷ pos 1 ∷ []) (pos 0) 3 ∷ [])) (Read (access 0 (taken (pos 0 ∷ pos 1 ∷ pos 0 ∷ []) (pos 0) 0 ∷ taken (pos 0 ∷ pos 0 ∷ pos 1 ∷ []) (pos 0) 0 ∷ [])))
two_dimensions_in = refl

two_dimensions_out : out_body two_dimensions_plan ≡ assigned (access 0 (taken (pos 0 ∷ pos 1 ∷ pos 0 ∷ []) (pos 0) 0 ∷ taken (pos 0 ∷ pos 0 ∷ pos 1 ∷ []) (pos 0) 0 ∷ [])) (Read (access 1 (taken (pos 0 ∷ pos 1 ∷ pos 0 ∷ []) (pos 0) 2 ∷ taken (pos 0 ∷ pos 0 ∷ pos 1 ∷ []) (pos 0) 3 ∷ [])))
two_dimensions_out = refl

-- an array that is only written

abbrev body7 : Body
body7 = assigned (access 0 (taken (pos 1 ∷ []) (pos 0) 0 ∷ [])) (Iter 0)

abbrev only_written_old : List Element
only_written_old =
    at (Stmt 0) (pos 0 ∷ []) (pos 0 ∷ pos 0 ∷ pos 0 ∷ []) body7 ∷
    at (Stmt 0) (pos 1 ∷ []) (pos 0 ∷ pos 1 ∷ pos 0 ∷ []) body7 ∷
    at (Stmt 0) (pos 2 ∷ []) (pos 0 ∷ pos 2 ∷ pos 0 ∷ []) body7 ∷
    []

abbrev only_written_plan : Plan
only_written_plan = record {
  ours = (pos 0 ∷ pos 0 ∷ []);
  around = 0;
  array = 0;
  buffer = 1;
  ins = [];
  outs = record { places = pos 0 ∷ pos 0 ∷ []; access = access 0 (taken (pos 1 ∷ []) (pos 0) 0 ∷ []) } ∷ [];
  extents = (3 ∷ []);
  label = 0;
}

only_written_body7_reads : reads body7.right ≡ []
only_written_body7_reads = simp reads_iter

only_written_is : plan only_written_old 0 0 0 1 ≡ only_written_plan
only_written_is = rw (only_written_body7_reads) refl

abbrev only_written_new : List Element
only_written_new =
    at (Stmt 0) (pos 0 ∷ []) (pos 0 ∷ pos 0 ∷ pos 0 ∷ []) (redirected only_written_plan body7) ∷
    at (Stmt 0) (pos 1 ∷ []) (pos 0 ∷ pos 1 ∷ pos 0 ∷ []) (redirected only_written_plan body7) ∷
    at (Stmt 0) (pos 2 ∷ []) (pos 0 ∷ pos 2 ∷ pos 0 ∷ []) (redirected only_written_plan body7) ∷
    at (Move 0) (pos 0 ∷ []) (pos 1 ∷ pos 0 ∷ pos 0 ∷ []) (out_body only_written_plan) ∷
    at (Move 0) (pos 1 ∷ []) (pos 1 ∷ pos 1 ∷ pos 0 ∷ []) (out_body only_written_plan) ∷
    at (Move 0) (pos 2 ∷ []) (pos 1 ∷ pos 2 ∷ pos 0 ∷ []) (out_body only_written_plan) ∷
    []

only_written_copied : copied only_written_plan only_written_old ≡ only_written_new
only_written_copied = refl

only_written_right0 : (redirected only_written_plan body7).right ≡ Iter 0
only_written_right0 = simp redirect_iter

only_written_write0 : (redirected only_written_plan body7).write ≡ access 1 (taken (pos 1 ∷ []) (pos 0) 3 ∷ [])
only_written_write0 = refl

only_written_out : out_body only_written_plan ≡ assigned (access 0 (taken (pos 1 ∷ []) (pos 0) 0 ∷ [])) (Read (access 1 (taken (pos 1 ∷ []) (pos 0) 3 ∷ [])))
only_written_out = refl

-- a copy over the moves of an earlier copy

abbrev body8 : Body
body8 = assigned (access 1 (taken (pos 1 ∷ []) (pos 0) 2 ∷ [])) (Iter 0)

abbrev body9 : Body
body9 = assigned (access 0 (taken (pos 0 ∷ pos 1 ∷ []) (pos 0) 0 ∷ [])) (Read (access 1 (taken (pos 0 ∷ pos 1 ∷ []) (pos 0) 2 ∷ [])))

abbrev copy_of_copy_old : List Element
copy_of_copy_old =
    at (Stmt 0) (pos 0 ∷ []) (pos 0 ∷ pos 0 ∷ pos 0 ∷ pos 0 ∷ pos 0 ∷ []) body8 ∷
    at (Stmt 0) (pos 1 ∷ []) (pos 0 ∷ pos 0 ∷ pos 0 ∷ pos 1 ∷ pos 0 ∷ []) body8 ∷
    at (Move 0) (pos 0 ∷ pos 0 ∷ []) (pos 0 ∷ pos 0 ∷ pos 1 ∷ pos 0 ∷ pos 0 ∷ []) body9 ∷
    at (Move 0) (pos 0 ∷ pos 1 ∷ []) (pos 0 ∷ pos 0 ∷ pos 1 ∷ pos 1 ∷ pos 0 ∷ []) body9 ∷
    at (Stmt 0) (pos 2 ∷ []) (pos 0 ∷ pos 1 ∷ pos 0 ∷ pos 2 ∷ pos 0 ∷ []) body8 ∷
    at (Move 0) (pos 1 ∷ pos 2 ∷ []) (pos 0 ∷ pos 1 ∷ pos 1 ∷ pos 2 ∷ pos 0 ∷ []) body9 ∷
    []

abbrev copy_of_copy_plan : Plan
copy_of_copy_plan = record {
  ours = (pos 0 ∷ pos 0 ∷ pos 0 ∷ []);
  around = 0;
  array = 0;
  buffer = 2;
  ins = [];
  outs = record { places = pos 0 ∷ pos 1 ∷ pos 0 ∷ []; access = access 0 (taken (pos 0 ∷ pos 1 ∷ []) (pos 0) 0 ∷ []) } ∷ [];
  extents = (3 ∷ []);
  label = 1;
}

copy_of_copy_body8_reads : reads body8.right ≡ []
copy_of_copy_body8_reads = simp reads_iter

copy_of_copy_body9_reads : reads body9.right ≡ access 1 (taken (pos 0 ∷ pos 1 ∷ []) (pos 0) 2 ∷ []) ∷ []
copy_of_copy_body9_reads = simp reads_read

copy_of_copy_is : plan copy_of_copy_old 0 0 0 2 ≡ copy_of_copy_plan
copy_of_copy_is = rw (copy_of_copy_body8_reads, copy_of_copy_body9_reads) refl

abbrev copy_of_copy_new : List Element
copy_of_copy_new =
    at (Stmt 0) (pos 0 ∷ []) (pos 0 ∷ pos 0 ∷ pos 0 ∷ pos 0 ∷ pos 0 ∷ []) (redirected copy_of_copy_plan body8) ∷
    at (Stmt 0) (pos 1 ∷ []) (pos 0 ∷ pos 0 ∷ pos 0 ∷ pos 1 ∷ pos 0 ∷ []) (redirected copy_of_copy_plan body8) ∷
    at (Move 0) (pos 0 ∷ pos 0 ∷ []) (pos 0 ∷ pos 0 ∷ pos 1 ∷ pos 0 ∷ pos 0 ∷ []) (redirected copy_of_copy_plan body9) ∷
    at (Move 0) (pos 0 ∷ pos 1 ∷ []) (pos 0 ∷ pos 0 ∷ pos 1 ∷ pos 1 ∷ pos 0 ∷ []) (redirected copy_of_copy_plan body9) ∷
    at (Stmt 0) (pos 2 ∷ []) (pos 0 ∷ pos 1 ∷ pos 0 ∷ pos 2 ∷ pos 0 ∷ []) (redirected copy_of_copy_plan body8) ∷
    at (Move 0) (pos 1 ∷ pos 2 ∷ []) (pos 0 ∷ pos 1 ∷ pos 1 ∷ pos 2 ∷ pos 0 ∷ []) (redirected copy_of_copy_plan body9) ∷
    at (Move 1) (pos 0 ∷ []) (pos 1 ∷ pos 0 ∷ pos 0 ∷ []) (out_body copy_of_copy_plan) ∷
    at (Move 1) (pos 1 ∷ []) (pos 1 ∷ pos 1 ∷ pos 0 ∷ []) (out_body copy_of_copy_plan) ∷
    at (Move 1) (pos 2 ∷ []) (pos 1 ∷ pos 2 ∷ pos 0 ∷ []) (out_body copy_of_copy_plan) ∷
    []

copy_of_copy_copied : copied copy_of_copy_plan copy_of_copy_old ≡ copy_of_copy_new
copy_of_copy_copied = refl

copy_of_copy_right0 : (redirected copy_of_copy_plan body8).right ≡ Iter 0
copy_of_copy_right0 = simp redirect_iter

copy_of_copy_write0 : (redirected copy_of_copy_plan body8).write ≡ access 1 (taken (pos 1 ∷ []) (pos 0) 2 ∷ [])
copy_of_copy_write0 = refl

copy_of_copy_right1 : (redirected copy_of_copy_plan body9).right ≡ Read (access 1 (taken (pos 0 ∷ pos 1 ∷ []) (pos 0) 2 ∷ []))
copy_of_copy_right1 = simp redirect_read

copy_of_copy_write1 : (redirected copy_of_copy_plan body9).write ≡ access 2 (taken (pos 0 ∷ pos 1 ∷ []) (pos 0) 3 ∷ [])
copy_of_copy_write1 = refl

copy_of_copy_out : out_body copy_of_copy_plan ≡ assigned (access 0 (taken (pos 1 ∷ []) (pos 0) 0 ∷ [])) (Read (access 2 (taken (pos 1 ∷ []) (pos 0) 3 ∷ [])))
copy_of_copy_out = refl

-- a cell that several turns of the loop use is moved once

abbrev repeated_body : Body
repeated_body = assigned (access 1 (taken (pos 1 ∷ pos 0 ∷ []) (pos 0) 0 ∷ [])) (Read (access 0 (taken (pos 1 ∷ pos 0 ∷ []) (pos 0) 0 ∷ [])))

abbrev repeated_old : List Element
repeated_old =
    at (Stmt 0) (pos 0 ∷ pos 0 ∷ []) (pos 0 ∷ pos 0 ∷ pos 0 ∷ pos 0 ∷ pos 0 ∷ []) repeated_body ∷
    at (Stmt 0) (pos 0 ∷ pos 1 ∷ []) (pos 0 ∷ pos 0 ∷ pos 0 ∷ pos 1 ∷ pos 0 ∷ []) repeated_body ∷
    at (Stmt 0) (pos 1 ∷ pos 0 ∷ []) (pos 0 ∷ pos 1 ∷ pos 0 ∷ pos 0 ∷ pos 0 ∷ []) repeated_body ∷
    at (Stmt 0) (pos 1 ∷ pos 1 ∷ []) (pos 0 ∷ pos 1 ∷ pos 0 ∷ pos 1 ∷ pos 0 ∷ []) repeated_body ∷
    []

abbrev repeated_plan : Plan
repeated_plan = record {
  ours = (pos 0 ∷ pos 0 ∷ pos 0 ∷ []);
  around = 1;
  array = 0;
  buffer = 2;
  ins = record { places = pos 0 ∷ pos 0 ∷ pos 0 ∷ []; access = access 0 (taken (pos 1 ∷ pos 0 ∷ []) (pos 0) 0 ∷ []) } ∷ [];
  outs = [];
  extents = (1 ∷ []);
  label = 0;
}

repeated_reads : reads repeated_body.right ≡ access 0 (taken (pos 1 ∷ pos 0 ∷ []) (pos 0) 0 ∷ []) ∷ []
repeated_reads = simp reads_read

repeated_is : plan repeated_old 0 1 0 2 ≡ repeated_plan
repeated_is = rw (repeated_reads) refl

abbrev repeated_new : List Element
repeated_new =
    at (Move 0) (pos 0 ∷ pos 0 ∷ []) (pos 0 ∷ pos 0 ∷ pos 0 ∷ pos 0 ∷ pos 0 ∷ []) (in_body repeated_plan) ∷
    at (Stmt 0) (pos 0 ∷ pos 0 ∷ []) (pos 0 ∷ pos 0 ∷ pos 1 ∷ pos 0 ∷ pos 0 ∷ []) (redirected repeated_plan repeated_body) ∷
    at (Stmt 0) (pos 0 ∷ pos 1 ∷ []) (pos 0 ∷ pos 0 ∷ pos 1 ∷ pos 1 ∷ pos 0 ∷ []) (redirected repeated_plan repeated_body) ∷
    at (Move 0) (pos 1 ∷ pos 1 ∷ []) (pos 0 ∷ pos 1 ∷ pos 0 ∷ pos 1 ∷ pos 0 ∷ []) (in_body repeated_plan) ∷
    at (Stmt 0) (pos 1 ∷ pos 0 ∷ []) (pos 0 ∷ pos 1 ∷ pos 1 ∷ pos 0 ∷ pos 0 ∷ []) (redirected repeated_plan repeated_body) ∷
    at (Stmt 0) (pos 1 ∷ pos 1 ∷ []) (pos 0 ∷ pos 1 ∷ pos 1 ∷ pos 1 ∷ pos 0 ∷ []) (redirected repeated_plan repeated_body) ∷
    []

repeated_copied : copied repeated_plan repeated_old ≡ repeated_new
repeated_copied = refl
