-- The product of two square matrices as a nest.
use Rattle.std.specs.Prelude.{ℕ, ◌-◌, ℤ, pos, nat_eq, if◌then◌else◌, List, [], ◌∷◌, codes, replicate}
use Rattle.ch_affine.specs.Affine.{form}
use Rattle.ch_affine.specs.Form.{Form}
use Rattle.ch_nest.specs.LoopNest.{LoopNest}
use Rattle.ch_nest.specs.declared.nest.Access.{Access}
use Rattle.ch_nest.specs.declared.nest.ArrayDecl.{ArrayDecl}
use Rattle.ch_nest.specs.declared.nest.Body.{Body}
use Rattle.ch_nest.specs.declared.nest.Expr.{Expr}
use Rattle.ch_nest.specs.declared.nest.Expr.TheVariants.{Add, Mul, Read}
use Rattle.ch_nest.specs.declared.nest.Item.{Item}
use Rattle.ch_nest.specs.declared.nest.Item.TheVariants.{Assign, Loop}
use Rattle.ch_nest.specs.declared.nest.Sub.{Sub}

-- the coefficients of i, j and k in the form that is the iterator of this number, from 0
abbrev pub coefs : ℕ → List ℤ
coefs level =
    if nat_eq level 0 then pos 1 ∷ pos 0 ∷ pos 0 ∷ []
    else if nat_eq level 1 then pos 0 ∷ pos 1 ∷ pos 0 ∷ []
    else pos 0 ∷ pos 0 ∷ pos 1 ∷ []

abbrev pub iterator : ℕ → Sub
iterator level = record { form = form (coefs level) (pos 0); modulus = 0 }

-- a cell of an array, named by two of the iterators
abbrev pub cell : ℕ → ℕ → ℕ → Access
cell array row column = record { array = array; subs = iterator row ∷ iterator column ∷ [] }

-- A[i][k] * B[k][j]
abbrev pub multiply : Expr
multiply = Mul (Read (cell 0 0 2)) (Read (cell 1 2 1))

-- C[i][j] = C[i][j] + A[i][k] * B[k][j]
abbrev pub adds_products : Body
adds_products = record { write = cell 2 0 1; right = Add (Read (cell 2 0 1)) multiply }

-- a constant as the one end of a loop below so many others
abbrev pub ends : ℕ → ℤ → List Form
ends around constant = form (replicate around (pos 0)) constant ∷ []

-- a loop from 0 on with n turns, below so many others
abbrev pub turns : ℕ → ℕ → Item → Item
turns around n item = Loop (ends around (pos 0)) (ends around (pos (n - 1))) 1 (item ∷ [])

abbrev pub square : List ℕ → ℕ → ArrayDecl
square name n = record { name = name; extents = n ∷ n ∷ [] }

abbrev pub product : ℕ → LoopNest
product n = record {
  arrays = square (codes "A") n ∷ square (codes "B") n ∷ square (codes "C") n ∷ [];
  items = turns 0 n (turns 1 n (turns 2 n (Assign 0 adds_products))) ∷ [];
}
