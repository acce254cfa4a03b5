-- The bodies of a list with a buffer: those that work on it, and those of the moves.
use Rattle.std.specs.Prelude.{ℕ, suc, pos, if◌then◌else◌, List, [], ◌∷◌, ◌++◌, length, replicate}
use Rattle.ch_affine.specs.Form.{Form}
use Rattle.ch_nest.specs.declared.nest.Access.{Access}
use Rattle.ch_nest.specs.declared.nest.Body.{Body}
use Rattle.ch_nest.specs.declared.nest.Expr.{Expr}
use Rattle.ch_nest.specs.declared.nest.Expr.TheVariants.{Number, Iter, Read, Neg, Add, Sub, Mul}
use Rattle.ch_nest.specs.declared.nest.Expr.TheOpen.{Expr-F}
use Rattle.ch_nest.specs.declared.nest.Expr.TheFolds.{fold-Expr}
use Rattle.ch_nest.specs.declared.nest.Sub as subscript
use Rattle.ch_copied.specs.Accesses.{names}
use Rattle.ch_copied.specs.Plans.{Plan}

-- the subscripts modulo the extents
abbrev pub wrapped : List subscript.Sub → List ℕ → List subscript.Sub
wrapped [] es = []
wrapped (s ∷ ss) [] = []
wrapped (s ∷ ss) (e ∷ es) = record { form = s.form; modulus = e } ∷ wrapped ss es

-- an access of the array becomes the access of the buffer
abbrev pub redirected_access : Plan → Access → Access
redirected_access p a =
    if names p.array a then record { array = p.buffer; subs = wrapped a.subs p.extents } else a

abbrev pub redirect_step : Plan → Expr-F Expr → Expr
redirect_step p (Expr-F.Number n) = Number n
redirect_step p (Expr-F.Iter k) = Iter k
redirect_step p (Expr-F.Read a) = Read (redirected_access p a)
redirect_step p (Expr-F.Neg x) = Neg x
redirect_step p (Expr-F.Add x y) = Add x y
redirect_step p (Expr-F.Sub x y) = Sub x y
redirect_step p (Expr-F.Mul x y) = Mul x y

abbrev pub redirect : Plan → Expr → Expr
redirect p = fold-Expr Expr (redirect_step p)

abbrev pub redirected : Plan → Body → Body
redirected p b = record { write = redirected_access p b.write; right = redirect p b.right }

-- the form of one variable, which has so many before it and so many after it
abbrev pub one_variable : ℕ → ℕ → Form
one_variable before after = record {
  coefs = replicate before (pos 0) ++ pos 1 ∷ replicate after (pos 0);
  constant = pos 0;
}

-- the variables from so many on, one for each extent
abbrev pub variables : ℕ → List ℕ → List subscript.Sub
variables before [] = []
variables before (e ∷ es) =
    record { form = one_variable before (length es); modulus = 0 } ∷ variables (suc before) es

-- the cell that the last iterators of a move name, those before it being its prefix
abbrev pub moved_cell : Plan → Access
moved_cell p = record { array = p.array; subs = variables p.around p.extents }

-- T[c mod E] = A[c], and A[c] = T[c mod E]
abbrev pub in_body : Plan → Body
in_body p = record { write = redirected_access p (moved_cell p); right = Read (moved_cell p) }

abbrev pub out_body : Plan → Body
out_body p = record { write = moved_cell p; right = Read (redirected_access p (moved_cell p)) }
