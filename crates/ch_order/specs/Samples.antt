-- Lists for the tests.
use Rattle.std.specs.Prelude.{ℕ, ℤ, pos, Bool, true, false, not, List, [], ◌∷◌}
use Rattle.ch_nest.specs.declared.nest.Access.{Access}
use Rattle.ch_nest.specs.declared.nest.Body.{Body}
use Rattle.ch_nest.specs.declared.nest.Expr.{Expr}
use Rattle.ch_nest.specs.declared.nest.Expr.TheVariants.{Number, Read}
use Rattle.ch_nest.specs.declared.nest.Sub.{Sub}
use Rattle.ch_timed.specs.declared.element.Element.{Element}
use Rattle.ch_timed.specs.declared.element.Identity.{Identity}
use Rattle.ch_timed.specs.declared.element.Label.TheVariants.{Stmt}

-- two instances of A[i mod 2] = number, at i = 0 and at another i

-- i mod 2
abbrev pub parity : Sub
parity = record { form = record { coefs = pos 1 ∷ []; constant = pos 0 }; modulus = 2 }

abbrev pub body : ℤ → Body
body number = record {
  write = record { array = 0; subs = parity ∷ [] };
  right = Number number;
}

abbrev pub named : Bool → ℤ → Identity
named false i = record { label = Stmt 0; iters = pos 0 ∷ [] }
named true i = record { label = Stmt 1; iters = i ∷ [] }

abbrev pub instance : Bool → ℤ → ℤ → ℤ → Element
instance other i number place =
    record { identity = named other i; vector = place ∷ []; body = body number }

-- the one at 0 first, or the other one
abbrev pub pair : Bool → ℤ → ℤ → List Element
pair turned i number =
    instance turned i number (pos 0) ∷ instance (not turned) i number (pos 1) ∷ []

-- A[0] = 7, A[1] = A[0] and A[k] = 5, each executed once

-- A[k]
abbrev pub access : ℤ → Access
access k = record {
  array = 0;
  subs = record { form = record { coefs = []; constant = k }; modulus = 0 } ∷ [];
}

abbrev pub assigned : ℕ → ℤ → Expr → ℤ → Element
assigned label k right place = record {
  identity = record { label = Stmt label; iters = [] };
  vector = place ∷ [];
  body = record { write = access k; right = right };
}

-- the one that reads A[0], or the one that writes it
abbrev pub reader_or_writer : Bool → ℤ → Element
reader_or_writer true place = assigned 1 (pos 1) (Read (access (pos 0))) place
reader_or_writer false place = assigned 0 (pos 0) (Number (pos 7)) place

abbrev pub last_write : ℤ → ℤ → Element
last_write k place = assigned 2 k (Number (pos 5)) place

-- the reader first, or the writer; the last write behind both, or between them
abbrev pub three : Bool → Bool → ℤ → List Element
three reader_first false k =
    reader_or_writer reader_first (pos 0) ∷ reader_or_writer (not reader_first) (pos 1)
    ∷ last_write k (pos 2) ∷ []
three reader_first true k =
    reader_or_writer reader_first (pos 0) ∷ last_write k (pos 1)
    ∷ reader_or_writer (not reader_first) (pos 2) ∷ []
