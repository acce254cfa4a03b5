-- Lists whose cells can be copied to a buffer.
use Rattle.std.specs.Prelude.{◌≡◌, ◌≢◌, ◌<◌, ◌≤◌, ℕ, IsTrue, List, length}
use Rattle.ch_nest.specs.declared.nest.Access.{Access}
use Rattle.ch_nest.specs.declared.nest.Sub as subscript
use Rattle.ch_timed.specs.declared.element.Element.{Element}
use Rattle.ch_timed.specs.Conflict.{accesses}
use Rattle.ch_timed.specs.Members.{Each, In}
use Rattle.ch_timed.specs.Groups.{piece}
use Rattle.ch_timed.specs.Timed.{is_well_formed, pieces}
use Rattle.ch_timed.specs.Vectors.{places}

-- A well formed list whose pieces have one body each. The accesses of the array have so many subscripts each, without a
-- modulus, and none is of the buffer. The list of each space is so.
pub record IsCopyable (list : List Element) (array buffer dimensions : ℕ) : Type 0 where
  pub well_formed : IsTrue (is_well_formed list)
  pub bodies : (e f : Element) → In e list → In f list → places e.vector ≡ places f.vector → e.body ≡ f.body
  pub fresh : (e : Element) (a : Access) → In e list → In a (accesses e.body) → a.array ≢ buffer
  pub plain : (e : Element) (a : Access) → In e list → In a (accesses e.body) → a.array ≡ array
      → Each (λ (s : subscript.Sub). s.modulus ≡ 0) a.subs
  pub agree : (e : Element) (a : Access) → In e list → In a (accesses e.body) → a.array ≡ array
      → length a.subs ≡ dimensions
  pub other : array ≢ buffer

-- piece s is there and has the level, which is counted from 1
pub record HasLoop (list : List Element) (s level : ℕ) : Type 0 where
  pub some : s < length (pieces list)
  pub least : 1 ≤ level
  pub most : level < length (piece list s)
