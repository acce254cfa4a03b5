-- The candidates for the pieces of a list with a buffer.
use Rattle.std.specs.Prelude.{◌≡◌, ◌+◌, ℕ, suc, pos, ◌+ℤ◌, ◌*ℤ◌, nat_lt, if◌then◌else◌, Some, None, List, [], ◌∷◌, ◌++◌, length, map, replicate, take}
use Rattle.ch_copied.specs.Bodies.{in_body, out_body, redirected}
use Rattle.ch_copied.specs.Copied.{loop_place, new_place, placed, width}
use Rattle.ch_copied.specs.Plans.{Plan}
use Rattle.ch_datacopy.specs.declared.candidates.Work.{Work}
use Rattle.ch_datacopy.specs.declared.cells.Cells.{Cells}
use Rattle.ch_datacopy.specs.Targets.{IsTarget}
use Rattle.ch_nest.specs.declared.nest.Body.{Body}
use Rattle.ch_pieces.specs.declared.candidate.Candidate.{Candidate}
use Rattle.ch_space.specs.Built.{units}
use Rattle.ch_space.specs.Keeps.{places_of}
use Rattle.ch_space.specs.Pieces.{instances}
use Rattle.ch_space.specs.declared.piece.Piece.{Piece}
use Rattle.ch_timed.specs.declared.element.Label.TheVariants.{Move}
use Rattle.ch_timed.specs.Vectors.{shares}

-- the work is that of the plan
pub record IsWork (work : Work) (places sizes : List ℕ) (p : Plan) : Type 0 where
  pub target : IsTarget work.target sizes p
  pub ours : p.ours ≡ map pos places
  pub around : p.around ≡ work.around
  pub ins : length p.ins ≡ work.ins
  pub outs : length p.outs ≡ work.outs
  pub label : p.label ≡ work.label

abbrev pub kept_body : Plan → Piece → Body
kept_body p q = if shares (suc p.around) p.ours (places_of q) then redirected p q.body else q.body

-- the piece with its new body, at its new places
pub record IsKept (p : Plan) (q : Piece) (c : Candidate) : Type 0 where
  pub label : c.piece.label ≡ q.label
  pub body : c.piece.body ≡ kept_body p q
  pub levels : c.piece.levels ≡ q.levels
  pub hidden : c.piece.hidden ≡ q.hidden
  pub system : c.piece.system ≡ q.system
  pub origin : c.piece.origin ≡ q.origin
  pub places : map pos c.places ≡ placed (new_place p) (take p.around p.ours) (places_of q)
  pub count : c.count ≡ Some (length (instances q))

abbrev pub AreKept : Plan → List Piece → List Candidate → Type 0
AreKept p [] [] = Unit {0}
AreKept p [] (c ∷ cs) = ⊥
AreKept p (q ∷ qs) [] = ⊥
AreKept p (q ∷ qs) (c ∷ cs) = IsKept p q c × AreKept p qs cs

-- the moves are numbered from 0, those into the buffer first; the loop stands between both
abbrev pub move_body : Plan → ℕ → Body
move_body p k = if nat_lt k (length p.ins) then in_body p else out_body p

abbrev pub move_offset : Plan → ℕ → ℕ
move_offset p k = if nat_lt k (length p.ins) then k else suc k

-- move k, of these cells
pub record IsMoved (p : Plan) (k : ℕ) (u : Cells) (c : Candidate) : Type 0 where
  pub label : c.piece.label ≡ Move (p.label + k)
  pub body : c.piece.body ≡ move_body p k
  pub levels : c.piece.levels ≡ u.levels
  pub hidden : c.piece.hidden ≡ u.hidden
  pub system : c.piece.system ≡ u.system
  pub origin : c.piece.origin ≡ units 0 u.levels
  pub places : map pos c.places ≡ take p.around p.ours
      ++ (loop_place p *ℤ width p +ℤ pos (move_offset p k)) ∷ replicate (length p.extents) (pos 0)
  pub count : c.count ≡ None

abbrev pub AreMoved : Plan → ℕ → List Cells → List Candidate → Type 0
AreMoved p k [] [] = Unit {0}
AreMoved p k [] (c ∷ cs) = ⊥
AreMoved p k (u ∷ us) [] = ⊥
AreMoved p k (u ∷ us) (c ∷ cs) = IsMoved p k u c × AreMoved p (suc k) us cs

-- the new list has the moves of these cells behind the old one
abbrev pub AddsMoved : Plan → List Cells → List Candidate → List Candidate → Type 0
AddsMoved p us old new = (more : List Candidate) × (new ≡ old ++ more) × AreMoved p 0 us more
