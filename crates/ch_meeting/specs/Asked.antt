-- What the drafts of the queries ask of points, and what their answers say, an order of the vectors at a time.
use Rattle.std.specs.Prelude.{◌≡◌, ◌+◌, ◌↔◌, ◌++◌, ℕ, suc, ℤ, Bool, true, false, List, Option, Some, None, length, drop, IsTrue}
use Rattle.ch_affine.specs.Rows.{lies_in}
use Rattle.ch_affine.specs.declared.system.Range.{Range}
use Rattle.ch_nest.specs.declared.nest.Access.{Access}
use Rattle.ch_meeting.specs.declared.cells.Site.{Site}
use Rattle.ch_meeting.specs.declared.draft.Draft.{Draft}
use Rattle.ch_meeting.specs.declared.orders.Order.{Order}
use Rattle.ch_meeting.specs.declared.question.FourPieces.{FourPieces}
use Rattle.ch_meeting.specs.declared.question.TwoAccesses.{TwoAccesses}
use Rattle.ch_meeting.specs.Cases.{InOrder, OneOf}
use Rattle.ch_meeting.specs.Drafts.{Fits, IsDraft}
use Rattle.ch_meeting.specs.Meeting.{iters_at}
use Rattle.ch_meeting.specs.Placed.{PairAt, PairTiedAt, SameUpTo, TiedAt, cell_boxes, pair_boxes, wides}
use Rattle.ch_space.specs.declared.piece.Piece.{Piece}
use Rattle.ch_space.specs.Pieces.{instances}
use Rattle.ch_timed.specs.Conflict.{cell_of}
use Rattle.ch_timed.specs.Members.{In}
use Rattle.ch_timed.specs.Vectors.{comes_before}

-- the points that fit are those of the ranges that have the property
pub record Asks (d : Draft) (boxes : List Range) (P : List ℤ → Type 0) : Type 0 where
  pub boxes_are : d.boxes ≡ boxes
  pub draft : IsDraft d
  pub exact : (z : List ℤ) → Fits d z ↔ (IsTrue (lies_in boxes z) × P z)

-- how many variables the two pieces have
abbrev pub pair_size : Piece → Piece → ℕ
pair_size p q = p.levels + q.levels + p.hidden + q.hidden

-- the ranges of both pieces' variables, and of the iterators that both are to have
abbrev pub common_boxes : Piece → Piece → List Range
common_boxes p q = pair_boxes p q ++ wides (length p.origin)

-- both have the iterators behind them
abbrev pub AreCommon : Piece → Piece → List ℤ → Type 0
AreCommon p q z =
    (TiedAt p 0 (pair_size p q) z × TiedAt q p.levels (pair_size p q) z) × PairAt p q 0 z

-- where what the first access takes stands, if the iterators of both elements stand there
abbrev pub first_site : Piece → Piece → ℕ → Site
first_site p q iters =
    record { iters = iters; turns = iters + length p.origin + length q.origin }

-- where what the second access takes stands
abbrev pub second_site : Piece → Piece → Access → ℕ → Site
second_site p q a iters = record {
  iters = iters + length p.origin;
  turns = iters + length p.origin + length q.origin + length a.subs;
}

-- the accesses name one cell, with the iterators that stand there
abbrev pub AreMeeting : Piece → Piece → Access → Access → ℕ → List ℤ → Type 0
AreMeeting p q a b iters z =
    PairTiedAt p q 0 iters z
    × SameUpTo (length a.subs) a b (first_site p q iters) (second_site p q a iters) z
    × PairAt p q 0 z

-- the variable behind those of an access, which is 1
abbrev pub cells_end : Piece → Piece → Access → Access → ℕ → ℕ
cells_end p q a b iters =
    iters + length p.origin + length q.origin + length a.subs + length b.subs

-- and their values are in the order
abbrev pub AreMeetingBy : Order → Piece → Piece → Access → Access → List ℤ → Type 0
AreMeetingBy o p q a b z =
    AreMeeting p q a b (pair_size p q) z × InOrder o (drop 0 z) (drop p.levels z)

-- two instances in the order whose accesses name one cell
pub record IsMeetingBy (o : Order) (p q : Piece) (a b : Access) (xs ys : List ℤ) : Type 0 where
  pub first : In xs (instances p)
  pub second : In ys (instances q)
  pub order : InOrder o xs ys
  pub cell : cell_of (iters_at p xs) a ≡ cell_of (iters_at q ys) b

-- instances of two further pieces with the same iterators, the second one before the first by that order
pub record IsTurnedBy (o : Order) (p q r s : Piece) (xs ys : List ℤ) : Type 0 where
  pub first : List ℤ
  pub second : List ℤ
  pub is_first : In first (instances r)
  pub is_second : In second (instances s)
  pub same_first : iters_at r first ≡ iters_at p xs
  pub same_second : iters_at s second ≡ iters_at q ys
  pub order : InOrder o second first

-- the level by which vectors in the order differ, 0 for a place
abbrev pub level_by : Bool → ℕ → ℕ
level_by true equal = suc equal
level_by false equal = 0

-- the ranges of both pieces' variables, and of those that compare two cells
abbrev pub meeting_boxes : Piece → Piece → Access → Access → List Range
meeting_boxes p q a b = pair_boxes p q ++ cell_boxes (length p.origin) (length q.origin) a b

-- some instances in the order meet
pub record MeetsBy (o : Order) (p q : Piece) (a b : Access) : Type 0 where
  pub first : List ℤ
  pub second : List ℤ
  pub meeting : IsMeetingBy o p q a b first second

-- the two new pieces have the iterators that stand there, the second one's levels standing before those of the first
abbrev pub AreTurned : Piece → Piece → ℕ → ℕ → ℕ → List ℤ → Type 0
AreTurned r s start first second z =
    TiedAt s start second z × TiedAt r (start + s.levels) first z × PairAt s r start z

-- the ranges of all four pieces' variables, and of those that compare two cells
abbrev pub reversal_boxes : Piece → Piece → Piece → Piece → Access → Access → List Range
reversal_boxes p q r s a b =
    pair_boxes p q ++ (pair_boxes s r ++ cell_boxes (length p.origin) (length q.origin) a b)

-- where the iterators of both elements stand behind the variables of all four pieces
abbrev pub reversal_iters : Piece → Piece → Piece → Piece → ℕ
reversal_iters p q r s = pair_size p q + pair_size s r

-- the first two pieces meet, and the other two have their iterators
abbrev pub AreReversal : Piece → Piece → Piece → Piece → Access → Access → List ℤ → Type 0
AreReversal p q r s a b z =
    AreMeeting p q a b (reversal_iters p q r s) z
    × AreTurned r s (pair_size p q) (reversal_iters p q r s)
    (reversal_iters p q r s + length p.origin) z

-- the values of the first two are in the one order, and those of the new second and the new first in the other
abbrev pub InOrders : Order → Order → Piece → Piece → Piece → List ℤ → Type 0
InOrders o t p q s z =
    InOrder o (drop 0 z) (drop p.levels z)
    × InOrder t (drop (pair_size p q) z) (drop (pair_size p q + s.levels) z)

-- both at once
abbrev pub AreReversalBy : Order → Order → Piece → Piece → Piece → Piece → Access → Access → List ℤ → Type 0
AreReversalBy o t p q r s a b z = AreReversal p q r s a b z × InOrders o t p q s z

-- a pair that meets in the one order and is turned in the other
abbrev pub IsReversalBy : Order → Order → Piece → Piece → Piece → Piece → Access → Access → List ℤ → List ℤ → Type 0
IsReversalBy o t p q r s a b xs ys = IsMeetingBy o p q a b xs ys × IsTurnedBy t p q r s xs ys

-- the second where the test is true, else the first
abbrev pub second_if : Bool → List ℤ → List ℤ → List ℤ
second_if true a b = b
second_if false a b = a

-- the lesser of two lists that there may be
abbrev pub lesser : Option (List ℤ) → Option (List ℤ) → Option (List ℤ)
lesser None b = b
lesser (Some a) None = Some a
lesser (Some a) (Some b) = Some (second_if (comes_before b a) a b)

-- a pair that meets in the order and is turned in one of the others
abbrev pub IsTurnedAmong : Order → List Order → Piece → Piece → Piece → Piece → Access → Access → List ℤ → List ℤ → Type 0
IsTurnedAmong o turns p q r s a b xs ys = OneOf (λ t. IsReversalBy o t p q r s a b xs ys) turns

-- a pair that meets in one of the orders and is turned in one of the others
abbrev pub IsReversalAmong : List Order → List Order → Piece → Piece → Piece → Piece → Access → Access → List ℤ → List ℤ → Type 0
IsReversalAmong orders turns p q r s a b xs ys =
    OneOf (λ o. IsTurnedAmong o turns p q r s a b xs ys) orders

-- the order has that level, and some instances in it meet
abbrev pub MeetsByAt : ℕ → Piece → Piece → Access → Access → Order → Type 0
MeetsByAt level p q a b o = (level_by o.less o.equal ≡ level) × MeetsBy o p q a b

-- the points that fit are those at which the two accesses name one cell
abbrev pub AsksMeeting : Piece → Piece → TwoAccesses → Draft → Type 0
AsksMeeting p q c d = Asks d (meeting_boxes p q c.first.now c.second.now)
    (AreMeeting p q c.first.now c.second.now (pair_size p q))

-- The same of four pieces and two accesses.

abbrev pub boxes_of : FourPieces → TwoAccesses → List Range
boxes_of w c = reversal_boxes w.first.now w.second.now w.new_first.now w.new_second.now
    c.first.now c.second.now

abbrev pub AreReversalOf : FourPieces → TwoAccesses → List ℤ → Type 0
AreReversalOf w c = AreReversal w.first.now w.second.now w.new_first.now w.new_second.now
    c.first.now c.second.now

abbrev pub AreInOrders : Order → Order → FourPieces → List ℤ → Type 0
AreInOrders o t w = InOrders o t w.first.now w.second.now w.new_second.now

abbrev pub IsReversalByOf : Order → Order → FourPieces → TwoAccesses → List ℤ → List ℤ → Type 0
IsReversalByOf o t w c = IsReversalBy o t w.first.now w.second.now w.new_first.now w.new_second.now
    c.first.now c.second.now

abbrev pub IsTurnedAmongOf : Order → List Order → FourPieces → TwoAccesses → List ℤ → List ℤ → Type 0
IsTurnedAmongOf o turns w c = IsTurnedAmong o turns w.first.now w.second.now w.new_first.now
    w.new_second.now c.first.now c.second.now

abbrev pub IsReversalAmongOf : List Order → List Order → FourPieces → TwoAccesses → List ℤ → List ℤ → Type 0
IsReversalAmongOf orders turns w c = IsReversalAmong orders turns w.first.now w.second.now
    w.new_first.now w.new_second.now c.first.now c.second.now
