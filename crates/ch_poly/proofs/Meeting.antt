-- What one row says of a box, and what all rows and tops together do.
use Rattle.std.proofs.Common.{◌≡◌, ℕ, ◌<◌, ℤ, pos, ◌≤ℤ◌, List, [], length, get_or, sym, subst}
use Rattle.std.proofs.lemmas.List.Elements.{All-nil}
use Rattle.ch_affine.specs.Form.{Form}
use Rattle.ch_affine.specs.Affine.{value}
use Rattle.ch_poly.specs.Goals.{IsAtLeast, Reaches, Meets, Keeps, IsEmpty, IsLeast}

pub keeps_then : (P : List ℤ → Type 0) (a b c d e f : List ℤ) → Keeps P a b c d → Keeps P c d e f → Keeps P a b e f
keeps_then P a b c d e f i j = record { kept = λ p w h. j.kept p (i.kept p w h) h }

pub empty_back : (P : List ℤ → Type 0) (a b c d : List ℤ) → Keeps P a b c d → IsEmpty P c d → IsEmpty P a b
empty_back P a b c d k e = record { none = λ p w h. e.none p (k.kept p w h) h }

-- a stronger demand keeps what a weaker one keeps
pub keeps_more : (P Q : List ℤ → Type 0) (a b c d : List ℤ) → ((p : List ℤ) → Q p → P p) → Keeps P a b c d → Keeps Q a b c d
keeps_more P Q a b c d weaker k = record { kept = λ p w h. k.kept p w (weaker p h) }

pub empty_more : (P Q : List ℤ → Type 0) (a b : List ℤ) → ((p : List ℤ) → Q p → P p) → IsEmpty P a b → IsEmpty Q a b
empty_more P Q a b weaker e = record { none = λ p w h. e.none p w (weaker p h) }

-- one of the rows
module _ (bound : ℤ) (rows : List Form) (k : ℕ) (f : Form) (lt : k < length rows) (is : f ≡ get_or rows k f) where
  pub row_reached : (p : List ℤ) → Reaches bound rows p → IsAtLeast bound f p
  row_reached p h = record { reached = let P : Form → Type 0 = λ g. bound ≤ℤ value g p in subst P (sym is) (h.each k f lt) }

  pub row_keeps : (a b c d e g : List ℤ) → Keeps (Reaches bound rows) a b c d → Keeps (IsAtLeast bound f) c d e g → Keeps (Reaches bound rows) a b e g
  row_keeps a b c d e g i j =
      keeps_then (Reaches bound rows) a b c d e g i (keeps_more (IsAtLeast bound f) (Reaches bound rows) c d e g row_reached j)

  pub row_empties : (a b c d : List ℤ) → Keeps (Reaches bound rows) a b c d → IsEmpty (IsAtLeast bound f) c d → IsEmpty (Reaches bound rows) a b
  row_empties a b c d i e = empty_back (Reaches bound rows) a b c d i (empty_more (IsAtLeast bound f) (Reaches bound rows) c d row_reached e)

-- the rows, and then the tops
module _ (rows tops : List Form) (bound : ℤ) where
  pub rows_empty : (a b : List ℤ) → IsEmpty (Reaches (pos 0) rows) a b → IsEmpty (Meets rows tops bound) a b
  rows_empty a b e = empty_more (Reaches (pos 0) rows) (Meets rows tops bound) a b (λ p h. h.by_rows) e

  pub rows_keep : (a b c d : List ℤ) → Keeps (Reaches (pos 0) rows) a b c d → Keeps (Meets rows tops bound) a b c d
  rows_keep a b c d k = keeps_more (Reaches (pos 0) rows) (Meets rows tops bound) a b c d (λ p h. h.by_rows) k

  pub tops_empty : (a b c d : List ℤ) → Keeps (Reaches (pos 0) rows) a b c d → IsEmpty (Reaches bound tops) c d → IsEmpty (Meets rows tops bound) a b
  tops_empty a b c d k e =
      empty_back (Meets rows tops bound) a b c d (rows_keep a b c d k) (empty_more (Reaches bound tops) (Meets rows tops bound) c d (λ p h. h.by_tops) e)

  pub tops_keep : (a b c d e f : List ℤ) → Keeps (Reaches (pos 0) rows) a b c d → Keeps (Reaches bound tops) c d e f → Keeps (Meets rows tops bound) a b e f
  tops_keep a b c d e f i j =
      keeps_then (Meets rows tops bound) a b c d e f (rows_keep a b c d i)
      (keeps_more (Reaches bound tops) (Meets rows tops bound) c d e f (λ p h. h.by_tops) j)

-- without tops
pub no_tops : (rows : List Form) (bound : ℤ) (p : List ℤ) → Reaches (pos 0) rows p → Meets rows [] bound p
no_tops rows bound p h = record { by_rows = h; by_tops = record { each = All-nil (λ f. bound ≤ℤ value f p) } }

pub least_rows : (rows : List Form) (bound : ℤ) (lows highs p : List ℤ) → IsLeast (Meets rows [] bound) lows highs p → IsLeast (Reaches (pos 0) rows) lows highs p
least_rows rows bound lows highs p m = record { within = m.within; holds = m.holds.by_rows; least = λ q w h. m.least q w (no_tops rows bound q h) }

pub empty_rows : (rows : List Form) (bound : ℤ) (lows highs : List ℤ) → IsEmpty (Meets rows [] bound) lows highs → IsEmpty (Reaches (pos 0) rows) lows highs
empty_rows rows bound lows highs e = record { none = λ p w h. e.none p w (no_tops rows bound p h) }
