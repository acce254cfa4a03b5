-- What a copy moves: which accesses of which pieces, into a buffer of which extents.
use Rattle.std.specs.Prelude.{ℕ, suc, ℤ, max, List, [], ◌∷◌, ◌++◌}
use Rattle.std.specs.List.{flat_map}
use Rattle.ch_timed.specs.declared.element.Element.{Element}
use Rattle.ch_timed.specs.declared.element.Label.{Label}
use Rattle.ch_timed.specs.declared.element.Label.TheVariants.{Stmt, Move}
use Rattle.ch_timed.specs.Groups.{piece}
use Rattle.ch_copied.specs.Accesses.{read_accesses, written_accesses}
use Rattle.ch_copied.specs.Uses.{Transfer, extents, transfers, uses}

pub record Plan : Type 0 where
  -- the places of the piece, and how many loops stand around its loop that works on the buffer
  pub ours : List ℤ
  pub around : ℕ
  -- the numbers of the array and of its buffer
  pub array : ℕ
  pub buffer : ℕ
  -- what is moved into the buffer before the loop, and back behind it
  pub ins : List Transfer
  pub outs : List Transfer
  pub extents : List ℕ
  -- the label of the first move
  pub label : ℕ

abbrev pub next_label : Label → ℕ → ℕ
next_label (Stmt k) n = n
next_label (Move k) n = max (suc k) n

-- the number after the greatest label of a move
abbrev pub free_label : List Element → ℕ
free_label [] = 0
free_label (e ∷ es) = next_label e.identity.label (free_label es)

-- for the group of piece s and the level behind so many loops
abbrev pub plan : List Element → ℕ → ℕ → ℕ → ℕ → Plan
plan list s around array buffer =
    let ins = transfers (read_accesses array) list (piece list s) around in
    let outs = transfers (written_accesses array) list (piece list s) around in
    record {
      ours = piece list s;
      around = around;
      array = array;
      buffer = buffer;
      ins = ins;
      outs = outs;
      extents = extents (flat_map (uses list around) (ins ++ outs));
      label = free_label list;
    }
