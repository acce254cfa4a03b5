-- What holds of each first seat stays so when other seats are taken in.
use Rattle.std.proofs.Common.{◌≡◌, ℕ, ◌<◌, List, length, get_or, sym, ◌∙◌, subst}
use Rattle.ch_book.specs.declared.book.Book.{Book}
use Rattle.ch_book.specs.declared.seat.Seat.{Seat}
use Rattle.ch_rows.specs.FirstSeats.{Blank, Keeps}
use Rattle.ch_seats.specs.Walk.{Row}
use Rattle.ch_session.specs.declared.event.Event.{Event}
use Rattle.ch_session.specs.declared.session.Session.{Session}
use Rattle.ch_turn.specs.declared.listed.Listed.{Ghosts}

pub row_kept : {A B : Type 0} (P : ℕ → A → B → Type 0) (Q : ℕ → B → B → Type 0) → ((j : ℕ) (a : A) (s z : B) → Q j s z → P j a s → P j a z) → (xs : List A) (ys zs : List B) → Row P xs ys → Row Q ys zs → Row P xs zs
row_kept P Q f xs ys zs p q = (q.0 ∙ p.0, λ j a b low. f j (get_or xs j a) (get_or ys j b) (get_or zs j b) (q.1 j b b (subst (λ (n : ℕ). j < n) (sym p.0) low)) (p.1 j a b low))

module _ {V : Type 0} {G : Ghosts (Session V) Event} (books : List (Book V)) (old new : List (Seat V G)) where
  pub blank_kept : (x : ℕ) → Row (Keeps x) old new → Row (Blank x) books old → Row (Blank x) books new
  blank_kept x k r = row_kept (Blank x) (Keeps x) (λ j b s z q p. let h = q p.0 in (h.0, h.1 ∙ p.1)) books old new r k
