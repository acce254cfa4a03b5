-- A row of seats cut from first seats, one by one.
use Rattle.std.proofs.Common.{◌≡◌, ◌≢◌, ℕ, ◌+◌, ◌<◌, ◌≤◌, List, [], ◌∷◌, length, get_or, set, refl, sym, ◌∙◌, subst, arith}
use Rattle.std.proofs.lemmas.List.{get_or_default}
use Rattle.ch_book.specs.Books.{seen, reads, left_of, IsOf}
use Rattle.ch_book.specs.declared.book.Book.{Book}
use Rattle.ch_book.specs.declared.seat.Seat.{Seat}
use Rattle.ch_rows.specs.FirstSeats.{MayCut, Blank}
use Rattle.ch_seats.proofs.Walking.{walk_here, walk_next}
use Rattle.ch_seats.specs.Walk.{Row, Walks}
use Rattle.ch_session.specs.declared.event.Event.{Event}
use Rattle.ch_session.specs.declared.session.Session.{Session}
use Rattle.ch_turn.specs.declared.listed.Listed.{Ghosts}

module _ {V : Type 0} {G : Ghosts (Session V) Event} (n turns : ℕ) where
  -- what a cut leaves of the first seat s
  pub record IsCut (b : Book V) (s z : Seat V G) : Type 0 where
    pub first : IsOf b 65535 z × (seen z ≡ []) × (reads z ≡ [])
    pub left : left_of z + turns ≡ left_of s
    pub others : (x : ℕ) → x ≢ n → Blank x 0 b s → Blank x 0 b z

  -- a seat of the row that is still as it was, and one that has been cut
  abbrev pub Uncut : List (Seat V G) → ℕ → Book V → Seat V G → Type 0
  Uncut old j b z = z ≡ get_or old j z

  abbrev pub CutFrom : List (Seat V G) → ℕ → Book V → Seat V G → Type 0
  CutFrom old j b z = IsCut b (get_or old j z) z

  pub all_uncut : (books : List (Book V)) (old : List (Seat V G)) → length old ≡ length books → Row (Uncut old) books old
  all_uncut books old long = (long, λ j a b low. get_or_default old j b (get_or old j b) (subst (λ (k : ℕ). j < k) (sym long) low))

  pub uncut_here : (P : ℕ → Book V → Seat V G → Type 0) (books : List (Book V)) (old seats : List (Seat V G)) (i : ℕ) (x : Book V) (y : Seat V G) →
      i < length books → x ≡ get_or books i x → Walks (Uncut old) (CutFrom old) i books seats → Row P books old → P i x (get_or seats i y)
  uncut_here P books old seats i x y low is w r =
      let same = walk_here (Uncut old) (CutFrom old) books seats i x y low is w in
      subst (λ z. P i x z) (sym same) (subst (λ b. P i b (get_or old i (get_or seats i y))) (sym is) (r.1 i x (get_or seats i y) low))

  pub cut_walk : (books : List (Book V)) (old seats : List (Seat V G)) (i : ℕ) (x : Book V) (y z : Seat V G) → length old ≡ length books →
      i < length books → x ≡ get_or books i x → Walks (Uncut old) (CutFrom old) i books seats → IsCut x (get_or seats i y) z → Walks (Uncut old) (CutFrom old) (i + 1) books (set seats i z)
  cut_walk books old seats i x y z long low is w d =
      let same = walk_here (Uncut old) (CutFrom old) books seats i x y low is w in
      let at : get_or seats i y ≡ get_or old i z = same ∙ get_or_default old i (get_or seats i y) z (subst (λ (k : ℕ). i < k) (sym long) low) in
      walk_next (Uncut old) (CutFrom old) books seats i x z low is w (subst (λ s. IsCut x s z) at d)

  pub cut_may : (rest : ℕ) (books : List (Book V)) (old new : List (Seat V G)) → Row (MayCut (rest + turns)) books old → Row (CutFrom old) books new → Row (MayCut rest) books new
  cut_may rest books old new r q = (
    q.0,
    λ j a b low.
        let d = q.1 j a b low in
        let m = r.1 j a (get_or new j b) low in
        let room = m.3 in
        let left = d.left in
        (d.first.0, d.first.1, d.first.2, omega arith),
  )

  pub cut_others : (x : ℕ) (books : List (Book V)) (old new : List (Seat V G)) → x ≢ n → Row (Blank x) books old → Row (CutFrom old) books new → Row (Blank x) books new
  cut_others x books old new ne r q = (q.0, λ j a b low. (q.1 j a b low).others x ne (r.1 j a (get_or new j b) low))
