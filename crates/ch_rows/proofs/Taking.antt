-- A row of seats taken in by first seats, from the last one on.
use Rattle.std.proofs.Common.{◌≡◌, ◌≢◌, ℕ, ◌+◌, ◌<◌, ◌≤◌, List, [], ◌∷◌, ◌++◌, length, get_or, set, refl, sym, ap, ◌∙◌, subst, arith, append_assoc, append-nil, length-append, length-set, get_or-set_same, get_or-set_other}
use Rattle.std.proofs.Common.{◌⊎◌, inl, inr}
use Rattle.std.proofs.Math.ListN.{get_or-append}
use Rattle.std.proofs.Math.Seq.{get_or-append_seam}
use Rattle.std.proofs.lemmas.List.{get_or_default}
use mathlib.Core.Logic.{dite}
use native.Mathlib.Decide.{ℕ_discrete}
use Rattle.ch_book.specs.Books.{number_of, IsOf}
use Rattle.ch_book.specs.declared.book.Book.{Book}
use Rattle.ch_book.specs.declared.seat.Seat.{Seat}
use Rattle.ch_rows.specs.FirstSeats.{IsFirst, IsBack, Keeps}
use Rattle.ch_seats.specs.Walk.{Row}
use Rattle.ch_session.specs.declared.event.Event.{Event}
use Rattle.ch_session.specs.declared.session.Session.{Session}
use Rattle.ch_turn.specs.History.{IsPrefix}
use Rattle.ch_turn.specs.declared.listed.Listed.{Ghosts}

module _ {V : Type 0} {G : Ghosts (Session V) Event} (books : List (Book V)) (old given : List (Seat V G)) where
  -- a first seat that has taken in that of its place
  abbrev pub TookIn : ℕ → Seat V G → Type 0
  TookIn j z = ((x : ℕ) → Keeps x j (get_or old j z) z) × ((x : ℕ) → Keeps x j (get_or given j z) z)

  -- the seats of `row` are still to be taken in, by the first seats of these places
  pub record Takes (row seats : List (Seat V G)) : Type 0 where
    pub long : length seats ≡ length books
    pub front : IsPrefix row given
    pub to_come : (j : ℕ) (z : Seat V G) → j < length row → get_or seats j z ≡ get_or old j z
    pub firsts : (j : ℕ) (b : Book V) (z : Seat V G) → length row ≤ j → j < length books → IsFirst j (get_or books j b) (get_or seats j z)
    pub passed : (j : ℕ) (z : Seat V G) → length row ≤ j → j < length books → TookIn j (get_or seats j z)

  module _ (same : length old ≡ length books) (all : length given ≡ length books) where
    pub takes_init : Takes given old
    takes_init = record { long = same; front = ([], sym (append-nil given)); to_come = λ j z low. refl; firsts = λ j b z high low. absurd (omega (arith, all)); passed = λ j z high low. absurd (omega (arith, all)) }

    -- the seat taken next is that of its place
    module _ (row rest seats : List (Seat V G)) (y : Seat V G) (is : row ≡ rest ++ y ∷ []) (t : Takes row seats) where
      pub rest_long : length row ≡ length rest + 1
      rest_long = ap length is ∙ length-append rest (y ∷ [])

      pub rest_low : length rest < length books
      rest_low =
          let e = rest_long in
          let f : length given ≡ length row + length t.front.0 = ap length t.front.1 ∙ length-append row t.front.0 in
          omega (arith, all)

      pub given_at : (d : Seat V G) → get_or given (length rest) d ≡ y
      given_at d = ap (λ (v : List (Seat V G)). get_or v (length rest) d) (t.front.1 ∙ (ap (λ (v : List (Seat V G)). v ++ t.front.0) is ∙ append_assoc rest (y ∷ []) t.front.0)) ∙ get_or-append_seam rest y t.front.0 d

      pub old_at : (d : Seat V G) → get_or seats (length rest) d ≡ get_or old (length rest) d
      old_at d = let e = rest_long in t.to_come (length rest) d (omega arith)

      pub first_at : (x : Book V) (s : Seat V G) → x ≡ get_or books (length rest) x → Row IsFirst books old → IsFirst (length rest) x (get_or seats (length rest) s)
      first_at x s at r = subst (λ z. IsFirst (length rest) x z) (sym (old_at s)) (subst (λ b. IsFirst (length rest) b (get_or old (length rest) s)) (sym at) (r.1 (length rest) x s rest_low))

      pub back_at : (x : Book V) → x ≡ get_or books (length rest) x → Row IsBack books given → IsOf x (number_of y) y
      back_at x at r = subst (λ b. IsOf b (number_of y) y) (sym at) (subst (λ z. IsBack (length rest) (get_or books (length rest) x) z) (given_at y) (r.1 (length rest) x y rest_low))

      pub takes_next : (x : Book V) (s z : Seat V G) → x ≡ get_or books (length rest) x → IsFirst (length rest) x z → ((n : ℕ) → Keeps n (length rest) (get_or seats (length rest) s) z) → ((n : ℕ) → Keeps n (length rest) y z) →
          Takes rest (set seats (length rest) z)
      takes_next x s z at first ours theirs = record {
        long = length-set seats (length rest) z ∙ t.long;
        front = (y ∷ t.front.0, t.front.1 ∙ (ap (λ (v : List (Seat V G)). v ++ t.front.0) is ∙ append_assoc rest (y ∷ []) t.front.0));
        to_come = λ j d low. get_or-set_other seats (length rest) j z d (λ e. omega arith) ∙ t.to_come j d (let e = rest_long in omega arith);
        firsts = λ j b d high low. dite (ℕ_discrete j (length rest)) (first_here j b d) (first_there j b d high low);
        passed = λ j d high low. dite (ℕ_discrete j (length rest)) (here j d) (there j d high low);
      }
        where
          inside : length rest < length seats
          inside = subst (λ (k : ℕ). length rest < k) (sym t.long) rest_low

          inside_old : length rest < length old
          inside_old = subst (λ (k : ℕ). length rest < k) (sym same) rest_low

          was : get_or seats (length rest) s ≡ get_or old (length rest) z
          was = old_at s ∙ get_or_default old (length rest) s z inside_old

          new : TookIn (length rest) z
          new = (λ n. subst (λ v. Keeps n (length rest) v z) was (ours n), λ n. subst (λ v. Keeps n (length rest) v z) (sym (given_at z)) (theirs n))

          first_here : (j : ℕ) (b : Book V) (d : Seat V G) → j ≡ length rest → IsFirst j (get_or books j b) (get_or (set seats (length rest) z) j d)
          first_here j b d e = subst (λ (k : ℕ). IsFirst k (get_or books k b) (get_or (set seats (length rest) z) k d)) (sym e)
              (subst (IsFirst (length rest) (get_or books (length rest) b)) (sym (get_or-set_same seats (length rest) z d inside))
              (subst (λ v. IsFirst (length rest) v z) (at ∙ get_or_default books (length rest) x b rest_low) first))

          first_there : (j : ℕ) (b : Book V) (d : Seat V G) → length rest ≤ j → j < length books → j ≢ length rest → IsFirst j (get_or books j b) (get_or (set seats (length rest) z) j d)
          first_there j b d high low ne = subst (IsFirst j (get_or books j b)) (sym (get_or-set_other seats (length rest) j z d ne)) (t.firsts j b d (let e = rest_long in omega (arith, ne)) low)

          here : (j : ℕ) (d : Seat V G) → j ≡ length rest → TookIn j (get_or (set seats (length rest) z) j d)
          here j d e = subst (λ (k : ℕ). TookIn k (get_or (set seats (length rest) z) k d)) (sym e) (subst (TookIn (length rest)) (sym (get_or-set_same seats (length rest) z d inside)) new)

          there : (j : ℕ) (d : Seat V G) → length rest ≤ j → j < length books → j ≢ length rest → TookIn j (get_or (set seats (length rest) z) j d)
          there j d high low ne = subst (TookIn j) (sym (get_or-set_other seats (length rest) j z d ne)) (t.passed j d (let e = rest_long in omega (arith, ne)) low)

      module _ (i : ℕ) (e : i ≡ length rest) where
        pub first_here : (x : Book V) (s : Seat V G) → x ≡ get_or books i x → Row IsFirst books old → IsFirst i x (get_or seats i s)
        first_here x s at r = subst (λ (k : ℕ). IsFirst k x (get_or seats k s)) (sym e) (first_at x s (subst (λ (k : ℕ). x ≡ get_or books k x) e at) r)

        pub back_here : (x : Book V) → x ≡ get_or books i x → Row IsBack books given → IsOf x (number_of y) y
        back_here x at r = back_at x (subst (λ (k : ℕ). x ≡ get_or books k x) e at) r

        pub next_here : (x : Book V) (s z : Seat V G) → x ≡ get_or books i x → IsFirst i x z → ((n : ℕ) → Keeps n i (get_or seats i s) z) → ((n : ℕ) → Keeps n i y z) → Takes rest (set seats i z)
        next_here x s z at first ours theirs = subst (λ (k : ℕ). Takes rest (set seats k z)) (sym e)
            (takes_next x s z (subst (λ (k : ℕ). x ≡ get_or books k x) e at) first (λ n. subst (λ (k : ℕ). Keeps n k (get_or seats k s) z) e (ours n)) theirs)

    -- all are taken in
    module _ (row seats : List (Seat V G)) (none : length row ≡ 0) (t : Takes row seats) where
      no_more : (j : ℕ) → length row ≤ j
      no_more j = omega (arith, none)

      pub all_first : Row IsFirst books seats
      all_first = (t.long, λ j b z low. t.firsts j b z (no_more j) low)

      pub all_ours : (x : ℕ) → Row (Keeps x) old seats
      all_ours x = (
        t.long ∙ sym same,
        λ j s z low.
            let here : j < length books = subst (λ (k : ℕ). j < k) same low in
            subst (λ v. Keeps x j v (get_or seats j z)) (get_or_default old j (get_or seats j z) s low) ((t.passed j z (no_more j) here).0 x),
      )

      pub all_theirs : (x : ℕ) → Row (Keeps x) given seats
      all_theirs x = (
        t.long ∙ sym all,
        λ j s z low.
            let here : j < length books = subst (λ (k : ℕ). j < k) all low in
            subst (λ v. Keeps x j v (get_or seats j z)) (get_or_default given j (get_or seats j z) s low) ((t.passed j z (no_more j) here).1 x),
      )
