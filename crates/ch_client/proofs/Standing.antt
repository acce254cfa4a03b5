-- Rows after one seat of them changed.
use Rattle.std.proofs.Common.{◌≡◌, ◌≢◌, ℕ, zero, suc, ◌+◌, ◌-◌, ◌*◌, ◌<◌, ◌≤◌, Bool, true, false, cond, eqb, List, [], ◌∷◌, ◌++◌, length, get_or, set, Option, Some, None, refl, sym, ap, ◌∙◌, subst, get_or-set_same, get_or-set_other, length-set, append-nil, arith}
use Rattle.std.proofs.lemmas.List.{get_or_default}
use Rattle.std.proofs.lemmas.Bool.Decides.{nat_tests}
use mathlib.Core.Logic.{dite}
use native.Mathlib.Decide.{ℕ_discrete}
use Rattle.ch_turn.specs.Holdings.{own_entries}
use Rattle.ch_turn.specs.declared.listed.Listed.{Ghosts}
use Rattle.ch_session.specs.declared.event.Event.{Event}
use Rattle.ch_session.specs.declared.session.Session.{Session}
use Rattle.ch_session.specs.Making.{Making}
use Rattle.ch_session.specs.History.{Theme}
use Rattle.ch_book.specs.declared.seat.Seat.{Seat}
use Rattle.ch_book.specs.declared.book.Book.{Book}
use Rattle.ch_book.specs.Books.{seen, reads, owns, left_of}
use Rattle.ch_nest.specs.CostModel.{CostModel}
use Rattle.ch_conduct.specs.declared.report.How.{How}
use Rattle.ch_conduct.specs.declared.report.CallLine.{CallLine}
use Rattle.ch_conduct.specs.Lines.{last_line, lines_on, lines_from}
use Rattle.ch_conduct.specs.Conduct.{Conducted, Conduct}
use Rattle.std.proofs.Common.{map}
use Rattle.std.specs.List.{AllByRecursion}
use Rattle.ch_session.specs.History.{news}
use Rattle.ch_conduct.specs.Conduct.{Step, reads_of}
use Rattle.ch_conduct.specs.Turns.{Knowledge, Called, TookTurn}
use Rattle.ch_conduct.proofs.Leaving.{leaves_nothing}
use Rattle.ch_conduct.proofs.OneCall.{conduct_more, lines_more, ends}
use Rattle.ch_conduct.specs.Meaning.{Judge, Meaning, judge_of, program_of}
use Rattle.ch_seats.specs.Seated.{theme_in, knows, IsBook, Sits}
use Rattle.ch_client.specs.declared.last.Last.{Last}
use Rattle.ch_client.specs.Lasts.{IsLast}
use Rattle.ch_client.specs.Stands.{Rests, RowRests, Conducts, Stands, RowStands, Ended, RowEnded, LeftOne, RowBegins}

-- ---- rows

pub at_two : {A B : Type 0} (P : A → B → Type 0) (xs : List A) (ys : List B) (k : ℕ) (x : A) (y : B) → x ≡ get_or xs k x → y ≡ get_or ys k y → P (get_or xs k x) (get_or ys k y) → P x y
at_two P xs ys k x y a b p = subst (λ z. P z y) (sym a) (subst (P (get_or xs k x)) (sym b) p)

pub two_set : {A B : Type 0} (P : ℕ → A → B → Type 0) (xs : List A) (ys : List B) (k : ℕ) (x : A) (y : B) → k < length xs → k < length ys → x ≡ get_or xs k x → P k x y →
    ((i : ℕ) (a : A) (b : B) → i < length xs → i ≢ k → P i (get_or xs i a) (get_or ys i b)) → (i : ℕ) (a : A) (b : B) → i < length xs → P i (get_or xs i a) (get_or (set ys k y) i b)
two_set P xs ys k x y here inside is new old i a b low = dite (ℕ_discrete i k)
    (λ same. subst (λ (z : ℕ). P z (get_or xs z a) (get_or (set ys k y) z b)) (sym same)
    (subst (P k (get_or xs k a)) (sym (get_or-set_same ys k y b inside)) (subst (λ z. P k z y) (is ∙ get_or_default xs k x a here) new)))
    (λ ne. subst (P i (get_or xs i a)) (sym (get_or-set_other ys k i y b ne)) (old i a b low ne))

pub three_set : {A B C : Type 0} (P : ℕ → A → B → C → Type 0) (xs : List A) (ys : List B) (zs : List C) (k : ℕ) (x : A) (y : B) (z : C) → k < length xs → k < length ys → k < length zs → x ≡ get_or xs k x → P k x y z →
    ((i : ℕ) (a : A) (b : B) (c : C) → i < length xs → i ≢ k → P i (get_or xs i a) (get_or ys i b) (get_or zs i c)) → (i : ℕ) (a : A) (b : B) (c : C) → i < length xs → P i (get_or xs i a) (get_or (set ys k y) i b) (get_or (set zs k z) i c)
three_set P xs ys zs k x y z here inside within is new old i a b c low = dite (ℕ_discrete i k)
    (λ same. subst (λ (w : ℕ). P w (get_or xs w a) (get_or (set ys k y) w b) (get_or (set zs k z) w c)) (sym same)
    (subst (λ u. P k (get_or xs k a) u (get_or (set zs k z) k c)) (sym (get_or-set_same ys k y b inside))
    (subst (λ u. P k (get_or xs k a) y u) (sym (get_or-set_same zs k z c within)) (subst (λ u. P k u y z) (is ∙ get_or_default xs k x a here) new))))
    (λ ne. subst (λ u. P i (get_or xs i a) u (get_or (set zs k z) i c)) (sym (get_or-set_other ys k i y b ne))
    (subst (λ u. P i (get_or xs i a) (get_or ys i b) u) (sym (get_or-set_other zs k i z c ne)) (old i a b c low ne)))

-- ---- lines

self_eqb : (x : ℕ) → eqb x x ≡ true
self_eqb x = grind (arith, nat_tests)

other_eqb : (x y : ℕ) → y ≢ x → eqb x y ≡ false
other_eqb x y n = grind (arith, nat_tests)

pub lines_here : (i : ℕ) (ls : List CallLine) (l : CallLine) → l.session ≡ i → lines_on i (ls ++ l ∷ []) ≡ lines_on i ls ++ (length ls + 1, l.how) ∷ []
lines_here i ls l e =
    let t : eqb l.session i ≡ true = ap (λ (x : ℕ). eqb x i) e ∙ self_eqb i in
    let j : 1 + length ls ≡ length ls + 1 = omega arith in
    lines_more i 1 ls l ∙ (ap (λ (b : Bool). lines_on i ls ++ cond b ((1 + length ls, l.how) ∷ []) []) t ∙ ap (λ (x : ℕ). lines_on i ls ++ (x, l.how) ∷ []) j)

pub lines_there : (i : ℕ) (ls : List CallLine) (l : CallLine) → i ≢ l.session → lines_on i (ls ++ l ∷ []) ≡ lines_on i ls
lines_there i ls l n = lines_more i 1 ls l ∙ (ap (λ (b : Bool). lines_on i ls ++ cond b ((1 + length ls, l.how) ∷ []) []) (other_eqb l.session i n) ∙ append-nil (lines_on i ls))

pub last_more : (ls : List (ℕ × How)) (j : ℕ) (x : How) → last_line (ls ++ (j, x) ∷ []) ≡ Some x
last_more [] j x = refl
last_more (a ∷ []) j x = refl
last_more (a ∷ b ∷ ls) j x = last_more (b ∷ ls) j x

step_line : Step → ℕ × How
step_line x = (x.call, x.how)

no_steps : (ss : List Step) → map step_line ss ≡ [] → reads_of ss ≡ []
no_steps [] q = refl
no_steps (s ∷ ss) q = absurd (cc)

nothing_read : (th : Theme) (k : Judge) (n : ℕ) (patient : Bool) (machine : CostModel) (h own : List Event) (rs : List ℕ) (lines : List (ℕ × How)) → lines ≡ [] → Conducted th k n patient machine h lines own rs → rs ≡ []
unfolding step_line
nothing_read th k n patient machine h own rs lines e d = sym d.reads_are ∙ no_steps d.steps (d.lines_are ∙ e)

some_line : (a : ℕ × How) (ls : List (ℕ × How)) → last_line (a ∷ ls) ≡ None → ⊥
some_line a [] e = absurd (cc)
some_line a (b ∷ ls) e = some_line b ls e

no_lines : (ls : List (ℕ × How)) → last_line ls ≡ None → ls ≡ []
no_lines [] e = refl
no_lines (a ∷ ls) e = absurd (some_line a ls e)

none_within : (rs : List ℕ) (h : List Event) → rs ≡ [] → AllByRecursion (λ r. r ≤ news h) rs
none_within rs h e = subst (λ (v : List ℕ). AllByRecursion (λ r. r ≤ news h) v) (sym e) tt

-- ---- a call

module _ {V : Type 0} {G : Ghosts (Session V) Event} (m : Meaning) (n : ℕ) (patient : Bool) (machine : CostModel) (made : V → Making) where
  -- the session of the call
  stands_here : (lines : List CallLine) (line : CallLine) (r q i : ℕ) (b : Book V) (s z : Seat V G) (l k : Last V) → line.session ≡ i → q + 1 ≡ r → Stands m n patient machine made lines r i b s l → Sits n b z → left_of s ≤ left_of z + 5 →
      Called (theme_in b) (judge_of m i) n patient machine l.how (length lines + 1) line.how (knows n s) (knows n z) → k.how ≡ Some line.how → IsLast made i k → Stands m n patient machine made (lines ++ line ∷ []) q i b z k
  stands_here lines line r q i b s z l k e f t sits room call how last =
      let old = t.0.2 in
      let is = lines_here i lines line e in
      let before = subst (λ (o : Option How). Called (theme_in b) (judge_of m i) n patient machine o (length lines + 1) line.how (knows n s) (knows n z)) t.2 call in
      let more = conduct_more (theme_in b) (judge_of m i) n patient machine (lines_on i lines) (knows n s) (knows n z) (length lines + 1) line.how t.0.1.known.0 t.0.1.known.1 t.1 before in (
        (t.0.0, sits, omega arith),
        subst (λ (x : List (ℕ × How)). Conducted (theme_in b) (judge_of m i) n patient machine (seen z) x (own_entries n (owns z)) (reads z)) (sym is) more,
        how ∙ sym (ap last_line is ∙ last_more (lines_on i lines) (length lines + 1) line.how),
        last,
      )

  stands_there : (lines : List CallLine) (line : CallLine) (r q i : ℕ) (b : Book V) (s : Seat V G) (l : Last V) → i ≢ line.session → q + 1 ≡ r → Stands m n patient machine made lines r i b s l → Stands m n patient machine made (lines ++ line ∷ []) q i b s l
  stands_there lines line r q i b s l e f t =
      let old = t.0.2 in
      let is = lines_there i lines line e in (
        (t.0.0, t.0.1, omega arith),
        subst (λ (x : List (ℕ × How)). Conducted (theme_in b) (judge_of m i) n patient machine (seen s) x (own_entries n (owns s)) (reads s)) (sym is) t.1,
        t.2 ∙ ap last_line (sym is),
        t.3,
      )

  pub row_at : (lines : List CallLine) (r i : ℕ) (books : List (Book V)) (seats : List (Seat V G)) (lasts : List (Last V)) (b : Book V) (s : Seat V G) (l : Last V) → i < length books → b ≡ get_or books i b →
      RowStands m n patient machine made lines r books seats lasts → Stands m n patient machine made lines r i b (get_or seats i s) (get_or lasts i l)
  row_at lines r i books seats lasts b s l low x t =
      subst (λ u. Stands m n patient machine made lines r i u (get_or seats i s) (get_or lasts i l)) (sym x) (t.2 i b s l low)

  pub row_next : (lines : List CallLine) (line : CallLine) (r q i : ℕ) (books : List (Book V)) (seats : List (Seat V G)) (lasts : List (Last V)) (b : Book V) (s z : Seat V G) (l k : Last V) → i < length books → b ≡ get_or books i b → line.session ≡ i → q + 1 ≡ r →
      RowStands m n patient machine made lines r books seats lasts → Sits n b z → left_of (get_or seats i s) ≤ left_of z + 5 → l ≡ get_or lasts i l →
      Called (theme_in b) (judge_of m i) n patient machine l.how (length lines + 1) line.how (knows n (get_or seats i s)) (knows n z) → k.how ≡ Some line.how → IsLast made i k → RowStands m n patient machine made (lines ++ line ∷ []) q books (set seats i z) (set lasts i k)
  row_next lines line r q i books seats lasts b s z l k low x e f t sits room was call how last =
      let one = t.0 in
      let two = t.1 in
      let before = subst (λ (v : Last V). Called (theme_in b) (judge_of m i) n patient machine v.how (length lines + 1) line.how (knows n (get_or seats i s)) (knows n z)) was call in (
        length-set seats i z ∙ t.0,
        length-set lasts i k ∙ t.1,
        three_set (Stands m n patient machine made (lines ++ line ∷ []) q) books seats lasts i b z k low (omega arith) (omega arith) x
            (stands_here lines line r q i b (get_or seats i s) z (get_or lasts i l) k e f (row_at lines r i books seats lasts b s l low x t) sits room before how last)
            (λ j a c d under ne. stands_there lines line r q j (get_or books j a) (get_or seats j c) (get_or lasts j d) (λ u. ne (u ∙ e)) f (t.2 j a c d under)),
      )

  pub row_rests : (lines : List CallLine) (r i : ℕ) (books : List (Book V)) (seats : List (Seat V G)) (lasts : List (Last V)) (b : Book V) (s z : Seat V G) (l : Last V) → i < length books → b ≡ get_or books i b → 1 ≤ r →
      RowStands m n patient machine made lines r books seats lasts → Sits n b z → left_of (get_or seats i s) ≤ left_of z + 5 → RowRests m n 1 books (set seats i z)
  row_rests lines r i books seats lasts b s z l low x more t sits room =
      let one = t.0 in
      let here = row_at lines r i books seats lasts b s l low x t in
      let left = here.0.2 in (
        length-set seats i z ∙ t.0,
        two_set (Rests m n 1) books seats i b z low (omega arith) x (here.0.0, sits, omega arith)
            (λ j a c under ne. let h = t.2 j a c l under in let u = h.0.2 in (h.0.0, h.0.1, omega arith)),
      )

  pub rests_of : (lines : List CallLine) (r : ℕ) (books : List (Book V)) (seats : List (Seat V G)) (lasts : List (Last V)) → ((i : ℕ) → i < length books → Last V) → RowStands m n patient machine made lines r books seats lasts → RowRests m n 1 books seats
  rests_of lines r books seats lasts some t = (t.0, λ i b s low. let h = t.2 i b s (some i low) low in let u = h.0.2 in (h.0.0, h.0.1, omega arith))

  -- ---- the end

  pub has_left : (lines : List CallLine) (i : ℕ) (b : Book V) (s z : Seat V G) (l : Last V) → Stands m n patient machine made lines 0 i b s l → Sits n b z → LeftOne n b l.how s z → Ended m n patient machine lines i b z
  has_left lines i b s z l t sits left = (t.0.0, sits, at l.how t.2 left)
    where
      at : (o : Option How) → o ≡ last_line (lines_on i lines) → LeftOne n b o s z → Conduct (theme_in b) (judge_of m i) n patient machine (seen z) (lines_on i lines) (own_entries n (owns z)) (reads z)
      at None e q = subst (λ (v : Seat V G). Conduct (theme_in b) (judge_of m i) n patient machine (seen v) (lines_on i lines) (own_entries n (owns v)) (reads v)) (sym q)
          (record { so_far = t.1; reads_within = none_within (reads s) (seen s) (nothing_read (theme_in b) (judge_of m i) n patient machine (seen s) (own_entries n (owns s)) (reads s) (lines_on i lines) (no_lines (lines_on i lines) (sym e)) t.1) })
      at (Some how) e q =
          let quiet = leaves_nothing (theme_in b) (judge_of m i) n patient machine (seen s) q.0 (lines_on i lines) (own_entries n (owns s)) (reads s) t.1 q.1.own in
          let turn = subst (λ (v : List Event). TookTurn (theme_in b) n (knows n s) (knows n z) q.0 v) quiet q.1 in
          ends (theme_in b) (judge_of m i) n patient machine (lines_on i lines) (knows n s) (knows n z) q.0 t.0.1.known.0 t.0.1.known.1 turn t.1

  pub row_begins : (lines : List CallLine) (k : ℕ) (books : List (Book V)) (seats : List (Seat V G)) (lasts new : List (Last V)) (count : ℕ) → lines ≡ [] → count ≡ length books → new ≡ lasts → (length lasts ≡ count) × ((i : ℕ) (l : Last V) → i < count → get_or lasts i l ≡ record { how = None; variant = None }) →
      RowBegins m n (5 * k + 1) books seats → RowStands m n patient machine made [] k books seats new
  row_begins lines k books seats lasts new count none is same f t =
      subst (λ (v : List (Last V)). RowStands m n patient machine made [] k books seats v) (sym same) (
        t.0,
        f.0 ∙ is,
        λ i b s l low.
            let h = t.1 i b s low in
            let z = f.1 i l (omega arith) in
            (h.0, record { steps = []; lines_are = refl; own_are = sym h.1; reads_are = sym h.2; calls = tt }, ap (λ (x : Last V). x.how) z, subst (λ (x : Last V). IsLast made i x) (sym z) tt),
      )

  pub begins_rest : (k : ℕ) (books : List (Book V)) (seats : List (Seat V G)) → RowBegins m n (5 * k + 1) books seats → RowRests m n 1 books seats
  begins_rest k books seats t = (t.0, λ i b s low. let h = t.1 i b s low in let u = h.0.2 in (h.0.0, h.0.1, omega arith))
