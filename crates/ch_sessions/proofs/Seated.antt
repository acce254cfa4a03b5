-- Which seats are out as they come and go.
use Rattle.std.proofs.Common.{◌≡◌, ◌≢◌, ℕ, zero, suc, ◌+◌, ◌<◌, ◌≤◌, ◌⊎◌, inl, inr, List, [], ◌∷◌, ◌++◌, length, refl, sym, ap, ◌∙◌, subst, arith, All, set, get_or, take, drop, eqb, true, false}
use Rattle.std.proofs.lemmas.List.Elements.{All-append, All-drop, All-get_or, All-head, All-push, All-set, All-tail, All-take}
use Rattle.std.proofs.lemmas.Bool.Decides.{eqb_tells}
use Rattle.std.specs.List.{remove}
use Rattle.ch_book.specs.declared.book.Book.{Book}
use Rattle.ch_book.specs.declared.seat.Seat.{Seat}
use Rattle.ch_book.specs.Books.{Holds, number_of}
use Rattle.ch_session.specs.declared.event.Event.{Event}
use Rattle.ch_session.specs.declared.session.Session.{Session}
use Rattle.ch_turn.specs.declared.listed.Listed.{Ghosts}
use Rattle.ch_sessions.specs.Desks.{DeskFits, IsFirst, IsOut, SeatsAre}
use Rattle.ch_sessions.specs.declared.desk.Desk.{Desk}
use Rattle.ch_sessions.specs.declared.plan.Plan.{Plan}

pub not_out : (n : ℕ) (ds : List Desk) → All (λ (d : Desk). number_of d.seat ≢ n) ds → IsOut n ds → ⊥
not_out n [] a o = o
not_out n (d ∷ ds) a (inl p) = All-head (λ (d : Desk). number_of d.seat ≢ n) d ds a p
not_out n (d ∷ ds) a (inr o) = not_out n ds (All-tail (λ (d : Desk). number_of d.seat ≢ n) d ds a) o

pub none_out : (n : ℕ) (ds : List Desk) → length ds ≡ 0 → IsOut n ds → ⊥
none_out n [] e o = o
none_out n (d ∷ ds) e o = absurd (omega (arith, e))

-- the seat at a place may change, but not its number
out_set : (n : ℕ) (ds : List Desk) (i : ℕ) (d e : Desk) → d ≡ get_or ds i d → number_of e.seat ≡ number_of d.seat → IsOut n ds → IsOut n (set ds i e)
out_set n [] i d e is same o = o
out_set n (x ∷ ds) zero d e is same (inl p) = inl (same ∙ (ap (λ (v : Desk). number_of v.seat) is ∙ p))
out_set n (x ∷ ds) zero d e is same (inr o) = inr o
out_set n (x ∷ ds) (suc i) d e is same (inl p) = inl p
out_set n (x ∷ ds) (suc i) d e is same (inr o) = inr (out_set n ds i d e is same o)

out_pushed : (n : ℕ) (ds : List Desk) (e : Desk) → IsOut n ds → IsOut n (ds ++ e ∷ [])
out_pushed n [] e o = absurd o
out_pushed n (d ∷ ds) e (inl p) = inl p
out_pushed n (d ∷ ds) e (inr o) = inr (out_pushed n ds e o)

out_last : (n : ℕ) (ds : List Desk) (e : Desk) → number_of e.seat ≡ n → IsOut n (ds ++ e ∷ [])
out_last n [] e p = inl p
out_last n (d ∷ ds) e p = inr (out_last n ds e p)

out_popped : (n : ℕ) (ds : List Desk) (e : Desk) → IsOut n (ds ++ e ∷ []) → IsOut n ds ⊎ (number_of e.seat ≡ n)
out_popped n [] e (inl p) = inr p
out_popped n [] e (inr o) = absurd o
out_popped n (d ∷ ds) e (inl p) = inl (inl p)
out_popped n (d ∷ ds) e (inr o) = later (out_popped n ds e o)
  where
    later : IsOut n ds ⊎ (number_of e.seat ≡ n) → IsOut n (d ∷ ds) ⊎ (number_of e.seat ≡ n)
    later (inl x) = inl (inr x)
    later (inr x) = inr x

out_removed : (n : ℕ) (ds : List Desk) (i : ℕ) (e : Desk) → e ≡ get_or ds i e → i < length ds → IsOut n ds → IsOut n (remove ds i) ⊎ (number_of e.seat ≡ n)
out_removed n [] i e is h o = absurd o
out_removed n (d ∷ ds) zero e is h (inl p) = inr (ap (λ (x : Desk). number_of x.seat) is ∙ p)
out_removed n (d ∷ ds) zero e is h (inr o) = inl o
out_removed n (d ∷ ds) (suc i) e is h (inl p) = inl (inl p)
out_removed n (d ∷ ds) (suc i) e is h (inr o) = later (out_removed n ds i e is (omega (arith, h)) o)
  where
    later : IsOut n (remove ds i) ⊎ (number_of e.seat ≡ n) → IsOut n (remove (d ∷ ds) (suc i)) ⊎ (number_of e.seat ≡ n)
    later (inl x) = inl (inr x)
    later (inr x) = inr x

module _ {G : Ghosts (Session Plan) Event} where
  pub desk_at : (b : Book Plan) (rest : Seat Plan G) (ds : List Desk) (i : ℕ) (d : Desk) → SeatsAre b rest ds → i < length ds → d ≡ get_or ds i d → DeskFits b d.seat d.jobs.items
  desk_at b rest ds i d s h is = subst (λ (v : Desk). DeskFits b v.seat v.jobs.items) (sym is) (All-get_or (λ (v : Desk). DeskFits b v.seat v.jobs.items) ds i d h s.desks)

  -- a desk has made a call
  pub one_changed : (b : Book Plan) (rest : Seat Plan G) (ds : List Desk) (i : ℕ) (d e : Desk) → SeatsAre b rest ds → d ≡ get_or ds i d → number_of e.seat ≡ number_of d.seat → DeskFits b e.seat e.jobs.items → SeatsAre b rest (set ds i e)
  one_changed b rest ds i d e s is same fits = record {
    first = s.first;
    held = λ n small none. s.held n small (λ o. none (out_set n ds i d e is same o));
    desks = All-set (λ (v : Desk). DeskFits b v.seat v.jobs.items) ds i e fits s.desks;
  }

  -- a seat was split off
  pub one_more : (b : Book Plan) (rest z : Seat Plan G) (ds : List Desk) (e : Desk) → SeatsAre b rest ds → IsFirst b z → ((n : ℕ) → Holds rest n → n ≢ number_of e.seat → Holds z n) → DeskFits b e.seat e.jobs.items → SeatsAre b z (ds ++ e ∷ [])
  one_more b rest z ds e s after others fits = record {
    first = after;
    held = λ n small none. others n (s.held n small (λ o. none (out_pushed n ds e o))) (λ p. none (out_last n ds e (sym p)));
    desks = All-push (λ (d : Desk). DeskFits b d.seat d.jobs.items) ds e s.desks fits;
  }

  taken : (rest z : Seat Plan G) (e : Desk) (before after : List Desk) (n : ℕ) → (IsOut n before → IsOut n after ⊎ (number_of e.seat ≡ n)) → ((IsOut n before → ⊥) → Holds rest n) → (Holds rest n → Holds z n) → Holds z (number_of e.seat) → (IsOut n after → ⊥) → Holds z n
  taken rest z e before after n less held ours theirs none = here (eqb_tells n (number_of e.seat))
    where
      apart : (n ≢ number_of e.seat) → IsOut n after ⊎ (number_of e.seat ≡ n) → ⊥
      apart f (inl o) = none o
      apart f (inr p) = f (sym p)

      here : ((eqb n (number_of e.seat) ≡ true) × (n ≡ number_of e.seat)) ⊎ ((eqb n (number_of e.seat) ≡ false) × (n ≢ number_of e.seat)) → Holds z n
      here (inl p) = subst (λ (m : ℕ). Holds z m) (sym p.1) theirs
      here (inr f) = ours (held (λ o. apart f.1 (less o)))

  -- a seat was taken in
  pub one_less : (b : Book Plan) (rest z : Seat Plan G) (ds : List Desk) (i : ℕ) (e : Desk) → SeatsAre b rest ds → i < length ds → e ≡ get_or ds i e → IsFirst b z → ((n : ℕ) → Holds rest n → Holds z n) → Holds z (number_of e.seat) → SeatsAre b z (remove ds i)
  one_less b rest z ds i e s h is after ours theirs = record {
    first = after;
    held = λ n small none. taken rest z e ds (remove ds i) n (out_removed n ds i e is h) (s.held n small) (ours n) theirs none;
    desks = All-append (λ (d : Desk). DeskFits b d.seat d.jobs.items) (take i ds) (drop (suc i) ds) (All-take (λ (d : Desk). DeskFits b d.seat d.jobs.items) i ds s.desks) (All-drop (λ (d : Desk). DeskFits b d.seat d.jobs.items) (suc i) ds s.desks);
  }

  -- the last seat was taken in
  pub last_less : (b : Book Plan) (rest z : Seat Plan G) (ds : List Desk) (e : Desk) → SeatsAre b rest (ds ++ e ∷ []) → IsFirst b z → ((n : ℕ) → Holds rest n → Holds z n) → Holds z (number_of e.seat) → All (λ (d : Desk). DeskFits b d.seat d.jobs.items) ds → SeatsAre b z ds
  last_less b rest z ds e s after ours theirs all = record {
    first = after;
    held = λ n small none. taken rest z e (ds ++ e ∷ []) ds n (out_popped n ds e) (s.held n small) (ours n) theirs none;
    desks = all;
  }

  -- the first seat holds as much as before
  pub rest_changed : (b : Book Plan) (rest z : Seat Plan G) (ds : List Desk) → SeatsAre b rest ds → IsFirst b z → ((n : ℕ) → Holds rest n → Holds z n) → SeatsAre b z ds
  rest_changed b rest z ds s after ours = record {
    first = after;
    held = λ n small none. ours n (s.held n small none);
    desks = s.desks;
  }
