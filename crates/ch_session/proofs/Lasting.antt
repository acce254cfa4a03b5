-- A trial that a seat's last event fetched is held, and one that it claimed is claimed.
use Rattle.std.proofs.Common.{◌≡◌, ◌≢◌, ℕ, Bool, true, false, cond, eqb, ◌&&◌, ◌||◌, not, List, [], ◌∷◌, ◌++◌, Option, Some, None, refl, sym, ap, ◌∙◌, subst, ◌⊎◌, inl, inr, append_assoc, append-nil}
use Rattle.std.specs.Prelude.{filter}
use Rattle.std.specs.List.{list_any}
use Rattle.ch_rank.specs.Entries.{are_legal_after}
use Rattle.ch_session.specs.declared.event.Event.{Event}
use Rattle.ch_session.specs.declared.event.Event.TheVariants.{Fetch, Report, Claim, Good, Refused, Leave}
use Rattle.ch_session.specs.History.{Theme, entries, names_claim, names_claim_by, names_end, is_claimed_by, is_held_by, may_follow, follow, is_legal}
use Rattle.ch_session.specs.Growth.{by, seat_of}
use Rattle.ch_session.specs.Laws.{IsLastBy, NoneBy}
use Rattle.ch_session.proofs.Events.{any_more, both, same_true, or_false}
use Rattle.ch_session.proofs.Legal.{along, by_claim, claim_open, held_whole, legal_front, legal_last, none_more, not_both, not_true, or_cases, equal_of, stays_held, stays_claimed}
use Rattle.ch_session.proofs.Leases.{fetched_held}

-- the history round the last event that passes a test
record Split (q : Event → Bool) (h : List Event) (e : Event) : Type 0 where
  front : List Event
  rest : List Event
  whole : h ≡ front ++ e ∷ rest
  none : filter q rest ≡ []

one_more : (q : Event → Bool) (x : Event) (h : List Event) (e : Event) → Split q h e → Split q (x ∷ h) e
one_more q x h e s = record { front = x ∷ s.front; rest = s.rest; whole = ap (λ (v : List Event). x ∷ v) s.whole; none = s.none }

head_of : (x y : Event) (xs ys : List Event) → x ∷ xs ≡ y ∷ ys → x ≡ y
head_of x y xs ys e = cc

tail_of : (x y : Event) (xs ys : List Event) → x ∷ xs ≡ y ∷ ys → xs ≡ ys
tail_of x y xs ys e = cc

last_split : (q : Event → Bool) (h before : List Event) (e : Event) → filter q h ≡ before ++ e ∷ [] → Split q h e
last_split q [] [] e k = absurd (cc)
last_split q [] (b ∷ bs) e k = absurd (cc)
last_split q (x ∷ h) before e k = at (q x) before k (λ b. last_split q h b e)
  where
    at : (t : Bool) (before : List Event) → cond t (x ∷ filter q h) (filter q h) ≡ before ++ e ∷ [] → ((b : List Event) → filter q h ≡ b ++ e ∷ [] → Split q h e) → Split q (x ∷ h) e
    at false before k f = one_more q x h e (f before k)
    at true [] k f = let s : x ≡ e = head_of x e (filter q h) [] k in record { front = []; rest = h; whole = ap (λ (y : Event). y ∷ h) s; none = tail_of x e (filter q h) [] k }
    at true (b ∷ bs) k f = one_more q x h e (f bs (tail_of x b (filter q h) (bs ++ e ∷ []) k))

last_by : (n : ℕ) (h : List Event) (e : Event) → IsLastBy n e h → Split (λ d. eqb (by d) n) h e
last_by n h e l = last_split (λ d. eqb (by d) n) h l.0 e l.1

-- the history up to the event, and what came after it
parted : (q : Event → Bool) (h : List Event) (e : Event) → (s : Split q h e) → h ≡ (s.front ++ e ∷ []) ++ s.rest
parted q h e s = s.whole ∙ sym (append_assoc s.front (e ∷ []) s.rest)

pub last_held : (th : Theme) (h : List Event) (c t v : ℕ) → is_legal th h ≡ true → IsLastBy c (Fetch c (Some t) v) h → is_held_by th h c t ≡ true
last_held th h c t v l last =
    let e : Event = Fetch c (Some t) v in
    let q : Event → Bool = λ d. eqb (by d) c in
    let s : Split q h e = last_by c h e last in
    let w : h ≡ (s.front ++ e ∷ []) ++ s.rest = parted q h e s in
    let l' : is_legal th ((s.front ++ e ∷ []) ++ s.rest) ≡ true = subst (λ (x : List Event). is_legal th x ≡ true) w l in
    let k = fetched_held th s.front c t v (legal_front th (s.front ++ e ∷ []) s.rest l') in
    subst (λ (x : List Event). is_held_by th x c t ≡ true) (sym w) (stays_held th (s.front ++ e ∷ []) s.rest c t l' (none_more c s.rest s.none) (held_whole th (s.front ++ e ∷ []) c t k))

-- ---- a trial whose build was recorded was claimed

abbrev Ended : List Event → Type 0
Ended h = (t : ℕ) → list_any (names_claim t) h ≡ false → list_any (names_end t) h ≡ false

or_none : (a b : Bool) → (a || b) ≡ false → (a ≡ false) × (b ≡ false)
or_none true b h = absurd (cc)
or_none false b h = (refl, h)

no_end : (h : List Event) (e : Event) → Ended h → ((t : ℕ) → list_any (names_claim t) h ≡ false → names_end t e ≡ false) → Ended (h ++ e ∷ [])
no_end h e p f t n =
    let b = or_none (list_any (names_claim t) h) (names_claim t e) (sym (any_more (names_claim t) h e) ∙ n) in
    any_more (names_end t) h e ∙ (ap (λ (x : Bool). x || names_end t e) (p t b.0) ∙ f t b.0)

other_end : (th : Theme) (h : List Event) (b u t : ℕ) → is_claimed_by th h b u ≡ true → list_any (names_claim t) h ≡ false → eqb u t ≡ false
other_end th h b u t m n = at (eqb u t) refl
  where
    at : (x : Bool) → eqb u t ≡ x → x ≡ false
    at false e = refl
    at true e = absurd (not_both (list_any (names_claim t) h) (subst (λ (w : ℕ). list_any (names_claim w) h ≡ true) (equal_of u t e) (by_claim h b u (both (list_any (names_claim_by b u) h) (not (list_any (names_end u) h)) m).0)) n)

ended_step : (th : Theme) (h : List Event) (e : Event) → Ended h → may_follow th h e ≡ true → Ended (h ++ e ∷ [])
ended_step th h (Fetch c o v) p m = no_end h (Fetch c o v) p (λ t n. refl)
ended_step th h (Report c u j x l) p m = no_end h (Report c u j x l) p (λ t n. refl)
ended_step th h (Claim b u) p m = no_end h (Claim b u) p (λ t n. refl)
ended_step th h (Good b u) p m = no_end h (Good b u) p (λ t n. other_end th h b u t m n)
ended_step th h (Refused b u r) p m = no_end h (Refused b u r) p (λ t n. other_end th h b u t m n)
ended_step th h (Leave c u) p m = no_end h (Leave c u) p (λ t n. refl)

ended : (th : Theme) (h : List Event) → is_legal th h ≡ true → Ended h
ended th h l = along Ended th (ended_step th) [] h (λ t n. refl) (both (follow th [] h) (are_legal_after th.grid th.repeat [] (entries h)) l).0

claimed_here : (th : Theme) (h : List Event) (b t : ℕ) → is_legal th (h ++ Claim b t ∷ []) ≡ true → is_claimed_by th (h ++ Claim b t ∷ []) b t ≡ true
claimed_here th h b t l =
    let e : Event = Claim b t in
    let open_before : list_any (names_claim t) h ≡ false = claim_open th h t (legal_last th h e l) in
    let none : list_any (names_end t) (h ++ e ∷ []) ≡ false = any_more (names_end t) h e ∙ (or_false (list_any (names_end t) h) ∙ ended th h (legal_front th h (e ∷ []) l) t open_before) in
    let named : list_any (names_claim_by b t) (h ++ e ∷ []) ≡ true = any_more (names_claim_by b t) h e ∙ (ap (λ (x : Bool). list_any (names_claim_by b t) h || x) (both_true (eqb t t) (eqb b b) (same_true t) (same_true b)) ∙ or_true (list_any (names_claim_by b t) h)) in
    both_true (list_any (names_claim_by b t) (h ++ e ∷ [])) (not (list_any (names_end t) (h ++ e ∷ []))) named (ap (λ (x : Bool). not x) none)
  where
    both_true : (x y : Bool) → x ≡ true → y ≡ true → (x && y) ≡ true
    both_true true y p q = q
    both_true false y p q = absurd (cc)

    or_true : (x : Bool) → (x || true) ≡ true
    or_true true = refl
    or_true false = refl

pub last_claimed : (th : Theme) (h : List Event) (b t : ℕ) → is_legal th h ≡ true → IsLastBy (seat_of b) (Claim b t) h → is_claimed_by th h b t ≡ true
last_claimed th h b t l last =
    let e : Event = Claim b t in
    let q : Event → Bool = λ d. eqb (by d) (seat_of b) in
    let s : Split q h e = last_by (seat_of b) h e last in
    let w : h ≡ (s.front ++ e ∷ []) ++ s.rest = parted q h e s in
    let l' : is_legal th ((s.front ++ e ∷ []) ++ s.rest) ≡ true = subst (λ (x : List Event). is_legal th x ≡ true) w l in
    let k = claimed_here th s.front b t (legal_front th (s.front ++ e ∷ []) s.rest l') in
    subst (λ (x : List Event). is_claimed_by th x b t ≡ true) (sym w) (stays_claimed th (s.front ++ e ∷ []) s.rest b t l' (none_more (seat_of b) s.rest s.none) k)
