-- One more event: what the events say of a trial afterwards.
use Rattle.std.proofs.Common.{◌≡◌, ◌≢◌, ℕ, zero, suc, ◌+◌, ◌-◌, ◌<◌, ◌≤◌, Bool, true, false, cond, eqb, nat_lt, ◌&&◌, ◌||◌, not, List, [], ◌∷◌, ◌++◌, length, Option, Some, None, is_some, refl, sym, ap, ◌∙◌, subst, arith, ◌⊎◌, inl, inr, append_assoc, append-nil, length-append}
use Rattle.std.specs.Prelude.{filter}
use Rattle.std.specs.List.{list_any}
use Rattle.std.proofs.lemmas.Bool.Decides.{nat_tests}
use Rattle.ch_grid.specs.declared.param.Param.{Param}
use Rattle.ch_rank.specs.declared.outcome.Outcome.{Outcome}
use Rattle.ch_rank.specs.declared.outcome.Costed.{Costed}
use Rattle.ch_rank.specs.Entries.{measured, may_enter, are_legal_after}
use Rattle.ch_rank.proofs.Legal.{legal_one_more}
use Rattle.ch_session.specs.declared.event.Event.{Event}
use Rattle.ch_session.specs.declared.event.Event.TheVariants.{Fetch, Report, Claim, Good, Refused, Leave}
use Rattle.ch_session.specs.History.{Theme, entry_of, entries, completing, completing_after, counts, names_claim, names_claim_by, names_good, names_end, holder_after, holder_from, may_follow, follow, is_legal, least}
use Rattle.ch_session.specs.Kept.{About, about, untouched, claimed_once}

-- ---- lists

pub or_false : (b : Bool) → (b || false) ≡ b
or_false true = refl
or_false false = refl

or_assoc : (a b c : Bool) → (a || (b || c)) ≡ ((a || b) || c)
or_assoc true b c = refl
or_assoc false b c = refl

pub any_more : (p : Event → Bool) (h : List Event) (e : Event) → list_any p (h ++ e ∷ []) ≡ (list_any p h || p e)
any_more p [] e = or_false (p e)
any_more p (x ∷ h) e = ap (λ (b : Bool). p x || b) (any_more p h e) ∙ or_assoc (p x) (list_any p h) (p e)

pub entries_more : (h : List Event) (e : Event) → entries (h ++ e ∷ []) ≡ entries h ++ entry_of e
entries_more [] e = append-nil (entry_of e)
entries_more (x ∷ h) e = ap (λ (v : List Costed). entry_of x ++ v) (entries_more h e) ∙ sym (append_assoc (entry_of x) (entries h) (entry_of e))

append_case : (b : Bool) (o : Outcome) (x y z : List Outcome) → x ≡ y ++ z → cond b (o ∷ x) x ≡ cond b (o ∷ y) y ++ z
append_case true o x y z e = ap (λ (v : List Outcome). o ∷ v) e
append_case false o x y z e = e

pub measured_append : (es more : List Costed) (t : ℕ) → measured (es ++ more) t ≡ measured es t ++ measured more t
measured_append [] more t = refl
measured_append (d ∷ es) more t = append_case (eqb d.trial t) d.outcome (measured (es ++ more) t) (measured es t) (measured more t) (measured_append es more t)

pub holder_more : (t : ℕ) (o : Option ℕ) (h : List Event) (e : Event) → holder_from t o (h ++ e ∷ []) ≡ holder_after t (holder_from t o h) e
holder_more t o [] e = refl
holder_more t o (x ∷ h) e = holder_more t (holder_after t o x) h e

completing_on : (before h : List Event) (e : Event) → completing_after before (h ++ e ∷ []) ≡ completing_after before h ++ completing (before ++ h) e
completing_on before [] e = append-nil (completing before e) ∙ ap (λ (v : List Event). completing v e) (sym (append-nil before))
completing_on before (x ∷ h) e =
    ap (λ (v : List Costed). completing before x ++ v) (completing_on (before ++ x ∷ []) h e)
    ∙ (ap (λ (v : List Event). completing before x ++ (completing_after (before ++ x ∷ []) h ++ completing v e)) (append_assoc before (x ∷ []) h)
    ∙ sym (append_assoc (completing before x) (completing_after (before ++ x ∷ []) h) (completing (before ++ x ∷ h) e)))

pub completing_more : (h : List Event) (e : Event) → completing_after [] (h ++ e ∷ []) ≡ completing_after [] h ++ completing h e
completing_more h e = completing_on [] h e

filter_case : (b : Bool) (x : Event) (xs ys : List Event) (n : ℕ) → length ys ≡ length xs + n → length (cond b (x ∷ ys) ys) ≡ length (cond b (x ∷ xs) xs) + n
filter_case true x xs ys n h = omega (arith, h)
filter_case false x xs ys n h = h

one_case : (b : Bool) (e : Event) → length (cond b (e ∷ []) []) ≡ 0 + cond b 1 0
one_case true e = refl
one_case false e = refl

pub counts_more : (h : List Event) (e : Event) → length (filter counts (h ++ e ∷ [])) ≡ length (filter counts h) + cond (counts e) 1 0
counts_more [] e = one_case (counts e) e
counts_more (x ∷ h) e = filter_case (counts x) x (filter counts h) (filter counts (h ++ e ∷ [])) (cond (counts e) 1 0) (counts_more h e)

-- ---- trials

abbrev pub after_event : ℕ → About → Event → About
after_event t a e = record {
  claimed = a.claimed || names_claim t e;
  claimed_by = λ b. a.claimed_by b || names_claim_by b t e;
  ended = a.ended || names_end t e;
  good = a.good || names_good t e;
  outcomes = a.outcomes ++ measured (entry_of e) t;
  holder = holder_after t a.holder e;
}

pub about_more : (t : ℕ) (h : List Event) (e : Event) → about t (h ++ e ∷ []) ≡ after_event t (about t h) e
about_more t h e = λ i. record {
  claimed = any_more (names_claim t) h e i;
  claimed_by = λ b. any_more (names_claim_by b t) h e i;
  ended = any_more (names_end t) h e i;
  good = any_more (names_good t) h e i;
  outcomes = (ap (λ (es : List Costed). measured es t) (entries_more h e) ∙ measured_append (entries h) (entry_of e) t) i;
  holder = holder_more t None h e i;
}

-- whether the event is about the trial
abbrev pub names : ℕ → Event → Bool
names t (Fetch c None v) = false
names t (Fetch c (Some u) v) = eqb u t
names t (Report c u j x l) = eqb u t
names t (Claim b u) = eqb u t
names t (Good b u) = eqb u t
names t (Refused b u r) = eqb u t
names t (Leave c u) = eqb u t

-- an event that isn't leaves it as it is
pub other_event : (t : ℕ) (a : About) (e : Event) → names t e ≡ false → after_event t a e ≡ a
other_event t a (Fetch c None v) h = λ i. record { claimed = or_false a.claimed i; claimed_by = λ b. or_false (a.claimed_by b) i; ended = or_false a.ended i; good = or_false a.good i; outcomes = append-nil a.outcomes i; holder = a.holder }
other_event t a (Fetch c (Some u) v) h = λ i. record { claimed = or_false a.claimed i; claimed_by = λ b. or_false (a.claimed_by b) i; ended = or_false a.ended i; good = or_false a.good i; outcomes = append-nil a.outcomes i; holder = ap (λ (b : Bool). cond b (Some c) a.holder) h i }
other_event t a (Report c u j x l) h = λ i. record { claimed = or_false a.claimed i; claimed_by = λ b. or_false (a.claimed_by b) i; ended = or_false a.ended i; good = or_false a.good i; outcomes = (ap (λ (b : Bool). a.outcomes ++ cond b (Rattle.ch_rank.specs.declared.outcome.Outcome.TheVariants.Cost x ∷ []) []) h ∙ append-nil a.outcomes) i; holder = ap (λ (b : Bool). cond b None a.holder) h i }
other_event t a (Claim b u) h = λ i. record { claimed = (ap (λ (z : Bool). a.claimed || z) h ∙ or_false a.claimed) i; claimed_by = λ x. (ap (λ (z : Bool). a.claimed_by x || (z && eqb b x)) h ∙ or_false (a.claimed_by x)) i; ended = or_false a.ended i; good = or_false a.good i; outcomes = append-nil a.outcomes i; holder = a.holder }
other_event t a (Good b u) h = λ i. record { claimed = or_false a.claimed i; claimed_by = λ x. or_false (a.claimed_by x) i; ended = (ap (λ (z : Bool). a.ended || z) h ∙ or_false a.ended) i; good = (ap (λ (z : Bool). a.good || z) h ∙ or_false a.good) i; outcomes = append-nil a.outcomes i; holder = a.holder }
other_event t a (Refused b u r) h = λ i. record { claimed = or_false a.claimed i; claimed_by = λ x. or_false (a.claimed_by x) i; ended = (ap (λ (z : Bool). a.ended || z) h ∙ or_false a.ended) i; good = or_false a.good i; outcomes = (ap (λ (z : Bool). a.outcomes ++ cond z (Rattle.ch_rank.specs.declared.outcome.Outcome.TheVariants.Refused ∷ []) []) h ∙ append-nil a.outcomes) i; holder = a.holder }
other_event t a (Leave c u) h = λ i. record { claimed = or_false a.claimed i; claimed_by = λ b. or_false (a.claimed_by b) i; ended = or_false a.ended i; good = or_false a.good i; outcomes = append-nil a.outcomes i; holder = ap (λ (b : Bool). cond b None a.holder) h i }

pub same_true : (x : ℕ) → eqb x x ≡ true
same_true x = grind (arith, nat_tests)

pub differ : (x y : ℕ) → x ≢ y → eqb x y ≡ false
differ x y h = grind (arith, nat_tests)

pub which : (x y : ℕ) → (x ≡ y) ⊎ (x ≢ y)
which x y = grind (arith, nat_tests)

-- ---- legal histories

and_true : (a b : Bool) → a ≡ true → b ≡ true → (a && b) ≡ true
and_true true b p q = q
and_true false b p q = absurd (cc)

pub both : (a b : Bool) → (a && b) ≡ true → (a ≡ true) × (b ≡ true)
both true b h = (refl, h)
both false b h = absurd (cc)

follow_more : (th : Theme) (before h : List Event) (e : Event) → follow th before h ≡ true → may_follow th (before ++ h) e ≡ true → follow th before (h ++ e ∷ []) ≡ true
follow_more th before [] e f m = and_true (may_follow th before e) true (subst (λ (v : List Event). may_follow th v e ≡ true) (append-nil before) m) refl
follow_more th before (x ∷ h) e f m =
    let b = both (may_follow th before x) (follow th (before ++ x ∷ []) h) f in
    and_true (may_follow th before x) (follow th (before ++ x ∷ []) (h ++ e ∷ [])) b.0 (follow_more th (before ++ x ∷ []) h e b.1 (subst (λ (v : List Event). may_follow th v e ≡ true) (sym (append_assoc before (x ∷ []) h)) m))

pub legal_quiet : (th : Theme) (h : List Event) (e : Event) → is_legal th h ≡ true → may_follow th h e ≡ true → entries (h ++ e ∷ []) ≡ entries h → is_legal th (h ++ e ∷ []) ≡ true
legal_quiet th h e l m q =
    let b = both (follow th [] h) (are_legal_after th.grid th.repeat [] (entries h)) l in
    and_true (follow th [] (h ++ e ∷ [])) (are_legal_after th.grid th.repeat [] (entries (h ++ e ∷ []))) (follow_more th [] h e b.0 m) (subst (λ (v : List Costed). are_legal_after th.grid th.repeat [] v ≡ true) (sym q) b.1)

pub legal_entry : (th : Theme) (h : List Event) (e : Event) (c : Costed) → is_legal th h ≡ true → may_follow th h e ≡ true → entry_of e ≡ c ∷ [] → may_enter (record { grid = th.grid; repeat = th.repeat; entries = entries h; spare = 0 }) c.trial c.outcome ≡ true → is_legal th (h ++ e ∷ []) ≡ true
legal_entry th h e c l m q r =
    let b = both (follow th [] h) (are_legal_after th.grid th.repeat [] (entries h)) l in
    let more : entries (h ++ e ∷ []) ≡ entries h ++ c ∷ [] = entries_more h e ∙ ap (λ (v : List Costed). entries h ++ v) q in
    and_true (follow th [] (h ++ e ∷ [])) (are_legal_after th.grid th.repeat [] (entries (h ++ e ∷ []))) (follow_more th [] h e b.0 m)
    (subst (λ (v : List Costed). are_legal_after th.grid th.repeat [] v ≡ true) (sym more) (legal_one_more th.grid th.repeat [] (entries h) c b.1 r))

-- ---- the least trial that passes a test

pub least_found : (p : ℕ → Bool) (n t i : ℕ) → t ≤ i → i < t + n → ((j : ℕ) → t ≤ j → j < i → p j ≡ false) → p i ≡ true → least p n t ≡ Some i
least_found p zero t i h k f e = absurd (omega arith)
least_found p (suc n) t i h k f e = at (which t i) (λ a b c. least_found p n (suc t) i a b c e)
  where
    at : (t ≡ i) ⊎ (t ≢ i) → (suc t ≤ i → i < suc t + n → ((j : ℕ) → suc t ≤ j → j < i → p j ≡ false) → least p n (suc t) ≡ Some i) → cond (p t) (Some t) (least p n (suc t)) ≡ Some i
    at (inl s) rest = let w : p t ≡ true = ap p s ∙ e in ap (λ (b : Bool). cond b (Some t) (least p n (suc t))) w ∙ ap (λ (u : ℕ). Some u) s
    at (inr s) rest = ap (λ (b : Bool). cond b (Some t) (least p n (suc t))) (f t (omega arith) (omega (arith, s))) ∙ rest (omega (arith, s)) (omega arith) (λ j a b. f j (omega arith) b)

pub least_none : (p : ℕ → Bool) (n t : ℕ) → ((j : ℕ) → t ≤ j → j < t + n → p j ≡ false) → least p n t ≡ None
least_none p zero t f = refl
least_none p (suc n) t f = ap (λ (b : Bool). cond b (Some t) (least p n (suc t))) (f t (omega arith) (omega arith)) ∙ least_none p n (suc t) (λ j a b. f j (omega arith) (omega arith))
