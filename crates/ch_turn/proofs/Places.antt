-- Where the value is and what each stage means, across the steps of other seats.
use Rattle.std.proofs.Common.{◌≡◌, ◌≢◌, ℕ, ◌+◌, ◌<◌, true, List, [], ◌∷◌, ◌++◌, set, get_or, sym, refl, ap, ◌∙◌, subst, arith, Option, append-nil}
use Rattle.std.proofs.lemmas.Bool.{eqb-true, eq-eqb}
use Rattle.std.proofs.lemmas.List.{set-get_or}
use mathlib.Core.Logic.{dite}
use mathlib.Core.Option.{none, some, some-injective, some-ne-none}
use mathlib.Core.Option as maybe
use native.Mathlib.Decide.{ℕ_discrete}
use lib.ListN.{get_elem?}
use Rattle.atomic_table.specs.Table.{State, Me, keeps, stepped}
use Rattle.atomic_table.proofs.Lists.{set_again, at_longer, set_else}
use Rattle.ch_turn.specs.declared.view.View.{View}
use Rattle.ch_turn.specs.declared.view.Stage.{Stage}
use Rattle.ch_turn.specs.declared.view.Stage.TheVariants.{Idle, Waiting, Served, Leaving}
use Rattle.ch_turn.specs.Views.{is_ticket, holds_ticket}
use Rattle.ch_turn.specs.Rule.{Phase, home, served, leaving, StageFits, Knows, ValueAt, TurnRule}
use Rattle.ch_turn.proofs.Views.{set_at}

module _ {E V : Type 0} (list : V → List E) (by : E → ℕ) (news : List E → ℕ) (kin : V → Type 0) (turns : ℕ) where
  abbrev D : Type 0
  D = View E

  abbrev St : Type 0
  St = State (Option V) D

  abbrev M : Type 0
  M = Me (Option V) D

  abbrev Rule : St → Type 0
  Rule = TurnRule list by news kin turns

  module _ (n : ℕ) (p : List E) (homes : List (maybe.Option (Option V))) (vs : List D) (me : ℕ) (v w : D) where
    -- who is in its turn stays so where the view of another changes, or the stage of its own view stays
    pub ValueAt-set : get_elem? vs me ≡ some v → ((t : ℕ) (l : List E) → v.stage ≡ Served t l → w.stage ≡ Served t l) → ((t : ℕ) (l m : List E) → v.stage ≡ Leaving t l m → w.stage ≡ Leaving t l m)
        → (ph : Phase E) → ValueAt list news kin n p homes vs ph → ValueAt list news kin n p homes (set vs me w) ph
    ValueAt-set at taken stored home h = h
    ValueAt-set at taken stored (served j) h = let d = h.1.0 in let t = h.1.1 in let at_j = h.1.2 in let is = h.1.3 in (
      h.0,
      dite (ℕ_discrete j me)
          (λ e. let same : v ≡ d = some-injective v d (sym at ∙ (ap (get_elem? vs) (sym e) ∙ at_j)) in
          (w, t, ap (get_elem? (set vs me w)) e ∙ set_at vs me v w at, taken t p (ap (λ (z : D). z.stage) same ∙ is)))
          (λ ne. (d, t, set_else vs me j w ne ∙ at_j, is)),
    )
    ValueAt-set at taken stored (leaving j m) h = let d = h.1.0 in let t = h.1.1 in let at_j = h.1.2 in let is = h.1.3 in (
      h.0,
      dite (ℕ_discrete j me)
          (λ e. let same : v ≡ d = some-injective v d (sym at ∙ (ap (get_elem? vs) (sym e) ∙ at_j)) in
          (w, t, ap (get_elem? (set vs me w)) e ∙ set_at vs me v w at, stored t p m (ap (λ (z : D). z.stage) same ∙ is)))
          (λ ne. (d, t, set_else vs me j w ne ∙ at_j, is)),
    )

  pub ValueAt-snoc : (n : ℕ) (p : List E) (homes : List (maybe.Option (Option V))) (vs : List D) (b : D) (ph : Phase E) → ValueAt list news kin n p homes vs ph → ValueAt list news kin n p homes (vs ++ b ∷ []) ph
  ValueAt-snoc n p homes vs b home h = h
  ValueAt-snoc n p homes vs b (served j) h = (h.0, (h.1.0, h.1.1, at_longer vs (b ∷ []) j h.1.0 h.1.2, h.1.3))
  ValueAt-snoc n p homes vs b (leaving j m) h = (h.0, (h.1.0, h.1.1, at_longer vs (b ∷ []) j h.1.0 h.1.2, h.1.3))

  pub StageFits-draw : (sv tk : ℕ) (p : List E) (ph : Phase E) (j : ℕ) (ns : List (ℕ × List E)) (st : Stage E) → StageFits by sv tk p ph j ns st → StageFits by sv (tk + 1) p ph j ns st
  StageFits-draw sv tk p ph j ns Idle k = k
  StageFits-draw sv tk p ph j ns (Waiting t) k = (k.0, omega arith, k.2)
  StageFits-draw sv tk p ph j ns (Served t l) k = (k.0, omega arith, k.2, k.3, k.4)
  StageFits-draw sv tk p ph j ns (Leaving t l m) k = (k.0, omega arith, k.2, k.3, k.4, k.5)

  pub Knows-draw : (sv tk n : ℕ) (p : List E) (ph : Phase E) (j : ℕ) (d : D) → Knows by sv tk n p ph j d → Knows by sv (tk + 1) n p ph j d
  Knows-draw sv tk n p ph j d k = record { seen = k.seen; own = k.own; once = k.once; reads = k.reads; merged = k.merged; stage = StageFits-draw sv tk p ph j d.holdings d.stage k.stage }

  -- each ticket that is out is below the next one
  pub ticket_below : (sv tk : ℕ) (p : List E) (ph : Phase E) (j : ℕ) (ns : List (ℕ × List E)) (st : Stage E) → StageFits by sv tk p ph j ns st → (x : ℕ) → is_ticket x st ≡ true → x < tk
  ticket_below sv tk p ph j ns Idle k x h = cc
  ticket_below sv tk p ph j ns (Waiting t) k x h = let e = eqb-true x t h in omega arith
  ticket_below sv tk p ph j ns (Served t l) k x h = let e = eqb-true x t h in omega arith
  ticket_below sv tk p ph j ns (Leaving t l m) k x h = let e = eqb-true x t h in omega arith

  -- a step that changes nothing
  pub unmoved : (s : St) (r : Rule s) (i id : ℕ) (cs : List (ℕ × Option V)) (v : D) → get_elem? s.views id ≡ some v → Rule (stepped s i (get_or s.words i 0) id cs v keeps)
  unmoved s r i id cs v at = subst Rule (let a = sym (set-get_or s.words i 0) in let b = sym (set_again s.views id v at) in λ k. record { words = a k; homes = s.homes; views = b k }) r

  pub StageFits-take : (sv tk : ℕ) (p : List E) (me j : ℕ) (ns : List (ℕ × List E)) (st : Stage E) → StageFits by sv tk p home j ns st → StageFits by sv tk p (served me) j ns st
  StageFits-take sv tk p me j ns Idle k = k
  StageFits-take sv tk p me j ns (Waiting t) k = k
  StageFits-take sv tk p me j ns (Served t l) k = let e = k.4 in absurd (cc)
  StageFits-take sv tk p me j ns (Leaving t l m) k = let e = k.4 in absurd (cc)

  pub StageFits-tell : (sv tk : ℕ) (p m : List E) (me j : ℕ) → j ≢ me → (ns : List (ℕ × List E)) (st : Stage E) → StageFits by sv tk p (served me) j ns st → StageFits by sv tk p (leaving me m) j ns st
  StageFits-tell sv tk p m me j ne ns Idle k = k
  StageFits-tell sv tk p m me j ne ns (Waiting t) k = k
  StageFits-tell sv tk p m me j ne ns (Served t l) k = let e : served me ≡ served j = k.4 in absurd (ne (cc))
  StageFits-tell sv tk p m me j ne ns (Leaving t l m') k = let e : served me ≡ leaving j m' = k.4 in absurd (cc)

  pub StageFits-raise : (sv tk : ℕ) (p m : List E) (me j : ℕ) → j ≢ me → (ns : List (ℕ × List E)) (st : Stage E) → (is_ticket sv st ≡ true → ⊥) → StageFits by sv tk p (leaving me m) j ns st → StageFits by (sv + 1) tk m home j ns st
  StageFits-raise sv tk p m me j ne ns Idle free k = k
  StageFits-raise sv tk p m me j ne ns (Waiting t) free k = let other : sv ≢ t = λ e. free (eq-eqb sv t e) in (omega arith, k.1, k.2)
  StageFits-raise sv tk p m me j ne ns (Served t l) free k = let e : leaving me m ≡ served j = k.4 in absurd (cc)
  StageFits-raise sv tk p m me j ne ns (Leaving t l m') free k = let e : leaving me m ≡ leaving j m' = k.4 in absurd (ne (cc))

  -- where the seat whose ticket is served waits, the value is at home
  pub home_if_waiting : (s : St) (r : Rule s) (id t : ℕ) (v : D) → get_elem? s.views id ≡ some v → v.stage ≡ Waiting t → r.now_serving ≡ t → (ph : Phase E) → r.phase ≡ ph → ValueAt list news kin r.news_word r.published s.homes s.views ph → r.phase ≡ home
  home_if_waiting s r id t v at is hit home e h = e
  home_if_waiting s r id t v at is hit (served j) e h =
      let d = h.1.0 in let t' = h.1.1 in let at_j = h.1.2 in let is_j = h.1.3 in
      let k = subst (StageFits by r.now_serving r.next_ticket r.published r.phase j d.holdings) is_j (r.each_seat j d at_j).stage in
      let mine : holds_ticket t v ≡ true = ap (is_ticket t) is ∙ eq-eqb t t refl in
      let theirs : holds_ticket t d ≡ true = ap (is_ticket t) is_j ∙ eq-eqb t t' (sym hit ∙ sym k.0) in
      let same : id ≡ j = r.tickets t id j v d at at_j mine theirs in
      let one : v ≡ d = some-injective v d (sym at ∙ (ap (get_elem? s.views) same ∙ at_j)) in
      let bad : Waiting t ≡ Served t' r.published = sym is ∙ (ap (λ (z : D). z.stage) one ∙ is_j) in absurd (cc)
  home_if_waiting s r id t v at is hit (leaving j m) e h =
      let d = h.1.0 in let t' = h.1.1 in let at_j = h.1.2 in let is_j = h.1.3 in
      let k = subst (StageFits by r.now_serving r.next_ticket r.published r.phase j d.holdings) is_j (r.each_seat j d at_j).stage in
      let mine : holds_ticket t v ≡ true = ap (is_ticket t) is ∙ eq-eqb t t refl in
      let theirs : holds_ticket t d ≡ true = ap (is_ticket t) is_j ∙ eq-eqb t t' (sym hit ∙ sym k.0) in
      let same : id ≡ j = r.tickets t id j v d at at_j mine theirs in
      let one : v ≡ d = some-injective v d (sym at ∙ (ap (get_elem? s.views) same ∙ at_j)) in
      let bad : Waiting t ≡ Leaving t' r.published m = sym is ∙ (ap (λ (z : D). z.stage) one ∙ is_j) in absurd (cc)

  -- the seat that has the value is the one of the phase
  module _ (s : St) (r : Rule s) (id : ℕ) (v : D) (at : get_elem? s.views id ≡ some v) where
    pub served_at : (t : ℕ) (l : List E) → v.stage ≡ Served t l → ValueAt list news kin r.news_word r.published s.homes s.views (served id)
    served_at t l is = let k = subst (StageFits by r.now_serving r.next_ticket r.published r.phase id v.holdings) is (r.each_seat id v at).stage in
        subst (ValueAt list news kin r.news_word r.published s.homes s.views) k.4 r.place

    pub leaving_at : (t : ℕ) (l m : List E) → v.stage ≡ Leaving t l m → ValueAt list news kin r.news_word r.published s.homes s.views (leaving id m)
    leaving_at t l m is = let k = subst (StageFits by r.now_serving r.next_ticket r.published r.phase id v.holdings) is (r.each_seat id v at).stage in
        subst (ValueAt list news kin r.news_word r.published s.homes s.views) k.4 r.place

  -- the word NEWS is the news of the published list, or of the list that the turn in progress will publish
  pub news_at : (s : St) (r : Rule s) (ph : Phase E) → ValueAt list news kin r.news_word r.published s.homes s.views ph → (more : List E) × (r.news_word ≡ news (r.published ++ more))
  news_at s r home h = ([], h.0 ∙ ap news (sym (append-nil r.published)))
  news_at s r (served j) h = ([], h.0 ∙ ap news (sym (append-nil r.published)))
  news_at s r (leaving j m) h =
      let d = h.1.0 in let at_j = h.1.2 in
      let k = subst (StageFits by r.now_serving r.next_ticket r.published r.phase j d.holdings) h.1.3 (r.each_seat j d at_j).stage in
      (k.5.3.0, h.0 ∙ ap news k.5.3.1)
