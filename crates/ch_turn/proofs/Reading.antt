-- A load of NEWS keeps the rule.
use Rattle.std.proofs.Common.{◌≡◌, ℕ, zero, suc, ◌≤◌, List, [], ◌∷◌, ◌++◌, set, get_or, sym, refl, ap, ◌∙◌, subst, arith, Option, All, le_refl}
use Rattle.std.proofs.lemmas.List.Elements.{All-append}
use mathlib.Core.Option.{none}
use Rattle.atomic_table.specs.Table.{State, Me, step, keeps, Allows}
use Rattle.ch_turn.specs.declared.view.View.{View}
use Rattle.ch_turn.specs.Views.{holds_ticket, holds_number, left_of}
use Rattle.ch_turn.specs.Rule.{Knows, TurnRule}
use Rattle.ch_turn.specs.Plays.{ReadsNews}
use Rattle.ch_turn.proofs.Views.{sum_by-set, each_view-set, HeldOnce-set, OnlyAt-less, AllDrawn-set}
use Rattle.ch_turn.proofs.Prefixes.{IsPrefix-append}
use Rattle.ch_turn.proofs.Places.{ValueAt-set, news_at}

at_one : {X : Type 0} (P : X → Type 0) (x : X) → P x → All P (x ∷ [])
at_one P x h zero d lt = h
at_one P x h (suc k) d lt = absurd (omega arith)

module _ {E V : Type 0} (list : V → List E) (by : E → ℕ) (news : List E → ℕ) (kin : V → Type 0) (turns : ℕ) where
  abbrev D : Type 0
  D = View E

  abbrev St : Type 0
  St = State (Option V) D

  abbrev M : Type 0
  M = Me (Option V) D

  abbrev Rule : St → Type 0
  Rule = TurnRule list by news kin turns

  pub read_allowed : (slots id : ℕ) (me : M) → Allows Rule slots id me 2 (λ n. n) (ReadsNews news (step slots 2 0 0 none) me)
  read_allowed slots id me s r _ at _ =
      let v : D = me.0 in
      let k = r.each_seat id v at in
      let here : get_or s.words 2 0 ≡ r.news_word = ap (λ (l : List ℕ). get_or l 2 0) r.words in
      let w : D = record v { reads = v.reads ++ get_or s.words 2 0 ∷ [] } in (
        w,
        keeps,
        tt,
        record {
          published = r.published;
          phase = r.phase;
          next_ticket = r.next_ticket;
          now_serving = r.now_serving;
          news_word = r.news_word;
          words = (λ i. set (r.words i) 2 (here i));
          deep = r.deep;
          behind = r.behind;
          room = let put = sum_by-set left_of s.views id v w at in let room = r.room in omega arith;
          small = r.small;
          place = ValueAt-set list by news kin turns r.news_word r.published s.homes s.views id v w at (λ t l e. e) (λ t l m e. e) r.phase r.place;
          each_seat = each_view-set (Knows by r.now_serving r.next_ticket r.news_word r.published r.phase) s.views id w
              (record { seen = k.seen; own = k.own; once = k.once; reads = All-append (λ z. z ≤ r.news_word) v.reads (get_or s.words 2 0 ∷ []) k.reads (at_one (λ z. z ≤ r.news_word) (get_or s.words 2 0) (subst (λ (z : ℕ). z ≤ r.news_word) (sym here) (le_refl r.news_word))); merged = k.merged; stage = k.stage })
              (λ j d _ e. r.each_seat j d e);
          tickets = HeldOnce-set holds_ticket s.views id w r.tickets (OnlyAt-less holds_ticket s.views id v w at r.tickets (λ y h. h));
          numbers = HeldOnce-set holds_number s.views id w r.numbers (OnlyAt-less holds_number s.views id v w at r.numbers (λ y h. h));
          drawn = AllDrawn-set r.now_serving r.next_ticket s.views id v w at (λ n h. h) r.drawn;
          marked = r.marked;
        },
        (refl, refl, (let n = news_at list by news kin turns s r r.phase r.place in (r.published ++ n.0, IsPrefix-append v.seen r.published n.0 k.seen, here ∙ n.1)), (λ i d lt. let one = k.reads i d lt in omega arith)),
      )
