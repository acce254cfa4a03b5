-- One job more of a builder.
use Rattle.std.proofs.Common.{◌≡◌, ℕ, ◌+◌, Bool, true, List, [], ◌∷◌, ◌++◌, Option, Some, None, refl, sym, ap, ◌∙◌, subst, append_assoc, append-nil}
use Rattle.ch_turn.specs.History.{IsPrefix}
use Rattle.ch_session.specs.declared.event.Event.{Event}
use Rattle.ch_session.specs.declared.event.Event.TheVariants.{Fetch, Report, Claim, Good, Refused, Leave}
use Rattle.ch_session.specs.History.{Theme, is_open, claim_gives, is_legal}
use Rattle.ch_conduct.proofs.Among.{first_below}
use Rattle.ch_conduct.specs.Conduct.{build_event, refusal_at, Builds, BuildsSoFar, BuilderConduct}
use Rattle.ch_conduct.specs.Meaning.{Judge}
use Rattle.ch_conduct.specs.Places.{events_by, point, MetNoneOpen}
use Rattle.ch_conduct.specs.Turns.{Knowledge, IsKnown, TookTurn}
use Rattle.ch_conduct.proofs.Prefixes.{prefix_trans, point_stays}
use Rattle.ch_conduct.proofs.Longer.{builds_seen_longer}

module _ (th : Theme) (judge : Judge) (b : ℕ) where
  builds-append : (h xs ys : List Event) → Builds th judge b h xs → Builds th judge b h ys → Builds th judge b h (xs ++ ys)
  builds-append h [] ys d e = e
  builds-append h (Claim a t ∷ []) ys d e = absurd d
  builds-append h (Claim a t ∷ x ∷ xs) ys d e = (d.0, d.1, builds-append h xs ys d.2 e)
  builds-append h (Fetch c t v ∷ xs) ys d e = absurd d
  builds-append h (Report c t j x l ∷ xs) ys d e = absurd d
  builds-append h (Good c t ∷ xs) ys d e = absurd d
  builds-append h (Refused c t x ∷ xs) ys d e = absurd d
  builds-append h (Leave c t ∷ xs) ys d e = absurd d

  claim-append : (h xs : List Event) (t : ℕ) → Builds th judge b h xs → BuildsSoFar th judge b h (xs ++ Claim b t ∷ [])
  claim-append h [] t d = refl
  claim-append h (Claim a u ∷ []) t d = absurd d
  claim-append h (Claim a u ∷ x ∷ xs) t d = (d.0, d.1, claim-append h xs t d.2)
  claim-append h (Fetch c u v ∷ xs) t d = absurd d
  claim-append h (Report c u j x l ∷ xs) t d = absurd d
  claim-append h (Good c u ∷ xs) t d = absurd d
  claim-append h (Refused c u x ∷ xs) t d = absurd d
  claim-append h (Leave c u ∷ xs) t d = absurd d

  seen_seen : (s z : Knowledge) (h added : List Event) → TookTurn th b s z h added → IsPrefix s.seen z.seen
  seen_seen s z h added t = prefix_trans s.seen h z.seen t.begins (added, t.seen_is)

  -- a claim and its build
  pub builds_more : (s y z : Knowledge) (h k : List Event) (u : ℕ) (at : List ℕ) → IsKnown th b s → Builds th judge b s.seen s.own → TookTurn th b s y h (Claim b u ∷ []) → claim_gives th h ≡ Some u → at ≡ point th h u →
      TookTurn th b y z k (build_event b u (judge.refusal at) ∷ []) → Builds th judge b z.seen z.own
  builds_more s y z h k u at w d t gives is r =
      let p = prefix_trans s.seen y.seen z.seen (seen_seen s y h _ t) (seen_seen y z k _ r) in
      let longer = builds_seen_longer th judge s.seen z.seen p r.known.0 b s.own w.0 w.1 d in
      let q = prefix_trans h y.seen z.seen (Claim b u ∷ [], t.seen_is) (seen_seen y z k _ r) in
      let low = first_below th h (is_open th h) u gives in
      let same : judge.refusal at ≡ refusal_at th judge z.seen u = ap judge.refusal (is ∙ sym (point_stays th h z.seen u q r.known.0 low)) in
      let both : Builds th judge b z.seen (Claim b u ∷ build_event b u (judge.refusal at) ∷ []) = (refl, ap (build_event b u) same, tt) in
      let own : z.own ≡ s.own ++ Claim b u ∷ build_event b u (judge.refusal at) ∷ [] = r.own_is ∙ (ap (λ x. x ++ build_event b u (judge.refusal at) ∷ []) t.own_is ∙ append_assoc s.own (Claim b u ∷ []) (build_event b u (judge.refusal at) ∷ [])) in
      subst (λ (x : List Event). Builds th judge b z.seen x) (sym own) (builds-append z.seen s.own _ longer both)

  -- a claim that found no memory for its build
  pub claims_more : (s y : Knowledge) (h : List Event) (u : ℕ) → IsKnown th b s → Builds th judge b s.seen s.own → TookTurn th b s y h (Claim b u ∷ []) → BuildsSoFar th judge b y.seen y.own
  claims_more s y h u w d t = subst (λ (x : List Event). BuildsSoFar th judge b y.seen x) (sym t.own_is) (claim-append y.seen s.own u (builds_seen_longer th judge s.seen y.seen (seen_seen s y h _ t) t.known.0 b s.own w.0 w.1 d))

  -- a claim that met no open trial
  pub builder_ends : (s y : Knowledge) (h : List Event) → IsKnown th b s → Builds th judge b s.seen s.own → TookTurn th b s y h [] → claim_gives th h ≡ None → BuilderConduct th judge b y.seen y.own
  builder_ends s y h w d t none =
      let own : s.own ≡ y.own = sym (t.own_is ∙ append-nil s.own) in
      let longer = builds_seen_longer th judge s.seen y.seen (seen_seen s y h [] t) t.known.0 b s.own w.0 w.1 d in
      (subst (λ (x : List Event). Builds th judge b y.seen x) own longer, (h, ([], t.seen_is), t.own ∙ own, none))

  pub so_far : (h xs : List Event) → Builds th judge b h xs → BuildsSoFar th judge b h xs
  so_far h [] d = tt
  so_far h (Claim a u ∷ []) d = absurd d
  so_far h (Claim a u ∷ x ∷ xs) d = (d.0, d.1, so_far h xs d.2)
  so_far h (Fetch c u v ∷ xs) d = absurd d
  so_far h (Report c u j x l ∷ xs) d = absurd d
  so_far h (Good c u ∷ xs) d = absurd d
  so_far h (Refused c u x ∷ xs) d = absurd d
  so_far h (Leave c u ∷ xs) d = absurd d

  -- a claim that found no memory itself
  pub claims_none : (s y : Knowledge) (h : List Event) → IsKnown th b s → Builds th judge b s.seen s.own → TookTurn th b s y h [] → BuildsSoFar th judge b y.seen y.own
  claims_none s y h w d t =
      let own : s.own ≡ y.own = sym (t.own_is ∙ append-nil s.own) in
      so_far y.seen y.own (subst (λ (x : List Event). Builds th judge b y.seen x) own (builds_seen_longer th judge s.seen y.seen (seen_seen s y h [] t) t.known.0 b s.own w.0 w.1 d))
