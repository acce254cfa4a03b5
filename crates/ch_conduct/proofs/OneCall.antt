-- From what a seat's turns say to what one call does, and one more call to a conduct.
use Rattle.std.proofs.Common.{◌≡◌, ◌≢◌, ℕ, zero, suc, ◌+◌, ◌<◌, ◌≤◌, Bool, true, false, cond, eqb, List, [], ◌∷◌, ◌++◌, map, length, Option, Some, None, refl, sym, ap, ◌∙◌, subst, arith, append_assoc, append-nil, ◌⊎◌, inl, inr}
use Rattle.std.specs.List.{AllByRecursion}
use Rattle.ch_turn.specs.History.{IsPrefix}
use Rattle.ch_session.specs.declared.event.Event.{Event}
use Rattle.ch_session.specs.declared.event.Event.TheVariants.{Fetch, Report, Claim, Good, Refused, Leave}
use Rattle.ch_session.specs.History.{Theme, is_open, fetch_gives, claim_gives, news, is_legal}
use Rattle.ch_conduct.proofs.Among.{first_below, fetched_below}
use Rattle.ch_nest.specs.CostModel.{CostModel}
use Rattle.ch_conduct.specs.declared.report.How.{How}
use Rattle.ch_conduct.specs.declared.report.How.TheVariants.{Trial, Fresh, Kept}
use Rattle.ch_conduct.specs.declared.report.CallLine.{CallLine}
use Rattle.ch_conduct.specs.Lines.{lines_from, last_line}
use Rattle.ch_conduct.specs.Conduct.{Gained, Step, events_of, reads_of, news_shown, news_compared, ReadsOther, build_event, refusal_at, building, Answered, MayStay, Turns, CallDoes, Calls, Conducted, Conduct}
use Rattle.ch_conduct.specs.Meaning.{Judge}
use Rattle.ch_conduct.specs.Places.{events_by, point, IsNext, MetNoneOpen}
use Rattle.ch_conduct.specs.Conduct.Turns.{at_once, built}
use Rattle.ch_conduct.specs.Turns.{Knowledge, IsKnown, TookTurn, ReadNews, Called, Settles, Building, Compared}
use Rattle.ch_conduct.specs.Turns.Compared.{nothing, differs}
use Rattle.ch_conduct.proofs.Prefixes.{prefix_trans, prefix_self, prefix_front, point_stays}
use Rattle.ch_conduct.proofs.Longer.{conducted_longer}

module _ (th : Theme) (judge : Judge) (c : ℕ) (patient : Bool) (machine : CostModel) where
  abbrev Turn : Knowledge → Knowledge → List Event → List Event → Type 0
  Turn s z h added = TookTurn th c s z h added

  -- what a turn met begins what the seat has seen after it, and so what it had seen before
  met_seen : (s z : Knowledge) (h added : List Event) → Turn s z h added → IsPrefix h z.seen
  met_seen s z h added t = (added, t.seen_is)

  seen_seen : (s z : Knowledge) (h added : List Event) → Turn s z h added → IsPrefix s.seen z.seen
  seen_seen s z h added t = prefix_trans s.seen h z.seen t.begins (met_seen s z h added t)

  -- ---- the fetch that decides

  current : (s z : Knowledge) (h : List Event) (j v w : ℕ) (k : List Event) → Turn s z h (Fetch c None v ∷ []) → news h ≡ w → IsPrefix z.seen k → Answered th judge c patient machine s.own k j (Fresh v w) (Fetch c None v ∷ [])
  current s z h j v w k t e p = (refl, (h, (subst (λ (x : List Event). IsPrefix x k) t.seen_is p, t.own), e))

  trial : (s y z : Knowledge) (h k : List Event) (j t l : ℕ) → Turn s y h (Fetch c (Some t) 0 ∷ []) → fetch_gives th h c ≡ Some t → judge.refusal (point th h t) ≡ None →
      Turn y z k (Report c t j (judge.cost machine (point th h t)) l ∷ []) →
      Answered th judge c patient machine s.own z.seen j (Trial t) (Fetch c (Some t) 0 ∷ Report c t j (judge.cost machine (point th h t)) l ∷ [])
  trial s y z h k j t l a gives none b =
      let pre = prefix_trans h y.seen z.seen (met_seen s y h _ a) (seen_seen y z k _ b) in
      let same : point th h t ≡ point th z.seen t = sym (point_stays th h z.seen t pre b.known.0 (fetched_below th h c t gives)) in
      (l, ap (λ x. Fetch c (Some t) 0 ∷ Report c t j (judge.cost machine x) l ∷ []) same, ap judge.refusal (sym same) ∙ none)

  -- ---- a build of a patient client's own

  building_is : (s z : Knowledge) (v u : ℕ) (at : List ℕ) (k : List Event) → (b : Building th judge c s z v u at) → IsPrefix z.seen k → is_legal th k ≡ true →
      Fetch c None v ∷ Claim (200 + c) u ∷ build_event (200 + c) u (judge.refusal at) ∷ [] ≡ building th judge c patient machine k v u
  building_is s z v u at k b p whole =
      let low = first_below th b.k (is_open th b.k) u b.gives in
      let pre = prefix_trans b.k z.seen k (prefix_trans b.k b.second.seen z.seen (met_seen b.first b.second b.k _ b.claims) (seen_seen b.second z b.l _ b.builds)) p in
      let same : at ≡ point th k u = b.job ∙ sym (point_stays th b.k k u pre whole low) in
      ap (λ x. Fetch c None v ∷ Claim (200 + c) u ∷ build_event (200 + c) u (judge.refusal x) ∷ []) same

  building_own : (s z : Knowledge) (v u : ℕ) (at : List ℕ) → (b : Building th judge c s z v u at) → z.own ≡ s.own ++ (Fetch c None v ∷ Claim (200 + c) u ∷ build_event (200 + c) u (judge.refusal at) ∷ [])
  building_own s z v u at b =
      let one = Fetch c None v ∷ [] in
      let two = Claim (200 + c) u ∷ [] in
      let three = build_event (200 + c) u (judge.refusal at) ∷ [] in
      b.builds.own_is ∙ (ap (λ x. x ++ three) (b.claims.own_is ∙ ap (λ x. x ++ two) b.fetches.own_is) ∙ (append_assoc (s.own ++ one) two three ∙ append_assoc s.own one (two ++ three)))

  -- ---- one call

  -- an eager client whose read is that of its line before keeps its variant
  pub keeps : (before : Option How) (j v w : ℕ) (s z : Knowledge) → patient ≡ false → ((before ≡ Some (Fresh v w)) ⊎ (before ≡ Some (Kept v w))) → ReadNews s z w → Called th judge c patient machine before j (Kept v w) s z
  keeps before j v w s z eager shows r = record {
    gained = record { events = []; reads = w ∷ [] };
    own_are = r.own_is ∙ sym (append-nil s.own);
    reads_are = r.reads_are;
    begins = subst (λ (x : List Event). IsPrefix s.seen x) (sym r.seen_is) (prefix_self s.seen);
    known = λ k. (ap (λ x. is_legal th x) r.seen_is ∙ k.0, ap (λ x. events_by c x) r.seen_is ∙ (k.1 ∙ sym r.own_is));
    does = (eager, shows, refl, refl);
  }

  compared_reads : (before : Option How) (s z : Knowledge) (reads : List ℕ) → Compared patient before s z reads → ReadsOther (news_compared patient before) reads
  compared_reads before s z reads (nothing e same none) = rw e none
  compared_reads before s z reads (differs r w e other n one) = rw e (r, one, other)

  compared_own : (before : Option How) (s z : Knowledge) (reads : List ℕ) → Compared patient before s z reads → (z.own ≡ s.own) × (z.seen ≡ s.seen) × (z.reads ≡ s.reads ++ reads)
  compared_own before s z reads (nothing e same none) = (ap (λ (x : Knowledge). x.own) same, ap (λ (x : Knowledge). x.seen) same, ap (λ (x : Knowledge). x.reads) same ∙ (sym (append-nil s.reads) ∙ ap (λ x. s.reads ++ x) (sym none)))
  compared_own before s z reads (differs r w e other n one) = (n.own_is, n.seen_is, n.reads_are ∙ ap (λ x. s.reads ++ x) (sym one))

  does_of : (before : Option How) (own h : List Event) (j : ℕ) (how : How) (g : Gained) → ReadsOther (news_compared patient before) g.reads → Turns th judge c patient machine own h j how g.events → CallDoes th judge c patient machine before own h j how g
  does_of before own h j (Trial t) g r t' = (r, t')
  does_of before own h j (Fresh v w) g r t' = (r, t')
  does_of before own h j (Kept v w) g r (at_once a m) = absurd a
  does_of before own h j (Kept v w) g r (built x u last p e a) = absurd a

  -- from the turns after the read
  pub called : (before : Option How) (j : ℕ) (how : How) (s y z : Knowledge) (reads es : List _) → Compared patient before s y reads → z.own ≡ y.own ++ es → z.reads ≡ y.reads → IsPrefix y.seen z.seen → IsKnown th c z → Turns th judge c patient machine y.own z.seen j how es → Called th judge c patient machine before j how s z
  called before j how s y z reads es m o r p w t =
      let k = compared_own before s y reads m in
      record {
        gained = record { events = es; reads = reads };
        own_are = o ∙ ap (λ x. x ++ es) k.0;
        reads_are = r ∙ k.2;
        begins = subst (λ (x : List Event). IsPrefix x z.seen) k.1 p;
        known = λ q. w;
        does = does_of before s.own z.seen j how (record { events = es; reads = reads }) (compared_reads before s y reads m) (subst (λ (x : List Event). Turns th judge c patient machine x z.seen j how es) k.0 t);
      }

  -- one fetch that gave the current version, where the client may stay with it
  pub stays_current : (before : Option How) (j v w : ℕ) (s y z : Knowledge) (h : List Event) (reads : List ℕ) → patient ≡ false → Compared patient before s y reads → TookTurn th c y z h (Fetch c None v ∷ []) → news h ≡ w → Called th judge c patient machine before j (Fresh v w) s z
  stays_current before j v w s y z h reads eager m t e =
      called before j (Fresh v w) s y z reads (Fetch c None v ∷ []) m t.own_is t.reads_are (seen_seen y z h _ t) t.known
      (at_once (current y z h j v w z.seen t e (prefix_self z.seen)) (rw eager tt))

  -- the same of a patient client whose claim then met no open trial
  pub meets_none : (before : Option How) (j v w : ℕ) (s y x z : Knowledge) (h k : List Event) (reads : List ℕ) → Compared patient before s y reads → TookTurn th c y x h (Fetch c None v ∷ []) → news h ≡ w → TookTurn th c x z k [] → claim_gives th k ≡ None → Called th judge c patient machine before j (Fresh v w) s z
  meets_none before j v w s y x z h k reads m t e t' none =
      let own : z.own ≡ y.own ++ Fetch c None v ∷ [] = t'.own_is ∙ (append-nil x.own ∙ t.own_is) in
      let met : MetNoneOpen th c (y.own ++ Fetch c None v ∷ []) z.seen = (k, met_seen x z k [] t', t'.own ∙ t.own_is, none) in
      called before j (Fresh v w) s y z reads (Fetch c None v ∷ []) m own (t'.reads_are ∙ t.reads_are) (prefix_trans y.seen x.seen z.seen (seen_seen y x h _ t) (seen_seen x z k _ t')) t'.known
      (at_once (current y x h j v w z.seen t e (seen_seen x z k _ t')) (stay patient met))
    where
      stay : (b : Bool) → MetNoneOpen th c (y.own ++ Fetch c None v ∷ []) z.seen → MayStay th judge c patient machine b (Fresh v w) (y.own ++ Fetch c None v ∷ []) z.seen
      stay true q = q
      stay false q = tt

  -- a fetch that gave a trial, and its report
  pub measures : (before : Option How) (j t l : ℕ) (s y x z : Knowledge) (h k : List Event) (reads : List ℕ) → Compared patient before s y reads → TookTurn th c y x h (Fetch c (Some t) 0 ∷ []) → fetch_gives th h c ≡ Some t → judge.refusal (point th h t) ≡ None →
      TookTurn th c x z k (Report c t j (judge.cost machine (point th h t)) l ∷ []) → Called th judge c patient machine before j (Trial t) s z
  measures before j t l s y x z h k reads m a gives none b =
      let rep = Report c t j (judge.cost machine (point th h t)) l ∷ [] in
      let es = Fetch c (Some t) 0 ∷ rep in
      called before j (Trial t) s y z reads es m (b.own_is ∙ (ap (λ q. q ++ rep) a.own_is ∙ append_assoc y.own (Fetch c (Some t) 0 ∷ []) rep)) (b.reads_are ∙ a.reads_are)
      (prefix_trans y.seen x.seen z.seen (seen_seen y x h _ a) (seen_seen x z k _ b)) b.known
      (at_once (trial y x z h k j t l a gives none b) (free patient))
    where
      free : (b : Bool) → MayStay th judge c patient machine b (Trial t) (y.own ++ Fetch c (Some t) 0 ∷ Report c t j (judge.cost machine (point th h t)) l ∷ []) z.seen
      free true = tt
      free false = tt

  -- the two ways on after a build: the second fetch gave the current version, or a trial
  pub builds_then_current : (before : Option How) (j v u v' w : ℕ) (at : List ℕ) (s y x z : Knowledge) (h : List Event) (reads : List ℕ) → patient ≡ true → Compared patient before s y reads → Building th judge c y x v u at → TookTurn th c x z h (Fetch c None v' ∷ []) → news h ≡ w → Called th judge c patient machine before j (Fresh v' w) s z
  builds_then_current before j v u v' w at s y x z h reads p m b t e =
      let first = Fetch c None v ∷ Claim (200 + c) u ∷ build_event (200 + c) u (judge.refusal at) ∷ [] in
      let last = Fetch c None v' ∷ [] in
      let after = seen_seen x z h _ t in
      let is = building_is y x v u at z.seen b after t.known.0 in
      let own = building_own y x v u at b in
      let a : Answered th judge c patient machine x.own z.seen j (Fresh v' w) last = current x z h j v' w z.seen t e (prefix_self z.seen) in
      called before j (Fresh v' w) s y z reads (first ++ last) m (t.own_is ∙ (ap (λ q. q ++ last) own ∙ append_assoc y.own first last)) (t.reads_are ∙ (b.builds.reads_are ∙ (b.claims.reads_are ∙ b.fetches.reads_are)))
      (prefix_trans y.seen x.seen z.seen (begins_of b) after) t.known
      (built v u last p (ap (λ q. q ++ last) is) (subst (λ (q : List Event). Answered th judge c patient machine q z.seen j (Fresh v' w) last) (own ∙ ap (λ q. y.own ++ q) is) a))
    where
      begins_of : Building th judge c y x v u at → IsPrefix y.seen x.seen
      begins_of b = prefix_trans y.seen b.first.seen x.seen (seen_seen y b.first b.h _ b.fetches) (prefix_trans b.first.seen b.second.seen x.seen (seen_seen b.first b.second b.k _ b.claims) (seen_seen b.second x b.l _ b.builds))

  pub builds_then_measures : (before : Option How) (j v u t l : ℕ) (at : List ℕ) (s y x q z : Knowledge) (h k : List Event) (reads : List ℕ) → patient ≡ true → Compared patient before s y reads → Building th judge c y x v u at → TookTurn th c x q h (Fetch c (Some t) 0 ∷ []) → fetch_gives th h c ≡ Some t → judge.refusal (point th h t) ≡ None →
      TookTurn th c q z k (Report c t j (judge.cost machine (point th h t)) l ∷ []) → Called th judge c patient machine before j (Trial t) s z
  builds_then_measures before j v u t l at s y x q z h k reads p m b f gives none r =
      let first = Fetch c None v ∷ Claim (200 + c) u ∷ build_event (200 + c) u (judge.refusal at) ∷ [] in
      let rep = Report c t j (judge.cost machine (point th h t)) l ∷ [] in
      let last = Fetch c (Some t) 0 ∷ rep in
      let after = prefix_trans x.seen q.seen z.seen (seen_seen x q h _ f) (seen_seen q z k _ r) in
      let is = building_is y x v u at z.seen b after r.known.0 in
      let own = building_own y x v u at b in
      let a = trial x q z h k j t l f gives none r in
      let own_last : z.own ≡ x.own ++ last = r.own_is ∙ (ap (λ o. o ++ rep) f.own_is ∙ append_assoc x.own (Fetch c (Some t) 0 ∷ []) rep) in
      called before j (Trial t) s y z reads (first ++ last) m (own_last ∙ (ap (λ o. o ++ last) own ∙ append_assoc y.own first last)) (r.reads_are ∙ (f.reads_are ∙ (b.builds.reads_are ∙ (b.claims.reads_are ∙ b.fetches.reads_are))))
      (prefix_trans y.seen x.seen z.seen (begins_of b) after) r.known
      (built v u last p (ap (λ o. o ++ last) is) (subst (λ (o : List Event). Answered th judge c patient machine o z.seen j (Trial t) last) (own ∙ ap (λ o. y.own ++ o) is) a))
    where
      begins_of : Building th judge c y x v u at → IsPrefix y.seen x.seen
      begins_of b = prefix_trans y.seen b.first.seen x.seen (seen_seen y b.first b.h _ b.fetches) (prefix_trans b.first.seen b.second.seen x.seen (seen_seen b.first b.second b.k _ b.claims) (seen_seen b.second x b.l _ b.builds))

  -- ---- one call more

  abbrev pub last_how : Option How → List Step → Option How
  last_how before [] = before
  last_how before (s ∷ ss) = last_how (Some s.how) ss

  pub calls_more : (before : Option How) (own h : List Event) (ss : List Step) (s : Step) → Calls th judge c patient machine before own h ss → CallDoes th judge c patient machine (last_how before ss) (own ++ events_of ss) h s.call s.how s.gained → Calls th judge c patient machine before own h (ss ++ s ∷ [])
  calls_more before own h [] s d e = (subst (λ (x : List Event). CallDoes th judge c patient machine before x h s.call s.how s.gained) (append-nil own) e, tt)
  calls_more before own h (x ∷ ss) s d e = (d.0, calls_more (Some x.how) (own ++ x.gained.events) h ss s d.1 (subst (λ (y : List Event). CallDoes th judge c patient machine (last_how (Some x.how) ss) y h s.call s.how s.gained) (sym (append_assoc own x.gained.events (events_of ss))) e))

  last_lines : (before : Option How) (s : Step) (ss : List Step) → last_how before (s ∷ ss) ≡ last_line (map (λ x. (x.call, x.how)) (s ∷ ss))
  last_lines before s [] = refl
  last_lines before s (t ∷ ss) = last_lines (Some s.how) t ss

  last_lines_all : (ss : List Step) → last_how None ss ≡ last_line (map (λ x. (x.call, x.how)) ss)
  last_lines_all [] = refl
  last_lines_all (s ∷ ss) = last_lines None s ss

  abbrev step_line : Step → ℕ × How
  step_line x = (x.call, x.how)

  map_app : (xs ys : List Step) → map step_line (xs ++ ys) ≡ map step_line xs ++ map step_line ys
  map_app [] ys = refl
  map_app (x ∷ xs) ys = ap (λ (z : List (ℕ × How)). step_line x ∷ z) (map_app xs ys)

  pub events-append : (xs ys : List Step) → events_of (xs ++ ys) ≡ events_of xs ++ events_of ys
  events-append [] ys = refl
  events-append (x ∷ xs) ys = ap (λ z. x.gained.events ++ z) (events-append xs ys) ∙ sym (append_assoc x.gained.events (events_of xs) (events_of ys))

  pub reads-append : (xs ys : List Step) → reads_of (xs ++ ys) ≡ reads_of xs ++ reads_of ys
  reads-append [] ys = refl
  reads-append (x ∷ xs) ys = ap (λ z. x.gained.reads ++ z) (reads-append xs ys) ∙ sym (append_assoc x.gained.reads (reads_of xs) (reads_of ys))

  -- a conduct and one more call
  pub conduct_more : (lines : List (ℕ × How)) (s z : Knowledge) (j : ℕ) (how : How) → is_legal th s.seen ≡ true → events_by c s.seen ≡ s.own → Conducted th judge c patient machine s.seen lines s.own s.reads → Called th judge c patient machine (last_line lines) j how s z → Conducted th judge c patient machine z.seen (lines ++ (j, how) ∷ []) z.own z.reads
  conduct_more lines s z j how legal o d e = add (conducted_longer th judge s.seen z.seen e.begins (e.known (legal, o)).0 c patient machine lines s.own s.reads legal o d)
    where
      add : Conducted th judge c patient machine z.seen lines s.own s.reads → Conducted th judge c patient machine z.seen (lines ++ (j, how) ∷ []) z.own z.reads
      add q =
          let step : Step = record { call = j; how = how; gained = e.gained } in
          let before : last_line lines ≡ last_how None q.steps = ap last_line (sym q.lines_are) ∙ sym (last_lines_all q.steps) in
          let does = subst (λ (x : Option How). CallDoes th judge c patient machine x (events_of q.steps) z.seen j how e.gained) before (subst (λ (x : List Event). CallDoes th judge c patient machine (last_line lines) x z.seen j how e.gained) (sym q.own_are) e.does) in
          record {
            steps = q.steps ++ step ∷ [];
            lines_are = map_app q.steps (step ∷ []) ∙ ap (λ x. x ++ (j, how) ∷ []) q.lines_are;
            own_are = events-append q.steps (step ∷ []) ∙ (ap (λ x. events_of q.steps ++ x) (append-nil e.gained.events) ∙ (ap (λ x. x ++ e.gained.events) q.own_are ∙ sym e.own_are));
            reads_are = reads-append q.steps (step ∷ []) ∙ (ap (λ x. reads_of q.steps ++ x) (append-nil e.gained.reads) ∙ (ap (λ x. x ++ e.gained.reads) q.reads_are ∙ sym e.reads_are));
            calls = calls_more None [] z.seen q.steps step q.calls does;
          }

  -- the client has ended with one more turn: no read is above the news that it met
  pub ends : (lines : List (ℕ × How)) (s z : Knowledge) (h : List Event) → is_legal th s.seen ≡ true → events_by c s.seen ≡ s.own → TookTurn th c s z h [] → Conducted th judge c patient machine s.seen lines s.own s.reads → Conduct th judge c patient machine z.seen lines z.own z.reads
  ends lines s z h legal o t d =
      let own : s.own ≡ z.own = sym (t.own_is ∙ append-nil s.own) in
      let longer = conducted_longer th judge s.seen z.seen (seen_seen s z h [] t) t.known.0 c patient machine lines s.own s.reads legal o d in
      let met : z.seen ≡ h = t.seen_is ∙ append-nil h in
      record {
        so_far = subst (λ (x : List Event). Conducted th judge c patient machine z.seen lines x z.reads) own (subst (λ (x : List ℕ). Conducted th judge c patient machine z.seen lines s.own x) (sym t.reads_are) longer);
        reads_within = subst (λ (x : List Event). AllByRecursion (λ r. r ≤ news x) z.reads) (sym met) (subst (λ (x : List ℕ). AllByRecursion (λ r. r ≤ news h) x) (sym t.reads_are) t.reads_met);
      }

  -- ---- the turns from the fetch that decides on, by the line

  pub settles_eager : (before : Option How) (j : ℕ) (how : How) (s y z : Knowledge) (reads : List ℕ) → patient ≡ false → Compared patient before s y reads → Settles th judge c machine j how y z → Called th judge c patient machine before j how s z
  settles_eager before j (Trial t) s y z reads e m d = measures before j t d.3 s y d.0 z d.1 d.2 reads m d.4 d.5 d.6 d.7
  settles_eager before j (Fresh v w) s y z reads e m d = stays_current before j v w s y z d.0 reads e m d.1 d.2
  settles_eager before j (Kept v w) s y z reads e m d = absurd d

  pub settles_built : (before : Option How) (j v u : ℕ) (how : How) (at : List ℕ) (s y x z : Knowledge) (reads : List ℕ) → patient ≡ true → Compared patient before s y reads → Building th judge c y x v u at → Settles th judge c machine j how x z → Called th judge c patient machine before j how s z
  settles_built before j v u (Trial t) at s y x z reads p m b d = builds_then_measures before j v u t d.3 at s y x d.0 z d.1 d.2 reads p m b d.4 d.5 d.6 d.7
  settles_built before j v u (Fresh v' w) at s y x z reads p m b d = builds_then_current before j v u v' w at s y x z d.0 reads p m b d.1 d.2
  settles_built before j v u (Kept v' w) at s y x z reads p m b d = absurd d

-- ---- lines, one after another

-- one line more of the report: it is a line on its session, and on no other
pub lines_more : (n j : ℕ) (ls : List CallLine) (l : CallLine) → lines_from n j (ls ++ l ∷ []) ≡ lines_from n j ls ++ lines_from n (j + length ls) (l ∷ [])
lines_more n j [] l = let e : j ≡ j + 0 = omega arith in ap (λ k. lines_from n k (l ∷ [])) e
lines_more n j (x ∷ ls) l = at (eqb x.session n) (lines_more n (j + 1) ls l)
  where
    at : (b : Bool) → lines_from n (j + 1) (ls ++ l ∷ []) ≡ lines_from n (j + 1) ls ++ lines_from n (j + 1 + length ls) (l ∷ []) →
        cond b ((j, x.how) ∷ lines_from n (j + 1) (ls ++ l ∷ [])) (lines_from n (j + 1) (ls ++ l ∷ [])) ≡ cond b ((j, x.how) ∷ lines_from n (j + 1) ls) (lines_from n (j + 1) ls) ++ lines_from n (j + suc (length ls)) (l ∷ [])
    at true h = let e : j + 1 + length ls ≡ j + suc (length ls) = omega arith in ap (λ (z : List (ℕ × How)). (j, x.how) ∷ z) (h ∙ ap (λ k. lines_from n (j + 1) ls ++ lines_from n k (l ∷ [])) e)
    at false h = let e : j + 1 + length ls ≡ j + suc (length ls) = omega arith in h ∙ ap (λ k. lines_from n (j + 1) ls ++ lines_from n k (l ∷ [])) e
