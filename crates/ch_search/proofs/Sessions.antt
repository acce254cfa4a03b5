-- Sessions with their parts, one after another.
use Rattle.std.proofs.Common.{◌≡◌, ◌∙◌, sym, ap, ap₂, subst, refl, ℕ, zero, suc, ◌+◌, ◌<◌, ◌≤◌, nat_le, Bool, List, [], ◌∷◌, ◌++◌, length, map, take, drop, get_or, append_assoc, append-nil, arith}
use Rattle.std.specs.Bool.{IsTrue}
use Rattle.std.specs.List.{list_all}
use Rattle.std.proofs.lemmas.Bool.{and_parts, leb-true}
use Rattle.std.proofs.lemmas.List.{drop_all, drop_more, length-map, take_all, take_more}
use Rattle.ch_deck.specs.Parts.{DeckParts, IsDeck}
use Rattle.ch_grid.specs.Grid.{is_within}
use Rattle.ch_judge.specs.Judged.{judged_at}
use Rattle.ch_nest.specs.CostModel.{CostModel}
use Rattle.ch_nest.specs.LoopNest.{LoopNest}
use Rattle.ch_report.specs.declared.part.SessionPart.{SessionPart}
use Rattle.ch_script.specs.Recipes.{RecipeParts}
use Rattle.ch_search.specs.Parts.{Each, IsPart}
use Rattle.ch_search.specs.Searched.{lines_of}
use Rattle.ch_subject.specs.Subjects.{machine_of, nest_of, recipe_in}
use Rattle.ch_tune.specs.Tuned.{IsTuned}
use Rattle.ch_variant.specs.Variants.{origin_at}
use Rattle.ch_workload.specs.Limits.{most_repeats}
use Rattle.ch_workload.specs.Sessions.{session_fits}
use Rattle.ch_workload.specs.Tuned.{Tuned, are_repeats, is_tuned}

-- what a test tells of each is told of the one with this number
pub all_at : {A : Type 0} (p : A → Bool) (xs : List A) (k : ℕ) (x : A) → IsTrue (list_all p xs) → k < length xs → x ≡ get_or xs k x → IsTrue (p x)
all_at p [] k x h l e = absurd (omega (arith, l))
all_at p (y ∷ ys) zero x h l e = subst (λ z. IsTrue (p z)) (sym e) (and_parts (p y) (list_all p ys) h).0
all_at p (y ∷ ys) (suc k) x h l e = all_at p ys k x (and_parts (p y) (list_all p ys) h).1 (omega (arith, l)) e

-- the session of a number, in a deck's list
module _ (deck : DeckParts) (ss : List Tuned) (i : ℕ) (is : ss ≡ deck.sessions) (l : i < length ss) where
  pub few_sessions : IsDeck deck → i < 8
  few_sessions d =
      let few = d.sessions.few in
      let long : length (map (λ (s : Tuned). s.name) deck.sessions) ≡ length deck.sessions = length-map deck.sessions (λ (s : Tuned). s.name) in
      let same : length ss ≡ length deck.sessions = ap (λ (xs : List Tuned). length xs) is in
      omega (arith, l, few, long, same)

  pub fits_there : (s : Tuned) → s ≡ get_or ss i s → IsDeck deck → IsTrue (session_fits (length deck.programs) deck.recipes s)
  fits_there s here d =
      let fits = session_fits (length deck.programs) deck.recipes in
      all_at fits ss i s (subst (λ xs. IsTrue (list_all fits xs)) (sym is) d.tuned) l here

-- how often a trial is measured
pub repeats : (s : Tuned) → IsTrue (is_tuned s) → (1 ≤ s.repeat) × (s.repeat ≤ 9)
repeats s h =
    let both = and_parts (nat_le 1 s.repeat) (nat_le s.repeat most_repeats) (and_parts (is_within s.params) (are_repeats s.repeat) h).1 in
    (leb-true 1 s.repeat both.0, leb-true s.repeat most_repeats both.1)

-- what is judged is what the session names
pub as_part : (deck : DeckParts) (k : ℕ) (s t : Tuned) (m : CostModel) (nest : LoopNest) (recipe : RecipeParts) (part : SessionPart)
    → t ≡ s → m ≡ machine_of deck.clients k → nest ≡ nest_of deck s → recipe ≡ recipe_in deck s
    → IsTuned t.params t.repeat (λ point. judged_at m nest (origin_at recipe t.params point)) part → IsPart deck k s part
as_part deck k s t m nest recipe part same machine named by tuned =
    subst (λ m. IsTuned s.params s.repeat (λ point. judged_at m (nest_of deck s) (origin_at (recipe_in deck s) s.params point)) part) machine
    (subst (λ n. IsTuned s.params s.repeat (λ point. judged_at m n (origin_at (recipe_in deck s) s.params point)) part) named
    (subst (λ r. IsTuned s.params s.repeat (λ point. judged_at m nest (origin_at r s.params point)) part) by
    (subst (λ (u : Tuned). IsTuned u.params u.repeat (λ point. judged_at m nest (origin_at recipe u.params point)) part) same tuned)))

module _ (P : ℕ → Tuned → SessionPart → Type 0) where
  each_push : (k : ℕ) (ss : List Tuned) (parts : List SessionPart) (s : Tuned) (part : SessionPart) → Each P k ss parts → P (k + length ss) s part
      → Each P k (ss ++ s ∷ []) (parts ++ part ∷ [])
  each_push k [] [] s part e p = let n : k + 0 ≡ k = omega arith in (subst (λ j. P j s part) n p, tt)
  each_push k [] (q ∷ qs) s part e p = absurd e
  each_push k (t ∷ ts) [] s part e p = absurd e
  each_push k (t ∷ ts) (q ∷ qs) s part e p =
      let n : k + suc (length ts) ≡ suc k + length ts = omega arith in
      (e.0, each_push (suc k) ts qs s part e.1 (subst (λ j. P j s part) n p))

  -- one session more
  pub each_more : (ss : List Tuned) (i : ℕ) (s : Tuned) (parts next : List SessionPart) (part : SessionPart) → i < length ss → s ≡ get_or ss i s
      → Each P 0 (take i ss) parts → P i s part → next ≡ parts ++ part ∷ [] → Each P 0 (take (i + 1) ss) next
  each_more ss i s parts next part l is each p pushed =
      let long : 0 + length (take i ss) ≡ i = omega (arith, taken ss i l) in
      let more : take (i + 1) ss ≡ take i ss ++ s ∷ [] = take_more ss i s l ∙ ap (λ x. take i ss ++ x ∷ []) (sym is) in
      subst (λ xs. Each P 0 xs next) (sym more)
      (subst (Each P 0 (take i ss ++ s ∷ [])) (sym pushed) (each_push 0 (take i ss) parts s part each (subst (λ j. P j s part) (sym long) p)))
    where
      taken : {A : Type 0} (xs : List A) (n : ℕ) → n < length xs → length (take n xs) ≡ n
      taken [] n l = absurd (omega (arith, l))
      taken (x ∷ xs) zero l = refl
      taken (x ∷ xs) (suc n) l = ap suc (taken xs n (omega (arith, l)))

  -- all sessions
  pub each_all : (ss all : List Tuned) (i : ℕ) (parts : List SessionPart) → length ss ≤ i → ss ≡ all → Each P 0 (take i ss) parts → Each P 0 all parts
  each_all ss all i parts l is each = subst (λ xs. Each P 0 xs parts) (take_all i ss l ∙ is) each

  pub each_long : (k : ℕ) (ss : List Tuned) (parts : List SessionPart) → Each P k ss parts → length ss ≡ length parts
  each_long k [] [] e = refl
  each_long k [] (q ∷ qs) e = absurd e
  each_long k (t ∷ ts) [] e = absurd e
  each_long k (t ∷ ts) (q ∷ qs) e = ap suc (each_long (suc k) ts qs e.1)

  pub each_at : (k : ℕ) (ss : List Tuned) (parts : List SessionPart) (i : ℕ) (s : Tuned) (part : SessionPart) → Each P k ss parts → i < length ss
      → s ≡ get_or ss i s → part ≡ get_or parts i part → P (k + i) s part
  each_at k [] parts i s part e l is its = absurd (omega (arith, l))
  each_at k (t ∷ ts) [] i s part e l is its = absurd e
  each_at k (t ∷ ts) (q ∷ qs) zero s part e l is its =
      let n : k + 0 ≡ k = omega arith in
      subst (λ j. P j s part) (sym n) (subst (λ x. P k x part) (sym is) (subst (P k t) (sym its) e.0))
  each_at k (t ∷ ts) (q ∷ qs) (suc i) s part e l is its =
      let n : suc k + i ≡ k + suc i = omega arith in
      subst (λ j. P j s part) n (each_at (suc k) ts qs i s part e.1 (omega (arith, l)) is its)

-- the lines of one session more
pub lines_more : (line : Tuned → SessionPart → List ℕ) (ss : List Tuned) (parts : List SessionPart) (i : ℕ) (s : Tuned) (part : SessionPart) (out next whole : List ℕ)
    → i < length ss → i < length parts → s ≡ get_or ss i s → part ≡ get_or parts i part → next ≡ out ++ line s part
    → out ++ lines_of line (drop i ss) (drop i parts) ≡ whole → next ++ lines_of line (drop (i + 1) ss) (drop (i + 1) parts) ≡ whole
lines_more line ss parts i s part out next whole l m is its added h =
    let here : drop i ss ≡ s ∷ drop (i + 1) ss = drop_more ss i s l ∙ ap (λ x. x ∷ drop (i + 1) ss) (sym is) in
    let there : drop i parts ≡ part ∷ drop (i + 1) parts = drop_more parts i part m ∙ ap (λ x. x ∷ drop (i + 1) parts) (sym its) in
    let rest : List ℕ = lines_of line (drop (i + 1) ss) (drop (i + 1) parts) in
    ap (λ o. o ++ rest) added ∙ append_assoc out (line s part) rest
    ∙ ap₂ (λ xs ys. out ++ lines_of line xs ys) (sym here) (sym there) ∙ h

-- and of all
pub lines_all : (line : Tuned → SessionPart → List ℕ) (ss : List Tuned) (parts : List SessionPart) (i : ℕ) (out whole : List ℕ) → length ss ≤ i
    → out ++ lines_of line (drop i ss) (drop i parts) ≡ whole → out ≡ whole
lines_all line ss parts i out whole l h =
    sym (append-nil out) ∙ ap (λ xs. out ++ lines_of line xs (drop i parts)) (sym (drop_all i ss l)) ∙ h
