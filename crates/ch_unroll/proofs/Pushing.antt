-- Candidates pushed one after another.
use Rattle.std.proofs.Common.{◌≡◌, refl, sym, ap, ◌∙◌, subst, ℕ, suc, ◌+◌, ◌*◌, ◌<◌, ◌≤◌, ℤ, Bool, true, false, Result, Ok, Err, IfOk, OnOk, List, [], ◌∷◌, ◌++◌, length, take, get_or, arith, append-nil, append_assoc, length-append}
use Rattle.std.proofs.lemmas.List.{take_more}
use Rattle.ch_pieces.specs.declared.candidate.Candidate.{Candidate}
use Rattle.ch_space.specs.declared.piece.Piece.{Piece}
use Rattle.ch_space.specs.Keeps.{places_of}
use Rattle.ch_timed.specs.Vectors.{shares}
use Rattle.ch_unroll.specs.declared.layout.Layout.{Layout}
use Rattle.ch_unroll.specs.Copies.{AllBecome, AreTurns, Becomes, IsCopy, IsTurn, PushesOn}

-- the turns of the first k remainders stand behind the others
pub record TurnsSoFar (u : Layout) (p : Piece) (k : ℕ) (old now : List Candidate) : Type 0 where
  pub more : List Candidate
  pub behind : now ≡ old ++ more
  pub many : length more ≡ k
  pub are : AreTurns u p 0 more

pub no_turns : (u : Layout) (p : Piece) (old : List Candidate) → TurnsSoFar u p 0 old old
no_turns u p old = record { more = []; behind = sym (append-nil old); many = refl; are = tt }

turns_push : (u : Layout) (p : Piece) (j r : ℕ) (cs : List Candidate) (c : Candidate) → j + length cs ≡ r → AreTurns u p j cs → IsTurn u p r c → AreTurns u p j (cs ++ c ∷ [])
turns_push u p j r [] c e a t = (subst (λ n. IsTurn u p n c) (omega arith) t, tt)
turns_push u p j r (d ∷ cs) c e a t = (a.0, turns_push u p (suc j) r cs c (omega arith) a.1 t)

pub next_turns : (u : Layout) (p : Piece) (k : ℕ) (old now next : List Candidate) (c : Candidate) → TurnsSoFar u p k old now → IsTurn u p k c → next ≡ now ++ c ∷ [] → TurnsSoFar u p (k + 1) old next
next_turns u p k old now next c s t e =
    let m = s.many in
    record {
      more = s.more ++ c ∷ [];
      behind = e ∙ ap (λ z. z ++ c ∷ []) s.behind ∙ append_assoc old s.more (c ∷ []);
      many = let n = length-append s.more (c ∷ []) in omega arith;
      are = turns_push u p 0 k s.more c (omega arith) s.are t;
    }

pub all_turns : (u : Layout) (p : Piece) (k : ℕ) (old now : List Candidate) → k ≡ u.amount → TurnsSoFar u p k old now → PushesOn (Becomes true u p) old now
all_turns u p k old now e s = record { more = s.more; behind = s.behind; are = record { many = s.many ∙ e; are = s.are } }

pub one_copy : (u : Layout) (p : Piece) (b : Bool) (old now : List Candidate) (c : Candidate) → b ≡ false → IsCopy p c → now ≡ old ++ c ∷ [] → PushesOn (Becomes b u p) old now
one_copy u p b old now c f h e =
    record { more = c ∷ []; behind = e; are = subst (λ t. Becomes t u p (c ∷ [])) (sym f) (record { one = c; is = refl; copy = h }) }

-- piece by piece

more_become : (u : Layout) (ours : List ℤ) (ps : List Piece) (p : Piece) (cs more : List Candidate) → AllBecome u ours ps cs → Becomes (shares u.level ours (places_of p)) u p more → AllBecome u ours (ps ++ p ∷ []) (cs ++ more)
more_become u ours [] p cs more a b = record { first = more; rest = []; is = ap (λ z. z ++ more) a ∙ sym (append-nil more); are = b; rest_are = refl }
more_become u ours (q ∷ ps) p cs more a b =
    record { first = a.first; rest = a.rest ++ more; is = ap (λ z. z ++ more) a.is ∙ append_assoc a.first a.rest more; are = a.are; rest_are = more_become u ours ps p a.rest more a.rest_are b }

pub next_become : (u : Layout) (ours : List ℤ) (ps : List Piece) (now next : List Candidate) (k : ℕ) (p : Piece) (t : Bool) → k < length ps → p ≡ get_or ps k p → t ≡ shares u.level ours (places_of p) → AllBecome u ours (take k ps) now
    → PushesOn (Becomes t u p) now next → AllBecome u ours (take (k + 1) ps) next
next_become u ours ps now next k p t l is e a b =
    let f : take (k + 1) ps ≡ take k ps ++ p ∷ [] = take_more ps k p l ∙ ap (λ x. take k ps ++ x ∷ []) (sym is) in
    subst (AllBecome u ours (take (k + 1) ps)) (sym b.behind)
    (subst (λ z. AllBecome u ours z (now ++ b.more)) (sym f) (more_become u ours (take k ps) p now b.more a (subst (λ z. Becomes z u p b.more) e b.are)))

-- how many there are

few_by : (b : Bool) (u : Layout) (p : Piece) (cs : List Candidate) → 1 ≤ u.amount → Becomes b u p cs → length cs ≤ u.amount
few_by true u p cs some h = let m = h.many in omega arith
few_by false u p cs some h = let e = ap length h.is in omega arith

pub few_candidates : (u : Layout) (ours : List ℤ) (ps : List Piece) (cs : List Candidate) → 1 ≤ u.amount → u.amount ≤ 32 → AllBecome u ours ps cs → length cs ≤ length ps * 32
few_candidates u ours [] cs some few h = let e = ap length h in omega arith
few_candidates u ours (p ∷ ps) cs some few h =
    let e = ap length h.is in
    let a = length-append h.first h.rest in
    let f = few_by (shares u.level ours (places_of p)) u p h.first some h.are in
    let r = few_candidates u ours ps h.rest some few h.rest_are in
    omega arith

pub push_copy : {X E : Type 0} (r : Result X E) (u : Layout) (p : Piece) (b : Bool) (old now : List Candidate) (c : Candidate) → b ≡ false → IsCopy p c → OnOk r (now ≡ old ++ c ∷ []) → OnOk r (PushesOn (Becomes b u p) old now)
push_copy (Ok x) u p b old now c f h e = one_copy u p b old now c f h e
push_copy (Err x) u p b old now c f h e = tt

pub if_ok_more : {X E : Type 0} (r : Result X E) (P Q : X → Type 0) → ((x : X) → P x → Q x) → IfOk r P → IfOk r Q
if_ok_more (Ok x) P Q f h = f x h
if_ok_more (Err e) P Q f h = tt
