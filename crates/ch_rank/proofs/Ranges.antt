-- One more point leaves each trial in range.
use Rattle.std.proofs.Common.{◌≡◌, ℕ, suc, ◌+◌, ◌<◌, ◌≤◌, Bool, true, false, cond, List, [], ◌∷◌, ◌++◌, length, sym, ap, ◌∙◌, subst, arith, length-append}
use Rattle.std.specs.List.{All, list_any}
use Rattle.std.proofs.lemmas.List.Elements.{All-head, All-tail, All-append, All-cons, All-nil}
use Rattle.ch_rank.specs.Moves.{Point, same_point}
use Rattle.ch_rank.specs.Trials.{mark, mark_from, with_point}
use Rattle.ch_rank.specs.declared.outcome.Costed.{Costed}
use Rattle.ch_rank.specs.Search.{Game, best, best_of, below}
use Rattle.ch_rank.specs.Board.{InRange}

mark_case : (b : Bool) (t n m : ℕ) → m ≤ suc t + n → cond b (suc t) m ≤ t + suc n
mark_case true t n m h = omega arith
mark_case false t n m h = omega arith

pub mark_le : (t : ℕ) (ps : List Point) (p : Point) → mark_from t ps p ≤ t + length ps
mark_le t [] p = omega arith
mark_le t (q ∷ qs) p = mark_case (same_point q p) t (length qs) (mark_from (suc t) qs p) (mark_le (suc t) qs p)

longer_case : (b : Bool) (ps : List Point) (p : Point) → length ps ≤ length (cond b ps (ps ++ p ∷ []))
longer_case true ps p = omega arith
longer_case false ps p = omega (arith, length-append ps (p ∷ []))

pub longer : (ps : List Point) (p : Point) → length ps ≤ length (with_point ps p)
longer ps p = longer_case (list_any (same_point p) ps) ps p

trials_in : (m n : ℕ) (ts : List ℕ) → m ≤ n → All (λ t. t < m) ts → All (λ t. t < n) ts
trials_in m n [] h a = All-nil (λ t. t < n)
trials_in m n (t ∷ ts) h a = let x : t < m = All-head (λ u. u < m) t ts a in All-cons (λ u. u < n) t ts (omega arith) (trials_in m n ts h (All-tail (λ u. u < m) t ts a))

pub costed_in : (m n : ℕ) (cs : List Costed) → m ≤ n → All (λ c. c.trial < m) cs → All (λ c. c.trial < n) cs
costed_in m n [] h a = All-nil (λ c. c.trial < n)
costed_in m n (c ∷ cs) h a = let x : c.trial < m = All-head (λ u. u.trial < m) c cs a in All-cons (λ u. u.trial < n) c cs (omega arith) (costed_in m n cs h (All-tail (λ u. u.trial < m) c cs a))

pub in_range_more : (ps qs : List Point) (p : Point) (asked asked' : List ℕ) (simplex kept : List Costed) (t : ℕ) → InRange ps asked simplex kept → qs ≡ with_point ps p → mark qs p ≡ t + 1 → asked' ≡ asked ++ t ∷ [] → InRange qs asked' simplex kept
in_range_more ps qs p asked asked' simplex kept t r e m a =
    let l : length ps ≤ length qs = subst (λ (v : List Point). length ps ≤ length v) (sym e) (longer ps p) in
    let b : t < length qs = omega (arith, mark_le 0 qs p, m) in
    record {
      asked_in = subst (λ (v : List ℕ). All (λ u. u < length qs) v) (sym a) (All-append (λ u. u < length qs) asked (t ∷ []) (trials_in (length ps) (length qs) asked l r.asked_in) (All-cons (λ u. u < length qs) t [] b (All-nil (λ u. u < length qs))));
      simplex_in = costed_in (length ps) (length qs) simplex l r.simplex_in;
      kept_in = costed_in (length ps) (length qs) kept l r.kept_in;
      few = r.few;
    }

best_of_in : (n : ℕ) (b : Costed) (cs : List Costed) → b.trial < n → All (λ c. c.trial < n) cs → (best_of b cs).trial < n
best_of_in n b [] h a = h
best_of_in n b (c ∷ cs) h a = best_of_in n (cond (below c.outcome b.outcome) c b) cs (pick (below c.outcome b.outcome) n c b (All-head (λ u. u.trial < n) c cs a) h) (All-tail (λ u. u.trial < n) c cs a)
  where
    pick : (t : Bool) (n : ℕ) (c b : Costed) → c.trial < n → b.trial < n → (cond t c b).trial < n
    pick true n c b p q = p
    pick false n c b p q = q

-- the best of a row is in range, and so is a row that it leads
pub best_in : (n : ℕ) (row : List Costed) → 0 < length row → All (λ c. c.trial < n) row → (best row).trial < n
best_in n [] h a = absurd (omega arith)
best_in n (c ∷ cs) h a = best_of_in n c cs (All-head (λ u. u.trial < n) c cs a) (All-tail (λ u. u.trial < n) c cs a)

pub led_in : (n : ℕ) (simplex row : List Costed) → 0 < length simplex → All (λ c. c.trial < n) simplex → All (λ c. c.trial < n) row → All (λ c. c.trial < n) (best simplex ∷ row)
led_in n simplex row h a b = All-cons (λ c. c.trial < n) (best simplex) row (best_in n simplex h a) b

pub led_now : (points : List Point) (simplex slice row out : List Costed) (top : Costed) (g : Game) → points ≡ g.points → simplex ≡ g.simplex → 0 < length g.simplex → All (λ c. c.trial < length points) simplex → All (λ c. c.trial < length g.points) row →
    slice ≡ simplex → top ≡ best slice → out ≡ top ∷ row → All (λ c. c.trial < length points) out
led_now points simplex slice row out top g p s some a b d t o =
    let n : length points ≡ length g.points = ap (λ (ps : List Point). length ps) p in
    let m : 0 < length simplex = omega (arith, ap (λ (cs : List Costed). length cs) s) in
    let e : out ≡ best simplex ∷ row = o ∙ ap (λ (c : Costed). c ∷ row) (t ∙ ap best d) in
    let b' : All (λ c. c.trial < length points) row = subst (λ (k : ℕ). All (λ c. c.trial < k) row) (sym n) b in
    subst (λ (v : List Costed). All (λ c. c.trial < length points) v) (sym e) (led_in (length points) simplex row m a b')
