-- What is known of each session of a deck that can be checked.
use Rattle.std.proofs.Common.{◌≡◌, sym, subst, arith, ℕ, zero, suc, ◌<◌, ◌≤◌, ℤ, Bool, Option, List, [], ◌∷◌, length, get_or, map}
use Rattle.std.specs.Bool.{IsTrue}
use Rattle.std.specs.List.{list_all}
use Rattle.std.proofs.lemmas.Bool.{and_parts}
use Rattle.std.proofs.lemmas.List.{length-map}
use Rattle.ch_check.specs.Sessions.{CanCheck, fits, fits_all}
use Rattle.ch_deck.specs.Parts.{DeckParts, IsDeck}
use Rattle.ch_workload.specs.Sessions.{session_fits}
use Rattle.ch_workload.specs.Tuned.{Tuned}

each_at : {A : Type 0} (p : A → Bool) (xs : List A) (k : ℕ) (x : A) → IsTrue (list_all p xs) → k < length xs → x ≡ get_or xs k x → IsTrue (p x)
each_at p [] k x h l e = absurd (omega (arith, l))
each_at p (y ∷ ys) zero x h l e = subst (λ z. IsTrue (p z)) (sym e) (and_parts (p y) (list_all p ys) h).0
each_at p (y ∷ ys) (suc k) x h l e = each_at p ys k x (and_parts (p y) (list_all p ys) h).1 (omega (arith, l)) e

pub can_check : (deck : DeckParts) (at : Option (List ℤ)) (k : ℕ) (s : Tuned) → IsDeck deck → IsTrue (fits_all at deck)
    → k < length deck.sessions → s ≡ get_or deck.sessions k s → CanCheck deck at s
can_check deck at k s d f l e = record {
  there = each_at (session_fits (length deck.programs) deck.recipes) deck.sessions k s d.tuned l e;
  fits = each_at (fits at) deck.sessions k s f l e;
}

pub few_sessions : (deck : DeckParts) → IsDeck deck → length deck.sessions ≤ 8
few_sessions deck d =
    let named : length (map (λ (s : Tuned). s.name) deck.sessions) ≤ 8 = d.sessions.few in
    let same : length (map (λ (s : Tuned). s.name) deck.sessions) ≡ length deck.sessions = length-map deck.sessions (λ (s : Tuned). s.name) in
    omega (arith, named, same)

-- the next session, where a slice has the sessions
pub item_of : {A : Type 0} (items xs : List A) (k : ℕ) (x : A) → items ≡ xs → k < length items → x ≡ get_or items k x → (k < length xs) × (x ≡ get_or xs k x)
item_of items xs k x e l i = subst (λ ys. (k < length ys) × (x ≡ get_or ys k x)) e (l, i)

pub all_done : {A : Type 0} (items xs : List A) (k : ℕ) → items ≡ xs → length items ≤ k → length xs ≤ k
all_done items xs k e l = subst (λ ys. length ys ≤ k) e l
