-- Histories that begin others.
use Rattle.std.proofs.Common.{◌≡◌, ℕ, zero, suc, ◌+◌, ◌<◌, ◌≤◌, Bool, true, false, cond, eqb, nat_lt, ◌&&◌, ◌||◌, List, [], ◌∷◌, ◌++◌, length, drop, get_or, refl, sym, ap, ◌∙◌, subst, arith, append_assoc, append-nil, length-append, ◌⊎◌, inl, inr}
use Rattle.std.specs.Prelude.{filter}
use Rattle.std.proofs.lemmas.List.Elements.{filter-append}
use Rattle.std.proofs.lemmas.List.{append_cancel_left}
use Rattle.std.proofs.lemmas.Bool.Decides.{nat_tests}
use Rattle.ch_turn.specs.History.{IsPrefix}
use Rattle.ch_session.specs.declared.event.Event.{Event}
use Rattle.ch_session.specs.History.{Theme, game, trials, may_follow, is_legal}
use Rattle.ch_session.specs.Growth.{by}
use Rattle.ch_session.proofs.Legal.{points_keep, legal_front, legal_last}
use Rattle.ch_conduct.specs.Places.{events_by, point, IsNext}

pub prefix_trans : {E : Type 0} (a b c : List E) → IsPrefix a b → IsPrefix b c → IsPrefix a c
prefix_trans a b c p q = (p.0 ++ q.0, q.1 ∙ (ap (λ z. z ++ q.0) p.1 ∙ append_assoc a p.0 q.0))

pub prefix_self : {E : Type 0} (a : List E) → IsPrefix a a
prefix_self a = ([], sym (append-nil a))

pub prefix_front : {E : Type 0} (a b : List E) → IsPrefix a (a ++ b)
prefix_front a b = (b, refl)

head_is : {E : Type 0} (x y : E) (xs ys : List E) → x ∷ xs ≡ y ∷ ys → x ≡ y
head_is x y xs ys e = ap (λ l. get_or l 0 x) e

tail_is : {E : Type 0} (x y : E) (xs ys : List E) → x ∷ xs ≡ y ∷ ys → xs ≡ ys
tail_is x y xs ys e = ap (drop 1) e

prefix_cons : {E : Type 0} (x y : E) (xs ys : List E) → x ≡ y → IsPrefix xs ys → IsPrefix (x ∷ xs) (y ∷ ys)
prefix_cons x y xs ys e p = (p.0, (λ i. sym e i ∷ p.1 i))

-- of two lists that begin one list, one begins the other
compared : {E : Type 0} (a b s t : List E) → a ++ s ≡ b ++ t → IsPrefix a b ⊎ IsPrefix b a
compared [] b s t e = inl (b, refl)
compared (x ∷ a) [] s t e = inr (x ∷ a, refl)
compared (x ∷ a) (y ∷ b) s t e = either (compared a b s t (tail_is x y (a ++ s) (b ++ t) e))
  where
    either : IsPrefix a b ⊎ IsPrefix b a → IsPrefix (x ∷ a) (y ∷ b) ⊎ IsPrefix (y ∷ b) (x ∷ a)
    either (inl p) = inl (prefix_cons x y a b (head_is x y (a ++ s) (b ++ t) e) p)
    either (inr p) = inr (prefix_cons y x b a (sym (head_is x y (a ++ s) (b ++ t) e)) p)

pub comparable : {E : Type 0} (a b h : List E) → IsPrefix a h → IsPrefix b h → IsPrefix a b ⊎ IsPrefix b a
comparable a b h p q = compared a b p.0 q.0 (sym p.1 ∙ q.1)

pub by-append : (n : ℕ) (xs ys : List Event) → events_by n (xs ++ ys) ≡ events_by n xs ++ events_by n ys
by-append n xs ys = filter-append (λ e. eqb (by e) n) xs ys

own_grow : (n : ℕ) (a b : List Event) → IsPrefix a b → length (events_by n a) ≤ length (events_by n b)
own_grow n a b p =
    let e : length (events_by n b) ≡ length (events_by n a ++ events_by n p.0) = ap (λ z. length (events_by n z)) p.1 ∙ ap length (by-append n a p.0) in
    let l = length-append (events_by n a) (events_by n p.0) in omega arith

-- the one with fewer own events begins the other
pub fewer_first : (n : ℕ) (a b h : List Event) → IsPrefix a h → IsPrefix b h → length (events_by n a) < length (events_by n b) → IsPrefix a b
fewer_first n a b h p q l = either (comparable a b h p q)
  where
    either : IsPrefix a b ⊎ IsPrefix b a → IsPrefix a b
    either (inl r) = r
    either (inr r) = let g = own_grow n b a r in absurd (omega arith)

-- what comes after a place has the own events that come after it
pub own_rest : (n : ℕ) (g rest h : List Event) (own later : List Event) → h ≡ g ++ rest → events_by n g ≡ own → events_by n h ≡ own ++ later → events_by n rest ≡ later
own_rest n g rest h own later e o a =
    append_cancel_left own (events_by n rest) later (ap (λ z. z ++ events_by n rest) (sym o) ∙ (sym (by-append n g rest) ∙ (ap (events_by n) (sym e) ∙ a)))

-- the beginning of a legal history is legal, and a trial that has a point there keeps it
pub legal_prefix : (th : Theme) (g h : List Event) → IsPrefix g h → is_legal th h ≡ true → is_legal th g ≡ true
legal_prefix th g h p l = legal_front th g p.0 (subst (λ (v : List Event). is_legal th v ≡ true) p.1 l)

-- each event of a legal history was allowed after those before it
pub follows : (th : Theme) (h g : List Event) (e : Event) → is_legal th h ≡ true → IsPrefix (g ++ e ∷ []) h → may_follow th g e ≡ true
follows th h g e l p = legal_last th g e (legal_prefix th (g ++ e ∷ []) h p l)

pub point_stays : (th : Theme) (g h : List Event) (t : ℕ) → IsPrefix g h → is_legal th h ≡ true → t < trials th g → point th h t ≡ point th g t
point_stays th g h t p l low = ap (λ (v : List Event). point th v t) p.1 ∙ (points_keep th g p.0 (subst (λ (v : List Event). is_legal th v ≡ true) p.1 l)).same t low

pub more_trials : (th : Theme) (g h : List Event) → IsPrefix g h → is_legal th h ≡ true → trials th g ≤ trials th h
more_trials th g h p l = subst (λ (v : List Event). trials th g ≤ trials th v) (sym p.1) (points_keep th g p.0 (subst (λ (v : List Event). is_legal th v ≡ true) p.1 l)).long
