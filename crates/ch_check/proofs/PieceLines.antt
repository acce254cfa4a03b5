-- The lines of pieces, by what a space tells of them.
use Rattle.std.proofs.Common.{◌≡◌, ℕ, zero, suc, ◌+◌, ℤ, List, [], ◌∷◌, ◌++◌, length, Some, Result, Ok, Err, refl, sym, ap, subst, ◌∙◌, arith, inl, append_assoc, append-nil}
use Rattle.std.specs.Prelude.{OnOk}
use Rattle.std.specs.List.{All, flat_map, range_with_len}
use Rattle.std.proofs.lemmas.Grind.{flat_map-append}
use Rattle.ch_poly.specs.Points.{first}
use Rattle.ch_space.specs.Members.{identities, last, members}
use Rattle.ch_check.specs.PieceText.{last_of, piece_line, piece_text}
use Rattle.ch_timed.specs.declared.element.Element.{Element}
use Rattle.ch_timed.specs.declared.element.Identity.{Identity}
use Rattle.ch_timed.specs.declared.element.Label.{Label}
use Rattle.ch_timed.specs.Groups.{piece}
use Rattle.ch_timed.specs.Members.{In}
use Rattle.ch_space.proofs.Membership.{in_filter}
use Rattle.ch_space.proofs.PieceNumbers.{same_lists}
use Rattle.ch_timed.specs.Vectors.{places, same_numbers}

last_is : (e : Element) (es : List Element) → last (identities (e ∷ es)) ≡ Some (last_of e es).identity
last_is e [] = refl
last_is e (f ∷ es) = last_is f es

some_same : {A : Type 0} (x y : A) → Some x ≡ Some y → x ≡ y
some_same x y h = cc

places_of : (list : List Element) (k : ℕ) (e : Element) (es : List Element) → members list k ≡ e ∷ es → places e.vector ≡ piece list k
places_of list k e es is =
    sym (same_lists (piece list k) (places e.vector) ((in_filter (λ f. same_numbers (piece list k) (places f.vector)) list e (subst (In e) (sym is) (inl refl))).1))

pub line_is : (list : List Element) (k count : ℕ) (label : Label) (ps : List ℤ) (a b : Identity) → first (identities (members list k)) ≡ Some a → last (identities (members list k)) ≡ Some b
    → All (λ e. e.identity.label ≡ label) (members list k) → count ≡ length (members list k) → ps ≡ piece list k
    → piece_text k label ps count a b ≡ piece_line k (members list k)
line_is list k count label ps a b f l m n p = by_members (members list k) refl f l m n
  where
    by_members : (ms : List Element) → members list k ≡ ms → first (identities ms) ≡ Some a → last (identities ms) ≡ Some b → All (λ e. e.identity.label ≡ label) ms → count ≡ length ms
        → piece_text k label ps count a b ≡ piece_line k ms
    by_members [] is f l m n = absurd cc
    by_members (e ∷ es) is f l m n =
        let first_is : e.identity ≡ a = some_same e.identity a f in
        let last_same : (last_of e es).identity ≡ b = some_same (last_of e es).identity b (sym (last_is e es) ∙ l) in
        let label_is : e.identity.label ≡ label = m 0 e (omega arith) in
        let places_is : places e.vector ≡ ps = places_of list k e es is ∙ sym p in
        rw (← n, ← first_is, ← last_same, ← places_is) (rw (← label_is) refl)

-- a text that was added is another one, where both are the same
pub same_added : {X E : Type 0} (r : Result X E) (old new a b : List ℕ) → a ≡ b → OnOk r (new ≡ old ++ a) → OnOk r (new ≡ old ++ b)
same_added r old new a b e h = subst (λ t. OnOk r (new ≡ old ++ t)) e h

-- two texts that were added, one behind the other
pub both_added : {X E : Type 0} (r : Result X E) (old mid new a b : List ℕ) → mid ≡ old ++ a → OnOk r (new ≡ mid ++ b) → OnOk r (new ≡ old ++ (a ++ b))
both_added (Ok x) old mid new a b f h = h ∙ ap (λ t. t ++ b) f ∙ append_assoc old a b
both_added (Err e) old mid new a b f h = tt

counting : (a n : ℕ) → range_with_len a (suc n) ≡ range_with_len a n ++ (a + n) ∷ []
counting a zero = let e : a ≡ a + 0 = omega arith in ap (λ x. x ∷ []) e
counting a (suc n) = let e : (a + 1) + n ≡ a + suc n = omega arith in ap (λ l. a ∷ l) (counting (a + 1) n ∙ ap (λ x. range_with_len (a + 1) n ++ x ∷ []) e)

counting_more : (k : ℕ) → range_with_len 0 (k + 1) ≡ range_with_len 0 k ++ k ∷ []
counting_more k = let e : k + 1 ≡ suc k = omega arith in let z : 0 + k ≡ k = omega arith in ap (range_with_len 0) e ∙ counting 0 k ∙ ap (λ x. range_with_len 0 k ++ x ∷ []) z

-- one text more
pub one_more : (f : ℕ → List ℕ) (k : ℕ) (first out new : List ℕ) → out ≡ first ++ flat_map f (range_with_len 0 k) → new ≡ out ++ f k → new ≡ first ++ flat_map f (range_with_len 0 (k + 1))
one_more f k first out new h n =
    let last : flat_map f (range_with_len 0 (k + 1)) ≡ flat_map f (range_with_len 0 k) ++ f k =
    ap (flat_map f) (counting_more k) ∙ flat_map-append f (range_with_len 0 k) (k ∷ []) ∙ ap (λ t. flat_map f (range_with_len 0 k) ++ t) (append-nil (f k)) in
    n ∙ ap (λ t. t ++ f k) h ∙ append_assoc first (flat_map f (range_with_len 0 k)) (f k) ∙ ap (λ t. first ++ t) (sym last)
