-- The steps of loops over the parts of a copy.
use Rattle.std.proofs.Common.{◌≡◌, refl, sym, ap, ap₂, ◌∙◌, subst, ℕ, zero, suc, ◌+◌, ◌-◌, ◌<◌, ◌≤◌, ℤ, pos, Bool, true, false, cond, min, List, [], ◌∷◌, ◌++◌, map, length, take, drop, replicate, get_or, arith, append_assoc, append-nil, add-one}
use Rattle.std.specs.List.{filter, flat_map}
use Rattle.std.proofs.lemmas.List.{drop_all, drop_more, take_all, take_more}
use Rattle.std.proofs.lemmas.List.Elements.{filter_more}
use Rattle.ch_affine.specs.Form.{Form}
use Rattle.ch_affine.specs.Affine.{form}
use Rattle.ch_affine.specs.Negatives.{negative}
use Rattle.ch_copied.specs.Bodies.{one_variable, variables, wrapped}
use Rattle.ch_copied.specs.Plans.{Plan}
use Rattle.ch_datacopy.specs.Cells.{cell_row, cell_ties, inner_of, iterator_row, iterator_ties, kept_row, use_rows}
use Rattle.ch_datacopy.specs.Sources.{AddsCells, AreCellsOf, Source, accesses_by, forms, from_piece, sources}
use Rattle.ch_datacopy.specs.Used.{IsCellsOf, IsFit}
use Rattle.ch_datacopy.specs.declared.rows.Frame.{Frame}
use Rattle.ch_datacopy.specs.Works.{AddsMoved, AreKept, AreMoved, IsKept, IsMoved}
use Rattle.ch_datacopy.specs.declared.cells.Cells.{Cells}
use Rattle.ch_datacopy.specs.declared.uses.Way.{Way}
use Rattle.ch_nest.specs.declared.nest.Access.{Access}
use Rattle.ch_nest.specs.declared.nest.Sub as subscript
use Rattle.ch_pieces.specs.declared.candidate.Candidate.{Candidate}
use Rattle.ch_space.specs.Built.{unit, units, zeros}
use Rattle.ch_space.specs.Keeps.{places_of}
use Rattle.ch_space.specs.declared.piece.Piece.{Piece}
use Rattle.ch_timed.specs.Vectors.{shares}
use Rattle.ch_datacopy.proofs.Bodied.{variables_length}

taken : {X : Type 0} (xs : List X) (k : ℕ) (x : X) → k < length xs → x ≡ get_or xs k x → take (k + 1) xs ≡ take k xs ++ x ∷ []
taken xs k x l e = take_more xs k x l ∙ ap (λ z. take k xs ++ z ∷ []) (sym e)

dropped : {X : Type 0} (xs : List X) (k : ℕ) (x : X) → k < length xs → x ≡ get_or xs k x → drop k xs ≡ x ∷ drop (k + 1) xs
dropped xs k x l e = drop_more xs k x l ∙ ap (λ z. z ∷ drop (k + 1) xs) (sym e)

drop_many : {X : Type 0} (n : ℕ) (xs : List X) → length (drop n xs) ≡ length xs - n
drop_many zero xs = omega arith
drop_many (suc n) [] = omega arith
drop_many (suc n) (x ∷ xs) = let e = drop_many n xs in omega (arith, e)

-- subscripts modulo extents

pub wrapped_more : (subs : List subscript.Sub) (es : List ℕ) (k : ℕ) (s : subscript.Sub) (e : ℕ) (f : Form) (new next total : List subscript.Sub) → k < length subs → k < length es
    → s ≡ get_or subs k s → e ≡ get_or es k e → f ≡ s.form → new ++ wrapped (drop k subs) (drop k es) ≡ total → next ≡ new ++ record { form = f; modulus = e } ∷ []
    → next ++ wrapped (drop (k + 1) subs) (drop (k + 1) es) ≡ total
wrapped_more subs es k s e f new next total l m g h i j n =
    ap (λ z. z ++ wrapped (drop (k + 1) subs) (drop (k + 1) es)) n
    ∙ append_assoc new (record { form = f; modulus = e } ∷ []) (wrapped (drop (k + 1) subs) (drop (k + 1) es))
    ∙ ap (λ z. new ++ z) (ap (λ z. record { form = z; modulus = e } ∷ wrapped (drop (k + 1) subs) (drop (k + 1) es)) i ∙ sym (ap₂ wrapped (dropped subs k s l g) (dropped es k e m h)))
    ∙ j

pub wrapped_next : (subs : List subscript.Sub) (es : List ℕ) (k n : ℕ) (s : subscript.Sub) (e : ℕ) (f : Form) (new next total : List subscript.Sub) → n ≡ k + 1 → k < length subs → k < length es
    → s ≡ get_or subs k s → e ≡ get_or es k e → f ≡ s.form → new ++ wrapped (drop k subs) (drop k es) ≡ total → next ≡ new ++ record { form = f; modulus = e } ∷ []
    → next ++ wrapped (drop n subs) (drop n es) ≡ total
wrapped_next subs es k n s e f new next total a l m g h i j x =
    subst (λ z. next ++ wrapped (drop z subs) (drop z es) ≡ total) (sym a) (wrapped_more subs es k s e f new next total l m g h i j x)

pub wrapped_end : (subs : List subscript.Sub) (es : List ℕ) (k : ℕ) (new total : List subscript.Sub) → k ≡ min (length subs) (length es) → new ++ wrapped (drop k subs) (drop k es) ≡ total → new ≡ total
wrapped_end subs es k new total e h = sym (append-nil new) ∙ ap (λ z. new ++ z) (sym (nothing subs es k e)) ∙ h
  where
    nothing : (ss : List subscript.Sub) (ns : List ℕ) (n : ℕ) → n ≡ min (length ss) (length ns) → wrapped (drop n ss) (drop n ns) ≡ []
    nothing [] [] zero e = refl
    nothing [] [] (suc n) e = refl
    nothing [] (m ∷ ns) zero e = refl
    nothing [] (m ∷ ns) (suc n) e = refl
    nothing (s ∷ ss) [] zero e = refl
    nothing (s ∷ ss) [] (suc n) e = absurd (omega (arith, e))
    nothing (s ∷ ss) (m ∷ ns) zero e = absurd (omega (arith, e))
    nothing (s ∷ ss) (m ∷ ns) (suc n) e = nothing ss ns n (omega (arith, e))

-- variables

zeros_repeat : (n : ℕ) → zeros n ≡ replicate n (pos 0)
zeros_repeat zero = refl
zeros_repeat (suc n) = ap (λ z. pos 0 ∷ z) (zeros_repeat n)

unit_variable : (before after : ℕ) → unit before after ≡ one_variable before after
unit_variable before after = ap₂ (λ x y. form (x ++ pos 1 ∷ y) (pos 0)) (zeros_repeat before) (zeros_repeat after)

variables_take : (before k after : ℕ) (es : List ℕ) → (k + 1) + after ≡ length es
    → take (k + 1) (variables before es) ≡ take k (variables before es) ++ record { form = one_variable (before + k) after; modulus = 0 } ∷ []
variables_take before k after [] e = absurd (omega (arith, e))
variables_take before zero after (x ∷ es) e = ap₂ (λ b a. record { form = one_variable b a; modulus = 0 } ∷ []) (omega arith) (omega (arith, e))
variables_take before (suc k) after (x ∷ es) e =
    let a : suc k + 1 ≡ suc (k + 1) = omega arith in
    let b : suc before + k ≡ before + suc k = omega arith in
    ap (λ n. take n (variables before (x ∷ es))) a
    ∙ ap (λ (z : List subscript.Sub). record { form = one_variable before (length es); modulus = 0 } ∷ z)
    (variables_take (suc before) k after es (omega (arith, e)) ∙ ap (λ n. take k (variables (suc before) es) ++ record { form = one_variable n after; modulus = 0 } ∷ []) b)

pub variables_more : (before k : ℕ) (es : List ℕ) (dimensions : ℕ) (f : Form) (subs next : List subscript.Sub) → length es ≡ dimensions → k < dimensions → f ≡ unit (before + k) ((dimensions - 1) - k)
    → subs ≡ take k (variables before es) → next ≡ subs ++ record { form = f; modulus = 0 } ∷ [] → next ≡ take (k + 1) (variables before es)
variables_more before k es dimensions f subs next e l g h n =
    n ∙ ap₂ (λ z y. z ++ record { form = y; modulus = 0 } ∷ []) h (g ∙ unit_variable (before + k) ((dimensions - 1) - k))
    ∙ sym (variables_take before k ((dimensions - 1) - k) es (omega (arith, e, l)))

pub variables_end : (before k : ℕ) (es : List ℕ) (dimensions : ℕ) (subs : List subscript.Sub) → length es ≡ dimensions → dimensions ≤ k → subs ≡ take k (variables before es) → subs ≡ variables before es
variables_end before k es dimensions subs e l h = h ∙ take_all k (variables before es) (let m = variables_length before es in omega (arith, e, l, m))

pub units_more : (k count : ℕ) (fs next total : List Form) (f : Form) → k < count → f ≡ unit k ((count - 1) - k) → fs ++ units k (count - k) ≡ total → next ≡ fs ++ f ∷ [] → next ++ units (k + 1) (count - (k + 1)) ≡ total
units_more k count fs next total f l e h n =
    ap (λ z. z ++ units (k + 1) (count - (k + 1))) n
    ∙ append_assoc fs (f ∷ []) (units (k + 1) (count - (k + 1)))
    ∙ ap (λ z. fs ++ z) (step ((count - 1) - k) refl)
    ∙ h
  where
    step : (m : ℕ) → m ≡ (count - 1) - k → f ∷ units (k + 1) (count - (k + 1)) ≡ units k (count - k)
    step m g =
        let a : count - (k + 1) ≡ m = omega (arith, l, g) in
        let b : suc m ≡ count - k = omega (arith, l, g) in
        ap₂ (λ z y. z ∷ y) (e ∙ ap (unit k) (sym g)) (ap₂ units (add-one k) a) ∙ ap (units k) b

pub units_end : (k count : ℕ) (fs total : List Form) → count ≤ k → fs ++ units k (count - k) ≡ total → fs ≡ total
units_end k count fs total l h = sym (append-nil fs) ∙ ap (λ z. fs ++ z) (ap (units k) (none l)) ∙ h
  where
    none : count ≤ k → 0 ≡ count - k
    none m = omega (arith, m)

-- rows

pub iterators_more : (a m h k n : ℕ) (os : List Form) (o row : Form) (rows next total : List Form) → k < length os → n ≡ (length os - 1) - k → o ≡ get_or os k o → row ≡ iterator_row a m h k n o
    → rows ++ iterator_ties a m h k (drop k os) ≡ total → next ≡ rows ++ row ∷ negative row ∷ [] → next ++ iterator_ties a m h (k + 1) (drop (k + 1) os) ≡ total
iterators_more a m h k n os o row rows next total l c e r t x =
    ap (λ z. z ++ iterator_ties a m h (k + 1) (drop (k + 1) os)) x
    ∙ append_assoc rows (row ∷ negative row ∷ []) (iterator_ties a m h (k + 1) (drop (k + 1) os))
    ∙ ap (λ z. rows ++ z)
    (ap₂ (λ z y. z ∷ negative z ∷ y) (r ∙ ap (λ j. iterator_row a m h k j o) many) (ap (λ j. iterator_ties a m h j (drop (k + 1) os)) (add-one k))
    ∙ sym (ap (iterator_ties a m h k) (dropped os k o l e)))
    ∙ t
  where
    many : n ≡ length (drop (k + 1) os)
    many = let d = drop_many (k + 1) os in omega (arith, c, d, l)

pub iterators_end : (a m h k : ℕ) (os rows total : List Form) → length os ≤ k → rows ++ iterator_ties a m h k (drop k os) ≡ total → rows ≡ total
iterators_end a m h k os rows total l t = sym (append-nil rows) ∙ ap (λ z. rows ++ z) (sym (ap (iterator_ties a m h k) (drop_all k os l))) ∙ t

pub cells_more : (a i k n : ℕ) (fs : List Form) (f row : Form) (rows next total : List Form) → k < length fs → n ≡ (length fs - 1) - k → f ≡ get_or fs k f → row ≡ cell_row a i k n f
    → rows ++ cell_ties a i k (drop k fs) ≡ total → next ≡ rows ++ row ∷ negative row ∷ [] → next ++ cell_ties a i (k + 1) (drop (k + 1) fs) ≡ total
cells_more a i k n fs f row rows next total l c e r t x =
    ap (λ z. z ++ cell_ties a i (k + 1) (drop (k + 1) fs)) x
    ∙ append_assoc rows (row ∷ negative row ∷ []) (cell_ties a i (k + 1) (drop (k + 1) fs))
    ∙ ap (λ z. rows ++ z)
    (ap₂ (λ z y. z ∷ negative z ∷ y) (r ∙ ap (λ j. cell_row a i k j f) many) (ap (λ j. cell_ties a i j (drop (k + 1) fs)) (add-one k))
    ∙ sym (ap (cell_ties a i k) (dropped fs k f l e)))
    ∙ t
  where
    many : n ≡ length (drop (k + 1) fs)
    many = let d = drop_many (k + 1) fs in omega (arith, c, d, l)

pub cells_end : (a i k : ℕ) (fs rows total : List Form) → length fs ≤ k → rows ++ cell_ties a i k (drop k fs) ≡ total → rows ≡ total
cells_end a i k fs rows total l t = sym (append-nil rows) ∙ ap (λ z. rows ++ z) (sym (ap (cell_ties a i k) (drop_all k fs l))) ∙ t

-- uses

cells_both : (around : ℕ) (ss ts : List Source) (us vs : List Cells) → AreCellsOf around ss us → AreCellsOf around ts vs → AreCellsOf around (ss ++ ts) (us ++ vs)
cells_both around [] ts [] vs a b = b
cells_both around [] ts (u ∷ us) vs a b = absurd a
cells_both around (s ∷ ss) ts [] vs a b = absurd a
cells_both around (s ∷ ss) ts (u ∷ us) vs a b = (a.0, cells_both around ss ts us vs a.1 b)

pub adds_both : (around : ℕ) (ss ts : List Source) (old mid new : List Cells) → AddsCells around ss old mid → AddsCells around ts mid new → AddsCells around (ss ++ ts) old new
adds_both around ss ts old mid new a b = (
  a.0 ++ b.0,
  b.1 ∙ ap (λ z. z ++ b.0) a.1 ∙ append_assoc old a.0 b.0,
  cells_both around ss ts a.0 b.0 a.2 b.2,
)

from_both : (q : Piece) (xs ys : List Access) → from_piece q (xs ++ ys) ≡ from_piece q xs ++ from_piece q ys
from_both q [] ys = refl
from_both q (x ∷ xs) ys = ap (λ z. record { piece = q; access = x } ∷ z) (from_both q xs ys)

pub adds_one : (around : ℕ) (q : Piece) (xs : List Access) (k : ℕ) (a : Access) (u : Cells) (old all new : List Cells) → k < length xs → a ≡ get_or xs k a → AddsCells around (from_piece q (take k xs)) old all
    → IsCellsOf q around (forms a) u → new ≡ all ++ u ∷ [] → AddsCells around (from_piece q (take (k + 1) xs)) old new
adds_one around q xs k a u old all new l e h is n =
    subst (λ z. AddsCells around z old new) (sym (ap (from_piece q) (taken xs k a l e) ∙ from_both q (take k xs) (a ∷ [])))
    (adds_both around (from_piece q (take k xs)) (from_piece q (a ∷ [])) old all new h (u ∷ [], n, (is, tt)))

flat_both : {X Y : Type 0} (f : X → List Y) (xs ys : List X) → flat_map f (xs ++ ys) ≡ flat_map f xs ++ flat_map f ys
flat_both f [] ys = refl
flat_both f (x ∷ xs) ys = ap (λ z. f x ++ z) (flat_both f xs ys) ∙ sym (append_assoc (f x) (flat_map f xs) (flat_map f ys))

module _ (way : Way) (array : ℕ) (ours : List ℤ) (around : ℕ) where
  abbrev Chooses : Piece → Bool
  Chooses q = shares (suc around) ours (places_of q)

  sources_taken : (ps : List Piece) (k : ℕ) (q : Piece) → k < length ps → q ≡ get_or ps k q
      → sources way array ours around (take (k + 1) ps) ≡ sources way array ours around (take k ps) ++ flat_map (λ p. from_piece p (accesses_by way array p.body)) (cond (shares (suc around) ours (places_of q)) (q ∷ []) [])
  sources_taken ps k q l e =
      ap (flat_map (λ p. from_piece p (accesses_by way array p.body)))
      (filter_more (λ p. shares (suc around) ours (places_of p)) ps k q l
      ∙ ap (λ z. filter (λ p. shares (suc around) ours (places_of p)) (take k ps) ++ cond (shares (suc around) ours (places_of z)) (z ∷ []) []) (sym e))
      ∙ flat_both (λ p. from_piece p (accesses_by way array p.body)) (filter (λ p. shares (suc around) ours (places_of p)) (take k ps)) (cond (shares (suc around) ours (places_of q)) (q ∷ []) [])

  pub uses_yes : (ps : List Piece) (k : ℕ) (q : Piece) (old all new : List Cells) → k < length ps → q ≡ get_or ps k q → shares (around + 1) ours (places_of q) ≡ true
      → AddsCells around (sources way array ours around (take k ps)) old all → AddsCells around (from_piece q (accesses_by way array q.body)) all new
      → AddsCells around (sources way array ours around (take (k + 1) ps)) old new
  uses_yes ps k q old all new l e t a b =
      let s : shares (suc around) ours (places_of q) ≡ true = ap (λ n. shares n ours (places_of q)) (sym (add-one around)) ∙ t in
      subst (λ z. AddsCells around z old new)
      (sym (sources_taken ps k q l e ∙ ap (λ b. sources way array ours around (take k ps) ++ flat_map (λ p. from_piece p (accesses_by way array p.body)) (cond b (q ∷ []) [])) s
      ∙ ap (λ z. sources way array ours around (take k ps) ++ z) (append-nil (from_piece q (accesses_by way array q.body)))))
      (adds_both around (sources way array ours around (take k ps)) (from_piece q (accesses_by way array q.body)) old all new a b)

  pub uses_no : (ps : List Piece) (k : ℕ) (q : Piece) (old all : List Cells) → k < length ps → q ≡ get_or ps k q → shares (around + 1) ours (places_of q) ≡ false
      → AddsCells around (sources way array ours around (take k ps)) old all → AddsCells around (sources way array ours around (take (k + 1) ps)) old all
  uses_no ps k q old all l e t a =
      let s : shares (suc around) ours (places_of q) ≡ false = ap (λ n. shares n ours (places_of q)) (sym (add-one around)) ∙ t in
      subst (λ z. AddsCells around z old all)
      (sym (sources_taken ps k q l e ∙ ap (λ b. sources way array ours around (take k ps) ++ flat_map (λ p. from_piece p (accesses_by way array p.body)) (cond b (q ∷ []) [])) s
      ∙ append-nil (sources way array ours around (take k ps))))
      a

  pub uses_all : (ps : List Piece) (k : ℕ) (old all : List Cells) → length ps ≤ k → AddsCells around (sources way array ours around (take k ps)) old all → AddsCells around (sources way array ours around ps) old all
  uses_all ps k old all l a = subst (λ z. AddsCells around (sources way array ours around z) old all) (take_all k ps l) a

pub adds_all : (around : ℕ) (q : Piece) (xs : List Access) (k : ℕ) (old all : List Cells) → length xs ≤ k → AddsCells around (from_piece q (take k xs)) old all → AddsCells around (from_piece q xs) old all
adds_all around q xs k old all l a = subst (λ z. AddsCells around (from_piece q z) old all) (take_all k xs l) a

pub adds_none : (around : ℕ) (old : List Cells) → AddsCells around [] old old
adds_none around old = ([], sym (append-nil old), tt)

-- candidates

kept_push : (p : Plan) (qs : List Piece) (cs : List Candidate) (q : Piece) (c : Candidate) → AreKept p qs cs → IsKept p q c → AreKept p (qs ++ q ∷ []) (cs ++ c ∷ [])
kept_push p [] [] q c a b = (b, tt)
kept_push p [] (d ∷ cs) q c a b = absurd a
kept_push p (r ∷ qs) [] q c a b = absurd a
kept_push p (r ∷ qs) (d ∷ cs) q c a b = (a.0, kept_push p qs cs q c a.1 b)

-- a number that is told of each member
pub counted_at : {X : Type 0} (f : X → ℕ) (ns : List ℕ) (xs : List X) (k : ℕ) (x : X) → k < length xs → ns ≡ map f xs → x ≡ get_or xs k x → get_or ns k 0 ≡ f x
counted_at {X} f ns xs k x l e g = ap (λ z. get_or z k 0) e ∙ at_map xs k l ∙ ap f (sym g)
  where
    at_map : (ys : List X) (j : ℕ) → j < length ys → get_or (map f ys) j 0 ≡ f (get_or ys j x)
    at_map [] j m = absurd (omega (arith, m))
    at_map (y ∷ ys) zero m = refl
    at_map (y ∷ ys) (suc j) m = at_map ys j (omega (arith, m))

pub kept_more : (p : Plan) (qs : List Piece) (k : ℕ) (cs next : List Candidate) (q : Piece) (c : Candidate) → k < length qs → q ≡ get_or qs k q → AreKept p (take k qs) cs → IsKept p q c → next ≡ cs ++ c ∷ []
    → AreKept p (take (k + 1) qs) next
kept_more p qs k cs next q c l e a b n =
    subst (λ z. AreKept p z next) (sym (taken qs k q l e)) (subst (AreKept p (take k qs ++ q ∷ [])) (sym n) (kept_push p (take k qs) cs q c a b))

pub kept_all : (p : Plan) (qs : List Piece) (k : ℕ) (cs : List Candidate) → length qs ≤ k → AreKept p (take k qs) cs → AreKept p qs cs
kept_all p qs k cs l a = subst (λ z. AreKept p z cs) (take_all k qs l) a

moved_push : (p : Plan) (k n : ℕ) (us : List Cells) (cs : List Candidate) (u : Cells) (c : Candidate) → n ≡ k + length us → AreMoved p k us cs → IsMoved p n u c → AreMoved p k (us ++ u ∷ []) (cs ++ c ∷ [])
moved_push p k n [] [] u c e a b = let f : n ≡ k = omega (arith, e) in (subst (λ m. IsMoved p m u c) f b, tt)
moved_push p k n [] (d ∷ cs) u c e a b = absurd a
moved_push p k n (v ∷ us) [] u c e a b = absurd a
moved_push p k n (v ∷ us) (d ∷ cs) u c e a b = (a.0, moved_push p (suc k) n us cs u c (omega (arith, e)) a.1 b)

pub moved_more : (p : Plan) (n : ℕ) (us vs : List Cells) (old all new : List Candidate) (u : Cells) (c : Candidate) → n ≡ length us → vs ≡ us ++ u ∷ [] → AddsMoved p us old all → IsMoved p n u c → new ≡ all ++ c ∷ [] → AddsMoved p vs old new
moved_more p n us vs old all new u c e f a b g =
    subst (λ z. AddsMoved p z old new) (sym f)
    (a.0 ++ c ∷ [], g ∙ ap (λ z. z ++ c ∷ []) a.1 ∙ append_assoc old a.0 (c ∷ []), moved_push p 0 n us a.0 u c (omega (arith, e)) a.2 b)

pub moved_none : (p : Plan) (old : List Candidate) → AddsMoved p [] old old
moved_none p old = ([], sym (append-nil old), tt)

-- all rows of a use
pub rows_made : (q : Piece) (frame : Frame) (fs none first mid last rows origin : List Form) (levels : ℕ) → IsFit frame q fs → none ≡ [] → rows ≡ q.system.rows → origin ≡ q.origin → levels ≡ q.levels
    → first ≡ none ++ map (kept_row frame.around frame.cells frame.iters) rows → mid ≡ first ++ iterator_ties frame.around frame.cells ((frame.around + frame.inner) - levels) 0 origin
    → last ≡ mid ++ cell_ties frame.around frame.inner 0 fs → last ≡ use_rows q frame.around fs
rows_made q frame fs none first mid last rows origin levels fit o r g l a b c =
    c ∙ ap₂ (λ x n. x ++ cell_ties frame.around n 0 fs) (b ∙ ap₂ (λ x y. x ++ y) kept ties) fit.inner
    ∙ append_assoc (map (kept_row frame.around (length fs) (length q.origin)) q.system.rows) (iterator_ties frame.around (length fs) q.hidden 0 q.origin) (cell_ties frame.around (inner_of q frame.around) 0 fs)
  where
    kept : first ≡ map (kept_row frame.around (length fs) (length q.origin)) q.system.rows
    kept =
        a ∙ ap (λ z. z ++ map (kept_row frame.around frame.cells frame.iters) rows) o
        ∙ (λ i. map (kept_row frame.around (fit.cells i) (fit.iters i)) (r i))

    hidden : (frame.around + frame.inner) - levels ≡ q.hidden
    hidden = let x = fit.inner in let y = fit.around in omega (arith, x, y, l)

    ties : iterator_ties frame.around frame.cells ((frame.around + frame.inner) - levels) 0 origin ≡ iterator_ties frame.around (length fs) q.hidden 0 q.origin
    ties = λ i. iterator_ties frame.around (fit.cells i) (hidden i) 0 (g i)

-- one row after another, each made from one of a system's

pub mapped_more : {X Y : Type 0} (f : X → Y) (xs items : List X) (k : ℕ) (x : X) (start rows next : List Y) (y : Y) → items ≡ xs → k < length items → x ≡ get_or items k x → rows ≡ start ++ map f (take k xs) → y ≡ f x
    → next ≡ rows ++ y ∷ [] → next ≡ start ++ map f (take (k + 1) xs)
mapped_more {X} {Y} f xs items k x start rows next y i l e r g n =
    n ∙ ap₂ (λ z w. z ++ w ∷ []) r g ∙ append_assoc start (map f (take k xs)) (f x ∷ [])
    ∙ ap (λ z. start ++ z) (sym (ap (map f) here ∙ map_both f (take k xs) (x ∷ [])))
  where
    map_both : (h : X → Y) (ys zs : List X) → map h (ys ++ zs) ≡ map h ys ++ map h zs
    map_both h [] zs = refl
    map_both h (z ∷ ys) zs = ap (λ w. h z ∷ w) (map_both h ys zs)

    here : take (k + 1) xs ≡ take k xs ++ x ∷ []
    here = ap (take (k + 1)) (sym i) ∙ taken items k x l e ∙ ap (λ z. take k z ++ x ∷ []) i

pub mapped_end : {X Y : Type 0} (f : X → Y) (xs items : List X) (k : ℕ) (start rows : List Y) → items ≡ xs → length items ≤ k → rows ≡ start ++ map f (take k xs) → rows ≡ start ++ map f xs
mapped_end f xs items k start rows i l r = r ∙ ap (λ z. start ++ map f z) (take_all k xs (subst (λ z. length z ≤ k) i l))
