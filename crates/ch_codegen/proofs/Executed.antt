-- What runs, loops and statements execute, by the pieces that they come from.
use Rattle.std.proofs.Common.{◌≡◌, refl, sym, ap, ◌∙◌, subst, ℕ, zero, suc, ◌≤◌, ◌<◌, ℤ, pos, ◌+ℤ◌, ◌-ℤ◌, ◌≤ℤ◌, ◌<ℤ◌, Bool, true, false, List, [], ◌∷◌, ◌++◌, length, take, get_or, ◌⊎◌, inl, inr, arith, append-nil, append_assoc, length-append, length-take-le}
use Rattle.std.proofs.lemmas.Int.{ints}
use Rattle.ch_affine.specs.declared.system.Range.{Range}
use Rattle.ch_code.specs.Trace.{Traced, guarded, turns_listed}
use Rattle.ch_nest.specs.Run.{count}
use Rattle.ch_poly.specs.Points.{begins_some, natural}
use Rattle.ch_poly.proofs.Firsts.{natural_is}
use Rattle.ch_space.specs.declared.piece.Piece.{Piece}
use Rattle.ch_space.specs.Pieces.{element_at, instances}
use Rattle.ch_timed.specs.declared.element.Element.{Element}
use Rattle.ch_timed.specs.Members.{Each, In}
use Rattle.ch_codegen.specs.Parts.{Ascends, End, InRanges, IsAmong, IsEarlier, IsTurn, Lists, looped, Together, Precedes, AllPrecede}
use Rattle.ch_codegen.specs.Around.{Keeps}
use Rattle.ch_codegen.proofs.Inside.{in_append, append_left, append_right, length_inside, instance_inside, inside_instance, begun_inside}
use Rattle.ch_codegen.proofs.Vectors.{place_less, end_less, turn_less}

-- what a piece's type and its space's keep, as far as code needs it
pub record IsFit (p : Piece) : Type 0 where
  pub places : length p.places ≡ suc p.levels
  pub boxes : p.levels ≤ length p.system.boxes

abbrev pub AreFit : List Piece → Type 0
AreFit ps = (p : Piece) → In p ps → IsFit p

pub each_in : {X : Type 0} (P : X → Type 0) (xs : List X) → ((x : X) → In x xs → P x) → Each P xs
each_in P [] h = tt
each_in P (x ∷ xs) h = (h x (inl refl), each_in P xs (λ y i. h y (inr i)))

pub each_join : {X : Type 0} (P : X → Type 0) (xs ys : List X) → Each P xs → Each P ys → Each P (xs ++ ys)
each_join P [] ys a b = b
each_join P (x ∷ xs) ys a b = (a.0, each_join P xs ys a.1 b)

ascends_both : (xs ys : List Element) → Ascends xs → Ascends ys → Each (λ e. Each (IsEarlier e) ys) xs → Ascends (xs ++ ys)
ascends_both [] ys a b h = b
ascends_both (x ∷ xs) ys a b h = (each_join (IsEarlier x) xs ys a.0 h.0, ascends_both xs ys a.1 b h.1)

levels_of : (p : Piece) (xs : List ℤ) → IsFit p → In xs (instances p) → length xs ≡ p.levels
levels_of p xs f i = length_inside (take p.levels p.system.boxes) xs (instance_inside p xs i).0 ∙ length-take-le p.levels p.system.boxes f.boxes

pub lists_same : (P : List ℤ → Type 0) (M : List ℤ → Element → Type 0) (t s : Traced) → ((xs : List ℤ) → P xs → t xs ≡ s xs) → Lists P M t → Lists P M s
lists_same P M t s same a = record {
  ascends = λ xs h. subst Ascends (same xs h) (a.ascends xs h);
  only = λ xs e h i. a.only xs e h (subst (In e) (sym (same xs h)) i);
  each = λ xs e h m. subst (In e) (same xs h) (a.each xs e h m);
}

-- of other elements, which are the same ones
pub lists_other : (P : List ℤ → Type 0) (M N : List ℤ → Element → Type 0) (t : Traced) → ((xs : List ℤ) (e : Element) → P xs → M xs e → N xs e)
    → ((xs : List ℤ) (e : Element) → P xs → N xs e → M xs e) → Lists P M t → Lists P N t
lists_other P M N t to from a = record {
  ascends = a.ascends;
  only = λ xs e h i. to xs e h (a.only xs e h i);
  each = λ xs e h m. a.each xs e h (from xs e h m);
}

-- nothing where there is no such element
pub lists_none : (P : List ℤ → Type 0) (M : List ℤ → Element → Type 0) → ((xs : List ℤ) (e : Element) → P xs → M xs e → ⊥) → Lists P M (λ xs. [])
lists_none P M none = record { ascends = λ xs h. tt; only = λ xs e h i. absurd i; each = λ xs e h m. absurd (none xs e h m) }

-- one after the other
pub lists_both : (P : List ℤ → Type 0) (M N : List ℤ → Element → Type 0) (t s : Traced) → ((xs : List ℤ) (e d : Element) → P xs → M xs e → N xs d → IsEarlier e d)
    → Lists P M t → Lists P N s → Lists P (λ xs e. M xs e ⊎ N xs e) (λ xs. t xs ++ s xs)
lists_both P M N t s earlier a b = record {
  ascends = λ xs h. ascends_both (t xs) (s xs) (a.ascends xs h) (b.ascends xs h)
      (each_in (λ e. Each (IsEarlier e) (s xs)) (t xs) (λ e i. each_in (IsEarlier e) (s xs) (λ d j. earlier xs e d h (a.only xs e h i) (b.only xs d h j))));
  only = λ xs e h i. elim (in_append (t xs) (s xs) e i) as (λ _. M xs e ⊎ N xs e) [
    | inl j ↦ inl (a.only xs e h j)
    | inr j ↦ inr (b.only xs e h j)
  ];
  each = λ xs e h m. elim m as (λ _. In e (t xs ++ s xs)) [
    | inl j ↦ append_left (t xs) (s xs) e (a.each xs e h j)
    | inr j ↦ append_right (t xs) (s xs) e (b.each xs e h j)
  ];
}

precedes_earlier : (p q : Piece) (xs ys zs : List ℤ) → IsFit p → IsFit q → In (xs ++ ys) (instances p) → In (xs ++ zs) (instances q) → length xs ≤ p.levels
    → take (length xs) p.places ≡ take (length xs) q.places → Precedes (length xs) p q → IsEarlier (element_at p (xs ++ ys)) (element_at q (xs ++ zs))
precedes_earlier p q xs ys zs f g i j l same (inl k) =
    let m = levels_of p (xs ++ ys) f i in
    let n = levels_of q (xs ++ zs) g j in
    end_less p.places q.places xs ys zs same (f.places ∙ ap suc k.0) (omega (arith, m, length-append xs ys, k.0)) (g.places ∙ ap suc (sym n)) k.1
precedes_earlier p q xs ys zs f g i j l same (inr k) = place_less p.places q.places xs ys zs same (omega (arith, f.places, l)) k

-- the code of some pieces, and then that of others that they precede
pub lists_runs : (d : ℕ) (P : List ℤ → Type 0) (ps qs : List Piece) (t s : Traced) → ((xs : List ℤ) → P xs → length xs ≡ d) → AreFit ps → AreFit qs → ((p : Piece) → In p ps → d ≤ p.levels)
    → ((p q : Piece) → In p ps → In q qs → take d p.places ≡ take d q.places) → AllPrecede d ps qs
    → Lists P (IsAmong ps) t → Lists P (IsAmong qs) s → Lists P (IsAmong (ps ++ qs)) (λ xs. t xs ++ s xs)
lists_runs d P ps qs t s long f g deep same before a b = lists_other P _ (IsAmong (ps ++ qs)) _ to from (lists_both P (IsAmong ps) (IsAmong qs) t s earlier a b)
  where
    earlier : (xs : List ℤ) (e c : Element) → P xs → IsAmong ps xs e → IsAmong qs xs c → IsEarlier e c
    earlier xs e c h m n =
        let l : d ≡ length xs = sym (long xs h) in
        let p = m.0 in
        let q = n.0 in
        let low = deep p m.1.0 in
        subst (λ z. IsEarlier z c) m.1.1.1.1 (subst (IsEarlier (element_at p (xs ++ m.1.1.0))) n.1.1.1.1
        (precedes_earlier p q xs m.1.1.0 n.1.1.0 (f p m.1.0) (g q n.1.0) m.1.1.1.0 n.1.1.1.0 (omega (arith, l, low))
        (subst (λ k. take k p.places ≡ take k q.places) l (same p q m.1.0 n.1.0)) (subst (λ k. Precedes k p q) l (before p q m.1.0 n.1.0))))

    to : (xs : List ℤ) (e : Element) → P xs → IsAmong ps xs e ⊎ IsAmong qs xs e → IsAmong (ps ++ qs) xs e
    to xs e h (inl m) = (m.0, (append_left ps qs m.0 m.1.0, m.1.1))
    to xs e h (inr m) = (m.0, (append_right ps qs m.0 m.1.0, m.1.1))

    from : (xs : List ℤ) (e : Element) → P xs → IsAmong (ps ++ qs) xs e → IsAmong ps xs e ⊎ IsAmong qs xs e
    from xs e h m = elim (in_append ps qs m.0 m.1.0) as (λ _. IsAmong ps xs e ⊎ IsAmong qs xs e) [
      | inl j ↦ inl (m.0, (j, m.1.1))
      | inr j ↦ inr (m.0, (j, m.1.1))
    ]

pub in_turns : (n : ℕ) (low : ℤ) (g : ℤ → List Element) (e : Element) → In e (turns_listed n low g) → (j : ℕ) × ((j < n) × In e (g (low +ℤ pos j)))
in_turns zero low g e i = absurd i
in_turns (suc n) low g e i = elim (in_append (turns_listed n low g) (g (low +ℤ pos n)) e i) [
  | inl k ↦ let r = in_turns n low g e k in (r.0, (omega (arith, r.1.0), r.1.1))
  | inr k ↦ (n, (omega arith, k))
]

cases_last : (j n : ℕ) → j < suc n → (j ≡ n) ⊎ (j < n)
cases_last j n l = grind arith

pub turns_in : (n : ℕ) (low : ℤ) (g : ℤ → List Element) (e : Element) (j : ℕ) → j < n → In e (g (low +ℤ pos j)) → In e (turns_listed n low g)
turns_in zero low g e j l i = absurd (omega arith)
turns_in (suc n) low g e j l i = elim (cases_last j n l) as (λ _. In e (turns_listed n low g ++ g (low +ℤ pos n))) [
  | inl k ↦ append_right (turns_listed n low g) (g (low +ℤ pos n)) e (subst (λ m. In e (g (low +ℤ pos m))) k i)
  | inr k ↦ append_left (turns_listed n low g) (g (low +ℤ pos n)) e (turns_in n low g e j k i)
]

turns_ascend : (n : ℕ) (low : ℤ) (g : ℤ → List Element) → ((j : ℕ) → j < n → Ascends (g (low +ℤ pos j)))
    → ((i j : ℕ) (e d : Element) → i < j → j < n → In e (g (low +ℤ pos i)) → In d (g (low +ℤ pos j)) → IsEarlier e d) → Ascends (turns_listed n low g)
turns_ascend zero low g a b = tt
turns_ascend (suc n) low g a b =
    ascends_both (turns_listed n low g) (g (low +ℤ pos n)) (turns_ascend n low g (λ j l. a j (omega arith)) (λ i j e d l m. b i j e d l (omega arith))) (a n (omega arith))
    (each_in (λ e. Each (IsEarlier e) (g (low +ℤ pos n))) (turns_listed n low g)
    (λ e i. each_in (IsEarlier e) (g (low +ℤ pos n)) (λ d k. let r = in_turns n low g e i in b r.0 n e d r.1.0 (omega arith) r.1.1 k)))

pub ranges_more : (R : List Range) (r : Range) (xs : List ℤ) (x : ℤ) → InRanges R xs → r.low ≤ℤ x → x ≤ℤ r.high → InRanges (R ++ r ∷ []) (xs ++ x ∷ [])
ranges_more [] r [] x h l u = (l, u, tt)
ranges_more [] r (y ∷ xs) x h l u = absurd h
ranges_more (b ∷ R) r [] x h l u = absurd h
ranges_more (b ∷ R) r (y ∷ xs) x h l u = (h.0, h.1, ranges_more R r xs x h.2 l u)

pub counted : (low high : ℤ) (j : ℕ) → j < count low high → (low +ℤ pos j) ≤ℤ high
counted low high j h = grind (arith, ints)

counts : (low high : ℤ) (j : ℕ) → (low +ℤ pos j) ≤ℤ high → j < count low high
counts low high j h = grind (arith, ints)

steps_up : (low x : ℤ) → low ≤ℤ x → low +ℤ pos (natural (x -ℤ low)) ≡ x
steps_up low x h = elim (natural_is (x -ℤ low)) [ inl e ↦ omega (arith, ints, e) | inr e ↦ omega (arith, ints, e.0, e.1) ]

-- the next value lies in the range of its depth
pub at_inside : (n : ℕ) (bs : List Range) (xs ys : List ℤ) (x : ℤ) (d : Range) → InRanges (take n bs) (xs ++ x ∷ ys)
    → ((get_or bs (length xs) d).low ≤ℤ x) × (x ≤ℤ (get_or bs (length xs) d).high)
at_inside zero bs [] ys x d h = absurd h
at_inside zero bs (y ∷ xs) ys x d h = absurd h
at_inside (suc n) [] [] ys x d h = absurd h
at_inside (suc n) [] (y ∷ xs) ys x d h = absurd h
at_inside (suc n) (b ∷ bs) [] ys x d h = (h.0, h.1)
at_inside (suc n) (b ∷ bs) (y ∷ xs) ys x d h = at_inside n bs xs ys x d h.2

-- an element at an earlier turn comes before one at a later turn
pub turn_earlier : (ps qs : List Piece) (xs : List ℤ) (x y : ℤ) (e d : Element) → AreFit ps → AreFit qs → ((p : Piece) → In p ps → length xs < p.levels)
    → ((p q : Piece) → In p ps → In q qs → take (suc (length xs)) p.places ≡ take (suc (length xs)) q.places) → x <ℤ y
    → IsAmong ps (xs ++ x ∷ []) e → IsAmong qs (xs ++ y ∷ []) d → IsEarlier e d
turn_earlier ps qs xs x y e d f g deep same l m n =
    let p = m.0 in
    let q = n.0 in
    let ys = m.1.1.0 in
    let zs = n.1.1.0 in
    let low = deep p m.1.0 in
    let fit = (f p m.1.0).places in
    let s = same p q m.1.0 n.1.0 in
    let v : IsEarlier (element_at p (xs ++ x ∷ ys)) (element_at q (xs ++ y ∷ zs)) = turn_less p.places q.places xs ys zs x y s (omega (arith, low, fit)) l in
    let e_is : element_at p (xs ++ x ∷ ys) ≡ e = ap (element_at p) (sym (append_assoc xs (x ∷ []) ys)) ∙ m.1.1.1.1 in
    let d_is : element_at q (xs ++ y ∷ zs) ≡ d = ap (element_at q) (sym (append_assoc xs (y ∷ []) zs)) ∙ n.1.1.1.1 in
    subst (λ z. IsEarlier z d) e_is (subst (IsEarlier (element_at p (xs ++ x ∷ ys))) d_is v)

-- A loop executes what its pieces have between its ends.
pub lists_turns : (d : ℕ) (P Q : List ℤ → Type 0) (low high : End) (ps : List Piece) (t : Traced) → ((xs : List ℤ) → P xs → length xs ≡ d) → AreFit ps → Together (suc d) ps
    → ((xs : List ℤ) (x : ℤ) → P xs → low xs ≤ℤ x → x ≤ℤ high xs → Q (xs ++ x ∷ [])) → Lists Q (IsAmong ps) t
    → Lists P (λ xs. IsTurn (low xs) (high xs) ps xs) (looped low high t)
lists_turns d P Q low high ps t long f together into a = record { ascends = rises; only = from; each = to }
  where
    inner : (xs : List ℤ) (j : ℕ) → P xs → j < count (low xs) (high xs) → Q (xs ++ (low xs +ℤ pos j) ∷ [])
    inner xs j h l = into xs (low xs +ℤ pos j) h (omega (arith, ints)) (counted (low xs) (high xs) j l)

    later : (xs : List ℤ) → P xs → (x y : ℤ) (e c : Element) → x <ℤ y → IsAmong ps (xs ++ x ∷ []) e → IsAmong ps (xs ++ y ∷ []) c → IsEarlier e c
    later xs h x y e c l m n =
        let k : d ≡ length xs = sym (long xs h) in
        turn_earlier ps ps xs x y e c f f (λ p i. let deep = together.deep p i in omega (arith, deep, k))
        (λ p q i j. subst (λ n. take (suc n) p.places ≡ take (suc n) q.places) k (together.same p q i j)) l m n

    rises : (xs : List ℤ) → P xs → Ascends (looped low high t xs)
    rises xs h =
        turns_ascend (count (low xs) (high xs)) (low xs) (λ x. t (xs ++ x ∷ [])) (λ j l. a.ascends (xs ++ (low xs +ℤ pos j) ∷ []) (inner xs j h l))
        (λ i j e c l m p q. later xs h (low xs +ℤ pos i) (low xs +ℤ pos j) e c (omega (arith, ints)) (a.only _ e (inner xs i h (omega arith)) p) (a.only _ c (inner xs j h m) q))

    from : (xs : List ℤ) (e : Element) → P xs → In e (looped low high t xs) → IsTurn (low xs) (high xs) ps xs e
    from xs e h i =
        let k = in_turns (count (low xs) (high xs)) (low xs) (λ x. t (xs ++ x ∷ [])) e i in
        let x = low xs +ℤ pos k.0 in
        let m = a.only (xs ++ x ∷ []) e (inner xs k.0 h k.1.0) k.1.1 in
        let p = m.0 in
        let ys = m.1.1.0 in
        let assoc = append_assoc xs (x ∷ []) ys in
        (p, (m.1.0, (x, (omega (arith, ints), (counted (low xs) (high xs) k.0 k.1.0, (ys, (subst (λ z. In z (instances p)) assoc m.1.1.1.0, ap (element_at p) (sym assoc) ∙ m.1.1.1.1)))))))

    to : (xs : List ℤ) (e : Element) → P xs → IsTurn (low xs) (high xs) ps xs e → In e (looped low high t xs)
    to xs e h (p, (i, (x, (l, (u, (ys, (k, s))))))) =
        let j = natural (x -ℤ low xs) in
        let up : low xs +ℤ pos j ≡ x = steps_up (low xs) x l in
        let assoc = append_assoc xs (x ∷ []) ys in
        let m = a.each (xs ++ x ∷ []) e (into xs x h l u) (p, (i, (ys, (subst (λ z. In z (instances p)) (sym assoc) k, ap (element_at p) assoc ∙ s)))) in
        turns_in (count (low xs) (high xs)) (low xs) (λ z. t (xs ++ z ∷ [])) e j (counts (low xs) (high xs) j (omega (arith, ints, up, u)))
        (subst (λ z. In e (t (xs ++ z ∷ []))) (sym up) m)

-- an element of pieces that go on has a next value
pub has_turn : (d : ℕ) (ps : List Piece) (xs : List ℤ) (e : Element) → AreFit ps → Together (suc d) ps → length xs ≡ d → IsAmong ps xs e
    → (p : Piece) × (In p ps × ((x : ℤ) × ((ys : List ℤ) × (In (xs ++ x ∷ ys) (instances p) × (element_at p (xs ++ x ∷ ys) ≡ e)))))
has_turn d ps xs e f together long m = by m.0 m.1.1.0 m.1.0 m.1.1.1.0 m.1.1.1.1
  where
    by : (p : Piece) (ys : List ℤ) → In p ps → In (xs ++ ys) (instances p) → element_at p (xs ++ ys) ≡ e
        → (p : Piece) × (In p ps × ((x : ℤ) × ((ys : List ℤ) × (In (xs ++ x ∷ ys) (instances p) × (element_at p (xs ++ x ∷ ys) ≡ e)))))
    by p [] i k s =
        let m = levels_of p (xs ++ []) (f p i) k in
        let deep = together.deep p i in
        absurd (omega (arith, long, m, deep, length-append xs []))
    by p (x ∷ ys) i k s = (p, (i, (x, (ys, (k, s)))))

pub turn_among : (low high : ℤ) (ps : List Piece) (xs : List ℤ) (e : Element) → IsTurn low high ps xs e → IsAmong ps xs e
turn_among low high ps xs e (p, (i, (x, (l, (u, (ys, (k, s))))))) = (p, (i, (x ∷ ys, (k, s))))

-- a loop whose ends keep all instances of its pieces
pub lists_loop : (d : ℕ) (P Q : List ℤ → Type 0) (low high : End) (ps : List Piece) (t : Traced) → ((xs : List ℤ) → P xs → length xs ≡ d) → AreFit ps → Together (suc d) ps
    → ((xs : List ℤ) (x : ℤ) → P xs → low xs ≤ℤ x → x ≤ℤ high xs → Q (xs ++ x ∷ [])) → ((p : Piece) → In p ps → Keeps d p low high)
    → Lists Q (IsAmong ps) t → Lists P (IsAmong ps) (looped low high t)
lists_loop d P Q low high ps t long f together into keeps a =
    lists_other P (λ xs. IsTurn (low xs) (high xs) ps xs) (IsAmong ps) (looped low high t) (λ xs e h m. turn_among (low xs) (high xs) ps xs e m) back
    (lists_turns d P Q low high ps t long f together into a)
  where
    back : (xs : List ℤ) (e : Element) → P xs → IsAmong ps xs e → IsTurn (low xs) (high xs) ps xs e
    back xs e h m =
        let r = has_turn d ps xs e f together (long xs h) m in
        let p = r.0 in
        let x = r.1.1.0 in
        let ys = r.1.1.1.0 in
        let k = (keeps p r.1.0).keeps xs ys x (long xs h) r.1.1.1.1.0 in
        (p, (r.1.0, (x, (k.0, (k.1, (ys, r.1.1.1.1))))))

guarded_ascends : (b : Bool) (e : Element) → Ascends (guarded b (e ∷ []))
guarded_ascends true e = (tt, tt)
guarded_ascends false e = tt

guarded_in : (b : Bool) (e d : Element) → In d (guarded b (e ∷ [])) → (b ≡ true) × (e ≡ d)
guarded_in true e d (inl k) = (refl, k)
guarded_in true e d (inr i) = absurd i
guarded_in false e d i = absurd i

nothing_left : {X : Type 0} (xs ys : List X) → length (xs ++ ys) ≡ length xs → ys ≡ []
nothing_left xs [] h = refl
nothing_left xs (y ∷ ys) h = absurd (omega (arith, length-append xs (y ∷ ys)))

-- at values of all levels of a piece, its element there is the only one
at_end : (p : Piece) (xs : List ℤ) (e : Element) → IsFit p → length xs ≡ p.levels → IsAmong (p ∷ []) xs e → In xs (instances p) × (element_at p xs ≡ e)
at_end p xs e f l m = by m.0 m.1.1.0 m.1.0 m.1.1.1.0 m.1.1.1.1
  where
    at : (ys : List ℤ) → In (xs ++ ys) (instances p) → element_at p (xs ++ ys) ≡ e → In xs (instances p) × (element_at p xs ≡ e)
    at ys i s =
        let none = nothing_left xs ys (levels_of p (xs ++ ys) f i ∙ sym l) in
        let same : xs ++ ys ≡ xs = ap (λ zs. xs ++ zs) none ∙ append-nil xs in
        (subst (λ z. In z (instances p)) same i, ap (element_at p) (sym same) ∙ s)

    by : (q : Piece) (ys : List ℤ) → In q (p ∷ []) → In (xs ++ ys) (instances q) → element_at q (xs ++ ys) ≡ e → In xs (instances p) × (element_at p xs ≡ e)
    by q ys (inl k) i s = at ys (subst (λ z. In (xs ++ ys) (instances z)) (sym k) i) (subst (λ z. element_at z (xs ++ ys) ≡ e) (sym k) s)
    by q ys (inr k) i s = absurd k

-- a statement under the guard of its piece's system
pub lists_guarded : (P : List ℤ → Type 0) (p : Piece) → IsFit p → ((xs : List ℤ) → P xs → length xs ≡ p.levels)
    → Lists P (IsAmong (p ∷ [])) (λ xs. guarded (begins_some p.system xs) (element_at p xs ∷ []))
lists_guarded P p f long = record {
  ascends = λ xs h. guarded_ascends (begins_some p.system xs) (element_at p xs);
  only = λ xs e h i.
      let r = guarded_in (begins_some p.system xs) (element_at p xs) e i in
      let n = long xs h in
      let nil = append-nil xs in
      let k = inside_instance p xs (begun_inside p.system p.levels xs n r.0) r.0 in
      (p, (inl refl, ([], (subst (λ z. In z (instances p)) (sym nil) k, ap (element_at p) nil ∙ r.1))));
  each = λ xs e h m.
      let r = at_end p xs e f (long xs h) m in
      let k = (instance_inside p xs r.0).1 in
      subst (λ b. In e (guarded b (element_at p xs ∷ []))) (sym k) (inl r.1);
}

-- a statement whose instances all values around are
pub lists_bare : (P : List ℤ → Type 0) (p : Piece) → IsFit p → ((xs : List ℤ) → P xs → In xs (instances p)) → Lists P (IsAmong (p ∷ [])) (λ xs. element_at p xs ∷ [])
lists_bare P p f all =
    lists_same P (IsAmong (p ∷ [])) _ _ (λ xs h. ap (λ b. guarded b (element_at p xs ∷ [])) (instance_inside p xs (all xs h)).1)
    (lists_guarded P p f (λ xs h. levels_of p xs f (all xs h)))

-- whole code of a piece under a guard of its system
pub lists_under : (P Q : List ℤ → Type 0) (p : Piece) (t : Traced) → ((xs : List ℤ) → P xs → begins_some p.system xs ≡ true → Q xs)
    → ((xs ys : List ℤ) → P xs → In (xs ++ ys) (instances p) → begins_some p.system xs ≡ true)
    → Lists Q (IsAmong (p ∷ [])) t → Lists P (IsAmong (p ∷ [])) (λ xs. guarded (begins_some p.system xs) (t xs))
lists_under P Q p t into begun a = record {
  ascends = λ xs h. ascends (begins_some p.system xs) xs (into xs h);
  only = λ xs e h i. only (begins_some p.system xs) xs e (into xs h) i;
  each = λ xs e h m.
      let b = first xs h e m.0 m.1.0 m.1.1.0 m.1.1.1.0 in
      subst (λ b. In e (guarded b (t xs))) (sym b) (a.each xs e (into xs h b) m);
}
  where
    ascends : (b : Bool) (xs : List ℤ) → (b ≡ true → Q xs) → Ascends (guarded b (t xs))
    ascends true xs h = a.ascends xs (h refl)
    ascends false xs h = tt

    only : (b : Bool) (xs : List ℤ) (e : Element) → (b ≡ true → Q xs) → In e (guarded b (t xs)) → IsAmong (p ∷ []) xs e
    only true xs e h i = a.only xs e (h refl) i
    only false xs e h i = absurd i

    first : (xs : List ℤ) → P xs → (e : Element) (q : Piece) → In q (p ∷ []) → (ys : List ℤ) → In (xs ++ ys) (instances q) → begins_some p.system xs ≡ true
    first xs h e q (inl k) ys i = begun xs ys h (subst (λ z. In (xs ++ ys) (instances z)) (sym k) i)
    first xs h e q (inr k) ys i = absurd k
