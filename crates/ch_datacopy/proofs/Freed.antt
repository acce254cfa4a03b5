-- The first free label of a space's pieces is that of its list.
use Rattle.std.proofs.Common.{◌≡◌, refl, sym, ap, ◌∙◌, subst, ℕ, ◌+◌, ◌*◌, ◌<◌, ◌≤◌, ◌^◌, List, [], ◌∷◌, length, drop, get_or, inl, inr, arith}
use Rattle.std.specs.List.{All}
use Rattle.std.proofs.lemmas.List.{drop_all, drop_more}
use Rattle.std.proofs.lemmas.List.Elements.{All-weaker}
use Rattle.ch_copied.specs.Plans.{free_label, next_label}
use Rattle.ch_datacopy.specs.Labels.{next_free}
use Rattle.ch_datacopy.proofs.Limited.{free_below}
use Rattle.ch_space.specs.declared.piece.Piece.{Piece}
use Rattle.ch_space.specs.Keeps.{AreApart, IsMoveBelow}
use Rattle.ch_space.specs.Pieces.{element_at, instances, listed}
use Rattle.ch_space.proofs.PieceNumbers.{in_listed, instance_in, listed_in, some_in}
use Rattle.ch_timed.specs.declared.element.Element.{Element}
use Rattle.ch_timed.specs.declared.element.Label.{Label}
use Rattle.ch_timed.specs.declared.element.Label.TheVariants.{Stmt, Move}
use Rattle.ch_timed.specs.Members.{In}
use Rattle.ch_timed.proofs.Orders.{map_in}

next_more : (l : Label) (n : ℕ) → n ≤ next_label l n
next_more (Stmt k) n = omega arith
next_more (Move k) n = omega arith

next_has : (l : Label) (n : ℕ) → IsMoveBelow (next_label l n) l
next_has (Stmt k) n = tt
next_has (Move k) n = omega arith

next_least : (l : Label) (n m : ℕ) → IsMoveBelow m l → n ≤ m → next_label l n ≤ m
next_least (Stmt k) n m h g = g
next_least (Move k) n m h g = omega (arith, h, g)

below_more : (l : Label) (n m : ℕ) → n ≤ m → IsMoveBelow n l → IsMoveBelow m l
below_more (Stmt k) n m g h = tt
below_more (Move k) n m g h = omega (arith, h, g)

free_more : (qs : List Piece) (n : ℕ) → n ≤ next_free n qs
free_more [] n = omega arith
free_more (q ∷ qs) n = let a = next_more q.label n in let b = free_more qs (next_label q.label n) in omega (arith, a, b)

free_has : (qs : List Piece) (n : ℕ) (q : Piece) → In q qs → IsMoveBelow (next_free n qs) q.label
free_has [] n q i = absurd i
free_has (r ∷ qs) n q (inl e) =
    subst (λ (z : Piece). IsMoveBelow (next_free n (r ∷ qs)) z.label) e
    (below_more r.label (next_label r.label n) (next_free (next_label r.label n) qs) (free_more qs (next_label r.label n)) (next_has r.label n))
free_has (r ∷ qs) n q (inr i) = free_has qs (next_label r.label n) q i

free_least : (qs : List Piece) (n m : ℕ) → ((q : Piece) → In q qs → IsMoveBelow m q.label) → n ≤ m → next_free n qs ≤ m
free_least [] n m h g = g
free_least (q ∷ qs) n m h g = free_least qs (next_label q.label n) m (λ r i. h r (inr i)) (next_least q.label n m (h q (inl refl)) g)

label_has : (list : List Element) (e : Element) → In e list → IsMoveBelow (free_label list) e.identity.label
label_has [] e i = absurd i
label_has (f ∷ list) e (inl h) = subst (λ (z : Element). IsMoveBelow (free_label (f ∷ list)) z.identity.label) h (next_has f.identity.label (free_label list))
label_has (f ∷ list) e (inr i) = below_more e.identity.label (free_label list) (free_label (f ∷ list)) (next_more f.identity.label (free_label list)) (label_has list e i)

pub free_is : (ps : List Piece) → AreApart ps → next_free 0 ps ≡ free_label (listed ps)
free_is ps apart = both least most
  where
    both : next_free 0 ps ≤ free_label (listed ps) → free_label (listed ps) ≤ next_free 0 ps → next_free 0 ps ≡ free_label (listed ps)
    both a b = omega (arith, a, b)

    least : next_free 0 ps ≤ free_label (listed ps)
    least = free_least ps 0 (free_label (listed ps)) (λ q i.
        let x = some_in (instances q) (instance_in ps q apart i) in
        label_has (listed ps) (element_at q x.0) (listed_in ps q (element_at q x.0) i (map_in (element_at q) (instances q) x.0 x.1))) (omega arith)

    most : free_label (listed ps) ≤ next_free 0 ps
    most = free_below (listed ps) (next_free 0 ps) (λ e i.
        let s = in_listed ps e i in
        subst (λ (z : Element). IsMoveBelow (next_free 0 ps) z.identity.label) s.is (free_has ps 0 s.piece s.is_piece))

-- one piece more
pub freed_more : (ps : List Piece) (k : ℕ) (q : Piece) (n next total : ℕ) → k < length ps → q ≡ get_or ps k q → next_free n (drop k ps) ≡ total → next ≡ next_label q.label n → next_free next (drop (k + 1) ps) ≡ total
freed_more ps k q n next total l e h f =
    ap (λ z. next_free z (drop (k + 1) ps)) f ∙ ap (λ (z : Piece). next_free (next_label z.label n) (drop (k + 1) ps)) e ∙ sym (ap (next_free n) (drop_more ps k q l)) ∙ h

pub freed_end : (ps : List Piece) (k n total : ℕ) → length ps ≤ k → next_free n (drop k ps) ≡ total → n ≡ total
freed_end ps k n total l h = sym (ap (next_free n) (drop_all k ps l)) ∙ h

-- a space's labels are small
pub labels_small : (commands : ℕ) (ps : List Piece) → commands ≤ 32 → All (λ q. IsMoveBelow (256 * commands) q.label) ps → All (λ q. IsMoveBelow (2 ^ 13) q.label) ps
labels_small commands ps c h =
    All-weaker (λ (q : Piece). IsMoveBelow (256 * commands) q.label) (λ (q : Piece). IsMoveBelow (2 ^ 13) q.label)
    (λ q b. below_more q.label (256 * commands) (2 ^ 13) (omega (arith, c)) b) ps h
