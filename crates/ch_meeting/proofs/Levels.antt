-- Whether elements meet whose vectors differ at a level.
use Rattle.std.proofs.Common.{◌≡◌, refl, sym, ap, ◌∙◌, subst, ℕ, ◌+◌, ◌<◌, ◌≤◌, ℤ, Bool, true, false, List, [], ◌∷◌, ◌++◌, length, map, take, get_or, ◌⊎◌, inl, inr, arith, ◌↔◌, Result, Ok, Err, IfOk}
use Rattle.std.specs.declared.alloc.AllocError.{AllocError}
use Rattle.std.specs.Bool.{IsTrue}
use Rattle.std.proofs.lemmas.Bool.{both_ways}
use Rattle.std.proofs.lemmas.List.{length-map, take_more, take_all}
use Rattle.ch_nest.specs.declared.nest.Access.{Access}
use Rattle.ch_nest.specs.Run.{sub_value}
use Rattle.ch_timed.specs.Conflict.{cell_of}
use Rattle.ch_timed.specs.Members.{In}
use Rattle.ch_meeting.specs.declared.orders.Order.{Order}
use Rattle.ch_meeting.specs.Asked.{MeetsByAt}
use Rattle.ch_meeting.specs.Cases.{OneOf}
use Rattle.ch_meeting.specs.declared.question.TwoAccesses.{TwoAccesses}
use Rattle.ch_meeting.specs.Meeting.{AreAlike, MeetsAt}
use Rattle.ch_meeting.proofs.Comparisons.{AtLevels, Exact}
use Rattle.ch_space.specs.declared.piece.Piece.{Piece}
use Rattle.ch_space.specs.Keeps.{IsWhole}
use Rattle.ch_space.specs.Pieces.{instances}
use Rattle.ch_space.proofs.Membership.{append_left, append_right, in_append}
use Rattle.ch_space.proofs.PieceElements.{levels_of}

pub none_yet : (P : Order → Type 0) → OneOf P [] → ⊥
none_yet P k = k.1.0

pub none_more : (P : Order → Type 0) (os : List Order) (k : ℕ) (d : Order) (b : Bool) → k < length os → (OneOf P (take k os) → ⊥) → (IsTrue b ↔ P (get_or os k d)) → b ≡ false → OneOf P (take (k + 1) os) → ⊥
none_more P os k d b l h g e c = last c.0 c.1.1 (in_append (take k os) (get_or os k d ∷ []) c.0 (subst (In c.0) (take_more os k d l) c.1.0))
  where
    last : (o : Order) → P o → In o (take k os) ⊎ In o (get_or os k d ∷ []) → ⊥
    last o p (inl i) = h (o, (i, p))
    last o p (inr (inl s)) = both_ways b e (g.1 (subst P (sym s) p))
    last o p (inr (inr i)) = i

get_in : (os : List Order) (k : ℕ) (d : Order) → k < length os → In (get_or os k d) os
get_in os k d l = subst (In (get_or os k d)) (Rattle.std.proofs.lemmas.List.take-append-drop (k + 1) os)
    (append_left (take (k + 1) os) (Rattle.std.proofs.Common.drop (k + 1) os) (get_or os k d)
    (subst (In (get_or os k d)) (sym (take_more os k d l)) (append_right (take k os) (get_or os k d ∷ []) (get_or os k d) (inl refl))))

pub one_found : (P : Order → Type 0) (os : List Order) (k : ℕ) (d : Order) (b : Bool) → k < length os → (IsTrue b ↔ P (get_or os k d)) → b ≡ true → IsTrue true ↔ OneOf P os
one_found P os k d b l g e = (λ t. (get_or os k d, (get_in os k d l, g.0 e)), λ c. refl)

pub none_found : (P : Order → Type 0) (os : List Order) (k : ℕ) → length os ≤ k → (OneOf P (take k os) → ⊥) → IsTrue false ↔ OneOf P os
none_found P os k l h = (λ t. absurd (both_ways false refl t), λ c. absurd (h (subst (OneOf P) (sym (take_all k os l)) c)))

-- accesses that name one cell are alike
pub cells_alike : (c : TwoAccesses) (i j : List ℤ) → cell_of i c.first.now ≡ cell_of j c.second.now → AreAlike c
cells_alike c i j e = record {
  array = ap (λ x. x.array) e;
  subscripts = sym (length-map c.first.now.subs (sub_value i)) ∙ ap (λ x. length x.subs) e ∙ length-map c.second.now.subs (sub_value j);
}

module _ (p q : Piece) (a b : Access) (level : ℕ) where
  levels_all : IsWhole p → IsWhole q → (orders : List Order) → Exact p.places q.places orders → AtLevels p.places q.places orders → (r : Bool)
      → (IsTrue r ↔ OneOf (MeetsByAt level p q a b) orders) → IsTrue r ↔ MeetsAt p q a b level
  levels_all w v orders exact levels r h = (λ t. to (h.0 t), λ k. h.1 (from k))
    where
      long : (u : Piece) (k : IsWhole u) (xs : List ℤ) → In xs (instances u) → length u.places ≡ length xs + 1
      long u k xs i = k.places ∙ ap (λ n. n + 1) (sym (levels_of u xs k i))

      to : OneOf (MeetsByAt level p q a b) orders → MeetsAt p q a b level
      to k =
          (let m = k.1.1.1 in
          let n = m.meeting in
          record {
            first = m.first;
            second = m.second;
            meeting = record {
              first = n.first;
              second = n.second;
              earlier = (exact m.first m.second (long p w m.first n.first) (long q v m.second n.second)).1 (k.0, (k.1.0, n.order));
              cell = n.cell;
            };
            differs = levels m.first m.second (long p w m.first n.first) (long q v m.second n.second) k.0 k.1.0 n.order ∙ k.1.1.0;
          })

      from : MeetsAt p q a b level → OneOf (MeetsByAt level p q a b) orders
      from k =
          (let n = k.meeting in
          let o = (exact k.first k.second (long p w k.first n.first) (long q v k.second n.second)).0 n.earlier in (
            o.0,
            (
              o.1.0,
              (
                sym (levels k.first k.second (long p w k.first n.first) (long q v k.second n.second) o.0 o.1.0 o.1.1) ∙ k.differs,
                record { first = k.first; second = k.second; meeting = record { first = n.first; second = n.second; order = o.1.1; cell = n.cell } },
              ),
            ),
          ))

  pub levels_ok : IsWhole p → IsWhole q → (ps qs : List ℕ) (ways os : List Order) → ps ≡ p.places → qs ≡ q.places → os ≡ ways → Exact ps qs ways → AtLevels ps qs ways → (res : Result Bool AllocError)
      → IfOk res (λ r. IsTrue r ↔ OneOf (MeetsByAt level p q a b) os) → IfOk res (λ r. IsTrue r ↔ MeetsAt p q a b level)
  levels_ok w v ps qs ways os c d e exact levels (Err o) k = tt
  levels_ok w v ps qs ways os c d e exact levels (Ok r) k =
      levels_all w v ways (subst (λ i. Exact i q.places ways) c (subst (λ i. Exact ps i ways) d exact)) (subst (λ i. AtLevels i q.places ways) c (subst (λ i. AtLevels ps i ways) d levels)) r
      (subst (λ i. IsTrue r ↔ OneOf (MeetsByAt level p q a b) i) e k)
