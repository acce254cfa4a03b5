-- Two pieces meet at a level where their writes do, or one of the accesses that stand for the reads of the one and the write of the other.
use Rattle.std.proofs.Common.{◌≡◌, refl, subst, ℕ, List, inl, inr}
use Rattle.ch_depends.specs.Sought.{IsAsked, Meets, StandForReads}
use Rattle.ch_meeting.specs.Meeting.{MeetsAt}
use Rattle.ch_nest.specs.declared.nest.Access.{Access}
use Rattle.ch_space.specs.declared.piece.Piece.{Piece}
use Rattle.ch_timed.specs.Members.{In}

module _ (p q : Piece) (level : ℕ) (xs ys : List Access) (ours : StandForReads p.body xs) (theirs : StandForReads q.body ys) where
  abbrev pub Later : Type 0
  Later = (a : Access) × (In a ys × MeetsAt p q p.body.write a level)

  abbrev pub Earlier : Type 0
  Earlier = (a : Access) × (In a xs × MeetsAt p q a q.body.write level)

  pub met_writes : MeetsAt p q p.body.write q.body.write level → Meets p q level
  met_writes m = record { access = p.body.write; other = q.body.write; asked = inl (refl, refl); meets = m }

  pub met_later : Later → Meets p q level
  met_later m = record { access = p.body.write; other = m.0; asked = inr (inl (refl, theirs.only m.0 m.1.0)); meets = m.1.1 }

  pub met_earlier : Earlier → Meets p q level
  met_earlier m = record { access = m.0; other = q.body.write; asked = inr (inr (ours.only m.0 m.1.0, refl)); meets = m.1.1 }

  -- there is no other way
  pub met_else : (MeetsAt p q p.body.write q.body.write level → ⊥) → (Later → ⊥) → Meets p q level → Earlier
  met_else no_writes no_later m = by m.asked
    where
      writes : m.access ≡ p.body.write → m.other ≡ q.body.write → MeetsAt p q p.body.write q.body.write level
      writes k l = subst (λ z. MeetsAt p q z q.body.write level) k (subst (λ z. MeetsAt p q m.access z level) l m.meets)

      by : IsAsked p.body q.body m.access m.other → Earlier
      by (inl k) = absurd (no_writes (writes k.0 k.1))
      by (inr (inl k)) = elim (theirs.all m.other k.1) as (λ _. Earlier) [
        | inl l ↦ absurd (no_writes (writes k.0 l))
        | inr i ↦ absurd (no_later (m.other, (i, subst (λ z. MeetsAt p q z m.other level) k.0 m.meets)))
      ]
      by (inr (inr k)) = elim (ours.all m.access k.0) as (λ _. Earlier) [
        | inl l ↦ absurd (no_writes (writes l k.1))
        | inr i ↦ (m.access, (i, subst (λ z. MeetsAt p q m.access z level) k.1 m.meets))
      ]
