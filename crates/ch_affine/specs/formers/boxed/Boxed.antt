-- How a `Boxed` stores its value, so that a type may contain a `Boxed` of itself.
-- A contract sees the value alone; the field is a box, which has an address and an allocator besides.
use mathlib.Core.Path.{refl}
use mathlib.Core.Former.{Former, this, const, pair, via}
use base.Stored.{gnil}
use base.Fml.{ftrue}
use denote.RattleType.{RattleType}
use denote.Memory.{part_of}
use denote.RawPtr.{Ptr}
use denote.Sharing.{nothing}
use denote.HoleLaws.{Alike}
use denote.HolePlaces.{Recodes, struct_places, laid, one_value}
use denote.Hole.Fix.{over}
use denote.Param.Weighed.{Weighed}
use denote.Model.Placed.{view_places}
use Rattle.std.specs.declared.boxed.Box.{Box}
use Rattle.std.specs.contracts.boxed.Box as box
use Rattle.std.specs.declared.alloc.Global.{Global}
use Rattle.std.specs.contracts.alloc.Global as heap
use Rattle.std.specs.contracts.impls.GlobalAllocator.TheImpl.{ghosts}
use Rattle.ch_affine.specs.declared.boxed.Boxed.TheInside.{Inside}
use Rattle.ch_affine.specs.declared.boxed.Boxed.TheView.{view, invariant}
use Rattle.ch_affine.specs.contracts.boxed.Boxed as row
use Rattle.ch_affine.specs.contracts.boxed.Boxed.TheInside as inside

abbrev pub the_former : Former {0} → Former {0}
the_former content = content

abbrev pub the_weighed : {content : Former {0}} → Weighed content → Weighed (the_former content)
the_weighed measure = measure

-- the one field: an address, an allocator, and the value
abbrev stored : Former {0}
stored = via (pair (const (Ptr × Global)) this) Inside
    (λ X fields. ((fields.inner.ptr, fields.inner.alloc), fields.inner.value))
    (λ X parts. record { inner = record { ptr = parts.0.0; alloc = parts.0.1; value = parts.1 } })
    (λ X fields. refl) (λ X parts. refl)

abbrev filled : {X Y : Type 0} → Box X Global → Y → Box Y Global
filled b y = record { ptr = b.ptr; alloc = b.alloc; value = y }

abbrev box_row : RattleType → RattleType
box_row R = box.the_row R heap.the_row ghosts

module _ (R S : RattleType) (h : R.Denot → S.Denot) where
  -- a type of one value, which lies, owns and lends as the value at R does at one end and that at S at the other
  box_places : Alike R S h → Alike (box_row R) (box_row S) (λ b. filled b (h b.value))
  unfolding part_of
  box_places a = record {
    mir_same = λ i. (box_row (one_value R (a.mir_same i) (λ _. ftrue) (λ _ _. nothing) gnil)).mir;
    own_same = λ b i. (box_row (one_value R (a.mir_same i) (a.own_same b.value i) (a.shr_same b.value i) gnil)).own_val (filled b tt);
    shr_same = λ b i. (box_row (one_value R (a.mir_same i) (a.own_same b.value i) (a.shr_same b.value i) gnil)).shr_at (filled b tt);
  }

  pub the_places : Alike R S h → Alike (row.the_row R) (row.the_row S) ((the_former this).map R.Denot S.Denot h)
  the_places alike =
      let fields = struct_places (inside.the_type R) (inside.the_type S) ((λ b. filled b (h b.value)), tt) _ (λ d. refl) refl
      (laid _ _ _ (box_places alike), tt) in
      view_places stored this view (λ X Y k fields. refl) (λ X fields. refl) R.Denot S.Denot h
      (row.the_row R).coded (row.the_row S).coded (invariant R.Denot) (invariant S.Denot)
      (λ fields p q. refl) (λ fields p q. refl) (λ fields p. tt) (λ fields p. tt)
      (over (inside.the_row R)) (over (inside.the_row S)) fields

  pub the_codes_placed : Recodes R S h
      → Recodes (row.the_row R) (row.the_row S) ((the_former this).map R.Denot S.Denot h)
  the_codes_placed same value = same value
