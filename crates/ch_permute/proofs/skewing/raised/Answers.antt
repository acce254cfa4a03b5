use Rattle.std.proofs.Common.{◌≡◌, ap, ◌∙◌, sym, subst, ◌-◌, ◌*◌, ◌+◌, ℕ, SFits, w64, arith}
use Rattle.std.specs.Result.{IfOk}
use Rattle.std.proofs.lemmas.Int.{to_z-of_z}
use Rattle.ch_affine.specs.Affine.{form}
use Rattle.ch_moved.specs.Arguments.{is_named, natural}
use Rattle.ch_permute.specs.Lowered.{plus}
use Rattle.ch_permute.specs.Raised.{growth}
use Rattle.ch_order.specs.Legal.{AreAmong}
use Rattle.ch_permute.proofs.Made.{kept_in, makes}
use Rattle.ch_space.specs.Pieces.{listed}
use Rattle.ch_space.specs.Keeps.{IsSpace}
use Rattle.ch_space.specs.Listed.{Listed}
use Rattle.ch_permute.proofs.skewing.raised.Goals as goal

pub closed_space-requires : goal.closed_space-requires
closed_space-requires c =
    let f : SFits w64 c.args.level = c.ranges.level in
    let g : SFits w64 c.args.amount = c.ranges.amount in
    let h = simp to_z-of_z at c.in_ok-pieces.ensures in
    let w : c.space.inside.weight * growth c.args.amounts.now ≡ c.args.weight = ap (λ (r : Listed). r.weight * growth c.args.amounts.now) c.space.view_is ∙ sym c.requires.weight in
    let m =
    makes (λ list. is_named list c.args.numbers.now) (plus (form c.args.amounts.now c.args.amount) (natural c.args.level - 1)) (growth c.args.amounts.now) c.space.inside.arrays c.space.inside.weight
    c.space.inside.commands c.space.inside.pieces c.as_slice-old.result.now c.in_ok-pieces.pieces c.space.inside.counts c.in_ok-counts.counts c.space.inside.temps c.args.space.now (omega arith)
    c.space.invariant c.space.view_is c.requires.few (let l = c.requires.light in omega arith) c.as_slice-old.ensures (c.in_ok-counts.ensures ∙ c.as_slice.ensures) h in
    subst (λ (n : ℕ). IsSpace c.args.space.now.arrays c.in_ok-pieces.pieces c.in_ok-counts.counts c.args.space.now.temps n (c.args.space.now.commands + 1)) w m.0

pub returns-clause-list : goal.returns-clause-list
returns-clause-list c =
    let f : SFits w64 c.args.level = c.ranges.level in
    let g : SFits w64 c.args.amount = c.ranges.amount in
    let h = simp to_z-of_z at c.in_ok-pieces.ensures in
    let w : c.space.inside.weight * growth c.args.amounts.now ≡ c.args.weight = ap (λ (r : Listed). r.weight * growth c.args.amounts.now) c.space.view_is ∙ sym c.requires.weight in
    let m =
    makes (λ list. is_named list c.args.numbers.now) (plus (form c.args.amounts.now c.args.amount) (natural c.args.level - 1)) (growth c.args.amounts.now) c.space.inside.arrays c.space.inside.weight
    c.space.inside.commands c.space.inside.pieces c.as_slice-old.result.now c.in_ok-pieces.pieces c.space.inside.counts c.in_ok-counts.counts c.space.inside.temps c.args.space.now (omega arith)
    c.space.invariant c.space.view_is c.requires.few (let l = c.requires.light in omega arith) c.as_slice-old.ensures (c.in_ok-counts.ensures ∙ c.as_slice.ensures) h in
    subst (λ z. IfOk c.closed_space.result (λ new. new.list ≡ z)) m.1 c.closed_space.ensures.list

pub returns-clause-kept : goal.returns-clause-kept
returns-clause-kept c =
    let f : SFits w64 c.args.level = c.ranges.level in
    let g : SFits w64 c.args.amount = c.ranges.amount in
    let h = simp to_z-of_z at c.in_ok-pieces.ensures in
    let w : c.space.inside.weight * growth c.args.amounts.now ≡ c.args.weight = ap (λ (r : Listed). r.weight * growth c.args.amounts.now) c.space.view_is ∙ sym c.requires.weight in
    let m =
    makes (λ list. is_named list c.args.numbers.now) (plus (form c.args.amounts.now c.args.amount) (natural c.args.level - 1)) (growth c.args.amounts.now) c.space.inside.arrays c.space.inside.weight
    c.space.inside.commands c.space.inside.pieces c.as_slice-old.result.now c.in_ok-pieces.pieces c.space.inside.counts c.in_ok-counts.counts c.space.inside.temps c.args.space.now (omega arith)
    c.space.invariant c.space.view_is c.requires.few (let l = c.requires.light in omega arith) c.as_slice-old.ensures (c.in_ok-counts.ensures ∙ c.as_slice.ensures) h in
    kept_in c.closed_space.result (listed c.in_ok-pieces.pieces) (λ z. AreAmong c.args.space.now.list z) c.closed_space.ensures.list m.2

pub returns-clause-no_others : goal.returns-clause-no_others
returns-clause-no_others c =
    let f : SFits w64 c.args.level = c.ranges.level in
    let g : SFits w64 c.args.amount = c.ranges.amount in
    let h = simp to_z-of_z at c.in_ok-pieces.ensures in
    let w : c.space.inside.weight * growth c.args.amounts.now ≡ c.args.weight = ap (λ (r : Listed). r.weight * growth c.args.amounts.now) c.space.view_is ∙ sym c.requires.weight in
    let m =
    makes (λ list. is_named list c.args.numbers.now) (plus (form c.args.amounts.now c.args.amount) (natural c.args.level - 1)) (growth c.args.amounts.now) c.space.inside.arrays c.space.inside.weight
    c.space.inside.commands c.space.inside.pieces c.as_slice-old.result.now c.in_ok-pieces.pieces c.space.inside.counts c.in_ok-counts.counts c.space.inside.temps c.args.space.now (omega arith)
    c.space.invariant c.space.view_is c.requires.few (let l = c.requires.light in omega arith) c.as_slice-old.ensures (c.in_ok-counts.ensures ∙ c.as_slice.ensures) h in
    kept_in c.closed_space.result (listed c.in_ok-pieces.pieces) (λ z. AreAmong z c.args.space.now.list) c.closed_space.ensures.list m.3
