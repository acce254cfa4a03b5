use Rattle.std.proofs.Common.{◌≡◌, ap, ap₂, ◌∙◌, sym, subst, ℕ, ◌*◌, ◌+◌, unsigned_abs, SFits, w64}
use Rattle.std.proofs.lemmas.Int.{to_z-of_z}
use Rattle.ch_moved.specs.Arguments.{natural}
use Rattle.ch_pieces.specs.Candidates.{AreCandidates}
use Rattle.ch_space.specs.Listed.{Listed}
use Rattle.ch_unroll.specs.Unrolled.{unrolls}
use Rattle.ch_unroll.proofs.Allowed.{last_cause, may_unroll}
use Rattle.ch_unroll.proofs.unrolling.unroll.Goals as goal

pub moved_space-requires-clause-are : goal.moved_space-requires-clause-are
moved_space-requires-clause-are c =
    let f : SFits w64 c.args.piece = c.ranges.piece in
    let g : SFits w64 c.args.level = c.ranges.level in
    let h : SFits w64 c.args.amount = c.ranges.amount in
    let none = sym (simp to_z-of_z at c.first_cause.ensures) ∙ c.in_default.is in
    let may = may_unroll c.args.space.now.list c.args.space.now.weight c.args.piece c.args.level c.args.amount none in
    let are = simp to_z-of_z at c.in_ok-candidates.ensures.are in
    let w : c.args.space.now.weight * natural c.args.amount ≡ c.space.inside.weight * unsigned_abs c.args.amount =
    ap₂ (λ (x y : ℕ). x * y) (sym (ap (λ (r : Listed). r.weight) c.space.view_is)) (ap natural may.is_amount) in
    simp to_z-of_z (record {
      change = unrolls c.args.space.now.list c.args.piece c.args.level c.args.amount;
      are = subst (λ n. AreCandidates (unrolls c.args.space.now.list c.args.piece c.args.level c.args.amount) c.args.space.now.list n (c.args.space.now.commands + 1) c.in_ok-candidates.candidates) w are;
    })

pub returns-clause-cause : goal.returns-clause-cause
returns-clause-cause c =
    let f : SFits w64 c.args.piece = c.ranges.piece in
    let g : SFits w64 c.args.level = c.ranges.level in
    let h : SFits w64 c.args.amount = c.ranges.amount in
    let none = sym (simp to_z-of_z at c.first_cause.ensures) ∙ c.in_default.is in
    let may = may_unroll c.args.space.now.list c.args.space.now.weight c.args.piece c.args.level c.args.amount none in
    let are = simp to_z-of_z at c.in_ok-candidates.ensures.are in
    let w : c.args.space.now.weight * natural c.args.amount ≡ c.space.inside.weight * unsigned_abs c.args.amount =
    ap₂ (λ (x y : ℕ). x * y) (sym (ap (λ (r : Listed). r.weight) c.space.view_is)) (ap natural may.is_amount) in
    let now = subst (λ n. AreCandidates (unrolls c.args.space.now.list c.args.piece c.args.level c.args.amount) c.args.space.now.list n (c.args.space.now.commands + 1) c.in_ok-candidates.candidates) w are in
    let causes = simp to_z-of_z at c.moved_space.ensures.cause in
    last_cause c.moved_space.result c.args.space.now.list c.args.space.now.weight c.args.piece c.args.level c.args.amount none (causes (unrolls c.args.space.now.list c.args.piece c.args.level c.args.amount) now)
