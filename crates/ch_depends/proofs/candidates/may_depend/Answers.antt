use Rattle.std.proofs.Common.{◌≡◌, ◌↔◌, ℕ, false}
use Rattle.std.specs.Bool.{IsTrue}
use Rattle.std.proofs.lemmas.Bool.{both_ways}
use Rattle.std.proofs.lemmas.Result.{IfOk-weaker}
use Rattle.ch_depends.specs.Sought.{Meets}
use Rattle.ch_depends.proofs.candidates.may_depend.Goals as goal

pub returns : goal.returns
returns c =
    IfOk-weaker c.depend.result (λ t. IsTrue t ↔ ((level : ℕ) × Meets c.args.from.now.piece.now c.args.to.now.piece.now level))
    (λ t. t ≡ false → (level : ℕ) → Meets c.args.from.now.piece.now c.args.to.now.piece.now level → ⊥) (λ t i e level m. both_ways t e (i.1 (level, m))) c.depend.ensures
