use Rattle.std.proofs.Common.{◌≡◌}
use Rattle.ch_meeting.specs.Meeting.{HaveCommon}
use Rattle.ch_depends.proofs.Gathered.{chosen_all, chosen_only}
use Rattle.ch_depends.proofs.sides.partners.Goals as goal

pub returns-then-len-le1-clause-among : goal.returns-then-len-le1-clause-among
returns-then-len-le1-clause-among c = λ r i. (c.in_ok-same.ensures.exactly r).0 i

pub returns-then-len-le1-clause-all : goal.returns-then-len-le1-clause-all
returns-then-len-le1-clause-all c = λ r i s h. (c.in_ok-same.ensures.exactly r).1 (i, s)

pub returns-clause-among : goal.returns-clause-among
returns-clause-among c =
    chosen_only (λ r. r.now) (λ r. r.label ≡ c.args.piece.now.label) (HaveCommon c.args.piece.now) c.args.news.now c.in_ok-same.same c.as_slice.result.now c.as_slice.ensures
    c.in_ok-same.ensures.exactly c.with_common.result c.with_common.ensures.exactly

pub returns-clause-all : goal.returns-clause-all
returns-clause-all c =
    chosen_all (λ r. r.now) (λ r. r.label ≡ c.args.piece.now.label) (HaveCommon c.args.piece.now) c.args.news.now c.in_ok-same.same c.as_slice.result.now c.as_slice.ensures
    c.in_ok-same.ensures.exactly c.with_common.result c.with_common.ensures.exactly
