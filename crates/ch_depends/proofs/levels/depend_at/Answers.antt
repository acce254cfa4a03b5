use Rattle.std.proofs.Common.{◌↔◌, List, map, sym, subst}
use Rattle.std.specs.Bool.{IsTrue}
use Rattle.std.proofs.lemmas.Bool.{both_ways}
use Rattle.std.proofs.lemmas.Result.{IfOk-weaker}
use Rattle.ch_depends.specs.Sought.{Meets, StandForReads}
use Rattle.ch_depends.proofs.Gathered.{reads_known, write_known, yes_by}
use Rattle.ch_depends.proofs.MetAt.{met_earlier, met_else, met_later, met_writes}
use Rattle.ch_meeting.specs.Meeting.{MeetsAt}
use Rattle.ch_nest.specs.declared.nest.Access.{Access}
use Rattle.ch_timed.specs.Members.{In}
use Rattle.ch_depends.proofs.levels.depend_at.Goals as goal

pub meets_at-requires-clause-accesses : goal.meets_at-requires-clause-accesses
meets_at-requires-clause-accesses c = record { first = write_known c.args.from.now c.requires.from; second = write_known c.args.to.now c.requires.to }

pub write_meets-requires-clause-access : goal.write_meets-requires-clause-access
write_meets-requires-clause-access c = write_known c.args.from.now c.requires.from

pub write_meets-requires-clause-others : goal.write_meets-requires-clause-others
write_meets-requires-clause-others c =
    reads_known c.args.to.now (map (λ a. a.now) c.as_slice.result.now) c.requires.to (subst (λ z. StandForReads c.args.to.now.piece.now.body (map (λ a. a.now) z)) (sym c.as_slice.ensures) c.requires.to.reads)

pub read_meets-requires-clause-reads : goal.read_meets-requires-clause-reads
read_meets-requires-clause-reads c =
    reads_known c.args.from.now (map (λ a. a.now) c.as_slice-2.result.now) c.requires.from (subst (λ z. StandForReads c.args.from.now.piece.now.body (map (λ a. a.now) z)) (sym c.as_slice-2.ensures) c.requires.from.reads)

pub read_meets-requires-clause-other : goal.read_meets-requires-clause-other
read_meets-requires-clause-other c = write_known c.args.to.now c.requires.to

pub returns-then-branch : goal.returns-then-branch
returns-then-branch c =
    yes_by _
    (met_writes c.args.from.now.piece.now c.args.to.now.piece.now c.args.level (map (λ a. a.now) c.args.from.now.reads) (map (λ a. a.now) c.args.to.now.reads) c.requires.from.reads c.requires.to.reads
    (c.in_ok-meets_at.ensures.0 c.if-branch.true))

pub returns-then-branch-2 : goal.returns-then-branch-2
returns-then-branch-2 c =
    yes_by _
    (met_later c.args.from.now.piece.now c.args.to.now.piece.now c.args.level (map (λ a. a.now) c.args.from.now.reads) (map (λ a. a.now) c.as_slice.result.now) c.requires.from.reads
    (subst (λ z. StandForReads c.args.to.now.piece.now.body (map (λ a. a.now) z)) (sym c.as_slice.ensures) c.requires.to.reads) (c.in_ok-write_meets.ensures.0 c.if-branch-2.true))

pub returns : goal.returns
returns c =
    let ours : StandForReads c.args.from.now.piece.now.body (map (λ a. a.now) c.as_slice-2.result.now) = subst (λ z. StandForReads c.args.from.now.piece.now.body (map (λ a. a.now) z)) (sym c.as_slice-2.ensures) c.requires.from.reads in
    let theirs : StandForReads c.args.to.now.piece.now.body (map (λ a. a.now) c.as_slice.result.now) = subst (λ z. StandForReads c.args.to.now.piece.now.body (map (λ a. a.now) z)) (sym c.as_slice.ensures) c.requires.to.reads in
    IfOk-weaker c.read_meets.result
    (λ t. IsTrue t ↔ ((a : Access) × (In a (map (λ a. a.now) c.as_slice-2.result.now) × MeetsAt c.args.from.now.piece.now c.args.to.now.piece.now a c.args.to.now.piece.now.body.write c.args.level)))
    (λ t. IsTrue t ↔ Meets c.args.from.now.piece.now c.args.to.now.piece.now c.args.level)
    (λ t h. (
      λ i. met_earlier c.args.from.now.piece.now c.args.to.now.piece.now c.args.level (map (λ a. a.now) c.as_slice-2.result.now) (map (λ a. a.now) c.as_slice.result.now) ours theirs (h.0 i),
      λ m. h.1 (met_else c.args.from.now.piece.now c.args.to.now.piece.now c.args.level (map (λ a. a.now) c.as_slice-2.result.now) (map (λ a. a.now) c.as_slice.result.now) ours theirs
          (λ n. both_ways _ c.if-branch.false (c.in_ok-meets_at.ensures.1 n)) (λ n. both_ways _ c.if-branch-2.false (c.in_ok-write_meets.ensures.1 n)) m),
    )) c.read_meets.ensures
