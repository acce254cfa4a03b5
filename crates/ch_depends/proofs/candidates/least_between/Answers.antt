use Rattle.std.proofs.Common.{◌∙◌, sym, ap, map, subst}
use Rattle.ch_depends.specs.Sought.{Conflicts, IsBest, StandForReads, lesser}
use Rattle.ch_depends.proofs.Gathered.{reads_known, write_known}
use Rattle.ch_depends.proofs.Points.{all_asked}
use Rattle.ch_depends.proofs.candidates.least_between.Goals as goal

pub least_with_writes-requires-clause-access : goal.least_with_writes-requires-clause-access
least_with_writes-requires-clause-access c = write_known c.args.from.now c.requires.from

pub least_with_writes-requires-clause-other : goal.least_with_writes-requires-clause-other
least_with_writes-requires-clause-other c = write_known c.args.to.now c.requires.to

pub least_with_reads-requires-clause-access : goal.least_with_reads-requires-clause-access
least_with_reads-requires-clause-access c = write_known c.args.from.now c.requires.from

pub least_with_reads-requires-clause-others : goal.least_with_reads-requires-clause-others
least_with_reads-requires-clause-others c =
    reads_known c.args.to.now (map (λ a. a.now) c.as_slice.result.now) c.requires.to (subst (λ z. StandForReads c.args.to.now.piece.now.body (map (λ a. a.now) z)) (sym c.as_slice.ensures) c.requires.to.reads)

pub least_with_write-requires-clause-reads : goal.least_with_write-requires-clause-reads
least_with_write-requires-clause-reads c =
    reads_known c.args.from.now (map (λ a. a.now) c.as_slice-2.result.now) c.requires.from (subst (λ z. StandForReads c.args.from.now.piece.now.body (map (λ a. a.now) z)) (sym c.as_slice-2.ensures) c.requires.from.reads)

pub least_with_write-requires-clause-other : goal.least_with_write-requires-clause-other
least_with_write-requires-clause-other c = write_known c.args.to.now c.requires.to

pub returns : goal.returns
returns c =
    subst (IsBest (Conflicts c.args.from.now.piece.now c.args.to.now.piece.now c.args.r.now c.args.s.now))
    (sym (c.lesser-2.ensures ∙ ap (λ z. lesser z c.in_ok-earlier.earlier) c.lesser.ensures))
    (all_asked c.args.from.now.piece.now c.args.to.now.piece.now c.args.r.now c.args.s.now (map (λ a. a.now) c.as_slice-2.result.now) (map (λ a. a.now) c.as_slice.result.now)
    (subst (λ z. StandForReads c.args.from.now.piece.now.body (map (λ a. a.now) z)) (sym c.as_slice-2.ensures) c.requires.from.reads)
    (subst (λ z. StandForReads c.args.to.now.piece.now.body (map (λ a. a.now) z)) (sym c.as_slice.ensures) c.requires.to.reads)
    c.in_ok-both.both c.in_ok-later.later c.in_ok-earlier.earlier c.in_ok-both.ensures c.in_ok-later.ensures c.in_ok-earlier.ensures)
