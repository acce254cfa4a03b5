use Rattle.std.proofs.Common.{◌≡◌, refl, sym, ap, ◌∙◌, subst, true, false, [], ◌∷◌, ◌++◌}
use Rattle.std.specs.List.{filter}
use Rattle.std.proofs.lemmas.Result.{on_ok_weaker}
use Rattle.ch_copied.specs.Accesses.{names}
use Rattle.ch_datacopy.specs.Adding.{added}
use Rattle.ch_datacopy.proofs.Added.{added_both, added_new, added_none, added_there, one_named, reads_two}
use Rattle.ch_nest.specs.declared.nest.Expr.{Expr}
use Rattle.ch_timed.specs.Conflict.{reads}
use Rattle.ch_timed.specs.Members.{In}
use Rattle.ch_timed.proofs.Rolls.{reads_read}
use Rattle.ch_datacopy.proofs.accesses.+push_reads.Goals as goal
use Rattle.ch_datacopy.proofs.accesses.+push_reads.Goals.{else-access-array-via-then-access-array+else-not-contains, else-access-array-via-else-access-array}

pub returns-in_ok-push-in-Read : goal.returns-in_ok-push-in-Read
returns-in_ok-push-in-Read t c =
    c.in_ok-push-in-Read.ensures.ok ∙ ap (λ a. c.args.accesses.now ++ a ∷ []) c.in_ok-copied_access-in-Read.ensures
    ∙ sym (added_new c.args.accesses.now c.in-Read.access (λ i. absurd (never (c.if-not-contains.ensures.1 (subst (In c.in-Read.access) (sym c.as_slice.ensures) i)))))
    ∙ sym (ap (λ (x : Expr). added c.args.accesses.now (filter (names c.args.array) (reads x))) c.in-Read.is
    ∙ ap (λ z. added c.args.accesses.now (filter (names c.args.array) z)) (reads_read c.in-Read.access)
    ∙ ap (added c.args.accesses.now) (one_named c.args.array c.in-Read.access c.if-access-array.true))
  where
    never : false ≡ true → ⊥
    never e = cc

pub returns-else-access-array : goal.returns-else-access-array
returns-else-access-array t c = elim c.else-access-array.branch [
  | else-access-array-via-then-access-array+else-not-contains w ↦
      sym (ap (λ (x : Expr). added c.args.accesses.now (filter (names c.args.array) (reads x))) c.in-Read.is
      ∙ ap (λ z. added c.args.accesses.now (filter (names c.args.array) z)) (reads_read c.in-Read.access)
      ∙ ap (added c.args.accesses.now) (one_named c.args.array c.in-Read.access w.if-access-array.true)
      ∙ added_there c.args.accesses.now c.in-Read.access (subst (In c.in-Read.access) w.as_slice.ensures (w.if-not-contains.ensures.0 refl)))
  | else-access-array-via-else-access-array w ↦
      sym (ap (λ (x : Expr). added c.args.accesses.now (filter (names c.args.array) (reads x))) c.in-Read.is
      ∙ ap (λ z. added c.args.accesses.now (filter (names c.args.array) z)) (reads_read c.in-Read.access)
      ∙ added_none c.args.array c.args.accesses.now c.in-Read.access w.if-access-array.false)
]

pub returns-in_ok-push_reads-in-Add : goal.returns-in_ok-push_reads-in-Add
returns-in_ok-push_reads-in-Add t c =
    on_ok_weaker c.push_reads-in-Add-2.result
    (λ e. added_both c.args.array c.args.accesses.now c.push_reads-in-Add.new.accesses (reads c.in-Add.x) (reads c.in-Add.y) c.push_reads-in-Add-2.new.accesses
    (c.in_ok-push_reads-in-Add.ensures ∙ ap (λ (x : Expr). added c.args.accesses.now (filter (names c.args.array) (reads x))) c.get-in-Add.ensures)
    (e ∙ ap (λ (x : Expr). added c.push_reads-in-Add.new.accesses (filter (names c.args.array) (reads x))) c.get-in-Add-2.ensures)
    ∙ ap (λ z. added c.args.accesses.now (filter (names c.args.array) z)) (sym (reads_two c.args.expr.now c.in-Add.x c.in-Add.y c.in-Add.is)))
    c.push_reads-in-Add-2.ensures
