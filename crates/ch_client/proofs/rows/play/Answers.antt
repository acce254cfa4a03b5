use Rattle.std.proofs.Common.{rules, ◌≡◌, ℕ, ◌+◌, ◌-◌, ◌<◌, ◌≤◌, ◌++◌, ◌∷◌, [], List, length, map, take, None, refl, sym, ap, ◌∙◌, subst, arith, length-append}
use Rattle.std.proofs.lemmas.List.{take_more, take_all, map-append}
use Rattle.ch_conduct.specs.declared.report.CallLine.{CallLine}
use Rattle.ch_conduct.specs.Meaning.{Judge, Meaning, judge_of, program_of}
use Rattle.ch_client.specs.Arrays.{HaveRun}
use Rattle.ch_client.specs.Stands.{RowStands}
use Rattle.ch_client.proofs.Standing.{rests_of}
use Rattle.ch_client.proofs.Running.{have_run_more}
use Rattle.ch_client.proofs.rows.play.Goals as goal

pub returns-in_err-lines-clause-rests : goal.returns-in_err-lines-clause-rests
returns-in_err-lines-clause-rests g c =
    let m : Meaning = g.B.Bench.means c.args.client.now.bench.now in
    rests_of m c.args.client.now.number c.args.client.now.manner.patient c.args.client.now.manner.machine g.V.Made.made [] (length c.args.sessions.now) c.args.books.now c.args.seats.now c.args.notes.now.lasts.items (λ i low. record { how = None; variant = None }) c.requires.stands

pub loop-i-init : goal.loop-i-init
loop-i-init g c =
    let m : Meaning = g.B.Bench.means c.args.client.now.bench.now in
    let none = c.in_ok-lines.ensures.items in
    record {
      long = ap length none;
      room = search rules;
      are = ap (map (λ (x : CallLine). x.session)) none;
      stands = subst (λ (v : List CallLine). RowStands m c.args.client.now.number c.args.client.now.manner.patient c.args.client.now.manner.machine g.V.Made.made v (length c.args.sessions.now - 0) c.args.books.now c.args.seats.now c.args.notes.now.lasts.items) (sym none)
          (let whole : length c.args.sessions.now ≡ length c.args.sessions.now - 0 = omega arith in subst (λ (k : ℕ). RowStands m c.args.client.now.number c.args.client.now.manner.patient c.args.client.now.manner.machine g.V.Made.made [] k c.args.books.now c.args.seats.now c.args.notes.now.lasts.items) whole c.requires.stands);
      arrays = (refl, λ p low. refl);
    }

pub next_call-requires-clause-stands : goal.next_call-requires-clause-stands
next_call-requires-clause-stands g c =
    let m : Meaning = g.B.Bench.means c.args.client.now.bench.now in
    let is = c.deref.ensures.value in
    let long : length c.deref.result.now ≡ c.loop-i.i = ap length is ∙ c.loop-i.invariant.long in
    let stands = subst (λ (k : ℕ). RowStands m c.args.client.now.number c.args.client.now.manner.patient c.args.client.now.manner.machine g.V.Made.made c.loop-i.lines.items (length c.args.sessions.now - k) c.args.books.now c.loop-i.seats c.loop-i.notes.lasts.items) (sym long) c.loop-i.invariant.stands in
    subst (λ (v : List CallLine). RowStands m c.args.client.now.number c.args.client.now.manner.patient c.args.client.now.manner.machine g.V.Made.made v (length c.args.sessions.now - length c.deref.result.now) c.args.books.now c.loop-i.seats c.loop-i.notes.lasts.items) (sym is) stands

pub loop-i-preserved : goal.loop-i-preserved
loop-i-preserved g c =
    let m : Meaning = g.B.Bench.means c.args.client.now.bench.now in
    let was = c.loop-i.invariant in
    let is = c.deref.ensures.value in
    let long : length c.deref.result.now ≡ c.loop-i.i = ap length is ∙ was.long in
    let items = c.push_reserved.ensures.items in
    let e = c.in_ok-line.ensures in
    let low = c.loop-i-test.true in
    let session = e.line ∙ ap (λ (k : ℕ). lib.ListN.get_or c.args.sessions.now k 0) long in
    let more : take c.loop-i.i c.args.sessions.now ++ c.in_ok-line.line.session ∷ [] ≡ take (c.loop-i.i + 1) c.args.sessions.now = ap (λ (k : ℕ). take c.loop-i.i c.args.sessions.now ++ k ∷ []) session ∙ sym (take_more c.args.sessions.now c.loop-i.i 0 low) in
    record {
      long = ap length items ∙ (length-append c.loop-i.lines.items (c.in_ok-line.line ∷ []) ∙ ap (λ (k : ℕ). k + 1) was.long);
      room = search rules;
      are = ap (map (λ (x : CallLine). x.session)) items ∙ (map-append (λ (x : CallLine). x.session) c.loop-i.lines.items (c.in_ok-line.line ∷ []) ∙ (ap (λ (v : List ℕ). v ++ c.in_ok-line.line.session ∷ []) was.are ∙ more));
      stands = subst (λ (v : List CallLine). RowStands m c.args.client.now.number c.args.client.now.manner.patient c.args.client.now.manner.machine g.V.Made.made v (length c.args.sessions.now - (c.loop-i.i + 1)) c.args.books.now c.next_call.new.seats c.next_call.new.notes.lasts.items) (ap (λ (v : List CallLine). v ++ c.in_ok-line.line ∷ []) is ∙ sym items)
          (subst (λ (k : ℕ). RowStands m c.args.client.now.number c.args.client.now.manner.patient c.args.client.now.manner.machine g.V.Made.made (c.deref.result.now ++ c.in_ok-line.line ∷ []) (length c.args.sessions.now - (k + 1)) c.args.books.now c.next_call.new.seats c.next_call.new.notes.lasts.items) long e.stands);
      arrays = subst (λ (v : List ℕ). HaveRun m v c.args.notes.now.arrays.items c.next_call.new.notes.arrays.items) more
          (have_run_more m (take c.loop-i.i c.args.sessions.now) c.in_ok-line.line.session c.args.notes.now.arrays.items c.loop-i.notes.arrays.items c.next_call.new.notes.arrays.items (subst (λ (k : ℕ). program_of m k < length c.args.notes.now.arrays.items) (sym session) (subst (λ (k : ℕ). program_of m (lib.ListN.get_or c.args.sessions.now c.loop-i.i 0) < k) (sym c.requires.arrays) (c.requires.there c.loop-i.i low).1)) e.arrays was.arrays);
    }

pub returns-clause-rests : goal.returns-clause-rests
returns-clause-rests g c =
    let m : Meaning = g.B.Bench.means c.args.client.now.bench.now in
    rests_of m c.args.client.now.number c.args.client.now.manner.patient c.args.client.now.manner.machine g.V.Made.made c.loop-i.lines.items (length c.args.sessions.now - c.loop-i.i) c.args.books.now c.loop-i.seats c.loop-i.notes.lasts.items (λ i low. record { how = None; variant = None }) c.loop-i.invariant.stands

pub returns-clause-stands : goal.returns-clause-stands
returns-clause-stands g c =
    let m : Meaning = g.B.Bench.means c.args.client.now.bench.now in
    let none : length c.args.sessions.now - c.loop-i.i ≡ 0 = search rules in
    subst (λ (k : ℕ). RowStands m c.args.client.now.number c.args.client.now.manner.patient c.args.client.now.manner.machine g.V.Made.made c.loop-i.lines.items k c.args.books.now c.loop-i.seats c.loop-i.notes.lasts.items) none c.loop-i.invariant.stands
