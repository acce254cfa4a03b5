-- The deck of programs that can be run.
use Rattle.std.proofs.Common.{◌≡◌, suc, ◌-◌, ◌≤◌, List, [], ◌∷◌, length, map, take, drop, get_or, subst, Option, None, Result, Ok, Err, true, ◌∙◌, refl, sym, ap, arith}
use Rattle.std.specs.Bool.{IsTrue}
use Rattle.std.specs.List.{All, list_all}
use Rattle.std.specs.Prelude.{IfOk}
use Rattle.std.proofs.lemmas.List.{take_all}
use Rattle.std.proofs.lemmas.List.Elements.{All-cons, All-nil}
use Rattle.std.proofs.lemmas.Bool.{and_parts}
use Rattle.ch_nestparse.specs.Spelling.{is_name}
use Rattle.ch_nestparse.specs.declared.program.ParsedProgram.{ParsedProgram}
use Rattle.ch_workload.specs.Clients.{array_counts, client_fits}
use Rattle.ch_workload.specs.Sessions.{session_fits}
use Rattle.ch_deck.specs.declared.found.Found.{Found}
use Rattle.ch_deck.specs.declared.program.Program.{Program}
use Rattle.ch_deck.specs.declared.refusal.Refused.{Refused}
use Rattle.ch_deck.specs.Judged.{IsSound, program_of}
use Rattle.ch_deck.specs.Kept.{AreFound, IsRead}
use Rattle.ch_deck.specs.Limits.{most_programs}
use Rattle.ch_deck.specs.Parts.{AreNames, IsDeck, arrays_in}
use Rattle.ch_deck.specs.Programs.{IsProgram}
use Rattle.ch_deck.specs.Sections.{program_names}

pub all_first : {E : Type 0} (found : List ParsedProgram) (f : ParsedProgram) (rest : Result (Option Refused) E) → 1 ≤ length found → f ≡ get_or found 0 f → IsSound f
    → IfOk rest (λ r. r ≡ None → All IsSound (take (length found - 1) (drop 1 found))) → IfOk rest (λ r. r ≡ None → All IsSound found)
all_first [] f rest l e s h = absurd (omega (arith, l))
all_first (x ∷ found) f (Ok r) l e s h = λ none. All-cons IsSound x found (rw e at s) (subst (All IsSound) (take_all (length (x ∷ found) - 1) found (omega arith)) (h none))
all_first (x ∷ found) f (Err e') l e s h = tt

names_of : (ps : List ParsedProgram) → map (λ (p : Program). p.name) (map program_of ps) ≡ program_names ps
names_of [] = refl
names_of (p ∷ ps) = ap (λ t. p.name ∷ t) (names_of ps)

arrays_of : (ps : List ParsedProgram) → arrays_in (map program_of ps) ≡ array_counts ps
arrays_of [] = refl
arrays_of (p ∷ ps) = ap (λ t. length p.nest.arrays ∷ t) (arrays_of ps)

as_many : (ps : List ParsedProgram) → length (map program_of ps) ≡ length ps
as_many [] = refl
as_many (p ∷ ps) = ap suc (as_many ps)

all_tail : {X : Type 0} (P : X → Type 0) (x : X) (xs : List X) → All P (x ∷ xs) → P x × All P xs
all_tail P x xs h = (h 0 x (omega arith), λ k d l. h (suc k) d (omega (arith, l)))

each_program : (ps : List ParsedProgram) → All IsRead ps → All IsSound ps → list_all is_name (program_names ps) ≡ true → All IsProgram (map program_of ps)
each_program [] r s n = All-nil IsProgram
each_program (p ∷ ps) r s n =
    let a = all_tail IsRead p ps r in
    let b = all_tail IsSound p ps s in
    let c = and_parts (is_name p.name) (list_all is_name (program_names ps)) n in
    All-cons IsProgram (program_of p) (map program_of ps) (record {
      sound = b.0;
      called = c.0;
      named = a.0.named;
      apart = a.0.apart;
      filled = a.0.filled;
      numbers = a.0.numbers;
    }) (each_program ps a.1 b.1 c.1)

pub deck_kept : (f : Found) (programs : List Program) → AreFound f → All IsSound f.programs → programs ≡ map program_of f.programs
    → IsDeck (record { programs = programs; recipes = f.recipes; sessions = f.sessions; clients = f.clients })
deck_kept f programs a s e = rw e (record {
  programs = subst (AreNames most_programs) (sym (names_of f.programs)) a.programs;
  recipes = a.recipes;
  sessions = a.sessions;
  clients = a.clients;
  sound = each_program f.programs a.read s a.programs.called;
  tuned = subst (λ n. IsTrue (list_all (session_fits n f.recipes) f.sessions)) (sym (as_many f.programs)) a.tuned;
  called = ap (λ xs. list_all (client_fits xs (length f.sessions)) f.clients) (arrays_of f.programs) ∙ a.called;
})
