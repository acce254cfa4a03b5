-- Which reports fit what a deck means. Each of the seven sentences speaks of the report's own lists and numbers, with no history in it.
use Rattle.std.specs.Prelude.{◌≡◌, ◌⊎◌, ℕ, zero, suc, ◌*◌, ◌≤◌, nat_lt, Bool, true, false, List, [], ◌∷◌, map, filter, length, slice_get, Option, Some, None, ℤ}
use Rattle.std.specs.List.{AllByRecursion, list_any}
use Rattle.ch_conduct.specs.Lines.{Each, EachAt, sessions_called, programs_run, programs_called, times_in, lines_on, costed_of, calls_named, call_named, names_call, up_to_last}
use Rattle.ch_conduct.specs.Meaning.{Judge, Task, Meaning, machine_of}
use Rattle.ch_conduct.specs.declared.report.CallLine.{CallLine}
use Rattle.ch_conduct.specs.declared.report.ClientPart.{ClientPart}
use Rattle.ch_conduct.specs.declared.report.How.{How}
use Rattle.ch_conduct.specs.declared.report.How.TheVariants.{Trial, Fresh, Kept}
use Rattle.ch_conduct.specs.declared.report.RunReport.{RunReport}
use Rattle.ch_rank.specs.declared.outcome.Costed.{Costed}
use Rattle.ch_rank.specs.Entries.{Searched, are_legal, at_entries, completed, played}
use Rattle.ch_rank.specs.Ranks.{versions}
use Rattle.ch_rank.specs.Search.{point_at}
use Rattle.ch_report.specs.Summary.{summary}
use Rattle.ch_report.specs.declared.part.EntryLine.{EntryLine}
use Rattle.ch_report.specs.declared.part.Found.{Found}
use Rattle.ch_report.specs.declared.part.Found.TheVariants.{Cost, Refused}
use Rattle.ch_report.specs.declared.part.SessionPart.{SessionPart}
use Rattle.ch_session.specs.History.{Theme}
use Rattle.ch_workload.specs.declared.client.Script.{Script}

-- ---- 1. There is a part for each client, with a line for each call in the order of its script and a store for each program that it calls, and one for each session.

abbrev pub HasLines : Meaning → Script → ClientPart → Type 0
HasLines m s part = (map (λ l. l.session) part.calls ≡ sessions_called s.calls) × (map (λ p. p.program) part.stores ≡ programs_called m s)

abbrev pub HasParts : Meaning → RunReport → Type 0
HasParts m r = Each (λ c s part. HasLines m s part) 0 m.clients r.clients × (length r.sessions ≡ length m.tasks)

-- ---- 2. A store has the cells with which the client's arrays of the program begin, after the program has run once for each call of the client that runs it.

abbrev pub run_times : (List ℤ → List ℤ) → ℕ → List ℤ → List ℤ
run_times run zero cells = cells
run_times run (suc n) cells = run (run_times run n cells)

-- the cells of the client c of a program, after calls that ran these programs
abbrev pub cells_after : Meaning → ℕ → List ℕ → ℕ → List ℤ
cells_after m c runs p = run_times (m.run p) (times_in p runs) (m.filled c p)

abbrev pub StoresAre : Meaning → ℕ → List ℕ → ClientPart → Type 0
StoresAre m c runs part = AllByRecursion (λ s. s.cells ≡ cells_after m c runs s.program) part.stores

abbrev pub HasStores : Meaning → RunReport → Type 0
HasStores m r = Each (λ c s part. StoresAre m c (programs_run m s) part) 0 m.clients r.clients

-- ---- 3. The entries of a session could be made in its search in this order, and each shows its trial's point.

abbrev pub shown : List EntryLine → List Costed
shown es = map costed_of es

-- the search of a session in which these entries were made
abbrev pub searched_on : Theme → List EntryLine → Searched
searched_on th es = at_entries th.grid th.repeat (shown es)

abbrev pub AreLegal : Theme → List EntryLine → Type 0
AreLegal th es = (are_legal th.grid th.repeat (shown es) ≡ true) × AllByRecursion (λ e. e.point ≡ point_at (played (searched_on th es)) e.trial) es

-- ---- 4. A cost is what the program made at the entry's point costs on the machine of the client that the entry names, where the recipe isn't refused; a refusal is the recipe's at that point.

abbrev pub FoundFits : Meaning → Judge → List ℕ → Found → Type 0
FoundFits m judge point (Cost c j x) = (judge.refusal point ≡ None) × (x ≡ judge.cost (machine_of m c) point)
FoundFits m judge point (Refused r) = judge.refusal point ≡ Some r

abbrev pub IsJudged : Meaning → Judge → EntryLine → Type 0
IsJudged m judge e = FoundFits m judge e.point e.found

-- ---- 5. Steps, round, ranks and best point are those of the search on these entries.

abbrev pub IsSearched : Theme → SessionPart → Type 0
IsSearched th part = part ≡ summary (searched_on th part.entries) part.entries

-- ---- 6. Each call that measured a trial is named by exactly one entry of its session, of that trial. Each entry with a cost names such a call, of its session and trial. A client's calls are named in their order.

abbrev pub IsNamedOnce : ℕ → ℕ → How → List EntryLine → Type 0
IsNamedOnce c j (Trial t) es = map (λ e. e.trial) (filter (names_call c j) es) ≡ t ∷ []
IsNamedOnce c j (Fresh v w) es = Unit {0}
IsNamedOnce c j (Kept v w) es = Unit {0}

-- the line of a client's call j
abbrev pub line_in : List CallLine → ℕ → Option CallLine
line_in ls zero = None
line_in ls (suc i) = slice_get ls i

abbrev pub line_of_part : Option ClientPart → ℕ → Option CallLine
line_of_part None j = None
line_of_part (Some p) j = line_in p.calls j

abbrev pub line_at : RunReport → ℕ → ℕ → Option CallLine
line_at r c j = line_of_part (slice_get r.clients c) j

abbrev pub FoundNames : RunReport → ℕ → ℕ → Found → Type 0
FoundNames r n t (Cost c j x) = line_at r c j ≡ Some (record { session = n; how = Trial t })
FoundNames r n t (Refused x) = Unit {0}

abbrev pub NamesTrial : RunReport → ℕ → EntryLine → Type 0
NamesTrial r n e = FoundNames r n e.trial e.found

abbrev pub Ascending : List ℕ → Type 0
Ascending [] = Unit {0}
Ascending (x ∷ xs) = AllByRecursion (λ y. x ≤ y) xs × Ascending xs

pub record CallsFit (r : RunReport) (n : ℕ) (es : List EntryLine) : Type 0 where
  pub named : EachAt (λ c part. AllByRecursion (λ l. IsNamedOnce c l.0 l.1 es) (lines_on n part.calls)) 0 r.clients
  pub names : AllByRecursion (NamesTrial r n) es
  pub order : EachAt (λ c part. Ascending (calls_named c es)) 0 r.clients

-- ---- 7. A fresh or kept line shows a version that there is, with news of at least twice its number. Neither is below what the client's line before showed there, nor the version below those that came by the client's last earlier entry. A kept line is an eager client's and shows what its line before on the session shows, which is fresh or kept.

-- how many versions these entries make, where a trial is measured r times
abbrev pub versions_made : ℕ → List EntryLine → ℕ
versions_made r es = length (versions (completed r (shown es)))

-- an entry that names a call of c before j
abbrev pub names_earlier : ℕ → ℕ → EntryLine → Bool
names_earlier c j e = list_any (λ i. nat_lt i j) (call_named c e.found)

-- what was shown last, as version and news
abbrev pub NotBelow : Option (ℕ × ℕ) → ℕ → ℕ → Type 0
NotBelow None v w = Unit {0}
NotBelow (Some p) v w = (p.0 ≤ v) × (p.1 ≤ w)

pub record ShowsVersion (r : ℕ) (es : List EntryLine) (c j : ℕ) (last : Option (ℕ × ℕ)) (v w : ℕ) : Type 0 where
  pub exists : v ≤ versions_made r es
  pub not_below : NotBelow last v w
  pub since_entry : versions_made r (up_to_last (names_earlier c j) es) ≤ v
  pub news : 2 * v ≤ w

-- a client's lines on a session, behind the line before and what was shown last
abbrev pub VersionsFit : ℕ → List EntryLine → ℕ → Bool → Option How → Option (ℕ × ℕ) → List (ℕ × How) → Type 0
VersionsFit r es c patient before last [] = Unit {0}
VersionsFit r es c patient before last ((j, Trial t) ∷ ls) = VersionsFit r es c patient (Some (Trial t)) last ls
VersionsFit r es c patient before last ((j, Fresh v w) ∷ ls) =
    ShowsVersion r es c j last v w × VersionsFit r es c patient (Some (Fresh v w)) (Some (v, w)) ls
VersionsFit r es c patient before last ((j, Kept v w) ∷ ls) =
    ShowsVersion r es c j last v w × (patient ≡ false) × ((before ≡ Some (Fresh v w)) ⊎ (before ≡ Some (Kept v w)))
    × VersionsFit r es c patient (Some (Kept v w)) (Some (v, w)) ls

-- ---- all seven

pub record SessionFits (m : Meaning) (r : RunReport) (n : ℕ) (task : Task) (part : SessionPart) : Type 0 where
  pub legal : AreLegal task.theme part.entries
  pub judged : AllByRecursion (IsJudged m task.judge) part.entries
  pub searched : IsSearched task.theme part
  pub calls_fit : CallsFit r n part.entries
  pub versions_fit : Each (λ c s p. VersionsFit task.theme.repeat part.entries c s.patient None None (lines_on n p.calls)) 0 m.clients r.clients

pub record Fits (m : Meaning) (r : RunReport) : Type 0 where
  pub parts : HasParts m r
  pub stores : HasStores m r
  pub sessions : Each (SessionFits m r) 0 m.tasks r.sessions
