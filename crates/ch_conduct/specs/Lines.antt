-- Scripts, and the lines and entries of a report.
use Rattle.std.specs.Prelude.{ℕ, suc, ◌+◌, ◌||◌, eqb, Bool, List, [], ◌∷◌, ◌++◌, map, filter, replicate, Option, Some, None, if◌then◌else◌}
use Rattle.std.specs.List.{list_any, range_with_len}
use Rattle.ch_conduct.specs.Meaning.{Meaning, program_of}
use Rattle.ch_conduct.specs.declared.report.CallLine.{CallLine}
use Rattle.ch_conduct.specs.declared.report.How.{How}
use Rattle.ch_rank.specs.declared.outcome.Costed.{Costed}
use Rattle.ch_rank.specs.declared.outcome.Outcome.{Outcome}
use Rattle.ch_rank.specs.declared.outcome.Outcome.TheVariants as outcomes
use Rattle.ch_report.specs.declared.part.EntryLine.{EntryLine}
use Rattle.ch_report.specs.declared.part.Found.{Found}
use Rattle.ch_report.specs.declared.part.Found.TheVariants.{Cost, Refused}
use Rattle.ch_workload.specs.declared.calls.CallDecl.{CallDecl}
use Rattle.ch_workload.specs.declared.client.Script.{Script}

-- ---- lists with the places of their elements

-- two lists in step
abbrev pub Each : {A B : Type 0} → (ℕ → A → B → Type 0) → ℕ → List A → List B → Type 0
Each P k [] [] = Unit {0}
Each P k [] (y ∷ ys) = ⊥
Each P k (x ∷ xs) [] = ⊥
Each P k (x ∷ xs) (y ∷ ys) = P k x y × Each P (suc k) xs ys

abbrev pub EachAt : {A : Type 0} → (ℕ → A → Type 0) → ℕ → List A → Type 0
EachAt P k [] = Unit {0}
EachAt P k (x ∷ xs) = P k x × EachAt P (suc k) xs

-- ---- scripts

-- the sessions that a script calls, call by call
abbrev pub sessions_called : List CallDecl → List ℕ
sessions_called [] = []
sessions_called (d ∷ ds) = replicate d.times d.session ++ sessions_called ds

-- the programs that it runs, call by call
abbrev pub programs_run : Meaning → Script → List ℕ
programs_run m s = map (program_of m) (sessions_called s.calls)

-- and each of them once, in the order of the deck
abbrev pub programs_called : Meaning → Script → List ℕ
programs_called m s = filter (λ p. list_any (eqb p) (programs_run m s)) (range_with_len 0 m.programs)

-- how often a number stands in a list
abbrev pub times_in : ℕ → List ℕ → ℕ
times_in n [] = 0
times_in n (x ∷ xs) = if eqb n x then suc (times_in n xs) else times_in n xs

-- ---- a client's lines on one session

-- each with its call's number, counted on from j
abbrev pub lines_from : ℕ → ℕ → List CallLine → List (ℕ × How)
lines_from n j [] = []
lines_from n j (l ∷ ls) = if eqb l.session n then (j, l.how) ∷ lines_from n (j + 1) ls else lines_from n (j + 1) ls

-- calls are counted from 1
abbrev pub lines_on : ℕ → List CallLine → List (ℕ × How)
lines_on n ls = lines_from n 1 ls

-- the last of them
abbrev pub last_line : List (ℕ × How) → Option How
last_line [] = None
last_line (l ∷ []) = Some l.1
last_line (l ∷ k ∷ ls) = last_line (k ∷ ls)

-- ---- the entries of one session

abbrev pub outcome_of : Found → Outcome
outcome_of (Cost c j x) = outcomes.Cost x
outcome_of (Refused r) = outcomes.Refused

abbrev pub costed_of : EntryLine → Costed
costed_of e = record { trial = e.trial; outcome = outcome_of e.found }

-- the call of the client c that an entry names
abbrev pub call_named : ℕ → Found → List ℕ
call_named c (Cost d j x) = if eqb d c then j ∷ [] else []
call_named c (Refused r) = []

-- the calls of c that the entries name, in their order
abbrev pub calls_named : ℕ → List EntryLine → List ℕ
calls_named c [] = []
calls_named c (e ∷ es) = call_named c e.found ++ calls_named c es

abbrev pub names_call : ℕ → ℕ → EntryLine → Bool
names_call c j e = list_any (eqb j) (call_named c e.found)

-- the front of a list up to the last element that passes
abbrev pub up_to_last : {A : Type 0} → (A → Bool) → List A → List A
up_to_last p [] = []
up_to_last p (x ∷ xs) = if p x || list_any p xs then x ∷ up_to_last p xs else []
