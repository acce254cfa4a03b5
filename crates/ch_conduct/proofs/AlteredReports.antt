-- An example: reports that differ in one place from the patient client's. None of them fits, each for the sentence that this place breaks.
use Rattle.std.proofs.Common.{◌≡◌, ℕ, ◌≤◌, List, [], ◌∷◌, Option, Some, None, refl, ap, arith, Bool, true, false}
use Rattle.std.specs.Prelude.{ℤ, pos, nat_abs, length, nat_eq, nat_le, slice_index, slice_index_or}
use Rattle.std.proofs.lemmas.Bool.Decides.{nat_tests}
use Rattle.ch_conduct.specs.Fits.{Fits}
use Rattle.ch_conduct.specs.declared.report.CallLine.{CallLine}
use Rattle.ch_conduct.specs.declared.report.How.{How}
use Rattle.ch_conduct.specs.declared.report.How.TheVariants.{Trial, Fresh, Kept}
use Rattle.ch_conduct.specs.declared.report.RunReport.{RunReport}
use Rattle.ch_conduct.proofs.PatientAlone.{meaning, line, lines, entry, entries_s, report_of}
use Rattle.ch_grid.specs.Grid.{size}
use Rattle.ch_rank.specs.Bound.{bound, halvings}
use Rattle.ch_rank.specs.Search.{play, search_on}
use Rattle.ch_report.specs.declared.part.EntryLine.{EntryLine}
use Rattle.ch_report.specs.declared.part.SessionPart.{SessionPart}

abbrev Refuted : RunReport → Type 0
Refuted r = Fits meaning r → ⊥

-- the calls with this line in the fourth place, or in the first
abbrev with_fourth : How → List CallLine
with_fourth how = line 0 (Trial 0) ∷ line 0 (Trial 1) ∷ line 0 (Trial 2) ∷ line 0 how ∷ line 1 (Trial 0) ∷ line 1 (Fresh 1 2) ∷ []

abbrev with_first : How → List CallLine
with_first how = line 0 how ∷ line 0 (Trial 1) ∷ line 0 (Trial 2) ∷ line 0 (Fresh 1 4) ∷ line 1 (Trial 0) ∷ line 1 (Fresh 1 2) ∷ []

abbrev with_entry : EntryLine → List EntryLine
with_entry e = e ∷ entry 1 2 2 4 ∷ entry 2 0 3 4 ∷ []

differ : (a b : ℕ) → nat_eq a b ≡ false → a ≡ b → ⊥
differ a b t e = grind (arith, nat_tests)

above : (a b : ℕ) → nat_le a b ≡ false → a ≤ b → ⊥
above a b t l = grind (arith, nat_tests)

bit : Bool → ℕ
bit true = 1
bit false = 0

kind_of : How → ℕ
kind_of (Trial t) = 0
kind_of (Fresh v w) = 1
kind_of (Kept v w) = 2

kind : Option CallLine → ℕ
kind None = 3
kind (Some l) = kind_of l.how

-- another cell
cell : Refuted (report_of lines (pos 129) entries_s 2)
cell f = differ 129 128 refl (ap (λ (zs : List ℤ). nat_abs (slice_index_or zs 1 (pos 0))) f.stores.0.0)

-- an entry of a trial that isn't pending
trial : Refuted (report_of lines (pos 128) (with_entry (entry 3 1 1 4)) 2)
unfolding bit search_on play bound halvings size
trial f = differ 0 1 refl (ap bit f.sessions.0.legal.0)

-- another point
other_point : Refuted (report_of lines (pos 128) (with_entry (entry 0 2 1 4)) 2)
unfolding search_on play bound halvings size
other_point f = differ 2 1 refl (ap (λ (p : List ℕ). slice_index p 0) f.sessions.0.legal.1.0)

-- another cost
cost : Refuted (report_of lines (pos 128) (with_entry (entry 0 1 1 5)) 2)
cost f = differ 5 4 refl (f.sessions.0.judged.0.1)

-- another number of steps
steps : Refuted (report_of lines (pos 128) entries_s 3)
unfolding search_on play bound halvings size
steps f = differ 3 2 refl (ap (λ (p : SessionPart). p.steps) f.sessions.0.searched)

-- a call that measured a trial is shown as fresh: its entry names no such call
unnamed : Refuted (report_of (with_first (Fresh 0 0)) (pos 128) entries_s 2)
unfolding kind kind_of
unnamed f = differ 1 0 refl (ap kind f.sessions.0.calls_fit.names.0)

-- two entries name one call
twice : Refuted (report_of lines (pos 128) (entry 0 1 1 4 ∷ entry 1 2 1 4 ∷ entry 2 0 3 4 ∷ []) 2)
twice f = differ 2 1 refl (ap (λ (ts : List ℕ). length ts) f.sessions.0.calls_fit.named.0.0)

-- the entries of two calls in the other order
order : Refuted (report_of (line 0 (Trial 1) ∷ line 0 (Trial 0) ∷ line 0 (Trial 2) ∷ line 0 (Fresh 1 4) ∷ line 1 (Trial 0) ∷ line 1 (Fresh 1 2) ∷ []) (pos 128) (entry 0 1 2 4 ∷ entry 1 2 1 4 ∷ entry 2 0 3 4 ∷ []) 2)
order f = above 2 1 refl (f.sessions.0.calls_fit.order.0.0.0)

-- a version that isn't there
version : Refuted (report_of (with_fourth (Fresh 2 4)) (pos 128) entries_s 2)
version f = above 2 1 refl (f.sessions.0.versions_fit.0.0.exists)

-- a version from before the client's own entry
older : Refuted (report_of (with_fourth (Fresh 0 4)) (pos 128) entries_s 2)
older f = above 1 0 refl (f.sessions.0.versions_fit.0.0.since_entry)

-- too few news
news : Refuted (report_of (with_fourth (Fresh 1 1)) (pos 128) entries_s 2)
news f = above 2 1 refl (f.sessions.0.versions_fit.0.0.news)

-- a patient client that keeps
kept : Refuted (report_of (with_fourth (Kept 1 4)) (pos 128) entries_s 2)
unfolding bit
kept f = differ 1 0 refl (ap bit f.sessions.0.versions_fit.0.1)
