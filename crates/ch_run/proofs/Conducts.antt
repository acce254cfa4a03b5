-- The conduct of a run, by what its words call for.
use Rattle.std.proofs.Common.{◌≡◌, ◌≢◌, ◌≤◌, ◌⊎◌, ℕ, List, Option, Some, None, IfSome, ap, drop, inl, inr, arith}
use Rattle.std.specs.Io.KnownBytes.{Appends}
use Rattle.ch_io.specs.Faults.{HasRisen}
use Rattle.ch_io.specs.Streams.{AppendsPart}
use Rattle.ch_run.specs.Answers.{Answers, AnswersInPart, input_of, read_by}
use Rattle.ch_run.specs.Requests.{asked_of}
use Rattle.ch_words.specs.Usage.{usage}
use Rattle.ch_run.specs.Conduct.{Conduct, IsWhole, Standing}
use Rattle.ch_words.specs.declared.request.Request.{Request}

-- the status is none but 2 and 4
small : (status : ℕ) → (status ≡ 2) ⊎ (status ≡ 4) → status ≤ 6
small status (inl e) = omega (arith, e)
small status (inr e) = omega (arith, e)

large : (status : ℕ) → (status ≡ 2) ⊎ (status ≡ 4) → IsWhole status → ⊥
large status (inl e) (inl l) = omega (arith, e, l)
large status (inl e) (inr l) = omega (arith, e, l)
large status (inr e) (inl l) = omega (arith, e, l)
large status (inr e) (inr l) = omega (arith, e, l)

not_five : (status : ℕ) → status ≡ 5 → IsWhole status → ⊥
not_five status e (inl l) = omega (arith, e, l)
not_five status e (inr l) = omega (arith, e, l)

no_three : (status : ℕ) → (status ≡ 2) ⊎ (status ≡ 4) → status ≡ 3 → ⊥
no_three status (inl e) h = omega (arith, e, h)
no_three status (inr e) h = omega (arith, e, h)

no_five : (status : ℕ) → (status ≡ 2) ⊎ (status ≡ 4) → status ≡ 5 → ⊥
no_five status (inl e) h = omega (arith, e, h)
no_five status (inr e) h = omega (arith, e, h)

usable : (status : ℕ) → (status ≡ 2) ⊎ (status ≡ 4) → (status ≡ 2) ⊎ ((status ≡ 4) ⊎ (status ≡ 5))
usable status (inl e) = inl e
usable status (inr e) = inr (inl e)

-- no memory to read the words
pub without_memory : (words : List (List ℕ)) (old new : Standing) (status : ℕ) → status ≡ 5 → new ≡ old → Conduct words old new status
without_memory words old new status e same = record {
  known = omega (arith, e);
  answer = λ l. absurd (not_five status e l);
  read = λ l. absurd (not_five status e l);
  usage_line = λ h. absurd (omega (arith, e, h));
  other_words = λ h. absurd (omega (arith, e, h));
  usable_words = λ _. inr (inr e);
  read_fault = λ h. absurd (omega (arith, e, h));
  read_nothing = λ h. absurd (omega (arith, e, h));
  write_fault = λ h. absurd (omega (arith, e, h));
  write_part = λ h. absurd (omega (arith, e, h));
  usage_part = λ h. absurd (omega (arith, e, h));
  memory = λ _. ap (λ s. s.taken) same;
}

-- no request: the usage line
pub told_usage : (words : List (List ℕ)) (old new : Standing) (status : ℕ) → asked_of words ≡ None → (status ≡ 2) ⊎ (status ≡ 4)
    → (status ≡ 2 → Appends old.taken new.taken usage) → (status ≡ 4 → AppendsPart old.taken new.taken usage) → (status ≡ 4 → HasRisen old.writes_failed new.writes_failed)
    → Conduct words old new status
told_usage words old new status none known line part cause = record {
  known = small status known;
  answer = λ l. absurd (large status known l);
  read = λ l. absurd (large status known l);
  usage_line = line;
  other_words = λ _. none;
  usable_words = λ _. usable status known;
  read_fault = λ h. absurd (no_three status known h);
  read_nothing = λ h. absurd (no_three status known h);
  write_fault = cause;
  write_part = λ _. rw none tt;
  usage_part = λ h _. part h;
  memory = λ h. absurd (no_five status known h);
}

some_none : {A : Type 0} (c : A) (o : Option A) → o ≡ Some c → o ≡ None → ⊥
some_none c o s n = cc

-- a request that was carried out
pub carried : (words : List (List ℕ)) (r : Request) (old new : Standing) (status : ℕ) → asked_of words ≡ Some r → status ≤ 6 → status ≢ 2
    → (IsWhole status → IfSome (input_of r old.left) (λ bytes. Answers r bytes old.taken new.taken status))
    → (IsWhole status → IfSome old.left (λ bytes. new.left ≡ Some (drop (read_by r) bytes)))
    → (status ≡ 3 → HasRisen old.reads_failed new.reads_failed) → (status ≡ 3 → new.taken ≡ old.taken) → (status ≡ 4 → HasRisen old.writes_failed new.writes_failed)
    → (status ≡ 4 → IfSome (input_of r old.left) (λ bytes. AnswersInPart r bytes old.taken new.taken)) → (status ≡ 5 → new.taken ≡ old.taken) → Conduct words old new status
carried words r old new status some known other answer read read_fault read_nothing write_fault write_part memory = record {
  known = known;
  answer = λ l. rw some (answer l);
  read = λ l. rw some (read l);
  usage_line = λ h. absurd (other h);
  other_words = λ h. absurd (other h);
  usable_words = λ none. absurd (some_none r (asked_of words) some none);
  read_fault = read_fault;
  read_nothing = read_nothing;
  write_fault = write_fault;
  write_part = λ h. rw some (write_part h);
  usage_part = λ h none. absurd (some_none r (asked_of words) some none);
  memory = memory;
}
