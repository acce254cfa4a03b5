-- What is answered to what was read.
use Rattle.std.proofs.Common.{◌≡◌, ℕ, true, false, List, [], length, take, drop, Some, None, IfSome, Option, refl, ap, ◌∙◌, subst, arith, inl, inr}
use Rattle.std.proofs.lemmas.Bool.{cases_lt, lt-ltb}
use Rattle.std.proofs.lemmas.List.{length-take-le, take_all}
use Rattle.std.specs.Io.KnownBytes.{Appends}
use Rattle.ch_deck.specs.Decks.{deck_of}
use Rattle.ch_deck.specs.Limits.{most_bytes}
use Rattle.ch_io.specs.Streams.{AppendsPart}
use Rattle.ch_demo.specs.Summaries.{IsDemoText}
use Rattle.ch_words.specs.Requests.{reads_input}
use Rattle.ch_words.specs.declared.request.Request.{Request}
use Rattle.ch_words.specs.declared.request.Request.TheVariants.{Eval, Check, Show, Search, Run, Replay, Demo}
use Rattle.ch_run.specs.Answers.{Answers, AnswersInPart, AnswersRequest, IsAnswer, input_of, most_read, read_by}

-- one byte more than the limit decides
deck-take : (all : List ℕ) → deck_of (take most_read all) ≡ deck_of all
unfolding deck_of
deck-take all = elim (cases_lt most_bytes (length all)) as (λ _. deck_of (take most_read all) ≡ deck_of all) [
  | inl long ↦ let n : length (take most_read all) ≡ most_read = length-take-le most_read all (omega arith) in
      rw (lt-ltb most_bytes (length all) long, lt-ltb most_bytes (length (take most_read all)) (omega arith))
  | inr short ↦ rw (take_all most_read all (omega arith))
]

deck-read : (all read : List ℕ) → read ≡ take most_read all → deck_of read ≡ deck_of all
deck-read all read r = ap deck_of r ∙ deck-take all

-- what is answered to an input, of a request that reads one
of_input : (q : Request) (bytes text : List ℕ) (status : ℕ) → reads_input q ≡ true → IsAnswer q (deck_of bytes) status text → AnswersRequest q bytes status text
of_input (Eval sums) bytes text status h a = a
of_input (Check at) bytes text status h a = a
of_input (Show at) bytes text status h a = a
of_input Search bytes text status h a = a
of_input (Run builders sums) bytes text status h a = a
of_input Replay bytes text status h a = a
of_input (Demo number) bytes text status h a = absurd cc

pub answered : (q : Request) (left old new : Option (List ℕ)) (read text : List ℕ) (status : ℕ) → reads_input q ≡ true → IfSome left (λ all. read ≡ take 1048577 all)
    → IsAnswer q (deck_of read) status text → Appends old new text → IfSome left (λ bytes. Answers q bytes old new status)
answered q None old new read text status i r a w = tt
answered q (Some all) old new read text status i r a w = record {
  text = text;
  answers = of_input q all text status i (subst (λ d. IsAnswer q d status text) (deck-read all read r) a);
  appended = w;
}

pub answered_part : (q : Request) (left old new : Option (List ℕ)) (read text : List ℕ) (status : ℕ) → reads_input q ≡ true → IfSome left (λ all. read ≡ take 1048577 all)
    → IsAnswer q (deck_of read) status text → AppendsPart old new text → IfSome left (λ bytes. AnswersInPart q bytes old new)
answered_part q None old new read text status i r a w = tt
answered_part q (Some all) old new read text status i r a w = record {
  status = status;
  text = text;
  answers = of_input q all text status i (subst (λ d. IsAnswer q d status text) (deck-read all read r) a);
  appended = w;
}

-- what is answered to a number
pub told_number : (number : ℕ) (old new : Option (List ℕ)) (text : List ℕ) → IsDemoText number text → Appends old new text → Answers (Demo number) [] old new 0
told_number number old new text t w = record { text = text; answers = (refl, t); appended = w }

pub told_number_part : (number : ℕ) (old new : Option (List ℕ)) (text : List ℕ) → IsDemoText number text → AppendsPart old new text → AnswersInPart (Demo number) [] old new
told_number_part number old new text t w = record { status = 0; text = text; answers = (refl, t); appended = w }

-- a fact of the input of a request that reads one
pub of_reading : (P : List ℕ → Type 0) (q : Request) (left : Option (List ℕ)) → reads_input q ≡ true → IfSome left P → IfSome (input_of q left) P
of_reading P q left h f = rw h f

-- where the whole input is read
pub all_read : (q : Request) (left new : Option (List ℕ)) → reads_input q ≡ true → IfSome left (λ bytes. new ≡ Some (drop most_read bytes))
    → IfSome left (λ bytes. new ≡ Some (drop (read_by q) bytes))
all_read q left new h f = rw h f

-- where nothing is read
pub none_read : (number : ℕ) (left new : Option (List ℕ)) → new ≡ left → IfSome left (λ bytes. new ≡ Some (drop (read_by (Demo number)) bytes))
none_read number None new e = tt
none_read number (Some all) new e = e

pub not_both : (q : Request) → reads_input q ≡ true → reads_input q ≡ false → ⊥
not_both q h f = cc
