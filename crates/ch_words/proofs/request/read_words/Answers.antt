use Rattle.std.proofs.Common.{◌≡◌, ◌∙◌, inl, inr, List, map, string_bytes}
use Rattle.clap.specs.Words.{Text, fault_of, matches_of, kind_of}
use Rattle.ch_words.specs.CommandLine.{stated}
use Rattle.ch_words.specs.Requests.{request_in}
use Rattle.ch_words.proofs.Decisions.{by_fault}
use Rattle.ch_words.proofs.request.read_words.Goals as goal

pub returns : goal.returns
returns c =
    let texts : List Text = map string_bytes c.args.words.now in
    elim c.in-Err.ensures.faults [
      | inl memory ↦ absurd (c.in_default.not-OutOfMemory (c.kind.ensures ∙ memory))
      | inr among ↦ by_fault (fault_of stated texts) (kind_of c.in-Err.error) (request_in (matches_of stated texts)) among
    ]
