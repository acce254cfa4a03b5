-- A number has one text, since each search comes to one thing.
use Rattle.std.proofs.Common.{◌≡◌, ◌∙◌, sym, ap, ℕ, List, ◌++◌}
use Rattle.ch_demo.specs.Generated.{generated}
use Rattle.ch_demo.specs.Summaries.{IsDemoText, last_line, summary_line}
use Rattle.ch_search.proofs.Unique.{same_parts}
use Rattle.ch_search.specs.Searched.{lines_of}

pub same_text : (number : ℕ) (one other : List ℕ) → IsDemoText number one → IsDemoText number other → one ≡ other
same_text number one other a b =
    let same = same_parts (generated number) 0 (generated number).sessions a.parts b.parts a.searched b.searched in
    a.told ∙ ap (λ parts. lines_of summary_line (generated number).sessions parts ++ last_line number) same ∙ sym b.told
