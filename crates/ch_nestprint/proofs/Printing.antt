-- What is known of a printed program.
use Rattle.std.proofs.Common.{◌≡◌, ℕ, List, Result, Ok, Err, IfOk, sym, subst}
use Rattle.std.specs.Bool.{IsTrue}
use Rattle.ch_nest.specs.LoopNest.{LoopNest}
use Rattle.ch_nest.specs.Shape.{is_nest}
use Rattle.ch_nest.specs.declared.nest.Fill.{Fill}
use Rattle.ch_nestprint.specs.Back.{IsReadAs}
use Rattle.ch_nestprint.specs.Cuts.{Shows}
use Rattle.ch_nestprint.specs.Printable.{IsPrintable}
use Rattle.ch_nestprint.specs.Printed.{program_symbols, program_text}
use Rattle.ch_nestprint.proofs.AllSymbols.{program_tokens}
use Rattle.ch_nestprint.proofs.ProgramRead.{read_back}
use Rattle.ch_nestprint.proofs.Told.{told}

pub shows : {E : Type 0} (name : List ℕ) (nest : LoopNest) (fills : List Fill) (r : Result (List ℕ) E) → IfOk r (λ text. text ≡ program_text name nest fills)
    → IsTrue (is_nest nest) → IsPrintable name nest.arrays fills → IfOk r (λ text. Shows text (program_symbols name nest fills))
shows name nest fills (Err e) h formed p = tt
shows name nest fills (Ok text) h formed p =
    subst (λ (t : List ℕ). Shows t (program_symbols name nest fills)) (sym h) (told (program_symbols name nest fills) (program_tokens name nest fills formed p))

pub reads : {E : Type 0} (name : List ℕ) (nest : LoopNest) (fills : List Fill) (r : Result (List ℕ) E) → IfOk r (λ text. text ≡ program_text name nest fills)
    → IsTrue (is_nest nest) → IsPrintable name nest.arrays fills → IfOk r (λ text. IsReadAs text name nest fills)
reads name nest fills (Err e) h formed p = tt
reads name nest fills (Ok text) h formed p = read_back text name nest fills formed p (shows {E = ℕ} name nest fills (Ok text) h formed p)
