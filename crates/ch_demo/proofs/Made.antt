-- What the sessions of the deck that is made from a number name.
use Rattle.std.proofs.Common.{◌≡◌, ◌∙◌, sym, ap, subst, refl, ℕ, zero, suc, ◌+◌, ◌<◌, ◌≤◌, ◌≢◌, Bool, true, false, ◌||◌, cond, nat_eq, Some, None, Option, List, [], ◌∷◌, ◌++◌, codes, length, map, get_or, slice_get, arith}
use Rattle.std.specs.List.{list_any, range_with_len}
use Rattle.std.specs.Option.{option_map_or}
use Rattle.std.proofs.lemmas.Bool.Decides.{nat_tests}
use Rattle.std.proofs.lemmas.List.FromFn.{get_or-map-range_with_len, length-map-range_with_len}
use Rattle.std.proofs.lemmas.Option.{slice_get-get_or}
use Rattle.ch_deck.specs.declared.program.Program.{Program}
use Rattle.ch_demo.specs.Generated.{count_of, generated, program_of, session_of, size_of, sizes_tried, turns_alone, two_tiles}
use Rattle.ch_demo.specs.Product.{product}
use Rattle.ch_grid.specs.declared.param.Param.{Param}
use Rattle.ch_judge.specs.Judged.{judged_at}
use Rattle.ch_nest.specs.CostModel.{CostModel}
use Rattle.ch_nest.specs.LoopNest.{LoopNest}
use Rattle.ch_print.specs.Numbers.{number_text}
use Rattle.ch_report.specs.declared.part.SessionPart.{SessionPart}
use Rattle.ch_script.specs.Recipes.{RecipeParts}
use Rattle.ch_search.specs.Parts.{IsPart}
use Rattle.ch_search.proofs.Sessions.{as_part}
use Rattle.ch_subject.specs.Subjects.{machine_of, nest_of, no_program}
use Rattle.ch_tune.specs.Tuned.{IsTuned}
use Rattle.ch_variant.specs.Variants.{origin_at}
use Rattle.ch_workload.specs.Tuned.{tuned}
use Rattle.ch_workload.specs.declared.calls.CallDecl.{CallDecl}

pub session_there : (number k : ℕ) → k < count_of number → session_of k ≡ get_or (generated number).sessions k (session_of k)
session_there number k l = sym (get_or-map-range_with_len session_of 0 (count_of number) k k (session_of k) l (omega arith))

pub sessions_long : (number : ℕ) → length (generated number).sessions ≡ count_of number
sessions_long number = length-map-range_with_len session_of 0 (count_of number)

there : (number k : ℕ) → k < count_of number → slice_get (generated number).programs k ≡ Some (program_of number k)
there number k l =
    let long : length (generated number).programs ≡ count_of number = length-map-range_with_len (program_of number) 0 (count_of number) in
    slice_get-get_or (generated number).programs k (program_of number k) (omega (arith, long, l))
    ∙ ap Some (get_or-map-range_with_len (program_of number) 0 (count_of number) k k (program_of number k) l (omega arith))

named : (number k : ℕ) → k < count_of number → nest_of (generated number) (session_of k) ≡ product (size_of number k)
named number k l = ap (λ (o : Option Program). (option_map_or (λ (p : Program). p) o no_program).nest) (there number k l)

abbrev call : ℕ → CallDecl
call k = record { session = k; times = 1 }

differ : (a k : ℕ) → nat_eq a k ≡ false → a ≢ k
differ a k h = grind (arith, nat_tests)

calls_each : (a n k : ℕ) → a ≤ k → k < a + n → list_any (λ (c : CallDecl). nat_eq c.session k) (map call (range_with_len a n)) ≡ true
calls_each a zero k l h = absurd (omega (arith, l, h))
calls_each a (suc n) k l h =
    at (nat_eq a k) (list_any (λ (c : CallDecl). nat_eq c.session k) (map call (range_with_len (a + 1) n)))
    (λ e. let d = differ a k e in calls_each (a + 1) n k (omega (arith, l, d)) (omega (arith, h)))
  where
    at : (b c : Bool) → (b ≡ false → c ≡ true) → (b || c) ≡ true
    at true c f = refl
    at false c f = f refl

called : (number k : ℕ) → k < count_of number → machine_of (generated number).clients k ≡ turns_alone
called number k l = ap (λ (b : Bool). cond b turns_alone (machine_of [] k)) (calls_each 0 (count_of number) k (omega arith) (omega (arith, l)))

pub as_session : (number k : ℕ) (params : List Param) (m : CostModel) (nest : LoopNest) (recipe : RecipeParts) (part : SessionPart) → k < count_of number
    → params ≡ sizes_tried → m ≡ turns_alone → nest ≡ product (size_of number k) → recipe ≡ two_tiles
    → IsTuned params 1 (λ point. judged_at m nest (origin_at recipe params point)) part → IsPart (generated number) k (session_of k) part
as_session number k params m nest recipe part l sizes machine made by done =
    as_part (generated number) k (session_of k) (tuned (codes "s" ++ number_text k) k 0 params 1) m nest recipe part
    (ap (λ ps. tuned (codes "s" ++ number_text k) k 0 ps 1) sizes) (machine ∙ sym (called number k l)) (made ∙ sym (named number k l)) by done
