-- What is asked for is answered, and its values are small.
use Rattle.std.proofs.Common.{◌≡◌, ℕ, List, Option, Some, None, sym, ap, subst}
use Rattle.std.specs.Prelude.{IfSome, option_and_then}
use Rattle.ch_run.specs.Requests.{answered, asked_of}
use Rattle.ch_words.specs.Requests.{HasSmallValues, request_of}
use Rattle.ch_words.specs.declared.request.Request.{Request}
use Rattle.ch_words.specs.declared.request.Request.TheVariants.{Eval, Check, Show, Search, Run, Replay, Demo}
use Rattle.ch_words.proofs.Small.{small_values}

same : (q r : Request) → answered q ≡ Some r → q ≡ r
same (Eval sums) r h = cc
same (Check at) r h = cc
same (Show at) r h = cc
same Search r h = cc
same (Run builders sums) r h = absurd cc
same Replay r h = absurd cc
same (Demo number) r h = cc

-- a request that was found, of those that are answered
once : (found : Option Request) (r : Request) → option_and_then answered found ≡ Some r → (found ≡ Some r) × (answered r ≡ Some r)
once None r h = absurd cc
once (Some q) r h = let e = same q r h in (ap (λ x. Some x) e, subst (λ x. answered x ≡ Some r) e h)

pub asked_is_answered : (words : List (List ℕ)) (o : Option Request) → o ≡ asked_of words → IfSome o (λ r. answered r ≡ Some r)
asked_is_answered words None e = tt
asked_is_answered words (Some r) e = (once (request_of words) r (sym e)).1

pub asked_is_small : (words : List (List ℕ)) (o : Option Request) → o ≡ asked_of words → IfSome o HasSmallValues
asked_is_small words None e = tt
asked_is_small words (Some r) e = small_values words r ((once (request_of words) r (sym e)).0)
