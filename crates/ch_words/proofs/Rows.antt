-- What some words ask for.
use Rattle.std.proofs.Common.{◌≡◌, refl, ℕ, pos, negsuc, true, false, List, [], ◌∷◌, codes}
use Rattle.std.specs.Prelude.{Option, Some, None}
use Rattle.clap.proofs.OnLiterals.{clap_on_literals}
use Rattle.ch_words.specs.declared.request.Request.TheVariants.{Eval, Check, Show, Search, Run, Replay, Demo}
use Rattle.ch_words.specs.Requests.{request_of}

no_words : request_of [] ≡ None
unfolding clap_on_literals
no_words = refl

help : request_of (codes "--help" ∷ []) ≡ None
unfolding clap_on_literals
help = refl

another_command : request_of (codes "prove" ∷ []) ≡ None
unfolding clap_on_literals
another_command = refl

two_commands : request_of (codes "eval" ∷ codes "show" ∷ []) ≡ None
unfolding clap_on_literals
two_commands = refl

bare_eval : request_of (codes "eval" ∷ []) ≡ Some (Eval false)
unfolding clap_on_literals
bare_eval = refl

option_before_the_command : request_of (codes "--arrays" ∷ codes "sum" ∷ codes "eval" ∷ []) ≡ Some (Eval true)
unfolding clap_on_literals
option_before_the_command = refl

all_arrays : request_of (codes "eval" ∷ codes "--arrays=all" ∷ []) ≡ Some (Eval false)
unfolding clap_on_literals
all_arrays = refl

other_arrays : request_of (codes "eval" ∷ codes "--arrays=sums" ∷ []) ≡ None
unfolding clap_on_literals
other_arrays = refl

abbreviated : request_of (codes "eval" ∷ codes "--arr=sum" ∷ []) ≡ None
unfolding clap_on_literals
abbreviated = refl

unused : request_of (codes "eval" ∷ codes "--at=1" ∷ []) ≡ None
unfolding clap_on_literals
unused = refl

centre : request_of (codes "check" ∷ []) ≡ Some (Check None)
unfolding clap_on_literals
centre = refl

place : request_of (codes "show" ∷ codes "--at" ∷ codes "3,-4,007" ∷ []) ≡ Some (Show (Some (pos 3 ∷ negsuc 3 ∷ pos 7 ∷ [])))
unfolding clap_on_literals
place = refl

minus_apart : request_of (codes "check" ∷ codes "--at" ∷ codes "-1" ∷ []) ≡ None
unfolding clap_on_literals
minus_apart = refl

minus_attached : request_of (codes "check" ∷ codes "--at=-1" ∷ []) ≡ Some (Check (Some (negsuc 0 ∷ [])))
unfolding clap_on_literals
minus_attached = refl

minus_0 : request_of (codes "check" ∷ codes "--at=-0" ∷ []) ≡ None
unfolding clap_on_literals
minus_0 = refl

two_signs : request_of (codes "check" ∷ codes "--at=--1" ∷ []) ≡ None
unfolding clap_on_literals
two_signs = refl

plus : request_of (codes "check" ∷ codes "--at=+1" ∷ []) ≡ None
unfolding clap_on_literals
plus = refl

least : request_of (codes "check" ∷ codes "--at=-1048576" ∷ []) ≡ Some (Check (Some (negsuc 1048575 ∷ [])))
unfolding clap_on_literals
least = refl

too_large : request_of (codes "check" ∷ codes "--at=1048577" ∷ []) ≡ None
unfolding clap_on_literals
too_large = refl

empty_list : request_of (codes "check" ∷ codes "--at=" ∷ []) ≡ None
unfolding clap_on_literals
empty_list = refl

comma_at_the_end : request_of (codes "check" ∷ codes "--at=1," ∷ []) ≡ None
unfolding clap_on_literals
comma_at_the_end = refl

blank : request_of (codes "check" ∷ codes "--at=1, 2" ∷ []) ≡ None
unfolding clap_on_literals
blank = refl

bare_search : request_of (codes "search" ∷ []) ≡ Some Search
unfolding clap_on_literals
bare_search = refl

replay : request_of (codes "replay" ∷ []) ≡ Some Replay
unfolding clap_on_literals
replay = refl

bare_run : request_of (codes "run" ∷ []) ≡ Some (Run 1 false)
unfolding clap_on_literals
bare_run = refl

full_run : request_of (codes "run" ∷ codes "--builders" ∷ codes "8" ∷ codes "--arrays=sum" ∷ []) ≡ Some (Run 8 true)
unfolding clap_on_literals
full_run = refl

nine_builders : request_of (codes "run" ∷ codes "--builders=9" ∷ []) ≡ None
unfolding clap_on_literals
nine_builders = refl

twice : request_of (codes "run" ∷ codes "--builders" ∷ codes "1" ∷ codes "--builders=2" ∷ []) ≡ None
unfolding clap_on_literals
twice = refl

no_number : request_of (codes "demo" ∷ []) ≡ None
unfolding clap_on_literals
no_number = refl

leading_zero : request_of (codes "demo" ∷ codes "--number" ∷ codes "02" ∷ []) ≡ Some (Demo 2)
unfolding clap_on_literals
leading_zero = refl

largest_number : request_of (codes "demo" ∷ codes "--number=4294967295" ∷ []) ≡ Some (Demo 4294967295)
unfolding clap_on_literals
largest_number = refl

number_too_large : request_of (codes "demo" ∷ codes "--number=4294967296" ∷ []) ≡ None
unfolding clap_on_literals
number_too_large = refl
