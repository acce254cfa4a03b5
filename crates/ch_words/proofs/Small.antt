-- The values of `--at` are of a magnitude that is read.
use Rattle.std.proofs.Common.{◌≡◌, refl, subst, ℕ, zero, suc, ◌≤◌, ℤ, pos, neg_ℤ, Bool, true, false, ◌&&◌, if◌then◌else◌, nat_le, List, [], ◌∷◌}
use Rattle.std.specs.Prelude.{Option, Some, None, ◌==◌, IfSome, option_map, option_and_then, unsigned_abs, is_some, codes}
use Rattle.std.specs.List.{All, list_all, list_any, slice_split}
use Rattle.std.proofs.lemmas.Bool.{leb-true, and_parts}
use Rattle.std.proofs.lemmas.List.Elements.{All-nil, All-cons}
use Rattle.std.proofs.lemmas.Option.{option_and_then_some}
use Rattle.clap.specs.Kinds.{Kinds}
use Rattle.clap.specs.Words.{Row, Text, fault_of, first_of, matches_of}
use Rattle.ch_affine.specs.Affine.{IsAtMost}
use Rattle.ch_lex.specs.Bytes.{is_digit, number_of}
use Rattle.ch_words.specs.CommandLine.{stated}
use Rattle.ch_words.specs.Numbers.{natural_of, whole_of, wholes_of, below_zero, largest_value, is_comma, each_read}
use Rattle.ch_words.specs.Options.{Values, builders_of, command_named, deck_number_of, place_of, sums_of, unused_by, values_in}
use Rattle.ch_words.specs.Requests.{HasSmallValues, request_by, request_in, request_of, request_with, run_by, unless_faulty}
use Rattle.ch_words.specs.declared.options.CommandName.{CommandName}
use Rattle.ch_words.specs.declared.options.CommandName.TheVariants as names
use Rattle.ch_words.specs.declared.request.Request.{Request}
use Rattle.ch_words.specs.declared.request.Request.TheVariants.{Eval, Check, Show, Search, Run, Replay, Demo}

abbrev IsRead : ℤ → Type 0
IsRead = IsAtMost largest_value

chosen : (t : Bool) (m n most : ℕ) → (if t then Some m else None) ≡ Some n → (t ≡ true → m ≤ most) → n ≤ most
chosen true m n most h f = let e : m ≡ n = cc in subst (λ x. x ≤ most) e (f refl)
chosen false m n most h f = absurd cc

natural_small : (most : ℕ) (text : Text) (n : ℕ) → natural_of most text ≡ Some n → n ≤ most
natural_small most [] n h = absurd cc
natural_small most (b ∷ bs) n h =
    chosen (list_all is_digit (b ∷ bs) && nat_le (number_of (b ∷ bs)) most) (number_of (b ∷ bs)) n most h (λ t. leb-true _ _ ((and_parts _ _ t).1))

negated : (n : ℕ) → n ≤ largest_value → IsRead (neg_ℤ (pos n))
negated zero l = l
negated (suc n) l = l

below_small : (t : Bool) (n : ℕ) (z : ℤ) → n ≤ largest_value → (if t then None else Some (neg_ℤ (pos n))) ≡ Some z → IsRead z
below_small true n z l h = absurd cc
below_small false n z l h = let e : neg_ℤ (pos n) ≡ z = cc in subst IsRead e (negated n l)

mapped_small : (o : Option ℕ) (z : ℤ) → ((n : ℕ) → o ≡ Some n → n ≤ largest_value) → option_map pos o ≡ Some z → IsRead z
mapped_small None z f h = absurd cc
mapped_small (Some n) z f h = let e : pos n ≡ z = cc in subst IsRead e (f n refl)

signed_small : (t : Bool) (bs all : Text) (z : ℤ)
    → (if t then option_and_then below_zero (natural_of largest_value bs) else option_map pos (natural_of largest_value all)) ≡ Some z → IsRead z
signed_small true bs all z h =
    option_and_then_some below_zero (natural_of largest_value bs) z h (λ n e f. below_small (n == 0) n z (natural_small largest_value bs n e) f)
signed_small false bs all z h = mapped_small (natural_of largest_value all) z (λ n e. natural_small largest_value all n e) h

whole_small : (text : Text) (z : ℤ) → whole_of text ≡ Some z → IsRead z
whole_small [] z h = absurd cc
whole_small (b ∷ bs) z h = signed_small (b == 45) bs (b ∷ bs) z h

more_small : (o : Option (List ℤ)) (z : ℤ) (zs : List ℤ) → IsRead z → ((ys : List ℤ) → o ≡ Some ys → All IsRead ys)
    → option_map (λ ys. z ∷ ys) o ≡ Some zs → All IsRead zs
more_small None z zs s f h = absurd cc
more_small (Some ys) z zs s f h = let e : z ∷ ys ≡ zs = cc in subst (All IsRead) e (All-cons IsRead z ys s (f ys refl))

each_small : (texts : List Text) (zs : List ℤ) → each_read whole_of texts ≡ Some zs → All IsRead zs
each_small [] zs h = let e : [] ≡ zs = cc in subst (All IsRead) e (All-nil IsRead)
each_small (t ∷ ts) zs h =
    option_and_then_some (λ z. option_map (λ ys. z ∷ ys) (each_read whole_of ts)) (whole_of t) zs h
    (λ z e f. more_small (each_read whole_of ts) z zs (whole_small t z e) (λ ys g. each_small ts ys g) f)

given_small : (o : Option (List ℤ)) (at : Option (List ℤ)) → ((zs : List ℤ) → o ≡ Some zs → All IsRead zs)
    → option_map (λ values. Some values) o ≡ Some at → IfSome at (All IsRead)
given_small None at f h = absurd cc
given_small (Some zs) at f h = let e : Some zs ≡ at = cc in subst (λ a. IfSome a (All IsRead)) e (f zs refl)

place_small : (o : Option Text) (at : Option (List ℤ)) → place_of o ≡ Some at → IfSome at (All IsRead)
place_small None at h = let e : None ≡ at = cc in subst (λ a. IfSome a (All IsRead)) e tt
place_small (Some text) at h = given_small (wholes_of text) at (λ zs e. each_small (slice_split is_comma text) zs e) h

checked : (o : Option (Option (List ℤ))) (r : Request) → ((at : Option (List ℤ)) → o ≡ Some at → IfSome at (All IsRead))
    → option_map (λ at. Check at) o ≡ Some r → HasSmallValues r
checked None r f h = absurd cc
checked (Some at) r f h = let e : Check at ≡ r = cc in subst HasSmallValues e (f at refl)

shown : (o : Option (Option (List ℤ))) (r : Request) → ((at : Option (List ℤ)) → o ≡ Some at → IfSome at (All IsRead))
    → option_map (λ at. Show at) o ≡ Some r → HasSmallValues r
shown None r f h = absurd cc
shown (Some at) r f h = let e : Show at ≡ r = cc in subst HasSmallValues e (f at refl)

evaluated : (o : Option Bool) (r : Request) → option_map (λ sums. Eval sums) o ≡ Some r → HasSmallValues r
evaluated None r h = absurd cc
evaluated (Some sums) r h = let e : Eval sums ≡ r = cc in subst HasSmallValues e tt

numbered : (o : Option ℕ) (r : Request) → option_map (λ number. Demo number) o ≡ Some r → HasSmallValues r
numbered None r h = absurd cc
numbered (Some number) r h = let e : Demo number ≡ r = cc in subst HasSmallValues e tt

built : (builders : ℕ) (o : Option Bool) (r : Request) → option_map (λ sums. Run builders sums) o ≡ Some r → HasSmallValues r
built builders None r h = absurd cc
built builders (Some sums) r h = let e : Run builders sums ≡ r = cc in subst HasSmallValues e tt

asked_small : (command : CommandName) (v : Values) (r : Request) → request_by command v ≡ Some r → HasSmallValues r
asked_small names.Eval v r h = evaluated (sums_of v.arrays) r h
asked_small names.Check v r h = checked (place_of v.at) r (λ at e. place_small v.at at e) h
asked_small names.Show v r h = shown (place_of v.at) r (λ at e. place_small v.at at e) h
asked_small names.Search v r h = let e : Search ≡ r = cc in subst HasSmallValues e tt
asked_small names.Run v r h =
    option_and_then_some (λ builders. option_map (λ sums. Run builders sums) (sums_of v.arrays)) (builders_of v.builders) r h
    (λ builders e f. built builders (sums_of v.arrays) r f)
asked_small names.Replay v r h = let e : Replay ≡ r = cc in subst HasSmallValues e tt
asked_small names.Demo v r h = numbered (deck_number_of v.number) r h

used_small : (t : Bool) (command : CommandName) (v : Values) (r : Request)
    → (if t then None else request_by command v) ≡ Some r → HasSmallValues r
used_small true command v r h = absurd cc
used_small false command v r h = asked_small command v r h

unfaulty : (kinds : Kinds) (o : Option Request) (r : Request) → unless_faulty kinds o ≡ Some r → o ≡ Some r
unfaulty [] o r h = h
unfaulty (kind ∷ kinds) o r h = absurd cc

in_rows : (rows : List Row) (r : Request) → request_in rows ≡ Some r → HasSmallValues r
in_rows rows r h =
    option_and_then_some (request_with (values_in rows)) (option_and_then command_named (first_of (codes "command") rows)) r h
    (λ command e f. used_small (list_any is_some (unused_by command (values_in rows))) command (values_in rows) r f)

pub small_values : (words : List Text) (r : Request) → request_of words ≡ Some r → HasSmallValues r
small_values words r h =
    in_rows (matches_of stated words) r (unfaulty (fault_of stated words) (request_in (matches_of stated words)) r h)
