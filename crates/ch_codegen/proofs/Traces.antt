-- What each kind of code tree executes, and loops between two numbers.
use Rattle.std.proofs.Common.{◌≡◌, refl, sym, ap, ◌∙◌, ℕ, zero, suc, ℤ, pos, negsuc, neg_ℤ, List, [], ◌∷◌, ◌++◌, map, replicate, arith, append-nil, append_assoc}
use Rattle.std.proofs.lemmas.Int.{ints}
use Rattle.std.proofs.lemmas.List.{map-append}
use Rattle.std.proofs.Math.IntN.{zero-*ℤ}
use Rattle.std.specs.Int.{int_div_euclid}
use Rattle.ch_affine.specs.Affine.{value, dot}
use Rattle.ch_affine.specs.Rows.{Rows}
use Rattle.ch_code.specs.declared.code.Bound.{Bound}
use Rattle.ch_code.specs.declared.code.Code.{Code}
use Rattle.ch_code.specs.declared.code.Code.TheOpen.{Code-F}
use Rattle.ch_code.specs.declared.code.Code.TheFolds.{fold-roll-Code}
use Rattle.ch_code.specs.declared.code.Code.TheVariants.{Seq, Loop, Guard, rolls-Seq, rolls-Loop, rolls-Guard, rolls-Leaf}
use Rattle.ch_code.specs.Trace.{Traced, guarded, high_of, low_of, one_by_one, trace, trace_step}
use Rattle.ch_poly.specs.Points.{begins_some}
use Rattle.ch_space.specs.declared.piece.Piece.{Piece}
use Rattle.ch_space.specs.Pieces.{element_at}
use Rattle.ch_codegen.specs.Parts.{looped}
use Rattle.ch_codegen.specs.Made.{bound, leaf, guard, loop, sequence}

trace_seq : (parts : List Code) (xs : List ℤ) → trace (Seq parts) xs ≡ one_by_one (map trace parts) xs
trace_seq parts xs = ap (λ f. f xs) (ap trace (sym (rolls-Seq parts)) ∙ fold-roll-Code Traced trace_step _)

pub trace_sequence : (parts : List Code) (xs : List ℤ) → trace (sequence parts) xs ≡ one_by_one (map trace parts) xs
trace_sequence [] xs = trace_seq [] xs
trace_sequence (c ∷ []) xs = sym (append-nil (trace c xs))
trace_sequence (c ∷ d ∷ more) xs = trace_seq (c ∷ d ∷ more) xs

trace_loop : (level : ℕ) (lows highs : List Bound) (inner : Code) → trace (Loop level lows highs inner) ≡ trace_step (Code-F.Loop level lows highs (trace inner))
trace_loop level lows highs inner = ap trace (sym (rolls-Loop level lows highs inner)) ∙ fold-roll-Code Traced trace_step _

trace_guard : (s : Rows) (inner : Code) → trace (Guard s inner) ≡ trace_step (Code-F.Guard s (trace inner))
trace_guard s inner = ap trace (sym (rolls-Guard s inner)) ∙ fold-roll-Code Traced trace_step _

pub trace_leaf : (p : Piece) (xs : List ℤ) → trace (leaf p) xs ≡ element_at p xs ∷ []
trace_leaf p xs = ap (λ f. f xs) (ap trace (sym (rolls-Leaf p.label p.body p.origin p.places)) ∙ fold-roll-Code Traced trace_step _)

pub trace_guarded : (p : Piece) (inner : Code) (xs : List ℤ) → trace (guard p inner) xs ≡ guarded (begins_some p.system xs) (trace inner xs)
trace_guarded p inner xs = ap (λ f. f xs) (trace_guard p.system inner)

no_dot : (n : ℕ) (xs : List ℤ) → dot (replicate n (pos 0)) xs ≡ pos 0
no_dot zero xs = refl
no_dot (suc n) [] = refl
no_dot (suc n) (x ∷ xs) = let a = zero-*ℤ x in let b = no_dot n xs in omega (arith, ints, a, b)

pub bound_value : (n : ℕ) (z : ℤ) (xs : List ℤ) → value (bound n z).form xs ≡ z
bound_value n z xs = let a = no_dot n xs in omega (arith, ints, a)

whole_quotient : (z : ℤ) → int_div_euclid z (pos 1) ≡ z
whole_quotient (pos n) = omega (arith, ints)
whole_quotient (negsuc n) = omega (arith, ints)

pub low_is : (n : ℕ) (z : ℤ) (xs : List ℤ) → low_of (bound n z ∷ []) xs ≡ z
low_is n z xs = ap (λ v. neg_ℤ (int_div_euclid (neg_ℤ v) (pos 1))) (bound_value n z xs) ∙ ap neg_ℤ (whole_quotient (neg_ℤ z)) ∙ omega (arith, ints)

pub high_is : (n : ℕ) (z : ℤ) (xs : List ℤ) → high_of (bound n z ∷ []) xs ≡ z
high_is n z xs = ap (λ v. int_div_euclid v (pos 1)) (bound_value n z xs) ∙ whole_quotient z

pub trace_looped : (depth : ℕ) (lows highs : List Bound) (inner : Code) (xs : List ℤ) → trace (loop depth lows highs inner) xs ≡ looped (low_of lows) (high_of highs) (trace inner) xs
trace_looped depth lows highs inner xs = ap (λ f. f xs) (trace_loop _ lows highs inner)

one_more : (fs : List Traced) (f : Traced) (xs : List ℤ) → one_by_one (fs ++ f ∷ []) xs ≡ one_by_one fs xs ++ f xs
one_more [] f xs = append-nil (f xs)
one_more (g ∷ fs) f xs = ap (λ es. g xs ++ es) (one_more fs f xs) ∙ sym (append_assoc (g xs) (one_by_one fs xs) (f xs))

pub parts_more : (parts : List Code) (part : Code) (xs : List ℤ) → one_by_one (map trace (parts ++ part ∷ [])) xs ≡ one_by_one (map trace parts) xs ++ trace part xs
parts_more parts part xs = ap (λ fs. one_by_one fs xs) (map-append trace parts (part ∷ [])) ∙ one_more (map trace parts) (trace part) xs
