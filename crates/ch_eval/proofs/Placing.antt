-- Arrays placed one behind another, and the memory that buffers take.
use Rattle.std.proofs.Common.{◌≡◌, ap, sym, ◌∙◌, refl, subst, ℕ, zero, suc, ◌+◌, ◌*◌, ◌<◌, ◌≤◌, ◌^◌, min, ℤ, pos, ◌+ℤ◌, ◌-◌, inl, inr, List, [], ◌∷◌, ◌++◌, drop, get_or, length, length-append, map, take, arith, w64, append_assoc}
use Rattle.std.specs.Bool.{IsTrue}
use Rattle.std.specs.Int.{int_wrap}
use Rattle.std.proofs.lemmas.Bool.{cases_lt}
use Rattle.std.proofs.lemmas.Int.{int_wrap-add_left, int_wrap-add_right}
use Rattle.std.proofs.lemmas.List.{drop_all, drop_more, get_or_append_left, get_or_push, length-map, length_push, map_push, take-append-le, take_all, take_at, take_more}
use Rattle.ch_code.specs.UnitParts.{UnitParts}
use Rattle.ch_code.specs.WellFormed.{IsUnit, fits}
use Rattle.ch_nest.specs.declared.nest.ArrayDecl.{ArrayDecl}
use Rattle.ch_nest.specs.Arrays.{cells_in, extents_of, total}
use Rattle.ch_plan.specs.declared.accesses.Placed.{Placed}
use Rattle.ch_plan.specs.Ready.{AreBases, extents_in}
use Rattle.ch_plan.proofs.Striding.{total_push}
use Rattle.ch_eval.specs.Cells.{most_length, unit_extents}

pub extents_push : (placed new : List Placed) (p : Placed) → new ≡ placed ++ p ∷ [] → extents_in new ≡ extents_in placed ++ p.extents ∷ []
extents_push placed new p n = ap extents_in n ∙ map_push (λ (q : Placed). q.extents) placed p

pub bases_push : (placed new : List Placed) (p : Placed) → new ≡ placed ++ p ∷ [] → AreBases placed → p.base ≡ int_wrap w64 (pos (total (extents_in placed))) → AreBases new
bases_push placed new p n bases base = λ k d l.
    let same = extents_push placed new p n in
    let count : length (extents_in placed) ≡ length placed = length-map placed (λ (q : Placed). q.extents) in
    let below : k < length placed + 1 = omega (arith, l, ap length n, length_push placed p) in
    elim (cases_lt k (length placed)) as (λ _. (get_or new k d).base ≡ int_wrap w64 (pos (total (take k (extents_in new))))) [
      | inl before ↦
          let here : (get_or new k d).base ≡ (get_or placed k d).base = ap (λ (qs : List Placed). (get_or qs k d).base) n ∙ ap (λ (q : Placed). q.base) (get_or_append_left placed (p ∷ []) d k before) in
          let front : take k (extents_in new) ≡ take k (extents_in placed) = ap (take k) same ∙ take-append-le k (extents_in placed) (p.extents ∷ []) (omega (arith, before, count)) in
          here ∙ bases k d before ∙ ap (λ ess. int_wrap w64 (pos (total ess))) (sym front)
      | inr past ↦
          let e : length placed ≡ k = omega arith in
          let here : (get_or new k d).base ≡ p.base = ap (λ (qs : List Placed). (get_or qs k d).base) n ∙ ap (λ (q : Placed). q.base) (get_or_push placed p d k e) in
          let front : take k (extents_in new) ≡ extents_in placed = ap (take k) same ∙ take_at (extents_in placed) (p.extents ∷ []) k (count ∙ e) in
          here ∙ base ∙ ap (λ ess. int_wrap w64 (pos (total ess))) (sym front)
    ]

abbrev pub placed_at : ℤ → List ℕ → Placed
placed_at base extents = record { base = base; extents = extents }

pub end_push : (placed new : List Placed) (p : Placed) (base step end : ℤ) → new ≡ placed ++ p ∷ [] → base ≡ int_wrap w64 (pos (total (extents_in placed)))
    → step ≡ int_wrap w64 (pos (cells_in p.extents)) → end ≡ int_wrap w64 (base +ℤ step) → end ≡ int_wrap w64 (pos (total (extents_in new)))
end_push placed new p base step end n b s e =
    let t : ℕ = total (extents_in placed) in
    let c : ℕ = cells_in p.extents in
    let sum : total (extents_in new) ≡ t + c = ap total (extents_push placed new p n) ∙ total_push (extents_in placed) p.extents in
    e ∙ ap (λ z. int_wrap w64 (z +ℤ step)) b ∙ int_wrap-add_left w64 (pos t) step ∙ ap (λ z. int_wrap w64 (pos t +ℤ z)) s ∙ int_wrap-add_right w64 (pos t) (pos c)
    ∙ ap (λ n. int_wrap w64 (pos n)) (sym sum)

pub arrays_more : (arrays : List ArrayDecl) (k : ℕ) (d : ArrayDecl) (before after : List (List ℕ)) → k < length arrays → before ≡ extents_of (take k arrays)
    → after ≡ before ++ (get_or arrays k d).extents ∷ [] → after ≡ extents_of (take (k + 1) arrays)
arrays_more arrays k d before after l b a =
    a ∙ ap (λ ess. ess ++ (get_or arrays k d).extents ∷ []) b
    ∙ sym (ap extents_of (take_more arrays k d l) ∙ map_push (λ (x : ArrayDecl). x.extents) (take k arrays) (get_or arrays k d))

pub buffers_more : (arrays temps : List (List ℕ)) (k : ℕ) (d : List ℕ) (before after : List (List ℕ)) → k < length temps → before ≡ arrays ++ take k temps
    → after ≡ before ++ get_or temps k d ∷ [] → after ≡ arrays ++ take (k + 1) temps
buffers_more arrays temps k d before after l b a =
    a ∙ ap (λ ess. ess ++ get_or temps k d ∷ []) b ∙ append_assoc arrays (take k temps) (get_or temps k d ∷ []) ∙ ap (λ ess. arrays ++ ess) (sym (take_more temps k d l))

-- numbers that are cut off

pub capped_times : (x y n : ℕ) → y ≡ min most_length n → min most_length (x * y) ≡ min most_length (x * n)
capped_times x y n e = elim (cases_lt most_length n) as (λ _. min most_length (x * y) ≡ min most_length (x * n)) [
  | inl above ↦ large x y n above (omega (arith, e, above))
  | inr below ↦ ap (λ z. min most_length (x * z)) (omega (arith, e, below))
]
  where
    large : (x y n : ℕ) → most_length < n → y ≡ most_length → min most_length (x * y) ≡ min most_length (x * n)
    large zero y n a e = omega arith
    large (suc x) y n a e = omega (arith, e, a)

pub capped_first : (e : ℕ) (es : List ℕ) (y r : ℕ) → 1 ≤ length es → e ≡ get_or es 0 e → y ≡ min most_length (cells_in (take (length es - 1) (drop 1 es))) → r ≡ min most_length (e * y)
    → r ≡ min most_length (cells_in es)
capped_first e [] y r l is h p = absurd (omega arith)
capped_first e (x ∷ es) y r l is h p =
    let rest : take (length (x ∷ es) - 1) (drop 1 (x ∷ es)) ≡ es = take_all (length (x ∷ es) - 1) es (omega arith) in
    p ∙ ap (λ z. min most_length (z * y)) is ∙ capped_times x y (cells_in es) (h ∙ ap (λ zs. min most_length (cells_in zs)) rest)

pub capped_more : (temps : List (List ℕ)) (k : ℕ) (d : List ℕ) (now next cells whole : ℕ) → k < length temps → cells ≡ min most_length (cells_in (get_or temps k d))
    → next ≡ min most_length (now + cells) → min most_length (now + total (drop k temps)) ≡ whole → min most_length (next + total (drop (k + 1) temps)) ≡ whole
capped_more temps k d now next cells whole l c n h =
    let split : total (drop k temps) ≡ cells_in (get_or temps k d) + total (drop (k + 1) temps) = ap total (drop_more temps k d l) in
    omega (arith, split, c, n, h)

-- a unit's arrays and buffers

pub placed_count : (u : UnitParts) (placed : List Placed) → extents_in placed ≡ unit_extents u → length placed ≡ length u.arrays + length u.temps
placed_count u placed e =
    sym (length-map placed (λ (p : Placed). p.extents)) ∙ ap length e ∙ length-append (extents_of u.arrays) u.temps
    ∙ ap (λ n. n + length u.temps) (length-map u.arrays (λ (d : ArrayDecl). d.extents))

pub unit_fits : (u : UnitParts) (placed : List Placed) → extents_in placed ≡ unit_extents u → IsUnit u → IsTrue (fits (length placed) u.root 0)
unit_fits u placed e i = subst (λ n. IsTrue (fits n u.root 0)) (sym (placed_count u placed e)) i.fits
