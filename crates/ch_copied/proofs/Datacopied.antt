-- The law of a piece and a level.
use Rattle.std.proofs.Common.{◌≡◌, refl, sym, ◌≢◌, ℕ, zero, suc, ◌-◌, ◌<◌, true, List, [], ◌∷◌, length, map, get_or, inl, inr, arith}
use Rattle.ch_timed.specs.declared.element.Cell.{Cell}
use Rattle.ch_timed.specs.declared.element.Element.{Element}
use Rattle.ch_timed.specs.Members.{In}
use Rattle.ch_timed.specs.Do.{Store, done}
use Rattle.ch_timed.specs.Groups.{piece}
use Rattle.ch_timed.specs.Timed.{pieces}
use Rattle.ch_timed.specs.Vectors.{places}
use Rattle.ch_timed.proofs.Orders.{from_once, in_map}
use Rattle.ch_copied.specs.Plans.{plan}
use Rattle.ch_copied.specs.Copied.{datacopied}
use Rattle.ch_copied.specs.Copyable.{HasLoop, IsCopyable}
use Rattle.ch_copied.proofs.Meaning.{same_meaning}
use Rattle.ch_copied.proofs.Sound.{IsPlanned}
use Rattle.ch_copied.proofs.WellFormed.{copied_fine}
use Rattle.ch_timed.specs.Timed.{is_well_formed}

in_get : {X : Type 0} (xs : List X) (k : ℕ) (d : X) → k < length xs → In (get_or xs k d) xs
in_get [] k d l = absurd (omega arith)
in_get (x ∷ xs) zero d l = inl refl
in_get (x ∷ xs) (suc k) d l = inr (in_get xs k d (omega arith))

-- a piece has an element
pub its_element : (list : List Element) (s : ℕ) → s < length (pieces list) → (e : Element) × (In e list × (places e.vector ≡ piece list s))
its_element list s l =
    in_map (λ (e : Element). places e.vector) list (piece list s)
    (from_once (map (λ (e : Element). places e.vector) list) (piece list s) (in_get (pieces list) s [] l))

pub planned : (list : List Element) (s level array buffer : ℕ) → HasLoop list s level
    → IsPlanned (plan list s (level - 1) array buffer) list
planned list s level array buffer loop =
    let e = its_element list s loop.some in
    let first = loop.least in
    let deep = loop.most in
    record { ins = refl; outs = refl; extents = refl; label = refl; piece = e.0; is_member = e.1.0; its_places = e.1.1; deep = omega arith }

pub keeps_meaning : (list : List Element) (s level array buffer dimensions : ℕ) → IsCopyable list array buffer dimensions → HasLoop list s level
    → (store : Store) (c : Cell) → c.array ≢ buffer → done list store c ≡ done (datacopied list s level array buffer) store c
keeps_meaning list s level array buffer dimensions fine loop store c n =
    sym (same_meaning (plan list s (level - 1) array buffer) list dimensions (planned list s level array buffer loop) fine store c n)

pub stays_well_formed : (list : List Element) (s level array buffer dimensions : ℕ) → IsCopyable list array buffer dimensions
    → HasLoop list s level → is_well_formed (datacopied list s level array buffer) ≡ true
stays_well_formed list s level array buffer dimensions fine loop =
    copied_fine (plan list s (level - 1) array buffer) list dimensions (planned list s level array buffer loop) fine
