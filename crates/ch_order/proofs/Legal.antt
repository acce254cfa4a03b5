-- A legal list does the same as the one in whose place it stands.
use Rattle.std.proofs.Common.{◌≡◌, refl, sym, ap, ◌∙◌, ℕ, ℤ, None, List, [], ◌∷◌, ◌++◌, inl, inr}
use Rattle.ch_order.specs.Legal.{Conflict, IsChain, IsLegal, IsLegalBy, IsLegalChain, last_list, steps}
use Rattle.ch_timed.specs.declared.element.Cell.{Cell}
use Rattle.ch_timed.specs.declared.element.Element.{Element}
use Rattle.ch_timed.specs.Conflict.{conflict}
use Rattle.ch_timed.specs.Do.{Store, done, execute}
use Rattle.ch_timed.specs.Flat.{IsInside, StaysInside, done_flat, execute_flat, place_of}
use Rattle.ch_timed.specs.Conflict.{written}
use Rattle.ch_timed.specs.Members.{Each, In}
use Rattle.ch_timed.specs.Order.{do_all}
use Rattle.ch_timed.specs.Timed.{Step, same_step}
use Rattle.std.proofs.Common.{set}
use Rattle.ch_order.proofs.Commutes.{commutes}
use Rattle.ch_order.proofs.Law as law
use Rattle.ch_order.proofs.FlatCommutes.{commutes_flat, execute_cells, same_end_flat}
use Rattle.ch_order.proofs.Members.{has_same}
use Rattle.ch_timed.proofs.Orders.{at_each}
use Rattle.ch_timed.proofs.Values.{flat_value}
use Rattle.ch_order.proofs.Steps.{distinct, same_identity_self, same_turned, same_end_by}

-- flat arrays

each_of : {X : Type 0} (P : X → Type 0) (xs : List X) → ((x : X) → In x xs → P x) → Each P xs
each_of P [] h = tt
each_of P (x ∷ xs) h = (h x (inl refl), each_of P xs (λ y i. h y (inr i)))

pub flat_step : (extents : List (List ℕ)) (s : Step) (cells : List ℤ) → execute_flat extents s cells ≡ execute_cells extents s cells
flat_step extents s cells = ap (set cells (place_of extents (written s))) (flat_value extents s.identity.iters cells s.body.right)

flat_all : (extents : List (List ℕ)) (ss : List Step) (cells : List ℤ) → do_all (execute_flat extents) ss cells ≡ do_all (execute_cells extents) ss cells
flat_all extents [] cells = refl
flat_all extents (s ∷ ss) cells = ap (do_all (execute_flat extents) ss) (flat_step extents s cells) ∙ flat_all extents ss (execute_cells extents s cells)

-- what may stand in the place of another list, by which pairs of steps must keep their order

module _ (conflicts : Conflict) where
  same_steps : (S : Type 0) (exec : Step → S → S) (old new : List Element) → IsLegalBy conflicts old new → law.HasSame Step Cell S same_step conflicts exec (steps old) (steps new)
  same_steps S exec old new l =
      has_same Step Cell S same_step conflicts exec (λ s. same_identity_self s.identity) (λ s t. same_turned s.identity t.identity) (steps old) (steps new)
      (distinct conflicts old l.old_once) (distinct conflicts new l.new_once) l.kept l.no_others

  pub end_by : ((a b : Step) → conflicts a b ≡ None → (s : Store) → execute a (execute b s) ≡ execute b (execute a s))
      → (old new : List Element) → IsLegalBy conflicts old new → (store : Store) → done old store ≡ done new store
  end_by swaps old new l store = same_end_by conflicts swaps old new l.old_once (same_steps Store execute old new l) l.in_turn store

  pub inside_by : (old new : List Element) → IsLegalBy conflicts old new → (extents : List (List ℕ)) → StaysInside extents old → StaysInside extents new
  inside_by old new l extents inside = each_of (IsInside extents) (steps new) (λ s i. at_each (IsInside extents) (steps old) inside s (l.no_others s i))

  pub flat_by : (extents : List (List ℕ))
      → ((a b : Step) → IsInside extents a → IsInside extents b → conflicts a b ≡ None → (cells : List ℤ) → execute_cells extents a (execute_cells extents b cells) ≡ execute_cells extents b (execute_cells extents a cells))
      → (old new : List Element) → IsLegalBy conflicts old new → StaysInside extents old → (cells : List ℤ) → done_flat extents old cells ≡ done_flat extents new cells
  flat_by extents swaps old new l inside cells =
      flat_all extents (steps old) cells
      ∙ same_end_flat extents conflicts swaps old new l.old_once inside (inside_by old new l extents inside) (same_steps (List ℤ) (execute_cells extents) old new l) l.in_turn cells
      ∙ sym (flat_all extents (steps new) cells)

pub legal_end : (old new : List Element) → IsLegal old new → (store : Store) → done old store ≡ done new store
legal_end = end_by conflict commutes

pub legal_inside : (old new : List Element) → IsLegal old new → (extents : List (List ℕ)) → StaysInside extents old → StaysInside extents new
legal_inside = inside_by conflict

pub legal_end_flat : (old new : List Element) → IsLegal old new → (extents : List (List ℕ)) → StaysInside extents old → (cells : List ℤ)
    → done_flat extents old cells ≡ done_flat extents new cells
legal_end_flat old new l extents inside cells = flat_by conflict extents (commutes_flat extents) old new l inside cells

-- several lists, one after another, by what each of them keeps of the one before it

module _ (MayStand : List Element → List Element → Type 0) where
  -- of the cells that are looked at
  pub chain_end : (IsSeen : Cell → Type 0)
      → ((old new : List Element) → MayStand old new → (store : Store) (c : Cell) → IsSeen c → done old store c ≡ done new store c)
      → (first : List Element) (later : List (List Element)) → IsChain MayStand first later
      → (store : Store) (c : Cell) → IsSeen c → done first store c ≡ done (last_list first later) store c
  chain_end IsSeen keeps first [] chain store c seen = refl
  chain_end IsSeen keeps first (next ∷ later) chain store c seen = keeps first next chain.0 store c seen ∙ chain_end IsSeen keeps next later chain.1 store c seen

  pub chain_inside : (extents : List (List ℕ)) → ((old new : List Element) → MayStand old new → StaysInside extents old → StaysInside extents new)
      → (first : List Element) (later : List (List Element)) → IsChain MayStand first later
      → StaysInside extents first → StaysInside extents (last_list first later)
  chain_inside extents keeps first [] chain inside = inside
  chain_inside extents keeps first (next ∷ later) chain inside = chain_inside extents keeps next later chain.1 (keeps first next chain.0 inside)

  pub chain_flat : (extents : List (List ℕ)) → ((old new : List Element) → MayStand old new → StaysInside extents old → StaysInside extents new)
      → ((old new : List Element) → MayStand old new → StaysInside extents old → (cells : List ℤ) → done_flat extents old cells ≡ done_flat extents new cells)
      → (first : List Element) (later : List (List Element)) → IsChain MayStand first later
      → StaysInside extents first → (cells : List ℤ) → done_flat extents first cells ≡ done_flat extents (last_list first later) cells
  chain_flat extents inside keeps first [] chain i cells = refl
  chain_flat extents inside keeps first (next ∷ later) chain i cells = keeps first next chain.0 i cells ∙ chain_flat extents inside keeps next later chain.1 (inside first next chain.0 i) cells

pub legal_chain_end : (first : List Element) (later : List (List Element)) → IsLegalChain first later → (store : Store)
    → done first store ≡ done (last_list first later) store
legal_chain_end first later chain store =
    λ i c. chain_end IsLegal (λ _. Unit {0}) (λ old new l s d _. ap (λ t. t d) (legal_end old new l s)) first later chain store c tt i

pub legal_chain_inside : (first : List Element) (later : List (List Element)) → IsLegalChain first later → (extents : List (List ℕ))
    → StaysInside extents first → StaysInside extents (last_list first later)
legal_chain_inside first later chain extents = chain_inside IsLegal extents (λ old new l. legal_inside old new l extents) first later chain

pub legal_chain_flat : (first : List Element) (later : List (List Element)) → IsLegalChain first later → (extents : List (List ℕ))
    → StaysInside extents first → (cells : List ℤ) → done_flat extents first cells ≡ done_flat extents (last_list first later) cells
legal_chain_flat first later chain extents =
    chain_flat IsLegal extents (λ old new l. legal_inside old new l extents) (λ old new l. legal_end_flat old new l extents) first later chain

pub neighbours : (front back : List Step) (a b : Step) → conflict a b ≡ None → (store : Store)
    → do_all execute (front ++ a ∷ b ∷ back) store ≡ do_all execute (front ++ b ∷ a ∷ back) store
neighbours [] back a b n store = ap (do_all execute back) (sym (commutes a b n store))
neighbours (x ∷ front) back a b n store = neighbours front back a b n (execute x store)
