-- What a space keeps of its pieces, of their accesses, and of the cells of its elements.
use Rattle.std.proofs.Common.{◌≡◌, sym, subst, ℕ, ◌+◌, ◌*◌, ◌≤◌, ◌^◌, ℤ, List, map, length, arith}
use Rattle.std.specs.List.{All}
use Rattle.std.proofs.lemmas.List.{length-map}
use Rattle.ch_affine.specs.Affine.{IsAtMost, value}
use Rattle.ch_depends.specs.Sought.{IsNameable, IsReadable}
use Rattle.ch_meeting.specs.Meeting.{IsAccessOf, IsPlain}
use Rattle.ch_nest.specs.declared.nest.Access.{Access}
use Rattle.ch_space.specs.declared.piece.Piece.{Piece}
use Rattle.ch_space.specs.Keeps.{IsAccess, IsBody, IsLimited, IsReached, IsSpace, IsWrapped, accesses}
use Rattle.ch_space.specs.Pieces.{element_at, elements, instances, listed}
use Rattle.ch_space.proofs.EndsOf.{at_all, near_in}
use Rattle.ch_space.proofs.PieceElements.{StandsFor, whole_in}
use Rattle.ch_space.proofs.PieceNumbers.{all_in, in_listed, listed_in}
use Rattle.ch_timed.specs.Members.{In}
use Rattle.ch_timed.specs.declared.element.Element.{Element}
use Rattle.ch_timed.proofs.Orders.{in_map}

module _ (arrays : ℕ) (ps : List Piece) (counts : List ℕ) (temps : List (List ℕ)) (weight commands : ℕ) (s : IsSpace arrays ps counts temps weight commands) where
  plain_at : (p : Piece) → In p ps → IsPlain p
  plain_at p i =
      let l : IsLimited weight commands p = at_all (IsLimited weight commands) ps p s.limited i in
      let v : p.levels + p.hidden ≤ 12 + 16 * commands = l.variables in
      let c : commands ≤ 32 = s.few_commands in
      record { whole = whole_in ps p s.apart i; variables = omega arith; iterators = l.iterators; near = near_in ps p i s.near }

  pub all_plain : All IsPlain ps
  all_plain = all_in IsPlain ps plain_at

  body_at : (p : Piece) → In p ps → IsBody arrays (length temps) (length p.origin) p.body
  body_at p i = at_all (λ p. IsBody arrays (length temps) (length p.origin) p.body) ps p s.bodies i

  abbrev Wraps : Element → Type 0
  Wraps e = All (λ a. All (IsWrapped e.identity.iters) a.subs) (accesses e.body)

  wraps_at : (p : Piece) (a : Access) → In p ps → In a (accesses p.body) → All (λ e. All (IsWrapped e.identity.iters) a.subs) (elements p)
  wraps_at p a i j =
      all_in (λ e. All (IsWrapped e.identity.iters) a.subs) (elements p)
      (λ e k.
      let x = in_map (element_at p) (instances p) e k in
      let there : Wraps (element_at p x.0) = subst Wraps (sym x.1.1) (at_all Wraps (listed ps) e s.wrapped (listed_in ps p e i k)) in
      subst (λ z. All (IsWrapped z.identity.iters) a.subs) x.1.1 (at_all (λ a. All (IsWrapped (element_at p x.0).identity.iters) a.subs) (accesses p.body) a there j))

  access_at : (p : Piece) (a : Access) → In p ps → In a (accesses p.body) → IsAccessOf p a
  access_at p a i j =
      let b : IsAccess arrays (length temps) (length p.origin) a = at_all (IsAccess arrays (length temps) (length p.origin)) (accesses p.body) a (body_at p i).accesses j in
      record { few = b.few; forms = b.forms; wrapped = wraps_at p a i j }

  pub all_accesses : All (λ p. All (IsAccessOf p) (accesses p.body)) ps
  all_accesses = all_in (λ p. All (IsAccessOf p) (accesses p.body)) ps (λ p i. all_in (IsAccessOf p) (accesses p.body) (λ a j. access_at p a i j))

  abbrev Reaches : Element → Type 0
  Reaches e = All (λ a. All (IsReached e.identity.iters) a.subs) (accesses e.body)

  readable_at : (p : Piece) (xs : List ℤ) (a : Access) → In p ps → In a (accesses p.body) → Reaches (element_at p xs) → IsReadable (map (λ f. value f xs) p.origin) a
  readable_at p xs a i j r =
      let b : IsAccess arrays (length temps) (length p.origin) a = at_all (IsAccess arrays (length temps) (length p.origin)) (accesses p.body) a (body_at p i).accesses j in
      record {
        forms = subst (λ n. All (λ s. length s.form.coefs ≡ n) a.subs) (sym (length-map p.origin (λ f. value f xs))) b.forms;
        reached = at_all (λ a. All (IsReached (map (λ f. value f xs) p.origin)) a.subs) (accesses p.body) a r j;
      }

  pub nameable : (e : Element) → In e (listed ps) → IsNameable e
  nameable e i =
      let t : StandsFor ps e = in_listed ps e i in
      let r : Reaches (element_at t.piece t.instance) = subst Reaches (sym t.is) (at_all Reaches (listed ps) e s.reached i) in
      let near : All (IsAtMost (2 ^ 54)) e.identity.iters = at_all (λ e. All (IsAtMost (2 ^ 54)) e.identity.iters) (listed ps) e s.near i in
      subst IsNameable t.is (record {
        near = subst (λ z. All (IsAtMost (2 ^ 54)) z.identity.iters) (sym t.is) near;
        readable = all_in (IsReadable (map (λ f. value f t.instance) t.piece.origin)) (accesses t.piece.body) (λ a j. readable_at t.piece t.instance a t.is_piece j r);
      })
