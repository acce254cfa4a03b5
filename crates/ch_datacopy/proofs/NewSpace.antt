-- The candidates keep to what the type of a space asks for.
use Rattle.std.proofs.Common.{◌≡◌, refl, sym, ap, ◌∙◌, subst, ℕ, suc, ◌+◌, ◌<◌, ◌≤◌, Bool, true, false, nat_lt, if◌then◌else◌, List, [], ◌∷◌, ◌++◌, length, ◌⊎◌, inl, inr, length-append, arith}
use Rattle.std.specs.List.{flat_map}
use Rattle.std.proofs.lemmas.Bool.{eqb-true}
use Rattle.ch_affine.specs.Form.{Form}
use Rattle.ch_copied.specs.Accesses.{names}
use Rattle.ch_copied.specs.Bodies.{in_body, moved_cell, out_body, redirected, redirected_access, variables, wrapped}
use Rattle.ch_copied.specs.Copyable.{IsCopyable}
use Rattle.ch_copied.specs.Plans.{Plan}
use Rattle.ch_copied.proofs.Simulation.{unredirected}
use Rattle.ch_datacopy.specs.Works.{kept_body, move_body}
use Rattle.ch_datacopy.proofs.Bodied.{below_read, in_accesses, out_accesses, redirected_accesses, redirected_below, redirected_from, variable_long, variables_from, variables_length, wrapped_length}
use Rattle.ch_nest.specs.declared.nest.Access.{Access}
use Rattle.ch_nest.specs.declared.nest.Sub as subscript
use Rattle.ch_space.specs.declared.piece.Piece.{Piece}
use Rattle.ch_space.specs.Keeps.{IsAccess, IsBody, IsSpace, iters_below, places_of}
use Rattle.ch_space.specs.Pieces.{element_at, instances, listed}
use Rattle.ch_space.proofs.EndsOf.{at_all}
use Rattle.ch_space.proofs.Membership.{flat_in, in_flat}
use Rattle.ch_space.proofs.PieceNumbers.{all_in, instance_in, listed_in, some_in}
use Rattle.ch_timed.specs.Conflict.{accesses}
use Rattle.ch_timed.specs.Members.{In}
use Rattle.ch_timed.specs.Vectors.{shares}
use Rattle.ch_timed.proofs.Orders.{in_map, map_in}

module _ (arrays : ℕ) (ps : List Piece) (counts : List ℕ) (temps : List (List ℕ)) (weight commands : ℕ) (space : IsSpace arrays ps counts temps weight commands)
    (p : Plan) (dimensions : ℕ) (fine : IsCopyable (listed ps) p.array p.buffer dimensions)
    (number : p.buffer ≡ arrays + length temps) (declared : p.array < arrays) (long : length p.extents ≡ dimensions) (some : 1 ≤ dimensions) (few : dimensions ≤ 4) where
  abbrev pub old : List Access
  old = flat_map (λ q. accesses q.body) ps

  abbrev pub more_temps : List (List ℕ)
  more_temps = temps ++ p.extents ∷ []

  one_more : length more_temps ≡ length temps + 1
  one_more = length-append temps (p.extents ∷ [])

  -- which accesses there are

  pub old_of : (q : Piece) (a : Access) → In q ps → In a (accesses q.body) → In a old
  old_of q a i j = flat_in (λ q. accesses q.body) ps q a i j

  old_access : (a : Access) → In a old → (n : ℕ) × IsAccess arrays (length temps) n a
  old_access a i =
      let q = in_flat (λ q. accesses q.body) ps a i in
      let b = at_all (λ q. IsBody arrays (length temps) (length q.origin) q.body) ps q.0 space.bodies q.1.0 in
      (length q.0.origin, at_all (IsAccess arrays (length temps) (length q.0.origin)) (accesses q.0.body) a b.accesses q.1.1)

  pub old_dimensions : (a : Access) → In a old → a.array ≡ p.array → length a.subs ≡ dimensions
  old_dimensions a i e =
      let q = in_flat (λ q. accesses q.body) ps a i in
      let x = some_in (instances q.0) (instance_in ps q.0 space.apart q.1.0) in
      fine.agree (element_at q.0 x.0) a (listed_in ps q.0 (element_at q.0 x.0) q.1.0 (map_in (element_at q.0) (instances q.0) x.0 x.1)) q.1.1 e

  abbrev pub IsNew : Access → Type 0
  IsNew a = ((a.array ≡ p.buffer) ⊎ (a.array ≡ p.array)) × (length a.subs ≡ dimensions)

  abbrev pub Known : Access → Type 0
  Known a = In a old ⊎ IsNew a

  redirected_is : (a : Access) → names p.array a ≡ true → redirected_access p a ≡ record { array = p.buffer; subs = wrapped a.subs p.extents }
  redirected_is a h = rw h refl

  redirected_known : (a : Access) → Known a → Known (redirected_access p a)
  redirected_known a k = by (names p.array a) refl
    where
      size : a.array ≡ p.array → length a.subs ≡ dimensions
      size e = elim k as (λ _. length a.subs ≡ dimensions) [ inl i ↦ old_dimensions a i e | inr n ↦ n.1 ]

      by : (b : Bool) → names p.array a ≡ b → Known (redirected_access p a)
      by true h = subst Known (sym (redirected_is a h)) (inr (
        inl refl,
        (
            let n = size (eqb-true a.array p.array h) in wrapped_length a.subs p.extents (n ∙ sym long) ∙ n),
      ))
      by false h = subst Known (sym (unredirected p a h)) k

  cell_known : Known (moved_cell p)
  cell_known = inr (inr refl, variables_length p.around p.extents ∙ long)

  pub kept_known : (q : Piece) → In q ps → (a : Access) → In a (accesses (kept_body p q)) → Known a
  kept_known q i a j = by (shares (suc p.around) p.ours (places_of q)) j
    where
      by : (b : Bool) → In a (accesses (if b then redirected p q.body else q.body)) → Known a
      by true k =
          let m = in_map (redirected_access p) (accesses q.body) a (subst (In a) (redirected_accesses p q.body) k) in
          subst Known m.1.1 (redirected_known m.0 (inl (old_of q m.0 i m.1.0)))
      by false k = inl (old_of q a i k)

  -- the two accesses of a move
  pub move_accesses : (k : ℕ) (a : Access) → In a (accesses (move_body p k)) → (a ≡ moved_cell p) ⊎ (a ≡ redirected_access p (moved_cell p))
  move_accesses k a i = by (nat_lt k (length p.ins)) i
    where
      two : (b c : Access) → In a (b ∷ c ∷ []) → (a ≡ b) ⊎ (a ≡ c)
      two b c (inl e) = inl (sym e)
      two b c (inr (inl e)) = inr (sym e)
      two b c (inr (inr n)) = absurd n

      turned : (b c : Access) → (a ≡ b) ⊎ (a ≡ c) → (a ≡ c) ⊎ (a ≡ b)
      turned b c (inl e) = inr e
      turned b c (inr e) = inl e

      by : (b : Bool) → In a (accesses (if b then in_body p else out_body p)) → (a ≡ moved_cell p) ⊎ (a ≡ redirected_access p (moved_cell p))
      by true j = two (moved_cell p) (redirected_access p (moved_cell p)) (subst (In a) (in_accesses p) j)
      by false j = turned (redirected_access p (moved_cell p)) (moved_cell p) (two (redirected_access p (moved_cell p)) (moved_cell p) (subst (In a) (out_accesses p) j))

  pub move_known : (k : ℕ) (a : Access) → In a (accesses (move_body p k)) → Known a
  move_known k a i = elim (move_accesses k a i) as (λ _. Known a) [
    | inl e ↦ subst Known (sym e) cell_known
    | inr e ↦ subst Known (sym e) (redirected_known (moved_cell p) cell_known)
  ]

  -- accesses of one array have equally many subscripts
  pub known_agree : (a b : Access) → Known a → Known b → a.array ≡ b.array → length a.subs ≡ length b.subs
  known_agree a b (inl i) (inl j) e = space.agree a b i j e
  known_agree a b (inr n) (inr m) e = n.1 ∙ sym m.1
  known_agree a b (inl i) (inr m) e = old_new a b i m e
    where
      old_new : (c d : Access) → In c old → IsNew d → c.array ≡ d.array → length c.subs ≡ length d.subs
      old_new c d k new f = elim new.0 as (λ _. length c.subs ≡ length d.subs) [
        | inl g ↦ let l = (old_access c k).1.array in absurd (omega (arith, l, f, g, number))
        | inr g ↦ old_dimensions c k (f ∙ g) ∙ sym new.1
      ]
  known_agree a b (inr n) (inl j) e = sym (old_new b a j n (sym e))
    where
      old_new : (c d : Access) → In c old → IsNew d → c.array ≡ d.array → length c.subs ≡ length d.subs
      old_new c d k new f = elim new.0 as (λ _. length c.subs ≡ length d.subs) [
        | inl g ↦ let l = (old_access c k).1.array in absurd (omega (arith, l, f, g, number))
        | inr g ↦ old_dimensions c k (f ∙ g) ∙ sym new.1
      ]

  -- bodies

  access_stays : (n : ℕ) (a : Access) → IsAccess arrays (length temps) n a → IsAccess arrays (length more_temps) n a
  access_stays n a h = record {
    array = let l = h.array in omega (arith, l, one_more);
    some = h.some;
    few = h.few;
    forms = h.forms;
    plain = h.plain;
  }

  access_redirected : (n : ℕ) (a : Access) → (a.array ≡ p.array → length a.subs ≡ dimensions) → IsAccess arrays (length more_temps) n a → IsAccess arrays (length more_temps) n (redirected_access p a)
  access_redirected n a size h = by (names p.array a) refl
    where
      by : (b : Bool) → names p.array a ≡ b → IsAccess arrays (length more_temps) n (redirected_access p a)
      by false e = subst (IsAccess arrays (length more_temps) n) (sym (unredirected p a e)) h
      by true e =
          let s = size (eqb-true a.array p.array e) in
          let w = wrapped_length a.subs p.extents (s ∙ sym long) ∙ s in
          subst (IsAccess arrays (length more_temps) n) (sym (redirected_is a e)) (record {
            array = omega (arith, number, one_more);
            some = omega (arith, w, some);
            few = omega (arith, w, few);
            forms = all_in (λ (s : subscript.Sub). length s.form.coefs ≡ n) (wrapped a.subs p.extents) (λ t i.
                let o = redirected_from p a t (subst (λ (z : Access). In t z.subs) (sym (redirected_is a e)) i) in
                ap (λ (f : Form). length f.coefs) o.1.1 ∙ at_all (λ (s : subscript.Sub). length s.form.coefs ≡ n) a.subs o.0 h.forms o.1.0);
            plain = λ l. absurd (omega (arith, l, number));
          })

  cell_access : (n : ℕ) → n ≡ p.around + dimensions → IsAccess arrays (length more_temps) n (moved_cell p)
  cell_access n e =
      let l = variables_length p.around p.extents ∙ long in
      record {
        array = omega (arith, declared);
        some = omega (arith, l, some);
        few = omega (arith, l, few);
        forms = all_in (λ (s : subscript.Sub). length s.form.coefs ≡ n) (variables p.around p.extents) (λ s i.
            let v = variables_from p.around p.extents s i in
            let w = variable_long v.1.0 v.1.1.0 in
            let f = ap (λ (f : Form). length f.coefs) v.1.1.1.1.1 in
            omega (arith, v.1.1.1.0, w, f, e, long));
        plain = λ _. all_in (λ (s : subscript.Sub). s.modulus ≡ 0) (variables p.around p.extents) (λ s i. (variables_from p.around p.extents s i).0);
      }

  pub kept_is_body : (q : Piece) → In q ps → IsBody arrays (length more_temps) (length q.origin) (kept_body p q)
  kept_is_body q i = by (shares (suc p.around) p.ours (places_of q))
    where
      was : IsBody arrays (length temps) (length q.origin) q.body
      was = at_all (λ q. IsBody arrays (length temps) (length q.origin) q.body) ps q space.bodies i

      stays : (a : Access) → In a (accesses q.body) → IsAccess arrays (length more_temps) (length q.origin) a
      stays a j = access_stays (length q.origin) a (at_all (IsAccess arrays (length temps) (length q.origin)) (accesses q.body) a was.accesses j)

      by : (b : Bool) → IsBody arrays (length more_temps) (length q.origin) (if b then redirected p q.body else q.body)
      by true = record {
        iterators = redirected_below (length q.origin) p q.body.right ∙ was.iterators;
        accesses = all_in (IsAccess arrays (length more_temps) (length q.origin)) (accesses (redirected p q.body)) (λ a j.
            let m = in_map (redirected_access p) (accesses q.body) a (subst (In a) (redirected_accesses p q.body) j) in
            subst (IsAccess arrays (length more_temps) (length q.origin)) m.1.1
            (access_redirected (length q.origin) m.0 (λ e. old_dimensions m.0 (old_of q m.0 i m.1.0) e) (stays m.0 m.1.0)));
      }
      by false = record {
        iterators = was.iterators;
        accesses = all_in (IsAccess arrays (length more_temps) (length q.origin)) (accesses q.body) stays;
      }

  pub move_is_body : (k n : ℕ) → n ≡ p.around + dimensions → IsBody arrays (length more_temps) n (move_body p k)
  move_is_body k n e = record {
    iterators = by (nat_lt k (length p.ins));
    accesses = all_in (IsAccess arrays (length more_temps) n) (accesses (move_body p k)) (λ a i. elim (move_accesses k a i) as (λ _. IsAccess arrays (length more_temps) n a) [
      | inl f ↦ subst (IsAccess arrays (length more_temps) n) (sym f) (cell_access n e)
      | inr f ↦ subst (IsAccess arrays (length more_temps) n) (sym f)
          (access_redirected n (moved_cell p) (λ _. variables_length p.around p.extents ∙ long) (cell_access n e))
    ]);
  }
    where
      by : (b : Bool) → iters_below n (if b then in_body p else out_body p).right ≡ true
      by true = below_read n (moved_cell p)
      by false = below_read n (redirected_access p (moved_cell p))
