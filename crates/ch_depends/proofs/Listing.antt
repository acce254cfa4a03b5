-- The list of dependent triples grows in their order.
use Rattle.std.proofs.Common.{◌≡◌, refl, sym, subst, ℕ, zero, suc, ◌+◌, ◌<◌, ◌≤◌, pos, ◌<ℤ◌, true, Some, List, [], ◌∷◌, ◌++◌, length, ◌⊎◌, inl, inr, slice_get, arith}
use Rattle.std.specs.Ordering.{int_cmp, is_lt, ordering_then, MatchOrdering}
use Rattle.std.specs.declared.cmp.Ordering.{Ordering}
use Rattle.std.specs.declared.cmp.Ordering.TheVariants.{Less, Equal, Greater}
use Rattle.std.specs.Cmp.{int_ranked}
use Rattle.std.proofs.lemmas.Int.{ints}
use Rattle.ch_depends.specs.declared.answers.Level.{Level}
use Rattle.ch_depends.specs.declared.sides.Side.{Side}
use Rattle.ch_depends.specs.Depends.{Ascends, Precedes}
use Rattle.ch_depends.specs.Sought.{IsMet, Lists, MetBefore, level_at}
use Rattle.ch_space.proofs.Membership.{append_left, append_right, in_append}
use Rattle.ch_timed.specs.Members.{Each, In}

-- triples in order

abbrev pub Sits : Level → ℕ → ℕ → ℕ → Type 0
Sits t i j k = (t.from < i) ⊎ ((t.from ≡ i) × ((t.to < j) ⊎ ((t.to ≡ j) × (t.level < k))))

first_of : (a b : ℕ) (o rest : Ordering) → MatchOrdering o (pos a <ℤ pos b) (pos a ≡ pos b) (pos b <ℤ pos a) → is_lt (ordering_then o rest) ≡ true → (a < b) ⊎ ((a ≡ b) × (is_lt rest ≡ true))
first_of a b Less rest m h = inl (omega (arith, ints))
first_of a b Equal rest m h = inr (omega (arith, ints), h)
first_of a b Greater rest m h = cc

less_first : (a b : ℕ) (o rest : Ordering) → MatchOrdering o (pos a <ℤ pos b) (pos a ≡ pos b) (pos b <ℤ pos a) → (a < b) ⊎ ((a ≡ b) × (is_lt rest ≡ true)) → is_lt (ordering_then o rest) ≡ true
less_first a b Less rest m h = refl
less_first a b Equal rest m (inl l) = absurd (omega (arith, ints))
less_first a b Equal rest m (inr (e, l)) = l
less_first a b Greater rest m (inl l) = absurd (omega (arith, ints))
less_first a b Greater rest m (inr (e, l)) = absurd (omega (arith, ints))

ranked : (a b : ℕ) → MatchOrdering (int_cmp (pos a) (pos b)) (pos a <ℤ pos b) (pos a ≡ pos b) (pos b <ℤ pos a)
ranked a b = int_ranked (pos a) (pos b) (int_cmp (pos a) (pos b)) refl

pub sits : (t : Level) (i j k : ℕ) → Precedes t (level_at i j k) → Sits t i j k
sits t i j k h = elim (first_of t.from i (int_cmp (pos t.from) (pos i)) _ (ranked t.from i) h) as (λ _. Sits t i j k) [
  | inl l ↦ inl l
  | inr a ↦ elim (first_of t.to j (int_cmp (pos t.to) (pos j)) _ (ranked t.to j) a.1) as (λ _. Sits t i j k) [
    | inl l ↦ inr (a.0, inl l)
    | inr b ↦ elim (first_of t.level k (int_cmp (pos t.level) (pos k)) _ (ranked t.level k) b.1) as (λ _. Sits t i j k) [
      | inl l ↦ inr (a.0, inr (b.0, l))
      | inr c ↦ absurd (last c.1)
    ]
  ]
]
  where
    last : is_lt Equal ≡ true → ⊥
    last h = cc

pub precedes : (t : Level) (i j k : ℕ) → Sits t i j k → Precedes t (level_at i j k)
precedes t i j k (inl l) = less_first t.from i (int_cmp (pos t.from) (pos i)) _ (ranked t.from i) (inl l)
precedes t i j k (inr (a, inl l)) = less_first t.from i (int_cmp (pos t.from) (pos i)) _ (ranked t.from i) (inr (a, less_first t.to j (int_cmp (pos t.to) (pos j)) _ (ranked t.to j) (inl l)))
precedes t i j k (inr (a, inr (b, l))) =
    less_first t.from i (int_cmp (pos t.from) (pos i)) _ (ranked t.from i) (inr (
      a,
      less_first t.to j (int_cmp (pos t.to) (pos j)) _ (ranked t.to j)
          (inr (b, less_first t.level k (int_cmp (pos t.level) (pos k)) _ (ranked t.level k) (inl l))),
    ))

-- lists of triples

each_push : (P : Level → Type 0) (ts : List Level) (u : Level) → Each P ts → P u → Each P (ts ++ u ∷ [])
each_push P [] u h p = (p, tt)
each_push P (t ∷ ts) u h p = (h.0, each_push P ts u h.1 p)

ascends_push : (ts : List Level) (u : Level) → Ascends ts → ((t : Level) → In t ts → Precedes t u) → Ascends (ts ++ u ∷ [])
ascends_push [] u a h = (tt, tt)
ascends_push (t ∷ ts) u a h = (each_push (Precedes t) ts u a.0 (h t (inl refl)), ascends_push ts u a.1 (λ v i. h v (inr i)))

pub lists_same : (P Q : Level → Type 0) (ts : List Level) → ((t : Level) → P t → Q t) → ((t : Level) → Q t → P t) → Lists P ts → Lists Q ts
lists_same P Q ts f g l = record { ascends = l.ascends; only = λ t i. f t (l.only t i); all = λ t q. l.all t (g t q) }

lists_push : (P Q : Level → Type 0) (ts : List Level) (u : Level) → Lists P ts → ((t : Level) → P t → Precedes t u) → ((t : Level) → P t → Q t) → Q u → ((t : Level) → Q t → P t ⊎ (u ≡ t))
    → Lists Q (ts ++ u ∷ [])
lists_push P Q ts u l before f q parts = record {
  ascends = ascends_push ts u l.ascends (λ t i. before t (l.only t i));
  only = λ t i. elim (in_append ts (u ∷ []) t i) as (λ _. Q t) [
    | inl j ↦ f t (l.only t j)
    | inr j ↦ elim j as (λ _. Q t) [ inl k ↦ subst Q k q | inr m ↦ absurd m ]
  ];
  all = λ t h. elim (parts t h) as (λ _. In t (ts ++ u ∷ [])) [
    | inl p ↦ append_left ts (u ∷ []) t (l.all t p)
    | inr k ↦ append_right ts (u ∷ []) t (inl k)
  ];
}

level_by : (t : Level) (i j k : ℕ) → t.from ≡ i → t.to ≡ j → t.level ≡ k → level_at i j k ≡ t
level_by t i j k a b c = λ x. record { from = sym a x; to = sym b x; level = sym c x }

module _ (sides : List Side) where
  sits_more : (t : Level) (i j k : ℕ) → Sits t i j k → Sits t i j (k + 1)
  sits_more t i j k (inl l) = inl l
  sits_more t i j k (inr (a, inl l)) = inr (a, inl l)
  sits_more t i j k (inr (a, inr (b, l))) = inr (a, inr (b, omega arith))

  sits_or : (t : Level) (i j k : ℕ) → Sits t i j (k + 1) → Sits t i j k ⊎ (level_at i j k ≡ t)
  sits_or t i j k (inl l) = inl (inl l)
  sits_or t i j k (inr (a, inl l)) = inl (inr (a, inl l))
  sits_or t i j k (inr (a, inr (b, l))) = by_order (Rattle.std.proofs.lemmas.Bool.cases_order t.level k)
    where
      by_order : (t.level ≡ k) ⊎ ((t.level < k) ⊎ (k < t.level)) → Sits t i j k ⊎ (level_at i j k ≡ t)
      by_order (inl e) = inr (level_by t i j k a b e)
      by_order (inr (inl m)) = inl (inr (a, inr (b, m)))
      by_order (inr (inr m)) = absurd (omega arith)

  more : (t : Level) (i j k : ℕ) → MetBefore sides i j k t → MetBefore sides i j (k + 1) t
  more t i j k h = (h.0, precedes t i j (k + 1) (sits_more t i j k (sits t i j k h.1)))

  here : (i j k : ℕ) → Precedes (level_at i j k) (level_at i j (k + 1))
  here i j k = precedes (level_at i j k) i j (k + 1) (inr (refl, inr (refl, omega arith)))

  parts : (t : Level) (i j k : ℕ) → MetBefore sides i j (k + 1) t → MetBefore sides i j k t ⊎ (level_at i j k ≡ t)
  parts t i j k h = elim (sits_or t i j k (sits t i j (k + 1) h.1)) as (λ _. MetBefore sides i j k t ⊎ (level_at i j k ≡ t)) [
    | inl s ↦ inl (h.0, precedes t i j k s)
    | inr e ↦ inr e
  ]

  pub met_none : Lists (MetBefore sides 0 0 0) []
  met_none = record { ascends = tt; only = λ t i. absurd i; all = λ t h. nothing t (sits t 0 0 0 h.1) }
    where
      nothing : (t : Level) → Sits t 0 0 0 → ⊥
      nothing t (inl l) = omega arith
      nothing t (inr (a, inl l)) = omega arith
      nothing t (inr (a, inr (b, l))) = omega arith

  pub met_push : (i j k : ℕ) (ts : List Level) → Lists (MetBefore sides i j k) ts → IsMet sides (level_at i j k) → Lists (MetBefore sides i j (k + 1)) (ts ++ level_at i j k ∷ [])
  met_push i j k ts l m =
      lists_push (MetBefore sides i j k) (MetBefore sides i j (k + 1)) ts (level_at i j k) l (λ t h. h.1) (λ t h. more t i j k h) (m, here i j k) (λ t h. parts t i j k h)

  pub met_skip : (i j k : ℕ) (ts : List Level) → Lists (MetBefore sides i j k) ts → (IsMet sides (level_at i j k) → ⊥) → Lists (MetBefore sides i j (k + 1)) ts
  met_skip i j k ts l n =
      lists_same (MetBefore sides i j k) (MetBefore sides i j (k + 1)) ts (λ t h. more t i j k h)
      (λ t h. elim (parts t i j k h) as (λ _. MetBefore sides i j k t) [ inl p ↦ p | inr e ↦ absurd (n (subst (IsMet sides) (sym e) h.0)) ]) l

  -- no triple has more levels than n
  pub met_between : (i j n : ℕ) (ts : List Level) → Lists (MetBefore sides i j n) ts → ((t : Level) → IsMet sides t → t.from ≡ i → t.to ≡ j → t.level < n) → Lists (MetBefore sides i (j + 1) 0) ts
  met_between i j n ts l few =
      lists_same (MetBefore sides i j n) (MetBefore sides i (j + 1) 0) ts
      (λ t h. (h.0, precedes t i (j + 1) 0 (forth t (sits t i j n h.1)))) (λ t h. (h.0, precedes t i j n (back t h.0 (sits t i (j + 1) 0 h.1)))) l
    where
      forth : (t : Level) → Sits t i j n → Sits t i (j + 1) 0
      forth t (inl l) = inl l
      forth t (inr (a, inl l)) = inr (a, inl (omega arith))
      forth t (inr (a, inr (b, l))) = inr (a, inl (omega arith))

      back : (t : Level) → IsMet sides t → Sits t i (j + 1) 0 → Sits t i j n
      back t m (inl l) = inl l
      back t m (inr (a, inl l)) = by_order (Rattle.std.proofs.lemmas.Bool.cases_order t.to j)
        where
          by_order : (t.to ≡ j) ⊎ ((t.to < j) ⊎ (j < t.to)) → Sits t i j n
          by_order (inl e) = inr (a, inr (e, few t m a e))
          by_order (inr (inl k)) = inr (a, inl k)
          by_order (inr (inr k)) = absurd (omega arith)
      back t m (inr (a, inr (b, l))) = absurd (omega arith)

  below : (xs : List Side) (k : ℕ) (s : Side) → slice_get xs k ≡ Some s → k < length xs
  below [] zero s e = cc
  below [] (suc k) s e = cc
  below (x ∷ xs) zero s e = omega arith
  below (x ∷ xs) (suc k) s e = let r = below xs k s e in omega arith

  -- no triple has a second piece from n on
  pub met_from : (i n : ℕ) (ts : List Level) → length sides ≤ n → Lists (MetBefore sides i n 0) ts → Lists (MetBefore sides (i + 1) 0 0) ts
  met_from i n ts few l =
      lists_same (MetBefore sides i n 0) (MetBefore sides (i + 1) 0 0) ts
      (λ t h. (h.0, precedes t (i + 1) 0 0 (forth t (sits t i n 0 h.1)))) (λ t h. (h.0, precedes t i n 0 (back t h.0 (sits t (i + 1) 0 0 h.1)))) l
    where
      forth : (t : Level) → Sits t i n 0 → Sits t (i + 1) 0 0
      forth t (inl l) = inl (omega arith)
      forth t (inr (a, inl l)) = inl (omega arith)
      forth t (inr (a, inr (b, l))) = absurd (omega arith)

      back : (t : Level) → IsMet sides t → Sits t (i + 1) 0 0 → Sits t i n 0
      back t m (inl l) = by_order (Rattle.std.proofs.lemmas.Bool.cases_order t.from i)
        where
          by_order : (t.from ≡ i) ⊎ ((t.from < i) ⊎ (i < t.from)) → Sits t i n 0
          by_order (inl e) = let b = below sides t.to m.to m.is_to in inr (e, inl (omega arith))
          by_order (inr (inl k)) = inl k
          by_order (inr (inr k)) = absurd (omega arith)
      back t m (inr (a, inl l)) = absurd (omega arith)
      back t m (inr (a, inr (b, l))) = absurd (omega arith)

  pub met_all : (n : ℕ) (ts : List Level) → length sides ≤ n → Lists (MetBefore sides n 0 0) ts → Lists (IsMet sides) ts
  met_all n ts few l =
      lists_same (MetBefore sides n 0 0) (IsMet sides) ts (λ t h. h.0)
      (λ t m. (m, let b = below sides t.from m.from m.is_from in precedes t n 0 0 (inl (omega arith)))) l
