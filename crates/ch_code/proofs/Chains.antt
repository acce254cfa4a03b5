-- Operations of one rank, which stand in a row without parentheses: the text of the row tells its first part and those that follow.
use Rattle.std.proofs.Common.{◌≡◌, refl, sym, ap, ◌∙◌, List, [], ◌∷◌, ◌++◌, ℕ}
use Rattle.ch_nest.specs.declared.nest.Expr.{Expr}
use Rattle.ch_timed.specs.Members.{Each}

-- an operation and its right side
abbrev pub Link : Type 0 → Type 0
Link Op = Op × Expr

module _ {Op : Type 0} (make : Op → Expr → Expr → Expr) (IsFirst : Expr → Type 0) where
  abbrev pub built : Expr → List (Link Op) → Expr
  built x [] = x
  built x (l ∷ ls) = built (make (l.0) x (l.1)) ls

  built_last : (x : Expr) (ls : List (Link Op)) (o : Op) (y : Expr) → built x (ls ++ (o, y) ∷ []) ≡ make o (built x ls) y
  built_last x [] o y = refl
  built_last x (l ∷ ls) o y = built_last (make (l.0) x (l.1)) ls o y

  -- a first part and what follows it, all of which meet the condition
  abbrev pub IsChain : (Expr → Type 0) → Expr → Type 0
  IsChain P x = (first : Expr) × ((links : List (Link Op)) × ((x ≡ built first links) × (IsFirst first × (P first × Each (λ l. P (l.1)) links))))

  pub chain_one : (P : Expr → Type 0) (x : Expr) → IsFirst x → P x → IsChain P x
  chain_one P x first p = (x, ([], (refl, (first, (p, tt)))))

  each_last : (P : Expr → Type 0) (ls : List (Link Op)) (o : Op) (y : Expr) → Each (λ l. P (l.1)) ls → P y → Each (λ l. P (l.1)) (ls ++ (o, y) ∷ [])
  each_last P [] o y h p = (p, tt)
  each_last P (l ∷ ls) o y h p = (h.0, each_last P ls o y (h.1) p)

  pub chain_more : (P : Expr → Type 0) (o : Op) (x y : Expr) → IsChain P x → P y → IsChain P (make o x y)
  chain_more P o x y c p =
      let first = c.0 in
      let links = c.1.0 in
      let is : make o x y ≡ built first (links ++ (o, y) ∷ []) = ap (λ z. make o z y) (c.1.1.0) ∙ sym (built_last first links o y) in
      (first, (links ++ (o, y) ∷ [], (is, (c.1.1.1.0, (c.1.1.1.1.0, each_last P links o y (c.1.1.1.1.1) p)))))

-- A part is written in the text of a whole as it stands, and behind it a mark with a part, any number of times.
module _ {Op : Type 0} (make : Op → Expr → Expr → Expr) (IsFirst : Expr → Type 0) (mark : Op → List ℕ) (whole part : Expr → List ℕ)
    (joined : (o : Op) (x y : Expr) (r : List ℕ) → whole (make o x y) ++ r ≡ whole x ++ (mark o ++ (part y ++ r)))
    (read_mark : (o p : Op) (u v : List ℕ) → mark o ++ u ≡ mark p ++ v → (o ≡ p) × (u ≡ v)) (alone : (x : Expr) (r : List ℕ) → IsFirst x → whole x ++ r ≡ part x ++ r)
    (EndsPart EndsWhole : List ℕ → Type 0) (part_ends : (r : List ℕ) → EndsWhole r → EndsPart r) (mark_ends : (o : Op) (u : List ℕ) → EndsPart (mark o ++ u))
    (no_mark : (r : List ℕ) (o : Op) (u : List ℕ) → EndsWhole r → r ≡ mark o ++ u → ⊥) where
  abbrev tails : List (Link Op) → List ℕ → List ℕ
  tails [] r = r
  tails (l ∷ ls) r = mark (l.0) ++ (part (l.1) ++ tails ls r)

  whole_is : (x : Expr) (ls : List (Link Op)) (r : List ℕ) → whole (built make IsFirst x ls) ++ r ≡ whole x ++ tails ls r
  whole_is x [] r = refl
  whole_is x (l ∷ ls) r = whole_is (make (l.0) x (l.1)) ls r ∙ joined (l.0) x (l.1) (tails ls r)

  abbrev ClearPart : Expr → Type 0
  ClearPart x = (y : Expr) (r q : List ℕ) → EndsPart r → EndsPart q → part x ++ r ≡ part y ++ q → (x ≡ y) × (r ≡ q)

  abbrev ClearWhole : Expr → Type 0
  ClearWhole x = (y : Expr) (r q : List ℕ) → EndsWhole r → EndsWhole q → whole x ++ r ≡ whole y ++ q → (x ≡ y) × (r ≡ q)

  tails_end : (ls : List (Link Op)) (r : List ℕ) → EndsWhole r → EndsPart (tails ls r)
  tails_end [] r h = part_ends r h
  tails_end (l ∷ ls) r h = mark_ends (l.0) (part (l.1) ++ tails ls r)

  more_links : (o p : Op) (x y : Expr) (ls ms : List (Link Op)) → o ≡ p → x ≡ y → ls ≡ ms → (o, x) ∷ ls ≡ (p, y) ∷ ms
  more_links o p x y ls ms a b c =
      let with_mark : Op → List (Link Op) = λ z. (z, x) ∷ ls in
      let with_part : Expr → List (Link Op) = λ z. (p, z) ∷ ls in
      let with_rest : List (Link Op) → List (Link Op) = λ z. (p, y) ∷ z in
      ap with_mark a ∙ ap with_part b ∙ ap with_rest c

  read_tails : (ls ms : List (Link Op)) (r q : List ℕ) → Each (λ l. ClearPart (l.1)) ls → EndsWhole r → EndsWhole q → tails ls r ≡ tails ms q → (ls ≡ ms) × (r ≡ q)
  read_tails [] [] r q h hr hq e = (refl, e)
  read_tails [] (m ∷ ms) r q h hr hq e = absurd (no_mark r (m.0) _ hr e)
  read_tails (l ∷ ls) [] r q h hr hq e = absurd (no_mark q (l.0) _ hq (sym e))
  read_tails (l ∷ ls) (m ∷ ms) r q h hr hq e =
      let a = read_mark (l.0) (m.0) _ _ e in
      let b = h.0 (m.1) (tails ls r) (tails ms q) (tails_end ls r hr) (tails_end ms q hq) (a.1) in
      let c = read_tails ls ms r q (h.1) hr hq (b.1) in
      (more_links (l.0) (m.0) (l.1) (m.1) ls ms (a.0) (b.0) (c.0), c.1)

  -- the text of a whole tells it, where that of each part does
  pub read_chain : ((y : Expr) → IsChain make IsFirst (λ z. Unit {0}) y) → (x : Expr) → IsChain make IsFirst ClearPart x → ClearWhole x
  read_chain all x c y r q hr hq e =
      let d = all y in
      let first = c.0 in
      let links = c.1.0 in
      let left : whole x ++ r ≡ part first ++ tails links r = ap (λ z. whole z ++ r) (c.1.1.0) ∙ whole_is first links r ∙ alone first (tails links r) (c.1.1.1.0) in
      let right : whole y ++ q ≡ part (d.0) ++ tails (d.1.0) q = ap (λ z. whole z ++ q) (d.1.1.0) ∙ whole_is (d.0) (d.1.0) q ∙ alone (d.0) (tails (d.1.0) q) (d.1.1.1.0) in
      let a = c.1.1.1.1.0 (d.0) (tails links r) (tails (d.1.0) q) (tails_end links r hr) (tails_end (d.1.0) q hq) (sym left ∙ e ∙ right) in
      let b = read_tails links (d.1.0) r q (c.1.1.1.1.1) hr hq (a.1) in
      (c.1.1.0 ∙ ap (λ z. built make IsFirst z links) (a.0) ∙ ap (λ ls. built make IsFirst (d.0) ls) (b.0) ∙ sym (d.1.1.0), b.1)
