-- The values that loops around one another take together, where the conditions between them are met.
use Rattle.std.proofs.Common.{◌≡◌, refl, sym, ap, subst, suc, ℤ, true, List, [], ◌∷◌, ◌++◌, length, append_assoc, append-nil}
use Rattle.ch_affine.specs.Form.{Form}
use Rattle.ch_nest.specs.Run.{is_met, values_at}
use Rattle.ch_space.specs.declared.level.Around.{Around}
use Rattle.ch_space.specs.declared.level.Around.TheVariants.{Inside, Where}
use Rattle.ch_space.specs.declared.level.Level.{Level}
use Rattle.ch_space.specs.Statements.{loops}
use Rattle.ch_timed.specs.Members.{In}

-- each value is one of its loop at the values before it, and each condition is met at them
abbrev pub Between : List ℤ → List Around → List ℤ → Type 0
Between pre [] [] = Unit {0}
Between pre [] (x ∷ xs) = ⊥
Between pre (Inside l ∷ more) [] = ⊥
Between pre (Inside l ∷ more) (x ∷ xs) = In x (values_at l.lows l.highs l.step pre) × Between (pre ++ x ∷ []) more xs
Between pre (Where row ∷ more) xs = (is_met row pre ≡ true) × Between pre more xs

-- the values of all loops but the last, and that of the last
pub record Pushed (pre : List ℤ) (ps : List Around) (l : Level) (zs : List ℤ) : Type 0 where
  pub xs : List ℤ
  pub x : ℤ
  pub is : zs ≡ xs ++ x ∷ []
  pub inside : Between pre ps xs
  pub value : In x (values_at l.lows l.highs l.step (pre ++ xs))

pub pushed : (pre : List ℤ) (ps : List Around) (l : Level) (zs : List ℤ) → Between pre (ps ++ Inside l ∷ []) zs → Pushed pre ps l zs
pushed pre [] l [] b = absurd b
pushed pre [] l (x ∷ []) b = record {
  xs = [];
  x = x;
  is = refl;
  inside = tt;
  value = subst (λ p. In x (values_at l.lows l.highs l.step p)) (sym (append-nil pre)) b.0;
}
pushed pre [] l (x ∷ y ∷ zs) b = absurd b.1
pushed pre (Inside k ∷ ps) l [] b = absurd b
pushed pre (Inside k ∷ ps) l (x ∷ zs) b =
    let r = pushed (pre ++ x ∷ []) ps l zs b.1 in record {
      xs = x ∷ r.xs;
      x = r.x;
      is = ap (λ t. x ∷ t) r.is;
      inside = (b.0, r.inside);
      value = subst (λ p. In r.x (values_at l.lows l.highs l.step p)) (append_assoc pre (x ∷ []) r.xs) r.value;
    }
pushed pre (Where row ∷ ps) l zs b =
    let r = pushed pre ps l zs b.1 in record { xs = r.xs; x = r.x; is = r.is; inside = (b.0, r.inside); value = r.value }

pub push : (pre : List ℤ) (ps : List Around) (l : Level) (xs : List ℤ) (x : ℤ) → Between pre ps xs → In x (values_at l.lows l.highs l.step (pre ++ xs))
    → Between pre (ps ++ Inside l ∷ []) (xs ++ x ∷ [])
push pre [] l [] x b i = (subst (λ p. In x (values_at l.lows l.highs l.step p)) (append-nil pre) i, tt)
push pre [] l (y ∷ xs) x b i = absurd b
push pre (Inside k ∷ ps) l [] x b i = absurd b
push pre (Inside k ∷ ps) l (y ∷ xs) x b i =
    (b.0, push (pre ++ y ∷ []) ps l xs x b.1 (subst (λ p. In x (values_at l.lows l.highs l.step p)) (sym (append_assoc pre (y ∷ []) xs)) i))
push pre (Where row ∷ ps) l xs x b i = (b.0, push pre ps l xs x b.1 i)

-- a condition behind them
pub met_last : (pre : List ℤ) (ps : List Around) (row : Form) (xs : List ℤ) → Between pre (ps ++ Where row ∷ []) xs → Between pre ps xs × (is_met row (pre ++ xs) ≡ true)
met_last pre [] row [] b = (tt, subst (λ p. is_met row p ≡ true) (sym (append-nil pre)) b.0)
met_last pre [] row (x ∷ xs) b = absurd b.1
met_last pre (Inside k ∷ ps) row [] b = absurd b
met_last pre (Inside k ∷ ps) row (x ∷ xs) b =
    let r = met_last (pre ++ x ∷ []) ps row xs b.1 in
    ((b.0, r.0), subst (λ p. is_met row p ≡ true) (append_assoc pre (x ∷ []) xs) r.1)
met_last pre (Where r ∷ ps) row xs b = let p = met_last pre ps row xs b.1 in ((b.0, p.0), p.1)

pub met_push : (pre : List ℤ) (ps : List Around) (row : Form) (xs : List ℤ) → Between pre ps xs → is_met row (pre ++ xs) ≡ true → Between pre (ps ++ Where row ∷ []) xs
met_push pre [] row [] b m = (subst (λ p. is_met row p ≡ true) (append-nil pre) m, tt)
met_push pre [] row (x ∷ xs) b m = absurd b
met_push pre (Inside k ∷ ps) row [] b m = absurd b
met_push pre (Inside k ∷ ps) row (x ∷ xs) b m =
    (b.0, met_push (pre ++ x ∷ []) ps row xs b.1 (subst (λ p. is_met row p ≡ true) (sym (append_assoc pre (x ∷ []) xs)) m))
met_push pre (Where r ∷ ps) row xs b m = (b.0, met_push pre ps row xs b.1 m)

pub length_between : (pre : List ℤ) (ps : List Around) (xs : List ℤ) → Between pre ps xs → length xs ≡ loops ps
length_between pre [] [] b = refl
length_between pre [] (x ∷ xs) b = absurd b
length_between pre (Inside l ∷ ps) [] b = absurd b
length_between pre (Inside l ∷ ps) (x ∷ xs) b = ap suc (length_between (pre ++ x ∷ []) ps xs b.1)
length_between pre (Where row ∷ ps) xs b = length_between pre ps xs b.1

pub loops_inside : (ps : List Around) (l : Level) → loops (ps ++ Inside l ∷ []) ≡ suc (loops ps)
loops_inside [] l = refl
loops_inside (Inside k ∷ ps) l = ap suc (loops_inside ps l)
loops_inside (Where row ∷ ps) l = loops_inside ps l

pub loops_where : (ps : List Around) (row : Form) → loops (ps ++ Where row ∷ []) ≡ loops ps
loops_where [] row = refl
loops_where (Inside k ∷ ps) row = ap suc (loops_where ps row)
loops_where (Where r ∷ ps) row = loops_where ps row
