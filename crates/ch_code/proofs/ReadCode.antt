-- The text of code tells it.
use Rattle.std.proofs.Common.{◌≡◌, refl, sym, ap, ◌∙◌, subst, ℕ, zero, suc, Bool, true, false, cond, nat_eq, List, [], ◌∷◌, ◌++◌, length, map, inl, inr, arith, append_assoc}
use Rattle.std.specs.Prelude.{codes}
use Rattle.std.specs.List.{flat_map}
use Rattle.std.proofs.lemmas.List.{append_cancel_left}
use Rattle.ch_affine.specs.Form.{Form}
use Rattle.ch_affine.specs.Rows.{Rows}
use Rattle.ch_nest.specs.declared.nest.ArrayDecl.{ArrayDecl}
use Rattle.ch_nest.specs.declared.nest.Body.{Body}
use Rattle.ch_print.specs.Instances.{label_text}
use Rattle.ch_print.specs.Numbers.{number_text}
use Rattle.ch_print.proofs.Readback.{is_digit, read_number, stops}
use Rattle.ch_timed.specs.declared.element.Label.{Label}
use Rattle.ch_timed.specs.declared.element.Label.TheVariants.{Stmt, Move}
use Rattle.ch_code.specs.BodyText.{body_text}
use Rattle.ch_code.specs.FormText.{form_text, looped}
use Rattle.ch_code.specs.LoopText.{for_text, if_text}
use Rattle.ch_code.specs.CodeText.{Printed, brace_lead, code_layer, code_text, instance_text, lead, leaf_text, level_of, margin, more_origins_text, origin_text, origins_text, parts_text, place_text}
use Rattle.ch_code.specs.declared.code.Bound.{Bound}
use Rattle.ch_code.specs.declared.code.Code.{Code, map-Code}
use Rattle.ch_code.specs.declared.code.Code.TheOpen.{Code-F}
use Rattle.ch_code.specs.declared.code.Code.TheViews.{out-Code, roll-Code, roll-out-Code}
use Rattle.ch_code.specs.declared.code.Code.TheFolds.{fold-roll-Code, ind-Code}
use Rattle.ch_code.proofs.ReadExprs.{read_body}
use Rattle.ch_code.proofs.ReadForms.{behind_one, differ, goes_on}
use Rattle.ch_code.proofs.ReadGuards.{Behind, behind_test, read_if}
use Rattle.ch_code.proofs.ReadHeads.{read_for, read_loop_form}
use Rattle.ch_code.proofs.ReadLists.{leads, read_all}

-- statements

origin_is : (n k : ℕ) (f : Form) (r : List ℕ) → origin_text n k f ++ r ≡ codes "i" ++ (number_text k ++ (codes " = " ++ (form_text looped n f ++ r)))
unfolding origin_text
origin_is n k f r = simp append_assoc

read_origin : (n k : ℕ) (f g : Form) (r q : List ℕ) → goes_on r ≡ false → goes_on q ≡ false → origin_text n k f ++ r ≡ origin_text n k g ++ q → (f ≡ g) × (r ≡ q)
read_origin n k f g r q hr hq e =
    read_loop_form n f g r q hr hq
    (append_cancel_left (codes " = ") _ _ (append_cancel_left (number_text k) _ _ (append_cancel_left (codes "i") _ _ (sym (origin_is n k f r) ∙ e ∙ origin_is n k g q))))

origins_go : (n k : ℕ) (fs : List Form) (r : List ℕ) → goes_on (more_origins_text n k fs ++ 41 ∷ r) ≡ false
origins_go n k [] r = refl
origins_go n k (f ∷ fs) r = refl

read_more_origins : (n k : ℕ) (fs gs : List Form) (r q : List ℕ) → more_origins_text n k fs ++ 41 ∷ r ≡ more_origins_text n k gs ++ 41 ∷ q → (fs ≡ gs) × (r ≡ q)
read_more_origins n k fs gs r q e =
    let s = read_all (λ k f. codes ", " ++ origin_text n k f) (more_origins_text n) (λ k. refl) (λ k x xs. refl) (leads 44) (λ t. goes_on t ≡ false) (λ k x t. refl) (λ k x t. refl)
    (λ k x y r q hr hq d. read_origin n k x y r q hr hq (append_cancel_left (codes ", ") _ _ d)) k fs gs (41 ∷ r) (41 ∷ q) refl refl refl refl e in
    (s.0, behind_one _ _ _ _ (s.1))

read_origins : (n : ℕ) (fs gs : List Form) (r q : List ℕ) → origins_text n fs ++ 41 ∷ r ≡ origins_text n gs ++ 41 ∷ q → (fs ≡ gs) × (r ≡ q)
read_origins n [] [] r q e = (refl, behind_one _ _ _ _ e)
read_origins n [] (g ∷ gs) r q e = absurd (differ 0 _ _ refl (e ∙ append_assoc (origin_text n 1 g) (more_origins_text n 2 gs) (41 ∷ q) ∙ origin_is n 1 g _))
read_origins n (f ∷ fs) [] r q e = absurd (differ 0 _ _ refl (sym e ∙ append_assoc (origin_text n 1 f) (more_origins_text n 2 fs) (41 ∷ r) ∙ origin_is n 1 f _))
read_origins n (f ∷ fs) (g ∷ gs) r q e =
    let s = read_origin n 1 f g (more_origins_text n 2 fs ++ 41 ∷ r) (more_origins_text n 2 gs ++ 41 ∷ q) (origins_go n 2 fs r) (origins_go n 2 gs q)
    (sym (append_assoc (origin_text n 1 f) (more_origins_text n 2 fs) (41 ∷ r)) ∙ e ∙ append_assoc (origin_text n 1 g) (more_origins_text n 2 gs) (41 ∷ q)) in
    let t = read_more_origins n 2 fs gs r q (s.1) in
    (ap (λ z. z ∷ fs) (s.0) ∙ ap (λ zs. g ∷ zs) (t.0), t.1)

read_label : (a b : Label) (r q : List ℕ) → stops is_digit r ≡ true → stops is_digit q ≡ true → label_text a ++ r ≡ label_text b ++ q → (a ≡ b) × (r ≡ q)
read_label (Stmt i) (Stmt j) r q hr hq e = let s = read_number i j r q hr hq (append_cancel_left (codes "S") _ _ e) in (ap Stmt (s.0), s.1)
read_label (Stmt i) (Move j) r q hr hq e = absurd (differ 0 _ _ refl e)
read_label (Move i) (Stmt j) r q hr hq e = absurd (differ 0 _ _ refl e)
read_label (Move i) (Move j) r q hr hq e = let s = read_number i j r q hr hq (append_cancel_left (codes "M") _ _ e) in (ap Move (s.0), s.1)

instance_is : (n : ℕ) (label : Label) (origin : List Form) (r : List ℕ) → instance_text n label origin ++ r ≡ label_text label ++ (codes "(" ++ (origins_text n origin ++ 41 ∷ r))
unfolding instance_text
instance_is n label origin r = simp append_assoc

read_instance : (n : ℕ) (a b : Label) (fs gs : List Form) (r q : List ℕ) → instance_text n a fs ++ r ≡ instance_text n b gs ++ q → (a ≡ b) × (fs ≡ gs) × (r ≡ q)
read_instance n a b fs gs r q e =
    let s = read_label a b (codes "(" ++ (origins_text n fs ++ 41 ∷ r)) (codes "(" ++ (origins_text n gs ++ 41 ∷ q)) refl refl (sym (instance_is n a fs r) ∙ e ∙ instance_is n b gs q) in
    let t = read_origins n fs gs r q (append_cancel_left (codes "(") _ _ (s.1)) in
    (s.0, t.0, t.1)

read_places : (ps qs : List ℕ) (r q : List ℕ) → flat_map place_text ps ++ 58 ∷ r ≡ flat_map place_text qs ++ 58 ∷ q → (ps ≡ qs) × (r ≡ q)
read_places ps qs r q e =
    let s = read_all (λ k. place_text) (λ k. flat_map place_text) (λ k. refl) (λ k x xs. refl) (leads 32) (λ t. stops is_digit t ≡ true) (λ k x t. refl) (λ k x t. refl)
    (λ k x y r q hr hq d. read_number x y r q hr hq (append_cancel_left (codes " ") _ _ d)) 0 ps qs (58 ∷ r) (58 ∷ q) refl refl refl refl e in
    (s.0, behind_one _ _ _ _ (s.1))

module _ (arrays : List ArrayDecl) where
  leaf_is : (n : ℕ) (label : Label) (body : Body) (origin : List Form) (places : List ℕ) (r : List ℕ)
      → leaf_text arrays n label body origin places ++ r
      ≡ instance_text n label origin ++ (codes " at" ++ (flat_map place_text places ++ (codes ": " ++ (body_text arrays (length origin) body ++ 10 ∷ r))))
  unfolding leaf_text
  leaf_is n label body origin places r = simp append_assoc

  abbrev SameLeaf : Label → Label → Body → Body → List Form → List Form → List ℕ → List ℕ → List ℕ → List ℕ → Type 0
  SameLeaf a b x y fs gs ps qs r q = (a ≡ b) × (x ≡ y) × (fs ≡ gs) × (ps ≡ qs) × (r ≡ q)

  read_leaf : (n : ℕ) (a b : Label) (x y : Body) (fs gs : List Form) (ps qs : List ℕ) (r q : List ℕ) → leaf_text arrays n a x fs ps ++ r ≡ leaf_text arrays n b y gs qs ++ q
      → SameLeaf a b x y fs gs ps qs r q
  read_leaf n a b x y fs gs ps qs r q e =
      let s = read_instance n a b fs gs _ _ (sym (leaf_is n a x fs ps r) ∙ e ∙ leaf_is n b y gs qs q) in
      let t = read_places ps qs (32 ∷ (body_text arrays (length fs) x ++ 10 ∷ r)) (32 ∷ (body_text arrays (length gs) y ++ 10 ∷ q)) (append_cancel_left (codes " at") _ _ (s.2)) in
      let u = read_body arrays (length gs) x y (10 ∷ r) (10 ∷ q) (refl, refl) (refl, refl)
      (sym (ap (λ zs. body_text arrays (length zs) x ++ 10 ∷ r) (s.1)) ∙ behind_one _ _ _ _ (t.1)) in
      (s.0, u.0, s.1, t.0, behind_one _ _ _ _ (u.1))

-- margins

margin_more : (level : ℕ) (r : List ℕ) → margin (suc level) ++ r ≡ margin level ++ 32 ∷ 32 ∷ r
margin_more zero r = refl
margin_more (suc level) r = ap (λ t. 32 ∷ 32 ∷ t) (margin_more level r)

-- what code begins as: 0 a sequence, 1 a loop, 2 a guard, 3 a statement
abbrev byte_shape : ℕ → ℕ
byte_shape b = cond (nat_eq b 123) 0 (cond (nat_eq b 102) 1 (cond (nat_eq b 105) 2 3))

abbrev code_shape : {A : Type 0} → Code-F A → ℕ
code_shape (Code-F.Seq parts) = 0
code_shape (Code-F.Loop level lows highs inner) = 1
code_shape (Code-F.Guard system inner) = 2
code_shape (Code-F.Leaf label body origin places) = 3

abbrev start : ℕ → Bool → ℕ → List ℕ
start zero = brace_lead
start (suc n) = lead

same_byte : (t : List ℕ) (b c : ℕ) (x y : List ℕ) → t ++ b ∷ x ≡ t ++ c ∷ y → byte_shape b ≡ byte_shape c
same_byte t b c x y e =
    let h : b ≡ c = cc (append_cancel_left t (b ∷ x) (c ∷ y) e) in
    ap byte_shape h

-- two texts of code at one place begin alike
same_shape : (behind : Bool) (level m n b c : ℕ) (x y : List ℕ) → byte_shape b ≡ m → byte_shape c ≡ n → start m behind level ++ b ∷ x ≡ start n behind level ++ c ∷ y → m ≡ n
same_shape false level zero zero b c x y hb hc e = refl
same_shape false level zero (suc n) b c x y hb hc e = sym hb ∙ same_byte (margin level) b c x y e ∙ hc
same_shape false level (suc m) zero b c x y hb hc e = sym hb ∙ same_byte (margin level) b c x y e ∙ hc
same_shape false level (suc m) (suc n) b c x y hb hc e = sym hb ∙ same_byte (margin level) b c x y e ∙ hc
same_shape true level zero zero b c x y hb hc e = refl
same_shape true level zero (suc n) b c x y hb hc e = absurd (differ 0 _ _ refl e)
same_shape true level (suc m) zero b c x y hb hc e = absurd (differ 0 _ _ refl e)
same_shape true level (suc m) (suc n) b c x y hb hc e = sym hb ∙ same_byte (lead true level) b c x y e ∙ hc

label_starts : (label : Label) (r : List ℕ) → (b : ℕ) × (x : List ℕ) × ((label_text label ++ r ≡ b ∷ x) × (byte_shape b ≡ 3))
label_starts (Stmt i) r = (83, _, (refl, refl))
label_starts (Move i) r = (77, _, (refl, refl))

module _ (arrays : List ArrayDecl) where
  abbrev pub text : Code → Printed
  text = code_text arrays

  abbrev Clear : Code → Type 0
  Clear c = (y : Code) (behind : Bool) (level around : ℕ) (r q : List ℕ) → text c behind level around ++ r ≡ text y behind level around ++ q → (c ≡ y) × (r ≡ q)

  abbrev Known : Type 0
  Known = (c : Code) × Clear c

  abbrev bare : Known → Code
  bare e = e.0

  abbrev pub layer : Code-F Code → Printed
  layer z = code_layer arrays (map-Code Code Printed text z)

  rolled : (z : Code-F Code) (behind : Bool) (level around : ℕ) → text (roll-Code z) behind level around ≡ layer z behind level around
  rolled z behind level around = ap (λ f. f behind level around) (fold-roll-Code Printed (code_layer arrays) z)

  pub opened : (y : Code) (behind : Bool) (level around : ℕ) (q : List ℕ) → text y behind level around ++ q ≡ layer (out-Code y) behind level around ++ q
  opened y behind level around q = ap (λ t. t ++ q) (ap (λ c. text c behind level around) (sym (roll-out-Code y)) ∙ rolled (out-Code y) behind level around)

  seq_is : (parts : List Code) (behind : Bool) (level around : ℕ) (r : List ℕ)
      → layer (Code-F.Seq parts) behind level around ++ r
      ≡ brace_lead behind level ++ (codes "{\n" ++ (parts_text (map text parts) (suc level) around ++ (margin level ++ (codes "}\n" ++ r))))
  seq_is parts behind level around r = simp append_assoc

  loop_is : (number : ℕ) (lows highs : List Bound) (inner : Code) (behind : Bool) (level around : ℕ) (r : List ℕ)
      → layer (Code-F.Loop number lows highs inner) behind level around ++ r
      ≡ lead behind level ++ (for_text around number lows highs ++ (text inner true (level_of behind level) (suc around) ++ r))
  loop_is number lows highs inner behind level around r =
      append_assoc (lead behind level ++ for_text around number lows highs) (text inner true (level_of behind level) (suc around)) r
      ∙ append_assoc (lead behind level) (for_text around number lows highs) _

  guard_is : (system : Rows) (inner : Code) (behind : Bool) (level around : ℕ) (r : List ℕ)
      → layer (Code-F.Guard system inner) behind level around ++ r ≡ lead behind level ++ (if_text around system ++ (text inner true (level_of behind level) around ++ r))
  guard_is system inner behind level around r =
      append_assoc (lead behind level ++ if_text around system) (text inner true (level_of behind level) around) r
      ∙ append_assoc (lead behind level) (if_text around system) _

  leaf_at : (label : Label) (body : Body) (origin : List Form) (places : List ℕ) (behind : Bool) (level around : ℕ) (r : List ℕ)
      → layer (Code-F.Leaf label body origin places) behind level around ++ r ≡ lead behind level ++ (leaf_text arrays around label body origin places ++ r)
  leaf_at label body origin places behind level around r = append_assoc (lead behind level) (leaf_text arrays around label body origin places) r

  abbrev Begun : Code-F Code → Bool → ℕ → ℕ → List ℕ → Type 0
  Begun z behind level around r = (b : ℕ) × (x : List ℕ) × ((layer z behind level around ++ r ≡ start (code_shape z) behind level ++ b ∷ x) × (byte_shape b ≡ code_shape z))

  begun : (z : Code-F Code) (behind : Bool) (level around : ℕ) (r : List ℕ) → Begun z behind level around r
  unfolding for_text if_text
  begun (Code-F.Seq parts) behind level around r = (123, _, (seq_is parts behind level around r, refl))
  begun (Code-F.Loop number lows highs inner) behind level around r = (102, _, (loop_is number lows highs inner behind level around r, refl))
  begun (Code-F.Guard system inner) behind level around r = (105, _, (guard_is system inner behind level around r, refl))
  begun (Code-F.Leaf label body origin places) behind level around r =
      let l = label_starts label _ in (
        l.0,
        l.1,
        (
          leaf_at label body origin places behind level around r
              ∙ ap (λ t. lead behind level ++ t) (leaf_is arrays around label body origin places r ∙ instance_is around label origin _ ∙ l.2.0),
          l.2.1,
        ),
      )

  shapes : (k z : Code-F Code) (behind : Bool) (level around : ℕ) (r q : List ℕ) → layer k behind level around ++ r ≡ layer z behind level around ++ q → code_shape k ≡ code_shape z
  shapes k z behind level around r q e =
      let a = begun k behind level around r in
      let b = begun z behind level around q in
      same_shape behind level (code_shape k) (code_shape z) (a.0) (b.0) (a.1) (b.1) (a.2.1) (b.2.1) (sym (a.2.0) ∙ e ∙ b.2.0)

  -- behind a head code stands behind a line's end, or a sequence's brace does
  layer_behind : (z : Code-F Code) (level around : ℕ) (r : List ℕ) → Behind (layer z true level around ++ r)
  layer_behind (Code-F.Seq parts) level around r = inr (_, refl)
  layer_behind (Code-F.Loop number lows highs inner) level around r = inl (_, refl)
  layer_behind (Code-F.Guard system inner) level around r = inl (_, refl)
  layer_behind (Code-F.Leaf label body origin places) level around r = inl (_, refl)

  code_behind : (c : Code) (level around : ℕ) (r : List ℕ) → Behind (text c true level around ++ r)
  code_behind c level around r = subst Behind (sym (opened c true level around r)) (layer_behind (out-Code c) level around r)

  no_sum : (c : Code) (level around : ℕ) (r : List ℕ) → goes_on (text c true level around ++ r) ≡ false
  no_sum c level around r = behind_test goes_on false (λ x. refl) (λ x. refl) _ (code_behind c level around r)

  -- on a line of its own code stands behind the margin
  layer_margin : (z : Code-F Code) (level around : ℕ) (r : List ℕ) → (x : List ℕ) × (layer z false level around ++ r ≡ margin level ++ x)
  layer_margin (Code-F.Seq parts) level around r = (_, seq_is parts false level around r)
  layer_margin (Code-F.Loop number lows highs inner) level around r = (_, loop_is number lows highs inner false level around r)
  layer_margin (Code-F.Guard system inner) level around r = (_, guard_is system inner false level around r)
  layer_margin (Code-F.Leaf label body origin places) level around r = (_, leaf_at label body origin places false level around r)

  -- a part of a sequence isn't its end
  part_apart : (c : Code) (level around : ℕ) (r q : List ℕ) → margin level ++ 125 ∷ r ≡ text c false (suc level) around ++ q → ⊥
  part_apart c level around r q e =
      let m = layer_margin (out-Code c) (suc level) around q in
      let a = append_cancel_left (margin level) _ _ (e ∙ opened c false (suc level) around q ∙ m.1 ∙ margin_more level (m.0)) in
      differ 0 _ _ refl a

  read_parts : (ks : List Known) (ys : List Code) (level around : ℕ) (r q : List ℕ)
      → parts_text (map text (map bare ks)) (suc level) around ++ (margin level ++ 125 ∷ r) ≡ parts_text (map text ys) (suc level) around ++ (margin level ++ 125 ∷ q)
      → (map bare ks ≡ ys) × (r ≡ q)
  read_parts [] [] level around r q e = (refl, behind_one _ _ _ _ (append_cancel_left (margin level) _ _ e))
  read_parts [] (y ∷ ys) level around r q e = absurd (part_apart y level around r _ (e ∙ append_assoc (text y false (suc level) around) (parts_text (map text ys) (suc level) around) _))
  read_parts (k ∷ ks) [] level around r q e =
      absurd (part_apart (bare k) level around q _ (sym e ∙ append_assoc (text (bare k) false (suc level) around) (parts_text (map text (map bare ks)) (suc level) around) _))
  read_parts (k ∷ ks) (y ∷ ys) level around r q e =
      let s = k.1 y false (suc level) around _ _
      (sym (append_assoc (text (bare k) false (suc level) around) (parts_text (map text (map bare ks)) (suc level) around) (margin level ++ 125 ∷ r))
      ∙ e ∙ append_assoc (text y false (suc level) around) (parts_text (map text ys) (suc level) around) (margin level ++ 125 ∷ q)) in
      let t = read_parts ks ys level around r q (s.1) in
      (ap (λ z. z ∷ map bare ks) (s.0) ∙ ap (λ zs. y ∷ zs) (t.0), t.1)

  abbrev Matched : Code-F Known → Code-F Code → List ℕ → List ℕ → Type 0
  Matched k z r q = (map-Code Known Code bare k ≡ z) × (r ≡ q)

  same_loop : (i j : ℕ) (bs cs ds es : List Bound) (a x : Code) → i ≡ j → bs ≡ cs → ds ≡ es → a ≡ x → Code-F.Loop i bs ds a ≡ Code-F.Loop j cs es x
  same_loop i j bs cs ds es a x h k l m = cc

  same_guard : (s u : Rows) (a x : Code) → s ≡ u → a ≡ x → Code-F.Guard s a ≡ Code-F.Guard u x
  same_guard s u a x h k = cc

  abbrev leaf : Label → Body → List Form → List ℕ → Code-F Code
  leaf label body origin places = Code-F.Leaf label body origin places

  same_leaf : (a b : Label) (x y : Body) (fs gs : List Form) (ps qs : List ℕ) → a ≡ b → x ≡ y → fs ≡ gs → ps ≡ qs → leaf a x fs ps ≡ leaf b y gs qs
  same_leaf a b x y fs gs ps qs h k l m = cc

  match_layer : (k : Code-F Known) (z : Code-F Code) (behind : Bool) (level around : ℕ) (r q : List ℕ) → code_shape (map-Code Known Code bare k) ≡ code_shape z
      → layer (map-Code Known Code bare k) behind level around ++ r ≡ layer z behind level around ++ q → Matched k z r q
  match_layer (Code-F.Seq ks) (Code-F.Seq ys) behind level around r q h e =
      let a = append_cancel_left (codes "{\n") _ _ (append_cancel_left (brace_lead behind level) _ _ (sym (seq_is (map bare ks) behind level around r) ∙ e ∙ seq_is ys behind level around q)) in
      let s = read_parts ks ys level around (10 ∷ r) (10 ∷ q) a in
      (ap (λ u. Code-F.Seq u) (s.0), behind_one _ _ _ _ (s.1))
  match_layer (Code-F.Loop i bs ds a) (Code-F.Loop j cs es x) behind level around r q h e =
      let d = append_cancel_left (lead behind level) _ _ (sym (loop_is i bs ds (bare a) behind level around r) ∙ e ∙ loop_is j cs es x behind level around q) in
      let s = read_for around i j bs ds cs es _ _ (no_sum (bare a) (level_of behind level) (suc around) r) (no_sum x (level_of behind level) (suc around) q) d in
      let t = a.1 x true (level_of behind level) (suc around) r q (s.3) in
      (same_loop i j bs cs ds es (bare a) x (s.0) (s.1) (s.2) (t.0), t.1)
  match_layer (Code-F.Guard s a) (Code-F.Guard u x) behind level around r q h e =
      let d = append_cancel_left (lead behind level) _ _ (sym (guard_is s (bare a) behind level around r) ∙ e ∙ guard_is u x behind level around q) in
      let p = read_if around s u _ _ (code_behind (bare a) (level_of behind level) around r) (code_behind x (level_of behind level) around q) d in
      let t = a.1 x true (level_of behind level) around r q (p.1) in
      (same_guard s u (bare a) x (p.0) (t.0), t.1)
  match_layer (Code-F.Leaf a x fs ps) (Code-F.Leaf b y gs qs) behind level around r q h e =
      let d = append_cancel_left (lead behind level) _ _ (sym (leaf_at a x fs ps behind level around r) ∙ e ∙ leaf_at b y gs qs behind level around q) in
      let s = read_leaf arrays around a b x y fs gs ps qs r q d in
      (same_leaf a b x y fs gs ps qs (s.0) (s.1) (s.2) (s.3), s.4)
  match_layer _ _ behind level around r q h e = absurd (omega (arith, h))

  pub read_code : (x : Code) → Clear x
  read_code = ind-Code Clear (λ x k is y behind level around r q e.
      let d = ap (λ z. layer z behind level around ++ r) is ∙ sym (ap (λ t. t ++ r) (rolled x behind level around)) ∙ e ∙ opened y behind level around q in
      let s = match_layer k (out-Code y) behind level around r q (shapes (map-Code Known Code bare k) (out-Code y) behind level around r q d) d in
      (ap roll-Code (sym is ∙ s.0) ∙ roll-out-Code y, s.1))
