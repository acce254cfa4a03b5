-- The moves of a plan, numbered from 0: those into the buffer first.
use Rattle.std.proofs.Common.{◌≡◌, refl, sym, ap, ap₂, ◌∙◌, subst, ℕ, zero, suc, ◌+◌, ◌<◌, ◌≤◌, if◌then◌else◌, List, [], ◌∷◌, ◌++◌, map, length, inl, inr, arith}
use Rattle.std.proofs.lemmas.Bool.{le-ltb, lt-ltb}
use Rattle.ch_copied.specs.Bodies.{in_body, out_body}
use Rattle.ch_copied.specs.Copied.{copy_ins, copy_outs, move, moves}
use Rattle.ch_copied.specs.Plans.{Plan}
use Rattle.ch_copied.specs.Uses.{Transfer, Use, uses}
use Rattle.ch_copied.proofs.Lists.{append_left, append_right, in_append}
use Rattle.ch_datacopy.specs.Works.{move_body, move_offset}
use Rattle.ch_datacopy.proofs.Numbered.{Nth, nth_left, nth_right, nth_small, nth_split}
use Rattle.ch_nest.specs.declared.nest.Body.{Body}
use Rattle.ch_timed.specs.declared.element.Element.{Element}
use Rattle.ch_timed.specs.Members.{In}
use Rattle.ch_timed.proofs.Orders.{in_map, map_in}

moves_in : (p : Plan) (list : List Element) (body : Body) (label place : ℕ) (ts : List Transfer) (n : ℕ) (t : Transfer) (w : Use) → Nth n ts t → In w (uses list p.around t)
    → (l k : ℕ) → l ≡ label + n → k ≡ place + n → In (move p body l k w) (moves p list body label place ts)
moves_in p list body label place [] n t w i j l k e f = absurd i
moves_in p list body label place (s ∷ ts) zero t w i j l k e f =
    append_left (map (move p body label place) (uses list p.around s)) (moves p list body (suc label) (suc place) ts) (move p body l k w)
    (subst (λ z. In z (map (move p body label place) (uses list p.around s))) (ap₂ (λ x y. move p body x y w) (let g : label ≡ l = omega arith in g) (let g : place ≡ k = omega arith in g))
    (map_in (move p body label place) (uses list p.around s) w (subst (λ z. In w (uses list p.around z)) (sym i) j)))
moves_in p list body label place (s ∷ ts) (suc n) t w i j l k e f =
    append_right (map (move p body label place) (uses list p.around s)) (moves p list body (suc label) (suc place) ts) (move p body l k w)
    (moves_in p list body (suc label) (suc place) ts n t w i j l k (omega arith) (omega arith))

-- a move of one of these accesses
record IsMoveFrom (p : Plan) (list : List Element) (body : Body) (label place : ℕ) (ts : List Transfer) (f : Element) : Type 0 where
  number : ℕ
  transfer : Transfer
  its_use : Use
  is_transfer : Nth number ts transfer
  is_use : In its_use (uses list p.around transfer)
  move_label : ℕ
  move_place : ℕ
  label_is : move_label ≡ label + number
  place_is : move_place ≡ place + number
  is : f ≡ move p body move_label move_place its_use

in_moves : (p : Plan) (list : List Element) (body : Body) (label place : ℕ) (ts : List Transfer) (f : Element) → In f (moves p list body label place ts) → IsMoveFrom p list body label place ts f
in_moves p list body label place [] f i = absurd i
in_moves p list body label place (s ∷ ts) f i =
    elim (in_append (map (move p body label place) (uses list p.around s)) (moves p list body (suc label) (suc place) ts) f i) as (λ _. IsMoveFrom p list body label place (s ∷ ts) f) [
      | inl j ↦ let m = in_map (move p body label place) (uses list p.around s) f j in record {
        number = 0;
        transfer = s;
        its_use = m.0;
        is_transfer = refl;
        is_use = m.1.0;
        move_label = label;
        move_place = place;
        label_is = omega arith;
        place_is = omega arith;
        is = sym m.1.1;
      }
      | inr j ↦ let r = in_moves p list body (suc label) (suc place) ts f j in record {
        number = suc r.number;
        transfer = r.transfer;
        its_use = r.its_use;
        is_transfer = r.is_transfer;
        is_use = r.is_use;
        move_label = r.move_label;
        move_place = r.move_place;
        label_is = let e = r.label_is in omega arith;
        place_is = let e = r.place_is in omega arith;
        is = r.is;
      }
    ]

-- a move of the plan
pub record IsMove (p : Plan) (list : List Element) (f : Element) : Type 0 where
  pub number : ℕ
  pub transfer : Transfer
  pub its_use : Use
  pub is_transfer : Nth number (p.ins ++ p.outs) transfer
  pub is_use : In its_use (uses list p.around transfer)
  pub is : f ≡ move p (move_body p number) (p.label + number) (move_offset p number) its_use

first_body : (p : Plan) (k : ℕ) → k < length p.ins → move_body p k ≡ in_body p
first_body p k l = ap (λ b. if b then in_body p else out_body p) (lt-ltb k (length p.ins) l)

first_offset : (p : Plan) (k : ℕ) → k < length p.ins → move_offset p k ≡ k
first_offset p k l = ap (λ b. if b then k else suc k) (lt-ltb k (length p.ins) l)

last_body : (p : Plan) (k : ℕ) → length p.ins ≤ k → move_body p k ≡ out_body p
last_body p k l = ap (λ b. if b then in_body p else out_body p) (le-ltb k (length p.ins) l)

last_offset : (p : Plan) (k : ℕ) → length p.ins ≤ k → move_offset p k ≡ suc k
last_offset p k l = ap (λ b. if b then k else suc k) (le-ltb k (length p.ins) l)

move_same : (p : Plan) (b c : Body) (l m k n : ℕ) (w : Use) → b ≡ c → l ≡ m → k ≡ n → move p b l k w ≡ move p c m n w
move_same p b c l m k n w e f g = ap₂ (λ x y. move p b x y w) f g ∙ ap (λ x. move p x m n w) e

pub is_copy : (p : Plan) (list : List Element) (f : Element) → IsMove p list f → In f (copy_ins p list ++ copy_outs p list)
is_copy p list f m = elim (nth_split m.number p.ins p.outs m.transfer m.is_transfer) as (λ _. In f (copy_ins p list ++ copy_outs p list)) [
  | inl i ↦
      let l = nth_small m.number p.ins m.transfer i in
      append_left (copy_ins p list) (copy_outs p list) f
      (subst (λ z. In z (copy_ins p list)) (sym (m.is ∙ move_same p _ _ _ _ _ _ m.its_use (first_body p m.number l) refl (first_offset p m.number l)))
      (moves_in p list (in_body p) p.label 0 p.ins m.number m.transfer m.its_use i m.is_use (p.label + m.number) m.number refl (omega arith)))
  | inr r ↦
      let e = r.1.0 in
      let l : length p.ins ≤ m.number = omega arith in
      append_right (copy_ins p list) (copy_outs p list) f
      (subst (λ z. In z (copy_outs p list)) (sym (m.is ∙ move_same p _ _ _ _ _ _ m.its_use (last_body p m.number l) refl (last_offset p m.number l)))
      (moves_in p list (out_body p) (p.label + length p.ins) (length p.ins + 1) p.outs r.0 m.transfer m.its_use r.1.1 m.is_use (p.label + m.number) (suc m.number) (omega arith) (omega arith)))
]

pub copy_is : (p : Plan) (list : List Element) (f : Element) → In f (copy_ins p list ++ copy_outs p list) → IsMove p list f
copy_is p list f i = elim (in_append (copy_ins p list) (copy_outs p list) f i) as (λ _. IsMove p list f) [
  | inl j ↦
      let r = in_moves p list (in_body p) p.label 0 p.ins f j in
      let l = nth_small r.number p.ins r.transfer r.is_transfer in
      let e = r.place_is in
      record {
        number = r.number;
        transfer = r.transfer;
        its_use = r.its_use;
        is_transfer = nth_left r.number p.ins p.outs r.transfer r.is_transfer;
        is_use = r.is_use;
        is = r.is ∙ sym (move_same p _ _ _ _ _ _ r.its_use (first_body p r.number l) (sym r.label_is) (first_offset p r.number l ∙ (let g : r.number ≡ r.move_place = omega arith in g)));
      }
  | inr j ↦
      let r = in_moves p list (out_body p) (p.label + length p.ins) (length p.ins + 1) p.outs f j in
      let l : length p.ins ≤ length p.ins + r.number = omega arith in
      let e = r.place_is in
      let d = r.label_is in
      record {
        number = length p.ins + r.number;
        transfer = r.transfer;
        its_use = r.its_use;
        is_transfer = nth_right r.number p.ins p.outs r.transfer r.is_transfer (length p.ins + r.number) refl;
        is_use = r.is_use;
        is = r.is ∙ sym (move_same p _ _ _ _ _ _ r.its_use (last_body p (length p.ins + r.number) l) (let g : p.label + (length p.ins + r.number) ≡ r.move_label = omega arith in g)
            (last_offset p (length p.ins + r.number) l ∙ (let g : suc (length p.ins + r.number) ≡ r.move_place = omega arith in g)));
      }
]
