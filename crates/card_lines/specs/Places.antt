-- The front of a text, place by place: what the loops and calls of the program use.
use Rattle.std.specs.Prelude.{◌≡◌, Bool, cond, ◌&&◌, List, [], ◌∷◌, ℕ, suc, ◌+◌, ◌*◌, ◌-◌, ◌≤◌, ◌<◌, eqb, get_or, drop}
use Rattle.std.proofs.Math.Path.{refl}
use Rattle.std.proofs.Common.{sym, ◌∙◌, ap, arith, add-one, drop_of_length-le, drop-cons, eq-eqb, ne_eqb}
use Rattle.std.proofs.Math.Bool.{true, false}
use Rattle.std.proofs.lemmas.Bool.{false≢true}
use Rattle.std.proofs.Math.ListN.{length, length-drop}
use Rattle.text.specs.Decimal.{value_from}
use Rattle.table.specs.declared.Relation.{Relation}
use Rattle.records.specs.Rules.{within}
use Rattle.format.specs.Encode.{relation_code}
use Rattle.records.specs.Tests.{both}
use Rattle.card_lines.specs.declared.Numeral.{Numeral}
use Rattle.card_lines.specs.Front.{starts, digits_in, numeral_in, held, standing, number_at, sign_text, sign_else, sign_at}

-- the text from a place on, by its first byte
pub drop_next : (l : List ℕ) (i : ℕ) → i < length l → drop i l ≡ get_or l i 0 ∷ drop (i + 1) l
drop_next l i h = drop-cons l i 0 h ∙ ap (λ n. get_or l i 0 ∷ drop n l) (sym (add-one i))

-- a word that stands there fits
pub starts_fits : (w s : List ℕ) → starts w s ≡ true → length w ≤ length s
unfolding starts
starts_fits [] s e = omega arith
starts_fits (b ∷ w) [] e = absurd (false≢true e)
starts_fits (b ∷ w) (c ∷ s) e = omega (arith, starts_fits w s (both (eqb c b) (starts w s) e).1)

pub starts_within : (w text : List ℕ) (at : ℕ) → at ≤ length text → starts w (drop at text) ≡ true → at + length w ≤ length text
starts_within w text at h e = omega (arith, starts_fits w (drop at text) e, length-drop at text)

pub starts_cut : (w s : List ℕ) → length s < length w → starts w s ≡ false
starts_cut w s h = go (starts w s) refl
  where
    go : (b : Bool) → starts w s ≡ b → b ≡ false
    go false e = refl
    go true e = absurd (omega (arith, starts_fits w s e))

-- a word that is passed, one byte more, and one that differs
pub starts_past : (w s : List ℕ) (i : ℕ) → length w ≤ i → starts (drop i w) s ≡ true
unfolding starts
starts_past w s i h = ap (λ v. starts v s) (drop_of_length-le w h)

module _ (w text : List ℕ) (i n : ℕ) (more : i < length w) (there : n < length text) where
  step : starts (drop i w) (drop n text) ≡ (eqb (get_or text n 0) (get_or w i 0) && starts (drop (i + 1) w) (drop (n + 1) text))
  step = (λ j. starts (drop_next w i more j) (drop_next text n there j)) ∙ (unfold starts in refl)

  pub starts_next : get_or text n 0 ≡ get_or w i 0 → starts (drop i w) (drop n text) ≡ starts (drop (i + 1) w) (drop (n + 1) text)
  starts_next e = step ∙ ap (λ b. b && starts (drop (i + 1) w) (drop (n + 1) text)) (eq-eqb _ _ e)

  pub starts_differ : (get_or text n 0 ≡ get_or w i 0 → ⊥) → starts (drop i w) (drop n text) ≡ false
  starts_differ e = step ∙ ap (λ b. b && starts (drop (i + 1) w) (drop (n + 1) text)) (ne_eqb _ _ e)

-- digits from a place on: none, one and the rest, and none for another byte
pub digits_out : (text : List ℕ) (n : ℕ) → length text ≤ n → digits_in (drop n text) ≡ []
unfolding digits_in
digits_out text n h = ap digits_in (drop_of_length-le text h)

module _ (text : List ℕ) (n : ℕ) (there : n < length text) where
  turn : digits_in (drop n text) ≡ cond (within 48 (get_or text n 0) 57) (get_or text n 0 ∷ digits_in (drop (n + 1) text)) []
  turn = ap digits_in (drop_next text n there) ∙ (unfold digits_in in refl)

  pub digits_next : within 48 (get_or text n 0) 57 ≡ true → digits_in (drop n text) ≡ get_or text n 0 ∷ digits_in (drop (n + 1) text)
  digits_next e = turn ∙ ap (λ b. cond b (get_or text n 0 ∷ digits_in (drop (n + 1) text)) []) e

  pub digits_other : within 48 (get_or text n 0) 57 ≡ false → digits_in (drop n text) ≡ []
  digits_other e = turn ∙ ap (λ b. cond b (get_or text n 0 ∷ digits_in (drop (n + 1) text)) []) e

-- holding on the way changes nothing that is held at the end
pub held_from : (a b : ℕ) (ds : List ℕ) → held a ≡ held b → held (value_from a ds) ≡ held (value_from b ds)
unfolding value_from
held_from a b [] e = e
held_from a b (d ∷ ds) e = held_from (a * 10 + (d - 48)) (b * 10 + (d - 48)) ds (ten (d - 48))
  where
    ten : (k : ℕ) → held (a * 10 + k) ≡ held (b * 10 + k)
    ten k = omega arith

-- a number whose digits are read from the left: a digit more, and no more
pub standing_next : (text : List ℕ) (value n : ℕ) → n < length text → within 48 (get_or text n 0) 57 ≡ true
    → standing (held (value * 10 + (get_or text n 0 - 48))) (n + 1) (digits_in (drop (n + 1) text)) ≡ standing value n (digits_in (drop n text))
standing_next text value n there e =
    passed (get_or text n 0) (digits_in (drop (n + 1) text)) ∙ ap (standing value n) (sym (digits_next text n there e))
  where
    passed : (d : ℕ) (ds : List ℕ) → standing (held (value * 10 + (d - 48))) (n + 1) ds ≡ standing value n (d ∷ ds)
    passed d ds = λ j. record { value = worth j; next = place j }
      where
        worth : held (value_from (held (value * 10 + (d - 48))) ds) ≡ held (value_from value (d ∷ ds))
        worth = unfold value_from in held_from _ _ ds (omega arith)

        place : n + 1 + length ds ≡ n + length (d ∷ ds)
        place = omega arith

pub standing_done : (value n : ℕ) (ds : List ℕ) → value ≤ 65536 → ds ≡ [] → ◌≡◌ {A = Numeral} (record { value = value; next = n }) (standing value n ds)
unfolding value_from
standing_done value n ds small e = whole ∙ ap (standing value n) (sym e)
  where
    whole : ◌≡◌ {A = Numeral} (record { value = value; next = n }) (standing value n [])
    whole = let p : value ≡ held value = omega arith in let q : n ≡ n + 0 = omega arith in λ j. record { value = p j; next = q j }

-- what is found lies within the text
digits_fit : (s : List ℕ) → length (digits_in s) ≤ length s
unfolding digits_in
digits_fit [] = omega arith
digits_fit (c ∷ s) = go (within 48 c 57) (digits_fit s)
  where
    go : (b : Bool) → length (digits_in s) ≤ length s → length (cond b (c ∷ digits_in s) []) ≤ suc (length s)
    go true h = omega arith
    go false h = omega arith

pub numeral_fits : (s : List ℕ) → length (numeral_in s) ≤ length s
numeral_fits s = go (starts (48 ∷ []) s) refl
  where
    go : (b : Bool) → starts (48 ∷ []) s ≡ b → length (cond b (48 ∷ []) (digits_in s)) ≤ length s
    go true e = starts_fits (48 ∷ []) s e
    go false e = digits_fit s

module _ (text : List ℕ) (at : ℕ) (there : at ≤ length text) where
  pub number_within : (number_at text at).next ≤ length text
  unfolding number_at
  number_within = omega (arith, numeral_fits (drop at text), length-drop at text)

  else_within : (r : Relation) (other : Numeral) → other.next ≤ length text → (sign_else text at r other).next ≤ length text
  unfolding sign_else
  else_within r other h = go (starts (sign_text r) (drop at text)) refl
    where
      go : (b : Bool) → starts (sign_text r) (drop at text) ≡ b
          → (cond b (record { value = relation_code r; next = at + length (sign_text r) }) other).next ≤ length text
      go true e = starts_within (sign_text r) text at there e
      go false e = h

  pub sign_within : (sign_at text at).next ≤ length text
  unfolding sign_at
  sign_within = else_within _ _ (else_within _ _ (else_within _ _ (else_within _ _ (else_within _ _ there))))
