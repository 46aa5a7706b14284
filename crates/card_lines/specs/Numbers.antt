-- Numbers that stand in a text.
use Rattle.std.specs.Prelude.{◌≡◌, Bool, cond, not, ◌&&◌, ◌||◌, List, [], ◌∷◌, ◌++◌, ℕ, ◌+◌, ◌<◌, eqb}
use Rattle.std.proofs.Math.Path.{refl, ap}
use Rattle.std.proofs.Common.{sym, ◌∙◌, arith, eqb-true, ne_eqb}
use Rattle.std.proofs.Math.Bool.{true, false}
use Rattle.std.proofs.lemmas.Bool.{false≢true}
use Rattle.std.proofs.Math.ListN.{length, drop}
use Rattle.records.specs.Rules.{within}
use Rattle.records.specs.Tests.{both}
use Rattle.cards.specs.Words.{is_empty, is_digits, is_number, value}
use Rattle.cards.specs.Convert.{numeral}
use Rattle.cards.specs.Numbers.{numeral_number, number_numeral}
use Rattle.format.specs.Judged.{within_true}
use Rattle.card_lines.specs.Front.{starts, digits_in, numeral_in, held, number_at}
use Rattle.card_lines.specs.Standing.{Stands, stands_by, stands_as, front_of}

-- digits at the front are digits, and all of them where no other follows
digits_front : (s : List ℕ) → s ≡ digits_in s ++ drop (length (digits_in s)) s
unfolding digits_in
digits_front [] = refl
digits_front (c ∷ s) = go (within 48 c 57) (digits_front s)
  where
    go : (b : Bool) → s ≡ digits_in s ++ drop (length (digits_in s)) s
        → c ∷ s ≡ cond b (c ∷ digits_in s) [] ++ drop (length (cond b (c ∷ digits_in s) [])) (c ∷ s)
    go true e = ap (λ r. c ∷ r) e
    go false e = refl

digits_digits : (s : List ℕ) → is_digits (digits_in s) ≡ true
unfolding digits_in is_digits
digits_digits [] = refl
digits_digits (c ∷ s) = go (within 48 c 57) refl (digits_digits s)
  where
    go : (b : Bool) → within 48 c 57 ≡ b → is_digits (digits_in s) ≡ true → is_digits (cond b (c ∷ digits_in s) []) ≡ true
    go true e h = unfold is_digits in simp (e, h)
    go false e h = unfold is_digits in refl

digits_all : (ds : List ℕ) (x : ℕ) (rest : List ℕ) → is_digits ds ≡ true → within 48 x 57 ≡ false → digits_in (ds ++ x ∷ rest) ≡ ds
unfolding digits_in is_digits
digits_all [] x rest h other = simp other
digits_all (d ∷ ds) x rest h other =
    let e = both (within 48 d 57) (is_digits ds) h in
    simp (e.0, digits_all ds x rest e.1 other)

-- a number at the front is one, and all of it where no digit follows
numeral_front : (s : List ℕ) → s ≡ numeral_in s ++ drop (length (numeral_in s)) s
numeral_front s = go (starts (48 ∷ []) s) refl
  where
    go : (b : Bool) → starts (48 ∷ []) s ≡ b → s ≡ cond b (48 ∷ []) (digits_in s) ++ drop (length (cond b (48 ∷ []) (digits_in s))) s
    go true e = front_of (48 ∷ []) s e
    go false e = digits_front s

numeral_is : (s : List ℕ) → (length (numeral_in s) ≡ 0 → ⊥) → is_number (numeral_in s) ≡ true
unfolding starts digits_in
numeral_is [] some = absurd (some refl)
numeral_is (c ∷ s) some = go (eqb c 48) (within 48 c 57) refl refl some
  where
    go : (z d : Bool) → eqb c 48 ≡ z → within 48 c 57 ≡ d → (length (cond (z && true) (48 ∷ []) (cond d (c ∷ digits_in s) [])) ≡ 0 → ⊥)
        → is_number (cond (z && true) (48 ∷ []) (cond d (c ∷ digits_in s) [])) ≡ true
    go true d e f n = unfold is_number is_digits in refl
    go false true e f n = unfold is_number is_digits in simp (e, f, digits_digits s)
    go false false e f n = absurd (n refl)

numeral_all : (ds : List ℕ) (x : ℕ) (rest : List ℕ) → is_number ds ≡ true → within 48 x 57 ≡ false → numeral_in (ds ++ x ∷ rest) ≡ ds
unfolding is_number starts
numeral_all [] x rest is other = absurd (false≢true is)
numeral_all (d ∷ ds) x rest is other = go (eqb d 48) refl parts.1
  where
    parts : (is_digits (d ∷ ds) ≡ true) × ((not (eqb d 48) || is_empty ds) ≡ true)
    parts = both (is_digits (d ∷ ds)) (not (eqb d 48) || is_empty ds) is

    single : (es : List ℕ) → is_empty es ≡ true → es ≡ []
    single [] e = refl
    single (c ∷ es) e = absurd (false≢true e)

    go : (z : Bool) → eqb d 48 ≡ z → (not z || is_empty ds) ≡ true
        → cond (z && true) (48 ∷ []) (digits_in (d ∷ ds ++ x ∷ rest)) ≡ d ∷ ds
    go true e h = λ j. sym (eqb-true d 48 e) j ∷ sym (single ds h) j
    go false e h = digits_all (d ∷ ds) x rest parts.0 other

-- a numeral begins with a digit
pub numeral_some : (at n : ℕ) → at + length (numeral n) ≡ at → ⊥
unfolding is_number
numeral_some at n = go (numeral n) (numeral_number n)
  where
    go : (ds : List ℕ) → is_number ds ≡ true → at + length ds ≡ at → ⊥
    go [] is e = absurd (false≢true is)
    go (d ∷ ds) is e = omega arith

pub numeral_first : (b : ℕ) (w : List ℕ) (n : ℕ) (s : List ℕ) → 57 < b → starts (b ∷ w) (numeral n ++ s) ≡ false
unfolding is_digits is_number starts
numeral_first b w n s h = go (numeral n) (numeral_number n)
  where
    go : (ds : List ℕ) → is_number ds ≡ true → starts (b ∷ w) (ds ++ s) ≡ false
    go [] is = absurd (false≢true is)
    go (d ∷ ds) is =
        let digits = both (within 48 d 57) (is_digits ds) (both (is_digits (d ∷ ds)) (not (eqb d 48) || is_empty ds) is).0 in
        let last = within_true 48 d 57 digits.0 in
        simp (ne_eqb d b (λ e. omega (arith, last.1)))

module _ (text : List ℕ) (at : ℕ) where
  -- the number at a place, not held
  abbrev pub number_of : ℕ
  number_of = value (numeral_in (drop at text))

  pub number_value : held number_of ≡ (number_at text at).value
  unfolding number_at
  number_value = refl

  -- it stands where one is found, and is found where it stands before another byte
  pub number_stands : ((number_at text at).next ≡ at → ⊥) → Stands text at (number_at text at).next (numeral number_of)
  unfolding number_at
  number_stands some =
      let s = drop at text in
      stands_as (number_numeral (numeral_in s) (numeral_is s (λ e. some (omega arith)))) (stands_by text at (numeral_in s) _ (numeral_front s))

  pub number_found : (n x : ℕ) (rest : List ℕ) → drop at text ≡ numeral n ++ x ∷ rest → within 48 x 57 ≡ false
      → (number_at text at).next ≡ at + length (numeral n)
  unfolding number_at
  number_found n x rest e other =
      ap (λ ds. at + length ds) (ap numeral_in e ∙ numeral_all (numeral n) x rest (numeral_number n) other)
