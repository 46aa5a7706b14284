-- The decimal of a number is right (`decimal_right`), and has 20 digits at most (`decimal_few`).
use Rattle.std.specs.Prelude.{◌≡◌, cond, List, [], ◌∷◌, ◌++◌, ℕ, zero, suc, ◌+◌, ◌*◌, ◌-◌, ◌/◌, ◌%◌, ◌^◌, ◌≤◌, ◌<◌, ltb, length, get_or}
use Rattle.std.proofs.Math.Path.{refl}
use Rattle.std.proofs.Common.{sym, ◌∙◌, ap, ⊎_elim, arith, pow-suc, length-append, lt-ltb, le-ltb}
use mathlib.Core.List.Memᴰ
use Rattle.std.proofs.Math.Decide.{dec_lt}
use Rattle.std.proofs.Math.ListN.{get_or-append}
use Rattle.text.specs.Decimal.{digits, decimal, value_from, Numeral}

-- the digits by cases: none are asked for; the number has one digit; it has more
pub digits_none : (n x : ℕ) → n ≡ 0 → [] ≡ digits n x
unfolding digits
digits_none zero x none = refl
digits_none (suc n) x none = absurd (omega arith)

pub digits_one : (n x : ℕ) → (n ≡ 0 → ⊥) → x < 10 → (48 + x) ∷ [] ≡ digits n x
unfolding digits
digits_one zero x some small = absurd (some refl)
digits_one (suc n) x some small = simp (lt-ltb x 10 small)

pub digits_more : (n x : ℕ) → (n ≡ 0 → ⊥) → 10 ≤ x → digits (n - 1) (x / 10) ++ ((48 + x % 10) ∷ []) ≡ digits n x
unfolding digits
digits_more zero x some large = absurd (some refl)
digits_more (suc n) x some large =
    simp (le-ltb x 10 large) (ap (λ (m : ℕ). digits m (x / 10) ++ ((48 + x % 10) ∷ [])) less)
  where
    less : suc n - 1 ≡ n
    less = omega arith

-- what holds of one digit, and of more, holds of the digits
digits_cases : (n x : ℕ) (P : List ℕ → Type 0) → (x < 10 → P ((48 + x) ∷ []))
    → (10 ≤ x → P (digits n (x / 10) ++ ((48 + x % 10) ∷ []))) → P (digits (suc n) x)
unfolding digits
digits_cases n x P one more = go (dec_lt x 10)
  where
    go : Dec (x < 10) → P (cond (ltb x 10) ((48 + x) ∷ []) (digits n (x / 10) ++ ((48 + x % 10) ∷ [])))
    go (yes small) = rw (lt-ltb x 10 small) (one small)
    go (no large) = let h : 10 ≤ x = omega arith in rw (le-ltb x 10 h) (more h)

-- at most as many digits as are asked for
pub digits_few : (n x : ℕ) → length (digits n x) ≤ n
digits_few zero x = omega (arith, ap length (digits_none 0 x refl))
digits_few (suc n) x =
    digits_cases n x (λ ds. length ds ≤ suc n)
    (λ small. omega arith)
    (λ large. omega (arith, length-append (digits n (x / 10)) ((48 + x % 10) ∷ []), digits_few n (x / 10)))

-- a decimal has 20 digits at most
pub decimal_few : (x : ℕ) → length (decimal x) ≤ 20
decimal_few x = digits_few 20 x

-- the value with one digit more on the right
value_more : (before : ℕ) (ds : List ℕ) (d : ℕ)
    → value_from before (ds ++ (d ∷ [])) ≡ value_from before ds * 10 + (d - 48)
unfolding value_from
value_more before [] d = refl
value_more before (e ∷ ds) d = value_more (before * 10 + (e - 48)) ds d

-- the byte of a digit
in_range_lem : (x d : ℕ) → x < 10 → d ≡ 48 + x → (48 ≤ d) × (d ≤ 57)
in_range_lem x d small e = (omega arith, omega arith)

numeral_one : (x : ℕ) → x < 10 → Numeral x ((48 + x) ∷ [])
unfolding value_from
numeral_one x small = record {
  some = omega arith;
  digit = λ d in-it. in_range_lem x d small (Memᴰ.eq_of_singleton in-it);
  lead = λ e. ap (λ (d : ℕ). d ∷ []) e;
  value = omega arith;
}

numeral_more : (x : ℕ) (ds : List ℕ) → 10 ≤ x → Numeral (x / 10) ds → Numeral x (ds ++ ((48 + x % 10) ∷ []))
numeral_more x ds large front = record {
  some = omega (arith, length-append ds ((48 + x % 10) ∷ []));
  digit = λ d in-it. ⊎_elim (front.digit d)
      (λ last. in_range_lem (x % 10) d (omega arith) (Memᴰ.eq_of_singleton last))
      (Memᴰ.append_cases ds in-it);
  lead = λ zeroed. absurd (nonzero (sym (get_or-append ds _ 0 0 front.some) ∙ zeroed));
  value = value_more 0 ds (48 + x % 10) ∙ omega (arith, front.value);
}
  where
    nonzero : get_or ds 0 0 ≡ 48 → ⊥
    nonzero zeroed = omega (arith, ap (value_from 0) (front.lead zeroed), front.value, nought)
      where
        nought : value_from 0 (48 ∷ []) ≡ 0
        nought = unfold value_from in refl

pub numeral_digits : (n x : ℕ) → x < 10 ^ suc n → Numeral x (digits (suc n) x)
numeral_digits zero x h = digits_cases 0 x (Numeral x) (numeral_one x) (λ large. absurd (omega arith))
numeral_digits (suc n) x h =
    digits_cases (suc n) x (Numeral x) (numeral_one x)
    (λ large. numeral_more x _ large (numeral_digits n (x / 10) (omega (arith, pow-suc 10 (suc n)))))

-- a number below 10^20 is written right
pub decimal_right : (x : ℕ) → x < 10 ^ 20 → Numeral x (decimal x)
decimal_right x h = numeral_digits 19 x h
