-- Decimal numbers of any length: `numeral` writes every number as a card's number, and every card's number is the numeral of its value.
use Rattle.std.specs.Prelude.{◌≡◌, refl, true, not, ◌||◌, ℕ, zero, suc, ◌+◌, ◌*◌, ◌-◌, ◌/◌, ◌%◌, ◌^◌, ◌≤◌, ◌<◌, eqb, length}
use Rattle.std.proofs.Math.Path.{sym}
use Rattle.std.proofs.Common.{◌∙◌, ap, arith, pow-suc, le-leb, ne_eqb, eq-eqb}
use Rattle.std.proofs.Math.Bool.{or-true}
use Rattle.std.proofs.lemmas.Bool.{false≢true}
use mathlib.Core.List.{List, [], ◌∷◌, ◌++◌, Memᴰ, append-nil}
use Rattle.std.proofs.Math.Seq.{append_snoc}
use Rattle.text.specs.Decimal.{digits, decimal, value_from, Numeral}
use Rattle.text.specs.Numerals.{digits_one, digits_more, digits_few, numeral_digits}
use Rattle.records.specs.Rules.{within}
use Rattle.records.specs.Tests.{both}
use Rattle.format.specs.Judged.{within_true}
use Rattle.cards.specs.Words.{is_empty, is_digits, is_number, value}
use Rattle.cards.specs.Convert.{numeral}

below_power : (x : ℕ) → x < 10 ^ suc x
below_power zero = omega arith
below_power (suc x) = omega (arith, pow-suc 10 (suc x), below_power x)

numeral_right : (x : ℕ) → Numeral x (numeral x)
numeral_right x = numeral_digits x x (below_power x)

pub numeral_value : (x : ℕ) → value (numeral x) ≡ x
numeral_value x = (numeral_right x).value

pub numeral_bytes : (x d : ℕ) → Memᴰ d (numeral x) → (48 ≤ d) × (d ≤ 57)
numeral_bytes x d in-it = (numeral_right x).digit d in-it

-- a digit by its test
digit_within : (c : ℕ) → (48 ≤ c) × (c ≤ 57) → within 48 c 57 ≡ true
digit_within c h = simp (le-leb 48 c h.0, le-leb c 57 h.1)

digits_parts : (c : ℕ) (cs : List ℕ) → is_digits (c ∷ cs) ≡ true → (48 ≤ c) × (c ≤ 57) × (is_digits cs ≡ true)
unfolding is_digits
digits_parts c cs are =
    let parts = both (within 48 c 57) (is_digits cs) are in
    let range = within_true 48 c 57 parts.0 in
    (range.0, range.1, parts.1)

-- What is right as the numeral of a number is a card's number.
right_digits : (ds : List ℕ) → ((d : ℕ) → Memᴰ d ds → (48 ≤ d) × (d ≤ 57)) → is_digits ds ≡ true
unfolding is_digits
right_digits [] all = refl
right_digits (c ∷ cs) all =
    simp (digit_within c (all c (Memᴰ.head refl)), right_digits cs (λ d in-it. all d (Memᴰ.tail in-it)))

right_number : (x : ℕ) (ds : List ℕ) → Numeral x ds → is_number ds ≡ true
unfolding is_number
right_number x [] n = absurd (omega (arith, n.some))
right_number x (c ∷ []) n = simp (right_digits (c ∷ []) n.digit, or-true (not (eqb c 48)))
right_number x (c ∷ d ∷ cs) n = simp (right_digits (c ∷ d ∷ cs) n.digit, ne_eqb c 48 led)
  where
    led : c ≡ 48 → ⊥
    led e = omega (arith, ap length (n.lead e))

pub numeral_number : (x : ℕ) → is_number (numeral x) ≡ true
numeral_number x = right_number x (numeral x) (numeral_right x)

-- A digit more on the right of a number that is not 0.
digits_next : (n b d x : ℕ) → 1 ≤ b → 48 ≤ d → d ≤ 57 → x ≡ b * 10 + (d - 48)
    → digits (suc n) x ≡ digits n b ++ (d ∷ [])
digits_next n b d x large low high e =
    sym (digits_more (suc n) x (λ none. omega arith) (omega arith))
    ∙ ap (λ (m : ℕ). digits m (x / 10) ++ ((48 + x % 10) ∷ [])) less
    ∙ ap (λ (y : ℕ). digits n y ++ ((48 + x % 10) ∷ [])) front
    ∙ ap (λ (c : ℕ). digits n b ++ (c ∷ [])) last
  where
    less : suc n - 1 ≡ n
    less = omega arith

    front : x / 10 ≡ b
    front = omega arith

    last : 48 + x % 10 ≡ d
    last = omega arith

-- Digits after a number that is not 0 stand after its own, and each of them makes it larger.
digits_after : (n b k : ℕ) (ds : List ℕ) → 1 ≤ b → is_digits ds ≡ true → k ≡ n + length ds
    → digits k (value_from b ds) ≡ digits n b ++ ds
unfolding is_digits value_from
digits_after n b k [] large are e = ap (λ (m : ℕ). digits m b) (omega arith) ∙ sym (append-nil (digits n b))
digits_after n b k (d ∷ ds) large are e =
    digits_after (suc n) (b * 10 + (d - 48)) k ds (omega arith) parts.2 (omega arith)
    ∙ ap (λ (es : List ℕ). es ++ ds) (digits_next n b d _ large parts.0 parts.1 refl)
    ∙ append_snoc (digits n b) d ds
  where
    parts : (48 ≤ d) × (d ≤ 57) × (is_digits ds ≡ true)
    parts = digits_parts d ds are

length_after : (b : ℕ) (ds : List ℕ) → 1 ≤ b → b + length ds ≤ value_from b ds
unfolding value_from
length_after b [] large = omega arith
length_after b (d ∷ ds) large = omega (arith, length_after (b * 10 + (d - 48)) ds (omega arith))

-- Every number on a card is the numeral of its value.
one_digit : (n b c : ℕ) → 48 ≤ c → c ≤ 57 → b ≡ c - 48 → digits (suc n) b ≡ c ∷ []
one_digit n b c low high e = sym (digits_one (suc n) b (λ none. omega arith) (omega arith)) ∙ ap (λ (d : ℕ). d ∷ []) byte
  where
    byte : 48 + b ≡ c
    byte = omega arith

led_numeral : (c b : ℕ) (cs : List ℕ) → 48 ≤ c → c ≤ 57 → is_digits cs ≡ true → (not (eqb c 48) || is_empty cs) ≡ true
    → b ≡ c - 48 → c ∷ cs ≡ numeral (value_from b cs)
led_numeral c b [] low high are led e = unfold value_from in sym (one_digit b b c low high e)
led_numeral c b (d ∷ ds) low high are led e =
    sym (digits_after (suc (v - length (d ∷ ds))) b (suc v) (d ∷ ds) large are (omega (arith, long))
    ∙ ap (λ (es : List ℕ). es ++ d ∷ ds) (one_digit (v - length (d ∷ ds)) b c low high e))
  where
    v : ℕ
    v = value_from b (d ∷ ds)

    not_zero : c ≡ 48 → ⊥
    not_zero is = false≢true (rw (eq-eqb c 48 is) at led)

    large : 1 ≤ b
    large = omega (arith, not_zero)

    long : b + length (d ∷ ds) ≤ v
    long = length_after b (d ∷ ds) large

pub number_numeral : (ds : List ℕ) → is_number ds ≡ true → ds ≡ numeral (value ds)
unfolding is_number value_from
number_numeral [] is = absurd (false≢true is)
number_numeral (c ∷ cs) is = led_numeral c (0 * 10 + (c - 48)) cs parts.0 parts.1 parts.2 tests.1 (omega arith)
  where
    tests : (is_digits (c ∷ cs) ≡ true) × ((not (eqb c 48) || is_empty cs) ≡ true)
    tests = both (is_digits (c ∷ cs)) (not (eqb c 48) || is_empty cs) is

    parts : (48 ≤ c) × (c ≤ 57) × (is_digits cs ≡ true)
    parts = digits_parts c cs tests.0

-- Room for more digits does not change them.
pub digits_numeral : (n x : ℕ) → x < 10 ^ suc n → digits (suc n) x ≡ numeral x
digits_numeral n x h =
    number_numeral (digits (suc n) x) (right_number x _ (numeral_digits n x h))
    ∙ ap numeral (numeral_digits n x h).value

pub decimal_numeral : (x : ℕ) → x < 10 ^ 20 → decimal x ≡ numeral x
decimal_numeral x h = digits_numeral 19 x h

pub numeral_short : (x n : ℕ) → 1 ≤ n → x < 10 ^ n → length (numeral x) ≤ n
numeral_short x zero some h = absurd (omega arith)
numeral_short x (suc n) some h = omega (arith, digits_few (suc n) x, ap length (digits_numeral n x h))
