-- What `round` gives for a fraction a / b is the binary64 number nearest to it, ties to even (`Nearest`). Assumes nothing.
-- In units of the format's smallest value the fraction is n / b with n = a * 2 ^ low. `round` drops k digits of its whole part, so its
-- result is a multiple of 2 ^ k units, the one closest to n / b. No value of the format lies strictly between the two multiples beside
-- n / b (`side`), which gives the rest.
use Rattle.std.specs.Prelude.{◌≡◌, ◌⊎◌, Bool, not, ◌&&◌, ◌||◌, cond, ℤ, pos, negsuc, T, leb, ltb, Float}
use Rattle.std.proofs.Math.Path.{sym, ap}
use Rattle.std.proofs.Common.{◌∙◌, subst, inl, inr, true≢false, le_trans, le_of_eq, le_of_lt, lt_of_le_of_lt, le_antisymm, add-mul, mul-one, mul_comm, mul_assoc, mul_left_comm, mul_right_comm, mul-pos, mul-le-mul_right, le_of_mul-le-mul_right, mod-lt, div-add-mod', le-div_iff_mul-le, mul-div_cancel, sub-add_cancel, pow-suc, div-le_self, lt_irrefl, T_not, leb→le, ltb→lt, nltb→le, eqb→eq, lit<, pow-add, pow_pos, pow_mono, shl_lt}
use Rattle.std.proofs.Math.Logic.{⊎_elim}
use Rattle.std.proofs.Math.Bool.{true, false}
use Prim.Native.Nat.{ℕ, zero, suc, ◌+◌, ◌-◌, ◌*◌, ◌/◌, ◌%◌, ◌^◌, ◌≤◌, ◌<◌, zero-le, compare}
use Prim.Native.Nat.{Ordering}
use Rattle.std.proofs.Math.Nat.{zero-add, zero-mul, mul-sub, eq_of_mul-eq-mul_right, mul-mod_left, div-div-eq-div-mul}
use native.Mathlib.Omega.{arith}
use Rattle.std.proofs.Math.Dec.{is_le, compare_is_eq, eqb, nleb→lt, eqb_refl}
use Rattle.std.proofs.Math.Arith.{lt_of_le-ne}
use Rattle.std.proofs.Math.Pow.{pow-lt}
use Rattle.std.specs.Float.Ieee.{nan, prec, emax, low, hid, up, down, size, nearest, round, fits, eq, ne, to_bits, div, of_int}
use Rattle.std.specs.Float.{inf, fin, Format, binary64}
use Rattle.std.specs.Float.Ieee.Digits.{size-le, size_reaches}
use Rattle.std.specs.Float.Ieee.Fits.{and_l, and_r, and_i, eq→eqb, down_pos, round-fits, kept-lt, nearest-le, two, two-le_pos}
use Rattle.std.specs.Float.Ieee.Exact.{HasValue}
use Rattle.std.specs.Float.Ieee.Order.{drop, kept}
use Rattle.std.specs.Float.Ieee.Scale.{grid, overflow, round_val, round_same}
use Rattle.std.specs.Float.Ieee.Back.{round_whole}
use Rattle.seconds.specs.Seconds.{seconds_of, number, apart, gap, scale, Nearest}

-- ---- two cases of two numbers
split : (a b : ℕ) → (a < b) ⊎ (b ≤ a)
split a b = go (ltb a b) (ltb→lt a b) (nltb→le a b)
  where
    go : (t : Bool) → (T t → a < b) → (T (not t) → b ≤ a) → (a < b) ⊎ (b ≤ a)
    go true h k = inl (h tt)
    go false h k = inr (k tt)

abbrev Cmp : Ordering → ℕ → ℕ → Type 0
Cmp Ordering.lt a b = a < b
Cmp Ordering.eq a b = a ≡ b
Cmp Ordering.gt a b = b < a

cmp : (a b : ℕ) → Cmp (compare a b) a b
cmp a b = go (compare a b) (leb→le a b) (nleb→lt a b) (eqb→eq a b) (λ (e : a ≡ b). subst (λ (x : ℕ). T (eqb a x)) e (eqb_refl a))
  where
    go : (o : Ordering) → (T (is_le o) → a ≤ b) → (T (not (is_le o)) → b < a) → (T (compare_is_eq o) → a ≡ b) → (a ≡ b → T (compare_is_eq o)) → Cmp o a b
    go Ordering.lt h k e n = lt_of_le-ne (h tt) n
    go Ordering.eq h k e n = e tt
    go Ordering.gt h k e n = k tt

-- ---- The point P + R between P and P + u, and a point W that is not strictly between these two
abbrev Beside : ℕ → ℕ → ℕ → Type 0
Beside P u W = (W ≤ P) ⊎ (P + u ≤ W)

low_near : (P R u W : ℕ) → R * 2 ≤ u → Beside P u W → apart P (P + R) ≤ apart W (P + R)
low_near P R u W h s = ⊎_elim (λ w. omega arith) (λ w. omega arith) s

high_near : (P R u W : ℕ) → u ≤ R * 2 → R < u → Beside P u W → apart (P + u) (P + R) ≤ apart W (P + R)
high_near P R u W h l s = ⊎_elim (λ w. omega arith) (λ w. omega arith) s

low_tie : (P R u W : ℕ) → R * 2 < u → Beside P u W → apart P (P + R) ≡ apart W (P + R) → W ≡ P
low_tie P R u W h s e = ⊎_elim (λ w. omega arith) (λ w. omega arith) s

high_tie : (P R u W : ℕ) → u < R * 2 → R < u → Beside P u W → apart (P + u) (P + R) ≡ apart W (P + R) → W ≡ P + u
high_tie P R u W h l s e = ⊎_elim (λ w. omega arith) (λ w. omega arith) s

-- ---- the multiple of u that is chosen by how twice the remainder compares with u
next : (Q u : ℕ) → suc Q * u ≡ Q * u + u
next Q u = omega arith

-- at a tie one of the two is chosen
chosen : (Q u r : ℕ) → r < 2 → ((Q + r) * u ≡ Q * u) ⊎ ((Q + r) * u ≡ Q * u + u)
chosen Q u zero h = inl (omega arith)
chosen Q u (suc zero) h = inr (omega arith)
chosen Q u (suc (suc r)) h = absurd (no r h)
  where
    no : (r : ℕ) → suc (suc r) < 2 → ⊥
    no r h = omega arith

module _ (Q R u W : ℕ) (r-lt : R < u) (s : Beside (Q * u) u W) where
  near : (o : Ordering) → Cmp o (R * 2) u → apart (nearest Q o * u) (Q * u + R) ≤ apart W (Q * u + R)
  near Ordering.lt c = low_near (Q * u) R u W (le_of_lt c) s
  near Ordering.eq c =
      ⊎_elim
      (λ e. subst (λ (z : ℕ). apart z (Q * u + R) ≤ apart W (Q * u + R)) (sym e) (low_near (Q * u) R u W (le_of_eq c) s))
      (λ e. subst (λ (z : ℕ). apart z (Q * u + R) ≤ apart W (Q * u + R)) (sym e) (high_near (Q * u) R u W (le_of_eq (sym c)) r-lt s))
      (chosen Q u (Q % 2) (mod-lt Q (lit< tt)))
  near Ordering.gt c =
      subst (λ (z : ℕ). apart z (Q * u + R) ≤ apart W (Q * u + R)) (sym (next Q u)) (high_near (Q * u) R u W (le_of_lt c) r-lt s)

  -- a point W that is as near is the chosen one, or what is chosen is even
  tied : (o : Ordering) → Cmp o (R * 2) u → apart (nearest Q o * u) (Q * u + R) ≡ apart W (Q * u + R)
      → (W ≡ nearest Q o * u) ⊎ (nearest Q o % 2 ≡ 0)
  tied Ordering.lt c e = inl (low_tie (Q * u) R u W c s e)
  tied Ordering.eq c e = inr (even Q)
    where
      even : (q : ℕ) → (q + q % 2) % 2 ≡ 0
      even q = omega arith
  tied Ordering.gt c e =
      let h = subst (λ (z : ℕ). apart z (Q * u + R) ≡ apart W (Q * u + R)) (next Q u) e in
      inl (high_tie (Q * u) R u W c r-lt s h ∙ sym (next Q u))

-- ---- no value of a format of p digits lies strictly between the two multiples beside n / b
-- how many units a multiple has, and the number of whole ones in n / b
abbrev step : ℕ → ℕ → ℕ → ℕ
step p n b = b * 2 ^ drop p n b

abbrev whole : ℕ → ℕ → ℕ → ℕ
whole p n b = n / step p n b

all_in_use : (z p : ℕ) → 0 < p → 0 < z - p → p - 1 + (z - p) < z
all_in_use z p P h = omega arith

-- where digits are dropped, p are kept
whole_ge : (p n b : ℕ) → 0 < p → 0 < drop p n b → 2 ^ (p - 1) ≤ whole p n b
whole_ge p n b P K =
    let k = drop p n b in
    let a : 2 ^ (p - 1) * 2 ^ k ≤ n / b =
    le_trans (le_of_eq (sym (pow-add 2 (p - 1) k))) (size_reaches (n / b) (p - 1 + k) (all_in_use (size (n / b)) p P K)) in
    subst (λ (x : ℕ). 2 ^ (p - 1) ≤ x) (div-div-eq-div-mul n b (2 ^ k)) ((le-div_iff_mul-le (pow_pos k)).1 a)

room : (p j k : ℕ) → 0 < p → j < k → p + j ≤ p - 1 + k
room p j k P h = omega arith

positive : (j k : ℕ) → j < k → 0 < k
positive j k h = omega arith

side : (p n b m j : ℕ) → 0 < p → m < 2 ^ p → Beside (whole p n b * step p n b) (step p n b) (m * 2 ^ j * b)
side p n b m j P h = ⊎_elim below above (split j (drop p n b))
  where
    Q : ℕ
    Q = whole p n b

    -- coarser values: multiples
    above : drop p n b ≤ j → Beside (whole p n b * step p n b) (step p n b) (m * 2 ^ j * b)
    above g =
        let k = drop p n b in
        let u = step p n b in
        let y = m * 2 ^ (j - k) in
        let e : m * 2 ^ j * b ≡ y * u =
        ap (λ (x : ℕ). m * x * b) (ap (λ (x : ℕ). 2 ^ x) (sym (sub-add_cancel g)) ∙ pow-add 2 (j - k) k)
        ∙ simp (mul_assoc, mul_comm, mul_left_comm) in
        ⊎_elim
        (λ (l : whole p n b < y).
        inr (subst (λ (x : ℕ). whole p n b * u + u ≤ x) (sym e) (le_trans (le_of_eq (sym (next (whole p n b) u))) (mul-le-mul_right u l))))
        (λ (l : y ≤ whole p n b). inl (subst (λ (x : ℕ). x ≤ whole p n b * u) (sym e) (mul-le-mul_right u l)))
        (split (whole p n b) y)

    -- finer values: they end where digits are dropped
    below : j < drop p n b → Beside (whole p n b * step p n b) (step p n b) (m * 2 ^ j * b)
    below g =
        let k = drop p n b in
        let a : m * 2 ^ j ≤ 2 ^ (p - 1 + k) = le_trans (le_of_lt (shl_lt p j h)) (pow_mono (room p j k P g)) in
        let c : 2 ^ (p - 1 + k) ≤ whole p n b * 2 ^ k =
        le_trans (le_of_eq (pow-add 2 (p - 1) k)) (mul-le-mul_right (2 ^ k) (whole_ge p n b P (positive j k g))) in
        inl (le_trans (mul-le-mul_right b (le_trans a c)) (le_of_eq (simp (mul_assoc, mul_comm, mul_left_comm))))

-- ---- distances in units
apart_mul : (a b k : ℕ) → apart a b * k ≡ apart (a * k) (b * k)
apart_mul a b k =
    add-mul (a - b) (b - a) k
    ∙ ap (λ (x : ℕ). x + (b - a) * k) (mul_comm (a - b) k ∙ mul-sub k a b)
    ∙ ap (λ (x : ℕ). k * a - k * b + x) (mul_comm (b - a) k ∙ mul-sub k b a)
    ∙ simp mul_comm

-- x / d is X units of 1 / l
scaled : (x X d l a b : ℕ) → x * l ≡ X * d → apart (x * b) (a * d) * l ≡ apart (X * b) (a * l) * d
scaled x X d l a b e =
    apart_mul (x * b) (a * d) l
    ∙ ap (λ (z : ℕ). apart z (a * d * l)) (mul_right_comm x b l ∙ ap (λ (z : ℕ). z * b) e ∙ mul_right_comm X d b)
    ∙ ap (λ (z : ℕ). apart (X * b * d) z) (mul_right_comm a d l)
    ∙ sym (apart_mul (X * b) (a * l) d)

joined : (x X d l a b : ℕ) → x * l ≡ X * d → (x * b + a * d) * l ≡ (X * b + a * l) * d
joined x X d l a b e =
    add-mul (x * b) (a * d) l
    ∙ ap (λ (z : ℕ). z + a * d * l) (mul_right_comm x b l ∙ ap (λ (z : ℕ). z * b) e ∙ mul_right_comm X d b)
    ∙ ap (λ (z : ℕ). X * b * d + z) (mul_right_comm a d l)
    ∙ sym (add-mul (X * b) (a * l) d)

-- g / s is A / l and h / t is B / l
cross_le : (g h s t l A B : ℕ) → 0 < l → g * l ≡ A * s → h * l ≡ B * t → A ≤ B → g * t ≤ h * s
cross_le g h s t l A B L e f k =
    le_of_mul-le-mul_right
    (le_trans (le_of_eq (mul_right_comm g t l ∙ ap (λ (z : ℕ). z * t) e ∙ mul_right_comm A s t))
    (le_trans (mul-le-mul_right s (mul-le-mul_right t k)) (le_of_eq (ap (λ (z : ℕ). z * s) (sym f) ∙ mul_right_comm h l s))))
    L

cross_eq : (g h s t l A B : ℕ) → 0 < s → 0 < t → g * l ≡ A * s → h * l ≡ B * t → g * t ≡ h * s → A ≡ B
cross_eq g h s t l A B S U e f k =
    eq_of_mul-eq-mul_right (s * t) (mul-pos S U) A B
    (sym (mul_assoc A s t)
    ∙ ap (λ (z : ℕ). z * t) (sym e)
    ∙ mul_right_comm g l t
    ∙ ap (λ (z : ℕ). z * l) k
    ∙ mul_right_comm h s l
    ∙ ap (λ (z : ℕ). z * s) f
    ∙ mul_right_comm B t s
    ∙ mul_assoc B s t)

-- ---- a value that fits is m * 2 ^ j units, with m of no more digits than the format keeps
record OnGrid (f : Format) (m : ℕ) (e : ℤ) : Type 0 where
  j : ℕ
  small : m < 2 ^ prec f
  units : m * up e * 2 ^ low f ≡ m * 2 ^ j * down e

pow_le : (i j : ℕ) → 2 ^ i ≤ 2 ^ j → i ≤ j
pow_le i j h = ⊎_elim (λ (l : j < i). absurd (no (2 ^ i) (2 ^ j) h (pow-lt l))) (λ (l : i ≤ j). l) (split j i)
  where
    no : (x y : ℕ) → x ≤ y → y < x → ⊥
    no x y h k = omega arith

in_units : (f : Format) (m : ℕ) (e : ℤ) → m < 2 ^ prec f → down e ≤ 2 ^ low f → OnGrid f m e
in_units f m (pos k) h g =
    record {
      j = k + low f;
      small = h;
      units = mul_assoc m (2 ^ k) (2 ^ low f)
          ∙ ap (λ (z : ℕ). m * z) (sym (pow-add 2 k (low f)))
          ∙ sym (mul-one (m * 2 ^ (k + low f)));
    }
in_units f m (negsuc k) h g =
    let i = low f - suc k in
    record {
      j = i;
      small = h;
      units = ap (λ (z : ℕ). z * 2 ^ low f) (mul-one m)
          ∙ ap (λ (z : ℕ). m * 2 ^ z) (sym (sub-add_cancel (pow_le (suc k) (low f) g)))
          ∙ ap (λ (z : ℕ). m * z) (pow-add 2 i (suc k))
          ∙ sym (mul_assoc m (2 ^ i) (2 ^ suc k));
    }

on_grid : (f : Format) (t : Bool) (m : ℕ) (e : ℤ) → T (fits f (fin t m e)) → OnGrid f m e
unfolding fits
on_grid f t zero e h = record {
  j = 0;
  small = pow_pos (prec f);
  units = ap (λ (z : ℕ). z * 2 ^ low f) (zero-mul (up e))
      ∙ zero-mul (2 ^ low f)
      ∙ sym (ap (λ (z : ℕ). z * down e) (zero-mul (2 ^ 0)) ∙ zero-mul (down e));
}
on_grid f t (suc m) e h =
    let a : Bool = eqb (suc m % 2) 1 in
    let b : Bool = ltb (suc m) (2 ^ prec f) in
    let c : Bool = leb (down e) (2 ^ low f) in
    let d : Bool = ltb (suc m * up e) (2 ^ suc (emax f) * down e) in
    in_units f (suc m) e
    (ltb→lt (suc m) (2 ^ prec f) (and_r a b (and_l (a && b) c (and_l (a && b && c) d h))))
    (leb→le (down e) (2 ^ low f) (and_r (a && b) c (and_l (a && b && c) d h)))

-- ---- the last digit of the written significand
even_mul : (a c : ℕ) → a % 2 ≡ 0 → a * c % 2 ≡ 0
even_mul a c h = ap (λ (z : ℕ). z % 2) (ap (λ (z : ℕ). z * c) (half a h) ∙ mul_right_comm (a / 2) 2 c) ∙ mul-mod_left (a / 2 * c) 2
  where
    half : (x : ℕ) → x % 2 ≡ 0 → x ≡ x / 2 * 2
    half x h = omega arith

pow_even : (p : ℕ) → 0 < p → 2 ^ p % 2 ≡ 0
pow_even zero h = absurd (no h)
  where
    no : 0 < 0 → ⊥
    no h = omega arith
pow_even (suc p) h = ap (λ (z : ℕ). z % 2) (pow-suc 2 p) ∙ mul-mod_left (2 ^ p) 2

reaches : (z p k : ℕ) → k < z - p → p + k < z
reaches z p k h = omega arith

one_more : (z p k : ℕ) → k < z - p → z ≤ suc (p + k) → z - p ≡ suc k
one_more z p k h l = omega arith

pred : (p : ℕ) → 0 < p → suc (p - 1) ≡ p
pred p h = omega arith

split_pow : (p k : ℕ) → 0 < p → p - 1 + suc k ≡ p + k
split_pow p k h = omega arith

-- K * 2 ^ k units with an even K of at most p digits, or 2 ^ p: the p leading digits end with 0
even_shift : (p K k : ℕ) → 2 ≤ p → K % 2 ≡ 0 → K ≤ 2 ^ p → K * 2 ^ k / 2 ^ (size (K * 2 ^ k) - p) % 2 ≡ 0
even_shift p K k P h l = ⊎_elim many few (split k (size (K * 2 ^ k) - p))
  where
    pos_p : (p : ℕ) → 2 ≤ p → 0 < p
    pos_p p h = omega arith

    pos_p1 : (p : ℕ) → 2 ≤ p → 0 < p - 1
    pos_p1 p h = omega arith

    few : size (K * 2 ^ k) - p ≤ k → K * 2 ^ k / 2 ^ (size (K * 2 ^ k) - p) % 2 ≡ 0
    few g =
        let i = size (K * 2 ^ k) - p in
        let e : K * 2 ^ k ≡ K * 2 ^ (k - i) * 2 ^ i =
        ap (λ (z : ℕ). K * z) (ap (λ (z : ℕ). 2 ^ z) (sym (sub-add_cancel g)) ∙ pow-add 2 (k - i) i)
        ∙ sym (mul_assoc K (2 ^ (k - i)) (2 ^ i)) in
        ap (λ (z : ℕ). z / 2 ^ i % 2) e ∙ ap (λ (z : ℕ). z % 2) (mul-div_cancel (K * 2 ^ (k - i)) (pow_pos i)) ∙ even_mul K (2 ^ (k - i)) h

    many : k < size (K * 2 ^ k) - p → K * 2 ^ k / 2 ^ (size (K * 2 ^ k) - p) % 2 ≡ 0
    many g =
        let n = K * 2 ^ k in
        let i = size n - p in
        let big : 2 ^ (p + k) ≤ n = size_reaches n (p + k) (reaches (size n) p k g) in
        let K-is : K ≡ 2 ^ p = le_antisymm l (le_of_mul-le-mul_right (le_trans (le_of_eq (sym (pow-add 2 p k))) big) (pow_pos k)) in
        let n-is : n ≡ 2 ^ (p + k) = ap (λ (z : ℕ). z * 2 ^ k) K-is ∙ sym (pow-add 2 p k) in
        let i-is : i ≡ suc k = one_more (size n) p k g (size-le n (suc (p + k)) (lt_of_le_of_lt (le_of_eq n-is) (pow-lt (omega arith)))) in
        let m-is : n ≡ 2 ^ (p - 1) * 2 ^ suc k =
        n-is ∙ ap (λ (z : ℕ). 2 ^ z) (sym (split_pow p k (pos_p p P))) ∙ pow-add 2 (p - 1) (suc k) in
        ap (λ (z : ℕ). n / 2 ^ z % 2) i-is
        ∙ ap (λ (z : ℕ). z / 2 ^ suc k % 2) m-is
        ∙ ap (λ (z : ℕ). z % 2) (mul-div_cancel (2 ^ (p - 1)) (pow_pos (suc k)))
        ∙ pow_even (p - 1) (pos_p1 p P)

-- ---- the last digit of a value's bit pattern is that of its significand
even_sum : (c q z : ℕ) → q % 2 ≡ 0 → z % 2 ≡ 0 → (0 + c * q + z) % 2 ≡ 0
even_sum c q z h k = go (c * q) (ap (λ (x : ℕ). x % 2) (mul_comm c q) ∙ even_mul q c h)
  where
    go : (x : ℕ) → x % 2 ≡ 0 → (0 + x + z) % 2 ≡ 0
    go x e = omega arith

last_even : (f : Format) (m : ℕ) (e : ℤ) (K k : ℕ) → m * up e * 2 ^ low f ≡ K * 2 ^ k * down e
    → K % 2 ≡ 0 → K ≤ 2 ^ prec f → to_bits f (fin false m e) % 2 ≡ 0
unfolding to_bits
last_even f m e K k v h l =
    let n = m * up e * 2 ^ low f / down e in
    let n-is : n ≡ K * 2 ^ k = ap (λ (z : ℕ). z / down e) v ∙ mul-div_cancel (K * 2 ^ k) (down_pos e) in
    even_sum (size n - prec f) (hid f) (n / 2 ^ (size n - prec f)) (pow_even (prec f - 1) (above (prec f) (two f)))
    (subst (λ (z : ℕ). z / 2 ^ (size z - prec f) % 2 ≡ 0) (sym n-is) (even_shift (prec f) K k (two f) h l))
  where
    above : (p : ℕ) → 2 ≤ p → 0 < p - 1
    above p h = omega arith

-- ---- the rounded fraction, in units
module _ (f : Format) (a b : ℕ) (B : 0 < b) where
  abbrev n : ℕ
  n = a * 2 ^ low f

  abbrev u : ℕ
  u = step (prec f) n b

  abbrev Q : ℕ
  Q = whole (prec f) n b

  abbrev K : ℕ
  K = kept (prec f) n b

  U : 0 < u
  U = mul-pos B (pow_pos (drop (prec f) n b))

  parts : Q * u + n % u ≡ n
  parts = div-add-mod' n u

  -- the result in units, times b
  result : grid f a b * b ≡ K * u
  result = mul_assoc K (2 ^ drop (prec f) n b) b ∙ ap (λ (z : ℕ). K * z) (mul_comm (2 ^ drop (prec f) n b) b)

  grid_near : (W : ℕ) → Beside (Q * u) u W → apart (grid f a b * b) n ≤ apart W n
  grid_near W s =
      subst (λ (z : ℕ). apart z n ≤ apart W n) (sym result)
      (subst (λ (z : ℕ). apart (K * u) z ≤ apart W z) parts (near Q (n % u) u W (mod-lt n U) s (compare (n % u * 2) u) (cmp (n % u * 2) u)))

  grid_tied : (W : ℕ) → Beside (Q * u) u W → apart (grid f a b * b) n ≡ apart W n → (W ≡ grid f a b * b) ⊎ (K % 2 ≡ 0)
  grid_tied W s e =
      subst (λ (z : ℕ). (W ≡ z) ⊎ (K % 2 ≡ 0)) (sym result)
      (tied Q (n % u) u W (mod-lt n U) s (compare (n % u * 2) u) (cmp (n % u * 2) u)
      (subst (λ (z : ℕ). apart (K * u) z ≡ apart W z) (sym parts) (subst (λ (z : ℕ). apart z n ≡ apart W n) result e)))

  K-le : K ≤ 2 ^ prec f
  K-le =
      le_trans (nearest-le Q (compare (n % u * 2) u))
      (subst (λ (x : ℕ). x < 2 ^ prec f) (div-div-eq-div-mul n b (2 ^ drop (prec f) n b)) (kept-lt (prec f) (n / b)))

  abbrev p_pos : 0 < prec f
  p_pos = two-le_pos (prec f) (two f)

  -- the units of a value that fits, times b, are not strictly between the two multiples
  value_side : (m : ℕ) (e : ℤ) (g : OnGrid f m e) → Beside (Q * u) u (m * 2 ^ g.j * b)
  value_side m e g = side (prec f) n b m g.j p_pos g.small

  zero_side : Beside (Q * u) u 0
  zero_side = inl zero-le

  zero_apart : (x : ℕ) → apart 0 x ≡ x
  zero_apart x = omega arith

  none_nearer : (x : Float) → HasValue x false (grid f a b) (2 ^ low f) → (y : Float) → T (fits f y) → T (number y)
      → gap x a b * scale y ≤ gap y a b * scale x
  none_nearer nan v y h k = absurd v
  none_nearer (inf s) v y h k = absurd v
  none_nearer (fin true m e) v y h k = absurd (true≢false v.0)
  none_nearer (fin false m e) v nan h k = absurd k
  none_nearer (fin false m e) v (inf s) h k = absurd k
  none_nearer (fin false m e) v (fin false w d) h k =
      let g = on_grid f false w d h in
      cross_le (apart (m * up e * b) (a * down e)) (apart (w * up d * b) (a * down d)) (down e) (down d) (2 ^ low f)
      (apart (grid f a b * b) n) (apart (w * 2 ^ g.j * b) n) (pow_pos (low f))
      (scaled (m * up e) (grid f a b) (down e) (2 ^ low f) a b v.1)
      (scaled (w * up d) (w * 2 ^ g.j) (down d) (2 ^ low f) a b g.units)
      (grid_near (w * 2 ^ g.j * b) (value_side w d g))
  none_nearer (fin false m e) v (fin true w d) h k =
      let g = on_grid f true w d h in
      cross_le (apart (m * up e * b) (a * down e)) (w * up d * b + a * down d) (down e) (down d) (2 ^ low f)
      (apart (grid f a b * b) n) (w * 2 ^ g.j * b + n) (pow_pos (low f))
      (scaled (m * up e) (grid f a b) (down e) (2 ^ low f) a b v.1)
      (joined (w * up d) (w * 2 ^ g.j) (down d) (2 ^ low f) a b g.units)
      (le_trans (grid_near 0 zero_side) (le_trans (le_of_eq (zero_apart n)) (more (w * 2 ^ g.j * b) n)))
    where
      more : (x y : ℕ) → y ≤ x + y
      more x y = omega arith

  -- two values with the same units are equal
  same_units : (m : ℕ) (e : ℤ) (w : ℕ) (d : ℤ) (X : ℕ) → m * up e * 2 ^ low f ≡ X * down e
      → w * up d * 2 ^ low f ≡ X * down d → w * up d * down e ≡ m * up e * down d
  same_units m e w d X p q =
      eq_of_mul-eq-mul_right (2 ^ low f) (pow_pos (low f)) (w * up d * down e) (m * up e * down d)
      (mul_right_comm (w * up d) (down e) (2 ^ low f)
      ∙ ap (λ (z : ℕ). z * down e) q
      ∙ mul_right_comm X (down d) (down e)
      ∙ ap (λ (z : ℕ). z * down d) (sym p)
      ∙ mul_right_comm (m * up e) (2 ^ low f) (down d))

  or_true : (t : Bool) → T (t || true)
  or_true true = tt
  or_true false = tt

  tie_even : (x : Float) → HasValue x false (grid f a b) (2 ^ low f) → (y : Float) → T (fits f y) → T (number y) → T (ne y x)
      → gap x a b * scale y ≡ gap y a b * scale x → to_bits f x % 2 ≡ 0
  unfolding ne eq
  tie_even nan v y h k o q = absurd v
  tie_even (inf s) v y h k o q = absurd v
  tie_even (fin true m e) v y h k o q = absurd (true≢false v.0)
  tie_even (fin false m e) v nan h k o q = absurd k
  tie_even (fin false m e) v (inf s) h k o q = absurd k
  tie_even (fin false m e) v (fin false w d) h k o q =
      let g = on_grid f false w d h in
      let W = w * 2 ^ g.j in
      let same : apart (grid f a b * b) n ≡ apart (W * b) n =
      cross_eq (apart (m * up e * b) (a * down e)) (apart (w * up d * b) (a * down d)) (down e) (down d) (2 ^ low f)
      (apart (grid f a b * b) n) (apart (W * b) n) (down_pos e) (down_pos d)
      (scaled (m * up e) (grid f a b) (down e) (2 ^ low f) a b v.1) (scaled (w * up d) W (down d) (2 ^ low f) a b g.units) q in
      ⊎_elim
      (λ (t : W * b ≡ grid f a b * b).
      let X : W ≡ grid f a b = eq_of_mul-eq-mul_right b B W (grid f a b) t in
      absurd (T_not (eqb (w * up d * down e) (m * up e * down d) && true) o
      (and_i (eqb (w * up d * down e) (m * up e * down d)) true
      (eq→eqb (same_units m e w d (grid f a b) v.1 (g.units ∙ ap (λ (z : ℕ). z * down d) X))) tt)))
      (λ (t : K % 2 ≡ 0). last_even f m e K (drop (prec f) n b) v.1 t K-le)
      (grid_tied (W * b) (value_side w d g) same)
  tie_even (fin false m e) v (fin true w d) h k o q =
      let g = on_grid f true w d h in
      let W = w * 2 ^ g.j in
      let same : apart (grid f a b * b) n ≡ W * b + n =
      cross_eq (apart (m * up e * b) (a * down e)) (w * up d * b + a * down d) (down e) (down d) (2 ^ low f)
      (apart (grid f a b * b) n) (W * b + n) (down_pos e) (down_pos d)
      (scaled (m * up e) (grid f a b) (down e) (2 ^ low f) a b v.1) (joined (w * up d) W (down d) (2 ^ low f) a b g.units) q in
      let none : W * b ≡ 0 =
      no_more (apart (grid f a b * b) n) (W * b) n same (le_trans (grid_near 0 zero_side) (le_of_eq (zero_apart n))) in
      let W-is : W ≡ 0 = eq_of_mul-eq-mul_right b B W 0 (none ∙ sym (zero-mul b)) in
      let at_zero : apart (grid f a b * b) n ≡ apart 0 n = same ∙ ap (λ (z : ℕ). z + n) none ∙ zero-add n ∙ sym (zero_apart n) in
      ⊎_elim
      (λ (t : 0 ≡ grid f a b * b).
      let X : 0 ≡ grid f a b = eq_of_mul-eq-mul_right b B 0 (grid f a b) (zero-mul b ∙ t) in
      let zero-x : w * up d * down e ≡ 0 = eq_of_mul-eq-mul_right (2 ^ low f) (pow_pos (low f)) (w * up d * down e) 0
      (mul_right_comm (w * up d) (down e) (2 ^ low f)
      ∙ ap (λ (z : ℕ). z * down e) (g.units ∙ ap (λ (z : ℕ). z * down d) W-is ∙ zero-mul (down d))
      ∙ zero-mul (down e)
      ∙ sym (zero-mul (2 ^ low f))) in
      absurd (T_not (eqb (w * up d * down e) (m * up e * down d) && (false || eqb (w * up d * down e) 0)) o
      (and_i (eqb (w * up d * down e) (m * up e * down d)) (eqb (w * up d * down e) 0)
      (eq→eqb (same_units m e w d (grid f a b) v.1 (g.units ∙ ap (λ (z : ℕ). z * down d) (W-is ∙ X))))
      (eq→eqb zero-x))))
      (λ (t : K % 2 ≡ 0). last_even f m e K (drop (prec f) n b) v.1 t K-le)
      (grid_tied 0 zero_side at_zero)
    where
      no_more : (A x y : ℕ) → A ≡ x + y → A ≤ y → x ≡ 0
      no_more A x y h l = omega arith

has_number : (x : Float) (G l : ℕ) → HasValue x false G l → T (number x)
has_number nan G l v = v
has_number (inf s) G l v = v
has_number (fin s m e) G l v = tt

-- `round` gives the nearest, where it does not overflow
pub round_nearest : (a b : ℕ) → 0 < b → grid binary64 a b < overflow binary64 → Nearest (round binary64 false a b) a b
round_nearest a b B under =
    let v = round_val binary64 a b under in
    record {
      held = round-fits binary64 false a b;
      finite = has_number (round binary64 false a b) (grid binary64 a b) (2 ^ low binary64) v;
      none_nearer = none_nearer binary64 a b B (round binary64 false a b) v;
      tie_even = tie_even binary64 a b B (round binary64 false a b) v;
    }

-- ---- a fraction below 2 ^ 53 does not overflow
small_grid : (f : Format) (a b : ℕ) → 0 < b → a < 2 ^ prec f → prec f + low f < low f + suc (emax f) → grid f a b < overflow f
small_grid f a b B h room =
    let n = a * 2 ^ low f in
    let k = drop (prec f) n b in
    let z : size (n / b) ≤ prec f + low f =
    size-le (n / b) (prec f + low f) (lt_of_le_of_lt (div-le_self n b) (shl_lt (prec f) (low f) h)) in
    let k-le : k ≤ low f = few (size (n / b)) (prec f) (low f) z in
    lt_of_le_of_lt (mul-le-mul_right (2 ^ k) (K-le f a b B))
    (lt_of_le_of_lt (le_of_eq (sym (pow-add 2 (prec f) k))) (lt_of_le_of_lt (pow_mono (fewer (prec f) k (low f) k-le)) (pow-lt room)))
  where
    few : (z p l : ℕ) → z ≤ p + l → z - p ≤ l
    few z p l h = omega arith

    fewer : (p k l : ℕ) → k ≤ l → p + k ≤ p + l
    fewer p k l h = omega arith

-- A moment in seconds is the binary64 number nearest to the exact fraction.
pub seconds_nearest : (moment parts : ℕ) → moment < 2 ^ 53 → 0 < parts → Nearest (seconds_of moment parts) moment (10 * parts)
seconds_nearest moment parts h P =
    round_nearest moment (10 * parts) (tenfold parts P)
    (small_grid binary64 moment (10 * parts) (tenfold parts P) h (lit< tt))
  where
    tenfold : (x : ℕ) → 0 < x → 0 < 10 * x
    tenfold x h = omega arith

-- ---- the quotient of two whole numbers that are cast without loss is the fraction rounded once
quotient : (x y : Float) (a b : ℕ) → 0 < b → HasValue x false a 1 → HasValue y false b 1 → div binary64 x y ≡ round binary64 false a b
unfolding div
quotient nan y a b B v w = absurd v
quotient (inf s) y a b B v w = absurd v
quotient (fin true m e) y a b B v w = absurd (true≢false v.0)
quotient (fin false m e) nan a b B v w = absurd w
quotient (fin false m e) (inf s) a b B v w = absurd w
quotient (fin false m e) (fin true k d) a b B v w = absurd (true≢false w.0)
quotient (fin false m e) (fin false k d) a b B v w = go (eqb k 0) (eqb→eq k 0)
  where
    top : m * up e ≡ a * down e
    top = sym (mul-one (m * up e)) ∙ v.1

    bottom : k * up d ≡ b * down d
    bottom = sym (mul-one (k * up d)) ∙ w.1

    cross : m * up e * down d * b ≡ a * (k * up d * down e)
    cross =
        let s : a * down e * down d * b ≡ a * (b * down d * down e) = simp (mul_assoc, mul_comm, mul_left_comm) in
        ap (λ (z : ℕ). z * down d * b) top ∙ s ∙ ap (λ (z : ℕ). a * (z * down e)) (sym bottom)

    positive_k : 0 < k * up d * down e
    positive_k = mul-pos (subst (λ (z : ℕ). 0 < z) (sym bottom) (mul-pos B (down_pos d))) (down_pos e)

    go : (t : Bool) → (T t → k ≡ 0)
        → cond t (cond (eqb m 0) nan (inf false)) (round binary64 false (m * up e * down d) (k * up d * down e)) ≡ round binary64 false a b
    go true z =
        let none = ap (λ (x : ℕ). x * up d * down e) (z tt) ∙ ap (λ (x : ℕ). x * down e) (zero-mul (up d)) ∙ zero-mul (down e) in
        absurd (lt_irrefl 0 (subst (λ (x : ℕ). 0 < x) none positive_k))
    go false z = round_same binary64 false (m * up e * down d) (k * up d * down e) a b positive_k B cross

pub divided : (a b : ℕ) → a ≤ 2 ^ 53 → 0 < b → b ≤ 2 ^ 53
    → div binary64 (of_int binary64 (pos a)) (of_int binary64 (pos b)) ≡ round binary64 false a b
unfolding of_int
divided a b h B k =
    quotient (round binary64 false a 1) (round binary64 false b 1) a b B (round_whole binary64 false a h) (round_whole binary64 false b k)
