-- A solution on some vertices of a closed matrix extends to all of them, up to scale and shift.
use Rattle.std.specs.Prelude.{◌≡◌, ◌⊎◌, ◌≢◌, ℕ, zero, suc, ◌+◌, ◌*◌, ◌-◌, ◌≤◌, ◌<◌, max}
use Rattle.std.proofs.Common.{ap, sym, subst, inl, inr, arith, mul-pos}
use Rattle.std.proofs.Math.Decide.{dec_lt, ℕ_discrete}
use Rattle.basics.specs.Choice.{choose, choose_yes, choose_no, choose_cases, either, not_below_zero}
use Rattle.basics.specs.Numbers.{top, top_ge}
use Rattle.zones.specs.Bound.{Bound, none, some, half, strict, sum, half_sum, strict_sum, ◌⊕◌, Sat}
use Rattle.zones.specs.Values.{sat_mono, sat_self, sat_scale}
use Rattle.zones.specs.Matrix.{Matrix, Solves, Solution, Closed}

-- The row x of values keeps every bound of M among the vertices of S.
abbrev pub Fits : ℕ → ℕ → Matrix → (ℕ → Type 0) → (ℕ → ℕ) → Type 0
Fits N P M S x = (a b : ℕ) → a < N → b < N → S a → S b → Sat P (M a b) (x a) (x b)

-- Values for S and the first k vertices; on S they are those of x, scaled and shifted.
pub record Extension (N P : ℕ) (M : Matrix) (S : ℕ → Type 0) (x : ℕ → ℕ) (k : ℕ) : Type 0 where
  pub scale : ℕ
  pub shift : ℕ
  pub parts : ℕ
  pub value : ℕ → ℕ
  pub scale_pos : 0 < scale
  pub parts_is : parts ≡ scale * P
  pub value_is : (a : ℕ) → a < N → S a → value a ≡ scale * x a + shift
  pub fits : Fits N parts M (λ a. S a ⊎ (a < k)) value

-- ---- One bound

-- The least value w that keeps the bound from w to t.
lower : ℕ → Bound → ℕ → ℕ
lower P none t = 0
lower P (some e z) t = t + z * P + strict e - half e * P

lower_sat : (P w t : ℕ) (a : Bound) → lower P a t ≤ w → Sat P a w t
unfolding lower
lower_sat P w t none h = record { holds = tt }
lower_sat P w t (some e z) h = omega arith

-- From here on the bound allows the value 0.
room : ℕ → Bound → ℕ
room P none = 0
room P (some e z) = z * P + 1

room_sat : (P h u : ℕ) (a : Bound) → room P a ≤ h → h ≤ u → Sat P a u 0
unfolding room
room_sat P h u none p q = record { holds = tt }
room_sat P h u (some e z) p q = omega arith

sat_max : (P u v w : ℕ) (a : Bound) → Sat P a u v → Sat P a u w → Sat P a u (max v w)
sat_max P u v w none p q = record { holds = tt }
sat_max P u v w (some e z) p q = omega arith

sat_top : (P u : ℕ) (a : Bound) (n : ℕ) (g : ℕ → ℕ) → Sat P a u 0 → ((i : ℕ) → i < n → Sat P a u (g i))
    → Sat P a u (top n g)
unfolding top
sat_top P u a zero g z s = z
sat_top P u a (suc n) g z s =
    sat_max P u (top n g) (g n) a (sat_top P u a n g z (λ i h. s i (omega arith))) (s n (omega arith))

-- In doubled parts each lower bound is at most each upper bound: two strict marks cost two of them,
-- which one strict sum paid for.
squeeze : (P h u v : ℕ) (f e : Bound) → Sat P (f ⊕ e) u v → room (2 * P) f ≤ h
    → Sat (2 * P) f (2 * u + h) (lower (2 * P) e (2 * v + h))
unfolding lower room
squeeze P h u v none e s n = record { holds = tt }
squeeze P h u v (some f y) none s n = omega arith
squeeze P h u v (some f y) (some e z) s n = record {
  holds = num (half f) (half e) (half (sum f e)) (strict f) (strict e) (strict (sum f e))
      (omega arith) (half_sum f e) (strict_sum f e) s.holds n;
}
  where
    num : (hf he hs sf se ss : ℕ) → sf ≤ 1 → hs ≡ hf + he → ss ≡ max sf se → v + (y + z) * P + ss ≤ u + hs * P
        → y * (2 * P) + 1 ≤ h
        → 2 * v + h + z * (2 * P) + se - he * (2 * P) + y * (2 * P) + sf ≤ 2 * u + h + hf * (2 * P)
    num hf he hs sf se ss b p q s n = omega (arith, ap (λ t. t * P) p)

-- ---- One vertex more

module _ (N P : ℕ) (M : Matrix) (cl : Closed N M) (S : ℕ → Type 0) (dec : (a : ℕ) → Dec (S a))
    (x : ℕ → ℕ) (pos : 0 < P) (fits : Fits N P M S x) (m : ℕ) (hm : m < N) where
  shift_by : ℕ
  shift_by = top N (λ b. room (2 * P) (M b m))

  moved : ℕ → ℕ
  moved a = 2 * x a + shift_by

  -- The lower bound that a vertex of S puts on the value at m, and the largest of them.
  floor : ℕ → ℕ
  floor a = choose (dec a) (lower (2 * P) (M m a) (moved a)) 0

  new : ℕ
  new = top N floor

  -- The new value keeps the bounds from S,
  from_old : (b : ℕ) → b < N → S b → Sat (2 * P) (M b m) (moved b) new
  unfolding moved new shift_by floor
  from_old b hb sb = sat_top (2 * P) (moved b) (M b m) N floor zero_fits each
    where
      enough : room (2 * P) (M b m) ≤ shift_by
      enough = top_ge N (λ b. room (2 * P) (M b m)) b hb

      zero_fits : Sat (2 * P) (M b m) (moved b) 0
      zero_fits = room_sat (2 * P) shift_by (moved b) (M b m) enough (omega arith)

      each : (a : ℕ) → a < N → Sat (2 * P) (M b m) (moved b) (floor a)
      each a ha =
          choose_cases (Sat (2 * P) (M b m) (moved b)) (dec a) (lower (2 * P) (M m a) (moved a)) 0
          (λ sa. squeeze P shift_by (x b) (x a) (M b m) (M m a)
          (sat_mono P (x b) (x a) pos (cl.tri b a m hb ha hm) (fits b a hb ha sb sa)) enough)
          (λ _. zero_fits)

  -- and those to S.
  to_old : (a : ℕ) → a < N → S a → Sat (2 * P) (M m a) new (moved a)
  unfolding new floor
  to_old a ha sa =
      lower_sat (2 * P) new (moved a) (M m a)
      (rw (choose_yes (dec a) (lower (2 * P) (M m a) (moved a)) 0 sa) at (top_ge N floor a ha))

  next_value : ℕ → ℕ
  next_value a = choose (ℕ_discrete a m) new (moved a)

  next_fits : Fits N (2 * P) M (λ a. S a ⊎ (a ≡ m)) next_value
  unfolding next_value choose
  next_fits a b ha hb sa sb = go (ℕ_discrete a m) (ℕ_discrete b m)
    where
      old : (c : ℕ) → ¬ (c ≡ m) → S c ⊎ (c ≡ m) → S c
      old c n (inl s) = s
      old c n (inr e) = absurd (n e)

      go : (d : Dec (a ≡ m)) (e : Dec (b ≡ m)) → Sat (2 * P) (M a b) (choose d new (moved a)) (choose e new (moved b))
      go (yes p) (yes q) = rw (p, q) (sat_self (2 * P) new (M m m) (omega arith) (cl.diag m hm))
      go (yes p) (no q) = rw p (to_old b hb (old b q sb))
      go (no p) (yes q) = rw q (from_old a ha (old a p sa))
      go (no p) (no q) =
          unfold moved in
          sat_scale 2 shift_by P (x a) (x b) (M a b) (omega arith) (fits a b ha hb (old a p sa) (old b q sb))

  next_old : (a : ℕ) → a ≢ m → next_value a ≡ 2 * x a + shift_by
  unfolding next_value moved
  next_old a n = choose_no (ℕ_discrete a m) new (moved a) n

-- ---- Every vertex

module _ (N P : ℕ) (M : Matrix) (cl : Closed N M) (S : ℕ → Type 0) (dec : (a : ℕ) → Dec (S a))
    (x : ℕ → ℕ) (pos : 0 < P) (fits : Fits N P M S x) where
  first : Extension N P M S x 0
  first = record {
    scale = 1;
    shift = 0;
    parts = P;
    value = x;
    scale_pos = omega arith;
    parts_is = omega arith;
    value_is = λ a ha sa. omega arith;
    fits = λ a b ha hb sa sb. fits a b ha hb (only a sa) (only b sb);
  }
    where
      only : (a : ℕ) → S a ⊎ (a < 0) → S a
      only a (inl s) = s
      only a (inr h) = absurd (not_below_zero a h)

  next : (k : ℕ) → k < N → Extension N P M S x k → Extension N P M S x (suc k)
  next k hk r = go (dec_t k)
    where
      T : ℕ → Type 0
      T a = S a ⊎ (a < k)

      dec_t : (a : ℕ) → Dec (T a)
      dec_t a = either (dec a) (dec_lt a k)

      in_T : (a : ℕ) → S a ⊎ (a < suc k) → T a ⊎ (a ≡ k)
      in_T a (inl s) = inl (inl s)
      in_T a (inr h) = less (dec_lt a k)
        where
          less : Dec (a < k) → T a ⊎ (a ≡ k)
          less (yes l) = inl (inr l)
          less (no l) = inr (omega arith)

      many : 0 < r.parts
      many = rw r.parts_is (mul-pos r.scale_pos pos)

      more : ℕ
      more = shift_by N r.parts M cl T dec_t r.value many r.fits k hk

      value : ℕ → ℕ
      value = next_value N r.parts M cl T dec_t r.value many r.fits k hk

      go : Dec (T k) → Extension N P M S x (suc k)
      go (yes s) = record {
        scale = r.scale;
        shift = r.shift;
        parts = r.parts;
        value = r.value;
        scale_pos = r.scale_pos;
        parts_is = r.parts_is;
        value_is = r.value_is;
        fits = λ a b ha hb sa sb. r.fits a b ha hb (back a (in_T a sa)) (back b (in_T b sb));
      }
        where
          back : (a : ℕ) → T a ⊎ (a ≡ k) → T a
          back a (inl t) = t
          back a (inr e) = subst T (sym e) s
      go (no n) = record {
        scale = 2 * r.scale;
        shift = 2 * r.shift + more;
        parts = 2 * r.parts;
        value = value;
        scale_pos = omega (arith, r.scale_pos);
        parts_is = omega (arith, r.parts_is);
        value_is = kept;
        fits = λ a b ha hb sa sb.
            next_fits N r.parts M cl T dec_t r.value many r.fits k hk a b ha hb (in_T a sa) (in_T b sb);
      }
        where
          kept : (a : ℕ) → a < N → S a → value a ≡ 2 * r.scale * x a + (2 * r.shift + more)
          kept a ha sa =
              let e : value a ≡ 2 * r.value a + more =
              next_old N r.parts M cl T dec_t r.value many r.fits k hk a (λ e. n (inl (subst S e sa))) in
              omega (arith, r.value_is a ha sa)

  upto : (k : ℕ) → k ≤ N → Extension N P M S x k
  upto zero h = first
  upto (suc k) h = next k h (upto k (omega arith))

  -- All vertices have values that solve the closed matrix.
  pub extend : (r : Extension N P M S x N) × Solves N r.parts M r.value
  extend = (whole, λ a b ha hb. whole.fits a b ha hb (inr ha) (inr hb))
    where
      whole : Extension N P M S x N
      whole = upto N (omega arith)

-- A closed matrix has a solution.
pub solve : (N : ℕ) (M : Matrix) → Closed N M → Solution N M
solve N M cl = (r.0.parts, omega (arith, r.0.parts_is, r.0.scale_pos), (r.0.value, r.1))
  where
    r : (r : Extension N 1 M (λ a. ⊥) (λ a. 0) N) × Solves N r.parts M r.value
    r = extend N 1 M cl (λ a. ⊥) (λ a. no (λ h. h)) (λ a. 0) (omega arith) (λ a b ha hb sa sb. absurd sa)
