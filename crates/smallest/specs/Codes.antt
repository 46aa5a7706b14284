-- Codes of bounds in whole parts: a left part in parts, code by code.
use Rattle.std.specs.Prelude.{◌≡◌, refl, ◌⊎◌, ◌≢◌, List, ℕ, ◌+◌, ◌*◌, ◌-◌, ◌^◌, ◌≤◌, ◌<◌, length, get_or, set}
use Rattle.std.proofs.Common.{◌∙◌, inl, inr, ⊎_elim, arith, mul-le-mul_left, mul-le-mul_right, not-suc-le-zero, length-set, get_or-set_same, get_or-set_other, below_more}
use Rattle.std.proofs.Math.Decide.{ℕ_discrete}
use Rattle.basics.specs.Choice.{choose, choose_yes, choose_no}
use Rattle.zones.specs.Bound.{half, strict, ◌⊑◌}
use Rattle.zones.specs.Codes.{BIAS, NONE, ZERO, bound, bound_none, bound_some, Near, Coded}
use Rattle.zones.specs.Cells.{cell}
use Rattle.zones.specs.InParts.{parts_of}
use Rattle.gluing.specs.Laying.{code}

-- How far from 0 the ticks of a left part may lie.
abbrev pub most : ℕ
most = 2 ^ 40

-- The code in Q parts to a tick.
unfoldable pub parts_code : ℕ → ℕ → ℕ
parts_code Q e =
    choose (ℕ_discrete e NONE) NONE (half e * Q * 2 + ZERO - Q * (2 * BIAS) - 2 * strict e)

pub parts_none : (Q e : ℕ) → e ≡ NONE → parts_code Q e ≡ NONE
unfolding parts_code
parts_none Q e h = choose_yes (ℕ_discrete e NONE) NONE _ h

pub parts_some : (Q e : ℕ) → e ≢ NONE → parts_code Q e ≡ half e * Q * 2 + ZERO - Q * (2 * BIAS) - 2 * strict e
unfolding parts_code
parts_some Q e h = choose_no (ℕ_discrete e NONE) NONE _ h

-- What is taken off is there, and nothing wraps.
pub record Room (Q e : ℕ) : Type 0 where
  pub less : Q * (2 * BIAS) + 2 * strict e ≤ half e * Q * 2 + ZERO
  pub product : half e * Q * 2 + ZERO < 2 ^ 63
  pub parts : Q * (2 * BIAS) < 2 ^ 63
  pub half_product : half e * Q < 2 ^ 62
  pub not : half e * Q * 2 + ZERO - Q * (2 * BIAS) - 2 * strict e ≢ NONE

pub has_room : (Q e : ℕ) → Q ≤ 7 → Near most e → Room Q e
has_room Q e q n =
    let low : BIAS * Q ≤ (half e + most) * Q = mul-le-mul_right Q n.low in
    let high : half e * Q ≤ (BIAS + most) * Q = mul-le-mul_right Q n.high in
    let bias : BIAS * Q ≤ BIAS * 7 = mul-le-mul_left BIAS q in
    let far : most * Q ≤ most * 7 = mul-le-mul_left most q in
    record {
      less = omega (arith, low, far);
      product = omega (arith, high, bias, far);
      parts = omega (arith, bias);
      half_product = omega (arith, high, bias, far);
      not = omega (arith, high, far);
    }

module _ (Q e : ℕ) (q : Q ≤ 7) (c : Coded most e) where
  -- It stands for the bound in parts,
  pub parts_under : bound (parts_code Q e) ⊑ parts_of Q (bound e)
  parts_under = go (ℕ_discrete e NONE)
    where
      go : Dec (e ≡ NONE) → bound (parts_code Q e) ⊑ parts_of Q (bound e)
      go (yes h) = rw (bound_none e h) (record { le = tt })
      go (no h) =
          let r = has_room Q e q (c h) in
          rw (parts_some Q e h, bound_some e h, bound_some _ r.not) (record { le = omega (arith, r.less) })

  pub parts_over : parts_of Q (bound e) ⊑ bound (parts_code Q e)
  parts_over = go (ℕ_discrete e NONE)
    where
      go : Dec (e ≡ NONE) → parts_of Q (bound e) ⊑ bound (parts_code Q e)
      go (yes h) = rw (parts_none Q e h, bound_none NONE refl) (record { le = tt })
      go (no h) =
          let r = has_room Q e q (c h) in
          rw (parts_some Q e h, bound_some e h, bound_some _ r.not) (record { le = omega (arith, r.less) })

  -- and is in range.
  pub parts_coded : Coded (2 ^ 52) (parts_code Q e)
  parts_coded n = go (ℕ_discrete e NONE)
    where
      go : Dec (e ≡ NONE) → Near (2 ^ 52) (parts_code Q e)
      go (yes h) = absurd (n (parts_none Q e h))
      go (no h) =
          let r = has_room Q e q (c h) in
          let low : BIAS * Q ≤ (half e + most) * Q = mul-le-mul_right Q (c h).low in
          let high : half e * Q ≤ (BIAS + most) * Q = mul-le-mul_right Q (c h).high in
          let far : most * Q ≤ most * 7 = mul-le-mul_left most q in
          rw (parts_some Q e h) (record { low = omega (arith, low, far, r.less); high = omega (arith, high, far, r.less) })

-- ---- Copied in parts

-- z is m with n codes of l from index `from` on, in Q parts, from index `to` on.
pub record PartsLine (Q to from n : ℕ) (l m z : List ℕ) : Type 0 where
  pub full : length z ≡ length m
  pub done : (c : ℕ) → c < n → get_or z (to + c) 0 ≡ parts_code Q (get_or l (from + c) 0)
  pub rest : (k : ℕ) → (k < to) ⊎ (to + n ≤ k) → get_or z k 0 ≡ get_or m k 0

-- z has the first n rows of w codes of the effect of m at `at`, in w parts, in its cells.
pub record PartsTo (w n at : ℕ) (m z : List ℕ) : Type 0 where
  pub full : length z ≡ 441
  pub done : (a b : ℕ) → a < n → b < w → cell z a b ≡ parts_code w (code m at a b)

pub line_none : (Q to from : ℕ) (l m : List ℕ) → PartsLine Q to from 0 l m m
line_none Q to from l m = record { full = refl; done = λ c h. absurd (not-suc-le-zero h); rest = λ k q. refl }

pub line_more : (Q to from n : ℕ) (l m z : List ℕ) → to + n < length m → PartsLine Q to from n l m z
    → PartsLine Q to from (n + 1) l m (set z (to + n) (parts_code Q (get_or l (from + n) 0)))
line_more Q to from n l m z h t = record {
  full = length-set z _ _ ∙ t.full;
  done = below_more (λ c. get_or (set z (to + n) v) (to + c) 0 ≡ parts_code Q (get_or l (from + c) 0)) n
      (λ c k. get_or-set_other z (to + n) (to + c) v 0 (omega arith) ∙ t.done c k)
      (get_or-set_same z (to + n) v 0 (omega (arith, t.full)));
  rest = λ k q.
      get_or-set_other z (to + n) k v 0 (⊎_elim (λ e. omega arith) (λ e. omega arith) q)
      ∙ t.rest k (⊎_elim inl (λ e. inr (omega arith)) q);
}
  where
    v : ℕ
    v = parts_code Q (get_or l (from + n) 0)

pub rows_none : (w at : ℕ) (m z : List ℕ) → length z ≡ 441 → PartsTo w 0 at m z
rows_none w at m z e = record { full = e; done = λ a b h. absurd (not-suc-le-zero h) }

pub rows_more : (w n at : ℕ) (m l z : List ℕ) → w ≤ 7 → n < w → PartsTo w n at m l
    → PartsLine w (n * 21) (at + n * 14) w m l z → PartsTo w (n + 1) at m z
rows_more w n at m l z h s t r = record {
  full = r.full ∙ t.full;
  done = λ a b ha hb. below_more (λ a. cell z a b ≡ parts_code w (code m at a b)) n
      (λ a k. r.rest (a * 21 + b) (inl (omega arith)) ∙ t.done a b k hb) (r.done b hb) a ha;
}
