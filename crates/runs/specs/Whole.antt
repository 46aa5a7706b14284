-- Whole ticks: where no demand is strict, times in parts are rounded to times in ticks, and a run exists in whole ticks if one exists.
use Rattle.std.specs.Prelude.{◌≡◌, Bool, true, false, ℕ, zero, suc, ◌+◌, ◌*◌, ◌-◌, ◌/◌, ◌≤◌, ◌<◌, length}
use Rattle.std.proofs.Math.Path.{refl, ap}
use Rattle.std.proofs.Common.{sym, ◌∙◌, le-div_iff_mul-le, div-mul-le_self, mul-le-mul_right}
use Rattle.std.proofs.lemmas.Bool.{false≢true}
use mathlib.Core.List.{List, Memᴰ}
use native.Mathlib.Omega.{arith}
use Rattle.std.proofs.Math.Nat.{add-mul-div_right, lt-div-mul-add, mul-le-mul_left}
use Rattle.std.proofs.Math.Decide.{dec_le}
use Rattle.table.specs.Step.{Step}
use Rattle.basics.specs.Numbers.{top, top_ge}
use Rattle.runs.specs.Run.{Run}
use Rattle.runs.specs.declared.Demand.{Demand}
use Rattle.runs.specs.Demand.{Within, Holds, Starts, demands, Allowed, Exists, Clocks, Places}
use Rattle.runs.specs.Satisfies.{Satisfies}
use Rattle.runs.specs.Rows.{Row, row_at, row_now, row_past, row_is, run_row, run_satisfies}
use Rattle.runs.specs.Tools.{Every}

-- no demand is strict
abbrev pub Weak : List Demand → Type 0
Weak ds = Every (λ d. d.strict ≡ false) ds

-- ---- rounding: down where h is 0, up where it is P − 1
abbrev pub rounded : ℕ → ℕ → ℕ → ℕ
rounded P h a = (a + h) / P

round_mono : (P h a b : ℕ) → 0 < P → a ≤ b → rounded P h a ≤ rounded P h b
round_mono P h a b p l = (le-div_iff_mul-le p).1 (omega (arith, div-mul-le_self (a + h) P))

-- whole ticks stay
pub round_ticks : (P h a c : ℕ) → 0 < P → rounded P h (a + c * P) ≡ rounded P h a + c
round_ticks P h a c p =
    let e : a + c * P + h ≡ a + h + c * P = omega arith in ap (λ n. n / P) e ∙ add-mul-div_right (a + h) c p

round_within : (P h : ℕ) (d : Demand) (x : ℕ → ℕ) → 0 < P → d.strict ≡ false → Holds P x d
    → Holds 1 (λ v. rounded P h (x v)) d
round_within P h d x p e k = record { holds = go d.strict e k.holds }
  where
    go : (b : Bool) → b ≡ false → Within b (x d.to + d.down * P) (x d.from + d.up * P)
        → Within b (rounded P h (x d.to) + d.down * 1) (rounded P h (x d.from) + d.up * 1)
    go true f l = absurd (false≢true (sym f))
    go false f l =
        omega (
          arith,
          round_mono P h _ _ p l,
          round_ticks P h (x d.to) d.down p,
          round_ticks P h (x d.from) d.up p,
        )

-- Times that satisfy demands in parts satisfy them in ticks, rounded all the same way.
pub round_satisfies : (P h : ℕ) (ds : List Demand) (x : ℕ → ℕ) → 0 < P → Weak ds → Satisfies P x ds
    → Satisfies 1 (λ v. rounded P h (x v)) ds
round_satisfies P h ds x p w s d m = round_within P h d x p (w d m) (s d m)

scale_within : (P : ℕ) (b : Bool) (a c : ℕ) → 0 < P → Within b a c → Within b (a * P) (c * P)
scale_within P true a c p l = omega (arith, mul-le-mul_right P l)
scale_within P false a c p l = omega (arith, mul-le-mul_right P l)

-- Times that satisfy demands in ticks satisfy them in parts.
pub scale_satisfies : (P : ℕ) (ds : List Demand) (x : ℕ → ℕ) → 0 < P → Satisfies 1 x ds → Satisfies P (λ v. x v * P) ds
scale_satisfies P ds x p s d m = record { holds = go (scale_within P d.strict _ _ p (s d m).holds) }
  where
    go : Within d.strict ((x d.to + d.down * 1) * P) ((x d.from + d.up * 1) * P)
        → Within d.strict (x d.to * P + d.down * P) (x d.from * P + d.up * P)
    go l =
        let a : (x d.to + d.down * 1) * P ≡ x d.to * P + d.down * P = omega arith in
        let c : (x d.from + d.up * 1) * P ≡ x d.from * P + d.up * P = omega arith in
        rw (a, c) at l

pub round_zero : (P h : ℕ) → h < P → rounded P h 0 ≡ 0
round_zero P h l = go (rounded P h 0) refl
  where
    go : (q : ℕ) → q ≡ rounded P h 0 → rounded P h 0 ≡ 0
    go zero e = sym e
    go (suc q) e = absurd (omega (arith, l, div-mul-le_self (0 + h) P, ap (λ m. m * P) e))

-- ---- runs
module _ (n : ℕ) (σ : List Step) (D : Starts) (c : Clocks n σ) (g : Places n D) (w : Weak (demands n σ D)) where
  abbrev K : ℕ
  K = length σ

  -- A run in P parts, its times rounded, with the start at a whole tick.
  module _ (P : ℕ) (p : 0 < P) (t s : ℕ → ℕ) (r : Run P σ t s) (a : Allowed P D n s) (h : ℕ) (l : h < P) where
    S : ℕ
    S = top (suc n) s

    x : ℕ → ℕ
    x = row_at (S * P) K t s

    pub whole_moments : ℕ → ℕ
    whole_moments i = rounded P h (t i)

    pub whole_starts : ℕ → ℕ
    whole_starts j = S - rounded P h (S * P - s j)

    late : (j : ℕ) → 0 < j → j ≤ n → s j ≤ S * P
    unfolding S
    late j q b = omega (arith, top_ge (suc n) s j (omega arith), mul-le-mul_left (top (suc n) s) p)

    now : (i : ℕ) → i ≤ K → rounded P h (x i) ≡ S + whole_moments i
    unfolding x whole_moments
    now i b =
        let e : row_at (S * P) K t s i ≡ t i + S * P = omega (arith, row_now (S * P) K t s i b) in
        ap (rounded P h) e ∙ round_ticks P h (t i) S p ∙ omega arith

    first : whole_moments 0 ≡ 0
    unfolding whole_moments
    first = ap (rounded P h) r.start ∙ round_zero P h l

    past : (j : ℕ) → 0 < j → rounded P h (x (K + j)) + whole_starts j ≡ S
    unfolding x whole_starts
    past j q = rw (row_past (S * P) K t s j q) (omega (arith, before))
      where
        before : rounded P h (S * P - s j) ≤ S
        before =
            omega (
              arith,
              round_mono P h (S * P - s j) (0 + S * P) p (omega arith),
              round_ticks P h 0 S p,
              round_zero P h l,
            )

    row : Row K n whole_moments whole_starts (λ v. rounded P h (x v))
    row = record {
      now = λ i b. omega (arith, now i b, now 0 (omega arith), first);
      past = λ j q b. omega (arith, past j q, now 0 (omega arith), first);
    }

    -- It is a run in whole ticks.
    pub whole_run : Run 1 σ whole_moments whole_starts × Allowed 1 D n whole_starts
    whole_run =
        (run_satisfies 1 n σ D whole_moments whole_starts (λ v. rounded P h (x v)) c g row).1
        (round_satisfies P h (demands n σ D) x p w solved)
      where
        solved : Satisfies P x (demands n σ D)
        solved = unfold x in run_row P (S * P) n σ D t s c g late r a

    pub moments_are : (i : ℕ) → whole_moments i ≡ rounded P h (t i)
    unfolding whole_moments
    moments_are i = refl

    -- Where times are rounded up, no start gets longer.
    pub starts_shorter : suc h ≡ P → (j : ℕ) → whole_starts j * P ≤ s j
    unfolding whole_starts
    starts_shorter e j =
        difference S (rounded P h (S * P - s j)) (omega (arith, lt-div-mul-add {a = S * P - s j + h} p))
      where
        difference : (A q : ℕ) → A * P ≤ q * P + s j → (A - q) * P ≤ s j
        difference A q b = go (dec_le q A)
          where
            go : Dec (q ≤ A) → (A - q) * P ≤ s j
            go (yes m) = let f : A ≡ q + (A - q) = omega arith in omega (arith, ap (λ k. k * P) f)
            go (no m) = let f : A - q ≡ 0 = omega arith in rw f (omega arith)

  -- A run exists in whole ticks if one exists.
  pub whole_exists : Exists n D σ → (t s : ℕ → ℕ) × (Run 1 σ t s × Allowed 1 D n s)
  whole_exists r = (
    whole_moments r.parts r.positive r.moments r.starts r.run r.allowed 0 r.positive,
    whole_starts r.parts r.positive r.moments r.starts r.run r.allowed 0 r.positive,
    whole_run r.parts r.positive r.moments r.starts r.run r.allowed 0 r.positive,
  )
