-- Demands and their sums in parts: a strict demand costs one part more.
use Rattle.std.specs.Prelude.{◌≡◌, refl, ◌↔◌, Bool, true, false, ℕ, ◌+◌, ◌*◌, ◌≤◌, ◌<◌, length}
use Rattle.std.proofs.Common.{ap, sym, ◌∙◌, inl, inr, arith, mul-le-mul_right}
use mathlib.Core.List.{List, [], ◌∷◌, Memᴰ}
use Rattle.std.proofs.Math.Decide.{dec_lt, ℕ_discrete}
use Rattle.runs.specs.declared.Demand.{Demand}
use Rattle.runs.specs.Demand.{Within, Holds}
use Rattle.runs.specs.Loop.{AsTight, total, Negative}

-- 1 for a strict demand
abbrev pub bit : Bool → ℕ
bit true = 1
bit false = 0

-- In P parts to a tick a demand says that time(to) + gain is at most time(from) + loss.
abbrev pub gain : ℕ → Demand → ℕ
gain P d = d.down * P + bit d.strict

abbrev pub loss : ℕ → Demand → ℕ
loss P d = d.up * P

within_parts : (b : Bool) (a c : ℕ) → Within b a c ↔ (a + bit b ≤ c)
within_parts true a c = ((λ h. omega arith), λ h. omega arith)
within_parts false a c = ((λ h. omega arith), λ h. omega arith)

-- a demand in parts
pub holds_parts : (P : ℕ) (x : ℕ → ℕ) (d : Demand) → Holds P x d ↔ (x d.to + gain P d ≤ x d.from + loss P d)
holds_parts P x d = (
  (λ h. omega (arith, iff.0 h.holds)),
  λ h. record { holds = iff.1 (omega arith) },
)
  where
    iff : Within d.strict (x d.to + d.down * P) (x d.from + d.up * P)
        ↔ (x d.to + d.down * P + bit d.strict ≤ x d.from + d.up * P)
    iff = within_parts d.strict (x d.to + d.down * P) (x d.from + d.up * P)

-- ---- sums
-- the number of strict demands
abbrev pub stricts : List Demand → ℕ
stricts es = total (λ e. bit e.strict) es

total_scale : (P : ℕ) (f : Demand → ℕ) (es : List Demand) → total (λ e. f e * P) es ≡ total f es * P
total_scale P f [] = omega arith
total_scale P f (e ∷ es) = omega (arith, total_scale P f es)

total_plus : (f g : Demand → ℕ) (es : List Demand) → total (λ e. f e + g e) es ≡ total f es + total g es
total_plus f g [] = refl
total_plus f g (e ∷ es) = omega (arith, total_plus f g es)

gains : (P : ℕ) (es : List Demand) → total (gain P) es ≡ total (λ e. e.down) es * P + stricts es
gains P es =
    total_plus (λ e. e.down * P) (λ e. bit e.strict) es
    ∙ ap (λ n. n + stricts es) (total_scale P (λ e. e.down) es)

losses : (P : ℕ) (es : List Demand) → total (loss P) es ≡ total (λ e. e.up) es * P
losses P es = total_scale P (λ e. e.up) es

bit_true : (b : Bool) → b ≡ true → bit b ≡ 1
bit_true b e = rw e

strict_some : {e : Demand} {es : List Demand} → Memᴰ e es → e.strict ≡ true → 0 < stricts es
strict_some (Memᴰ.head {x = d} p) h = omega (arith, bit_true d.strict (ap (λ c. c.strict) (sym p) ∙ h))
strict_some (Memᴰ.tail m) h = omega (arith, strict_some m h)

some_strict : (es : List Demand) → 0 < stricts es → (e : Demand) × Memᴰ e es × (e.strict ≡ true)
some_strict [] h = absurd (omega arith)
some_strict (e ∷ es) h = go (some_strict es) e.strict refl
  where
    go : (0 < stricts es → (d : Demand) × Memᴰ d es × (d.strict ≡ true)) → (b : Bool) → e.strict ≡ b
        → (d : Demand) × Memᴰ d (e ∷ es) × (d.strict ≡ true)
    go k true p = (e, Memᴰ.head refl, p)
    go k false p =
        let zero_bit : bit e.strict ≡ 0 = rw p in
        let d = k (omega arith) in
        (d.0, Memᴰ.tail d.1, d.2)

pub bit_small : (b : Bool) → bit b ≤ 1
bit_small true = omega arith
bit_small false = omega arith

pub stricts_few : (es : List Demand) → stricts es ≤ length es
stricts_few [] = omega arith
stricts_few (e ∷ es) = omega (arith, stricts_few es, bit_small e.strict)

-- A negative sum in ticks is negative in any parts.
pub negative_parts : (P : ℕ) (es : List Demand) → 0 < P → Negative es → total (loss P) es < total (gain P) es
negative_parts P es p (inl h) = omega (arith, gains P es, losses P es, mul-le-mul_right P h)
negative_parts P es p (inr h) =
    omega (arith, gains P es, losses P es, ap (λ n. n * P) h.0, strict_some h.1.1 h.1.2)

-- A negative sum with at most P strict demands in P parts is negative in ticks.
pub parts_negative : (P : ℕ) (es : List Demand) → stricts es ≤ P → total (loss P) es < total (gain P) es → Negative es
parts_negative P es l h = less (dec_lt up down)
  where
    up : ℕ
    up = total (λ e. e.up) es

    down : ℕ
    down = total (λ e. e.down) es

    sums : up * P < down * P + stricts es
    sums = omega (arith, gains P es, losses P es)

    same : ¬ (up < down) → Dec (up ≡ down) → Negative es
    same n (yes e) = inr (e, some_strict es (omega (arith, sums, ap (λ n. n * P) e)))
    same n (no e) = absurd (omega (arith, sums, l, mul-le-mul_right P over))
      where
        over : down < up
        over = omega arith

    less : Dec (up < down) → Negative es
    less (yes k) = inl k
    less (no k) = same k (ℕ_discrete up down)

-- A tighter demand gains no less, its loss taken off.
pub tight_parts : (P : ℕ) (e d : Demand) → 0 < P → AsTight e d → gain P d + loss P e ≤ gain P e + loss P d
tight_parts P e d p (inl h) = omega (arith, mul-le-mul_right P h, bit_small d.strict)
tight_parts P e d p (inr h) = omega (arith, ap (λ n. n * P) h.0, bits d.strict e.strict h.1)
  where
    bits : (b c : Bool) → (b ≡ true → c ≡ true) → bit b ≤ bit c
    bits true c f = omega (arith, bit_true c (f refl))
    bits false c f = omega arith
