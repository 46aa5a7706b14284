-- Between which moments the demands of a pass are: none of the partners and of those forth raises the end of one before it.
use Rattle.std.specs.Prelude.{◌≡◌, refl, ◌⊎◌, true, false, cond, ℕ, zero, suc, ◌+◌, ◌-◌, ◌%◌, ◌≤◌, ◌<◌, eqb, get_or}
use Rattle.std.proofs.Common.{ap, inl, inr, ⊎_elim, arith}
use mathlib.Core.List.Memᴰ
use mathlib.Core.List.{List, [], ◌∷◌, ◌++◌, map, Memᴰ}
use Rattle.std.proofs.Math.Decide.{ℕ_discrete, dec_le}
use Rattle.std.proofs.Math.Dec.{eqb-suc-zero}
use Rattle.runs.specs.declared.Demand.{Demand}
use Rattle.runs.specs.Demand.{plus, Starts, moment, moved, start_demands, any_starts}
use Rattle.runs.specs.Start.{Upper}
use Rattle.runs.specs.Tools.{Every, every_nil, every_append, every_map}
use Rattle.sides.specs.Sides.{Side, none}
use Rattle.sides.specs.Tight.{key_demand, key_demands, key_demands_some, key_demands_listed}
use Rattle.last_resets.specs.Distance.{last_of, reached, reached_yes, reached_no}
use Rattle.sweeps.specs.Order.{cell, side_of, forth_at, forth_of, partners_from}

-- a moment up to i, or the last reset of a clock before the start
abbrev pub Earlier : ℕ → ℕ → ℕ → Type 0
Earlier K i m = (m ≤ i) ⊎ (K < m)

-- the ends of a demand of a side at step i: one is the step's own moment, and the other an earlier one
abbrev pub EndsAt : Side → ℕ → ℕ → Demand → Type 0
EndsAt true K i d = (d.to ≡ suc i) × Earlier K i d.from
EndsAt false K i d = (d.from ≡ suc i) × Earlier K i d.to

key_ends : (b : Side) (key z K i : ℕ) → Earlier K i z → (d : Demand) → Memᴰ d (key_demands b key z (suc i)) → EndsAt b K i d
unfolding key_demand
key_ends true key z K i e d m = rw (key_demands_listed true key z (suc i) d m).1 (refl, e)
key_ends false key z K i e d m = rw (key_demands_listed false key z (suc i) d m).1 (refl, e)

-- the last reset of a clock is none, or one of the moments past
pub last_in : (d K i j : ℕ) → (last_of d K i j ≡ K + j) ⊎ (last_of d K i j ≤ i)
unfolding last_of
last_in zero K i j = rw (reached_yes 0 i (omega arith)) (inl refl)
last_in (suc d) K i j = go (dec_le (suc d) i)
  where
    go : Dec (suc d ≤ i)
        → (cond (eqb (reached (suc d) i) 0) (K + j) (i + 1 - reached (suc d) i) ≡ K + j)
        ⊎ (cond (eqb (reached (suc d) i) 0) (K + j) (i + 1 - reached (suc d) i) ≤ i)
    go (yes l) = rw (reached_yes (suc d) i l, eqb-suc-zero d) (inr (omega arith))
    go (no l) = rw (reached_no (suc d) i (omega arith)) (inl refl)

-- one of these, if its distance is not too long
pub last_past : (d K i j : ℕ) → 0 < d → d ≤ i → last_of d K i j ≤ i
unfolding last_of
last_past zero K i j p l = absurd (omega arith)
last_past (suc d) K i j p l = rw (reached_yes (suc d) i l, eqb-suc-zero d) (omega arith)

reset_earlier : (d K i j : ℕ) → 0 < j → Earlier K i (last_of d K i j)
reset_earlier d K i j p = ⊎_elim (λ e. inr (omega (arith, e))) (λ h. inl h) (last_in d K i j)

-- a demand of a side is that of a clock
pub record OfClock (b : Side) (keys far : List ℕ) (K s i j m : ℕ) (d : Demand) : Type 0 where
  pub clock : ℕ
  pub first : j ≤ clock
  pub last : clock < j + m
  pub key : get_or keys (cell s clock) 0 < none
  pub is : d ≡ key_demand b (get_or keys (cell s clock) 0) (last_of (get_or far (cell s clock) 0) K i clock) (suc i)

pub side_clock : (b : Side) (keys far : List ℕ) (K s i j m : ℕ) (d : Demand) → Memᴰ d (side_of b keys far K s i j m) → OfClock b keys far K s i j m d
unfolding side_of
side_clock b keys far K s i j zero d k = absurd (Memᴰ.not-nil k)
side_clock b keys far K s i j (suc m) d k =
    ⊎_elim
    (λ h. let e = key_demands_listed b (get_or keys (cell s j) 0) (last_of (get_or far (cell s j) 0) K i j) (suc i) d h in
    record { clock = j; first = omega arith; last = omega arith; key = e.0; is = e.1 })
    (λ h. let r = side_clock b keys far K s i (suc j) m d h in
    record { clock = r.clock; first = omega (arith, r.first); last = omega (arith, r.last); key = r.key; is = r.is })
    (Memᴰ.append_cases (key_demands b (get_or keys (cell s j) 0) (last_of (get_or far (cell s j) 0) K i j) (suc i)) k)

-- and every clock with a key has its demand
pub clock_side : (b : Side) (keys far : List ℕ) (K s i j m c : ℕ) → j ≤ c → c < j + m → get_or keys (cell s c) 0 < none
    → Memᴰ (key_demand b (get_or keys (cell s c) 0) (last_of (get_or far (cell s c) 0) K i c) (suc i)) (side_of b keys far K s i j m)
unfolding side_of
clock_side b keys far K s i j zero c a l k = absurd (omega arith)
clock_side b keys far K s i j (suc m) c a l k = go (clock_side b keys far K s i (suc j) m c) (ℕ_discrete c j)
  where
    go : (suc j ≤ c → c < suc j + m → get_or keys (cell s c) 0 < none
        → Memᴰ (key_demand b (get_or keys (cell s c) 0) (last_of (get_or far (cell s c) 0) K i c) (suc i)) (side_of b keys far K s i (suc j) m))
        → Dec (c ≡ j)
        → Memᴰ (key_demand b (get_or keys (cell s c) 0) (last_of (get_or far (cell s c) 0) K i c) (suc i))
        (key_demands b (get_or keys (cell s j) 0) (last_of (get_or far (cell s j) 0) K i j) (suc i) ++ side_of b keys far K s i (suc j) m)
    go h (yes e) =
        let x : Memᴰ (key_demand b (get_or keys (cell s j) 0) (last_of (get_or far (cell s j) 0) K i j) (suc i))
        (key_demands b (get_or keys (cell s j) 0) (last_of (get_or far (cell s j) 0) K i j) (suc i)) =
        rw (key_demands_some b (get_or keys (cell s j) 0) (last_of (get_or far (cell s j) 0) K i j) (suc i) (rw e at k)) (Memᴰ.head refl) in
        rw e (Memᴰ.append_left (side_of b keys far K s i (suc j) m) x)
    go h (no e) = Memᴰ.append_right (key_demands b (get_or keys (cell s j) 0) (last_of (get_or far (cell s j) 0) K i j) (suc i)) (h (omega arith) (omega arith) k)

pub side_ends : (b : Side) (keys far : List ℕ) (K s i j m : ℕ) → 0 < j → (d : Demand)
    → Memᴰ d (side_of b keys far K s i j m) → EndsAt b K i d
unfolding side_of
side_ends b keys far K s i j zero p d k = absurd (Memᴰ.not-nil k)
side_ends b keys far K s i j (suc m) p d k =
    ⊎_elim (key_ends b (get_or keys (cell s j) 0) _ K i (reset_earlier (get_or far (cell s j) 0) K i j p) d)
    (side_ends b keys far K s i (suc j) m (omega arith) d)
    (Memᴰ.append_cases
    (key_demands b (get_or keys (cell s j) 0) (last_of (get_or far (cell s j) 0) K i j) (suc i)) k)

-- ---- forth
pub forth_at_ends : (low far : List ℕ) (L n K i : ℕ) (d : Demand) → Memᴰ d (forth_at low far L n K i) → EndsAt false K i d
forth_at_ends low far L n K i d m =
    ⊎_elim first (side_ends false low far K (i % L) i 1 n (omega arith) d)
    (Memᴰ.append_cases (plus (suc i) i 0 false ∷ []) m)
  where
    first : Memᴰ d (plus (suc i) i 0 false ∷ []) → EndsAt false K i d
    first k = go (Memᴰ.cases_cons k)
      where
        go : (d ≡ plus (suc i) i 0 false) ⊎ Memᴰ d [] → EndsAt false K i d
        go (inl e) = rw e (refl, inl (omega arith))
        go (inr n) = absurd (Memᴰ.not-nil n)

-- from step i on they raise later moments
pub forth_raises : (low far : List ℕ) (L n K i m : ℕ) (d : Demand) → Memᴰ d (forth_of low far L n K i m)
    → (i < d.from) × (d.from ≤ i + m)
unfolding forth_of
forth_raises low far L n K i zero d k = absurd (Memᴰ.not-nil k)
forth_raises low far L n K i (suc m) d k =
    ⊎_elim (λ l. let e = forth_at_ends low far L n K i d l in (omega (arith, e.0), omega (arith, e.0)))
    (λ l. let e = forth_raises low far L n K (suc i) m d l in (omega (arith, e.0), omega (arith, e.1)))
    (Memᴰ.append_cases (forth_at low far L n K i) k)

-- ---- partners
-- from the last reset of a clock before the start, to the start
abbrev pub ToStart : ℕ → Demand → Type 0
ToStart K d = (K < d.from) × (d.to ≡ 0)

moved_ends : (K : ℕ) (d : Demand) → d.to ≡ 0 → 0 < d.from → ToStart K (moved K d)
moved_ends K d e p = (go d.from p, ap (moment K) e)
  where
    go : (a : ℕ) → 0 < a → K < moment K a
    go zero h = absurd (omega arith)
    go (suc a) h = omega arith

pub partners_ends : (K n : ℕ) (D : Starts) → Upper n D → (j m : ℕ) → 0 < j → j + m ≤ suc n → Every (ToStart K) (partners_from K D j m)
unfolding partners_from
partners_ends K n D u j zero p b = every_nil (ToStart K)
partners_ends K n D u j (suc m) p b =
    (every_append (ToStart K) (map (moved K) (D j)) _).1 (
      (every_map (ToStart K) (moved K) (D j)).1
          (λ d k. moved_ends K d (u.ends j p (omega arith) d k) (u.begins j p (omega arith) d k)),
      partners_ends K n D u (suc j) m (omega arith) (omega arith),
    )

-- ---- starts
-- They say that a clock was not last reset after the start.
pub start_listed : (K j n : ℕ) (d : Demand) → Memᴰ d (start_demands K any_starts j n) → (c : ℕ) × (j ≤ c) × (d ≡ plus 0 (K + c) 0 false)
unfolding start_demands any_starts
start_listed K j zero d k = absurd (Memᴰ.not-nil k)
start_listed K j (suc n) d k = go (start_listed K (suc j) n d) (Memᴰ.cases_cons k)
  where
    go : (Memᴰ d (start_demands K any_starts (suc j) n) → (c : ℕ) × (suc j ≤ c) × (d ≡ plus 0 (K + c) 0 false))
        → (d ≡ plus 0 (K + j) 0 false) ⊎ Memᴰ d (start_demands K any_starts (suc j) n)
        → (c : ℕ) × (j ≤ c) × (d ≡ plus 0 (K + c) 0 false)
    go h (inl e) = (j, omega arith, e)
    go h (inr l) = let r = h l in (r.0, omega (arith, r.1), r.2)
