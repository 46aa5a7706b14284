-- The last resets in rounds without end: how many steps ago, and at which moments.
use Rattle.std.specs.Prelude.{◌≡◌, refl, ◌⊎◌, Bool, true, false, cond, ℕ, zero, suc, ◌+◌, ◌-◌, ◌%◌, ◌≤◌, ◌<◌, eqb}
use Rattle.std.proofs.Common.{ap, sym, ◌∙◌, inl, inr, add-one, arith, ne_eqb}
use Rattle.std.proofs.Math.Dec.{eqb-suc-zero}
use Rattle.table.specs.Step.{Step, step_at, resets}
use Rattle.table.specs.declared.Table.{Table}
use Rattle.runs.specs.Run.{zeroed}

-- the step after i steps of the rounds
abbrev pub step_of : Table → ℕ → Step
step_of t i = step_at t (i % t.steps)

-- n steps since the last reset (0: there was none), and then one step more, which is a reset or not
abbrev pub one_more : Bool → ℕ → ℕ
one_more reset n = cond reset 1 (cond (eqb n 0) 0 (suc n))

-- Steps since the last reset of clock j, when i steps are past: 1 if the last of them reset it; 0 if none did.
unfoldable pub since : Table → ℕ → ℕ → ℕ
since t zero j = 0
since t (suc i) j = one_more (resets (step_of t i) j) (since t i j)

-- The last resets when i of K steps are past: their moments.
unfoldable pub last_resets : Table → ℕ → ℕ → ℕ → ℕ
last_resets t K zero j = K + j
last_resets t K (suc i) j = zeroed (step_of t i) (suc i) (last_resets t K i) j

pub since_zero : (t : Table) (j : ℕ) → since t 0 j ≡ 0
unfolding since
since_zero t j = refl

pub since_suc : (t : Table) (i j : ℕ) → since t (suc i) j ≡ one_more (resets (step_of t i) j) (since t i j)
unfolding since
since_suc t i j = refl

-- ---- one step more
pub more_some : (n : ℕ) → one_more false (suc n) ≡ suc (suc n)
more_some n = ap (λ b. cond b 0 (suc (suc n))) (eqb-suc-zero n)

pub more_at_reset : (b : Bool) (n : ℕ) → b ≡ true → one_more b n ≡ 1
more_at_reset b n e = rw e

pub more_at_none : (b : Bool) (n : ℕ) → b ≡ false → n ≡ 0 → one_more b n ≡ 0
more_at_none b n e f = rw (e, f)

pub more_at_some : (b : Bool) (n : ℕ) → b ≡ false → (n ≡ 0 → ⊥) → one_more b n ≡ n + 1
more_at_some b n e f = rw e (ap (λ b. cond b 0 (suc n)) (ne_eqb n 0 f) ∙ sym (add-one n))

pub more_few : (b : Bool) (n m : ℕ) → n ≤ m → one_more b n ≤ suc m
more_few true n m l = omega arith
more_few false zero m l = omega arith
more_few false (suc n) m l = rw (more_some n) (omega arith)

-- ---- moments
-- the moment of the last reset, n steps since when i of K steps are past
unfoldable moment_of : ℕ → ℕ → ℕ → ℕ → ℕ
moment_of K j i n = cond (eqb n 0) (K + j) (i + 1 - n)

moment_none : (K j i : ℕ) → moment_of K j i 0 ≡ K + j
unfolding moment_of
moment_none K j i = refl

moment_some : (K j i n : ℕ) → moment_of K j i (suc n) ≡ i - n
unfolding moment_of
moment_some K j i n = ap (λ b. cond b (K + j) (i + 1 - suc n)) (eqb-suc-zero n) ∙ omega arith

moment_more : (K j i : ℕ) (b : Bool) (n : ℕ) → cond b (suc i) (moment_of K j i n) ≡ moment_of K j (suc i) (one_more b n)
moment_more K j i true n = sym (moment_some K j (suc i) 0 ∙ omega arith)
moment_more K j i false zero = moment_none K j i ∙ sym (moment_none K j (suc i))
moment_more K j i false (suc n) =
    moment_some K j i n
    ∙ sym (ap (moment_of K j (suc i)) (more_some n) ∙ moment_some K j (suc i) (suc n) ∙ omega arith)

last_moment_lem : (t : Table) (K i j : ℕ) → last_resets t K i j ≡ moment_of K j i (since t i j)
unfolding last_resets since zeroed
last_moment_lem t K zero j = sym (moment_none K j 0)
last_moment_lem t K (suc i) j =
    ap (cond (resets (step_of t i) j) (suc i)) (last_moment_lem t K i j)
    ∙ moment_more K j i (resets (step_of t i) j) (since t i j)

pub last_since : (t : Table) (K i j : ℕ) → last_resets t K i j ≡ cond (eqb (since t i j) 0) (K + j) (i + 1 - since t i j)
unfolding moment_of
last_since t K i j = last_moment_lem t K i j

pub since_few : (t : Table) (i j : ℕ) → since t i j ≤ i
unfolding since
since_few t zero j = omega arith
since_few t (suc i) j = more_few (resets (step_of t i) j) (since t i j) i (since_few t i j)

abbrev In : ℕ → ℕ → ℕ → ℕ → Type 0
In K j i m = (m ≡ K + j) ⊎ ((0 < m) × (m ≤ i))

moment_range : (K j i n : ℕ) → n ≤ i → In K j i (moment_of K j i n)
moment_range K j i zero l = inl (moment_none K j i)
moment_range K j i (suc n) l = rw (moment_some K j i n) (inr (omega arith, omega arith))

-- none, or one of the moments past
pub last_range : (t : Table) (K i j : ℕ)
    → (last_resets t K i j ≡ K + j) ⊎ ((0 < last_resets t K i j) × (last_resets t K i j ≤ i))
last_range t K i j = rw (last_moment_lem t K i j) (moment_range K j i (since t i j) (since_few t i j))
