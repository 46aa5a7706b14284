-- A run with more steps at its end, and a shift with one more accepted scan.
use Rattle.std.specs.Prelude.{◌≡◌, List, [], ◌∷◌, ◌++◌, ℕ, zero, suc, ◌+◌, ◌*◌, ◌%◌, ◌≤◌, ◌<◌, length, get_or, take}
use Rattle.std.proofs.Math.Path.{refl}
use Rattle.std.proofs.Common.{ap, ap₂, subst, subst₂, sym, ◌∙◌, arith, mul-le-mul_left, length-append, length-take-le, take-suc, take_at}
use Rattle.std.proofs.Math.ListN.{get_or-append}
use Rattle.std.proofs.lemmas.List.{take-append-le}
use Rattle.std.proofs.Math.Seq.{get_or-append_seam}
use Rattle.table.specs.Step.{Step, up_of, down_of}
use Rattle.table.specs.declared.Guard.{Guard}
use Rattle.runs.specs.Run.{copies, Compares, reading, second_reading, Passes, zeroed, Goes, done, next, Run}
use Rattle.runs.specs.Readings.{zeroed_cases}
use Rattle.runs.specs.Copies.{copies_split, length_copies, copies_at}
use Rattle.runs.specs.Tools.{Every}
use Rattle.scans.specs.Scan.{due}
use Rattle.shifts.specs.Shift.{last_time}
use Rattle.shifts.specs.Sound.{steps_to, moments_of, no_reading, zeroed_by, HoldsAt}

-- ---- the moments of the last resets

-- after two lists of steps, one after the other
zeroed_by_append : (σ τ : List Step) (i : ℕ) (z : ℕ → ℕ)
    → zeroed_by (σ ++ τ) i z ≡ zeroed_by τ (i + length σ) (zeroed_by σ i z)
unfolding zeroed_by
zeroed_by_append [] τ i z = let e : i ≡ i + 0 = omega arith in ap (λ k. zeroed_by τ k z) e
zeroed_by_append (s ∷ σ) τ i z =
    let e : suc i + length σ ≡ i + suc (length σ) = omega arith in
    zeroed_by_append σ τ (suc i) (zeroed s (suc i) z)
    ∙ ap (λ k. zeroed_by τ k (zeroed_by σ (suc i) (zeroed s (suc i) z))) e

-- none is after the step that has just taken place,
zeroed_early : (s : Step) (i : ℕ) (z : ℕ → ℕ) → ((j : ℕ) → z j ≤ i) → (j : ℕ) → zeroed s (suc i) z j ≤ suc i
zeroed_early s i z h j =
    zeroed_cases (λ a b. a ≤ suc i) s (suc i) z z j (λ e. omega arith) (λ e. omega (arith, h j))

-- nor after the last of several
zeroed_by_early : (σ : List Step) (i : ℕ) (z : ℕ → ℕ) → ((j : ℕ) → z j ≤ i) → (j : ℕ) → zeroed_by σ i z j ≤ i + length σ
unfolding zeroed_by
zeroed_by_early [] i z h j = omega (arith, h j)
zeroed_by_early (s ∷ σ) i z h j = omega (arith, zeroed_by_early σ (suc i) (zeroed s (suc i) z) (zeroed_early s i z h) j)

-- ---- steps that go on

-- a reading depends on two times
reading_same : (t u : ℕ → ℕ) (s r i : ℕ) → t r ≡ u r → t i ≡ u i → reading t s r i ≡ reading u s r i
reading_same t u s zero i a b = omega arith
reading_same t u s (suc r) i a b = omega arith

-- so a guard that holds of some times holds of others that are the same at its moments
passes_same : (P : ℕ) (t u s z : ℕ → ℕ) (i : ℕ) → ((j : ℕ) → t (z j) ≡ u (z j)) → t i ≡ u i → (g : Guard)
    → Passes P t s z i g → Passes P u s z i g
passes_same P t u s z i h e g =
    subst₂ (λ a b. Compares g.relation (a + up_of g * P) (b + down_of g * P)) (second g.second)
    (reading_same t u (s g.clock) (z g.clock) i (h g.clock) e)
  where
    second : (j : ℕ) → second_reading t s z i j ≡ second_reading u s z i j
    second zero = unfold second_reading in refl
    second (suc j) = unfold second_reading in reading_same t u (s (suc j)) (z (suc j)) i (h (suc j)) e

-- No time after the last step matters.
goes_same : (P : ℕ) (t u s : ℕ → ℕ) {σ : List Step} {i : ℕ} {z : ℕ → ℕ} → ((j : ℕ) → z j ≤ i)
    → ((k : ℕ) → k ≤ i + length σ → t k ≡ u k) → Goes P t s σ i z → Goes P u s σ i z
goes_same P t u s h e done = done
goes_same P t u s h e (next {step = c} {i = i} {z = z} l g r) =
    next
    later
    (λ q m. passes_same P t u s z (suc i) (λ j. e (z j) (omega (arith, h j))) new q (g q m))
    (goes_same P t u s (zeroed_early c i z h) (λ k b. e k (omega arith)) r)
  where
    new : t (suc i) ≡ u (suc i)
    new = e (suc i) (omega arith)

    later : u i ≤ u (suc i)
    later = omega (arith, e i (omega arith), new)

-- Steps that go on after others are more steps at their end.
goes_append : (P : ℕ) (t s : ℕ → ℕ) (σ τ : List Step) {i : ℕ} {z : ℕ → ℕ} → Goes P t s σ i z
    → Goes P t s τ (i + length σ) (zeroed_by σ i z) → Goes P t s (σ ++ τ) i z
unfolding zeroed_by
goes_append P t s [] τ {i} {z} done k = let e : i + 0 ≡ i = omega arith in subst (λ n. Goes P t s τ n z) e k
goes_append P t s (c ∷ σ) τ {i} {z} (next l g r) k =
    let e : i + suc (length σ) ≡ suc i + length σ = omega arith in
    next l g (goes_append P t s σ τ r (subst (λ n. Goes P t s τ n (zeroed_by σ (suc i) (zeroed c (suc i) z))) e k))

-- ---- the first steps of a table that is repeated
module _ (σ : List Step) (some : 0 < length σ) where
  -- m rounds have as many steps
  enough : (m : ℕ) → m ≤ length (copies σ m)
  enough m = omega (arith, length_copies σ m, mul-le-mul_left m some)

  -- there are m of them
  length_steps_to : (m : ℕ) → length (steps_to σ m) ≡ m
  length_steps_to m = length-take-le m (copies σ m) (enough m)

  -- one step more: the one that is due
  steps_to_suc : (m : ℕ) → steps_to σ (suc m) ≡ steps_to σ m ++ (due σ (m % length σ + 1) ∷ [])
  steps_to_suc m =
      take-suc (copies σ (suc m)) m d (omega (arith, enough (suc m)))
      ∙ ap₂ (λ τ c. τ ++ (c ∷ []))
      (ap (take m) (copies_split σ m (suc m) (omega arith)) ∙ take-append-le m (copies σ m) _ (enough m))
      (copies_at σ (suc m) m d (omega (arith, enough (suc m), length_copies σ (suc m))) ∙ ap (λ i. get_or σ i d) (omega arith))
    where
      d : Step
      d = record { guards = []; flags = [] }

  -- the steps of whole rounds are these rounds
  pub steps_rounds : (k : ℕ) → steps_to σ (k * length σ) ≡ copies σ k
  steps_rounds k =
      ap (take (k * length σ)) (copies_split σ k (k * length σ) (omega (arith, mul-le-mul_left k some)))
      ∙ take_at (copies σ k) _ (k * length σ) (length_copies σ k)

-- ---- the times of the moments

-- of those before one more accepted scan
pub moments_before : (times : List ℕ) (t k : ℕ) → k ≤ length times → moments_of (times ++ (t ∷ [])) k ≡ moments_of times k
moments_before times t zero h = refl
moments_before times t (suc k) h = get_or-append times (t ∷ []) 0 k h

-- and of its own
pub moments_new : (times : List ℕ) (t : ℕ) → moments_of (times ++ (t ∷ [])) (suc (length times)) ≡ t
moments_new times t = get_or-append_seam times t [] 0

-- it is the last one then
pub last_new : (times : List ℕ) (t : ℕ) → last_time (times ++ (t ∷ [])) ≡ t
unfolding last_time
last_new [] t = refl
last_new (a ∷ []) t = refl
last_new (a ∷ b ∷ times) t = last_new (b ∷ times) t

-- the last moment is that of the last accepted scan
last_moment_lem : (times : List ℕ) → moments_of times (length times) ≡ last_time times
unfolding last_time
last_moment_lem [] = refl
last_moment_lem (a ∷ []) = refl
last_moment_lem (a ∷ b ∷ times) = last_moment_lem (b ∷ times)

-- ---- one more accepted scan

-- the moment of each clock's last reset, after scans accepted at some times
abbrev pub last_reset : List Step → List ℕ → ℕ → ℕ
last_reset σ times = zeroed_by (steps_to σ (length times)) 0 (λ j. 0)

module _ (σ : List Step) (some : 0 < length σ) (times : List ℕ) where
  -- none is after the last scan
  pub reset_early : (j : ℕ) → last_reset σ times j ≤ length times
  reset_early j =
      omega (arith, zeroed_by_early (steps_to σ (length times)) 0 (λ j. 0) (λ j. omega arith) j, length_steps_to σ some (length times))

  -- A scan at time t, of step i, which is the one that is due.
  module _ (t i : ℕ) (turn : i ≡ length times % length σ + 1) where
    -- the steps with it
    steps_new : steps_to σ (length (times ++ (t ∷ []))) ≡ steps_to σ (length times) ++ (due σ i ∷ [])
    steps_new =
        let e : length (times ++ (t ∷ [])) ≡ suc (length times) = omega (arith, length-append times (t ∷ [])) in
        ap (steps_to σ) e ∙ steps_to_suc σ some (length times) ∙ ap (λ k. steps_to σ (length times) ++ (due σ k ∷ [])) (sym turn)

    -- the last resets after it
    pub reset_new : last_reset σ (times ++ (t ∷ [])) ≡ zeroed (due σ i) (suc (length times)) (last_reset σ times)
    reset_new =
        let e : 0 + length (steps_to σ (length times)) ≡ length times = omega (arith, length_steps_to σ some (length times)) in
        ap (λ τ. zeroed_by τ 0 (λ j. 0)) steps_new
        ∙ zeroed_by_append (steps_to σ (length times)) (due σ i ∷ []) 0 (λ j. 0)
        ∙ ap (λ k. zeroed_by (due σ i ∷ []) k (last_reset σ times)) e
        ∙ unfold zeroed_by in refl

    -- the run with it
    pub run_new : last_time times ≤ t → Every (HoldsAt σ times t) (due σ i).guards
        → Run 1 (steps_to σ (length times)) (moments_of times) no_reading
        → Run 1 (steps_to σ (length (times ++ (t ∷ [])))) (moments_of (times ++ (t ∷ []))) no_reading
    run_new l h r = record { start = refl; goes = rw steps_new goes }
      where
        u : ℕ → ℕ
        u = moments_of (times ++ (t ∷ []))

        m : ℕ
        m = length times

        size : 0 + length (steps_to σ m) ≡ m
        size = omega (arith, length_steps_to σ some m)

        before : Goes 1 u no_reading (steps_to σ m) 0 (λ j. 0)
        before =
            goes_same 1 (moments_of times) u no_reading (λ j. omega arith)
            (λ k b. sym (moments_before times t k (omega (arith, size)))) r.goes

        onward : Goes 1 u no_reading (due σ i ∷ []) m (last_reset σ times)
        onward = next later h done
          where
            later : u m ≤ u (suc m)
            later = omega (arith, moments_before times t m (omega arith), last_moment_lem times, moments_new times t)

        goes : Goes 1 u no_reading (steps_to σ m ++ (due σ i ∷ [])) 0 (λ j. 0)
        goes =
            goes_append 1 u no_reading (steps_to σ m) (due σ i ∷ []) before
            (subst (λ k. Goes 1 u no_reading (due σ i ∷ []) k (last_reset σ times)) (sym size) onward)
