-- A way home with leads: checks of the steps' demands, in any order, and how many.
use Rattle.std.specs.Prelude.{◌≡◌, Bool, true, false, ℕ, suc, ◌+◌, ◌*◌, ◌%◌, ◌≤◌, ◌<◌, ◌^◌, length, get_or}
use Rattle.std.proofs.Common.{⊎_elim, arith}
use mathlib.Core.List.Memᴰ
use mathlib.Core.List.{List, [], ◌∷◌, ◌++◌}
use Rattle.table.specs.Step.{step_at}
use Rattle.runs.specs.declared.Demand.{Demand}
use Rattle.runs.specs.Demand.{plus}
use Rattle.leads.specs.Leads.{led_by, led_few}
use Rattle.last_resets.specs.Distance.{last_of}
use Rattle.sweeps.specs.Order.{cell, side_of, leads_at, forth_of, upper_at, back_of}
use Rattle.sweeps.specs.Covered.{among_back, upper_back}
use Rattle.sweeps.specs.Number.{side_few, leads_few}
use Rattle.paths.specs.State.{State}
use Rattle.paths.specs.Bounds.{SameSize}
use Rattle.checks.specs.Checks.{Checkable, Checked}
use Rattle.checks.specs.Some.{Some, Onto, Able, onto_none, onto_checked, onto_append, onto_size, onto_able, able_checks}
use Rattle.ways.specs.Steps.{steps_of, some_order, some_lower, Went}

-- the demands of the steps, forth and back
abbrev pub led_steps : List ℕ → List ℕ → List ℕ → List ℕ → ℕ → ℕ → ℕ → List Demand
led_steps low up row far L n K = forth_of low far L n K 0 K ++ back_of up (led_by row) far L n K K

-- the ways without leads check some of them
pub steps_led : (low up row far : List ℕ) (L n K : ℕ) → Some (led_steps low up row far L n K) (steps_of low up far L n K)
steps_led low up row far L n K d m =
    ⊎_elim (Memᴰ.append_left (back_of up (led_by row) far L n K K))
    (λ k. Memᴰ.append_right (forth_of low far L n K 0 K) (upper_back up far L n K (led_by row) K d k))
    (Memᴰ.append_cases (forth_of low far L n K 0 K) m)

-- ---- one step
module _ (low up row far : List ℕ) (L n K i s q : ℕ) (l : i < K) (e : s ≡ i % L) (clocks : n ≤ 6) (size : length row ≡ 82) (few : q ≤ 2 ^ 37) (x : State)
    (a : Able (K + n + 1) (led_steps low up row far L n K) x q) (d : Demand) (f : d ≡ plus (i + 1) i 0 false) where
  abbrev all : List Demand
  all = led_steps low up row far L n K

  abbrev below : List Demand
  below = side_of false low far K s i 1 n

  abbrev above : List Demand
  above = side_of true up far K s i 1 n

  abbrev led : List Demand
  led = leads_at (led_by row) far K s i

  from_forth : Some all (forth_of low far L n K 0 K)
  from_forth y m = Memᴰ.append_left (back_of up (led_by row) far L n K K) m

  order : Some all (d ∷ [])
  order y m = from_forth y (some_order low far L n K i s l e d f y m)

  lower : Some all below
  lower y m = from_forth y (some_lower low far L n K i s l e y m)

  upper : Some all above
  upper y m =
      Memᴰ.append_right (forth_of low far L n K 0 K)
      (among_back up (led_by row) far L n K K i y l (Memᴰ.append_left (leads_at (led_by row) far K (i % L) i) (rw e at m)))

  leading : Some all led
  leading y m =
      Memᴰ.append_right (forth_of low far L n K 0 K)
      (among_back up (led_by row) far L n K K i y l (Memᴰ.append_right (upper_at up far L n K i) (rw e at m)))

  few_leads : length led ≤ 128
  few_leads =
      omega (
        arith,
        leads_few n clocks (step_at (led_by row) s).guards (suc i) (λ j. last_of (get_or far (cell s j) 0) K i j),
        led_few row size s,
      )

  pub order_able : Checkable (d ∷ []) x q
  order_able = able_checks all q x (K + n + 1) a (omega (arith, few)) (d ∷ []) order (omega arith)

  module _ (x₁ : State) (h₁ : Bool) (q₁ : ℕ) (c₁ : Checked (d ∷ []) false q x x₁ h₁ q₁) where
    ordered : Onto all q x x₁ q₁
    ordered = onto_checked all q x (d ∷ []) order false h₁ x₁ q₁ c₁

    pub lower_able : Checkable (side_of false low far K s i 1 n) x₁ q₁
    lower_able =
        able_checks all q₁ x₁ (K + n + 1) (onto_able all q x x₁ q₁ ordered (K + n + 1) a) (omega (arith, few, c₁.stamp)) below lower
        (omega (arith, side_few false low far K s i 1 n))

    module _ (x₂ : State) (h₂ : Bool) (q₂ : ℕ) (c₂ : Checked (side_of false low far K s i 1 n) h₁ q₁ x₁ x₂ h₂ q₂) where
      lowered : Onto all q x x₂ q₂
      lowered = onto_append all q x x₁ q₁ ordered x₂ q₂ (onto_checked all q₁ x₁ below lower h₁ h₂ x₂ q₂ c₂)

      pub upper_able : Checkable (side_of true up far K s i 1 n) x₂ q₂
      upper_able =
          able_checks all q₂ x₂ (K + n + 1) (onto_able all q x x₂ q₂ lowered (K + n + 1) a)
          (omega (arith, few, c₁.stamp, c₂.stamp, side_few false low far K s i 1 n)) above upper
          (omega (arith, side_few true up far K s i 1 n))

      module _ (x₃ : State) (h₃ : Bool) (q₃ : ℕ) (c₃ : Checked (side_of true up far K s i 1 n) false q₂ x₂ x₃ h₃ q₃) where
        sided : Onto all q x x₃ q₃
        sided = onto_append all q x x₂ q₂ lowered x₃ q₃ (onto_checked all q₂ x₂ above upper false h₃ x₃ q₃ c₃)

        pub leads_able : Checkable (leads_at (led_by row) far K s i) x₃ q₃
        leads_able =
            able_checks all q₃ x₃ (K + n + 1) (onto_able all q x x₃ q₃ sided (K + n + 1) a)
            (omega (arith, few, c₁.stamp, c₂.stamp, c₃.stamp, side_few false low far K s i 1 n, side_few true up far K s i 1 n)) led leading
            (omega (arith, few_leads))

        module _ (x₄ : State) (h₄ : Bool) (q₄ : ℕ) (c₄ : Checked (leads_at (led_by row) far K s i) h₃ q₃ x₃ x₄ h₄ q₄) where
          swept : Onto all q x x₄ q₄
          swept = onto_append all q x x₃ q₃ sided x₄ q₄ (onto_checked all q₃ x₃ led leading h₃ h₄ x₄ q₄ c₄)

          pub step_size : SameSize x x₄
          step_size = onto_size all q x x₄ q₄ swept

          pub step_went : Went (led_steps low up row far L n K) 141 q x x₄ q₄ × (q < q₄)
          step_went = (
            record {
              onto = swept;
              few = omega (
                arith,
                c₁.stamp,
                c₂.stamp,
                c₃.stamp,
                c₄.stamp,
                side_few false low far K s i 1 n,
                side_few true up far K s i 1 n,
                few_leads,
              );
            },
            omega (arith, c₁.stamp, c₂.stamp, c₃.stamp, c₄.stamp),
          )

-- ---- all steps: at step i, which is step s of its round
pub record Homeward (low up row far : List ℕ) (L n K q₀ : ℕ) (s₀ : State) (i s q : ℕ) (x : State) : Type 0 where
  pub onto : Onto (led_steps low up row far L n K) q₀ s₀ x q
  pub step : s ≡ i % L
  pub few : q ≤ q₀ + 282 * K + 141

module _ (low up row far : List ℕ) (L n K q₀ : ℕ) (s₀ : State) where
  pub homeward_first : (s : ℕ) → s ≡ 0 % L → Homeward low up row far L n K q₀ s₀ 0 s q₀ s₀
  homeward_first s e = record { onto = onto_none _ q₀ s₀; step = e; few = omega arith }

  module _ (i s q : ℕ) (x : State) (b : Homeward low up row far L n K q₀ s₀ i s q x) where
    pub homeward_went : K ≤ 1024 → Went (led_steps low up row far L n K) (2 ^ 19) q₀ s₀ x q
    homeward_went l = record { onto = b.onto; few = omega (arith, b.few) }

    pub homeward_size : SameSize s₀ x
    homeward_size = onto_size _ q₀ s₀ x q b.onto

    pub homeward_able : Able (K + n + 1) (led_steps low up row far L n K) s₀ q₀ → Able (K + n + 1) (led_steps low up row far L n K) x q
    homeward_able a = onto_able _ q₀ s₀ x q b.onto (K + n + 1) a

    pub homeward_next : q < q₀ + 282 * K → (k t r : ℕ) (x' : State) → Went (led_steps low up row far L n K) 141 q x x' r → t ≡ k % L
        → Homeward low up row far L n K q₀ s₀ k t r x'
    homeward_next l k t r x' w e =
        record { onto = onto_append _ q₀ s₀ x q b.onto x' r w.onto; step = e; few = omega (arith, w.few) }
