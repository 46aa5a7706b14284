-- Ways home: checks in any order, and how many.
use Rattle.std.specs.Prelude.{◌≡◌, Bool, true, false, List, [], ◌∷◌, ℕ, suc, ◌+◌, ◌*◌, ◌%◌, ◌≤◌, ◌<◌, ◌^◌}
use Rattle.std.proofs.Common.{arith}
use Rattle.runs.specs.declared.Demand.{Demand}
use Rattle.runs.specs.Demand.{plus}
use Rattle.sweeps.specs.Order.{side_of, upper_of}
use Rattle.sweeps.specs.Number.{side_few}
use Rattle.paths.specs.State.{State}
use Rattle.paths.specs.Bounds.{SameSize}
use Rattle.checks.specs.Checks.{Checkable, Checked}
use Rattle.checks.specs.Some.{Some, Onto, Able, onto_none, onto_checked, onto_append, onto_wider, onto_size, onto_able, able_checks, able_narrower}
use Rattle.ways.specs.Steps.{steps_of, some_forth, some_back, some_order, some_lower, some_upper, Went}

-- ---- the way back from a step: of the steps before `from`, those from i on are checked
pub record Backward (up far : List ℕ) (L n K from q₀ : ℕ) (s₀ : State) (i s q : ℕ) (x : State) : Type 0 where
  pub onto : Onto (upper_of up far L n K K) q₀ s₀ x q
  pub step : s ≡ i % L
  pub inside : i ≤ from
  pub few : q + 6 * i ≤ q₀ + 6 * from

module _ (up far : List ℕ) (L n K from q₀ : ℕ) (s₀ : State) where
  pub backward_first : (s : ℕ) → s ≡ from % L → Backward up far L n K from q₀ s₀ from s q₀ s₀
  backward_first s e = record { onto = onto_none _ q₀ s₀; step = e; inside = omega arith; few = omega arith }

  module _ (i s q : ℕ) (x : State) (b : Backward up far L n K from q₀ s₀ i s q x) where
    pub backward_went : Went (upper_of up far L n K K) (6 * from) q₀ s₀ x q
    backward_went = record { onto = b.onto; few = omega (arith, b.few) }

    pub backward_size : SameSize s₀ x
    backward_size = onto_size _ q₀ s₀ x q b.onto

    -- step k, before step i
    module _ (clocks : n ≤ 6) (steps : K ≤ 1024) (most : from ≤ K) (k t : ℕ) (l : i ≡ suc k) (e : t ≡ k % L) where
      pub backward_able : q₀ ≤ 2 ^ 37 + 2 ^ 20 → Able (K + n + 1) (upper_of up far L n K K) s₀ q₀ → Checkable (side_of true up far K t k 1 n) x q
      backward_able f a =
          able_checks _ q x (K + n + 1) (onto_able _ q₀ s₀ x q b.onto (K + n + 1) a) (omega (arith, b.few, f))
          (side_of true up far K t k 1 n)
          (some_upper up far L n K k t (omega (arith, b.inside)) e)
          (omega (arith, side_few true up far K t k 1 n))

      pub backward_next : (h g : Bool) (x' : State) (r : ℕ) → Checked (side_of true up far K t k 1 n) h q x x' g r
          → Backward up far L n K from q₀ s₀ k t r x'
      backward_next h g x' r c =
          record {
            onto =
                onto_append _ q₀ s₀ x q b.onto x' r
                (onto_checked _ q x (side_of true up far K t k 1 n) (some_upper up far L n K k t (omega (arith, b.inside)) e) h g x' r c);
            step = e;
            inside = omega (arith, b.inside);
            few = omega (arith, b.few, c.stamp, side_few true up far K t k 1 n);
          }

-- ---- a step forth, and the way back from it
module _ (low up far : List ℕ) (L n K i s q : ℕ) (l : i < K) (e : s ≡ i % L) (clocks : n ≤ 6) (steps : K ≤ 1024) (few : q ≤ 2 ^ 37) (x : State)
    (a : Able (K + n + 1) (steps_of low up far L n K) x q) (d : Demand) (f : d ≡ plus (i + 1) i 0 false) where
  abbrev all : List Demand
  all = steps_of low up far L n K

  order : Some all (d ∷ [])
  order x m = some_forth low up far L n K x (some_order low far L n K i s l e d f x m)

  lower : Some all (side_of false low far K s i 1 n)
  lower x m = some_forth low up far L n K x (some_lower low far L n K i s l e x m)

  pub order_able : Checkable (d ∷ []) x q
  order_able = able_checks all q x (K + n + 1) a (omega (arith, few)) (d ∷ []) order (omega arith)

  module _ (x₁ : State) (h₁ : Bool) (q₁ : ℕ) (c₁ : Checked (d ∷ []) false q x x₁ h₁ q₁) where
    ordered : Onto all q x x₁ q₁
    ordered = onto_checked all q x (d ∷ []) order false h₁ x₁ q₁ c₁

    pub lower_able : Checkable (side_of false low far K s i 1 n) x₁ q₁
    lower_able =
        able_checks all q₁ x₁ (K + n + 1) (onto_able all q x x₁ q₁ ordered (K + n + 1) a) (omega (arith, few, c₁.stamp))
        (side_of false low far K s i 1 n)
        lower
        (omega (arith, side_few false low far K s i 1 n))

    module _ (x₂ : State) (h₂ : Bool) (q₂ : ℕ) (c₂ : Checked (side_of false low far K s i 1 n) h₁ q₁ x₁ x₂ h₂ q₂) where
      lowered : Onto all q x x₂ q₂
      lowered =
          onto_append all q x x₁ q₁ ordered x₂ q₂
          (onto_checked all q₁ x₁ (side_of false low far K s i 1 n) lower h₁ h₂ x₂ q₂ c₂)

      pub return_few : q₂ ≤ q + 7
      return_few = omega (arith, c₁.stamp, c₂.stamp, side_few false low far K s i 1 n)

      pub return_able : Able (K + n + 1) (upper_of up far L n K K) x₂ q₂
      return_able =
          able_narrower all q₂ x₂ (K + n + 1) (onto_able all q x x₂ q₂ lowered (K + n + 1) a) (upper_of up far L n K K)
          (some_back low up far L n K)

      pub step_went : (x₃ : State) (q₃ : ℕ) → Went (upper_of up far L n K K) (6 * (i + 1)) q₂ x₂ x₃ q₃ → Went all 6151 q x x₃ q₃ × (q < q₃)
      step_went x₃ q₃ w = (
        record {
          onto = onto_append all q x x₂ q₂ lowered x₃ q₃ (onto_wider _ q₂ x₂ x₃ q₃ w.onto all (some_back low up far L n K));
          few = omega (arith, w.few, return_few);
        },
        omega (arith, w.onto.stamp, c₁.stamp, c₂.stamp),
      )

-- ---- the way over all steps: at step i, which is step s of its round
pub record Homeward (low up far : List ℕ) (L n K q₀ : ℕ) (s₀ : State) (i s q : ℕ) (x : State) : Type 0 where
  pub onto : Onto (steps_of low up far L n K) q₀ s₀ x q
  pub step : s ≡ i % L
  pub few : q ≤ q₀ + 26 * K + 6151

module _ (low up far : List ℕ) (L n K q₀ : ℕ) (s₀ : State) where
  pub homeward_first : (s : ℕ) → s ≡ 0 % L → Homeward low up far L n K q₀ s₀ 0 s q₀ s₀
  homeward_first s e = record { onto = onto_none _ q₀ s₀; step = e; few = omega arith }

  module _ (i s q : ℕ) (x : State) (b : Homeward low up far L n K q₀ s₀ i s q x) where
    pub homeward_went : K ≤ 1024 → Went (steps_of low up far L n K) (2 ^ 16) q₀ s₀ x q
    homeward_went l = record { onto = b.onto; few = omega (arith, b.few) }

    pub homeward_size : SameSize s₀ x
    homeward_size = onto_size _ q₀ s₀ x q b.onto

    pub homeward_able : Able (K + n + 1) (steps_of low up far L n K) s₀ q₀ → Able (K + n + 1) (steps_of low up far L n K) x q
    homeward_able a = onto_able _ q₀ s₀ x q b.onto (K + n + 1) a

    pub homeward_next : q < q₀ + 26 * K → (k t r : ℕ) (x' : State) → Went (steps_of low up far L n K) 6151 q x x' r → t ≡ k % L
        → Homeward low up far L n K q₀ s₀ k t r x'
    homeward_next l k t r x' w e =
        record { onto = onto_append _ q₀ s₀ x q b.onto x' r w.onto; step = e; few = omega (arith, w.few) }
