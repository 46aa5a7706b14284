-- Ways out: checks in any order, and how many.
use Rattle.std.specs.Prelude.{◌≡◌, Bool, true, false, List, [], ◌∷◌, ℕ, ◌+◌, ◌*◌, ◌%◌, ◌≤◌, ◌<◌, ◌^◌}
use Rattle.std.proofs.Common.{arith}
use Rattle.runs.specs.declared.Demand.{Demand}
use Rattle.runs.specs.Demand.{plus}
use Rattle.sweeps.specs.Order.{side_of, forth_of}
use Rattle.sweeps.specs.Number.{side_few}
use Rattle.paths.specs.State.{State}
use Rattle.paths.specs.Bounds.{SameSize}
use Rattle.checks.specs.Checks.{Checkable, Checked}
use Rattle.checks.specs.Some.{Some, Onto, Able, onto_none, onto_checked, onto_append, onto_wider, onto_size, onto_able, able_checks, able_narrower}
use Rattle.ways.specs.Steps.{steps_of, some_forth, some_back, some_order, some_lower, some_upper, Went}

-- ---- the way forth from a step: the steps before i are past, and `top` is a moment
pub record Forward (low far : List ℕ) (L n K q₀ : ℕ) (s₀ : State) (i s top q : ℕ) (x : State) : Type 0 where
  pub onto : Onto (forth_of low far L n K 0 K) q₀ s₀ x q
  pub step : s ≡ i % L
  pub inside : i ≤ K
  pub high : top ≤ K
  pub few : q ≤ q₀ + 7 * i

module _ (low far : List ℕ) (L n K q₀ : ℕ) (s₀ : State) where
  pub forward_first : (from s last : ℕ) → from ≤ K → last ≤ K → s ≡ from % L → Forward low far L n K q₀ s₀ from s last q₀ s₀
  forward_first from s last a b e = record { onto = onto_none _ q₀ s₀; step = e; inside = a; high = b; few = omega arith }

  module _ (i s top q : ℕ) (x : State) (b : Forward low far L n K q₀ s₀ i s top q x) where
    pub forward_went : Went (forth_of low far L n K 0 K) (7 * K) q₀ s₀ x q
    forward_went = record { onto = b.onto; few = omega (arith, b.few, b.inside) }

    pub forward_size : SameSize s₀ x
    forward_size = onto_size _ q₀ s₀ x q b.onto

    -- step i
    module _ (clocks : n ≤ 6) (steps : K ≤ 1024) (l : i < K) (low-stamp : q₀ ≤ 2 ^ 37 + 2 ^ 20)
        (a : Able (K + n + 1) (forth_of low far L n K 0 K) s₀ q₀) (d : Demand) (f : d ≡ plus (i + 1) i 0 false) where
      now : Able (K + n + 1) (forth_of low far L n K 0 K) x q
      now = onto_able _ q₀ s₀ x q b.onto (K + n + 1) a

      pub forward_order_able : Checkable (d ∷ []) x q
      forward_order_able =
          able_checks _ q x (K + n + 1) now (omega (arith, b.few)) (d ∷ []) (some_order low far L n K i s l b.step d f) (omega arith)

      module _ (x₁ : State) (h₁ : Bool) (q₁ : ℕ) (c₁ : Checked (d ∷ []) false q x x₁ h₁ q₁) where
        ordered : Onto (forth_of low far L n K 0 K) q x x₁ q₁
        ordered = onto_checked _ q x (d ∷ []) (some_order low far L n K i s l b.step d f) false h₁ x₁ q₁ c₁

        pub forward_lower_able : Checkable (side_of false low far K s i 1 n) x₁ q₁
        forward_lower_able =
            able_checks _ q₁ x₁ (K + n + 1) (onto_able _ q x x₁ q₁ ordered (K + n + 1) now) (omega (arith, b.few, c₁.stamp))
            (side_of false low far K s i 1 n) (some_lower low far L n K i s l b.step)
            (omega (arith, side_few false low far K s i 1 n))

        pub forward_next : (x₂ : State) (h₂ : Bool) (q₂ : ℕ) → Checked (side_of false low far K s i 1 n) h₁ q₁ x₁ x₂ h₂ q₂
            → (s' top' : ℕ) → s' ≡ (i + 1) % L → top' ≤ K → Forward low far L n K q₀ s₀ (i + 1) s' top' q₂ x₂
        forward_next x₂ h₂ q₂ c₂ s' top' e t =
            record {
              onto =
                  onto_append _ q₀ s₀ x q b.onto x₂ q₂
                  (onto_append _ q x x₁ q₁ ordered x₂ q₂
                  (onto_checked _ q₁ x₁ (side_of false low far K s i 1 n) (some_lower low far L n K i s l b.step) h₁ h₂ x₂ q₂ c₂));
              step = e;
              inside = omega arith;
              high = t;
              few = omega (arith, b.few, c₁.stamp, c₂.stamp, side_few false low far K s i 1 n);
            }

-- ---- a step back, and the way forth from it
module _ (low up far : List ℕ) (L n K i s q : ℕ) (l : i < K) (e : s ≡ i % L) (clocks : n ≤ 6) (steps : K ≤ 1024) (few : q ≤ 2 ^ 37) (x : State)
    (a : Able (K + n + 1) (steps_of low up far L n K) x q) (d : Demand) (f : d ≡ plus (i + 1) i 0 false) where
  abbrev all : List Demand
  all = steps_of low up far L n K

  order : Some all (d ∷ [])
  order y m = some_forth low up far L n K y (some_order low far L n K i s l e d f y m)

  upper : Some all (side_of true up far K s i 1 n)
  upper y m = some_back low up far L n K y (some_upper up far L n K i s l e y m)

  pub order_able : Checkable (d ∷ []) x q
  order_able = able_checks all q x (K + n + 1) a (omega (arith, few)) (d ∷ []) order (omega arith)

  module _ (x₁ : State) (h₁ : Bool) (q₁ : ℕ) (c₁ : Checked (d ∷ []) false q x x₁ h₁ q₁) where
    first : Onto all q x x₁ q₁
    first = onto_checked all q x (d ∷ []) order false h₁ x₁ q₁ c₁

    pub upper_able : Checkable (side_of true up far K s i 1 n) x₁ q₁
    upper_able =
        able_checks all q₁ x₁ (K + n + 1) (onto_able all q x x₁ q₁ first (K + n + 1) a) (omega (arith, few, c₁.stamp))
        (side_of true up far K s i 1 n) upper (omega (arith, side_few true up far K s i 1 n))

    module _ (x₂ : State) (h₂ : Bool) (q₂ : ℕ) (c₂ : Checked (side_of true up far K s i 1 n) false q₁ x₁ x₂ h₂ q₂) where
      turned : Onto all q x x₂ q₂
      turned =
          onto_append all q x x₁ q₁ first x₂ q₂ (onto_checked all q₁ x₁ (side_of true up far K s i 1 n) upper false h₂ x₂ q₂ c₂)

      pub turned_size : SameSize x x₂
      turned_size = onto_size all q x x₂ q₂ turned

      pub turned_few : q₂ ≤ q + 7
      turned_few = omega (arith, c₁.stamp, c₂.stamp, side_few true up far K s i 1 n)

      pub turned_went : Went all 7175 q x x₂ q₂ × (q < q₂)
      turned_went = (record { onto = turned; few = omega (arith, turned_few) }, omega (arith, c₁.stamp, c₂.stamp))

      pub forth_able : Able (K + n + 1) (forth_of low far L n K 0 K) x₂ q₂
      forth_able =
          able_narrower all q₂ x₂ (K + n + 1) (onto_able all q x x₂ q₂ turned (K + n + 1) a) (forth_of low far L n K 0 K)
          (some_forth low up far L n K)

      pub step_went : (x₃ : State) (q₃ : ℕ) → Went (forth_of low far L n K 0 K) (7 * K) q₂ x₂ x₃ q₃ → Went all 7175 q x x₃ q₃ × (q < q₃)
      step_went x₃ q₃ w = (
        record {
          onto = onto_append all q x x₂ q₂ turned x₃ q₃ (onto_wider _ q₂ x₂ x₃ q₃ w.onto all (some_forth low up far L n K));
          few = omega (arith, w.few, turned_few);
        },
        omega (arith, w.onto.stamp, c₁.stamp, c₂.stamp),
      )

-- ---- the way over all steps, after one forth: at moment i
pub record Outward (low up far : List ℕ) (L n K q₀ : ℕ) (s₀ : State) (i q : ℕ) (x : State) : Type 0 where
  pub onto : Onto (steps_of low up far L n K) q₀ s₀ x q
  pub inside : i ≤ K
  pub few : q ≤ q₀ + 26 * K + 7175

module _ (low up far : List ℕ) (L n K q : ℕ) (s : State) where
  pub first_able : Able (K + n + 1) (steps_of low up far L n K) s q → Able (K + n + 1) (forth_of low far L n K 0 K) s q
  first_able a = able_narrower (steps_of low up far L n K) q s (K + n + 1) a (forth_of low far L n K 0 K) (some_forth low up far L n K)

  -- from the way forth on
  module _ (s₀ : State) (q₀ : ℕ) (w : Went (forth_of low far L n K 0 K) (7 * K) q s s₀ q₀) where
    gone : Onto (steps_of low up far L n K) q s s₀ q₀
    gone = onto_wider _ q s s₀ q₀ w.onto (steps_of low up far L n K) (some_forth low up far L n K)

    pub outward_first : Outward low up far L n K q₀ s₀ K q₀ s₀
    outward_first = record { onto = onto_none _ q₀ s₀; inside = omega arith; few = omega arith }

    module _ (i r : ℕ) (x : State) (b : Outward low up far L n K q₀ s₀ i r x) where
      pub outward_went : K ≤ 1024 → Went (steps_of low up far L n K) (2 ^ 16) q s x r
      outward_went l =
          record { onto = onto_append _ q s s₀ q₀ gone x r b.onto; few = omega (arith, b.few, w.few) }

      pub outward_size : SameSize s x
      outward_size = onto_size _ q s x r (onto_append _ q s s₀ q₀ gone x r b.onto)

      pub outward_able : Able (K + n + 1) (steps_of low up far L n K) s q → Able (K + n + 1) (steps_of low up far L n K) x r
      outward_able a = onto_able _ q s x r (onto_append _ q s s₀ q₀ gone x r b.onto) (K + n + 1) a

      pub outward_next : r < q₀ + 26 * K → (k t : ℕ) (x' : State) → Went (steps_of low up far L n K) 7175 r x x' t → k ≤ K
          → Outward low up far L n K q₀ s₀ k t x'
      outward_next l k t x' v e =
          record { onto = onto_append _ q₀ s₀ x r b.onto x' t v.onto; inside = e; few = omega (arith, v.few) }
