-- The checks back, from the last step to the first: the guards of each step from above.
use Rattle.std.specs.Prelude.{◌≡◌, Bool, true, List, [], ◌++◌, ℕ, suc, ◌-◌, ◌%◌, ◌<◌}
use Rattle.std.proofs.Common.{ap, subst, ◌∙◌, mod-lt, arith}
use Rattle.runs.specs.declared.Demand.{Demand}
use Rattle.leads.specs.Leads.{Leading}
use Rattle.last_resets.specs.Walking.{preceding_of, preceding_mod}
use Rattle.sweeps.specs.Order.{side_of, upper_of, upper_none, upper_more}
use Rattle.paths.specs.State.{State}
use Rattle.checks.specs.Checks.{Checkable, Checked}
use Rattle.checks.specs.Turns.{Turn, turn_able, turn_more, turn_last}
use Rattle.checks.specs.Led.{Led}
use Rattle.ways.specs.Forth.{Going}

-- one step back is the step before in the round
pub step_back : (i s r L : ℕ) → 0 < L → 0 < i → s ≡ i % L → r ≡ preceding_of s L → r ≡ (i - 1) % L
step_back i s r L p l e f =
    let g : i ≡ suc (i - 1) = omega arith in
    f ∙ ap (λ n. preceding_of n L) (e ∙ ap (λ n. n % L) g) ∙ preceding_mod (i - 1) L p

-- the guards between two clocks of a step of the rounds can be gone over
pub going_led : (keys row far : List ℕ) (L n K s i : ℕ) → Going keys far L n K → Leading row L → s ≡ i % L → i < K → Led row far K s i
going_led keys row far L n K s i g a e l =
    let b : s < L = omega (arith, e, mod-lt i g.some) in
    record {
      size = a.size;
      order = a.order s b;
      room = a.room s b;
      reached = g.reached;
      few = g.few;
      step = omega (arith, g.steps);
      past = omega (arith, g.few);
    }

module _ (up far : List ℕ) (L n K : ℕ) (h₀ : Bool) (q₀ : ℕ) (s₀ : State) where
  abbrev all : List Demand
  all = upper_of up far L n K K

  -- the steps before i + 1 are left, and step i is step s of its round
  module _ (i m : ℕ) (g : m ≡ suc i) (h : Bool) (q : ℕ) (x : State) (u : Turn all h₀ q₀ s₀ (upper_of up far L n K m) h q x) (s : ℕ)
      (e : s ≡ i % L) where
    left : upper_of up far L n K m ≡ side_of true up far K s i 1 n ++ upper_of up far L n K i
    left = rw (e, g) (upper_more up far L n K i)

    pub upper_able : Checkable (side_of true up far K s i 1 n) x q
    upper_able = turn_able all h₀ q₀ s₀ _ (side_of true up far K s i 1 n) _ left h q x u

    pub back_next : (x' : State) (h' : Bool) (q' : ℕ) → Checked (side_of true up far K s i 1 n) h q x x' h' q'
        → Turn all h₀ q₀ s₀ (upper_of up far L n K i) h' q' x'
    back_next x' h' q' c = turn_more all h₀ q₀ s₀ _ (side_of true up far K s i 1 n) _ left h q x u x' h' q' c

  -- none is left
  pub back_last : (i : ℕ) (h : Bool) (q : ℕ) (x : State) → i ≡ 0 → Turn all h₀ q₀ s₀ (upper_of up far L n K i) h q x
      → Checked all h₀ q₀ s₀ x h q
  back_last i h q x e u =
      let none : upper_of up far L n K i ≡ [] = rw e (upper_none up far L n K) in
      turn_last all h₀ q₀ s₀ h q x (subst (λ ds. Turn all h₀ q₀ s₀ ds h q x) none u)
