-- What the effect of rounds is answered as. Runs are those of mid-shift: from any readings.
use Rattle.std.specs.Prelude.{◌≡◌, List, ℕ, ◌+◌, ◌*◌, ◌≤◌, ◌<◌, ℤ, pos, length, get_or}
use Rattle.table.specs.Step.{Step}
use Rattle.runs.specs.declared.Start.TheVariants.{MidShift}
use Rattle.runs.specs.Demand.{starts_of, Exists}
use Rattle.zones.specs.Bound.{Bound}
use Rattle.effects.specs.Tightest.{Tightest, ticks_told, mark_told}
use Rattle.rounds_effect.specs.declared.Effect.{Effect}
use Rattle.rounds_effect.specs.declared.Effect.TheVariants as effect

-- The ticks d and the mark m tell the tightest bound that every run of σ keeps from the a-th of the 2 * n + 2 moments to the b-th.
pub record Cell (n : ℕ) (σ : List Step) (a b : ℕ) (d : ℤ) (m : ℕ) : Type 0 where
  pub bound : Bound
  pub tightest : Tightest n σ a b bound
  pub ticks : d ≡ ticks_told bound
  pub mark : m ≡ mark_told bound

-- A run exists. For each ordered pair of the moments, row by row, the ticks are in the first places of one room and the marks in those of the other; the
-- rest of both is kept. The rooms hold b and m before, b' and m' after.
pub record Tells (n : ℕ) (σ : List Step) (b b' : List ℤ) (m m' : List ℕ) (size : ℕ) : Type 0 where
  pub runs : Exists n (starts_of MidShift) σ
  pub moments : size ≡ 2 * n + 2
  pub cells : (u v : ℕ) → u < size → v < size → Cell n σ u v (get_or b' (u * size + v) (pos 0)) (get_or m' (u * size + v) 0)
  pub sizes : (length b' ≡ length b) × (length m' ≡ length m)
  pub rest : (k : ℕ) → size * size ≤ k → (get_or b' k (pos 0) ≡ get_or b k (pos 0)) × (get_or m' k 0 ≡ get_or m k 0)

-- No run exists, and nothing is written.
pub record Halting (n : ℕ) (σ : List Step) (b b' : List ℤ) (m m' : List ℕ) : Type 0 where
  pub none : ¬ Exists n (starts_of MidShift) σ
  pub bounds : b' ≡ b
  pub marks : m' ≡ m

abbrev pub Answered : ℕ → List Step → List ℤ → List ℤ → List ℕ → List ℕ → Effect → Type 0
Answered n σ b b' m m' (effect.Told size) = Tells n σ b b' m m' size
Answered n σ b b' m m' effect.Halts = Halting n σ b b' m m'
