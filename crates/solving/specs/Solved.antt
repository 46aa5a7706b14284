-- What solving the constraints of rows gives, and what it writes.
use Rattle.std.specs.Prelude.{◌≡◌, List, ℕ, ◌+◌, ◌*◌, ◌-◌, ◌≤◌, ◌<◌, length, take, drop}
use Rattle.basics.specs.Places.{written}
use Rattle.paths.specs.Constraint.{All, NegativeCycle}
use Rattle.relaxing.specs.Rows.{Rows, moments, constraints_of}
use Rattle.solving.specs.declared.Solution.{Solution}
use Rattle.solving.specs.declared.Solution.TheVariants.{Least, Cycle}

-- the start values of N moments: 24012 N for moments 0 to K, which is 24012 ticks or more wherever a tick has at most N parts, and 0 for
-- the last resets before the start; the times x are not below them
abbrev pub Above : ℕ → ℕ → (ℕ → ℕ) → Type 0
Above N K x = (i : ℕ) → i ≤ K → 24012 * N ≤ x i

-- x is the least solution that is not below the start values
pub record LeastSolution (R : Rows) (x : ℕ → ℕ) : Type 0 where
  pub solution : All (constraints_of R) x
  pub above : Above (moments R) R.total x
  pub least : (y : ℕ → ℕ) → All (constraints_of R) y → Above (moments R) R.total y → (v : ℕ) → v < moments R → x v ≤ y v

-- l is the greatest solution with the moments of x: no other is later, when time is counted from k.
pub record Latest (R : Rows) (x l : ℕ → ℕ) : Type 0 where
  pub solution : All (constraints_of R) l
  pub now : (i : ℕ) → i ≤ R.total → l i ≡ x i
  pub greatest : (y : ℕ → ℕ) (k : ℕ) → All (constraints_of R) y → ((i : ℕ) → i ≤ R.total → y i ≡ x i + k)
      → (v : ℕ) → v < moments R → y v ≤ l v + k

-- Three rooms hold t, s and o before, and t', s' and o' after. The least solution is written out: its moments since the start, and the smallest starts for them.
pub record Plans (R : Rows) (t s o t' s' o' : List ℕ) : Type 0 where
  pub x : ℕ → ℕ
  pub l : ℕ → ℕ
  pub least : LeastSolution R x
  pub latest : Latest R x l
  pub times : t' ≡ written (λ i. x (i + 1) - x 0) R.total t
  pub starts : s' ≡ written (λ j. l 0 - l (R.total + (j + 1))) R.clocks s
  pub loop : o' ≡ o

-- A negative cycle of m moments is in the first places of the third room.
pub record Cycles (R : Rows) (t s l t' s' l' : List ℕ) (m : ℕ) : Type 0 where
  pub cycle : NegativeCycle (constraints_of R) (take m l')
  pub short : m ≤ moments R
  pub few : m ≤ length l
  pub size : length l' ≡ length l
  pub rest : drop m l' ≡ drop m l
  pub times : t' ≡ t
  pub starts : s' ≡ s

-- one of the two
abbrev pub Solved : Rows → List ℕ → List ℕ → List ℕ → List ℕ → List ℕ → List ℕ → Solution → Type 0
Solved R t s l t' s' l' Least = Plans R t s l t' s' l'
Solved R t s l t' s' l' (Cycle m) = Cycles R t s l t' s' l' m
