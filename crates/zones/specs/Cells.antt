-- A matrix of up to 21 vertices in a list of 441 codes, 21 for each vertex, and what the program's functions make of it.
use Rattle.std.specs.Prelude.{◌≡◌, ◌⊎◌, ◌≢◌, List, ℕ, ◌+◌, ◌*◌, ◌≤◌, ◌<◌, min, length, get_or, set}
use Rattle.zones.specs.Matrix.{Matrix}
use Rattle.zones.specs.Codes.{NONE, ZERO, bound, Coded}

-- The code from vertex a to vertex b.
abbrev pub cell : List ℕ → ℕ → ℕ → ℕ
cell l a b = get_or l (a * 21 + b) 0

-- The difference bound matrix that the cells stand for.
abbrev pub matrix : List ℕ → Matrix
matrix l a b = bound (cell l a b)

-- There are 441 cells, and every one among the first N vertices is none or has ticks between -D and D.
pub record Ranged (D N : ℕ) (l : List ℕ) : Type 0 where
  pub full : length l ≡ 441
  pub coded : (a b : ℕ) → a < N → b < N → Coded D (cell l a b)

-- The first n of 441 cells are none.
pub record Clear (n : ℕ) (l : List ℕ) : Type 0 where
  pub full : length l ≡ 441
  pub none : (k : ℕ) → k < n → get_or l k 0 ≡ NONE

-- Among the first N vertices, the weak zero from each of the first n to itself, and none elsewhere.
pub record Diagonal (N n : ℕ) (l : List ℕ) : Type 0 where
  pub full : length l ≡ 441
  pub on : (a : ℕ) → a < n → cell l a a ≡ ZERO
  pub off : (a b : ℕ) → a < N → b < N → (a ≢ b) ⊎ (n ≤ a) → cell l a b ≡ NONE

-- The bound from a to b tightened by the code e.
unfoldable pub tighten_of : ℕ → ℕ → ℕ → List ℕ → List ℕ
tighten_of a b e l = set l (a * 21 + b) (min (cell l a b) e)
