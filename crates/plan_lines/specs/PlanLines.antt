-- The lines of a plan, as bytes.
use Rattle.std.specs.Prelude.{List, [], ◌∷◌, ◌++◌, ℕ, zero, suc, ◌+◌, ◌-◌, ◌/◌, ◌%◌, get_or}
use Rattle.lines.specs.Line.{line1, line2, line3}

-- "parts "
abbrev pub parts_word : List ℕ
parts_word = 112 ∷ 97 ∷ 114 ∷ 116 ∷ 115 ∷ 32 ∷ []

-- "start "
abbrev pub start_word : List ℕ
start_word = 115 ∷ 116 ∷ 97 ∷ 114 ∷ 116 ∷ 32 ∷ []

-- "round "
abbrev pub round_word : List ℕ
round_word = 114 ∷ 111 ∷ 117 ∷ 110 ∷ 100 ∷ 32 ∷ []

-- " step "
abbrev pub step_word : List ℕ
step_word = 32 ∷ 115 ∷ 116 ∷ 101 ∷ 112 ∷ 32 ∷ []

-- " at "
abbrev pub at_word : List ℕ
at_word = 32 ∷ 97 ∷ 116 ∷ 32 ∷ []

-- "parts P": how many parts there are to a tick
abbrev pub parts_line : ℕ → List ℕ
parts_line P = line1 parts_word P

-- "start J at S": the start of a clock, in parts
abbrev pub start_line : ℕ → ℕ → List ℕ
start_line j s = line2 start_word j at_word s

-- "round R step S at M": a step's round, its number in the round and its moment, in parts
abbrev pub step_line : ℕ → ℕ → ℕ → List ℕ
step_line round step m = line3 round_word round step_word step at_word m

-- number j, from 1, of a room
abbrev pub number_in : List ℕ → ℕ → ℕ
number_in l j = get_or l (j - 1) 0

-- the starts s of clocks 1 to n, in this order
unfoldable pub start_lines : (ℕ → ℕ) → ℕ → List ℕ
start_lines s zero = []
start_lines s (suc n) = start_lines s n ++ start_line (suc n) (s (suc n))

-- the moments t of the first m steps, in this order, when a round has L steps
unfoldable pub step_lines : ℕ → (ℕ → ℕ) → ℕ → List ℕ
step_lines L t zero = []
step_lines L t (suc i) = step_lines L t i ++ step_line (i / L + 1) (i % L + 1) (t (suc i))

-- The plan in P parts to a tick, for n clocks and m steps, L to a round, with the moments t and the starts s: P, each
-- clock's start, and each step's moment.
unfoldable pub plan_lines : ℕ → ℕ → ℕ → ℕ → (ℕ → ℕ) → (ℕ → ℕ) → List ℕ
plan_lines P n L m t s = parts_line P ++ start_lines s n ++ step_lines L t m
