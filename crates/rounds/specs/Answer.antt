-- What the answer to the question "rounds" says.
use Rattle.std.specs.Prelude.{◌≡◌, ◌↔◌, List, ℕ, ◌^◌, ◌≤◌, ◌<◌}
use Rattle.table.specs.declared.Read.{Read}
use Rattle.table.specs.declared.Read.TheVariants as read
use Rattle.table.specs.Step.{Step}
use Rattle.runs.specs.Run.{copies}
use Rattle.runs.specs.declared.Start.{Start}
use Rattle.runs.specs.Demand.{Starts, starts_of, Exists}
use Rattle.wire.specs.Listing.{listing, cycle}
use Rattle.rounds.specs.declared.Count.{Count}
use Rattle.rounds.specs.declared.Count.TheVariants.{Finite, Endless, Refused}

-- The numbers of rounds that an answer allows.
abbrev pub Allows : Count → ℕ → Type 0
Allows (Finite c) k = k ≤ c
Allows Endless k = Unit {0}
Allows (Refused f) k = ⊥

-- These are the numbers of rounds of τ, which has n clocks, that have a run from a start that D allows; and a finite count is
-- below 2^24.
pub record Counts (n : ℕ) (D : Starts) (τ : List Step) (r : Count) : Type 0 where
  pub runs : (k : ℕ) → Exists n D (copies τ k) ↔ Allows r k
  pub small : (c : ℕ) → r ≡ Finite c → c < 2 ^ 24

-- Refused where reading refuses, and in the same way; else a count, from the starts of the variant, of the table that the bytes write
-- down.
abbrev pub Answers : Read → List ℕ → Start → Count → Type 0
Answers (read.Refused f) bytes v r = r ≡ Refused f
Answers (read.Counted n L g) bytes v r = Counts (listing bytes).clocks (starts_of v) (cycle (listing bytes)) r
