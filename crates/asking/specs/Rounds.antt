-- What is asked about: k rounds of the table that bytes write down, their demands, and that a run of them exists.
use Rattle.std.specs.Prelude.{◌≡◌, List, ℕ}
use Rattle.table.specs.Step.{Step}
use Rattle.table.specs.declared.Read.TheVariants as read
use Rattle.wire.specs.Records.{Bytes}
use Rattle.wire.specs.Reading.{read_of}
use Rattle.wire.specs.Listing.{listing, cycle}
use Rattle.format.proofs.Accepted.{accepted_counted}
use Rattle.format.specs.Fair.{legal_clocks}
use Rattle.runs.specs.Run.{copies}
use Rattle.runs.specs.declared.Demand.{Demand}
use Rattle.runs.specs.declared.Start.{Start}
use Rattle.runs.specs.Demand.{starts_of, demands, Exists, Clocks}
use Rattle.runs.specs.Copies.{clocks_copies}

-- the clocks and the steps that bytes write down
abbrev pub clocks_of : List ℕ → ℕ
clocks_of bytes = (listing bytes).clocks

abbrev pub cycle_of : List ℕ → List Step
cycle_of bytes = cycle (listing bytes)

-- k rounds of these steps
abbrev pub rounds_in : List ℕ → ℕ → List Step
rounds_in bytes k = copies (cycle_of bytes) k

-- their demands for a variant of the start, in 01's demand order
unfoldable pub demands_in : List ℕ → Start → ℕ → List Demand
demands_in bytes v k = demands (clocks_of bytes) (rounds_in bytes k) (starts_of v)

-- a run of them exists, in some number of parts, from a start that the variant allows
abbrev pub RunExists : List ℕ → Start → ℕ → Type 0
RunExists bytes v k = Exists (clocks_of bytes) (starts_of v) (rounds_in bytes k)

-- The guards of k rounds of accepted bytes are on their clocks.
pub guards_on : (bytes : List ℕ) → Bytes bytes → (k n L g : ℕ) → read_of bytes ≡ read.Counted n L g
    → Clocks (clocks_of bytes) (rounds_in bytes k)
guards_on bytes h k n L g e =
    clocks_copies (clocks_of bytes) (cycle_of bytes) k (legal_clocks (listing bytes) (accepted_counted bytes h n L g e).legal)
