-- Evidence for a count of rounds, and a test of it that computes.
use Rattle.std.specs.Prelude.{◌≡◌, Bool, true, false, ◌&&◌, List, map, ℕ, suc, ◌^◌, ◌≤◌, ◌<◌, ltb, get_or}
use Rattle.std.proofs.lemmas.Bool.{false≢true}
use Rattle.std.proofs.Common.{arith, ltb-true}
use Rattle.std.proofs.Math.Decide.{dec_le}
use Rattle.table.specs.Step.{Step, Fairs}
use Rattle.runs.specs.declared.Demand.{Demand}
use Rattle.runs.specs.Run.{copies}
use Rattle.runs.specs.Demand.{Starts, demands, Exists, Clocks, Places}
use Rattle.runs.specs.Start.{Upper, upper_places}
use Rattle.runs.specs.Copies.{fairs_copies, clocks_copies}
use Rattle.rounds.specs.declared.Count.{Count}
use Rattle.rounds.specs.declared.Count.TheVariants.{Finite, Endless, Refused}
use Rattle.rounds.specs.Answer.{Counts}
use Rattle.samples.specs.Checks.{three}
use Rattle.samples.specs.Lines.{Line, line, fixed}
use Rattle.samples.specs.Walks.{Lines}
use Rattle.samples.specs.Cycles.{contradicts, contradicts_run}
use Rattle.samples.specs.Rounds.{runs, repeats, runs_exists, fewer_exists, repeats_exists}

pub data Evidence : Type 0 where
  -- A finite count: a run of so many rounds, in some parts, with the first configuration and the time of each step; and
  -- a negative cycle of demands of one round more.
  stops : (parts : ℕ) (first times : List ℕ) (cycle : List Demand) → Evidence
  -- No end: for k rounds, in p + q * k parts, the configuration before each round and the time of each of its steps.
  repeated : (p q : ℕ) (first times : List Line) → Evidence

-- the configuration with these places, and 0 in the others
abbrev placed : List Line → Lines
placed l a = get_or l a (fixed 0)

-- the evidence tells that the steps τ, with n clocks and the starts that D allows, have this count
unfoldable pub tells : ℕ → Starts → List Step → Count → Evidence → Bool
tells n D τ (Finite c) (stops P first times cycle) =
    ltb c (2 ^ 24)
    && runs n D (fixed P) (copies τ c) (map fixed times) (placed (map fixed first))
    && contradicts (demands n (copies τ (suc c)) D) cycle
tells n D τ Endless (repeated p q first times) = repeats n D (line p 0 q) τ times (placed first)
tells n D τ (Finite c) (repeated p q first times) = false
tells n D τ Endless (stops P first times cycle) = false
tells n D τ (Refused f) e = false

-- ---- what it says
finite_counts : (n : ℕ) (D : Starts) (τ : List Step) (c : ℕ) → n < 7 → Places n D → Fairs τ → c < 2 ^ 24
    → Exists n D (copies τ c) → (Exists n D (copies τ (suc c)) → ⊥) → Counts n D τ (Finite c)
finite_counts n D τ c b places f small run none = record {
  runs = λ k. (at_most_lem k, λ l. fewer_exists n D b places τ k c l f run);
  small = λ d e. let q : d ≡ c = cc in omega arith;
}
  where
    at_most_lem : (k : ℕ) → Exists n D (copies τ k) → k ≤ c
    at_most_lem k r = go (dec_le k c)
      where
        go : Dec (k ≤ c) → k ≤ c
        go (yes l) = l
        go (no l) = absurd (none (fewer_exists n D b places τ (suc c) k (omega arith) f r))

endless_counts : (n : ℕ) (D : Starts) (τ : List Step) → ((k : ℕ) → Exists n D (copies τ k)) → Counts n D τ Endless
endless_counts n D τ every = record {
  runs = λ k. ((λ r. tt), λ u. every k);
  small = λ c q. absurd (never c q);
}
  where
    never : (c : ℕ) → Endless ≡ Finite c → ⊥
    never c q = let z : ◌≡◌ {A = ℕ} 0 1 = cc in omega arith

module _ (n : ℕ) (D : Starts) (τ : List Step) (b : n < 7) (up : Upper n D) (f : Fairs τ) (clocks : Clocks n τ) where
  -- The evidence is right.
  pub tells_counts : (c : Count) (e : Evidence) → tells n D τ c e ≡ true → Counts n D τ c
  unfolding tells
  tells_counts (Finite c) (stops P first times cycle) h = go (three h)
    where
      go : (ltb c (2 ^ 24) ≡ true)
          × (runs n D (fixed P) (copies τ c) (map fixed times) (placed (map fixed first)) ≡ true)
          × (contradicts (demands n (copies τ (suc c)) D) cycle ≡ true)
          → Counts n D τ (Finite c)
      go (small, some, none) =
          let places = upper_places n D up in
          finite_counts n D τ c b places f (ltb-true c (2 ^ 24) small)
          (runs_exists n D b places (fixed P) (copies τ c) (map fixed times) (placed (map fixed first))
          (fairs_copies τ c f) some)
          (contradicts_run n D (copies τ (suc c)) cycle (clocks_copies n τ (suc c) clocks) places none)
  tells_counts Endless (repeated p q first times) h =
      endless_counts n D τ (repeats_exists n D p q τ times (placed first) f h b up)
  tells_counts (Finite c) (repeated p q first times) h = absurd (false≢true h)
  tells_counts Endless (stops P first times cycle) h = absurd (false≢true h)
  tells_counts (Refused r) e h = absurd (false≢true h)
