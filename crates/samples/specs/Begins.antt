-- Starts in lines: a test that a run may begin at a configuration.
use Rattle.std.specs.Prelude.{◌≡◌, Bool, false, ◌&&◌}
use Rattle.std.proofs.Math.Bool.{true}
use Prim.Native.Nat.{ℕ, zero, suc, ◌+◌, ◌*◌, ◌≤◌, ◌<◌}
use Rattle.std.proofs.Common.{arith}
use Rattle.runs.specs.declared.Demand.{Demand}
use Rattle.runs.specs.Demand.{Within, Holds, Starts}
use Rattle.runs.specs.Steps.{Old}
use Rattle.runs.specs.Tools.{Every}
use Rattle.samples.specs.Checks.{both, all, all_every, below, below_each}
use Rattle.samples.specs.Lines.{Line, value, more, plus, times, initial, at_most, at_most_lem}
use Rattle.samples.specs.Walks.{Lines, config, old, old_is}

-- l is at most m, or under m if strict
abbrev within : Bool → Line → Line → Bool
within true l m = at_most (more l) m
within false l m = at_most l m

-- The two sides of a demand between places, of the configuration u of round 0, in P parts to a tick,
abbrev least : Line → Lines → Demand → Line
least P u d = plus (initial (u d.to)) (times d.down (initial P))

abbrev most : Line → Lines → Demand → Line
most P u d = plus (initial (u d.from)) (times d.up (initial P))

-- and that it holds.
abbrev holds : Line → Lines → Demand → Bool
holds P u d = within d.strict (least P u d) (most P u d)

-- In u no clock was last reset after now, and the demands of D for clocks 1 to n hold of it in round 0.
unfoldable pub begins : ℕ → Starts → Line → Lines → Bool
begins n D P u = old u && below n (λ j. all (holds P u) (D (suc j)))

-- ---- what it says of k rounds
module _ (k : ℕ) (b : 0 < k) where
  holds_is : (P : Line) (u : Lines) (d : Demand) → holds P u d ≡ true → Holds (value 0 k P) (config 0 k u) d
  holds_is P u d e = record { holds = go d.strict e }
    where
      go : (s : Bool) → within s (least P u d) (most P u d) ≡ true
          → Within s (config 0 k u d.to + d.down * value 0 k P) (config 0 k u d.from + d.up * value 0 k P)
      go true h = let l = at_most_lem 0 k b (more (least P u d)) (most P u d) h in omega arith
      go false h = let l = at_most_lem 0 k b (least P u d) (most P u d) h in omega arith

  -- D allows the configuration of round 0.
  pub begins_is : (n : ℕ) (D : Starts) (P : Line) (u : Lines) → begins n D P u ≡ true
      → Old (config 0 k u) × ((j : ℕ) → 0 < j → j ≤ n → Every (Holds (value 0 k P) (config 0 k u)) (D j))
  unfolding begins
  begins_is n D P u e = let (earlier, start) = both e in (old_is 0 k b u earlier, allowed start)
    where
      allowed : below n (λ j. all (holds P u) (D (suc j))) ≡ true
          → (j : ℕ) → 0 < j → j ≤ n → Every (Holds (value 0 k P) (config 0 k u)) (D j)
      allowed h zero p l = absurd (omega arith)
      allowed h (suc j) p l =
          let every = all_every (holds P u) (D (suc j)) (below_each n _ h j (omega arith)) in
          λ d m. holds_is P u d (every d m)
