-- `scanning::settle` meets its contract: the readings before are settled, and the others as they were.
use Rattle.std.proofs.Common.{ℕ, ◌+◌, cond, take}
use Rattle.basics.specs.Mapped.{MappedTo}
use Rattle.records.specs.Rules.{is_free}
use Rattle.ticks.specs.Ticks.{later_of}
use Rattle.scanning.proofs.settle.Given as goal

-- the reading of the clock at a place
abbrev pub settling : ℕ → ℕ → ℕ → ℕ → ℕ
settling ticks resets j x = cond (is_free resets (j + 1)) (later_of x ticks) 0

abbrev pub invariant-loop-i : goal.invariant-loop-i
invariant-loop-i l = MappedTo (settling l.ticks l.resets) (take l.clocks l.fn.readings) l.i l.reading-items
