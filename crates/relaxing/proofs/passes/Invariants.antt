-- The invariant: m passes are made, each has raised something and left no cycle of parents, so m is below N and sixteen.
use mathlib.Core.Path.{◌≡◌}
use Prim.Native.Nat.{◌+◌, ◌*◌, ◌^◌}
use lib.ListN.{length}
use Rattle.paths.specs.State.{state}
use Rattle.relaxing.specs.Rows.{rows}
use Rattle.relaxing.specs.Ending.{Passing}
use Rattle.relaxing.proofs.passes.Given as goal

abbrev pub invariant-loop-m : goal.invariant-loop-m
invariant-loop-m l =
    Passing (rows l.low l.up l.leads l.far l.start l.steps l.clocks l.total) (state l.initial.time l.initial.parent l.initial.stamp) 17 l.m (1 + l.m * 2 ^ 20) l.q (state l.time l.parent l.stamp)
    × (length l.marks ≡ length l.initial.marks)
