-- Each array has 64 places.
use Rattle.solving.specs.Solve.{spacious}
use native.Mathlib.Omega.{arith}
use Rattle.spaces.proofs.solve_small.Goals as goal

pub solve-requires : goal.solve-requires
solve-requires c =
    (c.requires.0, c.requires.1, spacious _ 64 (omega arith))
