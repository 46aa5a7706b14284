-- Each array has 1031 places.
use Rattle.solving.specs.Solve.{spacious}
use Rattle.relaxing.specs.Rows.{sound_moments}
use Rattle.spaces.proofs.solve_large.Goals as goal

pub solve-requires : goal.solve-requires
solve-requires c =
    (c.requires.0, c.requires.1, spacious _ 1031 (sound_moments _ c.requires.0))
