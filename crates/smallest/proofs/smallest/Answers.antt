-- `smallest::smallest` meets its contract: the left part in parts has a solution, so closing goes through, and its first row tells.
use Rattle.smallest.specs.Least.{left_coded, parts_ranged, codes_low, readings_written}
use native.Mathlib.Omega.{arith}
use Rattle.smallest.proofs.smallest.Goals as goal

pub left_in_parts-requires : goal.left_in_parts-requires
left_in_parts-requires c =
    let (σ, e) = c.requires.5 in
    (c.requires.0, c.requires.1, c.requires.2, c.requires.3.1, left_coded c.requires.3 e)

pub close-requires : goal.close-requires
close-requires c =
    let (σ, e) = c.requires.5 in
    (omega arith, omega (arith, c.requires.3.1), parts_ranged c.requires.3 e c.left_in_parts.ensures)

pub fetch-requires : goal.fetch-requires
fetch-requires c =
    let (σ, e) = c.requires.5 in (
      omega arith,
      c.requires.3.0,
      c.requires.3.1,
      c.requires.4,
      codes_low c.requires.3 e c.left_in_parts.ensures c.close.ensures,
    )

pub returns : goal.returns
returns c =
    let (σ, e) = c.requires.5 in
    readings_written c.requires.3 e c.left_in_parts.ensures c.close.ensures _ _ c.requires.4 c.fetch.ensures
