-- What the passes end with is written out as the answer.
use Rattle.solving.specs.Solve.{start_ready, answer_times, answer_rowed, answer_returns}
use Rattle.solving.specs.Solve.{answer_cycle, answer_moments, answer_plan}
use native.Mathlib.Omega.{arith}
use Rattle.solving.proofs.solve.Goals as goal

pub passes-u-requires : goal.passes-u-requires
passes-u-requires c = start_ready _ c.requires.0 _ _ _ _ _ c.requires.2 c.fill.ensures

pub write_cycle-requires : goal.write_cycle-requires
write_cycle-requires c =
    let r = start_ready _ c.requires.0 _ _ _ _ _ c.requires.2 c.fill.ensures in
    answer_returns _ c.requires.0 _ _ _ r.begins c.passes-u.ensures _ c.requires.1.loop c.if-u-n.true

pub returns-then-u-n : goal.returns-then-u-n
returns-then-u-n c =
    let r = start_ready _ c.requires.0 _ _ _ _ _ c.requires.2 c.fill.ensures in
    answer_cycle _ c.requires.0 _ _ _ r.begins c.passes-u.ensures c.if-u-n.true _ _ _ _ _ c.write_cycle.ensures

pub write_moments-requires : goal.write_moments-requires
write_moments-requires c =
    let r = start_ready _ c.requires.0 _ _ _ _ _ c.requires.2 c.fill.ensures in (
      omega (arith, answer_times _ c.requires.0 _ _ _ r.begins c.passes-u.ensures),
      c.requires.1.times,
      λ i l. answer_moments _ c.requires.0 _ _ _ r.begins c.passes-u.ensures c.if-u-n.false i (omega arith),
    )

pub write_starts-requires : goal.write_starts-requires
write_starts-requires c =
    let r = start_ready _ c.requires.0 _ _ _ _ _ c.requires.2 c.fill.ensures in
    answer_rowed _ c.requires.0 _ _ _ r.begins c.passes-u.ensures c.if-u-n.false _ c.requires.1.starts

pub returns : goal.returns
returns c =
    let r = start_ready _ c.requires.0 _ _ _ _ _ c.requires.2 c.fill.ensures in
    answer_plan _ c.requires.0 _ _ _ r.begins c.passes-u.ensures c.if-u-n.false _ _ _ _ _ _
    c.write_moments.ensures c.write_starts.ensures
