-- The partners, forth, then back, then the starts.
use native.Mathlib.Omega.{arith}
use Rattle.relaxing.specs.Rows.{going_low}
use Rattle.relaxing.specs.Pass.{turning, partners_able, forth_able, back_able, starts_able, pass_swept}
use Rattle.relaxing.proofs.pass.Goals as goal

pub check_partners-started-requires : goal.check_partners-started-requires
check_partners-started-requires c =
    let p = c.requires.0 in (
      omega arith,
      omega arith,
      partners_able _ _ _ p,
    )

pub forth-gone-requires : goal.forth-gone-requires
forth-gone-requires c =
    let p = c.requires.0 in
    (going_low _ p.sound, forth_able _ _ _ p _ _ _ c.check_partners-started.ensures)

pub turn_back-come-requires : goal.turn_back-come-requires
turn_back-come-requires c =
    let p = c.requires.0 in
    (turning _ _ p.sound c.requires.1, back_able _ _ _ p _ _ _ c.check_partners-started.ensures _ _ _ c.forth-gone.ensures)

pub check_starts-requires : goal.check_starts-requires
check_starts-requires c =
    let p = c.requires.0 in (
      p.sound.few,
      p.sound.clocks,
      starts_able _ _ _ p _ _ _ c.check_partners-started.ensures _ _ _ c.forth-gone.ensures _ _ _ c.turn_back-come.ensures,
    )

pub returns : goal.returns
returns c =
    pass_swept _ _ _ c.requires.0 _ _ _ c.check_partners-started.ensures _ _ _ c.forth-gone.ensures _ _ _ c.turn_back-come.ensures _ _ _ c.check_starts.ensures
