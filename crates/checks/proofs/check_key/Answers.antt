-- A key of no guard has no demand, and any other has one.
use native.Mathlib.Omega.{arith}
use Rattle.checks.specs.KeyChecks.{none_checked, some_able, some_checked}
use Rattle.checks.proofs.check_key.Goals as goal

pub returns-then-key-ge-NONE : goal.returns-then-key-ge-NONE
returns-then-key-ge-NONE c = none_checked _ c.args.key _ _ c.if-key-ge-NONE.true _ _ _

pub check-requires : goal.check-requires
check-requires c =
    some_able c.args.upper c.args.key _ _ (omega (arith, c.if-key-ge-NONE.false)) _ _ c.last_reset-z.ensures
    c.key_demand.ensures _ _ c.requires.3

pub returns : goal.returns
returns c =
    some_checked c.args.upper c.args.key _ _ (omega (arith, c.if-key-ge-NONE.false)) _ _ c.last_reset-z.ensures
    c.key_demand.ensures _ _ _ _ _ _ c.check.ensures
