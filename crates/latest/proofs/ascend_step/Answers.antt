-- The side of the step lowers nothing; or it does, and the checks back from it may follow.
use Rattle.std.proofs.Common.{arith}
use Rattle.last_resets.specs.Walking.{step_on}
use Rattle.ways.specs.Forth.{going_placed}
use Rattle.latest.specs.Ascent.{upper_able, stepped_quiet, stepped_hit, back_able, stepped_mended}
use Rattle.latest.proofs.ascend_step.Goals as goal

pub bound_side-lowest-requires : goal.bound_side-lowest-requires
bound_side-lowest-requires c =
    (going_placed _ _ _ _ _ _ _ c.requires.1 c.requires.3 c.requires.2, upper_able _ _ _ _ _ _ c.args.i c.args.s c.requires.2 c.requires.3 c.args.hit _ c.requires.4)

pub returns-then-lowest-ge-NEVER : goal.returns-then-lowest-ge-NEVER
returns-then-lowest-ge-NEVER c =
    stepped_quiet _ _ _ _ _ _ c.args.i c.args.s c.requires.2 c.requires.3 c.args.hit _ c.requires.4 _ _ _ c.requires.4.few c.bound_side-lowest.ensures c.if-lowest-ge-NEVER.true

pub returns-then-left-eq0 : goal.returns-then-left-eq0
returns-then-left-eq0 c =
    stepped_hit _ _ _ _ _ _ c.args.i c.args.s c.requires.2 c.requires.3 c.args.hit _ c.requires.4 _ _ _ c.requires.4.few c.bound_side-lowest.ensures (omega (arith, c.if-lowest-ge-NEVER.false))

pub descend-next-requires : goal.descend-next-requires
descend-next-requires c = (
  c.requires.0,
  omega (arith, c.requires.2),
  step_on c.args.i _ _ _ c.requires.0.some c.requires.3 c.following-after.ensures,
  back_able _ _ _ _ _ _ c.args.i c.args.s c.requires.2 c.requires.3 c.args.hit _ c.requires.4 _ _ _ c.requires.4.few c.bound_side-lowest.ensures,
)

pub returns : goal.returns
returns c =
    stepped_mended _ _ _ _ _ _ c.args.i c.args.s c.requires.2 c.requires.3 c.args.hit _ c.requires.4 _ _ _ c.requires.4.few c.bound_side-lowest.ensures (omega (arith, c.if-lowest-ge-NEVER.false)) _ _ _ c.descend-next.ensures
