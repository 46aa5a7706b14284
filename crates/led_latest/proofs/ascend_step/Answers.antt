-- The guards of the step lower nothing; or they do, and the checks back from it may follow.
use Rattle.std.proofs.Common.{arith}
use Rattle.last_resets.specs.Walking.{step_on}
use Rattle.ways.specs.Forth.{going_placed}
use Rattle.ways.specs.Back.{going_led}
use Rattle.led_latest.specs.Ascent.{upper_able, leads_able, stepped_quiet, stepped_hit, back_able, stepped_mended}
use Rattle.led_latest.proofs.ascend_step.Goals as goal

pub bound_side-sided-requires : goal.bound_side-sided-requires
bound_side-sided-requires c =
    (going_placed _ _ _ _ _ _ _ c.requires.1 c.requires.4 c.requires.3, upper_able _ _ _ _ _ _ _ c.args.i c.args.s c.requires.3 c.requires.4 c.args.hit _ c.requires.5)

pub bound_leads-lowest-requires : goal.bound_leads-lowest-requires
bound_leads-lowest-requires c =
    (going_led _ _ _ _ _ _ _ _ c.requires.1 c.requires.2 c.requires.4 c.requires.3, leads_able _ _ _ _ _ _ _ c.args.i c.args.s c.requires.3 c.requires.4 c.args.hit _ c.requires.5 _ _ _ c.requires.5.few c.bound_side-sided.ensures)

pub returns-then-lowest-ge-NEVER : goal.returns-then-lowest-ge-NEVER
returns-then-lowest-ge-NEVER c =
    stepped_quiet _ _ _ _ _ _ _ c.args.i c.args.s c.requires.3 c.requires.4 c.args.hit _ c.requires.5 _ _ _ c.requires.5.few c.bound_side-sided.ensures _ _ c.bound_leads-lowest.ensures c.if-lowest-ge-NEVER.true

pub returns-then-left-eq0 : goal.returns-then-left-eq0
returns-then-left-eq0 c =
    stepped_hit _ _ _ _ _ _ _ c.args.i c.args.s c.requires.3 c.requires.4 c.args.hit _ c.requires.5 _ _ _ c.requires.5.few c.bound_side-sided.ensures _ _ c.bound_leads-lowest.ensures (omega (arith, c.if-lowest-ge-NEVER.false))

pub descend-next-requires : goal.descend-next-requires
descend-next-requires c = (
  c.requires.0,
  omega (arith, c.requires.3),
  step_on c.args.i _ _ _ c.requires.0.some c.requires.4 c.following-after.ensures,
  back_able _ _ _ _ _ _ _ c.args.i c.args.s c.requires.3 c.requires.4 c.args.hit _ c.requires.5 _ _ _ c.requires.5.few c.bound_side-sided.ensures _ _ c.bound_leads-lowest.ensures,
)

pub returns : goal.returns
returns c =
    stepped_mended _ _ _ _ _ _ _ c.args.i c.args.s c.requires.3 c.requires.4 c.args.hit _ c.requires.5 _ _ _ c.requires.5.few c.bound_side-sided.ensures _ _ c.bound_leads-lowest.ensures (omega (arith, c.if-lowest-ge-NEVER.false)) _ _ (omega (arith, c.min-floor.ensures)) _ _ c.descend-next.ensures
