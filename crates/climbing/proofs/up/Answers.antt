use Rattle.climbing.specs.Climbing.{Reached}
use Rattle.climbing.specs.Ways.{up_limit, up_joinable, up_stuck, up_runs, up_settled, up_effect, up_refused, up_more}
use Rattle.climbing.specs.Ways.{climbs_top, climbs_endless, double_power}
use Rattle.admitting.specs.Grid.{cells_lie}
use Rattle.effects.specs.Describes.{Describes}
use Rattle.effects.specs.Starts.{starts_for}
use Rattle.effects.specs.Stored.{EffectOf}
use Rattle.effects.specs.Whole.{whole}
use Rattle.runs.specs.Run.{copies}
use Rattle.table.specs.Step.{Step}
use Rattle.zones.specs.Cells.{matrix}
use Rattle.std.proofs.Common.{List, ◌≡◌, refl, arith, ◌+◌, ◌^◌}
use Rattle.climbing.proofs.up.Goals as goal
use Rattle.climbing.proofs.up.Goals.{After-same_left-same}

-- The effect of twice as many rounds is in the cells,
described : (c : After-same_left-same) (τ : List Step) → Reached c.args.side (starts_for c.args.side c.args.start) τ 0 c.args.row.now
    → Describes (copies τ (2 ^ (c.loop-i.i + 1))) (whole c.args.side (matrix c.join-twice.new.out))
described c τ h =
    up_runs c.args.side c.requires.3 _ τ _ _ (c.loop-i.invariant.1 τ h) (omega arith) _ _ c.join-twice.ensures c.if-not-twice.false

-- and tells from where they run.
stored : (c : After-same_left-same) (τ : List Step) → Reached c.args.side (starts_for c.args.side c.args.start) τ 0 c.args.row.now
    → EffectOf c.args.side 0 21 c.join-twice.new.out (copies τ (2 ^ (c.loop-i.i + 1)))
stored c τ h =
    up_effect c.args.side c.requires.3 _ τ _ _ (c.loop-i.invariant.1 τ h) (omega arith) _ (described c τ h)

pub loop-i-init : goal.loop-i-init
loop-i-init c = (refl, λ τ h. h)

pub join-twice-requires : goal.join-twice-requires
join-twice-requires c =
    let (τ, h) = c.requires.4 in
    let q = up_joinable c.args.side c.requires.3 _ τ _ _ (c.loop-i.invariant.1 τ h) (omega arith) in
    (omega arith, omega arith, c.requires.3, omega arith, omega arith, q, q)

pub returns-then-not-twice : goal.returns-then-not-twice
returns-then-not-twice c =
    climbs_top c.args.side _ _ _ _ _ _ (omega arith) c.loop-i.invariant.0 (λ τ h. (
      c.loop-i.invariant.1 τ h,
      up_stuck c.args.side c.requires.3 _ τ _ _ (c.loop-i.invariant.1 τ h) (omega arith) _ _ c.join-twice.ensures c.if-not-twice.true,
    ))

pub returns-then-same : goal.returns-then-same
returns-then-same c =
    let s = (goal.at.returns-then-same c).After-same_left-same in
    climbs_endless c.args.side _ _ _ _ _ (λ τ h.
    up_settled c.args.side c.requires.3 _ τ _ _ (c.loop-i.invariant.1 τ h) (omega arith) _ (described s τ h)
    (c.same_left-same.ensures.0 c.if-same.true))

pub admits-admitted-requires : goal.admits-admitted-requires
admits-admitted-requires c =
    let s = (goal.at.admits-admitted-requires c).After-same_left-same in
    let (τ, h) = c.requires.4 in
    (omega arith, c.requires.3, cells_lie c.requires.3 (omega arith), (_, stored s τ h))

pub returns-then-not-admitted : goal.returns-then-not-admitted
returns-then-not-admitted c =
    let s = (goal.at.returns-then-not-admitted c).After-same_left-same in
    climbs_top c.args.side _ _ _ _ _ _ (omega arith) c.loop-i.invariant.0 (λ τ h. (
      c.loop-i.invariant.1 τ h,
      up_refused _ τ c.loop-i.i _ (c.admits-admitted.ensures _ (stored s τ h)) c.if-not-admitted.true,
    ))

pub loop-i-preserved : goal.loop-i-preserved
loop-i-preserved c =
    let s = (goal.at.loop-i-preserved c).After-same_left-same in (
      (double_power c.loop-i.i c.loop-i.power (omega arith) c.loop-i.invariant.0).0,
      λ τ h. up_more c.args.side c.requires.3 _ τ _ _ (c.loop-i.invariant.1 τ h) (omega arith) _ (described s τ h) _ c.keep.ensures
          ((c.admits-admitted.ensures _ (stored s τ h)).0 c.if-not-admitted.false),
    )

pub returns : goal.returns
returns c =
    let e : c.loop-i.i ≡ 24 = omega arith in
    climbs_endless c.args.side _ _ _ _ _ (λ τ h. up_limit c.args.side c.requires.3 _ τ 24 _ (rw e at (c.loop-i.invariant.1 τ h)) refl)
