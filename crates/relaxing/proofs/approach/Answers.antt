-- Nothing, a way with leads, one way, or both, after which the stamps are taken away.
use mathlib.Core.Path.{refl}
use native.Mathlib.Omega.{arith}
use Rattle.checks.specs.Some.{onto_able, able_narrower}
use Rattle.ways.specs.Steps.{went_none, went_then, went_wider}
use Rattle.led_ways.specs.Home.{steps_led}
use Rattle.relaxing.specs.Ending.{home_cleared, approached_near, approached_clear}
use Rattle.relaxing.proofs.approach.Goals as goal

pub returns-then-m-lt-PLAIN : goal.returns-then-m-lt-PLAIN
returns-then-m-lt-PLAIN c = approached_near _ _ _ _ _ _ _ (omega arith) (went_none _ _ _ _)

pub home-near-requires : goal.home-near-requires
home-near-requires c =
    let p = c.requires in
    (p.0, p.1, p.3, able_narrower _ _ _ _ p.4 _ (steps_led _ _ c.args.leads.now _ _ _ _))

pub out-last-requires : goal.out-last-requires
out-last-requires c =
    let p = c.requires in (
      p.0,
      p.1,
      omega arith,
      onto_able _ _ _ _ _ c.home-near.ensures.onto _ (able_narrower _ _ _ _ p.4 _ (steps_led _ _ c.args.leads.now _ _ _ _)),
    )

pub returns-then-m-eq-TRIES : goal.returns-then-m-eq-TRIES
returns-then-m-eq-TRIES c =
    approached_clear _ _ _ _ _ _ _ c.if-m-eq-TRIES.true
    (home_cleared _ _ _ _ _ _ _ _ _
    (went_wider _ _ _ _ _ _ _ _ (steps_led _ _ c.args.leads.now _ _ _ _) (omega arith)
    (went_then _ _ _ _ _ _ _ _ _ c.home-near.ensures c.out-last.ensures)) c.fill.ensures) refl

pub out-requires : goal.out-requires
out-requires c =
    let p = c.requires in
    (p.0, p.1, omega arith, able_narrower _ _ _ _ p.4 _ (steps_led _ _ c.args.leads.now _ _ _ _))

pub returns-then-m-eq0 : goal.returns-then-m-eq0
returns-then-m-eq0 c =
    approached_near _ _ _ _ _ _ _ (omega arith)
    (went_wider _ _ _ _ _ _ _ _ (steps_led _ _ c.args.leads.now _ _ _ _) (omega arith) c.out.ensures)

pub home-requires : goal.home-requires
home-requires c =
    let p = c.requires in
    (p.0, p.1, p.3, able_narrower _ _ _ _ p.4 _ (steps_led _ _ c.args.leads.now _ _ _ _))

pub returns : goal.returns
returns c =
    approached_near _ _ _ _ _ _ _ (omega arith)
    (went_wider _ _ _ _ _ _ _ _ (steps_led _ _ c.args.leads.now _ _ _ _) (omega arith) c.home.ensures)
