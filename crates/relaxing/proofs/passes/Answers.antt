use native.Mathlib.Omega.{arith}
use mathlib.Core.Path.{refl, ◌∙◌}
use Rattle.leads.specs.Leads.{none_led}
use borrow.Author.Tests.{not-true, not-false}
use Rattle.relaxing.specs.Rows.{going_low, going_up}
use Rattle.relaxing.specs.Ending.{passing_first, passing_few, passing_low, passing_able, approached_passable}
use Rattle.relaxing.specs.Ending.{more_searchable, ended_quiet, ended_cycle, passing_more, search_size}
use Rattle.relaxing.proofs.passes.Goals as goal

pub loop-m-init : goal.loop-m-init
loop-m-init c =
    (passing_first _ _ c.requires.sound c.requires.begins, refl)

pub approach-near-requires : goal.approach-near-requires
approach-near-requires c = (
  going_low _ c.requires.sound,
  going_up _ c.requires.sound,
  c.requires.sound.leads,
  passing_low _ _ c.requires.sound c.requires.begins _ _ _ c.loop-m.invariant.0,
  passing_able _ _ c.requires.sound c.requires.begins _ _ _ c.loop-m.invariant.0,
)

pub pass-swept-requires : goal.pass-swept-requires
pass-swept-requires c =
    let l = c.loop-m in
    (approached_passable _ _ c.requires.sound c.requires.begins _ _ _ l.invariant.0 _ _ c.approach-near.ensures, none_led _ c.args.leads.now c.args.steps c.any_leads-led.ensures)

pub returns-then-not-swept : goal.returns-then-not-swept
returns-then-not-swept c =
    let l = c.loop-m in
    ended_quiet _ _ c.requires.sound c.requires.begins _ _ _ l.invariant.0 _ _ c.approach-near.ensures _ _ _ c.pass-swept.ensures (not-true _ c.if-not-swept.true)

pub find_cycle-u-requires : goal.find_cycle-u-requires
find_cycle-u-requires c =
    let l = c.loop-m in
    more_searchable _ _ c.requires.sound c.requires.begins _ _ _ l.invariant.0 _ _ c.approach-near.ensures _ _ _ c.pass-swept.ensures _
    (omega arith)

pub returns-then-u-n : goal.returns-then-u-n
returns-then-u-n c =
    let l = c.loop-m in
    ended_cycle _ _ c.requires.sound c.requires.begins _ _ _ l.invariant.0 _ _ c.approach-near.ensures _ _ _ c.pass-swept.ensures _ _ _
    c.find_cycle-u.ensures c.if-u-n.true

pub loop-m-preserved : goal.loop-m-preserved
loop-m-preserved c =
    let l = c.loop-m in (
      passing_more _ _ c.requires.sound c.requires.begins _ _ _ l.invariant.0 _ _ c.approach-near.ensures _ _ _ c.pass-swept.ensures _ _ _
          c.find_cycle-u.ensures (not-false _ c.if-not-swept.false) c.if-u-n.false,
      search_size _ _ _ _ _ _
          (omega arith) c.find_cycle-u.ensures ∙ l.invariant.1,
    )

pub returns : goal.returns
returns c =
    absurd (omega (arith, passing_few _ _ c.requires.sound c.requires.begins _ _ _ c.loop-m.invariant.0, c.loop-m-test.false))
