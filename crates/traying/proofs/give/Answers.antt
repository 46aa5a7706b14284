use Rattle.std.proofs.Common.{◌≡◌, cond, eqb, arith, ap}
use Rattle.std.proofs.lemmas.Bool.Decides.{nat_tests}
use Rattle.trays.specs.declared.Outcome.TheVariants.{Counted}
use Rattle.traying.specs.Given.{given_more, given_all}
use Rattle.traying.proofs.give.Goals as goal

pub loop-at-preserved : goal.loop-at-preserved
loop-at-preserved c =
    let a = c.args in
    let l = c.loop-at in
    let one = c.give_one-failing in
    let accepted : c.from-accepted.result ≡ cond (eqb one.result.1 0) 1 0 = grind (arith, nat_tests) in
    given_more a.t a.counters.now a.verdicts.now a.running c.requires.0 l.verdicts l.r one.result.0 l.accepted l.at one.result.1 c.from-accepted.result
    (omega arith) one.ensures.1 one.ensures.0 accepted l.invariant

pub returns : goal.returns
returns c =
    let a = c.args in
    let l = c.loop-at in
    let g = given_all a.t a.counters.now a.verdicts.now a.running l.verdicts l.r l.accepted l.at (omega arith) l.invariant in
    (ap Counted g.0, g.1, g.2)
