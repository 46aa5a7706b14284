-- `rounds_effect::effect_within` meets its contract: one round has no run, or k rounds have none, or their effect is told.
use Rattle.rounds_effect.specs.Found.{side, first_halts, first_once, all_halt, codes_top, all_told}
use Rattle.table.specs.Step.{steps_of}
use borrow.Author.Tests.{not-true, not-false}
use borrow.Author.Rules.{rules}
use native.Mathlib.Omega.{arith}
use Rattle.rounds_effect.proofs.effect_within.Goals as goal

pub round_effect-one-requires : goal.round_effect-one-requires
round_effect-one-requires c =
    let s = c in
    (search rules, search rules, c.requires.0, side c.args.t c.requires.0 c.requires.1, c.requires.1)

pub returns-then-not-one : goal.returns-then-not-one
returns-then-not-one c =
    let o = c in
    let s = c in
    first_halts c.args.t c.requires.0 c.requires.1 c.round_effect-one.new.row c.round_effect-one.ensures (not-true _ c.if-not-one.true-raw) c.args.k c.requires.2 _ _

pub power-reply-requires : goal.power-reply-requires
power-reply-requires c =
    let i = c in
    let o = c in
    let s = c in (
      search rules,
      search rules,
      side c.args.t c.requires.0 c.requires.1,
      c.requires.2,
      c.requires.3,
      (steps_of c.args.t, first_once c.args.t c.requires.0 c.requires.1 _ c.round_effect-one.ensures (not-false _ c.if-not-one.false-raw)),
    )

pub returns-then-not-reply : goal.returns-then-not-reply
returns-then-not-reply c =
    let q = c in
    let i = c in
    let o = c in
    let s = c in
    let h = c.power-reply.ensures (steps_of c.args.t) (first_once c.args.t c.requires.0 c.requires.1 _ c.round_effect-one.ensures (not-false _ c.if-not-one.false-raw)) in
    all_halt c.args.t c.requires.0 c.requires.1 c.requires.2 c.requires.3 h (not-true _ c.if-not-reply.true) _ _

pub tell-requires : goal.tell-requires
tell-requires c =
    let e = c in
    let q = c in
    let i = c in
    let o = c in
    let s = c in
    let h = c.power-reply.ensures (steps_of c.args.t) (first_once c.args.t c.requires.0 c.requires.1 _ c.round_effect-one.ensures (not-false _ c.if-not-one.false-raw)) in (
      search rules,
      c.requires.6,
      c.requires.7,
      omega (arith, h.low),
      omega (arith, c.requires.0.clocks_few),
      codes_top c.args.t c.requires.0 c.requires.1 c.requires.2 c.requires.3 h (not-false _ c.if-not-reply.false),
    )

pub returns : goal.returns
returns c =
    let k = c in
    let e = c in
    let q = c in
    let i = c in
    let o = c in
    let s = c in
    let h = c.power-reply.ensures (steps_of c.args.t) (first_once c.args.t c.requires.0 c.requires.1 _ c.round_effect-one.ensures (not-false _ c.if-not-one.false-raw)) in
    all_told c.args.t c.requires.0 c.requires.1 c.requires.2 c.requires.3 h (not-false _ c.if-not-reply.false) _ _ _ _ c.tell.ensures
