-- `stretches::close` meets its contract: the tests come in the definition's order.
use mathlib.Core.Path.{subst}
use Prim.Native.Nat.{◌+◌, ◌≤◌, ◌<◌}
use native.Mathlib.Omega.{arith}
use borrow.Author.Tests.{lt-ltb, le-ltb, le-leb, lt-leb}
use Rattle.stretches.specs.declared.Part.TheVariants as part
use Rattle.stretches.specs.Reading.{at_close}
use Rattle.stretches.specs.Parts.{closed_of}
use Rattle.stretches.proofs.close.Goals as goal

pub returns-then-t-o : goal.returns-then-t-o
unfolding closed_of
returns-then-t-o c =
    let a = c.args in
    rw (le-ltb a.o.steps a.t.steps c.if-t-o.true) c.stop.ensures

pub repeat-steps-requires : goal.repeat-steps-requires
repeat-steps-requires c =
    let p = c.requires.0 in (p.times, p.after, omega (arith, p.few))

pub repeat-guards-requires : goal.repeat-guards-requires
repeat-guards-requires c =
    let p = c.requires.0 in (p.times, p.more, p.room)

pub returns-then-steps-gt16 : goal.returns-then-steps-gt16
unfolding closed_of
returns-then-steps-gt16 c =
    let a = c.args in
    rw (
      lt-ltb a.o.steps a.t.steps c.if-t-o.false,
      lt-leb (at_close a.t a.o).steps 16 (subst (λ n. 16 < n) c.repeat-steps.ensures c.if-steps-gt16.true),
    )
    c.stop-then-steps-gt16.ensures

pub returns-then-guards-gt64 : goal.returns-then-guards-gt64
unfolding closed_of
returns-then-guards-gt64 c =
    let a = c.args in
    let few : c.repeat-steps.result ≤ 16 = omega arith in
    rw (
      lt-ltb a.o.steps a.t.steps c.if-t-o.false,
      le-leb (at_close a.t a.o).steps 16 (subst (λ n. n ≤ 16) c.repeat-steps.ensures few),
      lt-leb (at_close a.t a.o).guards 64 (subst (λ n. 64 < n) c.repeat-guards.ensures c.if-guards-gt64.true),
    )
    c.stop-then-guards-gt64.ensures

pub returns : goal.returns
unfolding closed_of
returns c =
    let a = c.args in
    rw (
      lt-ltb a.o.steps a.t.steps c.if-t-o.false,
      le-leb (at_close a.t a.o).steps 16 (subst (λ n. n ≤ 16) c.repeat-steps.ensures c.if-steps-gt16.false),
      le-leb (at_close a.t a.o).guards 64 (subst (λ n. n ≤ 64) c.repeat-guards.ensures c.if-guards-gt64.false),
    )
    (λ i. part.Read
    (record { clocks = a.t.clocks; steps = c.repeat-steps.ensures i; guards = c.repeat-guards.ensures i; pending = 0 })
    (a.place + 1))
