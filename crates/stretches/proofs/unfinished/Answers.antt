-- By the kind, and by what follows it.
use mathlib.Core.Path.{◌≡◌, subst}
use mathlib.Core.Logic.{◌≢◌}
use Prim.Native.Nat.{◌≤◌, ◌<◌}
use borrow.Author.Tests.{eq-eqb, ne_eqb, le-leb, lt-leb}
use Rattle.stretches.specs.Parts.{unfinished_of}
use Rattle.stretches.proofs.unfinished.Goals as goal

pub returns-then-depth-eq0 : goal.returns-then-depth-eq0
unfolding unfinished_of
returns-then-depth-eq0 c =
    let a = c.args in
    let end : a.k ≡ 5 = c.if-k-eq5.true in
    let outside : a.depth ≡ 0 = c.if-depth-eq0.true in
    rw (eq-eqb a.k 5 end, eq-eqb a.depth 0 outside)

pub returns-then-k-eq5 : goal.returns-then-k-eq5
unfolding unfinished_of
returns-then-k-eq5 c =
    let a = c.args in
    let end : a.k ≡ 5 = c.if-k-eq5.true in
    let inside : a.depth ≢ 0 = c.if-depth-eq0.false in
    rw (eq-eqb a.k 5 end, ne_eqb a.depth 0 inside)

pub returns-then-left-body_size : goal.returns-then-left-body_size
unfolding unfinished_of
returns-then-left-body_size c =
    let s = c.args in
    rw (ne_eqb _ _ c.if-k-eq5.false, lt-leb _ s.left (subst (λ n. s.left < n) c.body_size.ensures.0 c.if-left-body_size.true))

pub returns : goal.returns
unfolding unfinished_of
returns c =
    let s = c.args in
    rw (ne_eqb _ _ c.if-k-eq5.false, le-leb _ s.left (subst (λ n. n ≤ s.left) c.body_size.ensures.0 c.if-left-body_size.false))
