-- The two ways of the test are the two of `relax_of`.
use Rattle.std.proofs.Common.{sym}
use borrow.Author.Tests.{lt-ltb, le-ltb}
use Rattle.paths.specs.State.{relax_hit, relax_miss}
use Rattle.paths.proofs.relax.Goals as goal

pub returns-then-x-loss : goal.returns-then-x-loss
returns-then-x-loss c =
    let p = lt-ltb _ _ c.if-x-loss.true in
    record { raised = sym p; after = sym (relax_hit _ _ _ p) }

pub returns : goal.returns
returns c =
    let p = le-ltb _ _ c.if-x-loss.false in
    record { raised = sym p; after = sym (relax_miss _ _ _ p) }
