-- `wire::body_whole` meets its contract: a body is cut where fewer bytes are left than its kind says.
use mathlib.Core.Path.{sym}
use native.Mathlib.Omega.{arith}
use Rattle.records.specs.Rules.{body_size}
use Rattle.wire.proofs.Bytes.{cut, uncut}
use Rattle.wire.proofs.body_whole.Goals as goal

pub returns-then-bytes-at : goal.returns-then-bytes-at
returns-then-bytes-at c =
    let s = c in
    sym (cut c.args.bytes.now c.args.at (body_size c.args.k) (omega (arith, c.if-bytes-at.true, c.body_size.ensures.0)))

pub returns : goal.returns
returns c =
    let s = c in
    sym (uncut c.args.bytes.now c.args.at (body_size c.args.k) (omega (arith, c.if-bytes-at.false, c.body_size.ensures.0)))
