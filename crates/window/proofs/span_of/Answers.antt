-- `window::span_of` meets its contract, by its test. Assumes nothing.
use mathlib.Core.Path.{sym}
use native.Mathlib.Omega.{arith}
use Rattle.window.specs.Spans.{span_closed, span_open}
use Rattle.window.proofs.span_of.Goals as goal

pub returns-then-last-le-FAR : goal.returns-then-last-le-FAR
returns-then-last-le-FAR c = sym (span_closed c.args.first c.args.last (omega arith))

pub returns : goal.returns
returns c = sym (span_open c.args.first c.args.last (omega arith))
