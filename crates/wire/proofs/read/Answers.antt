-- `wire::read` meets its contract: too long bytes are refused, and others are taken record by record.
use mathlib.Core.Path.{sym}
use Rattle.wire.specs.Laws.{read_long}
use Rattle.wire.proofs.read.Goals as goal

pub returns-then-bytes-gt4096 : goal.returns-then-bytes-gt4096
returns-then-bytes-gt4096 c = sym (read_long _ c.if-bytes-gt4096.true)
