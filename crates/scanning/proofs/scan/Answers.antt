-- `scanning::scan` meets its contract: too long bytes are refused.
use mathlib.Core.Path.{◌∙◌}
use Rattle.wire.specs.Laws.{read_long}
use Rattle.scanning.specs.Judged.{scan_refused}
use Rattle.scanning.proofs.scan.Goals as goal

pub returns-then-bytes-gt4096 : goal.returns-then-bytes-gt4096
returns-then-bytes-gt4096 c = c.refuse.ensures ∙ scan_refused _ _ _ _ (read_long _ c.if-bytes-gt4096.true)
