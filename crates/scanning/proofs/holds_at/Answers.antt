-- `scanning::holds_at` meets its contract: its bytes are those of the record at the place.
use mathlib.Core.Path.{◌∙◌}
use Rattle.scanning.specs.Compare.{meets_by}
use Rattle.scanning.proofs.holds_at.Goals as goal

pub returns : goal.returns
returns c =
    let b = c in
    let s = c.args in
    c.compare.ensures
    ∙ meets_by s.bytes.now s.at s.readings.now s.ticks c.byte_in-clock.result
    c.byte_in-relation.result c.byte_in-low.result c.byte_in-high.result c.byte_in-clock.ensures.0
    c.byte_in-relation.ensures.0 c.byte_in-low.ensures.0 c.byte_in-high.ensures.0
