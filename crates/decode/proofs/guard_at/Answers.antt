-- `decode::guard_at` meets its contract: its bytes are those of the record at the place.
use mathlib.Core.Path.{◌∙◌}
use mathlib.Core.Bool.{false}
use Prim.Native.Nat.{◌+◌, ◌*◌}
use Rattle.wire.specs.Laws.{guard_in_lem}
use Rattle.decode.proofs.guard_at.Goals as goal

pub returns : goal.returns
returns c =
    (λ j. record {
      clock = c.byte_at-clock.result;
      second = 0;
      relation = c.relation_of-relation.ensures j;
      minus = false;
      constant = c.byte_at-low.result + c.byte_at-high.result * 256;
    })
    ∙ guard_in_lem c.args.bytes.now c.args.at _ _ _ _ c.byte_at-clock.ensures.0
    c.byte_at.ensures.0 c.byte_at-low.ensures.0 c.byte_at-high.ensures.0
