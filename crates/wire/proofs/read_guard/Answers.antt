-- `wire::read_guard` meets its contract: its bytes are those of the record at the place.
use mathlib.Core.Path.{refl, ◌∙◌}
use Prim.Native.Nat.{◌+◌, ◌*◌}
use Rattle.records.specs.Rules.{guarded}
use Rattle.wire.proofs.Bytes.{guard_is}
use Rattle.wire.proofs.read_guard.Goals as goal

pub returns : goal.returns
returns c =
    let s = c in
    c.take_guard.ensures
    ∙ (λ j. guarded c.args.t c.args.at (c.byte_in-clock.ensures.0 j)
    (c.byte_in-relation.ensures.0 j)
    (c.byte_in-low.ensures.0 j + c.byte_in-high.ensures.0 j * 256))
    ∙ guard_is c.args.bytes.now c.args.at c.args.t 2 refl
