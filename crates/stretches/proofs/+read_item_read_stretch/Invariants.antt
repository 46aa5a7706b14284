-- Twice the bytes left is the measure of an item, and one more that of a stretch.
use Prim.Native.Nat.{◌+◌, ◌-◌, ◌*◌}
use lib.ListN.{length}
use Rattle.stretches.proofs.+read_item_read_stretch.Given as goal

abbrev pub decreases-read_item : goal.decreases-read_item
decreases-read_item l = (length l.bytes.now - l.at) * 2

abbrev pub decreases-read_stretch : goal.decreases-read_stretch
decreases-read_stretch l = (length l.bytes.now - l.at) * 2 + 1
