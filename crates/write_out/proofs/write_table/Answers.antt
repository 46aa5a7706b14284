-- The head is copied, the items are written, and then the end.
use native.Mathlib.Omega.{arith}
use Rattle.wire.specs.Records.{Bytes}
use Rattle.write_out.specs.Out.{head_there, items_due, all_written}
use Rattle.write_out.proofs.write_table.Goals as goal
use Rattle.std.proofs.Common.{List, ℕ, slice_index_or, Fits, w8}

-- each byte is below 256
small : (bytes : List ℕ) → ((i : ℕ) → Fits w8 (slice_index_or bytes i 0)) → Bytes bytes
small bytes f i = omega (arith, (f i).fits)

pub slice_bounds-put_word-end : goal.slice_bounds-put_word-end
slice_bounds-put_word-end c = head_there _ (small _ c.type_inv.bytes) c.requires.0

pub write_items-items-requires : goal.write_items-items-requires
write_items-items-requires c =
    items_due _ (small _ c.type_inv.bytes) c.requires.0 _ _ _ c.requires.1 c.put_word-head.ensures

pub bounds-out-end : goal.bounds-out-end
bounds-out-end c =
    (all_written _ (small _ c.type_inv.bytes) c.requires.0 _ _ _ _ _ _ c.requires.1 c.put_word-head.ensures c.write_items-items.ensures).0

pub overflow_add-result : goal.overflow_add-result
overflow_add-result c =
    record { fits = omega (arith, (all_written _ (small _ c.type_inv.bytes) c.requires.0 _ _ _ _ _ _ c.requires.1 c.put_word-head.ensures c.write_items-items.ensures).1) }

pub returns : goal.returns
returns c =
    (all_written _ (small _ c.type_inv.bytes) c.requires.0 _ _ _ _ _ _ c.requires.1 c.put_word-head.ensures c.write_items-items.ensures).2
