-- The word stands in the part that it is copied to, and the rest is kept.
use Rattle.std.proofs.Common.{◌≡◌, ℕ, ◌+◌, ◌≤◌, List, length, refl, sym, arith, append_assoc}
use lib.Seq.{drop-drop}
use borrow.Rule.Slice.PartMut.{put_mid}
use Rattle.text.specs.Over.{Written, over_fits}
use Rattle.text.proofs.put_word.Goals as goal

copied : (l part text : List ℕ) (at k : ℕ) → part ≡ text → k ≡ length text → at + length text ≤ length l
    → Written l at text (put_mid at k l part) (at + length text)
copied l part text at k e f h =
    record { contents = rw (e, f, drop-drop, ← append_assoc) (sym (over_fits l at text h)); place = refl }

pub returns : goal.returns
returns c = copied _ _ _ _ _ c.copy_from_slice.ensures.after (omega arith) c.requires
