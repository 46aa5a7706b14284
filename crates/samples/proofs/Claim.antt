-- The starred samples follow from the definitions.
use mathlib.Core.List.{Memᴰ}
use Rattle.samples.specs.Samples.{Sample, samples}
use Rattle.samples.specs.Follows.{Follows}
use Rattle.samples.proofs.Counted.{counted}
use Rattle.samples.proofs.Plans.{planned}

-- All that 01 and N1 say of the starred samples, in one claim.
pub samples_follow : (s : Sample) → Memᴰ s samples → Follows s
samples_follow s m =
    let (accepted, count) = counted s m in record { accepted = accepted; counted = count; planned = planned s m }
