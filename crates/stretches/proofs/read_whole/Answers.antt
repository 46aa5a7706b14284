-- Bytes that are too long are refused before the first is read.
use Rattle.stretches.specs.Whole.{tells_long}
use Rattle.stretches.proofs.read_whole.Goals as goal

pub returns-then-len-gt4096 : goal.returns-then-len-gt4096
returns-then-len-gt4096 c = tells_long _ c.if-len-gt4096.true
