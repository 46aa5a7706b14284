-- `records::is_free` meets its contract: a shift to the right divides by a power of two.
use mathlib.Core.Path.{refl}
use Rattle.records.specs.Rules.{is_free}
use Rattle.records.proofs.is_free.Goals as goal

pub returns : goal.returns
unfolding is_free
returns c = refl
