-- The measure: the number of rounds.
use Rattle.powers.proofs.+power.Given as goal

abbrev pub decreases-power : goal.decreases-power
decreases-power l = l.k
