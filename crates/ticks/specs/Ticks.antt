-- Ticks of the rail's counter, which has 16 bits and starts again after 65,535; and readings in whole ticks.
use Rattle.std.specs.Prelude.{◌≡◌, ℕ, ◌+◌, ◌-◌, ◌%◌, ◌<◌, min}
use Rattle.std.proofs.Common.{arith}

-- elapsed ticks: the difference of two counters on the circle of 65,536
abbrev pub elapsed_of : ℕ → ℕ → ℕ
elapsed_of last counter = (counter + 65536 - last) % 65536

-- a reading is held at 4,001 once there: no constant is above 4,000
abbrev pub held : ℕ → ℕ
held reading = min reading 4001

-- a reading some ticks later
abbrev pub later_of : ℕ → ℕ → ℕ
later_of reading ticks = held (reading + ticks)

-- What the rail's counter shows at a time since log-in, when log-in's own counter was `first`.
abbrev pub counter_at : ℕ → ℕ → ℕ
counter_at first time = (first + time) % 65536

-- Fewer than 65,536 ticks after a time, the difference of the two counters is the time that has passed.
pub elapsed_passed : (first a t : ℕ) → t < 65536 → elapsed_of (counter_at first a) (counter_at first (a + t)) ≡ t
elapsed_passed first a t h = omega arith
