-- The weight of a bound: how far its ticks lie from 0, either way.
use Rattle.std.specs.Prelude.{ℕ, ◌+◌, ◌≤◌}
use Rattle.std.proofs.Common.{arith}
use Rattle.zones.specs.Bound.{Bound, none, some, half, half_sum, ◌⊑◌, ◌⊕◌}

abbrev pub Spans : ℕ → Bound → Type 0
Spans g none = Unit {0}
Spans g (some e z) = (z ≤ half e + g) × (half e ≤ z + g)

-- The bound is none, or its ticks lie between -g and g.
pub record Within (g : ℕ) (a : Bound) : Type 0 where
  pub spans : Spans g a

-- Weights add up at most.
pub within_sum : (g h : ℕ) (a b : Bound) → Within g a → Within h b → Within (g + h) (a ⊕ b)
within_sum g h none b p q = record { spans = tt }
within_sum g h (some e z) none p q = record { spans = tt }
within_sum g h (some e z) (some f y) p q =
    record { spans = (omega (arith, half_sum e f), omega (arith, half_sum e f)) }

-- Of two bounds that are as tight, one is within g where the other is.
pub within_same : (g : ℕ) (a b : Bound) → a ⊑ b → b ⊑ a → Within g a → Within g b
within_same g none none p q w = w
within_same g none (some f y) p q w = absurd p.le
within_same g (some e z) none p q w = record { spans = tt }
within_same g (some e z) (some f y) p q w =
    record { spans = (omega (arith, p.le, q.le), omega (arith, p.le, q.le)) }

pub within_wider : (g h : ℕ) (a : Bound) → g ≤ h → Within g a → Within h a
within_wider g h none l w = record { spans = tt }
within_wider g h (some e z) l w = record { spans = (omega arith, omega arith) }
