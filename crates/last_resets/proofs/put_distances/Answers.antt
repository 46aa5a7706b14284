-- The row after each call, as the definition has it.
use Rattle.std.proofs.Common.{◌≡◌, Bool, List, ℕ, ◌*◌, ◌-◌, ◌≤◌, arith, rules}
use Rattle.last_resets.specs.Carried.{carried, Small, zeros, small_up, zeros_small, carried_small, table_rounds}
use Rattle.last_resets.proofs.put_distances.Goals as goal

-- how large the numbers are at first, and after a round
none_small : (row : List ℕ) → row ≡ zeros → Small 0 row
none_small row e = rw e zeros_small

first_small : (flags : List Bool) (steps : ℕ) (row first : List ℕ) → steps ≤ 16 → row ≡ zeros
    → first ≡ carried flags 0 7 row (7 * steps - 7) → Small 105 first
first_small flags steps row first l e f =
    small_up _ 105 first (omega arith) (carried_small flags 0 7 row 0 _ first f (none_small row e))

pub carry-requires : goal.carry-requires
carry-requires c =
    (search rules, search rules, search rules, small_up 0 500 _ (omega arith) (none_small _ c.requires.3))

pub carry-requires-2 : goal.carry-requires-2
carry-requires-2 c =
    let first = first_small _ _ _ _ c.requires.2 c.requires.3 c.carry.ensures in
    (search rules, search rules, search rules, small_up 105 500 _ (omega arith) first)

pub carry-requires-3 : goal.carry-requires-3
carry-requires-3 c =
    let first = first_small _ _ _ _ c.requires.2 c.requires.3 c.carry.ensures in
    let next = carried_small _ _ 0 _ 105 _ _ c.carry-2.ensures first in
    (search rules, search rules, search rules, small_up _ 500 _ (omega arith) next)

pub returns : goal.returns
returns c t good e f =
    table_rounds t good _ _ e f _ c.requires.3 _ _ _ c.carry.ensures c.carry-2.ensures c.carry-3.ensures
