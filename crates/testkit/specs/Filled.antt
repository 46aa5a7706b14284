-- The bytes of a room that is filled with a head, a pattern over and over, and a tail.
use Rattle.std.specs.Prelude.{cond, List, [], ◌∷◌, ◌++◌, ℕ, ◌-◌, ◌%◌, eqb, ltb, length, get_or}
use Rattle.basics.specs.Tab.{tab}

-- Byte k of a pattern over and over; 0 where the pattern is empty.
unfoldable pub repeated_of : List ℕ → ℕ → ℕ
repeated_of pattern k = cond (eqb (length pattern) 0) 0 (get_or pattern (k % length pattern) 0)

-- The byte that has k bytes before it and, with itself, `left` to the end: the head's while it lasts, then the tail's where
-- no more than that is left, and the pattern's between them.
unfoldable pub byte_of : List ℕ → List ℕ → List ℕ → ℕ → ℕ → ℕ
byte_of head pattern tail k left =
    cond (ltb k (length head)) (get_or head k 0)
    (cond (ltb (length tail) left) (repeated_of pattern (k - length head)) (get_or tail (length tail - left) 0))

-- Byte k of a room of some size, and the room.
abbrev pub byte_at : ℕ → List ℕ → List ℕ → List ℕ → ℕ → ℕ
byte_at size head pattern tail k = byte_of head pattern tail k (size - k)

unfoldable pub filled_of : ℕ → List ℕ → List ℕ → List ℕ → List ℕ
filled_of size head pattern tail = tab (byte_at size head pattern tail) size

-- A step that waits for a clock to read at least 1 and resets it, and such a step for each of six clocks.
abbrev waiting : ℕ → List ℕ
waiting clock = 2 ∷ clock ∷ 3 ∷ 1 ∷ 0 ∷ 3 ∷ clock ∷ 4 ∷ []

unfoldable pub wide_steps : List ℕ
wide_steps = waiting 1 ++ waiting 2 ++ waiting 3 ++ waiting 4 ++ waiting 5 ++ waiting 6
