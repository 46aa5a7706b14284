-- The records that a row of demands holds, and a list whose first places are filled with them.
use Rattle.std.specs.Prelude.{◌≡◌, refl, List, ℕ, zero, suc, ◌+◌, ◌*◌, length, get_or, set, ℤ, pos, negsuc}
use Rattle.std.proofs.Common.{◌∙◌, ap, length-set}
use Rattle.demands.specs.declared.Listed.{Listed}
use Rattle.demands.specs.declared.Listed.TheVariants.{Written, Refused}
use Rattle.demand_list.specs.declared.Line.{Line}

-- the number, or 0 where it is below 0
abbrev pub nat_of : ℤ → ℕ
nat_of (pos n) = n
nat_of (negsuc n) = 0

-- the number of demands that were written
abbrev pub count_of : Listed → ℕ
count_of (Written n) = n
count_of (Refused f) = 0

-- the demand at place i of a row, four numbers to a demand
abbrev pub line_at : List ℤ → ℕ → Line
line_at r i =
    record {
      from = nat_of (get_or r (i * 4) (pos 0));
      to = nat_of (get_or r (i * 4 + 1) (pos 0));
      bound = get_or r (i * 4 + 2) (pos 0);
      strict = nat_of (get_or r (i * 4 + 3) (pos 0));
    }

-- the list with the first n demands of the row in its first n places
unfoldable pub filled : List ℤ → ℕ → List Line → List Line
filled r zero l = l
filled r (suc n) l = set (filled r n l) n (line_at r n)

-- ---- as the loop has it
pub filled_length : (r : List ℤ) (n : ℕ) (l : List Line) → length (filled r n l) ≡ length l
unfolding filled
filled_length r zero l = refl
filled_length r (suc n) l = length-set (filled r n l) n (line_at r n) ∙ filled_length r n l

pub filled_suc : (r : List ℤ) (n : ℕ) (l : List Line) {d : Line} → d ≡ line_at r n
    → set (filled r n l) n d ≡ filled r (suc n) l
unfolding filled
filled_suc r n l e = ap (set (filled r n l) n) e

pub filled_zero : (r : List ℤ) (l : List Line) → l ≡ filled r 0 l
unfolding filled
filled_zero r l = refl
