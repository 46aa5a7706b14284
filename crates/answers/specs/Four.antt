-- The four numbers of a refusal and of the answer to "read". The first is 0, or 01's number of the refusal.
use Rattle.std.specs.Prelude.{List, [], ◌∷◌, ℕ}
use Rattle.table.specs.Refusal.{number_of}
use Rattle.table.specs.declared.Refusal.{Refusal}
use Rattle.table.specs.declared.Read.{Read}
use Rattle.table.specs.declared.Read.TheVariants as read

abbrev pub four : ℕ → ℕ → ℕ → ℕ → List ℕ
four a b c d = a ∷ b ∷ c ∷ d ∷ []

-- refused: the number and the place
abbrev pub refused_numbers : Refusal → List ℕ
refused_numbers f = four (number_of f.fault) f.place 0 0

-- read: n, L and the number of guards (01: bounds)
abbrev pub read_numbers : Read → List ℕ
read_numbers (read.Counted n L g) = four 0 n L g
read_numbers (read.Refused f) = refused_numbers f
