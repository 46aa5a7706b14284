-- The words of a card, as bytes, and the pieces of a text.
use Rattle.std.specs.Prelude.{Bool, true, false, cond, not, ◌&&◌, ◌||◌, List, [], ◌∷◌, ℕ, eqb}
use Rattle.std.proofs.Math.Option.{Option, none, some}
use Rattle.table.specs.declared.Relation.{Relation}
use Rattle.table.specs.declared.Relation.TheVariants.{Under, AtMost, Exactly, AtLeast, Over}
use Rattle.text.specs.Decimal.{value_from}
use Rattle.records.specs.Rules.{within}

-- "timers", "zero", "step", "end"
abbrev pub timers_word : List ℕ
timers_word = 116 ∷ 105 ∷ 109 ∷ 101 ∷ 114 ∷ 115 ∷ []

abbrev pub zero_word : List ℕ
zero_word = 122 ∷ 101 ∷ 114 ∷ 111 ∷ []

abbrev pub step_word : List ℕ
step_word = 115 ∷ 116 ∷ 101 ∷ 112 ∷ []

abbrev pub end_word : List ℕ
end_word = 101 ∷ 110 ∷ 100 ∷ []

-- "<", "<=", "=", ">=", ">"
abbrev pub under_sign : List ℕ
under_sign = 60 ∷ []

abbrev pub at_most_sign : List ℕ
at_most_sign = 60 ∷ 61 ∷ []

abbrev pub exactly_sign : List ℕ
exactly_sign = 61 ∷ []

abbrev pub at_least_sign : List ℕ
at_least_sign = 62 ∷ 61 ∷ []

abbrev pub over_sign : List ℕ
over_sign = 62 ∷ []

-- whether a word is empty, and whether two are the same
abbrev pub is_empty : List ℕ → Bool
is_empty [] = true
is_empty (c ∷ cs) = false

unfoldable pub same : List ℕ → List ℕ → Bool
same [] [] = true
same [] (d ∷ ds) = false
same (c ∷ cs) [] = false
same (c ∷ cs) (d ∷ ds) = eqb c d && same cs ds

-- the relation of a sign, if it is one
abbrev pub relation_in : List ℕ → Option Relation
relation_in w =
    cond (same w under_sign) (some Under)
    (cond (same w at_most_sign) (some AtMost)
    (cond (same w exactly_sign) (some Exactly)
    (cond (same w at_least_sign) (some AtLeast)
    (cond (same w over_sign) (some Over)
    none))))

-- a decimal number of any length: digits, 48 to 57, and the first is 0 only in "0"
unfoldable pub is_digits : List ℕ → Bool
is_digits [] = true
is_digits (c ∷ cs) = within 48 c 57 && is_digits cs

unfoldable pub is_number : List ℕ → Bool
is_number [] = false
is_number (c ∷ cs) = is_digits (c ∷ cs) && (not (eqb c 48) || is_empty cs)

abbrev pub value : List ℕ → ℕ
value ds = value_from 0 ds

-- the pieces of a text between the places of a byte: one more than the byte has places
unfoldable pub onto : ℕ → List (List ℕ) → List (List ℕ)
onto c [] = (c ∷ []) ∷ []
onto c (p ∷ ps) = (c ∷ p) ∷ ps

unfoldable pub pieces : ℕ → List ℕ → List (List ℕ)
pieces b [] = [] ∷ []
pieces b (c ∷ cs) = cond (eqb c b) ([] ∷ pieces b cs) (onto c (pieces b cs))
