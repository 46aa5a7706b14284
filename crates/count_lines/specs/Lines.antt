-- The lines of the report that stand before its plan, as bytes.
use Rattle.std.specs.Prelude.{cond, List, [], ◌∷◌, ◌++◌, ℕ, ltb}
use Rattle.table.specs.declared.Refusal.{Refusal}
use Rattle.table.specs.Refusal.{number_of}
use Rattle.lines.specs.Line.{newline, line1, line2, line3}
use Rattle.plan_lines.specs.PlanLines.{at_word}
use Rattle.rounds.specs.declared.Count.{Count}
use Rattle.rounds.specs.declared.Count.TheVariants.{Finite, Endless, Refused}

-- "clocks "
abbrev pub clocks_word : List ℕ
clocks_word = 99 ∷ 108 ∷ 111 ∷ 99 ∷ 107 ∷ 115 ∷ 32 ∷ []

-- " steps "
abbrev pub steps_word : List ℕ
steps_word = 32 ∷ 115 ∷ 116 ∷ 101 ∷ 112 ∷ 115 ∷ 32 ∷ []

-- " guards "
abbrev pub guards_word : List ℕ
guards_word = 32 ∷ 103 ∷ 117 ∷ 97 ∷ 114 ∷ 100 ∷ 115 ∷ 32 ∷ []

-- "refused "
abbrev pub refused_word : List ℕ
refused_word = 114 ∷ 101 ∷ 102 ∷ 117 ∷ 115 ∷ 101 ∷ 100 ∷ 32 ∷ []

-- "rounds "
abbrev pub rounds_word : List ℕ
rounds_word = 114 ∷ 111 ∷ 117 ∷ 110 ∷ 100 ∷ 115 ∷ 32 ∷ []

-- "without end"
abbrev pub endless_word : List ℕ
endless_word = 119 ∷ 105 ∷ 116 ∷ 104 ∷ 111 ∷ 117 ∷ 116 ∷ 32 ∷ 101 ∷ 110 ∷ 100 ∷ []

-- "clocks N steps L guards G": what was counted in a table
abbrev pub counted_line : ℕ → ℕ → ℕ → List ℕ
counted_line n l g = line3 clocks_word n steps_word l guards_word g

-- "refused N at P": 01's number of the fault, and the byte's place
abbrev pub refused_line : ℕ → ℕ → List ℕ
refused_line number place = line2 refused_word number at_word place

-- the line of a refusal
unfoldable pub refusal_line : Refusal → List ℕ
refusal_line f = refused_line (number_of f.fault) f.place

-- "rounds 2", or "rounds without end": the count
unfoldable pub count_line : Count → List ℕ
count_line (Finite c) = line1 rounds_word c
count_line Endless = rounds_word ++ endless_word ++ newline
count_line (Refused f) = []

-- How many rounds are planned: 2, or as many as the count where it is smaller.
unfoldable pub planned_of : Count → ℕ
planned_of (Finite c) = cond (ltb c 2) c 2
planned_of Endless = 2
planned_of (Refused f) = 0
