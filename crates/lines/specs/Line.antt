-- Lines of words and numbers, as bytes.
use Rattle.std.specs.Prelude.{List, [], ◌∷◌, ◌++◌, ℕ, ◌+◌, length, sum_by}
use Rattle.std.specs.Borrow.{Bor}
use Rattle.text.specs.Decimal.{field}

-- the end of a line
abbrev pub newline : List ℕ
newline = 10 ∷ []

-- a line of one field, of two and of three
abbrev pub line1 : List ℕ → ℕ → List ℕ
line1 a x = field a x ++ newline

abbrev pub line2 : List ℕ → ℕ → List ℕ → ℕ → List ℕ
line2 a x b y = field a x ++ line1 b y

abbrev pub line3 : List ℕ → ℕ → List ℕ → ℕ → List ℕ → ℕ → List ℕ
line3 a x b y c z = field a x ++ line2 b y c z

-- a word, as it is lent, and the number after it
abbrev pub Field : Type 0
Field = Bor (List ℕ) × ℕ

-- its text, and the most places that it takes
abbrev pub field_of : Field → List ℕ
field_of f = field f.0.now f.1

abbrev pub most_of : Field → ℕ
most_of f = length f.0.now + 20

-- A line of fields, as many as there are: of one it is `line1`, of two `line2`, of three `line3`.
abbrev pub line_of : List Field → List ℕ
line_of [] = newline
line_of (f ∷ fs) = field_of f ++ line_of fs

-- the most places that it takes
abbrev pub room_of : List Field → ℕ
room_of fs = sum_by most_of fs + 1
