-- What the program finds at a place of a text, in its own order.
use Rattle.std.specs.Prelude.{Bool, true, false, cond, ◌&&◌, List, [], ◌∷◌, ◌++◌, ℕ, ◌+◌, min, eqb, length, drop}
use Rattle.text.specs.Decimal.{value_from}
use Rattle.records.specs.Rules.{within}
use Rattle.cards.specs.Words.{timers_word, zero_word, step_word, end_word}
use Rattle.cards.specs.Convert.{sign_of}
use Rattle.table.specs.declared.Relation.{Relation}
use Rattle.table.specs.declared.Relation.TheVariants.{Under, AtMost, Exactly, AtLeast, Over}
use Rattle.format.specs.Encode.{relation_code}
use Rattle.card_lines.specs.declared.Numeral.{Numeral}
use Rattle.card_lines.specs.declared.Found.{Found}

-- whether a word stands at the front of a text
unfoldable pub starts : List ℕ → List ℕ → Bool
starts [] s = true
starts (w ∷ ws) [] = false
starts (w ∷ ws) (c ∷ cs) = eqb c w && starts ws cs

-- the digits at the front of a text, and the number there: a 0 is one by itself
unfoldable pub digits_in : List ℕ → List ℕ
digits_in [] = []
digits_in (c ∷ cs) = cond (within 48 c 57) (c ∷ digits_in cs) []

abbrev pub numeral_in : List ℕ → List ℕ
numeral_in s = cond (starts (48 ∷ []) s) (48 ∷ []) (digits_in s)

-- a value, of which all from 65536 on are one
abbrev pub held : ℕ → ℕ
held x = min x 65536

-- digits that stand at a place, after those of a value, as a number
abbrev pub standing : ℕ → ℕ → List ℕ → Numeral
standing before at ds = record { value = held (value_from before ds); next = at + length ds }

unfoldable pub digits_at : List ℕ → ℕ → Numeral
digits_at text at = standing 0 at (digits_in (drop at text))

unfoldable pub number_at : List ℕ → ℕ → Numeral
number_at text at = standing 0 at (numeral_in (drop at text))

-- the sign of a relation with its blanks, or else
abbrev pub sign_text : Relation → List ℕ
sign_text r = 32 ∷ sign_of r ++ 32 ∷ []

unfoldable pub sign_else : List ℕ → ℕ → Relation → Numeral → Numeral
sign_else text at r else =
    cond (starts (sign_text r) (drop at text)) (record { value = relation_code r; next = at + length (sign_text r) }) else

unfoldable pub sign_at : List ℕ → ℕ → Numeral
sign_at text at =
    sign_else text at Under (sign_else text at AtMost (sign_else text at Exactly (sign_else text at AtLeast (sign_else text at Over
    (record { value = 5; next = at })))))

abbrev pub wrong_found : Found
wrong_found = record { kind = 0; first = 0; relation = 0; second = 0; next = 0 }

-- what is found, and then the line feed
unfoldable pub closed_at : List ℕ → Found → Found
closed_at text f =
    cond (starts (10 ∷ []) (drop f.next text))
    (record { kind = f.kind; first = f.first; relation = f.relation; second = f.second; next = f.next + 1 })
    wrong_found

-- a number, and the end of the line
unfoldable pub numbered_at : List ℕ → ℕ → ℕ → Found
numbered_at text at kind =
    cond (eqb (number_at text at).next at) wrong_found
    (closed_at text (record { kind = kind; first = (number_at text at).value; relation = 0; second = 0; next = (number_at text at).next }))

-- a number, a sign and a number, and the end of the line
abbrev pub limit_at : List ℕ → Numeral → Numeral → Numeral → Found
limit_at text n sign c =
    cond (eqb c.next sign.next) wrong_found
    (closed_at text (record { kind = 2; first = n.value; relation = sign.value; second = c.value; next = c.next }))

abbrev pub related_at : List ℕ → Numeral → Numeral → Found
related_at text n sign = cond (eqb sign.value 5) wrong_found (limit_at text n sign (number_at text sign.next))

unfoldable pub bound_at : List ℕ → ℕ → Found
bound_at text at =
    cond (eqb (number_at text at).next at) wrong_found
    (related_at text (number_at text at) (sign_at text (number_at text at).next))

-- a line
unfoldable pub line_at : List ℕ → ℕ → Found
line_at text at =
    cond (starts (timers_word ++ 32 ∷ []) (drop at text)) (numbered_at text (at + 7) 1)
    (cond (starts (zero_word ++ 32 ∷ []) (drop at text)) (numbered_at text (at + 5) 3)
    (cond (starts (step_word ++ 10 ∷ []) (drop at text)) (record { kind = 4; first = 0; relation = 0; second = 0; next = at + 5 })
    (cond (starts (end_word ++ 10 ∷ []) (drop at text)) (record { kind = 5; first = 0; relation = 0; second = 0; next = at + 4 })
    (bound_at text at))))
