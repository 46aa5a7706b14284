-- The answer room: when it is short, and what four stores in it make.
use Rattle.std.specs.Prelude.{◌≡◌, refl, Bool, true, false, cond, List, [], ◌∷◌, ◌++◌, ℕ, ◌≤◌, ◌<◌, leb, length, get_or, drop, set}
use Rattle.std.proofs.Common.{sym, ap, ◌∙◌, arith, length-set, le-leb}
use Rattle.std.proofs.lemmas.Bool.{lt-leb}
use Rattle.answers.specs.Four.{four}

-- whether an answer room has the four places for an answer
abbrev pub roomy : List ℕ → Bool
roomy room = leb 4 (length room)

-- the answer room at exit: four numbers, and then the rest as it was; or all of it as it was, where it is short
unfoldable pub answered : List ℕ → List ℕ → List ℕ
answered room numbers = cond (roomy room) (numbers ++ drop 4 room) room

-- the test of its length
pub short : (room : List ℕ) → length room < 4 → false ≡ roomy room
short room h = sym (lt-leb 4 (length room) h)

pub roomy_yes : (room : List ℕ) → 4 ≤ length room → true ≡ roomy room
roomy_yes room h = sym (le-leb 4 (length room) h)

-- a short room is kept
pub answered_short : (room numbers : List ℕ) → length room < 4 → room ≡ answered room numbers
unfolding answered
answered_short room numbers h = ap (λ b. cond b (numbers ++ drop 4 room) room) (short room h)

-- four numbers as a list
is_four : (l : List ℕ) → length l ≡ 4 → four (get_or l 0 0) (get_or l 1 0) (get_or l 2 0) (get_or l 3 0) ≡ l
is_four [] h = absurd (omega arith)
is_four (a ∷ []) h = absurd (omega arith)
is_four (a ∷ b ∷ []) h = absurd (omega arith)
is_four (a ∷ b ∷ c ∷ []) h = absurd (omega arith)
is_four (a ∷ b ∷ c ∷ d ∷ []) h = refl
is_four (a ∷ b ∷ c ∷ d ∷ e ∷ l) h = absurd (omega arith)

-- four stores from the front
stores : (l : List ℕ) (a b c d : ℕ) → 4 ≤ length l
    → set (set (set (set l 0 a) 1 b) 2 c) 3 d ≡ four a b c d ++ drop 4 l
stores [] a b c d h = absurd (omega arith)
stores (p ∷ []) a b c d h = absurd (omega arith)
stores (p ∷ q ∷ []) a b c d h = absurd (omega arith)
stores (p ∷ q ∷ r ∷ []) a b c d h = absurd (omega arith)
stores (p ∷ q ∷ r ∷ s ∷ l) a b c d h = refl

-- so four stores of the numbers answer
pub put_answered : (room numbers : List ℕ) → 4 ≤ length room → length numbers ≡ 4
    → set (set (set (set room 0 (get_or numbers 0 0)) 1 (get_or numbers 1 0)) 2 (get_or numbers 2 0)) 3 (get_or numbers 3 0)
    ≡ answered room numbers
unfolding answered
put_answered room numbers h four-long =
    stores room _ _ _ _ h
    ∙ ap (λ l. l ++ drop 4 room) (is_four numbers four-long)
    ∙ ap (λ b. cond b (numbers ++ drop 4 room) room) (roomy_yes room h)

-- after one store and after two, there are still four places
pub second_place : (room : List ℕ) (a : ℕ) → 4 ≤ length room → 1 < length (set room 0 a)
second_place room a h = omega (arith, length-set room 0 a)

pub third_place : (room : List ℕ) (a b : ℕ) → 4 ≤ length room → 2 < length (set (set room 0 a) 1 b)
third_place room a b h = omega (arith, length-set room 0 a, length-set (set room 0 a) 1 b)
