-- The starred samples of 01 and N1: bytes, variant of the start, count, plans and loops.
use Rattle.std.specs.Prelude.{List, [], ◌∷◌, ℕ, ℤ, pos, neg_ℤ}
use Rattle.runs.specs.declared.Start.{Start}
use Rattle.runs.specs.declared.Start.TheVariants.{LogIn, MidShift}
use Rattle.rounds.specs.declared.Count.{Count}
use Rattle.rounds.specs.declared.Count.TheVariants.{Finite, Endless}

-- An answer to "plan for k" that is given: the parts to a tick, the moments and the starts; or a loop and the bounds of
-- its demands.
pub data Plan : Type 0 where
  planned : (k parts : ℕ) (moments starts : List ℕ) → Plan
  looped : (k : ℕ) (row : List ℕ) (bounds : List ℤ) → Plan

-- A table's bytes, the variant that is asked, its count, and the plans and loops that are given.
pub record Sample : Type 0 where
  pub bytes : List ℕ
  pub start : Start
  pub count : Count
  pub plans : List Plan

-- −c
abbrev less : ℕ → ℤ
less c = neg_ℤ (pos c)

abbrev sample : List ℕ → Start → Count → List Plan → Sample
sample b v c p = record { bytes = b; start = v; count = c; plans = p }

-- Clock 1 is x, clock 2 is y.
-- S1: x at least 3, zero x
abbrev s1 : List ℕ
s1 = 1 ∷ 1 ∷ 2 ∷ 1 ∷ 3 ∷ 3 ∷ 0 ∷ 3 ∷ 1 ∷ 4 ∷ 5 ∷ []

-- S2: x at least 3, y at most 5, zero x
abbrev s2 : List ℕ
s2 = 1 ∷ 2 ∷ 2 ∷ 1 ∷ 3 ∷ 3 ∷ 0 ∷ 2 ∷ 2 ∷ 1 ∷ 5 ∷ 0 ∷ 3 ∷ 1 ∷ 4 ∷ 5 ∷ []

unfoldable pub samples : List Sample
samples =
    -- 01's, which N1 gives to the mid-shift variant
    sample s1 MidShift Endless (planned 2 4 (0 ∷ 12 ∷ []) (12 ∷ []) ∷ [])
    ∷ sample s2 MidShift (Finite 2)
    (planned 2 5 (0 ∷ 15 ∷ []) (15 ∷ 0 ∷ []) ∷ looped 3 (3 ∷ 2 ∷ 1 ∷ 0 ∷ 5 ∷ []) (less 3 ∷ less 3 ∷ pos 0 ∷ pos 0 ∷ pos 5 ∷ []) ∷ [])
    -- S3: x at least 3, y under 6, zero x
    ∷ sample (1 ∷ 2 ∷ 2 ∷ 1 ∷ 3 ∷ 3 ∷ 0 ∷ 2 ∷ 2 ∷ 0 ∷ 6 ∷ 0 ∷ 3 ∷ 1 ∷ 4 ∷ 5 ∷ []) MidShift (Finite 2) []
    -- S4: x at least 3, y at most 6, zero x
    ∷ sample (1 ∷ 2 ∷ 2 ∷ 1 ∷ 3 ∷ 3 ∷ 0 ∷ 2 ∷ 2 ∷ 1 ∷ 6 ∷ 0 ∷ 3 ∷ 1 ∷ 4 ∷ 5 ∷ []) MidShift (Finite 3) []
    -- S5: x over 0, y at most 0, zero x
    ∷ sample (1 ∷ 2 ∷ 2 ∷ 1 ∷ 4 ∷ 0 ∷ 0 ∷ 2 ∷ 2 ∷ 1 ∷ 0 ∷ 0 ∷ 3 ∷ 1 ∷ 4 ∷ 5 ∷ []) MidShift (Finite 1) []
    -- S6: x under 0
    ∷ sample (1 ∷ 1 ∷ 2 ∷ 1 ∷ 0 ∷ 0 ∷ 0 ∷ 4 ∷ 5 ∷ []) MidShift (Finite 0) []
    -- S7: x at most 0 and x over 0, zero x
    ∷ sample (1 ∷ 1 ∷ 2 ∷ 1 ∷ 1 ∷ 0 ∷ 0 ∷ 2 ∷ 1 ∷ 4 ∷ 0 ∷ 0 ∷ 3 ∷ 1 ∷ 4 ∷ 5 ∷ []) MidShift (Finite 0) []
    -- S8: x over 0, y under 1, zero x
    ∷ sample (1 ∷ 2 ∷ 2 ∷ 1 ∷ 4 ∷ 0 ∷ 0 ∷ 2 ∷ 2 ∷ 0 ∷ 1 ∷ 0 ∷ 3 ∷ 1 ∷ 4 ∷ 5 ∷ []) MidShift Endless
    (planned 3 6 (0 ∷ 1 ∷ 2 ∷ []) (1 ∷ 0 ∷ []) ∷ [])
    -- S9: x exactly 2, nothing zeroed
    ∷ sample (1 ∷ 1 ∷ 2 ∷ 1 ∷ 2 ∷ 2 ∷ 0 ∷ 4 ∷ 5 ∷ []) MidShift Endless (planned 2 4 (0 ∷ 0 ∷ []) (8 ∷ []) ∷ [])
    -- S10: x at most 2, zero y; then y at least 3, zero x
    ∷ sample (1 ∷ 2 ∷ 2 ∷ 1 ∷ 1 ∷ 2 ∷ 0 ∷ 3 ∷ 2 ∷ 4 ∷ 2 ∷ 2 ∷ 3 ∷ 3 ∷ 0 ∷ 3 ∷ 1 ∷ 4 ∷ 5 ∷ []) MidShift Endless
    (planned 2 7 (0 ∷ 21 ∷ 21 ∷ 42 ∷ []) (0 ∷ 0 ∷ []) ∷ [])
    -- N1's, from log-in
    ∷ sample s1 LogIn Endless (planned 2 4 (12 ∷ 24 ∷ []) (0 ∷ []) ∷ [])
    ∷ sample s2 LogIn (Finite 1) []
    ∷ []
