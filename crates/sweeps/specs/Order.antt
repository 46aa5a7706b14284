-- The demands that a pass checks, in its order: first those of the variant of the start; then of each step and clock the tightest
-- guards. Forth, from step to step, go those that raise the step's own moment; back, from the last step to the first, those that raise
-- an earlier one, and all guards between two clocks; last comes that no clock was last reset after the start.
-- They are told by rows of numbers, with a place 7 * s + j for step s of a round and clock j: the keys of the tightest guards from
-- below and from above, and the distances to the last resets.
use Rattle.std.specs.Prelude.{◌≡◌, true, false, List, [], ◌∷◌, ◌++◌, map, get_or}
use Rattle.std.proofs.Math.Path.{refl, ap}
use Rattle.std.proofs.Common.{◌∙◌, append-nil, arith}
use Prim.Native.Nat.{ℕ, zero, suc, ◌+◌, ◌*◌, ◌%◌, ◌<◌}
use Rattle.runs.specs.declared.Demand.{Demand}
use Rattle.table.specs.Step.{step_at}
use Rattle.table.specs.declared.Table.{Table}
use Rattle.runs.specs.Demand.{plus, guards_demands, Starts, moved, start_demands, any_starts}
use Rattle.sides.specs.Sides.{Side}
use Rattle.sides.specs.Tight.{paired, key_demands}
use Rattle.last_resets.specs.Distance.{last_of}

-- the place of a step of a round and a clock
abbrev pub cell : ℕ → ℕ → ℕ
cell s j = 7 * s + j

-- One side of step i of K, which is step s of its round: on m clocks from clock j on.
unfoldable pub side_of : Side → List ℕ → List ℕ → ℕ → ℕ → ℕ → ℕ → ℕ → List Demand
side_of b keys far K s i j zero = []
side_of b keys far K s i j (suc m) =
    key_demands b (get_or keys (cell s j) 0) (last_of (get_or far (cell s j) 0) K i j) (suc i) ++ side_of b keys far K s i (suc j) m

-- Step i forth: it is not before the step before it, and its tightest guards from below; rounds have L steps and n clocks.
abbrev pub forth_at : List ℕ → List ℕ → ℕ → ℕ → ℕ → ℕ → List Demand
forth_at low far L n K i = (plus (suc i) i 0 false ∷ []) ++ side_of false low far K (i % L) i 1 n

-- m steps from step i on
unfoldable pub forth_of : List ℕ → List ℕ → ℕ → ℕ → ℕ → ℕ → ℕ → List Demand
forth_of low far L n K i zero = []
forth_of low far L n K i (suc m) = forth_at low far L n K i ++ forth_of low far L n K (suc i) m

-- The guards between two clocks of step i of K, which is step s of its round in the table T.
abbrev pub leads_at : Table → List ℕ → ℕ → ℕ → ℕ → List Demand
leads_at T far K s i = guards_demands (paired (step_at T s).guards) (suc i) (λ j. last_of (get_or far (cell s j) 0) K i j)

-- Step i back: its tightest guards from above, and those between two clocks.
abbrev pub upper_at : List ℕ → List ℕ → ℕ → ℕ → ℕ → ℕ → List Demand
upper_at up far L n K i = side_of true up far K (i % L) i 1 n

abbrev pub back_at : List ℕ → Table → List ℕ → ℕ → ℕ → ℕ → ℕ → List Demand
back_at up T far L n K i = upper_at up far L n K i ++ leads_at T far K (i % L) i

-- the first i steps, from the last of them on
unfoldable pub back_of : List ℕ → Table → List ℕ → ℕ → ℕ → ℕ → ℕ → List Demand
back_of up T far L n K zero = []
back_of up T far L n K (suc i) = back_at up T far L n K i ++ back_of up T far L n K i

-- those from above alone
unfoldable pub upper_of : List ℕ → List ℕ → ℕ → ℕ → ℕ → ℕ → List Demand
upper_of up far L n K zero = []
upper_of up far L n K (suc i) = upper_at up far L n K i ++ upper_of up far L n K i

-- the demands of D on n clocks, from clock j on
unfoldable pub partners_from : ℕ → Starts → ℕ → ℕ → List Demand
partners_from K D j zero = []
partners_from K D j (suc n) = map (moved K) (D j) ++ partners_from K D (suc j) n

-- what comes after all steps forth
abbrev pub return_of : List ℕ → Table → List ℕ → ℕ → ℕ → ℕ → List Demand
return_of up T far L n K = back_of up T far L n K K ++ start_demands K any_starts 1 n

-- a whole pass, when D says which starts are allowed
abbrev pub sweep_of : List ℕ → List ℕ → Table → List ℕ → Starts → ℕ → ℕ → ℕ → List Demand
sweep_of low up T far D L n K = partners_from K D 1 n ++ (forth_of low far L n K 0 K ++ return_of up T far L n K)

-- ---- clause by clause
pub side_none : (b : Side) (keys far : List ℕ) (K s i j : ℕ) → side_of b keys far K s i j 0 ≡ []
unfolding side_of
side_none b keys far K s i j = refl

pub side_more : (b : Side) (keys far : List ℕ) (K s i j m : ℕ)
    → side_of b keys far K s i j (suc m)
    ≡ key_demands b (get_or keys (cell s j) 0) (last_of (get_or far (cell s j) 0) K i j) (suc i) ++ side_of b keys far K s i (suc j) m
unfolding side_of
side_more b keys far K s i j m = refl

module _ (low far : List ℕ) (L n K : ℕ) where
  pub forth_none : (i : ℕ) → forth_of low far L n K i 0 ≡ []
  unfolding forth_of
  forth_none i = refl

  pub forth_more : (i m : ℕ) → forth_of low far L n K i (suc m) ≡ forth_at low far L n K i ++ forth_of low far L n K (suc i) m
  unfolding forth_of
  forth_more i m = refl

module _ (up : List ℕ) (T : Table) (far : List ℕ) (L n K : ℕ) where
  pub back_none : back_of up T far L n K 0 ≡ []
  unfolding back_of
  back_none = refl

  pub back_more : (i : ℕ) → back_of up T far L n K (suc i) ≡ back_at up T far L n K i ++ back_of up T far L n K i
  unfolding back_of
  back_more i = refl

module _ (up far : List ℕ) (L n K : ℕ) where
  pub upper_none : upper_of up far L n K 0 ≡ []
  unfolding upper_of
  upper_none = refl

  pub upper_more : (i : ℕ) → upper_of up far L n K (suc i) ≡ upper_at up far L n K i ++ upper_of up far L n K i
  unfolding upper_of
  upper_more i = refl

  -- they are all where no step has a guard between two clocks
  pub back_upper : (T : Table) (i : ℕ) → ((s : ℕ) → s < i → leads_at T far K (s % L) s ≡ []) → back_of up T far L n K i ≡ upper_of up far L n K i
  unfolding back_of upper_of
  back_upper T zero h = refl
  back_upper T (suc i) h =
      ap (λ ds. (upper_at up far L n K i ++ ds) ++ back_of up T far L n K i) (h i (omega arith))
      ∙ ap (λ ds. ds ++ back_of up T far L n K i) (append-nil (upper_at up far L n K i))
      ∙ ap (λ ds. upper_at up far L n K i ++ ds) (back_upper T i (λ s l. h s (omega arith)))

module _ (K : ℕ) (D : Starts) where
  pub partners_none : (j : ℕ) → partners_from K D j 0 ≡ []
  unfolding partners_from
  partners_none j = refl

  pub partners_more : (j n : ℕ) → partners_from K D j (suc n) ≡ map (moved K) (D j) ++ partners_from K D (suc j) n
  unfolding partners_from
  partners_more j n = refl
