-- What contradicts a run: a negative cycle of difference constraints.
use Rattle.std.specs.Prelude.{◌≡◌, ◌⊎◌, true, ℕ, ◌+◌, ◌≤◌, ◌<◌, length, get_or}
use mathlib.Core.List.{List, [], ◌∷◌, Memᴰ}
use Rattle.basics.specs.Distinct.{Distinct}
use Rattle.runs.specs.declared.Demand.{Demand}

-- e is a demand from a to b, one of ds
pub record Link (ds : List Demand) (a b : ℕ) (e : Demand) : Type 0 where
  pub among : Memᴰ e ds
  pub from : e.from ≡ a
  pub to : e.to ≡ b

-- e is at least as tight as d: its bound is smaller, or equal, and then e is strict if d is
abbrev pub AsTight : Demand → Demand → Type 0
AsTight e d =
    (e.up + d.down < d.up + e.down)
    ⊎ ((e.up + d.down ≡ d.up + e.down) × (d.strict ≡ true → e.strict ≡ true))

-- e is the tightest demand from a to b
pub record Tightest (ds : List Demand) (a b : ℕ) (e : Demand) : Type 0 where
  pub link : Link ds a b e
  pub least : (d : Demand) → Link ds a b d → AsTight e d

-- es are demands from each of a row of moments to the next, and from the last to z
pub data Along (Edge : ℕ → ℕ → Demand → Type 0) : List ℕ → ℕ → List Demand → Type 0 where
  last : {a z : ℕ} {e : Demand} → Edge a z e → Along Edge (a ∷ []) z (e ∷ [])
  then : {a b z : ℕ} {ms : List ℕ} {e : Demand} {es : List Demand}
      → Edge a b e → Along Edge (b ∷ ms) z es → Along Edge (a ∷ b ∷ ms) z (e ∷ es)

-- the sum of f over some demands
abbrev pub total : (Demand → ℕ) → List Demand → ℕ
total f [] = 0
total f (e ∷ es) = f e + total f es

-- the sum of the bounds is below 0, or is 0 with a strict demand among them
abbrev pub Negative : List Demand → Type 0
Negative es =
    (total (λ e. e.up) es < total (λ e. e.down) es)
    ⊎ ((total (λ e. e.up) es ≡ total (λ e. e.down) es) × ((e : Demand) × Memᴰ e es × (e.strict ≡ true)))

-- A negative cycle (01: loop): a row of at least one moment, all distinct, with a demand between each and the next and from
-- the last to the first, the tightest there is, and a sum below 0, or of 0 with a strict one among them.
pub record Loop (ds : List Demand) (ms : List ℕ) : Type 0 where
  pub size : 1 ≤ length ms
  pub distinct : Distinct ms
  pub used : List Demand
  pub around : Along (Tightest ds) ms (get_or ms 0 0) used
  pub negative : Negative used
