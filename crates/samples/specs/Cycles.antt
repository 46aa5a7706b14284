-- A test that demands among some are a negative cycle, which no run satisfies.
use Rattle.std.specs.Prelude.{◌≡◌, refl, Bool, true, false, ◌&&◌, ℕ, ◌+◌, ◌≤◌, eqb, ltb, length}
use Rattle.std.proofs.lemmas.Bool.{false≢true}
use mathlib.Core.List.{List, [], ◌∷◌, Memᴰ}
use Rattle.std.proofs.Common.{arith, eqb-true, ltb-true}
use Rattle.table.specs.Step.{Step}
use Rattle.runs.specs.declared.Demand.{Demand}
use Rattle.runs.specs.Demand.{Starts, demands, Exists, Clocks, Places}
use Rattle.runs.specs.Loop.{total}
use Rattle.runs.specs.Tools.{every_cons}
use Rattle.runs.specs.Satisfies.{Satisfies}
use Rattle.runs.specs.Parts.{gain, loss, holds_parts, stricts_few, parts_negative, negative_parts}
use Rattle.runs.specs.Refutes.{exists_satisfies}
use Rattle.records.specs.Rules.{agree}
use Rattle.samples.specs.Checks.{both, three, all, all_every, some, some_member}

-- two demands are the same
unfoldable pub alike : Demand → Demand → Bool
alike d e =
    eqb d.from e.from && eqb d.to e.to && eqb d.up e.up && eqb d.down e.down
    && agree d.strict e.strict

-- the first moment of a row of demands
abbrev start : List Demand → ℕ
start [] = 0
start (e ∷ es) = e.from

-- from moment a the demands lead on, each from where the one before ends, to moment z
unfoldable pub leads : ℕ → List Demand → ℕ → Bool
leads a [] z = eqb a z
leads a (e ∷ es) z = eqb e.from a && leads e.to es z

-- the demands es are a cycle of demands of ds, and their sum is negative: it is so in as many parts as they are
unfoldable pub contradicts : List Demand → List Demand → Bool
contradicts ds es =
    all (λ e. some (alike e) ds) es && leads (start es) es (start es)
    && ltb (total (loss (length es)) es) (total (gain (length es)) es)

-- ---- what they say
agree_same : (b c : Bool) → agree b c ≡ true → b ≡ c
agree_same true true e = refl
agree_same true false e = absurd (false≢true e)
agree_same false true e = absurd (false≢true e)
agree_same false false e = refl

alike_same : (d e : Demand) → alike d e ≡ true → d ≡ e
unfolding alike
alike_same d e h =
    let (h₃, strict) = both h in
    let (h₂, down) = both h₃ in
    let (h₁, up) = both h₂ in
    let (from, to) = both h₁ in
    λ i. record {
      from = eqb-true d.from e.from from i;
      to = eqb-true d.to e.to to i;
      up = eqb-true d.up e.up up i;
      down = eqb-true d.down e.down down i;
      strict = agree_same d.strict e.strict strict i;
    }

-- a demand found is one of them
found : (ds : List Demand) (e : Demand) → some (alike e) ds ≡ true → Memᴰ e ds
found ds e h = let (d, m, q) = some_member (alike e) ds h in rw (alike_same e d q) m

-- the inequalities along a row of demands add up
leads_sum : (P : ℕ) (x : ℕ → ℕ) (a : ℕ) (es : List Demand) (z : ℕ) → Satisfies P x es → leads a es z ≡ true
    → x z + total (gain P) es ≤ x a + total (loss P) es
unfolding leads
leads_sum P x a [] z h e = rw (eqb-true a z e) (omega arith)
leads_sum P x a (e ∷ es) z h l =
    let (p, q) = both l in
    let (h₀, h₁) = (every_cons _ e es).0 h in
    let here = (holds_parts P x e).0 h₀ in
    let rest = leads_sum P x e.to es z h₁ q in
    rw (← eqb-true e.from a p) (omega arith)

contradicts_says : (ds es : List Demand) → contradicts ds es ≡ true
    → (all (λ e. some (alike e) ds) es ≡ true) × (leads (start es) es (start es) ≡ true)
    × (ltb (total (loss (length es)) es) (total (gain (length es)) es) ≡ true)
unfolding contradicts
contradicts_says ds es e = three e

-- No run exists whose demands have such a cycle.
pub contradicts_run : (n : ℕ) (D : Starts) (σ : List Step) (es : List Demand) → Clocks n σ → Places n D
    → contradicts (demands n σ D) es ≡ true → Exists n D σ → ⊥
contradicts_run n D σ es f g e r =
    let ds = demands n σ D in
    let (members, cycle, negative) = contradicts_says ds es e in
    let (x, holds) = exists_satisfies n σ D f g r in
    let every : Satisfies r.parts x es = λ d m. holds d (found ds d (all_every (λ e. some (alike e) ds) es members d m)) in
    let below = negative_parts r.parts es r.positive (parts_negative (length es) es (omega (arith, stricts_few es)) (ltb-true _ _ negative)) in
    omega (arith, leads_sum r.parts x (start es) es (start es) every cycle, below)
