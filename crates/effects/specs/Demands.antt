-- The matrix of a list of difference constraints (01: demands): its solutions are the rows of values that satisfy them.
use Rattle.std.specs.Prelude.{◌≡◌, refl, ◌↔◌, Bool, true, false, List, [], ◌∷◌, ◌++◌, ℕ, zero, suc, ◌+◌, ◌*◌, ◌≤◌, ◌<◌}
use Rattle.std.proofs.Math.Logic.Iff.{symm as iff_symm}
use Rattle.std.proofs.Common.{arith}
use Rattle.std.proofs.Math.Decide.{ℕ_discrete}
use Rattle.runs.specs.declared.Demand.{Demand}
use Rattle.runs.specs.Demand.{Within, Holds}
use Rattle.runs.specs.Satisfies.{Satisfies}
use Rattle.runs.specs.Tools.{Every, every_nil, every_cons, every_append}
use Rattle.basics.specs.Choice.{both}
use Rattle.zones.specs.Bound.{Bound, at_most_lem, less_than, Sat}
use Rattle.zones.specs.Values.{sat_at_most, sat_less_than}
use Rattle.zones.specs.Matrix.{Matrix, Solves, Flat}
use Rattle.effects.specs.Tightened.{free, tightened, free_flat, free_solves, tightened_flat, tightened_is}

-- Under, or at most, up - down ticks.
abbrev ticks : Bool → ℕ → ℕ → Bound
ticks true up down = less_than up down
ticks false up down = at_most_lem up down

-- The bound that a demand puts on the difference of its two values.
abbrev pub bound_of : Demand → Bound
bound_of d = ticks d.strict d.up d.down

-- Every demand is between the first N vertices.
abbrev pub Inside : ℕ → List Demand → Type 0
Inside N ds = Every (λ d. (d.from < N) × (d.to < N)) ds

-- The place of a demand in a matrix.
abbrev At : Demand → ℕ → ℕ → Type 0
At d a b = (a ≡ d.from) × (b ≡ d.to)

at? : (d : Demand) (a b : ℕ) → Dec (At d a b)
at? d a b = both (ℕ_discrete a d.from) (ℕ_discrete b d.to)

-- The matrix of a list of demands: no bounds, tightened by each of theirs.
pub matrix_of : List Demand → Matrix
matrix_of [] = free
matrix_of (d ∷ ds) = tightened (At d) (at? d) (λ a b. bound_of d) (matrix_of ds)

-- A demand holds of a row of values exactly where they keep its bound.
pub holds_sat : (P : ℕ) (x : ℕ → ℕ) (d : Demand) → Holds P x d ↔ Sat P (bound_of d) (x d.from) (x d.to)
holds_sat P x d = ((λ h. (go d.strict).0 h.holds), λ s. record { holds = (go d.strict).1 s })
  where
    go : (b : Bool)
        → Within b (x d.to + d.down * P) (x d.from + d.up * P)
        ↔ Sat P (ticks b d.up d.down) (x d.from) (x d.to)
    go true = iff_symm (sat_less_than P d.up d.down (x d.from) (x d.to))
    go false = iff_symm (sat_at_most P d.up d.down (x d.from) (x d.to))

pub matrix_flat : (N : ℕ) (ds : List Demand) → Flat N (matrix_of ds)
unfolding matrix_of
matrix_flat N [] = free_flat N
matrix_flat N (d ∷ ds) = tightened_flat (At d) (at? d) (λ a b. bound_of d) (matrix_of ds) N (matrix_flat N ds)

-- The solutions of the matrix are the rows of values that satisfy the demands.
pub matrix_is : (N P : ℕ) (x : ℕ → ℕ) → 0 < P → (ds : List Demand) → Inside N ds
    → Solves N P (matrix_of ds) x ↔ Satisfies P x ds
unfolding matrix_of
matrix_is N P x p [] i = ((λ s. every_nil (Holds P x)), λ h. free_solves N P x)
matrix_is N P x p (d ∷ ds) i = go (matrix_is N P x p ds among.1)
  where
    among : ((d.from < N) × (d.to < N)) × Inside N ds
    among = (every_cons (λ d. (d.from < N) × (d.to < N)) d ds).0 i

    one : Solves N P (matrix_of (d ∷ ds)) x
        ↔ (Solves N P (matrix_of ds) x × ((a b : ℕ) → a < N → b < N → At d a b → Sat P (bound_of d) (x a) (x b)))
    one = tightened_is (At d) (at? d) (λ a b. bound_of d) (matrix_of ds) N P x p

    two : Satisfies P x (d ∷ ds) ↔ (Holds P x d × Satisfies P x ds)
    two = every_cons (Holds P x) d ds

    go : (Solves N P (matrix_of ds) x ↔ Satisfies P x ds) → Solves N P (matrix_of (d ∷ ds)) x ↔ Satisfies P x (d ∷ ds)
    go r = (
      (λ s. let k = one.0 s in
          two.1 ((holds_sat P x d).1 (k.1 d.from d.to among.0.0 among.0.1 (refl, refl)), r.0 k.0)),
      λ h. let k = two.0 h in
          one.1 (r.1 k.1, λ a b ha hb e. rw (e.0, e.1) ((holds_sat P x d).0 k.0)),
    )

-- ---- A list for each clock

-- f n, .., f 1 joined end to end.
unfoldable pub each : ℕ → (ℕ → List Demand) → List Demand
each zero f = []
each (suc n) f = f (suc n) ++ each n f

-- What holds of every member of each list.
pub every_each : (Q : Demand → Type 0) (f : ℕ → List Demand) (n : ℕ)
    → Every Q (each n f) ↔ ((j : ℕ) → 0 < j → j ≤ n → Every Q (f j))
unfolding each
every_each Q f zero = ((λ h j p l. absurd (nothing j p l)), λ h. every_nil Q)
  where
    nothing : (j : ℕ) → 0 < j → j ≤ 0 → ⊥
    nothing j p l = omega arith
every_each Q f (suc n) = go (every_each Q f n)
  where
    two : Every Q (f (suc n) ++ each n f) ↔ (Every Q (f (suc n)) × Every Q (each n f))
    two = every_append Q (f (suc n)) (each n f)

    go : (Every Q (each n f) ↔ ((j : ℕ) → 0 < j → j ≤ n → Every Q (f j)))
        → Every Q (f (suc n) ++ each n f) ↔ ((j : ℕ) → 0 < j → j ≤ suc n → Every Q (f j))
    go r = (
      (λ h j p l. pick j p l (two.0 h) (ℕ_discrete j (suc n))),
      λ h. two.1 (h (suc n) (omega arith) (omega arith), r.1 (λ j p l. h j p (omega arith))),
    )
      where
        pick : (j : ℕ) → 0 < j → j ≤ suc n → Every Q (f (suc n)) × Every Q (each n f) → Dec (j ≡ suc n)
            → Every Q (f j)
        pick j p l h (yes e) = rw e h.0
        pick j p l h (no e) = r.0 h.1 j p (omega arith)
