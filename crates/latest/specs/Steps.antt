-- The demands of the steps as constraints, and those of one step among them.
use Rattle.std.specs.Prelude.{◌≡◌, ℕ, ◌<◌}
use mathlib.Core.List.Memᴰ
use mathlib.Core.List.{List, ◌++◌, Memᴰ}
use Rattle.std.proofs.Common.{⊎_elim, arith}
use Rattle.runs.specs.declared.Demand.{Demand}
use Rattle.sweeps.specs.Order.{forth_at, forth_of, upper_at, upper_of}
use Rattle.sweeps.specs.Covered.{Among, forth_among, among_forth, upper_among, among_upper}
use Rattle.basics.specs.Places.{at}
use Rattle.paths.specs.Constraint.{Constraint, Holds}
use Rattle.checks.specs.InParts.{edge, edges}
use Rattle.lowering.specs.Lowered.{none}
use Rattle.lowering.specs.Outcome.{Settled}

-- from below: a step is not before the one before it, and its tightest guards from below
unfoldable pub forth_edges : List ℕ → List ℕ → ℕ → ℕ → ℕ → List Constraint
forth_edges low far L n K = edges (forth_of low far L n K 0 K)

-- from above: its tightest guards from above
unfoldable pub back_edges : List ℕ → List ℕ → ℕ → ℕ → ℕ → List Constraint
back_edges up far L n K = edges (upper_of up far L n K K)

-- both
abbrev pub step_edges : List ℕ → List ℕ → List ℕ → ℕ → ℕ → ℕ → List Constraint
step_edges low up far L n K = forth_edges low far L n K ++ back_edges up far L n K

-- ---- lists of demands
-- what is in one list is in another
pub edges_among : (xs ys : List Demand) → ((d : Demand) → Memᴰ d xs → Memᴰ d ys)
    → (c : Constraint) → Memᴰ c (edges xs) → Memᴰ c (edges ys)
edges_among xs ys h c m = go (Memᴰ.of_map edge xs m)
  where
    go : (d : Demand) × Memᴰ d xs × (edge d ≡ c) → Memᴰ c (edges ys)
    go d = rw (← d.2) (Memᴰ.map edge (h d.0 d.1))

-- what holds step by step holds of all
pub edges_settled : (own : ℕ → List Demand) (ds : List Demand) (K : ℕ) (l : List ℕ)
    → ((d : Demand) → Memᴰ d ds → Among own 0 K d)
    → ((i : ℕ) → i < K → Settled (edges (own i)) l) → Settled (edges ds) l
edges_settled own ds K l among h c m = go (Memᴰ.of_map edge ds m)
  where
    go : (d : Demand) × Memᴰ d ds × (edge d ≡ c) → at l c.from < none → Holds c (at l)
    go d =
        let a = among d.0 d.1 in
        rw (← d.2) (h a.step (omega (arith, a.last)) (edge d.0) (Memᴰ.map edge a.member))

-- ---- one step among all
module _ (low far : List ℕ) (L n K : ℕ) where
  pub forth_member : (i : ℕ) → i < K → (c : Constraint) → Memᴰ c (edges (forth_at low far L n K i))
      → Memᴰ c (forth_edges low far L n K)
  unfolding forth_edges
  forth_member i l =
      edges_among (forth_at low far L n K i) (forth_of low far L n K 0 K)
      (λ d m. among_forth low far L n K 0 K i d (omega arith) (omega arith) m)

  pub forth_settled : (l : List ℕ) → ((i : ℕ) → i < K → Settled (edges (forth_at low far L n K i)) l)
      → Settled (forth_edges low far L n K) l
  unfolding forth_edges
  forth_settled l =
      edges_settled (forth_at low far L n K) (forth_of low far L n K 0 K) K l (forth_among low far L n K 0 K)

module _ (up far : List ℕ) (L n K : ℕ) where
  pub back_member : (i : ℕ) → i < K → (c : Constraint) → Memᴰ c (edges (upper_at up far L n K i))
      → Memᴰ c (back_edges up far L n K)
  unfolding back_edges
  back_member i l =
      edges_among (upper_at up far L n K i) (upper_of up far L n K K) (λ d m. among_upper up far L n K K i d (omega arith) m)

  pub back_settled : (l : List ℕ) → ((i : ℕ) → i < K → Settled (edges (upper_at up far L n K i)) l)
      → Settled (back_edges up far L n K) l
  unfolding back_edges
  back_settled l = edges_settled (upper_at up far L n K) (upper_of up far L n K K) K l (upper_among up far L n K K)

-- ---- one side among both
module _ (xs ys : List Constraint) where
  pub either_settled : (l : List ℕ) → Settled xs l → Settled ys l → Settled (xs ++ ys) l
  either_settled l a b c m = ⊎_elim (a c) (b c) (Memᴰ.append_cases xs m)

  pub left_member : (c : Constraint) → Memᴰ c xs → Memᴰ c (xs ++ ys)
  left_member c m = Memᴰ.append_left ys m

  pub right_member : (c : Constraint) → Memᴰ c ys → Memᴰ c (xs ++ ys)
  right_member c m = Memᴰ.append_right xs m
