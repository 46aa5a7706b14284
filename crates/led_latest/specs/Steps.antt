-- The demands of the steps as constraints, with those between two clocks, and those of one step among them.
use Rattle.std.specs.Prelude.{◌≡◌, Bool, false, ℕ, ◌<◌, ltb, get_or}
use Rattle.std.proofs.Common.{sym, subst, arith}
use Rattle.std.proofs.Math.Path.{ap}
use mathlib.Core.List.{List, ◌++◌, Memᴰ}
use Rattle.table.specs.declared.Table.{Table}
use Rattle.leads.specs.Leads.{led_by, Leading, none_led}
use Rattle.sweeps.specs.Order.{back_at, back_of}
use Rattle.sweeps.specs.Covered.{back_among, among_back}
use Rattle.paths.specs.Constraint.{Constraint}
use Rattle.checks.specs.InParts.{edges}
use Rattle.checks.specs.Led.{upper_all}
use Rattle.lowering.specs.Bounded.{Bounded}
use Rattle.lowering.specs.Outcome.{Settled, Greatest}
use Rattle.latest.specs.Steps.{forth_edges, back_edges, step_edges, edges_among, edges_settled}

-- from above and between two clocks: its tightest guards from above, and all its guards of two clocks
unfoldable pub led_back_edges : List ℕ → Table → List ℕ → ℕ → ℕ → ℕ → List Constraint
led_back_edges up T far L n K = edges (back_of up T far L n K K)

-- those from below too
abbrev pub led_edges : List ℕ → List ℕ → Table → List ℕ → ℕ → ℕ → ℕ → List Constraint
led_edges low up T far L n K = forth_edges low far L n K ++ led_back_edges up T far L n K

-- ---- one step among all
module _ (up : List ℕ) (T : Table) (far : List ℕ) (L n K : ℕ) where
  pub led_back_member : (i : ℕ) → i < K → (c : Constraint) → Memᴰ c (edges (back_at up T far L n K i))
      → Memᴰ c (led_back_edges up T far L n K)
  unfolding led_back_edges
  led_back_member i l =
      edges_among (back_at up T far L n K i) (back_of up T far L n K K) (λ d m. among_back up T far L n K K i d (omega arith) m)

  pub led_back_settled : (l : List ℕ) → ((i : ℕ) → i < K → Settled (edges (back_at up T far L n K i)) l)
      → Settled (led_back_edges up T far L n K) l
  unfolding led_back_edges
  led_back_settled l =
      edges_settled (back_at up T far L n K) (back_of up T far L n K K) K l (back_among up T far L n K K)

-- ---- without guards between two clocks they are those of one clock each
module _ (low up row far : List ℕ) (L n K : ℕ) (some : 0 < L) (a : Leading row L) (led : Bool) (e : led ≡ ltb 0 (get_or row L 0)) (f : led ≡ false) where
  plain : led_edges low up (led_by row) far L n K ≡ step_edges low up far L n K
  unfolding led_back_edges back_edges
  plain = ap (λ ds. forth_edges low far L n K ++ edges ds) (upper_all up row far L n K some a (none_led led row L e f))

  pub plain_bounded : (N : ℕ) (l : List ℕ) → Bounded N (led_edges low up (led_by row) far L n K) l → Bounded N (step_edges low up far L n K) l
  plain_bounded N l = subst (λ cs. Bounded N cs l) plain

  pub plain_greatest : (N : ℕ) (l l' : List ℕ) → Greatest N (step_edges low up far L n K) l l'
      → Greatest N (led_edges low up (led_by row) far L n K) l l'
  plain_greatest N l l' = subst (λ cs. Greatest N cs l l') (sym plain)
