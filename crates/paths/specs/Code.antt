-- What the functions ask of the lent slices, and what they give.
use Rattle.std.specs.Prelude.{◌≡◌, Bool, List, ℕ, ◌≤◌, ◌<◌, length, take, drop}
use Rattle.std.proofs.Common.{ap, ◌∙◌, arith}
use Rattle.paths.specs.Walk.{iter, Ring, ring, ring_few}
use Rattle.basics.specs.Tab.{tab}
use Rattle.basics.specs.Places.{at, written, take_written, drop_written}
use Rattle.paths.specs.Constraint.{Constraint}
use Rattle.paths.specs.State.{State, low_of, relax_of, pass_of, hits_of}
use Rattle.paths.specs.Cycle.{OnCycle}

-- s' is s after a check of c with the stamp q, and r says whether it raised a time.
pub record Check (c : Constraint) (q : ℕ) (s s' : State) (r : Bool) : Type 0 where
  pub raised : r ≡ low_of c s.time
  pub after : s' ≡ relax_of c q s

-- s' is s after checks of xs in turn, with the stamps q, q + 1, .., and h says whether one of them raised a time.
pub record Progress (xs : List Constraint) (q : ℕ) (s s' : State) (h : Bool) : Type 0 where
  pub hits : h ≡ hits_of xs q s
  pub after : s' ≡ pass_of xs q s

-- The walk of parents from v stays in the list.
pub record Walks (p : List ℕ) (v : ℕ) : Type 0 where
  pub inside : (k : ℕ) → iter (at p) k v < length p

-- The walk of parents from u stays in the list and comes back within `room` steps.
pub record Returns (p : List ℕ) (room u : ℕ) : Type 0 where
  pub walks : Walks p u
  pub turn : ℕ
  pub few : turn ≤ room
  pub ring : Ring (at p) u turn

-- The cycle of parents from u has r vertices; they are in the first places of out', and the rest is that of out.
pub record Wrote (p : List ℕ) (u : ℕ) (out out' : List ℕ) (r : ℕ) : Type 0 where
  pub ring : Ring (at p) u r
  pub few : r ≤ length out
  pub contents : out' ≡ written (λ k. iter (at p) k u) r out

-- ---- what a caller shows
-- A walk that stays below n stays in a list of n places or more.
pub walks_inside : (n : ℕ) (p : List ℕ) (v : ℕ) → n ≤ length p → ((k : ℕ) → iter (at p) k v < n) → Walks p v
walks_inside n p v h inside = record { inside = λ k. omega (arith, inside k) }

-- A vertex on a cycle of parents can be written.
pub cycle_returns : (n room : ℕ) (p st : List ℕ) (u : ℕ) → n ≤ length p → n ≤ room → OnCycle n p st u → Returns p room u
cycle_returns n room p st u h l o = go (ring (at p) u o.turn o.pos o.back)
  where
    go : (m : ℕ) × Ring (at p) u m → Returns p room u
    go g = record {
      walks = walks_inside n p u h o.inside;
      turn = g.0;
      few = omega (arith, ring_few (at p) n u g.0 g.1 o.inside);
      ring = g.1;
    }

-- ---- what the vertices written are
module _ (p : List ℕ) (u : ℕ) (out out' : List ℕ) (r : ℕ) (w : Wrote p u out out' r) where
  -- The first r places are the walk from u, and the rest is kept.
  pub wrote_first : take r out' ≡ tab (λ k. iter (at p) k u) r
  wrote_first = ap (take r) w.contents ∙ take_written _ r out

  pub wrote_rest : drop r out' ≡ drop r out
  wrote_rest = ap (drop r) w.contents ∙ drop_written _ r out
