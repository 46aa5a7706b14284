-- Checks in any order from times where no moment is stamped: they are one pass over the list of all checks made, so that what passes
-- tell holds of them.
use Rattle.std.specs.Prelude.{◌≡◌, refl, Bool, ℕ, ◌+◌, ◌*◌, ◌≤◌, ◌<◌, ◌^◌, length, take}
use Rattle.std.proofs.Math.Path.{sym, ap}
use Rattle.std.proofs.Common.{◌∙◌, arith}
use mathlib.Core.List.Memᴰ
use mathlib.Core.List.{List, Memᴰ}
use Rattle.runs.specs.declared.Demand.{Demand}
use Rattle.basics.specs.Places.{at, filled, length_written, at_written}
use Rattle.paths.specs.Constraint.{Constraint, All, Fits, NegativeCycle}
use Rattle.paths.specs.State.{State, state, pass_of, passes_of, passes_none, passes_more, Below}
use Rattle.paths.specs.Bounds.{SameSize, Room, room_kept, Under}
use Rattle.paths.specs.Pass.{Start}
use Rattle.paths.specs.Rises.{Rises, passes_rise}
use Rattle.paths.specs.Cycle.{Links, OnCycle}
use Rattle.paths.specs.Code.{Wrote}
use Rattle.paths.specs.Outcome.{outcome_links, outcome_least, outcome_wrote}
use Rattle.checks.specs.InParts.{edge, edges}
use Rattle.checks.specs.Checks.{unit, slight_fits, length_edges}
use Rattle.checks.specs.Some.{Onto, Able, onto_none, onto_append, onto_size, onto_under, onto_able}
use Rattle.relaxing.specs.Rows.{Rows, sweep, moments, constraints_of, Sound}
use Rattle.relaxing.specs.Pass.{Passable, Swept}

-- From the start values s₀ checks have led to s₁, in which no moment is stamped, and on from there to s; q is the stamp of the next.
-- The times of s₁ are not below the start values, and not above a solution that is not below them.
pub record Reached (R : Rows) (s₀ s₁ s : State) (q : ℕ) : Type 0 where
  pub size : SameSize s₀ s₁
  pub unstamped : (v : ℕ) → v < moments R → at s₁.stamp v ≡ 0
  pub under : Under (moments R) (2 ^ 61) s₁.time
  pub rises : Rises s₀ s₁
  pub least : (x : ℕ → ℕ) → All (constraints_of R) x → Below (moments R) s₀.time x → Below (moments R) s₁.time x
  pub onto : Onto (sweep R) 1 s₁ s q

-- a negative cycle of some constraints is one of all
cycle_wider : (ds cs : List Constraint) (vs : List ℕ) → ((c : Constraint) → Memᴰ c ds → Memᴰ c cs)
    → NegativeCycle ds vs → NegativeCycle cs vs
cycle_wider ds cs vs m g =
    record {
      by = g.by;
      member = λ k h. m (g.by k) (g.member k h);
      from = g.from;
      to = g.to;
      close = g.close;
      distinct = g.distinct;
      negative = g.negative;
    }

module _ (R : Rows) (z : Sound R) (s₀ : State) (room : Room (moments R) s₀) where
  abbrev N : ℕ
  N = moments R

  abbrev cs : List Constraint
  cs = constraints_of R

  -- no check is made yet
  pub reached_first : ((v : ℕ) → v < N → at s₀.stamp v ≡ 0) → Under N (2 ^ 61) s₀.time → Reached R s₀ s₀ s₀ 1
  reached_first u l =
      record {
        size = record { time = refl; parent = refl; stamp = refl };
        unstamped = u;
        under = l;
        rises = λ v. omega arith;
        least = λ x h k. k;
        onto = onto_none (sweep R) 1 s₀;
      }

  module _ (s₁ s : State) (q : ℕ) (t : Reached R s₀ s₁ s q) where
    -- more checks
    pub reached_more : (s' : State) (r : ℕ) → Onto (sweep R) q s s' r → Reached R s₀ s₁ s' r
    reached_more s' r o =
        record {
          size = t.size;
          unstamped = t.unstamped;
          under = t.under;
          rises = t.rises;
          least = t.least;
          onto = onto_append (sweep R) 1 s₁ s q t.onto s' r o;
        }

    pub reached_size : SameSize s₀ s
    reached_size =
        let o = onto_size (sweep R) 1 s₁ s q t.onto in
        record { time = o.time ∙ t.size.time; parent = o.parent ∙ t.size.parent; stamp = o.stamp ∙ t.size.stamp }

    roomy : Room N s₁
    roomy = room_kept N s₀ s₁ t.size room

    pub reached_able : Able N (sweep R) s q
    reached_able =
        onto_able (sweep R) 1 s₁ s q t.onto N
        (record { slight = z.slight; room = roomy; under = λ v w. omega (arith, t.under v w) })

    pub reached_under : (top : ℕ) → Under N top s₁.time → Under N (top + q * unit) s.time
    reached_under top l v w = omega (arith, onto_under (sweep R) 1 s₁ s q t.onto N top z.slight roomy l v w, t.onto.stamp)

    pub reached_passable : q ≤ 2 ^ 38 → Passable R s q
    reached_passable few =
        record {
          sound = z;
          room = reached_able.room;
          under = λ v w. omega (arith, reached_able.under v w, few);
          stamp = omega (arith, few);
        }

    -- ---- one pass over all checks made since s₁
    ds : List Constraint
    ds = edges t.onto.demands

    among : (c : Constraint) → Memᴰ c ds → Memᴰ c cs
    unfolding constraints_of ds
    among c m = go (Memᴰ.of_map edge t.onto.demands m)
      where
        go : (d : Demand) × Memᴰ d t.onto.demands × (edge d ≡ c) → Memᴰ c (edges (sweep R))
        go d = rw (← d.2) (Memᴰ.map edge (t.onto.some d.0 d.1))

    fits : Fits N ds
    unfolding ds
    fits = slight_fits N t.onto.demands (λ d m. z.slight d (t.onto.some d m))

    start : Start N ds s₁
    start = record { fits = fits; room = roomy; unstamped = t.unstamped }

    one : s ≡ passes_of ds 1 s₁
    unfolding ds
    one =
        t.onto.after
        ∙ sym
        (passes_more (edges t.onto.demands) 0 s₁
        ∙ ap (λ (k : ℕ). pass_of (edges t.onto.demands) k (passes_of (edges t.onto.demands) 0 s₁)) (omega arith)
        ∙ ap (λ (x : State). pass_of (edges t.onto.demands) 1 x) (passes_none (edges t.onto.demands) s₁))

    -- the parents can be followed
    pub reached_links : Links N s.parent s.stamp
    reached_links = rw one (outcome_links N ds s₁ start 1)

    pub reached_rises : Rises s₀ s
    reached_rises v = rw one (omega (arith, t.rises v, passes_rise N ds 1 s₁ fits roomy v))

    pub reached_least : (x : ℕ → ℕ) → All cs x → Below N s₀.time x → Below N s.time x
    reached_least x h l = rw one (outcome_least N ds s₁ start 1 x (λ c m. h c (among c m)) (t.least x h l))

    pub reached_negative : (u m : ℕ) (out out' : List ℕ) → OnCycle N s.parent s.stamp u → Wrote s.parent u out out' m
        → NegativeCycle cs (take m out')
    reached_negative u m out out' c w =
        cycle_wider ds cs (take m out') among (outcome_wrote N ds s₁ start 1 u m out out' (on c) (wrote w))
      where
        on : OnCycle N s.parent s.stamp u → OnCycle N (passes_of ds 1 s₁).parent (passes_of ds 1 s₁).stamp u
        on h = rw one at h

        wrote : Wrote s.parent u out out' m → Wrote (passes_of ds 1 s₁).parent u out out' m
        wrote h = rw one at h

    -- ---- the stamps are taken away
    pub reached_cleared : (stamp : List ℕ) → stamp ≡ filled 0 N s.stamp → Under N (2 ^ 61) s.time
        → Reached R s₀ (state s.time s.parent stamp) (state s.time s.parent stamp) 1
    reached_cleared stamp e l =
        record {
          size =
              record {
                time = reached_size.time;
                parent = reached_size.parent;
                stamp = ap length e ∙ length_written (λ k. 0) N s.stamp reached_able.room.stamp ∙ reached_size.stamp;
              };
          unstamped = λ v w. ap (λ (y : List ℕ). at y v) e ∙ at_written (λ k. 0) N s.stamp v w;
          under = l;
          rises = reached_rises;
          least = reached_least;
          onto = onto_none (sweep R) 1 _;
        }

-- a pass
pub onto_swept : (R : Rows) (q : ℕ) (s s' : State) (h : Bool) (r : ℕ) → Swept R q s s' h r → Onto (sweep R) q s s' r
unfolding constraints_of
onto_swept R q s s' h r w =
    record { demands = sweep R; some = λ d m. m; after = w.after; stamp = omega (arith, w.stamp, length_edges (sweep R)) }
