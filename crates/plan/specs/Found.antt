-- What solving the rows of a table in P parts to a tick has found: a plan in these parts, or a loop; in as many parts as there are moments
-- it is the answer for k rounds.
use Rattle.std.specs.Prelude.{◌≡◌, true, false, List, ℕ, zero, suc, ◌+◌, ◌*◌, ◌-◌, ◌≤◌, ◌<◌, length, take}
use Rattle.std.proofs.Common.{sym, ap, subst, ◌∙◌, arith, length-take}
use Rattle.table.specs.Step.{Step}
use Rattle.table.specs.declared.Table.{Table}
use Rattle.runs.specs.declared.Demand.{Demand}
use Rattle.runs.specs.declared.Start.{Start}
use Rattle.runs.specs.Demand.{Starts, starts_of}
use Rattle.runs.specs.Cycle.{enough_fewer}
use Rattle.constraints.specs.Rounds.{length_rounds}
use Rattle.constraints.specs.Sized.{Sized, moments_of, parts_of, rounds_of}
use Rattle.sides.specs.Covers.{covers_satisfies, covers_loop}
use Rattle.basics.specs.Places.{at, length_written, at_written, drop_written}
use Rattle.paths.specs.Constraint.{All, NegativeCycle}
use Rattle.checks.specs.InParts.{satisfies_parts}
use Rattle.relaxing.specs.Rows.{rows, Sound}
use Rattle.solving.specs.Solved as solved
use Rattle.solving.specs.Solved.{LeastSolution, Plans, Cycles, Solved}
use Rattle.solving.specs.declared.Solution.{Solution}
use Rattle.solving.specs.declared.Solution.TheVariants as solution
use Rattle.solving.specs.Solve.{Roomy}
use Rattle.plan.specs.declared.Outcome.{Outcome}
use Rattle.plan.specs.declared.Outcome.TheVariants as outcome
use Rattle.plan.specs.Answer.{rooms, moments_in, starts_in, Planning, Refuted, Answered}
use Rattle.plan.specs.Asked.{sized_asked}
use Rattle.plan.specs.Earliest.{Least}
use Rattle.plan.specs.Smallest.{Latest, least_planned}
use Rattle.plan.specs.Same.{planned_same}
use Rattle.plan.specs.Refuted.{cycle_is_loop}
use Rattle.plan.specs.Rows.{rows_of, tightest, Parts, rows_same, rows_cover, rows_sound, Computed, keys_in, leads_in}

-- the answer that a solution in so many parts is
abbrev pub outcome_of : ℕ → Solution → Outcome
outcome_of P solution.Least = outcome.Found P
outcome_of P (solution.Cycle m) = outcome.Loop m

module _ (P : ℕ) (t : Table) (v : Start) (k : ℕ) (z : Sized t k) (p : Parts P t v k) where
  abbrev K : ℕ
  K = k * t.steps

  abbrev n : ℕ
  n = t.clocks

  abbrev σ : List Step
  σ = rounds_of t k

  abbrev D : Starts
  D = starts_of v

  abbrev N : ℕ
  N = moments_of t k

  abbrev es : List Demand
  es = tightest t v k

  -- ---- the least solution
  least : (x : ℕ → ℕ) → LeastSolution (rows_of P t v k) x → Least (24012 * N) P n σ D x
  least x h =
      record {
        solution = (covers_satisfies (rows_cover P t v k z p) P x p.enough.0).0 ((satisfies_parts P x es).1
            (subst (λ cs. All cs x) (rows_same P t v k z p) h.solution));
        above = λ i m. h.above i (omega (arith, length_rounds t k));
        least = λ y s b u w.
            h.least y
            (subst (λ cs. All cs y) (sym (rows_same P t v k z p))
            ((satisfies_parts P y es).0 ((covers_satisfies (rows_cover P t v k z p) P y p.enough.0).1 s)))
            (λ i m. b i (omega (arith, length_rounds t k))) u (omega (arith, length_rounds t k));
      }

  -- and the greatest with its moments
  latest : (x l : ℕ → ℕ) → solved.Latest (rows_of P t v k) x l → Latest P n σ D x l
  latest x l h =
      record {
        solution = (covers_satisfies (rows_cover P t v k z p) P l p.enough.0).0 ((satisfies_parts P l es).1
            (subst (λ cs. All cs l) (rows_same P t v k z p) h.solution));
        now = λ i m. h.now i (omega (arith, length_rounds t k));
        greatest = λ y q s e u w.
            h.greatest y q
            (subst (λ cs. All cs y) (sym (rows_same P t v k z p))
            ((satisfies_parts P y es).0 ((covers_satisfies (rows_cover P t v k z p) P y p.enough.0).1 s)))
            (λ i m. e i (omega (arith, length_rounds t k))) u (omega (arith, length_rounds t k));
      }

  module _ (times starts room times' starts' room' : List ℕ) (fit : Roomy K n times starts room) where
    -- It is the plan.
    found : P ≡ N → Plans (rows_of P t v k) times starts room times' starts' room'
        → Planning n σ D (rooms times starts room) (rooms times' starts' room') P
    found e f =
        record {
          parts = omega (arith, e, length_rounds t k);
          planned =
              planned_same P n σ D (sized_asked t v k z)
              (λ i. f.x i - f.x 0) (λ j. f.l 0 - f.l (length σ + j)) (moments_in times') (starts_in starts')
              moments smallest
              (least_planned P n σ D p.enough.0 (sized_asked t v k z) f.x f.l (latest f.x f.l f.latest) (24012 * N) (omega (arith, p.few))
              (least f.x f.least));
          times = record {
            size = ap length f.times ∙ length_written _ K times fit.times;
            rest = rw (length_rounds t k) (rw f.times (drop_written _ K times));
          };
          starts = record {
            size = ap length f.starts ∙ length_written _ n starts fit.starts;
            rest = rw f.starts (drop_written _ n starts);
          };
          loop = f.loop;
        }
      where
        moments : (i : ℕ) → i ≤ length σ → moments_in times' i ≡ f.x i - f.x 0
        moments zero m = omega arith
        moments (suc i) m =
            ap (λ (y : List ℕ). at y i) f.times
            ∙ at_written _ K times i (omega (arith, length_rounds t k))
            ∙ ap (λ (u : ℕ). f.x u - f.x 0) (omega arith)

        smallest : (j : ℕ) → 0 < j → j ≤ n → starts_in starts' j ≡ f.l 0 - f.l (length σ + j)
        smallest j p m =
            ap (λ (y : List ℕ). at y (j - 1)) f.starts
            ∙ at_written _ n starts (j - 1) (omega arith)
            ∙ ap (λ u. f.l 0 - f.l u) (omega (arith, length_rounds t k))

    -- ---- a cycle is a loop
    looped : (m : ℕ) → Cycles (rows_of P t v k) times starts room times' starts' room' m
        → Refuted n σ D (rooms times starts room) (rooms times' starts' room') m
    looped m c =
        record {
          loop =
              covers_loop (rows_cover P t v k z p) (take m room')
              (cycle_is_loop P es (take m room')
              (subst (λ cs. NegativeCycle cs (take m room')) (rows_same P t v k z p) c.cycle)
              (enough_fewer P N (length (take m room')) es (omega (arith, length-take m room', c.short)) p.enough));
          few = c.few;
          rest = record { size = c.size; rest = c.rest };
          times = c.times;
          starts = c.starts;
        }

    -- What is found is the answer.
    pub solved_answered : P ≡ N → (s : Solution) → Solved (rows_of P t v k) times starts room times' starts' room' s
        → Answered n σ D (rooms times starts room) (rooms times' starts' room') (outcome_of P s)
    solved_answered e solution.Least f = found e f
    solved_answered e (solution.Cycle m) f = looped m f

-- ---- the rows as they were computed
module _ (P : ℕ) (t : Table) (v : Start) (k : ℕ) (z : Sized t k) (p : Parts P t v k) (low up leads far : List ℕ)
    (c : Computed P t low up leads far) where
  same : rows_of P t v k ≡ rows low up leads far v t.steps t.clocks (k * t.steps)
  same =
      sym (ap (λ l. rows l up leads far v t.steps t.clocks (k * t.steps)) c.below
      ∙ ap (λ l. rows (keys_in false P t) l leads far v t.steps t.clocks (k * t.steps)) c.above
      ∙ ap (λ l. rows (keys_in false P t) (keys_in true P t) l far v t.steps t.clocks (k * t.steps)) c.led
      ∙ ap (λ l. rows (keys_in false P t) (keys_in true P t) (leads_in P t) l v t.steps t.clocks (k * t.steps)) c.distances)

  -- can be solved,
  pub rows_ready : Sound (rows low up leads far v t.steps t.clocks (k * t.steps))
  rows_ready = subst Sound same (rows_sound P t v k z p)

  -- and what is found is the answer.
  pub rows_answered : (times starts room times' starts' room' : List ℕ) → Roomy (k * t.steps) t.clocks times starts room
      → (s : Solution) (o : Outcome)
      → Solved (rows low up leads far v t.steps t.clocks (k * t.steps)) times starts room times' starts' room' s
      → P ≡ parts_of t k → o ≡ outcome_of P s
      → Answered t.clocks (rounds_of t k) (starts_of v) (rooms times starts room) (rooms times' starts' room') o
  rows_answered times starts room times' starts' room' fit s o h a b =
      subst (Answered t.clocks (rounds_of t k) (starts_of v) (rooms times starts room) (rooms times' starts' room')) (sym b)
      (solved_answered P t v k z p times starts room times' starts' room' fit a s
      (subst (λ R. Solved R times starts room times' starts' room' s) (sym same) h))
