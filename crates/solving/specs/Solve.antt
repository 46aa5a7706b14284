-- From the passes to what is written.
use Rattle.std.specs.Prelude.{◌≡◌, refl, List, ℕ, ◌+◌, ◌*◌, ◌-◌, ◌≤◌, ◌<◌, length, replicate}
use Rattle.std.proofs.Common.{ap, ◌∙◌, arith}
use Rattle.std.proofs.Math.Decide.{dec_le}
use Rattle.std.proofs.lemmas.List.{length-replicate, get_or-replicate}
use Rattle.basics.specs.Places.{at, written, filled, length_written, at_written, at_written_rest}
use Rattle.paths.specs.Walk.{ring_few}
use Rattle.paths.specs.Constraint.{Constraint, All}
use Rattle.paths.specs.State.{State, state}
use Rattle.paths.specs.Bounds.{Room}
use Rattle.paths.specs.Code.{Wrote, wrote_rest, Returns, cycle_returns}
use Rattle.relaxing.specs.Rows.{Rows, moments, constraints_of, Sound, going_low, going_up}
use Rattle.relaxing.specs.Passes.{Begins, Ready, Ended}
use Rattle.readout.specs.Late.{Rowed, Told}
use Rattle.solving.specs.Latest.{rising, began_bounded, lowered_latest}
use Rattle.solving.specs.Solved.{Above, LeastSolution, Plans, Cycles}

-- What is asked of the rooms for K steps and n clocks.
pub record Roomy (K n : ℕ) (t s l : List ℕ) : Type 0 where
  pub times : K ≤ length t
  pub starts : n ≤ length s
  pub loop : K + n + 1 ≤ length l

-- What is asked of the space to work in: it is cleared.
pub record Spacious (R : Rows) (s : State) (marks : List ℕ) : Type 0 where
  pub room : Room (moments R) s
  pub timeless : (v : ℕ) → v < moments R → at s.time v ≡ 0
  pub unstamped : (v : ℕ) → v < moments R → at s.stamp v ≡ 0
  pub marked : moments R ≤ length marks

-- four lists of so many zeros are such a space
abbrev zeros : ℕ → List ℕ
zeros n = replicate n 0

pub spacious : (R : Rows) (n : ℕ) → moments R ≤ n → Spacious R (state (zeros n) (zeros n) (zeros n)) (zeros n)
spacious R n l =
    record { room = record { time = size; parent = size; stamp = size }; timeless = none; unstamped = none; marked = size }
  where
    size : moments R ≤ length (zeros n)
    size = omega (arith, length-replicate {A = ℕ} n 0)

    none : (v : ℕ) → v < moments R → at (zeros n) v ≡ 0
    none v w = get_or-replicate n v 0 0 (omega arith)

module _ (R : Rows) (z : Sound R) where
  abbrev K : ℕ
  K = R.total

  abbrev n : ℕ
  n = R.clocks

  abbrev N : ℕ
  N = moments R

  abbrev cs : List Constraint
  cs = constraints_of R

  -- ---- before the passes
  -- times of which K + 1 are set to 24,012 N, in a cleared space, are the start values
  pub start_ready : (time time₁ parent stamp marks : List ℕ) → Spacious R (state time parent stamp) marks
      → time₁ ≡ filled (24012 * N) (K + 1) time → Ready R (state time₁ parent stamp) marks
  start_ready time time₁ parent stamp marks h e =
      record {
        sound = z;
        begins =
            record {
              room =
                  record {
                    time =
                        omega (
                          arith,
                          ap length e,
                          length_written (λ i. 24012 * N) (K + 1) time (omega (arith, h.room.time)),
                          h.room.time,
                        );
                    parent = h.room.parent;
                    stamp = h.room.stamp;
                  };
              unstamped = h.unstamped;
              now = λ v l. ap (λ (l : List ℕ). at l v) e ∙ at_written (λ i. 24012 * N) (K + 1) time v (omega arith);
              past = λ v l w.
                  ap (λ (l : List ℕ). at l v) e
                  ∙ at_written_rest (λ i. 24012 * N) (K + 1) time v (omega arith)
                  ∙ h.timeless v w;
            };
        room = h.marked;
      }

  -- ---- after them
  module _ (s s' : State) (u : ℕ) (b : Begins K n s) (e : Ended N cs s s' u) where
    least : N ≤ u → LeastSolution R (at s'.time)
    least l = record { solution = e.solved l; above = above; least = below }
      where
        above : Above N K (at s'.time)
        above i m = omega (arith, b.now i m, e.rises i)

        below : (y : ℕ → ℕ) → All cs y → Above N K y → (v : ℕ) → v < N → at s'.time v ≤ y v
        below y h q v w = e.least y h (λ m k. first m k (dec_le m K)) v w
          where
            first : (m : ℕ) → m < N → Dec (m ≤ K) → at s.time m ≤ y m
            first m k (yes c) = omega (arith, b.now m c, q m c)
            first m k (no c) = omega (arith, b.past m (omega arith) k)

    -- A cycle is written out.
    pub answer_cycle : u < N → (times starts out out' : List ℕ) (m : ℕ) → Wrote s'.parent u out out' m
        → Cycles R times starts out times starts out' m
    answer_cycle l times starts out out' m w =
        record {
          cycle = e.negative l m out out' w;
          short = ring_few (at s'.parent) N u m w.ring (e.cycle l).inside;
          few = w.few;
          size = ap length w.contents ∙ length_written _ m out w.few;
          rest = wrote_rest s'.parent u out out' m w;
          times = refl;
          starts = refl;
        }

    pub answer_returns : (room : ℕ) → N ≤ room → u < N → Returns s'.parent room u
    answer_returns room l w =
        cycle_returns N room s'.parent s'.stamp u
        (omega (arith, e.size.parent, b.room.parent)) l (e.cycle w)

    -- There is a time for each moment, none before the first.
    pub answer_times : K < length s'.time
    answer_times = omega (arith, e.size.time, b.room.time)

    pub answer_moments : N ≤ u → (i : ℕ) → i ≤ K → at s'.time 0 ≤ at s'.time i
    answer_moments l i m = rising R z (at s'.time) (e.solved l) 0 i (omega arith) m

    -- The smallest starts can be computed.
    pub answer_rowed : N ≤ u → (starts : List ℕ) → n ≤ length starts
        → Rowed R.low R.up R.leads R.far R.steps n K s'.time starts
    answer_rowed l starts c =
        record {
          below = going_low R z;
          above = going_up R z;
          led = z.leads;
          round = z.round;
          whole = z.whole;
          times = omega (arith, e.size.time, b.room.time);
          starts = c;
          bounded = λ f g. began_bounded R z (at s'.time) (least l) s'.time (λ v. refl) (omega (arith, e.size.time, b.room.time)) f g;
        }

    -- The moments and the smallest starts are written out.
    pub answer_plan : N ≤ u → (times starts room times' starts' late : List ℕ)
        → times' ≡ written (λ i. at s'.time (i + 1) - at s'.time 0) K times
        → Told R.low R.up R.leads R.far R.steps n K s'.time late starts starts'
        → Plans R times starts room times' starts' room
    answer_plan l times starts room times' starts' late f t =
        record {
          x = at s'.time;
          l = at late;
          least = least l;
          latest =
              lowered_latest R z (at s'.time) (least l) s'.time (λ v. refl) (omega (arith, e.size.time, b.room.time)) t.first t.began
              late t.falling t.forth t.back;
          times = f;
          starts = t.starts;
          loop = refl;
        }
