-- What is computed: rows of first and last moments, and what they tell.
use Rattle.std.specs.Prelude.{◌≡◌, refl, Bool, true, false, List, ℕ, suc, ◌+◌, ◌*◌, ◌-◌, ◌%◌, ◌≤◌, ◌<◌, length, set, get_or}
use Rattle.std.proofs.Common.{sym, ap, subst, ◌∙◌, arith, length-set, get_or-set_same, get_or-set_other}
use Rattle.std.proofs.Math.Nat.{mul-mod_left}
use Rattle.table.specs.declared.Table.{Table}
use Rattle.runs.specs.declared.Start.TheVariants.{LogIn}
use Rattle.runs.specs.Demand.{starts_of, Exists}
use Rattle.constraints.specs.Sized.{Sized, moments_of, parts_of, rounds_of}
use Rattle.basics.specs.Places.{at, filled, length_written, at_written, at_written_rest}
use Rattle.leads.specs.Leads.{led_by, Leading}
use Rattle.ways.specs.Forth.{Going}
use Rattle.relaxing.specs.Rows.{going_low, going_up}
use Rattle.solving.specs.declared.Solution.{Solution}
use Rattle.solving.specs.declared.Solution.TheVariants as solution
use Rattle.plan.specs.Planned.{Planned}
use Rattle.plan.specs.Answer.{Rooms, moments_in, starts_in, Planning, Answered}
use Rattle.plan.specs.Asked.{sized_asked}
use Rattle.plan.specs.Decides.{refuted_none}
use Rattle.plan.specs.Found.{outcome_of}
use Rattle.plan.specs.Rows.{rows_of, Parts, parts_moments, rows_sound, Computed}
use Rattle.window.specs.Window.{far, span_of}
use Rattle.lowering.specs.Lowered.{none}
use Rattle.lowering.specs.Bounded.{Bounded}
use Rattle.lowering.specs.Outcome.{Greatest}
use Rattle.led_latest.specs.Steps.{led_edges}
use Rattle.spans.specs.Span.{Spans}
use Rattle.spans.specs.Found.{Begins, steps_of, begins_bounded, first_far, span_found}

-- k rounds of the table have a plan from log-in.
pub record Plannable (t : Table) (k : ℕ) : Type 0 where
  pub moments : ℕ → ℕ
  pub starts : ℕ → ℕ
  pub planned : Planned (parts_of t k) t.clocks (rounds_of t k) (starts_of LogIn) moments starts

-- The bounds l are those that all demands leave.
pub record Bounding (t : Table) (k : ℕ) (l : List ℕ) : Type 0 where
  pub first : List ℕ
  pub begins : Begins (k * t.steps) t.clocks first
  pub greatest : Greatest (moments_of t k) (steps_of (parts_of t k) t k) first l

-- The first moments of the steps of k rounds, and the last ones from place 1 on, tell their spans; and the first ones are near.
pub record Told (t : Table) (k : ℕ) (firsts lasts : List ℕ) : Type 0 where
  pub near : (i : ℕ) → i < k * t.steps → get_or firsts i 0 ≤ far
  pub spans : (i : ℕ) → i < k * t.steps
      → Spans (parts_of t k) t.clocks (rounds_of t k) (starts_of LogIn) (suc i) (span_of (get_or firsts i 0) (get_or lasts (suc i) 0))

-- They do if a run exists.
abbrev pub Exact : Table → ℕ → List ℕ → List ℕ → Bool → Type 0
Exact t k firsts lasts true = Told t k firsts lasts
Exact t k firsts lasts false = ¬ Exists t.clocks (starts_of LogIn) (rounds_of t k)

pub exact_told : (t : Table) (k : ℕ) (firsts lasts : List ℕ) (r : Bool) → r ≡ true → Exact t k firsts lasts r → Told t k firsts lasts
exact_told t k firsts lasts r e h = subst (Exact t k firsts lasts) e h

pub exact_none : (t : Table) (k : ℕ) (firsts lasts : List ℕ) (r : Bool) → r ≡ false → Exact t k firsts lasts r
    → ¬ Exists t.clocks (starts_of LogIn) (rounds_of t k)
exact_none t k firsts lasts r e h = subst (Exact t k firsts lasts) e h

module _ (t : Table) (k : ℕ) (z : Sized t k) where
  abbrev K : ℕ
  K = k * t.steps

  abbrev n : ℕ
  n = t.clocks

  abbrev N : ℕ
  N = moments_of t k

  abbrev P : ℕ
  P = parts_of t k

  enough : Parts P t LogIn k
  enough = parts_moments t LogIn k

  -- ---- the bounds to begin with: 0 everywhere, then none for moments 0 to K, then 0 for moment 0
  module _ (l l₁ l₂ l₃ : List ℕ) (room : N ≤ length l) (e : l₁ ≡ filled 0 N l) (f : l₂ ≡ filled none (K + 1) l₁)
      (g : l₃ ≡ set l₂ 0 0) where
    size₁ : length l₁ ≡ length l
    size₁ = ap length e ∙ length_written (λ _. 0) N l room

    size₂ : length l₂ ≡ length l₁
    size₂ = ap length f ∙ length_written (λ _. none) (K + 1) l₁ (omega (arith, size₁, room))

    pub filled_size : length l₃ ≡ length l
    filled_size = ap length g ∙ kept ∙ size₂ ∙ size₁
      where
        kept : length (set l₂ 0 0) ≡ length l₂
        kept = simp length-set

    pub filled_begins : Begins K n l₃
    filled_begins =
        record {
          room = omega (arith, filled_size, room);
          start = ap (λ (x : List ℕ). at x 0) g ∙ get_or-set_same l₂ 0 0 0 (omega (arith, size₂, size₁, room));
          steps = λ i p w.
              ap (λ (x : List ℕ). at x i) g
              ∙ get_or-set_other l₂ 0 i 0 0 (omega arith)
              ∙ ap (λ (x : List ℕ). at x i) f
              ∙ at_written (λ _. none) (K + 1) l₁ i (omega arith);
          past = λ j p w.
              ap (λ (x : List ℕ). at x (K + j)) g
              ∙ get_or-set_other l₂ 0 (K + j) 0 0 (omega arith)
              ∙ ap (λ (x : List ℕ). at x (K + j)) f
              ∙ at_written_rest (λ _. none) (K + 1) l₁ (K + j) (omega arith)
              ∙ ap (λ (x : List ℕ). at x (K + j)) e
              ∙ at_written (λ _. 0) N l (K + j) (omega arith);
        }

  -- ---- the rows as they were computed
  module _ (low up leads distances : List ℕ) (c : Computed P t low up leads distances) where
    same : led_edges low up (led_by leads) distances t.steps n K ≡ steps_of P t k
    same = rw (c.below, c.above, c.led, c.distances) refl

    pub rows_going : Going low distances t.steps n K × Going up distances t.steps n K
    rows_going =
        rw (c.below, c.above, c.distances)
        (going_low (rows_of P t LogIn k) (rows_sound P t LogIn k z enough), going_up (rows_of P t LogIn k) (rows_sound P t LogIn k z enough))

    pub rows_leading : Leading leads t.steps
    rows_leading = rw c.led (rows_sound P t LogIn k z enough).leads

    pub rows_bounded : Plannable t k → (l : List ℕ) → Begins K n l → Bounded N (led_edges low up (led_by leads) distances t.steps n K) l
    rows_bounded p l b =
        subst (λ cs. Bounded N cs l) (sym same) (begins_bounded P t k z enough p.moments p.starts p.planned l b)

    pub rows_bounding : (l₀ l : List ℕ) → Begins K n l₀ → Greatest N (led_edges low up (led_by leads) distances t.steps n K) l₀ l
        → Bounding t k l
    rows_bounding l₀ l b h = record { first = l₀; begins = b; greatest = subst (λ cs. Greatest N cs l₀ l) same h }

  pub whole : K % t.steps ≡ 0
  whole = mul-mod_left k t.steps

  -- ---- what solving the rows has found
  module _ (r r' : Rooms) (s : Solution) (h : Answered n (rounds_of t k) (starts_of LogIn) r r' (outcome_of P s)) where
    -- a plan
    module _ (e : s ≡ solution.Least) where
      found : Planning n (rounds_of t k) (starts_of LogIn) r r' P
      found = subst (λ q. Answered n (rounds_of t k) (starts_of LogIn) r r' (outcome_of P q)) e h

      pub plan_plannable : Plannable t k
      plan_plannable = record { moments = moments_in r'.times; starts = starts_in r'.starts; planned = found.planned }

      pub plan_room : N ≤ length r.loop → N ≤ length r'.loop
      plan_room w = omega (arith, w, ap length found.loop)

      pub plan_exact : (l : List ℕ) (b : Bool) → (b ≡ true) × Bounding t k l → Exact t k r'.times l b
      plan_exact l b g = subst (Exact t k r'.times l) (sym g.0) told
        where
          told : Told t k r'.times l
          told =
              record {
                near = λ i w. first_far P t k z enough _ _ found.planned (suc i) (omega arith);
                spans = λ i w.
                    span_found P t k z enough _ _ found.planned g.1.first l g.1.begins g.1.greatest (suc i) (omega arith);
              }

    -- a loop
    pub loop_exact : (m : ℕ) → s ≡ solution.Cycle m → ¬ Exists n (starts_of LogIn) (rounds_of t k)
    loop_exact m e =
        refuted_none n (rounds_of t k) (starts_of LogIn) r r' m (sized_asked t LogIn k z)
        (subst (λ q. Answered n (rounds_of t k) (starts_of LogIn) r r' (outcome_of P q)) e h)
