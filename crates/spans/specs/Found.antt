-- The moments of a plan are the earliest, and bounds that nothing lowers any more are the latest: together they tell the spans.
use Rattle.std.specs.Prelude.{◌≡◌, refl, true, false, ◌⊎◌, length}
use Rattle.std.proofs.Common.{sym, ◌∙◌}
use Rattle.std.proofs.Math.Path.{ap, subst}
use Rattle.std.proofs.Math.Logic.{inl, inr, ⊎_elim}
use mathlib.Core.List.Memᴰ
use mathlib.Core.List.{List, [], ◌∷◌, ◌++◌, map, Memᴰ}
use Rattle.std.proofs.lemmas.List.{map-append}
use Prim.Native.Nat.{ℕ, zero, suc, ◌+◌, ◌*◌, ◌-◌, ◌≤◌, ◌<◌}
use native.Mathlib.Omega.{arith}
use Rattle.std.proofs.Math.Decide.{dec_le, dec_lt}
use Rattle.table.specs.Step.{Step}
use Rattle.table.specs.declared.Table.{Table}
use Rattle.runs.specs.declared.Demand.{Demand}
use Rattle.runs.specs.declared.Start.TheVariants.{LogIn}
use Rattle.runs.specs.Demand.{plus, Starts, zero_starts, any_starts, moved, start_demands, starts_of}
use Rattle.constraints.specs.Rounds.{length_rounds}
use Rattle.constraints.specs.Sized.{Sized, moments_of, rounds_of, sized_moments}
use Rattle.sides.specs.Keys.{keys_of}
use Rattle.last_resets.specs.Distance.{distances_of}
use Rattle.leads.specs.Leads.{led_by}
use Rattle.sweeps.specs.Order.{forth_of, back_of, partners_from}
use Rattle.sweeps.specs.Ends.{start_listed}
use Rattle.basics.specs.Places.{at}
use Rattle.paths.specs.Constraint.{Constraint, Holds, All}
use Rattle.checks.specs.InParts.{in_parts, all_in_parts, edge, edges, edges_scaled}
use Rattle.relaxing.specs.Rows.{constraints_of}
use Rattle.plan.specs.Planned.{Planned}
use Rattle.plan.specs.Rows.{keys_in, leads_in, rows_of, Parts}
use Rattle.window.specs.Window.{far, span_of}
use Rattle.window.specs.Spans.{span_closed, span_open}
use Rattle.lowering.specs.Lowered.{none}
use Rattle.lowering.specs.Count.{reached}
use Rattle.lowering.specs.Bounded.{unit, Bounded, bounded_near}
use Rattle.lowering.specs.Outcome.{Greatest}
use Rattle.lowering.specs.Last.{Last, Tops, tops_solve, last_found, none_found, first_near}
use Rattle.latest.specs.Steps.{forth_edges, edges_among}
use Rattle.led_latest.specs.Steps.{led_back_edges, led_edges}
use Rattle.spans.specs.Span.{With, Earliest, Latest, Unbounded, Spans}
use Rattle.spans.specs.Solutions.{all_fit, all_weights, all_now, all_past, run_of, times_of, times_solve, times_now, times_start, times_past}

-- The bounds to begin with, on K steps and n clocks: the start and the last resets before it are at 0, and no step has a bound.
pub record Begins (K n : ℕ) (l : List ℕ) : Type 0 where
  pub room : K + n + 1 ≤ length l
  pub start : at l 0 ≡ 0
  pub steps : (i : ℕ) → 0 < i → i ≤ K → at l i ≡ none
  pub past : (j : ℕ) → 0 < j → j ≤ n → at l (K + j) ≡ 0

-- the demands of log-in: the last reset of a clock is at the start
partner_listed : (K j n : ℕ) (d : Demand) → 0 < j → Memᴰ d (partners_from K zero_starts j n)
    → (c : ℕ) × (0 < c) × (d ≡ plus (K + c) 0 0 false)
unfolding partners_from zero_starts
partner_listed K j zero d p m = absurd (Memᴰ.not-nil m)
partner_listed K j (suc n) d p m =
    go (partner_listed K (suc j) n d (omega arith)) (Memᴰ.append_cases (map (moved K) (plus j 0 0 false ∷ [])) m)
  where
    own : (j : ℕ) → 0 < j → moved K (plus j 0 0 false) ≡ plus (K + j) 0 0 false
    own zero q = absurd (omega arith)
    own (suc j) q = refl

    here : (d ≡ moved K (plus j 0 0 false)) ⊎ Memᴰ d [] → (c : ℕ) × (0 < c) × (d ≡ plus (K + c) 0 0 false)
    here (inl e) = (j, p, e ∙ own j p)
    here (inr x) = absurd (Memᴰ.not-nil x)

    go : (Memᴰ d (partners_from K zero_starts (suc j) n) → (c : ℕ) × (0 < c) × (d ≡ plus (K + c) 0 0 false))
        → Memᴰ d (map (moved K) (plus j 0 0 false ∷ [])) ⊎ Memᴰ d (partners_from K zero_starts (suc j) n)
        → (c : ℕ) × (0 < c) × (d ≡ plus (K + c) 0 0 false)
    go h (inl x) = here (Memᴰ.cases_cons x)
    go h (inr x) = h x

-- the demands of the steps of k rounds, in P parts to a tick
abbrev pub steps_of : ℕ → Table → ℕ → List Constraint
steps_of P t k = led_edges (keys_in false P t) (keys_in true P t) (led_by (leads_in P t)) (distances_of t) t.steps t.clocks (k * t.steps)

module _ (P : ℕ) (t : Table) (k : ℕ) (z : Sized t k) (enough : Parts P t LogIn k) where
  abbrev K : ℕ
  K = k * t.steps

  abbrev L : ℕ
  L = t.steps

  abbrev n : ℕ
  n = t.clocks

  abbrev σ : List Step
  σ = rounds_of t k

  abbrev D : Starts
  D = starts_of LogIn

  abbrev N : ℕ
  N = moments_of t k

  abbrev cs : List Constraint
  cs = constraints_of (rows_of P t LogIn k)

  abbrev low : List ℕ
  low = keys_in false P t

  abbrev up : List ℕ
  up = keys_in true P t

  abbrev distances : List ℕ
  distances = distances_of t

  abbrev steps : List Constraint
  steps = steps_of P t k

  abbrev partners : List Demand
  partners = partners_from K D 1 n

  abbrev forth : List Demand
  forth = forth_of low distances L n K 0 K

  abbrev back : List Demand
  back = back_of up (led_by (leads_in P t)) distances L n K K

  abbrev starts : List Demand
  starts = start_demands K any_starts 1 n

  -- ---- they are all but those between the start and the last resets before it
  steps_among : (c : Constraint) → Memᴰ c steps → Memᴰ c cs
  unfolding constraints_of forth_edges led_back_edges
  steps_among c m =
      ⊎_elim
      (edges_among forth (partners ++ (forth ++ (back ++ starts)))
      (λ d q. Memᴰ.append_right partners (Memᴰ.append_left (back ++ starts) q)) c)
      (edges_among back (partners ++ (forth ++ (back ++ starts)))
      (λ d q. Memᴰ.append_right partners (Memᴰ.append_right forth (Memᴰ.append_left starts q))) c)
      (Memᴰ.append_cases (edges forth) m)

  -- between two moments of which each is the start or a last reset before it, with no gain
  record AtStart (c : Constraint) : Type 0 where
    from : (c.from ≡ 0) ⊎ ((j : ℕ) × (0 < j) × (c.from ≡ K + j))
    to : (c.to ≡ 0) ⊎ ((j : ℕ) × (0 < j) × (c.to ≡ K + j))
    gain : c.gain ≡ 0

  all_cases : (c : Constraint) → Memᴰ c cs → Memᴰ c steps ⊎ AtStart c
  unfolding constraints_of forth_edges led_back_edges
  all_cases c m = go (Memᴰ.of_map edge (partners ++ (forth ++ (back ++ starts))) m)
    where
      partner : (d : Demand) → edge d ≡ c → (b : ℕ) × (0 < b) × (d ≡ plus (K + b) 0 0 false) → AtStart c
      partner d e b =
          let f : edge (plus (K + b.0) 0 0 false) ≡ c = ap edge (sym b.2) ∙ e in
          rw (← f) (record { from = inr (b.0, b.1, refl); to = inl refl; gain = omega arith })

      start : (d : Demand) → edge d ≡ c → (b : ℕ) × (1 ≤ b) × (d ≡ plus 0 (K + b) 0 false) → AtStart c
      start d e b =
          let f : edge (plus 0 (K + b.0) 0 false) ≡ c = ap edge (sym b.2) ∙ e in
          rw (← f) (record { from = inl refl; to = inr (b.0, b.1, refl); gain = omega arith })

      go : (d : Demand) × Memᴰ d (partners ++ (forth ++ (back ++ starts))) × (edge d ≡ c) → Memᴰ c steps ⊎ AtStart c
      go d =
          ⊎_elim (λ q. inr (partner d.0 d.2 (partner_listed K 1 n d.0 (omega arith) q)))
          (λ q. ⊎_elim (λ x. inl (rw (← d.2) (Memᴰ.append_left (edges back) (Memᴰ.map edge x))))
          (λ x. ⊎_elim (λ y. inl (rw (← d.2) (Memᴰ.append_right (edges forth) (Memᴰ.map edge y))))
          (λ y. inr (start d.0 d.2 (start_listed K 1 n d.0 y)))
          (Memᴰ.append_cases back x))
          (Memᴰ.append_cases forth q))
          (Memᴰ.append_cases partners d.1)

  -- ---- a plan, and bounds
  module _ (u s : ℕ → ℕ) (p : Planned P n σ D u s) where
    e : ℕ → ℕ
    e = times_of P t k z enough u s p.run p.allowed

    solves : All cs e
    unfolding e
    solves = times_solve P t k z enough u s p.run p.allowed

    -- the lists that the bounds begin with can be lowered: the plan is not above them
    pub begins_bounded : (l : List ℕ) → Begins K n l → Bounded N steps l
    unfolding e
    begins_bounded l b =
        record {
          room = b.room;
          few = sized_moments t k z;
          from = λ c m. (all_fit P t k z enough).from c (steps_among c m);
          to = λ c m. (all_fit P t k z enough).to c (steps_among c m);
          gain = λ c m. (all_weights P t k z enough).gain c (steps_among c m);
          loss = λ c m. (all_weights P t k z enough).loss c (steps_among c m);
          high = λ v w. place (λ v x. x ≤ none) (omega arith) (λ i q r. omega arith) (λ j q r. omega arith) v w;
          near = λ v w. place (λ v x. x < none → x ≤ reached l N * unit) (λ h. omega arith) (λ i q r h. absurd (omega arith)) (λ j q r h. omega arith) v w;
          low = e;
          solves = λ c m. solves c (steps_among c m);
          below = λ v w.
              place (λ v x. x < none → e v ≤ x) (λ h. omega (arith, times_start P t k z enough u s p.run p.allowed))
              (λ i q r h. absurd (omega arith)) (λ j q r h. omega (arith, times_past P t k z enough u s p.run p.allowed j q)) v w;
        }
      where
        -- place by place
        place : (Q : ℕ → ℕ → Type 0) → Q 0 0 → ((i : ℕ) → 0 < i → i ≤ K → Q i none) → ((j : ℕ) → 0 < j → j ≤ n → Q (K + j) 0)
            → (v : ℕ) → v < N → Q v (at l v)
        place Q a f g v w = go (dec_lt 0 v) (dec_le v K)
          where
            go : Dec (0 < v) → Dec (v ≤ K) → Q v (at l v)
            go (no x) y = let q : v ≡ 0 = omega arith in rw q (subst (Q 0) (sym b.start) a)
            go (yes x) (yes y) = subst (Q v) (sym (b.steps v x y)) (f v x y)
            go (yes x) (no y) =
                let q : v ≡ K + (v - K) = omega arith in
                rw q (subst (Q (K + (v - K))) (sym (b.past (v - K) (omega arith) (omega arith))) (g (v - K) (omega arith) (omega arith)))

    -- no solution has an earlier moment
    early : (v : ℕ) → v ≤ K → (y : ℕ → ℕ) → All cs y → y 0 + e v ≤ y v + e 0
    unfolding e
    early v l y h = go (run_of P t k z enough (λ x. x v ≡ y v - y 0) y h refl)
      where
        go : With P n σ D (λ x. x v ≡ y v - y 0)
            → y 0 + times_of P t k z enough u s p.run p.allowed v ≤ y v + times_of P t k z enough u s p.run p.allowed 0
        go w =
            omega (
              arith,
              w.fact,
              p.earliest w.moments w.starts w.run w.allowed v (omega (arith, length_rounds t k)),
              all_now P t k z enough y h v l,
              times_now P t k z enough u s p.run p.allowed v l,
              times_start P t k z enough u s p.run p.allowed,
            )

    -- The earliest moments are near.
    pub first_far : (i : ℕ) → i ≤ K → u i ≤ far
    unfolding e
    first_far i l =
        omega (
          arith,
          first_near N cs (sized_moments t k z) (all_fit P t k z enough) (all_weights P t k z enough) e solves i (early i l),
          times_now P t k z enough u s p.run p.allowed i l,
          times_start P t k z enough u s p.run p.allowed,
        )

    earliest : (i : ℕ) → i ≤ K → Earliest P n σ D i (u i)
    earliest i l =
        record {
          reached = record { moments = u; starts = s; run = p.run; allowed = p.allowed; fact = refl };
          bound = λ q r w b. p.earliest q r w b i (omega (arith, length_rounds t k));
        }

    module _ (l₀ l : List ℕ) (b : Begins K n l₀) (g : Greatest N steps l₀ l) where
      start : at l 0 ≡ 0
      start = omega (arith, g.falling.falls 0, b.start)

      past : (j : ℕ) → 0 < j → K + j < N → at l (K + j) ≡ 0
      past j q w = omega (arith, g.falling.falls (K + j), b.past j q (omega arith))

      -- the bounds of the start and of the last resets before it hold of each other
      end : (v : ℕ) → v < N → (v ≡ 0) ⊎ ((j : ℕ) × (0 < j) × (v ≡ K + j)) → at l v ≡ 0
      end v w (inl q) = rw q start
      end v w (inr q) = let x : K + q.0 < N = omega (arith, q.2) in rw q.2 (past q.0 q.1 x)

      tops : Tops N cs l
      tops =
          record {
            start = start;
            near = bounded_near N steps l g.falling.bounded;
            settled = λ c m h. holds c m h (all_cases c m);
            greatest = λ y h.
                g.falling.greatest y (λ c m. h c (steps_among c m)) (y 0)
                (λ v w q. under y h v w q (dec_lt 0 v) (dec_le v K));
          }
        where
          holds : (c : Constraint) → Memᴰ c cs → at l c.from < none → Memᴰ c steps ⊎ AtStart c → Holds c (at l)
          holds c m h (inl q) = g.settled c q h
          holds c m h (inr q) =
              omega (arith, q.gain, end c.to ((all_fit P t k z enough).to c m) q.to)

          under : (y : ℕ → ℕ) → All cs y → (v : ℕ) → v < N → at l₀ v < none → Dec (0 < v) → Dec (v ≤ K) → y v ≤ at l₀ v + y 0
          under y h v w q (no x) d = let f : v ≡ 0 = omega arith in rw f (omega arith)
          under y h v w q (yes x) (yes d) = absurd (omega (arith, b.steps v x d))
          under y h v w q (yes x) (no d) =
              let f : v ≡ K + (v - K) = omega arith in
              omega (arith, ap y f, all_past P t k z enough y h (v - K) (omega arith) (omega arith))

      -- Where every step has a last moment, all of them together are a run.
      pub latest_run : ((i : ℕ) → 0 < i → i ≤ K → at l i < none) → With P n σ D (λ x. (i : ℕ) → i ≤ K → x i ≡ at l i)
      latest_run h = run_of P t k z enough (λ x. (i : ℕ) → i ≤ K → x i ≡ at l i) (at l) all (λ i w. omega (arith, start))
        where
          each : (v : ℕ) → v < N → Dec (0 < v) → Dec (v ≤ K) → at l v < none
          each v w (no x) d = let f : v ≡ 0 = omega arith in rw f (omega (arith, start))
          each v w (yes x) (yes d) = h v x d
          each v w (yes x) (no d) =
              let f : v ≡ K + (v - K) = omega arith in rw f (omega (arith, past (v - K) (omega arith) (omega arith)))

          all : All cs (at l)
          all = tops_solve N cs (all_fit P t k z enough) (all_weights P t k z enough) l tops e solves (λ v w. each v w (dec_lt 0 v) (dec_le v K))

      module _ (i : ℕ) (w : i ≤ K) where
        latest : at l i < none → Latest P n σ D i (at l i)
        latest h = go (last_found N cs (all_fit P t k z enough) (all_weights P t k z enough) l tops e solves i (omega arith) h)
          where
            go : Last cs i (at l i) → Latest P n σ D i (at l i)
            go q =
                record {
                  reached = run_of P t k z enough (λ x. x i ≡ at l i) q.reached.0 q.reached.1 (omega (arith, q.reached.2));
                  bound = λ x r v a.
                      omega (
                        arith,
                        q.bound (times_of P t k z enough x r v a) (times_solve P t k z enough x r v a),
                        times_now P t k z enough x r v a i w,
                        times_start P t k z enough x r v a,
                      );
                }

        unbounded : none ≤ at l i → Unbounded P n σ D i
        unbounded h T =
            let q = none_found N cs (all_fit P t k z enough) (all_weights P t k z enough) l tops e solves i h T in
            run_of P t k z enough (λ x. T ≤ x i) q.0 q.1 (omega (arith, q.2))

        -- The two numbers tell the span.
        pub span_found : Spans P n σ D i (span_of (u i) (at l i))
        span_found = go (dec_le (at l i) far) (dec_lt (at l i) none)
          where
            go : Dec (at l i ≤ far) → Dec (at l i < none) → Spans P n σ D i (span_of (u i) (at l i))
            go (yes h) q = subst (Spans P n σ D i) (sym (span_closed (u i) (at l i) h)) (earliest i w, latest (omega arith))
            go (no h) (no q) =
                subst (Spans P n σ D i) (sym (span_open (u i) (at l i) (omega arith))) (earliest i w, unbounded (omega arith))
            go (no h) (yes q) = absurd (omega (arith, tops.near i (omega arith) q))
