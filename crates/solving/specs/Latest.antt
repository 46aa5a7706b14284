-- The least solution is near; so the times of the last resets before the start may be lowered from that of the start, and what is left is
-- the greatest solution with its moments.
use Rattle.std.specs.Prelude.{◌≡◌, refl, ◌⊎◌, false, ℕ, zero, suc, ◌+◌, ◌*◌, ◌-◌, ◌%◌, ◌≤◌, ◌<◌, length}
use Rattle.std.proofs.Common.{sym, subst, ◌∙◌, inl, mul-le-mul_right, mod-lt, lt-ltb}
use Rattle.std.proofs.Math.Path.{ap}
use Rattle.std.proofs.Math.Logic.{inr, ⊎_elim}
use Rattle.std.proofs.Math.Bool.{true}
use mathlib.Core.List.{List, [], ◌∷◌, ◌++◌, Memᴰ}
use native.Mathlib.Omega.{arith}
use Rattle.std.proofs.Math.Decide.{dec_le, dec_lt}
use Rattle.std.proofs.Math.ListN.{get_or}
use Rattle.runs.specs.declared.Demand.{Demand}
use Rattle.runs.specs.Demand.{plus, start_demands, any_starts, starts_of}
use Rattle.runs.specs.Start.{start_upper}
use Rattle.leads.specs.Leads.{led_by}
use Rattle.sweeps.specs.Order.{side_of, leads_at, forth_at, forth_of, back_of, partners_from}
use Rattle.sweeps.specs.Covered.{among_forth, back_among}
use Rattle.sweeps.specs.Ends.{ToStart, side_ends, partners_ends, start_listed}
use Rattle.basics.specs.Places.{at}
use Rattle.paths.specs.Constraint.{Constraint, Holds, All, Fits}
use Rattle.checks.specs.InParts.{edge, edges}
use Rattle.checks.specs.Checks.{unit, slight_fits, slight_gains}
use Rattle.checks.specs.Led.{leads_none}
use Rattle.lowering.specs.Lowered.{none}
use Rattle.lowering.specs.Count.{reached}
use Rattle.lowering.specs.Gap.{Gap, gap, moved, moved_above, moved_below, Weights, lowered_solves}
use Rattle.lowering.specs.Bounded.{Bounded}
use Rattle.lowering.specs.Outcome.{Under, Settled, Falling}
use Rattle.latest.specs.Steps.{forth_edges, edges_among}
use Rattle.led_latest.specs.Steps.{led_back_edges, led_edges}
use Rattle.readout.specs.Late.{Began}
use Rattle.relaxing.specs.Rows.{Rows, sweep, moments, constraints_of, Sound, sound_moments}
use Rattle.solving.specs.FirstRound.{first_round}
use Rattle.solving.specs.Solved.{LeastSolution, Latest}

-- the demand that a clock was not last reset after the start
start_member : (K j n c : ℕ) → j ≤ c → c < j + n → Memᴰ (plus 0 (K + c) 0 false) (start_demands K any_starts j n)
unfolding start_demands any_starts
start_member K j zero c a b = absurd (omega arith)
start_member K j (suc n) c a b = go (dec_le c j) (start_member K (suc j) n c)
  where
    go : Dec (c ≤ j) → (suc j ≤ c → c < suc j + n → Memᴰ (plus 0 (K + c) 0 false) (start_demands K any_starts (suc j) n))
        → Memᴰ (plus 0 (K + c) 0 false) (plus 0 (K + j) 0 false ∷ start_demands K any_starts (suc j) n)
    go (yes l) h = let e : c ≡ j = omega arith in mathlib.Core.List.Memᴰ.head (ap (λ m. plus 0 (K + m) 0 false) e)
    go (no l) h = mathlib.Core.List.Memᴰ.tail (h (omega arith) (omega arith))

-- all of them have a bound
reached_all : (l : List ℕ) (n : ℕ) → ((v : ℕ) → v < n → at l v < none) → reached l n ≡ n
unfolding reached
reached_all l zero h = refl
reached_all l (suc n) h =
    rw (lt-ltb (at l n) none (h n (omega arith))) (omega (arith, reached_all l n (λ v w. h v (omega arith))))

module _ (R : Rows) (z : Sound R) where
  abbrev K : ℕ
  K = R.total

  abbrev n : ℕ
  n = R.clocks

  abbrev N : ℕ
  N = moments R

  abbrev cs : List Constraint
  cs = constraints_of R

  abbrev partners : List Demand
  partners = partners_from K (starts_of R.start) 1 n

  abbrev forth : List Demand
  forth = forth_of R.low R.far R.steps n K 0 K

  abbrev back : List Demand
  back = back_of R.up (led_by R.leads) R.far R.steps n K K

  abbrev starts : List Demand
  starts = start_demands K any_starts 1 n

  abbrev steps : List Constraint
  steps = led_edges R.low R.up (led_by R.leads) R.far R.steps n K

  -- ---- the constraints of the steps, and the others
  forth_swept : (d : Demand) → Memᴰ d forth → Memᴰ d (sweep R)
  forth_swept d m = mathlib.Core.List.Memᴰ.append_right partners (mathlib.Core.List.Memᴰ.append_left (back ++ starts) m)

  back_swept : (d : Demand) → Memᴰ d back → Memᴰ d (sweep R)
  back_swept d m = mathlib.Core.List.Memᴰ.append_right partners (mathlib.Core.List.Memᴰ.append_right forth (mathlib.Core.List.Memᴰ.append_left starts m))

  steps_member : (c : Constraint) → Memᴰ c steps → Memᴰ c cs
  unfolding forth_edges led_back_edges constraints_of
  steps_member c m =
      ⊎_elim (edges_among forth (sweep R) forth_swept c) (edges_among back (sweep R) back_swept c)
      (mathlib.Core.List.Memᴰ.append_cases (edges forth) m)

  -- a demand of each kind
  abbrev Kinds : Constraint → Type 0
  Kinds c = ((d : Demand) × Memᴰ d partners × (edge d ≡ c)) ⊎ (Memᴰ c steps ⊎ ((d : Demand) × Memᴰ d starts × (edge d ≡ c)))

  kinds : (c : Constraint) → Memᴰ c cs → Kinds c
  unfolding forth_edges led_back_edges constraints_of
  kinds c m = go (mathlib.Core.List.Memᴰ.of_map edge (sweep R) m)
    where
      last : (d : Demand) → (edge d ≡ c) → Memᴰ d back ⊎ Memᴰ d starts → Kinds c
      last d e (inl k) = inr (inl (mathlib.Core.List.Memᴰ.append_right (edges forth) (subst (λ x. Memᴰ x (edges back)) e (mathlib.Core.List.Memᴰ.map edge k))))
      last d e (inr k) = inr (inr (d, k, e))

      later : (d : Demand) → (edge d ≡ c) → Memᴰ d forth ⊎ Memᴰ d (back ++ starts) → Kinds c
      later d e (inl k) = inr (inl (mathlib.Core.List.Memᴰ.append_left (edges back) (subst (λ x. Memᴰ x (edges forth)) e (mathlib.Core.List.Memᴰ.map edge k))))
      later d e (inr k) = last d e (mathlib.Core.List.Memᴰ.append_cases back k)

      first : (d : Demand) → (edge d ≡ c) → Memᴰ d partners ⊎ Memᴰ d (forth ++ (back ++ starts)) → Kinds c
      first d e (inl k) = inl (d, k, e)
      first d e (inr k) = later d e (mathlib.Core.List.Memᴰ.append_cases forth k)

      go : (d : Demand) × Memᴰ d (sweep R) × (edge d ≡ c) → Kinds c
      go d = first d.0 d.2 (mathlib.Core.List.Memᴰ.append_cases partners d.1)

  -- no moment is before an earlier one
  order_member : (i : ℕ) → i < K → Memᴰ (edge (plus (suc i) i 0 false)) cs
  unfolding constraints_of
  order_member i l =
      mathlib.Core.List.Memᴰ.map edge
      (forth_swept (plus (suc i) i 0 false)
      (among_forth R.low R.far R.steps n K 0 K i (plus (suc i) i 0 false) (omega arith) (omega arith)
      (mathlib.Core.List.Memᴰ.head refl)))

  pub rising : (x : ℕ → ℕ) → All cs x → (i m : ℕ) → i ≤ m → m ≤ K → x i ≤ x m
  rising x h i zero a b = let e : i ≡ 0 = omega arith in rw e (omega arith)
  rising x h i (suc m) a b = go (rising x h i m) (dec_le i m)
    where
      go : (i ≤ m → m ≤ K → x i ≤ x m) → Dec (i ≤ m) → x i ≤ x (suc m)
      go r (yes l) = omega (arith, r l (omega arith), h (edge (plus (suc m) m 0 false)) (order_member m (omega arith)))
      go r (no l) = let e : i ≡ suc m = omega arith in rw e (omega arith)

  -- without guards between two clocks, what is checked back ends at a moment
  back_moment : get_or R.leads R.steps 0 ≡ 0 → (c : Constraint) → Memᴰ c (led_back_edges R.up (led_by R.leads) R.far R.steps n K) → c.to ≤ K
  unfolding led_back_edges
  back_moment none c m = go (mathlib.Core.List.Memᴰ.of_map edge back m)
    where
      at_step : (i : ℕ) → i < K → (d : Demand)
          → Memᴰ d (side_of true R.up R.far K (i % R.steps) i 1 n) ⊎ Memᴰ d (leads_at (led_by R.leads) R.far K (i % R.steps) i) → d.to ≤ K
      at_step i l d (inl k) = omega (arith, (side_ends true R.up R.far K (i % R.steps) i 1 n (omega arith) d k).0)
      at_step i l d (inr k) =
          let e = leads_none R.leads R.steps z.leads none R.far K (i % R.steps) i (mod-lt i z.some) in
          absurd (mathlib.Core.List.Memᴰ.not-nil (subst (Memᴰ d) e k))

      go : (d : Demand) × Memᴰ d back × (edge d ≡ c) → c.to ≤ K
      go d =
          let a = back_among R.up (led_by R.leads) R.far R.steps n K K d.0 d.1 in
          let l : d.0.to ≤ K = at_step a.step (omega (arith, a.last)) d.0
          (mathlib.Core.List.Memᴰ.append_cases (side_of true R.up R.far K (a.step % R.steps) a.step 1 n) a.member) in
          rw (← d.2) l

  fits : Fits N cs
  unfolding constraints_of
  fits = slight_fits N (sweep R) z.slight

  weights : Weights unit cs
  unfolding constraints_of
  weights = record { gain = slight_gains N (sweep R) z.slight; loss = λ c m. go c (mathlib.Core.List.Memᴰ.of_map edge (sweep R) m) }
    where
      go : (c : Constraint) → (d : Demand) × Memᴰ d (sweep R) × (edge d ≡ c) → c.loss ≤ unit
      go c d = rw (← d.2) (z.slight d.0 d.1).loss

  -- no last reset is after the start
  past : (y : ℕ → ℕ) → All cs y → (v : ℕ) → K < v → v < N → y v ≤ y 0
  unfolding constraints_of
  past y h v a w =
      let e : K + (v - K) ≡ v = omega arith in
      let m : Memᴰ (plus 0 (K + (v - K)) 0 false) starts = start_member K 1 n (v - K) (omega arith) (omega arith) in
      omega (
        arith,
        h (edge (plus 0 (K + (v - K)) 0 false))
            (mathlib.Core.List.Memᴰ.map edge (mathlib.Core.List.Memᴰ.append_right partners (mathlib.Core.List.Memᴰ.append_right forth (mathlib.Core.List.Memᴰ.append_right back m)))),
        ap y e,
      )

  module _ (x : ℕ → ℕ) (h : LeastSolution R x) where
    -- ---- the least solution is near: otherwise what lies above an empty band could be lowered
    abbrev B : ℕ
    B = 24012 * N

    near : (v : ℕ) → v < N → x v ≤ B + N * unit
    near v w = go (dec_le (x v) (B + N * unit))
      where
        none_such : (g : (i : ℕ) × (i ≤ N) × Gap N unit x (B + i * unit)) → B + N * unit < x v → ⊥
        none_such g l =
            let high : B + g.0 * unit < x v = omega (arith, mul-le-mul_right unit g.1) in
            omega (
              arith,
              moved_above (B + g.0 * unit) (λ q. q - 1) x v high,
              h.least (moved (B + g.0 * unit) (λ q. q - 1) x)
                  (lowered_solves N unit cs fits weights x h.solution (B + g.0 * unit) g.2) (λ i m. above i m (dec_lt (B + g.0 * unit) (x i))) v w,
            )
          where
            above : (i : ℕ) → i ≤ K → Dec (B + g.0 * unit < x i) → B ≤ moved (B + g.0 * unit) (λ q. q - 1) x i
            above i m (yes p) = omega (arith, moved_above (B + g.0 * unit) (λ q. q - 1) x i p)
            above i m (no p) =
                let q : x i ≤ B + g.0 * unit = omega arith in
                omega (arith, moved_below (B + g.0 * unit) (λ q. q - 1) x i q, h.above i m)

        go : Dec (x v ≤ B + N * unit) → x v ≤ B + N * unit
        go (yes l) = l
        go (no l) = absurd (none_such (gap N unit B x) (omega arith))

    -- ---- the times begin with its moments and its start
    module _ (τ : List ℕ) (e : (v : ℕ) → at τ v ≡ x v) (room : N ≤ length τ) (b : List ℕ) (began : Began τ K n b) where
      began_now : (i : ℕ) → i ≤ K → at b i ≡ x i
      began_now i m = began.now i m ∙ e i

      began_past : (v : ℕ) → K < v → v < N → at b v ≡ x 0
      began_past v a w = began.past v a (omega arith) ∙ e 0

      began_near : (v : ℕ) → v < N → at b v ≤ B + N * unit
      began_near v w = go (dec_le v K)
        where
          go : Dec (v ≤ K) → at b v ≤ B + N * unit
          go (yes m) = omega (arith, began_now v m, near v w)
          go (no m) = omega (arith, began_past v (omega arith) w, near 0 (omega arith))

      began_some : (v : ℕ) → v < N → at b v < none
      began_some v w = omega (arith, began_near v w, sound_moments R z)

      began_above : (v : ℕ) → v < N → x v ≤ at b v
      began_above v w = go (dec_le v K)
        where
          go : Dec (v ≤ K) → x v ≤ at b v
          go (yes m) = omega (arith, began_now v m)
          go (no m) = omega (arith, began_past v (omega arith) w, past x h.solution v (omega arith) w)

      pub began_bounded : Bounded N steps b
      began_bounded =
          record {
            room = omega (arith, began.size);
            few = sound_moments R z;
            from = λ c m. fits.from c (steps_member c m);
            to = λ c m. fits.to c (steps_member c m);
            gain = λ c m. omega (arith, weights.gain c (steps_member c m));
            loss = λ c m. omega (arith, weights.loss c (steps_member c m));
            high = λ v w. omega (arith, began_some v w);
            near = λ v w q. omega (arith, began_near v w, reached_all b N began_some);
            low = x;
            solves = λ c m. h.solution c (steps_member c m);
            below = λ v w q. began_above v w;
          }

      -- ---- what is left is the greatest solution with these moments
      module _ (l' : List ℕ) (falling : Falling N steps b l')
          (first : (i : ℕ) → i < R.steps → Settled (edges (forth_at R.low R.far R.steps n K i)) l')
          (above : 0 < get_or R.leads R.steps 0 → Settled (led_back_edges R.up (led_by R.leads) R.far R.steps n K) l') where
        some : (v : ℕ) → v < N → at l' v < none
        some v w = omega (arith, falling.falls v, began_some v w)

        -- a solution with these moments is under the bounds, when time is counted from k
        under : (y : ℕ → ℕ) (k : ℕ) → All cs y → ((i : ℕ) → i ≤ K → y i ≡ x i + k) → Under N b k y
        under y k s f v w q = go (dec_le v K)
          where
            go : Dec (v ≤ K) → y v ≤ at b v + k
            go (yes m) = omega (arith, f v m, began_now v m)
            go (no m) = omega (arith, past y s v (omega arith) w, f 0 (omega arith), began_past v (omega arith) w)

        greatest : (y : ℕ → ℕ) (k : ℕ) → All cs y → ((i : ℕ) → i ≤ K → y i ≡ x i + k) → (v : ℕ) → v < N → y v ≤ at l' v + k
        greatest y k s f v w = falling.greatest y (λ c m. s c (steps_member c m)) k (under y k s f) v w (some v w)

        itself : (v : ℕ) → v < N → x v ≤ at l' v
        itself v w = omega (arith, greatest x 0 h.solution (λ i m. omega arith) v w)

        now : (i : ℕ) → i ≤ K → at l' i ≡ x i
        now i m = omega (arith, falling.falls i, began_now i m, itself i (omega arith))

        -- so no moment is before an earlier one
        rises : (i m : ℕ) → i ≤ m → m ≤ K → at l' i ≤ at l' m
        rises i m a b = omega (arith, now i (omega arith), now m b, rising x h.solution i m a b)

        -- what ends at a moment still holds
        moment : (c : Constraint) → Memᴰ c cs → c.to ≤ K → Holds c (at l')
        moment c m l = omega (arith, h.solution c m, itself c.from (fits.from c m), now c.to l)

        solution : All cs (at l')
        unfolding constraints_of
        solution c m = go (kinds c m)
          where
            step : Memᴰ c (forth_edges R.low R.far R.steps n K) ⊎ Memᴰ c (led_back_edges R.up (led_by R.leads) R.far R.steps n K)
                → Dec (0 < get_or R.leads R.steps 0) → Holds c (at l')
            step (inl k) d = forth_step (dec_lt K c.to)
              where
                forth_step : Dec (K < c.to) → Holds c (at l')
                forth_step (yes l) =
                    first_round R.low R.far R.steps n K z.some z.near l' first rises c k l (some c.from (fits.from c m))
                forth_step (no l) = moment c m (omega arith)
            step (inr k) (yes l) = above l c k (some c.from (fits.from c m))
            step (inr k) (no l) = moment c m (back_moment (omega arith) c k)

            go : Kinds c → Holds c (at l')
            go (inl d) =
                let t : ToStart K d.0 = partners_ends K n (starts_of R.start) (start_upper R.start n) 1 n (omega arith) (omega arith) d.0 d.1 in
                let to : c.to ≡ 0 = ap (λ (b : Constraint). b.to) (sym d.2) ∙ t.1 in
                moment c m (omega (arith, to))
            go (inr (inl k)) =
                step (mathlib.Core.List.Memᴰ.append_cases (forth_edges R.low R.far R.steps n K) k) (dec_lt 0 (get_or R.leads R.steps 0))
            go (inr (inr d)) =
                let s = start_listed K 1 n d.0 d.1 in
                let f : edge (plus 0 (K + s.0) 0 false) ≡ c = ap edge (sym s.2) ∙ d.2 in
                let w : c.to < N = fits.to c m in
                let w' : K + s.0 < N = rw (← f) at w in
                rw (← f)
                (omega (
                  arith,
                  falling.falls (K + s.0),
                  began_past (K + s.0) (omega (arith, s.1)) w',
                  now 0 (omega arith),
                ))

        pub lowered_latest : Latest R x (at l')
        lowered_latest = record { solution = solution; now = now; greatest = greatest }
