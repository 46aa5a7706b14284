-- The rows of a table and a variant of the start, in P parts to a tick: what their passes relax is, constraint by constraint, the tightest
-- demands of k rounds in these parts, and these stand for all.
use Rattle.std.specs.Prelude.{◌≡◌, Bool, false, get_or}
use Rattle.std.proofs.Math.Path.{refl, ap}
use Rattle.std.proofs.Common.{sym, subst, ◌∙◌, inl, arith, mod-lt, mul-le-mul_right}
use Rattle.std.proofs.Math.Bool.{true}
use mathlib.Core.List.Memᴰ
use mathlib.Core.List.{List, ◌++◌, map, Memᴰ}
use Prim.Native.Nat.{ℕ, zero, suc, ◌+◌, ◌*◌, ◌%◌, ◌≤◌}
use Rattle.std.proofs.Math.Nat.{mul-mod_left}
use Rattle.table.specs.Step.{step_at}
use Rattle.table.specs.declared.Table.{Table}
use Rattle.runs.specs.declared.Demand.{Demand}
use Rattle.runs.specs.declared.Start.{Start}
use Rattle.runs.specs.Demand.{guards_demands, start_demands, any_starts, starts_of}
use Rattle.runs.specs.DemandRange.{Proper}
use Rattle.runs.specs.Cycle.{Enough}
use Rattle.runs.specs.Parts.{bit_small}
use Rattle.runs.specs.Tools.{Every}
use Rattle.constraints.specs.Demands.{demands_of}
use Rattle.constraints.specs.Sized.{Sized, moments_of, parts_of, sized_moments, sized_proper}
use Rattle.scaling.specs.Scaled.{scaled_most, scaled_of, scaled_size}
use Rattle.scaling.specs.Constants.{table_with, scaled_table, scaled_small}
use Rattle.sides.specs.Tight.{paired, paired_twice}
use Rattle.leads.specs.Leads.{leads_of, led_by, leads_step, leads_leading}
use Rattle.sides.specs.Keys.{Numbers, keys_of, keys_size}
use Rattle.sides.specs.Covers.{Covers}
use Rattle.sides.specs.Scaled.{scale_demand}
use Rattle.last_resets.specs.Distance.{last_of, distances_of, distances_size, distances_round}
use Rattle.sweeps.specs.Order.{cell, side_of, forth_of, back_at, back_of, partners_from, sweep_of}
use Rattle.sweeps.specs.Covered.{covers_sweep}
use Rattle.sweeps.specs.Scaled.{sweep_scaled}
use Rattle.checks.specs.InParts.{all_in_parts, edges, edges_scaled}
use Rattle.checks.specs.Checks.{Slight}
use Rattle.relaxing.specs.Rows.{Rows, rows, sweep, constraints_of, Sound}

-- the keys of one side, with the constants in P parts to a tick
abbrev pub keys_in : Bool → ℕ → Table → List ℕ
keys_in b P t = keys_of b (scaled_table P t)

-- the row of the guards between two clocks, with these constants
abbrev pub leads_in : ℕ → Table → List ℕ
leads_in P t = leads_of (scaled_table P t)

abbrev pub rows_of : ℕ → Table → Start → ℕ → Rows
rows_of P t v k = rows (keys_in false P t) (keys_in true P t) (leads_in P t) (distances_of t) v t.steps t.clocks (k * t.steps)

-- the tightest demands, in ticks and in the order of a pass
abbrev pub tightest : Table → Start → ℕ → List Demand
tightest t v k = sweep_of (keys_of false t) (keys_of true t) t (distances_of t) (starts_of v) t.steps t.clocks (k * t.steps)

-- What is asked of the parts: not more than there are moments, and enough for the cycles of these demands.
pub record Parts (P : ℕ) (t : Table) (v : Start) (k : ℕ) : Type 0 where
  pub few : P ≤ moments_of t k
  pub enough : Enough P (moments_of t k) (tightest t v k)

-- as many as there are moments are enough
pub parts_moments : (t : Table) (v : Start) (k : ℕ) → Parts (parts_of t k) t v k
parts_moments t v k = record { few = omega arith; enough = (omega arith, inl (omega arith)) }

module _ (P : ℕ) (t : Table) (v : Start) (k : ℕ) (z : Sized t k) (f : Parts P t v k) where
  most : P ≤ 1031
  most = omega (arith, f.few, sized_moments t k z)

  abbrev T : Table
  T = scaled_table P t

  -- the row tells the leads of each step
  back_led : (up far : List ℕ) (i : ℕ)
      → back_of up (led_by (leads_in P t)) far t.steps t.clocks (k * t.steps) i ≡ back_of up T far t.steps t.clocks (k * t.steps) i
  unfolding back_of
  back_led up far zero = refl
  back_led up far (suc i) =
      ap (λ gs. (side_of true up far (k * t.steps) (i % t.steps) i 1 t.clocks
      ++ guards_demands gs (suc i) (λ j. last_of (get_or far (cell (i % t.steps) j) 0) (k * t.steps) i j))
      ++ back_of up (led_by (leads_in P t)) far t.steps t.clocks (k * t.steps) i)
      (ap paired (leads_step t z.good (scaled_of P t) (i % t.steps) (mod-lt i z.good.steps_some))
      ∙ paired_twice (step_at T (i % t.steps)).guards)
      ∙ ap (λ ds. back_at up T far t.steps t.clocks (k * t.steps) i ++ ds) (back_led up far i)

  scaled : sweep (rows_of P t v k) ≡ map (scale_demand P) (tightest t v k)
  scaled =
      ap (λ ds. partners_from (k * t.steps) (starts_of v) 1 t.clocks
      ++ (forth_of (keys_in false P t) (distances_of t) t.steps t.clocks (k * t.steps) 0 (k * t.steps)
      ++ (ds ++ start_demands (k * t.steps) any_starts 1 t.clocks))) (back_led (keys_in true P t) (distances_of t) (k * t.steps))
      ∙ sweep_scaled t k z P f.enough.0 most v

  -- What is relaxed is, constraint by constraint and in the same order, what the demands in ticks are in parts.
  pub rows_same : constraints_of (rows_of P t v k) ≡ all_in_parts P (tightest t v k)
  unfolding constraints_of
  rows_same = ap edges scaled ∙ edges_scaled P (tightest t v k)

  pub rows_cover : Covers (tightest t v k) (demands_of t v k)
  rows_cover = covers_sweep t k z v

  pub rows_proper : Every (Proper (k * t.steps + t.clocks)) (tightest t v k)
  rows_proper d m = sized_proper t k z v d (rows_cover.among d m)

  slight : Every (Slight (moments_of t k)) (sweep (rows_of P t v k))
  slight d m = go (Memᴰ.of_map (scale_demand P) (tightest t v k) (subst (Memᴰ d) scaled m))
    where
      go : (e : Demand) × Memᴰ e (tightest t v k) × (scale_demand P e ≡ d) → Slight (moments_of t k) d
      go (e, l, h) =
          let p = rows_proper e l in
          subst (Slight (moments_of t k)) h
          (record {
            from = omega (arith, p.from);
            to = omega (arith, p.to);
            gain = omega (arith, scaled_most e.down P p.down most, bit_small e.strict);
            loss = omega (arith, scaled_most e.up P p.up most);
          })

  pub rows_sound : Sound (rows_of P t v k)
  rows_sound =
      record {
        low = keys_size false (scaled_table P t);
        up = keys_size true (scaled_table P t);
        leads = leads_leading t z.good (scaled_of P t);
        far = distances_size t;
        some = z.good.steps_some;
        steps = z.good.steps_few;
        clocks = z.good.clocks_few;
        few = z.few;
        round = omega (arith, mul-le-mul_right t.steps z.some);
        whole = mul-mod_left k t.steps;
        near = λ p. distances_round t p z.good.steps_some;
        slight = slight;
      }

-- ---- the rows as they are computed, from the row of scaled constants
pub record Computed (P : ℕ) (t : Table) (low up leads far : List ℕ) : Type 0 where
  pub below : low ≡ keys_in false P t
  pub above : up ≡ keys_in true P t
  pub led : leads ≡ leads_in P t
  pub distances : far ≡ distances_of t

module _ (P : ℕ) (t : Table) (cs : List ℕ) (e : cs ≡ scaled_of P t) where
  pub scaled_numbers : (k : ℕ) → Sized t k → P ≤ moments_of t k → Numbers t cs
  scaled_numbers k z few =
      subst (Numbers t) (sym e)
      (record {
        size = scaled_size P t;
        small = scaled_small P t z.good (omega (arith, few, sized_moments t k z));
      })

  pub rows_computed : (low up leads far : List ℕ) → low ≡ keys_of false (table_with cs t) → up ≡ keys_of true (table_with cs t)
      → leads ≡ leads_of (table_with cs t) → far ≡ distances_of t → Computed P t low up leads far
  rows_computed low up leads far f g l h =
      record {
        below = f ∙ ap (λ l. keys_of false (table_with l t)) e;
        above = g ∙ ap (λ l. keys_of true (table_with l t)) e;
        led = l ∙ ap (λ r. leads_of (table_with r t)) e;
        distances = h;
      }
