-- How many demands a pass checks.
use Rattle.std.specs.Prelude.{List, ◌++◌, map, length, get_or}
use Rattle.std.proofs.Math.Bool.{true, false}
use Prim.Native.Nat.{ℕ, zero, suc, ◌*◌, ◌%◌, ◌≤◌}
use native.Mathlib.Omega.{arith}
use Rattle.std.proofs.Math.ListN.{length-append}
use Rattle.std.proofs.lemmas.List.{length-map}
use Rattle.runs.specs.declared.Start.{Start}
use Rattle.runs.specs.declared.Start.TheVariants.{MidShift}
use Rattle.table.specs.Step.{step_at}
use Rattle.table.specs.declared.Guard.{Guard}
use Rattle.table.specs.declared.Table.{Table}
use Rattle.runs.specs.Demand.{guards_demands, moved, start_demands, any_starts, starts_of}
use Rattle.constraints.specs.Count.{guards_few}
use Rattle.constraints.specs.Partner.{partners_are, partners_few, starts_number}
use Rattle.sides.specs.Sides.{Side}
use Rattle.sides.specs.Tight.{paired, paired_few, key_demands, key_demands_few}
use Rattle.last_resets.specs.Distance.{last_of}
use Rattle.sweeps.specs.Order.{cell, side_of, leads_at, upper_at, forth_at, forth_of, back_at, back_of, return_of, partners_from, sweep_of}

-- at most one for each clock
pub side_few : (b : Side) (keys far : List ℕ) (K s i j m : ℕ) → length (side_of b keys far K s i j m) ≤ m
unfolding side_of
side_few b keys far K s i j zero = omega arith
side_few b keys far K s i j (suc m) =
    rw (length-append (key_demands b (get_or keys (cell s j) 0) (last_of (get_or far (cell s j) 0) K i j) (suc i)) _)
    (omega (arith, key_demands_few b (get_or keys (cell s j) 0) (last_of (get_or far (cell s j) 0) K i j) (suc i), side_few b keys far K s i (suc j) m))

module _ (n : ℕ) (few : n ≤ 6) where
  forth_few : (low far : List ℕ) (L K i m : ℕ) → length (forth_of low far L n K i m) ≤ 7 * m
  unfolding forth_of
  forth_few low far L K i zero = omega arith
  forth_few low far L K i (suc m) =
      rw (length-append (forth_at low far L n K i) (forth_of low far L n K (suc i) m))
      (omega (arith, side_few false low far K (i % L) i 1 n, forth_few low far L K (suc i) m))

  -- at most two for each guard between two clocks
  pub leads_few : (gs : List Guard) (i : ℕ) (z : ℕ → ℕ) → length (guards_demands (paired gs) i z) ≤ 2 * length gs
  leads_few gs i z = omega (arith, guards_few (paired gs) i z, paired_few gs)

  back_few : (up : List ℕ) (T : Table) (far : List ℕ) (L K i : ℕ) → ((s : ℕ) → length (step_at T (s % L)).guards ≤ 64)
      → length (back_of up T far L n K i) ≤ 134 * i
  unfolding back_of
  back_few up T far L K zero g = omega arith
  back_few up T far L K (suc i) g =
      rw (length-append (back_at up T far L n K i) (back_of up T far L n K i), length-append (upper_at up far L n K i) (leads_at T far K (i % L) i))
      (omega (
        arith,
        side_few true up far K (i % L) i 1 n,
        leads_few (step_at T (i % L)).guards (suc i) (λ j. last_of (get_or far (cell (i % L) j) 0) K i j),
        g i,
        back_few up T far L K i g,
      ))

partner_few : (v : Start) (K j n : ℕ) → length (partners_from K (starts_of v) j n) ≤ n
unfolding partners_from
partner_few v K j zero = omega arith
partner_few v K j (suc n) =
    rw (length-append (map (moved K) (starts_of v j)) (partners_from K (starts_of v) (suc j) n))
    (omega (arith, length-map (starts_of v j) (moved K), partners_are v j, partners_few v, partner_few v K (suc j) n))

-- six clocks, 64 guards and 1,024 steps: at most 144,396
pub sweep_few : (low up : List ℕ) (T : Table) (far : List ℕ) (v : Start) (L n K : ℕ) → n ≤ 6 → K ≤ 1024
    → ((s : ℕ) → length (step_at T (s % L)).guards ≤ 64) → length (sweep_of low up T far (starts_of v) L n K) ≤ 144396
sweep_few low up T far v L n K a b g =
    omega (
      arith,
      length-append (partners_from K (starts_of v) 1 n) (forth_of low far L n K 0 K ++ return_of up T far L n K),
      length-append (forth_of low far L n K 0 K) (return_of up T far L n K),
      length-append (back_of up T far L n K K) (start_demands K any_starts 1 n),
      partner_few v K 1 n,
      forth_few n a low far L K 0 K,
      back_few n a up T far L K K g,
      starts_number MidShift K 1 n,
    )
