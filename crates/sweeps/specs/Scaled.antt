-- What a pass checks when the guards are in P parts to a tick: the same demands, in the same order, with their constants in parts.
use Rattle.std.specs.Prelude.{◌≡◌, refl, List, [], ◌∷◌, ◌++◌, map, get_or}
use Rattle.std.proofs.Common.{sym, ap, ◌∙◌, arith, mod-lt}
use Rattle.std.proofs.Math.Bool.{true, false}
use Rattle.std.proofs.lemmas.List.{map-append}
use Prim.Native.Nat.{ℕ, zero, suc, ◌+◌, ◌*◌, ◌%◌, ◌≤◌, ◌<◌}
use Rattle.table.specs.Step.{step_at}
use Rattle.table.specs.Steps.{step_fair}
use Rattle.table.specs.declared.Table.{Table}
use Rattle.runs.specs.declared.Demand.{Demand}
use Rattle.runs.specs.declared.Start.{Start}
use Rattle.runs.specs.declared.Start.TheVariants.{LogIn, MidShift}
use Rattle.runs.specs.Demand.{plus, guards_demands, moment, moved, start_demands, zero_starts, any_starts, starts_of}
use Rattle.constraints.specs.Sized.{Sized}
use Rattle.scaling.specs.Constants.{scaled_table, step_scaled}
use Rattle.sides.specs.Sides.{Side}
use Rattle.sides.specs.Tight.{paired, least, key_demands}
use Rattle.sides.specs.Keys.{keys_of, keys_at}
use Rattle.sides.specs.Scaled.{scale_demand, key_demands_scaled, leads_scaled}
use Rattle.last_resets.specs.Distance.{last_of, distances_of}
use Rattle.sweeps.specs.Order.{cell, side_of, leads_at, forth_of, back_of, partners_from, sweep_of}

-- ---- lists of demands, and demands with constant 0
module _ (P : ℕ) where
  -- ps are the demands cs, in parts
  record Scaled (ps cs : List Demand) : Type 0 where
    is : ps ≡ map (scale_demand P) cs

  nil_scaled : Scaled [] []
  nil_scaled = record { is = refl }

  append_scaled : {ps qs cs ds : List Demand} → Scaled ps cs → Scaled qs ds → Scaled (ps ++ qs) (cs ++ ds)
  append_scaled {ps} {qs} {cs} {ds} e f =
      record { is = rw (e.is, f.is) (sym (map-append (scale_demand P) cs ds)) }

  zero_scaled : (a b : ℕ) → Scaled (plus a b 0 false ∷ []) (plus a b 0 false ∷ [])
  zero_scaled a b = let e : 0 * P ≡ 0 = omega arith in record { is = rw e }

  partner_scaled : (K : ℕ) (v : Start) (j : ℕ) → Scaled (map (moved K) (starts_of v j)) (map (moved K) (starts_of v j))
  unfolding zero_starts any_starts
  partner_scaled K LogIn j = zero_scaled (moment K j) 0
  partner_scaled K MidShift j = nil_scaled

  partners_scaled : (K : ℕ) (v : Start) (j n : ℕ) → Scaled (partners_from K (starts_of v) j n) (partners_from K (starts_of v) j n)
  unfolding partners_from
  partners_scaled K v j zero = nil_scaled
  partners_scaled K v j (suc n) = append_scaled (partner_scaled K v j) (partners_scaled K v (suc j) n)

  starts_scaled : (K j n : ℕ) → Scaled (start_demands K any_starts j n) (start_demands K any_starts j n)
  unfolding start_demands any_starts
  starts_scaled K j zero = nil_scaled
  starts_scaled K j (suc n) = append_scaled (zero_scaled 0 (K + j)) (starts_scaled K (suc j) n)

-- ---- the rows of a table
module _ (t : Table) (k : ℕ) (z : Sized t k) (P : ℕ) (p : 0 < P) (q : P ≤ 1031) where
  abbrev K : ℕ
  K = k * t.steps

  abbrev L : ℕ
  L = t.steps

  abbrev n : ℕ
  n = t.clocks

  abbrev far : List ℕ
  far = distances_of t

  abbrev T : Table
  T = scaled_table P t

  within : (i : ℕ) → i % L < L
  within i = mod-lt i z.good.steps_some

  -- the demand of a step's key on a clock,
  key_scaled : (b : Side) (s j x i : ℕ) → s < L → j < 7
      → Scaled P (key_demands b (get_or (keys_of b T) (cell s j) 0) x i) (key_demands b (get_or (keys_of b t) (cell s j) 0) x i)
  key_scaled b s j x i l m =
      record {
        is =
            ap (λ key. key_demands b key x i)
            (keys_at b T s j z.good.steps_few l m ∙ ap (least b j) (step_scaled P t z.good s l))
            ∙ key_demands_scaled P p q b j (step_at t s).guards (step_fair t z.good s l).guards x i
            ∙ ap (λ key. map (scale_demand P) (key_demands b key x i)) (sym (keys_at b t s j z.good.steps_few l m));
      }

  sides : (b : Side) (i j m : ℕ) → j + m ≤ 7
      → Scaled P (side_of b (keys_of b T) far K (i % L) i j m) (side_of b (keys_of b t) far K (i % L) i j m)
  unfolding side_of
  sides b i j zero l = nil_scaled P
  sides b i j (suc m) l =
      append_scaled P (key_scaled b (i % L) j (last_of (get_or far (cell (i % L) j) 0) K i j) (suc i) (within i) (omega arith))
      (sides b i (suc j) m (omega arith))

  clocks : 1 + n ≤ 7
  clocks = omega (arith, z.good.clocks_few)

  forth : (i m : ℕ) → Scaled P (forth_of (keys_of false T) far L n K i m) (forth_of (keys_of false t) far L n K i m)
  unfolding forth_of
  forth i zero = nil_scaled P
  forth i (suc m) =
      append_scaled P (append_scaled P (zero_scaled P (suc i) i) (sides false i 1 n clocks)) (forth (suc i) m)

  leads : (i : ℕ) → Scaled P (leads_at T far K (i % L) i) (leads_at t far K (i % L) i)
  leads i =
      record {
        is =
            ap (λ gs. guards_demands (paired gs) (suc i) (λ j. last_of (get_or far (cell (i % L) j) 0) K i j)) (step_scaled P t z.good (i % L) (within i))
            ∙ leads_scaled P (step_at t (i % L)).guards (suc i) (λ j. last_of (get_or far (cell (i % L) j) 0) K i j);
      }

  back : (i : ℕ) → Scaled P (back_of (keys_of true T) T far L n K i) (back_of (keys_of true t) t far L n K i)
  unfolding back_of
  back zero = nil_scaled P
  back (suc i) = append_scaled P (append_scaled P (sides true i 1 n clocks) (leads i)) (back i)

  -- ---- all steps forth, all steps back, and a whole pass
  pub forth_scaled : forth_of (keys_of false T) far L n K 0 K ≡ map (scale_demand P) (forth_of (keys_of false t) far L n K 0 K)
  forth_scaled = (forth 0 K).is

  pub back_scaled : back_of (keys_of true T) T far L n K K ≡ map (scale_demand P) (back_of (keys_of true t) t far L n K K)
  back_scaled = (back K).is

  pub sweep_scaled : (v : Start)
      → sweep_of (keys_of false T) (keys_of true T) T far (starts_of v) L n K
      ≡ map (scale_demand P) (sweep_of (keys_of false t) (keys_of true t) t far (starts_of v) L n K)
  sweep_scaled v =
      (append_scaled P (partners_scaled P K v 1 n) (append_scaled P (forth 0 K) (append_scaled P (back K) (starts_scaled P K 1 n)))).is
