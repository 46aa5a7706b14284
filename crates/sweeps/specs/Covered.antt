-- What a pass over the rows of a table checks stands for all demands of k rounds: the same solutions, and loops of these are loops.
use Rattle.std.specs.Prelude.{◌≡◌, ◌⊎◌, true, false, get_or}
use Rattle.std.proofs.Common.{sym, ap, subst, ◌∙◌, arith, mod-lt}
use Rattle.std.proofs.Math.Logic.{inl, inr, ⊎_elim}
use mathlib.Core.List.Memᴰ
use mathlib.Core.List.{List, [], ◌∷◌, ◌++◌, map, Memᴰ, append_assoc}
use Prim.Native.Nat.{ℕ, zero, suc, ◌+◌, ◌*◌, ◌%◌, ◌≤◌, ◌<◌}
use Rattle.std.proofs.Math.Decide.{ℕ_discrete}
use Rattle.table.specs.Step.{steps_of}
use Rattle.table.specs.Steps.{step_member}
use Rattle.table.specs.declared.Table.{Table}
use Rattle.runs.specs.declared.Demand.{Demand}
use Rattle.runs.specs.declared.Start.{Start}
use Rattle.runs.specs.Demand.{plus, guards_demands, Starts, moved, start_demands, any_starts, starts_of}
use Rattle.constraints.specs.Demands.{demands_of}
use Rattle.constraints.specs.Sized.{Sized, starts_part, parts_are}
use Rattle.sides.specs.Sides.{Side}
use Rattle.sides.specs.Covers.{Covers, Stronger, covers_append, covers_same}
use Rattle.runs.specs.DemandOrder.{guards_demands_same}
use Rattle.sides.specs.Tight.{paired, member_paired, least, key_demands, tight, tight_zero, tight_suc, covers_tight}
use Rattle.sides.specs.Keys.{keys_of, keys_at}
use Rattle.last_resets.specs.Since.{step_of, last_resets}
use Rattle.last_resets.specs.Rounds.{demands_from, steps_are}
use Rattle.last_resets.specs.Distance.{last_of, distances_of, distances_at, last_of_lem}
use Rattle.sweeps.specs.Order.{cell, side_of, side_none, side_more, leads_at, forth_at, forth_of, upper_at, back_at, back_of, upper_of, partners_from, sweep_of}

-- ---- the demands of some steps are those of each
-- a step from i on, of m steps, whose list has d
pub record Among (at : ℕ → List Demand) (i m : ℕ) (d : Demand) : Type 0 where
  pub step : ℕ
  pub first : i ≤ step
  pub last : step < i + m
  pub member : Memᴰ d (at step)

among_here : {at : ℕ → List Demand} {i m : ℕ} {d : Demand} → Memᴰ d (at i) → Among at i (suc m) d
among_here {i = i} k = record { step = i; first = omega arith; last = omega arith; member = k }

among_later : {at : ℕ → List Demand} {i m : ℕ} {d : Demand} → Among at (suc i) m d → Among at i (suc m) d
among_later a = record { step = a.step; first = omega (arith, a.first); last = omega (arith, a.last); member = a.member }

among_before : {at : ℕ → List Demand} {i : ℕ} {d : Demand} → Among at 0 i d → Among at 0 (suc i) d
among_before a = record { step = a.step; first = a.first; last = omega (arith, a.last); member = a.member }

among_last : {at : ℕ → List Demand} {i : ℕ} {d : Demand} → Memᴰ d (at i) → Among at 0 (suc i) d
among_last {i = i} k = record { step = i; first = omega arith; last = omega arith; member = k }

module _ (low far : List ℕ) (L n K : ℕ) where
  pub forth_among : (i m : ℕ) (d : Demand) → Memᴰ d (forth_of low far L n K i m) → Among (forth_at low far L n K) i m d
  unfolding forth_of
  forth_among i zero d k = absurd (Memᴰ.not-nil k)
  forth_among i (suc m) d k =
      ⊎_elim among_here (λ l. among_later (forth_among (suc i) m d l)) (Memᴰ.append_cases (forth_at low far L n K i) k)

  pub among_forth : (i m s : ℕ) (d : Demand) → i ≤ s → s < i + m → Memᴰ d (forth_at low far L n K s)
      → Memᴰ d (forth_of low far L n K i m)
  unfolding forth_of
  among_forth i zero s d a b k = absurd (omega arith)
  among_forth i (suc m) s d a b k = go (among_forth (suc i) m s d) (ℕ_discrete s i)
    where
      go : (suc i ≤ s → s < suc i + m → Memᴰ d (forth_at low far L n K s) → Memᴰ d (forth_of low far L n K (suc i) m))
          → Dec (s ≡ i) → Memᴰ d (forth_at low far L n K i ++ forth_of low far L n K (suc i) m)
      go h (yes e) = Memᴰ.append_left _ (rw e at k)
      go h (no e) = Memᴰ.append_right (forth_at low far L n K i) (h (omega arith) (omega arith) k)

module _ (up : List ℕ) (T : Table) (far : List ℕ) (L n K : ℕ) where
  pub back_among : (i : ℕ) (d : Demand) → Memᴰ d (back_of up T far L n K i) → Among (back_at up T far L n K) 0 i d
  unfolding back_of
  back_among zero d k = absurd (Memᴰ.not-nil k)
  back_among (suc i) d k =
      ⊎_elim among_last (λ l. among_before (back_among i d l)) (Memᴰ.append_cases (back_at up T far L n K i) k)

  pub among_back : (i s : ℕ) (d : Demand) → s < i → Memᴰ d (back_at up T far L n K s) → Memᴰ d (back_of up T far L n K i)
  unfolding back_of
  among_back zero s d b k = absurd (omega arith)
  among_back (suc i) s d b k = go (among_back i s d) (ℕ_discrete s i)
    where
      go : (s < i → Memᴰ d (back_at up T far L n K s) → Memᴰ d (back_of up T far L n K i)) → Dec (s ≡ i)
          → Memᴰ d (back_at up T far L n K i ++ back_of up T far L n K i)
      go h (yes e) = Memᴰ.append_left _ (rw e at k)
      go h (no e) = Memᴰ.append_right (back_at up T far L n K i) (h (omega arith) k)

module _ (up far : List ℕ) (L n K : ℕ) where
  pub upper_among : (i : ℕ) (d : Demand) → Memᴰ d (upper_of up far L n K i) → Among (upper_at up far L n K) 0 i d
  unfolding upper_of
  upper_among zero d k = absurd (Memᴰ.not-nil k)
  upper_among (suc i) d k =
      ⊎_elim among_last (λ l. among_before (upper_among i d l)) (Memᴰ.append_cases (upper_at up far L n K i) k)

  pub among_upper : (i s : ℕ) (d : Demand) → s < i → Memᴰ d (upper_at up far L n K s) → Memᴰ d (upper_of up far L n K i)
  unfolding upper_of
  among_upper zero s d b k = absurd (omega arith)
  among_upper (suc i) s d b k = go (among_upper i s d) (ℕ_discrete s i)
    where
      go : (s < i → Memᴰ d (upper_at up far L n K s) → Memᴰ d (upper_of up far L n K i)) → Dec (s ≡ i)
          → Memᴰ d (upper_at up far L n K i ++ upper_of up far L n K i)
      go h (yes e) = Memᴰ.append_left _ (rw e at k)
      go h (no e) = Memᴰ.append_right (upper_at up far L n K i) (h (omega arith) k)

  -- they are some of all those back
  pub upper_back : (T : Table) (i : ℕ) (d : Demand) → Memᴰ d (upper_of up far L n K i) → Memᴰ d (back_of up T far L n K i)
  upper_back T i d m =
      let a = upper_among i d m in
      among_back up T far L n K i a.step d (omega (arith, a.last)) (Memᴰ.append_left _ a.member)

module _ (t : Table) (K : ℕ) where
  -- the demands of step i
  abbrev own_at : ℕ → List Demand
  own_at i = plus (suc i) i 0 false ∷ guards_demands (step_of t i).guards (suc i) (last_resets t K i)

  from_among : (i m : ℕ) (d : Demand) → Memᴰ d (demands_from t K i m) → Among own_at i m d
  unfolding demands_from
  from_among i zero d k = absurd (Memᴰ.not-nil k)
  from_among i (suc m) d k =
      ⊎_elim among_here (λ l. among_later (from_among (suc i) m d l)) (Memᴰ.append_cases (own_at i) k)

  among_from : (i m s : ℕ) (d : Demand) → i ≤ s → s < i + m → Memᴰ d (own_at s) → Memᴰ d (demands_from t K i m)
  unfolding demands_from
  among_from i zero s d a b k = absurd (omega arith)
  among_from i (suc m) s d a b k = go (among_from (suc i) m s d) (ℕ_discrete s i)
    where
      go : (suc i ≤ s → s < suc i + m → Memᴰ d (own_at s) → Memᴰ d (demands_from t K (suc i) m)) → Dec (s ≡ i)
          → Memᴰ d (own_at i ++ demands_from t K (suc i) m)
      go h (yes e) = Memᴰ.append_left _ (rw e at k)
      go h (no e) = Memᴰ.append_right (own_at i) (h (omega arith) (omega arith) k)

-- ---- the start demands are the partners, and those of any start
module _ (K : ℕ) (D : Starts) where
  partner_start : (j n : ℕ) (d : Demand) → Memᴰ d (partners_from K D j n) → Memᴰ d (start_demands K D j n)
  unfolding partners_from start_demands
  partner_start j zero d k = absurd (Memᴰ.not-nil k)
  partner_start j (suc n) d k =
      Memᴰ.tail
      (⊎_elim (Memᴰ.append_left _) (λ l. Memᴰ.append_right (map (moved K) (D j)) (partner_start (suc j) n d l))
      (Memᴰ.append_cases (map (moved K) (D j)) k))

  any_start : (j n : ℕ) (d : Demand) → Memᴰ d (start_demands K any_starts j n) → Memᴰ d (start_demands K D j n)
  unfolding start_demands any_starts
  any_start j zero d k = k
  any_start j (suc n) d k =
      ⊎_elim (λ e. Memᴰ.head e) (λ l. Memᴰ.tail (Memᴰ.append_right (map (moved K) (D j)) (any_start (suc j) n d l)))
      (Memᴰ.cases_cons k)

  start_among : (j n : ℕ) (d : Demand) → Memᴰ d (start_demands K D j n)
      → Memᴰ d (partners_from K D j n) ⊎ Memᴰ d (start_demands K any_starts j n)
  unfolding partners_from start_demands any_starts
  start_among j zero d k = inr k
  start_among j (suc n) d k =
      ⊎_elim (λ e. inr (Memᴰ.head e))
      (λ l. ⊎_elim (λ h. inl (Memᴰ.append_left _ h))
      (λ h. ⊎_elim (λ q. inl (Memᴰ.append_right (map (moved K) (D j)) q)) (λ q. inr (Memᴰ.tail q)) (start_among (suc j) n d h))
      (Memᴰ.append_cases (map (moved K) (D j)) l))
      (Memᴰ.cases_cons k)

  covers_starts : (j n : ℕ) → Covers (partners_from K D j n ++ start_demands K any_starts j n) (start_demands K D j n)
  covers_starts j n =
      record {
        among = λ e m. ⊎_elim (partner_start j n e) (any_start j n e) (Memᴰ.append_cases (partners_from K D j n) m);
        covered = λ d m.
            (covers_same (partners_from K D j n ++ start_demands K any_starts j n)).covered d
            (⊎_elim (Memᴰ.append_left _) (Memᴰ.append_right (partners_from K D j n)) (start_among j n d m));
      }

-- the first of three lists may change place with the second
turned : (ps cs qs : List Demand) (e : Demand) → Memᴰ e (ps ++ (cs ++ qs)) → Memᴰ e (cs ++ (ps ++ qs))
turned ps cs qs e m =
    ⊎_elim (λ l. Memᴰ.append_right cs (Memᴰ.append_left qs l))
    (λ l. ⊎_elim (Memᴰ.append_left (ps ++ qs)) (λ h. Memᴰ.append_right cs (Memᴰ.append_right ps h)) (Memᴰ.append_cases cs l))
    (Memᴰ.append_cases ps m)

covers_turned : (ps cs qs ds : List Demand) → Covers (cs ++ (ps ++ qs)) ds → Covers (ps ++ (cs ++ qs)) ds
covers_turned ps cs qs ds c =
    record {
      among = λ e m. c.among e (turned ps cs qs e m);
      covered = λ d m. let e = c.covered d m in (e.0, turned cs ps qs e.0 e.1, e.2);
    }

-- ---- the rows of a table
module _ (t : Table) (k : ℕ) (z : Sized t k) where
  abbrev K : ℕ
  K = k * t.steps

  abbrev L : ℕ
  L = t.steps

  abbrev n : ℕ
  n = t.clocks

  abbrev far : List ℕ
  far = distances_of t

  within : (i : ℕ) → i % L < L
  within i = mod-lt i z.good.steps_some

  -- a side of a step is its tightest guards
  side_tight : (b : Side) (i j m : ℕ) → j + m ≤ 7
      → side_of b (keys_of b t) far K (i % L) i j m ≡ tight b (step_of t i).guards (suc i) (last_resets t K i) j m
  side_tight b i j zero l =
      side_none b (keys_of b t) far K (i % L) i j ∙ sym (tight_zero b (step_of t i).guards (suc i) (last_resets t K i) j)
  side_tight b i j (suc m) l =
      side_more b (keys_of b t) far K (i % L) i j m
      ∙ ap (λ ds. ds ++ side_of b (keys_of b t) far K (i % L) i (suc j) m) here
      ∙ ap (λ ds. key_demands b (least b j (step_of t i).guards) (last_resets t K i j) (suc i) ++ ds)
      (side_tight b i (suc j) m (omega arith))
      ∙ sym (tight_suc b (step_of t i).guards (suc i) (last_resets t K i) j m)
    where
      here : key_demands b (get_or (keys_of b t) (cell (i % L) j) 0) (last_of (get_or far (cell (i % L) j) 0) K i j) (suc i)
          ≡ key_demands b (least b j (step_of t i).guards) (last_resets t K i j) (suc i)
      here =
          ap (λ q. key_demands b q (last_of (get_or far (cell (i % L) j) 0) K i j) (suc i))
          (keys_at b t (i % L) j z.good.steps_few (within i) (omega arith))
          ∙ ap (λ q. key_demands b (least b j (step_of t i).guards) q (suc i))
          (ap (λ d. last_of d K i j) (distances_at t (i % L) j z.good.steps_few (within i) (omega arith))
          ∙ sym (last_of_lem t K i j z.good.steps_some))

  abbrev forth_at_lem : ℕ → List Demand
  forth_at_lem = forth_at (keys_of false t) far L n K

  abbrev back_at_lem : ℕ → List Demand
  back_at_lem = back_at (keys_of true t) t far L n K

  -- at each step they stand for all
  covers_step : (i : ℕ) → Covers (forth_at_lem i ++ back_at_lem i) (own_at t K i)
  covers_step i =
      subst (λ ds. Covers ds (own_at t K i)) (sym same)
      (covers_append (covers_same (plus (suc i) i 0 false ∷ []))
      (covers_tight n (step_of t i).guards (λ g m. (z.good.fair (step_of t i) member).guards g m)
      (λ g m. z.clocks (step_of t i) member g m) (suc i) (last_resets t K i)))
    where
      member : Memᴰ (step_of t i) (steps_of t)
      member = step_member t (i % L) (within i)

      leads_same : leads_at t far K (i % L) i ≡ guards_demands (paired (step_of t i).guards) (suc i) (last_resets t K i)
      leads_same =
          guards_demands_same (paired (step_of t i).guards) (suc i) _ (last_resets t K i)
          (λ g m. (z.good.fair (step_of t i) member).guards g (member_paired (step_of t i).guards g m))
          (λ j p l.
          ap (λ d. last_of d K i j) (distances_at t (i % L) j z.good.steps_few (within i) l)
          ∙ sym (last_of_lem t K i j z.good.steps_some))

      same : forth_at_lem i ++ back_at_lem i
          ≡ (plus (suc i) i 0 false ∷ [])
          ++ (tight false (step_of t i).guards (suc i) (last_resets t K i) 1 n
          ++ (tight true (step_of t i).guards (suc i) (last_resets t K i) 1 n
          ++ guards_demands (paired (step_of t i).guards) (suc i) (last_resets t K i)))
      same =
          rw (
            side_tight false i 1 n (omega (arith, z.good.clocks_few)),
            side_tight true i 1 n (omega (arith, z.good.clocks_few)),
            leads_same,
          )

  abbrev all_forth : List Demand
  all_forth = forth_of (keys_of false t) far L n K 0 K

  abbrev all_back : List Demand
  all_back = back_of (keys_of true t) t far L n K K

  steps_among : (d : Demand) → Memᴰ d (all_forth ++ all_back) → Memᴰ d (demands_from t K 0 K)
  steps_among d m =
      ⊎_elim (λ l. forth (forth_among (keys_of false t) far L n K 0 K d l)) (λ l. back (back_among (keys_of true t) t far L n K K d l))
      (Memᴰ.append_cases all_forth m)
    where
      forth : Among forth_at_lem 0 K d → Memᴰ d (demands_from t K 0 K)
      forth a =
          among_from t K 0 K a.step d a.first a.last
          ((covers_step a.step).among d (Memᴰ.append_left (back_at_lem a.step) a.member))

      back : Among back_at_lem 0 K d → Memᴰ d (demands_from t K 0 K)
      back a =
          among_from t K 0 K a.step d a.first a.last
          ((covers_step a.step).among d (Memᴰ.append_right (forth_at_lem a.step) a.member))

  steps_covered : (d : Demand) → Memᴰ d (demands_from t K 0 K)
      → (e : Demand) × Memᴰ e (all_forth ++ all_back) × Stronger e d
  steps_covered d m = go (from_among t K 0 K d m)
    where
      go : Among (own_at t K) 0 K d → (e : Demand) × Memᴰ e (all_forth ++ all_back) × Stronger e d
      go a =
          let c = (covers_step a.step).covered d a.member in (
            c.0,
            ⊎_elim
                (λ l. Memᴰ.append_left all_back
                (among_forth (keys_of false t) far L n K 0 K a.step c.0 a.first a.last l))
                (λ l. Memᴰ.append_right all_forth
                (among_back (keys_of true t) t far L n K K a.step c.0 (omega (arith, a.last)) l))
                (Memᴰ.append_cases (forth_at_lem a.step) c.1),
            c.2,
          )

  -- What a pass checks stands for all demands.
  pub covers_sweep : (v : Start) → Covers (sweep_of (keys_of false t) (keys_of true t) t far (starts_of v) L n K) (demands_of t v k)
  covers_sweep v =
      let partners = partners_from K (starts_of v) 1 n in
      let starts = start_demands K any_starts 1 n in
      subst (λ ds. Covers (partners ++ ds) (demands_of t v k)) (append_assoc all_forth all_back starts)
      (covers_turned partners (all_forth ++ all_back) starts (demands_of t v k)
      (subst (Covers ((all_forth ++ all_back) ++ (partners ++ starts)))
      (ap (λ ds. ds ++ starts_part t v k) (sym (steps_are t k z.good)) ∙ sym (parts_are t v k))
      (covers_append (record { among = steps_among; covered = steps_covered }) (covers_starts K (starts_of v) 1 n))))
