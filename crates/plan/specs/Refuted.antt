-- A negative cycle of the constraints in parts is a loop of the demands.
use Rattle.std.specs.Prelude.{◌≡◌, refl, ℕ, zero, suc, ◌<◌}
use Rattle.std.proofs.Common.{sym, ap, ◌∙◌, arith}
use mathlib.Core.List.Memᴰ
use mathlib.Core.List.{List, Memᴰ}
use Rattle.std.proofs.Math.Decide.{dec_lt}
use Rattle.std.proofs.Math.ListN.{length}
use Rattle.runs.specs.declared.Demand.{Demand}
use Rattle.runs.specs.Loop.{Link, Loop}
use Rattle.basics.specs.Choice.{choose as sel, choose_yes as sel_yes, choose_no as sel_no}
use Rattle.runs.specs.Parts.{gain, loss}
use Rattle.runs.specs.Cycle.{Enough, cycle_loop}
use Rattle.basics.specs.Numbers.{sum}
use Rattle.paths.specs.Constraint.{NegativeCycle, cycle_some}
use Rattle.basics.specs.Places.{at}
use Rattle.checks.specs.InParts.{in_parts, all_in_parts}

-- equal numbers have equal sums
sum_same : (f g : ℕ → ℕ) (n : ℕ) → ((k : ℕ) → k < n → f k ≡ g k) → sum f n ≡ sum g n
unfolding sum
sum_same f g zero h = refl
sum_same f g (suc n) h = omega (arith, sum_same f g n (λ k l. h k (omega arith)), h n (omega arith))

module _ (P : ℕ) (ds : List Demand) (vs : List ℕ) (c : NegativeCycle (all_in_parts P ds) vs) where
  -- a demand behind a constraint of the cycle
  record Behind (k : ℕ) : Type 0 where
    demand : Demand
    among : Memᴰ demand ds
    same : in_parts P demand ≡ c.by k

  behind : (k : ℕ) → k < length vs → Behind k
  behind k l =
      let d = Memᴰ.of_map (in_parts P) ds (c.member k l) in record { demand = d.0; among = d.1; same = d.2 }

  -- past the last vertex the first demand stands for all
  chosen : (k : ℕ) → Dec (k < length vs) → Demand
  chosen k (yes l) = (behind k l).demand
  chosen k (no l) = (behind 0 (cycle_some (all_in_parts P ds) vs c)).demand

  used : ℕ → Demand
  used k = chosen k (dec_lt k (length vs))

  used_behind : (k : ℕ) → k < length vs → Memᴰ (used k) ds × (in_parts P (used k) ≡ c.by k)
  unfolding used chosen
  used_behind k l = go (dec_lt k (length vs))
    where
      go : (d : Dec (k < length vs)) → Memᴰ (chosen k d) ds × (in_parts P (chosen k d) ≡ c.by k)
      go (yes m) = ((behind k m).among, (behind k m).same)
      go (no m) = absurd (m l)

  -- the vertices, and after the last the first again
  round : ℕ → ℕ
  round k = sel (dec_lt k (length vs)) (at vs k) (at vs 0)

  round_in : (k : ℕ) → k < length vs → round k ≡ at vs k
  unfolding round
  round_in k l = sel_yes (dec_lt k (length vs)) (at vs k) (at vs 0) l

  round_out : (k : ℕ) → ¬ (k < length vs) → round k ≡ at vs 0
  unfolding round
  round_out k l = sel_no (dec_lt k (length vs)) (at vs k) (at vs 0) l

  some : 0 < length vs
  some = cycle_some (all_in_parts P ds) vs c

  links : (k : ℕ) → k < length vs → Link ds (round k) (round (suc k)) (used k)
  links k l =
      record {
        among = (used_behind k l).0;
        from = ap (λ b. b.from) (used_behind k l).1 ∙ c.from k l ∙ sym (round_in k l);
        to = ap (λ b. b.to) (used_behind k l).1 ∙ next (dec_lt (suc k) (length vs));
      }
    where
      next : Dec (suc k < length vs) → (c.by k).to ≡ round (suc k)
      next (yes m) = c.to k m ∙ sym (round_in (suc k) m)
      next (no m) = c.close k (omega arith) ∙ sym (round_out (suc k) m)

  -- A negative cycle for which P parts are enough is a loop.
  pub cycle_is_loop : Enough P (length vs) ds → Loop ds vs
  cycle_is_loop few =
      cycle_loop P ds vs round used some few
      (λ k l. sym (round_in k l))
      (λ i j l m e. c.distinct i j l m (sym (round_in i (omega arith)) ∙ e ∙ round_in j m))
      (round_out (length vs) (omega arith) ∙ sym (round_in 0 some))
      links
      (omega (
        arith,
        c.negative,
        sum_same (λ k. loss P (used k)) (λ k. (c.by k).loss) (length vs) (λ k l. ap (λ b. b.loss) (used_behind k l).1),
        sum_same (λ k. gain P (used k)) (λ k. (c.by k).gain) (length vs) (λ k l. ap (λ b. b.gain) (used_behind k l).1),
      ))
