-- The row of scaled constants, filled guard by guard.
use Rattle.std.specs.Prelude.{◌≡◌, refl, List, ℕ, ◌+◌, ◌*◌, ◌≤◌, ◌<◌, length, get_or, set, replicate}
use Rattle.std.proofs.Common.{sym, ap, ◌∙◌, arith, length-set, get_or-set_same, get_or-set_other, below_more}
use Rattle.std.proofs.lemmas.List.{get_or-replicate}
use Rattle.table.specs.Step.{Good}
use Rattle.table.specs.declared.Guard.{Guard}
use Rattle.table.specs.declared.Table.{Table}
use Rattle.scaling.specs.Scaled.{guards_in, constant_at, constant_at_lem, scaled_of, is_scaled}

-- The first k places have a constant times P, the others are still 0.
pub record Scaling (P : ℕ) (t : Table) (row : List ℕ) (k : ℕ) : Type 0 where
  pub size : length row ≡ 64
  pub few : k ≤ guards_in t
  pub room : guards_in t ≤ 64
  pub done : (i : ℕ) → i < k → get_or row i 0 ≡ constant_at t i * P
  pub after : (i : ℕ) → k ≤ i → i < 64 → get_or row i 0 ≡ 0

module _ (P : ℕ) (t : Table) (good : Good t) where
  -- none yet
  pub scaling_first : Scaling P t (replicate 64 0) 0
  scaling_first =
      record {
        size = refl;
        few = omega arith;
        room = good.room t.steps (omega arith);
        done = λ i l. absurd (omega arith);
        after = λ i l b. get_or-replicate {A = ℕ} 64 i 0 0 b;
      }

  -- one more
  pub scaling_more : (row : List ℕ) (k : ℕ) (d : Guard) (v : ℕ) → Scaling P t row k → k < guards_in t
      → v ≡ (get_or t.guards k d).constant * P → Scaling P t (set row k v) (k + 1)
  scaling_more row k d v f l e =
      record {
        size = length-set row k v ∙ f.size;
        few = omega arith;
        room = f.room;
        done =
            below_more (λ (i : ℕ). get_or (set row k v) i 0 ≡ constant_at t i * P) k
            (λ i m. get_or-set_other row k i v 0 (omega arith) ∙ f.done i m)
            (get_or-set_same row k v 0 (omega (arith, f.size, f.room)) ∙ e ∙ ap (λ c. c * P) (sym is));
        after = λ i m b. get_or-set_other row k i v 0 (omega arith) ∙ f.after i (omega arith) b;
      }
    where
      is : constant_at t k ≡ (get_or t.guards k d).constant
      is = constant_at_lem t.guards k d (omega (arith, good.guards_size, f.room))

  -- all of them
  pub scaling_last : (row : List ℕ) (k : ℕ) → Scaling P t row k → guards_in t ≤ k → row ≡ scaled_of P t
  scaling_last row k f l =
      is_scaled P t row f.size (λ i m. f.done i (omega arith)) (λ i m b. f.after i (omega (arith, f.few)) b)
