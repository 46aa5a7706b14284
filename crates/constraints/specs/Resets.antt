-- The last resets, a list, are the function of `steps_demands`.
use Rattle.std.specs.Prelude.{◌≡◌, Bool, true, false, cond, List, set}
use Rattle.std.proofs.Math.Path.{refl}
use Rattle.std.proofs.Common.{sym, ap, ◌∙◌, add-one, get_or-set_same, get_or-drop, get_or-take}
use Prim.Native.Nat.{ℕ, zero, suc, ◌+◌, ◌*◌, ◌≤◌, ◌<◌}
use native.Mathlib.Omega.{arith}
use Rattle.std.proofs.Math.Decide.{dec_lt}
use Rattle.std.proofs.Math.ListN.{length, get_or, length-set}
use Rattle.std.proofs.Math.Seq.{get_or-set_other}
use Rattle.std.proofs.lemmas.List.{set-get_or}
use Rattle.table.specs.Step.{step_at, resets}
use Rattle.table.specs.declared.Table.{Table}
use Rattle.runs.specs.Run.{zeroed}
use Rattle.runs.specs.DemandOrder.{SameResets}
use Rattle.constraints.specs.Pieces.{fresh, reset_to, reset_of}

module _ (flags : List Bool) (s i : ℕ) (z : List ℕ) where
  -- the last reset of clock j after step s at moment i
  abbrev after : ℕ → ℕ
  after j = cond (get_or flags (7 * s + j) false) i (get_or z j 0)

  -- one clock more
  pub reset_more : (j : ℕ) (out : List ℕ) (v : ℕ) → out ≡ reset_to flags s i z j → v ≡ after j
      → set out j v ≡ reset_to flags s i z (j + 1)
  unfolding reset_to
  reset_more j out v e f = rw (add-one, e, f)

  pub length_reset : (n : ℕ) → length (reset_to flags s i z n) ≡ length z
  unfolding reset_to
  length_reset zero = refl
  length_reset (suc n) = length-set (reset_to flags s i z n) n (after n) ∙ length_reset n

  -- a clock from n on has the one before the step
  reset_later : (n j : ℕ) → n ≤ j → get_or (reset_to flags s i z n) j 0 ≡ get_or z j 0
  unfolding reset_to
  reset_later zero j l = refl
  reset_later (suc n) j l =
      get_or-set_other (reset_to flags s i z n) n j (after n) 0 (omega arith) ∙ reset_later n j (omega arith)

  -- one clock more, in place
  pub reset_stored : (j : ℕ) (out : List ℕ) (v : ℕ) → out ≡ reset_to flags s i z j
      → v ≡ cond (get_or flags (7 * s + j) false) i (get_or out j 0) → set out j v ≡ reset_to flags s i z (j + 1)
  reset_stored j out v e f =
      reset_more j out v e
      (f ∙ ap (cond (get_or flags (7 * s + j) false) i) (ap (λ l. get_or l j 0) e ∙ reset_later j j (omega arith)))

  -- a clock that is reset, and one that is not
  pub reset_now : (j : ℕ) (out : List ℕ) → get_or flags (7 * s + j) false ≡ true → out ≡ reset_to flags s i z j
      → set out j i ≡ reset_to flags s i z (j + 1)
  reset_now j out h e = reset_stored j out i e (rw h refl)

  pub reset_kept : (j : ℕ) (out : List ℕ) → get_or flags (7 * s + j) false ≡ false → out ≡ reset_to flags s i z j
      → out ≡ reset_to flags s i z (j + 1)
  reset_kept j out h e = sym (set-get_or out j 0) ∙ reset_stored j out (get_or out j 0) e (rw h refl)

  -- each clock below n has its own
  reset_at : (n j : ℕ) → n ≤ length z → j < n → get_or (reset_to flags s i z n) j 0 ≡ after j
  unfolding reset_to
  reset_at zero j b l = absurd (omega arith)
  reset_at (suc n) j b l = go (reset_at n j (omega arith)) (dec_lt j n)
    where
      go : (j < n → get_or (reset_to flags s i z n) j 0 ≡ after j) → Dec (j < n)
          → get_or (set (reset_to flags s i z n) n (after n)) j 0 ≡ after j
      go h (yes p) = get_or-set_other (reset_to flags s i z n) n j (after n) 0 (omega arith) ∙ h p
      go h (no p) =
          let e : j ≡ n = omega arith in
          let q : n < length (reset_to flags s i z n) = rw (length_reset n) (omega arith) in
          rw e (get_or-set_same (reset_to flags s i z n) n (after n) 0 q)

-- what step s of a table resets
flag_at : (t : Table) (s j : ℕ) → j < 7 → resets (step_at t s) j ≡ get_or t.resets (7 * s + j) false
unfolding step_at
flag_at t s j l =
    get_or-drop (7 * s) _ j false ∙ get_or-take (7 * s + 7) t.resets (7 * s + j) false (omega arith)

-- After a step: what `zeroed` says.
pub reset_same : (t : Table) (s i : ℕ) (z : List ℕ) → length z ≡ 7
    → SameResets (zeroed (step_at t s) i (λ j. get_or z j 0)) (λ j. get_or (reset_of t.resets s i z) j 0)
unfolding zeroed
reset_same t s i z e j p l =
    ap (λ b. cond b i (get_or z j 0)) (flag_at t s j l) ∙ sym (reset_at t.resets s i z 7 j (omega arith) l)

-- At first: none was reset yet.
pub fresh_same : (K : ℕ) → SameResets (λ j. K + j) (λ j. get_or (fresh K) j 0)
fresh_same K zero p l = absurd (omega arith)
fresh_same K (suc zero) p l = omega arith
fresh_same K (suc (suc zero)) p l = omega arith
fresh_same K (suc (suc (suc zero))) p l = omega arith
fresh_same K (suc (suc (suc (suc zero)))) p l = omega arith
fresh_same K (suc (suc (suc (suc (suc zero))))) p l = omega arith
fresh_same K (suc (suc (suc (suc (suc (suc zero)))))) p l = omega arith
fresh_same K (suc (suc (suc (suc (suc (suc (suc j))))))) p l = absurd (omega arith)
