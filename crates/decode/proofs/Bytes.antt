-- What a record puts in, by its bytes, and where it fits.
use mathlib.Core.Path.{◌≡◌, refl, sym, ◌∙◌, ap}
use mathlib.Core.Bool.{true}
use mathlib.Core.List.{List}
use Prim.Native.Nat.{ℕ, ◌+◌, ◌*◌, ◌≤◌, ◌<◌}
use native.Mathlib.Omega.{arith}
use lib.ListN.{get_or, set, drop}
use lib.Dec.{lit<}
use borrow.Author.Tests.{lt-ltb, le-ltb, ne_eqb}
use Rattle.table.specs.declared.Guard.{Guard}
use Rattle.table.specs.declared.Table.{Table}
use Rattle.wire.specs.Records.{record_at}
use Rattle.wire.specs.Listing.{guard_in}
use Rattle.wire.specs.Laws.{byte_is}
use Rattle.filling.specs.Filling.{guards_so_far, put_head, put_guard, put_reset, put_step}
use Rattle.decode.specs.Fill.{put}
use Rattle.decode.specs.Few.{Few}

-- what the record of each kind puts in
module _ (bytes : List ℕ) (at : ℕ) (t : Table) where
  abbrev putting : ℕ → Table
  putting k = put (record_at at k (drop (at + 1) bytes)) t

  head_put : (k n : ℕ) → k ≡ 1 → n ≡ get_or bytes (at + 1) 0 → put_head n t ≡ putting k
  unfolding put
  head_put k n e b = ap (λ m. put_head m t) (b ∙ byte_is bytes at 1 0 (lit< tt) (at + 1) (omega arith)) ∙ ap putting (sym e)

  guard_put : (k : ℕ) (g : Guard) → k ≡ 2 → g ≡ guard_in (record_at at 2 (drop (at + 1) bytes)) → put_guard g t ≡ putting k
  unfolding put
  guard_put k g e b = ap (λ h. put_guard h t) b ∙ ap putting (sym e)

  reset_put : (k j : ℕ) → k ≡ 3 → j ≡ get_or bytes (at + 1) 0 → put_reset j t ≡ putting k
  unfolding put
  reset_put k j e b = ap (λ m. put_reset m t) (b ∙ byte_is bytes at 3 0 (lit< tt) (at + 1) (omega arith)) ∙ ap putting (sym e)

  step_put : (k : ℕ) → k ≡ 4 → put_step t ≡ putting k
  unfolding put
  step_put k e = ap putting (sym e)

  none_put : (k : ℕ) → (k ≡ 1 → ⊥) → (k ≡ 2 → ⊥) → (k ≡ 3 → ⊥) → (k ≡ 4 → ⊥) → t ≡ putting k
  unfolding put
  none_put k n₁ n₂ n₃ n₄ = simp (ne_eqb k 1 n₁, ne_eqb k 2 n₂, ne_eqb k 3 n₃, ne_eqb k 4 n₄)

-- what fits is put in, and what does not is left out
module _ (t : Table) where
  guard_fits : (g : Guard) → Few t → guards_so_far t < 64
      → record {
        clocks = t.clocks;
        steps = t.steps;
        guards = set t.guards (guards_so_far t) g;
        ends = set t.ends (t.steps + 1) (guards_so_far t + 1);
        resets = t.resets;
      } ≡ put_guard g t
  unfolding put_guard
  guard_fits g few room = simp (lt-ltb t.steps 17 (omega arith), lt-ltb (guards_so_far t) 64 room)

  guard_left : (g : Guard) → Few t → 64 ≤ guards_so_far t → t ≡ put_guard g t
  unfolding put_guard
  guard_left g few full = simp (lt-ltb t.steps 17 (omega arith), le-ltb (guards_so_far t) 64 full)

  reset_fits : (j : ℕ) → Few t → j < 7
      → record {
        clocks = t.clocks;
        steps = t.steps;
        guards = t.guards;
        ends = t.ends;
        resets = set t.resets (7 * t.steps + j) true;
      } ≡ put_reset j t
  unfolding put_reset
  reset_fits j few h = simp (lt-ltb t.steps 17 (omega arith), lt-ltb j 7 h)

  reset_left : (j : ℕ) → Few t → 7 ≤ j → t ≡ put_reset j t
  unfolding put_reset
  reset_left j few h = simp (lt-ltb t.steps 17 (omega arith), le-ltb j 7 h)

  step_fits : t.steps < 16
      → record {
        clocks = t.clocks;
        steps = t.steps + 1;
        guards = t.guards;
        ends = set t.ends (t.steps + 2) (guards_so_far t);
        resets = t.resets;
      } ≡ put_step t
  unfolding put_step
  step_fits h = simp (lt-ltb t.steps 16 h)

  step_left : 16 ≤ t.steps → t ≡ put_step t
  unfolding put_step
  step_left h = simp (le-ltb t.steps 16 h)

-- what the record of kind k at a place puts in, field by field
module _ (bytes : List ℕ) (at : ℕ) (t : Table) (k : ℕ) where
  pub put_1 : k ≡ 1
      → put (record_at at k (drop (at + 1) bytes)) t ≡ record {
        clocks = get_or bytes (at + 1) 0;
        steps = t.steps;
        guards = t.guards;
        ends = t.ends;
        resets = t.resets;
      }
  unfolding put_head
  put_1 e = sym (head_put bytes at t k _ e refl)

  pub put_2 : k ≡ 2 → Few t → guards_so_far t < 64
      → put (record_at at k (drop (at + 1) bytes)) t ≡ record {
        clocks = t.clocks;
        steps = t.steps;
        guards = set t.guards (guards_so_far t) (guard_in (record_at at 2 (drop (at + 1) bytes)));
        ends = set t.ends (t.steps + 1) (guards_so_far t + 1);
        resets = t.resets;
      }
  put_2 e few room = sym (guard_fits t _ few room ∙ guard_put bytes at t k _ e refl)

  pub put_2_full : k ≡ 2 → Few t → 64 ≤ guards_so_far t → put (record_at at k (drop (at + 1) bytes)) t ≡ t
  put_2_full e few full = sym (guard_left t _ few full ∙ guard_put bytes at t k _ e refl)

  pub put_3 : k ≡ 3 → Few t → get_or bytes (at + 1) 0 < 7
      → put (record_at at k (drop (at + 1) bytes)) t ≡ record {
        clocks = t.clocks;
        steps = t.steps;
        guards = t.guards;
        ends = t.ends;
        resets = set t.resets (7 * t.steps + get_or bytes (at + 1) 0) true;
      }
  put_3 e few h = sym (reset_fits t _ few h ∙ reset_put bytes at t k _ e refl)

  pub put_3_out : k ≡ 3 → Few t → 7 ≤ get_or bytes (at + 1) 0 → put (record_at at k (drop (at + 1) bytes)) t ≡ t
  put_3_out e few h = sym (reset_left t _ few h ∙ reset_put bytes at t k _ e refl)

  pub put_4 : k ≡ 4 → t.steps < 16
      → put (record_at at k (drop (at + 1) bytes)) t ≡ record {
        clocks = t.clocks;
        steps = t.steps + 1;
        guards = t.guards;
        ends = set t.ends (t.steps + 2) (guards_so_far t);
        resets = t.resets;
      }
  put_4 e h = sym (step_fits t h ∙ step_put bytes at t k e)

  pub put_4_full : k ≡ 4 → 16 ≤ t.steps → put (record_at at k (drop (at + 1) bytes)) t ≡ t
  put_4_full e h = sym (step_left t h ∙ step_put bytes at t k e)

  pub put_none : (k ≡ 1 → ⊥) → (k ≡ 2 → ⊥) → (k ≡ 3 → ⊥) → (k ≡ 4 → ⊥) → put (record_at at k (drop (at + 1) bytes)) t ≡ t
  put_none n₁ n₂ n₃ n₄ = sym (none_put bytes at t k n₁ n₂ n₃ n₄)
