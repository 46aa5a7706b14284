-- The entries of judge/src/lib.rt answer these numbers: what their contracts say of an answer room with four places or more is
-- that its first four are the numbers, and the others as they were.
use Rattle.std.specs.Prelude.{◌≡◌, refl, true, List, ◌++◌, ℕ, ℤ, drop}
use Rattle.std.proofs.Common.{sym, ◌∙◌}
use Rattle.std.proofs.Math.Path.{ap}
use Rattle.std.proofs.Math.Bool.{cond}
use Rattle.wire.specs.Reading.{read_of}
use Rattle.runs.specs.declared.Start.{Start}
use Rattle.plan.specs.Answer.{Rooms}
use Rattle.demands.specs.Listed.{listed_of, row_room, row_of}
use Rattle.answers.specs.Four.{read_numbers}
use Rattle.numbers.specs.Numbers.{count_numbers, plan_numbers, demands_numbers}
use Rattle.answers.specs.Answered.{roomy, answered}
use Rattle.judge.specs.Room.{listed_row, RoundsTold, PlanTold}
use Rattle.promises.specs.Told.{ReadSays, RoundsSays, PlanSays, DemandsSays}

-- numbers a in the first places of an answer room, for which Says holds
pub record Leaves (Says : List ℕ → Type 0) (room room' : List ℕ) : Type 0 where
  pub numbers : List ℕ
  pub stand : room' ≡ numbers ++ drop 4 room
  pub says : Says numbers

stands : (room a : List ℕ) → true ≡ roomy room → answered room a ≡ a ++ drop 4 room
unfolding answered
stands room a e = ap (λ b. cond b (a ++ drop 4 room) room) (sym e)

module _ (bytes room room' : List ℕ) (e : true ≡ roomy room) where
  pub read_leaves : room' ≡ answered room (read_numbers (read_of bytes)) → Leaves (ReadSays bytes) room room'
  read_leaves h = record { numbers = read_numbers (read_of bytes); stand = h ∙ stands room _ e; says = refl }

  pub rounds_leaves : (v : Start) → RoundsTold true bytes v room room' → Leaves (RoundsSays bytes v) room room'
  rounds_leaves v h =
      record {
        numbers = count_numbers h.count;
        stand = h.numbers ∙ stands room _ e;
        says = record { count = h.count; answers = h.answers; numbers = refl };
      }

  pub plan_leaves : (v : Start) (k : ℕ) (before after : Rooms) → PlanTold true bytes v k before after room room'
      → Leaves (PlanSays bytes v k before after) room room'
  plan_leaves v k before after h =
      record {
        numbers = plan_numbers h.outcome;
        stand = h.numbers ∙ stands room _ e;
        says = record { outcome = h.outcome; answers = h.answers; numbers = refl };
      }

  pub demands_leaves : (v : Start) (k : ℕ) (before after : List ℤ)
      → room' ≡ answered room (demands_numbers (listed_of bytes v k (row_room before))) → after ≡ listed_row room bytes v k before
      → Leaves (DemandsSays bytes v k before after) room room'
  unfolding listed_row
  demands_leaves v k before after h o =
      record {
        numbers = demands_numbers (listed_of bytes v k (row_room before));
        stand = h ∙ stands room _ e;
        says = record {
          numbers = refl;
          row = o ∙ ap (λ b. cond b (row_of bytes v k (row_room before) before) before) (sym e);
        };
      }
