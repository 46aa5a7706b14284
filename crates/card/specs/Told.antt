-- What the entries give, and leave in the rooms lent to them.
use Rattle.std.specs.Prelude.{◌≡◌, cond, List, ℕ, ◌≤◌, ◌<◌, length}
use Rattle.std.proofs.Common.{◌∙◌, ap}
use Rattle.answers.specs.Four.{four, refused_numbers}
use Rattle.answers.specs.Answered.{roomy, answered, short, roomy_yes, answered_short}
use Rattle.cards.specs.declared.Converted.{Converted}
use Rattle.cards.specs.declared.Converted.TheVariants.{Written, Refused}
use Rattle.cards.specs.Convert.{room_after}

-- the four numbers of a conversion: how many bytes were written
abbrev pub converted_numbers : Converted → List ℕ
converted_numbers (Written n) = four 0 n 0 0
converted_numbers (Refused f) = refused_numbers f

-- the output room at exit, by the answer room, the answer, what is written, and the output room before
unfoldable pub output_after : List ℕ → Converted → List ℕ → List ℕ → List ℕ
output_after answer a out room = cond (roomy answer) (room_after a out room) room

-- a short answer room keeps both rooms
pub kept : (answer out room : List ℕ) (a : Converted) → length answer < 4
    → (room ≡ output_after answer a out room) × (answer ≡ answered answer (converted_numbers a))
unfolding output_after
kept answer out room a h = (ap (λ b. cond b (room_after a out room) room) (short answer h), answered_short answer (converted_numbers a) h)

-- else the conversion is told
pub told : (answer out room : List ℕ) (a b : Converted) (after : List ℕ) → 4 ≤ length answer → b ≡ a → after ≡ room_after b out room
    → after ≡ output_after answer a out room
unfolding output_after
told answer out room a b after h is e =
    e ∙ ap (λ x. room_after x out room) is ∙ ap (λ b. cond b (room_after a out room) room) (roomy_yes answer h)
