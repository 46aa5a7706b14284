-- There is one widest window, and one answer, only.
use Rattle.std.specs.Prelude.{◌≡◌, List, ℕ, length}
use Rattle.std.proofs.Common.{sym, ap, ◌∙◌}
use Rattle.table.specs.Step.{Step}
use Rattle.asking.specs.declared.Admission.{Admission}
use Rattle.asking.specs.declared.Admission.TheVariants as admission
use Rattle.asking.specs.Rounds.{clocks_of, rounds_in}
use Rattle.window.specs.declared.Choice.{Choice}
use Rattle.window.specs.Widest.{chosen_same}
use Rattle.window.proofs.OneWidest.{chosen_unique}
use Rattle.plan.specs.Planned.{parts_in}
use Rattle.windows.specs.Unique.{spanned_unique}
use Rattle.widest.specs.declared.Answer.{Answer}
use Rattle.widest.specs.declared.Answer.TheVariants as answer
use Rattle.widest.specs.Answer.{asking_of, Widens, Meets, Answers}

pub widens_unique : (n : ℕ) (σ : List Step) (c d : Choice) → Widens n σ c → Widens n σ d → c ≡ d
widens_unique n σ c d a b =
    chosen_unique (parts_in n σ) b.spans (length σ) c d
    (chosen_same (parts_in n σ) a.spans b.spans (length σ) c (spanned_unique n σ a.spans b.spans a.spanned b.spanned) a.chosen)
    b.chosen

meets_unique : (n : ℕ) (σ : List Step) (q : Admission) (a b : Answer) → Meets q n σ a → Meets q n σ b → a ≡ b
meets_unique n σ (admission.Refused f) a b x y = x ∙ sym y
meets_unique n σ admission.Accepted (answer.Told c) (answer.Told d) x y = ap answer.Told (widens_unique n σ c d x y)
meets_unique n σ admission.Accepted (answer.Told c) (answer.Refused f) x y = absurd y
meets_unique n σ admission.Accepted (answer.Refused f) b x y = absurd x

pub answers_unique : (bytes : List ℕ) (k : ℕ) (a b : Answer) → Answers bytes k a → Answers bytes k b → a ≡ b
answers_unique bytes k a b x y = meets_unique (clocks_of bytes) (rounds_in bytes k) (asking_of bytes k) a b x.answers y.answers
