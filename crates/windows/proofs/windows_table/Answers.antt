-- The refusal is that of the tests, and the answer that of the rounds.
use mathlib.Core.Path.{sym, ◌∙◌}
use Rattle.windows.specs.Question.{admit_sized}
use Rattle.windows.proofs.windows_table.Goals as goal

pub show_rounds-requires : goal.show_rounds-requires
show_rounds-requires c = admit_sized _ _ _ _ c.requires (sym c.admit_windows-admission.ensures ∙ c.in-Accepted.is)
