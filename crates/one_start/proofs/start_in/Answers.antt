-- `one_start::start_in` meets its contract: the refusal is that of the test, and the answer that of the table.
use mathlib.Core.Path.{refl, sym, ◌∙◌}
use borrow.Author.Rules.{rules}
use Rattle.one_start.specs.Question.{admit_held, meets_refused, meets_accepted}
use Rattle.one_start.proofs.start_in.Goals as goal

pub start_of-requires : goal.start_of-requires
start_of-requires c =
    (c.requires.0, c.requires.1, admit_held _ _ (sym c.admit_starts-admission.ensures ∙ c.in-Accepted.is))

pub returns-in-Refused : goal.returns-in-Refused
returns-in-Refused c =
    meets_refused _ _ _ _ _ _ (sym c.admit_starts-admission.ensures ∙ c.in-Refused.is) refl

pub returns-in-Accepted : goal.returns-in-Accepted
returns-in-Accepted c =
    meets_accepted _ _ _ _ _ c.start_of.result (sym c.admit_starts-admission.ensures ∙ c.in-Accepted.is)
    c.start_of.ensures
