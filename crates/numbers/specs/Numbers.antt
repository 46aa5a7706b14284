-- The four numbers of the answers to "rounds", "plan" and "demands", for each of their cases.
use Rattle.std.specs.Prelude.{List, ℕ}
use Rattle.answers.specs.Four.{four, refused_numbers}
use Rattle.rounds.specs.declared.Count.{Count}
use Rattle.rounds.specs.declared.Count.TheVariants as count
use Rattle.plan.specs.declared.Outcome.{Outcome}
use Rattle.plan.specs.declared.Outcome.TheVariants as outcome
use Rattle.demands.specs.declared.Listed.{Listed}
use Rattle.demands.specs.declared.Listed.TheVariants as listed

-- rounds: the count; or without end
abbrev pub count_numbers : Count → List ℕ
count_numbers (count.Finite c) = four 0 0 c 0
count_numbers count.Endless = four 0 1 0 0
count_numbers (count.Refused f) = refused_numbers f

-- plan: the parts to a tick; or the length of a loop
abbrev pub plan_numbers : Outcome → List ℕ
plan_numbers (outcome.Found P) = four 0 0 P 0
plan_numbers (outcome.Loop m) = four 0 1 m 0
plan_numbers (outcome.Refused f) = refused_numbers f

-- demands: their number
abbrev pub demands_numbers : Listed → List ℕ
demands_numbers (listed.Written n) = four 0 n 0 0
demands_numbers (listed.Refused f) = refused_numbers f
