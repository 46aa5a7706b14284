-- The numbers of the panel's answers, as C gets them.
use Rattle.std.specs.Prelude.{List, ℕ}
use Rattle.table.specs.Refusal.{number_of}
use Rattle.answers.specs.Four.{four, refused_numbers}
use Rattle.window.specs.declared.Choice.TheVariants.{Widest, NoneClosed}
use Rattle.window.specs.Window.{none}
use Rattle.windows.specs.declared.Panel.{Panel}
use Rattle.windows.specs.declared.Panel.TheVariants as panel
use Rattle.widest.specs.declared.Answer.{Answer}
use Rattle.widest.specs.declared.Answer.TheVariants as answer
use Rattle.panel.specs.declared.WidestAnswer.{WidestAnswer}

-- windows: 0 and how many steps are shown
abbrev pub panel_numbers : Panel → List ℕ
panel_numbers (panel.Shown m) = four 0 m 0 0
panel_numbers (panel.Refused f) = refused_numbers f

-- widest: mark 2 and its two times, or mark 0 and 0
abbrev pub widest_numbers : Answer → WidestAnswer
widest_numbers (answer.Told (Widest v)) = record { number = 0; place = 0; mark = 2; first = v.first; last = v.last }
widest_numbers (answer.Told NoneClosed) = record { number = 0; place = 0; mark = 0; first = none; last = none }
widest_numbers (answer.Refused f) = record { number = number_of f.fault; place = f.place; mark = 0; first = none; last = none }
