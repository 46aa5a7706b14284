-- What the panel shows of k rounds from log-in: for each step a mark in one room, and two times side by side in another.
use Rattle.std.specs.Prelude.{◌≡◌, List, ℕ, suc, ◌*◌, ◌<◌, length, Float}
use Rattle.table.specs.Step.{Step}
use Rattle.runs.specs.declared.Start.TheVariants.{LogIn}
use Rattle.runs.specs.Demand.{starts_of}
use Rattle.asking.specs.declared.Admission.{Admission}
use Rattle.asking.specs.declared.Admission.TheVariants as admission
use Rattle.asking.specs.Rounds.{clocks_of, rounds_in}
use Rattle.plan.specs.Planned.{parts_in}
use Rattle.seconds.specs.Seconds.{seconds_of, Nearest}
use Rattle.window.specs.declared.Span.{Span}
use Rattle.window.specs.declared.Span.TheVariants.{Closed, Open, Absent}
use Rattle.window.specs.Window.{window_of}
use Rattle.showing.specs.Shown.{marked, timed}
use Rattle.spans.specs.Span.{Spans}
use Rattle.windows.specs.declared.Panel.{Panel}
use Rattle.windows.specs.declared.Panel.TheVariants as panel
use Rattle.windows.specs.Admit.{asking_of}

-- the contents of the two rooms lent
pub record Rooms : Type 0 where
  pub marks : List ℕ
  pub times : List Float

abbrev pub rooms : List ℕ → List Float → Rooms
rooms m t = record { marks = m; times = t }

-- No binary64 number is nearer to a time shown, in exact seconds, and of two as near it is the one with an even last digit.
abbrev pub Nearests : ℕ → Span → Type 0
Nearests P (Closed a b) = Nearest (seconds_of a P) a (10 * P) × Nearest (seconds_of b P) b (10 * P)
Nearests P (Open a) = Nearest (seconds_of a P) a (10 * P)
Nearests P Absent = Unit {0}

-- The spans of the steps σ with clocks 1 to n, over all runs from log-in: that of step i, counted from 0, is `spans i`.
pub record Spanned (n : ℕ) (σ : List Step) (spans : ℕ → Span) : Type 0 where
  pub each : (i : ℕ) → i < length σ → Spans (parts_in n σ) n σ (starts_of LogIn) (suc i) (spans i)
  pub nearest : (i : ℕ) → i < length σ → Nearests (parts_in n σ) (spans i)

-- The windows of all steps stand in the first places of the two rooms; the rest of both is kept, and so many steps are shown.
pub record Shows (n : ℕ) (σ : List Step) (r r' : Rooms) (shown : ℕ) : Type 0 where
  pub number : shown ≡ length σ
  pub spans : ℕ → Span
  pub spanned : Spanned n σ spans
  pub marks : r'.marks ≡ marked (λ i. window_of (parts_in n σ) (spans i)) (length σ) r.marks
  pub times : r'.times ≡ timed (λ i. window_of (parts_in n σ) (spans i)) (length σ) r.times

abbrev pub Answered : ℕ → List Step → Rooms → Rooms → Panel → Type 0
Answered n σ r r' (panel.Shown m) = Shows n σ r r' m
Answered n σ r r' (panel.Refused f) = ⊥

-- A refusal, and rooms that are untouched; or else what is shown.
abbrev pub Meets : Admission → ℕ → List Step → Rooms → Rooms → Panel → Type 0
Meets (admission.Refused f) n σ r r' a = (a ≡ panel.Refused f) × (r' ≡ r)
Meets admission.Accepted n σ r r' a = Answered n σ r r' a

-- The answer to "windows of k rounds", of the table that the bytes write down: the rooms hold r before and r' after.
pub record Answers (bytes : List ℕ) (k : ℕ) (r r' : Rooms) (a : Panel) : Type 0 where
  pub answers : Meets (asking_of bytes k (length r.marks) (length r.times)) (clocks_of bytes) (rounds_in bytes k) r r' a
