-- A step's span in parts, its window in seconds, and what the two rooms hold of it: a mark and two times.
use Rattle.std.specs.Prelude.{ℕ, ◌+◌, ◌*◌, ◌≤◌, ◌<◌, false, cond, List, set, leb, pos, Float}
use Rattle.std.specs.Float.{fin}
use Rattle.seconds.specs.Seconds.{seconds_of}
use Rattle.window.specs.declared.Span.{Span}
use Rattle.window.specs.declared.Window.{Window}
use Rattle.window.specs.declared.Window.TheVariants.{Closed, Open, Absent}

-- farther from the start than any last moment there is: 2 ^ 33
abbrev pub far : ℕ
far = 8589934592

-- the most parts that a tick is divided into
abbrev pub finest : ℕ
finest = 1031

-- the span of a step with a first moment, and a last one unless that is beyond `far`
unfoldable pub span_of : ℕ → ℕ → Span
span_of first last = cond (leb last far) (Span.Closed first last) (Span.Open first)

-- the window of a span, with P parts to a tick
abbrev pub window_of : ℕ → Span → Window
window_of P (Span.Closed a b) = Closed (seconds_of a P) (seconds_of b P)
window_of P (Span.Open a) = Open (seconds_of a P)
window_of P Span.Absent = Absent

-- no moment of the span is beyond `far`
abbrev pub Near : Span → Type 0
Near (Span.Closed a b) = (a ≤ far) × (b ≤ far)
Near (Span.Open a) = a ≤ far
Near Span.Absent = Unit {0}

-- a span whose moments are near, and not too many parts to a tick: all numbers on the way to its seconds are small
pub record Small (span : Span) (P : ℕ) : Type 0 where
  pub near : Near span
  pub some_parts : 0 < P
  pub few_parts : P ≤ finest

-- 2 for a closed window, 1 for an open one, 0 for none
abbrev pub mark_of : Window → ℕ
mark_of (Closed a b) = 2
mark_of (Open a) = 1
mark_of Absent = 0

-- the number 0, for a time that a window does not have
abbrev pub none : Float
none = fin false 0 (pos 0)

abbrev pub first_of : Window → Float
first_of (Closed a b) = a
first_of (Open a) = a
first_of Absent = none

abbrev pub last_of : Window → Float
last_of (Closed a b) = b
last_of (Open a) = none
last_of Absent = none

-- the times' room with the two times of the window of step i at their places
abbrev pub placed : List Float → ℕ → Window → List Float
placed l i w = set (set l (i * 2) (first_of w)) (i * 2 + 1) (last_of w)
