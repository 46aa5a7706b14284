-- What the two rooms of a panel hold of n windows, and rows of exact moments.
use Rattle.std.specs.Prelude.{List, [], ◌∷◌, ◌++◌, ℕ, zero, suc, ◌*◌, ◌≤◌, ◌<◌, length, get_or, drop, Float}
use Rattle.basics.specs.Tab.{tab}
use Rattle.window.specs.declared.Span.{Span}
use Rattle.window.specs.declared.Window.{Window}
use Rattle.window.specs.Window.{far, finest, span_of, window_of, mark_of, first_of, last_of}

-- the first and last times of windows 0 to n - 1, side by side
unfoldable pub pairs : (ℕ → Window) → ℕ → List Float
pairs w zero = []
pairs w (suc n) = pairs w n ++ (first_of (w n) ∷ last_of (w n) ∷ [])

-- the marks' room and the times' room with n windows in their first places, the rest kept
unfoldable pub marked : (ℕ → Window) → ℕ → List ℕ → List ℕ
marked w n l = tab (λ i. mark_of (w i)) n ++ drop n l

unfoldable pub timed : (ℕ → Window) → ℕ → List Float → List Float
timed w n l = pairs w n ++ drop (n * 2) l

-- the span that two rows tell of step i
abbrev pub span_at : List ℕ → List ℕ → ℕ → Span
span_at firsts lasts i = span_of (get_or firsts i 0) (get_or lasts i 0)

-- the same as a window, with P parts to a tick
abbrev pub window_at : ℕ → List ℕ → List ℕ → ℕ → Window
window_at P firsts lasts i = window_of P (span_at firsts lasts i)

-- two rows of n steps whose first moments are near, and not too many parts to a tick
pub record Rows (firsts lasts : List ℕ) (P n : ℕ) : Type 0 where
  pub first_row : n ≤ length firsts
  pub last_row : n ≤ length lasts
  pub firsts_near : (i : ℕ) → i < n → get_or firsts i 0 ≤ far
  pub some_parts : 0 < P
  pub few_parts : P ≤ finest

-- rooms that hold n marks and n pairs of times
pub record Room (n marks times : ℕ) : Type 0 where
  pub for_marks : n ≤ marks
  pub for_times : n * 2 ≤ times
