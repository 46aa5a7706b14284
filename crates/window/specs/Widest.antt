-- The widest of the closed windows, by its width in parts.
use Rattle.std.specs.Prelude.{◌≡◌, ℕ, ◌-◌, ◌≤◌, ◌<◌}
use Rattle.std.proofs.Common.{sym, ◌∙◌, lt_trans}
use Rattle.seconds.specs.Seconds.{seconds_of}
use Rattle.window.specs.declared.Span.{Span}
use Rattle.window.specs.declared.Span.TheVariants.{Closed}
use Rattle.window.specs.declared.Interval.{Interval}
use Rattle.window.specs.declared.Choice.{Choice}
use Rattle.window.specs.declared.Choice.TheVariants.{Widest, NoneClosed}

-- Step i of n (from 0) has the widest closed window, the first among equals; it is from a to b.
pub record FirstWidest (spans : ℕ → Span) (n i a b : ℕ) : Type 0 where
  pub inside : i < n
  pub closed : spans i ≡ Closed a b
  pub none_wider : (j c d : ℕ) → j < n → spans j ≡ Closed c d → d - c ≤ b - a
  pub first : (j c d : ℕ) → j < i → spans j ≡ Closed c d → d - c < b - a

-- The two times are those of the widest closed window, with P parts to a tick.
pub record IsWidest (P : ℕ) (spans : ℕ → Span) (n : ℕ) (v : Interval) : Type 0 where
  pub step : ℕ
  pub from : ℕ
  pub upto : ℕ
  pub widest : FirstWidest spans n step from upto
  pub seconds : v ≡ record { first = seconds_of from P; last = seconds_of upto P }

-- The choice among the windows of n steps.
abbrev pub Chosen : ℕ → (ℕ → Span) → ℕ → Choice → Type 0
Chosen P spans n (Widest v) = IsWidest P spans n v
Chosen P spans n NoneClosed = (j a b : ℕ) → j < n → spans j ≡ Closed a b → ⊥

-- Only the windows of the n steps count.
pub chosen_same : (P : ℕ) (s t : ℕ → Span) (n : ℕ) (c : Choice) → ((i : ℕ) → i < n → s i ≡ t i) → Chosen P s n c → Chosen P t n c
chosen_same P s t n NoneClosed e h = λ j a b l q. h j a b l (e j l ∙ q)
chosen_same P s t n (Widest v) e h = record {
  step = h.step;
  from = h.from;
  upto = h.upto;
  widest = same h.widest;
  seconds = h.seconds;
}
  where
    same : {i a b : ℕ} → FirstWidest s n i a b → FirstWidest t n i a b
    same {i} {a} {b} w = record {
      inside = w.inside;
      closed = sym (e i w.inside) ∙ w.closed;
      none_wider = λ j c d l q. w.none_wider j c d l (e j l ∙ q);
      first = λ j c d l q. w.first j c d l (e j (lt_trans l w.inside) ∙ q);
    }
