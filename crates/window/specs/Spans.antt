-- Laws of spans: when they are the same, which of them are closed, and that their moments are near.
use Rattle.std.specs.Prelude.{◌≡◌, Bool, true, false, cond, ℕ, ◌*◌, ◌^◌, ◌≤◌, ◌<◌, T, leb}
use Rattle.std.proofs.Common.{sym, ap, subst, arith, leb→le, le-leb}
use Rattle.std.proofs.lemmas.Bool.{lt-leb}
use Rattle.window.specs.declared.Span.{Span}
use Rattle.window.specs.declared.Span.TheVariants.{Closed, Open, Absent}
use Rattle.window.specs.Window.{far, finest, span_of, Near}

-- ---- two closed spans that are the same, and spans that are not
abbrev from : Span → ℕ
from (Closed a b) = a
from (Open a) = 0
from Absent = 0

abbrev upto : Span → ℕ
upto (Closed a b) = b
upto (Open a) = 0
upto Absent = 0

abbrev closed : Span → Type 0
closed (Closed a b) = Unit {0}
closed (Open a) = ⊥
closed Absent = ⊥

pub same_from : {a b c d : ℕ} → Closed a b ≡ Closed c d → a ≡ c
same_from e = ap from e

pub same_upto : {a b c d : ℕ} → Closed a b ≡ Closed c d → b ≡ d
same_upto e = ap upto e

pub open_not_closed : {a b c : ℕ} → Open a ≡ Closed b c → ⊥
open_not_closed e = subst closed (sym e) tt

pub absent_not_closed : {b c : ℕ} → Absent ≡ Closed b c → ⊥
absent_not_closed e = subst closed (sym e) tt

-- ---- the span of two moments
-- It is closed where the last moment is near, and open where that is beyond.
pub span_closed : (first last : ℕ) → last ≤ far → span_of first last ≡ Closed first last
unfolding span_of
span_closed first last h = ap (λ t. cond t (Closed first last) (Open first)) (le-leb last far h)

pub span_open : (first last : ℕ) → far < last → span_of first last ≡ Open first
unfolding span_of
span_open first last h = ap (λ t. cond t (Closed first last) (Open first)) (lt-leb last far h)

-- Where it is closed, from a to b, these are its two moments.
pub record IsClosed (first last a b : ℕ) : Type 0 where
  pub from : first ≡ a
  pub upto : last ≡ b
  pub near : last ≤ far

pub closed_is : (first last a b : ℕ) → span_of first last ≡ Closed a b → IsClosed first last a b
unfolding span_of
closed_is first last a b = go (leb last far) (leb→le last far)
  where
    go : (t : Bool) → (T t → last ≤ far) → cond t (Closed first last) (Open first) ≡ Closed a b → IsClosed first last a b
    go true h e = record { from = same_from e; upto = same_upto e; near = h tt }
    go false h e = absurd (open_not_closed e)

-- ---- near moments
-- The moments of a span are near where its first one is.
pub near_span : (first last : ℕ) (s : Span) → s ≡ span_of first last → first ≤ far → Near s
unfolding span_of
near_span first last s e f = subst Near (sym e) (go (leb last far) (leb→le last far))
  where
    go : (t : Bool) → (T t → last ≤ far) → Near (cond t (Closed first last) (Open first))
    go true h = (f, h tt)
    go false h = f

-- A near moment and not too many parts are numbers that `seconds` takes.
pub near_fits : (moment P : ℕ) → moment ≤ far → 0 < P → P ≤ finest → (moment < 2 ^ 53) × (0 < P) × (10 * P < 2 ^ 53)
near_fits moment P h k l = (omega arith, k, omega arith)
