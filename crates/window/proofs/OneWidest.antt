-- There is one choice at most among the windows.
use Rattle.std.specs.Prelude.{◌≡◌, refl, ℕ, ◌<◌}
use Rattle.std.proofs.Common.{sym, ap, ◌∙◌, arith}
use Rattle.window.specs.declared.Span.{Span}
use Rattle.window.specs.declared.Interval.{Interval}
use Rattle.window.specs.declared.Choice.{Choice}
use Rattle.window.specs.declared.Choice.TheVariants.{Widest, NoneClosed}
use Rattle.window.specs.Spans.{same_from, same_upto}
use Rattle.window.specs.Widest.{FirstWidest, IsWidest, Chosen}

-- neither of two widest steps is before the other
not_before : (s : ℕ → Span) (n i a b j c d : ℕ) → FirstWidest s n i a b → FirstWidest s n j c d → i < j → ⊥
not_before s n i a b j c d w v h =
    omega (arith, v.first i a b h w.closed, w.none_wider j c d v.inside v.closed)

same_step : (s : ℕ → Span) (n i a b j c d : ℕ) → FirstWidest s n i a b → FirstWidest s n j c d → i ≡ j
same_step s n i a b j c d w v = omega (arith, not_before s n i a b j c d w v, not_before s n j c d i a b v w)

one_widest : (P : ℕ) (s : ℕ → Span) (n : ℕ) (v u : Interval) → IsWidest P s n v → IsWidest P s n u → v ≡ u
one_widest P s n v u p q =
    let e = same_step s n p.step p.from p.upto q.step q.from q.upto p.widest q.widest in
    let c = sym p.widest.closed ∙ ap s e ∙ q.widest.closed in
    let f : p.from ≡ q.from = same_from c in
    let t : p.upto ≡ q.upto = same_upto c in
    p.seconds ∙ rw (f, t) (sym q.seconds)

pub chosen_unique : (P : ℕ) (spans : ℕ → Span) (n : ℕ) (c d : Choice) → Chosen P spans n c → Chosen P spans n d → c ≡ d
chosen_unique P s n (Widest v) (Widest u) p q = ap Widest (one_widest P s n v u p q)
chosen_unique P s n (Widest v) NoneClosed p q = absurd (q p.step p.from p.upto p.widest.inside p.widest.closed)
chosen_unique P s n NoneClosed (Widest u) p q = absurd (p q.step q.from q.upto q.widest.inside q.widest.closed)
chosen_unique P s n NoneClosed NoneClosed p q = refl
