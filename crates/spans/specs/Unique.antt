-- A moment has one span only.
use Rattle.std.specs.Prelude.{◌≡◌, refl, List, ℕ, ◌+◌, ◌<◌}
use Rattle.std.proofs.Common.{ap, ◌∙◌, arith}
use Rattle.table.specs.Step.{Step}
use Rattle.runs.specs.Demand.{Starts, Exists}
use Rattle.window.specs.declared.Span.{Span}
use Rattle.window.specs.declared.Span.TheVariants.{Closed, Open, Absent}
use Rattle.spans.specs.Span.{With, Earliest, Latest, Unbounded, Spans}

module _ (P n : ℕ) (pos : 0 < P) (σ : List Step) (D : Starts) where
  -- a run is a run
  exists : {Q : (ℕ → ℕ) → Type 0} → With P n σ D Q → Exists n D σ
  exists w =
      record { parts = P; positive = pos; moments = w.moments; starts = w.starts; allowed = w.allowed; run = w.run }

  module _ (i : ℕ) where
    first_same : (a b : ℕ) → Earliest P n σ D i a → Earliest P n σ D i b → a ≡ b
    first_same a b x y =
        let p = x.reached in
        let q = y.reached in
        omega (
          arith,
          p.fact,
          q.fact,
          x.bound q.moments q.starts q.run q.allowed,
          y.bound p.moments p.starts p.run p.allowed,
        )

    last_same : (a b : ℕ) → Latest P n σ D i a → Latest P n σ D i b → a ≡ b
    last_same a b x y =
        let p = x.reached in
        let q = y.reached in
        omega (
          arith,
          p.fact,
          q.fact,
          x.bound q.moments q.starts q.run q.allowed,
          y.bound p.moments p.starts p.run p.allowed,
        )

    not_both : (a : ℕ) → Latest P n σ D i a → Unbounded P n σ D i → ⊥
    not_both a x u = let w = u (a + 1) in omega (arith, w.fact, x.bound w.moments w.starts w.run w.allowed)

    pub span_unique : (x y : Span) → Spans P n σ D i x → Spans P n σ D i y → x ≡ y
    span_unique (Closed a b) (Closed c d) p q =
        ap (λ v. Closed v b) (first_same a c p.0 q.0) ∙ ap (Closed c) (last_same b d p.1 q.1)
    span_unique (Closed a b) (Open c) p q = absurd (not_both b p.1 q.1)
    span_unique (Closed a b) Absent p q = absurd (q (exists p.0.reached))
    span_unique (Open a) (Closed c d) p q = absurd (not_both d q.1 p.1)
    span_unique (Open a) (Open c) p q = ap Open (first_same a c p.0 q.0)
    span_unique (Open a) Absent p q = absurd (q (exists p.0.reached))
    span_unique Absent (Closed c d) p q = absurd (p (exists q.0.reached))
    span_unique Absent (Open c) p q = absurd (p (exists q.0.reached))
    span_unique Absent Absent p q = refl
