-- What the panel answers and shows is determined: with the same bytes, number of rounds and rooms before, the answer and the rooms after.
use Rattle.std.specs.Prelude.{◌≡◌, refl, List, ℕ, suc, ◌<◌, length}
use Rattle.std.proofs.Common.{sym, ap, ◌∙◌, arith}
use Rattle.table.specs.Step.{Step}
use Rattle.runs.specs.declared.Start.TheVariants.{LogIn}
use Rattle.runs.specs.Demand.{starts_of}
use Rattle.asking.specs.declared.Admission.{Admission}
use Rattle.asking.specs.declared.Admission.TheVariants as admission
use Rattle.asking.specs.Rounds.{clocks_of, rounds_in}
use Rattle.window.specs.declared.Span.{Span}
use Rattle.window.specs.Window.{window_of}
use Rattle.showing.specs.Rooms.{marked_same, timed_same}
use Rattle.spans.specs.Unique.{span_unique}
use Rattle.plan.specs.Planned.{parts_in}
use Rattle.windows.specs.declared.Panel.{Panel}
use Rattle.windows.specs.declared.Panel.TheVariants as panel
use Rattle.windows.specs.Admit.{asking_of}
use Rattle.windows.specs.Answer.{Rooms, Spanned, Shows, Meets, Answers}

module _ (n : ℕ) (σ : List Step) where
  pub spanned_unique : (a b : ℕ → Span) → Spanned n σ a → Spanned n σ b → (i : ℕ) → i < length σ → a i ≡ b i
  spanned_unique a b p q i l =
      span_unique (parts_in n σ) n (omega arith) σ (starts_of LogIn) (suc i) (a i) (b i) (p.each i l) (q.each i l)

  pub shows_unique : (r r' r'' : Rooms) (m k : ℕ) → Shows n σ r r' m → Shows n σ r r'' k → (r' ≡ r'') × (m ≡ k)
  shows_unique r r' r'' m k a b = (rw (marks, times) refl, a.number ∙ sym b.number)
    where
      same : (i : ℕ) → i < length σ → window_of (parts_in n σ) (a.spans i) ≡ window_of (parts_in n σ) (b.spans i)
      same i l = ap (window_of (parts_in n σ)) (spanned_unique a.spans b.spans a.spanned b.spanned i l)

      marks : r'.marks ≡ r''.marks
      marks = a.marks ∙ marked_same _ _ (length σ) r.marks same ∙ sym b.marks

      times : r'.times ≡ r''.times
      times = a.times ∙ timed_same _ _ (length σ) r.times same ∙ sym b.times

  meets_unique : (q : Admission) (r r' r'' : Rooms) (a b : Panel) → Meets q n σ r r' a → Meets q n σ r r'' b → (a ≡ b) × (r' ≡ r'')
  meets_unique (admission.Refused f) r r' r'' a b x y = (x.0 ∙ sym y.0, x.1 ∙ sym y.1)
  meets_unique admission.Accepted r r' r'' (panel.Shown m) (panel.Shown k) x y =
      let u = shows_unique r r' r'' m k x y in (ap panel.Shown u.1, u.0)
  meets_unique admission.Accepted r r' r'' (panel.Shown m) (panel.Refused f) x y = absurd y
  meets_unique admission.Accepted r r' r'' (panel.Refused f) b x y = absurd x

pub answers_unique : (bytes : List ℕ) (k : ℕ) (r r' r'' : Rooms) (a b : Panel) → Answers bytes k r r' a → Answers bytes k r r'' b
    → (a ≡ b) × (r' ≡ r'')
answers_unique bytes k r r' r'' a b x y =
    meets_unique (clocks_of bytes) (rounds_in bytes k) (asking_of bytes k (length r.marks) (length r.times)) r r' r'' a b
    x.answers y.answers
