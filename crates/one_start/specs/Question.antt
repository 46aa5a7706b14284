-- The question to a table, and to the bytes.
use Rattle.std.specs.Prelude.{◌≡◌, List, ℕ, ◌≤◌, ◌<◌, length}
use Rattle.std.proofs.Math.Path.{refl}
use Rattle.std.proofs.Common.{sym, ap, subst, ◌∙◌, arith, le-leb}
use Rattle.std.proofs.Math.Decide.{dec_le}
use Rattle.std.proofs.lemmas.Bool.{lt-leb}
use Rattle.table.specs.Step.{Step, steps_of}
use Rattle.table.specs.declared.Fault.TheVariants as fault
use Rattle.table.specs.declared.Refusal.{Refusal}
use Rattle.table.specs.declared.Table.{Table}
use Rattle.table.specs.declared.Read.TheVariants as read
use Rattle.wire.specs.Reading.{read_of}
use Rattle.asking.specs.declared.Admission.{Admission}
use Rattle.asking.specs.declared.Admission.TheVariants as admission
use Rattle.asking.specs.Admission.{refused_for}
use Rattle.asking.specs.Rounds.{clocks_of, cycle_of}
use Rattle.one_start.specs.declared.Lasting.{Lasting}
use Rattle.one_start.specs.declared.Lasting.TheVariants as lasting
use Rattle.one_start.specs.Answer.{Answered, admit_of, asking_of, Meets, Answers}

-- ---- the test of the room
module _ (n starts : ℕ) where
  pub admit_short : starts < n → admit_of n starts ≡ refused_for fault.Starts
  unfolding admit_of
  admit_short h = rw (lt-leb n starts h)

  pub admit_all : n ≤ starts → admit_of n starts ≡ admission.Accepted
  unfolding admit_of
  admit_all h = rw (le-leb n starts h)

  abbrev accepted : Admission → Type 0
  accepted (admission.Refused f) = ⊥
  accepted admission.Accepted = Unit {0}

  pub admit_held : admit_of n starts ≡ admission.Accepted → n ≤ starts
  admit_held e = go (dec_le n starts)
    where
      go : Dec (n ≤ starts) → n ≤ starts
      go (yes h) = h
      go (no h) = absurd (subst accepted (sym (sym (admit_short (omega arith)) ∙ e)) tt)

-- ---- the answer
module _ (q : Admission) (n : ℕ) (τ : List Step) (l l' : List ℕ) where
  pub meets_refused : (f : Refusal) → q ≡ admission.Refused f → l' ≡ l → Meets q n τ l l' (lasting.Refused f)
  meets_refused f e same = subst (λ (x : Admission). Meets x n τ l l' (lasting.Refused f)) (sym e) (refl, same)

  pub meets_accepted : (r : Lasting) → q ≡ admission.Accepted → Answered n τ l l' r → Meets q n τ l l' r
  meets_accepted r e h = subst (λ (x : Admission). Meets x n τ l l' r) (sym e) h

-- ---- the question to the bytes
module _ (bytes l : List ℕ) where
  asking_refused : (f : Refusal) → read_of bytes ≡ read.Refused f → asking_of bytes (length l) ≡ admission.Refused f
  unfolding asking_of
  asking_refused f e = rw (asking_of, e) refl

  pub refused_answers : (f : Refusal) → read_of bytes ≡ read.Refused f → Answers bytes l l (lasting.Refused f)
  refused_answers f e = record { answers = meets_refused _ _ _ l l f (asking_refused f e) refl }

  asking_counted : (n L g : ℕ) → read_of bytes ≡ read.Counted n L g → asking_of bytes (length l) ≡ admit_of n (length l)
  unfolding asking_of
  asking_counted n L g e = rw (asking_of, e) refl

  -- The answer to the table is the answer to its bytes.
  pub counted_answers : (n L g : ℕ) → read_of bytes ≡ read.Counted n L g → (t : Table) → n ≡ t.clocks → t.clocks ≡ clocks_of bytes
      → steps_of t ≡ cycle_of bytes → (l' : List ℕ) (r : Lasting)
      → Meets (admit_of t.clocks (length l)) t.clocks (steps_of t) l l' r → Answers bytes l l' r
  counted_answers n L g e t same clocks steps l' r m =
      record {
        answers =
            subst (λ (σ : List Step). Meets (asking_of bytes (length l)) (clocks_of bytes) σ l l' r) steps
            (subst (λ (c : ℕ). Meets (asking_of bytes (length l)) c (steps_of t) l l' r) clocks
            (subst (λ (q : Admission). Meets q t.clocks (steps_of t) l l' r) tests m));
      }
    where
      tests : admit_of t.clocks (length l) ≡ asking_of bytes (length l)
      tests = sym (asking_counted n L g e ∙ ap (λ (c : ℕ). admit_of c (length l)) same)
