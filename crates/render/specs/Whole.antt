-- The report on any bytes is written.
use Rattle.std.specs.Prelude.{◌≡◌, refl, List, ◌++◌, ℕ, ◌≤◌, ◌<◌, length, drop}
use Rattle.std.proofs.Common.{sym, ◌∙◌, ap, subst, arith}
use Rattle.table.specs.declared.Refusal.{Refusal}
use Rattle.table.specs.declared.Read.{Read}
use Rattle.table.specs.declared.Read.TheVariants as read
use Rattle.table.specs.Refusal.{number_of}
use Rattle.text.specs.Over.{Written, written_as, written_front}
use Rattle.wire.specs.Reading.{read_of}
use Rattle.count_lines.specs.Lines.{refused_line, refusal_line}
use Rattle.render.specs.Reports.{TellsOf, Reported}
use Rattle.render.specs.Writes.{WritesTable}

module _ (bytes before : List ℕ) where
  pub reported_short : length before < 4096 → Reported bytes before before 0
  reported_short h = record { short = λ _. (refl, refl); stands = λ l. absurd (omega arith) }

  module _ {after : List ℕ} {end : ℕ} (room : 4096 ≤ length before) (few : end ≤ 4096) where
    -- a text that is the report is written at the front
    stands : (text : List ℕ) → TellsOf (read_of bytes) bytes text → Written before 0 text after end
        → Reported bytes before after end
    stands text t w =
        record {
          short = λ h. absurd (omega (arith, h, room));
          stands = λ _.
              record { text = text; reports = record { reports = t }; size = front.0; contents = front.1 };
        }
      where
        front : (end ≡ length text) × (after ≡ text ++ drop end before)
        front = written_front w (omega (arith, room, few))

    pub reported_table : (a : Read) (n L g : ℕ) → a ≡ read_of bytes → a ≡ read.Counted n L g
        → WritesTable bytes n L g before after end → Reported bytes before after end
    reported_table a n L g e f w =
        stands w.text (subst (λ (q : Read). TellsOf q bytes w.text) (sym f ∙ e) w.tells) w.written

    pub reported_refused : (a : Read) (f : Refusal) (number : ℕ) → a ≡ read_of bytes → a ≡ read.Refused f
        → number ≡ number_of f.fault → Written before 0 (refused_line number f.place) after end
        → Reported bytes before after end
    unfolding refusal_line
    reported_refused a f number e told numbered w =
        stands (refusal_line f) (subst (λ (q : Read). TellsOf q bytes (refusal_line f)) (sym told ∙ e) refl)
        (written_as (ap (λ (x : ℕ). refused_line x f.place) numbered) w)
