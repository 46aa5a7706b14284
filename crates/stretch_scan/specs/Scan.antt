-- What a scan gives for bytes with stretches: what it gives for the table written out.
use Rattle.std.specs.Prelude.{◌≡◌, refl, Bool, false, List, ℕ, ◌-◌, ◌≤◌, length, get_or, take}
use Rattle.std.proofs.Math.Path.{sym, ap}
use Rattle.std.proofs.Common.{◌∙◌}
use Rattle.std.proofs.Math.Logic.{⊎_elim}
use Rattle.text.specs.Over.{Written}
use Rattle.table.specs.declared.Read.{Read}
use Rattle.table.specs.declared.Read.TheVariants as read
use Rattle.table.specs.declared.Refusal.{Refusal}
use Rattle.records.specs.Rules.{within}
use Rattle.wire.specs.Records.{Bytes}
use Rattle.wire.specs.Reading.{read_of}
use Rattle.format.specs.Encode.{encode}
use Rattle.format.specs.Shapes.{false_true}
use Rattle.scans.specs.declared.Running.{Running}
use Rattle.scans.specs.declared.Scanned.{Scanned}
use Rattle.scans.specs.declared.Verdict.{Verdict}
use Rattle.scans.specs.declared.Verdict.TheVariants as verdict
use Rattle.scans.specs.Answer.{refused_with, answered_by, scan_of}
use Rattle.stretches.specs.Reading.{read_out}
use Rattle.stretches.specs.Listing.{written_out}
use Rattle.stretches.specs.Plain.{either}
use Rattle.write_out.specs.Plain.{plain_of, Accepted, plain_read, plain_same}
use Rattle.write_out.specs.Out.{out_part}

unfoldable pub scan_out : List ℕ → Running → ℕ → Scanned
scan_out bytes r counter = answered_by (plain_of bytes) r counter (read_out bytes)

-- a scan that was refused at a record of a stretch
abbrev pub at_stretch : List ℕ → Verdict → Bool
at_stretch bytes verdict.Accepted = false
at_stretch bytes (verdict.TurnedAway n) = false
at_stretch bytes (verdict.Refused f) = within 7 (get_or bytes f.place 0) 8

module _ (bytes : List ℕ) (r : Running) (counter : ℕ) where
  pub out_refused : (f : Refusal) → read_out bytes ≡ read.Refused f → refused_with r f ≡ scan_out bytes r counter
  unfolding scan_out
  out_refused f e = ap (answered_by (plain_of bytes) r counter) (sym e)

  -- the scan by the part of a room that holds the table written out
  pub out_written : Bytes bytes → (a : Accepted bytes) {old room : List ℕ} {end : ℕ} (s : Scanned) → 531 ≤ length old
      → Written old 0 (encode (written_out bytes)) room end → s ≡ scan_of (take (end - 0) room) r counter → s ≡ scan_out bytes r counter
  unfolding scan_out scan_of
  out_written small a {old} {room} {end} s h x is =
      is ∙ ap (λ bs. scan_of bs r counter) (out_part bytes small a old room end h x)
      ∙ ap (answered_by (plain_of bytes) r counter) ((plain_read bytes small _ _ _ a.counted).0 ∙ sym a.counted)

  -- answered alike, the scan is the same
  out_alike : Bytes bytes → read_out bytes ≡ read_of bytes → (a : Read) → read_of bytes ≡ a → scan_of bytes r counter ≡ scan_out bytes r counter
  unfolding scan_out scan_of
  out_alike small same (read.Refused f) e =
      ap (answered_by bytes r counter) e ∙ ap (answered_by (plain_of bytes) r counter) (sym (same ∙ e))
  out_alike small same (read.Counted n L g) e =
      ap (λ bs. answered_by bs r counter (read_of bytes)) (plain_same bytes small n L g (same ∙ e) e)
      ∙ ap (answered_by (plain_of bytes) r counter) (sym same)

  -- where the scan without stretches was not refused at one, it is the scan
  pub out_plain : Bytes bytes → (s : Scanned) → s ≡ scan_of bytes r counter → at_stretch bytes s.verdict ≡ false → s ≡ scan_out bytes r counter
  unfolding scan_of
  out_plain small s is never =
      is ∙ ⊎_elim
      (λ same. out_alike small same (read_of bytes) refl)
      (λ x. false_true (sym never ∙ ap (λ y. at_stretch bytes y.verdict) (is ∙ ap (answered_by bytes r counter) x.refused) ∙ x.kind))
      (either bytes)
