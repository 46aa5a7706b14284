-- A test that bytes are accepted, which computes.
use Rattle.std.specs.Prelude.{◌≡◌, refl, Bool, true, false, ◌&&◌, List, [], ◌∷◌, ℕ, zero, suc, ltb}
use Rattle.std.proofs.Common.{sym, ap, ◌∙◌, arith, ltb-true}
use Rattle.std.proofs.lemmas.Bool.{false≢true}
use Rattle.table.specs.declared.Read.{Read}
use Rattle.table.specs.declared.Read.TheVariants.{Counted, Refused}
use Rattle.wire.specs.Reading.{read_of}
use Rattle.wire.specs.Listing.{listing}
use Rattle.format.specs.Encode.{Legal}
use Rattle.wire.specs.Records.{Bytes}
use Rattle.format.proofs.Accepted.{accepted_counted}
use Rattle.samples.specs.Checks.{both, all}
use Rattle.samples.specs.Follows.{Accepted}

abbrev counted : Read → Bool
counted (Counted n L g) = true
counted (Refused f) = false

-- each number is a byte, and reading refuses nothing
unfoldable pub accepts : List ℕ → Bool
accepts bytes = all (λ b. ltb b 256) bytes && counted (read_of bytes)

all_bytes : (bytes : List ℕ) → all (λ b. ltb b 256) bytes ≡ true → Bytes bytes
unfolding all
all_bytes [] e i = omega arith
all_bytes (b ∷ bs) e zero = ltb-true b 256 (both {a = ltb b 256} e).0
all_bytes (b ∷ bs) e (suc i) = all_bytes bs (both {a = ltb b 256} e).1 i

-- Accepted bytes are a table within the limits.
pub accepts_legal : (bytes : List ℕ) → accepts bytes ≡ true → Accepted bytes × Legal (listing bytes)
unfolding accepts
accepts_legal bytes e = go (both e) (read_of bytes) refl
  where
    go : (all (λ b. ltb b 256) bytes ≡ true) × (counted (read_of bytes) ≡ true) → (r : Read) → read_of bytes ≡ r
        → Accepted bytes × Legal (listing bytes)
    go (b, c) (Refused f) q = absurd (false≢true (ap counted (sym q) ∙ c))
    go (b, c) (Counted n L g) q =
        let w = accepted_counted bytes (all_bytes bytes b) n L g q in
        (record { steps = L; guards = g; read = q ∙ ap (λ m. Counted m L g) w.clocks }, w.legal)
