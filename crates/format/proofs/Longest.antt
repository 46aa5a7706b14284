-- How long the bytes of a table within the limits are: at most 531, and some are as long.
use Rattle.std.specs.Prelude.{◌≡◌, refl, false, ℕ, zero, suc, ◌+◌, ◌*◌, ◌≤◌, length, replicate}
use mathlib.Core.List.{List, [], ◌∷◌, ◌++◌, Memᴰ}
use Rattle.std.proofs.Common.{arith, length-append}
use Rattle.basics.specs.Distinct.{Each, distinct_few}
use Rattle.table.specs.declared.Relation.TheVariants.{AtMost}
use Rattle.table.specs.declared.Read.TheVariants as read
use Rattle.records.specs.Rules.{is_free, marked, headed, guarded, cleared, finished, ended}
use Rattle.wire.specs.Records.{records_from}
use Rattle.records.specs.Checking.{check_of}
use Rattle.wire.specs.Reading.{whole_of, judge_of, read_of}
use Rattle.wire.specs.Listing.{Entry, guard, reset, Listing, guards_of, resets_of}
use Rattle.format.specs.Encode.{entry_bytes, step_bytes, steps_bytes, encode, guard_count, LegalEntry, LegalStep, LegalSteps, Legal}

-- a step has five bytes for a guard, two for a reset, and one for its end
pub step_length : (es : List Entry) → length (step_bytes es) ≡ 5 * length (guards_of es) + 2 * length (resets_of es) + 1
unfolding step_bytes guards_of resets_of
step_length [] = refl
step_length (guard g ∷ es) = omega (arith, length-append (entry_bytes (guard g)) (step_bytes es), step_length es)
step_length (reset j ∷ es) = omega (arith, length-append (entry_bytes (reset j)) (step_bytes es), step_length es)

-- and resets each clock once at most
pub resets_each : (n : ℕ) (es : List Entry) → ((e : Entry) → Memᴰ e es → LegalEntry n e)
    → Each (λ j. (1 ≤ j) × (j ≤ n)) (resets_of es)
unfolding resets_of
resets_each n [] h k l = absurd (omega arith)
resets_each n (guard g ∷ es) h k l = resets_each n es (λ e m. h e (Memᴰ.tail m)) k l
resets_each n (reset j ∷ es) h zero l = h (reset j) (Memᴰ.head refl)
resets_each n (reset j ∷ es) h (suc k) l = resets_each n es (λ e m. h e (Memᴰ.tail m)) k (omega arith)

pub resets_few : (n : ℕ) (s : List Entry) → LegalStep n s → length (resets_of s) ≤ n
resets_few n s h = distinct_few n (resets_of s) h.once (resets_each n s h.entries)

steps_length : (n : ℕ) (ss : List (List Entry)) → n ≤ 6 → LegalSteps n ss
    → length (steps_bytes ss) ≤ 5 * guard_count ss + 13 * length ss + 1
unfolding steps_bytes guard_count
steps_length n [] few h = omega arith
steps_length n (s ∷ ss) few h =
    omega (
      arith,
      length-append (step_bytes s) (steps_bytes ss),
      step_length s,
      resets_few n s (h s (Memᴰ.head refl)),
      steps_length n ss few (λ x m. h x (Memᴰ.tail m)),
    )

-- A table within the limits has at most 531 bytes: two of the head, 64 guards, sixteen steps with six resets each, and the end.
pub longest : (l : Listing) → Legal l → length (encode l) ≤ 531
unfolding encode
longest l h = omega (arith, steps_length l.clocks l.steps h.clocks_few h.each)

-- One table has as many, and is accepted.
unfoldable pub full_step : List Entry
full_step = replicate 4 (guard (record { clock = 1; second = 0; relation = AtMost; minus = false; constant = 4000 }))
    ++ (reset 1 ∷ reset 2 ∷ reset 3 ∷ reset 4 ∷ reset 5 ∷ reset 6 ∷ [])

unfoldable pub full : List ℕ
full = encode (record { clocks = 6; steps = replicate 16 full_step })

pub full_longest : (length full ≡ 531) × (read_of full ≡ read.Counted 6 16 64)
unfolding full full_step encode steps_bytes step_bytes read_of check_of judge_of whole_of records_from headed guarded cleared finished ended is_free marked
full_longest = (refl, refl)
