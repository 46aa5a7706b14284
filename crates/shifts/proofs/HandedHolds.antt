-- A shift with trays is the shift of the same scans given singly, and so it is as sound.
use Rattle.std.specs.Prelude.{◌≡◌, Bool, true, cond, ◌&&◌, leb, get_or, take, drop}
use Rattle.std.proofs.Math.Path.{refl, ap, ap₂, sym}
use Rattle.std.proofs.Common.{subst, ◌∙◌, arith, le-leb}
use mathlib.Core.List.Memᴰ
use mathlib.Core.List.{List, [], ◌∷◌, ◌++◌, append-nil}
use Prim.Native.Nat.{ℕ, zero, suc, ◌≤◌, ◌<◌}
use Rattle.std.proofs.Math.Decide.{dec_le}
use Rattle.std.proofs.Math.ListN.{length, length-map, get_or-append}
use Rattle.std.proofs.Math.Seq.{append_snoc}
use Rattle.std.proofs.lemmas.Bool.{lt-leb}
use Rattle.table.specs.declared.Read.TheVariants as read
use Rattle.table.specs.declared.Refusal.{Refusal}
use Rattle.ticks.specs.Ticks.{counter_at}
use Rattle.wire.specs.Records.{Bytes}
use Rattle.wire.specs.Reading.{read_of}
use Rattle.runs.specs.Tools.{Every}
use Rattle.asking.specs.Rounds.{cycle_of}
use Rattle.scans.specs.declared.Running.{Running}
use Rattle.scans.specs.declared.Verdict.{Verdict}
use Rattle.scans.specs.Scan.{fits}
use Rattle.scans.specs.Answer.{scan_of}
use Rattle.scans.specs.Going.{scan_judged, fits_scanned}
use Rattle.trays.specs.declared.Outcome.TheVariants.{Counted, Refused}
use Rattle.trays.specs.Tray.{verdicts_by, running_by, verdict_number, verdict_row, accepted_in}
use Rattle.trays.specs.Answer.{outcome_of, running_of, verdicts_of, unless}
use Rattle.trays.proofs.Laws.{Told, accepted, turned, scanned_told, length_verdicts, running_keeps, verdicts_each}
use Rattle.trays.proofs.Laws.{outcome_many, outcome_short, outcome_counted, running_counted, verdicts_counted}
use Rattle.shifts.specs.Shift.{Shift, begun, times_with, scan_at, gone_on, shift_from}
use Rattle.shifts.specs.Sound.{Sound}
use Rattle.shifts.specs.Handed.{Handed, single, tray, Fitting, times_given, times_in, times_accepted, counters_at, tray_on, handed_from, PromiseHanded}
use Rattle.shifts.proofs.Kept.{kept_begun, kept_fits}
use Rattle.shifts.proofs.Holds.{size, limits, shifts_sound}

-- ---- the times that a row of verdicts accepts

-- the places after theirs do not matter
times_row : (row rest ts : List ℕ) → length ts ≤ length row → times_accepted (row ++ rest) ts ≡ times_accepted row ts
unfolding times_accepted
times_row row rest [] h = refl
times_row [] rest (t ∷ ts) h = absurd (omega arith)
times_row (zero ∷ row) rest (t ∷ ts) h = ap (λ l. t ∷ l) (times_row row rest ts (omega arith))
times_row (suc b ∷ row) rest (t ∷ ts) h = times_row row rest ts (omega arith)

-- the first of them is accepted where a single scan is
times_first : {v : Verdict} → Told v → (times : List ℕ) (t : ℕ) (row ts : List ℕ)
    → times_with v times t ++ times_accepted row ts ≡ times ++ times_accepted (verdict_number v ∷ row) (t ∷ ts)
unfolding times_accepted
times_first accepted times t row ts = append_snoc times t (times_accepted row ts)
times_first (turned b) times t row ts = refl

-- there are as many as scans accepted
times_count : (vs : List Verdict) (ts : List ℕ) → length vs ≡ length ts → Every Told vs
    → accepted_in vs ≡ length (times_accepted (verdict_row vs) ts)
unfolding times_accepted accepted_in
times_count [] [] same told = refl
times_count [] (t ∷ ts) same told = absurd (omega arith)
times_count (v ∷ vs) [] same told = absurd (omega arith)
times_count (v ∷ vs) (t ∷ ts) same told =
    go (told v (Memᴰ.head refl)) (times_count vs ts (omega arith) (λ u m. told u (Memᴰ.tail m)))
  where
    go : {v : Verdict} → Told v → accepted_in vs ≡ length (times_accepted (verdict_row vs) ts)
        → accepted_in (v ∷ vs) ≡ length (times_accepted (verdict_row (v ∷ vs)) (t ∷ ts))
    go accepted rest = ap suc rest
    go (turned b) rest = rest

-- ---- scans given singly
module _ (bytes : List ℕ) (first : ℕ) where
  -- their verdicts from a record on, at some times
  abbrev verdicts_at : Running → List ℕ → List Verdict
  verdicts_at r ts = verdicts_by (scan_of bytes) r (counters_at bytes first ts)

  -- some, and then others
  shift_append : (s : Shift) (ts us : List ℕ) → shift_from bytes first s (ts ++ us) ≡ shift_from bytes first (shift_from bytes first s ts) us
  unfolding shift_from
  shift_append s [] us = refl
  shift_append s (t ∷ ts) us = shift_append (gone_on bytes first s t) ts us

  -- the record after them
  shift_running : (s : Shift) (ts : List ℕ)
      → (shift_from bytes first s ts).running ≡ running_by (scan_of bytes) s.running (counters_at bytes first ts)
  unfolding shift_from gone_on running_by
  shift_running s [] = refl
  shift_running s (t ∷ ts) = shift_running (gone_on bytes first s t) ts

  -- the times accepted with theirs
  shift_times : (s : Shift) (ts : List ℕ) → Every Told (verdicts_at s.running ts)
      → (shift_from bytes first s ts).times ≡ s.times ++ times_accepted (verdict_row (verdicts_at s.running ts)) ts
  unfolding shift_from gone_on verdicts_by times_accepted
  shift_times s [] told = sym (append-nil s.times)
  shift_times s (t ∷ ts) told =
      shift_times (gone_on bytes first s t) ts (λ v m. told v (Memᴰ.tail m))
      ∙ times_first (told (scan_at bytes first s t).verdict (Memᴰ.head refl)) s.times t
      (verdict_row (verdicts_at (scan_at bytes first s t).running ts)) ts

  -- the verdict of each
  row_at : (s : Shift) (ts : List ℕ) (i : ℕ) → i < length ts
      → get_or (verdict_row (verdicts_at s.running ts)) i 0
      ≡ verdict_number (scan_at bytes first (shift_from bytes first s (take i ts)) (get_or ts i 0)).verdict
  unfolding shift_from gone_on verdicts_by
  row_at s [] i l = absurd (omega arith)
  row_at s (t ∷ ts) zero l = refl
  row_at s (t ∷ ts) (suc i) l = row_at (gone_on bytes first s t) ts i (omega arith)

-- ---- accepted bytes
module _ (bytes : List ℕ) (h : Bytes bytes) (n L g : ℕ) (e : read_of bytes ≡ read.Counted n L g) where
  -- From a record that the table can go on from, the record after a scan is such a one too,
  scan_fits : (r : Running) (counter : ℕ) → fits n L r ≡ true → fits n L (scan_of bytes r counter).running ≡ true
  scan_fits r counter can =
      rw (scan_judged bytes n L g e r counter can)
      (fits_scanned (cycle_of bytes) n L r counter (limits bytes h n L g e).few (sym (size bytes h n L g e)) can)

  -- and the verdict is told by its number.
  scan_told : (r : Running) (counter : ℕ) → fits n L r ≡ true → Told (scan_of bytes r counter).verdict
  scan_told r counter can = rw (scan_judged bytes n L g e r counter can) (scanned_told (cycle_of bytes) n r counter)

  module _ (first : ℕ) where
    -- so it goes on, with any number of scans
    shift_fits : (s : Shift) → fits n L s.running ≡ true → (ts : List ℕ) → fits n L (shift_from bytes first s ts).running ≡ true
    shift_fits s can ts =
        rw (shift_running bytes first s ts)
        (running_keeps (scan_of bytes) (λ r. fits n L r ≡ true) scan_fits s.running (counters_at bytes first ts) can)

    -- from log-in
    begun_fits : first < 65536 → fits n L (begun bytes first).running ≡ true
    begun_fits b =
        rw (size bytes h n L g e)
        (kept_fits (cycle_of bytes) n first (limits bytes h n L g e) (begun bytes first)
        (kept_begun (cycle_of bytes) n first (limits bytes h n L g e) b))

    -- ---- a tray that is not refused for its own sake
    module _ (s : Shift) (can : fits n L s.running ≡ true) (ts room : List ℕ) (fit : Fitting ts room) where
      -- the counters that the rail shows, and what scans at them give, singly
      abbrev counters : List ℕ
      counters = counters_at bytes first ts

      abbrev verdicts : List Verdict
      verdicts = verdicts_at bytes first s.running ts

      -- at most 256 counters, and a place for each
      few : length counters ≤ 256
      few = omega (arith, length-map ts (counter_at first), fit.0)

      enough : length counters ≤ length room
      enough = omega (arith, length-map ts (counter_at first), fit.1)

      -- a verdict for each
      size_verdicts : length verdicts ≡ length ts
      size_verdicts = length_verdicts (scan_of bytes) s.running counters ∙ length-map ts (counter_at first)

      size_row : length (verdict_row verdicts) ≡ length ts
      size_row = length-map verdicts verdict_number ∙ size_verdicts

      -- told by its number
      told : Every Told verdicts
      told = verdicts_each (scan_of bytes) (λ r. fits n L r ≡ true) scan_fits Told scan_told s.running counters can

      -- what the tray gives
      outcome : outcome_of bytes s.running counters (length room) ≡ Counted (accepted_in verdicts)
      outcome = outcome_counted bytes n L g e s.running can counters few (length room) enough

      row : verdicts_of bytes s.running counters room ≡ verdict_row verdicts ++ drop (length counters) room
      row = verdicts_counted bytes n L g e s.running can counters few room enough

      -- the times accepted by it
      times_told : times_accepted (verdicts_of bytes s.running counters room) ts ≡ times_accepted (verdict_row verdicts) ts
      times_told =
          ap (λ l. times_accepted l ts) row
          ∙ times_row (verdict_row verdicts) (drop (length counters) room) ts (omega (arith, size_row))

      -- The shift after it is the one after its scans, given singly.
      tray_singly : tray_on bytes first s ts room ≡ shift_from bytes first s ts
      unfolding tray_on
      tray_singly =
          ap₂ shift_at
          (running_counted bytes n L g e s.running can counters few (length room) enough ∙ sym (shift_running bytes first s ts))
          (ap (λ o. unless o s.times (s.times ++ times_accepted (verdicts_of bytes s.running counters room) ts)) outcome
          ∙ ap (λ l. s.times ++ l) times_told
          ∙ sym (shift_times bytes first s ts told))
        where
          shift_at : Running → List ℕ → Shift
          shift_at r times = record { running = r; times = times }

      -- The verdict of each scan in it is that of the same scan, given singly after those before it.
      pub row_singly : (i : ℕ) → i < length ts
          → get_or (verdicts_of bytes s.running (counters_at bytes first ts) room) i 0
          ≡ verdict_number (scan_at bytes first (shift_from bytes first s (take i ts)) (get_or ts i 0)).verdict
      row_singly i l =
          ap (λ v. get_or v i 0) row
          ∙ get_or-append (verdict_row verdicts) (drop (length counters) room) 0 i (omega (arith, size_row))
          ∙ row_at bytes first s ts i l

      -- Its outcome is no refusal, and counts the zeros in the row of verdicts.
      pub tray_counted : outcome_of bytes s.running (counters_at bytes first ts) (length room)
          ≡ Counted (length (times_accepted (verdicts_of bytes s.running (counters_at bytes first ts) room) ts))
      tray_counted = outcome ∙ ap Counted (times_count verdicts ts size_verdicts told ∙ ap length (sym times_told))

    -- ---- any tray

    -- refused, it leaves the shift as it was
    tray_refused : (s : Shift) (ts room : List ℕ) (f : Refusal)
        → outcome_of bytes s.running (counters_at bytes first ts) (length room) ≡ Refused f → tray_on bytes first s ts room ≡ s
    unfolding tray_on running_of
    tray_refused s ts room f e = λ i.
        record {
          running = unless (e i) s.running (running_by (scan_of bytes) s.running (counters_at bytes first ts));
          times = unless (e i) s.times (s.times ++ times_accepted (verdicts_of bytes s.running (counters_at bytes first ts) room) ts);
        }

    -- The shift after a tray is the one after the scans that it gives.
    tray_given : (s : Shift) → fits n L s.running ≡ true → (ts room : List ℕ)
        → tray_on bytes first s ts room ≡ shift_from bytes first s (times_given ts room)
    unfolding shift_from
    tray_given s can ts room = go (dec_le (length ts) 256) (dec_le (length ts) (length room))
      where
        size : length (counters_at bytes first ts) ≡ length ts
        size = length-map ts (counter_at first)

        -- by the two tests
        after : Bool → Bool → Shift
        after few enough = shift_from bytes first s (cond (few && enough) ts [])

        go : Dec (length ts ≤ 256) → Dec (length ts ≤ length room) → tray_on bytes first s ts room ≡ shift_from bytes first s (times_given ts room)
        go (no h) d =
            tray_refused s ts room _
            (outcome_many bytes n L g e s.running can (counters_at bytes first ts) (length room) (omega (arith, size)))
            ∙ sym (ap (λ b. after b (leb (length ts) (length room))) (lt-leb (length ts) 256 (omega arith)))
        go (yes h) (no l) =
            tray_refused s ts room _
            (outcome_short bytes n L g e s.running can (counters_at bytes first ts) (omega (arith, size)) (length room) (omega (arith, size)))
            ∙ sym (ap₂ after (le-leb (length ts) 256 h) (lt-leb (length ts) (length room) (omega arith)))
        go (yes h) (yes l) =
            tray_singly s can ts room (h, l) ∙ sym (ap₂ after (le-leb (length ts) 256 h) (le-leb (length ts) (length room) l))

    -- The shift after scans that are handed over singly and in trays is the one after the same scans, all given singly.
    pub handed_singly : (s : Shift) → fits n L s.running ≡ true → (hs : List Handed)
        → handed_from bytes first s hs ≡ shift_from bytes first s (times_in hs)
    unfolding handed_from times_in shift_from
    handed_singly s can [] = refl
    handed_singly s can (single t ∷ hs) = handed_singly (gone_on bytes first s t) (shift_fits s can (t ∷ [])) hs
    handed_singly s can (tray ts room ∷ hs) =
        ap (λ u. handed_from bytes first u hs) (tray_given s can ts room)
        ∙ handed_singly (shift_from bytes first s (times_given ts room)) (shift_fits s can (times_given ts room)) hs
        ∙ sym (shift_append bytes first s (times_given ts room) (times_in hs))

-- Every shift with trays, with accepted bytes, is sound.
pub shifts_handed_sound : (bytes : List ℕ) → Bytes bytes → (n L g : ℕ) → read_of bytes ≡ read.Counted n L g → PromiseHanded bytes
shifts_handed_sound bytes h n L g e first b hs a =
    subst (Sound bytes first)
    (sym (handed_singly bytes h n L g e first (begun bytes first) (begun_fits bytes h n L g e first b) hs))
    (shifts_sound bytes h n L g e first b (times_in hs) a)
