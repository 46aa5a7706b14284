-- The samples are accepted and have their counts: one claim, by evidence for each.
use Rattle.std.specs.Prelude.{◌≡◌, refl, Bool, true, false, ◌&&◌, ◌<◌}
use Rattle.std.proofs.lemmas.Bool.{false≢true}
use mathlib.Core.List.{List, [], ◌∷◌, Memᴰ}
use Rattle.std.proofs.Common.{arith}
use Rattle.table.specs.Step.{up_of, down_of, end_of}
use Rattle.runs.specs.Run.{zeroed, copies}
use Rattle.runs.specs.Demand.{plus, minus, guards_demands, steps_demands}
use Rattle.runs.specs.Demand.{any_starts, zero_starts, starts_of, start_demands, demands}
use Rattle.runs.specs.Start.{start_upper}
use Rattle.runs.specs.Tools.{Every, every_nil, every_cons}
use Rattle.wire.specs.Records.{records_from}
use Rattle.records.specs.Rules.{is_free, marked, headed, guarded, finished, ended, cleared}
use Rattle.records.specs.Checking.{check_of}
use Rattle.wire.specs.Reading.{whole_of, judge_of, read_of}
use Rattle.wire.specs.Listing.{steps_in, listing, guards_of, flagged, step_of}
use Rattle.format.specs.Fair.{legal_clocks, legal_fair}
use Rattle.rounds.specs.Answer.{Counts}
use Rattle.samples.specs.Samples.{Sample, samples}
use Rattle.asking.specs.Rounds.{clocks_of, cycle_of}
use Rattle.samples.specs.Follows.{Accepted}
use Rattle.samples.specs.Checks.{both, all, some, below}
use Rattle.samples.specs.Lines.{line, at_most, same}
use Rattle.samples.specs.Walks.{old, may, after, walks, end}
use Rattle.samples.specs.Begins.{begins}
use Rattle.samples.specs.Cycles.{alike, leads, contradicts}
use Rattle.samples.specs.Rounds.{runs, repeats}
use Rattle.samples.specs.Evidence.{Evidence, stops, repeated, tells, tells_counts}
use Rattle.samples.specs.Reads.{accepts, accepts_legal}

-- round r is at time 3 r + 3, and x was reset at 3 r
abbrev threes : Evidence
threes = repeated 1 0 (line 0 3 0 ∷ line 0 3 0 ∷ []) (line 3 3 0 ∷ [])

-- Evidence for each sample, in their order. A configuration is now and the last resets of x and y.
evidence : List Evidence
evidence =
    -- S1
    threes
    -- S2: rounds at 3 and 6, x was reset at 0, y at 3; for 3 rounds 01's loop 3, 2, 1, 0, 5
    ∷ stops 1 (3 ∷ 0 ∷ 3 ∷ []) (3 ∷ 6 ∷ [])
    (minus 3 2 3 false ∷ minus 2 1 3 false ∷ plus 1 0 0 false ∷ plus 0 5 0 false ∷ plus 5 3 5 false ∷ [])
    -- S3: the same run; the loop's sum is 0, and y's demand is strict
    ∷ stops 1 (3 ∷ 0 ∷ 3 ∷ []) (3 ∷ 6 ∷ [])
    (minus 3 2 3 false ∷ minus 2 1 3 false ∷ plus 1 0 0 false ∷ plus 0 5 0 false ∷ plus 5 3 6 true ∷ [])
    -- S4: one round more
    ∷ stops 1 (3 ∷ 0 ∷ 3 ∷ []) (3 ∷ 6 ∷ 9 ∷ [])
    (minus 4 3 3 false ∷ minus 3 2 3 false ∷ minus 2 1 3 false ∷ plus 1 0 0 false ∷ plus 0 6 0 false ∷ plus 6 4 6 false ∷ [])
    -- S5: a round at 1, x was reset at 0, y at 1
    ∷ stops 1 (1 ∷ 0 ∷ 1 ∷ []) (1 ∷ [])
    (minus 2 1 0 true ∷ plus 1 0 0 false ∷ plus 0 4 0 false ∷ plus 4 2 0 false ∷ [])
    -- S6: no round
    ∷ stops 1 [] [] (plus 2 1 0 true ∷ plus 1 0 0 false ∷ plus 0 2 0 false ∷ [])
    -- S7: no round
    ∷ stops 1 [] [] (plus 2 1 0 false ∷ minus 1 2 0 true ∷ [])
    -- S8: in k + 1 parts round r is at time r + 1, x was reset at r, and y at 0
    ∷ repeated 1 1 (line 0 1 0 ∷ line 0 1 0 ∷ line 0 0 0 ∷ []) (line 1 1 0 ∷ [])
    -- S9: all at time 2, and x was reset at 0
    ∷ repeated 1 0 (line 2 0 0 ∷ line 0 0 0 ∷ []) (line 2 0 0 ∷ [])
    -- S10: the steps of round r are at times 3 r + 3 and 3 r + 6, x was reset at 3 r + 3, and y at 3 r
    ∷ repeated 1 0 (line 3 3 0 ∷ line 3 3 0 ∷ line 0 3 0 ∷ []) (line 3 3 0 ∷ line 6 3 0 ∷ [])
    -- S1 from log-in: the same, since x was reset at the start
    ∷ threes
    -- S2 from log-in: a round at 3, x and y were reset at 0; for 2 rounds a loop by log-in's demand from 3 to 0
    ∷ stops 1 (0 ∷ 0 ∷ 0 ∷ []) (3 ∷ [])
    (minus 2 1 3 false ∷ minus 1 3 3 false ∷ plus 3 0 0 false ∷ plus 0 4 0 false ∷ plus 4 2 5 false ∷ [])
    ∷ []

-- a sample is accepted, and its evidence tells its count
abbrev told : Sample → Evidence → Bool
told s e = tells (clocks_of s.bytes) (starts_of s.start) (cycle_of s.bytes) s.count e

shown : Sample → Evidence → Bool
shown s e = accepts s.bytes && told s e

-- so for each sample of a list
each : List Sample → List Evidence → Bool
each [] es = true
each (s ∷ ss) [] = false
each (s ∷ ss) (e ∷ es) = shown s e && each ss es

-- ---- what it says
abbrev pub Shown : Sample → Type 0
Shown s = Accepted s.bytes × Counts (clocks_of s.bytes) (starts_of s.start) (cycle_of s.bytes) s.count

shown_is : (s : Sample) (e : Evidence) → shown s e ≡ true → Shown s
unfolding shown
shown_is s e h = go (both h)
  where
    go : (accepts s.bytes ≡ true) × (told s e ≡ true) → Shown s
    go (a, t) =
        let (accepted, legal) = accepts_legal s.bytes a in
        let few : clocks_of s.bytes < 7 = omega (arith, legal.clocks_few) in (
          accepted,
          tells_counts (clocks_of s.bytes) (starts_of s.start) (cycle_of s.bytes) few
              (start_upper s.start (clocks_of s.bytes)) (legal_fair _ legal) (legal_clocks _ legal)
              s.count e t,
        )

each_is : (ss : List Sample) (es : List Evidence) → each ss es ≡ true → Every Shown ss
unfolding each
each_is [] es h = every_nil Shown
each_is (s ∷ ss) [] h = absurd (false≢true h)
each_is (s ∷ ss) (e ∷ es) h =
    let t : (shown s e ≡ true) × (each ss es ≡ true) = both h in
    (every_cons Shown s ss).1 (shown_is s e t.0, each_is ss es t.1)

-- The evidence is computed to be right,
computed : each samples evidence ≡ true
unfolding each shown samples evidence accepts tells all some below
    records_from is_free marked headed guarded cleared finished ended whole_of judge_of check_of read_of steps_in listing guards_of flagged step_of
    up_of down_of end_of zeroed copies guards_demands steps_demands any_starts zero_starts start_demands demands
    at_most same old may after walks end begins alike leads contradicts runs repeats
computed = refl

-- so all samples are accepted and have their counts.
pub counted : (s : Sample) → Memᴰ s samples → Shown s
counted = each_is samples evidence computed
