use borrow.Author.Rules.{rules}
use native.Mathlib.Omega.{arith}
use mathlib.Core.Path.{◌≡◌, sym, ap, subst, ◌∙◌}
use mathlib.Core.List.{List}
use Prim.Native.Nat.{ℕ, ◌+◌}
use lib.ListN.{length, drop}
use Rattle.records.specs.declared.Tally.{Tally}
use Rattle.records.specs.declared.Verdict.{Verdict}
use Rattle.records.specs.declared.Verdict.TheVariants.{Next}
use Rattle.wire.specs.Records.{Record, Bytes, record_at, records_at}
use Rattle.records.specs.Checking.{start}
use Rattle.wire.specs.Reading.{read_of}
use Rattle.wire.specs.Listing.{content_of}
use Rattle.wire.specs.Laws.{onward, check_out, go_on, read_short}
use Rattle.scanning.specs.declared.Progress.{Progress}
use Rattle.scanning.specs.Progress.{noted, followed, progress_of}
use Rattle.scanning.specs.Follows.{further, follow_on, follow_next, follow_out}
use Rattle.scanning.specs.Safe.{Counts, Few, counts}
use Rattle.scanning.proofs.watch.Goals as goal
use Rattle.scanning.proofs.watch.Goals.{After-body_size}

pub loop-at-init : goal.loop-at-init
unfolding progress_of
loop-at-init c =
    let a = c.args in
    let short = c.requires in (
      short,
      record { clocks = omega arith; guards = omega arith },
      sym (read_short _ short),
      ap (λ p. followed a.step a.readings.now a.ticks start p (records_at a.bytes.now 0)) c.begin-p.ensures,
    )

-- a record is judged, and its kind and the size of its body are read
module _ (c : After-body_size) where
  abbrev bytes : List ℕ
  bytes = c.args.bytes.now

  abbrev step : ℕ
  step = c.args.step

  abbrev readings : List ℕ
  readings = c.args.readings.now

  abbrev ticks : ℕ
  ticks = c.args.ticks

  abbrev tally : Tally
  tally = c.loop-at.t

  abbrev progress : Progress
  progress = c.loop-at.p

  abbrev at : ℕ
  at = c.loop-at.at

  abbrev verdict : Verdict
  verdict = c.judge-verdict.result

  abbrev kind : ℕ
  kind = c.byte_in-k.result

  abbrev size : ℕ
  size = c.body_size.result

  -- its record, and those after it
  abbrev here : Record
  here = record_at at kind (drop (at + 1) bytes)

  abbrev left : List Record
  left = records_at bytes (at + 1 + size)

  -- the answer that is due, in terms of the verdict
  due : onward (length bytes) tally left verdict ≡ read_of bytes
  due =
      go_on bytes tally at kind size verdict c.loop-at-test.true c.judge-verdict.ensures
      c.byte_in-k.ensures.0 c.body_size.ensures.0 c.loop-at.invariant.2

  -- and what is to be found of the step
  found : further step readings ticks tally progress here left verdict
      ≡ progress_of step readings ticks bytes
  found =
      follow_on step readings ticks bytes tally progress at kind size verdict c.loop-at-test.true
      c.judge-verdict.ensures c.byte_in-k.ensures.0 c.body_size.ensures.0
      c.loop-at.invariant.3

  -- a record that is taken can be noted, and the tally after it is such a one too
  taken : (u : Tally) → verdict ≡ Next u → Counts bytes at kind tally × Few u
  taken u told =
      let small : Bytes bytes = λ i. search (rules, arith) in
      let inv = c.loop-at.invariant in
      let o =
      counts bytes small inv.0 tally u at inv.1 (sym c.judge-verdict.ensures ∙ told)
      in
      (subst (λ k. Counts bytes at k tally) (sym c.byte_in-k.ensures.0) o.0, o.1)

  -- and so what is to be found of the step goes on from there
  onwards : (u : Tally) (p : Progress) → verdict ≡ Next u
      → p ≡ noted step readings ticks tally progress (content_of here)
      → followed step readings ticks u p left ≡ progress_of step readings ticks bytes
  onwards u p told note =
      follow_next step readings ticks tally u progress p (progress_of step readings ticks bytes) here left verdict told note found

pub returns-in-Refused : goal.returns-in-Refused
returns-in-Refused c =
    let b = (goal.at.returns-in-Refused c).After-body_size in
    let is = sym c.in-Refused.is in (
      c.told.ensures.0 ∙ ap (onward (length (bytes b)) (tally b) (left b)) is ∙ due b,
      c.told.ensures.1 ∙ ap (further (step b) (readings b) (ticks b) (tally b) (progress b) (here b) (left b)) is ∙ found b,
    )

pub returns-in-Last : goal.returns-in-Last
returns-in-Last c =
    let b = (goal.at.returns-in-Last c).After-body_size in
    let is = sym c.in-Last.is in (
      c.told-in-Last.ensures.0 ∙ c.after_end.ensures ∙ ap (onward (length (bytes b)) (tally b) (left b)) is ∙ due b,
      c.told-in-Last.ensures.1
          ∙ ap (further (step b) (readings b) (ticks b) (tally b) (progress b) (here b) (left b)) is ∙ found b,
    )

pub note-p-requires : goal.note-p-requires
note-p-requires c = (taken (goal.at.note-p-requires c).After-body_size _ c.in-Next.is).0

pub loop-at-preserved : goal.loop-at-preserved
loop-at-preserved c =
    let b = (goal.at.loop-at-preserved c).After-body_size in
    let told = c.in-Next.is in (
      c.loop-at.invariant.0,
      (taken b _ told).1,
      ap (onward (length (bytes b)) (tally b) (left b)) (sym told) ∙ due b,
      onwards b _ _ told c.note-p.ensures,
    )

pub returns : goal.returns
returns c =
    let l = c.loop-at in
    let s = c.args in (
      c.told-2.ensures.0 ∙ sym (check_out s.bytes.now l.t l.at _ c.loop-at-test.false) ∙ l.invariant.2,
      c.told-2.ensures.1 ∙ sym (follow_out s.step s.readings.now s.ticks s.bytes.now l.t l.p l.at c.loop-at-test.false) ∙ l.invariant.3,
    )
