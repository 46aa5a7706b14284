-- The tests after the table, one by one.
use Rattle.std.specs.Prelude.{◌≡◌, refl, ◌⊎◌, Bool, true, false, ℕ, ◌+◌, ◌*◌, ◌≤◌, ◌<◌, leb}
use Rattle.std.proofs.Common.{sym, ◌∙◌, inl, inr, arith}
use Rattle.std.proofs.Math.Bool.{and-false}
use Rattle.std.proofs.lemmas.Bool.{false≢true}
use Rattle.std.proofs.Math.Decide.{dec_le}
use borrow.Author.Tests.{leb-true, le-leb, lt-leb}
use Rattle.table.specs.declared.Fault.{Fault}
use Rattle.table.specs.declared.Fault.TheVariants as fault
use Rattle.records.specs.Tests.{both}
use Rattle.asking.specs.declared.Admission.{Admission}
use Rattle.asking.specs.declared.Admission.TheVariants as admission
use Rattle.asking.specs.Admission.{refused_for, need, in_range, admit_of}

-- ---- the number of rounds
module _ (k L : ℕ) where
  pub range_none : k < 1 → false ≡ in_range k L
  range_none h = rw (lt-leb 1 k h)

  pub range_many : 1024 < k * L → false ≡ in_range k L
  range_many h = rw (lt-leb (k * L) 1024 h, and-false (leb 1 k))

  pub range_some : 1 ≤ k → leb (k * L) 1024 ≡ in_range k L
  range_some h = rw (le-leb 1 k h)

  pub range_true : in_range k L ≡ true → (1 ≤ k) × (k * L ≤ 1024)
  range_true e = let (a, b) = both (leb 1 k) (leb (k * L) 1024) e in (leb-true 1 k a, leb-true (k * L) 1024 b)

  pub range_false : in_range k L ≡ false → (k < 1) ⊎ (1024 < k * L)
  range_false e = go (dec_le 1 k) (dec_le (k * L) 1024)
    where
      go : Dec (1 ≤ k) → Dec (k * L ≤ 1024) → (k < 1) ⊎ (1024 < k * L)
      go (no h) d = inl (omega arith)
      go (yes h) (no l) = inr (omega arith)
      go (yes h) (yes l) = absurd (false≢true (sym e ∙ rw (le-leb 1 k h, le-leb (k * L) 1024 l)))

-- ---- the rooms
module _ (n L k times starts loop : ℕ) where
  pub admit_rounds : (k < 1) ⊎ (1024 < k * L) → admit_of n L k times starts loop ≡ refused_for fault.Rounds
  unfolding admit_of
  admit_rounds (inl h) = rw (lt-leb 1 k h)
  admit_rounds (inr h) = rw (lt-leb (k * L) 1024 h, and-false (leb 1 k))

  module _ (some : 1 ≤ k) (few : k * L ≤ 1024) where
    pub admit_times : times < k * L → admit_of n L k times starts loop ≡ refused_for fault.Times
    unfolding admit_of
    admit_times h = rw (le-leb 1 k some, le-leb (k * L) 1024 few, lt-leb (k * L) times h)

    module _ (t : k * L ≤ times) where
      pub admit_starts : starts < n → admit_of n L k times starts loop ≡ refused_for fault.Starts
      unfolding admit_of
      admit_starts h = rw (le-leb 1 k some, le-leb (k * L) 1024 few, le-leb (k * L) times t, lt-leb n starts h)

      module _ (s : n ≤ starts) where
        pub admit_loop : loop < k * L + n + 1 → admit_of n L k times starts loop ≡ refused_for fault.Loop
        unfolding admit_of
        admit_loop h =
            rw (
              le-leb 1 k some,
              le-leb (k * L) 1024 few,
              le-leb (k * L) times t,
              le-leb n starts s,
              lt-leb (k * L + n + 1) loop h,
            )

        pub admit_all : k * L + n + 1 ≤ loop → admit_of n L k times starts loop ≡ admission.Accepted
        unfolding admit_of
        admit_all h =
            rw (
              le-leb 1 k some,
              le-leb (k * L) 1024 few,
              le-leb (k * L) times t,
              le-leb n starts s,
              le-leb (k * L + n + 1) loop h,
            )

-- ---- all have held, with rooms of a, b and c places
pub record Held (n L k a b c : ℕ) : Type 0 where
  pub some : 1 ≤ k
  pub few : k * L ≤ 1024
  pub times : k * L ≤ a
  pub starts : n ≤ b
  pub loop : k * L + n + 1 ≤ c

need_held : (b : Bool) (f : Fault) (rest : Admission) → need b f rest ≡ admission.Accepted
    → (b ≡ true) × (rest ≡ admission.Accepted)
need_held true f rest e = (refl, e)
need_held false f rest e = let z : ◌≡◌ {A = ℕ} 0 1 = cc in absurd (omega arith)

pub admit_held : (n L k times starts loop : ℕ) → admit_of n L k times starts loop ≡ admission.Accepted
    → Held n L k times starts loop
unfolding admit_of
admit_held n L k times starts loop e =
    let first = need_held _ _ _ e in
    let second = need_held _ _ _ first.1 in
    let third = need_held _ _ _ second.1 in
    let fourth = need_held _ _ _ third.1 in
    record {
      some = (range_true k L first.0).0;
      few = (range_true k L first.0).1;
      times = leb-true _ _ second.0;
      starts = leb-true _ _ third.0;
      loop = leb-true _ _ fourth.0;
    }
