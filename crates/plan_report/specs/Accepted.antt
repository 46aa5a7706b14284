-- What is known of a table that is accepted.
use Rattle.std.specs.Prelude.{◌≡◌, refl, List, ℕ, ◌*◌, ◌≤◌, length}
use Rattle.std.proofs.Common.{sym, ◌∙◌, ap, arith}
use Rattle.std.proofs.lemmas.List.{length-map}
use Rattle.table.specs.declared.Read.TheVariants as read
use Rattle.wire.specs.Reading.{read_of}
use Rattle.wire.specs.Listing.{step_of, listing}
use Rattle.wire.specs.Records.{Bytes}
use Rattle.format.proofs.Accepted.{Counted, accepted_counted}
use Rattle.format.specs.Fair.{legal_clocks, legal_fair}
use Rattle.asking.specs.Rounds.{clocks_of, cycle_of, rounds_in}
use Rattle.runs.specs.declared.Start.TheVariants.{LogIn}
use Rattle.runs.specs.Demand.{starts_of, Exists}
use Rattle.runs.specs.Copies.{length_copies, fairs_copies, clocks_copies}
use Rattle.plan.specs.Asked.{Asked, asked_start}
use Rattle.plan.specs.Answer.{Rooms, admit_rooms, asking_of}

-- The bytes write down a table with n clocks and L steps.
pub record Tabled (bytes : List ℕ) (n L : ℕ) : Type 0 where
  pub clocks_few : n ≤ 6
  pub steps_some : 1 ≤ L
  pub steps_few : L ≤ 16
  pub clocks : clocks_of bytes ≡ n
  pub size : (k : ℕ) → length (rounds_in bytes k) ≡ k * L
  pub asked : (k : ℕ) → Asked n (rounds_in bytes k) (starts_of LogIn)
  pub admits : (k : ℕ) (r : Rooms) → asking_of bytes k r ≡ admit_rooms n L k r

-- Accepted bytes do so.
pub tabled : (bytes : List ℕ) → Bytes bytes → (n L g : ℕ) → read_of bytes ≡ read.Counted n L g → Tabled bytes n L
unfolding asking_of
tabled bytes small n L g e =
    record {
      clocks_few = omega (arith, w.clocks, w.legal.clocks_few);
      steps_some = omega (arith, w.steps, w.legal.steps_some);
      steps_few = omega (arith, w.steps, w.legal.steps_few);
      clocks = sym w.clocks;
      size = λ k.
          length_copies (cycle_of bytes) k
          ∙ ap (λ (m : ℕ). k * m) (length-map (listing bytes).steps step_of ∙ sym w.steps);
      asked = λ k.
          asked_start LogIn n (rounds_in bytes k) (omega (arith, w.clocks, w.legal.clocks_few))
          (fairs_copies (cycle_of bytes) k (legal_fair (listing bytes) w.legal))
          (rw w.clocks
          (clocks_copies (clocks_of bytes) (cycle_of bytes) k (legal_clocks (listing bytes) w.legal)));
      admits = λ k r. rw (asking_of, e) refl;
    }
  where
    w : Counted (listing bytes) n L g
    w = accepted_counted bytes small n L g e

-- one or two rounds of it, of which a run from log-in exists
pub record Plannable (bytes : List ℕ) (n L k : ℕ) : Type 0 where
  pub table : Tabled bytes n L
  pub some : 1 ≤ k
  pub few : k ≤ 2
  pub exists : Exists n (starts_of LogIn) (rounds_in bytes k)
