-- Checks of demands of a list in any order and number: what they ask, what they give, and one after the other.
use Rattle.std.specs.Prelude.{◌≡◌, Bool, ℕ, ◌+◌, ◌*◌, ◌≤◌, ◌^◌, length}
use Rattle.std.proofs.Common.{sym, arith, length-append}
use mathlib.Core.List.{List, [], ◌++◌, Memᴰ, map-append}
use Rattle.runs.specs.declared.Demand.{Demand}
use Rattle.runs.specs.Tools.{Every, every_nil, every_append}
use Rattle.paths.specs.State.{State, pass_of, pass_none, pass_append}
use Rattle.paths.specs.Bounds.{SameSize, Room, room_kept, pass_size, Under, pass_under}
use Rattle.checks.specs.InParts.{edge, edges}
use Rattle.checks.specs.Checks.{unit, Slight, Checkable, Checked, length_edges, slight_fits, slight_gains}

-- The demands ds are some of `all`, in any order and number.
abbrev pub Some : List Demand → List Demand → Type 0
Some all ds = Every (λ d. Memᴰ d all) ds

-- s' is s after checks of some demands of `all`, the first with the stamp q, and r is the stamp after them.
pub record Onto (all : List Demand) (q : ℕ) (s s' : State) (r : ℕ) : Type 0 where
  pub demands : List Demand
  pub some : Some all demands
  pub after : s' ≡ pass_of (edges demands) q s
  pub stamp : r ≡ q + length demands

-- What they ask, with N moments and the next stamp q: times that are at most 2^61 and the largest gain for each stamp.
pub record Able (N : ℕ) (all : List Demand) (s : State) (q : ℕ) : Type 0 where
  pub slight : Every (Slight N) all
  pub room : Room N s
  pub under : Under N (2 ^ 61 + q * unit) s.time

module _ (all : List Demand) (q : ℕ) (s : State) where
  -- none
  pub onto_none : Onto all q s s q
  onto_none = record { demands = []; some = every_nil _; after = sym (pass_none q s); stamp = omega arith }

  -- those of a list
  pub onto_checked : (ds : List Demand) → Some all ds → (h g : Bool) (s' : State) (r : ℕ) → Checked ds h q s s' g r → Onto all q s s' r
  onto_checked ds m h g s' r c = record { demands = ds; some = m; after = c.after; stamp = c.stamp }

  module _ (s' : State) (r : ℕ) (o : Onto all q s s' r) where
    -- one after the other
    pub onto_append : (s'' : State) (t : ℕ) → Onto all r s' s'' t → Onto all q s s'' t
    onto_append s'' t p =
        record {
          demands = o.demands ++ p.demands;
          some = (every_append _ o.demands p.demands).1 (o.some, p.some);
          after = after p.after o.after next;
          stamp = omega (arith, o.stamp, p.stamp, length-append o.demands p.demands);
        }
      where
        next : r ≡ q + length (edges o.demands)
        next = omega (arith, o.stamp, length_edges o.demands)

        after : s'' ≡ pass_of (edges p.demands) r s' → s' ≡ pass_of (edges o.demands) q s → r ≡ q + length (edges o.demands)
            → s'' ≡ pass_of (edges (o.demands ++ p.demands)) q s
        after a k n = rw (map-append edge o.demands p.demands, pass_append (edges o.demands) (edges p.demands) q s, ← n, ← k) a

    -- as some of more demands
    pub onto_wider : (more : List Demand) → Some more all → Onto more q s s' r
    onto_wider more m = record { demands = o.demands; some = λ d k. m d (o.some d k); after = o.after; stamp = o.stamp }

    pub onto_size : SameSize s s'
    onto_size = rw o.after (pass_size (edges o.demands) q s)

    -- no time rises by more than the largest gain for each of them
    pub onto_under : (N top : ℕ) → Every (Slight N) all → Room N s → Under N top s.time
        → Under N (top + length o.demands * unit) s'.time
    onto_under N top h room low v w = omega (arith, under v w, length_edges o.demands)
      where
        slight : Every (Slight N) o.demands
        slight d m = h d (o.some d m)

        under : Under N (top + length (edges o.demands) * unit) s'.time
        under =
            rw o.after
            (pass_under N unit (edges o.demands) top q s (slight_fits N o.demands slight)
            (slight_gains N o.demands slight) room low)

    -- and more can follow
    pub onto_able : (N : ℕ) → Able N all s q → Able N all s' r
    onto_able N a =
        record {
          slight = a.slight;
          room = room_kept N s s' onto_size a.room;
          under = λ v w. omega (arith, onto_under N (2 ^ 61 + q * unit) a.slight a.room a.under v w, o.stamp);
        }

  module _ (N : ℕ) (a : Able N all s q) where
    -- fewer demands ask less
    pub able_narrower : (fewer : List Demand) → Some all fewer → Able N fewer s q
    able_narrower fewer m = record { slight = λ d k. a.slight d (m d k); room = a.room; under = a.under }

    -- checks of a list can be made
    pub able_checks : q ≤ 2 ^ 38 → (ds : List Demand) → Some all ds → length ds ≤ 2 ^ 20 → Checkable ds s q
    able_checks few ds m l =
        record {
          moments = N;
          slight = λ d k. a.slight d (m d k);
          room = a.room;
          top = 2 ^ 61 + q * unit;
          under = a.under;
          low = omega (arith, few, l);
          stamp = omega (arith, few, l);
        }
