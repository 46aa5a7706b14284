-- Checks of demands in turn: what they ask and what they give, list by list.
use Rattle.std.specs.Prelude.{◌≡◌, refl, Bool, ◌||◌, ℕ, suc, ◌+◌, ◌*◌, ◌≤◌, ◌<◌, ◌^◌, length}
use Rattle.std.proofs.Common.{sym, ap, ◌∙◌, arith, length-append}
use Rattle.std.proofs.Math.Bool.{or_assoc, or-false}
use mathlib.Core.List.Memᴰ
use mathlib.Core.List.{List, [], ◌∷◌, ◌++◌, Memᴰ, map-append}
use Rattle.runs.specs.declared.Demand.{Demand}
use Rattle.runs.specs.Tools.{Every, every_append}
use Rattle.paths.specs.Constraint.{Constraint, Fits}
use Rattle.paths.specs.State.{State, pass_of, hits_of, pass_none, hits_none, pass_append, hits_append}
use Rattle.paths.specs.Bounds.{SameSize, Room, room_kept, pass_size, Under, Gains, pass_under, Relaxable, relaxable}
use Rattle.paths.specs.Code.{Check}
use Rattle.checks.specs.InParts.{edge, edges}

-- no gain and no loss is above 4000 ticks of 1031 parts, and one part more
abbrev pub unit : ℕ
unit = 4124001

-- A demand in parts whose moments are below N, and whose gain and loss are small.
pub record Slight (N : ℕ) (d : Demand) : Type 0 where
  pub from : d.from < N
  pub to : d.to < N
  pub gain : (edge d).gain ≤ unit
  pub loss : (edge d).loss ≤ unit

-- What checks of the demands ds ask, the first with the stamp q: room for all moments, and times and a stamp so far below
-- 2^64 that no sum wraps.
pub record Checkable (ds : List Demand) (s : State) (q : ℕ) : Type 0 where
  pub moments : ℕ
  pub slight : Every (Slight moments) ds
  pub room : Room moments s
  pub top : ℕ
  pub under : Under moments top s.time
  pub low : top + length ds * unit ≤ 2 ^ 63
  pub stamp : q + length ds ≤ 2 ^ 63

-- What they give: g says whether one of them, or h before them, raised a time, and r is the stamp after them.
pub record Checked (ds : List Demand) (h : Bool) (q : ℕ) (s s' : State) (g : Bool) (r : ℕ) : Type 0 where
  pub hits : g ≡ (h || hits_of (edges ds) q s)
  pub after : s' ≡ pass_of (edges ds) q s
  pub stamp : r ≡ q + length ds

pub length_edges : (ds : List Demand) → length (edges ds) ≡ length ds
length_edges [] = refl
length_edges (d ∷ ds) = ap suc (length_edges ds)

-- ---- the edges of small demands
module _ (N : ℕ) (ds : List Demand) (h : Every (Slight N) ds) where
  pub slight_fits : Fits N (edges ds)
  slight_fits =
      record { from = λ c m. from c (Memᴰ.of_map edge ds m); to = λ c m. to c (Memᴰ.of_map edge ds m) }
    where
      from : (c : Constraint) → (d : Demand) × Memᴰ d ds × (edge d ≡ c) → c.from < N
      from c d = rw (← d.2) (h d.0 d.1).from

      to : (c : Constraint) → (d : Demand) × Memᴰ d ds × (edge d ≡ c) → c.to < N
      to c d = rw (← d.2) (h d.0 d.1).to

  pub slight_gains : Gains unit (edges ds)
  slight_gains c m = go (Memᴰ.of_map edge ds m)
    where
      go : (d : Demand) × Memᴰ d ds × (edge d ≡ c) → c.gain ≤ unit
      go d = rw (← d.2) (h d.0 d.1).gain

-- ---- no check, one check, and checks after checks
pub checked_none : (h : Bool) (q : ℕ) (s : State) → Checked [] h q s s h q
checked_none h q s =
    record {
      hits = sym (or-false h) ∙ ap (λ (b : Bool). h || b) (sym (hits_none q s));
      after = sym (pass_none q s);
      stamp = omega arith;
    }

pub checked_one : (d : Demand) (h : Bool) (q : ℕ) (s s' : State) (u g : Bool) (r : ℕ) → Check (edge d) q s s' u
    → g ≡ (h || u) → r ≡ q + 1 → Checked (d ∷ []) h q s s' g r
unfolding pass_of hits_of
checked_one d h q s s' u g r c e f =
    record {
      hits = e ∙ ap (λ (b : Bool). h || b) (c.raised ∙ sym (or-false _));
      after = c.after;
      stamp = omega arith;
    }

module _ (xs ys : List Demand) (h : Bool) (q : ℕ) (s s' : State) (g : Bool) (r : ℕ) (c : Checked xs h q s s' g r) where
  abbrev cs : List Constraint
  cs = edges xs

  next : r ≡ q + length cs
  next = c.stamp ∙ ap (λ (n : ℕ). q + n) (sym (length_edges xs))

  pub checked_append : (s'' : State) (g' : Bool) (r' : ℕ) → Checked ys g r s' s'' g' r'
      → Checked (xs ++ ys) h q s s'' g' r'
  checked_append s'' g' r' e =
      record {
        hits = hits e.hits c.hits c.after next;
        after = after e.after c.after next;
        stamp = omega (arith, e.stamp, c.stamp, length-append xs ys);
      }
    where
      hits : g' ≡ (g || hits_of (edges ys) r s') → g ≡ (h || hits_of cs q s) → s' ≡ pass_of cs q s
          → r ≡ q + length cs → g' ≡ (h || hits_of (edges (xs ++ ys)) q s)
      hits a b k n =
          rw (map-append edge xs ys, hits_append cs (edges ys) q s, ← n, ← k)
          (a ∙ ap (λ (z : Bool). z || hits_of (edges ys) r s') b ∙ or_assoc h _ _)

      after : s'' ≡ pass_of (edges ys) r s' → s' ≡ pass_of cs q s → r ≡ q + length cs
          → s'' ≡ pass_of (edges (xs ++ ys)) q s
      after a k n = rw (map-append edge xs ys, pass_append cs (edges ys) q s, ← n, ← k) a

  pub checked_size : SameSize s s'
  checked_size = rw c.after (pass_size cs q s)

  -- ---- what the checks ask, before the first of two lists and after it
  pub checkable_right : Checkable (xs ++ ys) s q → Checkable ys s' r
  checkable_right a =
      record {
        moments = a.moments;
        slight = both.1;
        room = room_kept a.moments s s' checked_size a.room;
        top = a.top + length cs * unit;
        under =
            rw c.after
            (pass_under a.moments unit cs a.top q s (slight_fits a.moments xs both.0) (slight_gains a.moments xs both.0)
            a.room a.under);
        low = omega (arith, a.low, length-append xs ys, length_edges xs);
        stamp = omega (arith, a.stamp, c.stamp, length-append xs ys);
      }
    where
      both : Every (Slight a.moments) xs × Every (Slight a.moments) ys
      both = (every_append (Slight a.moments) xs ys).0 a.slight

pub checkable_left : (xs ys : List Demand) (s : State) (q : ℕ) → Checkable (xs ++ ys) s q → Checkable xs s q
checkable_left xs ys s q a =
    record {
      moments = a.moments;
      slight = ((every_append (Slight a.moments) xs ys).0 a.slight).0;
      room = a.room;
      top = a.top;
      under = a.under;
      low = omega (arith, a.low, length-append xs ys);
      stamp = omega (arith, a.stamp, length-append xs ys);
    }

-- one check
module _ (d : Demand) (s : State) (q : ℕ) (a : Checkable (d ∷ []) s q) where
  pub one_slight : Slight a.moments d
  one_slight = a.slight d (Memᴰ.head refl)

  pub one_relaxable : Relaxable (edge d) s
  one_relaxable =
      relaxable a.moments a.top (edge d) s one_slight.from one_slight.to a.room a.under
      (omega (arith, one_slight.loss, a.low))
      (omega (arith, one_slight.gain, a.low))
