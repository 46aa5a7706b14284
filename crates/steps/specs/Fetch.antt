-- The steps of an accepted table by value, as the program fetches their parts.
use Rattle.std.specs.Prelude.{◌≡◌, refl, Bool, true, cond, List, [], ◌∷◌, length, take, drop, get_or}
use Rattle.std.proofs.Common.{sym, subst, ◌∙◌, add-one, get_or-drop, get_or-take}
use Rattle.std.proofs.Math.Path.{ap}
use Rattle.std.proofs.Math.Bool.{false}
use Prim.Native.Nat.{ℕ, zero, suc, ◌+◌, ◌*◌, ◌-◌, ◌≤◌, ◌<◌}
use native.Mathlib.Omega.{arith}
use Rattle.std.proofs.Math.Seq.{slice, slice-cons, slice_empty, drop-cons, drop-length}
use Rattle.std.proofs.lemmas.List.{drop-take}
use mathlib.Core.List.{Memᴰ}
use Rattle.table.specs.declared.Guard.{Guard}
use Rattle.table.specs.declared.Table.{Table}
use Rattle.table.specs.declared.Relation.{Relation}
use Rattle.table.specs.declared.Relation.TheVariants.{Under, AtMost, Exactly, AtLeast, Over}
use Rattle.table.specs.Step.{resets, step_at, up_of, down_of, up_most, down_most, end_of, FairGuard, Good}
use Rattle.table.specs.Steps.{member_at, step_fair}
use Rattle.runs.specs.declared.Demand.{Demand}
use Rattle.runs.specs.Demand.{plus, guard_demands, demands_at, guards_demands}
use Rattle.runs.specs.Parts.{bit}
use Rattle.constraints.specs.Pieces.{guard_demand, twice_of}
use Rattle.constraints.specs.Guards.{guard_once, guard_twice}
use Rattle.zones.specs.Codes.{ZERO, code}
use Rattle.zones.specs.Cells.{tighten_of}
use Rattle.effects.specs.Demands.{bound_of, each}
use Rattle.effects.specs.StepDemands.{reset_demands, clock_demands, Uses, Short}
use Rattle.steps.specs.Puts.{put_of, puts_of, puts_append}

-- ---- Clocks

-- The constraints of clock j, by three bounds tightened.
pub clock_put : (w : ℕ) (reset : Bool) (j from : ℕ) (l p q r : List ℕ) → from ≡ cond reset w j
    → p ≡ tighten_of 0 j ZERO l → q ≡ tighten_of from (w + j) ZERO p → r ≡ tighten_of (w + j) from ZERO q
    → r ≡ puts_of (plus 0 j 0 false ∷ reset_demands w reset j) l
unfolding puts_of put_of code
clock_put w true j from l p q r e hp hq hr = hr ∙ rw (hq, hp, e)
clock_put w false j from l p q r e hp hq hr = hr ∙ rw (hq, hp, e)

-- Clock j is reset by step i where this flag is true.
resets_at : (t : Table) (i j : ℕ) → j < 7 → resets (step_at t i) j ≡ get_or t.resets (7 * i + j) false
unfolding step_at
resets_at t i j h =
    get_or-drop (7 * i) (take (7 * i + 7) t.resets) j false
    ∙ get_or-take (7 * i + 7) t.resets (7 * i + j) false (omega arith)

module _ (w : ℕ) (t : Table) (i : ℕ) where
  -- One clock less is left.
  pub clocks_less : (j : ℕ) (l z : List ℕ) → 0 < j → j < 7
      → z ≡ puts_of (plus 0 j 0 false ∷ reset_demands w (get_or t.resets (7 * i + j) false) j) l
      → puts_of (each (j - 1) (clock_demands w (step_at t i))) z ≡ puts_of (each j (clock_demands w (step_at t i))) l
  unfolding each
  clocks_less zero l z p h e = absurd (omega arith)
  clocks_less (suc j) l z p h e =
      let k : suc j - 1 ≡ j = omega arith in
      rw (k, e, ← resets_at t i (suc j) h)
      (sym (puts_append (clock_demands w (step_at t i) (suc j)) (each j (clock_demands w (step_at t i))) l))

  -- None is left.
  pub clocks_done : (j : ℕ) (l z m : List ℕ) → ¬ (0 < j) → m ≡ tighten_of w 0 ZERO l
      → puts_of (each j (clock_demands w (step_at t i))) z ≡ puts_of (each (w - 1) (clock_demands w (step_at t i))) m
      → z ≡ puts_of (plus w 0 0 false ∷ each (w - 1) (clock_demands w (step_at t i))) l
  unfolding puts_of put_of code
  clocks_done j l z m n h e = none ∙ e ∙ rw h
    where
      none : z ≡ puts_of (each j (clock_demands w (step_at t i))) z
      none = let q : j ≡ 0 = omega arith in rw q (unfold each in refl)

-- ---- Guards

-- A demand is put in as its code.
pub put_is : (d : Demand) (l z : List ℕ) → d.down ≤ 4000
    → z ≡ tighten_of d.from d.to (ZERO + 2 * d.up - 2 * d.down - bit d.strict) l → z ≡ put_of d l
unfolding put_of code
put_is d l z h e = e ∙ ap (λ c. tighten_of d.from d.to c l) (go d.strict refl)
  where
    go : (b : Bool) → d.strict ≡ b → ZERO + 2 * d.up - 2 * d.down - bit d.strict ≡ code (bound_of d)
    go true q = rw q (omega arith)
    go false q = rw q (omega arith)

-- The first and the second demand of a guard are short.
demand_short : (r : Relation) (u d j e : ℕ) (b : Bool) → j < 21 → e < 21 → u ≤ 4000 → d ≤ 4000 → Short 21 (guard_demand r u d j e b)
demand_short Under u d j e b l m h k = omega arith
demand_short AtMost u d j e b l m h k = omega arith
demand_short Exactly u d j e true l m h k = omega arith
demand_short Exactly u d j e false l m h k = omega arith
demand_short AtLeast u d j e b l m h k = omega arith
demand_short Over u d j e b l m h k = omega arith

module _ (g : Guard) (f : FairGuard g) (w : ℕ) (on : g.clock < w) (few : w ≤ 7) (e u d : ℕ) (end : e ≤ w) (q : u ≡ up_of g) (p : d ≡ down_of g) where
  pub guard_short : (a : Demand) (b : Bool) → a ≡ guard_demand g.relation u d g.clock e b → Short 21 a
  guard_short a b h =
      subst (Short 21) (sym h)
      (demand_short g.relation u d g.clock e b (omega arith) (omega arith)
      (omega (arith, up_most g, f.small)) (omega (arith, down_most g, f.small)))

  module _ (i : e ≡ end_of g.second w (λ j. j)) where
    same : guard_demands g.relation u d g.clock e ≡ guard_demands g.relation (up_of g) (down_of g) g.clock (end_of g.second w (λ j. j))
    same = rw (q, p, i)

    pub once_put : (a : Demand) (l z : List ℕ) → a ≡ guard_demand g.relation u d g.clock e false → twice_of g.relation ≡ false
        → z ≡ put_of a l → z ≡ puts_of (guard_demands g.relation (up_of g) (down_of g) g.clock (end_of g.second w (λ j. j))) l
    unfolding puts_of
    once_put a l z h t k =
        k ∙ ap (λ x. puts_of (x ∷ []) l) h
        ∙ ap (λ ds. puts_of ds l) (sym (guard_once g.relation u d g.clock e t) ∙ same)

    pub twice_put : (a b : Demand) (l y z : List ℕ) → a ≡ guard_demand g.relation u d g.clock e false
        → b ≡ guard_demand g.relation u d g.clock e true → twice_of g.relation ≡ true → y ≡ put_of a l → z ≡ put_of b y
        → z ≡ puts_of (guard_demands g.relation (up_of g) (down_of g) g.clock (end_of g.second w (λ j. j))) l
    unfolding puts_of
    twice_put a b l y z h o t k m =
        m ∙ ap (put_of b) k ∙ ap (λ x. puts_of (x ∷ b ∷ []) l) h
        ∙ ap (λ x. puts_of (guard_demand g.relation u d g.clock e false ∷ x ∷ []) l) o
        ∙ ap (λ ds. puts_of ds l) (sym (guard_twice g.relation u d g.clock e t) ∙ same)

-- One guard less is left.
pub guards_less : (w k end : ℕ) (gs : List Guard) (d : Guard) (l z : List ℕ) → k < end → end ≤ length gs
    → z ≡ puts_of (demands_at (get_or gs k d) w (λ j. j)) l
    → puts_of (guards_demands (slice (k + 1) end gs) w (λ j. j)) z ≡ puts_of (guards_demands (slice k end gs) w (λ j. j)) l
unfolding guards_demands
guards_less w k end gs d l z h b e =
    rw (add-one, slice-cons k end gs d h b, e)
    (sym (puts_append (demands_at (get_or gs k d) w (λ j. j)) _ l))

-- None is left.
pub guards_done : (w k end : ℕ) (gs : List Guard) (l : List ℕ) → ¬ (k < end) → k ≤ end
    → l ≡ puts_of (guards_demands (slice k end gs) w (λ j. j)) l
guards_done w k end gs l n h =
    let e : k ≡ end = omega arith in rw (e, slice_empty end gs) (unfold guards_demands puts_of in refl)

-- ---- Guards in turn, as a loop takes them

-- The guards of step i, as they are taken from the table,
pub guards_taken : (t : Table) (i : ℕ) → get_or t.ends i 0 ≤ get_or t.ends (i + 1) 0
    → take (get_or t.ends (i + 1) 0 - get_or t.ends i 0) (drop (get_or t.ends i 0) t.guards) ≡ (step_at t i).guards
unfolding step_at
guards_taken t i h =
    let a = get_or t.ends i 0 in
    let e : a + (get_or t.ends (i + 1) 0 - a) ≡ get_or t.ends (i + 1) 0 = omega arith in
    sym (drop-take a (get_or t.ends (i + 1) 0 - a) t.guards) ∙ ap (λ n. drop a (take n t.guards)) e

-- each of which is fair and on clocks of the table.
pub guards_given : (t : Table) (i w : ℕ) → Good t → i < t.steps → Uses w (step_at t i)
    → (gs : List Guard) → gs ≡ (step_at t i).guards → (k : ℕ) (d : Guard) → k < length gs
    → FairGuard (get_or gs k d) × ((get_or gs k d).clock < w) × ((get_or gs k d).second < w)
guards_given t i w good h u gs e k d l =
    let m = subst (Memᴰ (get_or gs k d)) e (member_at gs k d l) in
    ((step_fair t good i h).guards _ m, (u.guards _ m).0, (u.guards _ m).1)

-- One guard less is left.
pub guards_next : (w k : ℕ) (gs : List Guard) (d : Guard) (l z : List ℕ) → k < length gs
    → z ≡ puts_of (demands_at (get_or gs k d) w (λ j. j)) l
    → puts_of (guards_demands (drop (k + 1) gs) w (λ j. j)) z ≡ puts_of (guards_demands (drop k gs) w (λ j. j)) l
unfolding guards_demands
guards_next w k gs d l z h e =
    rw (add-one, drop-cons gs k d h, e) (sym (puts_append (demands_at (get_or gs k d) w (λ j. j)) _ l))

-- None is left.
pub guards_all : (w k : ℕ) (gs : List Guard) (l m : List ℕ) → k ≡ length gs
    → puts_of (guards_demands (drop k gs) w (λ j. j)) l ≡ puts_of (guards_demands gs w (λ j. j)) m
    → l ≡ puts_of (guards_demands gs w (λ j. j)) m
guards_all w k gs l m e h = none ∙ h
  where
    none : l ≡ puts_of (guards_demands (drop k gs) w (λ j. j)) l
    none = rw (e, drop-length gs) (unfold guards_demands puts_of in refl)
