-- The guards and resets of a step, one entry after the other.
use Rattle.std.specs.Prelude.{◌≡◌, refl, Bool, not, ltb, get_or, set, replicate}
use Rattle.std.proofs.Common.{sym, ◌∙◌, length-set, get_or-set_same, get_or-set_other, ne_eqb, lt-ltb, le-ltb, le-leb}
use Rattle.std.proofs.Math.Path.{ap}
use Rattle.std.proofs.Math.Bool.{true, false, cond}
use mathlib.Core.List.{List, [], ◌∷◌, ◌++◌, Memᴰ}
use Prim.Native.Nat.{ℕ, suc, ◌+◌, ◌-◌, ◌≤◌, ◌<◌, min}
use native.Mathlib.Omega.{arith}
use Rattle.std.proofs.Math.Decide.{ℕ_discrete, dec_lt}
use Rattle.std.proofs.Math.ListN.{length}
use Rattle.std.proofs.lemmas.List.{get_or-replicate}
use Rattle.std.proofs.lemmas.Bool.{lt-leb}
use Rattle.basics.specs.Tab.{tab, length_tab, get_d_tab, is_tab}
use Rattle.table.specs.declared.Guard.{Guard}
use Rattle.table.specs.declared.Relation.{Relation}
use Rattle.table.specs.declared.Relation.TheVariants.{Under, AtMost, Exactly, AtLeast, Over}
use Rattle.records.specs.Rules.{is_free, marked}
use Rattle.records.specs.Marks.{all_free, marked_same, marked_other}
use Rattle.wire.specs.Listing.{Entry, guard, reset, guards_of, flagged, step_of}
use Rattle.format.specs.Encode.{LegalEntry}
use Rattle.ticks.specs.Ticks.{held, later_of}
use Rattle.scans.specs.Held.{aged_at}
use Rattle.scans.specs.Scan.{compares, holds, first_failing, aged, cleared}
use Rattle.scanning.specs.Progress.{meets, settled}

-- ---- a guard is tested on readings that are not held

-- no constant is above 4,000, so a reading that is held at 4,001 stands to it as before
held_alike : (rel : Relation) (c x : ℕ) → c ≤ 4000 → compares rel c x ≡ compares rel c (held x)
held_alike rel c x h = go (dec_lt x 4001)
  where
    far : (rel : Relation) → 4001 ≤ x → compares rel c x ≡ compares rel c 4001
    far Under l = le-ltb x c (omega arith) ∙ sym (le-ltb 4001 c (omega arith))
    far AtMost l = lt-leb x c (omega arith) ∙ sym (lt-leb 4001 c (omega arith))
    far Exactly l = ne_eqb x c (λ e. omega arith) ∙ sym (ne_eqb 4001 c (λ e. omega arith))
    far AtLeast l = le-leb c x (omega arith) ∙ sym (le-leb c 4001 (omega arith))
    far Over l = lt-ltb c x (omega arith) ∙ sym (lt-ltb c 4001 (omega arith))

    go : Dec (x < 4001) → compares rel c x ≡ compares rel c (held x)
    go (yes l) = let e : x ≡ min x 4001 = omega arith in ap (compares rel c) e
    go (no l) = let e : 4001 ≡ min x 4001 = omega arith in far rel (omega arith) ∙ ap (compares rel c) e

pub meets_holds : (n ticks : ℕ) (readings : List ℕ) (g : Guard) → n ≤ 6 → LegalEntry n (guard g)
    → meets readings ticks g ≡ holds g (aged n ticks readings)
unfolding meets
meets_holds n ticks readings g few legal =
    held_alike g.relation g.constant (get_or readings (g.clock - 1) 0 + ticks) legal.2
    ∙ ap (compares g.relation g.constant)
    (sym (aged_at n ticks readings (g.clock - 1) few (omega (arith, legal.0, legal.1))))

-- ---- the first guard that fails, with one guard more

pub guards_guard : (es : List Entry) (g : Guard) → guards_of (es ++ (guard g ∷ [])) ≡ guards_of es ++ (g ∷ [])
unfolding guards_of
guards_guard [] g = refl
guards_guard (guard h ∷ es) g = ap (λ gs. h ∷ gs) (guards_guard es g)
guards_guard (reset j ∷ es) g = guards_guard es g

pub guards_reset : (es : List Entry) (j : ℕ) → guards_of (es ++ (reset j ∷ [])) ≡ guards_of es
unfolding guards_of
guards_reset [] j = refl
guards_reset (guard h ∷ es) j = ap (λ gs. h ∷ gs) (guards_reset es j)
guards_reset (reset i ∷ es) j = guards_reset es j

module _ (r : List ℕ) (g : Guard) where
  -- one has failed already
  pub fails_still : (m : ℕ) (gs : List Guard) (b : ℕ) → first_failing m gs r ≡ suc b → first_failing m (gs ++ (g ∷ [])) r ≡ suc b
  unfolding first_failing
  fails_still m [] b e = absurd (omega arith)
  fails_still m (h ∷ gs) b e = go (fails_still (suc m) gs b) (holds h r) e
    where
      go : (first_failing (suc m) gs r ≡ suc b → first_failing (suc m) (gs ++ (g ∷ [])) r ≡ suc b) → (c : Bool)
          → cond c (first_failing (suc m) gs r) (suc m) ≡ suc b → cond c (first_failing (suc m) (gs ++ (g ∷ [])) r) (suc m) ≡ suc b
      go on true e = on e
      go on false e = e

  -- none has failed
  pub fails_next : (m : ℕ) (gs : List Guard) → first_failing m gs r ≡ 0
      → first_failing m (gs ++ (g ∷ [])) r ≡ cond (holds g r) 0 (suc (m + length gs))
  unfolding first_failing
  fails_next m [] e = let same : suc m ≡ suc (m + 0) = omega arith in ap (cond (holds g r) 0) same
  fails_next m (h ∷ gs) e = go (fails_next (suc m) gs) (holds h r) e
    where
      go : (first_failing (suc m) gs r ≡ 0 → first_failing (suc m) (gs ++ (g ∷ [])) r ≡ cond (holds g r) 0 (suc (suc m + length gs))) → (c : Bool)
          → cond c (first_failing (suc m) gs r) (suc m) ≡ 0
          → cond c (first_failing (suc m) (gs ++ (g ∷ [])) r) (suc m) ≡ cond (holds g r) 0 (suc (m + suc (length gs)))
      go on true e = let same : suc (suc m + length gs) ≡ suc (m + suc (length gs)) = omega arith in on e ∙ ap (cond (holds g r) 0) same
      go on false e = absurd (omega arith)

-- ---- the resets, as flags and as binary digits

-- the flags that entries leave
abbrev pub flags_of : List Entry → List Bool
flags_of es = flagged (replicate 7 false) es

-- digits 1 to 6 say which clocks have a flag
pub record Digits (flags : List Bool) (digits : ℕ) : Type 0 where
  pub size : length flags ≡ 7
  pub each : (j : ℕ) → 1 ≤ j → j < 7 → is_free digits j ≡ not (get_or flags j false)

pub digits_none : Digits (flags_of []) 0
unfolding flagged
digits_none = record { size = refl; each = λ j _ l. all_free j ∙ ap not (sym (get_or-replicate 7 j false false l)) }

-- the flags, with one entry more
flags_guard : (es : List Entry) (flags : List Bool) (g : Guard) → flagged flags (es ++ (guard g ∷ [])) ≡ flagged flags es
unfolding flagged
flags_guard [] flags g = refl
flags_guard (guard h ∷ es) flags g = flags_guard es flags g
flags_guard (reset j ∷ es) flags g = flags_guard es (set flags j true) g

flags_reset : (es : List Entry) (flags : List Bool) (j : ℕ) → flagged flags (es ++ (reset j ∷ [])) ≡ set (flagged flags es) j true
unfolding flagged
flags_reset [] flags j = refl
flags_reset (guard h ∷ es) flags j = flags_reset es flags j
flags_reset (reset i ∷ es) flags j = flags_reset es (set flags i true) j

-- digit 0 says that the step has a guard
pub digits_guard : (es : List Entry) (g : Guard) (digits : ℕ) → Digits (flags_of es) digits
    → Digits (flags_of (es ++ (guard g ∷ []))) (marked digits 0)
digits_guard es g digits d =
    rw (flags_guard es (replicate 7 false) g)
    (record {
      size = d.size;
      each = λ j low l. marked_other digits j 0 (omega arith) (omega arith) (λ e. omega arith) ∙ d.each j low l;
    })

pub digits_reset : (es : List Entry) (j digits : ℕ) → j ≤ 6 → Digits (flags_of es) digits
    → Digits (flags_of (es ++ (reset j ∷ []))) (marked digits j)
digits_reset es j digits few d =
    rw (flags_reset es (replicate 7 false) j)
    (record { size = length-set (flags_of es) j true ∙ d.size; each = λ i low l. go i low l (ℕ_discrete i j) })
  where
    go : (i : ℕ) → 1 ≤ i → i < 7 → Dec (i ≡ j) → is_free (marked digits j) i ≡ not (get_or (set (flags_of es) j true) i false)
    go i low l (yes e) =
        ap (is_free (marked digits j)) e ∙ marked_same digits j
        ∙ ap not (sym (ap (λ n. get_or (set (flags_of es) j true) n false) e ∙ get_or-set_same (flags_of es) j true false (omega (arith, d.size))))
    go i low l (no e) =
        marked_other digits i j (omega arith) (omega arith) e ∙ d.each i low l
        ∙ ap not (sym (get_or-set_other (flags_of es) j i true false e))

-- no clock past n is reset
flags_past : (n i : ℕ) (es : List Entry) (flags : List Bool) → n < i → ((e : Entry) → Memᴰ e es → LegalEntry n e)
    → get_or (flagged flags es) i false ≡ get_or flags i false
unfolding flagged
flags_past n i [] flags h legal = refl
flags_past n i (guard g ∷ es) flags h legal = flags_past n i es flags h (λ e m. legal e (Memᴰ.tail m))
flags_past n i (reset j ∷ es) flags h legal =
    flags_past n i es (set flags j true) h (λ e m. legal e (Memᴰ.tail m))
    ∙ get_or-set_other flags j i true false (λ e. omega (arith, (legal (reset j) (Memᴰ.head refl)).1))

-- The readings after an accepted scan are the aged ones with the step's resets.
pub settled_cleared : (n ticks digits : ℕ) (readings : List ℕ) (es : List Entry) → Digits (flags_of es) digits
    → ((e : Entry) → Memᴰ e es → LegalEntry n e)
    → settled n ticks digits readings ≡ cleared (step_of es) (aged n ticks readings)
unfolding settled cleared aged step_of
settled_cleared n ticks digits readings es d legal =
    is_tab 6 (λ i. cond (get_or (flags_of es) (i + 1) false) 0 (get_or (tab old 6) i 0)) _ (length_tab _ 6)
    (λ i l. get_d_tab _ 6 i l ∙ one i l (dec_lt i n) ∙ ap (cond (get_or (flags_of es) (i + 1) false) 0) (sym (get_d_tab old 6 i l)))
  where
    old : ℕ → ℕ
    old i = cond (ltb i n) (later_of (get_or readings i 0) ticks) (get_or readings i 0)

    turned : (b : Bool) (x y : ℕ) → cond (not b) x y ≡ cond b y x
    turned true x y = refl
    turned false x y = refl

    one : (i : ℕ) → i < 6 → Dec (i < n)
        → cond (ltb i n) (cond (is_free digits (i + 1)) (later_of (get_or readings i 0) ticks) 0) (get_or readings i 0)
        ≡ cond (get_or (flags_of es) (i + 1) false) 0 (old i)
    one i l (yes h) =
        rw (lt-ltb i n h)
        (ap (λ b. cond b (later_of (get_or readings i 0) ticks) 0) (d.each (i + 1) (omega arith) (omega arith))
        ∙ turned (get_or (flags_of es) (i + 1) false) (later_of (get_or readings i 0) ticks) 0)
    one i l (no h) =
        let none : get_or (flags_of es) (i + 1) false ≡ false = flags_past n (i + 1) es (replicate 7 false) (omega arith) legal ∙ get_or-replicate 7 (i + 1) false false (omega arith) in
        rw (le-ltb i n (omega arith), none)
