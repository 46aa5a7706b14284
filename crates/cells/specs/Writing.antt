-- Demands written to a row, one list after the other.
use mathlib.Core.List.Memᴰ
use Rattle.std.specs.Prelude.{◌≡◌, refl, List, [], ◌∷◌, ◌++◌, ℕ, suc, ◌+◌, ◌*◌, ◌≤◌, ℤ, length, drop}
use Rattle.std.proofs.Common.{sym, ◌∙◌, ap, arith, length-append}
use Rattle.std.proofs.lemmas.List.Edits.{sets, sets-eq}
use Rattle.std.proofs.Math.Seq.{length-sets}
use Rattle.runs.specs.declared.Demand.{Demand}
use Rattle.runs.specs.Tools.{Every, every_append}
use Rattle.cells.specs.Lines.{cells_of, cells, over, Small}

-- a row has room for demands from place q on, and these are small
pub record Fits (row : List ℤ) (q : ℕ) (ds : List Demand) : Type 0 where
  pub room : q + 4 * length ds ≤ length row
  pub small : Every Small ds

-- they are written, and p is the place after them
pub record Wrote (old : List ℤ) (q : ℕ) (ds : List Demand) (row : List ℤ) (p : ℕ) : Type 0 where
  pub stands : row ≡ sets old q (cells ds)
  pub place : p ≡ q + 4 * length ds

-- while ds are written from place q of the row `old` on: es are left, and are to be written from place p of `row` on
pub record Left (old : List ℤ) (q : ℕ) (ds : List Demand) (row : List ℤ) (p : ℕ) (es : List Demand) : Type 0 where
  pub fits : Fits row p es
  pub long : length row ≡ length old
  pub due : sets row p (cells es) ≡ sets old q (cells ds)
  pub place : p + 4 * length es ≡ q + 4 * length ds

-- ---- cells
pub length_cells : (ds : List Demand) → length (cells ds) ≡ 4 * length ds
unfolding cells
length_cells [] = refl
length_cells (d ∷ ds) = omega (arith, length-append (cells_of d) (cells ds), length_cells ds)

-- a list after another
sets_append : (ds es : List Demand) (row : List ℤ) (q : ℕ)
    → sets row q (cells (ds ++ es)) ≡ sets (sets row q (cells ds)) (q + 4 * length ds) (cells es)
unfolding cells
sets_append [] es row q = let e : q ≡ q + 4 * 0 = omega arith in ap (λ p. sets row p (cells es)) e
sets_append (d ∷ ds) es row q =
    let e : suc (suc (suc (suc q))) + 4 * length ds ≡ q + 4 * suc (length ds) = omega arith in
    sets_append ds es (sets row q (cells_of d)) (suc (suc (suc (suc q))))
    ∙ ap (λ p. sets (sets row q (cells (d ∷ ds))) p (cells es)) e

-- from place 0 on
pub sets_over : (ds : List Demand) (row : List ℤ) → 4 * length ds ≤ length row
    → sets row 0 (cells ds) ≡ over (cells ds) row
sets_over ds row h =
    let e : 0 + length (cells ds) ≡ length (cells ds) = omega arith in
    sets-eq (cells ds) row 0 (omega (arith, length_cells ds)) ∙ ap (λ n. cells ds ++ drop n row) e

-- ---- none, and one demand
pub wrote_none : {row : List ℤ} {q : ℕ} → Wrote row q [] row q
unfolding cells
wrote_none = record { stands = refl; place = omega arith }

pub wrote_one : {old row : List ℤ} {q p : ℕ} {d : Demand} → row ≡ sets old q (cells_of d) → p ≡ q + 4
    → Wrote old q (d ∷ []) row p
unfolding cells
wrote_one e f = record { stands = e; place = omega arith }

pub wrote_long : {old row : List ℤ} {q p : ℕ} {ds : List Demand} → Wrote old q ds row p → length row ≡ length old
wrote_long {old} {row} {q} {p} {ds} w = ap length w.stands ∙ length-sets old q (cells ds)

pub fits_small : {row : List ℤ} {q : ℕ} {d : Demand} → Fits row q (d ∷ []) → Small d
fits_small {d = d} f = f.small d (Memᴰ.head refl)

-- the same demands, by another name
pub fits_as : {row : List ℤ} {q : ℕ} {ds es : List Demand} → ds ≡ es → Fits row q es → Fits row q ds
fits_as h f = rw h f

pub wrote_as : {old row : List ℤ} {q p : ℕ} {ds es : List Demand} → ds ≡ es → Wrote old q ds row p → Wrote old q es row p
wrote_as h w = rw (← h) w

-- ---- at first all are left, in the end none
pub left_all : {old : List ℤ} {q : ℕ} {ds : List Demand} → Fits old q ds → Left old q ds old q ds
left_all f = record { fits = f; long = refl; due = refl; place = refl }

pub fits_front : {row : List ℤ} {q : ℕ} (es fs : List Demand) → Fits row q (es ++ fs) → Fits row q es
fits_front es fs f =
    record {
      room = omega (arith, f.room, length-append es fs);
      small = ((every_append Small es fs).0 f.small).0;
    }

module _ {old : List ℤ} {q : ℕ} {ds : List Demand} {row : List ℤ} {p : ℕ} where
  pub left_done : Left old q ds row p [] → Wrote old q ds row p
  unfolding cells
  left_done l = record { stands = l.due; place = omega (arith, l.place) }

  -- es are written next
  pub left_next : (es fs : List Demand) {row' : List ℤ} {p' : ℕ} → Left old q ds row p (es ++ fs)
      → Wrote row p es row' p' → Left old q ds row' p' fs
  left_next es fs {row'} {p'} l w =
      let same = wrote_long w in
      record {
        fits = record {
          room = omega (arith, l.fits.room, length-append es fs, w.place);
          small = ((every_append Small es fs).0 l.fits.small).1;
        };
        long = same ∙ l.long;
        due = (λ i. sets (w.stands i) (w.place i) (cells fs)) ∙ sym (sets_append es fs row p) ∙ l.due;
        place = omega (arith, l.place, length-append es fs, w.place);
      }

  -- what is left is another list
  pub left_as : {es fs : List Demand} → es ≡ fs → Left old q ds row p es → Left old q ds row p fs
  left_as e l = rw (← e) l
