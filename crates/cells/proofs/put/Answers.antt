-- None of the four numbers wraps, and the stores go one after the other.
use Rattle.std.proofs.Common.{◌≡◌, refl, Bool, true, false, List, ℕ, suc, ◌+◌, ℤ, pos, set, to_z, of_z, arith}
use Rattle.std.specs.Int.{w64, from_bool}
use Rattle.std.proofs.lemmas.List.Edits.{sets}
use Rattle.runs.specs.declared.Demand.{Demand}
use Rattle.runs.specs.Demand.{ticks_of}
use Rattle.cells.specs.Lines.{strict_of, cells_of}
use Rattle.cells.specs.Writing.{fits_small, wrote_one}
use Rattle.basics.specs.Signed.{small, small_fits, read_back, fits}
use Rattle.cells.proofs.put.Goals as goal

-- four stores, one after the other, are the run of stores of the demand's cells
stored : (l : List ℤ) (q : ℕ) (d : Demand) {from to bound strict : ℤ}
    → from ≡ pos d.from → to ≡ pos d.to → bound ≡ ticks_of d → strict ≡ pos (strict_of d.strict)
    → set (set (set (set l q from) (q + 1) to) (q + 2) bound) (q + 3) strict ≡ sets l q (cells_of d)
stored l q d e₀ e₁ e₂ e₃ =
    let p₁ : q + 1 ≡ suc q = omega arith in
    let p₂ : q + 2 ≡ suc (suc q) = omega arith in
    let p₃ : q + 3 ≡ suc (suc (suc q)) = omega arith in
    λ i. set (set (set (set l q (e₀ i)) (p₁ i) (e₁ i)) (p₂ i) (e₂ i)) (p₃ i) (e₃ i)

-- the flag is stored as 1 or 0
flag : (b : Bool) (x : ℤ) → x ≡ pos (from_bool b) → to_z w64 (of_z w64 x) ≡ pos (strict_of b)
flag true x e = read_back x (pos 1) e (small_fits 1 (omega arith))
flag false x e = read_back x (pos 0) e (small_fits 0 (omega arith))

pub overflow_cast-row : goal.overflow_cast-row
overflow_cast-row c = let d = fits_small c.requires in small_fits _ (omega arith)

pub overflow_cast-row-2 : goal.overflow_cast-row-2
overflow_cast-row-2 c = let d = fits_small c.requires in small_fits _ (omega arith)

pub bound_of-requires : goal.bound_of-requires
bound_of-requires c = fits_small c.requires

pub returns : goal.returns
returns c =
    let d = c.args.d in
    let h = fits_small c.requires in
    wrote_one (stored c.args.row.now c.args.q d
    (small d.from (omega arith))
    (small d.to (omega arith))
    (read_back _ _ c.bound_of.ensures (fits d.up d.down (omega (arith, h.up)) (omega (arith, h.down))))
    (flag d.strict _ c.from.ensures)) refl
