-- What is written fits, and the list holds the demands that the row holds.
use Rattle.std.specs.Prelude.{◌≡◌, refl, List, [], ◌∷◌, ◌++◌, ℕ, zero, suc, ◌+◌, ◌*◌, ◌≤◌, ◌<◌, length, get_or, set, take, drop, ℤ, pos}
use Rattle.std.proofs.Common.{sym, ◌∙◌, ap, subst, append_assoc, arith, drop-cons, take-suc, length-take-le}
use Rattle.std.proofs.lemmas.List.{length-map, set_at}
use Rattle.std.proofs.Math.Seq.{take-length}
use Rattle.runs.specs.declared.Demand.{Demand}
use Rattle.runs.specs.declared.Start.{Start}
use Rattle.asking.specs.Rounds.{demands_in}
use Rattle.cells.specs.Lines.{cells_of, cells}
use Rattle.demands.specs.declared.Listed.{Listed}
use Rattle.demands.specs.Listed.{listed_of, unless_refused, row_of}
use Rattle.demands.specs.Told.{Told, written, refused, listed_told}
use Rattle.demand_list.specs.declared.Line.{Line}
use Rattle.demand_list.specs.Lines.{line_of, lines, list_room, list_of}
use Rattle.demand_list.specs.Fill.{nat_of, count_of, line_at, filled}

-- ---- there is room for what is counted
told_fits : {count room : ℕ} {r : Listed} → Told count room r → count_of r ≤ room
told_fits (written h) = h
told_fits refused = omega arith

-- what `fill` asks for
pub fill_fits : (bytes : List ℕ) (v : Start) (k : ℕ) (row : List ℤ) (list : List Line) (r : Listed) (row' : List ℤ)
    (m : ℕ)
    → r ≡ listed_of bytes v k (list_room row list) → m ≡ count_of r → length row' ≡ length row
    → (m ≤ length list) × (m * 4 ≤ length row')
fill_fits bytes v k row list r row' m e n l =
    let h : count_of r ≤ list_room row list =
    told_fits (subst (Told _ _) (sym e) (listed_told bytes v k (list_room row list))) in
    (omega arith, omega arith)

-- ---- a row of cells holds the demands
no_line : Line
no_line = record { from = 0; to = 0; bound = pos 0; strict = 0 }

line_at_cells : (ds : List Demand) (rest : List ℤ) (n : ℕ) → n < length ds
    → line_at (cells ds ++ rest) n ≡ get_or (lines ds) n no_line
unfolding cells
line_at_cells [] rest n h = absurd (omega arith)
line_at_cells (d ∷ ds) rest zero h = refl
line_at_cells (d ∷ ds) rest (suc n) h = later ∙ line_at_cells ds rest n (omega arith)
  where
    at : (i j : ℕ) → i ≡ suc (suc (suc (suc j)))
        → get_or (cells_of d ++ (cells ds ++ rest)) i (pos 0) ≡ get_or (cells ds ++ rest) j (pos 0)
    at i j e = ap (λ m. get_or (cells_of d ++ (cells ds ++ rest)) m (pos 0)) e

    later : line_at (cells_of d ++ (cells ds ++ rest)) (suc n) ≡ line_at (cells ds ++ rest) n
    later =
        λ i. record {
          from = nat_of (at (suc n * 4) (n * 4) (omega arith) i);
          to = nat_of (at (suc n * 4 + 1) (n * 4 + 1) (omega arith) i);
          bound = at (suc n * 4 + 2) (n * 4 + 2) (omega arith) i;
          strict = nat_of (at (suc n * 4 + 3) (n * 4 + 3) (omega arith) i);
        }

-- so the list filled from it has the demands as records, and then the rest as it was
filled_cells : (ds : List Demand) (rest : List ℤ) (l : List Line) (n : ℕ) → n ≤ length ds → n ≤ length l
    → filled (cells ds ++ rest) n l ≡ take n (lines ds) ++ drop n l
unfolding filled
filled_cells ds rest l zero h k = refl
filled_cells ds rest l (suc n) h k =
    let long : length (lines ds) ≡ length ds = length-map ds line_of in
    (λ i. set (filled_cells ds rest l n (omega arith) (omega arith) i) n (line_at_cells ds rest n (omega arith) i))
    ∙ ap (λ t. set (take n (lines ds) ++ t) n (get_or (lines ds) n no_line)) (drop-cons l n no_line (omega arith))
    ∙ set_at (take n (lines ds)) (get_or l n no_line) (drop (suc n) l) (get_or (lines ds) n no_line) n
    (length-take-le n (lines ds) (omega arith))
    ∙ sym (append_assoc (take n (lines ds)) (get_or (lines ds) n no_line ∷ []) (drop (suc n) l))
    ∙ ap (λ t. t ++ drop (suc n) l) (sym (take-suc (lines ds) n no_line (omega arith)))

-- the list, where the row was written as told
told_is : (ds : List Demand) (row : List ℤ) (list : List Line) {room : ℕ} {r : Listed} → Told (length ds) room r
    → room ≤ length list → filled (unless_refused r (cells ds) row) (count_of r) list ≡ unless_refused r (lines ds) list
unfolding filled
told_is ds row list (written h) k =
    let long : length (lines ds) ≡ length ds = length-map ds line_of in
    filled_cells ds (drop (length (cells ds)) row) list (length ds) (omega arith) (omega arith)
    ∙ ap (λ n. take n (lines ds) ++ drop n list) (sym long)
    ∙ ap (λ t. t ++ drop (length (lines ds)) list) (take-length (lines ds))
told_is ds row list refused k = refl

-- what `fill` writes is what is to be written
pub list_is : (bytes : List ℕ) (v : Start) (k : ℕ) (row : List ℤ) (list : List Line) (r : Listed) (row' : List ℤ)
    (m : ℕ)
    → r ≡ listed_of bytes v k (list_room row list) → row' ≡ row_of bytes v k (list_room row list) row → m ≡ count_of r
    → filled row' m list ≡ list_of bytes v k (list_room row list) list
unfolding row_of list_of
list_is bytes v k row list r row' m e f n =
    (λ i. filled (f i) ((n ∙ ap count_of e) i) list)
    ∙ told_is (demands_in bytes v k) row list (listed_told bytes v k (list_room row list)) (omega arith)
