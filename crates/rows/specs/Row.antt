-- A running record as a row of eight numbers.
use Rattle.std.specs.Prelude.{◌≡◌, refl, Bool, true, false, cond, List, [], ◌∷◌, ◌++◌, ℕ, ◌+◌, ◌≤◌, ◌<◌, leb, length, get_or, take, drop, set}
use borrow.Rule.Slice.PartMut.{put_mid}
use Rattle.std.proofs.lemmas.List.{append_assoc, set_at}
use Rattle.std.proofs.Common.{sym, ap, ◌∙◌, arith, le-leb, drop-cons, length-take, length-drop, get_or-take, get_or-drop}
use Rattle.std.proofs.lemmas.List.Edits.{sets-eq}
use Rattle.std.proofs.lemmas.Bool.{lt-leb}
use Rattle.basics.specs.Tab.{tab, is_tab}
use Rattle.scans.specs.declared.Running.{Running}

-- whether a row has the eight places of a record
abbrev pub holds_record : List ℕ → Bool
holds_record row = leb 8 (length row)

-- the next step, the readings of clocks 1 to 6, and the last counter
abbrev pub record_in : List ℕ → Running
record_in row = record { step = get_or row 0 0; readings = tab (λ i. get_or row (i + 1) 0) 6; counter = get_or row 7 0 }

abbrev pub numbers_of : Running → List ℕ
numbers_of r = r.step ∷ r.readings ++ (r.counter ∷ [])

-- the row with a record in its first places, the rest as it was; or all of it as it was, where it is short
unfoldable pub with_record : List ℕ → Running → List ℕ
with_record row r = cond (holds_record row) (numbers_of r ++ drop 8 row) row

-- ---- laws
pub row_short : (row : List ℕ) → length row < 8 → false ≡ holds_record row
row_short row h = sym (lt-leb 8 (length row) h)

pub row_long : (row : List ℕ) → 8 ≤ length row → true ≡ holds_record row
row_long row h = sym (le-leb 8 (length row) h)

pub row_kept : (row : List ℕ) (r : Running) → length row < 8 → row ≡ with_record row r
unfolding with_record
row_kept row r h = ap (λ b. cond b (numbers_of r ++ drop 8 row) row) (row_short row h)

-- six numbers, one by one
six : (l : List ℕ) → length l ≡ 6 → get_or l 0 0 ∷ get_or l 1 0 ∷ get_or l 2 0 ∷ get_or l 3 0 ∷ get_or l 4 0 ∷ get_or l 5 0 ∷ [] ≡ l
unfolding tab
six l h = sym (is_tab 6 (λ i. get_or l i 0) l h (λ k b. refl))

-- eight stores put a record in
pub record_put : (row : List ℕ) (r : Running) → 8 ≤ length row → length r.readings ≡ 6
    → set (set (set (set (set (set (set (set row 0 r.step)
    1 (get_or r.readings 0 0)) 2 (get_or r.readings 1 0)) 3 (get_or r.readings 2 0)) 4 (get_or r.readings 3 0))
    5 (get_or r.readings 4 0)) 6 (get_or r.readings 5 0)) 7 r.counter
    ≡ with_record row r
unfolding with_record
record_put row r h size =
    sets-eq (r.step ∷ get_or q 0 0 ∷ get_or q 1 0 ∷ get_or q 2 0 ∷ get_or q 3 0 ∷ get_or q 4 0 ∷ get_or q 5 0 ∷ r.counter ∷ []) row 0 (omega arith)
    ∙ ap (λ l. (r.step ∷ l ++ (r.counter ∷ [])) ++ drop 8 row) (six q size)
    ∙ ap (λ b. cond b (numbers_of r ++ drop 8 row) row) (row_long row h)
  where
    q : List ℕ
    q = r.readings

-- a part of a row read as six numbers
pub readings_in : (row : List ℕ) → 8 ≤ length row → take 6 (drop 1 row) ≡ tab (λ i. get_or row (i + 1) 0) 6
readings_in row h =
    is_tab 6 _ _ (omega (arith, length-take 6 (drop 1 row), length-drop 1 row))
    (λ i b. let e : 1 + i ≡ i + 1 = omega arith in get_or-take 6 (drop 1 row) i 0 b ∙ get_or-drop 1 row i 0 ∙ ap (λ k. get_or row k 0) e)

-- a store, a part overwritten, and a store put a record in
pub record_over : (row : List ℕ) (r : Running) → 8 ≤ length row → length r.readings ≡ 6
    → set (put_mid 1 6 (set row 0 r.step) r.readings) 7 r.counter ≡ with_record row r
unfolding with_record
record_over [] r h size = absurd (omega arith)
record_over (a ∷ row) r h size =
    ap (λ l. r.step ∷ set (r.readings ++ l) 6 r.counter) (drop-cons row 6 0 (omega arith))
    ∙ ap (λ l. r.step ∷ l) (set_at r.readings (get_or row 6 0) (drop 7 row) r.counter 6 size ∙ sym (append_assoc r.readings (r.counter ∷ []) (drop 7 row)))
    ∙ ap (λ b. cond b (numbers_of r ++ drop 8 (a ∷ row)) (a ∷ row)) (row_long (a ∷ row) h)
