-- An effect with w vertices for each of two configurations, in a row of codes from index `at` on, laid over the cells of a
-- matrix: its first w vertices come to lo .. lo + w - 1, the others to hi .. hi + w - 1.
use Rattle.std.specs.Prelude.{◌≡◌, refl, ◌⊎◌, List, ℕ, ◌+◌, ◌*◌, ◌-◌, ◌≤◌, ◌<◌, length, get_or}
use Rattle.std.proofs.Common.{inl, inr, ⊎_elim, arith}
use Rattle.zones.specs.Matrix.{Matrix}
use Rattle.zones.specs.Codes.{bound}
use Rattle.zones.specs.Cells.{cell}
use Rattle.gluing.specs.Blocks.{block_of, block_length, block_low, block_at, block_cases}

-- The code from vertex u to vertex v of the effect.
abbrev pub code : List ℕ → ℕ → ℕ → ℕ → ℕ
code m at u v = get_or m (at + u * 14 + v) 0

-- The matrix that it stands for.
abbrev pub effect_at : List ℕ → ℕ → Matrix
effect_at m at u v = bound (code m at u v)

-- Four blocks of w rows.
unfoldable pub lay_of : ℕ → ℕ → ℕ → ℕ → List ℕ → List ℕ → List ℕ
lay_of w at lo hi m l =
    block_of (hi * 22) (at + w * 15) m w w
    (block_of (hi * 21 + lo) (at + w * 14) m w w
    (block_of (lo * 21 + hi) (at + w) m w w (block_of (lo * 22) at m w w l)))

-- The four blocks, one after the other.
pub lay_is : (w at lo hi : ℕ) (m l p x y z : List ℕ) → p ≡ block_of (lo * 22) at m w w l
    → x ≡ block_of (lo * 21 + hi) (at + w) m w w p → y ≡ block_of (hi * 21 + lo) (at + w * 14) m w w x
    → z ≡ block_of (hi * 22) (at + w * 15) m w w y → z ≡ lay_of w at lo hi m l
unfolding lay_of
lay_is w at lo hi m l p x y z d e f g = rw (g, f, e, d) refl

-- ---- What is laid over what

-- The cell at index k lies where a block is laid, and the code at index j comes to it.
pub record Block (w to from k j : ℕ) : Type 0 where
  pub row : ℕ
  pub column : ℕ
  pub row_low : row < w
  pub column_low : column < w
  pub cell_is : k ≡ to + row * 21 + column
  pub code_is : j ≡ from + row * 14 + column

-- z is l with codes of m laid over it, where In tells which code comes to which cell.
pub record Over (m l z : List ℕ) (In : ℕ → ℕ → Type 0) : Type 1 where
  pub full : length z ≡ 441
  pub low : (k : ℕ) → get_or z k 0 ≤ get_or l k 0
  pub at : (k j : ℕ) → In k j → get_or z k 0 ≤ get_or m j 0
  pub cases : (Q : ℕ → Type 0) (k : ℕ) → Q (get_or l k 0) → ((j : ℕ) → In k j → Q (get_or m j 0)) → Q (get_or z k 0)

block_over : (w to from : ℕ) (m l : List ℕ) → length l ≡ 441 → to + w * 22 ≤ 462
    → Over m l (block_of to from m w w l) (Block w to from)
block_over w to from m l full fit = record {
  full = block_length to from w m l full fit w;
  low = block_low to from w m l full fit w (omega arith);
  at = λ k j b.
      rw (b.cell_is, b.code_is)
      (block_at to from w m l full fit w (omega arith) b.row b.column b.row_low b.column_low);
  cases = λ Q k q p. block_cases to from w m l full fit w (omega arith) Q k q
      (λ r c hr hc e. p (from + r * 14 + c)
      (record { row = r; column = c; row_low = hr; column_low = hc; cell_is = e; code_is = refl }));
}

over_then : {m l z y : List ℕ} {In On : ℕ → ℕ → Type 0} → Over m l z In → Over m z y On
    → Over m l y (λ k j. In k j ⊎ On k j)
over_then p q = record {
  full = q.full;
  low = λ k. omega (arith, p.low k, q.low k);
  at = λ k j. ⊎_elim (λ h. omega (arith, p.at k j h, q.low k)) (λ h. q.at k j h);
  cases = λ Q k b f. q.cases Q k (p.cases Q k b (λ j h. f j (inl h))) (λ j h. f j (inr h));
}

-- ---- All four blocks

-- Vertex u of the effect comes to vertex x.
abbrev pub Comes : ℕ → ℕ → ℕ → ℕ → ℕ → Type 0
Comes w lo hi u x = ((u < w) × (x ≡ lo + u)) ⊎ ((w ≤ u) × (u < w + w) × (x + w ≡ hi + u))

module _ (w at lo hi : ℕ) (m l : List ℕ) (full : length l ≡ 441) (hl : lo + w ≤ 21) (hh : hi + w ≤ 21) where
  abbrev In : ℕ → ℕ → Type 0
  In k j =
      ((Block w (lo * 22) at k j ⊎ Block w (lo * 21 + hi) (at + w) k j) ⊎ Block w (hi * 21 + lo) (at + w * 14) k j)
      ⊎ Block w (hi * 22) (at + w * 15) k j

  over : Over m l (lay_of w at lo hi m l) In
  unfolding lay_of
  over = over_then three (block_over w (hi * 22) (at + w * 15) m _ three.full (omega arith))
    where
      one : Over m l (block_of (lo * 22) at m w w l) (Block w (lo * 22) at)
      one = block_over w (lo * 22) at m l full (omega arith)

      two : Over m l (block_of (lo * 21 + hi) (at + w) m w w (block_of (lo * 22) at m w w l))
          (λ k j. Block w (lo * 22) at k j ⊎ Block w (lo * 21 + hi) (at + w) k j)
      two = over_then one (block_over w (lo * 21 + hi) (at + w) m _ one.full (omega arith))

      three : Over m l
          (block_of (hi * 21 + lo) (at + w * 14) m w w (block_of (lo * 21 + hi) (at + w) m w w (block_of (lo * 22) at m w w l)))
          (λ k j. (Block w (lo * 22) at k j ⊎ Block w (lo * 21 + hi) (at + w) k j) ⊎ Block w (hi * 21 + lo) (at + w * 14) k j)
      three = over_then two (block_over w (hi * 21 + lo) (at + w * 14) m _ two.full (omega arith))

  pub lay_length : length (lay_of w at lo hi m l) ≡ 441
  lay_length = over.full

  -- Cells only get tighter,
  pub lay_low : (k : ℕ) → get_or (lay_of w at lo hi m l) k 0 ≤ get_or l k 0
  lay_low = over.low

  -- as tight as what comes to them,
  pub lay_at : (u v x y : ℕ) → Comes w lo hi u x → Comes w lo hi v y → cell (lay_of w at lo hi m l) x y ≤ code m at u v
  lay_at u v x y p q = over.at (x * 21 + y) (at + u * 14 + v) (go p q)
    where
      put : (to from r c : ℕ) → r < w → c < w → x * 21 + y ≡ to + r * 21 + c → at + u * 14 + v ≡ from + r * 14 + c
          → Block w to from (x * 21 + y) (at + u * 14 + v)
      put to from r c hr hc e f =
          record { row = r; column = c; row_low = hr; column_low = hc; cell_is = e; code_is = f }

      go : Comes w lo hi u x → Comes w lo hi v y → In (x * 21 + y) (at + u * 14 + v)
      go (inl a) (inl b) = inl (inl (inl (put _ _ u v a.0 b.0 (omega arith) (omega arith))))
      go (inl a) (inr b) = inl (inl (inr (put _ _ u (v - w) a.0 (omega arith) (omega arith) (omega arith))))
      go (inr a) (inl b) = inl (inr (put _ _ (u - w) v (omega arith) b.0 (omega arith) (omega arith)))
      go (inr a) (inr b) = inr (put _ _ (u - w) (v - w) (omega arith) (omega arith) (omega arith) (omega arith))

  -- and are what they were or what comes to them.
  pub lay_cases : (Q : ℕ → Type 0) (x y : ℕ) → x < 21 → y < 21 → Q (cell l x y)
      → ((u v : ℕ) → Comes w lo hi u x → Comes w lo hi v y → Q (code m at u v)) → Q (cell (lay_of w at lo hi m l) x y)
  lay_cases Q x y hx hy q p =
      over.cases Q (x * 21 + y) q (λ j. ⊎_elim (⊎_elim (⊎_elim (one j) (two j)) (three j)) (four j))
    where
      hit : (j u v : ℕ) → j ≡ at + u * 14 + v → Comes w lo hi u x → Comes w lo hi v y → Q (get_or m j 0)
      hit j u v e a b = rw e (p u v a b)

      one : (j : ℕ) → Block w (lo * 22) at (x * 21 + y) j → Q (get_or m j 0)
      one j b =
          hit j b.row b.column (omega arith) (inl (omega arith, omega arith)) (inl (omega arith, omega arith))

      two : (j : ℕ) → Block w (lo * 21 + hi) (at + w) (x * 21 + y) j → Q (get_or m j 0)
      two j b =
          hit j b.row (w + b.column) (omega arith) (inl (omega arith, omega arith))
          (inr (omega arith, omega arith, omega arith))

      three : (j : ℕ) → Block w (hi * 21 + lo) (at + w * 14) (x * 21 + y) j → Q (get_or m j 0)
      three j b =
          hit j (w + b.row) b.column (omega arith) (inr (omega arith, omega arith, omega arith))
          (inl (omega arith, omega arith))

      four : (j : ℕ) → Block w (hi * 22) (at + w * 15) (x * 21 + y) j → Q (get_or m j 0)
      four j b =
          hit j (w + b.row) (w + b.column) (omega arith) (inr (omega arith, omega arith, omega arith))
          (inr (omega arith, omega arith, omega arith))
