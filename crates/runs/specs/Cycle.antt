-- A cycle of demands that is negative in parts is a loop.
use Rattle.std.specs.Prelude.{◌≡◌, refl, ◌⊎◌, ◌≢◌, false, List, [], ◌∷◌, ℕ, zero, suc, ◌+◌, ◌≤◌, ◌<◌, length, get_or}
use Rattle.std.proofs.Common.{ap, sym, ◌∙◌, ⊎_elim, inl, inr, arith}
use Rattle.runs.specs.declared.Demand.{Demand}
use Rattle.runs.specs.Loop.{Link, Tightest, Along, last, then, total, Loop}
use Rattle.basics.specs.Numbers.{sum, sum_first}
use Rattle.basics.specs.Distinct.{Distinct}
use Rattle.runs.specs.Tools.{Every, every_nil, every_cons}
use Rattle.runs.specs.Parts.{bit, gain, loss, stricts, stricts_few, parts_negative, tight_parts}
use Rattle.runs.specs.Tighten.{tightest}

-- ---- distinct moments, one after the other
pub distinct_nil : Distinct []
distinct_nil i j l b = absurd (omega arith)

place_every : (Q : ℕ → Type 0) (ms : List ℕ) → Every Q ms → (i : ℕ) → i < length ms → Q (get_or ms i 0)
place_every Q [] h i b = absurd (omega arith)
place_every Q (a ∷ ms) h zero b = ((every_cons Q a ms).0 h).0
place_every Q (a ∷ ms) h (suc i) b = place_every Q ms ((every_cons Q a ms).0 h).1 i (omega arith)

-- a moment that is none of the others before distinct moments
pub distinct_cons : (a : ℕ) (ms : List ℕ) → Every (λ b. a ≢ b) ms → Distinct ms → Distinct (a ∷ ms)
distinct_cons a ms f h i zero l b = absurd (omega arith)
distinct_cons a ms f h zero (suc j) l b = place_every (λ b. a ≢ b) ms f j (omega arith)
distinct_cons a ms f h (suc i) (suc j) l b = h i j (omega arith) (omega arith)

-- ---- the tightest demands sum to no more
along_length : (Edge : ℕ → ℕ → Demand → Type 0) {ms : List ℕ} {z : ℕ} {es : List Demand}
    → Along Edge ms z es → length es ≡ length ms
along_length Edge (last t) = refl
along_length Edge (then t r) = ap suc (along_length Edge r)

-- the tightest demands along the same moments, which gain no less
record Tightened (P : ℕ) (ds : List Demand) (ms : List ℕ) (z : ℕ) (es : List Demand) : Type 0 where
  used : List Demand
  along : Along (Tightest ds) ms z used
  less : total (gain P) es + total (loss P) used ≤ total (gain P) used + total (loss P) es

tighten : (P : ℕ) (ds : List Demand) {ms : List ℕ} {z : ℕ} {es : List Demand} → 0 < P
    → Along (Link ds) ms z es → Tightened P ds ms z es
tighten P ds p (last {a = a} {z = z} {e = e} l) =
    let t = tightest a z ds e l in
    record { used = t.0 ∷ []; along = last t.1; less = omega (arith, tight_parts P t.0 e p (t.1.least e l)) }
tighten P ds p (then {a = a} {b = b} {e = e} l r) =
    let t = tightest a b ds e l in
    let k = tighten P ds p r in
    record {
      used = t.0 ∷ k.used;
      along = then t.1 k.along;
      less = omega (arith, tight_parts P t.0 e p (t.1.least e l), k.less);
    }

-- P parts to a tick are enough for cycles of N moments: as many as these have strict demands at most; or no demand is strict.
abbrev pub Enough : ℕ → ℕ → List Demand → Type 0
Enough P N ds = (0 < P) × ((N ≤ P) ⊎ Every (λ d. d.strict ≡ false) ds)

pub enough_fewer : (P N m : ℕ) (ds : List Demand) → m ≤ N → Enough P N ds → Enough P m ds
enough_fewer P N m ds l (p, inl few) = (p, inl (omega arith))
enough_fewer P N m ds l (p, inr weak) = (p, inr weak)

stricts_none : (es : List Demand) → Every (λ d. d.strict ≡ false) es → stricts es ≡ 0
stricts_none [] h = refl
stricts_none (e ∷ es) h =
    let k = (every_cons (λ d. d.strict ≡ false) e es).0 h in
    let b : bit e.strict ≡ 0 = rw k.0 in
    omega (arith, b, stricts_none es k.1)

along_among : (ds : List Demand) {ms : List ℕ} {z : ℕ} {es : List Demand} → Along (Tightest ds) ms z es
    → (G : Demand → Type 0) → Every G ds → Every G es
along_among ds (last t) G h = (every_cons G _ []).1 (h _ t.link.among, every_nil G)
along_among ds (then t r) G h = (every_cons G _ _).1 (h _ t.link.among, along_among ds r G h)

-- At least one moment, all distinct, for which P parts are enough, with a demand from each to the next and from the last to the first, are a
-- loop if the sum of these demands is negative in P parts.
pub along_loop : (P : ℕ) (ds : List Demand) (ms : List ℕ) (es : List Demand) → 1 ≤ length ms → Enough P (length ms) ds
    → Distinct ms → Along (Link ds) ms (get_or ms 0 0) es → total (loss P) es < total (gain P) es → Loop ds ms
along_loop P ds ms es some few distinct links less =
    record {
      size = some;
      distinct = distinct;
      used = t.used;
      around = t.along;
      negative = parts_negative P t.used short (omega (arith, t.less));
    }
  where
    t : Tightened P ds ms (get_or ms 0 0) es
    t = tighten P ds few.0 links

    short : stricts t.used ≤ P
    short =
        ⊎_elim (λ l. omega (arith, l, stricts_few t.used, along_length (Tightest ds) t.along))
        (λ h. omega (arith, stricts_none t.used (along_among ds t.along (λ d. d.strict ≡ false) h))) few.1

-- ---- the same for a cycle given by functions
row : ℕ → (ℕ → Demand) → List Demand
row zero e = []
row (suc n) e = e 0 ∷ row n (λ k. e (suc k))

total_row : (f : Demand → ℕ) (n : ℕ) (e : ℕ → Demand) → total f (row n e) ≡ sum (λ k. f (e k)) n
unfolding row sum
total_row f zero e = refl
total_row f (suc n) e = ap (λ m. f (e 0) + m) (total_row f n (λ k. e (suc k))) ∙ sym (sum_first (λ k. f (e k)) n)

along_row : (ds : List Demand) (ms : List ℕ) (w : ℕ → ℕ) (e : ℕ → Demand) → 0 < length ms
    → ((k : ℕ) → k < length ms → get_or ms k 0 ≡ w k)
    → ((k : ℕ) → k < length ms → Link ds (w k) (w (suc k)) (e k))
    → Along (Link ds) ms (w (length ms)) (row (length ms) e)
unfolding row
along_row ds [] w e p h l = absurd (omega arith)
along_row ds (a ∷ []) w e p h l =
    let first : Link ds a (w 1) (e 0) = rw (h 0 (omega arith)) (l 0 (omega arith)) in
    last first
along_row ds (a ∷ b ∷ ms) w e p h l =
    let first : Link ds a b (e 0) = rw (h 0 (omega arith), h 1 (omega arith)) (l 0 (omega arith)) in
    then
    first
    (along_row ds (b ∷ ms) (λ k. w (suc k)) (λ k. e (suc k)) (omega arith)
    (λ k b. h (suc k) (omega arith))
    (λ k b. l (suc k) (omega arith)))

-- The moments ms, at least one, for which P parts are enough, are w 0, w 1, .. and distinct; after the last comes w 0 again; e k is a
-- demand from w k to the next, and in P parts these demands gain more than they lose: then ms is a loop.
pub cycle_loop : (P : ℕ) (ds : List Demand) (ms : List ℕ) (w : ℕ → ℕ) (e : ℕ → Demand)
    → 1 ≤ length ms → Enough P (length ms) ds
    → ((k : ℕ) → k < length ms → get_or ms k 0 ≡ w k)
    → ((i j : ℕ) → i < j → j < length ms → w i ≢ w j)
    → w (length ms) ≡ w 0
    → ((k : ℕ) → k < length ms → Link ds (w k) (w (suc k)) (e k))
    → sum (λ k. loss P (e k)) (length ms) < sum (λ k. gain P (e k)) (length ms)
    → Loop ds ms
cycle_loop P ds ms w e some few at distinct closed links less =
    along_loop P ds ms (row (length ms) e) some few
    (λ i j l b q. distinct i j l b (sym (at i (omega arith)) ∙ q ∙ at j b))
    (rw (at 0 (omega arith), ← closed) (along_row ds ms w e (omega arith) at links))
    (omega (arith, total_row (loss P) (length ms) e, total_row (gain P) (length ms) e))
