-- The places of a list of numbers, a list whose first places are written, and one that is kept from a place on.
use Rattle.std.specs.Prelude.{◌≡◌, refl, List, ◌++◌, ℕ, suc, ◌+◌, ◌-◌, ◌≤◌, ◌<◌, get_or, length, set, take, drop}
use Rattle.std.proofs.Common.{sym, ap, ◌∙◌, arith, length-append, length-drop, get_or-set_same, get_or-set_other, get_or-append-add, get_or-drop, take_at, drop_at, drop-cons, drop-set-lt}
use Rattle.std.proofs.Math.Decide.{ℕ_discrete}
use Rattle.std.proofs.Math.ListN.{get_or-append}
use Rattle.std.proofs.lemmas.List.{set_at}
use Rattle.std.proofs.Math.Seq.{append_snoc}
use Rattle.basics.specs.Tab.{tab, length_tab, get_d_tab}

-- What stands at place k, and 0 past the end.
abbrev pub at : List ℕ → ℕ → ℕ
at l k = get_or l k 0

-- l with f 0, .., f (n - 1) in its first n places, the rest kept.
unfoldable pub written : (ℕ → ℕ) → ℕ → List ℕ → List ℕ
written f n l = tab f n ++ drop n l

-- l with v in its first n places, the rest kept.
abbrev pub filled : ℕ → ℕ → List ℕ → List ℕ
filled v n l = written (λ k. v) n l

-- l' is as long as l, and the same from place n on.
pub record KeptFrom (n : ℕ) (l l' : List ℕ) : Type 0 where
  pub size : length l' ≡ length l
  pub rest : drop n l' ≡ drop n l

-- ---- lengths and places
pub length_written : (f : ℕ → ℕ) (n : ℕ) (l : List ℕ) → n ≤ length l → length (written f n l) ≡ length l
unfolding written
length_written f n l h =
    length-append (tab f n) (drop n l) ∙ omega (arith, length_tab f n, length-drop n l)

pub at_written : (f : ℕ → ℕ) (n : ℕ) (l : List ℕ) (k : ℕ) → k < n → at (written f n l) k ≡ f k
unfolding written
at_written f n l k h = get_or-append (tab f n) (drop n l) 0 k (omega (arith, length_tab f n)) ∙ get_d_tab f n k h

pub at_written_rest : (f : ℕ → ℕ) (n : ℕ) (l : List ℕ) (k : ℕ) → n ≤ k → at (written f n l) k ≡ at l k
unfolding written
at_written_rest f n l k h =
    ap (at (tab f n ++ drop n l)) (omega (arith, length_tab f n))
    ∙ get_or-append-add (tab f n) (drop n l) (k - n) 0
    ∙ get_or-drop n l (k - n) 0
    ∙ ap (at l) (omega arith)

pub take_written : (f : ℕ → ℕ) (n : ℕ) (l : List ℕ) → take n (written f n l) ≡ tab f n
unfolding written
take_written f n l = take_at (tab f n) (drop n l) n (length_tab f n)

pub drop_written : (f : ℕ → ℕ) (n : ℕ) (l : List ℕ) → drop n (written f n l) ≡ drop n l
unfolding written
drop_written f n l = drop_at (tab f n) (drop n l) n (length_tab f n)

-- ---- place by place
pub written_none : (f : ℕ → ℕ) (l : List ℕ) → l ≡ written f 0 l
unfolding written tab
written_none f l = refl

written_suc : (f : ℕ → ℕ) (n : ℕ) (l : List ℕ) → n < length l → set (written f n l) n (f n) ≡ written f (suc n) l
unfolding written tab
written_suc f n l h =
    ap (λ (x : List ℕ). set (tab f n ++ x) n (f n)) (drop-cons l n 0 h)
    ∙ set_at (tab f n) (at l n) (drop (suc n) l) (f n) n (length_tab f n)
    ∙ sym (append_snoc (tab f n) (f n) (drop (suc n) l))

pub written_more : (f : ℕ → ℕ) (n v : ℕ) (l r : List ℕ) → n < length l → v ≡ f n → r ≡ written f n l
    → set r n v ≡ written f (n + 1) l
written_more f n v l r h e p =
    ap (λ (x : List ℕ). set x n v) p
    ∙ ap (set (written f n l) n) e
    ∙ written_suc f n l h
    ∙ ap (λ (k : ℕ). written f k l) (omega arith)

-- What is written over is of no concern.
pub written_over : (f : ℕ → ℕ) (n i v : ℕ) (l : List ℕ) → i < n → written f n (set l i v) ≡ written f n l
unfolding written
written_over f n i v l h = ap (λ (x : List ℕ). tab f n ++ x) (drop-set-lt n l i v h)

-- One place stored keeps a bound on the first N.
pub set_under : (N top : ℕ) (l : List ℕ) (a x : ℕ) → a < length l → x ≤ top
    → ((v : ℕ) → v < N → at l v ≤ top) → (v : ℕ) → v < N → at (set l a x) v ≤ top
set_under N top l a x h b all v w = go (ℕ_discrete v a)
  where
    go : Dec (v ≡ a) → at (set l a x) v ≤ top
    go (yes p) = rw (p, get_or-set_same l a x 0) b
    go (no p) = rw (get_or-set_other l a v x 0 p) (all v w)
