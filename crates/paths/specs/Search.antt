-- The search for a cycle of parents: what it asks and gives, and the marks that it borrows.
use Rattle.std.specs.Prelude.{◌≡◌, refl, List, ◌++◌, ℕ, ◌≤◌, ◌<◌, length, set, drop}
use Rattle.std.proofs.Common.{ap, ◌∙◌, arith, length-set, drop-set-lt}
use Rattle.std.proofs.Math.Decide.{dec_lt}
use Rattle.basics.specs.Tab.{tab}
use Rattle.basics.specs.Places.{at, written, filled, length_written, at_written, drop_written}
use Rattle.paths.specs.Cycle.{Links, OnCycle}

-- What a search asks: parents of stamped vertices below n are below n, and there is a mark for each vertex.
pub record Searchable (n : ℕ) (p st marks : List ℕ) : Type 0 where
  pub links : Links n p st
  pub room : n ≤ length marks

-- An answer r below n is a vertex on a cycle of parents, and the answer n says that there is no such cycle.
pub record Vertex (n : ℕ) (p st : List ℕ) (r : ℕ) : Type 0 where
  pub within : r ≤ n
  pub cycle : r < n → OnCycle n p st r
  pub none : r ≡ n → (u : ℕ) → ¬ OnCycle n p st u

-- Where there is a cycle, one is found.
pub found_some : (n : ℕ) (p st : List ℕ) (r u : ℕ) → Vertex n p st r → OnCycle n p st u → r < n
found_some n p st r u f o = go (dec_lt r n)
  where
    go : Dec (r < n) → r < n
    go (yes h) = h
    go (no h) = absurd (f.none (omega (arith, f.within)) u o)

-- What a search gives: its answer, and marks of which the first n are 0 and the rest is kept.
pub record Search (n : ℕ) (p st marks marks' : List ℕ) (r : ℕ) : Type 0 where
  pub found : Vertex n p st r
  pub cleared : marks' ≡ filled 0 n marks

-- ---- marks: only the first n places change
pub record Marked (n : ℕ) (marks marks' : List ℕ) : Type 0 where
  pub size : length marks' ≡ length marks
  pub rest : drop n marks' ≡ drop n marks

pub marked_none : (n : ℕ) (l : List ℕ) → Marked n l l
marked_none n l = record { size = refl; rest = refl }

pub marked_set : (n : ℕ) (l l' : List ℕ) (x v : ℕ) → x < n → Marked n l l' → Marked n l (set l' x v)
marked_set n l l' x v h m =
    record { size = length-set l' x v ∙ m.size; rest = drop-set-lt n l' x v h ∙ m.rest }

pub marked_trans : (n : ℕ) (l l' l'' : List ℕ) → Marked n l l' → Marked n l' l'' → Marked n l l''
marked_trans n l l' l'' a b = record { size = b.size ∙ a.size; rest = b.rest ∙ a.rest }

-- Filled before and after, the marks hold nothing of what was marked.
pub marked_fill : (n v : ℕ) (l a b r : List ℕ) → a ≡ filled v n l → Marked n a b → r ≡ filled v n b → r ≡ filled v n l
unfolding written
marked_fill n v l a b r e m f =
    f ∙ ap (λ (x : List ℕ). tab (λ k. v) n ++ x) (m.rest ∙ ap (drop n) e ∙ drop_written (λ k. v) n l)

-- ---- the inner loops
-- What the walks from all vertices ask: no vertex is marked.
pub record Unmarked (n : ℕ) (p st marks : List ℕ) : Type 0 where
  pub searchable : Searchable n p st marks
  pub clear : (y : ℕ) → y < n → at marks y ≡ 0

-- That is so after a fill with 0.
pub unmarked : (n : ℕ) (p st l l' : List ℕ) → Searchable n p st l → l' ≡ filled 0 n l → Unmarked n p st l'
unmarked n p st l l' s e = record {
  searchable = record {
    links = s.links;
    room = omega (arith, s.room, ap length e, length_written (λ k. 0) n l s.room);
  };
  clear = λ y h. ap (λ (x : List ℕ). at x y) e ∙ at_written (λ k. 0) n l y h;
}

-- What these walks give.
pub record Met (n : ℕ) (p st marks marks' : List ℕ) (r : ℕ) : Type 0 where
  pub found : Vertex n p st r
  pub marked : Marked n marks marks'
