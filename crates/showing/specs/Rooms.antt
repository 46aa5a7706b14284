-- Laws of rows and rooms: the spans of a row are small, and the rooms are filled window by window.
use Rattle.std.specs.Prelude.{◌≡◌, refl, List, [], ◌∷◌, ◌++◌, ℕ, zero, suc, ◌+◌, ◌*◌, ◌≤◌, ◌<◌, length, get_or, drop, set, Float}
use Rattle.std.proofs.Common.{sym, ap, ◌∙◌, arith, add-one, length-append, length-drop, length-set, drop-cons}
use Rattle.std.proofs.lemmas.List.{set_at}
use Rattle.std.proofs.Math.Seq.{append_snoc}
use Rattle.basics.specs.Tab.{tab, length_tab, get_d_tab, is_tab}
use Rattle.window.specs.declared.Span.{Span}
use Rattle.window.specs.declared.Window.{Window}
use Rattle.window.specs.Window.{span_of, Small, none, mark_of, first_of, last_of, placed}
use Rattle.window.specs.Spans.{near_span}
use Rattle.showing.specs.Shown.{pairs, marked, timed, Rows}

-- The span of a first moment of the row and of any last one is small.
pub row_small : (firsts lasts : List ℕ) (P n i last : ℕ) (s : Span)
    → Rows firsts lasts P n → i < n → s ≡ span_of (get_or firsts i 0) last → Small s P
row_small firsts lasts P n i last s r h e =
    record { near = near_span (get_or firsts i 0) last s e (r.firsts_near i h); some_parts = r.some_parts; few_parts = r.few_parts }

-- ---- lengths
pub length_pairs : (w : ℕ → Window) (n : ℕ) → length (pairs w n) ≡ n * 2
unfolding pairs
length_pairs w zero = refl
length_pairs w (suc n) = length-append (pairs w n) (first_of (w n) ∷ last_of (w n) ∷ []) ∙ omega (arith, length_pairs w n)

pub length_marked : (w : ℕ → Window) (n : ℕ) (l : List ℕ) → n ≤ length l → length (marked w n l) ≡ length l
unfolding marked
length_marked w n l h =
    length-append (tab (λ i. mark_of (w i)) n) (drop n l) ∙ omega (arith, length_tab (λ i. mark_of (w i)) n, length-drop n l)

pub length_timed : (w : ℕ → Window) (n : ℕ) (l : List Float) → n * 2 ≤ length l → length (timed w n l) ≡ length l
unfolding timed
length_timed w n l h = length-append (pairs w n) (drop (n * 2) l) ∙ omega (arith, length_pairs w n, length-drop (n * 2) l)

-- ---- only the first n windows count
pub marked_same : (w v : ℕ → Window) (n : ℕ) (l : List ℕ) → ((i : ℕ) → i < n → w i ≡ v i) → marked w n l ≡ marked v n l
unfolding marked
marked_same w v n l e = ap (λ t. t ++ drop n l) (same n e)
  where
    same : (k : ℕ) → ((i : ℕ) → i < k → w i ≡ v i) → tab (λ i. mark_of (w i)) k ≡ tab (λ i. mark_of (v i)) k
    same k e =
        is_tab k (λ i. mark_of (v i)) (tab (λ i. mark_of (w i)) k) (length_tab (λ i. mark_of (w i)) k)
        (λ i h. get_d_tab (λ j. mark_of (w j)) k i h ∙ ap mark_of (e i h))

pub timed_same : (w v : ℕ → Window) (n : ℕ) (l : List Float) → ((i : ℕ) → i < n → w i ≡ v i) → timed w n l ≡ timed v n l
unfolding timed pairs
timed_same w v n l e = ap (λ t. t ++ drop (n * 2) l) (same n e)
  where
    same : (k : ℕ) → ((i : ℕ) → i < k → w i ≡ v i) → pairs w k ≡ pairs v k
    same zero e = refl
    same (suc k) e = rw (same k (λ i h. e i (omega arith)), e k (omega arith))

-- ---- one window more
-- a store to the place behind those that are written, and to the two places behind them
one_more : {A : Type 0} (d x : A) (p l : List A) (n : ℕ) → length p ≡ n → n < length l
    → set (p ++ drop n l) n x ≡ p ++ (x ∷ []) ++ drop (n + 1) l
one_more d x p l n e h =
    ap (λ t. set (p ++ t) n x) (drop-cons l n d h)
    ∙ set_at p (get_or l n d) (drop (suc n) l) x n e
    ∙ sym (append_snoc p x (drop (suc n) l))
    ∙ ap (λ k. p ++ (x ∷ []) ++ drop k l) (sym (add-one n))

two_more : {A : Type 0} (d x y : A) (p l : List A) (n : ℕ) → length p ≡ n → n + 1 < length l
    → set (set (p ++ drop n l) n x) (n + 1) y ≡ p ++ (x ∷ y ∷ []) ++ drop (n + 2) l
two_more d x y p l n e h =
    let two : n + 1 + 1 ≡ n + 2 = omega arith in
    ap (λ t. set t (n + 1) y) (one_more d x p l n e (omega arith))
    ∙ one_more d y (p ++ (x ∷ [])) l (n + 1) (length-append p (x ∷ []) ∙ omega arith) h
    ∙ ap (λ t. t ++ drop (n + 1 + 1) l) (append_snoc p x (y ∷ []))
    ∙ ap (λ k. p ++ (x ∷ y ∷ []) ++ drop k l) two

marked_suc : (w : ℕ → Window) (n : ℕ) (l : List ℕ) → n < length l → set (marked w n l) n (mark_of (w n)) ≡ marked w (suc n) l
unfolding marked tab
marked_suc w n l h =
    let f : ℕ → ℕ = λ i. mark_of (w i) in
    one_more 0 (f n) (tab f n) l n (length_tab f n) h ∙ ap (λ k. tab f (suc n) ++ drop k l) (add-one n)

timed_suc : (w : ℕ → Window) (n : ℕ) (l : List Float) → n * 2 + 1 < length l → placed (timed w n l) n (w n) ≡ timed w (suc n) l
unfolding timed pairs
timed_suc w n l h =
    let two : n * 2 + 2 ≡ suc n * 2 = omega arith in
    two_more none (first_of (w n)) (last_of (w n)) (pairs w n) l (n * 2) (length_pairs w n) h
    ∙ ap (λ k. pairs w (suc n) ++ drop k l) two

-- ---- both rooms as they are filled
-- the rooms' marks and times are those of the start with n windows placed
pub record Filled (w : ℕ → Window) (n : ℕ) (marks₀ : List ℕ) (times₀ : List Float) (marks : List ℕ) (times : List Float) : Type 0 where
  pub marks_are : marks ≡ marked w n marks₀
  pub times_are : times ≡ timed w n times₀
  pub marks_long : length marks ≡ length marks₀
  pub times_long : length times ≡ length times₀

pub filled_none : (w : ℕ → Window) (marks : List ℕ) (times : List Float) → Filled w 0 marks times marks times
unfolding marked tab timed pairs
filled_none w marks times = record { marks_are = refl; times_are = refl; marks_long = refl; times_long = refl }

-- the window of step n is placed
pub filled_more : (w : ℕ → Window) (n : ℕ) (v : Window) (marks₀ marks marks' : List ℕ) (times₀ times times' : List Float)
    → v ≡ w n → n < length marks₀ → n * 2 + 1 < length times₀
    → marks' ≡ set marks n (mark_of v) → times' ≡ placed times n v
    → Filled w n marks₀ times₀ marks times → Filled w (n + 1) marks₀ times₀ marks' times'
filled_more w n v marks₀ marks marks' times₀ times times' e h k p q f = record {
  marks_are = p ∙ rw (f.marks_are, e, add-one n) (marked_suc w n marks₀ h);
  times_are = q ∙ rw (f.times_are, e, add-one n) (timed_suc w n times₀ k);
  marks_long = ap length p ∙ simp length-set f.marks_long;
  times_long = ap length q ∙ simp length-set f.times_long;
}
