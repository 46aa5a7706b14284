-- The greatest times of the last resets before the start: they begin with the time of the start, and are lowered until all demands hold
-- that end at one of them.
use Rattle.std.specs.Prelude.{◌≡◌, refl, Bool, false, List, ℕ, ◌+◌, ◌-◌, ◌%◌, ◌≤◌, ◌<◌, ltb, length, get_or, set}
use Rattle.std.proofs.Common.{sym, subst, ◌∙◌, arith, lt-ltb, length-set, get_or-set_same, get_or-set_other}
use Rattle.std.proofs.lemmas.Bool.{false≢true}
use Rattle.std.proofs.Math.Decide.{dec_le}
use Rattle.sweeps.specs.Order.{forth_at}
use Rattle.basics.specs.Places.{at, written}
use Rattle.checks.specs.InParts.{edges}
use Rattle.leads.specs.Leads.{led_by, Leading}
use Rattle.ways.specs.Forth.{Going}
use Rattle.lowering.specs.Bounded.{Bounded, bounded_some}
use Rattle.lowering.specs.Outcome.{Settled, Falling, Greatest, falling_then, falling_among}
use Rattle.latest.specs.Steps.{forth_edges, forth_member, left_member, right_member}
use Rattle.led_latest.specs.Steps.{led_back_edges, led_edges}
use Rattle.latest.specs.Descent.{Descended}

-- b has the times of moments 0 to K of x, and that of the start for the last resets of clocks 1 to m before it.
pub record Began (x : List ℕ) (K m : ℕ) (b : List ℕ) : Type 0 where
  pub size : length b ≡ length x
  pub now : (v : ℕ) → v ≤ K → at b v ≡ at x v
  pub past : (v : ℕ) → K < v → v ≤ K + m → at b v ≡ at x 0

pub began_none : (x : List ℕ) (K : ℕ) → Began x K 0 x
began_none x K = record { size = refl; now = λ v l. refl; past = λ v a l. absurd (omega arith) }

pub began_more : (x : List ℕ) (K m : ℕ) (b : List ℕ) → Began x K m b → K + (m + 1) < length x → Began x K (m + 1) (set b (K + (m + 1)) (at b 0))
began_more x K m b h l =
    record {
      size = length-set b (K + (m + 1)) (at b 0) ∙ h.size;
      now = λ v w. get_or-set_other b (K + (m + 1)) v (at b 0) 0 (omega arith) ∙ h.now v w;
      past = λ v a w. go v a w (dec_le v (K + m));
    }
  where
    go : (v : ℕ) → K < v → v ≤ K + (m + 1) → Dec (v ≤ K + m) → at (set b (K + (m + 1)) (at b 0)) v ≡ at x 0
    go v a w (yes k) = get_or-set_other b (K + (m + 1)) v (at b 0) 0 (omega arith) ∙ h.past v a k
    go v a w (no k) =
        let e : v ≡ K + (m + 1) = omega arith in
        rw e (get_or-set_same b (K + (m + 1)) (at b 0) 0 (omega (arith, h.size)) ∙ h.now 0 (omega arith))

pub began_all : (x : List ℕ) (K m n : ℕ) (b : List ℕ) → m ≡ n → Began x K m b → Began x K n b
began_all x K m n b e h = subst (λ k. Began x K k b) e h

-- What is asked of the rows, the times and the room.
pub record Rowed (low up leads far : List ℕ) (L n K : ℕ) (x s : List ℕ) : Type 0 where
  pub below : Going low far L n K
  pub above : Going up far L n K
  pub led : Leading leads L
  pub round : L ≤ K
  pub whole : K % L ≡ 0
  pub times : K + n + 1 ≤ length x
  pub starts : n ≤ length s
  pub bounded : (b : List ℕ) → Began x K n b → Bounded (K + n + 1) (led_edges low up (led_by leads) far L n K) b

-- What is given: the demands from below of the first round hold; where there are guards between two clocks, which alone of the others end
-- at a last reset before the start, all others hold; and the starts that the times tell.
pub record Told (low up leads far : List ℕ) (L n K : ℕ) (x x' s s' : List ℕ) : Type 0 where
  pub first : List ℕ
  pub began : Began x K n first
  pub falling : Falling (K + n + 1) (led_edges low up (led_by leads) far L n K) first x'
  pub forth : (i : ℕ) → i < L → Settled (edges (forth_at low far L n K i)) x'
  pub back : 0 < get_or leads L 0 → Settled (led_back_edges up (led_by leads) far L n K) x'
  pub starts : s' ≡ written (λ j. at x' 0 - at x' (K + (j + 1))) n s

-- the guards from below can be checked
pub began_able : (low up leads far : List ℕ) (L n K : ℕ) (x s : List ℕ) → Rowed low up leads far L n K x s → (b : List ℕ) → Began x K n b
    → Bounded (K + n + 1) (forth_edges low far L n K) b
began_able low up leads far L n K x s r b g =
    bounded_some (K + n + 1) (led_edges low up (led_by leads) far L n K) (forth_edges low far L n K) b
    (left_member (forth_edges low far L n K) (led_back_edges up (led_by leads) far L n K)) (r.bounded b g)

module _ (low up leads far : List ℕ) (L n K : ℕ) (x s : List ℕ) (r : Rowed low up leads far L n K x s) (b : List ℕ) (g : Began x K n b)
    (l : List ℕ) (bottom : ℕ) (d : Descended low far L n K L 0 b l bottom) where
  abbrev N : ℕ
  N = K + n + 1

  fell : Falling N (led_edges low up (led_by leads) far L n K) b l
  fell =
      falling_among N (led_edges low up (led_by leads) far L n K) (forth_edges low far L n K) b l
      (left_member (forth_edges low far L n K) (led_back_edges up (led_by leads) far L n K)) (r.bounded b g) d.falling

  -- they can be lowered on
  pub lowered_able : Bounded N (led_edges low up (led_by leads) far L n K) l
  lowered_able = fell.bounded

  -- without guards between two clocks that is enough
  pub told_plain : (led : Bool) → led ≡ ltb 0 (get_or leads L 0) → led ≡ false → (s' : List ℕ)
      → s' ≡ written (λ j. at l 0 - at l (K + (j + 1))) n s → Told low up leads far L n K x l s s'
  told_plain led e f s' h =
      record {
        first = b;
        began = g;
        falling = fell;
        forth = d.each refl;
        back = λ w. absurd (false≢true (sym f ∙ e ∙ lt-ltb 0 (get_or leads L 0) w));
        starts = h;
      }

  -- with them, all are lowered until all demands hold
  pub told_led : (l' s' : List ℕ) → Greatest N (led_edges low up (led_by leads) far L n K) l l'
      → s' ≡ written (λ j. at l' 0 - at l' (K + (j + 1))) n s → Told low up leads far L n K x l' s s'
  told_led l' s' a h =
      record {
        first = b;
        began = g;
        falling = falling_then N (led_edges low up (led_by leads) far L n K) b l l' fell a.falling;
        forth = λ i w c m.
            a.settled c
            (left_member (forth_edges low far L n K) (led_back_edges up (led_by leads) far L n K) c
            (forth_member low far L n K i (omega (arith, r.round)) c m));
        back = λ w c m. a.settled c (right_member (forth_edges low far L n K) (led_back_edges up (led_by leads) far L n K) c m);
        starts = h;
      }
