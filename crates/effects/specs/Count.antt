-- A run of the limit of rounds means runs of every number of rounds, from the same start: while nothing settles, the
-- left parts fall in rank, and they cannot fall so often.
use Rattle.std.specs.Prelude.{◌≡◌, ◌⊎◌, List, ℕ, zero, suc, ◌+◌, ◌*◌, ◌^◌, ◌≤◌, ◌<◌, length}
use Rattle.std.proofs.Common.{sym, subst, inl, inr, ⊎_elim, arith}
use Rattle.table.specs.Step.{Step, Fairs}
use Rattle.runs.specs.Run.{copies}
use Rattle.runs.specs.Copies.{copies_one, copies_suc, length_copies, fairs_copies}
use Rattle.runs.specs.Steps.{Config, Steps}
use Rattle.zones.specs.Matrix.{Matrix}
use Rattle.effects.specs.Describes.{Describes, NoRun}
use Rattle.effects.specs.Effects.{Effect, combine, effect}
use Rattle.effects.specs.Range.{left_range, range_left}
use Rattle.effects.specs.Begins.{Begins, fewer_steps}
use Rattle.effects.specs.Settle.{From, Left, left_sound, from_begins, falls, onward}
use Rattle.effects.specs.Rank.{LeftWithin, total, total_top, same_or_less}

-- The limit of rounds, and how often one round is doubled to reach it.
abbrev pub doublings : ℕ
doublings = 24

abbrev pub limit : ℕ
limit = 2 ^ doublings

-- The ranks of a left part add up to this at most.
abbrev most : ℕ
most = 49 * (4 * left_range + 2)

module _ (τ : List Step) (f : Fairs τ) (long : 0 < length τ) where
  small : (k : ℕ) (A : Matrix) → Describes (copies τ (suc k)) A → LeftWithin left_range A
  small k A d = range_left (copies τ (suc k)) (fairs_copies τ (suc k) f) (omega (arith, length_copies τ (suc k))) A d

  -- With one round more the left part is settled, or falls in rank.
  settles_or_falls : (k : ℕ) (A : Effect (copies τ (suc k))) (B : Effect (copies τ (suc (suc k))))
      → Left A.0 B.0 ⊎ (total left_range B.0 < total left_range A.0)
  settles_or_falls k (A, dA) (B, dB) =
      same_or_less left_range A B (small k A dA) (small (suc k) B dB) (falls τ f (suc k) A B dA dB)

  module _ (E : Effect τ) (P : ℕ) (p : 0 < P) (u v : Config) where
    -- The effect of one round more, as long as such a run starts from u.
    next : (k n : ℕ) → suc (suc k) ≤ n → Steps P (copies τ n) u v → Effect (copies τ (suc k))
        → Effect (copies τ (suc (suc k)))
    next k n l r A =
        let t = fewer_steps τ (suc (suc k)) n P l r in
        ⊎_elim (λ e. subst Effect (sym (copies_suc τ (suc k))) e)
        (λ n. absurd (n P u t.0 p (rw (copies_suc τ (suc k)) at t.1)))
        (combine τ (copies τ (suc k)) f (fairs_copies τ (suc k) f) E A)

    -- Where it is settled, every number of rounds runs from u.
    go_on : (k : ℕ) (A : Effect (copies τ (suc k))) (B : Effect (copies τ (suc (suc k)))) → Left A.0 B.0
        → (n : ℕ) → suc k ≤ n → Steps P (copies τ n) u v → (m : ℕ) → From (copies τ m) P u
    go_on k (A, dA) (B, dB) h n l r m =
        let t = fewer_steps τ (suc k) n P l r in
        onward τ f (suc k) (suc (suc k)) (omega arith) A B dA dB h m P u p
        (left_sound (fairs_copies τ (suc k) f) dA P u t.0 p t.1)

    -- n is at least the sum of the ranks, which falls by one at least with each round while nothing settles.
    down : (n k : ℕ) (A : Effect (copies τ (suc k))) → total left_range A.0 ≤ n
        → Steps P (copies τ (suc k + suc n)) u v → (m : ℕ) → From (copies τ m) P u
    down zero k A t r =
        ⊎_elim (λ h. go_on k A B h (suc k + 1) (omega arith) r) (λ h. absurd (nothing (total left_range B.0) h))
        (settles_or_falls k A B)
      where
        B : Effect (copies τ (suc (suc k)))
        B = next k (suc k + 1) (omega arith) r A

        nothing : (n : ℕ) → n < total left_range A.0 → ⊥
        nothing n h = omega arith
    down (suc n) k A t r =
        ⊎_elim (λ h. go_on k A B h (suc k + suc (suc n)) (omega arith) r)
        (λ h. down n (suc k) B (omega arith) (rw same at r)) (settles_or_falls k A B)
      where
        B : Effect (copies τ (suc (suc k)))
        B = next k (suc k + suc (suc n)) (omega arith) r A

        same : suc k + suc (suc n) ≡ suc (suc k) + suc n
        same = omega arith

-- Where the limit of rounds runs from u, every number of rounds does.
pub endless : (τ : List Step) → Fairs τ → 0 < length τ → (P : ℕ) (u v : Config) → 0 < P
    → Steps P (copies τ limit) u v → (m : ℕ) → From (copies τ m) P u
endless τ f long P u v p r = go (effect τ f long)
  where
    once : (w : Config) × Steps P (copies τ 1) u w
    once = fewer_steps τ 1 limit P (omega arith) r

    enough : (w : Config) × Steps P (copies τ (1 + suc most)) u w
    enough = fewer_steps τ (1 + suc most) limit P (omega arith) r

    go : Effect τ ⊎ NoRun τ → (m : ℕ) → From (copies τ m) P u
    go (inl E) =
        down τ f long E P p u enough.0 most 0 one
        (total_top left_range one.0 (small τ f long 0 one.0 one.1)) enough.1
      where
        one : Effect (copies τ 1)
        one = subst Effect (sym (copies_one τ)) E
    go (inr n) = absurd (n P u once.0 p (rw (copies_one τ) at once.1))

-- So where the limit of rounds runs from an allowed start, every number of rounds does.
pub unending : (D : Matrix) (τ : List Step) → Fairs τ → 0 < length τ
    → Begins D (copies τ limit) → (m : ℕ) → Begins D (copies τ m)
unending D τ f long r m =
    from_begins D (copies τ m) r.parts r.first r.positive r.allowed
    (endless τ f long r.parts r.first r.end r.positive r.run m)
