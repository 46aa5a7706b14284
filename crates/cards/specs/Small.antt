-- What a verdict tells of a content: it is refused for a fault of a card, or made of bytes.
use Rattle.std.specs.Prelude.{◌≡◌, refl, Bool, true, false, ◌&&◌, ◌||◌, ℕ, zero, suc, ◌+◌, ◌≤◌, ◌<◌, eqb, ltb, leb}
use Rattle.std.proofs.Common.{sym, ◌∙◌, subst, arith, leb-true}
use mathlib.Core.List.{List, [], ◌∷◌, ◌++◌}
use Rattle.std.proofs.Math.ListN.{length}
use Rattle.table.specs.Refusal.{number_of}
use Rattle.table.specs.declared.Fault.{Fault}
use Rattle.table.specs.declared.Fault.TheVariants as fault
use Rattle.table.specs.declared.Relation.{Relation}
use Rattle.table.specs.declared.Refusal.{Refusal}
use Rattle.table.specs.declared.Read.TheVariants as read
use Rattle.records.specs.declared.Tally.{Tally}
use Rattle.records.specs.declared.Verdict.{Verdict}
use Rattle.records.specs.declared.Verdict.TheVariants.{Refused, Next, Last}
use Rattle.records.specs.Rules.{need, agree, within, is_free, headed, guarded, cleared, finished, ended}
use Rattle.records.specs.Checking.{check_of, check_judged}
use Rattle.wire.specs.Records.{Bytes}
use Rattle.wire.specs.Reading.{judge_of, check}
use Rattle.wire.specs.Laws.{onward}
use Rattle.wire.specs.Listing.{guard, reset, Content, head, entry, finish, close}
use Rattle.format.specs.Encode.{relation_code}
use Rattle.format.proofs.Encoded.{relation_known}
use Rattle.format.specs.Judged.{within_true}
use Rattle.format.specs.Shapes.{refused_counted}
use Rattle.cards.specs.Card.{tested}
use Rattle.cards.specs.Convert.{record_bytes}
use Rattle.cards.specs.Contents.{record_of, bytes_for, recorded}
use Rattle.cards.specs.Alike.{judge_content}

-- every number of a list is a byte
pub data Small : List ℕ → Type 0 where
  empty : Small []
  more : {b : ℕ} {l : List ℕ} → b < 256 → Small l → Small (b ∷ l)

joined : {k l : List ℕ} → Small k → Small l → Small (k ++ l)
joined empty m = m
joined (more h k) m = more h (joined k m)

bytes : {l : List ℕ} → Small l → Bytes l
bytes empty i = omega arith
bytes (more h k) zero = h
bytes (more h k) (suc i) = bytes k i

-- the numbers of faults in a card
abbrev pub of_card : ℕ → Bool
of_card n = eqb n 2 || eqb n 4 || eqb n 5 || eqb n 6 || eqb n 8 || eqb n 9 || eqb n 10 || eqb n 16 || eqb n 20

-- A verdict on a content: it is refused for such a fault; or its record is made of bytes, and there are six clocks at most.
pub data Taken (c : Content) : Verdict → Type 0 where
  stops : (f : Refusal) → of_card (number_of f.fault) ≡ true → Taken c (Refused f)
  goes : (u : Tally) → Small (record_bytes c) → u.clocks ≤ 6 → Taken c (Next u)
  ends : Small (record_bytes c) → Taken c Last

module _ (c : Content) (p : ℕ) where
  test : (b : Bool) (f : Fault) → of_card (number_of f) ≡ true → (v : Verdict) → (b ≡ true → Taken c v) → Taken c (need b f p v)
  test true f o v h = h refl
  test false f o v h = stops _ o

  -- the relation of a content is always one
  known : (r : Relation) (v : Verdict) → Taken c v → Taken c (need (leb (relation_code r) 4) fault.Relation p v)
  known r v h = rw (relation_known r) h

pub taken : (t : Tally) (p : ℕ) (c : Content) → t.clocks ≤ 6 → Taken c (tested t p c)
unfolding headed guarded cleared finished ended
taken t p (head n) few =
    test (head n) p (agree (eqb p 0) true) fault.Head refl _ λ _.
    test (head n) p (within 1 n 6) fault.Head refl _ λ e.
    let h = within_true 1 n 6 e in
    goes _ (more (omega arith) (more (omega (arith, h.1)) empty)) h.1
taken t p (entry (guard g)) few =
    let c = entry (guard g) in
    test c p (agree (eqb p 0) false) fault.Head refl _ λ _.
    test c p (ltb t.guards 64) fault.Bounds refl _ λ _.
    test c p (within 1 g.clock t.clocks) fault.Timer refl _ λ e.
    known c p g.relation _
    (test c p (leb g.constant 4000) fault.Constant refl _ λ d.
    let h = within_true 1 g.clock t.clocks e in
    let r = leb-true (relation_code g.relation) 4 (relation_known g.relation) in
    let k = leb-true g.constant 4000 d in
    goes _ (more (omega arith) (more (omega (arith, h.1)) (more (omega arith) (more (omega arith) (more (omega arith) empty))))) few)
taken t p (entry (reset j)) few =
    let c = entry (reset j) in
    test c p (agree (eqb p 0) false) fault.Head refl _ λ _.
    test c p (within 1 j t.clocks) fault.Timer refl _ λ e.
    test c p (is_free t.pending j) fault.Twice refl _ λ _.
    let h = within_true 1 j t.clocks e in
    goes _ (more (omega arith) (more (omega (arith, h.1)) empty)) few
taken t p finish few =
    test finish p (agree (eqb p 0) false) fault.Head refl _ λ _.
    test finish p (ltb t.steps 16) fault.Steps refl _ λ _. goes _ (more (omega arith) empty) few
taken t p close few =
    test close p (agree (eqb p 0) false) fault.Head refl _ λ _.
    test close p (leb 1 t.steps && eqb t.pending 0) fault.Steps refl _ λ _. ends (more (omega arith) empty)

-- So of a content that is taken, and of the last.
pub next_small : (t : Tally) (p : ℕ) (c : Content) (u : Tally) → t.clocks ≤ 6 → tested t p c ≡ Next u
    → Bytes (record_bytes c) × (u.clocks ≤ 6)
next_small t p c u few e = go (subst (Taken c) e (taken t p c few))
  where
    go : Taken c (Next u) → Bytes (record_bytes c) × (u.clocks ≤ 6)
    go (goes _ b h) = (bytes b, h)

pub last_small : (t : Tally) (p : ℕ) (c : Content) → t.clocks ≤ 6 → tested t p c ≡ Last → Bytes (record_bytes c)
last_small t p c few e = go (subst (Taken c) e (taken t p c few))
  where
    go : Taken c Last → Bytes (record_bytes c)
    go (ends b) = bytes b

module _ (size n l g : ℕ) where
  small_onward : (c : Content) (cs : List Content) (t : Tally) (q : ℕ)
      → ((u : Tally) → u.clocks ≤ 6 → check size u (recorded q cs) ≡ read.Counted n l g → Small (bytes_for cs))
      → {v : Verdict} → Taken c v → onward size t (recorded q cs) v ≡ read.Counted n l g → Small (record_bytes c ++ bytes_for cs)
  unfolding recorded bytes_for
  small_onward c cs t q rest (stops f o) e = refused_counted e
  small_onward c cs t q rest (goes u b few) e = joined b (rest u few e)
  small_onward c [] t q rest (ends b) e = joined b empty
  small_onward c (d ∷ cs) t q rest (ends b) e = refused_counted e

  counted : (cs : List Content) (t : Tally) (q : ℕ) → t.clocks ≤ 6
      → check size t (recorded q cs) ≡ read.Counted n l g → Small (bytes_for cs)
  unfolding check_of recorded bytes_for
  counted [] t q few e = refused_counted e
  counted (c ∷ cs) t q few e =
      small_onward c cs t (q + length (record_bytes c)) (λ u. counted cs u (q + length (record_bytes c))) (taken t q c few)
      (sym (check_judged (λ r. r.place) judge_of size t (record_of q c) _ _ (judge_content t q c)) ∙ e)

  pub counted_small : (cs : List Content) (t : Tally) (q : ℕ) → t.clocks ≤ 6
      → check size t (recorded q cs) ≡ read.Counted n l g → Bytes (bytes_for cs)
  counted_small cs t q few e = bytes (counted cs t q few e)
