-- What a verdict tells of the record that was judged: 01's tests, the other way round.
use Rattle.std.specs.Prelude.{◌≡◌, Bool, true, false, cond, not, ◌&&◌, ltb, leb, length, get_or}
use Rattle.std.proofs.Math.Path.{refl, sym, ap, subst}
use Rattle.std.proofs.Common.{◌∙◌, add-zero, arith}
use mathlib.Core.List.{List, [], ◌∷◌}
use Prim.Native.Nat.{ℕ, zero, suc, ◌+◌, ◌/◌, ◌%◌, ◌≤◌, ◌<◌}
use Rattle.std.proofs.Math.Dec.{eqb}
use borrow.Author.Tests.{ltb-true, leb-true, eqb-true, eqb-false}
use Rattle.table.specs.declared.Fault.{Fault}
use Rattle.table.specs.declared.Refusal.{Refusal}
use Rattle.records.specs.declared.Tally.{Tally}
use Rattle.records.specs.declared.Verdict.{Verdict}
use Rattle.records.specs.declared.Verdict.TheVariants.{Refused, Next, Last}
use Rattle.records.specs.Rules.{body_size, need, within, is_free, marked, headed, guarded, cleared, finished, ended, relation_of, agree}
use Rattle.records.specs.Tests.{both}
use Rattle.wire.specs.Records.{Record}
use Rattle.wire.specs.Reading.{byte, constant_of, whole_of, judge_of}
use Rattle.wire.specs.Listing.{Entry, guard, reset, guard_in}
use Rattle.format.specs.Encode.{relation_code, LegalEntry}
use Rattle.wire.specs.Records.{Bytes}
use Rattle.format.specs.Located.{Located}
use Rattle.format.specs.Shapes.{
  head_with,
  entry_at,
  finish_at,
  end_at,
  weight,
  fresh,
  head_tally,
  entered,
  stepped,
  false_true,
}

-- what a record was, by the verdict on it: any that is refused; the head; an entry; a finished step; the end
pub data Told (t : Tally) (r : Record) : Verdict → Type 0 where
  is_refused : (f : Refusal) → Told t r (Refused f)
  is_head : (n : ℕ) → r.place ≡ 0 → r ≡ head_with n → 1 ≤ n → n ≤ 6 → Told t r (Next (head_tally n))
  is_entry : (e : Entry) → 0 < r.place → r ≡ entry_at r.place e → LegalEntry t.clocks e
      → fresh t.pending e ≡ true → t.guards + weight e ≤ 64 → Told t r (Next (entered t e))
  is_finish : 0 < r.place → r ≡ finish_at r.place → t.steps < 16 → Told t r (Next (stepped t t.guards))
  is_end : 0 < r.place → r ≡ end_at r.place → 1 ≤ t.steps → t.pending ≡ 0 → Told t r Last

-- what a test that holds tells
pub within_true : (low x high : ℕ) → within low x high ≡ true → (low ≤ x) × (x ≤ high)
within_true low x high e =
    let h = both (leb low x) (leb x high) e in
    (leb-true low x h.0, leb-true x high h.1)

agree_true : (p k : ℕ) → agree (eqb p 0) (eqb k 1) ≡ true → (k ≡ 1 → p ≡ 0) × ((k ≡ 1 → ⊥) → 0 < p)
agree_true p k = go (eqb p 0) (eqb k 1) (eqb-true p 0) (eqb-false p 0) (eqb-true k 1) (eqb-false k 1)
  where
    go : (a b : Bool) → (a ≡ true → p ≡ 0) → (a ≡ false → p ≡ 0 → ⊥)
        → (b ≡ true → k ≡ 1) → (b ≡ false → k ≡ 1 → ⊥)
        → agree a b ≡ true → (k ≡ 1 → p ≡ 0) × ((k ≡ 1 → ⊥) → 0 < p)
    go true b first later is isnt e = (λ _. first refl, λ n. absurd (n (is e)))
    go false true first later is isnt e = false_true e
    go false false first later is isnt e = (λ h. absurd (isnt refl h), λ _. let n = later refl in omega arith)

-- a list of a known length, by its elements
unfoldable pub listed : ℕ → (ℕ → ℕ) → List ℕ
listed zero f = []
listed (suc n) f = f 0 ∷ listed n (λ i. f (suc i))

is_listed : (n : ℕ) (l : List ℕ) → length l ≡ n → l ≡ listed n (λ i. get_or l i 0)
unfolding listed
is_listed zero [] h = refl
is_listed zero (b ∷ l) h = absurd (omega arith)
is_listed (suc n) [] h = absurd (omega arith)
is_listed (suc n) (b ∷ l) h = ap (λ rest. b ∷ rest) (is_listed n l (omega arith))

-- a whole record of a kind, by the bytes of its body
pub shaped : (r : Record) → length r.body ≡ body_size r.kind → (k : ℕ) → r.kind ≡ k
    → r ≡ record { place = r.place; kind = k; body = listed (body_size k) (byte r) }
shaped r size k e =
    let b : r.body ≡ listed (body_size k) (byte r) = is_listed (body_size k) r.body (size ∙ ap body_size e) in
    λ i. record { place = r.place; kind = e i; body = b i }

-- a relation's byte is written back
code_back : (c : ℕ) → c ≤ 4 → relation_code (relation_of c) ≡ c
code_back zero h = refl
code_back (suc zero) h = refl
code_back (suc (suc zero)) h = refl
code_back (suc (suc (suc zero))) h = refl
code_back (suc (suc (suc (suc zero)))) h = refl
code_back (suc (suc (suc (suc (suc c))))) h = absurd (omega arith)

module _ (t : Tally) (r : Record) where
  -- a test that fails refuses
  need_told : (b : Bool) (f : Fault) (v : Verdict) → (b ≡ true → Told t r v) → Told t r (need b f r.place v)
  need_told true f v h = h refl
  need_told false f v h = is_refused _

  -- a choice by a test
  cond_told : (b : Bool) (v w : Verdict) → (b ≡ true → Told t r v) → (b ≡ false → Told t r w) → Told t r (cond b v w)
  cond_told true v w h k = h refl
  cond_told false v w h k = k refl

  module _ (size : length r.body ≡ body_size r.kind) (small : Bytes r.body) where
    head_told : r.kind ≡ 1 → r.place ≡ 0 → Told t r (headed r.place (byte r 0))
    unfolding headed listed
    head_told k first =
        need_told (within 1 (byte r 0) 6) _ _ λ e.
        let h = within_true 1 (byte r 0) 6 e in
        is_head (byte r 0) first
        (shaped r size 1 k ∙ ap (λ p. record { place = p; kind = 1; body = byte r 0 ∷ [] }) first) h.0 h.1

    guard_told : r.kind ≡ 2 → 0 < r.place → Told t r (guarded t r.place (byte r 0) (byte r 1) (constant_of r))
    unfolding guarded listed
    guard_told k later =
        need_told (ltb t.guards 64) _ _ λ a.
        need_told (within 1 (byte r 0) t.clocks) _ _ λ b.
        need_told (leb (byte r 1) 4) _ _ λ c.
        need_told (leb (constant_of r) 4000) _ _ λ d.
        let h = within_true 1 (byte r 0) t.clocks b in
        let low : constant_of r % 256 ≡ byte r 2 = omega (arith, small 2) in
        let high : constant_of r / 256 ≡ byte r 3 = omega (arith, small 2) in
        let code = code_back (byte r 1) (leb-true (byte r 1) 4 c) in
        is_entry (guard (guard_in r)) later
        (shaped r size 2 k
        ∙ ap (λ body. record { place = r.place; kind = 2; body = body })
        (λ i. byte r 0 ∷ sym code i ∷ sym low i ∷ sym high i ∷ []))
        (h.0, h.1, leb-true (constant_of r) 4000 d, record { second = refl; minus = refl }) refl
        (omega (arith, ltb-true t.guards 64 a))

    reset_told : r.kind ≡ 3 → 0 < r.place → t.guards ≤ 64 → Told t r (cleared t r.place (byte r 0))
    unfolding cleared listed
    reset_told k later room =
        need_told (within 1 (byte r 0) t.clocks) _ _ λ e.
        need_told (is_free t.pending (byte r 0)) _ _ λ a.
        let h = within_true 1 (byte r 0) t.clocks e in
        subst (λ c. Told t r (Next (after c))) (add-zero t.guards)
        (is_entry (reset (byte r 0)) later (shaped r size 3 k) (h.0, h.1) a (omega arith))
      where
        after : ℕ → Tally
        after c = record { clocks = t.clocks; steps = t.steps; guards = c; pending = marked t.pending (byte r 0) }

    finish_told : r.kind ≡ 4 → 0 < r.place → Told t r (finished t r.place)
    unfolding finished listed
    finish_told k later =
        need_told (ltb t.steps 16) _ _ λ e. is_finish later (shaped r size 4 k) (ltb-true t.steps 16 e)

    end_told : r.kind ≡ 5 → 0 < r.place → Told t r (ended t r.place)
    unfolding ended listed
    end_told k later =
        need_told (leb 1 t.steps && eqb t.pending 0) _ _ λ e.
        let h = both (leb 1 t.steps) (eqb t.pending 0) e in
        is_end later (shaped r size 5 k) (leb-true 1 t.steps h.0) (eqb-true t.pending 0 h.1)

    -- a whole record, by its kind
    whole_told : 1 ≤ r.kind → r.kind ≤ 5 → (r.kind ≡ 1 → r.place ≡ 0) → ((r.kind ≡ 1 → ⊥) → 0 < r.place)
        → t.guards ≤ 64 → Told t r (whole_of t r)
    unfolding whole_of
    whole_told low high first later room =
        cond_told (eqb r.kind 1) _ _ (λ e. let k = eqb-true r.kind 1 e in head_told k (first k)) λ e₁.
        let n₁ = eqb-false r.kind 1 e₁ in
        cond_told (eqb r.kind 2) _ _ (λ e. guard_told (eqb-true r.kind 2 e) (later n₁)) λ e₂.
        cond_told (eqb r.kind 3) _ _ (λ e. reset_told (eqb-true r.kind 3 e) (later n₁) room) λ e₃.
        cond_told (eqb r.kind 4) _ _ (λ e. finish_told (eqb-true r.kind 4 e) (later n₁)) λ e₄.
        let n₂ = eqb-false r.kind 2 e₂ in
        let n₃ = eqb-false r.kind 3 e₃ in
        let n₄ = eqb-false r.kind 4 e₄ in
        end_told (omega arith) (later n₁)

  -- what any record located in bytes was
  pub judged : {at : ℕ} → Located at r → t.guards ≤ 64 → Told t r (judge_of t r)
  unfolding judge_of
  judged f room =
      need_told (within 1 r.kind 5) _ _ λ a.
      need_told (agree (eqb r.place 0) (eqb r.kind 1)) _ _ λ b.
      need_told (leb (body_size r.kind) (length r.body)) _ _ λ c.
      let kinds = within_true 1 r.kind 5 a in
      let places = agree_true r.place r.kind b in
      let long = leb-true (body_size r.kind) (length r.body) c in
      let short = f.size in
      whole_told (omega arith) f.small kinds.0 kinds.1 places.0 places.1 room
