-- What is said of a record tells what it was: any that is refused; one that opens and closes nothing; the open and the close of a stretch.
use Rattle.std.specs.Prelude.{◌≡◌, Bool, true, false, cond, ◌&&◌, ℕ, ◌≤◌, ◌<◌, leb, length}
use Rattle.std.proofs.Math.Path.{refl, ap}
use mathlib.Core.List.{List, [], ◌∷◌}
use Rattle.std.proofs.Common.{arith, eqb-true, leb-true, ltb-true}
use Rattle.std.proofs.Math.Dec.{eqb, ltb}
use Rattle.std.proofs.lemmas.Bool.{eqb-false}
use Rattle.table.specs.declared.Fault.{Fault}
use Rattle.table.specs.declared.Refusal.{Refusal}
use Rattle.records.specs.declared.Tally.{Tally}
use Rattle.records.specs.declared.Verdict.{Verdict}
use Rattle.records.specs.Rules.{body_size, within}
use Rattle.records.specs.Tests.{both}
use Rattle.wire.specs.Records.{Record}
use Rattle.wire.specs.Reading.{byte, judge_of}
use Rattle.format.specs.Located.{Located}
use Rattle.format.specs.Judged as plain
use Rattle.stretches.specs.declared.Open.{Open}
use Rattle.stretches.specs.Reading.{Said, refused, next, lift, or_else, may_open, opening, opened, closed, none_open, at_close, judge_in}

abbrev pub open_at : ℕ → ℕ → Record
open_at at times = record { place = at; kind = 7; body = times ∷ [] }

abbrev pub close_at : ℕ → Record
close_at at = record { place = at; kind = 8; body = [] }

pub data Told (t : Tally) (stack : List Open) (r : Record) (w : Said) : Type 0 where
  in_refused : (f : Refusal) → w ≡ refused f → Told t stack r w
  in_step : (v : Verdict) → w ≡ lift stack v → (r.kind ≡ 5 → stack ≡ []) → plain.Told t r v → Told t stack r w
  in_open : (times : ℕ) → w ≡ next t (opening t times ∷ stack) → 2 ≤ times → times ≤ 16 → length stack < 4 → t.pending ≡ 0
      → r ≡ open_at r.place times → (r.place ≡ 0 → ⊥) → Told t stack r w
  in_close : (o : Open) (rest : List Open) → stack ≡ o ∷ rest → w ≡ next (at_close t o) rest → t.pending ≡ 0
      → o.steps < t.steps → (at_close t o).steps ≤ 16 → (at_close t o).guards ≤ 64 → r ≡ close_at r.place → Told t stack r w

module _ (t : Tally) (stack : List Open) (r : Record) where
  else_told : (b : Bool) (f : Fault) (w : Said) → (b ≡ true → Told t stack r w) → Told t stack r (or_else b f r.place w)
  else_told true f w h = h refl
  else_told false f w h = in_refused _ refl

  cond_told : (b : Bool) (v w : Said) → (b ≡ true → Told t stack r v) → (b ≡ false → Told t stack r w) → Told t stack r (cond b v w)
  cond_told true v w h k = h refl
  cond_told false v w h k = k refl

  module _ {at : ℕ} (f : Located at r) (room : t.guards ≤ 64) where
    step_told : (r.kind ≡ 5 → stack ≡ []) → Told t stack r (lift stack (judge_of t r))
    step_told h = in_step (judge_of t r) refl h (plain.judged t r f room)

    end_told : (s : List Open) → stack ≡ s → none_open s ≡ true → Told t stack r (lift stack (judge_of t r))
    end_told [] e h = step_told (λ _. e)
    end_told (o ∷ s) e h = let z : ◌≡◌ {A = ℕ} 0 1 = cc in absurd (omega arith)

    open_told : r.kind ≡ 7 → 1 ≤ length r.body → (r.place ≡ 0 → ⊥) → Told t stack r (opened t stack r.place (byte r 0))
    unfolding opened plain.listed
    open_told k long later =
        else_told (may_open (byte r 0) (length stack) && eqb t.pending 0) _ _ λ e.
        let a = both (may_open (byte r 0) (length stack)) (eqb t.pending 0) e in
        let b = both (within 2 (byte r 0) 16) (ltb (length stack) 4) a.0 in
        let c = plain.within_true 2 (byte r 0) 16 b.0 in
        in_open (byte r 0) refl c.0 c.1 (ltb-true (length stack) 4 b.1) (eqb-true t.pending 0 a.1)
        (plain.shaped r (omega (arith, f.size, ap body_size k)) 7 k) later

    close_told : r.kind ≡ 8 → (s : List Open) → stack ≡ s → Told t stack r (closed t s r.place)
    unfolding closed plain.listed
    close_told k [] e = in_refused _ refl
    close_told k (o ∷ s) e =
        else_told (eqb t.pending 0 && ltb o.steps t.steps) _ _ λ a.
        else_told (leb (at_close t o).steps 16) _ _ λ b.
        else_told (leb (at_close t o).guards 64) _ _ λ c.
        let d = both (eqb t.pending 0) (ltb o.steps t.steps) a in
        in_close o s e refl (eqb-true t.pending 0 d.0) (ltb-true o.steps t.steps d.1) (leb-true (at_close t o).steps 16 b)
        (leb-true (at_close t o).guards 64 c) (plain.shaped r (omega (arith, f.size, ap body_size k)) 8 k)

    pub told : Told t stack r (judge_in t stack r)
    unfolding judge_in
    told =
        cond_told (eqb r.kind 7) _ _ (λ e.
        cond_told (eqb r.place 0) _ _ (λ _. in_refused _ refl) λ p.
        else_told (leb 1 (length r.body)) _ _ λ l.
        open_told (eqb-true r.kind 7 e) (leb-true 1 (length r.body) l) (eqb-false r.place 0 p)) λ _.
        cond_told (eqb r.kind 8) _ _ (λ e.
        cond_told (eqb r.place 0) _ _ (λ _. in_refused _ refl) λ _.
        close_told (eqb-true r.kind 8 e) stack refl) λ _.
        cond_told (eqb r.kind 5) _ _ (λ e.
        else_told (none_open stack) _ _ (end_told stack refl)) λ e.
        step_told (λ k. absurd (eqb-false r.kind 5 e k))
