-- The number of demands of a round while its guards are counted, one after the other.
use Rattle.std.specs.Prelude.{◌≡◌, refl, ℕ, suc, ◌+◌, ◌*◌, ◌≤◌, ◌<◌, length, get_or}
use Rattle.std.proofs.Common.{sym, ap, ◌∙◌, add-one, mul-le-mul_right, arith}
use Rattle.std.proofs.Math.Seq.{slice, slice_empty, slice-cons}
use Rattle.table.specs.declared.Guard.{Guard}
use Rattle.table.specs.declared.Table.{Table}
use Rattle.runs.specs.declared.Start.{Start}
use Rattle.constraints.specs.Demands.{demands_of}
use Rattle.constraints.specs.Partner.{partners_of}
use Rattle.constraints.specs.Count.{demands_bounded}
use Rattle.constraints.specs.Number.{guard_number, guards_number, guards_nil, guards_cons, ends_order, demands_number}
use Rattle.constraints.specs.Sized.{Sized}

-- the place after the last guard, and the demands of the guards from a place on
abbrev guards_end : Table → ℕ
guards_end t = get_or t.ends t.steps 0

abbrev number_from : Table → ℕ → ℕ
number_from t place = guards_number (slice place (guards_end t) t.guards)

-- n of a round's demands are counted: one for each step, and those of the guards before a place
pub record Tallied (t : Table) (n place : ℕ) : Type 0 where
  pub last : place ≤ guards_end t
  pub room : guards_end t ≤ 64
  pub sum : n + number_from t place ≡ t.steps + number_from t (get_or t.ends 0 0)

module _ {t : Table} {k : ℕ} (ready : Sized t k) where
  pub tallied_first : Tallied t t.steps (get_or t.ends 0 0)
  tallied_first =
      let e : 0 + t.steps ≡ t.steps = omega arith in
      record {
        last = rw e at (ends_order t ready.good 0 t.steps (omega arith));
        room = ready.good.room t.steps (omega arith);
        sum = refl;
      }

  module _ {n place : ℕ} (p : Tallied t n place) where
    pub tallied_few : (v : Start) → n ≤ 132108
    tallied_few v =
        omega (
          arith,
          p.sum,
          mul-le-mul_right (t.steps + number_from t (get_or t.ends 0 0)) ready.some,
          demands_number t ready.good v k,
          demands_bounded t v k ready.good ready.few,
        )

    pub tallied_done : (v : Start) → guards_end t ≤ place
        → k * n + t.clocks * (1 + partners_of v) ≡ length (demands_of t v k)
    tallied_done v l =
        let e : place ≡ guards_end t = omega (arith, p.last) in
        let none : number_from t place ≡ 0 =
        ap (number_from t) e ∙ ap guards_number (slice_empty (guards_end t) t.guards) ∙ guards_nil in
        let all : n ≡ t.steps + number_from t (get_or t.ends 0 0) = omega (arith, p.sum) in
        ap (λ m. k * m + t.clocks * (1 + partners_of v)) all ∙ sym (demands_number t ready.good v k)

    -- one guard more
    pub tallied_next : (d : Guard) {m : ℕ} → place < guards_end t → m ≡ guard_number (get_or t.guards place d).relation
        → Tallied t (n + m) (place + 1)
    tallied_next d {m} l e =
        let g = get_or t.guards place d in
        let more : number_from t place ≡ m + number_from t (place + 1) =
        ap guards_number
        (slice-cons place (guards_end t) t.guards d l (omega (arith, p.room, ready.good.guards_size)))
        ∙ guards_cons g (slice (suc place) (guards_end t) t.guards)
        ∙ λ i. sym e i + number_from t (sym (add-one place) i) in
        record { last = omega arith; room = p.room; sum = omega (arith, p.sum) }
