-- A pass: the partners, forth over all steps, back over all steps, then the starts. Where the way back raised nothing, everything holds.
use Rattle.std.specs.Prelude.{◌≡◌, Bool, true, false, ◌||◌, ℕ, ◌+◌, ◌%◌, ◌≤◌, ◌^◌}
use Rattle.std.proofs.Math.Path.{sym, ap, subst}
use Rattle.std.proofs.Common.{◌∙◌, ⊎_elim}
use Rattle.std.proofs.Math.Bool.{or-true}
use mathlib.Core.List.Memᴰ
use mathlib.Core.List.{List, ◌++◌, map-append, append_assoc}
use native.Mathlib.Omega.{arith}
use Rattle.std.proofs.Math.ListN.{length, length-append}
use Rattle.runs.specs.declared.Demand.{Demand}
use Rattle.runs.specs.Demand.{start_demands, any_starts, starts_of}
use Rattle.runs.specs.Start.{start_upper}
use Rattle.runs.specs.Tools.{Every, every_append}
use Rattle.sweeps.specs.Order.{forth_of, back_of, upper_of, partners_from}
use Rattle.leads.specs.Leads.{led_by, led_few, Leading}
use Rattle.sweeps.specs.Number.{sweep_few}
use Rattle.basics.specs.Places.{at}
use Rattle.paths.specs.Constraint.{Constraint, All}
use Rattle.paths.specs.State.{State, pass_of, hits_of, pass_append, hits_append}
use Rattle.paths.specs.Bounds.{Room, Under}
use Rattle.paths.specs.Pass.{quiet}
use Rattle.paths.specs.Onward.{onward_settles}
use Rattle.checks.specs.InParts.{edge, edges}
use Rattle.checks.specs.Checks.{Slight, Checkable, Checked, length_edges, slight_fits, checked_append, checkable_left, checkable_right}
use Rattle.checks.specs.Led.{upper_all}
use Rattle.ways.specs.Forth.{Going}
use Rattle.relaxing.specs.Rows.{Rows, sweep, moments, constraints_of, Sound, going_up, Tells}
use Rattle.relaxing.specs.Onward.{way_onward}

-- What a pass asks.
pub record Passable (R : Rows) (s : State) (q : ℕ) : Type 0 where
  pub sound : Sound R
  pub room : Room (moments R) s
  pub under : Under (moments R) (2 ^ 62) s.time
  pub stamp : q ≤ 2 ^ 62

-- What it gives: all constraints are checked in turn from the stamp q on, and r is the stamp after them. Where h is true some time
-- was raised, and where it is false all of them hold now.
pub record Swept (R : Rows) (q : ℕ) (s s' : State) (h : Bool) (r : ℕ) : Type 0 where
  pub after : s' ≡ pass_of (constraints_of R) q s
  pub stamp : r ≡ q + length (constraints_of R)
  pub loud : h ≡ true → hits_of (constraints_of R) q s ≡ true
  pub quiet : h ≡ false → All (constraints_of R) (at s'.time)

-- What the checks back ask: `led` is false only where there is no guard between two clocks.
pub record Turning (led : Bool) (up leads far : List ℕ) (L n K : ℕ) : Type 0 where
  pub going : Going up far L n K
  pub leading : Leading leads L
  pub whole : K % L ≡ 0
  pub idle : led ≡ false → back_of up (led_by leads) far L n K K ≡ upper_of up far L n K K

pub turning : (led : Bool) (R : Rows) → Sound R → Tells led R → Turning led R.up R.leads R.far R.steps R.clocks R.total
turning led R z t = record { going = going_up R z; leading = z.leads; whole = z.whole; idle = λ e. upper_all R.up R.leads R.far R.steps R.clocks R.total z.some z.leads (t e) }

module _ (led : Bool) (up leads far : List ℕ) (L n K : ℕ) (t : Turning led up leads far L n K) (e : led ≡ false) where
  pub upper_able : (s : State) (q : ℕ) → Checkable (back_of up (led_by leads) far L n K K) s q → Checkable (upper_of up far L n K K) s q
  upper_able s q = subst (λ ds. Checkable ds s q) (t.idle e)

  pub upper_checked : (h : Bool) (q : ℕ) (s s' : State) (g : Bool) (r : ℕ) → Checked (upper_of up far L n K K) h q s s' g r
      → Checked (back_of up (led_by leads) far L n K K) h q s s' g r
  upper_checked h q s s' g r = subst (λ ds. Checked ds h q s s' g r) (sym (t.idle e))

module _ (R : Rows) (q : ℕ) (s : State) (p : Passable R s q) where
  abbrev N : ℕ
  N = moments R

  abbrev partners : List Demand
  partners = partners_from R.total (starts_of R.start) 1 R.clocks

  abbrev forth : List Demand
  forth = forth_of R.low R.far R.steps R.clocks R.total 0 R.total

  abbrev back : List Demand
  back = back_of R.up (led_by R.leads) R.far R.steps R.clocks R.total R.total

  abbrev starts : List Demand
  starts = start_demands R.total any_starts 1 R.clocks

  few : length (sweep R) ≤ 144396
  few = sweep_few R.low R.up (led_by R.leads) R.far R.start R.steps R.clocks R.total p.sound.clocks p.sound.few
      (λ s. led_few R.leads p.sound.leads.size (s % R.steps))

  able : Checkable (partners ++ (forth ++ (back ++ starts))) s q
  able =
      record {
        moments = N;
        slight = p.sound.slight;
        room = p.room;
        top = 2 ^ 62;
        under = p.under;
        low = omega (arith, few);
        stamp = omega (arith, p.stamp, few);
      }

  pub partners_able : Checkable partners s q
  partners_able = checkable_left partners (forth ++ (back ++ starts)) s q able

  module _ (s₀ : State) (h₀ : Bool) (q₀ : ℕ) (c₀ : Checked partners false q s s₀ h₀ q₀) where
    later_able : Checkable (forth ++ (back ++ starts)) s₀ q₀
    later_able = checkable_right partners (forth ++ (back ++ starts)) false q s s₀ h₀ q₀ c₀ able

    pub forth_able : Checkable forth s₀ q₀
    forth_able = checkable_left forth (back ++ starts) s₀ q₀ later_able

    module _ (s₁ : State) (h₁ : Bool) (q₁ : ℕ) (c₁ : Checked forth h₀ q₀ s₀ s₁ h₁ q₁) where
      return_able : Checkable (back ++ starts) s₁ q₁
      return_able = checkable_right forth (back ++ starts) h₀ q₀ s₀ s₁ h₁ q₁ c₁ later_able

      pub back_able : Checkable back s₁ q₁
      back_able = checkable_left back starts s₁ q₁ return_able

      module _ (s₂ : State) (h₂ : Bool) (q₂ : ℕ) (c₂ : Checked back false q₁ s₁ s₂ h₂ q₂) where
        pub starts_able : Checkable starts s₂ q₂
        starts_able = checkable_right back starts false q₁ s₁ s₂ h₂ q₂ c₂ return_able

        module _ (s₃ : State) (h₃ : Bool) (q₃ : ℕ) (c₃ : Checked starts h₂ q₂ s₂ s₃ h₃ q₃) where
          F : List Constraint
          F = edges (partners ++ forth)

          B : List Constraint
          B = edges (back ++ starts)

          -- the partners and the way forth, then the others
          onward : Checked (partners ++ forth) false q s s₁ h₁ q₁
          onward = checked_append partners forth false q s s₀ h₀ q₀ c₀ s₁ h₁ q₁ c₁

          return : Checked (back ++ starts) false q₁ s₁ s₃ h₃ q₃
          return = checked_append back starts false q₁ s₁ s₂ h₂ q₂ c₂ s₃ h₃ q₃ c₃

          parts : edges (sweep R) ≡ F ++ B
          unfolding F B
          parts =
              ap edges (sym (append_assoc partners forth (back ++ starts)))
              ∙ map-append edge (partners ++ forth) (back ++ starts)

          next : q₁ ≡ q + length F
          unfolding F
          next = omega (arith, onward.stamp, length_edges (partners ++ forth))

          gone : s₁ ≡ pass_of F q s
          unfolding F
          gone = onward.after

          come : s₃ ≡ pass_of B q₁ s₁
          unfolding B
          come = return.after

          after : s₃ ≡ pass_of (F ++ B) q s
          after =
              come
              ∙ ap (λ k. pass_of B k s₁) next
              ∙ ap (λ x. pass_of B (q + length F) x) gone
              ∙ sym (pass_append F B q s)

          hit : hits_of B (q + length F) (pass_of F q s) ≡ h₃
          unfolding B
          hit =
              ap (λ x. hits_of B (q + length F) x) (sym gone)
              ∙ ap (λ k. hits_of B k s₁) (sym next)
              ∙ sym return.hits

          loud : h₃ ≡ true → hits_of (F ++ B) q s ≡ true
          loud e =
              hits_append F B q s ∙ ap (λ b. hits_of F q s || b) (hit ∙ e) ∙ or-true (hits_of F q s)

          slight : Every (Slight N) (partners ++ forth)
          slight =
              ((every_append (Slight N) (partners ++ forth) (back ++ starts)).0
              (subst (Every (Slight N)) (sym (append_assoc partners forth (back ++ starts))) p.sound.slight)).0

          holds : h₃ ≡ false → All (F ++ B) (at s₃.time)
          unfolding F
          holds e c m =
              let k = quiet B (q + length F) (pass_of F q s) (hit ∙ e) in
              let same : s₃ ≡ pass_of F q s = after ∙ pass_append F B q s ∙ k.kept in
              rw same
              (⊎_elim
              (onward_settles N F q s (slight_fits N (partners ++ forth) slight) p.room
              (way_onward R.low R.far R.steps R.clocks R.total (starts_of R.start) (start_upper R.start R.clocks))
              c)
              (k.holds c)
              (Memᴰ.append_cases F m))

          pub pass_swept : Swept R q s s₃ h₃ q₃
          unfolding constraints_of
          pass_swept =
              record {
                after = after ∙ ap (λ cs. pass_of cs q s) (sym parts);
                stamp =
                    omega (
                      arith,
                      return.stamp,
                      onward.stamp,
                      length_edges (sweep R),
                      length-append partners (forth ++ (back ++ starts)),
                      length-append forth (back ++ starts),
                      length-append partners forth,
                    );
                loud = λ e. ap (λ cs. hits_of cs q s) parts ∙ loud e;
                quiet = λ e. subst (λ cs. All cs (at s₃.time)) (sym parts) (holds e);
              }
