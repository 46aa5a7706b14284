-- The row, filled guard by guard.
use Rattle.std.specs.Prelude.{◌≡◌, refl, List, [], ◌∷◌, ◌++◌, map, ℕ, zero, suc, ◌+◌, ◌-◌, ◌≤◌, ◌<◌, length, get_or, set, take, drop, replicate}
use Rattle.std.proofs.Common.{sym, ap, subst, ◌∙◌, append-nil, arith, add-one, lt-ltb, le-ltb, eq-eqb, ne_eqb, length-set, length-append, length-take, length-drop, get_or-take, get_or-drop, get_or-set_same, get_or-set_other}
use Rattle.std.proofs.Math.Decide.{dec_lt, ℕ_discrete}
use Rattle.std.proofs.lemmas.List.{length-map, length-replicate, get_or-replicate, get_or_at}
use Rattle.std.proofs.Math.Seq.{slice, slice_empty, slice-cons}
use Rattle.std.specs.List.{AllWithin}
use Rattle.table.specs.Step.{Good}
use Rattle.table.specs.declared.Guard.{Guard}
use Rattle.table.specs.declared.Table.{Table}
use Rattle.scaling.specs.Scaled.{guards_in}
use Rattle.scaling.specs.Constants.{with_constant, with_at, table_with}
use Rattle.sides.specs.Tight.{paired}
use Rattle.leads.specs.Codes.{code_of}
use Rattle.leads.specs.Leads.{unread, leads_before, first_few, count_at, leads_of, is_leads, before_more, guards_size, before_step}

-- The steps up to step s are counted, and the leads before guard i have their numbers.
pub record Filling (T : Table) (row : List ℕ) (s i count : ℕ) : Type 0 where
  pub size : length row ≡ 82
  pub steps : s ≤ T.steps
  pub start : get_or T.ends 0 0 ≤ i
  pub first : get_or T.ends s 0 ≤ i
  pub last : s < T.steps → i ≤ get_or T.ends (s + 1) 0
  pub end : T.steps ≤ s → i ≤ guards_in T
  pub few : count ≤ i
  pub count_is : count ≡ length (leads_before T i)
  pub counted : (k : ℕ) → k ≤ s → get_or row k 0 ≡ length (leads_before T (get_or T.ends k 0))
  pub after : (k : ℕ) → s < k → k < 18 → get_or row k 0 ≡ 0
  pub numbered : (m : ℕ) → m < 64 → get_or row (18 + m) 0 ≡ get_or (map code_of (leads_before T i)) m 0

-- ---- one guard more
paired_none : (g : Guard) → g.second ≡ 0 → paired (g ∷ []) ≡ []
unfolding paired
paired_none g e = rw (eq-eqb g.second 0 e)

paired_some : (g : Guard) → ¬ (g.second ≡ 0) → paired (g ∷ []) ≡ g ∷ []
unfolding paired
paired_some g n = rw (ne_eqb g.second 0 n)

-- one number more
map_more : (gs : List Guard) (g : Guard) → map code_of (gs ++ g ∷ []) ≡ map code_of gs ++ code_of g ∷ []
map_more [] g = refl
map_more (h ∷ gs) g = ap (λ l. code_of h ∷ l) (map_more gs g)

get_d_other : (l : List ℕ) (v m : ℕ) → ¬ (m ≡ length l) → get_or (l ++ v ∷ []) m 0 ≡ get_or l m 0
get_d_other [] v zero n = absurd (n refl)
get_d_other [] v (suc m) n = refl
get_d_other (x ∷ l) v zero n = refl
get_d_other (x ∷ l) v (suc m) n = get_d_other l v m (λ e. n (ap suc e))

-- The guards have the constants of a row cs.
module _ (t : Table) (good : Good t) (cs : List ℕ) where
  abbrev T : Table
  T = table_with cs t

  module _ (i : ℕ) (d : Guard) (p : get_or t.ends 0 0 ≤ i) (q : i < 64) where
    abbrev g : Guard
    g = get_or t.guards i d

    -- with its constant of the row
    abbrev own : Guard
    own = with_constant (get_or cs i 0) g

    more : leads_before T (i + 1) ≡ leads_before T i ++ paired (own ∷ [])
    more =
        before_more T i (i + 1) p (omega arith) (omega (arith, guards_size t good cs))
        ∙ ap (λ gs. leads_before T i ++ paired gs) one
      where
        one : slice i (i + 1) T.guards ≡ own ∷ []
        one =
            slice-cons i (i + 1) T.guards d (omega arith) (omega (arith, guards_size t good cs))
            ∙ rw (← add-one i, slice_empty (i + 1) T.guards, with_at cs t.guards i d (omega (arith, good.guards_size))) refl

    pub before_plain : g.second ≡ 0 → leads_before T (i + 1) ≡ leads_before T i
    before_plain e = more ∙ ap (λ gs. leads_before T i ++ gs) (paired_none own e) ∙ append-nil (leads_before T i)

    before_lead : ¬ (g.second ≡ 0) → leads_before T (i + 1) ≡ leads_before T i ++ own ∷ []
    before_lead n = more ∙ ap (λ gs. leads_before T i ++ gs) (paired_some own n)

  -- none before the first guard, and none behind guards of one clock
  pub before_first : (i : ℕ) → i ≡ get_or t.ends 0 0 → leads_before T i ≡ []
  unfolding paired
  before_first i e = rw (e, slice_empty (get_or t.ends 0 0) T.guards)

  pub before_plains : (d : Guard) (n i : ℕ) → get_or t.ends 0 0 + n ≡ i → i ≤ 64
      → ((k : ℕ) → k < n → (get_or t.guards (get_or t.ends 0 0 + k) d).second ≡ 0) → leads_before T i ≡ []
  before_plains d zero i e l h = before_first i (omega arith)
  before_plains d (suc n) i e l h =
      let next : (get_or t.ends 0 0 + n) + 1 ≡ i = omega arith in
      rw (← next)
      (before_plain (get_or t.ends 0 0 + n) d (omega arith) (omega arith) (h n (omega arith))
      ∙ before_plains d n (get_or t.ends 0 0 + n) refl (omega arith) (λ k b. h k (omega arith)))

  abbrev empty : List ℕ
  empty = replicate 82 0

  zero_at : (k : ℕ) → k < 82 → get_or empty k 0 ≡ 0
  zero_at k b = get_or-replicate {A = ℕ} 82 k 0 0 b

  pub filling_first : Filling T empty 0 (get_or t.ends 0 0) 0
  filling_first =
      record {
        size = length-replicate {A = ℕ} 82 0;
        steps = omega arith;
        start = omega arith;
        first = omega arith;
        last = λ l. good.order 0 l;
        end = λ l. absurd (omega (arith, good.steps_some));
        few = omega arith;
        count_is = sym none;
        counted = λ k l.
            let e : 0 ≡ k = omega arith in
            zero_at k (omega arith) ∙ sym none ∙ ap (λ n. length (leads_before T (get_or t.ends n 0))) e;
        after = λ k l b. zero_at k (omega arith);
        numbered = λ m b. zero_at (18 + m) (omega arith) ∙ ap (λ gs. get_or (map code_of gs) m 0) (sym (before_first (get_or t.ends 0 0) refl));
      }
    where
      none : length (leads_before T (get_or t.ends 0 0)) ≡ 0
      none = ap length (before_first (get_or t.ends 0 0) refl)

  module _ (row : List ℕ) (s i count : ℕ) (f : Filling T row s i count) where
    module _ (l : s < t.steps) where
      -- a step that has no guard left is counted
      pub filling_step : (v : ℕ) → i ≡ get_or t.ends (s + 1) 0 → v ≡ count → Filling T (set row (s + 1) v) (s + 1) i count
      filling_step v e c =
          record {
            size = length-set row (s + 1) v ∙ f.size;
            steps = omega arith;
            start = f.start;
            first = omega arith;
            last = λ m. omega (arith, good.order (s + 1) m);
            end = λ m. let same : s + 1 ≡ t.steps = omega arith in omega (arith, ap (λ k. get_or t.ends k 0) same);
            few = f.few;
            count_is = f.count_is;
            counted = λ k m. go k (dec_lt s k) m;
            after = λ k m b. get_or-set_other row (s + 1) k v 0 (omega arith) ∙ f.after k (omega arith) b;
            numbered = λ m b. get_or-set_other row (s + 1) (18 + m) v 0 (omega (arith, good.steps_few)) ∙ f.numbered m b;
          }
        where
          go : (k : ℕ) → Dec (s < k) → k ≤ s + 1 → get_or (set row (s + 1) v) k 0 ≡ length (leads_before T (get_or t.ends k 0))
          go k (no n) m = get_or-set_other row (s + 1) k v 0 (omega arith) ∙ f.counted k (omega arith)
          go k (yes n) m =
              let same : s + 1 ≡ k = omega arith in
              subst (λ x. get_or (set row (s + 1) v) x 0 ≡ length (leads_before T (get_or t.ends x 0))) same
              (get_or-set_same row (s + 1) v 0 (omega (arith, f.size, good.steps_few))
              ∙ c
              ∙ f.count_is
              ∙ ap (λ j. length (leads_before T j)) e)

      module _ (b : i < get_or t.ends (s + 1) 0) where
        pub guard_room : i < 64
        guard_room = omega (arith, good.room (s + 1) (omega arith))

        pub lead_room : count < 64
        lead_room = omega (arith, f.few, guard_room)

        -- a guard on one clock is left out
        pub filling_plain : (d : Guard) → (get_or t.guards i d).second ≡ 0 → Filling T row s (i + 1) count
        filling_plain d e =
            record {
              size = f.size;
              steps = f.steps;
              start = omega (arith, f.start);
              first = omega (arith, f.first);
              last = λ _. omega arith;
              end = λ m. absurd (omega arith);
              few = omega (arith, f.few);
              count_is = f.count_is ∙ ap length (sym same);
              counted = f.counted;
              after = f.after;
              numbered = λ m b. f.numbered m b ∙ ap (λ gs. get_or (map code_of gs) m 0) (sym same);
            }
          where
            same : leads_before T (i + 1) ≡ leads_before T i
            same = before_plain i d f.start guard_room e

        -- and a lead has its number
        pub filling_lead : (d : Guard) (v : ℕ) → ¬ ((get_or t.guards i d).second ≡ 0)
            → v ≡ code_of (with_constant (get_or cs i 0) (get_or t.guards i d))
            → Filling T (set row (18 + count) v) s (i + 1) (count + 1)
        filling_lead d v n e =
            record {
              size = length-set row (18 + count) v ∙ f.size;
              steps = f.steps;
              start = omega (arith, f.start);
              first = omega (arith, f.first);
              last = λ _. omega arith;
              end = λ m. absurd (omega arith);
              few = omega (arith, f.few);
              count_is = omega (arith, f.count_is, ap length longer, length-append (leads_before T i) (lead ∷ []));
              counted = λ k m. get_or-set_other row (18 + count) k v 0 (omega (arith, good.steps_few)) ∙ f.counted k m;
              after = λ k m b. get_or-set_other row (18 + count) k v 0 (omega arith) ∙ f.after k m b;
              numbered = λ m b.
                  go m b (ℕ_discrete m count)
                  ∙ sym (ap (λ gs. get_or (map code_of gs) m 0) longer ∙ ap (λ l. get_or l m 0) (map_more (leads_before T i) lead));
            }
          where
            lead : Guard
            lead = with_constant (get_or cs i 0) (get_or t.guards i d)

            longer : leads_before T (i + 1) ≡ leads_before T i ++ lead ∷ []
            longer = before_lead i d f.start guard_room n

            numbers : length (map code_of (leads_before T i)) ≡ count
            numbers = length-map (leads_before T i) code_of ∙ sym f.count_is

            go : (m : ℕ) → m < 64 → Dec (m ≡ count)
                → get_or (set row (18 + count) v) (18 + m) 0 ≡ get_or (map code_of (leads_before T i) ++ code_of lead ∷ []) m 0
            go m b (yes q) =
                rw q
                (get_or-set_same row (18 + count) v 0 (omega (arith, f.size))
                ∙ e
                ∙ sym (get_or_at (map code_of (leads_before T i)) (code_of lead) [] 0 count numbers))
            go m b (no q) =
                get_or-set_other row (18 + count) (18 + m) v 0 (omega arith)
                ∙ f.numbered m b
                ∙ sym (get_d_other (map code_of (leads_before T i)) (code_of lead) m (omega (arith, numbers)))

    pub filling_last : t.steps ≤ s → row ≡ leads_of T
    filling_last l =
        is_leads T row f.size (λ k b. go k b (dec_lt t.steps k))
        (λ m b. f.numbered m b ∙ ap (λ j. get_or (map code_of (leads_before T j)) m 0) all)
      where
        same : s ≡ t.steps
        same = omega (arith, f.steps)

        all : i ≡ guards_in t
        all = omega (arith, f.first, f.end l, ap (λ k. get_or t.ends k 0) same)

        go : (k : ℕ) → k < 18 → Dec (t.steps < k) → get_or row k 0 ≡ count_at T k
        go k b (yes m) = rw (lt-ltb t.steps k m) (f.after k (omega (arith, same)) b)
        go k b (no m) = let n : k ≤ t.steps = omega arith in rw (le-ltb t.steps k n) (f.counted k (omega (arith, same)))

  -- without a lead every place is 0
  pub no_leads : leads_before T (guards_in t) ≡ [] → empty ≡ leads_of T
  no_leads e =
      is_leads T empty (length-replicate {A = ℕ} 82 0) (λ k b. zero_at k (omega arith) ∙ sym (go k (dec_lt t.steps k)))
      (λ m b. zero_at (18 + m) (omega arith) ∙ ap (λ gs. get_or (map code_of gs) m 0) (sym e))
    where
      go : (k : ℕ) → Dec (t.steps < k) → count_at T k ≡ 0
      go k (yes m) = rw (lt-ltb t.steps k m)
      go k (no m) =
          let n : k ≤ t.steps = omega arith in
          let f : ℕ = get_or t.ends k 0 in
          rw (le-ltb t.steps k n)
          (omega (
            arith,
            ap length e,
            ap length (before_step t good cs k n),
            length-append (leads_before T f) (paired (slice f (guards_in t) T.guards)),
          ))

  -- and there is none where no guard of the table has a second clock
  pub plain_guards : let first = get_or t.ends 0 0 in let guards = take (guards_in t - first) (drop first t.guards) in
      AllWithin (λ (g : Guard). g.second ≡ 0) guards 0 (length guards) → empty ≡ leads_of T
  plain_guards h =
      no_leads
      (before_plains unread (guards_in t - first) (guards_in t) (omega (arith, few)) room
      (λ k b. rw (get_or-take (guards_in t - first) (drop first t.guards) k unread b, get_or-drop first t.guards k unread) at
      (h k unread (omega arith) (omega (arith, size)))))
    where
      first : ℕ
      first = get_or t.ends 0 0

      room : guards_in t ≤ 64
      room = good.room t.steps (omega arith)

      few : first ≤ guards_in t
      few = first_few t good cs t.steps (omega arith)

      size : length (take (guards_in t - first) (drop first t.guards)) ≡ guards_in t - first
      size = omega (arith, length-take (guards_in t - first) (drop first t.guards), length-drop first t.guards, good.guards_size, few, room)
