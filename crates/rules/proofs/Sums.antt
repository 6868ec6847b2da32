-- After every list of calls the recorded weight is the sum of the weights held, and the entry count is how many are held.
use Rattle.std.proofs.Common.{◌≡◌, ℕ, zero, suc, ◌+◌, ◌-◌, ◌*◌, ◌^◌, ◌<◌, ◌≤◌, Bool, true, false, cond, ◌&&◌, eqb, leb, List, [], ◌∷◌, ◌++◌, length, Some, None, Option, sym, refl, ap, ◌∙◌, subst, inl, inr, arith}
use Rattle.std.proofs.lemmas.Bool.{cases_Bool, both_ways, eq-eqb, ne_eqb, eqb-false, and_cases, leb-false}
use Rattle.rules.specs.Fronts.{total, without, passing, freeing, among, In, tally}
use Rattle.rules.specs.declared.choices.Choices.{Choices}
use Rattle.rules.specs.declared.call.Call.{Call}
use Rattle.rules.specs.declared.call.Call.TheVariants.{Get, Contains, Insert, Invalidate, InvalidateAll}
use Rattle.rules.specs.declared.answer.Answer.TheVariants.{Refused}
use Rattle.refusals.specs.declared.Refusal.TheVariants.{BeyondRange}
use Rattle.rules.specs.declared.departure.Departure.{Departure}
use Rattle.rules.specs.Kinds.{Kind, Lawful}
use Rattle.rules.specs.Entries.{Sizes, Entry, State, fresh}
use Rattle.rules.specs.Limits.{top, latest, excess}
use Rattle.rules.specs.Passes.{expired, leave, written, cells_of, lived_out, idled_out, life_pass, idle_pass, trim_pass, after_life, after_idle, passed, passes_told}
use Rattle.rules.specs.Votes.{verdict, fits_in, outvotes, loses, none}
use Rattle.rules.specs.Calls.{Outcome, held, got, asked, struck, inserted, came, counted, to_back, touched_at, rewritten, touch_entry, replace_entry, admit, newcomer, full, timely, outcome, step}
use Rattle.rules.specs.Runs.{Turn, after, line, end}
use Rattle.rules.specs.Items.{Ledger, empty}
use Rattle.rules.specs.Ledger.{handing, fitting}
use Rattle.rules.specs.Account.{times, told_tickets, AllFree}
use Rattle.rules.specs.Sums.{AddsUp, SumsOf}
use Rattle.rules.proofs.Fronts.{tally_without, in_tally, first_in, same_one, in_without, in_append, in_freeing}
use Rattle.rules.specs.Agreement.{Coherent, ledger_of}
use Rattle.rules.proofs.Erasing.{From, in_stays, leave_kept, life_from, idle_from, trim_from, k1, k2, passed_kept}
use Rattle.rules.proofs.Settling.{sum_append}
use Rattle.rules.proofs.Voting.{verdict_is, run_of, wins}
use Rattle.rules.proofs.Telling.{in_fails, tally_take, tally_passing, tally_freeing, tally_looked, among_in, in_among}
use Rattle.rules.proofs.Steps.{sketch_kept}
use Rattle.rules.proofs.Standing.{Stands, fresh_stands, fresh_next, turn_stands, ledger_on}

module _ {A : Type 0} where
  length_total : (xs : List A) → length xs ≡ total (λ x. 1) xs
  length_total [] = refl
  length_total (x ∷ xs) = omega (arith, length_total xs)

  without_none : (q : A → Bool) (xs : List A) → tally q xs ≡ 0 → without q xs ≡ xs
  without_none q [] e = refl
  without_none q (x ∷ xs) e =
      elim (cases_Bool (q x)) [
        | inl t ↦ let k : ◌≡◌ {A = ℕ} (1 + tally q xs) 0 = rw t at e in absurd (omega arith)
        | inr t ↦ let k : ◌≡◌ {A = ℕ} (0 + tally q xs) 0 = rw t at e in rw t (ap (λ (l : List A). x ∷ l) (without_none q xs (omega arith)))
      ]

  -- one that goes takes its own
  total_less : (f num : A → ℕ) (a : A) (xs : List A) → In a xs → tally (λ x. eqb (num x) (num a)) xs ≤ 1 → f a + total f (without (λ x. eqb (num x) (num a)) xs) ≡ total f xs
  total_less f num a [] i l = absurd i
  total_less f num a (x ∷ xs) (inl h) l =
      let t : eqb (num x) (num a) ≡ true = eq-eqb (num x) (num a) (ap num (sym h)) in
      let k : 1 + tally (λ y. eqb (num y) (num a)) xs ≤ 1 = rw t at l in
      rw (t, without_none (λ y. eqb (num y) (num a)) xs (omega arith)) (ap (λ (y : A). f y + total f xs) h)
  total_less f num a (x ∷ xs) (inr i) l =
      elim (cases_Bool (eqb (num x) (num a))) [
        | inl t ↦
            let k : 1 + tally (λ y. eqb (num y) (num a)) xs ≤ 1 = rw t at l in
            absurd (omega (arith, in_tally (λ y. eqb (num y) (num a)) a xs i (eq-eqb (num a) (num a) refl)))
        | inr t ↦
            let k : 0 + tally (λ y. eqb (num y) (num a)) xs ≤ 1 = rw t at l in
            rw t (omega (arith, total_less f num a xs i (omega arith)))
      ]

  -- those that go take their own
  out_total : (f num : A → ℕ) (q : A → Bool) (xs es : List A)
      → ((a : A) → In a es → In a xs) → ((n : ℕ) → tally (λ a. eqb (num a) n) xs ≤ 1) → ((n : ℕ) → tally (λ a. eqb (num a) n) es ≤ 1)
      → ((a : A) → In a xs → q a ≡ true → In a es) → ((a : A) → In a es → q a ≡ true)
      → total f es + total f (without q xs) ≡ total f xs
  out_total f num q [] [] from one once goes gone = omega arith
  out_total f num q [] (e ∷ es) from one once goes gone = absurd (from e (inl refl))
  out_total f num q (x ∷ xs) es from one once goes gone =
      let tail : (n : ℕ) → tally (λ a. eqb (num a) n) xs ≤ 1 = λ n. omega (arith, one n) in
      elim (cases_Bool (q x)) [
        | inl t ↦
            let here : In x es = goes x (inl refl) t in
            let is : Bool → Bool = λ b. b in
            let es' = without (λ a. eqb (num a) (num x)) es in
            let apart : (a : A) → In a xs → eqb (num a) (num x) ≡ false = λ a i. ne_eqb (num a) (num x) (λ h.
            let l : 1 + tally (λ y. eqb (num y) (num x)) xs ≤ 1 = rw (eq-eqb (num x) (num x) refl) at (one (num x)) in
            omega (arith, in_tally (λ y. eqb (num y) (num x)) a xs i (eq-eqb (num a) (num x) h))) in
            let other : (a : A) → In a es' → eqb (num a) (num x) ≡ false = λ a i. in_fails (λ y. eqb (num y) (num x)) a es i in
            let ih : total f es' + total f (without q xs) ≡ total f xs =
            out_total f num q xs es'
            (λ a i. elim (from a (in_without (λ y. eqb (num y) (num x)) a es i)) [ inl h ↦ absurd (eqb-false (num a) (num x) (other a i) (ap num h)) | inr j ↦ j ])
            tail
            (λ n. omega (arith, once n, tally_without (λ a. eqb (num a) n) (λ a. eqb (num a) (num x)) es))
            (λ a i u. in_stays (λ y. eqb (num y) (num x)) a es (goes a (inr i) u) (apart a i))
            (λ a i. gone a (in_without (λ y. eqb (num y) (num x)) a es i)) in
            rw t (omega (arith, ih, total_less f num x es here (once (num x))))
        | inr t ↦
            let ih : total f es + total f (without q xs) ≡ total f xs =
            out_total f num q xs es
            (λ a i. elim (from a i) [ inl h ↦ absurd (both_ways (q x) t (ap q (sym h) ∙ gone a i)) | inr j ↦ j ])
            tail once (λ a i u. goes a (inr i) u) gone in
            rw t (omega (arith, ih))
      ]

  total_bound : (f : A → ℕ) (b : ℕ) (xs : List A) → ((a : A) → In a xs → f a < 2 ^ 32) → length xs ≤ b → total f xs ≤ b * 2 ^ 32
  total_bound f b [] h l = omega arith
  total_bound f zero (x ∷ xs) h l = absurd (omega arith)
  total_bound f (suc b) (x ∷ xs) h l = omega (arith, h x (inl refl), total_bound f b xs (λ a i. h a (inr i)) (omega arith))

none_long : {A : Type 0} (xs : List A) → none xs ≡ false → 1 ≤ length xs
none_long [] e = absurd (both_ways true e refl)
none_long (x ∷ xs) e = omega arith

module _ {Key Value : Type 0} where
  abbrev heavy : Entry Key Value → ℕ
  heavy e = e.weight

  abbrev cell_of : Entry Key Value → ℕ
  cell_of e = e.cell

  abbrev unit : Entry Key Value → ℕ
  unit e = 1

  module _ (kind : Kind Key Value) (sizes : Sizes) (small : sizes.cells ≤ 4096) where
    module _ (s : State Key Value) (ok : Coherent kind s) (up : AddsUp sizes s) where
      -- ---- some leave

      leave_recorded : (es : List (Entry Key Value)) → (leave es s).recorded ≡ s.recorded - total heavy es
      unfolding leave
      leave_recorded es = refl

      leave_count : (es : List (Entry Key Value)) → (leave es s).count ≡ s.count - length es
      unfolding leave
      leave_count es = refl

      leave_in : (es : List (Entry Key Value)) (e : Entry Key Value) → In e (leave es s).touch → In e s.touch
      unfolding leave
      leave_in es e i = in_without (λ (x : Entry Key Value). among (cells_of es) x.cell) e s.touch i

      gone_total : (f : Entry Key Value → ℕ) (es : List (Entry Key Value)) → From es s → ((n : ℕ) → tally (λ (e : Entry Key Value). eqb e.cell n) es ≤ 1) → total f es + total f (leave es s).touch ≡ total f s.touch
      unfolding leave
      gone_total f es from once =
          out_total f cell_of (λ (e : Entry Key Value). among (cells_of es) e.cell) s.touch es from ok.cells once
          (λ a i t.
          let r = among_in cell_of a.cell es t in
          let same : r.0 ≡ a = same_one (λ (x : Entry Key Value). eqb x.cell a.cell) r.0 a s.touch (from r.0 r.1) i (eq-eqb r.0.cell a.cell r.2) (eq-eqb a.cell a.cell refl) (ok.cells a.cell) in
          subst (λ (z : Entry Key Value). In z es) same r.1)
          (λ a i. in_among cell_of a es i)

      gone_length : (es : List (Entry Key Value)) → From es s → ((n : ℕ) → tally (λ (e : Entry Key Value). eqb e.cell n) es ≤ 1) → length es + length (leave es s).touch ≡ length s.touch
      gone_length es from once = omega (arith, gone_total unit es from once, length_total es, length_total (leave es s).touch, length_total s.touch)

      leave_sums : (es : List (Entry Key Value)) → From es s → ((n : ℕ) → tally (λ (e : Entry Key Value). eqb e.cell n) es ≤ 1) → AddsUp sizes (leave es s)
      leave_sums es from once = record {
        recorded = was_recorded ∙ (let e = gone_total heavy es from once in let u = up.recorded in let g : s.recorded - total heavy es ≡ total heavy (leave es s).touch = omega arith in g);
        count = was_count ∙ (let e = gone_length es from once in let u = up.count in let g : s.count - length es ≡ length (leave es s).touch = omega arith in g);
        room = omega (arith, gone_length es from once, up.room);
        light = λ e i. up.light e (was_in e i);
      }
        where
          was_recorded : (leave es s).recorded ≡ s.recorded - total heavy es
          was_recorded = leave_recorded es

          was_count : (leave es s).count ≡ s.count - length es
          was_count = leave_count es

          was_in : (e : Entry Key Value) → In e (leave es s).touch → In e s.touch
          was_in e i = leave_in es e i

      -- ---- one goes to the back

      back_total : (f : Entry Key Value → ℕ) (e e' : Entry Key Value) → In e s.touch → e'.cell ≡ e.cell → f e + total f (to_back e' s.touch) ≡ f e' + total f s.touch
      back_total f e e' here c =
          let a : total f (without (λ (x : Entry Key Value). eqb x.cell e'.cell) s.touch ++ (e' ∷ [])) ≡ total f (without (λ (x : Entry Key Value). eqb x.cell e'.cell) s.touch) + (f e' + 0) =
          sum_append f (without (λ (x : Entry Key Value). eqb x.cell e'.cell) s.touch) (e' ∷ []) in
          let b : f e + total f (without (λ (x : Entry Key Value). eqb x.cell e'.cell) s.touch) ≡ total f s.touch =
          subst (λ (n : ℕ). f e + total f (without (λ (x : Entry Key Value). eqb x.cell n) s.touch) ≡ total f s.touch) (sym c) (total_less f cell_of e s.touch here (ok.cells e.cell)) in
          omega (arith, a, b)

      back_length : (e e' : Entry Key Value) → In e s.touch → e'.cell ≡ e.cell → length (to_back e' s.touch) ≡ length s.touch
      back_length e e' here c = omega (arith, back_total unit e e' here c, length_total (to_back e' s.touch), length_total s.touch)

      back_light : (e e' : Entry Key Value) → e'.weight < 2 ^ 32 → (x : Entry Key Value) → In x (to_back e' s.touch) → x.weight < 2 ^ 32
      back_light e e' l x i =
          elim (in_append x (without (λ (y : Entry Key Value). eqb y.cell e'.cell) s.touch) (e' ∷ []) i) [
            | inl j ↦ up.light x (in_without (λ (y : Entry Key Value). eqb y.cell e'.cell) x s.touch j)
            | inr j ↦ elim j [ inl h ↦ subst (λ (y : Entry Key Value). y.weight < 2 ^ 32) (sym h) l | inr z ↦ absurd z ]
          ]

      touch_sums : (now : ℕ) (e : Entry Key Value) → In e s.touch → AddsUp sizes (touch_entry now e s)
      unfolding touch_entry
      touch_sums now e here = record {
        recorded = omega (arith, up.recorded, back_total heavy e (touched_at now e) here refl);
        count = omega (arith, up.count, back_length e (touched_at now e) here refl);
        room = omega (arith, up.room, back_length e (touched_at now e) here refl);
        light = back_light e (touched_at now e) (up.light e here);
      }

      bounded : (xs : List (Entry Key Value)) → ((e : Entry Key Value) → In e xs → e.weight < 2 ^ 32) → length xs ≤ sizes.cells → total heavy xs < top
      bounded xs l n = omega (arith, total_bound heavy 4096 xs l (omega arith))

      replace_sums : (life : Option ℕ) (v : Value) (w now : ℕ) (e : Entry Key Value) → In e s.touch → w < 2 ^ 32 → AddsUp sizes (replace_entry life v w now e s)
      unfolding replace_entry
      replace_sums life v w now e here l =
          let e' = rewritten v w now e in
          let n = back_length e e' here refl in
          let b = bounded (to_back e' s.touch) (back_light e e' l) (omega (arith, up.room, n)) in
          record {
            recorded = omega (arith, up.recorded, back_total heavy e e' here refl, b, total_less heavy cell_of e s.touch here (ok.cells e.cell));
            count = omega (arith, up.count, n);
            room = omega (arith, up.room, n);
            light = back_light e e' l;
          }

      -- ---- one more

      admit_sums : (life : Option ℕ) (e : Entry Key Value) → e.weight < 2 ^ 32 → length s.touch < sizes.cells → AddsUp sizes (admit life e s)
      unfolding admit
      admit_sums life e l r =
          let n : length (s.touch ++ (e ∷ [])) ≡ length s.touch + 1 =
          omega (arith, length_total (s.touch ++ (e ∷ [])), length_total s.touch, sum_append unit s.touch (e ∷ [])) in
          let light : (x : Entry Key Value) → In x (s.touch ++ (e ∷ [])) → x.weight < 2 ^ 32 =
          λ x i. elim (in_append x s.touch (e ∷ []) i) [ inl j ↦ up.light x j | inr j ↦ elim j [ inl h ↦ subst (λ (y : Entry Key Value). y.weight < 2 ^ 32) (sym h) l | inr z ↦ absurd z ] ] in
          let b = bounded (s.touch ++ (e ∷ [])) light (omega (arith, n)) in
          record {
            recorded = omega (arith, up.recorded, sum_append heavy s.touch (e ∷ []), b);
            count = omega (arith, up.count, n);
            room = omega (arith, n);
            light = light;
          }

    -- ---- the passes

    module _ (choices : Choices) (now : ℕ) where
      life_cells : (s : State Key Value) → Coherent kind s → (n : ℕ) → tally (λ (e : Entry Key Value). eqb e.cell n) (life_pass choices now s) ≤ 1
      unfolding life_pass
      life_cells s ok n =
          let p : Entry Key Value → Bool = λ e. eqb e.cell n in
          omega (arith, tally_take (λ (e : Entry Key Value). eqb e.cell n) 100 (passing (lived_out choices now) (written s)), tally_passing (λ (e : Entry Key Value). eqb e.cell n) (lived_out choices now) (written s), tally_looked cell_of n s.touch s.write, ok.once n)

      idle_cells : (s : State Key Value) → Coherent kind s → (n : ℕ) → tally (λ (e : Entry Key Value). eqb e.cell n) (idle_pass choices now s) ≤ 1
      unfolding idle_pass
      idle_cells s ok n =
          omega (arith, tally_take (λ (e : Entry Key Value). eqb e.cell n) 100 (passing (idled_out choices now) s.touch), tally_passing (λ (e : Entry Key Value). eqb e.cell n) (idled_out choices now) s.touch, ok.cells n)

      trim_cells : (s : State Key Value) → Coherent kind s → (n : ℕ) → tally (λ (e : Entry Key Value). eqb e.cell n) (trim_pass choices now s) ≤ 1
      unfolding trim_pass
      trim_cells s ok n =
          omega (arith, tally_take (λ (e : Entry Key Value). eqb e.cell n) 100 (freeing heavy (excess choices.capacity s.recorded) s.touch), tally_freeing (λ (e : Entry Key Value). eqb e.cell n) heavy (excess choices.capacity s.recorded) s.touch, ok.cells n)

      passed_sums : (s : State Key Value) → Coherent kind s → AddsUp sizes s → AddsUp sizes (passed choices now s)
      unfolding passed
      passed_sums s ok up =
          let a1 = after_life choices now s in
          let a2 = after_idle choices now s in
          let ok1 = k1 kind choices now s ok in
          let ok2 = k2 kind choices now s ok in
          let up1 = leave_sums s ok up (life_pass choices now s) (life_from kind choices now s) (life_cells s ok) in
          let up2 = leave_sums a1 ok1 up1 (idle_pass choices now a1) (idle_from kind choices now a1) (idle_cells a1 ok1) in
          leave_sums a2 ok2 up2 (trim_pass choices now a2) (trim_from kind choices now a2) (trim_cells a2 ok2)

    -- ---- the calls

    module _ (choices : Choices) (free : ℕ) (narrow : (k : Key) (v : Value) → kind.weighs k v < 2 ^ 32) where
      module _ (p : State Key Value) (ok : Coherent kind p) (up : AddsUp sizes p) (ds : List Departure) where
        here : (k : Key) (e : Entry Key Value) → held kind k p ≡ Some e → In e p.touch
        here k e h = (first_in (λ (x : Entry Key Value). kind.alike x.key k) e p.touch h).0

        counted_sums : (k : Key) → AddsUp sizes (counted kind k p)
        counted_sums k = record { recorded = up.recorded; count = up.count; room = up.room; light = up.light }

        counted_kept : (k : Key) → Coherent kind (counted kind k p)
        counted_kept k = sketch_kept kind p ok (counted kind k p).sketch

        got_sums : (k : Key) (now : ℕ) → AddsUp sizes (got choices now (held kind k p) (counted kind k p) ds).state
        got_sums k now = go (held kind k p) refl
          where
            go : (x : Option (Entry Key Value)) → held kind k p ≡ x → AddsUp sizes (got choices now x (counted kind k p) ds).state
            go None h = counted_sums k
            go (Some e) h = elim (cases_Bool (expired choices now e)) [ inl t ↦ rw t (counted_sums k) | inr t ↦ rw t (touch_sums (counted kind k p) (counted_kept k) (counted_sums k) now e (here k e h)) ]

        asked_sums : (now : ℕ) (x : Option (Entry Key Value)) → AddsUp sizes (asked choices now x p ds).state
        asked_sums now None = up
        asked_sums now (Some e) = up

        one_cell : (e : Entry Key Value) (n : ℕ) → tally (λ (x : Entry Key Value). eqb x.cell n) (e ∷ []) ≤ 1
        one_cell e n = elim (cases_Bool (eqb e.cell n)) [ inl t ↦ rw t (omega arith) | inr t ↦ rw t (omega arith) ]

        struck_sums : (k : Key) → AddsUp sizes (struck (held kind k p) p ds).state
        struck_sums k = go (held kind k p) refl
          where
            go : (x : Option (Entry Key Value)) → held kind k p ≡ x → AddsUp sizes (struck x p ds).state
            go None h = up
            go (Some e) h = leave_sums p ok up (e ∷ []) (λ a i. elim i [ inl g ↦ subst (λ (z : Entry Key Value). In z p.touch) (sym g) (here k e h) | inr z ↦ absurd z ]) (one_cell e)

        module _ (k : Key) (v : Value) (now : ℕ) where
          abbrev run : List (Entry Key Value)
          run = run_of kind choices sizes p ok k v

          run_from : From run p
          run_from a i = in_freeing heavy (kind.weighs k v) a p.touch i

          run_cells : (n : ℕ) → tally (λ (e : Entry Key Value). eqb e.cell n) run ≤ 1
          run_cells n = omega (arith, tally_freeing (λ (e : Entry Key Value). eqb e.cell n) heavy (kind.weighs k v) p.touch, ok.cells n)

          fits_sums : AddsUp sizes (came kind choices sizes free k v now fits_in p ds).state
          fits_sums =
              elim (cases_Bool (full sizes p)) [
                | inl u ↦ rw u up
                | inr u ↦ rw u (
                    let a = admit_sums p ok up choices.life (newcomer kind free k v now p.next) (narrow k v) (leb-false sizes.cells (length p.touch) u) in
                    record { recorded = a.recorded; count = a.count; room = a.room; light = a.light })
              ]

          wins_sums : AddsUp sizes (came kind choices sizes free k v now (outvotes run) p ds).state
          wins_sums =
              elim (cases_Bool (none run && full sizes p)) [
                | inl u ↦ rw u up
                | inr u ↦ rw u (
                    let n = gone_length p ok up run run_from run_cells in
                    let left = leave_sums p ok up run run_from run_cells in
                    let r : length (leave run p).touch < sizes.cells = elim (and_cases (none run) (full sizes p) u) [
                      | inl a ↦ omega (arith, n, none_long run a, up.room)
                      | inr a ↦ omega (arith, n, leb-false sizes.cells (length p.touch) a)
                    ] in
                    admit_sums (leave run p) (leave_kept kind p ok run) left choices.life (newcomer kind free k v now (leave run p).next) (narrow k v) r)
              ]

          came_sums : AddsUp sizes (came kind choices sizes free k v now (verdict kind choices k v p) p ds).state
          came_sums =
              let is = verdict_is kind choices sizes p ok k v in
              rw is (elim (fitting kind choices (ledger_of p) k v) as (λ b. AddsUp sizes (came kind choices sizes free k v now (cond b fits_in (cond (wins kind choices sizes (ledger_of p) k v) (outvotes run) loses)) p ds).state) [
                | true ↦ fits_sums
                | false ↦ elim (wins kind choices sizes (ledger_of p) k v) as (λ b. AddsUp sizes (came kind choices sizes free k v now (cond b (outvotes run) loses) p ds).state) [ true ↦ wins_sums | false ↦ up ]
              ])

          inserted_sums : AddsUp sizes (inserted kind choices sizes free k v now (held kind k p) p ds).state
          inserted_sums = go (held kind k p) refl
            where
              go : (x : Option (Entry Key Value)) → held kind k p ≡ x → AddsUp sizes (inserted kind choices sizes free k v now x p ds).state
              go None h = came_sums
              go (Some e) h = replace_sums p ok up choices.life v (kind.weighs k v) now e (here k e h) (narrow k v)

      timely_sums : (now : ℕ) (s : State Key Value) (o : Outcome Key Value) → AddsUp sizes s → AddsUp sizes o.state → AddsUp sizes (timely now s o).state
      timely_sums now s o up h = elim (leb now latest) as (λ b. AddsUp sizes (cond b o (outcome s (Refused BeyondRange) [])).state) [ true ↦ h | false ↦ up ]

      pub step_sums : (s : State Key Value) → Coherent kind s → AddsUp sizes s → (c : Call Key Value) → AddsUp sizes (step kind choices sizes free s c).state
      unfolding step
      step_sums s ok up (Get k now) = timely_sums now s _ up (got_sums (passed choices now s) (passed_kept kind choices now s ok) (passed_sums choices now s ok up) (passes_told choices now s) k now)
      step_sums s ok up (Contains k now) = timely_sums now s _ up (asked_sums (passed choices now s) (passed_kept kind choices now s ok) (passed_sums choices now s ok up) (passes_told choices now s) now (held kind k (passed choices now s)))
      step_sums s ok up (Insert k v now) = timely_sums now s _ up (inserted_sums (passed choices now s) (passed_kept kind choices now s ok) (passed_sums choices now s ok up) (passes_told choices now s) k v now)
      step_sums s ok up (Invalidate k now) = timely_sums now s _ up (struck_sums (passed choices now s) (passed_kept kind choices now s ok) (passed_sums choices now s ok up) (passes_told choices now s) k)
      step_sums s ok up InvalidateAll = record { recorded = refl; count = refl; room = omega arith; light = λ e i. absurd i }

-- ---- every list of calls

module _ {Key Value : Type 0} (kind : Kind Key Value) (choices : Choices) (sizes : Sizes) (law : Lawful kind) (narrow : (k : Key) (v : Value) → kind.weighs k v < 2 ^ 32) (small : sizes.cells ≤ 4096) where
  run_sums : (ts : List (Turn Key Value)) (s : State Key Value) (l : Ledger Key Value) (T H : ℕ → ℕ)
      → Stands kind choices sizes s l T H → AddsUp sizes s → s.next + length ts < top → AllFree kind choices sizes s ts → AddsUp sizes (end kind choices sizes s ts)
  unfolding end AllFree
  run_sums [] s l T H st up room fr = up
  run_sums (t ∷ ts) s l T H st up room fr =
      let x = line kind choices sizes s t in
      let one = turn_stands kind choices sizes law s l T H t st (omega arith) fr.0 in
      run_sums ts (after kind choices sizes s t) (ledger_on kind choices sizes l x) (λ n. T n + times n (told_tickets x.departures)) (λ n. H n + times n (handing x.answer))
      one.0 (step_sums kind sizes small choices t.free narrow s st.ok up t.call) (omega (arith, one.1)) fr.1

  fresh_sums : AddsUp sizes (fresh {Key = Key} {Value = Value})
  unfolding fresh
  fresh_sums = record { recorded = refl; count = refl; room = omega arith; light = λ e i. absurd i }

pub sums_of : {Key Value : Type 0} (kind : Kind Key Value) → Lawful kind → SumsOf kind
sums_of kind law choices sizes small ts few fr =
    run_sums kind choices sizes law law.narrow small ts fresh empty (λ n. 0) (λ n. 0) (fresh_stands kind choices sizes) (fresh_sums kind choices sizes law law.narrow small) (omega (arith, fresh_next kind choices sizes)) fr
