-- Over a whole call the tickets told and those still held are together those held before and the one handed out.
use Rattle.std.proofs.Common.{◌≡◌, ℕ, ◌+◌, ◌≤◌, true, false, cond, ◌&&◌, leb, ◌⊎◌, List, [], ◌∷◌, Some, None, Option, sym, refl, ap, ◌∙◌, subst, inl, inr, arith}
use Rattle.std.proofs.lemmas.Bool.{cases_Bool}
use Rattle.rules.specs.Fronts.{In, tally}
use Rattle.rules.specs.declared.choices.Choices.{Choices}
use Rattle.rules.specs.declared.call.Call.{Call}
use Rattle.rules.specs.declared.call.Call.TheVariants.{Get, Contains, Insert, Invalidate, InvalidateAll}
use Rattle.rules.specs.declared.answer.Answer.{Answer}
use Rattle.rules.specs.declared.answer.Answer.TheVariants.{Refused}
use Rattle.refusals.specs.declared.Refusal.TheVariants.{BeyondRange}
use Rattle.rules.specs.declared.departure.Cause.TheVariants.{Outvoted, StruckOut, SweptOut}
use Rattle.rules.specs.declared.departure.Departure.{Departure}
use Rattle.rules.specs.Kinds.{Kind}
use Rattle.rules.specs.Entries.{Sizes, Entry, State}
use Rattle.rules.specs.Limits.{latest, plus}
use Rattle.rules.specs.Passes.{expired, leave, told, passed, passes_told}
use Rattle.rules.specs.Votes.{verdict, fits_in, outvotes, loses, none}
use Rattle.rules.specs.Calls.{Outcome, held, got, asked, struck, inserted, came, counted, touched_at, rewritten, touch_entry, replace_entry, admit, joined, newcomer, full, step}
use Rattle.rules.specs.Ledger.{handing, fitting}
use Rattle.rules.specs.Account.{times, told_tickets}
use Rattle.rules.proofs.Fronts.{tally_append, first_in, in_freeing}
use Rattle.rules.specs.Agreement.{Coherent, ledger_of}
use Rattle.rules.proofs.Erasing.{passed_kept}
use Rattle.rules.proofs.Voting.{verdict_is, run_of, wins}
use Rattle.rules.proofs.Rightness.{passed_next}
use Rattle.rules.proofs.Telling.{bears, told_append, told_times, leave_moves, back_moves, single_once, tally_freeing, passes_moves}

-- an answer hands out no ticket, or the next one
abbrev pub Handed : {Value : Type 0} → ℕ → Answer Value → ℕ → Type 0
Handed before a later = ((handing a ≡ []) × (later ≡ before)) ⊎ ((handing a ≡ before ∷ []) × (later ≡ plus before 1))

module _ {Key Value : Type 0} where
  pub record Shift (p : State Key Value) (ds : List Departure) (o : Outcome Key Value) : Type 0 where
    pub counts : (n : ℕ) → times n (told_tickets o.departures) + tally (bears n) o.state.touch ≡ times n (told_tickets ds) + (tally (bears n) p.touch + times n (handing o.answer))
    pub numbers : Handed p.next o.answer o.state.next
    pub before : (n : ℕ) → times n (told_tickets o.departures) ≤ times n (told_tickets ds) + tally (bears n) p.touch

module _ {Key Value : Type 0} (kind : Kind Key Value) (choices : Choices) (sizes : Sizes) (free : ℕ) where
  module _ (p : State Key Value) (ok : Coherent kind p) (ds : List Departure) where
    there : (k : Key) (e : Entry Key Value) → held kind k p ≡ Some e → In e p.touch
    there k e h = (first_in (λ (x : Entry Key Value). kind.alike x.key k) e p.touch h).0

    got_shift : (k : Key) (now : ℕ) → Shift p ds (got choices now (held kind k p) (counted kind k p) ds)
    unfolding touch_entry
    got_shift k now = go (held kind k p) refl
      where
        go : (x : Option (Entry Key Value)) → held kind k p ≡ x → Shift p ds (got choices now x (counted kind k p) ds)
        go None h = record { counts = λ n. omega arith; numbers = inl (refl, refl); before = λ n. omega arith }
        go (Some e) h =
            elim (cases_Bool (expired choices now e)) [
              | inl t ↦ rw t (record { counts = λ n. omega arith; numbers = inl (refl, refl); before = λ n. omega arith })
              | inr t ↦ rw t (record { counts = λ n. omega (arith, back_moves kind p ok e (touched_at now e) (there k e h) refl refl n); numbers = inl (refl, refl); before = λ n. omega arith })
            ]

    asked_shift : (k : Key) (now : ℕ) → Shift p ds (asked choices now (held kind k p) p ds)
    asked_shift k now = go (held kind k p)
      where
        go : (x : Option (Entry Key Value)) → Shift p ds (asked choices now x p ds)
        go None = record { counts = λ n. omega arith; numbers = inl (refl, refl); before = λ n. omega arith }
        go (Some e) =
            elim (cases_Bool (expired choices now e)) [
              | inl t ↦ rw t (record { counts = λ n. omega arith; numbers = inl (refl, refl); before = λ n. omega arith })
              | inr t ↦ rw t (record { counts = λ n. omega arith; numbers = inl (refl, refl); before = λ n. omega arith })
            ]

    leave_next : (es : List (Entry Key Value)) → (leave es p).next ≡ p.next
    unfolding leave
    leave_next es = refl

    struck_shift : (k : Key) → Shift p ds (struck (held kind k p) p ds)
    struck_shift k = go (held kind k p) refl
      where
        go : (x : Option (Entry Key Value)) → held kind k p ≡ x → Shift p ds (struck x p ds)
        go None h = record { counts = λ n. omega arith; numbers = inl (refl, refl); before = λ n. omega arith }
        go (Some e) h = record {
          counts = λ n. omega (
            arith,
            leave_moves kind p ok StruckOut (e ∷ []) (λ a i. elim i [ inl g ↦ subst (λ (z : Entry Key Value). In z p.touch) (sym g) (there k e h) | inr z ↦ absurd z ]) (single_once kind p ok e) n,
            told_append n ds (told StruckOut (e ∷ [])),
          );
          numbers = inl (refl, leave_next (e ∷ []));
          before = λ n. omega (
            arith,
            leave_moves kind p ok StruckOut (e ∷ []) (λ a i. elim i [ inl g ↦ subst (λ (z : Entry Key Value). In z p.touch) (sym g) (there k e h) | inr z ↦ absurd z ]) (single_once kind p ok e) n,
            told_append n ds (told StruckOut (e ∷ [])),
          );
        }

    -- a newcomer is one more
    joins : (q : State Key Value) (k : Key) (v : Value) (now n : ℕ) → tally (bears n) (joined kind choices sizes free k v now q).touch ≡ tally (bears n) q.touch + times n (q.next ∷ [])
    unfolding admit
    joins q k v now n = tally_append (bears n) q.touch (newcomer kind free k v now q.next ∷ [])

    joined_next : (q : State Key Value) (k : Key) (v : Value) (now : ℕ) → (joined kind choices sizes free k v now q).next ≡ plus q.next 1
    unfolding admit
    joined_next q k v now = refl

    module _ (k : Key) (v : Value) (now : ℕ) where
      abbrev run : List (Entry Key Value)
      run = run_of kind choices sizes p ok k v

      fits_shift : Shift p ds (came kind choices sizes free k v now fits_in p ds)
      fits_shift =
          elim (cases_Bool (full sizes p)) [
            | inl u ↦ rw u (record { counts = λ n. omega arith; numbers = inl (refl, refl); before = λ n. omega arith })
            | inr u ↦ rw u (record { counts = λ n. omega (arith, joins p k v now n); numbers = inr (refl, joined_next p k v now); before = λ n. omega arith })
          ]

      wins_shift : Shift p ds (came kind choices sizes free k v now (outvotes run) p ds)
      wins_shift =
          elim (cases_Bool (none run && full sizes p)) [
            | inl u ↦ rw u (record { counts = λ n. omega arith; numbers = inl (refl, refl); before = λ n. omega arith })
            | inr u ↦ rw u (record {
              counts = λ n.
                  let j : tally (bears n) (joined kind choices sizes free k v now (leave run p)).touch ≡ tally (bears n) (leave run p).touch + times n (p.next ∷ []) =
                  subst (λ (m : ℕ). tally (bears n) (joined kind choices sizes free k v now (leave run p)).touch ≡ tally (bears n) (leave run p).touch + times n (m ∷ [])) (leave_next run) (joins (leave run p) k v now n) in
                  omega (
                    arith,
                    j,
                    leave_moves kind p ok Outvoted run (λ a i. in_freeing (λ (x : Entry Key Value). x.weight) (kind.weighs k v) a p.touch i)
                        (λ m. omega (arith, tally_freeing (bears m) (λ (x : Entry Key Value). x.weight) (kind.weighs k v) p.touch, ok.tickets m)) n,
                    told_append n ds (told Outvoted run),
                  );
              numbers = inr (refl, joined_next (leave run p) k v now ∙ ap (λ (m : ℕ). plus m 1) (leave_next run));
              before = λ n. omega (
                arith,
                leave_moves kind p ok Outvoted run (λ a i. in_freeing (λ (x : Entry Key Value). x.weight) (kind.weighs k v) a p.touch i)
                    (λ m. omega (arith, tally_freeing (bears m) (λ (x : Entry Key Value). x.weight) (kind.weighs k v) p.touch, ok.tickets m)) n,
                told_append n ds (told Outvoted run),
              );
            })
          ]

      came_shift : Shift p ds (came kind choices sizes free k v now (verdict kind choices k v p) p ds)
      came_shift =
          let is = verdict_is kind choices sizes p ok k v in
          rw is (elim (fitting kind choices (ledger_of p) k v) as (λ b. Shift p ds (came kind choices sizes free k v now (cond b fits_in (cond (wins kind choices sizes (ledger_of p) k v) (outvotes run) loses)) p ds)) [
            | true ↦ fits_shift
            | false ↦ elim (wins kind choices sizes (ledger_of p) k v) as (λ b. Shift p ds (came kind choices sizes free k v now (cond b (outvotes run) loses) p ds)) [
              | true ↦ wins_shift
              | false ↦ record { counts = λ n. omega arith; numbers = inl (refl, refl); before = λ n. omega arith }
            ]
          ])

      inserted_shift : Shift p ds (inserted kind choices sizes free k v now (held kind k p) p ds)
      unfolding replace_entry
      inserted_shift = go (held kind k p) refl
        where
          go : (x : Option (Entry Key Value)) → held kind k p ≡ x → Shift p ds (inserted kind choices sizes free k v now x p ds)
          go None h = came_shift
          go (Some e) h = record { counts = λ n. omega (arith, back_moves kind p ok e (rewritten v (kind.weighs k v) now e) (there k e h) refl refl n); numbers = inl (refl, refl); before = λ n. omega arith }

  -- ---- a whole call

  pub record Moved (s : State Key Value) (o : Outcome Key Value) : Type 0 where
    pub counts : (n : ℕ) → times n (told_tickets o.departures) + tally (bears n) o.state.touch ≡ tally (bears n) s.touch + times n (handing o.answer)
    pub numbers : Handed s.next o.answer o.state.next
    pub before : (n : ℕ) → times n (told_tickets o.departures) ≤ tally (bears n) s.touch

  module _ (s : State Key Value) (ok : Coherent kind s) where
    past : (now : ℕ) (o : Outcome Key Value) → Shift (passed choices now s) (passes_told choices now s) o → Moved s o
    past now o h = record {
      counts = λ n. omega (arith, h.counts n, passes_moves kind choices now s ok n);
      numbers = subst (λ (m : ℕ). Handed m o.answer o.state.next) (passed_next kind choices sizes free now s) h.numbers;
      before = λ n. omega (arith, h.before n, passes_moves kind choices now s ok n);
    }

    late : Moved s (record { state = s; answer = Refused BeyondRange; departures = [] })
    late = record { counts = λ n. omega arith; numbers = inl (refl, refl); before = λ n. omega arith }

    timely_moved : (now : ℕ) (o : Outcome Key Value) → Moved s o → Moved s (cond (leb now latest) o (record { state = s; answer = Refused BeyondRange; departures = [] }))
    timely_moved now o h = elim (leb now latest) as (λ b. Moved s (cond b o (record { state = s; answer = Refused BeyondRange; departures = [] }))) [ true ↦ h | false ↦ late ]

    pub moved : (c : Call Key Value) → Moved s (step kind choices sizes free s c)
    unfolding step
    moved (Get k now) = timely_moved now _ (past now _ (got_shift (passed choices now s) (passed_kept kind choices now s ok) (passes_told choices now s) k now))
    moved (Contains k now) = timely_moved now _ (past now _ (asked_shift (passed choices now s) (passed_kept kind choices now s ok) (passes_told choices now s) k now))
    moved (Insert k v now) = timely_moved now _ (past now _ (inserted_shift (passed choices now s) (passed_kept kind choices now s ok) (passes_told choices now s) k v now))
    moved (Invalidate k now) = timely_moved now _ (past now _ (struck_shift (passed choices now s) (passed_kept kind choices now s ok) (passes_told choices now s) k))
    moved InvalidateAll = record { counts = λ n. omega (arith, told_times n SweptOut s.touch); numbers = inl (refl, refl); before = λ n. omega (arith, told_times n SweptOut s.touch) }
