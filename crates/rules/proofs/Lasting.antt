-- Each entry's value is the one last taken in under its ticket. A call either takes nothing in, and then each entry has the ticket and
-- the value of one that was there; or it takes one in, which goes last, and the others were there.
use Rattle.std.proofs.Common.{◌≡◌, ℕ, ◌+◌, ◌<◌, ◌≤◌, Bool, true, false, ◌&&◌, eqb, leb, ◌⊎◌, List, [], ◌∷◌, ◌++◌, map, length, Some, None, Option, sym, refl, ap, ◌∙◌, subst, inl, inr, arith}
use Rattle.std.proofs.lemmas.Bool.{cases_Bool, eq-eqb, ne_eqb}
use Rattle.rules.specs.Fronts.{without, In, tally}
use Rattle.rules.specs.declared.choices.Choices.{Choices}
use Rattle.rules.specs.declared.call.Call.{Call}
use Rattle.rules.specs.declared.call.Call.TheVariants.{Get, Contains, Insert, Invalidate, InvalidateAll}
use Rattle.rules.specs.declared.answer.Answer.{Answer}
use Rattle.rules.specs.declared.answer.Answer.TheVariants.{Miss, Yes, No, TurnedAway, Struck, Absent, Refused}
use Rattle.refusals.specs.declared.Refusal.TheVariants.{BeyondRange, NoCell}
use Rattle.rules.specs.declared.departure.Departure.{Departure}
use Rattle.rules.specs.Kinds.{Kind, Lawful}
use Rattle.rules.specs.Entries.{Sizes, Entry, State, fresh}
use Rattle.rules.specs.Limits.{latest, top}
use Rattle.rules.specs.Passes.{leave, expired, passed, passes_told}
use Rattle.rules.specs.Votes.{Verdict, fits_in, outvotes, loses, none, verdict}
use Rattle.rules.specs.Items.{Item, Ledger, empty}
use Rattle.rules.specs.Calls.{Outcome, outcome, held, got, asked, struck, inserted, came, counted, full, touch_entry, replace_entry, admit, newcomer, step}
use Rattle.rules.specs.Runs.{Turn, after, line, end, log}
use Rattle.rules.specs.Account.{AllFree, log_of, state_after}
use Rattle.rules.specs.Agreement.{as_item, ledger_of, Coherent}
use Rattle.rules.specs.Values.{value_given, ticket_given, taken_at, last_taken, ValuesOf}
use Rattle.rules.proofs.Fronts.{in_without, in_append, in_tally, tally_append, first_in}
use Rattle.rules.proofs.Staying.{Thinned, thinned_in, unchanged, leave_thins, passed_thins}
use Rattle.rules.proofs.Standing.{Stands, turn_stands, run_stands, ledger_on, fresh_stands, fresh_next}

module _ {Key Value : Type 0} where
  -- each of these has the ticket and the value of one that was there
  abbrev Old : State Key Value → List (Entry Key Value) → Type 0
  Old s es = (e : Entry Key Value) → In e es → (old : Entry Key Value) × In old s.touch × (old.ticket ≡ e.ticket) × (old.value ≡ e.value)

  -- a call that takes nothing in
  pub record Quiet (s : State Key Value) (o : Outcome Key Value) : Type 0 where
    pub silent : ticket_given o.answer ≡ []
    pub olds : Old s o.state.touch

  -- a call that takes one in
  pub record Took (s : State Key Value) (c : Call Key Value) (o : Outcome Key Value) : Type 0 where
    pub new : Entry Key Value
    pub others : List (Entry Key Value)
    pub last : o.state.touch ≡ others ++ (new ∷ [])
    pub olds : Old s others
    pub ticket : ticket_given o.answer ≡ new.ticket ∷ []
    pub value : value_given c ≡ Some new.value

  abbrev Takes : State Key Value → Call Key Value → Outcome Key Value → Type 0
  Takes s c o = Quiet s o ⊎ Took s c o

  thinned_old : (s p : State Key Value) → Thinned s p → Old s p.touch
  thinned_old s p t e i = (e, thinned_in s p t e i, refl, refl)

  quiet : (s p : State Key Value) (a : Answer Value) (ds : List Departure) → Thinned s p → ticket_given a ≡ [] → Quiet s (outcome p a ds)
  quiet s p a ds t h = record { silent = h; olds = thinned_old s p t }

  -- those that are not moved were there
  rest_old : (s p : State Key Value) → Thinned s p → (q : Entry Key Value → Bool) → Old s (without q p.touch)
  rest_old s p t q e i = thinned_old s p t e (in_without q e p.touch i)

  module _ (kind : Kind Key Value) (choices : Choices) (sizes : Sizes) (free : ℕ) (s p : State Key Value) (t : Thinned s p) (ds : List Departure) where
    there : (k : Key) (e : Entry Key Value) → held kind k p ≡ Some e → In e p.touch
    there k e h = (first_in (λ (x : Entry Key Value). kind.alike x.key k) e p.touch h).0

    counted_thins : (k : Key) → Thinned s (counted kind k p)
    counted_thins k = record { out = t.out; left = t.left }

    got_takes : (k : Key) (now : ℕ) (x : Option (Entry Key Value)) → held kind k p ≡ x → Quiet s (got choices now x (counted kind k p) ds)
    unfolding touch_entry
    got_takes k now None h = quiet s (counted kind k p) Miss ds (counted_thins k) refl
    got_takes k now (Some e) h =
        elim (cases_Bool (expired choices now e)) [
          | inl f ↦ rw f (quiet s (counted kind k p) Miss ds (counted_thins k) refl)
          | inr f ↦ rw f (record {
            silent = refl;
            olds = λ x i. elim (in_append x (without (λ (y : Entry Key Value). eqb y.cell e.cell) p.touch) _ i) [
              | inl j ↦ rest_old s p t (λ (y : Entry Key Value). eqb y.cell e.cell) x j
              | inr j ↦ elim j [ inl g ↦ (e, thinned_in s p t e (there k e h), sym (ap (λ (y : Entry Key Value). y.ticket) g), sym (ap (λ (y : Entry Key Value). y.value) g)) | inr z ↦ absurd z ]
            ];
          })
        ]

    asked_takes : (now : ℕ) (x : Option (Entry Key Value)) → Quiet s (asked choices now x p ds)
    asked_takes now None = quiet s p No ds t refl
    asked_takes now (Some e) = elim (cases_Bool (expired choices now e)) [ inl f ↦ rw f (quiet s p No ds t refl) | inr f ↦ rw f (quiet s p Yes ds t refl) ]

    struck_takes : (x : Option (Entry Key Value)) → Quiet s (struck x p ds)
    struck_takes None = quiet s p Absent ds t refl
    struck_takes (Some e) = quiet s (leave (e ∷ []) p) Struck _ (leave_thins s p (e ∷ []) t) refl

    came_takes : (k : Key) (v : Value) (now : ℕ) (x : Verdict (Entry Key Value)) → Takes s (Insert k v now) (came kind choices sizes free k v now x p ds)
    unfolding admit leave
    came_takes k v now fits_in =
        elim (cases_Bool (full sizes p)) [
          | inl f ↦ rw f (inl (quiet s p (Refused NoCell) ds t refl))
          | inr f ↦ rw f (inr (record { new = newcomer kind free k v now p.next; others = p.touch; last = refl; olds = thinned_old s p t; ticket = refl; value = refl }))
        ]
    came_takes k v now (outvotes run) =
        elim (cases_Bool (none run && full sizes p)) [
          | inl f ↦ rw f (inl (quiet s p (Refused NoCell) ds t refl))
          | inr f ↦ rw f (inr (record { new = newcomer kind free k v now p.next; others = (leave run p).touch; last = refl; olds = thinned_old s (leave run p) (leave_thins s p run t); ticket = refl; value = refl }))
        ]
    came_takes k v now loses = inl (quiet s p TurnedAway ds t refl)

    inserted_takes : (k : Key) (v : Value) (now : ℕ) (x : Option (Entry Key Value)) → held kind k p ≡ x → Takes s (Insert k v now) (inserted kind choices sizes free k v now x p ds)
    unfolding replace_entry
    inserted_takes k v now None h = came_takes k v now (verdict kind choices k v p)
    inserted_takes k v now (Some e) h = inr (record {
      new = record { cell = e.cell; key = e.key; value = v; weight = kind.weighs k v; hash = e.hash; touched = now; written = now; ticket = e.ticket };
      others = without (λ (y : Entry Key Value). eqb y.cell e.cell) p.touch;
      last = refl;
      olds = rest_old s p t (λ (y : Entry Key Value). eqb y.cell e.cell);
      ticket = refl;
      value = refl;
    })

  module _ (kind : Kind Key Value) (choices : Choices) (sizes : Sizes) (free : ℕ) (s : State Key Value) where
    takes : (c : Call Key Value) → Takes s c (step kind choices sizes free s c)
    unfolding step
    takes (Get k now) =
        elim (cases_Bool (leb now latest)) [
          | inl f ↦ rw f (inl (got_takes kind choices sizes free s (passed choices now s) (passed_thins choices now s) (passes_told choices now s) k now (held kind k (passed choices now s)) refl))
          | inr f ↦ rw f (inl (quiet s s (Refused BeyondRange) [] (unchanged s) refl))
        ]
    takes (Contains k now) =
        elim (cases_Bool (leb now latest)) [
          | inl f ↦ rw f (inl (asked_takes kind choices sizes free s (passed choices now s) (passed_thins choices now s) (passes_told choices now s) now (held kind k (passed choices now s))))
          | inr f ↦ rw f (inl (quiet s s (Refused BeyondRange) [] (unchanged s) refl))
        ]
    takes (Insert k v now) =
        elim (cases_Bool (leb now latest)) [
          | inl f ↦ rw f (inserted_takes kind choices sizes free s (passed choices now s) (passed_thins choices now s) (passes_told choices now s) k v now (held kind k (passed choices now s)) refl)
          | inr f ↦ rw f (inl (quiet s s (Refused BeyondRange) [] (unchanged s) refl))
        ]
    takes (Invalidate k now) =
        elim (cases_Bool (leb now latest)) [
          | inl f ↦ rw f (inl (struck_takes kind choices sizes free s (passed choices now s) (passed_thins choices now s) (passes_told choices now s) (held kind k (passed choices now s))))
          | inr f ↦ rw f (inl (quiet s s (Refused BeyondRange) [] (unchanged s) refl))
        ]
    takes InvalidateAll = inl (record { silent = refl; olds = λ e i. absurd i })

  -- ---- from call to call

  -- each entry's value is the one known under its ticket
  abbrev Known : (ℕ → Option Value) → State Key Value → Type 0
  Known known s = (e : Entry Key Value) → In e s.touch → known e.ticket ≡ Some e.value

  module _ (kind : Kind Key Value) (choices : Choices) (sizes : Sizes) where
    old_known : (known : ℕ → Option Value) (s : State Key Value) (es : List (Entry Key Value)) → Known known s → Old s es → (e : Entry Key Value) → In e es → known e.ticket ≡ Some e.value
    old_known known s es k old e i =
        let r = old e i in
        ap known (sym r.2) ∙ k r.0 r.1 ∙ ap Some r.3

    turn_known : (known : ℕ → Option Value) (s : State Key Value) (t : Turn Key Value) → Known known s → Coherent kind (after kind choices sizes s t)
        → Known (λ n. taken_at (line kind choices sizes s t) n (known n)) (after kind choices sizes s t)
    turn_known known s t k ok e i =
        elim (takes kind choices sizes t.free s t.call) [
          | inl q ↦ rw q.silent (old_known known s (after kind choices sizes s t).touch k q.olds e i)
          | inr m ↦
              let here : In e (m.others ++ (m.new ∷ [])) = subst (In e) m.last i in
              let one : tally (λ (x : Entry Key Value). eqb x.ticket m.new.ticket) (m.others ++ (m.new ∷ [])) ≤ 1 = subst (λ (es : List (Entry Key Value)). tally (λ (x : Entry Key Value). eqb x.ticket m.new.ticket) es ≤ 1) m.last (ok.tickets m.new.ticket) in
              elim (in_append e m.others (m.new ∷ []) here) [
                | inl j ↦
                    let other : eqb m.new.ticket e.ticket ≡ false = ne_eqb m.new.ticket e.ticket (λ h.
                    let a = in_tally (λ (x : Entry Key Value). eqb x.ticket m.new.ticket) e m.others j (eq-eqb e.ticket m.new.ticket (sym h)) in
                    let b : tally (λ (x : Entry Key Value). eqb x.ticket m.new.ticket) (m.others ++ (m.new ∷ [])) ≡ tally (λ (x : Entry Key Value). eqb x.ticket m.new.ticket) m.others + (1 + 0) =
                    rw (eq-eqb m.new.ticket m.new.ticket refl) at (tally_append (λ (x : Entry Key Value). eqb x.ticket m.new.ticket) m.others (m.new ∷ [])) in
                    omega (arith, one, a, b)) in
                    rw (m.ticket, other) (old_known known s m.others k m.olds e j)
                | inr j ↦ elim j [
                  | inl g ↦
                      let same : eqb m.new.ticket e.ticket ≡ true = eq-eqb m.new.ticket e.ticket (ap (λ (x : Entry Key Value). x.ticket) (sym g)) in
                      rw (m.ticket, same) (m.value ∙ ap (λ (x : Entry Key Value). Some x.value) (sym g))
                  | inr z ↦ absurd z
                ]
              ]
        ]

    run_known : Lawful kind → (ts : List (Turn Key Value)) (s : State Key Value) (l : Ledger Key Value) (T H : ℕ → ℕ) (known : ℕ → Option Value)
        → Stands kind choices sizes s l T H → s.next + length ts < top → AllFree kind choices sizes s ts → Known known s
        → Known (λ n. last_taken n (known n) (log kind choices sizes s ts)) (end kind choices sizes s ts)
    unfolding last_taken log end AllFree
    run_known law [] s l T H known st room fr k = k
    run_known law (t ∷ ts) s l T H known st room fr k =
        let one = turn_stands kind choices sizes law s l T H t st (omega arith) fr.0 in
        run_known law ts (after kind choices sizes s t) (ledger_on kind choices sizes l (line kind choices sizes s t)) _ _ (λ n. taken_at (line kind choices sizes s t) n (known n))
        one.0 (omega (arith, one.1)) fr.1 (turn_known known s t k one.0.ok)

in_map : {A B : Type 0} (f : A → B) (b : B) (xs : List A) → In b (map f xs) → (a : A) × In a xs × (b ≡ f a)
in_map f b [] i = absurd i
in_map f b (x ∷ xs) (inl h) = (x, inl refl, h)
in_map f b (x ∷ xs) (inr i) = let r = in_map f b xs i in (r.0, inr r.1, r.2)

module _ {Key Value : Type 0} where
  nobody : (known : ℕ → Option Value) → Known {Key = Key} known fresh
  unfolding fresh
  nobody known e i = absurd i

  item_back : (s : State Key Value) (i : Item Key Value) → In i (ledger_of s).touch → (e : Entry Key Value) × In e s.touch × (i ≡ as_item e)
  unfolding ledger_of
  item_back s i h = in_map as_item i s.touch h

  pub values_of : (kind : Kind Key Value) → Lawful kind → ValuesOf kind
  values_of kind law choices sizes ts few fr i here =
      let st = (run_stands kind choices sizes law ts fresh empty (λ n. 0) (λ n. 0) (fresh_stands kind choices sizes) (omega (arith, fresh_next kind choices sizes)) fr).0 in
      let s = state_after kind choices sizes ts in
      let r = item_back s i (subst (λ (l : Ledger Key Value). In i l.touch) st.same here) in
      let k = run_known kind choices sizes law ts fresh empty (λ n. 0) (λ n. 0) (λ n. None) (fresh_stands kind choices sizes) (omega (arith, fresh_next kind choices sizes)) fr (nobody (λ n. None)) r.0 r.1 in
      let P : Item Key Value → Type 0 = λ x. last_taken x.ticket None (log_of kind choices sizes ts) ≡ Some x.value in
      subst (λ (x : Item Key Value). last_taken x.ticket None (log_of kind choices sizes ts) ≡ Some x.value) (sym r.2) k
