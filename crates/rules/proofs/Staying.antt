-- A call takes some out of the touch order, leaves the others as they are and in their order, and puts at most one more last.
use Rattle.std.proofs.Common.{◌≡◌, ℕ, Bool, true, false, cond, ◌&&◌, eqb, leb, ◌⊎◌, List, [], ◌∷◌, ◌++◌, Some, None, Option, sym, refl, ap, ◌∙◌, subst, inl, inr, arith}
use Rattle.std.proofs.lemmas.Bool.{cases_Bool}
use Rattle.std.proofs.lemmas.List.{append-nil}
use Rattle.rules.specs.Fronts.{without, among, In}
use Rattle.rules.specs.declared.choices.Choices.{Choices}
use Rattle.rules.specs.declared.call.Call.{Call}
use Rattle.rules.specs.declared.call.Call.TheVariants.{Get, Contains, Insert, Invalidate, InvalidateAll}
use Rattle.rules.specs.declared.answer.Answer.{Answer}
use Rattle.rules.specs.declared.answer.Answer.TheVariants.{Hit, Miss, Yes, No, New, Replaced, TurnedAway, Struck, Absent, Swept, Refused}
use Rattle.refusals.specs.declared.Refusal.TheVariants.{BeyondRange, NoCell}
use Rattle.rules.specs.declared.departure.Departure.{Departure}
use Rattle.rules.specs.Kinds.{Kind}
use Rattle.rules.specs.Entries.{Sizes, Entry, State}
use Rattle.rules.specs.Limits.{latest}
use Rattle.rules.specs.Passes.{expired, cells_of, leave, life_pass, idle_pass, trim_pass, after_life, after_idle, passed, passes_told}
use Rattle.rules.specs.Votes.{Verdict, fits_in, outvotes, loses, none, verdict}
use Rattle.rules.specs.Calls.{outcome, held, got, asked, struck, inserted, came, counted, full, to_back, touch_entry, replace_entry, admit, step}
use Rattle.rules.specs.Laws.{Stay}
use Rattle.rules.proofs.Fronts.{first_in, in_without}
use Rattle.rules.proofs.Settling.{without_twice}

module _ {A : Type 0} where
  -- ---- taken out twice is taken out once

  either : (A → Bool) → (A → Bool) → A → Bool
  either p q a = cond (p a) true (q a)

  without_both : (p q : A → Bool) (xs : List A) → without q (without p xs) ≡ without (either p q) xs
  unfolding either
  without_both p q xs = sym (without_twice p q (either p q) xs (λ a. refl))

  without_nobody : (xs : List A) → xs ≡ without (λ a. false) xs
  without_nobody [] = refl
  without_nobody (x ∷ xs) = ap (λ (l : List A). x ∷ l) (without_nobody xs)

  without_all : (xs : List A) → [] ≡ without (λ a. true) xs
  without_all [] = refl
  without_all (x ∷ xs) = without_all xs

module _ {Key Value : Type 0} where
  -- ---- some left before

  -- what is certain of the touch order after the passes: some of the one before are out
  pub record Thinned (s p : State Key Value) : Type 0 where
    pub out : Entry Key Value → Bool
    pub left : p.touch ≡ without out s.touch

  pub unchanged : (s : State Key Value) → Thinned s s
  unchanged s = record { out = λ e. false; left = without_nobody s.touch }

  pub leave_thins : (s p : State Key Value) (es : List (Entry Key Value)) → Thinned s p → Thinned s (leave es p)
  unfolding leave
  leave_thins s p es t = record {
    out = either t.out (λ e. among (cells_of es) e.cell);
    left = ap (without (λ (e : Entry Key Value). among (cells_of es) e.cell)) t.left ∙ without_both t.out (λ e. among (cells_of es) e.cell) s.touch;
  }

  pub passed_thins : (choices : Choices) (now : ℕ) (s : State Key Value) → Thinned s (passed choices now s)
  unfolding passed
  passed_thins choices now s =
      leave_thins s (after_idle choices now s) (trim_pass choices now (after_idle choices now s))
      (leave_thins s (after_life choices now s) (idle_pass choices now (after_life choices now s)) (leave_thins s s (life_pass choices now s) (unchanged s)))

  -- those left were there before
  pub thinned_in : (s p : State Key Value) → Thinned s p → (e : Entry Key Value) → In e p.touch → In e s.touch
  thinned_in s p t e i = in_without t.out e s.touch (subst (In e) t.left i)

  -- ---- what a call adds

  -- nobody comes last
  stay_none : (s p : State Key Value) (a : Answer Value) (ds : List Departure) → Thinned s p → Stay s (outcome p a ds)
  stay_none s p a ds t = record { gone = t.out; last = []; one = omega arith; others = t.left ∙ sym (append-nil (without t.out s.touch)); moved = λ e i. absurd i }

  -- a newcomer comes last
  stay_new : (s p q : State Key Value) (e : Entry Key Value) (ds : List Departure) → Thinned s p → q.touch ≡ p.touch ++ (e ∷ []) → Stay s (outcome q (New e.ticket) ds)
  stay_new s p q e ds t h = record {
    gone = t.out;
    last = e ∷ [];
    one = omega arith;
    others = h ∙ ap (λ (l : List (Entry Key Value)). l ++ (e ∷ [])) t.left;
    moved = λ x i. elim i [ inl g ↦ inl (ap (λ (y : Entry Key Value). New y.ticket) (sym g)) | inr z ↦ absurd z ];
  }

  -- an entry that was there comes last, with its ticket, cell and key
  stay_moved : (s p q : State Key Value) (e new : Entry Key Value) (a : Answer Value) (ds : List Departure) → Thinned s p → In e p.touch
      → q.touch ≡ to_back new p.touch → new.ticket ≡ e.ticket → new.cell ≡ e.cell → new.key ≡ e.key → (new.value ≡ e.value) ⊎ (a ≡ Replaced new.ticket)
      → Stay s (outcome q a ds)
  stay_moved s p q e new a ds t here h ticket cell key value = record {
    gone = either t.out (λ x. eqb x.cell new.cell);
    last = new ∷ [];
    one = omega arith;
    others = h ∙ ap (λ (l : List (Entry Key Value)). l ++ (new ∷ [])) (ap (without (λ (x : Entry Key Value). eqb x.cell new.cell)) t.left ∙ without_both t.out (λ x. eqb x.cell new.cell) s.touch);
    moved = λ x i. elim i [
      | inl g ↦ subst (λ (y : Entry Key Value).
          (a ≡ New y.ticket) ⊎ ((old : Entry Key Value) × In old s.touch × (y.ticket ≡ old.ticket) × (y.cell ≡ old.cell) × (y.key ≡ old.key) × ((y.value ≡ old.value) ⊎ (a ≡ Replaced y.ticket))))
          (sym g) (inr (e, thinned_in s p t e here, ticket, cell, key, value))
      | inr z ↦ absurd z
    ];
  }

  module _ (kind : Kind Key Value) (choices : Choices) (sizes : Sizes) (free : ℕ) (s p : State Key Value) (t : Thinned s p) (ds : List Departure) where
    there : (k : Key) (e : Entry Key Value) → held kind k p ≡ Some e → In e p.touch
    there k e h = (first_in (λ (x : Entry Key Value). kind.alike x.key k) e p.touch h).0

    counted_thins : (k : Key) → Thinned s (counted kind k p)
    counted_thins k = record { out = t.out; left = t.left }

    got_stays : (k : Key) (now : ℕ) (x : Option (Entry Key Value)) → held kind k p ≡ x → Stay s (got choices now x (counted kind k p) ds)
    unfolding touch_entry
    got_stays k now None h = stay_none s (counted kind k p) Miss ds (counted_thins k)
    got_stays k now (Some e) h =
        elim (cases_Bool (expired choices now e)) [
          | inl f ↦ rw f (stay_none s (counted kind k p) Miss ds (counted_thins k))
          | inr f ↦ rw f (stay_moved s (counted kind k p) (touch_entry now e (counted kind k p)) e (record { cell = e.cell; key = e.key; value = e.value; weight = e.weight; hash = e.hash; touched = now; written = e.written; ticket = e.ticket }) (Hit e.value) ds (counted_thins k) (there k e h) refl refl refl refl (inl refl))
        ]

    asked_stays : (now : ℕ) (x : Option (Entry Key Value)) → Stay s (asked choices now x p ds)
    asked_stays now None = stay_none s p No ds t
    asked_stays now (Some e) = stay_none s p (cond (expired choices now e) No Yes) ds t

    struck_stays : (x : Option (Entry Key Value)) → Stay s (struck x p ds)
    struck_stays None = stay_none s p Absent ds t
    struck_stays (Some e) = stay_none s (leave (e ∷ []) p) Struck _ (leave_thins s p (e ∷ []) t)

    came_stays : (k : Key) (v : Value) (now : ℕ) (x : Verdict (Entry Key Value)) → Stay s (came kind choices sizes free k v now x p ds)
    unfolding admit leave
    came_stays k v now fits_in =
        elim (cases_Bool (full sizes p)) [
          | inl f ↦ rw f (stay_none s p (Refused NoCell) ds t)
          | inr f ↦ rw f (stay_new s p _ _ ds t refl)
        ]
    came_stays k v now (outvotes run) =
        elim (cases_Bool (none run && full sizes p)) [
          | inl f ↦ rw f (stay_none s p (Refused NoCell) ds t)
          | inr f ↦ rw f (stay_new s (leave run p) _ _ _ (leave_thins s p run t) refl)
        ]
    came_stays k v now loses = stay_none s p TurnedAway ds t

    inserted_stays : (k : Key) (v : Value) (now : ℕ) (x : Option (Entry Key Value)) → held kind k p ≡ x → Stay s (inserted kind choices sizes free k v now x p ds)
    unfolding replace_entry
    inserted_stays k v now None h = came_stays k v now (verdict kind choices k v p)
    inserted_stays k v now (Some e) h =
        stay_moved s p (replace_entry choices.life v (kind.weighs k v) now e p) e (record { cell = e.cell; key = e.key; value = v; weight = kind.weighs k v; hash = e.hash; touched = now; written = now; ticket = e.ticket }) (Replaced e.ticket) ds t (there k e h) refl refl refl refl (inr refl)

  -- ---- a whole call

  module _ (kind : Kind Key Value) (choices : Choices) (sizes : Sizes) (free : ℕ) (s : State Key Value) where
    abbrev cleared : ℕ → State Key Value
    cleared now = passed choices now s

    abbrev departed : ℕ → List Departure
    departed now = passes_told choices now s

    pub stays : (c : Call Key Value) → Stay s (step kind choices sizes free s c)
    unfolding step
    stays (Get k now) =
        elim (cases_Bool (leb now latest)) [
          | inl f ↦ rw f (got_stays kind choices sizes free s (cleared now) (passed_thins choices now s) (departed now) k now (held kind k (cleared now)) refl)
          | inr f ↦ rw f (stay_none s s (Refused BeyondRange) [] (unchanged s))
        ]
    stays (Contains k now) =
        elim (cases_Bool (leb now latest)) [
          | inl f ↦ rw f (asked_stays kind choices sizes free s (cleared now) (passed_thins choices now s) (departed now) now (held kind k (cleared now)))
          | inr f ↦ rw f (stay_none s s (Refused BeyondRange) [] (unchanged s))
        ]
    stays (Insert k v now) =
        elim (cases_Bool (leb now latest)) [
          | inl f ↦ rw f (inserted_stays kind choices sizes free s (cleared now) (passed_thins choices now s) (departed now) k v now (held kind k (cleared now)) refl)
          | inr f ↦ rw f (stay_none s s (Refused BeyondRange) [] (unchanged s))
        ]
    stays (Invalidate k now) =
        elim (cases_Bool (leb now latest)) [
          | inl f ↦ rw f (struck_stays kind choices sizes free s (cleared now) (passed_thins choices now s) (departed now) (held kind k (cleared now)))
          | inr f ↦ rw f (stay_none s s (Refused BeyondRange) [] (unchanged s))
        ]
    stays InvalidateAll = stay_none s _ Swept _ (record { out = λ e. true; left = without_all s.touch })
