-- A call is refused for its instant exactly where the instant is too late, and then nothing changes.
use Rattle.std.proofs.Common.{◌≡◌, ℕ, ◌^◌, ◌≤◌, ◌&&◌, List, Some, None, Option, sym, ap, ◌∙◌, subst, inl, inr, arith}
use Rattle.std.proofs.lemmas.Bool.{cases_Bool, le-leb, lt-leb}
use Rattle.rules.specs.declared.choices.Choices.{Choices}
use Rattle.rules.specs.declared.call.Call.{Call}
use Rattle.rules.specs.declared.call.Call.TheVariants.{Get, Contains, Insert, Invalidate, InvalidateAll}
use Rattle.rules.specs.declared.answer.Answer.{Answer}
use Rattle.rules.specs.declared.answer.Answer.TheVariants.{Hit, Miss, Yes, No, New, Replaced, TurnedAway, Struck, Absent, Swept, Refused}
use Rattle.rules.specs.declared.departure.Departure.{Departure}
use Rattle.refusals.specs.Numbers.{refusal_number}
use Rattle.rules.specs.Kinds.{Kind}
use Rattle.rules.specs.Entries.{Sizes, Entry, State}
use Rattle.rules.specs.Limits.{latest}
use Rattle.rules.specs.Passes.{expired, passed, passes_told}
use Rattle.rules.specs.Votes.{Verdict, fits_in, outvotes, loses, none, verdict}
use Rattle.rules.specs.Calls.{Outcome, timely, held, got, asked, struck, inserted, came, counted, full, step}
use Rattle.rules.specs.Laws.{instant_of, Late}
use Rattle.rules.proofs.Fronts.{none_some, some_one}

-- the number of the refusal that an answer is, and 0 where it is none
abbrev code : {Value : Type 0} → Answer Value → ℕ
code (Hit v) = 0
code Miss = 0
code Yes = 0
code No = 0
code (New t) = 0
code (Replaced t) = 0
code TurnedAway = 0
code Struck = 0
code Absent = 0
code Swept = 0
code (Refused r) = refusal_number r

module _ {Key Value : Type 0} where
  -- a call that goes by the clock, given what it comes to in time
  late : (now : ℕ) (s : State Key Value) (o : Outcome Key Value) → (code o.answer ≡ 6 → ⊥) → Late now s (timely now s o)
  late now s o other = record {
    refused = λ h. rw (lt-leb now latest h);
    else = λ h e. other (ap (λ (p : Outcome Key Value). code p.answer) (sym (in_time h)) ∙ ap code e);
  }
    where
      in_time : now ≤ 2 ^ 62 → timely now s o ≡ o
      in_time h = rw (le-leb now latest h)

  module _ (kind : Kind Key Value) (choices : Choices) (sizes : Sizes) (free : ℕ) (p : State Key Value) (ds : List Departure) where
    got_other : (now : ℕ) (x : Option (Entry Key Value)) (q : State Key Value) → code (got choices now x q ds).answer ≡ 6 → ⊥
    got_other now None q e = omega arith
    got_other now (Some x) q e =
        elim (cases_Bool (expired choices now x)) [
          | inl f ↦ let z : ◌≡◌ {A = ℕ} 0 6 = rw f at e in omega arith
          | inr f ↦ let z : ◌≡◌ {A = ℕ} 0 6 = rw f at e in omega arith
        ]

    asked_other : (now : ℕ) (x : Option (Entry Key Value)) → code (asked choices now x p ds).answer ≡ 6 → ⊥
    asked_other now None e = omega arith
    asked_other now (Some x) e =
        elim (cases_Bool (expired choices now x)) [
          | inl f ↦ let z : ◌≡◌ {A = ℕ} 0 6 = rw f at e in omega arith
          | inr f ↦ let z : ◌≡◌ {A = ℕ} 0 6 = rw f at e in omega arith
        ]

    struck_other : (x : Option (Entry Key Value)) → code (struck x p ds).answer ≡ 6 → ⊥
    struck_other None e = omega arith
    struck_other (Some x) e = omega arith

    came_other : (k : Key) (v : Value) (now : ℕ) (x : Verdict (Entry Key Value)) → code (came kind choices sizes free k v now x p ds).answer ≡ 6 → ⊥
    came_other k v now fits_in e =
        elim (cases_Bool (full sizes p)) [
          | inl f ↦ let z : ◌≡◌ {A = ℕ} 7 6 = rw f at e in omega arith
          | inr f ↦ let z : ◌≡◌ {A = ℕ} 0 6 = rw f at e in omega arith
        ]
    came_other k v now (outvotes run) e =
        elim (cases_Bool (none run && full sizes p)) [
          | inl f ↦ let z : ◌≡◌ {A = ℕ} 7 6 = rw f at e in omega arith
          | inr f ↦ let z : ◌≡◌ {A = ℕ} 0 6 = rw f at e in omega arith
        ]
    came_other k v now loses e = omega arith

    inserted_other : (k : Key) (v : Value) (now : ℕ) (x : Option (Entry Key Value)) → code (inserted kind choices sizes free k v now x p ds).answer ≡ 6 → ⊥
    inserted_other k v now None e = came_other k v now (verdict kind choices k v p) e
    inserted_other k v now (Some x) e = omega arith

  pub late_is_refused : (kind : Kind Key Value) (choices : Choices) (sizes : Sizes) (free : ℕ) (s : State Key Value) (c : Call Key Value) (now : ℕ)
      → instant_of c ≡ Some now → Late now s (step kind choices sizes free s c)
  unfolding step
  late_is_refused kind choices sizes free s (Get k m) now h =
      let p = passed choices m s in
      subst (λ (n : ℕ). Late n s (step kind choices sizes free s (Get k m))) (some_one m now h)
      (late m s _ (got_other kind choices sizes free p (passes_told choices m s) m (held kind k p) (counted kind k p)))
  late_is_refused kind choices sizes free s (Contains k m) now h =
      let p = passed choices m s in
      subst (λ (n : ℕ). Late n s (step kind choices sizes free s (Contains k m))) (some_one m now h)
      (late m s _ (asked_other kind choices sizes free p (passes_told choices m s) m (held kind k p)))
  late_is_refused kind choices sizes free s (Insert k v m) now h =
      let p = passed choices m s in
      subst (λ (n : ℕ). Late n s (step kind choices sizes free s (Insert k v m))) (some_one m now h)
      (late m s _ (inserted_other kind choices sizes free p (passes_told choices m s) k v m (held kind k p)))
  late_is_refused kind choices sizes free s (Invalidate k m) now h =
      let p = passed choices m s in
      subst (λ (n : ℕ). Late n s (step kind choices sizes free s (Invalidate k m))) (some_one m now h)
      (late m s _ (struck_other kind choices sizes free p (passes_told choices m s) (held kind k p)))
  late_is_refused kind choices sizes free s InvalidateAll now h = absurd (none_some now h)
