-- The vote by a walk along the touch order: what is still lacking, how popular the run is so far, and where the walk may stop.
use Rattle.std.proofs.Common.{◌≡◌, ℕ, suc, ◌+◌, ◌-◌, ◌≤◌, Bool, true, false, cond, ◌&&◌, eqb, ltb, leb, List, [], ◌∷◌, length, sym, refl, ◌∙◌, inl, inr, arith}
use Rattle.std.proofs.lemmas.Bool.{cases_Bool, leb-true, leb-false, le-ltb, eq-eqb, ne_eqb}
use Rattle.sketch.specs.Sketches.{Sketch, frequency}
use Rattle.rules.specs.Fronts.{total, freeing}
use Rattle.rules.specs.declared.choices.Choices.{Choices}
use Rattle.rules.specs.Kinds.{Kind}
use Rattle.rules.specs.Entries.{Entry, State}
use Rattle.rules.specs.Limits.{fits, within}
use Rattle.rules.specs.Votes.{fits_in, outvotes, loses, popularity, vote, verdict}
use Rattle.rules.proofs.OneByOne.{freeing_ends}

-- ---- numbers

-- as much is freed as is wanted exactly when nothing is lacking
pub enough_is : (w t : ℕ) → leb w t ≡ eqb (w - t) 0
enough_is w t =
    elim (cases_Bool (leb w t)) [
      | inl e ↦ let h : w - t ≡ 0 = omega (arith, leb-true w t e) in e ∙ sym (eq-eqb (w - t) 0 h)
      | inr e ↦ e ∙ sym (ne_eqb (w - t) 0 (λ h. omega (arith, leb-false w t e)))
    ]

-- a run that is as popular as the newcomer already loses however it goes on
pub early_out : (freq p q : ℕ) → freq ≤ p → ltb (p + q) freq ≡ false
early_out freq p q h = le-ltb (p + q) freq (omega arith)

module _ {A : Type 0} where
  -- ---- one member further, while weight is lacking

  -- what the run lacks in the end
  pub walk_weight : (weight : A → ℕ) (w : ℕ) (x : A) (xs : List A) → eqb w 0 ≡ false
      → w - total weight (freeing weight w (x ∷ xs)) ≡ (w - weight x) - total weight (freeing weight (w - weight x) xs)
  walk_weight weight w x xs e = rw e (omega arith)

  -- a sum over the run
  pub walk_sum : (f : A → ℕ) (weight : A → ℕ) (w : ℕ) (x : A) (xs : List A) → eqb w 0 ≡ false
      → total f (freeing weight w (x ∷ xs)) ≡ f x + total f (freeing weight (w - weight x) xs)
  walk_sum f weight w x xs e = rw e

  -- how many are in the run
  pub walk_count : (weight : A → ℕ) (w : ℕ) (x : A) (xs : List A) → eqb w 0 ≡ false
      → length (freeing weight w (x ∷ xs)) ≡ suc (length (freeing weight (w - weight x) xs))
  walk_count weight w x xs e = rw e

  -- where nothing is lacking the run is over
  pub walk_ends : (weight : A → ℕ) (w : ℕ) (xs : List A) → eqb w 0 ≡ true → freeing weight w xs ≡ []
  walk_ends weight w xs e = freeing_ends weight w xs e

  -- the run frees the weight exactly when nothing is lacking in the end
  pub walk_enough : (weight : A → ℕ) (w : ℕ) (xs : List A) → leb w (total weight (freeing weight w xs)) ≡ eqb (w - total weight (freeing weight w xs)) 0
  walk_enough weight w xs = enough_is w (total weight (freeing weight w xs))

-- ---- the verdict

module _ {Key Value : Type 0} (kind : Kind Key Value) (choices : Choices) where
  -- a newcomer that fits needs no vote
  pub verdict_fits : (k : Key) (v : Value) (s : State Key Value) → fits choices.capacity s.recorded (kind.weighs k v) ≡ true
      → verdict kind choices k v s ≡ fits_in
  unfolding verdict
  verdict_fits k v s h = rw h

  -- one that does not is voted on
  pub vote_is : (k : Key) (v : Value) (s : State Key Value) → fits choices.capacity s.recorded (kind.weighs k v) ≡ false
      → verdict kind choices k v s ≡ vote kind choices (kind.weighs k v) (kind.hashed k) (freeing (λ (e : Entry Key Value). e.weight) (kind.weighs k v) s.touch) s.sketch
  unfolding verdict
  vote_is k v s h = rw h

  -- the vote by the walk's numbers: what the run lacks, and how popular it is
  pub vote_by : (w hash : ℕ) (run : List (Entry Key Value)) (k : Sketch) (lacking pop : ℕ)
      → lacking ≡ w - total (λ (e : Entry Key Value). e.weight) run → pop ≡ popularity kind k run
      → vote kind choices w hash run k ≡ cond ((within choices.capacity w && eqb lacking 0) && ltb pop (frequency k hash)) (outvotes run) loses
  vote_by w hash run k lacking pop l p = rw (l, p, enough_is w (total (λ (e : Entry Key Value). e.weight) run))

  -- a vote that a front of the run loses already is lost
  pub vote_lost : (w hash : ℕ) (run : List (Entry Key Value)) (k : Sketch) (p q : ℕ)
      → popularity kind k run ≡ p + q → frequency k hash ≤ p → vote kind choices w hash run k ≡ loses
  vote_lost w hash run k p q e h = rw (e, early_out (frequency k hash) p q h) (never (within choices.capacity w && leb w (total (λ (x : Entry Key Value). x.weight) run)))
    where
      never : (b : Bool) → cond (b && false) (outvotes run) loses ≡ loses
      never true = refl
      never false = refl
