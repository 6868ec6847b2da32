-- The decision on a newcomer: it fits, or a run of the longest untouched is less popular than it, or it is turned away.
use Rattle.std.specs.Prelude.{ℕ, Bool, true, false, cond, ◌&&◌, List, [], ◌∷◌, nat_le, nat_lt}
use Rattle.sketch.specs.Sketches.{Sketch, frequency}
use Rattle.rules.specs.Fronts.{total, freeing}
use Rattle.rules.specs.declared.choices.Choices.{Choices}
use Rattle.rules.specs.Kinds.{Kind}
use Rattle.rules.specs.Entries.{Entry, State}
use Rattle.rules.specs.Limits.{fits, within}

-- what becomes of a newcomer: it fits, or gets in by a run that leaves for it, or is turned away
pub data Verdict (A : Type 0) : Type 0 where
  fits_in : Verdict A
  outvotes : List A → Verdict A
  loses : Verdict A

-- nobody is in a run
abbrev pub none : {A : Type 0} → List A → Bool
none [] = true
none (x ∷ xs) = false

module _ {Key Value : Type 0} (kind : Kind Key Value) where
  -- a run's popularity
  abbrev pub popularity : Sketch → List (Entry Key Value) → ℕ
  popularity k es = total (λ (e : Entry Key Value). frequency k e.hash) es

  module _ (choices : Choices) where
    -- the vote: the shortest run that frees the newcomer's weight, against the newcomer
    abbrev pub vote : ℕ → ℕ → List (Entry Key Value) → Sketch → Verdict (Entry Key Value)
    vote w hash run k =
        cond ((within choices.capacity w && nat_le w (total (λ (e : Entry Key Value). e.weight) run)) && nat_lt (popularity k run) (frequency k hash))
        (outvotes run) loses

    -- the decision on a newcomer, which changes nothing
    unfoldable pub verdict : Key → Value → State Key Value → Verdict (Entry Key Value)
    verdict k v s =
        cond (fits choices.capacity s.recorded (kind.weighs k v)) fits_in
        (vote (kind.weighs k v) (kind.hashed k) (freeing (λ (e : Entry Key Value). e.weight) (kind.weighs k v) s.touch) s.sketch)
