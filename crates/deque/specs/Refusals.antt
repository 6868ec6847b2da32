-- The refusals' numbers.
use Rattle.std.specs.Prelude.{ℕ, Some, None, Ok, Err, Option, Result}
use Rattle.refusals.specs.declared.Refusal as all
use Rattle.refusals.specs.declared.Refusal.TheVariants as told
use Rattle.deque.specs.declared.refusal.Refusal.{Refusal}
use Rattle.deque.specs.declared.refusal.Refusal.TheVariants.{NotLinked, NotFree}

-- each among all refusals
abbrev pub refusal_of : Refusal → all.Refusal
refusal_of NotLinked = told.NotLinked
refusal_of NotFree = told.NotFree

-- 8: unlink, move, next, read or replace at a node not lent or not linked; 9: push at a node not lent or already linked
abbrev pub refusal_number : Refusal → ℕ
refusal_number NotLinked = 8
refusal_number NotFree = 9

-- the number of the refusal that an answer is, if it is one
abbrev pub refused_by : {A : Type 0} → Result A Refusal → Option ℕ
refused_by (Ok a) = None
refused_by (Err e) = Some (refusal_number e)
