use Rattle.table.specs.Meaning.{state}
use Rattle.index.specs.Meaning.{held_in}
use Rattle.index.proofs.Counting.{held_none}
use Rattle.index.proofs.Layouts.{laid}
use Rattle.index.proofs.kept.Index.clear.Goals as goal

pub invariant_of-self : goal.invariant_of-self
invariant_of-self g c = let e = c.clear.ensures in record { sound = ∣ e.sound ∣₁; laid = laid c.clear.new.self e.sound }

pub returns-clause-held : goal.returns-clause-held
unfolding held_in
returns-clause-held g c = held_none (state c.clear.new.self) c.clear.ensures.entries
