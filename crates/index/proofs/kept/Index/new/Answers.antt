use Rattle.table.specs.Meaning.{state}
use Rattle.index.specs.Meaning.{memory, held_in}
use Rattle.index.proofs.Counting.{held_none}
use Rattle.index.proofs.Layouts.{laid}
use Rattle.index.proofs.kept.Index.new.Goals as goal

pub invariant_of-result : goal.invariant_of-result
invariant_of-result g c = let e = c.new-table.ensures in record { sound = ∣ e.sound ∣₁; laid = laid c.new-table.result e.sound }

pub returns-clause-held : goal.returns-clause-held
unfolding held_in
returns-clause-held g c = held_none (state c.new-table.result) c.new-table.ensures.entries

pub returns-clause-untouched : goal.returns-clause-untouched
unfolding memory
returns-clause-untouched g c = c.new-table.ensures.cells
