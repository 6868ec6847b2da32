use Rattle.std.proofs.Common.{rules}
use Rattle.table.specs.Meaning.{state}
use Rattle.index.specs.Meaning.{entries, capacity_in, held_in}
use Rattle.index.proofs.Counting.{held_same}
use Rattle.index.proofs.Layouts.{laid}
use Rattle.index.proofs.Promises.{whole}
use Rattle.index.proofs.kept.Index.replace.Goals as goal

pub invariant_of-self : goal.invariant_of-self
invariant_of-self g c = let e = c.replace.ensures (whole c.args.self.now) in record { sound = ∣ e.sound ∣₁; laid = laid c.replace.new.self e.sound }

pub returns-clause-answer : goal.returns-clause-answer
unfolding entries
returns-clause-answer g c = let e = c.replace.ensures (whole c.args.self.now) in search rules

pub returns-clause-holds : goal.returns-clause-holds
unfolding entries
returns-clause-holds g c = let e = c.replace.ensures (whole c.args.self.now) in search rules

pub returns-clause-held : goal.returns-clause-held
unfolding held_in
returns-clause-held g c = let e = c.replace.ensures (whole c.args.self.now) in held_same (state c.args.self.now.table) (state c.replace.new.self) (whole c.args.self.now) e.sound e.held

pub returns-clause-capacity : goal.returns-clause-capacity
unfolding capacity_in
returns-clause-capacity g c = let e = c.replace.ensures (whole c.args.self.now) in search rules

pub returns-clause-lawful : goal.returns-clause-lawful
unfolding entries
returns-clause-lawful g c = let e = c.replace.ensures (whole c.args.self.now) in search rules
