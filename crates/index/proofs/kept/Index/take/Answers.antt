use Rattle.std.proofs.Common.{rules}
use Rattle.links.specs.Places.{pick}
use Rattle.table.specs.Meaning.{state}
use Rattle.index.specs.Meaning.{entries, capacity_in, held_in}
use Rattle.index.proofs.Counting.{took_answer, held_more}
use Rattle.index.proofs.Layouts.{laid}
use Rattle.index.proofs.Promises.{whole}
use Rattle.index.proofs.kept.Index.take.Goals as goal

pub invariant_of-self : goal.invariant_of-self
invariant_of-self g c = let e = c.take.ensures (whole c.args.self.now) in record { sound = ∣ e.sound ∣₁; laid = laid c.take.new.self e.sound }

pub returns-clause-answer : goal.returns-clause-answer
unfolding capacity_in held_in
returns-clause-answer g c = let e = c.take.ensures (whole c.args.self.now) in took_answer (state c.args.self.now.table) (state c.take.new.self) _ c.take.result e

pub returns-clause-holds : goal.returns-clause-holds
unfolding entries
returns-clause-holds g c = let e = c.take.ensures (whole c.args.self.now) in search rules

pub returns-clause-fresh : goal.returns-clause-fresh
unfolding entries
returns-clause-fresh g c = let e = c.take.ensures (whole c.args.self.now) in search rules

pub returns-clause-within : goal.returns-clause-within
unfolding capacity_in
returns-clause-within g c = let e = c.take.ensures (whole c.args.self.now) in search rules

pub returns-clause-held : goal.returns-clause-held
unfolding held_in
returns-clause-held g c = let e = c.take.ensures (whole c.args.self.now) in held_more (state c.args.self.now.table) (state c.take.new.self) (whole c.args.self.now) e.sound (pick c.take.result 0 1) e.held

pub returns-clause-capacity : goal.returns-clause-capacity
unfolding capacity_in
returns-clause-capacity g c = let e = c.take.ensures (whole c.args.self.now) in search rules

pub returns-clause-lawful : goal.returns-clause-lawful
unfolding entries
returns-clause-lawful g c = let e = c.take.ensures (whole c.args.self.now) in search rules
