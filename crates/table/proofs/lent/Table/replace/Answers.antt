use Rattle.table.specs.Meaning.{state}
use Rattle.table.proofs.Outcomes as calls
use Rattle.table.proofs.lent.Table.replace.Goals as goal

pub returns-in_err-c : goal.returns-in_err-c
returns-in_err-c g c = λ h. rw c.from_residual.ensures (calls.none_renewed (state c.args.self.now) c.args.i c.args.content h (c.in_err-c.ensures h))

pub returns : goal.returns
returns g c = λ h. calls.renewed (state c.args.self.now) c.args.i c.args.content c.in_ok-c.c _ _ h c.in_ok-c.ensures c.renewed-entry.ensures c.put.ensures
