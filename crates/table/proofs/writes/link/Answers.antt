use Rattle.std.proofs.Common.{sym, ◌∙◌}
use Rattle.table.specs.Edits.{chain_to}
use Rattle.table.proofs.Memory.{set_edited, edited_past}
use Rattle.table.proofs.writes.link.Goals as goal

pub returns-in-Some : goal.returns-in-Some
returns-in-Some g c = c.put.ensures ∙ set_edited (chain_to c.args.to) c.args.cells.now c.args.i c.in-Some.c (sym c.in-Some.ensures)

pub returns-in_default : goal.returns-in_default
returns-in_default g c = sym (edited_past (chain_to c.args.to) c.args.cells.now c.args.i (sym c.in_default.ensures))
