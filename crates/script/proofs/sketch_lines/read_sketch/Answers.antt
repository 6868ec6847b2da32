use Rattle.std.proofs.Common.{rules, arith, ◌≡◌, codes}
use Rattle.std.proofs.lemmas.Slice.Eq.{text_from_reads}
use Rattle.script.proofs.sketch_lines.read_sketch.Goals as goal

pub returns-in-sketch : goal.returns-in-sketch
returns-in-sketch c =
    let e : c.args.asked.name.now ≡ codes "sketch" = text_from_reads _ _ (omega arith) (search rules) in
    rw e (search rules)

pub returns-in-estimate : goal.returns-in-estimate
returns-in-estimate c =
    let e : c.args.asked.name.now ≡ codes "estimate" = text_from_reads _ _ (omega arith) (search rules) in
    rw e (search rules)
