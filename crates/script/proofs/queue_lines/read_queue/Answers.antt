use Rattle.std.proofs.Common.{rules, arith, ◌≡◌, codes}
use Rattle.std.proofs.lemmas.Slice.Eq.{text_from_reads}
use Rattle.script.proofs.queue_lines.read_queue.Goals as goal

pub returns-in-unlink : goal.returns-in-unlink
returns-in-unlink c =
    let e : c.args.asked.name.now ≡ codes "unlink" = text_from_reads _ _ (omega arith) (search rules) in
    rw e (search rules)

pub returns-in-member : goal.returns-in-member
returns-in-member c =
    let e : c.args.asked.name.now ≡ codes "member" = text_from_reads _ _ (omega arith) (search rules) in
    rw e (search rules)
