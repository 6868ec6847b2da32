use Rattle.std.proofs.Common.{◌∙◌, arith}
use Rattle.kinds.specs.Words.{marked_word}
use Rattle.kinds.specs.Folding.{filled_lanes, filled_few}
use Rattle.kinds.proofs.spelling.filled_bytes.Goals as goal

pub returns : goal.returns
returns c =
    let k = c.args.tag in
    let is = marked_word k (omega arith) ∙ filled_lanes k in
    record { answer = is; few = omega (arith, is, filled_few k) }
