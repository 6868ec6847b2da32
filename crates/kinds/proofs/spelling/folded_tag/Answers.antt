use Rattle.std.proofs.Common.{◌∙◌, arith}
use Rattle.kinds.specs.Words.{capitals, folded_word}
use Rattle.kinds.specs.Folding.{folded_lanes, folds_each_byte, same_byte_by_byte, folds_once}
use Rattle.kinds.proofs.spelling.folded_tag.Goals as goal

pub returns : goal.returns
unfolding capitals
returns c =
    let k = c.args.tag in
    record {
      answer = folded_word k (omega arith) ∙ folded_lanes k;
      bytewise = folds_each_byte;
      same = same_byte_by_byte;
      once = folds_once;
    }
