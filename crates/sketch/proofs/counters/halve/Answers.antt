use Rattle.std.proofs.Common.{ℕ, ◌<◌, length, get_or, set, ap, ◌∙◌, arith}
use Rattle.std.proofs.lemmas.Grind.{common_steps}
use Rattle.std.proofs.lemmas.List.{get_or_default}
use Rattle.std.proofs.lemmas.List.Sums.{sum_by_more}
use Rattle.std.proofs.lemmas.List.Edits.{map_over_more}
use Rattle.sketch.specs.Counters.{halved, odds}
use Rattle.sketch.specs.Tables.{halved_all, odds_all}
use Rattle.sketch.proofs.Word.{halved_is, odds_is, odds_le}
use Rattle.sketch.proofs.Depths.{front_at}
use Rattle.sketch.proofs.counters.halve.Goals as goal

pub overflow_add-odd : goal.overflow_add-odd
overflow_add-odd c = grind (arith, odds_is, odds_le)

pub loop-word-preserved : goal.loop-word-preserved
loop-word-preserved c =
    let xs = c.args.table.now in
    let ys = c.loop-word.table in
    let i = c.loop-word.word-index in
    let h : i < length xs = omega arith in
    let w : ℕ = get_or ys i 0 in
    let same = front_at halved xs ys i h c.loop-word.invariant.0 in
    let o = odds_is w in
    let h' : i < length ys = omega arith in (
      ap (set ys i) (halved_is w) ∙ map_over_more halved xs ys i w h c.loop-word.invariant.0 (get_or_default ys i 0 w h'),
      omega (arith, o, sum_by_more odds xs i 0 h, ap odds same),
      omega (arith, o, odds_le w),
    )

pub returns : goal.returns
unfolding halved_all odds_all
returns c = grind (arith, common_steps)
