use Rattle.std.proofs.Common.{◌≡◌, ◌*◌, ◌≤◌, ◌++◌, map, take, drop, sum_by}
use Rattle.sketch.specs.Counters.{halved, odds}
use Rattle.sketch.proofs.counters.halve.Given as goal

abbrev pub invariant-loop-word : goal.invariant-loop-word
invariant-loop-word l =
    (l.table ≡ map halved (take l.word-index l.initial.table) ++ drop l.word-index l.initial.table)
    × (l.odd ≡ sum_by odds (take l.word-index l.initial.table))
    × (l.odd ≤ 16 * l.word-index)
