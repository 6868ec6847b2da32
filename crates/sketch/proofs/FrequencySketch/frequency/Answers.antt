use Rattle.std.proofs.Common.{rules, ◌≡◌, ℕ, List, take, Option, None, Some, arith}
use Rattle.std.specs.Prelude.{MatchOption}
use Rattle.sketch.specs.declared.meter.Meter.{Meter}
use Rattle.sketch.specs.Tables.{estimate}
use Rattle.sketch.specs.Sketches.{closed, frequency}
use Rattle.sketch.specs.Meaning.{meaning, sketch_in, lent_words}
use Rattle.sketch.proofs.Depths.{estimate_nil}
use Rattle.sketch.proofs.Runs.{at_least, early_at_least, frequency_most}
use Rattle.sketch.proofs.FrequencySketch.frequency.Goals as goal

-- the frequency, with a meter and without one
by_meter : (o : Option Meter) (ws : List ℕ) (hash r : ℕ) → MatchOption o (r ≡ 0) (λ m. r ≡ estimate (take m.table_len ws) hash) → r ≡ frequency (sketch_in o ws) hash
unfolding sketch_in closed frequency
by_meter None ws hash r e = rw (estimate_nil hash) e
by_meter (Some m) ws hash r e = e

pub returns : goal.returns
returns c =
    let f = c.args.self.now in
    let s = meaning f in
    let e : c.map_or.result ≡ frequency s c.args.hash = by_meter f.meter (lent_words f) c.args.hash c.map_or.result (search rules) in
    record {
      is = e;
      most = omega (arith, e, frequency_most s c.args.hash);
      bound = at_least s c.args.hash c.map_or.result e;
      early = early_at_least s c.args.hash c.map_or.result e;
    }
