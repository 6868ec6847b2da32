use Rattle.std.proofs.Common.{rules, ◌≡◌, sym, ◌∙◌}
use Rattle.sketch.specs.Openness as openness
use Rattle.sketch.specs.Meaning.{lent_words}
use Rattle.sketch.proofs.Becoming.{table_length}
use Rattle.sketch.proofs.FrequencySketch.table_len.Goals as goal

pub returns : goal.returns
returns c =
    let f = c.args.self.now in
    let e : c.map_or.result ≡ openness.table_len f.meter = search rules in
    e ∙ sym (table_length f.meter (lent_words f) f.fits)
