use Rattle.std.proofs.Common.{refl, lit≤}
use lib.Ieee.{size, span, climb}
use Rattle.sketch.specs.Counters.{counter, raised, counters, packed, halved, odd_ones, odds}
use Rattle.sketch.specs.Powers.{doubled, least_power}
use Rattle.sketch.specs.Tables.{place, number, held, estimate, raised_at, raised_all, rises, halved_all, odds_all}
use Rattle.sketch.specs.Sketches.{closed, frequency, opens_over, made_for, opened, ensured, halved_sketch, reaches, counted, outcome, after, incremented}
use Rattle.sketch.specs.Sketches as sketches
use Rattle.kinds.specs.Tags.{tag_byte, tag_bytes, joined, folded_tag, filled_bytes}
use Rattle.rules.specs.Rounding.{weighed_size}
use Rattle.rules.specs.Entries.{fresh}
use Rattle.rules.specs.Opening.{opening_size, opens, opening}
use Rattle.rules.specs.Passes.{leave, life_pass, idle_pass, trim_pass, passed, passes_told}
use Rattle.rules.specs.Votes.{verdict}
use Rattle.rules.specs.Calls.{touch_entry, replace_entry, admit, step}
use Rattle.rules.specs.Account.{AllFree}
use Rattle.rules.specs.Runs.{end, log}
use Rattle.rules.specs.Hub.{serials, tags}
use Rattle.rules.proofs.theorems.samples_stand.Goals as goal

pub returns : goal.returns
unfolding AllFree size span climb counter raised counters packed halved odd_ones odds doubled least_power place number held estimate raised_at raised_all rises halved_all odds_all closed frequency opens_over made_for sketches.fresh opened ensured halved_sketch reaches counted outcome after incremented tag_byte tag_bytes joined folded_tag filled_bytes weighed_size opens fresh opening_size opening leave life_pass idle_pass trim_pass passed passes_told touch_entry replace_entry admit verdict step end log serials tags
returns c = record {
  rows_1_2 = refl;
  row_3 = refl;
  row_4 = refl;
  row_4_recorded = refl;
  row_5 = refl;
  row_6 = refl;
  row_7 = refl;
  row_7_held = refl;
  row_8 = refl;
  row_8_count = refl;
  row_8_held = refl;
  row_9 = refl;
  row_9_three = refl;
  row_9_weights = refl;
  row_9_recorded = refl;
  row_10 = refl;
  row_10_replaced = refl;
  row_10_recorded = refl;
  cells_free = (lit≤ tt, (lit≤ tt, (lit≤ tt, (lit≤ tt, (lit≤ tt, (lit≤ tt, (lit≤ tt, tt)))))));
  row_11 = refl;
  row_11_sample = refl;
}
