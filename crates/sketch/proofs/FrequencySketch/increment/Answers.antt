use Rattle.std.proofs.Common.{ℕ, ◌+◌, ◌-◌, ◌/◌, List, refl, sym, ap, ◌∙◌, arith}
use mir.Facts.{Fits-of_lt}
use Rattle.sketch.specs.declared.increment.Increment.TheVariants.{Full, Counted, Halved}
use Rattle.sketch.specs.Tables.{halved_all, odds_all}
use Rattle.sketch.specs.Sketches.{after, counted, halved_sketch}
use Rattle.sketch.proofs.Depths.{raised_all_full}
use Rattle.sketch.proofs.Powers.{sample_small}
use Rattle.sketch.proofs.Becoming.{same_sketch}
use Rattle.sketch.proofs.Increments.{promised_closed, full, counts, halves, promised}
use Rattle.sketch.proofs.FrequencySketch.increment.Goals as goal

pub returns-in_default : goal.returns-in_default
returns-in_default c = promised_closed c.args.self.now c.args.hash c.in_default.is

pub returns-then-not-raise : goal.returns-then-not-raise
unfolding after
returns-then-not-raise c =
    let f = c.args.self.now in
    let k = c.in-Some.meter in
    let hash = c.args.hash in
    let no = sym c.raise.ensures.rose ∙ c.if-not-raise.true in
    let w = c.raise.ensures.words ∙ raised_all_full _ hash no in
    promised f k hash c.in-Some.is _ k c.raise.new.table Full (full f k hash c.in-Some.is no) c.in-Some.is refl refl (same_sketch w refl refl)

pub overflow_add-size : goal.overflow_add-size
overflow_add-size c = let s = c.in-Some.meter.short in Fits-of_lt (omega (arith, sample_small c.in-Some.meter))

pub returns-then-size-meter : goal.returns-then-size-meter
unfolding after counted
returns-then-size-meter c =
    let f = c.args.self.now in
    let k = c.in-Some.meter in
    let hash = c.args.hash in
    let o = counts f k hash c.in-Some.is (sym c.raise.ensures.rose ∙ c.if-not-raise.false) c.if-size-meter.true in
    let e = c.with_size.ensures in
    promised f k hash c.in-Some.is _ c.with_size.result c.raise.new.table Counted o refl e.table_len refl
    (same_sketch c.raise.ensures.words e.sample_size e.size)

pub returns-else-size-meter : goal.returns-else-size-meter
unfolding after counted halved_sketch
returns-else-size-meter c =
    let f = c.args.self.now in
    let k = c.in-Some.meter in
    let hash = c.args.hash in
    let o = halves f k hash c.in-Some.is (sym c.raise.ensures.rose ∙ c.if-not-raise.false) c.if-size-meter.false in
    let r = c.raise.ensures.words in
    let e = c.halve.ensures in
    promised f k hash c.in-Some.is _ c.halve.result c.halve.new.table Halved o refl e.table_len refl
    (same_sketch (e.words ∙ ap halved_all r) e.sample_size (e.size ∙ ap (λ (x : List ℕ). (k.size + 1) / 2 - odds_all x / 4) r))
