use Rattle.std.proofs.Common.{◌≡◌, length, take, refl, sym, ap, ◌∙◌, subst, arith}
use Rattle.std.proofs.lemmas.List.{length-map, length-take-le}
use Rattle.sketch.specs.Counters.{halved}
use Rattle.sketch.specs.Tables.{halved_all, odds_all}
use Rattle.sketch.specs.Sketches.{Sketch, closed, halved_sketch}
use Rattle.sketch.specs.Laws.{HalvingHalves}
use Rattle.sketch.specs.Meaning.{meaning, lent_words}
use Rattle.sketch.proofs.Becoming.{unchanged, front_written, open_is, closed_is, table_within, same_sketch}
use Rattle.sketch.proofs.Runs.{halving_halves}
use Rattle.sketch.proofs.FrequencySketch.reset.Goals as goal

-- the law at the memory that the call left
at_end : (s h : Sketch) → h ≡ halved_sketch s → HalvingHalves s h
at_end s h e = subst (λ (x : Sketch). HalvingHalves s x) (sym e) (halving_halves s)

pub returns-in-Some : goal.returns-in-Some
unfolding halved_sketch halved_all
returns-in-Some c =
    let f = c.args.self.now in
    let k = c.in-Some.meter in
    let e = c.halve.ensures in
    let h = table_within f k c.in-Some.is in
    let l : length c.halve.new.table ≡ c.halve.result.table_len =
    ap length e.words ∙ length-map (take k.table_len (lent_words f)) halved ∙ length-take-le k.table_len (lent_words f) h ∙ sym e.table_len in
    let m = front_written f _ c.halve.result c.halve.new.table _ (omega (arith, h, e.table_len)) refl (rw e.table_len refl) l
    (same_sketch e.words e.sample_size e.size ∙ ap halved_sketch (sym (open_is f k c.in-Some.is))) in
    record { memory = m; halves = at_end (meaning f) _ m.sketch }

pub returns-in_default : goal.returns-in_default
unfolding halved_sketch halved_all odds_all closed
returns-in_default c =
    let f = c.args.self.now in
    let e = closed_is f c.in_default.is in
    let m = unchanged f _ (e ∙ ap halved_sketch (sym e)) in
    record { memory = m; halves = at_end (meaning f) _ m.sketch }
