use Rattle.std.proofs.Common.{rules, ◌≡◌, ℕ, ◌<◌, ◌≤◌, true, false, length, ◌*◌, replicate, refl, sym, ap, ◌∙◌, arith}
use Rattle.std.proofs.lemmas.List.{length-replicate}
use Rattle.sketch.specs.declared.FrequencySketch.{FrequencySketch}
use Rattle.sketch.specs.Powers.{least_power, LeastPower}
use Rattle.sketch.specs.Sketches.{closed, opens_over, made_for, fresh, opened, ensured}
use Rattle.sketch.specs.Meaning.{lent, meaning, Becomes}
use Rattle.sketch.proofs.Becoming.{unchanged, front_written, same_sketch}
use Rattle.sketch.proofs.Openings.{opening_words, opening, stays_closed, stays_open, opens, least_table}
use Rattle.sketch.proofs.FrequencySketch.ensure_capacity.Goals as goal

-- all that the call promises, from the memory after it
promised : (f g : FrequencySketch) (cap : ℕ) → Becomes f g (ensured (lent f) cap (meaning f))
    → record { memory : Becomes f g (ensured (lent f) cap (meaning f)); least : opens_over (lent f) ≡ true → meaning f ≡ closed → LeastPower (made_for (lent f) cap) (length (meaning g).words) }
promised f g cap m = record { memory = m; least = λ o e. least_table (lent f) cap (meaning f) (meaning g) o e m.sketch }

pub returns-then-not-opens_over : goal.returns-then-not-opens_over
returns-then-not-opens_over c =
    let f = c.args.self.now in
    let o : opens_over (lent f) ≡ false = sym c.opens_over.ensures ∙ c.if-not-opens_over.true in
    promised f f c.args.cap (unchanged f _ (stays_closed (lent f) c.args.cap (meaning f) o))

pub clamp-requires : goal.clamp-requires
clamp-requires c = omega (arith, (opening_words (lent c.args.self.now) (sym c.opens_over.ensures ∙ c.if-not-opens_over.false)).0)

pub made_for-meter-requires : goal.made_for-meter-requires
made_for-meter-requires c =
    let i = opening (lent c.args.self.now) c.args.cap c.clamp.result (sym c.opens_over.ensures ∙ c.if-not-opens_over.false) c.clamp.ensures in
    (i.some, i.most)

pub slice_bounds-fill-end : goal.slice_bounds-fill-end
slice_bounds-fill-end c =
    let i = opening (lent c.args.self.now) c.args.cap c.clamp.result (sym c.opens_over.ensures ∙ c.if-not-opens_over.false) c.clamp.ensures in
    omega (arith, c.made_for-meter.ensures.table_len, i.fits)

pub slice_bounds-fill-end-then-table_len-meter : goal.slice_bounds-fill-end-then-table_len-meter
slice_bounds-fill-end-then-table_len-meter c =
    let i = opening (lent c.args.self.now) c.args.cap c.clamp.result (sym c.opens_over.ensures ∙ c.if-not-opens_over.false) c.clamp.ensures in
    let h : c.made_for-meter.result.table_len ≤ lent c.args.self.now = omega (arith, c.made_for-meter.ensures.table_len, i.fits) in
    search rules

pub invariant_of-self : goal.invariant_of-self
invariant_of-self c =
    let i = opening (lent c.args.self.now) c.args.cap c.clamp.result (sym c.opens_over.ensures ∙ c.if-not-opens_over.false) c.clamp.ensures in
    let h : c.made_for-meter.result.table_len ≤ lent c.args.self.now = omega (arith, c.made_for-meter.ensures.table_len, i.fits) in
    search rules

pub returns-then-table_len-meter : goal.returns-then-table_len-meter
unfolding fresh opened
returns-then-table_len-meter c =
    let f = c.args.self.now in
    let t = lent f in
    let k = c.made_for-meter.result in
    let e = c.made_for-meter.ensures in
    let o : opens_over t ≡ true = sym c.opens_over.ensures ∙ c.if-not-opens_over.false in
    let i = opening t c.args.cap c.clamp.result o c.clamp.ensures in
    let n : k.table_len ≡ least_power (made_for t c.args.cap) = e.table_len ∙ ap least_power i.is in
    let h : length (meaning f).words < least_power (made_for t c.args.cap) = omega (arith, c.table_len.ensures, c.if-table_len-meter.true, n) in
    let w : c.fill.new.self ≡ replicate k.table_len 0 = search rules in
    promised f _ c.args.cap (front_written f _ k c.fill.new.self _ (omega (arith, n, e.table_len, i.fits)) refl refl (ap length w ∙ length-replicate k.table_len 0)
    (same_sketch (w ∙ ap (λ x. replicate x 0) n) (e.sample_size ∙ ap (λ x. 10 * x) i.is) e.size ∙ opens t c.args.cap (meaning f) o h))

pub returns-else-table_len-meter : goal.returns-else-table_len-meter
returns-else-table_len-meter c =
    let f = c.args.self.now in
    let t = lent f in
    let i = opening t c.args.cap c.clamp.result (sym c.opens_over.ensures ∙ c.if-not-opens_over.false) c.clamp.ensures in
    let n = ap least_power i.is in
    let h : least_power (made_for t c.args.cap) ≤ length (meaning f).words = omega (arith, c.table_len.ensures, c.if-table_len-meter.false, c.made_for-meter.ensures.table_len, n) in
    promised f f c.args.cap (unchanged f _ (stays_open t c.args.cap (meaning f) h))
