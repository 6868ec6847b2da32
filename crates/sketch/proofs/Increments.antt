-- Shows what an increment comes to, read off the meter and the table, and that what it writes is the sketch after it.
use Rattle.std.proofs.Common.{◌≡◌, ℕ, ◌+◌, ◌<◌, ◌≤◌, true, false, List, ◌++◌, length, drop, Some, None, refl, sym, ap, ◌∙◌, subst, arith}
use Rattle.std.proofs.lemmas.List.{length-map, length-take-le}
use Rattle.sketch.specs.declared.meter.Meter.{Meter}
use Rattle.sketch.specs.declared.FrequencySketch.{FrequencySketch}
use Rattle.sketch.specs.declared.increment.Increment.{Increment}
use Rattle.sketch.specs.declared.increment.Increment.TheVariants.{Closed, Full, Counted, Halved}
use Rattle.sketch.specs.Counters.{halved}
use Rattle.sketch.specs.Tables.{raised_all, rises, halved_all}
use Rattle.sketch.specs.Sketches.{Sketch, closed, outcome, incremented, after, counted, halved_sketch}
use Rattle.sketch.specs.Laws.{IncrementRaises, FewNeverHalve}
use Rattle.sketch.specs.Meaning.{meaning, lent_words, sketch_by, Becomes}
use Rattle.sketch.proofs.Depths.{length_raised_all}
use Rattle.sketch.proofs.Powers.{table_some}
use Rattle.sketch.proofs.Becoming.{unchanged, open_is, closed_is, table_within, front_written}
use Rattle.sketch.proofs.Cases.{is_closed, is_full, is_counted, is_halved, incremented_by}
use Rattle.sketch.proofs.Runs.{increment_raises, few_never_halve}

-- all that an increment promises where it comes to r and leaves g
abbrev pub Promised : FrequencySketch → FrequencySketch → ℕ → Increment → Type 0
Promised f g hash r =
    record {
      answer : r ≡ outcome (meaning f) hash;
      memory : Becomes f g (incremented (meaning f) hash);
      raises : IncrementRaises r (meaning f) (meaning g) hash;
      few : FewNeverHalve;
    }

by_memory : (f g : FrequencySketch) (hash : ℕ) (r : Increment) → outcome (meaning f) hash ≡ r → Becomes f g (incremented (meaning f) hash) → Promised f g hash r
by_memory f g hash r o m =
    record {
      answer = sym o;
      memory = m;
      raises = subst (λ (x : Increment). IncrementRaises x (meaning f) (meaning g) hash) o
          (subst (λ (x : Sketch). IncrementRaises (outcome (meaning f) hash) (meaning f) x hash) (sym m.sketch) (increment_raises (meaning f) hash));
      few = few_never_halve;
    }

-- without a meter
pub promised_closed : (f : FrequencySketch) (hash : ℕ) → f.meter ≡ None → Promised f f hash Closed
unfolding closed after
promised_closed f hash is =
    let o = is_closed (meaning f) hash (ap (λ (x : Sketch). length x.words) (closed_is f is)) in
    by_memory f f hash Closed o (unchanged f (incremented (meaning f) hash) (sym (incremented_by (meaning f) hash Closed o)))

-- a table keeps its length
length_after : (o : Increment) (s : Sketch) (hash : ℕ) → length (after o s hash).words ≡ length s.words
unfolding after counted halved_sketch halved_all
length_after Closed s hash = refl
length_after Full s hash = refl
length_after Counted s hash = length_raised_all s.words hash
length_after Halved s hash = length-map (raised_all s.words hash) halved ∙ length_raised_all s.words hash

-- with one
module _ (f : FrequencySketch) (m : Meter) (hash : ℕ) (is : f.meter ≡ Some m) where
  fills : length (sketch_by m (lent_words f)).words ≡ m.table_len
  fills = length-take-le m.table_len (lent_words f) (table_within f m is)

  some : 0 < length (sketch_by m (lent_words f)).words
  some = omega (arith, table_some m, fills)

  by_meter : (o : Increment) → outcome (sketch_by m (lent_words f)) hash ≡ o → outcome (meaning f) hash ≡ o
  by_meter o e = ap (λ (s : Sketch). outcome s hash) (open_is f m is) ∙ e

  pub full : rises (sketch_by m (lent_words f)).words hash ≡ false → outcome (meaning f) hash ≡ Full
  full r = by_meter Full (is_full (sketch_by m (lent_words f)) hash some r)

  pub counts : rises (sketch_by m (lent_words f)).words hash ≡ true → m.size + 1 < m.sample_size → outcome (meaning f) hash ≡ Counted
  counts r h = by_meter Counted (is_counted (sketch_by m (lent_words f)) hash some r h)

  pub halves : rises (sketch_by m (lent_words f)).words hash ≡ true → m.sample_size ≤ m.size + 1 → outcome (meaning f) hash ≡ Halved
  halves r h = by_meter Halved (is_halved (sketch_by m (lent_words f)) hash some r h)

  -- the words ys written to the table, and the meter k
  pub promised : (g : FrequencySketch) (k : Meter) (ys : List ℕ) (o : Increment) → outcome (meaning f) hash ≡ o
      → g.meter ≡ Some k → k.table_len ≡ m.table_len → lent_words g ≡ ys ++ drop m.table_len (lent_words f)
      → ◌≡◌ {A = Sketch} (record { words = ys; sample = k.sample_size; size = k.size }) (after o (sketch_by m (lent_words f)) hash)
      → Promised f g hash o
  promised g k ys o e ek en w s =
      let ws = lent_words f in
      let h : k.table_len ≤ length ws = omega (arith, en, table_within f m is) in
      let l : length ys ≡ k.table_len = ap (λ (x : Sketch). length x.words) s ∙ length_after o (sketch_by m ws) hash ∙ fills ∙ sym en in
      by_memory f g hash o e (front_written f g k ys (incremented (meaning f) hash) h ek (w ∙ ap (λ (n : ℕ). ys ++ drop n ws) (sym en)) l
      (s ∙ ap (λ (x : Sketch). after o x hash) (sym (open_is f m is)) ∙ sym (incremented_by (meaning f) hash o e)))
