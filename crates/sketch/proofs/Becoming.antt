-- Shows what the lent words mean when nothing was written, and when their front was.
use Rattle.std.proofs.Common.{◌≡◌, ℕ, ◌≤◌, List, ◌++◌, length, take, drop, Option, None, Some, sym, refl, ap, ◌∙◌, subst, arith, length-append, length-drop, take-append-drop}
use Rattle.std.proofs.lemmas.List.{take_at, length-take-le}
use Rattle.sketch.specs.declared.meter.Meter.{Meter}
use Rattle.sketch.specs.declared.FrequencySketch.{FrequencySketch}
use Rattle.sketch.specs.Sketches.{Sketch, closed}
use Rattle.sketch.specs.Openness.{table_len}
use Rattle.sketch.specs.Meaning.{lent_words, meaning, sketch_by, sketch_in, Becomes}

-- the table has as many words as its meter says
pub table_length : (o : Option Meter) (ws : List ℕ) → table_len o ≤ length ws → length (sketch_in o ws).words ≡ table_len o
unfolding sketch_in closed
table_length None ws h = refl
table_length (Some m) ws h = length-take-le m.table_len ws h

-- the sketch of a value with a meter, and of one without
pub open_is : (f : FrequencySketch) (m : Meter) → f.meter ≡ Some m → meaning f ≡ sketch_by m (lent_words f)
unfolding sketch_in
open_is f m e = ap (λ (x : Option Meter). sketch_in x (lent_words f)) e

pub closed_is : (f : FrequencySketch) → f.meter ≡ None → meaning f ≡ closed
unfolding sketch_in
closed_is f e = ap (λ (x : Option Meter). sketch_in x (lent_words f)) e

-- the table of a value with a meter lies within the lent words
pub table_within : (f : FrequencySketch) (m : Meter) → f.meter ≡ Some m → m.table_len ≤ length (lent_words f)
table_within f m e = subst (λ (x : Option Meter). table_len x ≤ length (lent_words f)) e f.fits

-- a sketch is its three parts
pub same_sketch : {w v : List ℕ} {a b m n : ℕ} → w ≡ v → a ≡ b → m ≡ n
    → ◌≡◌ {A = Sketch} (record { words = w; sample = a; size = m }) (record { words = v; sample = b; size = n })
same_sketch p q r = cc

-- nothing written
front_beyond : (o : Option Meter) (ws : List ℕ) → table_len o ≤ length ws → ws ≡ (sketch_in o ws).words ++ drop (length (sketch_in o ws).words) ws
unfolding sketch_in closed
front_beyond None ws h = refl
front_beyond (Some m) ws h = sym (ap (λ (x : ℕ). take m.table_len ws ++ drop x ws) (length-take-le m.table_len ws h) ∙ take-append-drop m.table_len ws)

pub unchanged : (f : FrequencySketch) (s : Sketch) → meaning f ≡ s → Becomes f f s
unchanged f s e =
    record {
      sketch = e;
      beyond = front_beyond f.meter (lent_words f) f.fits ∙ ap (λ (x : Sketch). x.words ++ drop (length x.words) (lent_words f)) e;
      lent = refl;
    }

-- the words of the table written, as many as the meter says
pub front_written : (f g : FrequencySketch) (m : Meter) (ys : List ℕ) (s : Sketch) → m.table_len ≤ length (lent_words f)
    → g.meter ≡ Some m → lent_words g ≡ ys ++ drop m.table_len (lent_words f) → length ys ≡ m.table_len
    → ◌≡◌ {A = Sketch} (record { words = ys; sample = m.sample_size; size = m.size }) s → Becomes f g s
unfolding sketch_in
front_written f g m ys s h em w l e =
    let ws = lent_words f in
    let t : take m.table_len (ys ++ drop m.table_len ws) ≡ ys = take_at ys (drop m.table_len ws) m.table_len l in
    let k : length (ys ++ drop m.table_len ws) ≡ length ws = omega (arith, h, l, length-append ys (drop m.table_len ws), length-drop m.table_len ws) in
    record {
      sketch = ap (λ (x : Option Meter). sketch_in x (lent_words g)) em ∙ ap (sketch_in (Some m)) w
          ∙ ap (λ (x : List ℕ). record { words = x; sample = m.sample_size; size = m.size }) t ∙ e;
      beyond = w ∙ ap (λ (x : ℕ). ys ++ drop x ws) (sym l) ∙ ap (λ (x : Sketch). x.words ++ drop (length x.words) ws) e;
      lent = ap length w ∙ k;
    }
