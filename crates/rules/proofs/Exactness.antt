-- The opening is exact at its bounds.
use Rattle.std.proofs.Common.{ℕ, zero, suc, ◌*◌, ◌/◌, ◌<◌, Bool, eqb, ltb, leb, length, refl, inl, inr, arith}
use Rattle.std.proofs.lemmas.Bool.{cases_Bool, le-leb, lt-leb, lt-ltb, eq-eqb, ne_eqb, and_left, and_right, and_from}
use Rattle.sketch.specs.Powers.{doubled, least_power}
use Rattle.sketch.specs.Sketches.{Sketch, made_for, opens_over, ensured}
use Rattle.rules.specs.Opening.{opening_size, opens, opening}
use Rattle.rules.specs.Laws.{Opens}

-- a least power of two is at least 1
doubled_some : (n p m : ℕ) → 0 < p → 0 < doubled n p m
unfolding doubled
doubled_some zero p m h = h
doubled_some (suc n) p m h = elim (cases_Bool (ltb p m)) [ inl e ↦ rw e (doubled_some n (p * 2) m (omega arith)) | inr e ↦ rw e h ]

least_some : (m : ℕ) → 0 < least_power m
unfolding least_power
least_some m = doubled_some m 1 m (omega arith)

pub opens_once : (weighed : Bool) (words count recorded c : ℕ) (k : Sketch) → Opens weighed words count recorded c k
unfolding opening opens opening_size ensured
opens_once weighed words count recorded c k =
    let none = eqb (length k.words) 0 in
    let half = leb (c / 2) recorded in
    let size = opening_size weighed count recorded c in
    record {
      open_stays = λ h. rw (and_left none half (ne_eqb (length k.words) 0 (λ e. omega arith)));
      early_stays = λ h. rw (and_right none half (lt-leb (c / 2) recorded h));
      unbounded_stays = refl;
      opens = λ e h o.
          rw (
            and_from none half (eq-eqb (length k.words) 0 e) (le-leb (c / 2) recorded h),
            and_from (opens_over words) (ltb (length k.words) (least_power (made_for words size))) o (lt-ltb (length k.words) (least_power (made_for words size)) (omega (arith, least_some (made_for words size)))),
          );
      by_capacity = λ h. rw h;
      by_zero = λ h z. rw (h, z);
    }
