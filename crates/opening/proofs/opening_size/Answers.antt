use Rattle.std.proofs.Common.{◌≡◌, ℕ, ◌<◌, min, Bool, true, false, sym, ap, ◌∙◌, arith}
use Rattle.std.proofs.lemmas.Bool.{eq-eqb, ne_eqb}
use Rattle.rules.specs.Opening.{opening_size}
use Rattle.rules.specs.Rounding.{weighed_size}
use Rattle.opening.proofs.opening_size.Goals as goal

-- nothing is weighed
by_capacity : (weighed : Bool) (n r c : ℕ) → weighed ≡ false → c ≡ opening_size weighed n r c
unfolding opening_size
by_capacity weighed n r c e = rw e

-- no capacity to have a share of
by_zero : (weighed : Bool) (n r c : ℕ) → weighed ≡ true → c ≡ 0 → 0 ≡ opening_size weighed n r c
unfolding opening_size
by_zero weighed n r c e z = rw (e, eq-eqb c 0 z)

by_share : (weighed : Bool) (n r c : ℕ) → weighed ≡ true → 0 < c → weighed_size n r c ≡ opening_size weighed n r c
unfolding opening_size
by_share weighed n r c e l = rw (e, ne_eqb c 0 (omega arith))

pub returns-then-not-weighed : goal.returns-then-not-weighed
returns-then-not-weighed c = c.min-capacity.ensures ∙ by_capacity c.args.weighed (min c.args.entries 4096) (min c.args.recorded 17592186044416) (min c.args.capacity 281474976710656) c.if-not-weighed.true

pub returns-then-capacity-eq0 : goal.returns-then-capacity-eq0
returns-then-capacity-eq0 c =
    by_zero c.args.weighed (min c.args.entries 4096) (min c.args.recorded 17592186044416) (min c.args.capacity 281474976710656) c.if-not-weighed.false
    (sym c.min-capacity.ensures ∙ c.if-capacity-eq0.true)

pub returns : goal.returns
returns c =
    let some : 0 < min c.args.capacity 281474976710656 = omega (arith, c.min-capacity.ensures, c.if-capacity-eq0.false) in
    c.weighed_opening.ensures ∙ ap (λ (n : ℕ). weighed_size n c.min-2.result c.min-capacity.result) c.min.ensures
    ∙ ap (λ (n : ℕ). weighed_size (min c.args.entries 4096) n c.min-capacity.result) c.min-2.ensures
    ∙ ap (weighed_size (min c.args.entries 4096) (min c.args.recorded 17592186044416)) c.min-capacity.ensures
    ∙ by_share c.args.weighed (min c.args.entries 4096) (min c.args.recorded 17592186044416) (min c.args.capacity 281474976710656) c.if-not-weighed.false some
