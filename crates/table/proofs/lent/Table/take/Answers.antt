use Rattle.std.proofs.Common.{length, sym, ◌∙◌, arith}
use Rattle.table.specs.Meaning.{state}
use Rattle.table.proofs.Soundness as sound
use Rattle.table.proofs.Outcomes as calls
use Rattle.table.proofs.lent.Table.take.Goals as goal

pub returns-then-self-capacity : goal.returns-then-self-capacity
returns-then-self-capacity g c = λ h. calls.full_took (state c.args.self.now) c.args.entry h (omega arith)

pub returns-in_err-v : goal.returns-in_err-v
returns-in_err-v g c = λ h. rw c.from_residual.ensures (calls.no_vacancy_took (state c.args.self.now) c.args.entry h (sym c.in_err-v.was ∙ c.vacancy.ensures))

pub bucket-b-requires : goal.bucket-b-requires
bucket-b-requires g c =
    let s = state c.args.self.now in
    sound.capacity_heads (length s.cs) (length s.hs) c.in_ok-v.v.place (calls.vacancy_within s c.in_ok-v.v (sym c.in_ok-v.was ∙ c.vacancy.ensures))

pub join-requires : goal.join-requires
join-requires g c =
    let s = state c.args.self.now in
    let w = calls.vacancy_within s c.in_ok-v.v (sym c.in_ok-v.was ∙ c.vacancy.ensures) in
    let a = sound.capacity_cells (length s.cs) (length s.hs) in
    let b = sound.capacity_most (length s.cs) (length s.hs) in
    let n = sound.mod_below c.args.entry.hash (length s.hs) (sound.capacity_heads (length s.cs) (length s.hs) c.in_ok-v.v.place w) in
    record { here = omega arith; small = omega arith; chain = omega (arith, c.bucket-b.ensures) }

pub overflow_add-self : goal.overflow_add-self
overflow_add-self g c = let s = state c.args.self.now in let b = sound.capacity_most (length s.cs) (length s.hs) in omega arith

pub returns : goal.returns
returns g c = λ h. calls.taken (state c.args.self.now) c.in_ok-v.v c.args.entry c.bucket-b.result _ _ h (sym c.in_ok-v.was ∙ c.vacancy.ensures) c.bucket-b.ensures c.join.ensures.cells c.join.ensures.heads
