use Rattle.std.proofs.Common.{length, arith}
use Rattle.table.specs.Meaning.{state}
use Rattle.table.proofs.Soundness as sound
use Rattle.table.proofs.Outcomes as calls
use Rattle.table.proofs.lent.Table.give_up.Goals as goal

pub returns-in_err-c : goal.returns-in_err-c
returns-in_err-c g c = λ h. rw c.from_residual.ensures (calls.none_parted (state c.args.self.now) c.args.i h (c.in_err-c.ensures h))

pub bucket-b-requires : goal.bucket-b-requires
bucket-b-requires g c = let s = state c.args.self.now in sound.capacity_heads (length s.cs) (length s.hs) c.args.i c.in_ok-c.ensures.within

pub part-requires : goal.part-requires
part-requires g c =
    let s = state c.args.self.now in
    let w = c.in_ok-c.ensures.within in
    let k = sound.capacity_cells (length s.cs) (length s.hs) in
    let n = sound.mod_below c.in_ok-c.c.entry.hash (length s.hs) (sound.capacity_heads (length s.cs) (length s.hs) c.args.i w) in
    record { here = omega arith; chain = omega (arith, c.bucket-b.ensures) }

pub returns : goal.returns
returns g c = λ h. calls.parted (state c.args.self.now) c.args.i c.in_ok-c.c c.before-p.result c.bucket-b.result _ _ c.to-self.result _ h c.in_ok-c.ensures c.bucket-b.ensures c.before-p.ensures c.part.ensures.cells c.part.ensures.heads c.to-self.ensures.place c.saturating_sub-self.ensures
