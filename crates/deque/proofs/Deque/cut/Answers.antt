-- The neighbours are joined, the end is moved where there is none, and then the node is taken out.
use Rattle.std.proofs.Common.{refl}
use Rattle.links.specs.Links.{goes_to}
use Rattle.deque.specs.Views.{view_of}
use Rattle.deque.specs.Chain.{said}
use Rattle.deque.specs.Edits.{next_to, prev_to, loose}
use Rattle.deque.specs.Meaning.{state}
use Rattle.deque.proofs.Memory.{set_node}
use Rattle.deque.proofs.Outcomes.{Joined, joined_some, joined_none, cut_said, cut_made, became}
use Rattle.deque.proofs.Deque.cut.Goals.{in-Some, in-None, in-Some-target, in-None-target}
use Rattle.deque.proofs.Deque.cut.Goals as goal

pub invariant_of-self : goal.invariant_of-self
invariant_of-self g c =
    let d = c.args.self.now in
    let n = view_of c.args.n in
    let ahead : Joined (next_to n.next) d.nodes.now c.match-target.nodes n.prev n.next (goes_to d.head) (goes_to c.match-target.self.1.1.0) =
    elim c.match-target.branch [
      | in-Some w ↦ joined_some _ _ _ w.in-Some.before _ w.index-nodes-before.result _ _ _ _ w.nodes-is refl (λ k. goes_to (w.self-is k).1.1.0) w.in-Some.ensures
      | in-None w ↦ joined_none _ _ _ _ _ _ _ w.nodes-is (λ k. goes_to (w.self-is k).1.1.0) w.in-None.ensures
    ] in
    let behind : Joined (prev_to n.prev) c.match-target.nodes c.match-target-2.nodes n.next n.prev (goes_to d.tail) (goes_to c.match-target-2.self.1.1.1.0) =
    elim c.match-target-2.branch [
      | in-Some-target w ↦ joined_some _ _ _ w.in-Some-target.behind _ w.index-nodes-behind.result _ _ _ _ w.nodes-is refl (λ k. goes_to (w.self-is k).1.1.1.0) w.in-Some-target.ensures
      | in-None-target w ↦ joined_none _ _ _ _ _ _ _ w.nodes-is (λ k. goes_to (w.self-is k).1.1.1.0) w.in-None-target.ensures
    ] in
    let last = set_node loose c.match-target-2.nodes c.args.i c.new.result c.index-nodes-i.result c.new.ensures in
    let m = cut_made (state d) (said _ _ _ _) d.kept c.args.i n c.requires.among c.requires.lies (cut_said _ _ c.args.i n _ _ ahead.nodes behind.nodes last ahead.end behind.end refl) in
    record { kept = m.kept }

pub returns : goal.returns
returns g c =
    let d = c.args.self.now in
    let n = view_of c.args.n in
    let ahead : Joined (next_to n.next) d.nodes.now c.match-target.nodes n.prev n.next (goes_to d.head) (goes_to c.match-target.self.1.1.0) =
    elim c.match-target.branch [
      | in-Some w ↦ joined_some _ _ _ w.in-Some.before _ w.index-nodes-before.result _ _ _ _ w.nodes-is refl (λ k. goes_to (w.self-is k).1.1.0) w.in-Some.ensures
      | in-None w ↦ joined_none _ _ _ _ _ _ _ w.nodes-is (λ k. goes_to (w.self-is k).1.1.0) w.in-None.ensures
    ] in
    let behind : Joined (prev_to n.prev) c.match-target.nodes c.match-target-2.nodes n.next n.prev (goes_to d.tail) (goes_to c.match-target-2.self.1.1.1.0) =
    elim c.match-target-2.branch [
      | in-Some-target w ↦ joined_some _ _ _ w.in-Some-target.behind _ w.index-nodes-behind.result _ _ _ _ w.nodes-is refl (λ k. goes_to (w.self-is k).1.1.1.0) w.in-Some-target.ensures
      | in-None-target w ↦ joined_none _ _ _ _ _ _ _ w.nodes-is (λ k. goes_to (w.self-is k).1.1.1.0) w.in-None-target.ensures
    ] in
    let last = set_node loose c.match-target-2.nodes c.args.i c.new.result c.index-nodes-i.result c.new.ensures in
    let m = cut_made (state d) (said _ _ _ _) d.kept c.args.i n c.requires.among c.requires.lies (cut_said _ _ c.args.i n _ _ ahead.nodes behind.nodes last ahead.end behind.end refl) in
    became d _ _ _ m refl
