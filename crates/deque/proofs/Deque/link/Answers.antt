-- Node i is written as the last, and the one that was the last, or the head where there is none, leads to it.
use Rattle.std.proofs.Common.{◌≡◌, true, Some, refl, ◌∙◌, rules, set, get_or}
use Rattle.std.proofs.Math.ListN.{length-set}
use Rattle.deque.specs.declared.node.Node.{Node}
use Rattle.links.specs.Links.{goes_to}
use Rattle.deque.specs.Chain.{said}
use Rattle.deque.specs.Edits.{next_to, fresh}
use Rattle.deque.specs.Meaning.{state}
use Rattle.deque.proofs.Memory.{set_node}
use Rattle.deque.proofs.Outcomes.{Joined, joined_some, joined_none, last_here, count_fits, push_said, push_made, became, free_to}
use Rattle.deque.proofs.Deque.link.Goals.{in-Some, in-None}
use Rattle.deque.proofs.Deque.link.Goals as goal

pub bounds-nodes-last : goal.bounds-nodes-last
bounds-nodes-last g c = simp length-set (last_here c.args.self.now c.in-Some.last c.in-Some.ensures)

pub bounds-nodes-last-in-Some : goal.bounds-nodes-last-in-Some
bounds-nodes-last-in-Some g c = simp length-set (last_here c.args.self.now c.in-Some.last c.in-Some.ensures)

pub overflow_add-self : goal.overflow_add-self
overflow_add-self g c = let l = count_fits c.args.self.now c.args.i c.requires in search rules

pub invariant_of-self : goal.invariant_of-self
invariant_of-self g c =
    let d = c.args.self.now in
    let i = c.args.i in
    let n : Node g.row.T.Denot = record { next = c.none.result; prev = d.tail; linked = true; element = c.args.x } in
    let m = set d.nodes.now i n in
    let to = free_to d i c.to-link.result c.requires c.to-link.ensures.place in
    let first = set_node (fresh (goes_to d.tail) c.args.x) d.nodes.now i n n (λ k. record { next = c.none.ensures k; prev = goes_to d.tail; linked = true; element = c.args.x }) in
    let behind : Joined (next_to (Some i)) m c.match-target.self.1.0.now (goes_to d.tail) (Some i) (goes_to d.head) (goes_to c.match-target.self.1.1.0) =
    elim c.match-target.branch [
      | in-Some w ↦
          let o = w.index-nodes-last.result in
          let r = get_or m w.in-Some.last o in
          joined_some _ _ _ w.in-Some.last record { next = c.to-link.result; prev = r.prev; linked = r.linked; element = r.element } o _ _ _ _ (λ k. (w.self-is k).1.0.now)
          (λ k. record { next = to k; prev = goes_to r.prev; linked = r.linked; element = r.element }) (λ k. goes_to (w.self-is k).1.1.0) w.in-Some.ensures
      | in-None w ↦ joined_none _ _ _ _ _ _ _ (λ k. (w.self-is k).1.0.now) ((λ k. goes_to (w.self-is k).1.1.0) ∙ to) w.in-None.ensures
    ] in
    let p = push_made (state d) (said _ _ _ _) d.kept i c.args.x c.requires (push_said _ _ i c.args.x _ first behind.nodes behind.end to refl) in
    record { kept = p.kept }

pub returns : goal.returns
returns g c =
    let d = c.args.self.now in
    let i = c.args.i in
    let n : Node g.row.T.Denot = record { next = c.none.result; prev = d.tail; linked = true; element = c.args.x } in
    let m = set d.nodes.now i n in
    let to = free_to d i c.to-link.result c.requires c.to-link.ensures.place in
    let first = set_node (fresh (goes_to d.tail) c.args.x) d.nodes.now i n n (λ k. record { next = c.none.ensures k; prev = goes_to d.tail; linked = true; element = c.args.x }) in
    let behind : Joined (next_to (Some i)) m c.match-target.self.1.0.now (goes_to d.tail) (Some i) (goes_to d.head) (goes_to c.match-target.self.1.1.0) =
    elim c.match-target.branch [
      | in-Some w ↦
          let o = w.index-nodes-last.result in
          let r = get_or m w.in-Some.last o in
          joined_some _ _ _ w.in-Some.last record { next = c.to-link.result; prev = r.prev; linked = r.linked; element = r.element } o _ _ _ _ (λ k. (w.self-is k).1.0.now)
          (λ k. record { next = to k; prev = goes_to r.prev; linked = r.linked; element = r.element }) (λ k. goes_to (w.self-is k).1.1.0) w.in-Some.ensures
      | in-None w ↦ joined_none _ _ _ _ _ _ _ (λ k. (w.self-is k).1.0.now) ((λ k. goes_to (w.self-is k).1.1.0) ∙ to) w.in-None.ensures
    ] in
    let owner : c.match-target.self.1.0.ghost_name ≡ d.nodes.ghost_name = elim c.match-target.branch [ in-Some w ↦ (λ k. (w.self-is k).1.0.ghost_name) | in-None w ↦ (λ k. (w.self-is k).1.0.ghost_name) ] in
    let p = push_made (state d) (said _ _ _ _) d.kept i c.args.x c.requires (push_said _ _ i c.args.x _ first behind.nodes behind.end to refl) in
    became d _ _ _ p owner
