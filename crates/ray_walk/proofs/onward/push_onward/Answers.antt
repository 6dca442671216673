use Rattle.std.proofs.Common.{◌+◌, List, take, sym, subst, ap, ◌∙◌}
use Rattle.std.proofs.lemmas.Bool.{iff_false}
use Rattle.std.proofs.lemmas.List.{take_all}
use Rattle.mesh_types.specs.declared.links.Link.{Link}
use Rattle.ray_walk.specs.Walking.{Gathers, IsOnward}
use Rattle.ray_walk.proofs.Gathering.{one_more, one_less}
use Rattle.ray_walk.proofs.onward.push_onward.Goals.{then-is_onward+in_ok-push, else-is_onward}
use Rattle.ray_walk.proofs.onward.push_onward.Goals as goal

pub loop-link-preserved : goal.loop-link-preserved
loop-link-preserved c = elim c.if-is_onward.branch [
  | then-is_onward+in_ok-push w ↦
      subst (λ (links : List Link). Gathers (IsOnward c.args.inside.polygon.now c.args.inside.ray c.args.visited.now) c.args.onward.now.items (take (c.loop-link.link-index + 1) c.args.links.now) links)
      (sym (ap (λ v. v.items) w.onward-is ∙ w.in_ok-push.ensures.items))
      (one_more (IsOnward c.args.inside.polygon.now c.args.inside.ray c.args.visited.now) c.args.onward.now.items c.loop-link.onward.items c.args.links.now c.loop-link.link-index _
      c.loop-link-test.true c.loop-link.invariant (c.is_onward.ensures.0 w.if-is_onward.true))
  | else-is_onward w ↦
      subst (λ (links : List Link). Gathers (IsOnward c.args.inside.polygon.now c.args.inside.ray c.args.visited.now) c.args.onward.now.items (take (c.loop-link.link-index + 1) c.args.links.now) links)
      (sym (ap (λ v. v.items) w.onward-is))
      (one_less (IsOnward c.args.inside.polygon.now c.args.inside.ray c.args.visited.now) c.args.onward.now.items c.loop-link.onward.items c.args.links.now c.loop-link.link-index _
      c.loop-link-test.true c.loop-link.invariant (iff_false c.is_onward.ensures w.if-is_onward.false))
]

pub returns : goal.returns
returns c =
    subst (λ (seen : List Link). Gathers (IsOnward c.args.inside.polygon.now c.args.inside.ray c.args.visited.now) c.args.onward.now.items seen c.loop-link.onward.items)
    (take_all c.loop-link.link-index c.args.links.now c.loop-link-test.false) c.loop-link.invariant
