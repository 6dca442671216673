use Rattle.std.proofs.Common.{◌+◌, List, take, sym, subst, ◌∙◌}
use Rattle.std.specs.Prelude.{Option}
use Rattle.std.proofs.lemmas.Bool.{iff_false}
use Rattle.std.proofs.lemmas.List.{take_all}
use Rattle.mesh_types.specs.declared.links.Link.{Link}
use Rattle.fine_walk.specs.Passing.{IsFirstIn, IsOnward}
use Rattle.fine_walk.proofs.FirstLinks.{one_more, one_less}
use Rattle.fine_walk.proofs.onward.first_onward.Goals.{then-is_onward, else-is_onward}
use Rattle.fine_walk.proofs.onward.first_onward.Goals as goal

pub loop-link-preserved : goal.loop-link-preserved
loop-link-preserved c =
    let P = IsOnward c.args.crossing.mesh.now c.args.crossing.areas c.args.crossing.polygon.now c.args.crossing.ray c.args.visited.now in
    elim c.if-is_onward.branch [
      | then-is_onward w ↦
          subst (λ (first : Option Link). IsFirstIn P (take (c.loop-link.link-index + 1) c.args.links.now) first) (sym (w.first-is ∙ w.first_of-first.ensures))
          (one_more P c.args.links.now c.loop-link.link-index _ c.loop-link.first c.loop-link-test.true c.loop-link.invariant (c.is_onward.ensures.0 w.if-is_onward.true))
      | else-is_onward w ↦
          subst (λ (first : Option Link). IsFirstIn P (take (c.loop-link.link-index + 1) c.args.links.now) first) (sym w.first-is)
          (one_less P c.args.links.now c.loop-link.link-index _ c.loop-link.first c.loop-link-test.true c.loop-link.invariant (iff_false c.is_onward.ensures w.if-is_onward.false))
    ]

pub returns : goal.returns
returns c =
    subst (λ (seen : List Link). IsFirstIn (IsOnward c.args.crossing.mesh.now c.args.crossing.areas c.args.crossing.polygon.now c.args.crossing.ray c.args.visited.now) seen c.loop-link.first)
    (take_all c.loop-link.link-index c.args.links.now c.loop-link-test.false) c.loop-link.invariant
