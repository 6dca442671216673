use Rattle.std.proofs.Common.{◌+◌, List, take, sym, subst, ap, ◌∙◌}
use Rattle.std.proofs.lemmas.Bool.{iff_false}
use Rattle.std.proofs.lemmas.List.{take_all}
use Rattle.mesh_types.specs.declared.links.Link.{Link}
use Rattle.mesh_types.specs.declared.links.PolyRef.{PolyRef}
use Rattle.wall_slide.specs.Gathers.{IsGathered}
use Rattle.wall_query.specs.Around.{IsPassed}
use Rattle.wall_slide.proofs.GatherLaws.{missed_in, not_missed, one_more, one_less}
use Rattle.wall_query.proofs.around.push_passed.Goals.{then-is_missed+in_ok-push, else-is_missed}
use Rattle.wall_query.proofs.around.push_passed.Goals as goal

pub loop-link-preserved : goal.loop-link-preserved
loop-link-preserved c =
    let mesh = c.args.mesh.now in
    let around = c.args.around.now in
    elim c.if-is_missed.branch [
      | then-is_missed+in_ok-push w ↦
          subst (λ (list : List PolyRef). IsGathered (IsPassed mesh around) (take (c.loop-link.link-index + 1) c.args.links.now) c.args.list.now.items list)
          (sym (ap (λ v. v.items) w.list-is ∙ w.in_ok-push.ensures.items))
          (one_more mesh (IsPassed mesh around) around.from.polygon c.args.list.now.items c.loop-link.list.items c.args.links.now c.loop-link.link-index _ c.loop-link-test.true c.loop-link.invariant
          (missed_in mesh (IsPassed mesh around) around.from.polygon c.as_slice.result.now c.loop-link.list.items _ c.as_slice.ensures.value (c.is_missed.ensures.0 w.if-is_missed.true)).lacking
          (c.is_missed.ensures.0 w.if-is_missed.true).passed)
      | else-is_missed w ↦
          subst (λ (list : List PolyRef). IsGathered (IsPassed mesh around) (take (c.loop-link.link-index + 1) c.args.links.now) c.args.list.now.items list)
          (sym (ap (λ v. v.items) w.list-is))
          (one_less mesh (IsPassed mesh around) around.from.polygon c.args.list.now.items c.loop-link.list.items c.args.links.now c.loop-link.link-index _ c.loop-link-test.true c.loop-link.invariant
          (not_missed mesh (IsPassed mesh around) around.from.polygon c.loop-link.list.items _
          (λ m. iff_false c.is_missed.ensures w.if-is_missed.false (missed_in mesh (IsPassed mesh around) around.from.polygon c.loop-link.list.items c.as_slice.result.now _ (sym c.as_slice.ensures.value) m))))
    ]

pub returns : goal.returns
returns c =
    subst (λ (seen : List Link). IsGathered (IsPassed c.args.mesh.now c.args.around.now) seen c.args.list.now.items c.loop-link.list.items)
    (take_all c.loop-link.link-index c.args.links.now c.loop-link-test.false) c.loop-link.invariant
