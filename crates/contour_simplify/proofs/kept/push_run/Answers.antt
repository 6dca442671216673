use Rattle.std.proofs.Common.{◌∙◌, ap, List, [], ◌∷◌, ◌++◌, get_or}
use Rattle.std.proofs.lemmas.List.{append_assoc}
use Rattle.nav_base.specs.declared.point.Point.{Point}
use Rattle.mesh_types.specs.Simplified.{origin, left_of_run}
use Rattle.contour_simplify.proofs.kept.push_run.Goals as goal

pub returns : goal.returns
unfolding left_of_run
returns c =
    let first : Point = get_or c.args.round.now c.args.ends.0 origin in
    c.in_ok-extend_from_slice.ensures.items
    ∙ ap (λ (ps : List Point). ps ++ c.as_slice.result.now) c.in_ok-push.ensures.items
    ∙ append_assoc c.args.corners.now.items (first ∷ []) c.as_slice.result.now
    ∙ ap (λ (ps : List Point). c.args.corners.now.items ++ first ∷ ps) (c.as_slice.ensures.value ∙ c.in_ok-kept.ensures.value)
