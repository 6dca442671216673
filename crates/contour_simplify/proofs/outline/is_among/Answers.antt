use Rattle.std.proofs.Common.{◌∙◌, rules}
use Rattle.std.proofs.lemmas.Fn.{always_returns_same}
use Rattle.nav_base.specs.declared.point.Point.{Point}
use Rattle.mesh_types.specs.LinkOrder.{point_cmp}
use Rattle.contour_simplify.proofs.Searches.{found_among}
use Rattle.contour_simplify.proofs.outline.is_among.Goals as goal

pub returns : goal.returns
returns c =
    c.is_ok.ensures.value
    ∙ found_among c.args.corners.now c.args.corner c.binary_search_by.result c.requires c.binary_search_by.ensures.bound
    (c.binary_search_by.ensures.position (λ (other : Point). point_cmp other c.args.corner) (always_returns_same _ _ _ (λ a r f k. search rules)))
