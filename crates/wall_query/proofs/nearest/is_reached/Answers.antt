use Rattle.std.proofs.Common.{List, sym, subst}
use Rattle.std.specs.Prelude.{Contains}
use Rattle.mesh_types.specs.declared.links.PolyRef.{PolyRef}
use Rattle.wall_query.proofs.nearest.is_reached.Goals as goal

pub returns : goal.returns
returns c =
    let at = c.args.wall.now.polygon in (
      λ t. (c.in_ok-list.ensures at).0 (subst (λ (l : List PolyRef). Contains l at) c.as_slice.ensures.value (c.has.ensures.0 t)),
      λ is. c.has.ensures.1 (subst (λ (l : List PolyRef). Contains l at) (sym c.as_slice.ensures.value) ((c.in_ok-list.ensures at).1 is)),
    )
