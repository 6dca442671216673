use Rattle.std.proofs.Common.{pos, ◌≤ℤ◌, sym, subst}
use Rattle.nav_base.specs.declared.point.Point.{Point}
use Rattle.nav_base.specs.Point.{orient_of}
use Rattle.mesh_types.specs.Portals.{edge_begin}
use Rattle.wall_slide.proofs.facing.edge_toward.Goals as goal

pub returns : goal.returns
returns c = record {
  begin = c.edge_ends.ensures.first;
  end = c.edge_ends.ensures.second;
  left = λ q holds.
      subst (λ (b : Point). pos 0 ≤ℤ orient_of b c.edge_ends.result.1 q) (sym c.edge_ends.ensures.begins)
      (subst (λ (e : Point). pos 0 ≤ℤ orient_of (edge_begin c.args.polygon.now c.args.edge) e q) (sym c.edge_ends.ensures.ends) (holds c.args.edge c.requires.there));
}
