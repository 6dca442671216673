use Rattle.std.proofs.Common.{◌∙◌, ap, pos, rules, w32}
use Rattle.std.proofs.lemmas.Int.{to_z-of_z}
use Rattle.std.specs.Option.{option_map_or}
use Rattle.nav_base.specs.Convex.{corner_at}
use Rattle.mesh_types.specs.declared.polygon.Polygon.{Polygon}
use Rattle.tile_links.specs.Across.{fixed_of}
use Rattle.tile_links.proofs.portals.line_of.Goals as goal

pub returns-in-Some : goal.returns-in-Some
returns-in-Some c =
    to_z-of_z w32 c.along.result (search rules) ∙ c.along.ensures ∙ ap (fixed_of c.args.side) c.corner_at.ensures
    ∙ ap (λ o. option_map_or (λ (p : Polygon). fixed_of c.args.side (corner_at p.corners c.args.entry.now.edge)) o (pos 0)) c.in-Some.ensures
