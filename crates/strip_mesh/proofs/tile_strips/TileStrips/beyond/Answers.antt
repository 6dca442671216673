use Rattle.std.proofs.Common.{◌≡◌, ◌∙◌, ap, Option, ℕ}
use Rattle.std.specs.Prelude.{None, Some, option_and_then, slice_get, ◌==◌, if◌then◌else◌}
use Rattle.nav_ground.specs.Directions.{number}
use Rattle.nav_ground.proofs.DirectionLaws.{number-below}
use Rattle.cell_table.specs.Table.{neighbour}
use Rattle.strip_mesh.proofs.Counts.{beyond_is}
use Rattle.strip_mesh.proofs.tile_strips.TileStrips.beyond.Goals as goal

pub returns : goal.returns
returns c =
    let to : c.neighbour-to.result ≡ neighbour c.args.self.now.table c.args.at (number c.args.dir) = c.neighbour-to.ensures ∙ ap (λ t. neighbour t c.args.at (number c.args.dir)) c.as_slice.ensures in
    c.other.ensures
    ∙ ap (λ (o : Option ℕ). option_and_then (λ t. if t == c.args.strip then None else Some t) o) (c.copied-owner.ensures ∙ c.get.ensures ∙ ap (slice_get c.args.self.now.index.owners) to)
    ∙ beyond_is c.args.self.now c.requires.rules c.args.strip (number c.args.dir) c.args.at (number-below c.args.dir) c.requires.there
