use Rattle.std.proofs.Common.{sym, subst}
use Rattle.mesh_types.specs.Soundness.{AreTiles}
use Rattle.tile_links.proofs.join.whole.Goals as goal

pub joined-requires-clause-tiles : goal.joined-requires-clause-tiles
joined-requires-clause-tiles c = subst (AreTiles c.args.setting.now) (sym c.in_ok-tiles.ensures) c.requires.tiles
