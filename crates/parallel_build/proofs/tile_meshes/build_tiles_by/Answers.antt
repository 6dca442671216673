use Rattle.std.proofs.Common.{arith}
use Rattle.nav_ground.proofs.LayerLaws.{IsLayerOf-from_ground}
use Rattle.obstacle_mark.proofs.WholeFree.{KeepsRadius-from_ground}
use Rattle.parallel_build.proofs.tile_meshes.build_tiles_by.Goals as goal

pub built-requires-clause-layers : goal.built-requires-clause-layers
built-requires-clause-layers g c κs within = rw c.as_slice.ensures (IsLayerOf-from_ground c.args.ground.now c.requires.level)

pub built-requires-clause-kept : goal.built-requires-clause-kept
built-requires-clause-kept g c κs within = rw c.as_slice.ensures (KeepsRadius-from_ground c.args.ground.now c.requires.level)

pub returns-in_err-tiles-clause-most : goal.returns-in_err-tiles-clause-most
returns-in_err-tiles-clause-most g c =
    record { least = omega (arith, c.tick.ensures, c.tiles.ensures); most_risen = omega (arith, c.tick.ensures, c.tiles.ensures) }

pub returns-clause-steps : goal.returns-clause-steps
returns-clause-steps g c = omega (arith, c.tick.ensures, c.tiles.ensures)

pub returns-clause-most : goal.returns-clause-most
returns-clause-most g c =
    record { least = omega (arith, c.tick.ensures, c.tiles.ensures); most_risen = omega (arith, c.tick.ensures, c.tiles.ensures) }
