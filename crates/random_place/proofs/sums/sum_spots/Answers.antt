use Rattle.std.proofs.Common.{◌<◌, subst, sym, ap, ◌∙◌, arith}
use Rattle.std.specs.Prelude.{All}
use Rattle.std.proofs.lemmas.List.Elements.{All-push}
use Rattle.mesh_types.specs.declared.mesh.TileMesh.{TileMesh}
use Rattle.random_place.specs.Spots.{open_cells_in}
use Rattle.random_place.proofs.CountLaws.{counts_next, few_tiles}
use Rattle.random_place.proofs.SumLaws.{sums_next}
use Rattle.random_place.proofs.sums.sum_spots.Goals as goal

pub overflow_add-count : goal.overflow_add-count
overflow_add-count c =
    let few = few_tiles c.args.mesh.now.setting c.requires.setting in
    let each = c.requires.sound.tiles.each in
    omega (arith, few, each, c.loop-tile.invariant.bound, c.count_in_tile-count.ensures.bound, c.len-tile-end.ensures, c.loop-tile-test.true)

pub loop-tile-preserved : goal.loop-tile-preserved
loop-tile-preserved c =
    let mesh = c.args.mesh.now in
    let old = c.loop-tile.invariant in
    let few = few_tiles mesh.setting c.requires.setting in
    let each = c.requires.sound.tiles.each in
    let count =
    counts_next (λ (tile : TileMesh). open_cells_in c.args.areas tile.storeys.list) mesh.tiles c.loop-tile.tile c.at.result.now c.loop-tile.count
    c.count_in_tile-count.result (omega (arith, c.len-tile-end.ensures, c.loop-tile-test.true)) c.at.ensures old.count
    (c.count_in_tile-count.ensures.value ∙ ap (λ (tile : TileMesh). open_cells_in c.args.areas tile.storeys.list) c.get.ensures) in
    let pushed = c.in_ok-push.ensures.items in
    record {
      count = count;
      bound = omega (arith, old.bound, c.count_in_tile-count.ensures.bound);
      each = omega (arith, c.in_ok-push.ensures.len, old.each);
      ends = sums_next mesh.tiles c.args.areas c.loop-tile.ends.items c.push.new.self.items c.loop-tile.tile _ old.each pushed old.ends count;
      few = subst (All (λ end. end < 5192296858534827628530496329220096)) (sym pushed)
          (All-push (λ end. end < 5192296858534827628530496329220096) c.loop-tile.ends.items _ old.few
          (omega (arith, few, each, old.bound, c.count_in_tile-count.ensures.bound, c.len-tile-end.ensures, c.loop-tile-test.true)));
    }
