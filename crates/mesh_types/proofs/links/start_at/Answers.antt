use Rattle.std.specs.List.{count_by}
use Rattle.mesh_types.specs.LinkIndex.{is_before_polygon}
use Rattle.mesh_types.proofs.Starts.{kept_at, kept_whole, kept_most}
use Rattle.mesh_types.proofs.links.start_at.Goals as goal

pub returns-then-start-lt4294967295 : goal.returns-then-start-lt4294967295
returns-then-start-lt4294967295 c =
    kept_whole _ (count_by (is_before_polygon c.args.polygon) c.args.links.now)
    (kept_at c.args.links.now c.args.starts.now c.args.polygon 0 c.requires.indexed c.requires.there)
    c.if-start-lt4294967295.true

pub start_from-requires-clause-known : goal.start_from-requires-clause-known
start_from-requires-clause-known c =
    kept_most _ (count_by (is_before_polygon c.args.polygon) c.args.links.now)
    (kept_at c.args.links.now c.args.starts.now c.args.polygon 0 c.requires.indexed c.requires.there)
