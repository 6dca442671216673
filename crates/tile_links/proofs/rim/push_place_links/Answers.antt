use Rattle.std.proofs.Common.{◌++◌, [], List, map, length, get_or, ap, ◌∙◌, arith}
use Rattle.std.specs.List.{cons_option}
use Rattle.mesh_types.specs.BorderLinks.{border_link}
use Rattle.mesh_types.specs.declared.mesh.RimEdge.{RimEdge}
use Rattle.tile_links.specs.Loose.{run_at, run_links}
use Rattle.tile_links.specs.RimPlaces.{entry_of}
use Rattle.tile_links.proofs.LooseLinks.{one_more_taken}
use Rattle.tile_links.proofs.PlaceOrder.{blank}
use Rattle.tile_links.proofs.rim.push_place_links.Goals as goal

pub entry_at-other-requires : goal.entry_at-other-requires
entry_at-other-requires c =
    let within = c.requires.across c.loop-found.found-index blank c.loop-found-test.true in
    omega (arith, within, ap length c.as_slice.ensures)

pub loop-found-preserved : goal.loop-found-preserved
loop-found-preserved c =
    let a = c.args.border.tile.now in
    let b = c.args.border.across.now in
    let side = c.args.border.side in
    let entry = c.args.entry.now in
    let place = c.args.place in
    let across = c.args.across.now in
    let i = c.loop-found.found-index in
    let same = c.entry_at-other.ensures ∙ ap (λ (rim : List RimEdge). entry_of rim (get_or across i blank).entry) c.as_slice.ensures in
    one_more_taken (run_links a b side entry place) across i blank c.args.links.now.items
    c.loop-found.links.items c.push_run_link.new.links.items c.loop-found-test.true c.loop-found.invariant
    (c.in_ok-push_run_link.ensures
    ∙ ap (λ (other : RimEdge). c.loop-found.links.items ++ map (border_link a b side entry other) (cons_option (run_at entry other place) [])) same)
