use Rattle.std.proofs.Common.{◌≤◌, ap, sym, length, arith}
use Rattle.std.proofs.lemmas.List.{length-take-le}
use Rattle.nav_play.proofs.Writing.{stands_further}
use Rattle.nav_play.proofs.meshes.append_scene.Goals as goal

-- a book shows no more entries than there are
pub slice_bounds-append_entries-end : goal.slice_bounds-append_entries-end
slice_bounds-append_entries-end c =
    let items = ap length c.entries.ensures.entries in
    let here : c.published.result ≤ length c.entries.result.now = omega (arith, items, c.level-level.ensures.rules.shown, c.level-level.ensures.rules.aimed, c.published.ensures.value) in
    sym (length-take-le c.published.result c.entries.result.now here)

pub returns-in_err-append_entries-clause-front : goal.returns-in_err-append_entries-clause-front
returns-in_err-append_entries-clause-front c =
    stands_further _ _ _ c.in_ok-append_head.ensures.front c.in_err-append_entries.ensures.front

pub returns-in_err-append_tiles-clause-front : goal.returns-in_err-append_tiles-clause-front
returns-in_err-append_tiles-clause-front c =
    stands_further _ _ _ (stands_further _ _ _ c.in_ok-append_head.ensures.front c.in_ok-append_entries.ensures.front) c.in_err-append_tiles.ensures.front

pub returns-clause-front : goal.returns-clause-front
returns-clause-front c =
    stands_further _ _ _ (stands_further _ _ _ (stands_further _ _ _ c.in_ok-append_head.ensures.front c.in_ok-append_entries.ensures.front) c.in_ok-append_tiles.ensures.front) c.append_mesh.ensures.front
