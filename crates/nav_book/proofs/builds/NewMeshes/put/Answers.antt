use Rattle.std.proofs.Common.{List, Option, Some, ap, set, subst, sym, ◌∙◌}
use Rattle.std.specs.Prelude.{vec_capacity}
use Rattle.mesh_types.specs.declared.mesh.TileMesh.{TileMesh}
use Rattle.nav_book.specs.Fresh.{AreKeptFresh, places_of}
use Rattle.nav_book.proofs.FreshLists.{has_room, kept_between, kept_there, put_between, put_there, tile_there}
use Rattle.nav_book.proofs.builds.NewMeshes.put.Goals as goal

-- the tile has a mesh
pub returns-in-Ok : goal.returns-in-Ok
returns-in-Ok c =
    let there = tile_there c.self.inside.tiles c.self.inside.news.items c.args.self.now c.args.tile c.self.view_is c.requires in
    let is = rw c.as_slice.ensures.value at c.in-Ok.ensures in
    put_there c.self.inside.tiles c.self.inside.news.items c.args.tile c.in-Ok.place c.args.mesh there c.self.invariant.rising is
    ∙ ap (λ (places : List (Option TileMesh)). set places c.args.tile (Some c.args.mesh)) c.self.view_is

pub invariant_of-self : goal.invariant_of-self
invariant_of-self c =
    let there = tile_there c.self.inside.tiles c.self.inside.news.items c.args.self.now c.args.tile c.self.view_is c.requires in
    let is = rw c.as_slice.ensures.value at c.in-Ok.ensures in
    kept_there c.self.inside.tiles (vec_capacity c.self.inside.news) c.self.inside.news.items c.args.tile c.in-Ok.place c.args.mesh there c.self.invariant is

-- it has none
pub insert-requires-clause-within : goal.insert-requires-clause-within
insert-requires-clause-within c = let is = rw c.as_slice.ensures.value at c.in-Err.ensures in is.within

pub insert-requires-clause-room : goal.insert-requires-clause-room
insert-requires-clause-room c =
    let there = tile_there c.self.inside.tiles c.self.inside.news.items c.args.self.now c.args.tile c.self.view_is c.requires in
    let is = rw c.as_slice.ensures.value at c.in-Err.ensures in
    has_room c.self.inside.tiles (vec_capacity c.self.inside.news) c.self.inside.news.items c.args.tile c.in-Err.place c.args.mesh there c.self.invariant is

pub invariant_of-self-in-Err : goal.invariant_of-self-in-Err
invariant_of-self-in-Err c =
    let there = tile_there c.self.inside.tiles c.self.inside.news.items c.args.self.now c.args.tile c.self.view_is c.requires in
    let is = rw c.as_slice.ensures.value at c.in-Err.ensures in
    subst (AreKeptFresh c.self.inside.tiles (vec_capacity c.insert.new.news)) (sym c.insert.ensures.items)
    (kept_between c.self.inside.tiles (vec_capacity c.self.inside.news) (vec_capacity c.insert.new.news) c.self.inside.news.items c.args.tile
    c.in-Err.place c.args.mesh there c.self.invariant c.insert.ensures.grown is)

pub returns-in-Err : goal.returns-in-Err
returns-in-Err c =
    let there = tile_there c.self.inside.tiles c.self.inside.news.items c.args.self.now c.args.tile c.self.view_is c.requires in
    let is = rw c.as_slice.ensures.value at c.in-Err.ensures in
    ap (places_of c.self.inside.tiles) c.insert.ensures.items
    ∙ put_between c.self.inside.tiles c.self.inside.news.items c.args.tile c.in-Err.place c.args.mesh there is
    ∙ ap (λ (places : List (Option TileMesh)). set places c.args.tile (Some c.args.mesh)) c.self.view_is
