-- Loose: the links over a border as they are found, before they are put in order.
use Rattle.std.specs.Prelude.{◌≡◌, ℕ, ◌+◌, Bool, List, [], ◌++◌, map, filter, length, slice_get, Option, None, slice_index_or, option_and_then}
use Rattle.std.specs.List.{count_by, flat_map, cons_option, range_with_len}
use Rattle.std.specs.Option.{option_map_or}
use Rattle.nav_ground.specs.declared.setting.Setting.{Setting}
use Rattle.nav_ground.specs.Cells.{opposite}
use Rattle.mesh_types.specs.declared.links.Link.{Link}
use Rattle.mesh_types.specs.declared.mesh.RimEdge.{RimEdge}
use Rattle.mesh_types.specs.declared.mesh.TileMesh.{TileMesh}
use Rattle.mesh_types.specs.declared.region.LabelRun.{LabelRun}
use Rattle.mesh_types.specs.Runs.{runs_of, run_with}
use Rattle.mesh_types.specs.BorderLinks.{along_side, border_link, meetings}
use Rattle.mesh_types.specs.WholeMesh.{tile_across}
use Rattle.tile_links.specs.declared.rim.RimPlace.{RimPlace}
use Rattle.tile_links.specs.RimPlaces.{entry_of, pair_of, is_at_place}

-- the maximal run that begins at a place of an entry where it meets another, if one does
abbrev pub run_at : RimEdge → RimEdge → ℕ → Option LabelRun
run_at entry other place = run_with (meetings entry other) place (slice_index_or (meetings entry other) place None)

-- the links from an entry of a tile to one of the tile across
abbrev pub pair_links : TileMesh → TileMesh → ℕ → RimEdge → RimEdge → List Link
pair_links a b side entry other = map (border_link a b side entry other) (runs_of (meetings entry other))

-- the links from an entry of a tile to entries of the tile across
abbrev pub entry_links : TileMesh → TileMesh → ℕ → RimEdge → List RimEdge → List Link
entry_links a b side entry others = flat_map (pair_links a b side entry) others

-- the links from entries of a tile to those of the tile across
abbrev pub links_from : TileMesh → TileMesh → ℕ → List RimEdge → List Link
links_from a b side entries = flat_map (λ (entry : RimEdge). entry_links a b side entry (along_side (opposite side) b.rim)) entries

-- the links from a tile to the tile across a side
abbrev pub loose_links : TileMesh → TileMesh → ℕ → List Link
loose_links a b side = links_from a b side (along_side side a.rim)

-- the links from a tile over one of its sides
abbrev pub loose_over : Setting → List TileMesh → TileMesh → ℕ → List Link
loose_over setting tiles tile side =
    option_map_or (λ (other : TileMesh). loose_links tile other side) (option_and_then (slice_get tiles) (tile_across setting tile.tile side)) []

-- the link from an entry along the run that begins at one of its places where it meets the entry of a place across, if one does
abbrev pub run_links : TileMesh → TileMesh → ℕ → RimEdge → ℕ → RimPlace → List Link
run_links a b side entry place found =
    map (border_link a b side entry (entry_of b.rim found.entry)) (cons_option (run_at entry (entry_of b.rim found.entry) place) [])

-- the links from an entry along the runs that begin at one of its places, by the places across that have its position and the level that it
-- leads to
abbrev pub place_links : TileMesh → TileMesh → ℕ → RimEdge → List RimPlace → ℕ → List Link
place_links a b side entry places place =
    flat_map (run_links a b side entry place) (filter (is_at_place (entry.first + place) (pair_of entry place).other) places)

-- the links from an entry, place by place
abbrev pub placed_links : TileMesh → TileMesh → ℕ → List RimPlace → RimEdge → List Link
placed_links a b side places entry = flat_map (place_links a b side entry places) (range_with_len 0 (length entry.pairs))

-- a list has become another by these links more, in whatever order
abbrev pub HasGained : List Link → List Link → List Link → Type 0
HasGained old more new = (p : Link → Bool) → count_by p new ≡ count_by p (old ++ more)
