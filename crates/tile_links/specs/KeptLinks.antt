-- KeptLinks: what the links of a tile that is not new keep when new tile meshes come.
use Rattle.std.specs.Prelude.{ℕ, Bool, not, List, [], filter}
use Rattle.std.specs.List.{flat_map, range_with_len}
use Rattle.nav_ground.specs.declared.setting.Setting.{Setting}
use Rattle.mesh_types.specs.declared.links.Link.{Link}
use Rattle.mesh_types.specs.declared.mesh.TileMesh.{TileMesh}
use Rattle.tile_links.specs.Loose.{loose_over, HasGained}
use Rattle.tile_links.specs.NewTiles.{New, is_new, is_new_across}

-- a link leads to a tile for which there is no new one
abbrev pub leads_to_old : List New → Link → Bool
leads_to_old news link = not (is_new news link.to.tile)

-- the sides of a tile across which there is a new one, and the others
abbrev pub new_sides : Setting → List New → ℕ → List ℕ
new_sides setting news tile = filter (is_new_across setting news tile) (range_with_len 0 4)

abbrev pub old_sides : Setting → List New → ℕ → List ℕ
old_sides setting news tile = filter (λ side. not (is_new_across setting news tile side)) (range_with_len 0 4)

-- of some links those that lead to tiles for which there is no new one are those of a tile over the sides across which there is none
abbrev pub KeepsOld : Setting → List New → List TileMesh → TileMesh → List Link → Type 0
KeepsOld setting news tiles tile links =
    HasGained [] (flat_map (loose_over setting tiles tile) (old_sides setting news tile.tile)) (filter (leads_to_old news) links)
