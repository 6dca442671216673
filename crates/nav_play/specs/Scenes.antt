-- The scene of a book: what it shows, as a text that can be drawn. Each line is a word and numbers, each behind one space, and a line feed.
use Rattle.std.specs.Prelude.{◌≡◌, ℕ, List, [], ◌∷◌, ◌++◌, codes}
use Rattle.std.specs.List.{enumerate_from, flat_map, range_with_len}
use Rattle.nav_base.specs.declared.point.Point.{Point}
use Rattle.nav_ground.specs.declared.cell.Cell.{Cell}
use Rattle.nav_ground.specs.declared.cell.Window.{Window}
use Rattle.nav_ground.specs.declared.field.Field.{Field}
use Rattle.nav_ground.specs.declared.history.Entry.{Entry}
use Rattle.nav_ground.specs.declared.setting.Setting.{Setting}
use Rattle.nav_ground.specs.Tiling.{tile_count, tile_window}
use Rattle.mesh_types.specs.declared.links.Link.{Link}
use Rattle.mesh_types.specs.declared.mesh.Mesh.{Mesh}
use Rattle.mesh_types.specs.declared.polygon.Polygon.{Polygon}
use Rattle.mesh_types.specs.declared.mesh.TileMesh.{TileMesh}
use Rattle.mesh_types.specs.Soundness.{link_count, polygon_count}
use Rattle.build_queue.specs.BookState.{BookState}
use Rattle.nav_book.specs.Results.{published_entries, published_mesh}
use Rattle.nav_play.specs.PlayRecord.{IsPlayText}
use Rattle.nav_play.specs.PlayStates.{first_state_of, state_after_all}
use Rattle.nav_record.specs.EntryTexts.{entry_text}
use Rattle.nav_record.specs.AnswerTexts.{point_text}
use Rattle.nav_script.specs.declared.script.Script.{Script}
use Rattle.nav_text.specs.Forms.{line_text}

-- the bytes from before still stand, and what was appended is behind them
abbrev pub StandsInFront : List ℕ → List ℕ → Type 0
StandsInFront before after = (rest : List ℕ) × (after ≡ before ++ rest)

-- a line of a word and numbers
abbrev pub line_of : List ℕ → List ℕ → List ℕ
line_of word numbers = line_text word numbers ++ codes "\n"

-- a point behind a space
abbrev pub spaced_point : Point → List ℕ
spaced_point at = codes " " ++ point_text at

-- the first line: the published length, the field's columns along x and z, and how many polygons and links the published mesh has
abbrev pub head_text : BookState → List ℕ
head_text book =
    line_of (codes "scene") (book.published ∷ book.ground.setting.width ∷ book.ground.setting.depth ∷ polygon_count (published_mesh book).tiles ∷ link_count (published_mesh book) ∷ [])

-- a line for each entry that the mesh shows, with its number, from 1
abbrev pub entries_text : List Entry → List ℕ
entries_text entries = flat_map (λ (entry : ℕ × Entry). entry_text entry.0 entry.1) (enumerate_from 1 entries)

-- a tile of the ground: its number, its first column along x and along z, and its last ones
abbrev pub window_text : Window → List ℕ
window_text window = spaced_point (record { x = window.x0; z = window.z0 }) ++ spaced_point (record { x = window.x1; z = window.z1 })

abbrev pub tile_text : Setting → ℕ → List ℕ
tile_text setting tile = line_text (codes "tile") (tile ∷ []) ++ window_text (tile_window setting tile) ++ codes "\n"

abbrev pub tiles_text : Setting → List ℕ
tiles_text setting = flat_map (tile_text setting) (range_with_len 0 (tile_count setting))

-- a free cell: its column, its floor and its area
abbrev pub cell_text : Cell → List ℕ
cell_text cell = line_of (codes "cell") (cell.at.x ∷ cell.at.z ∷ cell.floor ∷ cell.area ∷ [])

-- a polygon: its area, its least and its greatest floor, and its corners, in whole cells
abbrev pub polygon_text : Polygon → List ℕ
polygon_text polygon = line_text (codes "poly") (polygon.area ∷ polygon.low ∷ polygon.high ∷ []) ++ flat_map spaced_point polygon.corners ++ codes "\n"

-- a link: the polygon that it leaves, over which edge, the polygon that it enters, and the left and the right end of its portal
abbrev pub link_text : Link → List ℕ
link_text link =
    line_text (codes "link") (link.from.tile ∷ link.from.index ∷ link.edge ∷ link.to.tile ∷ link.to.index ∷ [])
    ++ (spaced_point link.portal.left ++ spaced_point link.portal.right) ++ codes "\n"

abbrev pub links_text : List Link → List ℕ
links_text links = flat_map link_text links

-- a tile's mesh: the tile, and then a line for each of its free cells, each of its polygons, and each link between these, in order
abbrev pub mesh_text : TileMesh → List ℕ
mesh_text tile = line_of (codes "mesh") (tile.tile ∷ []) ++ flat_map cell_text tile.free.cells ++ flat_map polygon_text tile.polys ++ links_text tile.links

-- a mesh: that of each of its tiles, in order, and then the links that leave each tile for others
abbrev pub whole_text : Mesh → List ℕ
whole_text mesh = flat_map mesh_text mesh.tiles ++ flat_map links_text mesh.cross

-- the scene of a book: the entries that its published mesh shows, the tiles of its ground, and that mesh
abbrev pub scene_text : BookState → List ℕ
scene_text book = head_text book ++ entries_text (published_entries book) ++ tiles_text book.ground.setting ++ whole_text (published_mesh book)

-- a play text of a script over a field, and behind it the scene of what the book shows after the last line
pub record IsSceneText (setting : Setting) (field : Field) (script : Script) (text : List ℕ) : Type 0 where
  pub said : List ℕ
  pub fits : IsPlayText setting field script said
  pub written : text ≡ said ++ scene_text (state_after_all (first_state_of setting field script) script.lines).book
