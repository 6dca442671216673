-- Two links inside a tile that leave one polygon over one edge and have a common inner point lead into one polygon.
use Rattle.std.proofs.Common.{◌≡◌, ℕ, zero, suc, ◌+◌, ◌-◌, ◌<◌, ◌≤◌, ℤ, ◌<ℤ◌, List, [], length, map, get_or, refl, sym, ap, subst, ◌∙◌, arith, inl, inr, Option, Some, None}
use Rattle.std.specs.Prelude.{All, Contains, slice_get}
use Rattle.std.specs.List.{filter_map, find, flat_map, range_with_len}
use Rattle.std.specs.Option.{option_map}
use Rattle.std.proofs.lemmas.Bool.{cases_lt, cases_order}
use Rattle.std.proofs.lemmas.Int.{ints}
use Rattle.std.proofs.lemmas.List.{get_or-map, length-map}
use Rattle.std.proofs.lemmas.List.Elements.{All-map}
use Rattle.std.proofs.lemmas.Option.{get_or_from_slice_get, none-some, same_Some}
use Rattle.nav_ground.specs.declared.cell.Cell.{Cell}
use Rattle.nav_ground.specs.declared.cell.FreeLayer.{FreeLayer}
use Rattle.nav_ground.specs.declared.cell.Layer.{Layer}
use Rattle.nav_ground.specs.declared.history.Ground.{Ground}
use Rattle.nav_ground.specs.declared.setting.Setting.{Setting}
use Rattle.nav_ground.specs.declared.shape.Shape.{Shape}
use Rattle.nav_ground.specs.Cells.{IsCut}
use Rattle.nav_ground.specs.FreeCells.{free_layer_of}
use Rattle.nav_ground.specs.Grounds.{IsGround}
use Rattle.nav_ground.specs.Limits.{IsShape}
use Rattle.nav_ground.specs.Tiling.{tile_window}
use Rattle.nav_ground.proofs.FreeLayers.{free_layer_cut}
use Rattle.nav_ground.proofs.LayerLaws.{IsLayerOf-from_ground}
use Rattle.mesh_types.specs.declared.region.PortalEdge.{PortalEdge}
use Rattle.mesh_types.specs.declared.region.RegionPart.{RegionPart}
use Rattle.mesh_types.specs.declared.region.LabelRun.{LabelRun}
use Rattle.mesh_types.specs.declared.links.Link.{Link}
use Rattle.mesh_types.specs.declared.links.PolyRef.{PolyRef}
use Rattle.mesh_types.specs.declared.links.Portal.{Portal}
use Rattle.mesh_types.specs.declared.polygon.Polygon.{Polygon}
use Rattle.mesh_types.specs.declared.mesh.TileMesh.{TileMesh}
use Rattle.mesh_types.specs.Builds.{tile_mesh_of}
use Rattle.mesh_types.specs.Facets.{Facet, facets_of}
use Rattle.mesh_types.specs.Doors.{are_facing, door_link, door_links, door_over, doors_of, facet_doors, link_through}
use Rattle.mesh_types.specs.ContourMeshes.{contour_mesh_of, mesh_of_free, parts_mesh}
use Rattle.mesh_types.specs.Parts.{parts_of}
use Rattle.mesh_types.proofs.Words.{no_facet}
use Rattle.mesh_types.specs.Regions.{regions_of}
use Rattle.mesh_types.specs.Runs.{runs_of}
use Rattle.mesh_types.specs.Portals.{along, edge_begin, edge_end}
use Rattle.mesh_types.specs.StripLinks.{edge_portal, outside_of, strip_beyond, strip_link, strip_links, strip_links_over}
use Rattle.mesh_types.specs.StripPolygons.{first_of, sixteenths, some_cell, strip_polygon, strip_runs}
use Rattle.mesh_types.specs.StripMeshes.{strip_mesh_of}
use Rattle.mesh_types.proofs.Gathered.{gathered_all}
use Rattle.mesh_types.proofs.LinksInOrder.{All-ordered_links}
use Rattle.mesh_types.proofs.MeshLinks.{All-contained}
use Rattle.mesh_types.proofs.RunLaws.{All-found, IsRunOf, runs_are_runs}
use Rattle.mesh_types.proofs.TileMeshes.{of_either}
use Rattle.strip_mesh.proofs.LinkLaws.{placed}
use Rattle.strip_mesh.proofs.PortalLaws.{MeetsAt}
use Rattle.strip_mesh.proofs.Rectangles.{toward_left, toward_right}
use Rattle.strip_mesh.proofs.RowLaws.{IsBeyond, beyond_found, row_is}
use Rattle.tile_build.specs.Meshes.{tiles_under}
use Rattle.tile_build.proofs.OneEdge.{Overlap}

-- links that leave one polygon over one edge and have a common inner point lead into one polygon
abbrev pub LeadsOneWay : TileMesh → Type 0
LeadsOneWay tile =
    (polygon : Polygon) (link other : Link) → Contains tile.links link → Contains tile.links other → link.from ≡ other.from → link.edge ≡ other.edge
    → slice_get tile.polys link.from.index ≡ Some polygon → Overlap polygon link.edge link.portal other.portal → link.to ≡ other.to

-- ---- outlines: through each door there is one link at most

-- a door is told by its polygon and its edge
abbrev door_at : List Facet → ℕ → ℕ → PortalEdge
door_at facets polygon edge = door_over polygon (get_or facets polygon no_facet) edge

doors_told : (facets : List Facet) → All (λ (door : PortalEdge). door ≡ door_at facets door.polygon door.edge) (doors_of facets)
unfolding doors_of
doors_told facets =
    let P : PortalEdge → Type 0 = λ door. door ≡ door_at facets door.polygon door.edge in
    gathered_all P (λ polygon. facet_doors polygon (get_or facets polygon no_facet)) 0 (length facets)
    (λ polygon least most.
    let facet : Facet = get_or facets polygon no_facet in
    All-map P (door_over polygon facet) (range_with_len 0 (length facet.places)) (λ k d there. refl))

-- the link through a door
record IsThroughDoor (tile : ℕ) (facets : List Facet) (link : Link) : Type 0 where
  pub door : PortalEdge
  pub told : door ≡ door_at facets door.polygon door.edge
  pub leads : link_through tile (doors_of facets) door ≡ Some link

through_doors : (tile : ℕ) (facets : List Facet) → All (IsThroughDoor tile facets) (door_links tile (doors_of facets))
through_doors tile facets =
    let doors : List PortalEdge = doors_of facets in
    All-ordered_links (IsThroughDoor tile facets) (filter_map (link_through tile doors) doors)
    (All-found (link_through tile doors) (IsThroughDoor tile facets) doors
    (λ k d there link is. record { door = get_or doors k d; told = doors_told facets k d there; leads = is }))

-- it leaves the door's polygon over the door's edge
leaves_door : (tile : ℕ) (doors : List PortalEdge) (door : PortalEdge) (link : Link) → link_through tile doors door ≡ Some link → (door.polygon ≡ link.from.index) × (door.edge ≡ link.edge)
leaves_door tile doors door link is = by_found (find (are_facing door) doors) is
  where
    by_found : (found : Option PortalEdge) → option_map (door_link tile door) found ≡ Some link → (door.polygon ≡ link.from.index) × (door.edge ≡ link.edge)
    by_found None made = absurd (none-some link made)
    by_found (Some other) made =
        let same : door_link tile door other ≡ link = same_Some (door_link tile door other) link made in
        (ap (λ (l : Link). l.from.index) same, ap (λ (l : Link). l.edge) same)

one_through : (tile : ℕ) (facets : List Facet) (link other : Link) → IsThroughDoor tile facets link → IsThroughDoor tile facets other → link.from ≡ other.from
    → link.edge ≡ other.edge → link ≡ other
one_through tile facets link other is is' from edge =
    let doors : List PortalEdge = doors_of facets in
    let at = leaves_door tile doors is.door link is.leads in
    let at' = leaves_door tile doors is'.door other is'.leads in
    let polygons : is.door.polygon ≡ is'.door.polygon = at.0 ∙ ap (λ (r : PolyRef). r.index) from ∙ sym at'.0 in
    let edges : is.door.edge ≡ is'.door.edge = at.1 ∙ edge ∙ sym at'.1 in
    let same : is.door ≡ is'.door = is.told ∙ (λ i. door_at facets (polygons i) (edges i)) ∙ sym is'.told in
    same_Some link other (sym is.leads ∙ ap (link_through tile doors) same ∙ is'.leads)

contours_one_way : (setting : Setting) (free : FreeLayer) (tile : TileMesh) → contour_mesh_of setting free ≡ Some tile → LeadsOneWay tile
unfolding contour_mesh_of parts_mesh
contours_one_way setting free tile is = by_parts (parts_of (tile_window setting free.tile) setting.error free.cells (regions_of free.cells)) is
  where
    by_parts : (found : Option (List RegionPart)) → option_map (parts_mesh setting free (regions_of free.cells)) found ≡ Some tile → LeadsOneWay tile
    by_parts None made = absurd (none-some tile made)
    by_parts (Some parts) made =
        let facets : List Facet = facets_of parts in
        let links : List Link = door_links free.tile (doors_of facets) in
        let one : LeadsOneWay (parts_mesh setting free (regions_of free.cells) parts) =
        λ polygon link other has has' from edge there over.
        ap (λ (l : Link). l.to)
        (one_through free.tile facets link other (All-contained (IsThroughDoor free.tile facets) links link (through_doors free.tile facets) has)
        (All-contained (IsThroughDoor free.tile facets) links other (through_doors free.tile facets) has') from edge) in
        subst LeadsOneWay (same_Some (parts_mesh setting free (regions_of free.cells) parts) tile made) one

-- ---- strips: two links over one edge along one column lead into the strip of the one cell that is named there

-- the strips beyond the cells of a strip in a direction
abbrev labels_of : List (List Cell) → ℕ → ℕ → List (Option ℕ)
labels_of runs s dir = map (strip_beyond runs s dir) (get_or runs s [])

-- the portal along a run of a strip's cells
abbrev portal_along : List Cell → ℕ → LabelRun → Portal
portal_along own edge run = edge_portal edge ((first_of own).at.x + run.first) ((first_of own).at.x + run.last) (first_of own).at.z

-- a link leads along a run of cells of the strip that it leaves into the one strip beyond them
record IsStripLink (tile : ℕ) (runs : List (List Cell)) (link : Link) : Type 0 where
  pub there : link.from.index < length runs
  pub small : link.edge < 4
  pub run : LabelRun
  pub range : IsRunOf (labels_of runs link.from.index (outside_of link.edge)) run
  pub to : link.to ≡ record { tile = tile; index = run.label }
  pub portal : link.portal ≡ portal_along (get_or runs link.from.index []) link.edge run

strip_links_are : (tile : ℕ) (runs : List (List Cell)) → All (IsStripLink tile runs) (strip_links tile runs)
strip_links_are tile runs =
    let P : Link → Type 0 = IsStripLink tile runs in
    All-ordered_links P (flat_map (λ s. flat_map (strip_links_over tile runs s) (range_with_len 0 4)) (range_with_len 0 (length runs)))
    (gathered_all P (λ s. flat_map (strip_links_over tile runs s) (range_with_len 0 4)) 0 (length runs)
    (λ s least most. gathered_all P (strip_links_over tile runs s) 0 4
    (λ edge least' most'.
    let labels : List (Option ℕ) = labels_of runs s (outside_of edge) in
    All-map P (strip_link tile (get_or runs s []) s edge) (runs_of labels)
    (λ k d there. record {
      there = omega (arith, most);
      small = omega (arith, most');
      run = get_or (runs_of labels) k d;
      range = runs_are_runs labels k d there;
      to = refl;
      portal = refl;
    }))))

-- where numbers rise, or fall, with their places, and one is less than another
less_itself : (a b : ℤ) → a ≡ b → a <ℤ b → ⊥
less_itself a b e h = omega (arith, ints)

less_both : (a b : ℤ) → a <ℤ b → b <ℤ a → ⊥
less_both a b h k = omega (arith, ints)

rises_after : (g : ℕ → ℤ) (p q : ℕ) → g q <ℤ g p → (p < q → g p <ℤ g q) → q < p
rises_after g p q less rises =
    elim (cases_order p q) [
      | inl same ↦ absurd (less_itself (g q) (g p) (ap g (sym same)) less)
      | inr (inl below) ↦ absurd (less_both (g p) (g q) (rises below) less)
      | inr (inr above) ↦ above
    ]

falls_after : (g : ℕ → ℤ) (p q : ℕ) → g p <ℤ g q → (p < q → g q <ℤ g p) → q < p
falls_after g p q less falls =
    elim (cases_order p q) [
      | inl same ↦ absurd (less_itself (g p) (g q) (ap g same) less)
      | inr (inl below) ↦ absurd (less_both (g p) (g q) less (falls below))
      | inr (inr above) ↦ above
    ]

-- portals along two runs of a strip's cells that have a common inner point have a common column
begins_within : (edge : ℕ) (own : List Cell) (run other : LabelRun) → edge < 4 → 0 < length own → run.first ≤ run.last → run.last < length own → other.first ≤ other.last
    → other.last < length own → MeetsAt edge own run.first run.last → MeetsAt edge own other.first other.last
    → along (edge_begin (strip_polygon own) edge) (edge_end (strip_polygon own) edge) (portal_along own edge other).right
    <ℤ along (edge_begin (strip_polygon own) edge) (edge_end (strip_polygon own) edge) (portal_along own edge run).left
    → along (edge_begin (strip_polygon own) edge) (edge_end (strip_polygon own) edge) (portal_along own edge run).right
    <ℤ along (edge_begin (strip_polygon own) edge) (edge_end (strip_polygon own) edge) (portal_along own edge other).left
    → other.first ≤ run.last
begins_within zero own run other small some order inside order' inside' meets meets' before next =
    let x : ℕ = (first_of own).at.x in
    let z : ℕ = (first_of own).at.z in
    let end : ℕ = x + length own - 1 + 1 in
    let below : x + other.first < x + run.last + 1 =
    rises_after (λ n. along (sixteenths x z) (sixteenths end z) (sixteenths n z)) (x + run.last + 1) (x + other.first) before
    (λ less. (toward_right z x end (x + run.last + 1) (x + other.first) (omega arith) less (omega (arith, order', inside'))).forward) in
    omega (arith, below)
begins_within (suc zero) own run other small some order inside order' inside' meets meets' before next = omega (arith, order', meets, meets')
begins_within (suc (suc zero)) own run other small some order inside order' inside' meets meets' before next =
    let x : ℕ = (first_of own).at.x in
    let z : ℕ = (first_of own).at.z in
    let end : ℕ = x + length own - 1 + 1 in
    let below : x + other.first < x + run.last + 1 =
    falls_after (λ n. along (sixteenths end (z + 1)) (sixteenths x (z + 1)) (sixteenths n (z + 1))) (x + run.last + 1) (x + other.first) next
    (λ less. (toward_left (z + 1) end x (x + other.first) (x + run.last + 1) (omega arith) less (omega (arith, order', inside'))).forward) in
    omega (arith, below)
begins_within (suc (suc (suc zero))) own run other small some order inside order' inside' meets meets' before next = omega (arith, meets')
begins_within (suc (suc (suc (suc edge)))) own run other small some order inside order' inside' meets meets' before next = absurd (omega (arith, small))

-- two runs with a common place have one label
one_label : (labels : List (Option ℕ)) (run other : LabelRun) → IsRunOf labels run → IsRunOf labels other → other.first ≤ run.last → run.first ≤ other.last → run.label ≡ other.label
one_label labels run other range range' begins begins' =
    elim (cases_lt run.first other.first) [
      | inl less ↦
          same_Some run.label other.label
          (sym (range.labelled other.first (omega (arith, less)) begins) ∙ range'.labelled other.first (omega arith) range'.order)
      | inr more ↦
          same_Some run.label other.label
          (sym (range.labelled run.first (omega arith) range.order) ∙ range'.labelled run.first more begins')
    ]

-- where the cells of a run meet the strip beyond
run_meets : (cells : List Cell) → IsCut cells → (s edge : ℕ) (run : LabelRun) → s < length (strip_runs cells) → edge < 4
    → IsRunOf (labels_of (strip_runs cells) s (outside_of edge)) run
    → (run.last < length (get_or (strip_runs cells) s [])) × MeetsAt edge (get_or (strip_runs cells) s []) run.first run.last
run_meets cells cut s edge run there small range =
    (inside, (placed cells cut edge s run.label run.first run.last there small range.order inside (beyond run.first (omega arith) range.order) (beyond run.last range.order (omega arith))).0)
  where
    runs : List (List Cell)
    runs = strip_runs cells

    own : List Cell
    own = get_or runs s []

    inside : run.last < length own
    inside = omega (arith, range.inside, length-map own (strip_beyond runs s (outside_of edge)))

    beyond : (k : ℕ) → run.first ≤ k → k ≤ run.last → IsBeyond runs s (outside_of edge) run.label (get_or own k some_cell)
    beyond k least most =
        beyond_found runs s (outside_of edge) run.label (get_or own k some_cell)
        (sym (get_or-map (strip_beyond runs s (outside_of edge)) own k some_cell None (omega (arith, most, inside))) ∙ range.labelled k least most)

runs_agree : (cells : List Cell) → IsCut cells → (s edge : ℕ) (run other : LabelRun) → s < length (strip_runs cells) → edge < 4
    → IsRunOf (labels_of (strip_runs cells) s (outside_of edge)) run → IsRunOf (labels_of (strip_runs cells) s (outside_of edge)) other
    → Overlap (strip_polygon (get_or (strip_runs cells) s [])) edge (portal_along (get_or (strip_runs cells) s []) edge run) (portal_along (get_or (strip_runs cells) s []) edge other)
    → run.label ≡ other.label
runs_agree cells cut s edge run other there small range range' over =
    let own : List Cell = get_or (strip_runs cells) s [] in
    let some = (row_is cells cut s there).some in
    let at = run_meets cells cut s edge run there small range in
    let at' = run_meets cells cut s edge other there small range' in
    one_label (labels_of (strip_runs cells) s (outside_of edge)) run other range range'
    (begins_within edge own run other small some range.order at.0 range'.order at'.0 at.1 at'.1 over.before over.after)
    (begins_within edge own other run small some range'.order at'.0 range.order at.0 at'.1 at.1 over.after over.before)

two_strip_links : (tile : ℕ) (cells : List Cell) → IsCut cells → (polygon : Polygon) (link other : Link) → IsStripLink tile (strip_runs cells) link
    → IsStripLink tile (strip_runs cells) other → link.from ≡ other.from → link.edge ≡ other.edge
    → slice_get (map strip_polygon (strip_runs cells)) link.from.index ≡ Some polygon → Overlap polygon link.edge link.portal other.portal → link.to ≡ other.to
two_strip_links tile cells cut polygon link other is is' from edge there over =
    let runs : List (List Cell) = strip_runs cells in
    let own : List Cell = get_or runs link.from.index [] in
    let Range : PolyRef → ℕ → Type 0 = λ at e. IsRunOf (labels_of runs at.index (outside_of e)) is'.run in
    let range' : Range link.from link.edge = subst (Range link.from) (sym edge) (subst (λ (at : PolyRef). Range at other.edge) (sym from) is'.range) in
    let Through : PolyRef → ℕ → Type 0 = λ at e. other.portal ≡ portal_along (get_or runs at.index []) e is'.run in
    let portal' : Through link.from link.edge = subst (Through link.from) (sym edge) (subst (λ (at : PolyRef). Through at other.edge) (sym from) is'.portal) in
    let own_is : polygon ≡ strip_polygon own =
    sym (get_or_from_slice_get (map strip_polygon runs) link.from.index polygon (strip_polygon []) there)
    ∙ get_or-map strip_polygon runs link.from.index [] (strip_polygon []) is.there in
    let over' : Overlap (strip_polygon own) link.edge (portal_along own link.edge is.run) (portal_along own link.edge is'.run) =
    subst (λ (q : Polygon). Overlap q link.edge (portal_along own link.edge is.run) (portal_along own link.edge is'.run)) own_is
    (subst (λ (q : Portal). Overlap polygon link.edge q (portal_along own link.edge is'.run)) is.portal
    (subst (Overlap polygon link.edge link.portal) portal' over)) in
    is.to
    ∙ ap (λ (n : ℕ). record { tile = tile; index = n }) (runs_agree cells cut link.from.index link.edge is.run is'.run is.there is.small is.range range' over')
    ∙ sym is'.to

strips_one_way : (setting : Setting) (free : FreeLayer) → IsCut free.cells → LeadsOneWay (strip_mesh_of setting free)
unfolding strip_mesh_of
strips_one_way setting free cut polygon link other has has' from edge there over =
    let runs : List (List Cell) = strip_runs free.cells in
    let links : List Link = strip_links free.tile runs in
    two_strip_links free.tile free.cells cut polygon link other
    (All-contained (IsStripLink free.tile runs) links link (strip_links_are free.tile runs) has)
    (All-contained (IsStripLink free.tile runs) links other (strip_links_are free.tile runs) has') from edge there over

-- ---- every tile of a ground under obstacles

pub mesh_one_way : (setting : Setting) (free : FreeLayer) → IsCut free.cells → LeadsOneWay (mesh_of_free setting free)
mesh_one_way setting free cut = of_either LeadsOneWay setting free (strips_one_way setting free cut) (λ tile is. contours_one_way setting free tile is)

pub tiles_one_way : (ground : Ground) (shapes : List Shape) → IsGround ground → All IsShape shapes → All LeadsOneWay (tiles_under ground shapes)
tiles_one_way ground shapes rules' limits =
    All-map LeadsOneWay (λ (layer : Layer). tile_mesh_of ground.setting layer shapes) ground.layers
    (λ k d there.
    let layer : Layer = get_or ground.layers k d in
    mesh_one_way ground.setting (free_layer_of layer shapes) (free_layer_cut layer shapes (IsLayerOf-from_ground ground rules' k d there).rules.cells limits))
