-- A cheapest corridor of a build never folds: links of a build lead there and back, and over an edge of a polygon two links whose portals have a
-- common inner point enter the same polygon. So a fold would lead straight back, and that is never cheapest.
use Rattle.std.proofs.Common.{◌≡◌, ℕ, suc, ◌+◌, ◌<◌, List, length, ap, ◌∙◌, sym, subst, arith, inl, inr}
use Rattle.std.specs.Prelude.{All, Contains, Some, slice_get, option_and_then}
use Rattle.std.proofs.lemmas.List.{get_or-map, length-map}
use Rattle.std.proofs.lemmas.Option.{same_Some, slice_get_within, get_or_from_slice_get}
use Rattle.nav_base.specs.declared.point.Question.{Question}
use Rattle.nav_base.specs.declared.point.Question.TheVariants as questions
use Rattle.nav_base.specs.declared.point.Point.{Point}
use Rattle.nav_ground.specs.declared.history.Entry.{Entry}
use Rattle.nav_ground.specs.declared.history.Ground.{Ground}
use Rattle.nav_ground.specs.declared.setting.Setting.{Setting}
use Rattle.nav_ground.specs.declared.shape.Shape.{Shape}
use Rattle.nav_ground.specs.Grounds.{IsGround}
use Rattle.nav_ground.specs.History.{IsRequest, shapes_alive}
use Rattle.nav_ground.specs.Limits.{IsSetting, IsShape}
use Rattle.mesh_types.specs.declared.answers.Answer.{Answer}
use Rattle.mesh_types.specs.declared.answers.Answer.TheVariants.{Floors, Path, NoStart, NoGoal, NoPath, Reached, Wall}
use Rattle.mesh_types.specs.declared.answers.Corridor.{Corridor}
use Rattle.mesh_types.specs.declared.links.Link.{Link}
use Rattle.mesh_types.specs.declared.links.PolyRef.{PolyRef}
use Rattle.mesh_types.specs.declared.links.Portal.{Portal}
use Rattle.mesh_types.specs.declared.mesh.Mesh.{Mesh}
use Rattle.mesh_types.specs.declared.polygon.Polygon.{Polygon}
use Rattle.mesh_types.specs.declared.mesh.TileMesh.{TileMesh}
use Rattle.mesh_types.specs.BorderLinks.{HasOnePair}
use Rattle.mesh_types.specs.Builds.{build_of, mesh_under}
use Rattle.mesh_types.specs.Chains.{IsFold, portal_at}
use Rattle.mesh_types.proofs.Words.{some_portal}
use Rattle.mesh_types.specs.Corridors.{IsCheapest, IsLinkOf}
use Rattle.mesh_types.specs.Folds.{IsUnfolded}
use Rattle.mesh_types.specs.Passages.{IsTwoWay, reverse_of}
use Rattle.mesh_types.specs.Right.{IsRight, IsRightPath, portals_of}
use Rattle.mesh_types.specs.Soundness.{AreTiles, IsSound}
use Rattle.mesh_types.specs.FitTiles.{IsFit}
use Rattle.mesh_types.specs.Portals.{IsPortalOut}
use Rattle.mesh_types.specs.WholeMesh.{mesh_of, poly_at}
use Rattle.mesh_types.proofs.LinkTotals.{HasFewLinks}
use Rattle.mesh_types.proofs.MeshLinks.{leads}
use Rattle.mesh_types.proofs.MeshPolygons.{placed}
use Rattle.mesh_types.proofs.WalkChains.{link_at, some_link, walk_link, walk_next}
use Rattle.tile_build.specs.Meshes.{tiles_under}
use Rattle.tile_build.proofs.BuildTotals.{alive_limits, few_links_of_tiles}
use Rattle.tile_build.proofs.BuiltTiles.{are_tiles}
use Rattle.tile_build.proofs.NoneOverSides.{none_over_side}
use Rattle.tile_build.proofs.OneEdge.{Overlap, fold_on_edge, turned}
use Rattle.tile_build.proofs.OneWay.{LeadsOneWay, tiles_one_way}
use Rattle.tile_build.proofs.RimPairs.{tiles_one_pair}
use Rattle.tile_build.proofs.TwoWayTiles.{tiles_two_way}
use Rattle.tile_links.proofs.OneWayCrossings.{IsCrossing, crossing_of, crossings_one_way}
use Rattle.tile_links.proofs.SoundMeshes.{IsSound-mesh_of}
use Rattle.tile_links.proofs.TwoWayMeshes.{two_way}
use Rattle.nav_query.specs.Questions.{HasUnfoldedWay}
use Rattle.nav_query.proofs.NeverBack.{never_back}

-- ---- of a ground under obstacles

-- all links lead there and back
pub two_way_under : (ground : Ground) (shapes : List Shape) → IsGround ground → All IsShape shapes → IsTwoWay (mesh_under ground shapes)
two_way_under ground shapes rules' limits =
    two_way ground.setting (tiles_under ground shapes) rules'.setting (are_tiles ground shapes rules' limits) (tiles_two_way ground shapes rules' limits)

pub sound_under : (ground : Ground) (shapes : List Shape) → IsGround ground → All IsShape shapes → IsSound (mesh_under ground shapes)
sound_under ground shapes rules' limits = IsSound-mesh_of ground.setting (tiles_under ground shapes) rules'.setting (are_tiles ground shapes rules' limits)

-- two links of a mesh leave a polygon over one edge, through portals with a common inner point
record AreOverOneEdge (mesh : Mesh) (link other : Link) : Type 0 where
  polygon : Polygon
  from : link.from ≡ other.from
  edge : link.edge ≡ other.edge
  there : poly_at mesh link.from ≡ Some polygon
  over : Overlap polygon link.edge link.portal other.portal

-- what the tiles of a mesh keep
record AreOneWay (setting : Setting) (tiles : List TileMesh) : Type 0 where
  are : AreTiles setting tiles
  inner : All LeadsOneWay tiles
  few : All HasFewLinks tiles
  pairs : All HasOnePair tiles

-- the tile that a link leaves
tile_of : (P : TileMesh → Type 0) (tiles : List TileMesh) (t : ℕ) (tile : TileMesh) → All P tiles → slice_get tiles t ≡ Some tile → P tile
tile_of P tiles t tile each there = subst P (get_or_from_slice_get tiles t tile tile there) (each t tile (slice_get_within tiles t tile there))

-- no link inside a tile leaves over the edge of a rim entry
inside_or_over : (setting : Setting) (tiles : List TileMesh) (link other : Link) (tile : TileMesh) → AreTiles setting tiles
    → link.from ≡ other.from → link.edge ≡ other.edge → slice_get tiles link.from.tile ≡ Some tile → Contains tile.links link → IsCrossing setting tiles other → ⊥
inside_or_over setting tiles link other tile are from edge there held c =
    let number : c.a.tile ≡ link.from.tile = ap (λ (l : Link). l.from.tile) c.is ∙ ap (λ (at : PolyRef). at.tile) (sym from) in
    let same : c.a ≡ tile = same_Some c.a tile (sym c.here ∙ ap (slice_get tiles) number ∙ there) in
    none_over_side setting tile link c.entry (tile_of (IsFit setting) tiles link.from.tile tile are.fit there) held
    (subst (λ (t : TileMesh). Contains t.rim c.entry) same c.held)
    (ap (λ (l : Link). l.from.index) c.is ∙ ap (λ (at : PolyRef). at.index) (sym from))
    (ap (λ (l : Link). l.edge) c.is ∙ sym edge)

-- they enter the same polygon
one_way : (setting : Setting) (tiles : List TileMesh) → AreOneWay setting tiles → (link other : Link) → IsLinkOf (mesh_of setting tiles) link
    → IsLinkOf (mesh_of setting tiles) other → AreOverOneEdge (mesh_of setting tiles) link other → link.to ≡ other.to
unfolding mesh_of
one_way setting tiles keeps link other is is' at = elim is.listed [
  | inl (tile, there, held) ↦ elim is'.listed [
    | inl (tile', there', held') ↦
        let same : tile' ≡ tile = same_Some tile' tile (sym there' ∙ ap (λ (p : PolyRef). slice_get tiles p.tile) (sym at.from) ∙ there) in
        let inside : LeadsOneWay tile = tile_of LeadsOneWay tiles link.from.tile tile keeps.inner there in
        inside at.polygon link other held (subst (λ (t : TileMesh). Contains t.links other) same held') at.from at.edge
        (sym (ap (option_and_then (λ (t : TileMesh). slice_get t.polys link.from.index)) there) ∙ at.there) at.over
    | inr (links, there', held') ↦
        absurd (inside_or_over setting tiles link other tile keeps.are at.from at.edge there held (crossing_of setting tiles other links keeps.are there' held'))
  ]
  | inr (links, there, held) ↦ elim is'.listed [
    | inl (tile, there', held') ↦
        absurd (inside_or_over setting tiles other link tile keeps.are (sym at.from) (sym at.edge) there' held' (crossing_of setting tiles link links keeps.are there held))
    | inr (links', there', held') ↦
        crossings_one_way setting tiles keeps.few keeps.pairs link other (crossing_of setting tiles link links keeps.are there held)
        (crossing_of setting tiles other links' keeps.are there' held') at.from at.edge at.polygon at.there
        (record { before = at.over.before; after = at.over.after })
  ]
]

one_way_under : (ground : Ground) (shapes : List Shape) → IsGround ground → All IsShape shapes → AreOneWay ground.setting (tiles_under ground shapes)
one_way_under ground shapes rules' limits = record {
  are = are_tiles ground shapes rules' limits;
  inner = tiles_one_way ground shapes rules' limits;
  few = few_links_of_tiles ground shapes rules' limits;
  pairs = tiles_one_pair ground shapes rules' limits;
}

-- ---- folds

setting_kept : (ground : Ground) (shapes : List Shape) → IsGround ground → IsSetting (mesh_under ground shapes).setting
unfolding mesh_of
setting_kept ground shapes rules' = rules'.setting

portal_is : (links : List Link) (m : ℕ) → m < length links → portal_at (portals_of links) m ≡ (link_at links m).portal
portal_is links m there = get_or-map (λ (link : Link). link.portal) links m some_link some_portal there

pub unfolded_under : (ground : Ground) (shapes : List Shape) (from to : PolyRef) (corridor : Corridor) → IsGround ground → All IsShape shapes
    → IsCheapest (mesh_under ground shapes) from to corridor → IsUnfolded (portals_of corridor.links)
unfolded_under ground shapes from to corridor rules' limits cheapest m there fold =
    let mesh : Mesh = mesh_under ground shapes in
    let links : List Link = corridor.links in
    let sound = sound_under ground shapes rules' limits in
    let after : suc m < length links = omega (arith, there, length-map links (λ (link : Link). link.portal)) in
    let here : m < length links = omega (arith, after) in
    let next : m + 1 ≡ suc m = omega arith in
    let one : Link = link_at links m in
    let two : Link = link_at links (suc m) in
    let is = walk_link mesh from links to cheapest.walks m here in
    let is' = walk_link mesh from links to cheapest.walks (suc m) after in
    let joins : two.from ≡ one.to = walk_next mesh from links to cheapest.walks m after in
    let reverse = two_way_under ground shapes rules' limits one is in
    let back : Link = reverse_of reverse.edge one in
    let lead = leads mesh back sound reverse.back in
    let lead' = leads mesh two sound is' in
    let same : lead'.leaves ≡ lead.leaves = same_Some lead'.leaves lead.leaves (sym lead'.is_left ∙ ap (poly_at mesh) joins ∙ lead.is_left) in
    let out' : IsPortalOut lead.leaves two.edge two.portal = subst (λ (polygon : Polygon). IsPortalOut polygon two.edge two.portal) same lead'.out in
    let portals : IsFold one.portal two.portal =
    subst (IsFold one.portal) (ap (portal_at (portals_of links)) next ∙ portal_is links (suc m) after)
    (subst (λ (p : Portal). IsFold p (portal_at (portals_of links) (m + 1))) (portal_is links m here) fold) in
    let over = fold_on_edge lead.leaves reverse.edge two.edge one.portal two.portal (placed mesh back.from lead.leaves sound lead.is_left).rules.convex
    lead.out out' portals in
    let enters : one.from ≡ two.to =
    one_way ground.setting (tiles_under ground shapes) (one_way_under ground shapes rules' limits) back two reverse.back is' (record {
      polygon = lead.leaves;
      from = sym joins;
      edge = over.0;
      there = lead.is_left;
      over = subst (λ edge. Overlap lead.leaves edge (turned one.portal) two.portal) (sym over.0) over.1;
    }) in
    never_back mesh from to corridor sound (setting_kept ground shapes rules') cheapest m after (sym enters)

-- ---- of a build

pub two_way_of_build : (ground : Ground) (history : List Entry) (k : ℕ) → IsGround ground → All (λ (entry : Entry). IsRequest entry.request) history
    → IsTwoWay (build_of ground history k)
unfolding build_of
two_way_of_build ground history k rules' requests = two_way_under ground (shapes_alive history k) rules' (alive_limits history k requests)

pub unfolded_of_build : (ground : Ground) (history : List Entry) (k : ℕ) (from to : PolyRef) (corridor : Corridor) → IsGround ground
    → All (λ (entry : Entry). IsRequest entry.request) history → IsCheapest (build_of ground history k) from to corridor → IsUnfolded (portals_of corridor.links)
unfolding build_of
unfolded_of_build ground history k from to corridor rules' requests cheapest =
    unfolded_under ground (shapes_alive history k) from to corridor rules' (alive_limits history k requests) cheapest

-- so the way of each right answer is unfolded
path_unfolded : (mesh : Mesh) (from : Point) (from_y : ℕ) (to : Point) (to_y : ℕ) (answer : Answer)
    → ((first last : PolyRef) (corridor : Corridor) → IsCheapest mesh first last corridor → IsUnfolded (portals_of corridor.links))
    → IsRightPath mesh from from_y to to_y answer → HasUnfoldedWay answer
path_unfolded mesh from from_y to to_y NoStart law right = tt
path_unfolded mesh from from_y to to_y NoGoal law right = tt
path_unfolded mesh from from_y to to_y NoPath law right = tt
path_unfolded mesh from from_y to to_y (Path found) law right =
    law found.first right.last (record { cost = found.cost; links = found.links }) right.cheapest
path_unfolded mesh from from_y to to_y (Floors floors) law right = tt
path_unfolded mesh from from_y to to_y (Reached at) law right = tt
path_unfolded mesh from from_y to to_y (Wall a b num den) law right = tt

answer_unfolded : (mesh : Mesh) (question : Question) (answer : Answer)
    → ((first last : PolyRef) (corridor : Corridor) → IsCheapest mesh first last corridor → IsUnfolded (portals_of corridor.links))
    → IsRight mesh question answer → HasUnfoldedWay answer
answer_unfolded mesh (questions.Path from from_y to to_y) answer law right = path_unfolded mesh from from_y to to_y answer law right
answer_unfolded mesh (questions.Floor x z) (Path found) law right = absurd right
answer_unfolded mesh (questions.Floor x z) NoStart law right = tt
answer_unfolded mesh (questions.Floor x z) NoGoal law right = tt
answer_unfolded mesh (questions.Floor x z) NoPath law right = tt
answer_unfolded mesh (questions.Floor x z) (Floors floors) law right = tt
answer_unfolded mesh (questions.Floor x z) (Reached at) law right = tt
answer_unfolded mesh (questions.Floor x z) (Wall a b num den) law right = tt
answer_unfolded mesh (questions.Ray from from_y to) (Path found) law right = absurd right
answer_unfolded mesh (questions.Ray from from_y to) NoStart law right = tt
answer_unfolded mesh (questions.Ray from from_y to) NoGoal law right = tt
answer_unfolded mesh (questions.Ray from from_y to) NoPath law right = tt
answer_unfolded mesh (questions.Ray from from_y to) (Floors floors) law right = tt
answer_unfolded mesh (questions.Ray from from_y to) (Reached at) law right = tt
answer_unfolded mesh (questions.Ray from from_y to) (Wall a b num den) law right = tt

pub unfolded_answer : (ground : Ground) (history : List Entry) (k : ℕ) (question : Question) (answer : Answer) → IsGround ground
    → All (λ (entry : Entry). IsRequest entry.request) history → IsRight (build_of ground history k) question answer → HasUnfoldedWay answer
unfolded_answer ground history k question answer rules' requests right =
    answer_unfolded (build_of ground history k) question answer
    (λ first last corridor cheapest. unfolded_of_build ground history k first last corridor rules' requests cheapest) right
