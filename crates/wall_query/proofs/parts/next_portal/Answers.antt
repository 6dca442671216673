use Rattle.std.proofs.Common.{ℕ, List, sym, subst}
use Rattle.std.specs.Prelude.{All, Contains, Option, Some, None, IfSome}
use Rattle.std.proofs.lemmas.List.Elements.{All-contains}
use Rattle.nav_base.specs.Point.{HasCoordinates}
use Rattle.nav_base.proofs.Sizes.{HasCoordinates-field}
use Rattle.nav_base.specs.declared.point.Point.{Point}
use Rattle.mesh_types.specs.declared.links.Link.{Link}
use Rattle.mesh_types.specs.declared.links.Portal.{Portal}
use Rattle.mesh_types.specs.declared.mesh.Mesh.{Mesh}
use Rattle.mesh_types.specs.Soundness.{IsSound}
use Rattle.wall_slide.specs.Gathers.{IsLeading, outer_links}
use Rattle.wall_query.specs.declared.parts.PolygonEdge.{PolygonEdge}
use Rattle.wall_query.specs.Parts.{IsBeyond, IsFirst, IsFirstAmong}
use Rattle.wall_query.proofs.FieldPoints.{edge_field}
use Rattle.wall_query.proofs.FirstLaws.{all_links, inner_links_alone, right_coordinates}
use Rattle.wall_slide.proofs.LeavingLinks.{inner_leading, outer_leading}
use Rattle.wall_query.proofs.parts.next_portal.Goals as goal

pub first_of-inside-requires-clause-links : goal.first_of-inside-requires-clause-links
first_of-inside-requires-clause-links c =
    subst (λ (links : List Link). All (IsLeading c.args.mesh.now) links) (sym c.inner.ensures) (inner_leading c.args.mesh.now c.args.edge.now.polygon c.requires.sound)

pub first_of-requires-clause-links : goal.first_of-requires-clause-links
first_of-requires-clause-links c =
    subst (λ (links : List Link). All (IsLeading c.args.mesh.now) links) (sym c.outer.ensures) (outer_leading c.args.mesh.now c.args.edge.now.polygon c.requires.sound)

pub sooner-requires-clause-begin : goal.sooner-requires-clause-begin
sooner-requires-clause-begin c = HasCoordinates-field _ (edge_field c.args.mesh.now c.args.edge.now c.requires.sound c.requires.edge).begin

pub sooner-requires-clause-end : goal.sooner-requires-clause-end
sooner-requires-clause-end c = HasCoordinates-field _ (edge_field c.args.mesh.now c.args.edge.now c.requires.sound c.requires.edge).end

-- what is found among links has coordinates
has_coordinates : (mesh : Mesh) (areas : ℕ) (edge : PolygonEdge) (from : Point) (links : List Link) (first : Option Portal) → IsSound mesh → All (IsLeading mesh) links
    → IsFirstAmong (λ link. Contains links link × IsBeyond mesh areas edge from link) edge first → IfSome first (λ portal. HasCoordinates portal.right)
has_coordinates mesh areas edge from links None sound lead none = tt
has_coordinates mesh areas edge from links (Some portal) sound lead is =
    right_coordinates edge mesh _ portal sound (λ link seen. All-contains (IsLeading mesh) links link lead seen.0) is

pub sooner-requires-clause-first : goal.sooner-requires-clause-first
sooner-requires-clause-first c =
    has_coordinates c.args.mesh.now c.args.areas c.args.edge.now c.args.from c.inner.result.now c.first_of-inside.result c.requires.sound
    (subst (λ (links : List Link). All (IsLeading c.args.mesh.now) links) (sym c.inner.ensures) (inner_leading c.args.mesh.now c.args.edge.now.polygon c.requires.sound))
    c.first_of-inside.ensures

pub sooner-requires-clause-other : goal.sooner-requires-clause-other
sooner-requires-clause-other c =
    right_coordinates c.args.edge.now c.args.mesh.now _ c.in-Some.outside c.requires.sound
    (λ link seen. All-contains (IsLeading c.args.mesh.now) (outer_links c.args.mesh.now c.args.edge.now.polygon) link (outer_leading c.args.mesh.now c.args.edge.now.polygon c.requires.sound)
    (subst (λ (links : List Link). Contains links link) c.outer.ensures seen.0)) c.in-Some.ensures

pub returns-in-Some : goal.returns-in-Some
returns-in-Some c =
    all_links c.args.edge.now c.args.mesh.now c.args.areas c.args.from c.requires.sound c.first_of-inside.result c.in-Some.outside c.sooner.result
    (subst (λ (links : List Link). IsFirstAmong (λ link. Contains links link × IsBeyond c.args.mesh.now c.args.areas c.args.edge.now c.args.from link) c.args.edge.now c.first_of-inside.result)
    c.inner.ensures c.first_of-inside.ensures)
    (subst (λ (links : List Link). IsFirst (λ link. Contains links link × IsBeyond c.args.mesh.now c.args.areas c.args.edge.now c.args.from link) c.args.edge.now c.in-Some.outside)
    c.outer.ensures c.in-Some.ensures)
    c.sooner.ensures

pub returns-in-None : goal.returns-in-None
returns-in-None c =
    inner_links_alone c.args.edge.now c.args.mesh.now c.args.areas c.args.from c.requires.sound c.first_of-inside.result
    (subst (λ (links : List Link). IsFirstAmong (λ link. Contains links link × IsBeyond c.args.mesh.now c.args.areas c.args.edge.now c.args.from link) c.args.edge.now c.first_of-inside.result)
    c.inner.ensures c.first_of-inside.ensures)
    (λ link seen. c.in-None.ensures link (subst (λ (links : List Link). Contains links link) (sym c.outer.ensures) seen.0, seen.1))
