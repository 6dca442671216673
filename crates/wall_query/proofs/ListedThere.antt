-- The mesh has each polygon that is listed.
use Rattle.std.proofs.Common.{List, [], ◌∷◌, get_or, subst}
use Rattle.std.specs.Prelude.{All, Contains}
use Rattle.std.proofs.lemmas.List.Elements.{Contains-get_or}
use Rattle.mesh_types.specs.declared.links.Link.{Link}
use Rattle.mesh_types.specs.declared.links.PolyRef.{PolyRef}
use Rattle.mesh_types.specs.declared.mesh.Mesh.{Mesh}
use Rattle.wall_slide.specs.Around.{WalksBy}
use Rattle.wall_slide.specs.Ends.{IsThere}
use Rattle.wall_query.specs.declared.around.Around.{Around}
use Rattle.wall_query.specs.Around.{IsListed, IsPassed, StandsIn}

there_after : (mesh : Mesh) (around : Around) (from at : PolyRef) (links : List Link) → IsThere mesh from → WalksBy (IsPassed mesh around) mesh from links at → IsThere mesh at
there_after mesh around from at [] there walk = subst (IsThere mesh) walk there
there_after mesh around from at (link ∷ links) there walk =
    there_after mesh around link.to at links (record { polygon = walk.1.0.polygon; is = walk.1.0.there }) walk.3

pub all_there : (mesh : Mesh) (around : Around) (list : List PolyRef) → StandsIn mesh around → ((at : PolyRef) → Contains list at → IsListed mesh around at) → All (IsThere mesh) list
all_there mesh around list stands listed k d below =
    let looks = listed (get_or list k d) (Contains-get_or list k d below) in
    there_after mesh around around.from.polygon (get_or list k d) looks.0 (record { polygon = stands.polygon; is = stands.there }) looks.1
