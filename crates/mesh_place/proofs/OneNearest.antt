-- One answer alone is right, and it tells a place of the mesh.
use Rattle.std.proofs.Common.{◌≡◌, ℕ, ℤ, ◌<◌, ◌/◌, refl, sym, ap, subst, ◌∙◌}
use Rattle.std.specs.Prelude.{◌≢◌, Option, Some, None}
use Rattle.std.specs.Ordering.{nat_cmp, int_cmp, ordering_then, ordering_reverse}
use Rattle.std.specs.declared.cmp.Ordering.{Ordering}
use Rattle.std.specs.declared.cmp.Ordering.TheVariants.{Less, Equal, Greater}
use Rattle.std.proofs.lemmas.Cmp.{ranked, int_ranked}
use Rattle.nav_base.specs.declared.point.Point.{Point}
use Rattle.mesh_types.specs.declared.links.PolyRef.{PolyRef}
use Rattle.mesh_types.specs.declared.mesh.Mesh.{Mesh}
use Rattle.mesh_types.specs.declared.storeys.MeshPlace.{MeshPlace}
use Rattle.mesh_types.specs.LinkOrder.{poly_cmp, point_cmp}
use Rattle.mesh_types.specs.Places.{IsPlace, Stands}
use Rattle.mesh_types.specs.Soundness.{IsSound}
use Rattle.nav_ground.specs.Limits.{IsSetting}
use Rattle.nav_ground.specs.Tiling.{tiles_in_row, tile_rows}
use Rattle.mesh_place.specs.declared.near.Near.{Near}
use Rattle.mesh_place.specs.declared.near.NearAnswer.{NearAnswer}
use Rattle.mesh_place.specs.declared.near.NearAnswer.TheVariants.{Nearest, NoneInReach}
use Rattle.mesh_place.specs.Nearest.{place_cmp, IsNearest, IsRightNear, TellsPlace}
use Rattle.mesh_place.specs.Searches.{IsFoundAmong}
use Rattle.mesh_place.proofs.SearchLaws.{place_total}
use Rattle.mesh_place.proofs.TileRows.{tile_of}

place_of : (mesh : Mesh) (place : MeshPlace) → Stands mesh place → IsPlace mesh place
place_of mesh place stands = record { held = stands.held; storey = stands.storey; home = stands.home; aside = 0; floor = stands.floor }

pub tells : (mesh : Mesh) (asked : Near) (answer : NearAnswer) → IsRightNear mesh asked answer → TellsPlace mesh answer
tells mesh asked (Nearest place) right = place_of mesh place right.stands
tells mesh asked NoneInReach right = tt

-- ---- one alone

both_tie : (first second : Ordering) → ordering_then first second ≡ Equal → (first ≡ Equal) × (second ≡ Equal)
both_tie Less second is = absurd cc
both_tie Equal second is = (refl, is)
both_tie Greater second is = absurd cc

nat_tie : (a b : ℕ) → nat_cmp a b ≡ Equal → a ≡ b
nat_tie a b is = ranked a b Equal (sym is)

int_tie : (a b : ℤ) → int_cmp a b ≡ Equal → a ≡ b
int_tie a b is = int_ranked a b Equal (sym is)

poly_tie : (a b : PolyRef) → poly_cmp a b ≡ Equal → a ≡ b
poly_tie a b is =
    let parts = both_tie _ _ is in
    let tile = nat_tie a.tile b.tile parts.0 in
    let index = nat_tie a.index b.index parts.1 in
    λ i. record { tile = tile i; index = index i }

point_tie : (a b : Point) → point_cmp a b ≡ Equal → a ≡ b
point_tie a b is =
    let parts = both_tie _ _ is in
    let x = int_tie a.x b.x parts.0 in
    let z = int_tie a.z b.z parts.1 in
    λ i. record { x = x i; z = z i }

place_tie : (climb : ℕ) (asked : Near) (a b : MeshPlace) → place_cmp climb asked a b ≡ Equal → a ≡ b
place_tie climb asked a b is =
    let rest = (both_tie _ _ (both_tie _ _ is).1).1 in
    let polygon = both_tie _ _ rest in
    let point = both_tie _ _ polygon.1 in
    let at = poly_tie a.polygon b.polygon polygon.0 in
    let on = point_tie a.point b.point point.0 in
    let y = nat_tie a.y b.y point.1 in
    λ i. record { polygon = at i; point = on i; y = y i }

neither : (climb : ℕ) (asked : Near) (a b : MeshPlace) → place_cmp climb asked a b ≢ Less → place_cmp climb asked b a ≢ Less → a ≡ b
neither climb asked a b not not' = by (place_cmp climb asked a b) refl
  where
    by : (o : Ordering) → place_cmp climb asked a b ≡ o → a ≡ b
    by Less is = absurd (not is)
    by Equal is = place_tie climb asked a b is
    by Greater is = absurd (not' ((place_total climb asked).antisymm b a ∙ ap ordering_reverse is))

pub one_only : (mesh : Mesh) (asked : Near) (answer : NearAnswer) → IsRightNear mesh asked answer → (other : NearAnswer) → IsRightNear mesh asked other
    → other ≡ answer
one_only mesh asked (Nearest a) right (Nearest b) right' =
    ap Nearest (neither mesh.setting.agent.climb asked b a (right.first b right'.stands right'.reach) (right'.first a right.stands right.reach))
one_only mesh asked (Nearest a) right NoneInReach right' = absurd (right' a right.stands right.reach)
one_only mesh asked NoneInReach right (Nearest b) right' = absurd (right b right'.stands right'.reach)
one_only mesh asked NoneInReach right NoneInReach right' = refl

-- ---- what all tiles give

pub right_place : (mesh : Mesh) (asked : Near) (best : Option MeshPlace) (place : MeshPlace) → IsSound mesh → IsSetting mesh.setting
    → IsFoundAmong mesh asked None best (λ (other : MeshPlace). other.polygon.tile / tiles_in_row mesh.setting < tile_rows mesh.setting) → best ≡ Some place
    → IsNearest mesh asked place
right_place mesh asked best place sound setting found is =
    let own = subst (λ (o : Option MeshPlace). IsFoundAmong mesh asked None o
    (λ (other : MeshPlace). other.polygon.tile / tiles_in_row mesh.setting < tile_rows mesh.setting)) is found in
    record {
      stands = own.found.0;
      reach = own.found.1;
      first = λ other stands near. own.all other stands near (tile_of mesh other sound setting stands).row;
    }

pub right_none : (mesh : Mesh) (asked : Near) (best : Option MeshPlace) → IsSound mesh → IsSetting mesh.setting
    → IsFoundAmong mesh asked None best (λ (other : MeshPlace). other.polygon.tile / tiles_in_row mesh.setting < tile_rows mesh.setting) → best ≡ None
    → IsRightNear mesh asked NoneInReach
right_none mesh asked best sound setting found is =
    let own = subst (λ (o : Option MeshPlace). IsFoundAmong mesh asked None o
    (λ (other : MeshPlace). other.polygon.tile / tiles_in_row mesh.setting < tile_rows mesh.setting)) is found in
    λ other stands near. own.all other stands near (tile_of mesh other sound setting stands).row
