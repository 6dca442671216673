-- Heights, ends of slides and corners of ways are places wherever each held point is one.
use Rattle.std.proofs.Common.{◌≡◌, ℕ, List, [], ◌∷◌, ◌++◌, sym, subst}
use Rattle.std.specs.Prelude.{All}
use Rattle.std.specs.List.{AllZip}
use Rattle.std.proofs.lemmas.List.Elements.{All-append, All-cons, All-nil}
use Rattle.mesh_types.specs.declared.answers.Corner.{Corner}
use Rattle.mesh_types.specs.declared.links.Link.{Link}
use Rattle.mesh_types.specs.declared.mesh.Mesh.{Mesh}
use Rattle.mesh_types.specs.declared.storeys.MeshPlace.{MeshPlace}
use Rattle.mesh_types.specs.declared.storeys.Storey.{Storey}
use Rattle.mesh_types.specs.Places.{IsFloorAt, IsHighestAt, IsPlace}
use Rattle.mesh_types.specs.Rays.{IsHeldAt}
use Rattle.mesh_place.specs.declared.heights.HeightAnswer.{HeightAnswer}
use Rattle.mesh_place.specs.declared.heights.HeightAnswer.TheVariants.{Height, NoPlace}
use Rattle.mesh_place.specs.Heights.{IsRightHeight}
use Rattle.wall_slide.specs.Slides.{told_height}
use Rattle.place_ways.specs.Corners.{IsCornerPlace, IsFloorTold}
use Rattle.storey_laws.specs.Built.{HoldsOfMeshes}
use Rattle.storey_laws.specs.HeldPlaces.{HeldPointsArePlaces}
use Rattle.storey_laws.specs.PlacesTold.{HeightsAreTold, SlidesEndAtPlaces, WaysTurnAtPlaces}
use Rattle.storey_laws.proofs.BuiltTiles.{each_held_is_place}

module _ (mesh : Mesh) (are : HeldPointsArePlaces mesh) where
  told_heights : HeightsAreTold mesh
  told_heights at p held none = let told = are at p held in none told.y told.place

  -- a place whose height is the one that is told there
  place_told : (place : MeshPlace) (answer : HeightAnswer) → IsHeldAt mesh place.point place.polygon
      → IsRightHeight mesh place.polygon place.point answer → place.y ≡ told_height answer → IsPlace mesh place
  place_told place NoPlace held right is = absurd (told_heights place.polygon place.point held right)
  place_told place (Height y aside) held right is =
      let storey : Storey = right.1.0 in
      record {
        held = held;
        storey = storey;
        home = right.1.1;
        aside = aside;
        floor = subst (λ (n : ℕ). IsFloorAt storey place.point n aside) (sym is) right.1.2.is;
      }

  slides_end : SlidesEndAtPlaces mesh
  slides_end asked end is = place_told end is.floor.0 is.held is.floor.1 is.floor.2

  corner_place : (links : List Link) (turn : Corner) (place : MeshPlace) → IsCornerPlace mesh links turn place → IsPlace mesh place
  corner_place links turn place is =
      let told = are place.polygon place.point is.held in
      let floor : (aside : ℕ) × IsHighestAt told.storey place.point place.y aside =
      subst (λ o. IsFloorTold o place.point place.y) told.home is.floor in
      record { held = is.held; storey = told.storey; home = told.home; aside = floor.0; floor = floor.1.is }

  turn_places : (links : List Link) (turns : List Corner) (inner : List MeshPlace) → AllZip (IsCornerPlace mesh links) turns inner → All (IsPlace mesh) inner
  turn_places links [] [] each = All-nil (IsPlace mesh)
  turn_places links [] (place ∷ inner) each = absurd each
  turn_places links (turn ∷ turns) [] each = absurd each
  turn_places links (turn ∷ turns) (place ∷ inner) each =
      All-cons (IsPlace mesh) place inner (corner_place links turn place each.0) (turn_places links turns inner each.1)

  ways_turn : WaysTurnAtPlaces mesh
  ways_turn query way corners is =
      let own = is.corners_are in
      subst (All (IsPlace mesh)) (sym own.whole)
      (All-cons (IsPlace mesh) query.from (own.inner ++ query.goal ∷ []) is.places.start
      (All-append (IsPlace mesh) own.inner (query.goal ∷ []) (turn_places way.links way.turns own.inner own.each)
      (All-cons (IsPlace mesh) query.goal [] is.places.goal (All-nil (IsPlace mesh)))))

pub each_height_told : HoldsOfMeshes HeightsAreTold
each_height_told ground shapes rules' limits = told_heights _ (each_held_is_place ground shapes rules' limits)

pub each_slide_ends : HoldsOfMeshes SlidesEndAtPlaces
each_slide_ends ground shapes rules' limits = slides_end _ (each_held_is_place ground shapes rules' limits)

pub each_way_turns : HoldsOfMeshes WaysTurnAtPlaces
each_way_turns ground shapes rules' limits = ways_turn _ (each_held_is_place ground shapes rules' limits)
