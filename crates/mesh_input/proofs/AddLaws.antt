-- Lists of triangles that were made, and their limits.
use Rattle.std.proofs.Common.{◌≡◌, ℕ, ◌+◌, ◌≤◌, List, [], ◌∷◌, ◌++◌, length, length-append, append_assoc, Option, Some, None, Result, Ok, Err, All, false, true≢false, inl, inr, sym, ap, ◌∙◌, subst, arith, le_trans, le_of_eq}
use Rattle.std.specs.Prelude.{is_err}
use Rattle.mesh_input.specs.declared.fault.MeshRefusal.{MeshRefusal}
use Rattle.std.proofs.lemmas.List.Elements.{All-nil, All-cons, All-append}
use Rattle.tri_raster.specs.declared.triangle.Tri.{Tri}
use Rattle.tri_raster.specs.declared.triangle.Corner3.{Corner3}
use Rattle.tri_raster.specs.Triangles.{IsTriangle, IsCorner}
use Rattle.world_grid.specs.declared.frame.WorldPoint.{WorldPoint}
use Rattle.mesh_input.specs.declared.grid.MeshGrid.{MeshGrid}
use Rattle.mesh_input.specs.declared.mesh.WorldTriangle.{WorldTriangle}
use Rattle.mesh_input.specs.declared.slope.Slope.{Slope}
use Rattle.mesh_input.specs.Meshes.{facet_of, area_of}
use Rattle.mesh_input.specs.Triangles.{IsCornerAt, IsAreaOf, IsTriOf, moved}
use Rattle.mesh_input.specs.Adding.{MeshLists, IsMadeOf, IsMadeAt, AreMade, AreFirst, AreAdded, HasAdded}

module _ (grid : MeshGrid) (slope : Slope) where
  -- one more triangle
  made_more : (mesh : MeshLists) (from : ℕ) (tris : List Tri) (tri : Tri) (n : ℕ) → n ≡ from + length tris → AreMade grid slope mesh from tris
      → IsMadeAt grid slope mesh n (Ok tri) → AreMade grid slope mesh from (tris ++ tri ∷ [])
  unfolding AreMade
  made_more mesh from [] tri n e are is = (subst (λ (k : ℕ). IsMadeAt grid slope mesh k (Ok tri)) (at_first e) is, tt)
    where
      at_first : n ≡ from + 0 → n ≡ from
      at_first e = omega (arith, e)
  made_more mesh from (one ∷ tris) tri n e are is = (are.0, made_more mesh (from + 1) tris tri n (omega (arith, e)) are.1 is)

  from_none : (m n : ℕ) → m ≡ n → n ≡ 0 + m
  from_none m n e = omega (arith, e)

  pub first_more : (mesh : MeshLists) (n : ℕ) (old now new : List Tri) (tri : Tri) → AreFirst grid slope mesh n old now → IsMadeAt grid slope mesh n (Ok tri) → new ≡ now ++ tri ∷ []
      → AreFirst grid slope mesh (n + 1) old new
  first_more mesh n old now new tri first is pushed = record {
    made = first.made ++ tri ∷ [];
    are = made_more mesh 0 first.made tri n (from_none (length first.made) n first.count) first.are is;
    count = length-append first.made (tri ∷ []) ∙ ap (λ (k : ℕ). k + 1) first.count;
    added = pushed ∙ ap (λ (xs : List Tri). xs ++ tri ∷ []) first.added ∙ append_assoc old first.made (tri ∷ []);
  }

  -- what is made is within the limits of triangles
  corner_fits : (at : WorldPoint) (corner : Corner3) → IsCornerAt grid at corner → IsCorner corner
  corner_fits at corner is = record {
    x = le_trans is.x.inside grid.x.few;
    y = le_trans is.y.inside grid.heights;
    z = le_trans is.z.inside grid.z.few;
  }

  moved_fits : (corner : Corner3) (x z : ℕ) → IsCorner corner → IsCorner (moved corner x z)
  moved_fits corner x z is = record { x = omega arith; y = is.y; z = omega arith }

  area_fits : (facet : WorldTriangle) (given area : ℕ) → given ≤ 63 → IsAreaOf grid slope facet given area → area ≤ 63
  area_fits facet given area few (inl is) = le_trans (le_of_eq is.1) few
  area_fits facet given area few (inr is) = omega (arith, is.1)

  tri_fits : (facet : WorldTriangle) (given : ℕ) (tri : Tri) → IsTriOf grid slope facet given tri → IsTriangle tri
  tri_fits facet given tri is =
      subst IsTriangle (sym is.is) (record {
        a = moved_fits is.corners.a _ _ (corner_fits facet.a is.corners.a is.has.a);
        b = moved_fits is.corners.b _ _ (corner_fits facet.b is.corners.b is.has.b);
        c = moved_fits is.corners.c _ _ (corner_fits facet.c is.corners.c is.has.c);
        area = area_fits facet given is.corners.area is.allowed is.area;
      })

  made_fits : (facet : Option WorldTriangle) (given : ℕ) (tri : Tri) → IsMadeOf grid slope facet given (Ok tri) → IsTriangle tri
  made_fits (Some facet) given tri is = tri_fits facet given tri is
  made_fits None given tri is = absurd is

  all_fit : (mesh : MeshLists) (from : ℕ) (tris : List Tri) → AreMade grid slope mesh from tris → All IsTriangle tris
  unfolding AreMade
  all_fit mesh from [] are = All-nil IsTriangle
  all_fit mesh from (tri ∷ tris) are =
      All-cons IsTriangle tri tris (made_fits (facet_of mesh.vertices mesh.corners from) (area_of mesh.areas from) tri are.0) (all_fit mesh (from + 1) tris are.1)

  pub added_fit : (mesh : MeshLists) (old new : List Tri) → AreAdded grid slope mesh old new → All IsTriangle old → All IsTriangle new
  added_fit mesh old new added all = subst (All IsTriangle) (sym added.added) (All-append IsTriangle old added.made all (all_fit mesh 0 added.made added.are))

  pub ok_fit : {T : Type 0} (mesh : MeshLists) (old new : List Tri) (r : Result T MeshRefusal) → is_err r ≡ false → HasAdded grid slope mesh old new r → All IsTriangle old → All IsTriangle new
  ok_fit mesh old new (Ok x) is added = added_fit mesh old new added
  ok_fit mesh old new (Err e) is added = absurd (true≢false is)
