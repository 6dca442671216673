-- Points that are listed by vertex.
use Rattle.std.proofs.Common.{◌≡◌, ℕ, ◌+◌, ◌*◌, ◌<◌, ◌≤◌, List, [], ◌∷◌, ◌++◌, length, length-append, slice_index_or, Option, Some, None, IfSome, Result, inl, inr, sym, ap, ◌∙◌, subst, arith}
use native.Mathlib.Nat.{eq-or-lt_of_le}
use Rattle.std.proofs.lemmas.Bool.{cases_lt}
use Rattle.std.proofs.lemmas.List.{get_or_append_left, get_or_push, get_or_past}
use Rattle.std.specs.Float.{Float}
use Rattle.world_grid.specs.declared.frame.WorldPoint.{WorldPoint}
use Rattle.mesh_input.specs.declared.grid.MeshGrid.{MeshGrid}
use Rattle.mesh_input.specs.declared.grid.GridPoint.{GridPoint}
use Rattle.mesh_input.specs.declared.grid.GridTriangle.{GridTriangle}
use Rattle.mesh_input.specs.declared.mesh.WorldTriangle.{WorldTriangle}
use Rattle.mesh_input.specs.declared.slope.Slope.{Slope}
use Rattle.mesh_input.specs.Meshes.{vertex_of, facet_at, area_of}
use Rattle.tri_raster.specs.declared.triangle.Tri.{Tri}
use Rattle.mesh_input.specs.declared.fault.MeshFault.{MeshFault}
use Rattle.mesh_input.specs.Adding.{MeshLists, IsMadeOf, IsMadeAt}
use Rattle.mesh_input.specs.Triangles.{IsMade}
use Rattle.mesh_input.specs.Points.{IsPointOn, IsTriangleOn, IsListed, AreVertexPoints, IsListedTriangle}

module _ (grid : MeshGrid) (vertices : List Float) where
  -- no points are listed
  pub none_listed : AreVertexPoints grid vertices []
  none_listed = record { each = λ index. tt }

  -- one more point
  pub more_listed : (points new : List (Option GridPoint)) (n : ℕ) (point : Option GridPoint) → AreVertexPoints grid vertices points → length points ≡ n → new ≡ points ++ point ∷ []
      → IfSome point (IsListed grid vertices n) → AreVertexPoints grid vertices new
  more_listed points new n point are same e is = record { each = λ index. subst (λ (xs : List (Option GridPoint)). IfSome (slice_index_or xs index None) (IsListed grid vertices index)) (sym e) (at index) }
    where
      beyond : (index : ℕ) → length points < index → length (points ++ point ∷ []) ≤ index
      beyond index past = subst (λ (k : ℕ). k ≤ index) (sym (length-append points (point ∷ []))) (omega (arith, past))

      at : (index : ℕ) → IfSome (slice_index_or (points ++ point ∷ []) index None) (IsListed grid vertices index)
      at index =
          elim (cases_lt index (length points)) [
            | inl before ↦ subst (λ (p : Option GridPoint). IfSome p (IsListed grid vertices index)) (sym (get_or_append_left points (point ∷ []) None index before)) (are.each index)
            | inr later ↦ elim (eq-or-lt_of_le later) [
              | inl here ↦ subst (λ (p : Option GridPoint). IfSome p (IsListed grid vertices index)) (sym (get_or_push points point None index here)) (subst (λ (k : ℕ). IfSome point (IsListed grid vertices k)) (sym same ∙ here) is)
              | inr past ↦ subst (λ (p : Option GridPoint). IfSome p (IsListed grid vertices index)) (sym (get_or_past (points ++ point ∷ []) index None (beyond index past))) tt
            ]
          ]

  listed_at : (points : List (Option GridPoint)) (index : ℕ) (point : GridPoint) → AreVertexPoints grid vertices points → slice_index_or points index None ≡ Some point → IsListed grid vertices index point
  listed_at points index point are e = subst (λ (p : Option GridPoint). IfSome p (IsListed grid vertices index)) e (are.each index)

  facet_there : (a b c : Option WorldPoint) (p q r : WorldPoint) → a ≡ Some p → b ≡ Some q → c ≡ Some r → facet_at a b c ≡ Some (record { a = p; b = q; c = r })
  facet_there a b c p q r e f g =
      ap (λ (o : Option WorldPoint). facet_at o b c) e ∙ ap (λ (o : Option WorldPoint). facet_at (Some p) o c) f ∙ ap (λ (o : Option WorldPoint). facet_at (Some p) (Some q) o) g

  -- a triangle of listed points is that of the mesh
  pub triangle_listed : (points : List (Option GridPoint)) (corners : List ℕ) (place : ℕ) (a b c : GridPoint) → AreVertexPoints grid vertices points
      → slice_index_or points (slice_index_or corners (3 * place) 0) None ≡ Some a → slice_index_or points (slice_index_or corners (3 * place + 1) 0) None ≡ Some b
      → slice_index_or points (slice_index_or corners (3 * place + 2) 0) None ≡ Some c → IsListedTriangle grid vertices corners place (record { a = a; b = b; c = c })
  triangle_listed points corners place a b c are e f g =
      let first = listed_at points _ a are e in
      let second = listed_at points _ b are f in
      let third = listed_at points _ c are g in
      record {
        facet = record { a = first.at; b = second.at; c = third.at };
        there = facet_there _ _ _ first.at second.at third.at first.there second.there third.there;
        is = record { a = first.is; b = second.is; c = third.is };
      }

  -- the point of a vertex
  pub point_listed : (index : ℕ) (at : WorldPoint) (r : Option GridPoint) → vertex_of vertices index ≡ Some at → IfSome r (IsPointOn grid at) → IfSome r (IsListed grid vertices index)
  point_listed index at None e is = tt
  point_listed index at (Some point) e is = record { at = at; there = e; is = is }

-- what a triangle of listed points becomes, the mesh's becomes
pub made_listed : (grid : MeshGrid) (slope : Slope) (mesh : MeshLists) (place area : ℕ) (on : GridTriangle) (r : Result Tri MeshFault) → IsListedTriangle grid mesh.vertices mesh.corners place on
    → area ≡ area_of mesh.areas place → ((facet : WorldTriangle) → IsTriangleOn grid facet on → IsMade grid slope facet area r) → IsMadeAt grid slope mesh place r
made_listed grid slope mesh place area on r is e made =
    subst (λ (o : Option WorldTriangle). IsMadeOf grid slope o (area_of mesh.areas place) r) (sym is.there) (subst (λ (a : ℕ). IsMade grid slope is.facet a r) e (made is.facet is.is))
