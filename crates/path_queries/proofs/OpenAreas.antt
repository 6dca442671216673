-- Where all areas are open: walks lead on from each polygon, so all that a search reached are polygons of a flood, each at its own place.
use Rattle.std.proofs.Common.{◌≡◌, ℕ, ◌<◌, ◌≤◌, ◌∙◌, Bool, true, false, List, length, map, take, refl, sym, ap, arith}
use Rattle.std.specs.Prelude.{◌==◌, ◌&&◌, ◌||◌, All, slice_index_or}
use Rattle.std.specs.List.{filter}
use Rattle.std.proofs.lemmas.List.{length-take-le}
use Rattle.std.proofs.lemmas.List.Elements.{All-take}
use Rattle.std.proofs.lemmas.Option.{slice_get_within}
use Rattle.nav_ground.proofs.Selections.{filter_all}
use Rattle.mesh_types.specs.declared.links.PolyRef.{PolyRef}
use Rattle.mesh_types.specs.declared.mesh.Mesh.{Mesh}
use Rattle.mesh_types.specs.Soundness.{IsSound}
use Rattle.graph_search.specs.declared.exploring.ReachedVertex.{ReachedVertex}
use Rattle.corridor_search.specs.Estimates.{extent_at}
use Rattle.corridor_search.specs.MeshGraphs.{IsThere, polygon_of}
use Rattle.corridor_search.proofs.Extents.{extent-rules}
use Rattle.path_queries.specs.BackGraphs.{flooded_back}
use Rattle.path_queries.specs.Filters.{AreAllOpen}
use Rattle.path_queries.specs.FilteredGraphs.{leads_on}
use Rattle.path_queries.specs.Searches.{AreViaNoLater, flooded_as, flooded_of, is_kept, kept_before}
use Rattle.path_queries.proofs.MappedLists.{map-same}

or-true : (b : Bool) → (b || true) ≡ true
or-true true = refl
or-true false = refl

pub leads-where-open : (mesh : Mesh) (areas : ℕ) (start at : PolyRef) → IsSound mesh → IsThere mesh at → AreAllOpen areas → leads_on mesh areas start at ≡ true
leads-where-open mesh areas start at sound there opens =
    let rules = extent-rules mesh at (extent_at mesh at) sound there refl in
    ap (λ (b : Bool). at.tile == start.tile && at.index == start.index || b) (opens (extent_at mesh at).area rules.area)
    ∙ or-true (at.tile == start.tile && at.index == start.index)

module _ (mesh : Mesh) (areas : ℕ) (first : PolyRef) (list : List ReachedVertex) (sound : IsSound mesh) (opens : AreAllOpen areas)
    (there : All (λ (entry : ReachedVertex). IsThere mesh (polygon_of entry.vertex)) list) where
  kept-each : All (λ (entry : ReachedVertex). is_kept mesh areas first entry ≡ true) list
  kept-each k d below = leads-where-open mesh areas first (polygon_of (slice_index_or list k d).vertex) sound (there k d below) opens

  kept-places : (n : ℕ) → n ≤ length list → kept_before mesh areas first list n ≡ n
  kept-places n within =
      ap (λ (entries : List ReachedVertex). length entries) (filter_all (is_kept mesh areas first) (take n list)
      (All-take (λ (entry : ReachedVertex). is_kept mesh areas first entry ≡ true) n list kept-each))
      ∙ length-take-le n list within

  -- so the flood has all of them, as they stand
  pub all-flooded : AreViaNoLater list → map flooded_back list ≡ flooded_of mesh areas first list
  all-flooded via =
      map-same flooded_back (flooded_as mesh areas first list) list (λ k entry is.
      let within : k < length list = slice_get_within list k entry is in
      let place : entry.via ≡ kept_before mesh areas first list entry.via = sym (kept-places entry.via (omega (arith, via k entry is, within))) in
      λ i. record { at = polygon_of entry.vertex; cost = entry.cost; via = place i })
      ∙ ap (map (flooded_as mesh areas first list)) (sym (filter_all (is_kept mesh areas first) list kept-each))
