-- Gaps between heights: they keep the triangle's rule, and so an estimate by landmarks falls along a link by no more than it weighs.
use Rattle.std.proofs.Common.{◌≡◌, ℕ, zero, suc, ◌<◌, ◌≤◌, ◌+◌, min, max, List, [], length, get_or, refl, sym, subst, ap, ◌∙◌, arith, inl, inr}
use Rattle.std.specs.Prelude.{All, Option, Some, None, slice_get, slice_index_or}
use Rattle.std.specs.Int.{abs_diff}
use Rattle.std.specs.Option.{option_map_or}
use Rattle.std.proofs.lemmas.Nat.{mul-le}
use Rattle.std.proofs.lemmas.Option.{slice_get_within, get_or_from_slice_get}
use Rattle.std.proofs.lemmas.List.Elements.{All-nil, Contains-get_or}
use Rattle.nav_base.specs.declared.point.Point.{Point}
use Rattle.mesh_types.specs.declared.links.PolyRef.{PolyRef}
use Rattle.mesh_types.specs.declared.links.Link.{Link}
use Rattle.mesh_types.specs.declared.mesh.TileMesh.{TileMesh}
use Rattle.mesh_types.specs.declared.mesh.Mesh.{Mesh}
use Rattle.mesh_types.specs.Corridors.{IsLinkOf, weight_of}
use Rattle.mesh_types.specs.Soundness.{IsCrossLink, IsSound}
use Rattle.graph_search.specs.declared.graph.Vertex.{Vertex}
use Rattle.graph_search.specs.Walks.{IsSearchable}
use Rattle.corridor_search.specs.MeshGraphs.{vertex_of, polygon_of, vertices_of, arcs_from}
use Rattle.corridor_search.specs.Estimates.{estimates_of}
use Rattle.corridor_search.specs.Islands.{inner_of, outer_of}
use Rattle.corridor_search.specs.Landmarks.{Heights, flat, heights_at, gap_of, AreLandmarks, estimates_by, IsSearchedBy}
use Rattle.corridor_search.proofs.Sound.{tile-fit, tile-number, leads}
use Rattle.corridor_search.proofs.LinkWeights.{estimate-falls, estimate-most}
use Rattle.corridor_search.proofs.Alike.{alike-same}
use Rattle.corridor_search.proofs.Searchable.{searchable, each-arc, vertices-few}

-- the triangle's rule
gap-triangle : (n : ℕ) (xs ys zs : List ℕ) → gap_of n xs zs ≤ gap_of n xs ys + gap_of n ys zs
unfolding gap_of
gap-triangle zero xs ys zs = omega arith
gap-triangle (suc n) xs ys zs =
    step (gap_of n xs zs) (gap_of n xs ys) (gap_of n ys zs) (slice_index_or xs n 0) (slice_index_or ys n 0) (slice_index_or zs n 0) (gap-triangle n xs ys zs)
  where
    step : (p q r a b c : ℕ) → p ≤ q + r → max p (abs_diff a c) ≤ max q (abs_diff a b) + max r (abs_diff b c)
    step p q r a b c h = omega (arith, h)

-- heights do not differ from themselves
gap-same : (n : ℕ) (xs : List ℕ) → gap_of n xs xs ≡ 0
unfolding gap_of
gap-same zero xs = refl
gap-same (suc n) xs = none (gap_of n xs xs) (slice_index_or xs n 0) (gap-same n xs)
  where
    none : (p a : ℕ) → p ≡ 0 → max p (abs_diff a a) ≡ 0
    none p a h = omega (arith, h)

-- one landmark more
gap-next : (n : ℕ) (xs ys : List ℕ) → gap_of (suc n) xs ys ≡ max (gap_of n xs ys) (abs_diff (slice_index_or xs n 0) (slice_index_or ys n 0))
unfolding gap_of
gap-next n xs ys = refl

pub gap-more : (n : ℕ) (xs ys : List ℕ) → gap_of (n + 1) xs ys ≡ max (gap_of n xs ys) (abs_diff (slice_index_or xs n 0) (slice_index_or ys n 0))
gap-more n xs ys =
    let is : n + 1 ≡ suc n = omega arith in
    ap (λ (m : ℕ). gap_of m xs ys) is ∙ gap-next n xs ys

pub gap-first : (xs ys : List ℕ) → gap_of 0 xs ys ≡ 0
unfolding gap_of
gap-first xs ys = refl

-- none: no heights at all are landmarks of any mesh
nowhere_in : {X : Type 0} (t : ℕ) (d : X) → slice_index_or [] t d ≡ d
nowhere_in t d = refl

pub no-landmarks : (mesh : Mesh) (marks : Heights) → marks ≡ [] → AreLandmarks mesh marks
no-landmarks mesh marks none = subst (AreLandmarks mesh) (sym none) (record {
  each = λ link of_mesh. record {
    gap = subst (λ (n : ℕ). n ≤ weight_of mesh link) (sym (level link)) (omega arith);
    alike = alike-same 8 flat;
  };
})
  where
    level : (link : Link) → gap_of 8 (heights_at [] link.from) (heights_at [] link.to) ≡ 0
    level link = gap-same 8 flat

-- the links of tiles and those over their borders are links of the mesh
pub inner-listed : (mesh : Mesh) (t : ℕ) → IsSound mesh → All (IsLinkOf mesh) (inner_of mesh t)
inner-listed mesh t sound = by_tile (slice_get mesh.tiles t) refl
  where
    by_tile : (o : Option TileMesh) → slice_get mesh.tiles t ≡ o → All (IsLinkOf mesh) (option_map_or (λ (tile : TileMesh). tile.links) o [])
    by_tile None is = All-nil (IsLinkOf mesh)
    by_tile (Some tile) is = each
      where
        each : (k : ℕ) (d : Link) → k < length tile.links → IsLinkOf mesh (get_or tile.links k d)
        each k d below =
            let inner = (tile-fit mesh t tile sound is).links k d below in
            let from : (get_or tile.links k d).from.tile ≡ t = inner.from_here ∙ tile-number mesh t tile sound is in
            record { listed = inl (tile, ap (slice_get mesh.tiles) from ∙ is, Contains-get_or tile.links k d below) }

pub outer-listed : (mesh : Mesh) (t : ℕ) → IsSound mesh → All (IsLinkOf mesh) (outer_of mesh t)
outer-listed mesh t sound = by_links (slice_get mesh.cross t) refl
  where
    by_links : (o : Option (List Link)) → slice_get mesh.cross t ≡ o → All (IsLinkOf mesh) (option_map_or (λ (links : List Link). links) o [])
    by_links None is = All-nil (IsLinkOf mesh)
    by_links (Some links) is = each
      where
        all : All (IsCrossLink mesh t) links
        all =
            subst (All (IsCrossLink mesh t)) (get_or_from_slice_get mesh.cross t links links is)
            (sound.cross t links (slice_get_within mesh.cross t links is))

        each : (k : ℕ) (d : Link) → k < length links → IsLinkOf mesh (get_or links k d)
        each k d below =
            let from = (all k d below).from_here in
            record { listed = inr (links, ap (slice_get mesh.cross) from ∙ is, Contains-get_or links k d below) }

-- an estimate by landmarks is one that a mesh may be searched with
module _ (mesh : Mesh) (goal : Point) (least : ℕ) (heights : List ℕ) where
  by-most : (marks : Option Heights) → IsSearchedBy mesh goal least marks → (v : Vertex) → estimates_by mesh goal least marks heights v ≤ 4294967295
  by-most None rules v = omega (arith, estimate-most mesh goal (polygon_of v) least rules.searched.sound rules.searched.setting rules.searched.in_field rules.cost)
  by-most (Some marks) rules v = omega (arith, estimate-most mesh goal (polygon_of v) least rules.searched.sound rules.searched.setting rules.searched.in_field rules.cost)

  by-falls : (marks : Option Heights) (link : Link) → IsSearchedBy mesh goal least marks → IsLinkOf mesh link
      → estimates_of mesh goal least (vertex_of link.from)
      ≤ weight_of mesh link + estimates_of mesh goal least (vertex_of link.to)
      → estimates_by mesh goal least marks heights (vertex_of link.from)
      ≤ weight_of mesh link + estimates_by mesh goal least marks heights (vertex_of link.to)
  by-falls None link rules listed falls = falls
  by-falls (Some marks) link rules listed falls =
      both _ _ _ _ _ _ falls (gap-triangle 8 (heights_at marks link.from) (heights_at marks link.to) heights) (rules.landmarks.each link listed).gap
    where
      both : (d e w p q r : ℕ) → d ≤ w + e → p ≤ r + q → r ≤ w → max d (min p 4294967295) ≤ w + max e (min q 4294967295)
      both d e w p q r h k g = omega (arith, h, k, g)

pub searchable-by : (mesh : Mesh) (goal : Point) (least : ℕ) (marks : Option Heights) (heights : List ℕ) → IsSearchedBy mesh goal least marks
    → IsSearchable (vertices_of mesh) (arcs_from mesh) (estimates_by mesh goal least marks heights) 2897000
searchable-by mesh goal least marks heights rules = record {
  enters = plain.enters;
  weights = plain.weights;
  consistent = λ v member. each-arc mesh v (λ arc. estimates_by mesh goal least marks heights v ≤ arc.weight + estimates_by mesh goal least marks heights arc.to) (λ link held.
      let leading = leads mesh (polygon_of v) link rules.searched.sound held in
      subst (λ (at : PolyRef). estimates_by mesh goal least marks heights (vertex_of at) ≤ weight_of mesh link + estimates_by mesh goal least marks heights (vertex_of link.to)) leading.leaves
      (by-falls mesh goal least heights marks link rules leading.listed
      (estimate-falls mesh link rules.searched.sound rules.searched.setting leading.through goal least rules.cost)));
  few = plain.few;
  small = λ v member. omega (arith, mul-le (length (vertices_of mesh)) 2897000 8000000 2897000 (vertices-few mesh rules.searched.sound) (omega arith), by-most mesh goal least heights marks rules v);
}
  where
    plain : IsSearchable (vertices_of mesh) (arcs_from mesh) (estimates_of mesh goal least) 2897000
    plain = searchable mesh goal least rules.searched rules.cost
