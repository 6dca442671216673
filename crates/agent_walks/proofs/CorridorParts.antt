-- The polygons of a corridor, its first and its last links, and that what is left of a cheapest walk is one.
use Rattle.std.proofs.Common.{◌≡◌, ℕ, zero, suc, ◌+◌, ◌≤◌, ◌<◌, List, [], ◌∷◌, ◌++◌, length, take, drop, get_or, refl, sym, ap, subst, ◌∙◌, arith}
use Rattle.std.specs.Prelude.{All}
use Rattle.std.specs.List.{sum_by}
use Rattle.std.proofs.lemmas.List.{get_or-map, length-map, take_more}
use Rattle.std.proofs.lemmas.List.Elements.{All-nil, All-cons}
use Rattle.std.proofs.lemmas.List.Sums.{sum_by-append, sum_by-take-drop, sum_by-take-le, sum_by_push}
use Rattle.mesh_types.specs.declared.answers.Corridor.{Corridor}
use Rattle.mesh_types.specs.declared.links.Link.{Link}
use Rattle.mesh_types.specs.declared.links.PolyRef.{PolyRef}
use Rattle.mesh_types.specs.declared.mesh.Mesh.{Mesh}
use Rattle.mesh_types.specs.Corridors.{weight_of, IsLinkOf, WalksTo, cost_of, IsCheapest}
use Rattle.mesh_types.specs.Soundness.{IsSound}
use Rattle.mesh_types.proofs.MeshLinks.{leads}
use Rattle.mesh_types.proofs.WalkChains.{some_link, link_at}
use Rattle.surface_move.specs.Moves.{no_polygon, nth_polygon, IsThere, AreThere}
use Rattle.agent_walks.specs.Marches.{polygons_of}

-- ---- the polygons

pub count_polygons : (first : PolyRef) (links : List Link) → length (polygons_of first links) ≡ length links + 1
count_polygons first links = omega (arith, length-map links (λ (link : Link). link.to))

-- behind a link stands the polygon that it enters
pub entered_at : (first : PolyRef) (links : List Link) (k : ℕ) → k < length links → nth_polygon (polygons_of first links) (k + 1) ≡ (link_at links k).to
entered_at first links k there =
    ap (nth_polygon (polygons_of first links)) next ∙ get_or-map (λ (link : Link). link.to) links k some_link no_polygon there
  where
    next : k + 1 ≡ suc k
    next = omega arith

-- the last one is where the walk leads to
pub last_at : (mesh : Mesh) (first : PolyRef) (links : List Link) (last : PolyRef) → WalksTo mesh first links last → nth_polygon (polygons_of first links) (length links) ≡ last
last_at mesh first [] last walk = walk
last_at mesh first (link ∷ links) last walk = last_at mesh link.to links last walk.2

-- all of them are there
pub are_there : (mesh : Mesh) (first : PolyRef) (links : List Link) (last : PolyRef) → IsSound mesh → IsThere mesh first → WalksTo mesh first links last
    → AreThere mesh (polygons_of first links)
are_there mesh first [] last sound there walk = All-cons (IsThere mesh) first [] there (All-nil (IsThere mesh))
are_there mesh first (link ∷ links) last sound there walk =
    let lead = leads mesh link sound walk.0 in
    All-cons (IsThere mesh) first (polygons_of link.to links) there
    (are_there mesh link.to links last sound (record { polygon = lead.enters; is = lead.is_entered }) walk.2)

-- ---- the parts of a walk

pub walk_before : (mesh : Mesh) (first : PolyRef) (links : List Link) (last : PolyRef) → WalksTo mesh first links last → (k : ℕ) → k ≤ length links
    → WalksTo mesh first (take k links) (nth_polygon (polygons_of first links) k)
walk_before mesh first links last walk zero within = refl
walk_before mesh first [] last walk (suc k) within = absurd (omega (arith, within))
walk_before mesh first (link ∷ links) last walk (suc k) within = (walk.0, walk.1, walk_before mesh link.to links last walk.2 k (omega (arith, within)))

pub walk_after : (mesh : Mesh) (first : PolyRef) (links : List Link) (last : PolyRef) → WalksTo mesh first links last → (k : ℕ) → k ≤ length links
    → WalksTo mesh (nth_polygon (polygons_of first links) k) (drop k links) last
walk_after mesh first links last walk zero within = walk
walk_after mesh first [] last walk (suc k) within = absurd (omega (arith, within))
walk_after mesh first (link ∷ links) last walk (suc k) within = walk_after mesh link.to links last walk.2 k (omega (arith, within))

walk_joined : (mesh : Mesh) (first : PolyRef) (links more : List Link) (at last : PolyRef) → WalksTo mesh first links at → WalksTo mesh at more last
    → WalksTo mesh first (links ++ more) last
walk_joined mesh first [] more at last walk walk' = subst (λ (p : PolyRef). WalksTo mesh p more last) (sym walk) walk'
walk_joined mesh first (link ∷ links) more at last walk walk' = (walk.0, walk.1, walk_joined mesh link.to links more at last walk.2 walk')

-- all its links are links of the mesh
pub walk_links : (mesh : Mesh) (first : PolyRef) (links : List Link) (last : PolyRef) → WalksTo mesh first links last → All (IsLinkOf mesh) links
walk_links mesh first [] last walk = All-nil (IsLinkOf mesh)
walk_links mesh first (link ∷ links) last walk = All-cons (IsLinkOf mesh) link links walk.0 (walk_links mesh link.to links last walk.2)

-- what is left costs what is not passed
pub cost_left : (mesh : Mesh) (links : List Link) (k : ℕ) → cost_of mesh (take k links) + cost_of mesh (drop k links) ≡ cost_of mesh links
cost_left mesh links k = sum_by-take-drop (weight_of mesh) links k

-- no walk costs less than the rest of one than which none costs less
pub cheapest_left : (mesh : Mesh) (first last : PolyRef) (corridor : Corridor) (k cost : ℕ) → IsCheapest mesh first last corridor → k ≤ length corridor.links
    → cost ≡ cost_of mesh (drop k corridor.links)
    → IsCheapest mesh (nth_polygon (polygons_of first corridor.links) k) last (record { cost = cost; links = drop k corridor.links })
cheapest_left mesh first last corridor k cost is within costs = record {
  walks = walk_after mesh first corridor.links last is.walks k within;
  cost = costs;
  least = λ links walk.
      let joined =
      walk_joined mesh first (take k corridor.links) links (nth_polygon (polygons_of first corridor.links) k) last
      (walk_before mesh first corridor.links last is.walks k within) walk in
      let both = sum_by-append (weight_of mesh) (take k corridor.links) links in
      omega (arith, costs, is.least (take k corridor.links ++ links) joined, is.cost, both, cost_left mesh corridor.links k);
}

-- the cost so far and that of one link more are within that of all
pub one_link_more : (mesh : Mesh) (links : List Link) (i : ℕ) (d : Link) → i < length links
    → cost_of mesh (take i links) + weight_of mesh (get_or links i d) ≤ cost_of mesh links
one_link_more mesh links i d there =
    omega (
      arith,
      sum_by-take-le (weight_of mesh) links (i + 1),
      ap (sum_by (weight_of mesh)) (take_more links i d there),
      sum_by_push (weight_of mesh) (take i links) (get_or links i d),
    )
