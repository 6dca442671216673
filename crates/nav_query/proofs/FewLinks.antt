-- A corridor of least cost visits no polygon twice, so it has at most as many links as the mesh has polygons.
use Rattle.std.proofs.Common.{◌≡◌, ℕ, zero, suc, ◌+◌, ◌*◌, ◌≤◌, ◌<◌, max, Bool, true, false, List, [], ◌∷◌, length, map, get_or, eqb, refl, sym, ap, subst, ◌∙◌, inl, inr, arith}
use Rattle.std.specs.Prelude.{All, Option, Some, slice_get, slice_index, nat_le, ◌==◌}
use Rattle.std.specs.List.{list_any, list_all, IsDistinct}
use Rattle.std.specs.Option.{option_map_or}
use Rattle.std.proofs.lemmas.Bool.{and_parts, or_cases, eqb-true, eq-eqb, leb-true, false≢true}
use Rattle.std.proofs.lemmas.List.{get_or-map, length-map}
use Rattle.std.proofs.lemmas.List.Elements.{recursion_from_All}
use Rattle.std.proofs.lemmas.List.Folds.{list_any_at}
use Rattle.std.proofs.lemmas.List.Sums.{sum_by-cons}
use Rattle.std.proofs.lemmas.Map.Steps.{length-le_from_distinct_below}
use Rattle.std.proofs.lemmas.Nat.{mul-le}
use Rattle.std.proofs.lemmas.Option.{none-some, same_Some, slice_get_within, option_and_then_some}
use Rattle.nav_ground.specs.Limits.{IsSetting, is_cost}
use Rattle.mesh_types.specs.declared.answers.Corridor.{Corridor}
use Rattle.mesh_types.specs.declared.links.Link.{Link}
use Rattle.mesh_types.specs.declared.links.PolyRef.{PolyRef}
use Rattle.mesh_types.specs.declared.mesh.Mesh.{Mesh}
use Rattle.mesh_types.specs.declared.polygon.Polygon.{Polygon}
use Rattle.mesh_types.specs.declared.mesh.TileMesh.{TileMesh}
use Rattle.mesh_types.specs.Corridors.{step_cost, weight_of, IsLinkOf, WalksTo, cost_of, IsCheapest}
use Rattle.mesh_types.specs.Soundness.{IsSound, polygon_count}
use Rattle.mesh_types.specs.WholeMesh.{poly_at}
use Rattle.mesh_types.proofs.MeshLinks.{leads}
use Rattle.mesh_types.proofs.MeshPolygons.{placed}

-- ---- the numbers of polygons

-- how many polygons stand before one, by tile and place
abbrev number_in : List TileMesh → ℕ → ℕ → ℕ
number_in [] t i = i
number_in (tile ∷ tiles) zero i = i
number_in (tile ∷ tiles) (suc t) i = length tile.polys + number_in tiles t i

-- the tiles have a polygon at a place
record IsListed (tiles : List TileMesh) (t i : ℕ) : Type 0 where
  tile : TileMesh
  there : slice_get tiles t ≡ Some tile
  within : i < length tile.polys

first_listed : (d : TileMesh) (tiles : List TileMesh) (i : ℕ) → IsListed (d ∷ tiles) 0 i → i < length d.polys
first_listed d tiles i is = omega (arith, is.within, ap (λ (tile : TileMesh). length tile.polys) (same_Some d is.tile is.there))

later_listed : (d : TileMesh) (tiles : List TileMesh) (t i : ℕ) → IsListed (d ∷ tiles) (suc t) i → IsListed tiles t i
later_listed d tiles t i is = record { tile = is.tile; there = is.there; within = is.within }

number_below : (tiles : List TileMesh) (t i : ℕ) → IsListed tiles t i → number_in tiles t i < polygon_count tiles
number_below [] t i is = absurd (none-some is.tile is.there)
number_below (d ∷ tiles) zero i is = omega (arith, first_listed d tiles i is, sum_by-cons (λ (tile : TileMesh). length tile.polys) d tiles)
number_below (d ∷ tiles) (suc t) i is =
    omega (arith, number_below tiles t i (later_listed d tiles t i is), sum_by-cons (λ (tile : TileMesh). length tile.polys) d tiles)

same_number : (tiles : List TileMesh) (t i t' i' : ℕ) → IsListed tiles t i → IsListed tiles t' i' → number_in tiles t i ≡ number_in tiles t' i'
    → (t ≡ t') × (i ≡ i')
same_number [] t i t' i' is is' e = absurd (none-some is.tile is.there)
same_number (d ∷ tiles) zero i zero i' is is' e = (refl, e)
same_number (d ∷ tiles) zero i (suc t') i' is is' e = absurd (omega (arith, e, first_listed d tiles i is))
same_number (d ∷ tiles) (suc t) i zero i' is is' e = absurd (omega (arith, e, first_listed d tiles i' is'))
same_number (d ∷ tiles) (suc t) i (suc t') i' is is' e =
    let rest = same_number tiles t i t' i' (later_listed d tiles t i is) (later_listed d tiles t' i' is') (omega (arith, e)) in
    (ap (λ n. suc n) rest.0, rest.1)

-- the number of a polygon of a mesh
abbrev number_of : Mesh → PolyRef → ℕ
number_of mesh at = number_in mesh.tiles at.tile at.index

listed : (mesh : Mesh) (at : PolyRef) (polygon : Polygon) → poly_at mesh at ≡ Some polygon → IsListed mesh.tiles at.tile at.index
listed mesh at polygon read =
    option_and_then_some (λ (tile : TileMesh). slice_get tile.polys at.index) (slice_get mesh.tiles at.tile) polygon read
    (λ tile there listed'. record { tile = tile; there = there; within = slice_get_within tile.polys at.index polygon listed' })

-- ---- weights

cost_there : (costs : List ℕ) (i : ℕ) → i < length costs → list_all is_cost costs ≡ true → 1 ≤ get_or costs i 0
cost_there [] i there holds = absurd (omega (arith, there))
cost_there (cost ∷ costs) zero there holds =
    leb-true 1 cost (and_parts (nat_le 1 cost) (nat_le cost 1000) (and_parts (is_cost cost) (list_all is_cost costs) holds).0).0
cost_there (cost ∷ costs) (suc i) there holds = cost_there costs i (omega (arith, there)) (and_parts (is_cost cost) (list_all is_cost costs) holds).1

-- a link of a mesh weighs at least 1
pub some_weight : (mesh : Mesh) (link : Link) → IsSound mesh → IsSetting mesh.setting → IsLinkOf mesh link → 1 ≤ weight_of mesh link
some_weight mesh link sound setting is =
    let lead = leads mesh link sound is in
    let costs = mesh.setting.costs in
    let weight : weight_of mesh link ≡ step_cost costs lead.leaves lead.enters =
    ap (λ (o : Option Polygon). option_map_or (λ (from : Polygon). option_map_or (λ (to : Polygon). step_cost costs from to) (poly_at mesh link.to) 0) o 0) lead.is_left
    ∙ ap (λ (o : Option Polygon). option_map_or (λ (to : Polygon). step_cost costs lead.leaves to) o 0) lead.is_entered in
    let area = (placed mesh link.to lead.enters sound lead.is_entered).rules.area in
    let cost = cost_there costs lead.enters.area (omega (arith, area.most, setting.areas)) setting.costs in
    subst (λ n. 1 ≤ n) (sym weight) (product _ (slice_index costs lead.enters.area) cost)
  where
    product : (root cost : ℕ) → 1 ≤ cost → 1 ≤ max 1 root * cost
    product root cost some = let least : 1 * 1 ≤ max 1 root * cost = mul-le 1 1 (max 1 root) cost (omega arith) some in omega (arith, least)

pub cost_of-cons : (mesh : Mesh) (link : Link) (links : List Link) → cost_of mesh (link ∷ links) ≡ weight_of mesh link + cost_of mesh links
cost_of-cons mesh link links = sum_by-cons (weight_of mesh) link links

-- ---- shorter walks

-- a walk from a polygon that costs less than given links
record IsCheaper (mesh : Mesh) (from : PolyRef) (links : List Link) (to : PolyRef) : Type 0 where
  other : List Link
  walks : WalksTo mesh from other to
  less : cost_of mesh other < cost_of mesh links

-- a link enters a polygon
abbrev enters : Mesh → PolyRef → Link → Bool
enters mesh at link = number_of mesh link.to == number_of mesh at

entered_is : (mesh : Mesh) (at : PolyRef) (link : Link) → IsSound mesh → IsLinkOf mesh link → IsListed mesh.tiles at.tile at.index
    → enters mesh at link ≡ true → link.to ≡ at
entered_is mesh at link sound is there same =
    let lead = leads mesh link sound is in
    let parts = same_number mesh.tiles link.to.tile link.to.index at.tile at.index (listed mesh link.to lead.enters lead.is_entered) there
    (eqb-true (number_of mesh link.to) (number_of mesh at) same) in
    λ i. record { tile = parts.0 i; index = parts.1 i }

-- where a walk comes by a polygon, what is left of it from there is cheaper
shortcut : (mesh : Mesh) (from at to : PolyRef) (links : List Link) → IsSound mesh → IsSetting mesh.setting → IsListed mesh.tiles at.tile at.index
    → WalksTo mesh from links to → list_any (enters mesh at) links ≡ true → IsCheaper mesh at links to
shortcut mesh from at to [] sound setting there walk by = absurd (false≢true by)
shortcut mesh from at to (link ∷ links) sound setting there walk by =
    let some = some_weight mesh link sound setting walk.0 in
    let cost = cost_of-cons mesh link links in
    elim (or_cases (enters mesh at link) (list_any (enters mesh at) links) by) [
      | inl here ↦ record {
        other = links;
        walks = subst (λ (a : PolyRef). WalksTo mesh a links to) (entered_is mesh at link sound walk.0 there here) walk.2;
        less = omega (arith, some, cost);
      }
      | inr later ↦
          let rest = shortcut mesh link.to at to links sound setting there walk.2 later in
          record { other = rest.other; walks = rest.walks; less = omega (arith, rest.less, cost) }
    ]

-- ---- walks of least cost

unfoldable pub IsLeast : Mesh → PolyRef → List Link → PolyRef → Type 0
IsLeast mesh from links to = (other : List Link) → WalksTo mesh from other to → cost_of mesh links ≤ cost_of mesh other

-- what is left of one after its first link is one too
pub least_rest : (mesh : Mesh) (from to : PolyRef) (link : Link) (links : List Link) → WalksTo mesh from (link ∷ links) to → IsLeast mesh from (link ∷ links) to
    → IsLeast mesh link.to links to
unfolding IsLeast
least_rest mesh from to link links walk least =
    λ other walk'. omega (arith, least (link ∷ other) (walk.0, walk.1, walk'), cost_of-cons mesh link links, cost_of-cons mesh link other)

entered_numbers : Mesh → List Link → List ℕ
entered_numbers mesh links = map (λ (link : Link). number_of mesh link.to) links

-- it enters no polygon twice
not_true : (b : Bool) → (b ≡ true → ⊥) → b ≡ false
not_true true never = absurd (never refl)
not_true false never = refl

not_again : (mesh : Mesh) (link : Link) (to : PolyRef) (links : List Link) → IsSound mesh → IsSetting mesh.setting → IsLinkOf mesh link
    → WalksTo mesh link.to links to → IsLeast mesh link.to links to
    → All (λ n. eqb (number_of mesh link.to) n ≡ false) (entered_numbers mesh links)
unfolding IsLeast entered_numbers
not_again mesh link to links sound setting is walk least =
    λ k d there. not_true (eqb (number_of mesh link.to) (get_or (map (λ (l : Link). number_of mesh l.to) links) k d))
    (λ same.
    let within : k < length links = omega (arith, there, length-map links (λ (l : Link). number_of mesh l.to)) in
    let at = get_or-map (λ (l : Link). number_of mesh l.to) links k link d within in
    let again : number_of mesh (get_or links k link).to ≡ number_of mesh link.to = sym at ∙ sym (eqb-true (number_of mesh link.to) _ same) in
    let lead = leads mesh link sound is in
    let less = shortcut mesh link.to link.to to links sound setting (listed mesh link.to lead.enters lead.is_entered) walk
    (list_any_at (enters mesh link.to) links k link within (eq-eqb (number_of mesh (get_or links k link).to) (number_of mesh link.to) again)) in
    omega (arith, less.less, least less.other less.walks))

distinct : (mesh : Mesh) (from to : PolyRef) (links : List Link) → IsSound mesh → IsSetting mesh.setting → WalksTo mesh from links to
    → IsLeast mesh from links to → IsDistinct eqb (entered_numbers mesh links)
unfolding IsDistinct entered_numbers
distinct mesh from to [] sound setting walk least = tt
distinct mesh from to (link ∷ links) sound setting walk least =
    let rest = least_rest mesh from to link links walk least in (
      recursion_from_All (λ n. eqb (number_of mesh link.to) n ≡ false) (map (λ (l : Link). number_of mesh l.to) links)
          (not_again mesh link to links sound setting walk.0 walk.2 rest),
      distinct mesh link.to to links sound setting walk.2 rest,
    )

-- and enters polygons of the mesh alone
all_below : (mesh : Mesh) (from to : PolyRef) (links : List Link) → IsSound mesh → WalksTo mesh from links to
    → (q : ℕ) → list_any (eqb q) (entered_numbers mesh links) ≡ true → q < polygon_count mesh.tiles
unfolding entered_numbers
all_below mesh from to [] sound walk q has = absurd (false≢true has)
all_below mesh from to (link ∷ links) sound walk q has =
    elim (or_cases (eqb q (number_of mesh link.to)) (list_any (eqb q) (map (λ (l : Link). number_of mesh l.to) links)) has) [
      | inl here ↦
          let lead = leads mesh link sound walk.0 in
          omega (arith, eqb-true q (number_of mesh link.to) here, number_below mesh.tiles link.to.tile link.to.index (listed mesh link.to lead.enters lead.is_entered))
      | inr later ↦ all_below mesh link.to to links sound walk.2 q later
    ]

pub few_links : (mesh : Mesh) (from to : PolyRef) (corridor : Corridor) → IsSound mesh → IsSetting mesh.setting → IsCheapest mesh from to corridor
    → length corridor.links ≤ 8000000
unfolding IsLeast entered_numbers
few_links mesh from to corridor sound setting cheapest =
    let few = length-le_from_distinct_below (entered_numbers mesh corridor.links) (polygon_count mesh.tiles)
    (distinct mesh from to corridor.links sound setting cheapest.walks (λ other walk. omega (arith, cheapest.least other walk, cheapest.cost)))
    (all_below mesh from to corridor.links sound cheapest.walks) in
    omega (arith, few, length-map corridor.links (λ (l : Link). number_of mesh l.to), sound.tiles.few)
