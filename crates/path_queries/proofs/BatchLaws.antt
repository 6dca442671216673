-- What links from a polygon of a flood back to the first are: a cheapest allowed walk.
use Rattle.std.proofs.Common.{◌≡◌, ℕ, ◌<◌, List, [], ◌∷◌, ◌++◌, length, sym, subst, ap, ◌∙◌, arith}
use Rattle.std.specs.Prelude.{All, slice_get, Some}
use Rattle.std.specs.Option.{option_map_or}
use Rattle.std.proofs.lemmas.List.{append_assoc}
use Rattle.std.proofs.lemmas.List.Elements.{All-cons, All-nil}
use Rattle.std.proofs.lemmas.List.Sums.{sum_by-cons}
use Rattle.std.proofs.lemmas.Option.{slice_get-get_or, get_or_from_slice_get, slice_get_within}
use Rattle.mesh_types.specs.declared.links.Link.{Link}
use Rattle.mesh_types.specs.declared.links.PolyRef.{PolyRef}
use Rattle.mesh_types.specs.declared.mesh.Mesh.{Mesh}
use Rattle.mesh_types.specs.declared.polygon.Polygon.{Polygon}
use Rattle.mesh_types.specs.Corridors.{WalksTo, cost_of, step_cost, weight_of}
use Rattle.mesh_types.specs.WholeMesh.{poly_at}
use Rattle.path_queries.specs.declared.filters.Filter.{Filter}
use Rattle.path_queries.specs.declared.floods.Flooded.{Flooded}
use Rattle.path_queries.specs.Batches.{AreLinked, IsLinkBetween, LeadToFirst, flooded_at, no_flooded}
use Rattle.path_queries.specs.Filters.{AllowedTo, Enters, IsCheapestAllowed, priced}
use Rattle.path_queries.specs.Floods.{IsFlooded}
use Rattle.path_queries.specs.FloodsBack.{IsFloodBack, IsStepBack}

-- what is read at a place of a flood
pub flooded-is : (list : List Flooded) (place : ℕ) → place < length list → slice_get list place ≡ Some (flooded_at list place)
flooded-is list place there = slice_get-get_or list place no_flooded there

module _ (mesh : Mesh) (filter : Filter) (last : PolyRef) (most : ℕ) (list : List Flooded) (flood : IsFloodBack mesh filter last most list) where
  step-at : (place : ℕ) → 0 < place → place < length list → IsStepBack mesh filter list place (flooded_at list place)
  step-at place some there = flood.steps place (flooded_at list place) some (flooded-is list place there)

  next-is : (place : ℕ) (some : 0 < place) (there : place < length list)
      → flooded_at list (flooded_at list place).via ≡ (step-at place some there).next
  next-is place some there = get_or_from_slice_get list (flooded_at list place).via _ no_flooded (step-at place some there).there

  -- each polygon but the first has a link to the one behind it
  pub linked : AreLinked mesh list
  linked place some there =
      let step = step-at place some there in (
        step.earlier,
        (
          step.link,
          record {
            listed = step.listed;
            leaves = step.leaves;
            reaches = step.reaches ∙ ap (λ (e : Flooded). e.at) (sym (next-is place some there));
          },
        ),
      )

  first-is : (place : ℕ) → place ≡ 0 → flooded_at list place ≡ record { at = last; cost = 0; via = 0 }
  first-is place none = ap (flooded_at list) none ∙ get_or_from_slice_get list 0 _ no_flooded flood.begins

  -- any link to the polygon behind one enters what the flood's own does, at the same cost
  enters-same : (a b : Link) → a.to ≡ b.to → Enters mesh filter.areas a → Enters mesh filter.areas b
  enters-same a b same enters = record {
    polygon = enters.polygon;
    there = subst (λ (p : PolyRef). poly_at mesh p ≡ Some enters.polygon) same enters.there;
    area_open = enters.area_open;
  }

  weight-same : (a b : Link) → a.from ≡ b.from → a.to ≡ b.to → weight_of (priced mesh filter) a ≡ weight_of (priced mesh filter) b
  weight-same a b from to =
      λ i. option_map_or (λ (f : Polygon). option_map_or (λ (t : Polygon). step_cost (priced mesh filter).setting.costs f t) (poly_at mesh (to i)) 0)
      (poly_at mesh (from i)) 0

  -- such links are an allowed walk that costs what the flood says
  record IsWalkOf (place : ℕ) (links : List Link) : Type 0 where
    walks : WalksTo mesh (flooded_at list place).at links last
    enters : All (Enters mesh filter.areas) links
    cost : (flooded_at list place).cost ≡ cost_of (priced mesh filter) links

  walk-of : (links : List Link) (place : ℕ) → place < length list → LeadToFirst mesh list place links → IsWalkOf place links
  walk-of [] place there lead = record {
    walks = ap (λ (e : Flooded). e.at) (first-is place lead);
    enters = All-nil (Enters mesh filter.areas);
    cost = ap (λ (e : Flooded). e.cost) (first-is place lead);
  }
  walk-of (link ∷ links) place there lead =
      let step = step-at place lead.0 there in
      let between = lead.1 in
      let rest = walk-of links (flooded_at list place).via (omega (arith, step.earlier, there)) lead.2 in
      let next : flooded_at list (flooded_at list place).via ≡ step.next = next-is place lead.0 there in
      let to : step.link.to ≡ link.to = step.reaches ∙ ap (λ (e : Flooded). e.at) (sym next) ∙ sym between.reaches in
      let weight = weight-same step.link link (step.leaves ∙ sym between.leaves) to in
      record {
        walks = (between.listed, between.leaves, subst (λ (p : PolyRef). WalksTo mesh p links last) (sym between.reaches) rest.walks);
        enters = All-cons (Enters mesh filter.areas) link links (enters-same step.link link to step.enters) rest.enters;
        cost = omega (
          arith,
          step.adds_up,
          weight,
          rest.cost,
          ap (λ (e : Flooded). e.cost) next,
          sum_by-cons (weight_of (priced mesh filter)) link links,
        );
      }

  -- and no other costs less
  pub walk-cheapest : (links : List Link) (place : ℕ) (first : PolyRef) → place < length list → (flooded_at list place).at ≡ first
      → LeadToFirst mesh list place links
      → IsCheapestAllowed mesh filter first last (record { cost = (flooded_at list place).cost; links = links })
  walk-cheapest links place first there is lead =
      let walk = walk-of links place there lead in
      record {
        allowed = record { walks = subst (λ (p : PolyRef). WalksTo mesh p links last) is walk.walks; enters = walk.enters };
        cost = walk.cost;
        least = λ other allowed.
            flood.least place (flooded_at list place) other (flooded-is list place there)
            (subst (λ (p : PolyRef). AllowedTo mesh filter.areas p other last) (sym is) allowed);
      }

  -- a polygon is in it where it is read somewhere
  pub none-there : (first : PolyRef) → ((place : ℕ) → place < length list → (flooded_at list place).at ≡ first → ⊥) → IsFlooded list first → ⊥
  none-there first none found =
      none found.place (slice_get_within list found.place found.entry found.there)
      (ap (λ (e : Flooded). e.at) (get_or_from_slice_get list found.place found.entry no_flooded found.there) ∙ found.is)

module _ (mesh : Mesh) (list : List Flooded) where
  -- links lead from the polygon at a place to the one at another, each to the one behind: what is left leads on from there
  abbrev pub LeadFrom : ℕ → ℕ → List Link → Type 0
  LeadFrom place at links = (rest : List Link) → LeadToFirst mesh list at rest → LeadToFirst mesh list place (links ++ rest)

  pub lead-more : (place at : ℕ) (links : List Link) (link : Link) → 0 < at
      → IsLinkBetween mesh (flooded_at list at).at (flooded_at list (flooded_at list at).via).at link → LeadFrom place at links
      → LeadFrom place (flooded_at list at).via (links ++ link ∷ [])
  lead-more place at links link some between so rest lead =
      subst (LeadToFirst mesh list place) (sym (append_assoc links (link ∷ []) rest)) (so (link ∷ rest) (some, between, lead))
