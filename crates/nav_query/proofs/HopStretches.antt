-- Each stretch of a cheapest hop walk is a cheapest walk over links, so what holds of these holds of the stretches.
use Rattle.std.proofs.Common.{◌≡◌, ℕ, ◌+◌, ◌≤◌, List, [], ◌∷◌, ◌++◌, length, map, refl, sym, subst, ap, ◌∙◌, arith, append_assoc}
use Rattle.std.specs.Prelude.{All}
use Rattle.std.proofs.lemmas.List.{map-append}
use Rattle.std.proofs.lemmas.List.Elements.{All-cons, All-nil}
use Rattle.std.proofs.lemmas.List.Sums.{sum_by-append, sum_by-cons}
use Rattle.nav_base.specs.declared.point.Point.{Point}
use Rattle.nav_ground.specs.declared.history.Entry.{Entry}
use Rattle.nav_ground.specs.declared.history.Ground.{Ground}
use Rattle.nav_ground.specs.Grounds.{IsGround}
use Rattle.nav_ground.specs.History.{IsRequest}
use Rattle.mesh_types.specs.declared.answers.Corridor.{Corridor}
use Rattle.mesh_types.specs.declared.answers.HopAnswer.{HopAnswer}
use Rattle.mesh_types.specs.declared.answers.HopAnswer.TheVariants.{Found, NoStart, NoGoal, NoPath}
use Rattle.mesh_types.specs.declared.answers.HopStep.{HopStep}
use Rattle.mesh_types.specs.declared.answers.HopStep.TheVariants as hops
use Rattle.mesh_types.specs.declared.answers.Jump.{Jump}
use Rattle.mesh_types.specs.declared.links.Link.{Link}
use Rattle.mesh_types.specs.declared.links.PolyRef.{PolyRef}
use Rattle.mesh_types.specs.declared.mesh.Mesh.{Mesh}
use Rattle.mesh_types.specs.Builds.{build_of}
use Rattle.mesh_types.specs.Corridors.{IsCheapest, WalksTo, cost_of, weight_of}
use Rattle.mesh_types.specs.Folds.{IsUnfolded}
use Rattle.mesh_types.specs.Hops.{HopsTo, IsHopRight, entered, hop_cost, step_weight}
use Rattle.mesh_types.specs.Right.{portals_of}
use Rattle.mesh_types.specs.Stretches.{Stretch, jump_at, stretches_from}
use Rattle.mesh_types.proofs.WalkChains.{walk_push}
use Rattle.nav_query.specs.Laws.{HasUnfoldedStretches}
use Rattle.nav_query.proofs.UnfoldedBuilds.{unfolded_of_build}

module _ (mesh : Mesh) (jumps : List Jump) where
  -- one hop walk and then another, and what both cost
  hops_append : (from at to : PolyRef) (steps more : List HopStep) → HopsTo mesh jumps from steps at → HopsTo mesh jumps at more to
      → HopsTo mesh jumps from (steps ++ more) to
  hops_append from at to [] more walk walk' = subst (λ (p : PolyRef). HopsTo mesh jumps p more to) (sym walk) walk'
  hops_append from at to (step ∷ steps) more walk walk' = (walk.0, hops_append (entered step) at to steps more walk.1 walk')

  cost_append : (steps more : List HopStep) → hop_cost mesh jumps (steps ++ more) ≡ hop_cost mesh jumps steps + hop_cost mesh jumps more
  cost_append steps more = sum_by-append (step_weight mesh jumps) steps more

  -- a walk over links is a hop walk, of the same cost
  hops_of_links : (from to : PolyRef) (links : List Link) → WalksTo mesh from links to → HopsTo mesh jumps from (map hops.Link links) to
  hops_of_links from to [] walk = walk
  hops_of_links from to (link ∷ links) walk = ((walk.0, walk.1), hops_of_links link.to to links walk.2)

  cost_of_links : (links : List Link) → hop_cost mesh jumps (map hops.Link links) ≡ cost_of mesh links
  cost_of_links [] = refl
  cost_of_links (link ∷ links) = omega (
    arith,
    cost_of_links links,
    sum_by-cons (step_weight mesh jumps) (hops.Link link) (map hops.Link links),
    sum_by-cons (weight_of mesh) link links,
  )

  -- a hop walk than which none costs less
  record IsLeastHops (from to : PolyRef) (steps : List HopStep) : Type 0 where
    walks : HopsTo mesh jumps from steps to
    least : (others : List HopStep) → HopsTo mesh jumps from others to → hop_cost mesh jumps steps ≤ hop_cost mesh jumps others

  -- so is what is left of it behind some steps
  least_behind : (from at to : PolyRef) (steps more : List HopStep) → HopsTo mesh jumps from steps at → HopsTo mesh jumps at more to
      → IsLeastHops from to (steps ++ more) → IsLeastHops at to more
  least_behind from at to steps more walk walk' least = record {
    walks = walk';
    least = λ others other. omega (
      arith,
      least.least (steps ++ others) (hops_append from at to steps others walk other),
      cost_append steps more,
      cost_append steps others,
    );
  }

  -- and the links at its front are a cheapest walk
  cheapest_front : (from at to : PolyRef) (links : List Link) (more : List HopStep) → WalksTo mesh from links at → HopsTo mesh jumps at more to
      → IsLeastHops from to (map hops.Link links ++ more) → IsCheapest mesh from at (record { cost = cost_of mesh links; links = links })
  cheapest_front from at to links more walk walk' least = record {
    walks = walk;
    cost = refl;
    least = λ others other. omega (
      arith,
      least.least (map hops.Link others ++ more) (hops_append from at to (map hops.Link others) more (hops_of_links from at others other) walk'),
      cost_append (map hops.Link links) more,
      cost_append (map hops.Link others) more,
      cost_of_links links,
      cost_of_links others,
    );
  }

  -- what holds of all cheapest walks holds of the stretches of a cheapest hop walk: of the one that has begun, and of those to come
  module _ (P : List Link → Type 0) (law : (from to : PolyRef) (corridor : Corridor) → IsCheapest mesh from to corridor → P corridor.links)
      (goal : Point) (last : PolyRef) where
    stretches_keep : (rest : List HopStep) (begun reached : PolyRef) (links : List Link) (from : Point) (first : ℕ) → WalksTo mesh begun links reached
        → HopsTo mesh jumps reached rest last → IsLeastHops begun last (map hops.Link links ++ rest)
        → All (λ (stretch : Stretch). P stretch.links) (stretches_from jumps goal from first links rest)
    stretches_keep [] begun reached links from first walk walk' least =
        All-cons (λ (stretch : Stretch). P stretch.links) (record { from = from; to = goal; first = first; links = links }) []
        (law begun reached (record { cost = cost_of mesh links; links = links }) (cheapest_front begun reached last links [] walk walk' least))
        (All-nil (λ (stretch : Stretch). P stretch.links))
    stretches_keep (hops.Link link ∷ rest) begun reached links from first walk walk' least =
        let steps : map hops.Link (links ++ link ∷ []) ++ rest ≡ map hops.Link links ++ (hops.Link link ∷ rest) =
        ap (λ (front : List HopStep). front ++ rest) (map-append hops.Link links (link ∷ []))
        ∙ append_assoc (map hops.Link links) (hops.Link link ∷ []) rest in
        stretches_keep rest begun link.to (links ++ link ∷ []) from first (walk_push mesh begun links reached link walk walk'.0.0 walk'.0.1) walk'.1
        (subst (IsLeastHops begun last) (sym steps) least)
    stretches_keep (hops.Jump number to ∷ rest) begun reached links from first walk walk' least =
        let behind : IsLeastHops reached last (hops.Jump number to ∷ rest) =
        least_behind begun reached last (map hops.Link links) (hops.Jump number to ∷ rest) (hops_of_links begun reached links walk) walk' least in
        All-cons (λ (stretch : Stretch). P stretch.links) (record { from = from; to = (jump_at jumps number).from; first = first; links = links })
        (stretches_from jumps goal (jump_at jumps number).to (first + length links + 1) [] rest)
        (law begun reached (record { cost = cost_of mesh links; links = links })
        (cheapest_front begun reached last links (hops.Jump number to ∷ rest) walk walk' least))
        (stretches_keep rest to to [] (jump_at jumps number).to (first + length links + 1) refl walk'.1
        (least_behind reached to last (hops.Jump number to ∷ []) rest (walk'.0, refl) walk'.1 behind))

-- so the stretches of each right hop answer in a build are unfolded
pub unfolded_hop : (ground : Ground) (history : List Entry) (k : ℕ) → IsGround ground → All (λ (entry : Entry). IsRequest entry.request) history
    → (jumps : List Jump) (from : Point) (from_y : ℕ) (to : Point) (to_y : ℕ) (answer : HopAnswer)
    → IsHopRight (build_of ground history k) jumps from from_y to to_y answer → HasUnfoldedStretches jumps from to answer
unfolded_hop ground history k rules' requests jumps from from_y to to_y NoStart right = tt
unfolded_hop ground history k rules' requests jumps from from_y to to_y NoGoal right = tt
unfolded_hop ground history k rules' requests jumps from from_y to to_y NoPath right = tt
unfolded_hop ground history k rules' requests jumps from from_y to to_y (Found found) right =
    let mesh : Mesh = build_of ground history k in
    stretches_keep mesh jumps (λ (links : List Link). IsUnfolded (portals_of links))
    (λ first last corridor cheapest. unfolded_of_build ground history k first last corridor rules' requests cheapest) to right.last found.steps
    found.first found.first [] from 0 refl right.walks
    (record { walks = right.walks; least = λ others other. omega (arith, right.least others other, right.cost) })
