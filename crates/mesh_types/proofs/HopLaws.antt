-- What is right for the question for a hop walk is determined: its kind, its first polygon and its cost. Without jumps they are those of a path.
use Rattle.std.proofs.Common.{◌≡◌, ℕ, List, [], ◌∷◌, map, refl, sym, subst, arith}
use Rattle.std.proofs.lemmas.List.Sums.{sum_by-cons}
use Rattle.std.proofs.lemmas.Option.{slice_get_within}
use Rattle.nav_base.specs.declared.point.Point.{Point}
use Rattle.mesh_types.specs.declared.answers.Answer.{Answer}
use Rattle.mesh_types.specs.declared.answers.Answer.TheVariants as paths
use Rattle.mesh_types.specs.declared.answers.PathFound.{PathFound}
use Rattle.mesh_types.specs.declared.answers.Jump.{Jump}
use Rattle.mesh_types.specs.declared.answers.HopStep.{HopStep}
use Rattle.mesh_types.specs.declared.answers.HopStep.TheVariants as hops
use Rattle.mesh_types.specs.declared.answers.HopFound.{HopFound}
use Rattle.mesh_types.specs.declared.answers.HopAnswer.{HopAnswer}
use Rattle.mesh_types.specs.declared.answers.HopAnswer.TheVariants.{Found, NoStart, NoGoal, NoPath}
use Rattle.mesh_types.specs.declared.links.Link.{Link}
use Rattle.mesh_types.specs.declared.links.PolyRef.{PolyRef}
use Rattle.mesh_types.specs.declared.mesh.Mesh.{Mesh}
use Rattle.mesh_types.specs.Corridors.{weight_of, WalksTo, cost_of}
use Rattle.mesh_types.specs.Hops.{HopsTo, step_weight, hop_cost, HasNoHop, IsHop, IsHopRight, AreAlikeHops, IsAsPath}
use Rattle.mesh_types.specs.Right.{HasNoPath, IsPath, IsRightPath}
use Rattle.mesh_types.proofs.RightLaws.{one_located}

module _ (mesh : Mesh) (from : Point) (from_y : ℕ) (to : Point) (to_y : ℕ) where
  -- two answers that were found
  both_hops : (jumps : List Jump) (a b : HopFound) → IsHop mesh jumps from from_y to to_y a → IsHop mesh jumps from from_y to to_y b
      → (a.first ≡ b.first) × (a.cost ≡ b.cost)
  both_hops jumps a b is is' =
      let first = one_located mesh from from_y a.first b.first is.start is'.start in
      let last = one_located mesh to to_y is.last is'.last is.goal is'.goal in
      let walk = subst (λ (at : PolyRef). HopsTo mesh jumps at a.steps is'.last) first (subst (HopsTo mesh jumps a.first a.steps) last is.walks) in
      let walk' = subst (λ (at : PolyRef). HopsTo mesh jumps at b.steps is.last) (sym first) (subst (HopsTo mesh jumps b.first b.steps) (sym last) is'.walks) in
      (first, omega (arith, is.least b.steps walk', is'.least a.steps walk, is.cost, is'.cost))

  -- where no walk joins the two places, none was found
  no_hop_there : (jumps : List Jump) (found : HopFound) → HasNoHop mesh jumps from from_y to to_y → IsHop mesh jumps from from_y to to_y found → ⊥
  no_hop_there jumps found none is =
      let first = one_located mesh from from_y found.first none.first is.start none.start in
      let last = one_located mesh to to_y is.last none.last is.goal none.goal in
      none.no_walk found.steps (subst (λ (at : PolyRef). HopsTo mesh jumps at found.steps none.last) first
      (subst (HopsTo mesh jumps found.first found.steps) last is.walks))

  -- right answers to one question are alike
  pub alike_hops : (jumps : List Jump) (a b : HopAnswer) → IsHopRight mesh jumps from from_y to to_y a → IsHopRight mesh jumps from from_y to to_y b
      → AreAlikeHops a b
  alike_hops jumps NoStart NoStart r s = tt
  alike_hops jumps NoStart NoGoal r s = absurd (r s.first s.start.holding)
  alike_hops jumps NoStart NoPath r s = absurd (r s.first s.start.holding)
  alike_hops jumps NoStart (Found g) r s = absurd (r g.first s.start.holding)
  alike_hops jumps NoGoal NoStart r s = absurd (s r.first r.start.holding)
  alike_hops jumps NoGoal NoGoal r s = tt
  alike_hops jumps NoGoal NoPath r s = absurd (r.no_goal s.last s.goal.holding)
  alike_hops jumps NoGoal (Found g) r s = absurd (r.no_goal s.last s.goal.holding)
  alike_hops jumps NoPath NoStart r s = absurd (s r.first r.start.holding)
  alike_hops jumps NoPath NoGoal r s = absurd (s.no_goal r.last r.goal.holding)
  alike_hops jumps NoPath NoPath r s = tt
  alike_hops jumps NoPath (Found g) r s = absurd (no_hop_there jumps g r s)
  alike_hops jumps (Found f) NoStart r s = absurd (s f.first r.start.holding)
  alike_hops jumps (Found f) NoGoal r s = absurd (s.no_goal r.last r.goal.holding)
  alike_hops jumps (Found f) NoPath r s = absurd (no_hop_there jumps f s r)
  alike_hops jumps (Found f) (Found g) r s = both_hops jumps f g r s

-- ---- without jumps

-- a hop walk without jumps is a walk over links of the same cost, and the other way round
hops_are_links : (mesh : Mesh) (from : PolyRef) (steps : List HopStep) (to : PolyRef) → HopsTo mesh [] from steps to
    → (links : List Link) × WalksTo mesh from links to × (hop_cost mesh [] steps ≡ cost_of mesh links)
hops_are_links mesh from [] to walk = ([], walk, refl)
hops_are_links mesh from (hops.Link link ∷ steps) to walk =
    let rest = hops_are_links mesh link.to steps to walk.1 in (
      link ∷ rest.0,
      (walk.0.0, walk.0.1, rest.1),
      omega (arith, rest.2, sum_by-cons (step_weight mesh []) (hops.Link link) steps, sum_by-cons (weight_of mesh) link rest.0),
    )
hops_are_links mesh from (hops.Jump number at ∷ steps) to walk = absurd (omega (arith, slice_get_within [] number walk.0.jump walk.0.named))

links_are_hops : (mesh : Mesh) (from : PolyRef) (links : List Link) (to : PolyRef) → WalksTo mesh from links to
    → HopsTo mesh [] from (map hops.Link links) to × (hop_cost mesh [] (map hops.Link links) ≡ cost_of mesh links)
links_are_hops mesh from [] to walk = (walk, refl)
links_are_hops mesh from (link ∷ links) to walk =
    let rest = links_are_hops mesh link.to links to walk.2 in (
      ((walk.0, walk.1), rest.0),
      omega (arith, rest.1, sum_by-cons (step_weight mesh []) (hops.Link link) (map hops.Link links), sum_by-cons (weight_of mesh) link links),
    )

module _ (mesh : Mesh) (from : Point) (from_y : ℕ) (to : Point) (to_y : ℕ) where
  -- what was found costs what a path does
  hop_and_path : (f : HopFound) (g : PathFound) → IsHop mesh [] from from_y to to_y f → IsPath mesh from from_y to to_y g → (f.first ≡ g.first) × (f.cost ≡ g.cost)
  hop_and_path f g is is' =
      let first = one_located mesh from from_y f.first g.first is.start is'.start in
      let last = one_located mesh to to_y is.last is'.last is.goal is'.goal in
      let links = hops_are_links mesh f.first f.steps is.last is.walks in
      let walk = subst (λ (at : PolyRef). WalksTo mesh at links.0 is'.last) first (subst (WalksTo mesh f.first links.0) last links.1) in
      let steps = links_are_hops mesh g.first g.links is'.last is'.cheapest.walks in
      let walk' = subst (λ (at : PolyRef). HopsTo mesh [] at (map hops.Link g.links) is.last) (sym first)
      (subst (HopsTo mesh [] g.first (map hops.Link g.links)) (sym last) steps.0) in
      let no_more = is.least (map hops.Link g.links) walk' in
      let no_less = is'.cheapest.least links.0 walk in
      (first, omega (arith, no_more, no_less, steps.1, links.2, is.cost, is'.cheapest.cost))

  -- none was found where there is a path, and the other way round
  no_hop_no_path : (g : PathFound) → HasNoHop mesh [] from from_y to to_y → IsPath mesh from from_y to to_y g → ⊥
  no_hop_no_path g none is =
      let first = one_located mesh from from_y g.first none.first is.start none.start in
      let last = one_located mesh to to_y is.last none.last is.goal none.goal in
      let steps = links_are_hops mesh g.first g.links is.last is.cheapest.walks in
      none.no_walk (map hops.Link g.links) (subst (λ (at : PolyRef). HopsTo mesh [] at (map hops.Link g.links) none.last) first
      (subst (HopsTo mesh [] g.first (map hops.Link g.links)) last steps.0))

  no_path_no_hop : (f : HopFound) → IsHop mesh [] from from_y to to_y f → HasNoPath mesh from from_y to to_y → ⊥
  no_path_no_hop f is none =
      let first = one_located mesh from from_y f.first none.first is.start none.start in
      let last = one_located mesh to to_y is.last none.last is.goal none.goal in
      let links = hops_are_links mesh f.first f.steps is.last is.walks in
      none.no_walk links.0 (subst (λ (at : PolyRef). WalksTo mesh at links.0 none.last) first (subst (WalksTo mesh f.first links.0) last links.1))

  -- without jumps a right answer is like the right answers to the question for a path
  pub as_path : (a : HopAnswer) (b : Answer) → IsHopRight mesh [] from from_y to to_y a → IsRightPath mesh from from_y to to_y b → IsAsPath a b
  as_path NoStart paths.NoStart r s = tt
  as_path NoStart paths.NoGoal r s = absurd (r s.first s.start.holding)
  as_path NoStart paths.NoPath r s = absurd (r s.first s.start.holding)
  as_path NoStart (paths.Path g) r s = absurd (r g.first s.start.holding)
  as_path NoStart (paths.Floors floors) r s = absurd s
  as_path NoStart (paths.Reached at) r s = absurd s
  as_path NoStart (paths.Wall u v m n) r s = absurd s
  as_path NoGoal paths.NoStart r s = absurd (s r.first r.start.holding)
  as_path NoGoal paths.NoGoal r s = tt
  as_path NoGoal paths.NoPath r s = absurd (r.no_goal s.last s.goal.holding)
  as_path NoGoal (paths.Path g) r s = absurd (r.no_goal s.last s.goal.holding)
  as_path NoGoal (paths.Floors floors) r s = absurd s
  as_path NoGoal (paths.Reached at) r s = absurd s
  as_path NoGoal (paths.Wall u v m n) r s = absurd s
  as_path NoPath paths.NoStart r s = absurd (s r.first r.start.holding)
  as_path NoPath paths.NoGoal r s = absurd (s.no_goal r.last r.goal.holding)
  as_path NoPath paths.NoPath r s = tt
  as_path NoPath (paths.Path g) r s = absurd (no_hop_no_path g r s)
  as_path NoPath (paths.Floors floors) r s = absurd s
  as_path NoPath (paths.Reached at) r s = absurd s
  as_path NoPath (paths.Wall u v m n) r s = absurd s
  as_path (Found f) paths.NoStart r s = absurd (s f.first r.start.holding)
  as_path (Found f) paths.NoGoal r s = absurd (s.no_goal r.last r.goal.holding)
  as_path (Found f) paths.NoPath r s = absurd (no_path_no_hop f r s)
  as_path (Found f) (paths.Path g) r s = hop_and_path f g r s
  as_path (Found f) (paths.Floors floors) r s = absurd s
  as_path (Found f) (paths.Reached at) r s = absurd s
  as_path (Found f) (paths.Wall u v m n) r s = absurd s
