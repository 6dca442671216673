-- The stretches of a hop walk, pulled one after another.
use Rattle.std.proofs.Common.{◌≡◌, ℕ, ◌+◌, ◌<◌, List, [], ◌∷◌, ◌++◌, length, map, drop, get_or, refl, sym, subst, ap, ◌∙◌, arith}
use Rattle.std.specs.Prelude.{All}
use Rattle.std.proofs.lemmas.List.{append_assoc, append-nil, drop_more, get_or_default, length-map, length_push, map-append}
use Rattle.std.proofs.lemmas.List.Elements.{All-weaker}
use Rattle.nav_base.specs.declared.point.Point.{Point}
use Rattle.mesh_types.specs.declared.answers.Corner.{Corner}
use Rattle.mesh_types.specs.declared.links.Link.{Link}
use Rattle.mesh_types.specs.declared.links.PolyRef.{PolyRef}
use Rattle.mesh_types.specs.declared.links.Portal.{Portal}
use Rattle.mesh_types.specs.declared.mesh.Mesh.{Mesh}
use Rattle.mesh_types.specs.Chains.{IsChain}
use Rattle.mesh_types.specs.Corridors.{WalksTo}
use Rattle.mesh_types.specs.Right.{portals_of}
use Rattle.mesh_types.specs.Soundness.{IsSound}
use Rattle.mesh_types.specs.Taut.{IsTaut}
use Rattle.mesh_types.specs.Bends.{some_corner}
use Rattle.mesh_types.proofs.MeshLinks.{IsHeldIn, held_in}
use Rattle.mesh_types.proofs.WalkChains.{HasEnds, held_in_coordinates, walk_is_chain, walk_ends}
use Rattle.mesh_types.proofs.WalkChains.{walk_push}
use Rattle.mesh_types.specs.declared.answers.Jump.{Jump}
use Rattle.mesh_types.specs.declared.answers.HopStep.{HopStep}
use Rattle.mesh_types.specs.declared.answers.HopStep.TheVariants as hops
use Rattle.mesh_types.specs.Hops.{HopsTo}
use Rattle.mesh_types.specs.Stretches.{AreTautIn, stretches_from, counted_from, jump_at, some_jump}
use Rattle.funnel_path.specs.Coordinates.{HasEndCoordinates, HasChainCoordinates}
use Rattle.off_links.specs.Pulling.{IsPulled}
use Rattle.std.proofs.lemmas.Option.{get_or_from_slice_get, slice_get_within}

-- the steps before a place were pulled, and the rest is still to come: a stretch has begun in a polygon at a point, with some links so far that
-- lead to another polygon; and turns of the rest complete those found so far
pub record IsPulling (mesh : Mesh) (jumps : List Jump) (start goal : Point) (last : PolyRef) (all rest : List HopStep) (place : ℕ)
    (from : Point) (first : ℕ) (portals : List Portal) (turns : List Corner) : Type 0 where
  pub begun : PolyRef
  pub reached : PolyRef
  pub links : List Link
  pub walks : WalksTo mesh begun links reached
  pub held : IsHeldIn mesh begun from
  pub hops : HopsTo mesh jumps reached rest last
  pub places : first + length links ≡ place
  pub portals_are : portals ≡ portals_of links
  pub more : (own : List Corner) → AreTautIn (stretches_from jumps goal from first links rest) own
      → AreTautIn (stretches_from jumps goal start 0 [] all) (turns ++ own)

-- corners of a taut line name portals that are there
pub counted_few : (from : Point) (portals : List Portal) (to : Point) (first : ℕ) (corners : List Corner) → first + length portals < 8000000
    → IsTaut from portals to corners → All (λ (corner : Corner). corner.portal + first < 8000000) corners
counted_few from portals to first corners few taut k d below =
    let named : (get_or corners k some_corner).portal < length portals = (taut.named k below).there in
    let same : (get_or corners k d).portal ≡ (get_or corners k some_corner).portal = ap (λ (c : Corner). c.portal) (get_or_default corners k d some_corner below) in
    omega (arith, few, named, same)

-- what is asked of the portals of a stretch
pub record ArePulled (from : Point) (portals : List Portal) (to : Point) : Type 0 where
  pub chain : IsChain from portals to
  pub coordinates : HasChainCoordinates from portals to

-- the rest at a place, by the step that stands there
pub rest_at : (steps : List HopStep) (place : ℕ) (d step : HopStep) → place < length steps → get_or steps place d ≡ step → drop place steps ≡ step ∷ drop (place + 1) steps
rest_at steps place d step there is = drop_more steps place d there ∙ ap (λ (s : HopStep). s ∷ drop (place + 1) steps) is

-- the same of what is equal
pub pulling_as : (mesh : Mesh) (jumps : List Jump) (start goal : Point) (last : PolyRef) (all rest : List HopStep) (place : ℕ)
    (from from' : Point) (first first' : ℕ) (portals portals' : List Portal) (turns turns' : List Corner)
    → from' ≡ from → first' ≡ first → portals' ≡ portals → turns' ≡ turns
    → IsPulling mesh jumps start goal last all rest place from first portals turns → IsPulling mesh jumps start goal last all rest place from' first' portals' turns'
pulling_as mesh jumps start goal last all rest place from from' first first' portals portals' turns turns' p q r s pulling =
    subst (λ (x : Point). IsPulling mesh jumps start goal last all rest place x first' portals' turns') (sym p)
    (subst (λ (n : ℕ). IsPulling mesh jumps start goal last all rest place from n portals' turns') (sym q)
    (subst (λ (ps : List Portal). IsPulling mesh jumps start goal last all rest place from first ps turns') (sym r)
    (subst (λ (cs : List Corner). IsPulling mesh jumps start goal last all rest place from first portals cs) (sym s) pulling)))

module _ (mesh : Mesh) (jumps : List Jump) (start goal : Point) (last : PolyRef) (all : List HopStep) where
  -- at the beginning
  pub pulling_begun : (first : PolyRef) → IsHeldIn mesh first start → HopsTo mesh jumps first all last → IsPulling mesh jumps start goal last all all 0 start 0 [] []
  pulling_begun first held walks = record {
    begun = first;
    reached = first;
    links = [];
    walks = refl;
    held = held;
    hops = walks;
    places = refl;
    portals_are = refl;
    more = λ own taut. taut;
  }

  module _ (place : ℕ) (from : Point) (first : ℕ) (portals : List Portal) (turns : List Corner) where
    -- a link more
    pub pulling_link : (rest : List HopStep) (link : Link) → IsPulling mesh jumps start goal last all (hops.Link link ∷ rest) place from first portals turns
        → IsPulling mesh jumps start goal last all rest (place + 1) from first (portals ++ link.portal ∷ []) turns
    pulling_link rest link pulling = record {
      begun = pulling.begun;
      reached = link.to;
      links = pulling.links ++ link ∷ [];
      walks = walk_push mesh pulling.begun pulling.links pulling.reached link pulling.walks pulling.hops.0.0 pulling.hops.0.1;
      held = pulling.held;
      hops = pulling.hops.1;
      places = omega (arith, pulling.places, length_push pulling.links link);
      portals_are =
          ap (λ (ps : List Portal). ps ++ link.portal ∷ []) pulling.portals_are ∙ sym (map-append (λ (l : Link). l.portal) pulling.links (link ∷ []));
      more = pulling.more;
    }

    -- the portals of the stretch may be pulled to a point that the polygon reached holds
    pub pulling_ready : (rest : List HopStep) (to : Point) → IsSound mesh → (pulling : IsPulling mesh jumps start goal last all rest place from first portals turns)
        → IsHeldIn mesh pulling.reached to → ArePulled from portals to
    pulling_ready rest to sound pulling held =
        subst (λ (ps : List Portal). ArePulled from ps to) (sym pulling.portals_are) (record {
          chain = walk_is_chain mesh pulling.begun pulling.links pulling.reached from to sound pulling.walks pulling.held held;
          coordinates = record {
            at_start = held_in_coordinates mesh pulling.begun from sound pulling.held;
            at_ends = All-weaker HasEnds HasEndCoordinates (λ portal ends. record { left = ends.left; right = ends.right }) (portals_of pulling.links)
                (walk_ends mesh pulling.begun pulling.links pulling.reached sound pulling.walks);
            at_goal = held_in_coordinates mesh pulling.reached to sound held;
          };
        })

    pub pulling_few : (rest : List HopStep) → IsPulling mesh jumps start goal last all rest place from first portals turns → first + length portals ≡ place
    pulling_few rest pulling =
        let count = ap (λ (ps : List Portal). length ps) pulling.portals_are in
        omega (arith, pulling.places, count, length-map pulling.links (λ (link : Link). link.portal))

    -- a jump leaves the polygon reached, and ends the stretch; the next begins where it lands
    pub jump_held : (rest : List HopStep) (number : ℕ) (to : PolyRef)
        → (pulling : IsPulling mesh jumps start goal last all (hops.Jump number to ∷ rest) place from first portals turns)
        → IsHeldIn mesh pulling.reached (jump_at jumps number).from
    jump_held rest number to pulling =
        let is = pulling.hops.0 in
        let same : jump_at jumps number ≡ is.jump = get_or_from_slice_get jumps number is.jump some_jump is.named in
        subst (λ (jump : Jump). IsHeldIn mesh pulling.reached jump.from) (sym same)
        (held_in mesh is.jump.from is.jump.from_y pulling.reached is.joined.start.holding)

    pub pulling_jump : (rest : List HopStep) (number : ℕ) (to : PolyRef) (turns' : List Corner)
        → IsPulling mesh jumps start goal last all (hops.Jump number to ∷ rest) place from first portals turns
        → IsPulled from portals (jump_at jumps number).from first turns turns'
        → IsPulling mesh jumps start goal last all rest (place + 1) (jump_at jumps number).to (place + 1) [] turns'
    pulling_jump rest number to turns' pulling pulled = record {
      begun = to;
      reached = to;
      links = [];
      walks = refl;
      held =
          let is = pulling.hops.0 in
          let same : jump_at jumps number ≡ is.jump = get_or_from_slice_get jumps number is.jump some_jump is.named in
          subst (λ (jump : Jump). IsHeldIn mesh to jump.to) (sym same) (held_in mesh is.jump.to is.jump.to_y to is.joined.landing.holding);
      hops = pulling.hops.1;
      places = omega arith;
      portals_are = refl;
      more = more';
    }
      where
        own' : List Corner
        own' = map (counted_from first) pulled.own

        more' : (own : List Corner) → AreTautIn (stretches_from jumps goal (jump_at jumps number).to (place + 1) [] rest) own
            → AreTautIn (stretches_from jumps goal start 0 [] all) (turns' ++ own)
        more' own taut =
            let next : place + 1 ≡ first + length pulling.links + 1 = omega (arith, pulling.places) in
            let taut' = subst (λ (n : ℕ). AreTautIn (stretches_from jumps goal (jump_at jumps number).to n [] rest) own) next taut in
            let line = subst (λ (ps : List Portal). IsTaut from ps (jump_at jumps number).from pulled.own) pulling.portals_are pulled.taut in
            let both : turns ++ (own' ++ own) ≡ turns' ++ own =
            sym (append_assoc turns own' own) ∙ ap (λ (cs : List Corner). cs ++ own) (sym pulled.appended) in
            subst (AreTautIn (stretches_from jumps goal start 0 [] all)) both (pulling.more (own' ++ own) (pulled.own, own, refl, line, taut'))

    -- the same as the code has its jumps and its portals: the stretch may be pulled, and then the next has begun
    pub jump_there : (rest : List HopStep) (number : ℕ) (to : PolyRef)
        → IsPulling mesh jumps start goal last all (hops.Jump number to ∷ rest) place from first portals turns → number < length jumps
    jump_there rest number to pulling = slice_get_within jumps number pulling.hops.0.jump pulling.hops.0.named

    pub jump_ready : (rest : List HopStep) (number : ℕ) (to : PolyRef) (jumps' : List Jump) (portals' : List Portal) → IsSound mesh → jumps' ≡ jumps → portals' ≡ portals
        → IsPulling mesh jumps start goal last all (hops.Jump number to ∷ rest) place from first portals turns
        → ArePulled from portals' (jump_at jumps' number).from
    jump_ready rest number to jumps' portals' sound same same' pulling =
        subst (λ (js : List Jump). ArePulled from portals' (jump_at js number).from) (sym same)
        (subst (λ (ps : List Portal). ArePulled from ps (jump_at jumps number).from) (sym same')
        (pulling_ready (hops.Jump number to ∷ rest) (jump_at jumps number).from sound pulling (jump_held rest number to pulling)))

    pub jump_done : (rest : List HopStep) (number : ℕ) (to : PolyRef) (jumps' : List Jump) (portals' : List Portal) (turns' : List Corner) → jumps' ≡ jumps
        → portals' ≡ portals → IsPulling mesh jumps start goal last all (hops.Jump number to ∷ rest) place from first portals turns
        → IsPulled from portals' (jump_at jumps' number).from first turns turns'
        → IsPulling mesh jumps start goal last all rest (place + 1) (jump_at jumps' number).to (place + 1) [] turns'
    jump_done rest number to jumps' portals' turns' same same' pulling pulled =
        subst (λ (js : List Jump). IsPulling mesh jumps start goal last all rest (place + 1) (jump_at js number).to (place + 1) [] turns') (sym same)
        (pulling_jump rest number to turns' pulling
        (subst (λ (js : List Jump). IsPulled from portals (jump_at js number).from first turns turns') same
        (subst (λ (ps : List Portal). IsPulled from ps (jump_at jumps' number).from first turns turns') same' pulled)))

    -- at the end the polygon reached is the last
    pub goal_held : (pulling : IsPulling mesh jumps start goal last all [] place from first portals turns) → IsHeldIn mesh last goal → IsHeldIn mesh pulling.reached goal
    goal_held pulling held = subst (λ (at : PolyRef). IsHeldIn mesh at goal) (sym pulling.hops) held

    pub goal_ready : (portals' : List Portal) → IsSound mesh → portals' ≡ portals → IsHeldIn mesh last goal
        → IsPulling mesh jumps start goal last all [] place from first portals turns → ArePulled from portals' goal
    goal_ready portals' sound same held pulling =
        subst (λ (ps : List Portal). ArePulled from ps goal) (sym same) (pulling_ready [] goal sound pulling (goal_held pulling held))

    -- at the end the last stretch is pulled to the goal
    pub pulling_done : (turns' : List Corner) → IsPulling mesh jumps start goal last all [] place from first portals turns
        → IsPulled from portals goal first turns turns' → AreTautIn (stretches_from jumps goal start 0 [] all) turns'
    pulling_done turns' pulling pulled =
        let own : List Corner = map (counted_from first) pulled.own in
        let line = subst (λ (ps : List Portal). IsTaut from ps goal pulled.own) pulling.portals_are pulled.taut in
        subst (AreTautIn (stretches_from jumps goal start 0 [] all)) (sym pulled.appended)
        (pulling.more own (pulled.own, [], sym (append-nil own), line, refl))
