-- Stretches: the runs of links of a hop walk, each from one point to another, and turns that are taut in each of them.
use Rattle.std.specs.Prelude.{◌≡◌, ℕ, ◌+◌, pos, List, [], ◌∷◌, ◌++◌, length, map, get_or}
use Rattle.nav_base.specs.declared.point.Point.{Point}
use Rattle.mesh_types.specs.declared.links.Link.{Link}
use Rattle.mesh_types.specs.declared.answers.Corner.{Corner}
use Rattle.mesh_types.specs.declared.answers.Jump.{Jump}
use Rattle.mesh_types.specs.declared.answers.HopStep.{HopStep}
use Rattle.mesh_types.specs.declared.answers.HopStep.TheVariants as hops
use Rattle.mesh_types.specs.Right.{portals_of}
use Rattle.mesh_types.specs.Taut.{IsTaut}

-- stands for a jump that is not there, and the jump with a number
abbrev pub some_jump : Jump
some_jump =
    let nowhere : Point = record { x = pos 0; z = pos 0 } in
    record { from = nowhere; from_y = 0; to = nowhere; to_y = 0; cost = 0 }

-- the jump with a number
abbrev pub jump_at : List Jump → ℕ → Jump
jump_at jumps number = get_or jumps number some_jump

-- a stretch: a maximal run of links, the place of the first of them among all steps, and the points that it goes from and to
pub record Stretch : Type 0 where
  pub from : Point
  pub to : Point
  pub first : ℕ
  pub links : List Link

-- the stretches of steps, where one has begun at a point and a place, with some links so far: it ends at the next jump's first point, and the
-- next one begins at that jump's landing; the last ends at the goal. There is one more than jumps, and some have no links
abbrev pub stretches_from : List Jump → Point → Point → ℕ → List Link → List HopStep → List Stretch
stretches_from jumps goal from first links [] = record { from = from; to = goal; first = first; links = links } ∷ []
stretches_from jumps goal from first links (hops.Link link ∷ steps) = stretches_from jumps goal from first (links ++ link ∷ []) steps
stretches_from jumps goal from first links (hops.Jump number to ∷ steps) =
    record { from = from; to = (jump_at jumps number).from; first = first; links = links }
    ∷ stretches_from jumps goal (jump_at jumps number).to (first + length links + 1) [] steps

-- a corner whose portal is counted from a place
abbrev pub counted_from : ℕ → Corner → Corner
counted_from by corner = record { at = corner.at; side = corner.side; portal = corner.portal + by }

-- turns of stretches, one stretch after another: those of each are the corners of a taut line through its portals, from its one point to the
-- other, and name each portal by the place of its link among all steps
abbrev pub AreTautIn : List Stretch → List Corner → Type 0
AreTautIn [] turns = turns ≡ []
AreTautIn (stretch ∷ more) turns =
    (own rest : List Corner) × (turns ≡ map (counted_from stretch.first) own ++ rest) × IsTaut stretch.from (portals_of stretch.links) stretch.to own
    × AreTautIn more rest
