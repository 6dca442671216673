-- Rows of portals that stand upright, one to the right of the other, and what makes them chains to pull paths through.
use Rattle.std.specs.Prelude.{◌≡◌, ℕ, ◌<◌, ◌≤◌, ℤ, pos, ◌-ℤ◌, ◌≤ℤ◌, ◌<ℤ◌, List, length, All, AllPairs}
use Rattle.mesh_types.specs.declared.links.Portal.{Portal}
use Rattle.mesh_types.specs.Chains.{IsChain}
use Rattle.funnel_path.specs.Coordinates.{HasChainCoordinates, HasEndCoordinates}
use Rattle.bench_calls.specs.declared.chain.Chain.{Chain}
use Rattle.bench_calls.specs.declared.shapes.Slope.{Slope}

-- a path can be pulled through a chain
pub record CanBePulled (chain : Chain) : Type 0 where
  pub chained : IsChain chain.start chain.portals.items chain.goal
  pub few : length chain.portals.items < 4294967295
  pub coordinates : HasChainCoordinates chain.start chain.portals.items chain.goal

-- the portal from a height down to another, so far from the left border
abbrev pub upright_at : ℕ → ℕ → ℤ → Portal
upright_at across high low =
    record {
      left = record { x = pos across -ℤ pos 65536; z = pos high };
      right = record { x = pos across -ℤ pos 65536; z = low };
    }

-- a portal stands upright between two columns: its right end is straight below the left one
pub record IsUpright (first last : ℤ) (portal : Portal) : Type 0 where
  pub from : first ≤ℤ portal.left.x
  pub to : portal.left.x ≤ℤ last
  pub straight : portal.right.x ≡ portal.left.x
  pub below : portal.right.z <ℤ portal.left.z
  pub coordinates : HasEndCoordinates portal

-- a portal does not stand to the right of another
abbrev pub IsNotRight : Portal → Portal → Type 0
IsNotRight a b = a.left.x ≤ℤ b.left.x

-- portals stand upright between two columns, in order
pub record IsRow (first last : ℤ) (portals : List Portal) : Type 0 where
  pub upright : All (IsUpright first last) portals
  pub order : AllPairs IsNotRight portals

-- a slope is one of a wall: its run is 1 to 82, and its rise at most 82
pub record IsSlope (slope : Slope) : Type 0 where
  pub some : 0 < slope.run
  pub run : slope.run ≤ 82
  pub rise : slope.rise ≤ 82
