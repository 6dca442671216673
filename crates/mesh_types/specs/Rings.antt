-- Rings: unit edges that run once round, from corner to corner.
use Rattle.std.specs.Prelude.{◌≡◌, ℕ, ◌-◌, ◌==◌, if◌then◌else◌, List, ◌++◌, map, take, drop, All}
use Rattle.std.specs.List.{AllPairs}
use Rattle.nav_base.specs.declared.point.Point.{Point}
use Rattle.nav_base.specs.Point.{IsCellCorner}
use Rattle.mesh_types.specs.declared.region.UnitEdge.{UnitEdge}

-- the corners at which the edges begin
abbrev pub beginnings : List UnitEdge → List Point
beginnings edges = map (λ (edge : UnitEdge). edge.from) edges

-- the corners at which the edges end
abbrev pub endings : List UnitEdge → List Point
endings edges = map (λ (edge : UnitEdge). edge.to) edges

-- the place before another on the way round
abbrev pub place_before : ℕ → ℕ → ℕ
place_before count place = if place == 0 then count - 1 else place - 1

-- each edge ends where the next begins, and the last where the first begins
abbrev pub IsClosed : List UnitEdge → Type 0
IsClosed edges = endings edges ≡ drop 1 (beginnings edges) ++ take 1 (beginnings edges)

-- two corners are different points
abbrev pub AreApart : Point → Point → Type 0
AreApart a b = a ≡ b → ⊥

-- a ring is closed; no corner begins two edges, and no edge ends where it begins
pub record IsRing (edges : List UnitEdge) : Type 0 where
  pub closed : IsClosed edges
  pub apart : AllPairs AreApart (beginnings edges)
  pub moving : All (λ (edge : UnitEdge). AreApart edge.from edge.to) edges
  pub inside : All IsCellCorner (beginnings edges)
