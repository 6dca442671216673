-- Agents within their limits have the sizes that a crowd asks.
use Rattle.std.proofs.Common.{ℕ, ◌≤◌, List, arith}
use Rattle.std.specs.Prelude.{All}
use Rattle.std.proofs.lemmas.List.Elements.{All-map, All-weaker}
use Rattle.crowd_moves.specs.Pairs.{HasSizes}
use Rattle.crowd_handle.specs.declared.agents.NavdAgent.{NavdAgent}
use Rattle.crowd_handle.specs.Agents.{IsAgentToldRight, agent_of, agents_of}
use Rattle.crowd_handle.specs.CrowdSteering.{full_radii}
use Rattle.crowd_handle.specs.Entering.{entering}

small : (radius full : ℕ) → radius ≤ full → full ≤ 8191 → radius ≤ 8191
small radius full h k = omega arith

pub sized : (a : NavdAgent) → IsAgentToldRight a → HasSizes (agent_of a)
sized a told = record { at = told.at; radius = small a.radius a.full told.radius told.full; speed = told.speed }

pub all_sized : (agents : List NavdAgent) → All IsAgentToldRight agents → All HasSizes (agents_of agents)
all_sized agents all = All-map HasSizes agent_of agents (All-weaker IsAgentToldRight (λ (a : NavdAgent). HasSizes (agent_of a)) sized agents all)

-- and their full radii are as large at most
pub all_full : (agents : List NavdAgent) → All IsAgentToldRight agents → All (λ (n : ℕ). n ≤ 8191) (full_radii agents)
all_full agents all =
    All-map (λ (n : ℕ). n ≤ 8191) (λ (a : NavdAgent). a.full) agents
    (All-weaker IsAgentToldRight (λ (a : NavdAgent). a.full ≤ 8191) (λ a told. told.full) agents all)

-- so does one that enters
pub entering_sized : (a : NavdAgent) (y : ℕ) → IsAgentToldRight a → HasSizes (entering a y)
entering_sized a y told = record { at = told.at; radius = small a.radius a.full told.radius told.full; speed = told.speed }
