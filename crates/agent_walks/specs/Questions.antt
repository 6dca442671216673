-- Questions: the two questions about walkers, as ones that carry how they are answered.
use Rattle.nav_base.specs.Point.{HasCoordinates}
use Rattle.mesh_types.specs.declared.mesh.Mesh.{Mesh}
use Rattle.mesh_types.specs.declared.answers.WalkAnswer.{WalkAnswer}
use Rattle.agent_walks.specs.declared.eyes.Marching.{Marching}
use Rattle.agent_walks.specs.declared.eyes.Sending.{Sending}
use Rattle.agent_walks.specs.Marches.{IsMarched, IsSent}
use Rattle.agent_walks.specs.Walkers.{IsUnderWay}

-- each can be asked where both of its points have coordinates
abbrev pub CanSend : Sending → Type 0
CanSend sending = HasCoordinates sending.from.point × HasCoordinates sending.goal.point

abbrev pub CanMarch : Marching → Type 0
CanMarch marching = HasCoordinates marching.from.point × HasCoordinates marching.goal.point

-- an answer is right where it is one to the send or to the march, and where it places a walker, that is on its way to the goal
abbrev pub IsRightSent : Sending → Mesh → WalkAnswer → Type 0
IsRightSent sending mesh answer =
    IsSent mesh sending.from.point sending.from.y sending.goal.point sending.goal.y answer
    × IsUnderWay mesh sending.goal.point sending.goal.y answer

abbrev pub IsRightMarched : Marching → Mesh → WalkAnswer → Type 0
IsRightMarched marching mesh answer =
    IsMarched mesh marching.from.point marching.from.y marching.goal.point marching.goal.y marching.length answer
    × IsUnderWay mesh marching.goal.point marching.goal.y answer
