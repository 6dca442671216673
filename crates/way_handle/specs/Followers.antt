-- Followers over the border: which question is asked where a walker on a kept path is, and what is told of its answer.
use Rattle.std.specs.Prelude.{ℕ, List}
use Rattle.path_follow.specs.declared.following.FollowAnswer.{FollowAnswer}
use Rattle.path_follow.specs.declared.following.FollowAnswer.TheVariants.{Walking, Cut, NoStart}
use Rattle.path_follow.specs.declared.following.Following.{Following}
use Rattle.nav_handle.specs.declared.wire.NavdLink.{NavdLink}
use Rattle.nav_handle.specs.declared.wire.NavdTurn.{NavdTurn}
use Rattle.nav_handle.specs.Statuses as status
use Rattle.nav_handle.specs.Wire.{point_of, point_told, polygon_told}
use Rattle.way_handle.specs.declared.followers.NavdFollower.{NavdFollower}
use Rattle.way_handle.specs.Reading.{links_of, polygon_of, turns_of}

-- the walker: its line, the links and turns of the host's arrays, how far it has gone, and which links are looked at
abbrev pub follow_asked : NavdFollower → List NavdLink → List NavdTurn → Following
follow_asked follower links turns = record {
  first = polygon_of follower.first;
  from = point_of follower.from;
  goal = point_of follower.goal;
  links = links_of links;
  turns = turns_of turns;
  far = follower.far;
  link = follower.link;
  ahead = follower.ahead;
}

-- how the question ends with an answer
abbrev pub follow_ends : FollowAnswer → ℕ
follow_ends (Walking at point y link) = status.ok
follow_ends (Cut link) = status.cut
follow_ends NoStart = status.no_start

-- where it is, or which link leads on no more, is told in the host's place; else nothing
abbrev pub told_follow : FollowAnswer → NavdFollower → NavdFollower
told_follow (Walking at point y link) follower =
    record follower { polygon = polygon_told at; at = point_told point; y = y; link = link }
told_follow (Cut link) follower = record follower { link = link }
told_follow NoStart follower = follower
