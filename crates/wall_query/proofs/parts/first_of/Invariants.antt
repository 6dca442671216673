use Rattle.std.proofs.Common.{take}
use Rattle.std.specs.Prelude.{Contains}
use Rattle.wall_query.specs.Parts.{IsBeyond, IsFirstAmong}
use Rattle.wall_query.proofs.parts.first_of.Given as goal

-- the first of the links so far
abbrev pub invariant-loop-link : goal.invariant-loop-link
invariant-loop-link l = IsFirstAmong (λ link. Contains (take l.link-index l.links) link × IsBeyond l.mesh l.areas l.edge l.from link) l.edge l.first
