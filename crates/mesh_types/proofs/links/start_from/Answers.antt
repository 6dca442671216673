use Rattle.mesh_types.specs.declared.links.Link.{Link}
use Rattle.std.proofs.Common.{pos}
use Rattle.mesh_types.proofs.Starts.{one_more_before, all_before}
use Rattle.mesh_types.proofs.links.start_from.Goals as goal

-- a link of zeros
abbrev blank : Link
blank = record {
  from = record { tile = 0; index = 0 };
  edge = 0;
  to = record { tile = 0; index = 0 };
  portal = record { left = record { x = pos 0; z = pos 0 }; right = record { x = pos 0; z = pos 0 } };
}

pub loop-start-preserved : goal.loop-start-preserved
loop-start-preserved c =
    one_more_before c.args.links.now c.args.polygon c.loop-start.start blank c.requires.order c.loop-start.invariant c.loop-start-test.true
    c.if-links-start.true

pub returns-else-links-start : goal.returns-else-links-start
returns-else-links-start c =
    all_before c.args.links.now c.args.polygon c.loop-start.start blank c.requires.order c.loop-start.invariant (λ there. c.if-links-start.false)
