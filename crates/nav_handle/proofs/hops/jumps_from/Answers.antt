use Rattle.std.proofs.Common.{◌++◌, ◌∷◌, [], ap, ◌∙◌, sym, map}
use Rattle.std.proofs.lemmas.List.{map_more, take_all}
use Rattle.nav_handle.specs.Hopping.{jump_of}
use Rattle.nav_handle.proofs.JumpLaws.{no_jump}
use Rattle.nav_handle.proofs.hops.jumps_from.Goals as goal

pub loop-jump-preserved : goal.loop-jump-preserved
loop-jump-preserved c =
    c.in_ok-push.ensures.items ∙ (λ i. c.loop-jump.invariant i ++ c.jump_of.ensures i ∷ [])
    ∙ sym (map_more jump_of c.args.jumps.now c.loop-jump.jump-index no_jump c.loop-jump-test.true)

pub returns : goal.returns
returns c = c.from_vec.ensures ∙ c.loop-jump.invariant ∙ ap (map jump_of) (take_all c.loop-jump.jump-index c.args.jumps.now c.loop-jump-test.false)
