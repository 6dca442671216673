use Rattle.std.proofs.Common.{ap, sym, ◌∙◌}
use Rattle.std.specs.Option.{option_copied}
use Rattle.path_follow.proofs.Standings.{next-goal, next-turn}
use Rattle.path_follow.proofs.lines.next_of.Goals as goal

pub returns-in-Some : goal.returns-in-Some
returns-in-Some c =
    next-turn c.args.following.now c.requires.can c.args.standing c.requires.stands c.in-Some.turn.now _ (sym c.get.ensures ∙ ap option_copied c.in-Some.is)
    (λ i. record { point = c.in-Some.turn.now.at; upto = c.max.ensures i })

pub returns-in-None : goal.returns-in-None
returns-in-None c =
    next-goal c.args.following.now c.requires.can c.args.standing c.requires.stands _ (sym c.get.ensures ∙ ap option_copied c.in-None.is)
    (λ i. record { point = c.args.following.now.goal; upto = c.len.ensures i })
