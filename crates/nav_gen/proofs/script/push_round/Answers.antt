use Rattle.nav_gen.proofs.RoundTexts.{round_written}
use Rattle.nav_gen.proofs.script.push_round.Goals as goal

pub returns-clause-text : goal.returns-clause-text
returns-clause-text c =
    round_written _ _ _ _ _ _ c.args.draws.now _ c.args.size c.args.before c.in_ok-push_add.ensures.text c.in_ok-push_drop.ensures c.in_ok-push_builds.ensures
    c.in_ok-push_add.ensures.state c.push_path.ensures.text
