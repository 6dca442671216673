use Rattle.nav_gen.proofs.RoundTexts.{add_written}
use Rattle.nav_gen.proofs.script.push_add.Goals as goal

pub returns-clause-text : goal.returns-clause-text
returns-clause-text c =
    add_written _ _ _ c.args.draws.now c.args.size _ _ _ _ _ c.next.ensures.value c.next.ensures.state c.next-2.ensures.value c.next-2.ensures.state
    c.next-r.ensures.value c.push_line.ensures
