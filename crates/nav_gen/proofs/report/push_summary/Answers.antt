use Rattle.nav_gen.proofs.Gathered.{six_pieces}
use Rattle.nav_gen.proofs.report.push_summary.Goals as goal

pub returns : goal.returns
returns c =
    six_pieces c.push_line-3.result c.args.out.now.items _ _ _ _ _ _ _ _ _ _ _ c.push_line-3.new.out.items
    c.in_ok-push_line.ensures c.in_ok-push_line-2.ensures c.in_ok-push_history.ensures c.in_ok-push_questions.ensures c.in_ok-push_cost.ensures c.push_line-3.ensures
