use Rattle.std.proofs.lemmas.Option.{slice_get-get_or}
use Rattle.std.proofs.lemmas.Result.{on_ok_weaker}
use Rattle.crowd_moves.proofs.FindingLaws.{all_of_rows}
use Rattle.crowd_moves.proofs.StepLaws.{no_agent}
use Rattle.crowd_moves.proofs.contacts.push_near.Goals as goal

pub returns : goal.returns
returns c =
    on_ok_weaker c.push_cells-3.result
    (all_of_rows c.args.agents.now c.args.i c.args.side c.args.entries.now c.cell-own.result _ c.args.others.now.items c.push_cells.new.others.items
    c.push_cells-2.new.others.items c.push_cells-3.new.others.items c.requires.entries c.requires.side c.requires.sizes
    (slice_get-get_or c.args.agents.now c.args.i no_agent c.requires.there) c.cell-own.ensures.value c.in_ok-push_cells.ensures c.in_ok-push_cells-2.ensures)
    c.push_cells-3.ensures
