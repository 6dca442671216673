use Rattle.kinds_handle.proofs.AllShown.{all_by_first}
use Rattle.kinds_handle.proofs.renewal.are_all_shown.Goals as goal

pub returns : goal.returns
returns c =
    all_by_first c.args.held.now c.first_level-first.result.now c.first_level-first.ensures.rules c.first_level-first.ensures.value c.published.result c.length.result
    c.published.ensures.value c.length.ensures
