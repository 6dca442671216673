use Rattle.std.proofs.lemmas.Result.{IfOk-weaker}
use Rattle.graph_search.proofs.exploring.explore_in.Goals as goal

pub returns-clause-tree : goal.returns-clause-tree
returns-clause-tree g c = IfOk-weaker c.search_within.result _ _ (λ found is. is.tree) c.search_within.ensures

pub returns-clause-once : goal.returns-clause-once
returns-clause-once g c = IfOk-weaker c.search_within.result _ _ (λ found is. is.once) c.search_within.ensures

pub returns-clause-least : goal.returns-clause-least
returns-clause-least g c = IfOk-weaker c.search_within.result _ _ (λ found is. is.least) c.search_within.ensures

pub returns-clause-order : goal.returns-clause-order
returns-clause-order g c = IfOk-weaker c.search_within.result _ _ (λ found is. is.order) c.search_within.ensures

pub returns-clause-limited : goal.returns-clause-limited
returns-clause-limited g c = IfOk-weaker c.search_within.result _ _ (λ found is. is.limited) c.search_within.ensures

pub returns-clause-within : goal.returns-clause-within
returns-clause-within g c = IfOk-weaker c.search_within.result _ _ (λ found is. is.within) c.search_within.ensures

pub returns-clause-stopped : goal.returns-clause-stopped
returns-clause-stopped g c = IfOk-weaker c.search_within.result _ _ (λ found is. is.stopped) c.search_within.ensures

pub returns-clause-ended : goal.returns-clause-ended
returns-clause-ended g c = IfOk-weaker c.search_within.result _ _ (λ found is. is.ended) c.search_within.ensures

pub returns-clause-few : goal.returns-clause-few
returns-clause-few g c = IfOk-weaker c.search_within.result _ _ (λ found is. is.few) c.search_within.ensures

pub returns-clause-short : goal.returns-clause-short
returns-clause-short g c = IfOk-weaker c.search_within.result _ _ (λ found is. is.short) c.search_within.ensures
