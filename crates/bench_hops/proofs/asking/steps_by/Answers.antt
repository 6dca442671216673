use Rattle.bench_hops.proofs.asking.steps_by.Goals as goal

pub steps_of_plain-requires-clause-from : goal.steps_of_plain-requires-clause-from
steps_of_plain-requires-clause-from c = record { polygon = c.in-Some.ensures.located.holding.polygon; is = c.in-Some.ensures.located.holding.there }

pub cheapest-requires-clause-from : goal.cheapest-requires-clause-from
cheapest-requires-clause-from c = record { polygon = c.in-Some.ensures.located.holding.polygon; is = c.in-Some.ensures.located.holding.there }

pub cheapest-requires-clause-to : goal.cheapest-requires-clause-to
cheapest-requires-clause-to c = record { polygon = c.in-Some-locate.ensures.located.holding.polygon; is = c.in-Some-locate.ensures.located.holding.there }
