use Rattle.tests_paths.proofs.corridors.cost_by_landmarks.Goals as goal

pub cheapest_by-requires-clause-from : goal.cheapest_by-requires-clause-from
cheapest_by-requires-clause-from c = record { polygon = c.in-Some.ensures.located.holding.polygon; is = c.in-Some.ensures.located.holding.there }

pub cheapest_by-requires-clause-to : goal.cheapest_by-requires-clause-to
cheapest_by-requires-clause-to c = record { polygon = c.in-Some-locate.ensures.located.holding.polygon; is = c.in-Some-locate.ensures.located.holding.there }
