use Rattle.std.proofs.Common.{rules}
use Rattle.std.specs.Prelude.{nat_le}
use Rattle.std.proofs.lemmas.Fn.{always_returns_same}
use Rattle.random_place.proofs.SumLaws.{parted}
use Rattle.random_place.proofs.sums.tiles_up_to.Goals as goal

pub returns-clause-point : goal.returns-clause-point
returns-clause-point c =
    c.partition_point.ensures.partitioned (λ end. nat_le end c.args.number) (always_returns_same _ _ _ (λ a r q k. search rules))
    (parted c.args.ends.now c.args.number c.requires)
