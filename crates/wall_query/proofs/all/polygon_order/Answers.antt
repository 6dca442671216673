use Rattle.std.proofs.Common.{◌≡◌, ◌∙◌, ap}
use Rattle.std.specs.Ordering.{nat_cmp}
use Rattle.wall_query.proofs.NumberLaws.{by_numbers}
use Rattle.wall_query.proofs.all.polygon_order.Goals as goal

pub returns : goal.returns
returns c =
    c.cmp.ensures
    ∙ (λ k. nat_cmp (c.number.ensures.value k) (c.number-2.ensures.value k))
    ∙ by_numbers c.args.a.now.tile c.args.a.now.index c.args.b.now.tile c.args.b.now.index c.number.ensures.small c.number-2.ensures.small
