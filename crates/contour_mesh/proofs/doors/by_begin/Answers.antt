use Rattle.std.proofs.Common.{rules}
use Rattle.std.proofs.lemmas.Fn.{always_returns_same}
use Rattle.contour_mesh.specs.Orders.{door_begins_before}
use Rattle.contour_mesh.proofs.FacingLaws.{doors_order, sort_made}
use Rattle.contour_mesh.proofs.doors.by_begin.Goals as goal

pub returns : goal.returns
returns c =
    sort_made door_begins_before c.args.doors.now c.in_ok-sorted.sorted.items c.sort_by.new.self.items c.in_ok-sorted.ensures.items
    (c.in_ok-sort_by.ensures.sorted door_begins_before doors_order (always_returns_same _ _ _ (λ a r q k. search rules)))
    (c.sort_by.ensures.stable door_begins_before doors_order (always_returns_same _ _ _ (λ a r q k. search rules)))
    c.sort_by.ensures.permutation
