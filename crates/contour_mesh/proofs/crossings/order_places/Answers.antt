use Rattle.std.proofs.Common.{refl, rules}
use Rattle.std.proofs.lemmas.Fn.{always_returns_same}
use Rattle.std.proofs.lemmas.Result.{on_ok_weaker}
use Rattle.contour_mesh.specs.SidePlaces.{stands_before}
use Rattle.contour_mesh.proofs.FacingLaws.{sort_made}
use Rattle.contour_mesh.proofs.PlaceLaws.{placed_order}
use Rattle.contour_mesh.proofs.crossings.order_places.Goals as goal

pub returns : goal.returns
returns g c =
    on_ok_weaker c.sort_by.result
    (λ sorted. sort_made stands_before c.args.placed.now.items c.args.placed.now.items c.sort_by.new.self.items refl
    (sorted stands_before placed_order (always_returns_same _ _ _ (λ a r q k. search rules)))
    (c.sort_by.ensures.stable stands_before placed_order (always_returns_same _ _ _ (λ a r q k. search rules))) c.sort_by.ensures.permutation)
    c.sort_by.ensures.sorted
