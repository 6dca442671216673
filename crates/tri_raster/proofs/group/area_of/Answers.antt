use Rattle.std.proofs.Common.{◌≡◌, ℕ, ◌+◌, ◌-◌, take, get_or, subst, sym, ◌∙◌, refl, arith}
use Rattle.tri_raster.specs.Columns.{no_shadow}
use Rattle.tri_raster.proofs.GroupLaws.{HasArea, area_far, area_near}
use Rattle.tri_raster.proofs.group.area_of.Goals as goal
use Rattle.tri_raster.proofs.group.area_of.Goals.{then-least-shadow, else-least-shadow}

pub loop-shadow-preserved : goal.loop-shadow-preserved
loop-shadow-preserved c =
    let group = c.args.group.now in
    let i = c.loop-shadow.shadow-index in
    let s = get_or group i no_shadow in
    let least : c.saturating_sub-least.result ≡ c.args.top - c.args.climb = c.saturating_sub-least.ensures in
    let P : ℕ → Type 0 = HasArea c.args.climb c.args.top (take (i + 1) group) in
    elim c.if-least-shadow.branch [
      | then-least-shadow w ↦ subst P (sym (w.area-is ∙ w.max-area.ensures))
          (area_near c.args.climb c.args.top group i c.loop-shadow.area s c.loop-shadow-test.true refl (omega (arith, least, w.if-least-shadow.true)) c.loop-shadow.invariant)
      | else-least-shadow w ↦ subst P (sym w.area-is)
          (area_far c.args.climb c.args.top group i c.loop-shadow.area s c.loop-shadow-test.true refl (omega (arith, least, w.if-least-shadow.false)) c.loop-shadow.invariant)
    ]
