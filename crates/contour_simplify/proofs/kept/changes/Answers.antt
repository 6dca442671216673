use Rattle.std.proofs.Common.{ℕ, ◌∙◌, ap, sym}
use Rattle.std.specs.Global.{Vec}
use Rattle.mesh_types.specs.Simplified.{does_change}
use Rattle.contour_simplify.proofs.Edges.{place_more, place_less}
use Rattle.contour_simplify.proofs.kept.changes.Goals as goal
use Rattle.contour_simplify.proofs.kept.changes.Goals.{then-does_change+in_ok-push, else-does_change}

pub loop-place-preserved : goal.loop-place-preserved
loop-place-preserved c =
    let test = does_change c.args.edges.now in
    elim c.if-does_change.branch [
      | then-does_change+in_ok-push w ↦
          ap (λ (v : Vec ℕ). v.items) w.places-is ∙ w.in_ok-push.ensures.items
          ∙ place_more test c.loop-place.place c.loop-place.places.items c.loop-place.invariant (sym c.does_change.ensures ∙ w.if-does_change.true)
      | else-does_change w ↦
          ap (λ (v : Vec ℕ). v.items) w.places-is
          ∙ place_less test c.loop-place.place c.loop-place.places.items c.loop-place.invariant (sym c.does_change.ensures ∙ w.if-does_change.false)
    ]
