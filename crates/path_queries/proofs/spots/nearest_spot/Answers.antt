use Rattle.std.proofs.Common.{◌≡◌, ◌+◌, ℕ, length, ap, sym, subst, ◌∙◌, arith}
use Rattle.std.specs.Prelude.{slice_index_or}
use Rattle.std.proofs.lemmas.Option.{slice_get-get_or}
use Rattle.path_queries.specs.declared.spots.Spot.{Spot}
use Rattle.path_queries.specs.FilteredGraphs.{leads_on}
use Rattle.path_queries.specs.Spots.{IsNearestBefore}
use Rattle.path_queries.proofs.FloodLoops.{no_entry}
use Rattle.path_queries.proofs.SpotLaws.{before-left, before-looked}
use Rattle.path_queries.proofs.spots.nearest_spot.Goals as goal
use Rattle.path_queries.proofs.spots.nearest_spot.Goals.{then-leads_on, else-leads_on}

pub loop-place-preserved : goal.loop-place-preserved
loop-place-preserved c =
    let mesh = c.args.mesh.now in
    let list = c.args.reached.now in
    let place = c.loop-place.place in
    let there = slice_get-get_or list place no_entry c.loop-place-test.true in
    let same = ap (leads_on mesh c.args.areas c.args.first) (sym c.polygon_at.ensures) ∙ sym c.leads_on.ensures in
    elim c.if-leads_on.branch [
      | then-leads_on w ↦
          subst (λ (spot : Spot). IsNearestBefore mesh c.args.areas c.args.first c.args.toward list (place + 1) spot) (sym w.nearest-is)
          (before-looked mesh c.args.toward list c.requires.sound c.args.areas c.args.first place c.loop-place.nearest w.nearer_spot-nearest.result
          c.loop-place.invariant (record { entry = slice_index_or list place no_entry; there = there; leads = same ∙ w.if-leads_on.true })
          w.nearer_spot-nearest.ensures)
      | else-leads_on w ↦
          subst (λ (spot : Spot). IsNearestBefore mesh c.args.areas c.args.first c.args.toward list (place + 1) spot) (sym w.nearest-is)
          (before-left mesh c.args.toward list c.requires.sound c.args.areas c.args.first place c.loop-place.nearest (slice_index_or list place no_entry) there
          (same ∙ w.if-leads_on.false) c.loop-place.invariant)
    ]

pub returns : goal.returns
returns c =
    let end : c.loop-place.place ≡ length c.args.reached.now = omega (arith, c.loop-place-test.false, c.loop-place.auto.place-end) in
    subst (λ (n : ℕ). IsNearestBefore c.args.mesh.now c.args.areas c.args.first c.args.toward c.args.reached.now n c.loop-place.nearest) end c.loop-place.invariant
