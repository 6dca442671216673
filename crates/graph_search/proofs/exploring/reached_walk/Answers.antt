use Rattle.std.proofs.Common.{◌≡◌, ℕ, ◌<◌, ◌∷◌, [], List, length, refl, sym, subst, ap, arith}
use Rattle.std.specs.Prelude.{slice_get, slice_index_or, Some}
use Rattle.std.proofs.lemmas.List.{length-append}
use Rattle.std.proofs.lemmas.Option.{slice_get-get_or}
use Rattle.graph_search.specs.declared.exploring.ReachedVertex.{ReachedVertex}
use Rattle.graph_search.specs.declared.graph.Step.{Step}
use Rattle.graph_search.specs.Explored.{AreViaEarlier}
use Rattle.graph_search.proofs.ReachedWalks.{IsWayIn, way-in-none, way-in-more, way-in-whole}
use Rattle.graph_search.proofs.exploring.reached_walk.Goals as goal

-- stands for what is read where nothing stands
abbrev nothing : ReachedVertex
nothing = record { vertex = record { block = 0; place = 0 }; cost = 0; via = 0; place = 0 }

-- what is read at a place, and that the one before it is earlier
read : (list : List ReachedVertex) (at : ℕ) → at < length list → slice_get list at ≡ Some (slice_index_or list at nothing)
read list at below = slice_get-get_or list at nothing below

falls : (list : List ReachedVertex) (at : ℕ) → AreViaEarlier list → 0 < at → at < length list → (slice_index_or list at nothing).via < at
falls list at earlier some below = earlier at (slice_index_or list at nothing) some (read list at below)

pub loop-at-init : goal.loop-at-init
loop-at-init c = record {
  way = λ arcs from tree.
      subst (λ (steps : List Step). IsWayIn arcs c.args.reached.now c.args.place c.args.place steps) (sym c.new-steps.ensures.items)
      (way-in-none arcs c.args.reached.now c.args.place _ (read c.args.reached.now c.args.place c.requires.there));
  short = omega (arith, ap (λ (steps : List Step). length steps) c.new-steps.ensures.items);
}

pub offset_bounds-reached-entry : goal.offset_bounds-reached-entry
offset_bounds-reached-entry c =
    let below = c.well_formed in
    omega (arith, falls c.args.reached.now c.loop-at.at c.requires.earlier (omega (arith, c.loop-at-test.true)) (omega (arith, c.loop-at.invariant.short, c.requires.there)), c.loop-at.invariant.short, c.requires.there, c.ranges.place.fits)

pub bounds-reached-entry : goal.bounds-reached-entry
bounds-reached-entry c =
    omega (
      arith,
      falls c.args.reached.now c.loop-at.at c.requires.earlier (omega (arith, c.loop-at-test.true)) (omega (arith, c.loop-at.invariant.short, c.requires.there)),
      c.loop-at.invariant.short,
      c.requires.there,
    )

pub loop-at-smaller : goal.loop-at-smaller
loop-at-smaller c =
    falls c.args.reached.now c.loop-at.at c.requires.earlier (omega (arith, c.loop-at-test.true)) (omega (arith, c.loop-at.invariant.short, c.requires.there))

pub loop-at-preserved : goal.loop-at-preserved
loop-at-preserved c =
    let list = c.args.reached.now in
    let at = c.loop-at.at in
    let some : 0 < at = omega (arith, c.loop-at-test.true) in
    let below : at < length list = omega (arith, c.loop-at.invariant.short, c.requires.there) in
    let less = falls list at c.requires.earlier some below in
    record {
      way = λ arcs from tree.
          subst (λ (steps : List Step). IsWayIn arcs list (slice_index_or list at nothing).via c.args.place steps) (sym c.in_ok-push.ensures.items)
          (way-in-more arcs from list at c.args.place c.loop-at.steps.items (slice_index_or list at nothing) _ tree some (read list at below)
          (read list (slice_index_or list at nothing).via (omega (arith, less, below))) (c.loop-at.invariant.way arcs from tree));
      short =
          let more = ap (λ (steps : List Step). length steps) c.in_ok-push.ensures.items in
          let one = length-append c.loop-at.steps.items
          (record { from = (slice_index_or list (slice_index_or list at nothing).via nothing).vertex; place = (slice_index_or list at nothing).place } ∷ []) in
          omega (arith, more, one, less, c.loop-at.invariant.short);
    }

pub returns-clause-walk : goal.returns-clause-walk
returns-clause-walk c arcs from tree =
    way-in-whole arcs from c.args.reached.now c.loop-at.at c.args.place c.loop-at.steps.items _ _ tree (omega (arith, c.loop-at-test.false))
    (c.loop-at.invariant.way arcs from tree) (read c.args.reached.now c.args.place c.requires.there) c.reverse.ensures.items refl
