use Rattle.std.proofs.Common.{◌≡◌, ℕ, ◌<◌, ◌+◌, ◌++◌, [], ◌∷◌, List, length, take, set, refl, sym, subst, ◌∙◌, arith, length-set}
use Rattle.std.specs.Prelude.{Some, None}
use Rattle.std.proofs.lemmas.List.{take_more_set}
use Rattle.mesh_types.specs.declared.links.PolyRef.{PolyRef}
use Rattle.fine_walk.specs.declared.exits.FineRay.{FineRay}
use Rattle.fine_walk.specs.declared.passing.FineWay.{FineWay}
use Rattle.fine_walk.specs.Laws.{IsToldWay}
use Rattle.fine_walk.specs.Passing.{IsFirstIn, IsOnward, links_from}
use Rattle.fine_walk.proofs.WayLaws.{IsOnWay, sets_out, still_entered, arrives, goes_on, is_stopped, too_many}
use Rattle.fine_walk.proofs.passing.fine_walk.Goals as goal

pub loop-count-init : goal.loop-count-init
loop-count-init c = record {
  on = sets_out c.args.mesh.now c.args.areas c.args.first (record { from = c.args.from; to = c.args.to }) c.requires.sound c.requires.start;
  room = refl;
}

pub least_exit-requires-clause-entered : goal.least_exit-requires-clause-entered
least_exit-requires-clause-entered c =
    still_entered c.args.mesh.now c.args.areas c.args.first (record { from = c.args.from; to = c.args.to }) (take c.loop-count.count c.loop-count.visited)
    c.loop-count.way c.loop-count.count c.polygon_at-polygon.result c.requires.sound c.loop-count.invariant.on c.polygon_at-polygon.ensures.named

pub returns-in_default-clause-some : goal.returns-in_default-clause-some
returns-in_default-clause-some c =
    subst (IsToldWay c.args.mesh.now c.args.areas c.args.first c.args.from c.args.to) (sym c.over-way.ensures)
    (arrives c.args.mesh.now c.args.areas c.args.first (record { from = c.args.from; to = c.args.to }) (take c.loop-count.count c.loop-count.visited)
    c.loop-count.way c.loop-count.count c.polygon_at-polygon.result c.requires.sound c.loop-count.invariant.on c.polygon_at-polygon.ensures.named
    c.loop-count-test.true c.in_default.ensures.none)

pub next_link-requires-clause-entered : goal.next_link-requires-clause-entered
next_link-requires-clause-entered c =
    still_entered c.args.mesh.now c.args.areas c.args.first (record { from = c.args.from; to = c.args.to }) (take c.loop-count.count c.loop-count.visited)
    c.loop-count.way c.loop-count.count c.polygon_at-polygon.result c.requires.sound c.loop-count.invariant.on c.polygon_at-polygon.ensures.named

-- what is visited with one polygon more
more : (visited : List PolyRef) (count : ℕ) (p : PolyRef) → count < 24 → length visited ≡ 24 → take (count + 1) (set visited count p) ≡ take count visited ++ p ∷ []
more visited count p below room = take_more_set visited count p (omega (arith, below, room))

pub returns-in_default-next_link-clause-none : goal.returns-in_default-next_link-clause-none
returns-in_default-next_link-clause-none c =
    let ray : FineRay = record { from = c.args.from; to = c.args.to } in
    let P = λ (seen : List PolyRef). IsOnward c.args.mesh.now c.args.areas c.polygon_at-polygon.result ray seen in
    λ none. is_stopped c.args.mesh.now c.args.areas c.args.first ray (take c.loop-count.count c.loop-count.visited) c.loop-count.way c.loop-count.count
    c.polygon_at-polygon.result c.requires.sound c.loop-count.invariant.on c.polygon_at-polygon.ensures.named c.in-Some.exit c.in-Some.ensures.least
    (subst (λ (seen : List PolyRef). IsFirstIn (P seen) (links_from c.args.mesh.now c.loop-count.way.last) None)
    (more c.loop-count.visited c.loop-count.count c.loop-count.way.last c.loop-count-test.true c.loop-count.invariant.room) c.in_default-next_link.ensures)

pub loop-count-preserved : goal.loop-count-preserved
loop-count-preserved c =
    let mesh = c.args.mesh.now in
    let ray : FineRay = record { from = c.args.from; to = c.args.to } in
    let P = λ (seen : List PolyRef). IsOnward mesh c.args.areas c.polygon_at-polygon.result ray seen in
    let e = more c.loop-count.visited c.loop-count.count c.loop-count.way.last c.loop-count-test.true c.loop-count.invariant.room in
    record {
      on =
          subst (λ (seen : List PolyRef). IsOnWay mesh c.args.areas c.args.first ray seen (record { last = c.in-Some-next_link.link.to; low = c.over-way.result.low; high = c.over-way.result.high }) (c.loop-count.count + 1))
          (sym e)
          (subst (λ (w : FineWay). IsOnWay mesh c.args.areas c.args.first ray (take c.loop-count.count c.loop-count.visited ++ c.loop-count.way.last ∷ [])
          (record { last = c.in-Some-next_link.link.to; low = w.low; high = w.high }) (c.loop-count.count + 1)) (sym c.over-way.ensures)
          (goes_on mesh c.args.areas c.args.first ray (take c.loop-count.count c.loop-count.visited) c.loop-count.way c.loop-count.count
          c.polygon_at-polygon.result c.requires.sound c.loop-count.invariant.on c.polygon_at-polygon.ensures.named c.in-Some-next_link.link
          (subst (λ (seen : List PolyRef). IsFirstIn (P seen) (links_from mesh c.loop-count.way.last) (Some c.in-Some-next_link.link)) e c.in-Some-next_link.ensures)));
      room = length-set c.loop-count.visited c.loop-count.count c.loop-count.way.last ∙ c.loop-count.invariant.room;
    }

pub returns-clause-none : goal.returns-clause-none
returns-clause-none c = λ none. too_many c.args.mesh.now c.args.areas c.args.first (record { from = c.args.from; to = c.args.to }) (take c.loop-count.count c.loop-count.visited)
    c.loop-count.way c.loop-count.count c.loop-count.invariant.on c.loop-count-test.false
