use Rattle.std.proofs.Common.{List, ◌∷◌, [], ◌++◌, length, ◌∙◌, sym}
use Rattle.nav_base.specs.declared.point.Point.{Point}
use Rattle.mesh_types.specs.Simplified.{origin, kept_walking}
use Rattle.contour_simplify.specs.declared.run.RunHalf.{RunHalf}
use Rattle.contour_simplify.proofs.Halving.{smaller, less_on_stack, walked_split, walked_straight, parts_corners, rest_of, straight}
use Rattle.contour_simplify.proofs.run.walk.Goals as goal

pub loop-half-smaller-in-Continue-branch-2 : goal.loop-half-smaller-in-Continue-branch-2
loop-half-smaller-in-Continue-branch-2 c =
    let half : RunHalf = c.in-Some.half in
    let parts = c.in_ok-push_parts-in-Some-split.ensures origin in
    rw (parts.pushed, c.in-Some.ensures.items)
    (less_on_stack c.pop.new.self.items half parts.before parts.after
    (smaller half parts.before parts.after c.in-Some-split.place _ _ c.in-Some-split.ensures.there parts.first parts.second))

pub loop-half-preserved-in-Continue-branch-2 : goal.loop-half-preserved-in-Continue-branch-2
loop-half-preserved-in-Continue-branch-2 c =
    let half : RunHalf = c.in-Some.half in
    let rest : List RunHalf = c.pop.new.self.items in
    let all : List Point = kept_walking (length c.args.inner.now) c.args.error c.args.first c.args.inner.now c.args.last ++ c.args.last ∷ [] in
    let parts = c.in_ok-push_parts-in-Some-split.ensures origin in
    record {
      told = rw parts.pushed (walked_split c.args.error c.loop-half.kept.items rest half parts.before parts.after c.in-Some-split.place origin all
          (rw c.in-Some.ensures.items at c.loop-half.invariant.told) c.in-Some-split.ensures parts.first parts.second);
      each = rw parts.pushed (parts_corners rest half parts.before parts.after c.in-Some-split.place origin
          (rw c.in-Some.ensures.items at c.loop-half.invariant.each) c.in-Some-split.ensures.there parts.first parts.second);
    }

pub loop-half-preserved : goal.loop-half-preserved
loop-half-preserved c =
    let half : RunHalf = c.in-Some.half in
    let rest : List RunHalf = c.pop.new.self.items in
    let all : List Point = kept_walking (length c.args.inner.now) c.args.error c.args.first c.args.inner.now c.args.last ++ c.args.last ∷ [] in
    record {
      told = rw c.in_ok-push-in-None.ensures.items (walked_straight c.args.error c.loop-half.kept.items rest half all
          (rw c.in-Some.ensures.items at c.loop-half.invariant.told) c.in-None.ensures);
      each = rest_of rest half (rw c.in-Some.ensures.items at c.loop-half.invariant.each);
    }

pub returns-then-is_straight : goal.returns-then-is_straight
returns-then-is_straight c =
    c.new.ensures.items ∙ sym (straight c.args.error c.args.first c.args.inner.now c.args.last (c.is_straight.ensures c.if-is_straight.true))
