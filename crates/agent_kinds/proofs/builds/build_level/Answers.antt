use Rattle.std.proofs.Common.{◌∙◌, ap, refl, sym, arith}
use Rattle.build_queue.specs.BookState.{least_awaited}
use Rattle.nav_book.proofs.JobLaws.{turn, turns_end}
use Rattle.agent_kinds.proofs.Commons.{shown_after, shown_still}
use Rattle.agent_kinds.proofs.builds.build_level.Goals as goal

pub loop-tile-init : goal.loop-tile-init
loop-tile-init g c = record {
  free = c.requires.free;
  rules = c.requires.rules;
  left = refl;
  shown = record { ground = refl; history = refl; target = refl; published = refl };
}

pub returns-in_err-_tile-clause-same : goal.returns-in_err-_tile-clause-same
returns-in_err-_tile-clause-same g c = shown_still _ _ _ c.loop-tile.invariant.shown c.in_err-_tile.ensures.refused

pub loop-tile-smaller : goal.loop-tile-smaller
loop-tile-smaller g c =
    let turned = turn c.loop-tile.level c.step.new.self c.in_ok-_tile.field-0 c.in-Some._tile c.loop-tile.invariant.free c.loop-tile.invariant.rules
    c.in_ok-_tile.ensures.tile c.in-Some.is c.in_ok-_tile.ensures.stepped in
    omega (arith, turned.fewer)

pub loop-tile-preserved : goal.loop-tile-preserved
loop-tile-preserved g c =
    let before = c.loop-tile.invariant in
    let turned = turn c.loop-tile.level c.step.new.self c.in_ok-_tile.field-0 c.in-Some._tile before.free before.rules c.in_ok-_tile.ensures.tile
    c.in-Some.is c.in_ok-_tile.ensures.stepped in
    record {
      free = turned.free;
      rules = c.step.ensures.rules;
      left = turned.left ∙ before.left;
      shown = shown_after _ _ _ before.shown c.in_ok-_tile.ensures.stepped;
    }

pub returns-clause-built : goal.returns-clause-built
returns-clause-built g c =
    let end = turns_end c.loop-tile.level c.in_ok-_tile.field-0 c.loop-tile.invariant.free c.in_ok-_tile.ensures.tile c.in_default.is in
    c.in_ok-_tile.ensures.stepped ∙ end.same ∙ sym end.built ∙ c.loop-tile.invariant.left

pub returns-clause-none : goal.returns-clause-none
returns-clause-none g c =
    let end = turns_end c.loop-tile.level c.in_ok-_tile.field-0 c.loop-tile.invariant.free c.in_ok-_tile.ensures.tile c.in_default.is in
    ap least_awaited (c.in_ok-_tile.ensures.stepped ∙ end.same) ∙ end.none

pub returns-clause-same : goal.returns-clause-same
returns-clause-same g c = shown_after _ _ _ c.loop-tile.invariant.shown c.in_ok-_tile.ensures.stepped
