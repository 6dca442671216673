use Rattle.std.proofs.Common.{◌∙◌, ap, length, subst, sym, arith}
use Rattle.build_queue.specs.BookState.{BookState, least_awaited}
use Rattle.nav_book.specs.Settling.{IsUnclaimed}
use Rattle.nav_book.proofs.CallLaws.{refused_builds}
use Rattle.nav_book.proofs.JobLaws.{step_fits, turn, turns_end}
use Rattle.nav_book.proofs.level.Level.build_all.Goals as goal

pub returns-in_err-_tile : goal.returns-in_err-_tile
returns-in_err-_tile g c =
    let before = c.loop-tile.invariant in
    let fits = step_fits c.loop-tile.self before.free in
    let same = c.in_err-_tile.ensures.refused in
    refused_builds _ _ _ _ c.from_residual.result c.from_residual.ensures.0
    (record {
      least = omega (arith, before.least, c.step.ensures.most.least);
      most_risen = omega (arith, before.count, c.step.ensures.most.most_risen, fits);
    })
    (subst IsUnclaimed (sym same) before.free) (ap (λ (s : BookState). s.ground) same ∙ before.ground) (ap (λ (s : BookState). s.history) same ∙ before.history)
    (ap (λ (s : BookState). s.published) same ∙ before.published) c.step.ensures.rules

pub loop-tile-smaller : goal.loop-tile-smaller
loop-tile-smaller g c =
    let turned = turn c.loop-tile.self c.step.new.self c.in_ok-_tile.field-0 c.in-Some._tile c.loop-tile.invariant.free c.loop-tile.invariant.rules
    c.in_ok-_tile.ensures.tile c.in-Some.is c.in_ok-_tile.ensures.stepped in
    omega (arith, turned.fewer)

pub loop-tile-preserved : goal.loop-tile-preserved
loop-tile-preserved g c =
    let before = c.loop-tile.invariant in
    let turned = turn c.loop-tile.self c.step.new.self c.in_ok-_tile.field-0 c.in-Some._tile before.free before.rules c.in_ok-_tile.ensures.tile
    c.in-Some.is c.in_ok-_tile.ensures.stepped in
    let risen = c.in_ok-_tile.ensures.steps in
    record {
      free = turned.free;
      rules = c.step.ensures.rules;
      left = turned.left ∙ before.left;
      count = omega (arith, turned.fewer, before.count, risen, turned.due);
      ground = turned.ground ∙ before.ground;
      history = turned.history ∙ before.history;
      published = turned.published ∙ before.published;
      least = omega (arith, before.least, risen);
    }

pub returns : goal.returns
returns g c =
    let before = c.loop-tile.invariant in
    let end = turns_end c.loop-tile.self c.in_ok-_tile.field-0 before.free c.in_ok-_tile.ensures.tile c.in_default.is in
    let none = ap length end.left in
    let risen = c.in_ok-_tile.ensures.steps in
    let same = c.in_ok-_tile.ensures.stepped ∙ end.same in
    record {
      built = same ∙ sym end.built ∙ before.left;
      none = ap least_awaited same ∙ end.none;
      steps = omega (arith, before.count, none, risen, end.due);
      most = record { least = omega (arith, before.least, risen); most_risen = omega (arith, before.count, none, risen, end.due) };
      free = subst IsUnclaimed (sym same) before.free;
      ground = ap (λ (s : BookState). s.ground) same ∙ before.ground;
      history = ap (λ (s : BookState). s.history) same ∙ before.history;
      published = ap (λ (s : BookState). s.published) same ∙ before.published;
      rules = c.step.ensures.rules;
    }
