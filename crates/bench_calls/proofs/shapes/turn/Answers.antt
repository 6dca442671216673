-- The portals stand in a row from the start to the goal.
use Rattle.std.proofs.Common.{negsuc, List, [], ◌∷◌, length, ap, ◌∙◌, arith, rules}
use Rattle.std.proofs.lemmas.Int.{ints}
use Rattle.std.proofs.lemmas.List.{length-append}
use Rattle.mesh_types.specs.declared.links.Portal.{Portal}
use Rattle.bench_calls.proofs.RowLaws.{row_grown, row_pulled}
use Rattle.bench_calls.proofs.shapes.turn.Goals as goal

pub loop-preserved : goal.loop-preserved
loop-preserved c =
    let wall = c.loop.invariant in
    record {
      counted =
          ap (λ (portals : List Portal). length portals) c.in_ok-push.ensures.items ∙ length-append c.loop.portals.items (c.upright.result ∷ []) ∙ omega (arith, wall.counted);
      row =
          row_grown c.loop.across c.min-across.result c.min-high.result c.min-across.result (negsuc 65535) c.loop.portals.items
          c.push.new.self.items c.upright.result (search rules) (omega arith) (search rules) (search rules)
          (record { low = omega (arith, ints); high = omega (arith, ints) }) (omega (arith, ints)) c.upright.ensures c.in_ok-push.ensures.items wall.row;
      across_within = search rules;
      high_within = search rules;
      run_before = wall.sloped.run;
      sloped = c.next_slope-next.ensures;
    }

pub returns : goal.returns
returns c =
    let wall = c.loop.invariant in
    row_pulled 0 c.loop.across 65536 c.loop.portals c.upright-2.result.left (omega arith) wall.across_within (omega arith)
    (ap (λ (p : Portal). p.left) c.upright-2.ensures) (omega (arith, wall.counted)) wall.row
