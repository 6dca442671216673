use Rattle.std.proofs.Common.{◌++◌, List, map, length, ap, ◌∙◌, arith, subst, sym, Option, ℕ, ◌≡◌}
use Rattle.std.specs.Prelude.{All}
use Rattle.std.proofs.lemmas.Result.{on_ok_weaker}
use Rattle.nav_ground.specs.Directions.{number}
use Rattle.mesh_types.specs.declared.region.LabelRun.{LabelRun}
use Rattle.mesh_types.specs.Runs.{runs_of}
use Rattle.mesh_types.proofs.RunLaws.{IsRunOf, runs_are_runs}
use Rattle.contour_mesh.specs.RimTables.{entry_in}
use Rattle.contour_mesh.proofs.rim.push_entries.Goals as goal

-- the runs that are found are runs of the labels
runs_inside : (labels : List (Option ℕ)) (found : List LabelRun) → found ≡ runs_of labels → All (IsRunOf labels) found
runs_inside labels found is = subst (All (IsRunOf labels)) (sym is) (runs_are_runs labels)

pub runs-requires : goal.runs-requires
runs-requires c = omega (arith, ap length c.as_slice.ensures.value, c.in_ok-label_positions.ensures.inside)

pub push_runs-requires-clause-runs : goal.push_runs-requires-clause-runs
push_runs-requires-clause-runs c = λ k d there.
    let run = runs_inside c.as_slice.result.now c.as_slice-2.result.now (c.as_slice-2.ensures.value ∙ c.in_ok-parts.ensures) k d there in record {
      order = run.order;
      inside = omega (arith, run.inside, ap length c.as_slice.ensures.value, c.in_ok-label_positions.ensures.inside);
    }

pub returns : goal.returns
returns c =
    on_ok_weaker c.push_runs.result
    (λ is. is
    ∙ ap (λ (parts : List LabelRun). c.args.rim.now.items ++ map (entry_in c.args.on.tables.now c.args.on.door.now (number c.args.on.side)) parts)
    (c.as_slice-2.ensures.value ∙ c.in_ok-parts.ensures ∙ ap runs_of (c.as_slice.ensures.value ∙ c.in_ok-label_positions.ensures.value)))
    c.push_runs.ensures
