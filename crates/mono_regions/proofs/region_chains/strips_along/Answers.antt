use Rattle.std.proofs.Common.{◌<◌, [], map, ap, ◌∙◌, length, get_or, arith}
use Rattle.std.proofs.lemmas.List.{take_all}
use Rattle.mono_regions.specs.Indices.{strip_at, index_runs}
use Rattle.mono_regions.proofs.RunLaws.{runs_indices, strips_are}
use Rattle.mono_regions.proofs.region_chains.strips_along.Goals as goal

pub strip-requires-clause-run : goal.strip-requires-clause-run
strip-requires-clause-run c =
    let cells = c.args.cells.now in
    let there : c.loop-number.number < length (index_runs cells) = omega (arith, c.len-number-end.ensures, ap length c.requires.runs, c.loop-number-test.true) in
    let run = c.list.ensures ∙ ap (λ rs. get_or rs c.loop-number.number []) c.requires.runs in
    rw run (runs_indices cells c.requires.cells.rules c.loop-number.number [] there)

pub returns : goal.returns
returns c =
    let cells = c.args.cells.now in
    c.loop-number.invariant
    ∙ ap (map (strip_at cells)) (take_all c.loop-number.number (index_runs cells) (omega (arith, c.len-number-end.ensures, ap length c.requires.runs, c.loop-number-test.false)))
    ∙ strips_are cells
