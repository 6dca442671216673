use Rattle.std.proofs.Common.{◌≡◌, ◌++◌, length, map, ap, ◌∙◌, arith}
use Rattle.std.proofs.lemmas.List.{length-map}
use Rattle.mesh_types.specs.StripLinks.{strip_beyond, strip_link, outside_of}
use Rattle.strip_mesh.specs.Indexed.{runs_in, run_in}
use Rattle.strip_mesh.specs.Strips.{strips_over}
use Rattle.strip_mesh.proofs.Counts.{run_length}
use Rattle.strip_mesh.proofs.Passing.{all_before, end_fresh, link_more}
use Rattle.strip_mesh.proofs.inner.push_links_along.Goals as goal

pub loop-place-preserved : goal.loop-place-preserved
loop-place-preserved c =
    let strips = c.args.one.strips.now in
    let s = c.args.one.strip in
    let labels = strips_over (runs_in strips) s c.args.edge in (
      c.end_of-end.ensures.most,
      end_fresh labels c.loop-place.place c.end_of-end.result c.beyond_at-label.result c.beyond_at-label.ensures c.end_of-end.ensures.value,
      link_more (strip_link strips.free.tile (run_in strips s) s c.args.edge) labels c.loop-place.place c.end_of-end.result c.beyond_at-label.result
          c.args.links.now.items c.loop-place.links.items c.push_part_link.new.links.items c.beyond_at-label.ensures c.end_of-end.ensures.value
          c.loop-place.invariant.1 c.loop-place.invariant.2 c.in_ok-push_part_link.ensures,
    )

pub returns : goal.returns
returns c =
    let strips = c.args.one.strips.now in
    let s = c.args.one.strip in
    let labels = strips_over (runs_in strips) s c.args.edge in
    let all : c.loop-place.place ≡ length labels =
    omega (
      arith,
      c.loop-place.invariant.0,
      c.loop-place-test.false,
      run_length strips.free.cells c.run-count.result.now (run_in strips s) c.run-count.ensures.cells,
      length-map (run_in strips s) (strip_beyond (runs_in strips) s (outside_of c.args.edge)),
    ) in
    c.loop-place.invariant.2
    ∙ ap (λ rs. c.args.links.now.items ++ map (strip_link strips.free.tile (run_in strips s) s c.args.edge) rs) (all_before labels c.loop-place.place all)
