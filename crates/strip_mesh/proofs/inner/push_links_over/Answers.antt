use Rattle.std.proofs.Common.{ℕ, ◌-◌, length, sym, subst, arith}
use Rattle.mesh_types.specs.StripLinks.{outside_of}
use Rattle.strip_mesh.specs.Indexed.{runs_in, run_in}
use Rattle.strip_mesh.specs.Strips.{MeetsOthersAt}
use Rattle.strip_mesh.proofs.Counts.{run_length}
use Rattle.strip_mesh.proofs.RowLaws.{row_is}
use Rattle.strip_mesh.proofs.EndLaws.{meets_left, meets_right}
use Rattle.strip_mesh.proofs.inner.push_links_over.Goals as goal

pub push_end_link-requires-clause-alone : goal.push_end_link-requires-clause-alone
push_end_link-requires-clause-alone c =
    let strips = c.args.one.strips.now in
    let s = c.args.one.strip in
    let many = run_length strips.free.cells c.run.result.now (run_in strips s) c.run.ensures.cells in
    subst (λ (edge : ℕ). MeetsOthersAt (runs_in strips) s (outside_of edge) (length c.run.result.now - 1)) (sym c.in-1.is)
    (meets_right strips.free.cells c.requires.rules.cut s (length c.run.result.now - 1) c.requires.there (omega (arith, many, c.run.ensures.indices.some)))

pub push_end_link-requires-in-3-clause-place : goal.push_end_link-requires-in-3-clause-place
push_end_link-requires-in-3-clause-place c = (row_is c.args.one.strips.now.free.cells c.requires.rules.cut c.args.one.strip c.requires.there).some

pub push_end_link-requires-in-3-clause-alone : goal.push_end_link-requires-in-3-clause-alone
push_end_link-requires-in-3-clause-alone c =
    let strips = c.args.one.strips.now in
    let s = c.args.one.strip in
    subst (λ (edge : ℕ). MeetsOthersAt (runs_in strips) s (outside_of edge) 0) (sym c.in-3.is) (meets_left strips.free.cells c.requires.rules.cut s c.requires.there)
