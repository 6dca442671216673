use Rattle.std.proofs.Common.{◌+◌, arith, ap, ◌∙◌}
use Rattle.std.specs.Prelude.{slice_range}
use Rattle.std.specs.List.{count_by}
use Rattle.mesh_types.specs.LinkIndex.{is_before_polygon, leaving_of}
use Rattle.mesh_types.proofs.Starts.{none_leave, starts_rise, leaving_between}
use Rattle.mesh_types.proofs.links.Links.leaving.Goals as goal

pub returns-then-len-place : goal.returns-then-len-place
returns-then-len-place c =
    rw (← c.self.view_is) (none_leave c.self.inside.links.items c.self.inside.starts.items c.args.polygon c.self.invariant.indexed (omega arith))

pub between-requires : goal.between-requires
between-requires c =
    rw c.as_slice-5.ensures.value (starts_rise c.self.inside.links.items c.args.polygon c.start_at-first.result c.start_at-end.result
    (c.start_at-first.ensures ∙ ap (count_by (is_before_polygon c.args.polygon)) c.as_slice.ensures.value)
    (c.start_at-end.ensures ∙ ap (count_by (is_before_polygon (c.args.polygon + 1))) c.as_slice-3.ensures.value))

pub returns : goal.returns
returns c =
    c.between.ensures
    ∙ ap (λ links. slice_range links c.start_at-first.result c.start_at-end.result) c.as_slice-5.ensures.value
    ∙ leaving_between c.self.inside.links.items c.args.polygon c.start_at-first.result c.start_at-end.result c.self.invariant.indexed.order
    (c.start_at-first.ensures ∙ ap (count_by (is_before_polygon c.args.polygon)) c.as_slice.ensures.value)
    (c.start_at-end.ensures ∙ ap (count_by (is_before_polygon (c.args.polygon + 1))) c.as_slice-3.ensures.value)
    ∙ ap (leaving_of c.args.polygon) c.self.view_is
