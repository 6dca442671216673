use Rattle.std.proofs.Common.{◌≡◌, ◌≤◌, ◌+◌, ◌-◌, ℕ, List, map, take, drop, arith, ap, ◌∙◌, length}
use Rattle.std.specs.Prelude.{slice_range}
use Rattle.std.specs.List.{count_by}
use Rattle.std.proofs.lemmas.List.{length-map, take-map, drop-map}
use Rattle.mesh_types.specs.declared.links.PolyRef.{PolyRef}
use Rattle.mesh_types.specs.declared.links.Link.{Link}
use Rattle.mesh_types.specs.LinkIndex.{is_before_polygon, leaving_of, entered_by}
use Rattle.mesh_types.proofs.Starts.{none_leave, starts_rise, leaving_between}
use Rattle.mesh_types.proofs.links.Links.entered_from.Goals as goal

-- what some links in a row enter
range-entered : (links : List Link) (ends : List PolyRef) (first end : ℕ) → ends ≡ map entered_by links → slice_range ends first end ≡ map entered_by (slice_range links first end)
range-entered links ends first end are =
    ap (λ (xs : List PolyRef). slice_range xs first end) are ∙ ap (take (end - first)) (drop-map entered_by first links) ∙ take-map entered_by (end - first) (drop first links)

-- there are as many as links
fits : (links : List Link) (ends : List PolyRef) (first end : ℕ) → ends ≡ map entered_by links → (first ≤ end) × (end ≤ length links) → (first ≤ end) × (end ≤ length ends)
fits links ends first end are within = let count = ap length are ∙ length-map links entered_by in (within.0, omega (arith, within.1, count))

pub returns-then-len-place : goal.returns-then-len-place
returns-then-len-place c =
    ap (map entered_by) (none_leave c.self.inside.links.items c.self.inside.starts.items c.args.polygon c.self.invariant.indexed (omega arith))
    ∙ ap (λ links. map entered_by (leaving_of c.args.polygon links)) c.self.view_is

pub between-requires : goal.between-requires
between-requires c =
    rw c.as_slice-5.ensures.value
    (fits c.self.inside.links.items c.self.inside.entered.items c.start_at-first.result c.start_at-end.result c.self.invariant.entered_are
    (starts_rise c.self.inside.links.items c.args.polygon c.start_at-first.result c.start_at-end.result
    (c.start_at-first.ensures ∙ ap (count_by (is_before_polygon c.args.polygon)) c.as_slice.ensures.value)
    (c.start_at-end.ensures ∙ ap (count_by (is_before_polygon (c.args.polygon + 1))) c.as_slice-3.ensures.value)))

pub returns : goal.returns
returns c =
    c.between.ensures
    ∙ ap (λ ends. slice_range ends c.start_at-first.result c.start_at-end.result) c.as_slice-5.ensures.value
    ∙ range-entered c.self.inside.links.items c.self.inside.entered.items c.start_at-first.result c.start_at-end.result c.self.invariant.entered_are
    ∙ ap (map entered_by) (leaving_between c.self.inside.links.items c.args.polygon c.start_at-first.result c.start_at-end.result c.self.invariant.indexed.order
    (c.start_at-first.ensures ∙ ap (count_by (is_before_polygon c.args.polygon)) c.as_slice.ensures.value)
    (c.start_at-end.ensures ∙ ap (count_by (is_before_polygon (c.args.polygon + 1))) c.as_slice-3.ensures.value))
    ∙ ap (λ links. map entered_by (leaving_of c.args.polygon links)) c.self.view_is
