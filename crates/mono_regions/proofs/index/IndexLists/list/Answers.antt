use Rattle.std.proofs.Common.{arith, ap, ◌∙◌, [], get_or}
use Rattle.std.specs.Prelude.{slice_range}
use Rattle.mono_regions.proofs.Cuts.{number_there, starts_rise, list_at}
use Rattle.mono_regions.proofs.index.IndexLists.list.Goals as goal

pub index-requires : goal.index-requires
index-requires c =
    let there = number_there c.self.inside.items.items c.self.inside.starts.items c.args.number c.self.invariant (rw c.self.view_is c.requires) in
    omega (arith, there, c.self.inside.starts.ok.0)

pub overflow_add-number : goal.overflow_add-number
overflow_add-number c =
    let there = number_there c.self.inside.items.items c.self.inside.starts.items c.args.number c.self.invariant (rw c.self.view_is c.requires) in
    omega (arith, there, c.self.inside.starts.ok.0)

pub index-requires-2 : goal.index-requires-2
index-requires-2 c =
    let there = number_there c.self.inside.items.items c.self.inside.starts.items c.args.number c.self.invariant (rw c.self.view_is c.requires) in
    omega (arith, there, c.self.inside.starts.ok.0)

pub between-requires : goal.between-requires
between-requires c =
    rw c.as_slice.ensures.value
    (starts_rise c.self.inside.items.items c.self.inside.starts.items c.args.number c.index.result.now c.index-2.result.now c.self.invariant
    (number_there c.self.inside.items.items c.self.inside.starts.items c.args.number c.self.invariant (rw c.self.view_is c.requires))
    c.index.ensures c.index-2.ensures)

pub returns : goal.returns
returns c =
    c.between.ensures
    ∙ ap (λ items. slice_range items c.index.result.now c.index-2.result.now) c.as_slice.ensures.value
    ∙ list_at c.self.inside.items.items c.self.inside.starts.items c.args.number c.index.result.now c.index-2.result.now
    (number_there c.self.inside.items.items c.self.inside.starts.items c.args.number c.self.invariant (rw c.self.view_is c.requires))
    c.index.ensures c.index-2.ensures
    ∙ ap (λ lists. get_or lists c.args.number []) c.self.view_is
