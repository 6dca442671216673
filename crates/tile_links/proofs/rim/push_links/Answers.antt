use Rattle.std.proofs.Common.{◌<◌, ◌++◌, ◌∙◌, arith, ap, sym, subst, get_or, length}
use Rattle.std.specs.List.{flat_map}
use Rattle.std.specs.Prelude.{◌==◌, All}
use Rattle.std.specs.Global.{Vec}
use Rattle.std.proofs.lemmas.Bool.{eq-eqb, ne_eqb}
use Rattle.std.proofs.lemmas.List.{take_all}
use Rattle.nav_ground.specs.Cells.{opposite}
use Rattle.nav_ground.specs.Tiling.{tile_window}
use Rattle.mesh_types.specs.declared.links.Link.{Link}
use Rattle.mesh_types.specs.declared.mesh.RimEdge.{RimEdge}
use Rattle.mesh_types.specs.BorderLinks.{along_side}
use Rattle.tile_links.specs.Across.{IsWithinField}
use Rattle.tile_links.specs.Loose.{placed_links}
use Rattle.tile_links.proofs.BorderPortals.{side_line}
use Rattle.tile_links.proofs.FoundLinks.{gained}
use Rattle.tile_links.proofs.RimEntries.{named_in, rim_within_field, one_more_kept, one_more_left}
use Rattle.tile_links.proofs.RimTables.{same_places}
use Rattle.tile_links.proofs.SoundMeshes.{line_is}
use Rattle.tile_links.proofs.rim.push_links.Goals as goal
use Rattle.tile_links.proofs.rim.push_links.Goals.{then-entry-side+in_ok-push_entry_links, else-entry-side}

pub rim_line-line-requires : goal.rim_line-line-requires
rim_line-line-requires c =
    let setting = c.requires.setting in
    let a = c.args.a.now in
    record {
      line = side_line (tile_window setting a.tile) c.args.side;
      each = λ k d there on. line_is setting a (get_or a.rim k d) c.args.side (c.requires.first_fit.rim k d there) on;
    }

pub push_entry_links-requires-clause-entry : goal.push_entry_links-requires-clause-entry
push_entry_links-requires-clause-entry c =
    named_in c.requires.setting c.args.a.now c.as_slice-entry-items.result.now c.loop-entry.entry-index c.entry-item.result c.requires.first_fit
    c.as_slice-entry-items.ensures c.loop-entry-test.true c.entry-item.is

pub loop-entry-preserved : goal.loop-entry-preserved
loop-entry-preserved c =
    let a = c.args.a.now in
    let b = c.args.b.now in
    let side = c.args.side in
    let i = c.loop-entry.entry-index in
    let entry : RimEdge = c.entry-item.result in
    let p = λ (entry : RimEdge). entry.side == side in
    let f = placed_links a b side c.as_slice-across.result.now in
    let there : i < length a.rim = omega (arith, c.loop-entry-test.true, ap length c.as_slice-entry-items.ensures) in
    let is = c.entry-item.is ∙ ap (λ xs. get_or xs i entry) c.as_slice-entry-items.ensures in
    elim c.if-entry-side.branch [
      | then-entry-side+in_ok-push_entry_links w ↦
          one_more_kept p f a.rim i entry c.args.links.now.items c.loop-entry.links.items c.if-entry-side.links.items there is
          (eq-eqb entry.side side w.if-entry-side.true) c.loop-entry.invariant
          (ap (λ (v : Vec Link). v.items) w.links-is ∙ w.in_ok-push_entry_links.ensures)
      | else-entry-side w ↦
          one_more_left p f a.rim i entry c.args.links.now.items c.loop-entry.links.items c.if-entry-side.links.items there is
          (ne_eqb entry.side side w.if-entry-side.false) c.loop-entry.invariant
          (ap (λ (v : Vec Link). v.items) w.links-is)
    ]

pub side_places-requires : goal.side_places-requires
side_places-requires c =
    subst (All IsWithinField) (sym c.as_slice.ensures) (rim_within_field c.requires.setting c.args.b.now c.requires.second_fit)

pub push_entry_links-requires-clause-places : goal.push_entry_links-requires-clause-places
push_entry_links-requires-clause-places c =
    same_places _ (opposite c.args.side) c.as_slice.result.now c.args.b.now.rim c.in_ok-places.places.items c.as_slice-across.result.now
    c.in_ok-places.ensures (omega arith) c.as_slice.ensures (sym c.as_slice-across.ensures.value)

pub returns : goal.returns
returns c =
    let a = c.args.a.now in
    let are = same_places _ (opposite c.args.side) c.as_slice.result.now c.args.b.now.rim c.in_ok-places.places.items c.as_slice-across.result.now
    c.in_ok-places.ensures (omega arith) c.as_slice.ensures (sym c.as_slice-across.ensures.value) in
    gained a c.args.b.now c.args.side c.as_slice-across.result.now c.args.links.now.items c.loop-entry.links.items are.all
    (c.loop-entry.invariant
    ∙ ap (λ rim. c.args.links.now.items ++ flat_map (placed_links a c.args.b.now c.args.side c.as_slice-across.result.now) (along_side c.args.side rim))
    (take_all c.loop-entry.entry-index a.rim (omega (arith, c.loop-entry-test.false, ap length c.as_slice-entry-items.ensures))))
