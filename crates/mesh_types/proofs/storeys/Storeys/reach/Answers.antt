use Rattle.std.proofs.Common.{◌≡◌, ◌<◌, List, length, ap, ◌∙◌, sym, subst, arith}
use Rattle.std.proofs.lemmas.Slice.Zip.{AllZip-long}
use Rattle.mesh_types.specs.declared.reaches.StoreyReach.{StoreyReach}
use Rattle.mesh_types.specs.declared.storeys.Storey.{Storey}
use Rattle.mesh_types.specs.Reaches.{AreReaches, IsReach}
use Rattle.mesh_types.specs.Storeys.{TileStoreys}
use Rattle.mesh_types.proofs.ReachLaws.{reach-of}
use Rattle.mesh_types.proofs.storeys.Storeys.reach.Goals as goal

pub bounds-as_slice-storey : goal.bounds-as_slice-storey
bounds-as_slice-storey c =
    let long = AllZip-long IsReach c.self.inside.list c.self.inside.reaches c.self.invariant.1 in
    let list = ap (λ (storeys : TileStoreys). length storeys.list) c.self.view_is in
    let read = ap (λ (all : List StoreyReach). length all) c.as_slice.ensures in
    omega (arith, long, list, read, c.requires)

pub offset_bounds-as_slice-storey : goal.offset_bounds-as_slice-storey
offset_bounds-as_slice-storey c = let below = bounds-as_slice-storey c in omega (arith, below)

pub returns : goal.returns
returns c it there =
    let list = ap (λ (storeys : TileStoreys). storeys.list) c.self.view_is in
    let all : AreReaches c.self.inside.list c.as_slice.result.now = subst (AreReaches c.self.inside.list) (sym c.as_slice.ensures) c.self.invariant.1 in
    reach-of c.args.self.now.list c.as_slice.result.now c.args.storey it _ (subst (λ (them : List Storey). AreReaches them c.as_slice.result.now) list all) there
