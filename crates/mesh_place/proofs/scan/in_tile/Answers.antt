use Rattle.std.proofs.Common.{◌≡◌, ℕ, ◌+◌, ◌*◌, ◌≤◌, length, refl, sym, ap, ◌∙◌, subst, arith}
use Rattle.std.specs.Prelude.{Option, Some, option_and_then, slice_get}
use Rattle.std.proofs.lemmas.Bool.{iff_false}
use Rattle.mesh_types.specs.declared.mesh.TileMesh.{TileMesh}
use Rattle.mesh_types.proofs.MeshPolygons.{tile_at}
use Rattle.mesh_locate.proofs.Reached.{box_there}
use Rattle.mesh_place.specs.Searches.{IsFoundAmong}
use Rattle.mesh_place.proofs.ScanLaws.{in_box}
use Rattle.std.proofs.lemmas.Option.{slice_get_read}
use Rattle.nav_base.specs.Deviation.{square_of}
use Rattle.nav_base.specs.Point.{from_to}
use Rattle.mesh_types.specs.declared.links.PolyRef.{PolyRef}
use Rattle.mesh_types.specs.declared.storeys.MeshPlace.{MeshPlace}
use Rattle.mesh_place.specs.declared.bounds.ReachSquare.{ReachSquare}
use Rattle.mesh_place.specs.Bounds.{IsNearTo, Meets, limit_of}
use Rattle.mesh_place.proofs.BoundLaws.{adds, meets_square, none_near, tile_floor}
use Rattle.mesh_place.proofs.SearchLaws.{either_within, found_measurable, passed, more, fewer, no_less}
use Rattle.mesh_place.proofs.TileScan.{IsEarlier, no_earlier, next_polygon, all_polygons}
use Rattle.mesh_place.proofs.scan.in_tile.Goals as goal
use Rattle.mesh_place.proofs.scan.in_tile.Goals.{then-meets, else-meets}

pub returns-in_default : goal.returns-in_default
returns-in_default c =
    let mesh = c.args.mesh.now in
    let asked = c.args.asked.now in
    let tile = c.get-here.result.now in
    let there : slice_get mesh.tiles c.args.tile ≡ Some tile =
    slice_get_read mesh.tiles (length mesh.tiles) c.args.tile c.at.result.now refl c.requires.there c.at.ensures ∙ ap Some (sym c.get-here.ensures) in
    passed mesh asked c.args.best (λ (other : MeshPlace). other.polygon.tile ≡ c.args.tile) c.requires.best
    (none_near mesh asked c.whole.result.floors (λ (other : MeshPlace). other.polygon.tile ≡ c.args.tile) c.in_default.ensures.part
    (tile_floor mesh c.args.tile tile c.whole.result.floors there c.whole.ensures.floors))

pub reach_left-requires-clause-best : goal.reach_left-requires-clause-best
reach_left-requires-clause-best c = found_measurable c.args.mesh.now c.args.asked.now c.args.best c.requires.sound c.requires.best

pub loop-i-init : goal.loop-i-init
loop-i-init c =
    let asked = c.args.asked.now in
    let reach = c.square_around-square.result.reach in
    passed c.args.mesh.now asked c.args.best (λ (other : MeshPlace). IsEarlier c.args.tile 0 other × IsNearTo asked reach other) c.requires.best
    (λ other stands near one. no_earlier c.args.tile other one.0)

pub meets-requires-clause-low : goal.meets-requires-clause-low
meets-requires-clause-low c =
    let mesh = c.args.mesh.now in
    let tile = c.get-here.result.now in
    let there : slice_get mesh.tiles c.args.tile ≡ Some tile =
    slice_get_read mesh.tiles (length mesh.tiles) c.args.tile c.at.result.now refl c.requires.there c.at.ensures ∙ ap Some (sym c.get-here.ensures) in
    let polygons = (tile_at mesh c.args.tile tile c.requires.sound there).fit.polys in
    (box_there tile.polys c.loop-i.i c.extent.result c.extent.ensures polygons (omega (arith, c.len-i-end.ensures, c.loop-i-test.true))).low

pub meets-requires-clause-high : goal.meets-requires-clause-high
meets-requires-clause-high c =
    let mesh = c.args.mesh.now in
    let tile = c.get-here.result.now in
    let there : slice_get mesh.tiles c.args.tile ≡ Some tile =
    slice_get_read mesh.tiles (length mesh.tiles) c.args.tile c.at.result.now refl c.requires.there c.at.ensures ∙ ap Some (sym c.get-here.ensures) in
    let polygons = (tile_at mesh c.args.tile tile c.requires.sound there).fit.polys in
    (box_there tile.polys c.loop-i.i c.extent.result c.extent.ensures polygons (omega (arith, c.len-i-end.ensures, c.loop-i-test.true))).high

pub in_other-nearest-requires-clause-tile : goal.in_other-nearest-requires-clause-tile
in_other-nearest-requires-clause-tile c =
    let mesh = c.args.mesh.now in
    slice_get_read mesh.tiles (length mesh.tiles) c.args.tile c.at.result.now refl c.requires.there c.at.ensures ∙ ap Some (sym c.get-here.ensures)

pub in_other-nearest-requires-clause-best : goal.in_other-nearest-requires-clause-best
in_other-nearest-requires-clause-best c = c.loop-i.invariant.found

pub in_other-nearest-requires-clause-done : goal.in_other-nearest-requires-clause-done
in_other-nearest-requires-clause-done c = λ other stands near one. c.loop-i.invariant.kept other (c.requires.done other stands near one)

pub loop-i-preserved : goal.loop-i-preserved
loop-i-preserved c =
    let mesh = c.args.mesh.now in
    let asked = c.args.asked.now in
    let tile = c.get-here.result.now in
    let square = c.square_around-square.result in
    let extent = c.extent.result in
    let at : PolyRef = record { tile = c.args.tile; index = c.loop-i.i } in
    let near : MeshPlace → Type 0 = λ (other : MeshPlace). (other.polygon ≡ at) × IsNearTo asked square.reach other in
    let there : slice_get mesh.tiles c.args.tile ≡ Some tile =
    slice_get_read mesh.tiles (length mesh.tiles) c.args.tile c.at.result.now refl c.requires.there c.at.ensures ∙ ap Some (sym c.get-here.ensures) in
    let here : IsFoundAmong mesh asked c.loop-i.nearest c.if-meets.nearest near =
    elim c.if-meets.branch [
      | then-meets w ↦
          subst (λ (found : Option MeshPlace). IsFoundAmong mesh asked c.loop-i.nearest found near) (sym w.nearest-is)
          (fewer mesh asked c.loop-i.nearest w.in_other-nearest.result (λ (other : MeshPlace). other.polygon ≡ at) near w.in_other-nearest.ensures
          (λ other stands near' one. one.0))
      | else-meets w ↦
          subst (λ (found : Option MeshPlace). IsFoundAmong mesh asked c.loop-i.nearest found near) (sym w.nearest-is)
          (passed mesh asked c.loop-i.nearest near c.loop-i.invariant.found
          (λ other stands near' one.
          iff_false c.meets.ensures w.if-meets.false
          (subst (λ (s : ReachSquare). Meets s extent) (sym c.square_around-square.ensures)
          (meets_square extent asked.point other.point c.reach_left.result
          (in_box mesh tile.polys at extent (ap (option_and_then (λ (d : TileMesh). slice_get d.polys at.index)) there) c.extent.ensures
          (tile_at mesh c.args.tile tile c.requires.sound there).fit.polys (omega (arith, c.len-i-end.ensures, c.loop-i-test.true)) other stands one.0)
          (subst (λ (n : ℕ). square_of (from_to asked.point other.point) ≤ n * n) (ap (λ (s : ReachSquare). s.reach) c.square_around-square.ensures) one.1)))))
    ] in
    more mesh asked c.args.best c.loop-i.nearest c.if-meets.nearest
    (λ (other : MeshPlace). IsEarlier c.args.tile c.loop-i.i other × IsNearTo asked square.reach other) near
    (λ (other : MeshPlace). IsEarlier c.args.tile (c.loop-i.i + 1) other × IsNearTo asked square.reach other)
    c.loop-i.invariant here
    (λ other stands near' one. either_within (next_polygon c.args.tile c.loop-i.i other one.0) one.1)

pub returns : goal.returns
returns c =
    let mesh = c.args.mesh.now in
    let asked = c.args.asked.now in
    let reach = c.square_around-square.result.reach in
    let tile = c.get-here.result.now in
    let there : slice_get mesh.tiles c.args.tile ≡ Some tile =
    slice_get_read mesh.tiles (length mesh.tiles) c.args.tile c.at.result.now refl c.requires.there c.at.ensures ∙ ap Some (sym c.get-here.ensures) in
    let among : MeshPlace → Type 0 = λ (other : MeshPlace). other.polygon.tile ≡ c.args.tile in
    no_less mesh asked c.args.best c.loop-i.nearest c.in-Some.part reach among
    (adds mesh asked c.whole.result.floors c.in-Some.part among c.in-Some.ensures.part
    (tile_floor mesh c.args.tile tile c.whole.result.floors there c.whole.ensures.floors))
    (subst (λ (n : ℕ). limit_of mesh.setting.agent.climb asked c.in-Some.part c.args.best ≤ n * n) (sym (ap (λ (s : ReachSquare). s.reach) c.square_around-square.ensures))
    c.reach_left.ensures.enough)
    (fewer mesh asked c.args.best c.loop-i.nearest (λ (other : MeshPlace). IsEarlier c.args.tile c.loop-i.i other × IsNearTo asked reach other)
    (λ (other : MeshPlace). among other × IsNearTo asked reach other) c.loop-i.invariant
    (λ other stands near one. (all_polygons mesh c.args.tile c.len-i-end.result c.loop-i.i tile there c.len-i-end.ensures c.loop-i-test.false other stands one.0, one.1)))
