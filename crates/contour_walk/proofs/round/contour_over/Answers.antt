use Rattle.std.proofs.Common.{◌≡◌, ℕ, ◌<◌, ◌++◌, List, length, get_or, ap, ◌∙◌, sym, subst}
use Rattle.std.specs.Prelude.{All, take, drop}
use Rattle.mesh_types.specs.declared.region.Strip.{Strip}
use Rattle.mesh_types.specs.declared.region.UnitEdge.{UnitEdge}
use Rattle.mesh_types.specs.Contours.{strips_in}
use Rattle.contour_walk.specs.Tables.{IsFit}
use Rattle.contour_walk.specs.Walk.{edge_at, round}
use Rattle.contour_walk.proofs.Contoured.{strips_read, region_fits, walk_contour, walk_ring}
use Rattle.contour_walk.proofs.Fewness.{contour_few}
use Rattle.contour_walk.proofs.Loops.{written_back}
use Rattle.contour_walk.proofs.Earliest.{IsNoLater}
use Rattle.contour_walk.proofs.round.contour_over.Goals as goal

pub walk-requires-clause-fit : goal.walk-requires-clause-fit
walk-requires-clause-fit c =
    let P : List Strip → Type 0 = All IsFit in
    subst P (sym (strips_read c.args.rim.cells.now c.requires.rim.cells c.args.rim.regions.now c.requires.regions c.args.id c.requires.there c.as_slice.result.now
    c.index-as_slice-id.result c.as_slice-strips.result.now c.as_slice.ensures c.as_slice-strips.ensures))
    (region_fits c.args.rim.cells.now c.requires.rim.cells c.args.rim.regions.now c.requires.regions c.args.id c.requires.there)

-- the walk of the code, and what becomes of it
walked : (c : goal.After-from_vec) → c.in_ok-edges.edges.items ≡ round (edge_at c.args.rim.table.now.window c.args.rim.cells.now c.args.rim.regions.now) (strips_in c.args.rim.regions.now c.args.id)
walked c =
    c.in_ok-edges.ensures
    ∙ ap (round (edge_at c.args.rim.table.now.window c.args.rim.cells.now c.args.rim.regions.now))
    (strips_read c.args.rim.cells.now c.requires.rim.cells c.args.rim.regions.now c.requires.regions c.args.id c.requires.there c.as_slice.result.now
    c.index-as_slice-id.result c.as_slice-strips.result.now c.as_slice.ensures c.as_slice-strips.ensures)

turned : (c : goal.After-from_vec)
    → c.from_vec.result ≡ drop c.least_beginning-least.result c.in_ok-edges.edges.items ++ take c.least_beginning-least.result c.in_ok-edges.edges.items
turned c =
    let m = c.least_beginning-least.result in
    let same : c.in_ok-edges.edges.len ≡ length c.turn.new.edges =
    c.in_ok-edges.edges.ok.0 ∙ sym (ap length c.as_mut_slice.ensures.value) ∙ sym c.turn.auto.edges in
    c.from_vec.ensures
    ∙ written_back c.in_ok-edges.edges.len c.in_ok-edges.edges.items c.turn.new.edges same
    ∙ c.turn.ensures
    ∙ ap (λ (es : List UnitEdge). drop m es ++ take m es) c.as_mut_slice.ensures.value

pub returns-clause-contour : goal.returns-clause-contour
returns-clause-contour c =
    let m = c.least_beginning-least.result in
    let P : List UnitEdge → Type 0 = λ es. (0 < length es → m < length es)
    × ((k : ℕ) (d : UnitEdge) → k < length es → IsNoLater (get_or es m d).from (get_or es k d).from) in
    let least = subst P c.as_slice-2.ensures.value (c.least_beginning-least.ensures.there, c.least_beginning-least.ensures.least) in
    walk_contour c.args.rim.cells.now c.requires.rim.cells c.args.rim.regions.now c.requires.regions c.args.id c.requires.there c.args.rim.table.now.window
    c.in_ok-edges.edges.items c.from_vec.result m (walked c) (turned c) least.0 least.1

pub returns-clause-ring : goal.returns-clause-ring
returns-clause-ring c =
    walk_ring c.args.rim.cells.now c.requires.rim.cells c.args.rim.regions.now c.requires.regions c.args.id c.requires.there c.args.rim.table.now.window
    c.in_ok-edges.edges.items c.from_vec.result c.least_beginning-least.result (walked c) (turned c)

pub returns-clause-few : goal.returns-clause-few
returns-clause-few c =
    contour_few c.args.rim.table.now.window c.args.rim.cells.now c.args.rim.regions.now c.requires.regions c.args.id c.requires.there c.from_vec.result (returns-clause-contour c)
