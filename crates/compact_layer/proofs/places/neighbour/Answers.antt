use Rattle.std.proofs.Common.{List, ◌∙◌, sym, ap, subst}
use Rattle.nav_ground.specs.declared.cell.Cell.{Cell}
use Rattle.nav_ground.specs.Cells.{IsCompact, next_level}
use Rattle.nav_ground.specs.Directions.{number}
use Rattle.nav_ground.proofs.DirectionLaws.{number-below}
use Rattle.compact_layer.specs.Places.{neighbour_of}
use Rattle.compact_layer.proofs.Neighbours.{no_neighbour, neighbour_is, has_column}
use Rattle.compact_layer.proofs.places.neighbour.Goals as goal

pub returns-in_err-level : goal.returns-in_err-level
returns-in_err-level c =
    let cells = c.as_slice-cells.result.now in
    let here = c.index-cells-here.result in
    let dir = number c.of-toward.result in
    let rules' : IsCompact cells = subst IsCompact (sym c.as_slice-cells.ensures) c.requires.rules in
    c.from_residual.ensures
    ∙ no_neighbour cells c.args.at dir c.index_of-here.result here rules'.rules c.index_of-here.ensures.bound (c.index_of-here.ensures.at here)
    (ap (λ (cell : Cell). next_level cell dir) (sym c.index-cells-here.is) ∙ sym c.next.ensures ∙ c.in_err-level.was)
    ∙ ap (neighbour_of cells c.args.at) c.of-toward.ensures
    ∙ ap (λ (list : List Cell). neighbour_of list c.args.at c.args.dir) c.as_slice-cells.ensures

pub place_toward-requires : goal.place_toward-requires
place_toward-requires c =
    let cells = c.as_slice-cells.result.now in
    let here = c.index-cells-here.result in
    let dir = number c.of-toward.result in
    let rules' : IsCompact cells = subst IsCompact (sym c.as_slice-cells.ensures) c.requires.rules in
    has_column cells c.args.at dir c.in_ok-level.level c.index_of-here.result here rules' (number-below c.of-toward.result) c.index_of-here.ensures.bound
    (c.index_of-here.ensures.at here)
    (ap (λ (cell : Cell). next_level cell dir) (sym c.index-cells-here.is) ∙ sym c.next.ensures ∙ c.in_ok-level.was)

pub returns : goal.returns
returns c =
    let cells = c.as_slice-cells.result.now in
    let here = c.index-cells-here.result in
    let dir = number c.of-toward.result in
    let rules' : IsCompact cells = subst IsCompact (sym c.as_slice-cells.ensures) c.requires.rules in
    neighbour_is cells c.args.at c.place_toward.result dir c.in_ok-level.level c.index_of-here.result here rules' (number-below c.of-toward.result)
    c.index_of-here.ensures.bound (c.index_of-here.ensures.at here)
    (ap (λ (cell : Cell). next_level cell dir) (sym c.index-cells-here.is) ∙ sym c.next.ensures ∙ c.in_ok-level.was)
    c.place_toward.ensures.toward c.place_toward.ensures.level
    ∙ ap (neighbour_of cells c.args.at) c.of-toward.ensures
    ∙ ap (λ (list : List Cell). neighbour_of list c.args.at c.args.dir) c.as_slice-cells.ensures
