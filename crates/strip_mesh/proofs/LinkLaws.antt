-- The links between strips lead through their portals from the one rectangle into the other.
use Rattle.std.proofs.Common.{◌≡◌, ℕ, ◌+◌, ◌<◌, ◌≤◌, length, List, [], map, get_or, ap, ◌∙◌, sym, arith, zero, suc, true}
use Rattle.std.specs.Prelude.{Some, None, slice_get}
use Rattle.std.proofs.lemmas.Bool.{and_parts}
use Rattle.std.proofs.lemmas.List.{get_or-map, length-map}
use Rattle.std.proofs.lemmas.Option.{slice_get-get_or}
use Rattle.nav_ground.specs.declared.cell.Cell.{Cell}
use Rattle.nav_ground.specs.declared.cell.CellRef.{CellRef}
use Rattle.nav_ground.specs.Cells.{IsCut, is_naming, is_toward}
use Rattle.nav_ground.proofs.Directions.{both_equal}
use Rattle.mesh_types.specs.declared.region.LabelRun.{LabelRun}
use Rattle.mesh_types.specs.declared.polygon.Polygon.{Polygon}
use Rattle.mesh_types.specs.Portals.{LeadsThrough}
use Rattle.mesh_types.specs.StripPolygons.{some_cell, first_of, strip_runs, strip_polygon}
use Rattle.mesh_types.specs.StripLinks.{strip_beyond, strip_link, outside_of}
use Rattle.mesh_types.proofs.RunLaws.{IsRunOf}
use Rattle.strip_mesh.proofs.PortalLaws.{MeetsAt, LiesBeyond, portal_out, portal_in}
use Rattle.strip_mesh.proofs.RowLaws.{IsRow, row_is, IsBeyond, beyond_found, own_ends_meet, own_named_back}

-- the column that a cell names in a direction
named_left : (from : Cell) (to : CellRef) → is_naming 0 from to ≡ true → (to.x + 1 ≡ from.at.x) × (to.z ≡ from.at.z)
named_left from to named = both_equal (to.x + 1) (from.at.x) (to.z) (from.at.z) (and_parts (is_toward 0 from.at to) _ named).0

named_above : (from : Cell) (to : CellRef) → is_naming 1 from to ≡ true → (to.x ≡ from.at.x) × (to.z ≡ from.at.z + 1)
named_above from to named = both_equal (to.x) (from.at.x) (to.z) (from.at.z + 1) (and_parts (is_toward 1 from.at to) _ named).0

named_right : (from : Cell) (to : CellRef) → is_naming 2 from to ≡ true → (to.x ≡ from.at.x + 1) × (to.z ≡ from.at.z)
named_right from to named = both_equal (to.x) (from.at.x + 1) (to.z) (from.at.z) (and_parts (is_toward 2 from.at to) _ named).0

named_below : (from : Cell) (to : CellRef) → is_naming 3 from to ≡ true → (to.x ≡ from.at.x) × (to.z + 1 ≡ from.at.z)
named_below from to named = both_equal (to.x) (from.at.x) (to.z + 1) (from.at.z) (and_parts (is_toward 3 from.at to) _ named).0

-- where a cell of another row is that a cell of one names
pub seen_left : (own other : List Cell) → IsRow own → IsRow other → (k j : ℕ) → k < length own → j < length other
    → is_naming 0 (get_or own k some_cell) (get_or other j some_cell).at ≡ true
    → ((first_of other).at.x + j + 1 ≡ (first_of own).at.x + k) × ((first_of other).at.z ≡ (first_of own).at.z)
seen_left own other row row' k j k-in j-in named =
    let e = named_left (get_or own k some_cell) (get_or other j some_cell).at named in
    (omega (arith, e.0, row.x k some_cell k-in, row'.x j some_cell j-in), omega (arith, e.1, row.z k some_cell k-in, row'.z j some_cell j-in))

pub seen_above : (own other : List Cell) → IsRow own → IsRow other → (k j : ℕ) → k < length own → j < length other
    → is_naming 1 (get_or own k some_cell) (get_or other j some_cell).at ≡ true
    → ((first_of other).at.x + j ≡ (first_of own).at.x + k) × ((first_of other).at.z ≡ (first_of own).at.z + 1)
seen_above own other row row' k j k-in j-in named =
    let e = named_above (get_or own k some_cell) (get_or other j some_cell).at named in
    (omega (arith, e.0, row.x k some_cell k-in, row'.x j some_cell j-in), omega (arith, e.1, row.z k some_cell k-in, row'.z j some_cell j-in))

pub seen_right : (own other : List Cell) → IsRow own → IsRow other → (k j : ℕ) → k < length own → j < length other
    → is_naming 2 (get_or own k some_cell) (get_or other j some_cell).at ≡ true
    → ((first_of other).at.x + j ≡ (first_of own).at.x + k + 1) × ((first_of other).at.z ≡ (first_of own).at.z)
seen_right own other row row' k j k-in j-in named =
    let e = named_right (get_or own k some_cell) (get_or other j some_cell).at named in
    (omega (arith, e.0, row.x k some_cell k-in, row'.x j some_cell j-in), omega (arith, e.1, row.z k some_cell k-in, row'.z j some_cell j-in))

pub seen_below : (own other : List Cell) → IsRow own → IsRow other → (k j : ℕ) → k < length own → j < length other
    → is_naming 3 (get_or own k some_cell) (get_or other j some_cell).at ≡ true
    → ((first_of other).at.x + j ≡ (first_of own).at.x + k) × ((first_of other).at.z + 1 ≡ (first_of own).at.z)
seen_below own other row row' k j k-in j-in named =
    let e = named_below (get_or own k some_cell) (get_or other j some_cell).at named in
    (omega (arith, e.0, row.x k some_cell k-in, row'.x j some_cell j-in), omega (arith, e.1, row.z k some_cell k-in, row'.z j some_cell j-in))

-- where a part of a strip meets the strip beyond
pub placed : (cells : List Cell) → IsCut cells → (edge s label first last : ℕ) → s < length (strip_runs cells) → edge < 4 → first ≤ last
    → last < length (get_or (strip_runs cells) s [])
    → IsBeyond (strip_runs cells) s (outside_of edge) label (get_or (get_or (strip_runs cells) s []) first some_cell)
    → IsBeyond (strip_runs cells) s (outside_of edge) label (get_or (get_or (strip_runs cells) s []) last some_cell)
    → MeetsAt edge (get_or (strip_runs cells) s []) first last × LiesBeyond edge (get_or (strip_runs cells) s []) (get_or (strip_runs cells) label []) first last
placed cells cut zero s label first last there small order inside f l =
    let row = row_is cells cut s there in
    let row' = row_is cells cut label f.there in
    let a = seen_below _ _ row row' first f.place (omega (arith, order, inside)) f.inside f.named in
    let b = seen_below _ _ row row' last l.place inside l.inside l.named in
    let l-in = l.inside in
    (tt, (a.1, omega (arith, a.0), omega (arith, b.0, l-in)))
placed cells cut (suc zero) s label first last there small order inside f l =
    let row = row_is cells cut s there in
    let row' = row_is cells cut label f.there in
    let b = seen_right _ _ row row' last l.place inside l.inside l.named in
    let meet = own_ends_meet cells cut s label last l.place there l.there l.apart inside l.inside l.named in
    (meet.0, (b.1, omega (arith, b.0, meet.1)))
placed cells cut (suc (suc zero)) s label first last there small order inside f l =
    let row = row_is cells cut s there in
    let row' = row_is cells cut label f.there in
    let a = seen_above _ _ row row' first f.place (omega (arith, order, inside)) f.inside f.named in
    let b = seen_above _ _ row row' last l.place inside l.inside l.named in
    let l-in = l.inside in
    (tt, (a.1, omega (arith, a.0), omega (arith, b.0, l-in)))
placed cells cut (suc (suc (suc zero))) s label first last there small order inside f l =
    let row = row_is cells cut s there in
    let row' = row_is cells cut label f.there in
    let first-in : first < length (get_or (strip_runs cells) s []) = omega (arith, order, inside) in
    let a = seen_left _ _ row row' first f.place first-in f.inside f.named in
    let back = own_named_back cells cut 0 s label first f.place (omega arith) there f.there first-in f.inside f.named in
    let meet = own_ends_meet cells cut label s f.place first f.there there (λ e. f.apart (sym e)) f.inside first-in back in
    (meet.1, (a.1, omega (arith, a.0, meet.0)))
placed cells cut (suc (suc (suc (suc edge)))) s label first last there small order inside f l = absurd (omega (arith, small))

pub polygon_there : (runs : List (List Cell)) (s : ℕ) → s < length runs → slice_get (map strip_polygon runs) s ≡ Some (strip_polygon (get_or runs s []))
polygon_there runs s there =
    slice_get-get_or (map strip_polygon runs) s (strip_polygon []) (omega (arith, there, length-map runs strip_polygon))
    ∙ ap (λ (p : Polygon). Some p) (get_or-map strip_polygon runs s [] (strip_polygon []) there)

-- a link leads through its portal
pub link_leads : (cells : List Cell) → IsCut cells → (tile s edge : ℕ) (part : LabelRun) → s < length (strip_runs cells) → edge < 4
    → IsRunOf (map (strip_beyond (strip_runs cells) s (outside_of edge)) (get_or (strip_runs cells) s [])) part
    → LeadsThrough (slice_get (map strip_polygon (strip_runs cells)) s) (slice_get (map strip_polygon (strip_runs cells)) part.label)
    (strip_link tile (get_or (strip_runs cells) s []) s edge part)
link_leads cells cut tile s edge part there small is =
    let runs = strip_runs cells in
    let own = get_or runs s [] in
    let beyond = strip_beyond runs s (outside_of edge) in
    let order : part.first ≤ part.last = is.order in
    let last-in : part.last < length own = omega (arith, is.inside, length-map own beyond) in
    let first-in : part.first < length own = omega (arith, last-in, order) in
    let f = beyond_found runs s (outside_of edge) part.label (get_or own part.first some_cell)
    (sym (get_or-map beyond own part.first some_cell None first-in) ∙ is.labelled part.first (omega arith) order) in
    let l = beyond_found runs s (outside_of edge) part.label (get_or own part.last some_cell)
    (sym (get_or-map beyond own part.last some_cell None last-in) ∙ is.labelled part.last order (omega arith)) in
    let at = placed cells cut edge s part.label part.first part.last there small order last-in f l in
    record {
      leaves = strip_polygon own;
      is_left = polygon_there runs s there;
      out = portal_out edge own part.first part.last small order last-in at.0;
      enters = strip_polygon (get_or runs part.label []);
      is_entered = polygon_there runs part.label f.there;
      into = portal_in edge own (get_or runs part.label []) part.first part.last small order (row_is cells cut part.label f.there).some at.1;
    }
