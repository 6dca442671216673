-- The contours of two regions run along each other, and so their outlines share the edges between them.
use Rattle.std.proofs.Common.{◌≡◌, ℕ, zero, suc, ◌+◌, ◌<◌, ◌≤◌, Bool, true, false, List, [], ◌∷◌, ◌++◌, length, get_or, Option, Some, None, ap, ◌∙◌, sym, refl, subst, arith, inl, inr}
use Rattle.std.specs.Prelude.{All, Contains, Result, Ok, Err, is_some, nat_lt, if◌then◌else◌}
use Rattle.std.specs.List.{cons_option, filter_map, list_all, range_with_len}
use Rattle.std.proofs.lemmas.Bool.{and_parts, both_ways, cases_lt, false_from_ne_true, ltb-false}
use Rattle.std.proofs.lemmas.List.{get_or_default}
use Rattle.std.proofs.lemmas.List.Elements.{All-contains, Contains-append_left, Contains-append_right}
use Rattle.std.proofs.lemmas.List.FromFn.{get_or-range_with_len, length-range_with_len}
use Rattle.std.proofs.lemmas.List.Sorted.{All-permutation, Contains-permutation}
use Rattle.std.proofs.lemmas.List.Sums.{AllPass-from_list_all}
use Rattle.std.proofs.lemmas.Option.{none-some, same_Some}
use Rattle.nav_ground.specs.declared.cell.Cell.{Cell}
use Rattle.nav_ground.specs.declared.cell.CellRef.{CellRef}
use Rattle.nav_ground.specs.declared.cell.Window.{Window}
use Rattle.nav_ground.specs.Cells.{IsCut, is_toward}
use Rattle.nav_ground.specs.declared.setting.Setting.{Setting}
use Rattle.nav_ground.specs.Tiling.{IsInWindow, tile_window}
use Rattle.nav_ground.proofs.Directions.{both_equal, tests_of_equal}
use Rattle.nav_ground.proofs.FreeLayers.{names_one}
use Rattle.mesh_types.specs.declared.region.RegionPart.{RegionPart}
use Rattle.mesh_types.specs.declared.region.Outline as outlines
use Rattle.mesh_types.specs.declared.region.Simplified.TheVariants.{Flat, Outline}
use Rattle.mesh_types.specs.declared.region.Triangle.{Triangle}
use Rattle.mesh_types.specs.declared.region.Code.TheVariants.{Region}
use Rattle.mesh_types.specs.declared.region.Regions.{Regions}
use Rattle.mesh_types.specs.declared.region.UnitEdge.{UnitEdge}
use Rattle.mesh_types.specs.declared.region.Strip.{Strip}
use Rattle.mesh_types.specs.declared.mesh.TileMesh.{TileMesh}
use Rattle.mesh_types.specs.Parts.{cut_part, part_of, parts_of, region_numbers, region_part}
use Rattle.mesh_types.specs.Words.{no_part}
use Rattle.mesh_types.specs.Contours.{cell_in, region_at, rim_of, strips_in, contour_of}
use Rattle.mesh_types.specs.Ears.{ears_of}
use Rattle.mesh_types.specs.Merging.{merged}
use Rattle.mesh_types.specs.Regions.{AreRegionsOf, IsIn, IsStrip, place_in, regions_of}
use Rattle.mesh_types.specs.Simplified.{changes, does_change, kept_edges, simplified_of}
use Rattle.mesh_types.specs.FitTiles.{IsFit}
use Rattle.mesh_types.proofs.FacetLaws.{parts_are}
use Rattle.mesh_types.proofs.RegionLaws.{cell_there, own_region, stack, woven}
use Rattle.mono_regions.proofs.RegionsKept.{regions_kept}
use Rattle.contour_walk.specs.Walk.{bottoms, edge_at as walk_edge, left_side, right_side, round, to_left_end, top_side}
use Rattle.contour_walk.proofs.ContourRings.{contour_ring}
use Rattle.contour_mesh.specs.declared.build.ContourMesh.{ContourMesh}
use Rattle.contour_mesh.specs.declared.build.ContourMesh.TheVariants.{Made, NotCut}
use Rattle.contour_mesh.specs.Outcomes.{IfMade}
use Rattle.contour_mesh.specs.SharedEdges.{HasEdge, OutlinesShareEdges, ShareEdges}
use Rattle.contour_mesh.proofs.NeighbourRims.{HasOtherEdge, code_named, held_by, rims_meet}
use Rattle.contour_mesh.proofs.RingStops.{index_of}
use Rattle.contour_mesh.proofs.RingWalks.{IsBack, RunAlong, before_later, edge_at, some_edge, unchanged}
use Rattle.contour_mesh.proofs.SharedSteps.{edge_of_outline, edges_shared, outline_of}

-- ---- the walk round a region

-- the walk has the right end and the left end of its first strip
right_end : (edge : ℕ → Strip → ℕ → UnitEdge) (s : Strip) (rest : List Strip) → Contains (round edge (s ∷ rest)) (edge 2 s s.x1)
right_end edge s rest =
    Contains-append_right (bottoms edge s s.x0 (s.x1 + 1)) (right_side edge (s ∷ rest) ++ (top_side edge (s ∷ rest) ++ left_side edge (s ∷ rest))) (edge 2 s s.x1)
    (Contains-append_left (right_side edge (s ∷ rest)) (top_side edge (s ∷ rest) ++ left_side edge (s ∷ rest)) (edge 2 s s.x1) (by_rest rest))
  where
    by_rest : (rest : List Strip) → Contains (right_side edge (s ∷ rest)) (edge 2 s s.x1)
    by_rest [] = (0, omega arith, refl)
    by_rest (t ∷ rest) = (0, omega arith, refl)

left_end : (edge : ℕ → Strip → ℕ → UnitEdge) (s : Strip) (rest : List Strip) → Contains (round edge (s ∷ rest)) (edge 0 s s.x0)
left_end edge s rest =
    Contains-append_right (bottoms edge s s.x0 (s.x1 + 1)) (right_side edge (s ∷ rest) ++ (top_side edge (s ∷ rest) ++ left_side edge (s ∷ rest))) (edge 0 s s.x0)
    (Contains-append_right (right_side edge (s ∷ rest)) (top_side edge (s ∷ rest) ++ left_side edge (s ∷ rest)) (edge 0 s s.x0)
    (Contains-append_right (top_side edge (s ∷ rest)) (left_side edge (s ∷ rest)) (edge 0 s s.x0) (by_rest rest)))
  where
    by_rest : (rest : List Strip) → Contains (left_side edge (s ∷ rest)) (edge 0 s s.x0)
    by_rest [] = (0, omega arith, refl)
    by_rest (t ∷ rest) =
        Contains-append_right (left_side edge (t ∷ rest)) (to_left_end edge s t ++ edge 0 s s.x0 ∷ []) (edge 0 s s.x0)
        (Contains-append_right (to_left_end edge s t) (edge 0 s s.x0 ∷ []) (edge 0 s s.x0) (0, omega arith, refl))

-- ---- two contours

module _ (window : Window) (cells : List Cell) (regions : Regions) (cut : IsCut cells)
    (inside : All (λ (cell : Cell). IsInWindow window cell.at.x cell.at.z) cells) (are : AreRegionsOf cells regions) where
  -- an edge of a contour toward a region is one of that region's contour, turned round
  record IsTurned (p q k : ℕ) : Type 0 where
    place : ℕ
    there : place < length (contour_of window cells regions q)
    back : IsBack (edge_at (contour_of window cells regions p) k) (edge_at (contour_of window cells regions q) place) (Region p)
    apart : p ≡ q → ⊥

  turned : (p q k : ℕ) → p < length regions.regions → q < length regions.regions → k < length (contour_of window cells regions p)
      → (edge_at (contour_of window cells regions p) k).code ≡ Region q → IsTurned p q k
  turned p q k p-in q-in less coded =
      let E : List UnitEdge = contour_of window cells regions p in
      let F : List UnitEdge = contour_of window cells regions q in
      let P : UnitEdge → Type 0 = λ edge. edge.code ≡ Region q → HasOtherEdge window cells regions p q edge in
      let own = contour_ring window cells cut.rules regions are p p-in in
      let others = contour_ring window cells cut.rules regions are q q-in in
      let each = All-permutation P (rim_of window cells regions p) E own.rim (rims_meet window cells regions cut inside are p q p-in) in
      let found = each k some_edge less coded in
      let held = Contains-permutation (rim_of window cells regions q) F found.other others.rim found.listed in
      let same : found.other ≡ edge_at F held.0 = sym held.2 ∙ get_or_default F held.0 found.other some_edge held.1 in
      let Q : UnitEdge → Type 0 = λ e. IsBack (edge_at E k) e (Region p) in
      record { place = held.0; there = held.1; back = subst Q same found.back; apart = found.apart }

  run_along : (p q : ℕ) → p < length regions.regions → q < length regions.regions
      → RunAlong (contour_of window cells regions p) (contour_of window cells regions q) (Region q) (Region p)
  run_along p q p-in q-in = record {
    ring = (contour_ring window cells cut.rules regions are p p-in).ring;
    other = (contour_ring window cells cut.rules regions are q q-in).ring;
    forth = λ k less coded. let is = turned p q k p-in q-in less coded in (is.place, is.there, is.back);
    back = λ k less coded. let is = turned q p k q-in p-in less coded in (is.place, is.there, is.back);
  }

  -- rows of a region rise one by one, so that one strip is in a row
  row_of : (q k : ℕ) (d : Strip) → (there : q < length regions.regions) → k < length (strips_in regions q)
      → (get_or (strips_in regions q) k d).z ≡ (get_or (strips_in regions q) 0 d).z + k
  row_of q zero d there less = omega arith
  row_of q (suc k) d there less =
      let before = row_of q k d there (omega (arith, less)) in
      let upon = (stack cells regions are q there).upon k d (omega (arith, less)) in
      ap (λ j. (get_or (strips_in regions q) j d).z) {x = suc k} {y = k + 1} (omega arith) ∙ upon.row ∙ omega (arith, before)

  pub one_in_row : (q : ℕ) (s t : Strip) → q < length regions.regions → Contains (strips_in regions q) s → Contains (strips_in regions q) t → s.z ≡ t.z → s ≡ t
  one_in_row q s t there own own' same =
      let strips : List Strip = strips_in regions q in
      let at : get_or strips own'.0 s ≡ t = get_or_default strips own'.0 s t own'.1 ∙ own'.2 in
      let here = row_of q own.0 s there own.1 in
      let there' = row_of q own'.0 s there own'.1 in
      let z : (get_or strips own.0 s).z ≡ s.z = ap (λ (x : Strip). x.z) own.2 in
      let z' : (get_or strips own'.0 s).z ≡ t.z = ap (λ (x : Strip). x.z) at in
      let index : own.0 ≡ own'.0 = omega (arith, here, there', z, z', same) in
      sym own.2 ∙ ap (λ k. get_or strips k s) index ∙ at

  -- no region has another all round it
  not_all_round : (p q : ℕ) → p < length regions.regions → q < length regions.regions → (p ≡ q → ⊥)
      → ((edge : UnitEdge) → Contains (contour_of window cells regions p) edge → edge.code ≡ Region q) → ⊥
  not_all_round p q p-in q-in apart all = by_strips (strips_in regions p) refl
    where
      by_strips : (strips : List Strip) → strips_in regions p ≡ strips → ⊥
      by_strips [] is = omega (arith, (stack cells regions are p p-in).some, ap length is)
      by_strips (s ∷ rest) is =
          let ring = contour_ring window cells cut.rules regions are p p-in in
          let edge : ℕ → Strip → ℕ → UnitEdge = walk_edge window cells regions in
          let P : UnitEdge → List Strip → Type 0 = λ e strips. Contains (round edge strips) e in
          let left : UnitEdge = edge 0 s s.x0 in
          let right : UnitEdge = edge 2 s s.x1 in
          let left_code = all left (ring.walked left (subst (P left) (sym is) (left_end edge s rest))) in
          let right_code = all right (ring.walked right (subst (P right) (sym is) (right_end edge s rest))) in
          let Q : List Strip → Type 0 = λ strips. Contains strips s in
          let own : Contains (strips_in regions p) s = subst Q (sym is) (0, omega arith, refl) in
          let strip : IsStrip s = All-contains IsStrip (strips_in regions p) s (stack cells regions are p p-in).strips own in
          let in_left : IsIn s s.x0 = (omega arith, strip.some) in
          let in_right : IsIn s s.x1 = (strip.some, omega arith) in
          let a = cell_there cells (place_in s s.x0) ((woven cells regions are p p-in).there s s.x0 own in_left) in
          let b = cell_there cells (place_in s s.x1) ((woven cells regions are p p-in).there s s.x1 own in_right) in
          let cell : Cell = cell_in cells (place_in s s.x0) in
          let beyond = code_named window cells regions q 0 cell left_code in
          let beyond' = code_named window cells regions q 2 (cell_in cells (place_in s s.x1)) right_code in
          let l : CellRef = beyond.other.at in
          let r : CellRef = beyond'.other.at in
          let to_left = both_equal (l.x + 1) cell.at.x l.z cell.at.z (and_parts (is_toward 0 cell.at l) _ beyond.named).0 in
          let to_right = both_equal r.x ((cell_in cells (place_in s s.x1)).at.x + 1) r.z (cell_in cells (place_in s s.x1)).at.z
          (and_parts (is_toward 2 (cell_in cells (place_in s s.x1)).at r) _ beyond'.named).0 in
          let ax = ap (λ (at : CellRef). at.x) a.place in
          let az = ap (λ (at : CellRef). at.z) a.place in
          let bx = ap (λ (at : CellRef). at.x) b.place in
          let bz = ap (λ (at : CellRef). at.z) b.place in
          let held = held_by cells regions are q l beyond.region in
          let held' = held_by cells regions are q r beyond'.region in
          let t : Strip = held.strip in
          let tz = ap (λ (at : CellRef). at.z) held.place in
          let tz' = ap (λ (at : CellRef). at.z) held'.place in
          let same : t ≡ held'.strip = one_in_row q t held'.strip q-in held.own held'.own (omega (arith, tz, tz', to_left.1, to_right.1, az, bz)) in
          let end : r.x ≤ t.x1 = subst (λ (u : Strip). r.x ≤ u.x1) (sym same) held'.inside.1 in
          let within : IsIn t s.x0 = (omega (arith, held.inside.0, to_left.0, ax), omega (arith, end, to_right.0, bx, strip.some)) in
          let row : t.z ≡ s.z = omega (arith, tz, to_left.1, az) in
          let named = (woven cells regions are q q-in).connected 2 l.x s.x0 t t beyond.other (omega arith) held.own held.own held.inside within
          (tests_of_equal s.x0 (l.x + 1) t.z t.z (omega (arith, to_left.0, ax)) refl) beyond.own (sym held.place) in
          let back = cut.named_back 0 cell beyond.other (omega arith) a.own beyond.own beyond.named in
          let one : place_in t s.x0 ≡ cell.at = names_one 2 beyond.other (place_in t s.x0) cell.at (omega arith) named back in
          apart (same_Some p q
          (sym (own_region cells regions are p p-in s s.x0 own in_left) ∙ ap (region_at regions) (sym a.place ∙ sym one) ∙ own_region cells regions are q q-in t s.x0 held.own within))

  -- so the code of a contour that has an edge toward another region changes somewhere
  some_changes : (p q k : ℕ) → p < length regions.regions → q < length regions.regions → k < length (contour_of window cells regions p)
      → (edge_at (contour_of window cells regions p) k).code ≡ Region q → 0 < length (changes (contour_of window cells regions p))
  some_changes p q k p-in q-in less coded = elim (cases_lt 0 (length (changes E))) [
    | inl some ↦ some
    | inr none ↦ absurd (not_all_round p q p-in q-in (turned p q k p-in q-in less coded).apart
        (λ edge held. ap (λ (e : UnitEdge). e.code) (sym held.2 ∙ get_or_default E held.0 edge some_edge held.1) ∙ all_same none held.0 held.1 ∙ sym (all_same none k less) ∙ coded))
  ]
    where
      E : List UnitEdge
      E = contour_of window cells regions p

      -- where it never does, all edges have the code of the first
      all_same : length (changes (contour_of window cells regions p)) ≤ 0 → (i : ℕ) → i < length (contour_of window cells regions p)
          → (edge_at (contour_of window cells regions p) i).code ≡ (edge_at (contour_of window cells regions p) 0).code
      all_same none zero there = refl
      all_same none (suc i) there =
          let never = false_from_ne_true (does_change E (suc i)) (λ h. omega (arith, none, (index_of (length E) (does_change E) (suc i) there h).1)) in
          sym (unchanged E (suc i) never)
          ∙ ap (λ j. (edge_at E j).code) (before_later (length E) (suc i) (omega arith) ∙ omega arith)
          ∙ all_same none i (omega (arith, there))

-- ---- the parts of a tile

-- what a look-up that always finds gives at a place
found_at : {Y : Type 0} (h : ℕ → Option Y) (first count k : ℕ) (d : Y) → ((i : ℕ) → first ≤ i → i < first + count → is_some (h i) ≡ true) → k < count
    → (h (first + k) ≡ Some (get_or (filter_map h (range_with_len first count)) k d)) × (k < length (filter_map h (range_with_len first count)))
found_at h first zero k d each less = absurd (omega (arith, less))
found_at {Y = Y} h first (suc count) k d each less =
    by_case (h first) refl k less (λ j inside. found_at h (first + 1) count j d (λ i least most. each i (omega (arith, least)) (omega (arith, most))) inside)
  where
    rest : List Y
    rest = filter_map h (range_with_len (first + 1) count)

    by_case : (o : Option Y) → h first ≡ o → (k : ℕ) → k < suc count
        → ((j : ℕ) → j < count → (h (first + 1 + j) ≡ Some (get_or (filter_map h (range_with_len (first + 1) count)) j d)) × (j < length (filter_map h (range_with_len (first + 1) count))))
        → (h (first + k) ≡ Some (get_or (cons_option o (filter_map h (range_with_len (first + 1) count))) k d))
        × (k < length (cons_option o (filter_map h (range_with_len (first + 1) count))))
    by_case None is k inside further = absurd (both_ways (is_some (h first)) (ap is_some is) (each first (omega arith) (omega arith)))
    by_case (Some y) is zero inside further = (ap h {x = first + 0} {y = first} (omega arith) ∙ is, omega arith)
    by_case (Some y) is (suc k) inside further =
        let later = further k (omega (arith, inside)) in
        (ap h {x = first + suc k} {y = first + 1 + k} (omega arith) ∙ later.0, omega (arith, later.1))

-- each region has its part
pub part_found : (window : Window) (error : ℕ) (cells : List Cell) (regions : Regions) (parts : List RegionPart) → parts_of window error cells regions ≡ Some parts
    → (p : ℕ) → p < length regions.regions → (p < length parts) × (region_part window error cells regions p ≡ Some (get_or parts p no_part))
unfolding parts_of
part_found window error cells regions parts is p inside = by_case (list_all (λ id. is_some (region_part window error cells regions id)) (region_numbers regions)) refl is
  where
    h : ℕ → Option RegionPart
    h = region_part window error cells regions

    n : ℕ
    n = length regions.regions

    by_case : (b : Bool) → list_all (λ id. is_some (region_part window error cells regions id)) (region_numbers regions) ≡ b
        → (if b then Some (filter_map (region_part window error cells regions) (region_numbers regions)) else None) ≡ Some parts
        → (p < length parts) × (region_part window error cells regions p ≡ Some (get_or parts p no_part))
    by_case false all made = absurd (none-some parts made)
    by_case true all made =
        let same : filter_map h (region_numbers regions) ≡ parts = same_Some (filter_map h (region_numbers regions)) parts made in
        let each = AllPass-from_list_all (λ id. is_some (h id)) (region_numbers regions) all in
        let at = found_at h 0 n p no_part
        (λ i least most.
        let most' : i < n = omega (arith, most) in
        ap (λ k. is_some (h k)) (sym (get_or-range_with_len 0 n i i most' ∙ omega arith)) ∙ each i i (omega (arith, most', length-range_with_len 0 n))) inside in
        (omega (arith, at.1, ap length same), ap h {x = p} {y = 0 + p} (omega arith) ∙ at.0 ∙ ap (λ ps. Some (get_or ps p no_part)) same)

-- the outline of a part is what its contour keeps
pub record IsOutlineOf (error : ℕ) (edges : List UnitEdge) (part : RegionPart) : Type 0 where
  pub is : part.outline ≡ outline_of error edges
  pub enough : 3 ≤ length (kept_edges error edges)

pub part_outline : (error : ℕ) (edges : List UnitEdge) (part : RegionPart) → part_of (simplified_of error edges) ≡ Some part → IsOutlineOf error edges part
unfolding simplified_of
part_outline error edges part is = by_case (nat_lt (length (kept_edges error edges)) 3) refl is
  where
    by_cut : (r : Result (List Triangle) (List ℕ)) → cut_part (outline_of error edges) r ≡ Some part → part.outline ≡ outline_of error edges
    by_cut (Ok triangles) same =
        ap (λ (x : RegionPart). x.outline) (sym (same_Some (record { outline = outline_of error edges; pieces = merged (outline_of error edges).corners triangles }) part same))
    by_cut (Err left) same = absurd (none-some part same)

    by_case : (b : Bool) → nat_lt (length (kept_edges error edges)) 3 ≡ b → part_of (if b then Flat else Outline (outline_of error edges)) ≡ Some part
        → IsOutlineOf error edges part
    by_case true few same = absurd (none-some part same)
    by_case false many same =
        record { is = by_cut (ears_of (outline_of error edges).corners) same; enough = ltb-false (length (kept_edges error edges)) 3 many }

-- where the outline of a region has an edge along another region, that one's has it too
pub outlines_share : (window : Window) (error : ℕ) (cells : List Cell) (regions : Regions) (parts : List RegionPart) → IsCut cells
    → All (λ (cell : Cell). IsInWindow window cell.at.x cell.at.z) cells → AreRegionsOf cells regions → parts_of window error cells regions ≡ Some parts → ShareEdges parts
outlines_share window error cells regions parts cut inside are made p q from to p-in q-in edge =
    let E : List UnitEdge = contour_of window cells regions p in
    let F : List UnitEdge = contour_of window cells regions q in
    let few = (parts_are window cells cut.rules regions are inside error parts made).few in
    let p-there : p < length regions.regions = omega (arith, p-in, few) in
    let q-there : q < length regions.regions = omega (arith, q-in, few) in
    let outline = (part_outline error E (get_or parts p no_part) (part_found window error cells regions parts made p p-there).1).is in
    let outline' = (part_outline error F (get_or parts q no_part) (part_found window error cells regions parts made q q-there).1).is in
    let P : outlines.Outline → Type 0 = λ o. HasEdge o from to (Region q) in
    let Q : outlines.Outline → Type 0 = λ o. HasEdge o to from (Region p) in
    let has = subst P outline edge in
    let at = edge_of_outline error E from to (Region q) has in
    let is = turned window cells regions cut inside are p q at.place p-there q-there at.there at.coded in
    subst Q (sym outline')
    (edges_shared error E F (Region q) (Region p) (run_along window cells regions cut inside are p q p-there q-there)
    (some_changes window cells regions cut inside are p q at.place p-there q-there at.there at.coded)
    (some_changes window cells regions cut inside are q p is.place q-there p-there is.there is.back.coded) from to has)

-- so it is in each tile that is made
tile_shares : (setting : Setting) (tile : TileMesh) → IsFit setting tile → OutlinesShareEdges setting tile.free
tile_shares setting tile fit parts made =
    let P : ℕ → Type 0 = λ n. All (λ (cell : Cell). IsInWindow (tile_window setting n) cell.at.x cell.at.z) tile.free.cells in
    outlines_share (tile_window setting tile.free.tile) setting.error tile.free.cells (regions_of tile.free.cells) parts fit.free
    (subst P (sym fit.of_tile) fit.in_tile.inside) (regions_kept tile.free.cells fit.free) made

pub made_shares : (setting : Setting) (made : ContourMesh) → IfMade (IsFit setting) made → IfMade (λ (tile : TileMesh). OutlinesShareEdges setting tile.free) made
made_shares setting (Made tile) fit = tile_shares setting tile fit
made_shares setting (NotCut free strips) fit = fit
