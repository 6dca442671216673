-- Footings of regions, cell by cell.
use Rattle.std.proofs.Common.{◌≡◌, ℕ, ◌+◌, ◌<◌, ◌≤◌, true, false, cond, min, max, length, List, [], ◌∷◌, ◌++◌, map, take, drop, filter, get_or, Option, Some, None, ap, ◌∙◌, sym, refl, subst, arith, inl, inr}
use Rattle.std.specs.Prelude.{◌==◌, nat_lt, fold, unwrap_or}
use Rattle.std.specs.Option.{option_map_or}
use Rattle.std.proofs.lemmas.Bool.{cases_eq, cases_lt, cond-false, cond-true, eq-eqb, le-ltb, lt-ltb, ne_eqb}
use Rattle.std.proofs.Math.Seq.{take-append_seam}
use Rattle.std.proofs.lemmas.List.{append-nil, get_or-map, get_or_default, get_or_past}
use Rattle.std.proofs.lemmas.List.Elements.{filter_more}
use Rattle.std.proofs.lemmas.List.Sums.{fold-append}
use Rattle.nav_ground.specs.declared.cell.Cell.{Cell}
use Rattle.mesh_types.specs.declared.region.Regions.{Regions}
use Rattle.mesh_types.specs.Contours.{region_at}
use Rattle.mesh_types.specs.StripPolygons.{first_of, low_of, high_of}
use Rattle.mesh_types.specs.Facets.{Facet, cells_of, facet_polygon}
use Rattle.mesh_types.proofs.Words.{is_of}
use Rattle.contour_walk.specs.Tables.{owner_of}
use Rattle.contour_mesh.specs.declared.parts.RegionFloors.{RegionFloors}
use Rattle.contour_mesh.specs.Footings.{AreFootings, footing_with, footing_of, no_footing, polygon_over, facet_over_footing}

-- the region of a cell, by the number of the first region that holds it
pub region_here : (regions : Regions) (cell : Cell) (o : ℕ) → o ≡ owner_of regions.regions cell
    → region_at regions cell.at ≡ (cond (nat_lt o (length regions.regions)) (Some o) None)
region_here regions cell o is = ap (λ n. cond (nat_lt n (length regions.regions)) (Some n) None) (sym is)

-- the number in a table of owners
pub owner_at : (cells : List Cell) (regions : Regions) (owners owners' : List ℕ) (k : ℕ) (d : Cell) → owners' ≡ map (owner_of regions.regions) cells → owners ≡ owners'
    → k < length cells → get_or owners k 0 ≡ owner_of regions.regions (get_or cells k d)
owner_at cells regions owners owners' k d are same there =
    ap (λ os. get_or os k 0) (same ∙ are) ∙ get_or-map (owner_of regions.regions) cells k d 0 there

of_here : (regions : Regions) (cell : Cell) (o id : ℕ) → o ≡ owner_of regions.regions cell → o < length regions.regions → is_of regions id cell ≡ (o == id)
of_here regions cell o id is there =
    ap (λ (r : Option ℕ). option_map_or (λ n. n == id) r false)
    (region_here regions cell o is ∙ cond-true (nat_lt o (length regions.regions)) (Some o) None (lt-ltb o (length regions.regions) there))

of_none : (regions : Regions) (cell : Cell) (o id : ℕ) → o ≡ owner_of regions.regions cell → length regions.regions ≤ o → is_of regions id cell ≡ false
of_none regions cell o id is past =
    ap (λ (r : Option ℕ). option_map_or (λ n. n == id) r false)
    (region_here regions cell o is ∙ cond-false (nat_lt o (length regions.regions)) (Some o) None (le-ltb o (length regions.regions) past))

-- a cell more, of the region or not
more_of : (cells : List Cell) (regions : Regions) (k id : ℕ) (c : Cell) → k < length cells → c ≡ get_or cells k c → is_of regions id c ≡ true
    → footing_of (cells_of (take (k + 1) cells) regions id) ≡ Some (footing_with (footing_of (cells_of (take k cells) regions id)) c)
more_of cells regions k id c there is passes =
    let step = λ (seen : Option RegionFloors) (cell : Cell). Some (footing_with seen cell) in
    let test = is_of regions id in
    ap footing_of (filter_more test cells k c there
    ∙ ap (λ (x : Cell). filter test (take k cells) ++ cond (test x) (x ∷ []) []) (sym is)
    ∙ ap (λ (xs : List Cell). filter test (take k cells) ++ xs) (cond-true (test c) (c ∷ []) [] passes))
    ∙ fold-append step None (filter test (take k cells)) (c ∷ [])

more_not : (cells : List Cell) (regions : Regions) (k id : ℕ) (c : Cell) → k < length cells → c ≡ get_or cells k c → is_of regions id c ≡ false
    → footing_of (cells_of (take (k + 1) cells) regions id) ≡ footing_of (cells_of (take k cells) regions id)
more_not cells regions k id c there is fails =
    let test = is_of regions id in
    ap footing_of (filter_more test cells k c there
    ∙ ap (λ (x : Cell). filter test (take k cells) ++ cond (test x) (x ∷ []) []) (sym is)
    ∙ ap (λ (xs : List Cell). filter test (take k cells) ++ xs) (cond-false (test c) (c ∷ []) [] fails)
    ∙ append-nil (filter test (take k cells)))

-- the step of the loop
pub footings_more : (cells : List Cell) (regions : Regions) (k o : ℕ) (c : Cell) (before after : List (Option RegionFloors)) → k < length cells → c ≡ get_or cells k c
    → o ≡ owner_of regions.regions c → AreFootings (take k cells) regions before → length after ≡ length before
    → (o < length before → get_or after o None ≡ Some (footing_with (get_or before o None) c))
    → ((j : ℕ) → (j ≡ o → ⊥) → get_or after j None ≡ get_or before j None) → AreFootings (take (k + 1) cells) regions after
footings_more cells regions k o c before after there is owner so_far same here others = record {
  many = same ∙ so_far.many;
  each = λ id. elim (cases_lt o (length regions.regions)) [
    | inl inside ↦ elim (cases_eq id o) [
      | inl own ↦
          ap (λ j. get_or after j None) own ∙ here (omega (arith, inside, so_far.many))
          ∙ ap (λ (f : Option RegionFloors). Some (footing_with f c)) (ap (λ j. get_or before j None) (sym own) ∙ so_far.each id)
          ∙ sym (more_of cells regions k id c there is (of_here regions c o id owner inside ∙ eq-eqb o id (sym own)))
      | inr other ↦
          others id other ∙ so_far.each id
          ∙ sym (more_not cells regions k id c there is (of_here regions c o id owner inside ∙ ne_eqb o id (λ e. other (sym e))))
    ]
    | inr past ↦
        unchanged id past ∙ so_far.each id ∙ sym (more_not cells regions k id c there is (of_none regions c o id owner past))
  ];
}
  where
    unchanged : (id : ℕ) → length regions.regions ≤ o → get_or after id None ≡ get_or before id None
    unchanged id past = elim (cases_eq id o) [
      | inl own ↦
          get_or_past after id None (omega (arith, past, own, same, so_far.many)) ∙ sym (get_or_past before id None (omega (arith, past, own, so_far.many)))
      | inr other ↦ others id other
    ]

-- a footing tells the area, the least and the greatest floor
seen_all : (f : RegionFloors) (cells : List Cell) → fold (λ (seen : Option RegionFloors) (cell : Cell). Some (footing_with seen cell)) (Some f) cells
    ≡ Some (record {
      area = f.area;
      low = fold (λ low (cell : Cell). min low cell.floor) f.low cells;
      high = fold (λ high (cell : Cell). max high cell.floor) f.high cells;
    })
seen_all f [] = refl
seen_all f (c ∷ cells) = seen_all (footing_with (Some f) c) cells

pub footing_is : (own : List Cell) → unwrap_or (footing_of own) no_footing ≡ record { area = (first_of own).area; low = low_of own; high = high_of own }
footing_is [] = refl
footing_is (c ∷ cells) =
    ap (λ (o : Option RegionFloors). unwrap_or o no_footing) (seen_all (footing_with None c) cells)
    ∙ ap (λ n. record {
      area = c.area;
      low = fold (λ low (cell : Cell). min low cell.floor) n cells;
      high = fold (λ high (cell : Cell). max high cell.floor) c.floor cells;
    }) {x = c.floor} {y = min c.floor c.floor} (omega arith)
    ∙ ap (λ n. record {
      area = c.area;
      low = low_of (c ∷ cells);
      high = fold (λ high (cell : Cell). max high cell.floor) n cells;
    }) {x = c.floor} {y = max c.floor c.floor} (omega arith)

-- polygons over footings are those of the facets
pub polygon_is : (cells : List Cell) (regions : Regions) (footings : List (Option RegionFloors)) → AreFootings cells regions footings → (facet : Facet)
    → facet_over_footing footings facet ≡ facet_polygon cells regions facet
polygon_is cells regions footings rules' facet =
    ap (λ (f : RegionFloors). polygon_over facet.outline.corners f facet.places)
    (ap (λ (o : Option RegionFloors). unwrap_or o no_footing) (rules'.each facet.region) ∙ footing_is (cells_of cells regions facet.region))

pub polygons_are : (cells : List Cell) (regions : Regions) (footings : List (Option RegionFloors)) → AreFootings cells regions footings → (facets : List Facet)
    → map (facet_over_footing footings) facets ≡ map (facet_polygon cells regions) facets
polygons_are cells regions footings rules' [] = refl
polygons_are cells regions footings rules' (facet ∷ facets) =
    let here = polygon_is cells regions footings rules' facet in
    let rest = polygons_are cells regions footings rules' facets in
    cc

-- the same of a vector that was written through a slice, by a table of owners
pub footings_written : (cells : List Cell) (regions : Regions) (k : ℕ) (d : Cell) (owners owners' : List ℕ) (len : ℕ) (items lent after : List (Option RegionFloors))
    → k < length cells → owners' ≡ map (owner_of regions.regions) cells → owners ≡ owners' → len ≡ length items → lent ≡ items
    → AreFootings (take k cells) regions items → length after ≡ length lent
    → (get_or owners k 0 < length lent → get_or after (get_or owners k 0) None ≡ Some (footing_with (get_or lent (get_or owners k 0) None) (get_or cells k d)))
    → ((j : ℕ) → (j ≡ get_or owners k 0 → ⊥) → get_or after j None ≡ get_or lent j None)
    → AreFootings (take (k + 1) cells) regions (take len (after ++ drop (length after) items))
footings_written cells regions k d owners owners' len items lent after there owners_are same_owners many lent_is before same here others =
    let P : List (Option RegionFloors) → Type 0 = AreFootings (take (k + 1) cells) regions in
    let c : Cell = get_or cells k d in
    let o : ℕ = get_or owners k 0 in
    let owner : o ≡ owner_of regions.regions c = owner_at cells regions owners owners' k d owners_are same_owners there in
    let whole : take len (after ++ drop (length after) items) ≡ after =
    ap (λ n. take n (after ++ drop (length after) items)) {x = len} {y = length after} (many ∙ ap length (sym lent_is) ∙ sym same) ∙ take-append_seam after (drop (length after) items) in
    subst P (sym whole)
    (footings_more cells regions k o c lent after there (get_or_default cells k d c there) owner (subst (AreFootings (take k cells) regions) (sym lent_is) before)
    same here others)
