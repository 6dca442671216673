-- The regions of a tile's cells: where their places are, and which region holds a place.
use Rattle.std.proofs.Common.{◌≡◌, ℕ, ◌-◌, ◌<◌, ◌≤◌, Bool, true, false, cond, length, List, [], get_or, ap, ◌∙◌, sym, refl, subst, arith, Some, None}
use Rattle.std.specs.Prelude.{nat_lt, nat_le, ◌==◌, ◌&&◌, Any, Contains, slice_get, unwrap_or}
use Rattle.std.specs.List.{position_or_len, count_by, list_any}
use Rattle.std.specs.Option.{option_map_or}
use Rattle.std.proofs.lemmas.Bool.{cond-true, lt-ltb, false_from_ne_true, and_parts, and_from, eqb-true, eq-eqb}
use Rattle.std.proofs.lemmas.Bool.Decides.{nat_tests}
use Rattle.std.proofs.lemmas.List.Elements.{All-contains, Contains-get_or}
use Rattle.std.proofs.lemmas.List.Folds.{Any-from_list_any, list_any_at}
use Rattle.std.proofs.lemmas.List.Sums.{position_or_len_is}
use Rattle.std.proofs.lemmas.Option.{slice_get-get_or}
use Rattle.nav_ground.specs.declared.cell.Cell.{Cell}
use Rattle.nav_ground.specs.declared.cell.CellRef.{CellRef}
use Rattle.nav_ground.proofs.Found.{first_found}
use Rattle.mesh_types.specs.declared.region.Strip.{Strip}
use Rattle.mesh_types.specs.declared.region.Region.{Region}
use Rattle.mesh_types.specs.declared.region.Regions.{Regions}
use Rattle.mesh_types.specs.StripPolygons.{some_cell}
use Rattle.mesh_types.specs.Regions.{is_holding, times_held, IsStrip, IsStack, IsIn, IsWoven, place_in, AreRegionsOf}
use Rattle.mesh_types.specs.Contours.{is_at, cell_in, region_at, strips_in}
use Rattle.mesh_types.proofs.Totals.{sum_by-no_more}
use Rattle.mesh_types.proofs.Counted.{counted, some_counted, once_apart}

-- a cell at a place is found
pub is_at_place : (a at : CellRef) → a ≡ at → (a.x == at.x && a.z == at.z && a.level == at.level) ≡ true
is_at_place a at same =
    and_from (a.x == at.x && a.z == at.z) (a.level == at.level)
    (and_from (a.x == at.x) (a.z == at.z) (eq-eqb a.x at.x (ap (λ (r : CellRef). r.x) same)) (eq-eqb a.z at.z (ap (λ (r : CellRef). r.z) same)))
    (eq-eqb a.level at.level (ap (λ (r : CellRef). r.level) same))

pub place_is : (a at : CellRef) → (a.x == at.x && a.z == at.z && a.level == at.level) ≡ true → a ≡ at
place_is a at h =
    let outer = and_parts (a.x == at.x && a.z == at.z) (a.level == at.level) h in
    let inner = and_parts (a.x == at.x) (a.z == at.z) outer.0 in
    ap (λ k. record { x = k; z = a.z; level = a.level }) (eqb-true a.x at.x inner.0)
    ∙ ap (λ k. record { x = at.x; z = k; level = a.level }) (eqb-true a.z at.z inner.1)
    ∙ ap (λ k. record { x = at.x; z = at.z; level = k }) (eqb-true a.level at.level outer.1)

pub record IsCellThere (cells : List Cell) (at : CellRef) : Type 0 where
  pub own : Contains cells (cell_in cells at)
  pub place : (cell_in cells at).at ≡ at

pub cell_there : (cells : List Cell) (at : CellRef) → Any (λ (cell : Cell). cell.at ≡ at) cells → IsCellThere cells at
cell_there cells at any =
    let found = first_found (is_at at) cells any.0 any.1 any.2 (ap (is_at at) any.3 ∙ is_at_place any.1.at at any.4) in
    let is : cell_in cells at ≡ get_or cells found.place any.1 = ap (λ o. unwrap_or o some_cell) found.is in
    let P : Cell → Type 0 = Contains cells in
    record {
      own = subst P (sym is) (Contains-get_or cells found.place any.1 (omega (arith, found.most, any.2)));
      place = ap (λ (c : Cell). c.at) is ∙ place_is (get_or cells found.place any.1).at at found.passes;
    }

-- a strip holds the places of its columns
pub holds_own : (s : Strip) (x : ℕ) → IsStrip s → IsIn s x → is_holding (place_in s x) s ≡ true
holds_own s x strip inside =
    and_from (s.z == s.z && nat_le s.x0 x) (option_map_or (λ level. level == get_or s.levels (x - s.x0) 0) (slice_get s.levels (x - s.x0)) false)
    (and_from (s.z == s.z) (nat_le s.x0 x) (eq-eqb s.z s.z refl) (grind (arith, nat_tests)))
    (ap (λ o. option_map_or (λ level. level == get_or s.levels (x - s.x0) 0) o false)
    (slice_get-get_or s.levels (x - s.x0) 0 (omega (arith, inside, strip.levels)))
    ∙ eq-eqb (get_or s.levels (x - s.x0) 0) (get_or s.levels (x - s.x0) 0) refl)

-- a region holds a place
abbrev pub holds : CellRef → Region → Bool
holds at region = list_any (is_holding at) region.strips

-- the region that holds a place, where it is held once, is the first that does
pub region_is : (regions : Regions) (at : CellRef) (id : ℕ) → times_held at regions ≡ 1 → id < length regions.regions
    → holds at (get_or regions.regions id (record { strips = [] })) ≡ true → region_at regions at ≡ Some id
region_is regions at id once there held =
    let p : Region → Bool = holds at in
    let d : Region = record { strips = [] } in
    let few : counted p regions.regions ≤ 1 =
    omega (arith, once, sum_by-no_more (λ r. cond (p r) 1 0) (λ (r : Region). count_by (is_holding at) r.strips) regions.regions (λ k e inside. one_at_least (get_or regions.regions k e))) in
    let is : position_or_len p regions.regions ≡ id =
    position_or_len_is p regions.regions id d (omega (arith, there))
    (λ k less. false_from_ne_true (p (get_or regions.regions k d)) (λ h. once_apart p regions.regions k id d few less there h held))
    (λ inside. held) in
    let P : ℕ → Type 0 = λ n. cond (nat_lt n (length regions.regions)) (Some n) None ≡ Some id in
    subst P (sym is) (cond-true (nat_lt id (length regions.regions)) (Some id) None (lt-ltb id (length regions.regions) there))
  where
    one_at_least : (r : Region) → cond (holds at r) 1 0 ≤ count_by (is_holding at) r.strips
    one_at_least r = by_case (holds at r) refl
      where
        by_case : (b : Bool) → holds at r ≡ b → cond b 1 0 ≤ count_by (is_holding at) r.strips
        by_case false is = omega arith
        by_case true is =
            let any = Any-from_list_any (is_holding at) r.strips is in
            some_counted (is_holding at) r.strips any.0 any.1 any.2 (ap (is_holding at) any.3 ∙ any.4)

module _ (cells : List Cell) (regions : Regions) (are : AreRegionsOf cells regions) (id : ℕ) (there : id < length regions.regions) where
  pub stack : IsStack (get_or regions.regions id (record { strips = [] }))
  stack = are.stacks id (record { strips = [] }) there

  pub woven : IsWoven cells (get_or regions.regions id (record { strips = [] }))
  woven = are.woven id (record { strips = [] }) there

  pub own_region : (t : Strip) (y : ℕ) → Contains (strips_in regions id) t → IsIn t y → region_at regions (place_in t y) ≡ Some id
  own_region t y own inside =
      let c = cell_there cells (place_in t y) (woven.there t y own inside) in
      let P : CellRef → Type 0 = λ at. times_held at regions ≡ 1 in
      region_is regions (place_in t y) id
      (subst P c.place (All-contains (λ (cell : Cell). times_held cell.at regions ≡ 1) cells (cell_in cells (place_in t y)) are.once c.own))
      there (list_any_at (is_holding (place_in t y)) (strips_in regions id) own.0 t own.1
      (ap (is_holding (place_in t y)) own.2 ∙ holds_own t y (All-contains IsStrip (strips_in regions id) t stack.strips own) inside))
