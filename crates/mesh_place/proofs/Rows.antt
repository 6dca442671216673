-- The rows of a storey, one more at a time.
use Rattle.std.proofs.Common.{◌≡◌, ℕ, ◌+◌, ◌-◌, ◌≤◌, ◌<◌, inl, inr, List, length, get_or, refl, sym, ap, subst, ◌∙◌, arith}
use Rattle.std.specs.Prelude.{All, min, Option, Some, None, slice_get}
use Rattle.std.proofs.lemmas.Bool.{cases_lt}
use Rattle.std.proofs.lemmas.Option.{same_Some, none-some, slice_get_within, slice_get-get_or, slice_get_read, get_or_from_slice_get}
use Rattle.nav_base.specs.declared.point.Point.{Point}
use Rattle.mesh_types.specs.declared.storeys.FloorRow.{FloorRow}
use Rattle.mesh_types.specs.declared.storeys.Storey.{Storey}
use Rattle.mesh_types.specs.Storeys.{HasFloor, IsFloorRow}
use Rattle.mesh_types.specs.Places.{column_gap}
use Rattle.mesh_place.specs.declared.floors.Aim.{Aim}
use Rattle.mesh_place.specs.declared.floors.NearFloor.{NearFloor}
use Rattle.mesh_place.specs.Columns.{column_out, span_under}
use Rattle.mesh_place.specs.Floors.{nearer_floor, nearer_of_row, column_in, cell_floor, IsToward, IsFloorToward}
use Rattle.mesh_place.proofs.Spans.{nearest_columns, square-less, square-some, apart}
use Rattle.mesh_place.proofs.Nearer.{NoFarther, kept, own, one_of}

-- a floor is that of a cell of a storey, as far from a point as it says
pub record IsCellFloor (storey : Storey) (p : Point) (found : NearFloor) : Type 0 where
  pub x : ℕ
  pub z : ℕ
  pub has : HasFloor storey x z found.y
  pub gap : found.aside ≡ column_gap x z p

-- what was found is the floor of a cell, and no farther than the cells of some rows
pub record Found (storey : Storey) (aim : Aim) (first end : ℕ) (best : Option NearFloor) : Type 0 where
  pub is : (found : NearFloor) → best ≡ Some found → IsCellFloor storey aim.p found
  pub least : (x z floor : ℕ) → HasFloor storey x z floor → storey.z0 + first ≤ z → z < storey.z0 + end → NoFarther aim.y best (column_gap x z aim.p) floor

pub to_found : (storey : Storey) (aim : Aim) (first end : ℕ) (best : Option NearFloor) → IsFloorToward storey aim first end best
    → Found storey aim first end best
to_found storey aim first end None none = record { is = λ found is. absurd (none-some found is); least = none }
to_found storey aim first end (Some found) is = record {
  is = λ other same. subst (IsCellFloor storey aim.p) (same_Some found other same) (record { x = is.x; z = is.z; has = is.has; gap = is.gap });
  least = is.least;
}

pub from_found : (storey : Storey) (aim : Aim) (first end : ℕ) (best : Option NearFloor) → Found storey aim first end best
    → IsFloorToward storey aim first end best
from_found storey aim first end None found = found.least
from_found storey aim first end (Some near) found =
    let cell = found.is near refl in
    record { x = cell.x; z = cell.z; has = cell.has; gap = cell.gap; least = found.least }

beyond : (y : ℕ) (best : Option NearFloor) (a f b g : ℕ) → a < b → NoFarther y best a f → NoFarther y best b g
beyond y None a f b g less close = absurd close
beyond y (Some found) a f b g less (inl more) = inl (omega (arith, less, more))
beyond y (Some found) a f b g less (inr same) = inl (omega (arith, less, same.0))

-- one more row
module _ (storey : Storey) (row : FloorRow) (at : ℕ) (there : slice_get storey.rows at ≡ Some row) (rules : IsFloorRow row) (aim : Aim) (first : ℕ)
    (best : Option NearFloor) (found : Found storey aim first at best) where
  abbrev z : ℕ
  z = storey.z0 + at

  abbrev n : ℕ
  n = length row.floors

  abbrev l : ℕ
  l = column_in row (span_under aim.p.x).first

  abbrev r : ℕ
  r = column_in row (span_under aim.p.x).last

  abbrev mid : Option NearFloor
  mid = nearer_floor aim.y best (cell_floor row l z aim.p)

  abbrev new : Option NearFloor
  new = nearer_floor aim.y mid (cell_floor row r z aim.p)

  cell : (x : ℕ) → row.x0 ≤ x → x < row.x0 + n → IsCellFloor storey aim.p (cell_floor row x z aim.p)
  cell x low high =
      let place : z - storey.z0 ≡ at = omega arith in
      record {
        x = x;
        z = z;
        has = record {
          row = row;
          above = omega arith;
          is_row = ap (slice_get storey.rows) place ∙ there;
          right = low;
          is_cell = slice_get-get_or row.floors (x - row.x0) 0 (omega (arith, low, high));
        };
        gap = refl;
      }

  in_row : (x : ℕ) → IsCellFloor storey aim.p (cell_floor row (column_in row x) z aim.p)
  in_row x =
      let some = rules.some in
      cell (column_in row x) (omega (arith, some)) (omega (arith, some))

  own_row : (x floor : ℕ) → row.x0 ≤ x → slice_get row.floors (x - row.x0) ≡ Some floor → NoFarther aim.y new (column_gap x z aim.p) floor
  own_row x floor low is =
      let within = slice_get_within row.floors (x - row.x0) floor is in
      let value = get_or_from_slice_get row.floors (x - row.x0) floor 0 is in
      elim (nearest_columns row.x0 n aim.p.x x low (omega (arith, low, within))) [
        | inl left ↦
            kept aim.y mid (cell_floor row r z aim.p) (column_gap x z aim.p) floor
            (subst (λ (f : ℕ). NoFarther aim.y mid (column_gap x z aim.p) f) value
            (subst (λ (k : ℕ). NoFarther aim.y mid (column_gap k z aim.p) (get_or row.floors (k - row.x0) 0)) (sym left)
            (own aim.y best (cell_floor row l z aim.p))))
        | inr (inl right) ↦
            subst (λ (f : ℕ). NoFarther aim.y new (column_gap x z aim.p) f) value
            (subst (λ (k : ℕ). NoFarther aim.y new (column_gap k z aim.p) (get_or row.floors (k - row.x0) 0)) (sym right)
            (own aim.y mid (cell_floor row r z aim.p)))
        | inr (inr less) ↦
            beyond aim.y new (column_gap r z aim.p) (get_or row.floors (r - row.x0) 0) (column_gap x z aim.p) floor
            (square-less (column_out r aim.p.x) (column_out x aim.p.x) (column_out z aim.p.z) less) (own aim.y mid (cell_floor row r z aim.p))
      ]

  here : (x z' floor : ℕ) → HasFloor storey x z' floor → z' ≡ z → NoFarther aim.y new (column_gap x z' aim.p) floor
  here x z' floor has same =
      let place : z' - storey.z0 ≡ at = omega (arith, same) in
      let is : has.row ≡ row = same_Some has.row row (sym has.is_row ∙ ap (slice_get storey.rows) place ∙ there) in
      subst (λ (k : ℕ). NoFarther aim.y new (column_gap x k aim.p) floor) (sym same)
      (own_row x floor (subst (λ (d : FloorRow). d.x0 ≤ x) is has.right)
      (ap (λ (d : FloorRow). slice_get d.floors (x - d.x0)) (sym is) ∙ has.is_cell))

  pub one_more : Found storey aim first (at + 1) (nearer_of_row row z aim best)
  one_more = record {
    is = one_of (IsCellFloor storey aim.p) aim.y mid (cell_floor row r z aim.p)
        (one_of (IsCellFloor storey aim.p) aim.y best (cell_floor row l z aim.p) found.is (in_row (span_under aim.p.x).first))
        (in_row (span_under aim.p.x).last);
    least = λ x z' floor has low high.
        elim (cases_lt z' z) [
          | inl earlier ↦
              kept aim.y mid (cell_floor row r z aim.p) (column_gap x z' aim.p) floor
              (kept aim.y best (cell_floor row l z aim.p) (column_gap x z' aim.p) floor (found.least x z' floor has low earlier))
          | inr later ↦ here x z' floor has (omega (arith, later, high))
        ];
  }

pub row_more : (storey : Storey) (rows : List FloorRow) (row : FloorRow) (at : ℕ) (aim : Aim) (first : ℕ) (best result : Option NearFloor) → rows ≡ storey.rows
    → row ≡ get_or rows at row → at < length storey.rows → All IsFloorRow storey.rows → result ≡ nearer_of_row row (storey.z0 + at) aim best
    → IsFloorToward storey aim first at best → IsFloorToward storey aim first (at + 1) result
row_more storey rows row at aim first best result same is below rules value found =
    let listed : row ≡ get_or storey.rows at row = is ∙ ap (λ (xs : List FloorRow). get_or xs at row) same in
    let there = slice_get_read storey.rows (length storey.rows) at row refl below listed in
    subst (IsFloorToward storey aim first (at + 1)) (sym value)
    (from_found storey aim first (at + 1) (nearer_of_row row (storey.z0 + at) aim best)
    (one_more storey row at there (subst IsFloorRow (sym listed) (rules at row below)) aim first best (to_found storey aim first at best found)))

-- where a cell lies under the point, those of other rows are farther
pub under_alone : (storey : Storey) (aim : Aim) (first end : ℕ) (found : NearFloor) → found.aside ≡ 0
    → end ≡ min (length storey.rows) ((span_under aim.p.z).last + 1 - storey.z0) → first ≡ min end ((span_under aim.p.z).first - storey.z0)
    → IsToward storey aim first end found → IsToward storey aim 0 (length storey.rows) found
under_alone storey aim first end found under ends begins is = record {
  x = is.x;
  z = is.z;
  has = is.has;
  gap = is.gap;
  least = λ x z floor has low high.
      elim (cases_lt z (storey.z0 + first)) [
        | inl earlier ↦
            let above = has.above in
            inl (apart_gap x z (apart aim.p.z z (inl (omega (arith, earlier, above, begins)))))
        | inr from ↦
            elim (cases_lt z (storey.z0 + end)) [
              | inl to ↦ is.least x z floor has from to
              | inr later ↦ inl (apart_gap x z (apart aim.p.z z (inr (omega (arith, later, high, ends)))))
            ]
      ];
}
  where
    apart_gap : (x z : ℕ) → 0 < column_out z aim.p.z → found.aside < column_gap x z aim.p
    apart_gap x z some = omega (arith, under, square-some (column_out x aim.p.x) (column_out z aim.p.z) some)
