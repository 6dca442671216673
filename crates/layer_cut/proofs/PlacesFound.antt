-- The cell at a place, by halving.
use Rattle.std.proofs.Common.{◌≡◌, ℕ, ◌<◌, true, false, List, [], length, get_or, ◌∙◌, sym, subst, arith, tests, inl, inr}
use Rattle.std.specs.List.Sorted.{IsPartitionedBy, IsPartitionPoint}
use Rattle.std.proofs.lemmas.Bool.{both_ways, cases_order, cases_lt}
use Rattle.std.proofs.lemmas.List.{length-map, get_or-map}
use Rattle.nav_ground.specs.declared.cell.Cell.{Cell}
use Rattle.nav_ground.specs.declared.cell.CellRef.{CellRef}
use Rattle.nav_ground.specs.Cells.{IsCells, IsCellBefore}
use Rattle.layer_cut.specs.Neighbours.{IsPlaceOf, is_before}

before_from : (a b : CellRef) → IsCellBefore a b → is_before a b ≡ true
before_from a b h = grind (arith, tests)

before_through : (a b place : CellRef) → IsCellBefore a b → is_before b place ≡ true → is_before a place ≡ true
before_through a b place h e = grind (arith, tests)

not_before_itself : (place : CellRef) → is_before place place ≡ true → ⊥
not_before_itself place e = grind (arith, tests)

-- the cells that come before a place come first
pub places_parted : (cells : List Cell) (place : CellRef) → IsCells cells → IsPartitionedBy (λ (cell : Cell). is_before cell.at place) cells
places_parted cells place rules' i j d le within later =
    elim (cases_lt i j) [
      | inl before ↦ before_through (get_or cells i d).at (get_or cells j d).at place (rules'.order i j d before within) later
      | inr rest ↦
          let same : j ≡ i = omega (arith, le, rest) in
          subst (λ k. is_before (get_or cells k d).at place ≡ true) same later
    ]

-- an index whose cell has a place
pub record IsIndexOf (cells : List Cell) (place : CellRef) (index : ℕ) : Type 0 where
  pub within : index < length cells
  pub at : (d : Cell) → (get_or cells index d).at ≡ place

pub index_there : (cells : List Cell) (place : CellRef) → IsPlaceOf cells place → (index : ℕ) × IsIndexOf cells place index
index_there cells place has =
    let there : has.0 < length cells = omega (arith, has.1, length-map cells (λ (cell : Cell). cell.at)) in (
      has.0,
      record {
        within = there;
        at = λ d. sym (get_or-map (λ (cell : Cell). cell.at) cells has.0 d place there) ∙ has.2;
      },
    )

-- the first cell that does not come before the place has the place
pub place_found : (cells : List Cell) (place : CellRef) (n : ℕ) → IsCells cells → IsPlaceOf cells place
    → IsPartitionPoint (λ (cell : Cell). is_before cell.at place ≡ true) (λ (cell : Cell). is_before cell.at place ≡ false) cells n
    → IsIndexOf cells place n
place_found cells place n rules' has point = by_index (index_there cells place has).0 (index_there cells place has).1
  where
    any : Cell
    any = record { at = place; floor = 0; ceiling = 0; area = 0; next = [] }

    by_index : (k : ℕ) → IsIndexOf cells place k → IsIndexOf cells place n
    by_index k is =
        elim (cases_order n k) [
          | inl same ↦ subst (IsIndexOf cells place) (sym same) is
          | inr (inl below) ↦ record {
            within = omega (arith, below, is.within);
            at = λ d.
                let early = rules'.order n k d below is.within in
                let early' = subst (λ (p : CellRef). IsCellBefore (get_or cells n d).at p) (is.at d) early in
                absurd (both_ways (is_before (get_or cells n d).at place) (point.1 n d (omega arith) (omega (arith, below, is.within)))
                (before_from (get_or cells n d).at place early'));
          }
          | inr (inr above) ↦
              absurd (not_before_itself place
              (subst (λ (p : CellRef). is_before p place ≡ true) (is.at any) (point.0 k any (omega arith) above)))
        ]
