-- How cells of one area follow one another toward x + 1.
use Rattle.std.proofs.Common.{◌≡◌, ℕ, ◌+◌, ◌<◌, ◌≤◌, Bool, true, length, List, [], get_or, ap, ◌∙◌, sym, subst, arith, inl, inr}
use Rattle.std.specs.Prelude.{◌==◌, ◌&&◌}
use Rattle.std.specs.List.{position_or_len}
use Rattle.std.proofs.lemmas.Bool.{and_parts, and_from, eqb-true, eq-eqb, both_ways, cases_lt, cases_order, false_from_ne_true}
use Rattle.std.proofs.lemmas.List.{get_or_default}
use Rattle.std.proofs.lemmas.List.Elements.{Contains-get_or}
use Rattle.std.proofs.lemmas.List.Sums.{passes_at_first, fails_before_first}
use Rattle.nav_ground.specs.declared.cell.Cell.{Cell}
use Rattle.nav_ground.specs.declared.cell.CellRef.{CellRef}
use Rattle.nav_ground.specs.Cells.{IsCellBefore, IsCells, IsCut, is_naming}
use Rattle.nav_ground.proofs.Directions.{both_equal}
use Rattle.nav_ground.proofs.FreeLayers.{names_one}
use Rattle.cell_table.specs.Table.{index_named, neighbour_table, neighbour}
use Rattle.cell_table.proofs.Tables.{one_index, table_at}
use Rattle.cell_table.proofs.Places.{same_test}
use Rattle.mesh_types.specs.Strips.{is_followed_by}
use Rattle.mesh_types.specs.StripPolygons.{some_cell}
use Rattle.mono_regions.specs.Indices.{cell_at, along}
use Rattle.mono_regions.proofs.Found.{position_same, position_only, position_none}

-- a cell names another of the same area
abbrev pub is_along : List Cell → ℕ → ℕ → Cell → Bool
is_along cells dir i other = is_naming dir (cell_at cells i) other.at && other.area == (cell_at cells i).area

-- cells that are named alike are one
only_one : (cells : List Cell) → IsCells cells → (dir i j k : ℕ) → dir < 4 → j < length cells → k < length cells
    → is_naming dir (cell_at cells i) (cell_at cells j).at ≡ true → is_naming dir (cell_at cells i) (cell_at cells k).at ≡ true → k ≡ j
only_one cells rules' dir i j k small there there' named named' =
    one_index cells rules' k j some_cell there' there (names_one dir (cell_at cells i) _ _ small named' named)

-- the cell that is named is the one along, where it has the same area
pub along_there : (cells : List Cell) → IsCells cells → (dir i : ℕ) → dir < 4
    → index_named cells (cell_at cells i) dir < length cells → (cell_at cells (index_named cells (cell_at cells i) dir)).area ≡ (cell_at cells i).area
    → index_named cells (cell_at cells i) dir ≡ along cells dir i
along_there cells rules' dir i small there same =
    let n : ℕ = index_named cells (cell_at cells i) dir in
    let named = passes_at_first (λ (other : Cell). is_naming dir (cell_at cells i) other.at) cells some_cell there in
    sym (position_only (is_along cells dir i) cells n some_cell there (and_from _ _ named (eq-eqb _ _ same))
    (λ k there' h. only_one cells rules' dir i n k small there there' named (and_parts _ _ h).0))

pub along_none : (cells : List Cell) → IsCells cells → (dir i : ℕ) → dir < 4
    → (index_named cells (cell_at cells i) dir < length cells → (cell_at cells (index_named cells (cell_at cells i) dir)).area ≡ (cell_at cells i).area → ⊥)
    → length cells ≡ along cells dir i
along_none cells rules' dir i small apart =
    let n : ℕ = index_named cells (cell_at cells i) dir in
    sym (position_none (is_along cells dir i) cells some_cell (λ k there. false_from_ne_true _ (λ h.
    let parts = and_parts (is_naming dir (cell_at cells i) (cell_at cells k).at) _ h in
    elim (cases_lt n (length cells)) [
      | inl inside ↦
          let named = passes_at_first (λ (other : Cell). is_naming dir (cell_at cells i) other.at) cells some_cell inside in
          let same : k ≡ n = only_one cells rules' dir i n k small inside there named parts.0 in
          let P : ℕ → Type 0 = λ m. (cell_at cells m).area ≡ (cell_at cells i).area in
          apart inside (subst P same (eqb-true _ _ parts.1))
      | inr past ↦ both_ways _ (fails_before_first (λ (other : Cell). is_naming dir (cell_at cells i) other.at) cells k some_cell (omega (arith, past, there))) parts.0
    ])))

-- the cell that is along is named, and has the same area
pub along_is : (cells : List Cell) (dir i : ℕ) → along cells dir i < length cells
    → (is_naming dir (cell_at cells i) (cell_at cells (along cells dir i)).at ≡ true) × ((cell_at cells (along cells dir i)).area ≡ (cell_at cells i).area)
along_is cells dir i there =
    let parts = and_parts _ _ (passes_at_first (is_along cells dir i) cells some_cell there) in
    (parts.0, eqb-true _ _ parts.1)

-- a cell that follows another comes after it
row_after : (cells : List Cell) → IsCells cells → (i j : ℕ) → i < length cells → j < length cells
    → (cell_at cells j).at.x ≡ (cell_at cells i).at.x + 1 → (cell_at cells j).at.z ≡ (cell_at cells i).at.z → i < j
row_after cells rules' i j here there x z =
    elim (cases_order i j) [
      | inl same ↦ absurd (omega (arith, x, ap (λ k. (cell_at cells k).at.x) same))
      | inr (inl less) ↦ less
      | inr (inr more) ↦ absurd (apart (cell_at cells j).at (cell_at cells i).at x z (rules'.order j i some_cell more here))
    ]
  where
    apart : (a b : CellRef) → a.x ≡ b.x + 1 → a.z ≡ b.z → IsCellBefore a b → ⊥
    apart a b x z (inl below) = omega (arith, below, z)
    apart a b x z (inr (row, inl left)) = omega (arith, left, x)
    apart a b x z (inr (row, inr (column, under))) = omega (arith, column, x)

pub along_after : (cells : List Cell) → IsCells cells → (i : ℕ) → i < length cells → along cells 2 i < length cells
    → (i < along cells 2 i) × ((cell_at cells (along cells 2 i)).at.x ≡ (cell_at cells i).at.x + 1) × ((cell_at cells (along cells 2 i)).at.z ≡ (cell_at cells i).at.z)
along_after cells rules' i here there =
    let e = both_equal _ _ _ _ (and_parts _ _ (along_is cells 2 i there).0).0 in
    (row_after cells rules' i (along cells 2 i) here there e.0 e.1, e.0, e.1)

pub along_before : (cells : List Cell) → IsCells cells → (i : ℕ) → i < length cells → along cells 0 i < length cells → along cells 0 i < i
along_before cells rules' i here there =
    let e = both_equal _ _ _ _ (and_parts _ _ (along_is cells 0 i there).0).0 in
    row_after cells rules' (along cells 0 i) i there here (sym e.0) (sym e.1)

-- the cell that one follows is followed by it, and the other way round
pub followed_back : (cells : List Cell) → IsCut cells → (i : ℕ) → i < length cells → along cells 0 i < length cells → along cells 2 (along cells 0 i) ≡ i
followed_back cells cut i here there =
    let p : ℕ = along cells 0 i in
    let is = along_is cells 0 i there in
    let back = cut.named_back 0 (cell_at cells i) (cell_at cells p) (omega arith) (Contains-get_or cells i some_cell here) (Contains-get_or cells p some_cell there) is.0 in
    position_only (is_along cells 2 p) cells i some_cell here (and_from _ _ back (eq-eqb _ _ (sym is.1)))
    (λ k there' h. only_one cells cut.rules 2 p i k (omega arith) here there' back (and_parts _ _ h).0)

pub follows_back : (cells : List Cell) → IsCut cells → (i : ℕ) → i < length cells → along cells 2 i < length cells → along cells 0 (along cells 2 i) ≡ i
follows_back cells cut i here there =
    let n : ℕ = along cells 2 i in
    let is = along_is cells 2 i there in
    let back = cut.named_back 2 (cell_at cells i) (cell_at cells n) (omega arith) (Contains-get_or cells i some_cell here) (Contains-get_or cells n some_cell there) is.0 in
    position_only (is_along cells 0 n) cells i some_cell here (and_from _ _ back (eq-eqb _ _ (sym is.1)))
    (λ k there' h. only_one cells cut.rules 0 n i k (omega arith) here there' back (and_parts _ _ h).0)

-- a strip begins at a cell exactly where it follows none
pub begins_where : (cells : List Cell) → IsCut cells → (i : ℕ) → i < length cells
    → position_or_len (λ (other : Cell). is_followed_by other (cell_at cells i)) cells ≡ along cells 0 i
begins_where cells cut i here =
    position_same (λ (other : Cell). is_followed_by other (cell_at cells i)) (is_along cells 0 i) cells
    (λ k d there. same_test _ _
    (λ h.
    let parts = and_parts (is_naming 2 (get_or cells k d) (cell_at cells i).at) _ h in
    and_from _ _ (cut.named_back 2 (get_or cells k d) (cell_at cells i) (omega arith) (Contains-get_or cells k d there) (Contains-get_or cells i some_cell here) parts.0)
    (eq-eqb _ _ (sym (eqb-true _ _ parts.1))))
    (λ h.
    let parts = and_parts (is_naming 0 (cell_at cells i) (get_or cells k d).at) _ h in
    and_from _ _ (cut.named_back 0 (cell_at cells i) (get_or cells k d) (omega arith) (Contains-get_or cells i some_cell here) (Contains-get_or cells k d there) parts.0)
    (eq-eqb _ _ (sym (eqb-true _ _ parts.1)))))

-- what the code finds in the neighbour table
pub table_read : (cells : List Cell) (table : List (List ℕ)) (i dir : ℕ) → table ≡ neighbour_table cells → i < length cells → dir < 4
    → length (get_or table i []) ≡ 4 → get_or (get_or table i []) dir 0 ≡ index_named cells (cell_at cells i) dir
table_read cells table i dir is there small four =
    get_or_default (get_or table i []) dir 0 4294967295 (omega (arith, small, four))
    ∙ ap (λ t. neighbour t i dir) is ∙ table_at cells i dir some_cell there small

pub along_found : (cells : List Cell) → IsCells cells → (dir i to : ℕ) (d e : Cell) → dir < 4 → i < length cells → to ≡ index_named cells (cell_at cells i) dir
    → to < length cells → (get_or cells to d).area ≡ (get_or cells i e).area → to ≡ along cells dir i
along_found cells rules' dir i to d e small here is there same =
    let P : ℕ → Type 0 = λ n. n < length cells in
    let Q : ℕ → Type 0 = λ n. (cell_at cells n).area ≡ (cell_at cells i).area in
    let same' : (cell_at cells to).area ≡ (cell_at cells i).area =
    ap (λ (c : Cell). c.area) (get_or_default cells to some_cell d there) ∙ same ∙ ap (λ (c : Cell). c.area) (get_or_default cells i e some_cell here) in
    is ∙ along_there cells rules' dir i small (subst P is there) (subst Q is same')

pub along_missed : (cells : List Cell) → IsCells cells → (dir i to : ℕ) → dir < 4 → i < length cells → to ≡ index_named cells (cell_at cells i) dir
    → length cells ≤ to → length cells ≡ along cells dir i
along_missed cells rules' dir i to small here is past =
    along_none cells rules' dir i small (λ inside same. omega (arith, inside, is, past))

pub along_other : (cells : List Cell) → IsCells cells → (dir i to : ℕ) (d e : Cell) → dir < 4 → i < length cells → to ≡ index_named cells (cell_at cells i) dir
    → to < length cells → ((get_or cells to d).area ≡ (get_or cells i e).area → ⊥) → length cells ≡ along cells dir i
along_other cells rules' dir i to d e small here is there apart =
    along_none cells rules' dir i small (λ inside same.
    let Q : ℕ → Type 0 = λ n. (cell_at cells n).area ≡ (cell_at cells i).area in
    apart (ap (λ (c : Cell). c.area) (get_or_default cells to d some_cell there) ∙ subst Q (sym is) same ∙ ap (λ (c : Cell). c.area) (get_or_default cells i some_cell e here)))
