-- The neighbour table of cells that name each other, row after row.
use Rattle.std.proofs.Common.{◌≡◌, ℕ, ◌+◌, ◌<◌, ◌≤◌, Bool, true, false, length, List, [], ◌∷◌, ◌++◌, map, take, get_or, set, ap, ◌∙◌, sym, refl, arith, inl, inr}
use Rattle.std.specs.Prelude.{◌==◌, nat_lt, if◌then◌else◌}
use Rattle.std.proofs.lemmas.Bool.{eqb-true, eq-eqb, ne_eqb, cases_lt, cases_eq, cases_order, lt-ltb, le-ltb, cond-true, cond-false, and_parts}
use Rattle.std.proofs.lemmas.List.{get_or-set_same, get_or-set_other, length-set, length-map, length-take-le, get_or-map, get_or-take, ext_get_or, map_more, take_all}
use Rattle.std.proofs.lemmas.List.Elements.{Contains-get_or}
use Rattle.std.proofs.lemmas.List.Sums.{passes_at_first, prefix_len-le-length}
use Rattle.nav_ground.specs.declared.cell.Cell.{Cell}
use Rattle.nav_ground.specs.declared.cell.CellRef.{CellRef}
use Rattle.nav_ground.specs.Cells.{IsCellBefore, IsCells, IsCut, is_naming, opposite}
use Rattle.nav_ground.proofs.Directions.{both_equal}
use Rattle.cell_table.specs.Table.{index_named, indices_named, neighbour_table}
use Rattle.cell_table.specs.Mutual.{row_back, named_back}
use Rattle.cell_table.proofs.Places.{no_cell}
use Rattle.cell_table.proofs.Tables.{table_at, table_names}

-- an index, where it is one of the first so many, else how many cells there are
abbrev pub until : List Cell → ℕ → ℕ → ℕ
until cells n k = if nat_lt k n then k else length cells

-- the row of a cell, where of the cells behind it those among the first so many stand in it
abbrev pub row_until : List Cell → ℕ → Cell → List ℕ
row_until cells n cell =
    index_named cells cell 0 ∷ until cells n (index_named cells cell 1) ∷ until cells n (index_named cells cell 2) ∷ index_named cells cell 3 ∷ []

-- the rows of the first so many cells
abbrev pub rows_until : List Cell → ℕ → List (List ℕ)
rows_until cells n = map (row_until cells n) (take n cells)

abbrev cell_of : List Cell → ℕ → Cell
cell_of cells i = get_or cells i no_cell

-- a cell names another where the index of the one is found for the other
naming_is : (cells : List Cell) → IsCells cells → (i j dir : ℕ) → i < length cells → j < length cells → dir < 4
    → is_naming dir (cell_of cells i) (cell_of cells j).at ≡ (index_named cells (cell_of cells i) dir == j)
naming_is cells rules' i j dir here there small =
    table_names cells rules' i j dir no_cell here there small ∙ ap (λ n. n == j) (table_at cells i dir no_cell here small)

-- a cell that is named names back
named_there : (cells : List Cell) → IsCut cells → (i j dir : ℕ) → i < length cells → j < length cells → dir < 4 → opposite dir < 4
    → index_named cells (cell_of cells i) dir ≡ j → index_named cells (cell_of cells j) (opposite dir) ≡ i
named_there cells cut i j dir here there small small' is =
    let named = naming_is cells cut.rules i j dir here there small ∙ eq-eqb _ _ is in
    let back = cut.named_back dir (cell_of cells i) (cell_of cells j) small (Contains-get_or cells i no_cell here) (Contains-get_or cells j no_cell there) named in
    eqb-true _ _ (sym (naming_is cells cut.rules j i (opposite dir) there here small') ∙ back)

-- a cell in a later column comes later
later : (cells : List Cell) → IsCells cells → (i j : ℕ) → i < length cells → j < length cells
    → (IsCellBefore (cell_of cells j).at (cell_of cells i).at → ⊥) → ((cell_of cells j).at ≡ (cell_of cells i).at → ⊥) → i < j
later cells rules' i j here there before same =
    elim (cases_order i j) [
      | inl is ↦ absurd (same (ap (λ k. (cell_of cells k).at) (sym is)))
      | inr (inl less) ↦ less
      | inr (inr more) ↦ absurd (before (rules'.order j i no_cell more here))
    ]

-- a cell toward x + 1 or z + 1 comes later
behind_right : (cells : List Cell) → IsCells cells → (i : ℕ) → i < length cells
    → index_named cells (cell_of cells i) 2 < length cells → i < index_named cells (cell_of cells i) 2
behind_right cells rules' i here there =
    let named = passes_at_first (λ (other : Cell). is_naming 2 (cell_of cells i) other.at) cells no_cell there in
    let e = both_equal _ _ _ _ (and_parts _ _ named).0 in
    later cells rules' i (index_named cells (cell_of cells i) 2) here there (apart _ _ e.0 e.1) (λ same. omega (arith, e.0, ap (λ (c : CellRef). c.x) same))
  where
    apart : (a b : CellRef) → a.x ≡ b.x + 1 → a.z ≡ b.z → IsCellBefore a b → ⊥
    apart a b x z (inl below) = omega (arith, below, z)
    apart a b x z (inr (row, inl left)) = omega (arith, left, x)
    apart a b x z (inr (row, inr (column, under))) = omega (arith, column, x)

behind_above : (cells : List Cell) → IsCells cells → (i : ℕ) → i < length cells
    → index_named cells (cell_of cells i) 1 < length cells → i < index_named cells (cell_of cells i) 1
behind_above cells rules' i here there =
    let named = passes_at_first (λ (other : Cell). is_naming 1 (cell_of cells i) other.at) cells no_cell there in
    let j : ℕ = index_named cells (cell_of cells i) 1 in
    let z : (cell_of cells j).at.z ≡ (cell_of cells i).at.z + 1 = (both_equal (cell_of cells j).at.x (cell_of cells i).at.x (cell_of cells j).at.z ((cell_of cells i).at.z + 1) (and_parts _ _ named).0).1 in
    later cells rules' i j here there (apart _ _ z) (λ same. omega (arith, z, ap (λ (c : CellRef). c.z) same))
  where
    apart : (a b : CellRef) → a.z ≡ b.z + 1 → IsCellBefore a b → ⊥
    apart a b z (inl below) = omega (arith, below, z)
    apart a b z (inr (row, rest)) = omega (arith, row, z)

-- an index that is none of the first so many
until_past : (cells : List Cell) (n k : ℕ) → n ≤ k → length cells ≡ until cells n k
until_past cells n k past = sym (cond-false (nat_lt k n) k (length cells) (le-ltb _ _ past))

-- at first the row of a cell has the cells before it
own_row : (cells : List Cell) → IsCells cells → (n : ℕ) → n < length cells → row_back cells (cell_of cells n) ≡ row_until cells n (cell_of cells n)
own_row cells rules' n there =
    let a : ℕ = index_named cells (cell_of cells n) 0 in
    let b : ℕ = index_named cells (cell_of cells n) 1 in
    let c : ℕ = index_named cells (cell_of cells n) 2 in
    let d : ℕ = index_named cells (cell_of cells n) 3 in
    let above : n ≤ b = elim (cases_lt b (length cells)) [ inl inside ↦ omega (arith, behind_above cells rules' n there inside) | inr past ↦ omega (arith, past, there) ] in
    let right : n ≤ c = elim (cases_lt c (length cells)) [ inl inside ↦ omega (arith, behind_right cells rules' n there inside) | inr past ↦ omega (arith, past, there) ] in
    ap (λ m. a ∷ m ∷ length cells ∷ d ∷ []) (until_past cells n b above) ∙ ap (λ m. a ∷ until cells n b ∷ m ∷ d ∷ []) (until_past cells n c right)

-- the rows with one more, before it is named back
one_row : (cells : List Cell) → IsCells cells → (n : ℕ) (table : List (List ℕ)) (row : List ℕ) → n < length cells
    → table ≡ rows_until cells n → row ≡ row_back cells (cell_of cells n) → table ++ row ∷ [] ≡ map (row_until cells n) (take (n + 1) cells)
one_row cells rules' n table row there is here =
    ap (λ (rows : List (List ℕ)). rows ++ row ∷ []) is
    ∙ ap (λ (r : List ℕ). rows_until cells n ++ r ∷ []) (here ∙ own_row cells rules' n there)
    ∙ sym (map_more (row_until cells n) cells n no_cell there)

-- the row of one of the first so many
at_row : (cells : List Cell) (m count k : ℕ) → k < count → count ≤ length cells
    → get_or (map (row_until cells m) (take count cells)) k [] ≡ row_until cells m (cell_of cells k)
at_row cells m count k small most =
    get_or-map (row_until cells m) (take count cells) k no_cell [] (omega (arith, small, length-take-le count cells most))
    ∙ ap (row_until cells m) (get_or-take count cells k no_cell small)

-- a row after something was written into one of them
back_row : (table : List (List ℕ)) (of dir to k : ℕ) → k < length table
    → get_or (named_back table of dir to) k [] ≡ (if k == of then set (get_or table k []) dir to else get_or table k [])
back_row table of dir to k there =
    let made : ℕ → List ℕ = λ m. set (get_or table m []) dir to in
    let written : List (List ℕ) = set table of (made of) in
    elim (cases_lt of (length table)) [
      | inl inside ↦
          ap (λ (t : List (List ℕ)). get_or t k []) (cond-true (nat_lt of (length table)) written table (lt-ltb _ _ inside))
          ∙ elim (cases_eq k of) [
            | inl same ↦
                ap (λ m. get_or written m []) same ∙ get_or-set_same table of (made of) [] inside ∙ ap made (sym same)
                ∙ sym (cond-true (k == of) (made k) (get_or table k []) (eq-eqb k of same))
            | inr apart ↦
                get_or-set_other table of k (made of) [] apart ∙ sym (cond-false (k == of) (made k) (get_or table k []) (ne_eqb k of apart))
          ]
      | inr past ↦
          ap (λ (t : List (List ℕ)). get_or t k []) (cond-false (nat_lt of (length table)) written table (le-ltb _ _ past))
          ∙ sym (cond-false (k == of) (made k) (get_or table k []) (ne_eqb k of (λ same. omega (arith, same, there, past))))
    ]

back_length : (table : List (List ℕ)) (of dir to : ℕ) → length (named_back table of dir to) ≡ length table
back_length table of dir to = by_test (nat_lt of (length table))
  where
    by_test : (b : Bool) → length (if b then set table of (set (get_or table of []) dir to) else table) ≡ length table
    by_test true = length-set table of (set (get_or table of []) dir to)
    by_test false = refl

-- a row of four in which one may have been written
in_two : (e : Bool) (a b c d n : ℕ) → (if e then set (a ∷ b ∷ c ∷ d ∷ []) 2 n else (a ∷ b ∷ c ∷ d ∷ [])) ≡ a ∷ b ∷ (if e then n else c) ∷ d ∷ []
in_two true a b c d n = refl
in_two false a b c d n = refl

in_one : (e : Bool) (a b c d n : ℕ) → (if e then set (a ∷ b ∷ c ∷ d ∷ []) 1 n else (a ∷ b ∷ c ∷ d ∷ [])) ≡ a ∷ (if e then n else b) ∷ c ∷ d ∷ []
in_one true a b c d n = refl
in_one false a b c d n = refl

-- one index more
until_next : (cells : List Cell) (n k of x : ℕ) → (k ≡ of → x ≡ n) → (x ≡ n → k ≡ of)
    → (if k == of then n else until cells n x) ≡ until cells (n + 1) x
until_next cells n k of x there back =
    elim (cases_eq k of) [
      | inl same ↦
          let is = there same in
          cond-true (k == of) n (until cells n x) (eq-eqb k of same) ∙ sym is
          ∙ sym (cond-true (nat_lt x (n + 1)) x (length cells) (lt-ltb x (n + 1) (omega (arith, is))))
      | inr apart ↦
          cond-false (k == of) n (until cells n x) (ne_eqb k of apart)
          ∙ elim (cases_lt x n) [
            | inl less ↦
                cond-true (nat_lt x n) x (length cells) (lt-ltb x n less)
                ∙ sym (cond-true (nat_lt x (n + 1)) x (length cells) (lt-ltb x (n + 1) (omega (arith, less))))
            | inr past ↦
                sym (until_past cells n x past)
                ∙ elim (cases_lt x (n + 1)) [
                  | inl here ↦ absurd (apart (back (omega (arith, past, here))))
                  | inr more ↦ until_past cells (n + 1) x more
                ]
          ]
    ]

-- one cell more, which is named back by the cells that it names
pub one_cell : (cells : List Cell) → IsCut cells → (n : ℕ) (table : List (List ℕ)) (row : List ℕ) (left below : ℕ) → n < length cells
    → table ≡ rows_until cells n → row ≡ row_back cells (get_or cells n no_cell)
    → left ≡ index_named cells (get_or cells n no_cell) 0 → below ≡ index_named cells (get_or cells n no_cell) 3
    → named_back (named_back (table ++ row ∷ []) left 2 n) below 1 n ≡ rows_until cells (n + 1)
one_cell cells cut n table row left below there is here left_is below_is =
    let all : List (List ℕ) = table ++ row ∷ [] in
    let rows_are : all ≡ map (row_until cells n) (take (n + 1) cells) = one_row cells cut.rules n table row there is here in
    let count : length all ≡ n + 1 =
    ap length rows_are ∙ length-map (take (n + 1) cells) (row_until cells n) ∙ length-take-le (n + 1) cells (omega (arith, there)) in
    let mid : List (List ℕ) = named_back all left 2 n in
    let mid_long = back_length all left 2 n in
    let long = back_length mid below 1 n in
    ext_get_or [] (named_back mid below 1 n) (rows_until cells (n + 1))
    (long ∙ mid_long ∙ ap length rows_are ∙ length-map (take (n + 1) cells) (row_until cells n) ∙ sym (length-map (take (n + 1) cells) (row_until cells (n + 1))))
    (λ k inside.
    let small : k < n + 1 = omega (arith, inside, long, mid_long, count) in
    let inside' : k < length cells = omega (arith, small, there) in
    let cell : Cell = cell_of cells k in
    let a : ℕ = index_named cells cell 0 in
    let b : ℕ = index_named cells cell 1 in
    let c : ℕ = index_named cells cell 2 in
    let d : ℕ = index_named cells cell 3 in
    let old : get_or all k [] ≡ a ∷ until cells n b ∷ until cells n c ∷ d ∷ [] =
    ap (λ (t : List (List ℕ)). get_or t k []) rows_are ∙ at_row cells n (n + 1) k small (omega (arith, there)) in
    let one : get_or mid k [] ≡ a ∷ until cells n b ∷ (if k == left then n else until cells n c) ∷ d ∷ [] =
    back_row all left 2 n k (omega (arith, count, small))
    ∙ ap (λ (r : List ℕ). if k == left then set r 2 n else r) old
    ∙ in_two (k == left) a (until cells n b) (until cells n c) d n in
    let two : get_or (named_back mid below 1 n) k [] ≡ a ∷ (if k == below then n else until cells n b) ∷ (if k == left then n else until cells n c) ∷ d ∷ [] =
    back_row mid below 1 n k (omega (arith, mid_long, count, small))
    ∙ ap (λ (r : List ℕ). if k == below then set r 1 n else r) one
    ∙ in_one (k == below) a (until cells n b) (if k == left then n else until cells n c) d n in
    let right : (if k == left then n else until cells n c) ≡ until cells (n + 1) c =
    until_next cells n k left c
    (λ same. named_there cells cut n k 0 there inside' (omega arith) (omega arith) (sym (same ∙ left_is)))
    (λ same. sym (left_is ∙ named_there cells cut k n 2 inside' there (omega arith) (omega arith) same)) in
    let above : (if k == below then n else until cells n b) ≡ until cells (n + 1) b =
    until_next cells n k below b
    (λ same. named_there cells cut n k 3 there inside' (omega arith) (omega arith) (sym (same ∙ below_is)))
    (λ same. sym (below_is ∙ named_there cells cut k n 1 inside' there (omega arith) (omega arith) same)) in
    two ∙ ap (λ m. a ∷ m ∷ (if k == left then n else until cells n c) ∷ d ∷ []) above
    ∙ ap (λ m. a ∷ until cells (n + 1) b ∷ m ∷ d ∷ []) right
    ∙ sym (at_row cells (n + 1) (n + 1) k small (omega (arith, there))))

-- past the last cell all rows are those of the table
pub all_rows : (cells : List Cell) (n : ℕ) → length cells ≤ n → rows_until cells n ≡ neighbour_table cells
unfolding neighbour_table
all_rows cells n past =
    ap (map (row_until cells n)) (take_all n cells past) ∙ same_rows cells
  where
    until_same : (k : ℕ) → k ≤ length cells → until cells n k ≡ k
    until_same k most =
        elim (cases_lt k n) [
          | inl less ↦ cond-true (nat_lt k n) k (length cells) (lt-ltb k n less)
          | inr more ↦ sym (until_past cells n k more) ∙ omega (arith, most, more, past)
        ]

    same_row : (cell : Cell) → row_until cells n cell ≡ indices_named cells cell
    same_row cell =
        ap (λ m. index_named cells cell 0 ∷ m ∷ until cells n (index_named cells cell 2) ∷ index_named cells cell 3 ∷ [])
        (until_same (index_named cells cell 1) (prefix_len-le-length _ cells))
        ∙ ap (λ m. index_named cells cell 0 ∷ index_named cells cell 1 ∷ m ∷ index_named cells cell 3 ∷ [])
        (until_same (index_named cells cell 2) (prefix_len-le-length _ cells))

    same_rows : (xs : List Cell) → map (row_until cells n) xs ≡ map (indices_named cells) xs
    same_rows [] = refl
    same_rows (x ∷ xs) =
        ap (λ (r : List ℕ). r ∷ map (row_until cells n) xs) (same_row x) ∙ ap (λ (rs : List (List ℕ)). indices_named cells x ∷ rs) (same_rows xs)
