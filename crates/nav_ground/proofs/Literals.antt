-- The rules of values that are written out: a test by computation shows that they hold.
use Rattle.std.proofs.Common.{◌≡◌, ℕ, ◌<◌, ◌≤◌, ℤ, pos, negsuc, Bool, true, false, refl, length, List, [], ◌∷◌, get_or, arith, zero, suc, inl, inr}
use Rattle.std.proofs.lemmas.Bool.Decides.{nat_tests}
use Rattle.std.specs.Prelude.{All, AllPairs, IsTrue, ◌&&◌, ◌||◌, ◌==◌, not, nat_lt, nat_le, int_le, ◌≤ℤ◌}
use Rattle.std.specs.List.{list_all}
use Rattle.std.proofs.lemmas.Int.{ints}
use Rattle.std.proofs.lemmas.Bool.{and_parts, or_cases, both_ways, not-true, leb-true}
use Rattle.std.proofs.lemmas.List.Elements.{All-nil, All-cons, All-weaker, All-contains}
use Rattle.std.proofs.lemmas.List.Kept.{AllPairs-cons}
use Rattle.nav_ground.specs.declared.cell.Cell.{Cell}
use Rattle.nav_ground.specs.declared.cell.CellRef.{CellRef}
use Rattle.nav_ground.specs.declared.shape.Shape.{Shape}
use Rattle.nav_ground.specs.declared.shape.Shape.TheVariants.{Block, Cylinder, AreaBlock, AreaCylinder, Prism, Disc}
use Rattle.nav_ground.specs.declared.field.Field.{Field}
use Rattle.nav_ground.specs.declared.field.Span.{Span}
use Rattle.nav_ground.specs.Fields.{IsField, IsSpan, IsSpanBefore, AreAreas}
use Rattle.nav_ground.specs.Limits.{IsShape}
use Rattle.nav_ground.specs.Cells.{IsCellBefore, IsCell, IsCells, IsCut, AreMutual, is_naming, opposite}

-- a test that holds of each element
All-from_list_all : {X : Type 0} (p : X → Bool) (xs : List X) → list_all p xs ≡ true → All (λ x. p x ≡ true) xs
All-from_list_all p [] h = All-nil (λ x. p x ≡ true)
All-from_list_all p (x ∷ xs) h =
    let parts = and_parts (p x) (list_all p xs) h in
    All-cons (λ y. p y ≡ true) x xs parts.0 (All-from_list_all p xs parts.1)

-- a test that holds of each element and each later one
abbrev pub is_ordered_by : {X : Type 0} → (X → X → Bool) → List X → Bool
is_ordered_by r [] = true
is_ordered_by r (x ∷ xs) = list_all (r x) xs && is_ordered_by r xs

AllPairs-from_test : {X : Type 0} (r : X → X → Bool) (xs : List X) → is_ordered_by r xs ≡ true → AllPairs (λ x y. r x y ≡ true) xs
AllPairs-from_test r [] h = λ i j d before there. absurd (omega arith)
AllPairs-from_test r (x ∷ xs) h =
    let parts = and_parts (list_all (r x) xs) (is_ordered_by r xs) h in
    AllPairs-cons (λ a b. r a b ≡ true) x xs (All-from_list_all (r x) xs parts.0) (AllPairs-from_test r xs parts.1)

abbrev pub is_cell_before : CellRef → CellRef → Bool
is_cell_before a b = nat_lt a.z b.z || (a.z == b.z && (nat_lt a.x b.x || (a.x == b.x && nat_lt a.level b.level)))

abbrev pub is_cell : Cell → Bool
is_cell cell = nat_lt cell.at.x 1024 && nat_lt cell.at.z 1024 && nat_le 1 cell.area && nat_le cell.area 63
    && nat_le cell.floor 8191 && nat_le cell.ceiling 65535 && length cell.next == 4

abbrev pub is_named_back : ℕ → Cell → Cell → Bool
is_named_back dir a b = not (is_naming dir a b.at) || is_naming (opposite dir) b a.at

abbrev pub is_named_back_each : Cell → Cell → Bool
is_named_back_each a b = (is_named_back 0 a b && is_named_back 1 a b) && (is_named_back 2 a b && is_named_back 3 a b)

abbrev pub is_mutual : List Cell → Bool
is_mutual cells = list_all (λ (a : Cell). list_all (is_named_back_each a) cells) cells

-- the rules of cells, and of cells of a cut, as tests
abbrev pub is_cells : List Cell → Bool
is_cells cells = nat_le (length cells) 2000000 && (is_ordered_by (λ (a b : Cell). is_cell_before a.at b.at) cells && list_all is_cell cells)

abbrev pub is_cut : List Cell → Bool
is_cut cells = is_cells cells && is_mutual cells

before_shown : (a b : CellRef) → is_cell_before a b ≡ true → IsCellBefore a b
before_shown a b h = grind (arith, nat_tests)

cell_shown : (cell : Cell) → is_cell cell ≡ true → IsCell cell
cell_shown cell h = grind (arith, nat_tests)

each_back : (dir : ℕ) (a b : Cell) → dir < 4 → is_named_back_each a b ≡ true → is_named_back dir a b ≡ true
each_back zero a b small h = (and_parts (is_named_back 0 a b) _ (and_parts (is_named_back 0 a b && is_named_back 1 a b) _ h).0).0
each_back (suc zero) a b small h = (and_parts (is_named_back 0 a b) _ (and_parts (is_named_back 0 a b && is_named_back 1 a b) _ h).0).1
each_back (suc (suc zero)) a b small h = (and_parts (is_named_back 2 a b) _ (and_parts (is_named_back 0 a b && is_named_back 1 a b) _ h).1).0
each_back (suc (suc (suc zero))) a b small h = (and_parts (is_named_back 2 a b) _ (and_parts (is_named_back 0 a b && is_named_back 1 a b) _ h).1).1
each_back (suc (suc (suc (suc n)))) a b small h = absurd (omega arith)

shown_back : (dir : ℕ) (a b : Cell) → dir < 4 → is_named_back dir a b ≡ true → IsTrue (is_naming dir a b.at) → IsTrue (is_naming (opposite dir) b a.at)
shown_back dir a b small h named =
    elim (or_cases (not (is_naming dir a b.at)) (is_naming (opposite dir) b a.at) h) [
      | inl unnamed ↦ absurd (both_ways (is_naming dir a b.at) (not-true (is_naming dir a b.at) unnamed) named)
      | inr back ↦ back
    ]

mutual_shown : (cells : List Cell) → is_mutual cells ≡ true → AreMutual cells
mutual_shown cells h dir a b small has_a has_b named =
    let rows = All-contains (λ (c : Cell). list_all (is_named_back_each c) cells ≡ true) cells a
    (All-from_list_all (λ (c : Cell). list_all (is_named_back_each c) cells) cells h) has_a in
    let here = All-contains (λ (c : Cell). is_named_back_each a c ≡ true) cells b (All-from_list_all (is_named_back_each a) cells rows) has_b in
    shown_back dir a b small (each_back dir a b small here) named

-- cells that pass the test keep the rules of cells, or of a cut
pub IsCells-shown : (cells : List Cell) → is_cells cells ≡ true → IsCells cells
IsCells-shown cells h =
    let ordered = is_ordered_by (λ (a b : Cell). is_cell_before a.at b.at) cells in
    let most = and_parts (nat_le (length cells) 2000000) (ordered && list_all is_cell cells) h in
    let last = and_parts ordered (list_all is_cell cells) most.1 in
    let pairs = AllPairs-from_test (λ (a b : Cell). is_cell_before a.at b.at) cells last.0 in
    record {
      few = leb-true (length cells) 2000000 most.0;
      order = λ i j d before there. before_shown _ _ (pairs i j d before there);
      each = All-weaker (λ (cell : Cell). is_cell cell ≡ true) IsCell cell_shown cells (All-from_list_all is_cell cells last.1);
    }

pub IsCut-shown : (cells : List Cell) → is_cut cells ≡ true → IsCut cells
IsCut-shown cells h =
    let parts = and_parts (is_cells cells) (is_mutual cells) h in
    record { rules = IsCells-shown cells parts.0; named_back = mutual_shown cells parts.1 }

-- the limits of a shape, as a test
abbrev pub is_box : ℕ → ℕ → ℕ → ℕ → ℕ → ℕ → Bool
is_box x0 x1 y0 y1 z0 z1 = nat_le x0 x1 && nat_le x1 1023 && nat_le y0 y1 && nat_le y1 8191 && nat_le z0 z1 && nat_le z1 1023

abbrev pub is_round : ℕ → ℕ → ℕ → ℕ → ℕ → Bool
is_round cx cz r y0 y1 = nat_le cx 2048 && nat_le cz 2048 && nat_le r 1023 && nat_le y0 y1 && nat_le y1 8191

abbrev pub is_area : ℕ → Bool
is_area area = nat_le 1 area && nat_le area 63

abbrev pub is_near : ℤ → Bool
is_near n = int_le (negsuc 16383) n && int_le n (pos 81920)

-- a prism's corners are not tested here: `prism_base` makes its base
abbrev pub is_shape : Shape → Bool
is_shape (Block x0 x1 y0 y1 z0 z1) = is_box x0 x1 y0 y1 z0 z1
is_shape (Cylinder cx cz r y0 y1) = is_round cx cz r y0 y1
is_shape (AreaBlock area x0 x1 y0 y1 z0 z1) = is_area area && is_box x0 x1 y0 y1 z0 z1
is_shape (AreaCylinder area cx cz r y0 y1) = is_area area && is_round cx cz r y0 y1
is_shape (Prism base area y0 y1) = false
is_shape (Disc cx cz r area y0 y1) = is_near cx && is_near cz && nat_le 1 r && nat_le r 16384 && nat_le area 63 && nat_le y0 y1 && nat_le y1 8191

le_shown : (a b : ℤ) → int_le a b ≡ true → a ≤ℤ b
le_shown a b h = grind (arith, ints)

near_shown : (n : ℤ) → is_near n ≡ true → (negsuc 16383 ≤ℤ n) × (n ≤ℤ pos 81920)
near_shown n h = let parts = and_parts (int_le (negsuc 16383) n) _ h in (le_shown _ _ parts.0, le_shown _ _ parts.1)

pub IsShape-shown : (shape : Shape) → is_shape shape ≡ true → IsShape shape
IsShape-shown (Block x0 x1 y0 y1 z0 z1) h = grind (arith, nat_tests)
IsShape-shown (Cylinder cx cz r y0 y1) h = grind (arith, nat_tests)
IsShape-shown (AreaBlock area x0 x1 y0 y1 z0 z1) h = grind (arith, nat_tests)
IsShape-shown (AreaCylinder area cx cz r y0 y1) h = grind (arith, nat_tests)
IsShape-shown (Prism base area y0 y1) h = absurd (both_ways false refl h)
IsShape-shown (Disc cx cz r area y0 y1) h =
    let most = and_parts (is_near cx && is_near cz && nat_le 1 r && nat_le r 16384 && nat_le area 63 && nat_le y0 y1) (nat_le y1 8191) h in
    let order = and_parts (is_near cx && is_near cz && nat_le 1 r && nat_le r 16384 && nat_le area 63) (nat_le y0 y1) most.0 in
    let given = and_parts (is_near cx && is_near cz && nat_le 1 r && nat_le r 16384) (nat_le area 63) order.0 in
    let far = and_parts (is_near cx && is_near cz && nat_le 1 r) (nat_le r 16384) given.0 in
    let some = and_parts (is_near cx && is_near cz) (nat_le 1 r) far.0 in
    let centre = and_parts (is_near cx) (is_near cz) some.0 in
    let x = near_shown cx centre.0 in
    let z = near_shown cz centre.1 in
    record {
      centre = record { left = x.0; right = x.1; bottom = z.0; top = z.1 };
      r_least = leb-true 1 r some.1;
      r_most = leb-true r 16384 far.1;
      area_most = leb-true area 63 given.1;
      y = leb-true y0 y1 order.1;
      y_most = leb-true y1 8191 most.1;
    }

-- shapes that pass the test are within their limits
pub shapes_shown : (shapes : List Shape) → list_all is_shape shapes ≡ true → All IsShape shapes
shapes_shown shapes h = All-weaker (λ (s : Shape). is_shape s ≡ true) IsShape IsShape-shown shapes (All-from_list_all is_shape shapes h)

-- the rules of a field, as a test
abbrev pub is_span : ℕ → ℕ → Span → Bool
is_span width depth span = nat_lt span.x width && nat_lt span.z depth && nat_lt span.bottom span.top && nat_le span.top 8191 && nat_le span.area 63

abbrev pub is_span_before : Span → Span → Bool
is_span_before a b = nat_lt a.z b.z || (a.z == b.z && (nat_lt a.x b.x || (a.x == b.x && nat_le a.top b.bottom)))

abbrev pub is_size : ℕ → Bool
is_size n = nat_le 1 n && nat_le n 1024

abbrev pub is_field : Field → Bool
is_field field = (is_size field.width && is_size field.depth) && nat_le (length field.spans) 2000000
    && (list_all (is_span field.width field.depth) field.spans && is_ordered_by is_span_before field.spans)

span_shown : (width depth : ℕ) (span : Span) → is_span width depth span ≡ true → IsSpan width depth span
span_shown width depth span h = grind (arith, nat_tests)

span_before_shown : (a b : Span) → is_span_before a b ≡ true → IsSpanBefore a b
span_before_shown a b h = grind (arith, nat_tests)

size_shown : (n : ℕ) → is_size n ≡ true → (1 ≤ n) × (n ≤ 1024)
size_shown n h = grind (arith, nat_tests)

-- a field that passes the test keeps the rules
pub IsField-shown : (field : Field) → is_field field ≡ true → IsField field
IsField-shown field h =
    let spans = list_all (is_span field.width field.depth) field.spans in
    let order = is_ordered_by is_span_before field.spans in
    let most = and_parts ((is_size field.width && is_size field.depth) && nat_le (length field.spans) 2000000) (spans && order) h in
    let first = and_parts (is_size field.width && is_size field.depth) (nat_le (length field.spans) 2000000) most.0 in
    let sizes = and_parts (is_size field.width) (is_size field.depth) first.0 in
    let last = and_parts spans order most.1 in
    let pairs = AllPairs-from_test is_span_before field.spans last.1 in
    record {
      wide = (size_shown field.width sizes.0).0;
      width = (size_shown field.width sizes.0).1;
      deep = (size_shown field.depth sizes.1).0;
      depth = (size_shown field.depth sizes.1).1;
      few = leb-true (length field.spans) 2000000 first.1;
      spans = All-weaker (λ (span : Span). is_span field.width field.depth span ≡ true) (IsSpan field.width field.depth)
          (span_shown field.width field.depth) field.spans (All-from_list_all (is_span field.width field.depth) field.spans last.0);
      order = λ i j d before there. span_before_shown (get_or field.spans i d) (get_or field.spans j d) (pairs i j d before there);
    }

-- areas that pass the test stand beside spans
pub AreAreas-shown : (areas : List ℕ) → list_all (λ area. nat_le area 63) areas ≡ true → AreAreas areas
AreAreas-shown areas h =
    All-weaker (λ area. nat_le area 63 ≡ true) (λ area. area ≤ 63) (λ area below. leb-true area 63 below) areas
    (All-from_list_all (λ area. nat_le area 63) areas h)
