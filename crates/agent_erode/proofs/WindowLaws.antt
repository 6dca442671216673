-- Windows: which cells are kept in a rectangle depends on the cells near it alone.
use Rattle.std.proofs.Common.{◌≡◌, ℕ, ◌+◌, ◌-◌, ◌<◌, ◌≤◌, ◌⊎◌, Bool, true, false, cond, length, List, [], ◌∷◌, ◌++◌, take, drop, filter, get_or, ap, ◌∙◌, sym, refl, subst, arith, zero, suc, inl, inr}
use Rattle.std.specs.Prelude.{◌&&◌, ◌||◌, not, ℤ, pos, ◌+ℤ◌, ◌-ℤ◌, ◌≤ℤ◌, ◌*◌, ◌%◌, int_le}
use Rattle.std.specs.List.{list_any, range_with_len}
use Rattle.std.proofs.lemmas.Int.{ints}
use Rattle.std.proofs.lemmas.Bool.{and_parts, and_from, and_right, or_cases, both_ways, false_from_ne_true, cases_lt}
use Rattle.std.proofs.lemmas.List.Elements.{filter_agree, filter-append}
use Rattle.std.proofs.lemmas.List.{get_or-take, get_or-drop, length-take, length-drop, append-nil, take-append-drop}
use Rattle.std.specs.List.Sorted.{IsNonDecreasingBy}
use Rattle.nav_ground.specs.declared.cell.Cell.{Cell}
use Rattle.nav_ground.specs.declared.cell.CellRef.{CellRef}
use Rattle.nav_ground.specs.declared.cell.Window.{Window}
use Rattle.nav_ground.specs.Cells.{IsCellBefore, IsCells, is_naming, is_toward}
use Rattle.nav_ground.specs.Tiling.{is_in_window, widened}
use Rattle.nav_ground.specs.Clearance.{has_neighbour, is_boundary, is_axis_step, is_turn, is_diagonal_step, is_walk_end, is_kept, kept_cells, cells_in}
use Rattle.cell_table.proofs.Places.{no_cell}
use Rattle.agent_erode.proofs.Walks.{any_direction, hit_of}
use Rattle.nav_ground.proofs.Directions.{both_equal}
use Rattle.nav_ground.proofs.Selections.{filter-filter, filter_none}

-- a place is so many columns away from the columns outside a rectangle
pub record IsDeep (window : Window) (m : ℕ) (at : CellRef) : Type 0 where
  pub x_least : (window.x0 +ℤ pos m) ≤ℤ pos at.x
  pub x_most : (pos at.x +ℤ pos m) ≤ℤ window.x1
  pub z_least : (window.z0 +ℤ pos m) ≤ℤ pos at.z
  pub z_most : (pos at.z +ℤ pos m) ≤ℤ window.z1

-- two places lie at most one column apart
pub record IsBeside (a b : CellRef) : Type 0 where
  pub right : a.x ≤ b.x + 1
  pub left : b.x ≤ a.x + 1
  pub above : a.z ≤ b.z + 1
  pub below : b.z ≤ a.z + 1

pub toward_beside : (dir : ℕ) (a b : CellRef) → dir < 4 → is_toward dir a b ≡ true → IsBeside a b
toward_beside zero a b small h =
    let e = both_equal (b.x + 1) a.x b.z a.z h in
    record { right = omega (arith, e.0); left = omega (arith, e.0); above = omega (arith, e.1); below = omega (arith, e.1) }
toward_beside (suc zero) a b small h =
    let e = both_equal b.x a.x b.z (a.z + 1) h in
    record { right = omega (arith, e.0); left = omega (arith, e.0); above = omega (arith, e.1); below = omega (arith, e.1) }
toward_beside (suc (suc zero)) a b small h =
    let e = both_equal b.x (a.x + 1) b.z a.z h in
    record { right = omega (arith, e.0); left = omega (arith, e.0); above = omega (arith, e.1); below = omega (arith, e.1) }
toward_beside (suc (suc (suc zero))) a b small h =
    let e = both_equal b.x a.x (b.z + 1) a.z h in
    record { right = omega (arith, e.0); left = omega (arith, e.0); above = omega (arith, e.1); below = omega (arith, e.1) }
toward_beside (suc (suc (suc (suc n)))) a b small h = absurd (omega (arith, small))

-- so do two that a turn joins
turn_beside : (dir : ℕ) (a b c : CellRef) → dir < 4 → is_toward dir a b ≡ true
    → (is_toward ((dir + 1) % 4) b c ≡ true) ⊎ (is_toward ((dir + 3) % 4) b c ≡ true) → IsBeside a c
turn_beside zero a b c small h (inl g) =
    let e = both_equal (b.x + 1) a.x b.z a.z h in
    let f = both_equal c.x b.x c.z (b.z + 1) g in
    record { right = omega (arith, e, f); left = omega (arith, e, f); above = omega (arith, e, f); below = omega (arith, e, f) }
turn_beside zero a b c small h (inr g) =
    let e = both_equal (b.x + 1) a.x b.z a.z h in
    let f = both_equal c.x b.x (c.z + 1) b.z g in
    record { right = omega (arith, e, f); left = omega (arith, e, f); above = omega (arith, e, f); below = omega (arith, e, f) }
turn_beside (suc zero) a b c small h (inl g) =
    let e = both_equal b.x a.x b.z (a.z + 1) h in
    let f = both_equal c.x (b.x + 1) c.z b.z g in
    record { right = omega (arith, e, f); left = omega (arith, e, f); above = omega (arith, e, f); below = omega (arith, e, f) }
turn_beside (suc zero) a b c small h (inr g) =
    let e = both_equal b.x a.x b.z (a.z + 1) h in
    let f = both_equal (c.x + 1) b.x c.z b.z g in
    record { right = omega (arith, e, f); left = omega (arith, e, f); above = omega (arith, e, f); below = omega (arith, e, f) }
turn_beside (suc (suc zero)) a b c small h (inl g) =
    let e = both_equal b.x (a.x + 1) b.z a.z h in
    let f = both_equal c.x b.x (c.z + 1) b.z g in
    record { right = omega (arith, e, f); left = omega (arith, e, f); above = omega (arith, e, f); below = omega (arith, e, f) }
turn_beside (suc (suc zero)) a b c small h (inr g) =
    let e = both_equal b.x (a.x + 1) b.z a.z h in
    let f = both_equal c.x b.x c.z (b.z + 1) g in
    record { right = omega (arith, e, f); left = omega (arith, e, f); above = omega (arith, e, f); below = omega (arith, e, f) }
turn_beside (suc (suc (suc zero))) a b c small h (inl g) =
    let e = both_equal b.x a.x (b.z + 1) a.z h in
    let f = both_equal (c.x + 1) b.x c.z b.z g in
    record { right = omega (arith, e, f); left = omega (arith, e, f); above = omega (arith, e, f); below = omega (arith, e, f) }
turn_beside (suc (suc (suc zero))) a b c small h (inr g) =
    let e = both_equal b.x a.x (b.z + 1) a.z h in
    let f = both_equal c.x (b.x + 1) c.z b.z g in
    record { right = omega (arith, e, f); left = omega (arith, e, f); above = omega (arith, e, f); below = omega (arith, e, f) }
turn_beside (suc (suc (suc (suc n)))) a b c small h g = absurd (omega (arith, small))

pub beside_back : (a b : CellRef) → IsBeside a b → IsBeside b a
beside_back a b beside = record { right = beside.left; left = beside.right; above = beside.below; below = beside.above }

pub named_beside : (dir : ℕ) (a : Cell) (b : CellRef) → dir < 4 → is_naming dir a b ≡ true → IsBeside a.at b
named_beside dir a b small named = toward_beside dir a.at b small (and_parts (is_toward dir a.at b) _ named).0

pub deep_beside : (window : Window) (m : ℕ) (a b : CellRef) → IsBeside a b → IsDeep window (m + 1) b → IsDeep window m a
deep_beside window m a b beside deep = record {
  x_least = omega (arith, ints);
  x_most = omega (arith, ints);
  z_least = omega (arith, ints);
  z_most = omega (arith, ints);
}

pub deep_same : (window : Window) (m n : ℕ) (at : CellRef) → m ≡ n → IsDeep window m at → IsDeep window n at
deep_same window m n at same deep = let P : ℕ → Type 0 = λ k. IsDeep window k at in subst P same deep

pub deep_inside : (window : Window) (m : ℕ) (at : CellRef) → IsDeep window m at → is_in_window window at.x at.z ≡ true
deep_inside window m at deep =
    and_from _ _ (and_from _ _ (is_low window.x0 at.x m deep.x_least) (is_high window.x1 at.x m deep.x_most))
    (and_from _ _ (is_low window.z0 at.z m deep.z_least) (is_high window.z1 at.z m deep.z_most))
  where
    is_low : (x0 : ℤ) (x m : ℕ) → (x0 +ℤ pos m) ≤ℤ pos x → int_le x0 (pos x) ≡ true
    is_low x0 x m h = grind (arith, ints)

    is_high : (x1 : ℤ) (x m : ℕ) → (pos x +ℤ pos m) ≤ℤ x1 → int_le (pos x) x1 ≡ true
    is_high x1 x m h = grind (arith, ints)

-- a place in a rectangle is as deep in the widened one as that is wider
pub inside_deep : (window : Window) (margin : ℕ) (at : CellRef) → is_in_window window at.x at.z ≡ true → IsDeep (widened window margin) margin at
inside_deep window margin at inside =
    let both = and_parts _ _ inside in
    let x = and_parts _ _ both.0 in
    let z = and_parts _ _ both.1 in
    record {
      x_least = low_wide window.x0 at.x margin x.0;
      x_most = high_wide window.x1 at.x margin x.1;
      z_least = low_wide window.z0 at.z margin z.0;
      z_most = high_wide window.z1 at.z margin z.1;
    }
  where
    low_wide : (x0 : ℤ) (x m : ℕ) → int_le x0 (pos x) ≡ true → ((x0 -ℤ pos m) +ℤ pos m) ≤ℤ pos x
    low_wide x0 x m h = grind (arith, ints)

    high_wide : (x1 : ℤ) (x m : ℕ) → int_le (pos x) x1 ≡ true → (pos x +ℤ pos m) ≤ℤ (x1 +ℤ pos m)
    high_wide x1 x m h = grind (arith, ints)

-- elements that a test keeps, where each that passes another does
pub any_kept : {A : Type 0} (p q r : A → Bool) (xs : List A) → ((x : A) → r x ≡ true → p x ≡ true) → ((x : A) → p x ≡ true → q x ≡ r x)
    → list_any q (filter p xs) ≡ list_any r xs
any_kept p q r [] kept same = refl
any_kept p q r (x ∷ xs) kept same =
    let rest = any_kept p q r xs kept same in
    (elim (p x) as (λ b. p x ≡ b → list_any q (cond b (x ∷ filter p xs) (filter p xs)) ≡ (r x || list_any r xs)) [
      | true ↦ λ is. ap (λ b. b || list_any q (filter p xs)) (same x is) ∙ ap (λ b. r x || b) rest
      | false ↦ λ is.
          let none : r x ≡ false = false_from_ne_true (r x) (λ h. both_ways (p x) is (kept x h)) in
          rest ∙ ap (λ b. b || list_any r xs) (sym none)
    ]) refl

pub either_same : {a b x y : Bool} → a ≡ b → x ≡ y → (a || x) ≡ (b || y)
either_same {b = b} {x = x} e f = ap (λ c. c || x) e ∙ ap (λ c. b || c) f

-- a test that matters only where another holds
pub and_same : (a x y : Bool) → (a ≡ true → x ≡ y) → (a && x) ≡ (a && y)
and_same true x y same = same refl
and_same false x y same = refl

axis_beside : (from to : Cell) → is_axis_step from to ≡ true → IsBeside from.at to.at
axis_beside from to step =
    let found = any_direction (λ dir. is_naming dir from to.at) step in
    named_beside found.0 from to.at found.1 found.2

-- a turn joins three places
pub turn_places : (from by to : Cell) → is_turn from by to ≡ true → IsBeside by.at to.at × IsBeside from.at to.at
turn_places from by to turn =
    let found = any_direction (λ dir. is_naming dir from by.at && (is_naming ((dir + 1) % 4) by to.at || is_naming ((dir + 3) % 4) by to.at)) turn in
    let dir = found.0 in
    let parts = and_parts (is_naming dir from by.at) _ found.2 in
    let first = (and_parts (is_toward dir from.at by.at) _ parts.0).0 in
    elim (or_cases (is_naming ((dir + 1) % 4) by to.at) (is_naming ((dir + 3) % 4) by to.at) parts.1) [
      | inl one ↦ (
        named_beside ((dir + 1) % 4) by to.at (omega arith) one,
        turn_beside dir from.at by.at to.at found.1 first (inl (and_parts (is_toward ((dir + 1) % 4) by.at to.at) _ one).0),
      )
      | inr other ↦ (
        named_beside ((dir + 3) % 4) by to.at (omega arith) other,
        turn_beside dir from.at by.at to.at found.1 first (inr (and_parts (is_toward ((dir + 3) % 4) by.at to.at) _ other).0),
      )
    ]

diagonal_beside : (cells : List Cell) (from to : Cell) → is_diagonal_step cells from to ≡ true → IsBeside from.at to.at
diagonal_beside cells from to step =
    let hit = hit_of (λ (by : Cell). is_turn from by to) cells no_cell step in
    (turn_places from (get_or cells hit.index no_cell) to hit.passes).1

module _ (window : Window) (cells : List Cell) where
  deep_neighbour : (m : ℕ) (to : Cell) (dir : ℕ) → dir < 4 → IsDeep window (m + 1) to.at
      → has_neighbour (cells_in window cells) to dir ≡ has_neighbour cells to dir
  deep_neighbour m to dir small deep =
      any_kept (λ (other : Cell). is_in_window window other.at.x other.at.z) (λ (other : Cell). is_naming dir to other.at)
      (λ (other : Cell). is_naming dir to other.at) cells
      (λ other named. deep_inside window m other.at (deep_beside window m other.at to.at (beside_back to.at other.at (named_beside dir to other.at small named)) deep))
      (λ other inside. refl)

  deep_boundary : (m : ℕ) (to : Cell) → IsDeep window (m + 1) to.at → is_boundary (cells_in window cells) to ≡ is_boundary cells to
  deep_boundary m to deep =
      let e0 = deep_neighbour m to 0 (omega arith) deep in
      let e1 = deep_neighbour m to 1 (omega arith) deep in
      let e2 = deep_neighbour m to 2 (omega arith) deep in
      let e3 = deep_neighbour m to 3 (omega arith) deep in
      cc

  deep_diagonal : (m : ℕ) (from to : Cell) → IsDeep window (m + 1) to.at
      → is_diagonal_step (cells_in window cells) from to ≡ is_diagonal_step cells from to
  deep_diagonal m from to deep =
      any_kept (λ (by : Cell). is_in_window window by.at.x by.at.z) (λ (by : Cell). is_turn from by to) (λ (by : Cell). is_turn from by to) cells
      (λ by turn. deep_inside window m by.at (deep_beside window m by.at to.at (turn_places from by to turn).0 deep))
      (λ by inside. refl)

  -- walks that cost less than they would to come from outside
  walk_deep : (cost m : ℕ) (to : Cell) → cost ≤ m + m + 1 → IsDeep window (m + 1) to.at
      → is_walk_end (cells_in window cells) cost to ≡ is_walk_end cells cost to
  unfolding is_walk_end
  walk_deep zero m to cheap deep = deep_boundary m to deep
  walk_deep (suc zero) m to cheap deep = refl
  walk_deep (suc (suc zero)) zero to cheap deep = absurd (omega (arith, cheap))
  walk_deep (suc (suc zero)) (suc m) to cheap deep =
      let near = λ (from : Cell) (beside : IsBeside from.at to.at). deep_beside window (suc m) from.at to.at beside deep in
      any_kept (λ (from : Cell). is_in_window window from.at.x from.at.z)
      (λ (from : Cell). is_axis_step from to && is_walk_end (cells_in window cells) zero from)
      (λ (from : Cell). is_axis_step from to && is_walk_end cells zero from) cells
      (λ from h. deep_inside window (suc m) from.at (near from (axis_beside from to (and_parts (is_axis_step from to) _ h).0)))
      (λ from inside. and_same (is_axis_step from to) _ _ (λ step.
      walk_deep zero m from (omega arith) (deep_same window (suc m) (m + 1) from.at (omega arith) (near from (axis_beside from to step)))))
  walk_deep (suc (suc (suc cost))) zero to cheap deep = absurd (omega (arith, cheap))
  walk_deep (suc (suc (suc cost))) (suc m) to cheap deep =
      let near = λ (from : Cell) (beside : IsBeside from.at to.at). deep_beside window (suc m) from.at to.at beside deep in
      let less = λ (from : Cell) (beside : IsBeside from.at to.at). deep_same window (suc m) (m + 1) from.at (omega arith) (near from beside) in
      any_kept (λ (from : Cell). is_in_window window from.at.x from.at.z)
      (λ (from : Cell). is_axis_step from to && is_walk_end (cells_in window cells) (suc cost) from
      || is_diagonal_step (cells_in window cells) from to && is_walk_end (cells_in window cells) cost from)
      (λ (from : Cell). is_axis_step from to && is_walk_end cells (suc cost) from || is_diagonal_step cells from to && is_walk_end cells cost from) cells
      (λ from h. deep_inside window (suc m) from.at (near from (elim (or_cases (is_axis_step from to && is_walk_end cells (suc cost) from)
      (is_diagonal_step cells from to && is_walk_end cells cost from) h) [
        | inl along ↦ axis_beside from to (and_parts (is_axis_step from to) _ along).0
        | inr across ↦ diagonal_beside cells from to (and_parts (is_diagonal_step cells from to) _ across).0
      ])))
      (λ from inside. either_same
      (and_same (is_axis_step from to) _ _ (λ step. walk_deep (suc cost) m from (omega (arith, cheap)) (less from (axis_beside from to step))))
      (ap (λ b. b && is_walk_end (cells_in window cells) cost from) (deep_diagonal (suc m) from to deep)
      ∙ and_same (is_diagonal_step cells from to) _ _ (λ step.
      walk_deep cost m from (omega (arith, cheap)) (less from (diagonal_beside cells from to step)))))

-- two tests that agree on a range
pub any_range_same : (p q : ℕ → Bool) (first count : ℕ) → ((n : ℕ) → first ≤ n → n < first + count → p n ≡ q n)
    → list_any p (range_with_len first count) ≡ list_any q (range_with_len first count)
any_range_same p q first zero same = refl
any_range_same p q first (suc count) same =
    either_same (same first (omega arith) (omega arith))
    (any_range_same p q (first + 1) count (λ n low high. same n (omega (arith, low)) (omega (arith, high))))

-- a cell of a rectangle is kept where it is kept among the cells of the rectangle widened by the radius
pub kept_near : (window : Window) (cells : List Cell) (radius : ℕ) (cell : Cell) → is_in_window window cell.at.x cell.at.z ≡ true
    → is_kept (cells_in (widened window radius) cells) radius cell ≡ is_kept cells radius cell
kept_near window cells radius cell inside =
    ap not (any_range_same (λ cost. is_walk_end (cells_in (widened window radius) cells) cost cell) (λ cost. is_walk_end cells cost cell) 0 (2 * radius)
    (λ cost low high.
    let m : ℕ = radius - 1 in
    let same : radius ≡ m + 1 = omega (arith, high) in
    walk_deep (widened window radius) cells cost m cell (omega (arith, high))
    (deep_same (widened window radius) radius (m + 1) cell.at same (inside_deep window radius cell.at inside))))

-- the kept cells of a rectangle
pub kept_in_window : (window : Window) (cells : List Cell) (radius : ℕ)
    → cells_in window (kept_cells (cells_in (widened window radius) cells) radius) ≡ cells_in window (kept_cells cells radius)
kept_in_window window cells radius =
    let inside = λ (cell : Cell). is_in_window window cell.at.x cell.at.z in
    let wide = λ (cell : Cell). is_in_window (widened window radius) cell.at.x cell.at.z in
    let near = is_kept (cells_in (widened window radius) cells) radius in
    ap (filter inside) (filter-filter near wide cells)
    ∙ filter-filter inside (λ cell. wide cell && near cell) cells
    ∙ filter_agree (λ cell. (wide cell && near cell) && inside cell) (λ cell. is_kept cells radius cell && inside cell)
    (λ cell. in_window (wide cell) (near cell) (is_kept cells radius cell) (inside cell)
    (λ h. deep_inside (widened window radius) radius cell.at (inside_deep window radius cell.at h))
    (λ h. kept_near window cells radius cell h)) cells
    ∙ sym (filter-filter inside (is_kept cells radius) cells)
  where
    in_window : (wide near kept inside : Bool) → (inside ≡ true → wide ≡ true) → (inside ≡ true → near ≡ kept) → ((wide && near) && inside) ≡ (kept && inside)
    in_window true near kept true within same = ap (λ b. b && true) (same refl)
    in_window false near kept true within same = absurd (both_ways false refl (within refl))
    in_window wide near kept false within same = and_right (wide && near) false refl ∙ sym (and_right kept false refl)

-- a rectangle that is not widened
pub not_widened : (window : Window) (x z : ℕ) → is_in_window (widened window 0) x z ≡ is_in_window window x z
not_widened window x z =
    within_same (window.x0 -ℤ pos 0) (pos x) (window.x1 +ℤ pos 0) (window.z0 -ℤ pos 0) (pos z) (window.z1 +ℤ pos 0) window.x0 window.x1 window.z0 window.z1
    (omega (arith, ints)) (omega (arith, ints)) (omega (arith, ints)) (omega (arith, ints))
  where
    within_same : (a x b c z d a' b' c' d' : ℤ) → a ≡ a' → b ≡ b' → c ≡ c' → d ≡ d'
        → (int_le a x && int_le x b && (int_le c z && int_le z d)) ≡ (int_le a' x && int_le x b' && (int_le c' z && int_le z d'))
    within_same a x b c z d a' b' c' d' e f g h = cc

-- a later cell's row is not before an earlier one's
row_rises : (a b : CellRef) → IsCellBefore a b → a.z ≤ b.z
row_rises a b (inl below) = omega (arith, below)
row_rises a b (inr (same, after)) = omega (arith, same)

pub rows_rise : (cells : List Cell) → IsCells cells → IsNonDecreasingBy (λ (cell : Cell). cell.at.z) cells
rows_rise cells rules' i j d before there =
    elim (cases_lt i j) [
      | inl less ↦ row_rises (get_or cells i d).at (get_or cells j d).at (rules'.order i j d less there)
      | inr more ↦
          let P : ℕ → Type 0 = λ k. (get_or cells i d).at.z ≤ (get_or cells k d).at.z in
          let same : i ≡ j = omega (arith, before, more) in
          subst P same (omega arith)
    ]

-- what a rectangle has of the cells before a place of a list of which none lies in it, and of those before a later place
pub none_before : {A : Type 0} (p : A → Bool) (xs : List A) (n : ℕ) → ((k : ℕ) (d : A) → k < n → k < length xs → p (get_or xs k d) ≡ false)
    → filter p (take n xs) ≡ []
none_before p xs n none =
    filter_none p (take n xs) (λ k d there.
    let small : k < n = omega (arith, there, length-take n xs) in
    ap p (get_or-take n xs k d small) ∙ none k d small (omega (arith, there, length-take n xs)))

pub none_after : {A : Type 0} (p : A → Bool) (xs : List A) (n : ℕ) → ((k : ℕ) (d : A) → n ≤ k → k < length xs → p (get_or xs k d) ≡ false)
    → filter p (take n xs) ≡ filter p xs
none_after p xs n none =
    sym (append-nil (filter p (take n xs)))
    ∙ ap (λ ys. filter p (take n xs) ++ ys) (sym (filter_none p (drop n xs) (λ k d there.
    ap p (get_or-drop n xs k d) ∙ none (n + k) d (omega arith) (omega (arith, there, length-drop n xs)))))
    ∙ sym (filter-append p (take n xs) (drop n xs))
    ∙ ap (filter p) (take-append-drop n xs)
