-- Numbers that are written at the cells of strips and regions.
use Rattle.std.proofs.Common.{◌≡◌, ℕ, ◌+◌, ◌-◌, ◌<◌, ◌≤◌, Bool, true, false, cond, length, List, [], ◌∷◌, map, get_or, ap, ◌∙◌, sym, refl, subst, arith, inl, inr}
use Rattle.std.specs.Prelude.{not, nat_lt, nat_le, take, drop, ◌==◌, ◌&&◌, ◌||◌, slice_get, replicate}
use Rattle.std.specs.List.{list_any, position_or_len}
use Rattle.std.specs.Option.{option_map_or}
use Rattle.std.proofs.lemmas.Bool.{cases_Bool, cases_lt, cases_order, cond-true, cond-false, and_parts, and_from, and_right, both_ways, eqb-true, lt-ltb, le-ltb}
use Rattle.std.proofs.lemmas.Bool.Decides.{nat_tests}
use Rattle.std.proofs.Math.Bool.{or-false}
use Rattle.std.proofs.lemmas.List.{take_more, drop_more, drop_all, same_lists, length-map, length-replicate, get_or-replicate, get_or-map, get_or_default}
use Rattle.std.proofs.lemmas.List.Folds.{list_any-append}
use Rattle.std.proofs.lemmas.List.Sums.{passes_at_first}
use Rattle.std.proofs.lemmas.Option.{slice_get-get_or, slice_get_past}
use Rattle.nav_ground.specs.declared.cell.Cell.{Cell}
use Rattle.nav_ground.specs.declared.cell.CellRef.{CellRef}
use Rattle.nav_ground.specs.Cells.{IsCells}
use Rattle.mesh_types.specs.declared.region.Strip.{Strip}
use Rattle.mesh_types.specs.declared.region.Region.{Region}
use Rattle.mesh_types.specs.StripPolygons.{some_cell}
use Rattle.mesh_types.specs.Regions.{is_holding, IsStrip, IsIn, place_in}
use Rattle.mesh_types.specs.Contours.{is_at}
use Rattle.contour_walk.specs.Tables.{index_of, is_in_region, owner_of, IsMarked, IsFit}
use Rattle.contour_walk.proofs.Places.{found_there}
use Rattle.mesh_types.proofs.RegionLaws.{is_at_place, place_is, holds_own}

-- each cell has the number of the first region, from one on, that holds it, or how many regions there are
pub record HasNumbers (cells : List Cell) (regions : List Region) (first : ℕ) (owners : List ℕ) : Type 0 where
  pub same : length owners ≡ length cells
  pub each : (i : ℕ) → i < length cells
      → get_or owners i 0 ≡ first + position_or_len (is_in_region (get_or cells i some_cell).at) (drop first regions)

-- the first cell of the list that has a place is the only one
at_index : (cells : List Cell) → IsCells cells → (at : CellRef) (i : ℕ) → i < length cells → (get_or cells i some_cell).at ≡ at → i ≡ index_of cells at
at_index cells rules' at i there same = found_there cells rules' at i some_cell there (is_at_place (get_or cells i some_cell).at at same)

-- another cell has another index
not_at_index : (cells : List Cell) (at : CellRef) (i : ℕ) → i < length cells → ((get_or cells i some_cell).at ≡ at → ⊥) → i ≡ index_of cells at → ⊥
not_at_index cells at i there other same =
    let P : ℕ → Type 0 = λ n. is_at at (get_or cells n some_cell) ≡ true in
    other (place_is (get_or cells i some_cell).at at
    (subst P (sym same) (passes_at_first (is_at at) cells some_cell (omega (arith, same, there)))))

-- a place that a strip holds is that of its column
held_place : (at : CellRef) (s : Strip) → IsStrip s → is_holding at s ≡ true → IsIn s at.x × (at ≡ place_in s at.x)
held_place at s strip holds =
    let outer = and_parts (s.z == at.z && nat_le s.x0 at.x) (option_map_or (λ level. level == at.level) (slice_get s.levels (at.x - s.x0)) false) holds in
    let inner = and_parts (s.z == at.z) (nat_le s.x0 at.x) outer.0 in
    let least : s.x0 ≤ at.x = grind (arith, nat_tests) in
    elim (cases_lt (at.x - s.x0) (length s.levels)) [
      | inl inside ↦ (
        (least, omega (arith, inside, least, strip.levels)),
        ap (λ k. record { x = at.x; z = k; level = at.level }) (sym (eqb-true s.z at.z inner.0))
            ∙ ap (λ k. record { x = at.x; z = s.z; level = k }) (sym (eqb-true (get_or s.levels (at.x - s.x0) 0) at.level
            (sym (ap (λ o. option_map_or (λ level. level == at.level) o false) (slice_get-get_or s.levels (at.x - s.x0) 0 inside)) ∙ outer.1))),
      )
      | inr past ↦ absurd (both_ways (option_map_or (λ level. level == at.level) (slice_get s.levels (at.x - s.x0)) false)
          (ap (λ o. option_map_or (λ level. level == at.level) o false) (slice_get_past s.levels (at.x - s.x0) past)) outer.1)
    ]

-- one column more of a strip is marked
pub column_marked : (cells : List Cell) → IsCells cells → (s : Strip) → IsFit s → (x index number : ℕ) (old before after : List ℕ)
    → IsIn s x → length old ≡ length cells → index ≡ index_of cells (place_in s x)
    → length after ≡ length before → ((d : ℕ) → index < length before → get_or after index d ≡ number)
    → ((k d : ℕ) → (k ≡ index → ⊥) → get_or after k d ≡ get_or before k d)
    → IsMarked (λ (at : CellRef). is_holding at s && nat_lt at.x x) cells number old before
    → IsMarked (λ (at : CellRef). is_holding at s && nat_lt at.x (x + 1)) cells number old after
column_marked cells rules' s fit x index number old before after inside beside is same here others marked =
    record { same = same ∙ marked.same; each = each }
  where
    each : (i : ℕ) → i < length cells
        → get_or after i 0 ≡ cond (is_holding (get_or cells i some_cell).at s && nat_lt (get_or cells i some_cell).at.x (x + 1)) number (get_or old i 0)
    each i there =
        let a : CellRef = (get_or cells i some_cell).at in
        let p : CellRef = place_in s x in
        elim (cases_Bool (a.x == p.x && a.z == p.z && a.level == p.level)) [
          | inl passes ↦
              let same' : a ≡ p = place_is a p passes in
              let at : i ≡ index = at_index cells rules' p i there same' ∙ sym is in
              let holds : is_holding a s ≡ true = ap (λ r. is_holding r s) same' ∙ holds_own s x fit.columns inside in
              let less : nat_lt a.x (x + 1) ≡ true = lt-ltb a.x (x + 1) (omega (arith, ap (λ (r : CellRef). r.x) same')) in
              ap (λ n. get_or after n 0) at
              ∙ here 0 (omega (arith, at, there, beside, marked.same))
              ∙ sym (cond-true (is_holding a s && nat_lt a.x (x + 1)) number (get_or old i 0) (and_from (is_holding a s) (nat_lt a.x (x + 1)) holds less))
          | inr fails ↦
              let other : a ≡ p → ⊥ = λ same'. both_ways (a.x == p.x && a.z == p.z && a.level == p.level) fails (is_at_place a p same') in
              others i 0 (λ at. not_at_index cells p i there other (at ∙ is))
              ∙ marked.each i there
              ∙ ap (λ b. cond b number (get_or old i 0)) (one_column a other (is_holding a s) refl)
        ]
      where
        one_column : (a : CellRef) → (a ≡ place_in s x → ⊥) → (b : Bool) → is_holding a s ≡ b
            → (is_holding a s && nat_lt a.x x) ≡ (is_holding a s && nat_lt a.x (x + 1))
        one_column a other false fails = ap (λ b. b && nat_lt a.x x) fails ∙ sym (ap (λ b. b && nat_lt a.x (x + 1)) fails)
        one_column a other true passes =
            let held = held_place a s fit.columns passes in
            let apart : a.x ≡ x → ⊥ = λ same'. other (held.1 ∙ ap (place_in s) same') in
            ap (λ b. is_holding a s && b) (elim (cases_order a.x x) [
              | inl same' ↦ absurd (apart same')
              | inr (inl less) ↦ lt-ltb a.x x less ∙ sym (lt-ltb a.x (x + 1) (omega (arith, less)))
              | inr (inr more) ↦ le-ltb a.x x (omega (arith, more)) ∙ sym (le-ltb a.x (x + 1) (omega (arith, more)))
            ])

-- a test that gives the same at each cell marks the same
marked_alike : (p q : CellRef → Bool) (cells : List Cell) (number : ℕ) (old new : List ℕ)
    → ((i : ℕ) → i < length cells → p (get_or cells i some_cell).at ≡ q (get_or cells i some_cell).at)
    → IsMarked p cells number old new → IsMarked q cells number old new
marked_alike p q cells number old new alike marked =
    record { same = marked.same; each = λ i there. marked.each i there ∙ ap (λ b. cond b number (get_or old i 0)) (alike i there) }

-- at the end of a strip all its cells are marked
pub strip_marked : (cells : List Cell) (s : Strip) → IsFit s → (x number : ℕ) (old new : List ℕ) → s.x1 < x
    → IsMarked (λ (at : CellRef). is_holding at s && nat_lt at.x x) cells number old new
    → IsMarked (λ (at : CellRef). is_holding at s) cells number old new
strip_marked cells s fit x number old new past marked =
    marked_alike (λ (at : CellRef). is_holding at s && nat_lt at.x x) (λ (at : CellRef). is_holding at s) cells number old new
    (λ i there. by_case (get_or cells i some_cell).at (is_holding (get_or cells i some_cell).at s) refl) marked
  where
    by_case : (a : CellRef) (b : Bool) → is_holding a s ≡ b → (is_holding a s && nat_lt a.x x) ≡ is_holding a s
    by_case a false fails = ap (λ b. b && nat_lt a.x x) fails ∙ sym fails
    by_case a true passes =
        let held = held_place a s fit.columns passes in
        and_from (is_holding a s) (nat_lt a.x x) passes (lt-ltb a.x x (omega (arith, held.0, past))) ∙ sym passes

-- no column of a strip is marked at first
pub none_marked : (cells : List Cell) (s : Strip) → IsFit s → (number : ℕ) (old : List ℕ)
    → IsMarked (λ (at : CellRef). is_holding at s && nat_lt at.x s.x0) cells number old old
none_marked cells s fit number old =
    record { same = refl; each = λ i there. sym (cond-false _ number (get_or old i 0) (by_case (get_or cells i some_cell).at (is_holding (get_or cells i some_cell).at s) refl)) }
  where
    by_case : (a : CellRef) (b : Bool) → is_holding a s ≡ b → (is_holding a s && nat_lt a.x s.x0) ≡ false
    by_case a false fails = ap (λ b. b && nat_lt a.x s.x0) fails
    by_case a true passes =
        let held = held_place a s fit.columns passes in
        ap (λ b. is_holding a s && b) (le-ltb a.x s.x0 (omega (arith, held.0))) ∙ and_right (is_holding a s) false refl

-- one strip more of a region
pub strips_marked : (cells : List Cell) (strips : List Strip) (k number : ℕ) (s : Strip) (old before after : List ℕ) → k < length strips → s ≡ get_or strips k s
    → IsMarked (λ (at : CellRef). list_any (is_holding at) (take k strips)) cells number old before
    → IsMarked (λ (at : CellRef). is_holding at s) cells number before after
    → IsMarked (λ (at : CellRef). list_any (is_holding at) (take (k + 1) strips)) cells number old after
strips_marked cells strips k number s old before after there is marked more =
    record { same = more.same ∙ marked.same; each = each }
  where
    joined : (a b : Bool) (m n o w : ℕ) → m ≡ cond a w o → n ≡ cond b w m → n ≡ cond (a || b) w o
    joined true true m n o w first then = then
    joined true false m n o w first then = then ∙ first
    joined false true m n o w first then = then
    joined false false m n o w first then = then ∙ first

    each : (i : ℕ) → i < length cells
        → get_or after i 0 ≡ cond (list_any (is_holding (get_or cells i some_cell).at) (take (k + 1) strips)) number (get_or old i 0)
    each i there' =
        let p : Strip → Bool = is_holding (get_or cells i some_cell).at in
        joined (list_any p (take k strips)) (p s) (get_or before i 0) (get_or after i 0) (get_or old i 0) number (marked.each i there') (more.each i there')
        ∙ ap (λ b. cond b number (get_or old i 0)) (sym (ap (list_any p) (take_more strips k s there) ∙ list_any-append p (take k strips) (get_or strips k s ∷ [])
        ∙ ap (λ b. list_any p (take k strips) || b) (or-false (p (get_or strips k s)) ∙ ap p (sym is))))

-- one region more, from the last on
pub region_marked : (cells : List Cell) (regions : List Region) (k n : ℕ) (r : Region) (before after : List ℕ) → k < length regions → n ≡ k + 1 → r ≡ get_or regions k r
    → HasNumbers cells regions n before → IsMarked (λ (at : CellRef). list_any (is_holding at) r.strips) cells k before after → HasNumbers cells regions k after
region_marked cells regions k n r before after there next is numbers marked =
    record { same = marked.same ∙ numbers.same; each = each }
  where
    shape : (p : Region → Bool) → position_or_len p (drop k regions) ≡ cond (not (p r)) (1 + position_or_len p (drop (k + 1) regions)) 0
    shape p = ap (position_or_len p) (drop_more regions k r there ∙ ap (λ y. y ∷ drop (k + 1) regions) (sym is))

    by_case : (p : Region → Bool) (b : Bool) → p r ≡ b → (m o : ℕ) → m ≡ n + position_or_len p (drop n regions) → o ≡ cond b k m
        → o ≡ k + position_or_len p (drop k regions)
    by_case p true here m o first then =
        let at : position_or_len p (drop k regions) ≡ 0 = shape p ∙ ap (λ b. cond (not b) (1 + position_or_len p (drop (k + 1) regions)) 0) here in
        omega (arith, then, at)
    by_case p false here m o first then =
        let at : position_or_len p (drop k regions) ≡ 1 + position_or_len p (drop (k + 1) regions) =
        shape p ∙ ap (λ b. cond (not b) (1 + position_or_len p (drop (k + 1) regions)) 0) here in
        let same : position_or_len p (drop n regions) ≡ position_or_len p (drop (k + 1) regions) = ap (λ i. position_or_len p (drop i regions)) next in
        omega (arith, then, first, at, same, next)

    each : (i : ℕ) → i < length cells → get_or after i 0 ≡ k + position_or_len (is_in_region (get_or cells i some_cell).at) (drop k regions)
    each i there' =
        by_case (is_in_region (get_or cells i some_cell).at) (is_in_region (get_or cells i some_cell).at r) refl (get_or before i 0) (get_or after i 0)
        (numbers.each i there') (marked.each i there')

pub region_step : (cells : List Cell) (regions : List Region) (k n : ℕ) (r : Region) (strips : List Strip) (before mid after : List ℕ) → k < length regions
    → n ≡ k + 1 → r ≡ get_or regions k r → strips ≡ (get_or regions k r).strips → mid ≡ before → HasNumbers cells regions n before
    → IsMarked (λ (at : CellRef). list_any (is_holding at) strips) cells k mid after → HasNumbers cells regions k after
region_step cells regions k n r strips before mid after there next is are same numbers marked =
    let P : List Strip → Type 0 = λ ss. IsMarked (λ (at : CellRef). list_any (is_holding at) ss) cells k mid after in
    let Q : List ℕ → Type 0 = λ os. IsMarked (λ (at : CellRef). list_any (is_holding at) r.strips) cells k os after in
    region_marked cells regions k n r before after there next is numbers
    (subst Q same (subst P (are ∙ ap (λ (q : Region). q.strips) (sym is)) marked))

-- where no region is left the number of each cell is how many there are
pub no_numbers : (cells : List Cell) (regions : List Region) (owners : List ℕ) → owners ≡ replicate (length cells) (length regions)
    → HasNumbers cells regions (length regions) owners
no_numbers cells regions owners is =
    record {
      same = ap length is ∙ length-replicate (length cells) (length regions);
      each = λ i there.
          ap (λ os. get_or os i 0) is ∙ get_or-replicate (length cells) i (length regions) 0 there
          ∙ sym (ap (λ rest. length regions + position_or_len (is_in_region (get_or cells i some_cell).at) rest) (drop_all (length regions) regions (omega arith)) ∙ omega arith);
    }

pub all_numbers : (cells : List Cell) (regions : List Region) (owners : List ℕ) → HasNumbers cells regions 0 owners → owners ≡ map (owner_of regions) cells
all_numbers cells regions owners numbers =
    same_lists owners (map (owner_of regions) cells) (numbers.same ∙ sym (length-map cells (owner_of regions)))
    (λ i d there.
    let there' : i < length cells = omega (arith, there, numbers.same) in
    get_or_default owners i d 0 there ∙ numbers.each i there' ∙ omega arith ∙ sym (get_or-map (owner_of regions) cells i some_cell d there'))
