-- The rules of the cells of a whole field, written out: a test by computation shows that they hold.
use Rattle.std.proofs.Common.{◌≡◌, ℕ, ◌<◌, Bool, true, List, [], ◌∷◌, get_or, Option, ap, ◌∙◌, sym, arith, zero, suc}
use Rattle.std.specs.Prelude.{All, ◌&&◌, ◌||◌, is_none}
use Rattle.std.specs.List.{list_all}
use Rattle.std.proofs.lemmas.Bool.{and_parts}
use Rattle.std.proofs.lemmas.List.Elements.{All-nil, All-cons, All-contains, Contains-get_or}
use Rattle.nav_ground.specs.declared.cell.Cell.{Cell}
use Rattle.nav_ground.specs.Cells.{IsCompact, AreComplete, next_level, is_naming}
use Rattle.nav_ground.specs.Clearance.{has_neighbour}
use Rattle.nav_ground.proofs.Literals.{is_cut, IsCut-shown}
use Rattle.agent_erode.proofs.Walks.{hit_of}

-- where a cell names a level it has a neighbour
abbrev pub is_complete_toward : List Cell → Cell → ℕ → Bool
is_complete_toward cells cell dir = is_none (next_level cell dir) || has_neighbour cells cell dir

abbrev pub is_complete : List Cell → Bool
is_complete cells =
    list_all (λ (cell : Cell). (is_complete_toward cells cell 0 && is_complete_toward cells cell 1)
    && (is_complete_toward cells cell 2 && is_complete_toward cells cell 3)) cells

abbrev pub is_compact : List Cell → Bool
is_compact cells = is_cut cells && is_complete cells

toward_each : (cells : List Cell) (cell : Cell) (dir : ℕ) → dir < 4
    → ((is_complete_toward cells cell 0 && is_complete_toward cells cell 1) && (is_complete_toward cells cell 2 && is_complete_toward cells cell 3)) ≡ true
    → is_complete_toward cells cell dir ≡ true
toward_each cells cell dir small h =
    let both = and_parts (is_complete_toward cells cell 0 && is_complete_toward cells cell 1) _ h in
    let low = and_parts (is_complete_toward cells cell 0) _ both.0 in
    let high = and_parts (is_complete_toward cells cell 2) _ both.1 in
    by_direction dir small low.0 low.1 high.0 high.1
  where
    by_direction : (dir : ℕ) → dir < 4 → is_complete_toward cells cell 0 ≡ true → is_complete_toward cells cell 1 ≡ true
        → is_complete_toward cells cell 2 ≡ true → is_complete_toward cells cell 3 ≡ true → is_complete_toward cells cell dir ≡ true
    by_direction zero small h0 h1 h2 h3 = h0
    by_direction (suc zero) small h0 h1 h2 h3 = h1
    by_direction (suc (suc zero)) small h0 h1 h2 h3 = h2
    by_direction (suc (suc (suc zero))) small h0 h1 h2 h3 = h3
    by_direction (suc (suc (suc (suc n)))) small h0 h1 h2 h3 = absurd (omega (arith, small))

all_from_test : {X : Type 0} (p : X → Bool) (xs : List X) → list_all p xs ≡ true → All (λ x. p x ≡ true) xs
all_from_test p [] h = All-nil (λ x. p x ≡ true)
all_from_test p (x ∷ xs) h =
    let parts = and_parts (p x) (list_all p xs) h in
    All-cons (λ y. p y ≡ true) x xs parts.0 (all_from_test p xs parts.1)

complete_shown : (cells : List Cell) → is_complete cells ≡ true → AreComplete cells
complete_shown cells h dir level a small has named =
    let each = λ (cell : Cell). (is_complete_toward cells cell 0 && is_complete_toward cells cell 1)
    && (is_complete_toward cells cell 2 && is_complete_toward cells cell 3) in
    let here = toward_each cells a dir small (All-contains (λ (cell : Cell). each cell ≡ true) cells a (all_from_test each cells h) has) in
    let neighbour : has_neighbour cells a dir ≡ true = ap (λ (o : Option ℕ). is_none o || has_neighbour cells a dir) (sym named) ∙ here in
    let hit = hit_of (λ (other : Cell). is_naming dir a other.at) cells a neighbour in
    (get_or cells hit.index a, Contains-get_or cells hit.index a hit.there, hit.passes)

-- cells that pass the test are those of a whole field
pub IsCompact-shown : (cells : List Cell) → is_compact cells ≡ true → IsCompact cells
IsCompact-shown cells h =
    let parts = and_parts (is_cut cells) (is_complete cells) h in
    let cut = IsCut-shown cells parts.0 in
    record { rules = cut.rules; complete = complete_shown cells parts.1; named_back = cut.named_back }
