-- The places of the cells that pass a test, one cell after the other.
use Rattle.std.proofs.Common.{◌≡◌, ℕ, ◌+◌, ◌<◌, Bool, true, false, cond, length, List, [], ◌∷◌, ◌++◌, take, map, get_or, ap, ◌∙◌, sym}
use Rattle.std.specs.List.{filter}
use Rattle.std.proofs.lemmas.List.{get_or-map, map-append, append-nil}
use Rattle.std.proofs.lemmas.List.Elements.{filter_more}
use Rattle.nav_ground.specs.declared.cell.Cell.{Cell}
use Rattle.nav_ground.specs.declared.cell.CellRef.{CellRef}
use Rattle.nav_ground.specs.Clearance.{places_of}

-- one more cell that passes
pub one_more_place : (p : Cell → Bool) (cells : List Cell) (i : ℕ) (d : Cell) (places : List CellRef) → i < length cells → p (get_or cells i d) ≡ true
    → places ≡ places_of (filter p (take i cells)) → places ++ (get_or cells i d).at ∷ [] ≡ places_of (filter p (take (i + 1) cells))
one_more_place p cells i d places there passes so_far =
    ap (λ (ps : List CellRef). ps ++ (get_or cells i d).at ∷ []) so_far
    ∙ sym (map-append (λ (cell : Cell). cell.at) (filter p (take i cells)) (get_or cells i d ∷ []))
    ∙ ap (λ b. places_of (filter p (take i cells) ++ cond b (get_or cells i d ∷ []) [])) (sym passes)
    ∙ ap places_of (sym (filter_more p cells i d there))

-- one more that fails
pub one_less_place : (p : Cell → Bool) (cells : List Cell) (i : ℕ) (d : Cell) (places : List CellRef) → i < length cells → p (get_or cells i d) ≡ false
    → places ≡ places_of (filter p (take i cells)) → places ≡ places_of (filter p (take (i + 1) cells))
one_less_place p cells i d places there fails so_far =
    so_far ∙ ap places_of (sym (append-nil (filter p (take i cells))))
    ∙ ap (λ b. places_of (filter p (take i cells) ++ cond b (get_or cells i d ∷ []) [])) (sym fails)
    ∙ ap places_of (sym (filter_more p cells i d there))

-- the mark of a cell
pub mark_at : (p : Cell → Bool) (cells : List Cell) (marks : List Bool) (i : ℕ) (d : Cell) (e b : Bool) → marks ≡ map p cells → i < length cells
    → get_or marks i e ≡ b → p (get_or cells i d) ≡ b
mark_at p cells marks i d e b are there at =
    sym (get_or-map p cells i d e there) ∙ ap (λ (ms : List Bool). get_or ms i e) (sym are) ∙ at
