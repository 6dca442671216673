-- Strips beside the neighbour table of their cells.
use Rattle.std.proofs.Common.{◌≡◌, ℕ, ◌+◌, ◌<◌, ◌≤◌, length, List, [], ◌∷◌, ◌++◌, map, get_or, ap, ◌∙◌, sym, subst, arith}
use Rattle.std.specs.List.{range_with_len}
use Rattle.std.proofs.lemmas.List.FromFn.{map-range_with_len_more}
use Rattle.nav_ground.specs.declared.cell.Cell.{Cell}
use Rattle.mesh_types.specs.StripPolygons.{strip_runs}
use Rattle.mono_regions.specs.declared.touching.StripTable.{StripTable}
use Rattle.mono_regions.specs.Indices.{AreIndices}
use Rattle.mono_regions.specs.Joining.{IsTableOf, indices_of}
use Rattle.mono_regions.proofs.Touches.{strip_count, strip_indices}

pub tabled_count : (cells : List Cell) (strips : StripTable) → IsTableOf cells strips → length strips.index.runs ≡ length (strip_runs cells)
tabled_count cells strips tabled = ap length tabled.runs ∙ sym (strip_count cells)

-- the list that the code reads
pub tabled_run : (cells : List Cell) (strips : StripTable) → IsTableOf cells strips → (s : ℕ) (run : List ℕ) → run ≡ get_or strips.index.runs s []
    → run ≡ indices_of cells s
tabled_run cells strips tabled s run is = is ∙ ap (λ runs. get_or runs s []) tabled.runs

pub tabled_indices : (cells : List Cell) (strips : StripTable) → IsTableOf cells strips → (s : ℕ) (run : List ℕ) → run ≡ get_or strips.index.runs s []
    → s < length (strip_runs cells) → AreIndices cells run
tabled_indices cells strips tabled s run is there =
    subst (AreIndices cells) (sym (tabled_run cells strips tabled s run is)) (strip_indices cells tabled.cut.rules s there)

-- what is made number by number
pub made_more : {A : Type 0} (f : ℕ → A) (n : ℕ) (old new : List A) (a : A) → new ≡ old ++ a ∷ [] → a ≡ f n → old ≡ map f (range_with_len 0 n)
    → new ≡ map f (range_with_len 0 (n + 1))
made_more {A} f n old new a pushed is before =
    pushed ∙ ap (λ (xs : List A). xs ++ a ∷ []) before ∙ ap (λ (x : A). map f (range_with_len 0 n) ++ x ∷ []) is
    ∙ sym (map-range_with_len_more f 0 n n (omega arith))

pub made_all : {A : Type 0} (f : ℕ → A) (n count : ℕ) (made : List A) → n ≤ count → count ≤ n → made ≡ map f (range_with_len 0 n) → made ≡ map f (range_with_len 0 count)
made_all f n count made most least is = is ∙ ap (λ k. map f (range_with_len 0 k)) (omega (arith, most, least))
