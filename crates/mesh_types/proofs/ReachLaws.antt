-- Reaches that grow, and reaches of lists of storeys.
use Rattle.std.proofs.Common.{◌≡◌, ℕ, ◌+◌, ◌≤◌, ◌<◌, List, [], ◌∷◌, ◌++◌, length, get_or, take, arith, ap, ◌∙◌, sym, subst, zero, suc, slice_get, Some}
use Rattle.std.specs.Prelude.{All, sum_by}
use Rattle.mesh_types.specs.declared.storeys.FloorRow.{FloorRow}
use Rattle.mesh_types.specs.declared.storeys.Storey.{Storey}
use Rattle.mesh_types.specs.declared.reaches.FloorReach.{FloorReach}
use Rattle.mesh_types.specs.declared.reaches.StoreyReach.{StoreyReach}
use Rattle.mesh_types.specs.Storeys.{IsStorey}
use Rattle.mesh_types.specs.Reaches.{AreReaches, IsBetween, IsReach, IsRowBetween, IsStoreyBetween, IsWithin, cell_count}
use Rattle.std.proofs.lemmas.List.{take_more}
use Rattle.std.proofs.lemmas.List.Elements.{All-more}
use Rattle.std.proofs.lemmas.List.Sums.{sum_by-le, sum_by_more, sum_by_more_le}
use Rattle.std.proofs.lemmas.Option.{get_or_from_slice_get, slice_get_within}
use Rattle.std.proofs.lemmas.Slice.Zip.{AllZip-long, all_zipped_more}

-- floors within a reach are within a wider one
pub between-wider : (inner outer : FloorReach) (floor : ℕ) → IsWithin inner outer → IsBetween inner floor → IsBetween outer floor
between-wider inner outer floor wider there = record {
  least = let a = wider.least in let b = there.least in omega (arith, a, b);
  greatest = let a = wider.greatest in let b = there.greatest in omega (arith, a, b);
}

pub floors-wider : (inner outer : FloorReach) (floors : List ℕ) → IsWithin inner outer → All (IsBetween inner) floors → All (IsBetween outer) floors
floors-wider inner outer floors wider there i d long = between-wider inner outer (get_or floors i d) wider (there i d long)

pub rows-wider : (inner outer : FloorReach) (rows : List FloorRow) → IsWithin inner outer → All (IsRowBetween inner) rows → All (IsRowBetween outer) rows
rows-wider inner outer rows wider there i d long = floors-wider inner outer (get_or rows i d).floors wider (there i d long)

pub storeys-wider : (inner outer : FloorReach) (list : List Storey) → IsWithin inner outer → All (IsStoreyBetween inner) list
    → All (IsStoreyBetween outer) list
storeys-wider inner outer list wider there i d long = rows-wider inner outer (get_or list i d).rows wider (there i d long)

-- a storey has at most as many cells as the largest field
pub few-cells : (storey : Storey) → IsStorey storey → cell_count storey ≤ 1048576
few-cells storey rules =
    let top = rules.top in
    let each = sum_by-le (λ (row : FloorRow). length row.floors) 1024 storey.rows
    (λ i d there. let right = (rules.rows i d there).right in omega (arith, right)) in
    omega (arith, top, each)

-- one more storey and its reach
pub reaches-more : (list : List Storey) (reaches : List StoreyReach) (i : ℕ) (storey : Storey) (reach : StoreyReach) → i < length list
    → storey ≡ get_or list i storey → AreReaches (take i list) reaches → IsReach storey reach → AreReaches (take (i + 1) list) (reaches ++ reach ∷ [])
reaches-more list reaches i storey reach there is so_far next =
    subst (λ (all : List Storey). AreReaches all (reaches ++ reach ∷ []))
    (ap (λ (it : Storey). take i list ++ it ∷ []) is ∙ sym (take_more list i storey there))
    (all_zipped_more IsReach (take i list) reaches storey reach so_far next)

-- the reach with a place is that of the storey with it
pub reach-at : (list : List Storey) (reaches : List StoreyReach) (i : ℕ) (d : Storey) (e : StoreyReach) → AreReaches list reaches → i < length reaches
    → IsReach (get_or list i d) (get_or reaches i e)
reach-at xs [] i d e all there = absurd (omega (arith, there))
reach-at [] (y ∷ ys) i d e all there = absurd all
reach-at (x ∷ xs) (y ∷ ys) zero d e all there = all.0
reach-at (x ∷ xs) (y ∷ ys) (suc i) d e all there = reach-at xs ys i d e all.1 (omega (arith, there))

-- a count so far and the next number are within the whole sum, and make the count so far with one more
pub fits-next : {X : Type 0} (f : X → ℕ) (xs : List X) (i : ℕ) (x : X) (count n : ℕ) → i < length xs → x ≡ get_or xs i x
    → count ≡ sum_by f (take i xs) → n ≡ f x → count + n ≤ sum_by f xs
fits-next f xs i x count n there is so_far next = omega (arith, sum_by_more_le f xs i x there, ap f is, so_far, next)

pub counts-next : {X : Type 0} (f : X → ℕ) (xs : List X) (i : ℕ) (x : X) (count n : ℕ) → i < length xs → count ≡ sum_by f (take i xs)
    → n ≡ f (get_or xs i x) → count + n ≡ sum_by f (take (i + 1) xs)
counts-next f xs i x count n there so_far next = omega (arith, sum_by_more f xs i x there, so_far, next)

-- one more floor within a wider reach
pub floors-more : (inner outer : FloorReach) (floors : List ℕ) (i d : ℕ) → i < length floors → IsWithin inner outer
    → All (IsBetween inner) (take i floors) → IsBetween outer (get_or floors i d) → All (IsBetween outer) (take (i + 1) floors)
floors-more inner outer floors i d there wider so_far next =
    All-more (IsBetween outer) floors i d there (floors-wider inner outer (take i floors) wider so_far) next

-- one more row within a wider reach, one more storey
pub rows-more : (inner outer : FloorReach) (rows : List FloorRow) (i : ℕ) (row : FloorRow) → i < length rows → row ≡ get_or rows i row
    → IsWithin inner outer → All (IsRowBetween inner) (take i rows) → IsRowBetween outer row → All (IsRowBetween outer) (take (i + 1) rows)
rows-more inner outer rows i row there is wider so_far next =
    All-more (IsRowBetween outer) rows i row there (rows-wider inner outer (take i rows) wider so_far) (subst (IsRowBetween outer) is next)

pub storeys-more : (inner outer : FloorReach) (list : List Storey) (i : ℕ) (d : Storey) → i < length list → IsWithin inner outer
    → All (IsStoreyBetween inner) (take i list) → IsStoreyBetween outer (get_or list i d) → All (IsStoreyBetween outer) (take (i + 1) list)
storeys-more inner outer list i d there wider so_far next =
    All-more (IsStoreyBetween outer) list i d there (storeys-wider inner outer (take i list) wider so_far) next

-- a storey that stands for none
abbrev pub no-storey : Storey
no-storey = record { area = 0; z0 = 0; rows = [] }

-- a reach that stands for none
abbrev pub no-reach : StoreyReach
no-reach = record { cells = 0; floors = record { least = 0; greatest = 0 } }

-- the reach with a place is that of the storey with it
pub reach-of : (list : List Storey) (reaches : List StoreyReach) (i : ℕ) (it : Storey) (e : StoreyReach) → AreReaches list reaches
    → slice_get list i ≡ Some it → IsReach it (get_or reaches i e)
reach-of list reaches i it e all is =
    let there : i < length list = slice_get_within list i it is in
    subst (λ (storey : Storey). IsReach storey (get_or reaches i e)) (get_or_from_slice_get list i it it is)
    (reach-at list reaches i it e all (omega (arith, there, AllZip-long IsReach list reaches all)))
