use Rattle.std.proofs.Common.{◌≡◌, ℕ, ◌*◌, ◌+◌, ◌≤◌, ◌<◌, ◌∙◌, sym, ap, subst, arith}
use Rattle.std.specs.Prelude.{Option, Some, None}
use Rattle.std.proofs.lemmas.Bool.{ltb-true}
use Rattle.std.proofs.lemmas.Nat.{mul-le}
use Rattle.mesh_types.specs.declared.storeys.MeshPlace.{MeshPlace}
use Rattle.mesh_types.specs.Places.{column_gap}
use Rattle.mesh_place.specs.declared.near.Near.{Near}
use Rattle.mesh_place.specs.Bounds.{IsBeyond, height_part}
use Rattle.mesh_place.specs.Columns.{column_out}
use Rattle.mesh_place.specs.Floors.{height_off}
use Rattle.mesh_place.specs.Nearest.{measure}
use Rattle.mesh_place.specs.Searches.{measure_or_most}
use Rattle.mesh_place.proofs.cells.is_cell_beyond.Goals as goal

few : (n : ℕ) → n ≤ 100000 → n * n ≤ 10000000000
few n most = mul-le n n 100000 100000 most most

pub overflow_add-gap : goal.overflow_add-gap
overflow_add-gap c = omega (arith, few c.out_across-across.result c.out_across-across.ensures.bound, c.requires.limit.bound)

pub overflow_add-result : goal.overflow_add-result
overflow_add-result c =
    omega (arith, few c.out_across-across.result c.out_across-across.ensures.bound, c.requires.limit.bound, c.height_part-high.ensures.bound)

-- what is less than a sum of two such numbers is a measure
is_beyond : (climb : ℕ) (asked : Near) (gap part : ℕ) (best : Option MeshPlace) → gap ≤ 20000000000 → part ≤ 1152921504606846976
    → measure_or_most climb asked best < gap + part → IsBeyond climb asked gap part best
is_beyond climb asked gap part None small least less = absurd (omega (arith, small, least, less))
is_beyond climb asked gap part (Some best) small least less = omega (arith, less)

pub returns : goal.returns
returns c = λ beyond.
    let asked = c.args.asked.now in
    let limit = c.args.limit.now in
    let across = c.out_across-across.result in
    let gap = across * across + limit.aside in
    let is_gap : gap ≡ column_gap c.args.cell.x c.args.cell.z asked.point =
    ap (λ (n : ℕ). n * n + limit.aside) c.out_across-across.ensures.value
    ∙ ap (λ (n : ℕ). column_out c.args.cell.x asked.point.x * column_out c.args.cell.x asked.point.x + n) c.requires.limit.aside in
    let is_part : c.height_part-high.result ≡ height_part c.args.climb asked (height_off asked.y c.args.cell.y) =
    c.height_part-high.ensures.value ∙ ap (height_part c.args.climb asked) c.height_off.ensures in
    let less : limit.most < gap + c.height_part-high.result = ltb-true limit.most (gap + c.height_part-high.result) beyond in
    subst (λ (n : ℕ). IsBeyond c.args.climb asked n (height_part c.args.climb asked (height_off asked.y c.args.cell.y)) limit.earlier) is_gap
    (subst (λ (n : ℕ). IsBeyond c.args.climb asked gap n limit.earlier) is_part
    (is_beyond c.args.climb asked gap c.height_part-high.result limit.earlier
    (omega (arith, few across c.out_across-across.ensures.bound, c.requires.limit.bound)) c.height_part-high.ensures.bound
    (subst (λ (n : ℕ). n < gap + c.height_part-high.result) c.requires.limit.most less)))
