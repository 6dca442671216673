use Rattle.std.proofs.Common.{◌≡◌, ℕ, ◌+◌, ◌<◌, List, [], ◌∷◌, ◌++◌, length, get_or, take, sym, subst, ◌∙◌, arith}
use Rattle.std.proofs.lemmas.List.{take_more, take_all}
use Rattle.tri_raster.specs.declared.triangle.Tri.{Tri}
use Rattle.tri_raster.specs.Columns.{AreKept}
use Rattle.tri_raster.specs.Sweeps.{column_at, AreAdded}
use Rattle.tri_raster.proofs.ActiveLaws.{no_tri}
use Rattle.tri_raster.proofs.SweepLaws.{filled_more}
use Rattle.tri_raster.proofs.sweep.fill.Goals as goal

pub loop-tri-preserved : goal.loop-tri-preserved
loop-tri-preserved c =
    let i = c.loop-tri.tri-index in
    let active = c.args.active.now in
    let tri = get_or active i no_tri in
    let hits = c.row_shadows-hits.result in
    let bounds = c.row_shadows-hits.new.bounds in
    let old = c.loop-tri.columns in
    let new = c.add_shadows.new.columns in
    let added : AreAdded bounds hits tri.area old new = c.in_ok-add_shadows.ensures in
    let wide : length bounds ≡ length c.args.bounds.now = c.row_shadows-hits.ensures.width ∙ c.loop-tri.invariant.2 in
    let long : length new ≡ length c.args.columns.now = added.same ∙ c.loop-tri.invariant.1 in
    let P : List Tri → Type 0 = λ xs. (x : ℕ) → x < length new → AreKept xs x c.args.z (column_at new x) in
    let kept : (x : ℕ) → x < length new → AreKept (take i active ++ tri ∷ []) x c.args.z (column_at new x) =
    λ x inside. filled_more (take i active) tri x c.args.z bounds hits old new (c.loop-tri.invariant.0 x (omega (arith, inside, added.same)))
    (omega (arith, inside, long, wide, c.requires.same)) c.row_shadows-hits.ensures.shadows added in
    (subst P (sym (take_more active i no_tri c.loop-tri-test.true)) kept, long, wide)

pub returns-clause-kept : goal.returns-clause-kept
returns-clause-kept c x inside =
    let all : take c.loop-tri.tri-index c.args.active.now ≡ c.args.active.now = take_all c.loop-tri.tri-index c.args.active.now c.loop-tri-test.false in
    let P : List Tri → Type 0 = λ xs. AreKept xs x c.args.z (column_at c.loop-tri.columns x) in
    subst P all (c.loop-tri.invariant.0 x (omega (arith, inside, c.loop-tri.invariant.1)))
