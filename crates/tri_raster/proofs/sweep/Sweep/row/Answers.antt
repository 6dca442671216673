use Rattle.std.proofs.Common.{◌≡◌, ℕ, ◌+◌, ◌<◌, ◌≤◌, List, [], ◌∷◌, ◌++◌, length, take, drop, filter, get_or, subst, sym, ap, ◌∙◌, arith}
use Rattle.std.specs.Prelude.{All}
use Rattle.std.proofs.lemmas.List.Elements.{All-weaker}
use Rattle.std.proofs.lemmas.Result.{on_ok_weaker}
use Rattle.nav_ground.specs.declared.setting.Setting.{Setting}
use Rattle.tri_raster.specs.declared.triangle.Bound.{Bound}
use Rattle.tri_raster.specs.declared.triangle.Shadow.{Shadow}
use Rattle.tri_raster.specs.declared.triangle.Tri.{Tri}
use Rattle.tri_raster.specs.Rows.{MeetsRow}
use Rattle.tri_raster.specs.Triangles.{IsTriangle}
use Rattle.tri_raster.specs.ActiveRows.{BeginIn, reaches_row}
use Rattle.tri_raster.specs.Columns.{IsUpright, IsLimited, AreKept}
use Rattle.tri_raster.specs.Sweeps.{column_at, AreEmpty, IsAtRow, IsRowOf, HasRow, IsBeforeRow}
use Rattle.tri_raster.proofs.ActiveLaws.{to_active, to_next, kept_of_active}
use Rattle.tri_raster.proofs.ShadowLaws.{written_back}
use Rattle.tri_raster.proofs.SweepLaws.{can_fill, kept_upright, kept_limited}
use Rattle.tri_raster.proofs.sweep.Sweep.row.Goals as goal

pub fill-requires-clause-triangles : goal.fill-requires-clause-triangles
fill-requires-clause-triangles c =
    let P : List Tri → Type 0 = λ xs. All IsTriangle xs in
    subst P (sym c.as_slice.ensures.value) (All-weaker (λ (tri : Tri). IsTriangle tri × MeetsRow tri c.args.z) IsTriangle (λ tri fits. fits.0) c.to_row.new.active.items
    (can_fill c.args.z c.args.self.now.active.items c.args.entering.now c.to_row.new.active.items c.requires.triangles c.in_ok-to_row.ensures))

pub fill-requires-clause-meet : goal.fill-requires-clause-meet
fill-requires-clause-meet c =
    let Meets : Tri → Type 0 = λ tri. MeetsRow tri c.args.z in
    let P : List Tri → Type 0 = λ xs. All Meets xs in
    subst P (sym c.as_slice.ensures.value) (All-weaker (λ (tri : Tri). IsTriangle tri × MeetsRow tri c.args.z) Meets (λ tri fits. fits.1) c.to_row.new.active.items
    (can_fill c.args.z c.args.self.now.active.items c.args.entering.now c.to_row.new.active.items c.requires.triangles c.in_ok-to_row.ensures))

pub push_row-requires-clause-upright : goal.push_row-requires-clause-upright
push_row-requires-clause-upright c =
    let columns = c.args.self.now.columns in
    let filled : take columns.len (c.fill.new.columns ++ drop (length c.fill.new.columns) columns.items) ≡ c.fill.new.columns =
    written_back columns.len columns.items c.as_mut_slice.result.now c.fill.new.columns columns.ok.0 c.as_mut_slice.ensures.value c.fill.ensures.columns in
    let lent : c.as_mut_slice-3.result.now ≡ c.fill.new.columns = c.as_mut_slice-3.ensures.value ∙ filled in
    let P : List (List Shadow) → Type 0 = λ cs. (x : ℕ) → x < length cs → All IsUpright (column_at cs x) in
    subst P (sym lent) (λ x inside. kept_upright c.as_slice.result.now x c.args.z (column_at c.fill.new.columns x)
    (c.in_ok-fill.ensures.kept x (omega (arith, inside, c.fill.ensures.columns))))

pub push_row-requires-clause-limited : goal.push_row-requires-clause-limited
push_row-requires-clause-limited c =
    let columns = c.args.self.now.columns in
    let filled : take columns.len (c.fill.new.columns ++ drop (length c.fill.new.columns) columns.items) ≡ c.fill.new.columns =
    written_back columns.len columns.items c.as_mut_slice.result.now c.fill.new.columns columns.ok.0 c.as_mut_slice.ensures.value c.fill.ensures.columns in
    let lent : c.as_mut_slice-3.result.now ≡ c.fill.new.columns = c.as_mut_slice-3.ensures.value ∙ filled in
    let T : List Tri → Type 0 = λ xs. All IsTriangle xs in
    let triangles : All IsTriangle c.as_slice.result.now =
    subst T (sym c.as_slice.ensures.value) (All-weaker (λ (tri : Tri). IsTriangle tri × MeetsRow tri c.args.z) IsTriangle (λ tri fits. fits.0) c.to_row.new.active.items
    (can_fill c.args.z c.args.self.now.active.items c.args.entering.now c.to_row.new.active.items c.requires.triangles c.in_ok-to_row.ensures)) in
    let P : List (List Shadow) → Type 0 = λ cs. (x : ℕ) → x < length cs → All IsLimited (column_at cs x) in
    subst P (sym lent) (λ x inside. kept_limited c.as_slice.result.now x c.args.z (column_at c.fill.new.columns x) triangles
    (c.in_ok-fill.ensures.kept x (omega (arith, inside, c.fill.ensures.columns))))

pub returns-clause-at : goal.returns-clause-at
returns-clause-at c =
    let columns = c.args.self.now.columns in
    let bounds = c.args.self.now.bounds in
    let filled_bounds : take bounds.len (c.fill.new.bounds ++ drop (length c.fill.new.bounds) bounds.items) ≡ c.fill.new.bounds =
    written_back bounds.len bounds.items c.as_mut_slice-2.result.now c.fill.new.bounds bounds.ok.0 c.as_mut_slice-2.ensures.value c.fill.ensures.bounds in
    let between : List (List Shadow) = take columns.len (c.fill.new.columns ++ drop (length c.fill.new.columns) columns.items) in
    let filled : between ≡ c.fill.new.columns =
    written_back columns.len columns.items c.as_mut_slice.result.now c.fill.new.columns columns.ok.0 c.as_mut_slice.ensures.value c.fill.ensures.columns in
    let long : length c.fill.new.columns ≡ length columns.items =
    c.fill.ensures.columns ∙ ap (λ (xs : List (List Shadow)). length xs) c.as_mut_slice.ensures.value in
    let count : columns.len ≡ length between = columns.ok.0 ∙ sym long ∙ sym (ap (λ (xs : List (List Shadow)). length xs) filled) in
    let pushed : take columns.len (c.push_row.new.columns ++ drop (length c.push_row.new.columns) between) ≡ c.push_row.new.columns =
    written_back columns.len between c.as_mut_slice-3.result.now c.push_row.new.columns count c.as_mut_slice-3.ensures.value c.push_row.ensures.width in
    let same : length c.push_row.new.columns ≡ length columns.items =
    c.push_row.ensures.width ∙ ap (λ (xs : List (List Shadow)). length xs) (c.as_mut_slice-3.ensures.value ∙ filled) ∙ long in
    let wide : length c.fill.new.bounds ≡ length bounds.items = c.fill.ensures.bounds ∙ ap (λ (xs : List Bound). length xs) c.as_mut_slice-2.ensures.value in
    on_ok_weaker c.push_row.result (λ empty tris width at begin.
    let reach = to_active tris c.args.z c.args.self.now.active.items c.args.entering.now c.to_row.new.active.items at.may begin c.in_ok-to_row.ensures in
    let next : IsAtRow tris width (c.args.z + 1) c.to_row.new.active.items c.fill.new.bounds c.push_row.new.columns =
    record { may = to_next tris c.args.z c.to_row.new.active.items reach; wide = wide ∙ at.wide; long = same ∙ at.long; empty = empty } in
    let B : List Bound → Type 0 = λ xs. IsAtRow tris width (c.args.z + 1) c.to_row.new.active.items xs c.push_row.new.columns in
    let C : List (List Shadow) → Type 0 = λ xs. IsAtRow tris width (c.args.z + 1) c.to_row.new.active.items
    (take bounds.len (c.fill.new.bounds ++ drop (length c.fill.new.bounds) bounds.items)) xs in
    subst C (sym pushed) (subst B (sym filled_bounds) next)) c.push_row.ensures.empty

pub returns-clause-spans : goal.returns-clause-spans
returns-clause-spans c setting tris before =
    let columns = c.args.self.now.columns in
    let filled : take columns.len (c.fill.new.columns ++ drop (length c.fill.new.columns) columns.items) ≡ c.fill.new.columns =
    written_back columns.len columns.items c.as_mut_slice.result.now c.fill.new.columns columns.ok.0 c.as_mut_slice.ensures.value c.fill.ensures.columns in
    let lent : c.as_mut_slice-3.result.now ≡ c.fill.new.columns = c.as_mut_slice-3.ensures.value ∙ filled in
    let active : c.as_slice.result.now ≡ c.to_row.new.active.items = c.as_slice.ensures.value in
    let same : length c.fill.new.columns ≡ setting.width = c.fill.ensures.columns ∙ ap (λ (xs : List (List Shadow)). length xs) c.as_mut_slice.ensures.value ∙ before.at.long in
    let reach = to_active tris c.args.z c.args.self.now.active.items c.args.entering.now c.to_row.new.active.items before.at.may before.begin c.in_ok-to_row.ensures in
    let K : List Tri → ℕ → Type 0 = λ xs x. AreKept xs x c.args.z (column_at c.fill.new.columns x) in
    let row : IsRowOf setting tris c.args.climb c.args.z c.fill.new.columns c.args.spans.now.items = record {
      step = before.step;
      width = same;
      inside = before.inside;
      kept = λ x inside. kept_of_active tris c.to_row.new.active.items x c.args.z (column_at c.fill.new.columns x) reach
          (subst (λ (xs : List Tri). K xs x) active (c.in_ok-fill.ensures.kept x (omega (arith, inside, same, c.fill.ensures.columns))));
      done = before.done;
    } in
    let R : List (List Shadow) → Type 0 = λ cs. IsRowOf setting tris c.args.climb c.args.z cs c.args.spans.now.items in
    c.push_row.ensures.spans setting tris (subst R (sym lent) row)
