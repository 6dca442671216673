-- Merging: new spans put among those of a field, while some of both are left.
use Rattle.std.specs.Prelude.{◌≡◌, ℕ, ◌≤◌, pos, ◌<ℤ◌, Bool, true, ◌&&◌, ◌||◌, ◌==◌, nat_lt, List, ◌++◌, length, take, drop, All, AllPairs}
use Rattle.nav_ground.specs.declared.cell.Window.{Window}
use Rattle.nav_ground.specs.declared.field.Span.{Span}
use Rattle.nav_ground.specs.Fields.{IsSpanBefore}
use Rattle.nav_ground.specs.Tiling.{is_in_window}
use Rattle.layer_cut.specs.Nearby.{spans_in}
use Rattle.live_ground.specs.Changes.{spans_outside}

-- the column of a span comes before that of another: by z, then by x
abbrev pub is_in_earlier_column : Span → Span → Bool
is_in_earlier_column a b = nat_lt a.z b.z || (a.z == b.z && nat_lt a.x b.x)

-- the spans up to a place stand in rows before those of a rectangle, and the spans from another place on in rows behind them
pub record ArePlacesOfRows (window : Window) (spans : List Span) (first end : ℕ) : Type 0 where
  pub order : first ≤ end
  pub most : end ≤ length spans
  pub before : All (λ (span : Span). pos span.z <ℤ window.z0) (take first spans)
  pub behind : All (λ (span : Span). window.z1 <ℤ pos span.z) (drop end spans)

-- a list that is made of the spans of a field outside a rectangle and of new ones inside, while some of both are left: both stand in it in
-- order, and it stays in order once what is left of either is put behind it
pub record IsMerged (window : Window) (old news made old_left news_left : List Span) : Type 0 where
  pub inside : spans_in window made ++ news_left ≡ news
  pub outside : spans_outside window made ++ spans_outside window old_left ≡ spans_outside window old
  pub left : All (λ (span : Span). is_in_window window span.x span.z ≡ true) news_left
  pub old_order : AllPairs IsSpanBefore (made ++ spans_outside window old_left)
  pub news_order : AllPairs IsSpanBefore (made ++ news_left)
