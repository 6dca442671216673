-- Which tiles of a book are stored with obstacles: those alone that some obstacle of the history touched.
use Rattle.std.specs.Prelude.{ℕ, ◌<◌, [], length, slice_index_or}
use Rattle.nav_book.specs.Views.{BookView}
use Rattle.nav_live.specs.ActRules.{IsTouched}

pub record AreTouched (book : BookView) : Type 0 where
  pub each : (tile : ℕ) → 0 < length (slice_index_or book.state.stored tile []) → IsTouched book.state.ground book.state.history tile
