-- What settling a book leaves: its ground and its history.
use Rattle.std.proofs.Common.{◌≡◌, ℕ, List, [], ◌∷◌, refl}
use Rattle.std.specs.List.{fold}
use Rattle.build_queue.specs.BookState.{BookState}
use Rattle.nav_book.specs.Settling.{after_job, after_settle, all_built, awaited_tiles, settling}

jobs_whole : (book : BookState) (tiles : List ℕ) → (fold after_job book tiles).ground ≡ book.ground
jobs_whole book [] = refl
jobs_whole book (tile ∷ tiles) = jobs_whole (after_job book tile) tiles

pub settled_whole : (book : BookState) → (after_settle book).ground ≡ book.ground
unfolding all_built
settled_whole book = jobs_whole (settling book) (awaited_tiles (settling book))

jobs_history : (book : BookState) (tiles : List ℕ) → (fold after_job book tiles).history ≡ book.history
jobs_history book [] = refl
jobs_history book (tile ∷ tiles) = jobs_history (after_job book tile) tiles

pub settled_history : (book : BookState) → (after_settle book).history ≡ book.history
unfolding all_built
settled_history book = jobs_history (settling book) (awaited_tiles (settling book))
