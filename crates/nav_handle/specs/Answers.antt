-- Answers over the border: how questions of what a handle holds end.
use Rattle.std.specs.Prelude.{◌≡◌, ℕ, ◌⊎◌, Option, Some, None, Result, Ok, Err}
use Rattle.nav_base.specs.declared.point.Question.{Question}
use Rattle.mesh_types.specs.declared.answers.Answer.{Answer}
use Rattle.mesh_types.specs.declared.mesh.Mesh.{Mesh}
use Rattle.mesh_types.specs.Right.{IsRight}
use Rattle.build_queue.specs.BookState.{BookState}
use Rattle.nav_book.specs.LevelResults.{published_mesh}
use Rattle.nav_handle.specs.Views.{Seen}
use Rattle.nav_handle.specs.Statuses as status
use Rattle.nav_handle.specs.Telling.{answer_status}

-- the mesh that answers: what a level has published, or what a view shows
abbrev pub shown_in : Option BookState → Option Mesh
shown_in None = None
shown_in (Some state) = Some (published_mesh state)

abbrev pub seen_in : Option Seen → Option Mesh
seen_in None = None
seen_in (Some seen) = Some seen.mesh

-- what is published was made ready for many questions, unless memory is refused; where there is no level, there is nothing to make ready
abbrev pub IsPrepared : Option BookState → ℕ → Type 0
IsPrepared None ended = ended ≡ status.empty
IsPrepared (Some state) ended = (ended ≡ status.ok) ⊎ (ended ≡ status.no_memory)

-- where there is a mesh there is an answer that is right in it, unless memory is refused; else there is none
abbrev pub IsRepliedBy : {A : Type 0} → (Mesh → A → Type 0) → Option Mesh → Result A ℕ → Type 0
IsRepliedBy right None (Ok answer) = ⊥
IsRepliedBy right None (Err why) = why ≡ status.empty
IsRepliedBy right (Some mesh) (Ok answer) = right mesh answer
IsRepliedBy right (Some mesh) (Err why) = why ≡ status.no_memory

abbrev pub IsReplied : Option Mesh → Question → Result Answer ℕ → Type 0
IsReplied held question = IsRepliedBy (λ mesh answer. IsRight mesh question answer) held

-- there is a right answer: the question ends with its status, and it is told in the host's places
pub record IsAnswered {A Room : Type 0} (right : A → Type 0) (status_of : A → ℕ) (told : A → Room → Room) (before after : Room) (ended : ℕ) : Type 0 where
  pub answer : A
  pub is_right : right answer
  pub status : ended ≡ status_of answer
  pub rooms : after ≡ told answer before

-- a call ended in this way and told nothing
abbrev pub EndsSo : {Room : Type 0} → ℕ → Room → Room → ℕ → Type 0
EndsSo why before after ended = (ended ≡ why) × (after ≡ before)

-- a question: the mesh answers it, unless memory is refused; where there is none it ends so
abbrev pub IsAskedBy : {A Room : Type 0} → (Mesh → A → Type 0) → (A → ℕ) → (A → Room → Room) → Option Mesh → Room → Room → ℕ → Type 0
IsAskedBy right status_of told None before after ended = EndsSo status.empty before after ended
IsAskedBy right status_of told (Some mesh) before after ended =
    IsAnswered (right mesh) status_of told before after ended ⊎ EndsSo status.no_memory before after ended

abbrev pub IsAsked : {Room : Type 0} → (Answer → Room → Room) → Option Mesh → Question → Room → Room → ℕ → Type 0
IsAsked told held question before after ended = IsAskedBy (λ mesh answer. IsRight mesh question answer) answer_status told held before after ended
