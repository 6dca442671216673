-- Chunked: a list that is kept in chunks of one size, the last of which may be shorter.
use Rattle.std.specs.Prelude.{◌≡◌, ℕ, ◌≤◌, ◌<◌, List, [], ◌∷◌, length, All}
use Rattle.std.specs.List.{flat_map}

-- the elements of all chunks, in order
abbrev pub joined : {T : Type 0} → List (List T) → List T
joined chunks = flat_map (λ chunk. chunk) chunks

-- a chunk before others is full, and the last one has no more elements than a full one
abbrev pub IsChunk : {T : Type 0} → ℕ → List T → List (List T) → Type 0
IsChunk size chunk [] = length chunk ≤ size
IsChunk size chunk (next ∷ rest) = length chunk ≡ size

abbrev pub AreFull : {T : Type 0} → ℕ → List (List T) → Type 0
AreFull size [] = Unit {0}
AreFull size (chunk ∷ rest) = IsChunk size chunk rest × AreFull size rest

-- chunks with so many elements in all, each of which but the last is full
pub record AreChunks {T : Type 0} (size count : ℕ) (chunks : List (List T)) : Type 0 where
  pub full : AreFull size chunks
  pub counted : count ≡ length (joined chunks)

-- full chunks, and what is left for the next, which it does not fill
pub record IsLeft {T : Type 0} (size : ℕ) (chunks : List (List T)) (left : List T) : Type 0 where
  pub full : All (λ (chunk : List T). length chunk ≡ size) chunks
  pub short : length left < size
