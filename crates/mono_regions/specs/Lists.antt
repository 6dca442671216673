-- Lists of indices that stand one after the other in one list.
use Rattle.std.specs.Prelude.{◌≡◌, ℕ, ◌+◌, ◌-◌, List, length, map, take, slice_range, slice_index}
use Rattle.std.specs.List.{concat, range_with_len}

-- where each list begins in all of them together, and at last the end
abbrev pub starts_of : List (List ℕ) → List ℕ
starts_of lists = map (λ k. length (concat (take k lists))) (range_with_len 0 (length lists + 1))

-- the lists between places where one begins and the next begins
abbrev pub lists_between : List ℕ → List ℕ → List (List ℕ)
lists_between items starts = map (λ k. slice_range items (slice_index starts k) (slice_index starts (k + 1))) (range_with_len 0 (length starts - 1))

-- the places are those where some lists begin
pub record AreCut (items starts : List ℕ) : Type 0 where
  pub lists : List (List ℕ)
  pub items_are : items ≡ concat lists
  pub starts_are : starts ≡ starts_of lists
