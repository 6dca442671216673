-- Texts that are written part by part.
use Rattle.std.proofs.Common.{◌≡◌, ℕ, ◌+◌, ◌<◌, ◌≤◌, List, [], ◌∷◌, ◌++◌, length, drop, get_or, ap, ◌∙◌, sym, append_assoc, append-nil}
use Rattle.std.specs.List.{enumerate_from, flat_map}
use Rattle.std.proofs.lemmas.List.{at_drop_all, at_drop_more}
use Rattle.nav_ground.specs.declared.history.Entry.{Entry}
use Rattle.mesh_types.specs.declared.mesh.Mesh.{Mesh}
use Rattle.mesh_types.specs.Builds.{build_of}
use Rattle.mesh_types.specs.Soundness.{link_count, polygon_count}
use Rattle.build_queue.specs.BookState.{BookState}
use Rattle.nav_book.specs.Results.{published_mesh}
use Rattle.nav_record.specs.FrameTexts.{final_text, history_text, lane_text}
use Rattle.nav_live.specs.LiveRecord.{entries_text, live_text, lane_lines}

-- one part more is written, and the rest is left
pub part_written : (before after part rest whole : List ℕ) → before ++ (part ++ rest) ≡ whole → after ≡ before ++ part → after ++ rest ≡ whole
part_written before after part rest whole left is = ap (λ t. t ++ rest) is ∙ append_assoc before part rest ∙ left

module _ {A : Type 0} (xs : List A) (i : ℕ) (before whole : List ℕ) where
  -- the text of one element more of a list, where elements are counted
  pub one_counted : (f : ℕ × A → List ℕ) (n : ℕ) (d e : A) (after : List ℕ) → before ++ flat_map f (enumerate_from n (drop i xs)) ≡ whole → i < length xs
      → e ≡ get_or xs i d → after ≡ before ++ f (n, e) → after ++ flat_map f (enumerate_from (n + 1) (drop (i + 1) xs)) ≡ whole
  one_counted f n d e after left there here is =
      part_written before after (f (n, get_or xs i d)) (flat_map f (enumerate_from (n + 1) (drop (i + 1) xs))) whole
      (sym (at_drop_more (λ ys. before ++ flat_map f (enumerate_from n ys)) xs i d there) ∙ left) (is ∙ ap (λ x. before ++ f (n, x)) here)

  -- and of all
  pub all_counted : (f : ℕ × A → List ℕ) (n : ℕ) → before ++ flat_map f (enumerate_from n (drop i xs)) ≡ whole → length xs ≤ i → before ≡ whole
  all_counted f n left end = sym (append-nil before) ∙ sym (at_drop_all (λ ys. before ++ flat_map f (enumerate_from n ys)) xs i end) ∙ left

-- the same where the element was taken off the front of a list
pub next_counted : {A : Type 0} (x : A) (rest all : List A) (n : ℕ) (before whole : List ℕ) (f : ℕ × A → List ℕ) (after : List ℕ) → all ≡ x ∷ rest
    → before ++ flat_map f (enumerate_from n all) ≡ whole → after ≡ before ++ f (n, x) → after ++ flat_map f (enumerate_from (n + 1) rest) ≡ whole
next_counted x rest all n before whole f after is left here =
    part_written before after (f (n, x)) (flat_map f (enumerate_from (n + 1) rest)) whole
    (sym (ap (λ ys. before ++ flat_map f (enumerate_from n ys)) is) ∙ left) here

-- and of all, once none is left
pub last_counted : {A : Type 0} (rest : List A) (n : ℕ) (before whole : List ℕ) (f : ℕ × A → List ℕ) → rest ≡ []
    → before ++ flat_map f (enumerate_from n rest) ≡ whole → before ≡ whole
last_counted rest n before whole f none left =
    sym (append-nil before) ∙ sym (ap (λ ys. before ++ flat_map f (enumerate_from n ys)) none) ∙ left

-- the number of a lane is written, and then what was told of its lines
pub lane_written : (before named after slice told : List ℕ) (lane : ℕ) → named ≡ before ++ lane_text lane → after ≡ named ++ slice → slice ≡ told
    → after ≡ before ++ lane_lines (lane, told)
lane_written before named after slice told lane one two same =
    two ∙ ap (λ front. front ++ slice) one ∙ append_assoc before (lane_text lane) slice ∙ ap (λ last. before ++ (lane_text lane ++ last)) same

-- the last line of a live text
abbrev end_text : ℕ → Mesh → List ℕ
end_text n mesh = final_text n (polygon_count mesh.tiles) (link_count mesh)

-- the parts of a live text, where the whole history is published
pub live_written : (state : BookState) (lanes : List (List ℕ)) (none first second third last : List ℕ) (n m polygons links : ℕ) (entries : List Entry)
    → none ≡ [] → state.published ≡ length state.history → n ≡ length state.history → m ≡ length state.history → entries ≡ state.history
    → polygons ≡ polygon_count (published_mesh state).tiles → links ≡ link_count (published_mesh state)
    → first ≡ none ++ history_text n → second ≡ first ++ entries_text entries → third ≡ second ++ flat_map lane_lines (enumerate_from 0 lanes)
    → last ≡ third ++ final_text m polygons links → last ≡ live_text state.ground state.history lanes
live_written state lanes none first second third last n m polygons links entries empty shown long far all counted linked one two three four =
    let head : List ℕ = history_text (length state.history) in
    let body : List ℕ = entries_text state.history in
    let said : List ℕ = flat_map lane_lines (enumerate_from 0 lanes) in
    let foot : List ℕ = end_text (length state.history) (build_of state.ground state.history (length state.history)) in
    let last_is : last ≡ third ++ foot =
    four ∙ (λ i. third ++ final_text (far i) (counted i) (linked i))
    ∙ ap (λ k. third ++ end_text (length state.history) (build_of state.ground state.history k)) shown in
    let third_is : third ≡ head ++ body ++ said =
    three ∙ (λ i. two i ++ said) ∙ (λ i. one i ++ entries_text (all i) ++ said) ∙ (λ i. empty i ++ history_text (long i) ++ body ++ said) in
    last_is ∙ ap (λ t. t ++ foot) third_is ∙ append_assoc (head ++ body) said foot ∙ append_assoc head body (said ++ foot)
