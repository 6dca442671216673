-- Histories of a book: one entry more, and the limits of the shapes that are alive.
use Rattle.std.proofs.Common.{◌≡◌, ℕ, zero, suc, ◌+◌, ◌<◌, List, [], ◌∷◌, ◌++◌, length, map, get_or, Option, None, Some, refl, sym, ◌∙◌, subst, arith}
use Rattle.std.specs.List.{All, filter_map, cons_option}
use Rattle.std.proofs.lemmas.List.{length_push}
use Rattle.std.proofs.lemmas.List.Elements.{All-push, All-map, All-nil, All-cons}
use Rattle.std.proofs.lemmas.Option.{none-some, same_Some, option_and_then_some, slice_get_within, get_or_from_slice_get}
use Rattle.nav_ground.specs.declared.history.Entry.{Entry}
use Rattle.nav_ground.specs.declared.history.Request.{Request}
use Rattle.nav_ground.specs.declared.history.Request.TheVariants.{Add, Remove}
use Rattle.nav_ground.specs.declared.shape.Shape.{Shape}
use Rattle.nav_ground.specs.Limits.{IsShape}
use Rattle.nav_ground.specs.History.{IsHistory, IsRequest, alive_after, entry_at, shape_in, shape_of, shapes_alive, reply_to, history_limit}
use Rattle.nav_ground.proofs.AliveLaws.{IsWellReplied-push}
use Rattle.build_queue.specs.declared.live.Live.{Live}
use Rattle.nav_ground.specs.declared.history.Reply.{Reply}
use Rattle.build_queue.specs.LiveTable.{IsLiveTable, reply_among, rows_after}
use Rattle.build_queue.proofs.Tables.{table_after, table_replies}

-- one entry more, with the reply of the history before it
pub IsHistory-push : (limit : ℕ) (history : List Entry) (entry : Entry) → IsHistory limit history → length history < history_limit → IsRequest entry.request
    → entry.reply ≡ reply_to limit history entry.request → IsHistory limit (history ++ entry ∷ [])
IsHistory-push limit history entry rules room request reply = record {
  few = omega (arith, length_push history entry);
  requests = All-push (λ (e : Entry). IsRequest e.request) history entry rules.requests request;
  replies = IsWellReplied-push limit history entry rules.replies reply;
}

shape_kept : (request : Request) (shape : Shape) → IsRequest request → shape_in request ≡ Some shape → IsShape shape
shape_kept (Add other) shape limits here = subst IsShape (same_Some other shape here) limits
shape_kept (Remove number) shape limits here = absurd (none-some shape here)

-- the shape of an obstacle of a history is within its limits
pub shape_limits : (history : List Entry) (number : ℕ) (shape : Shape) → All (λ (entry : Entry). IsRequest entry.request) history → shape_of history number ≡ Some shape → IsShape shape
shape_limits history number shape requests found =
    option_and_then_some (λ (entry : Entry). shape_in entry.request) (entry_at history number) shape found
    (λ entry there here. shape_kept entry.request shape (asked number entry there) here)
  where
    asked : (n : ℕ) (entry : Entry) → entry_at history n ≡ Some entry → IsRequest entry.request
    asked zero entry there = absurd (none-some entry there)
    asked (suc place) entry there =
        subst (λ (e : Entry). IsRequest e.request) (get_or_from_slice_get history place entry entry there)
        (requests place entry (slice_get_within history place entry there))

-- so those of the table are
pub table_limits : (history : List Entry) (rows : List Live) → All (λ (entry : Entry). IsRequest entry.request) history → IsLiveTable history rows
    → All IsShape (map (λ (row : Live). row.shape) rows)
table_limits history rows requests table =
    All-map IsShape (λ (row : Live). row.shape) rows
    (λ k d within. shape_limits history (get_or rows k d).number (get_or rows k d).shape requests (table.shapes k d within))

-- a book's history and its table after a request
pub request_kept : (limit lane number : ℕ) (history : List Entry) (rows : List Live) (request : Request) (reply : Reply)
    → IsHistory limit history → IsLiveTable history rows → length history < history_limit → IsRequest request
    → number ≡ length history + 1 → reply ≡ reply_among limit number rows request
    → (reply ≡ reply_to limit history request)
    × IsHistory limit (history ++ record { lane = lane; request = request; reply = reply } ∷ [])
    × IsLiveTable (history ++ record { lane = lane; request = request; reply = reply } ∷ []) (rows_after limit number rows request)
request_kept limit lane number history rows request reply rules table room asked next answered =
    let entry : Entry = record { lane = lane; request = request; reply = reply } in
    let counted : reply ≡ reply_among limit (length history + 1) rows request = subst (λ n. reply ≡ reply_among limit n rows request) next answered in
    let right = counted ∙ table_replies limit history rows request table in (
      right,
      IsHistory-push limit history entry rules room asked right,
      subst (λ n. IsLiveTable (history ++ entry ∷ []) (rows_after limit n rows request)) (sym next)
          (subst (λ r. IsLiveTable (history ++ record { lane = lane; request = request; reply = r } ∷ []) (rows_after limit (length history + 1) rows request)) (sym counted)
          (table_after limit lane history rows request table)),
    )

-- the shapes that are alive are within their limits
found_more : (history : List Entry) (number : ℕ) (rest : List Shape) (found : Option Shape) → All (λ (entry : Entry). IsRequest entry.request) history
    → shape_of history number ≡ found → All IsShape rest → All IsShape (cons_option found rest)
found_more history number rest None requests is limits = limits
found_more history number rest (Some shape) requests is limits = All-cons IsShape shape rest (shape_limits history number shape requests is) limits

pub alive_limits : (history : List Entry) (k : ℕ) → All (λ (entry : Entry). IsRequest entry.request) history → All IsShape (shapes_alive history k)
alive_limits history k requests = among (alive_after history k)
  where
    among : (numbers : List ℕ) → All IsShape (filter_map (shape_of history) numbers)
    among [] = All-nil IsShape
    among (number ∷ numbers) = found_more history number (filter_map (shape_of history) numbers) (shape_of history number) requests refl (among numbers)
