-- What an entry that adds or removes an obstacle makes of those that are alive.
use Rattle.std.proofs.Common.{◌≡◌, ℕ, suc, ◌+◌, true, false, not, cond, ◌&&◌, eqb, List, [], ◌∷◌, ◌++◌, length, filter, Some, refl, ap, ◌∙◌, subst, arith, tests}
use Rattle.std.specs.Prelude.{if◌then◌else◌, ◌==◌}
use Rattle.std.specs.List.{list_any}
use Rattle.std.specs.Option.{option_and_then}
use Rattle.std.proofs.lemmas.List.{length_push, append-nil}
use Rattle.std.proofs.lemmas.List.Elements.{filter_agree}
use Rattle.nav_ground.specs.declared.history.Entry.{Entry}
use Rattle.nav_ground.specs.declared.history.Reply.{Reply}
use Rattle.nav_ground.specs.declared.history.Reply.TheVariants.{Added, Removed, Full, Dead}
use Rattle.nav_ground.specs.declared.history.Request.{Request}
use Rattle.nav_ground.specs.declared.history.Request.TheVariants.{Add, Remove}
use Rattle.nav_ground.specs.declared.shape.Shape.{Shape}
use Rattle.nav_ground.specs.History.{alive_after, is_removal_of, shape_in, shape_of}
use Rattle.nav_ground.proofs.Words.{is_adding}
use Rattle.nav_ground.proofs.Selections.{filter_all, slice_get-push}
use Rattle.nav_ground.proofs.AliveLaws.{alive_after-push, shape_of-push}
use Rattle.build_queue.specs.BookState.{BookState}
use Rattle.build_queue.specs.Steps.{after_request, next_reply}
use Rattle.obstacle_registry.specs.Changes.{next_number, put_up, taken_down}
use Rattle.obstacle_registry.specs.Registry.{alive_now, is_crowded}

-- an entry adds the obstacle of its number
added : (history : List Entry) (shape : Shape) (reply : Reply) → reply ≡ Added (length history + 1)
    → alive_after (history ++ record { lane = 0; request = Add shape; reply = reply } ∷ []) (length history + 1)
    ≡ alive_after history (length history) ++ (length history + 1) ∷ []
added history shape reply is =
    let entry : Entry = record { lane = 0; request = Add shape; reply = reply } in
    alive_after-push history entry
    ∙ ap (λ ns. ns ++ cond (is_adding entry) ((1 + length history) ∷ []) [])
    (filter_all (λ number. not (is_removal_of number entry)) (alive_after history (length history)) (λ k d within. refl))
    ∙ ap (λ (r : Reply). alive_after history (length history) ++ cond (is_adding (record { lane = 0; request = Add shape; reply = r })) ((1 + length history) ∷ []) []) is
    ∙ ap (λ n. alive_after history (length history) ++ n ∷ []) (omega arith)

-- an entry removes the obstacle that it names
removed : (history : List Entry) (number : ℕ) (reply : Reply) → reply ≡ Removed
    → alive_after (history ++ record { lane = 0; request = Remove number; reply = reply } ∷ []) (length history + 1)
    ≡ filter (λ alive. not (alive == number)) (alive_after history (length history))
removed history number reply is =
    ap (λ (r : Reply). alive_after (history ++ record { lane = 0; request = Remove number; reply = r } ∷ []) (length history + 1)) is
    ∙ alive_after-push history (record { lane = 0; request = Remove number; reply = Removed })
    ∙ append-nil (filter (λ alive. not (eqb number alive && true)) (alive_after history (length history)))
    ∙ filter_agree (λ alive. not (eqb number alive && true)) (λ alive. not (eqb alive number)) same_test (alive_after history (length history))
  where
    same_test : (alive : ℕ) → not (eqb number alive && true) ≡ not (eqb alive number)
    same_test alive = grind (arith, tests)

-- where there is room for one more, its shape is put up
pub alive_put_up : (book : BookState) (shape : Shape) → is_crowded book ≡ false → alive_now (put_up shape book) ≡ alive_now book ++ next_number book ∷ []
alive_put_up book shape few =
    ap (alive_after (put_up shape book).history) (length_push book.history (record { lane = 0; request = Add shape; reply = next_reply book (Add shape) }))
    ∙ added book.history shape (next_reply book (Add shape)) (ap (λ b. if b then Full book.ground.setting.limit else Added (length book.history + 1)) few)

-- one that is alive is taken down
pub alive_taken_down : (book : BookState) (number : ℕ) → list_any (λ alive. alive == number) (alive_now book) ≡ true
    → alive_now (taken_down number book) ≡ filter (λ alive. not (alive == number)) (alive_now book)
alive_taken_down book number there =
    ap (alive_after (taken_down number book).history) (length_push book.history (record { lane = 0; request = Remove number; reply = next_reply book (Remove number) }))
    ∙ removed book.history number (next_reply book (Remove number)) (ap (λ b. if b then Removed else Dead number) there)

-- the shape that is put up is that of its number
pub shape_put_up : (book : BookState) (shape : Shape) → shape_of (put_up shape book).history (next_number book) ≡ Some shape
shape_put_up book shape =
    let number : suc (length book.history) ≡ length book.history + 1 = omega arith in
    subst (λ n. shape_of (put_up shape book).history n ≡ Some shape) number
    (ap (option_and_then (λ (e : Entry). shape_in e.request)) (slice_get-push book.history (record { lane = 0; request = Add shape; reply = next_reply book (Add shape) })))

-- the other obstacles have their shapes
pub shape_kept : (book : BookState) (request : Request) (number : ℕ) (shape : Shape) → shape_of book.history number ≡ Some shape
    → shape_of (after_request book 0 request).history number ≡ Some shape
shape_kept book request number shape is =
    shape_of-push book.history (record { lane = 0; request = request; reply = next_reply book request }) number shape is
