-- Requests that are made one after the other.
use Rattle.std.proofs.Common.{◌≡◌, ℕ, zero, suc, ◌+◌, ◌≤◌, ◌<◌, true, not, cond, List, [], ◌∷◌, ◌++◌, length, get_or, drop, filter, map, take, refl, sym, ap, ◌∙◌, arith}
use Rattle.std.specs.Prelude.{◌==◌, AllPairs, All}
use Rattle.std.specs.List.{list_any}
use Rattle.std.proofs.lemmas.Bool.{eq-eqb, ne_eqb}
use Rattle.std.proofs.lemmas.List.{drop_all, get_or-drop, length-drop, length-map, length-take, length_push, map_more, take_all}
use Rattle.std.proofs.lemmas.List.Folds.{list_any_at}
use Rattle.std.proofs.lemmas.List.Sums.{fold-append, fold_push}
use Rattle.nav_ground.specs.declared.history.Request.{Request}
use Rattle.nav_ground.specs.declared.history.Request.TheVariants.{Remove}
use Rattle.nav_ground.specs.History.{history_limit}
use Rattle.nav_ground.proofs.AliveLaws.{alive_after-rising}
use Rattle.nav_ground.proofs.Selections.{filter_all}
use Rattle.build_queue.specs.BookState.{BookState}
use Rattle.build_queue.specs.Steps.{after_request, next_reply}
use Rattle.obstacle_registry.specs.Changes.{taken_down}
use Rattle.obstacle_registry.specs.Registry.{alive_now}
use Rattle.obstacle_registry.specs.Restoring.{all_removed}
use Rattle.obstacle_registry.specs.Saving.{after_requests}
use Rattle.obstacle_registry.proofs.Entries.{alive_taken_down}
use Rattle.obstacle_registry.proofs.Placing.{any_default}

-- requests and then others
pub requests_append : (book : BookState) (first second : List Request) → after_requests book (first ++ second) ≡ after_requests (after_requests book first) second
requests_append book first second = fold-append (λ (before : BookState) (request : Request). after_request before 0 request) book first second

pub requests_push : (book : BookState) (requests : List Request) (request : Request)
    → after_requests book (requests ++ request ∷ []) ≡ after_request (after_requests book requests) 0 request
requests_push book requests request = fold_push (λ (before : BookState) (asked : Request). after_request before 0 asked) book requests request

-- the ground stays, and each makes an entry
pub requests_ground : (book : BookState) (requests : List Request) → (after_requests book requests).ground ≡ book.ground
requests_ground book [] = refl
requests_ground book (request ∷ requests) = requests_ground (after_request book 0 request) requests

pub requests_long : (book : BookState) (requests : List Request) → length (after_requests book requests).history ≡ length book.history + length requests
requests_long book [] = omega arith
requests_long book (request ∷ requests) =
    let rest = requests_long (after_request book 0 request) requests in
    let one = length_push book.history (record { lane = 0; request = request; reply = next_reply book request }) in
    omega (arith, rest, one)

-- a list that rises, without its first number
pub filter_head : (x : ℕ) (xs : List ℕ) → All (λ n. x < n) xs → filter (λ n. not (n == x)) (x ∷ xs) ≡ xs
filter_head x xs above =
    ap (λ b. cond (not b) (x ∷ filter (λ n. not (n == x)) xs) (filter (λ n. not (n == x)) xs)) (eq-eqb x x refl)
    ∙ filter_all (λ n. not (n == x)) xs (λ k d within. ap not (ne_eqb (get_or xs k d) x (λ same. omega (arith, same, above k d within))))

pub filter_drop : (xs : List ℕ) (i : ℕ) → AllPairs (λ a b. a < b) xs → i < length xs
    → filter (λ n. not (n == get_or xs i 0)) (drop i xs) ≡ drop (i + 1) xs
filter_drop [] i rising there = absurd (omega (arith, there))
filter_drop (x ∷ xs) zero rising there = filter_head x xs (λ k d within. rising 0 (suc k) d (omega arith) (omega (arith, within)))
filter_drop (x ∷ xs) (suc i) rising there =
    let more : suc (i + 1) ≡ suc i + 1 = omega arith in
    filter_drop xs i (λ a b d before within. rising (suc a) (suc b) d (omega (arith, before)) (omega (arith, within))) (omega (arith, there))
    ∙ ap (λ n. drop n (x ∷ xs)) more

-- some of the obstacles that are alive were taken down, from the front on
pub record AreTakenDown (count : ℕ) (old new : BookState) : Type 0 where
  pub book : new ≡ after_requests old (map Remove (take count (alive_now old)))
  pub left : alive_now new ≡ drop count (alive_now old)

pub first_left : (count : ℕ) (old new : BookState) (numbers : List ℕ) (number e : ℕ) → AreTakenDown count old new → count < length (alive_now old)
    → numbers ≡ alive_now new → number ≡ get_or numbers 0 e → number ≡ get_or (alive_now old) count 0
first_left count old new numbers number e down there are is =
    is ∙ ap (λ (ns : List ℕ). get_or ns 0 e) (are ∙ down.left) ∙ get_or-drop count (alive_now old) 0 e
    ∙ ap (λ n. get_or (alive_now old) n e) (omega arith) ∙ any_default (alive_now old) count e 0 there

pub left_there : (count : ℕ) (old new : BookState) (number : ℕ) → AreTakenDown count old new → count < length (alive_now old)
    → number ≡ get_or (alive_now old) count 0 → list_any (λ alive. alive == number) (alive_now new) ≡ true
left_there count old new number down there is =
    let long : 0 < length (alive_now new) = omega (arith, there, ap (λ (ns : List ℕ). length ns) down.left, length-drop count (alive_now old)) in
    let first : get_or (alive_now new) 0 0 ≡ number =
    ap (λ (ns : List ℕ). get_or ns 0 0) down.left ∙ get_or-drop count (alive_now old) 0 0 ∙ ap (λ n. get_or (alive_now old) n 0) (omega arith) ∙ sym is in
    list_any_at (λ alive. alive == number) (alive_now new) 0 0 long (eq-eqb (get_or (alive_now new) 0 0) number first)

pub one_taken_down : (count : ℕ) (old book new : BookState) (number : ℕ) → AreTakenDown count old book → count < length (alive_now old)
    → number ≡ get_or (alive_now old) count 0 → new ≡ taken_down number book → AreTakenDown (count + 1) old new
one_taken_down count old book new number down there is made = record {
  book =
      made ∙ ap (taken_down number) down.book
      ∙ ap (λ n. taken_down n (after_requests old (map Remove (take count (alive_now old))))) is
      ∙ sym (requests_push old (map Remove (take count (alive_now old))) (Remove (get_or (alive_now old) count 0)))
      ∙ ap (after_requests old) (sym (map_more Remove (alive_now old) count 0 there));
  left =
      ap alive_now made ∙ alive_taken_down book number (left_there count old book number down there is)
      ∙ ap (filter (λ alive. not (alive == number))) down.left
      ∙ ap (λ n. filter (λ alive. not (alive == n)) (drop count (alive_now old))) is
      ∙ filter_drop (alive_now old) count (alive_after-rising old.history (length old.history)) there;
}

pub none_taken_down : (old : BookState) → AreTakenDown 0 old old
none_taken_down old = record { book = refl; left = refl }

-- there is room for another entry
pub room_left : (count : ℕ) (old book : BookState) → AreTakenDown count old book → count < length (alive_now old)
    → length old.history + length (alive_now old) ≤ history_limit → length book.history < history_limit
room_left count old book down there room =
    let long = requests_long old (map Remove (take count (alive_now old))) in
    let few = length-take count (alive_now old) in
    omega (arith, there, room, long, few, length-map (take count (alive_now old)) Remove, ap (λ (b : BookState). length b.history) down.book)

-- all of them
pub all_taken_down : (count : ℕ) (old new : BookState) → length (alive_now old) ≤ count → AreTakenDown count old new
    → (new ≡ all_removed old) × (alive_now new ≡ [])
all_taken_down count old new most down = (
  down.book ∙ ap (λ (ns : List ℕ). after_requests old (map Remove ns)) (take_all count (alive_now old) most),
  down.left ∙ drop_all count (alive_now old) most,
)
